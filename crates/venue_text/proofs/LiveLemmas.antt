-- A day that goes on: what its lines bring and what is printed for them.
use Rattle.std.proofs.Common.{◌≡◌, ◌<◌, ℕ, ◌+◌, Bool, List, [], ◌∷◌, ◌++◌, take, drop, length}
use Rattle.std.proofs.Common.{get_or, sym, ap, ap₂, subst, refl, ◌∙◌, Result, Ok, Err, true, false}
use Rattle.std.proofs.Common.{Option, Some, None, inl, inr, cond}
use Rattle.std.proofs.Math.Seq.{drop-append_seam}
use Rattle.std.proofs.lemmas.Bool.{cases_Bool}
use Rattle.std.specs.Option.{option_to_list}
use Rattle.std.specs.Prelude.{IfOk}
use Rattle.std.proofs.lemmas.List.{append-nil, append_assoc, take_more}
use Rattle.std.proofs.lemmas.List.Concat.{flat_map-append}
use Rattle.market_terms.specs.declared.rooms.RoomRef.{RoomRef}
use Rattle.venue_rows.specs.Rows.{ConfigValues, Configuration, values_of}
use Rattle.step_replay.specs.LiveDays.{Sent, live_messages}
use Rattle.step_replay.specs.LiveStanding.{Answers, AnswersSweeps, IsAt}
use Rattle.step_replay.specs.declared.live.LiveVenue.{LiveVenue}
use Rattle.step_replay.specs.declared.steps.Step.{Step}
use Rattle.input_lines.specs.Lines.{is_skipped}
use Rattle.venue_text.specs.LiveAnswers.{AreTold, Gives, Goes, Sends}
use Rattle.venue_text.specs.LiveLines.{Taken, done_mark, fault_in, gained_messages, line_fault}
use Rattle.venue_text.specs.LiveLines.{line_text, live_steps_of, live_text, read_text, sent_line}
use Rattle.venue_text.specs.LiveLines.{sent_text, told_lines, told_text, with_any_line, with_read}
use Rattle.input_lines.specs.StepLines.{Heard, Read, sweeps_at, venue_rooms}
use Rattle.input_lines.specs.declared.faults.ProgramFault.{ProgramFault}
use Rattle.venue_text.specs.declared.live_form.LiveForm.{LiveForm}
use Rattle.venue_text.specs.declared.live_lines.LiveDay.{LiveDay}
use Rattle.venue_text.proofs.LiveGrowth.{messages_grow}
use Rattle.input_lines.specs.RoomLemmas.{rooms_are}

pub told_none : (config : Configuration) (taken : List Step) (venue : LiveVenue)
    → IsAt config taken venue → AreTold config taken [] venue []
told_none config taken venue at = record {
  stands = subst (λ (l : List Step). IsAt config l venue) (sym (append-nil taken)) at;
  told_is = ap (live_messages config) (append-nil taken)
      ∙ sym (append-nil (live_messages config taken));
}

pub told_more : (config : Configuration) (taken more : List Step) (next : Step)
    (before after : LiveVenue) (told new : List Sent) → AreTold config taken more before told
    → Answers config (taken ++ more) next after new
    → AreTold config taken (more ++ next ∷ []) after (told ++ new)
told_more config taken more next before after told new had answers =
    let same = append_assoc taken more (next ∷ []) in
    record {
      stands = subst (λ (l : List Step). IsAt config l after) same answers.stands;
      told_is = ap (live_messages config) (sym same) ∙ answers.told_is
          ∙ ap (λ (l : List Sent). l ++ new) had.told_is
          ∙ append_assoc (live_messages config taken) told new;
    }

-- a sweep of every room
pub told_sweeps : (config : Configuration) (taken : List Step) (moment : ℕ) (after : LiveVenue)
    (told : List Sent) → AnswersSweeps config taken moment after told
    → AreTold config taken (sweeps_at moment (venue_rooms (values_of config))) after told
told_sweeps config taken moment after told answers =
    let same = ap (λ (rooms : List RoomRef). sweeps_at moment rooms) (sym (rooms_are config)) in
    subst (λ (l : List Step). AreTold config taken l after told) same
    (record { stands = answers.stands; told_is = answers.told_is })

pub one_more : (steps : List Step) (at : ℕ) (s : Step) → at < length steps → s ≡ get_or steps at s
    → take (at + 1) steps ≡ take at steps ++ s ∷ []
one_more steps at s within is =
    take_more steps at s within ∙ ap (λ (found : Step). take at steps ++ found ∷ []) (sym is)

-- Messages of more steps.

pub gained_is : (config : Configuration) (taken more : List Step) → live_messages config (taken ++ more)
    ≡ live_messages config taken ++ gained_messages config taken more
unfolding gained_messages
gained_is config taken more =
    let grown = messages_grow config taken more in
    let before = live_messages config taken in
    grown.1 ∙ ap (λ (l : List Sent). before ++ l)
    (sym (drop-append_seam before grown.0)
    ∙ ap (λ (l : List Sent). drop (length before) l) (sym grown.1))

pub text_grows : (with_frames : Bool) (config : Configuration) (taken more : List Step)
    → live_text with_frames config (taken ++ more)
    ≡ live_text with_frames config taken
    ++ sent_text with_frames config (gained_messages config taken more)
text_grows with_frames config taken more =
    ap (sent_text with_frames config) (gained_is config taken more)
    ∙ flat_map-append (sent_line with_frames config) (live_messages config taken)
    (gained_messages config taken more)

-- what stands behind a list is known by the whole
behind_is : (front behind other : List Sent) (whole : List Sent) → whole ≡ front ++ behind
    → whole ≡ front ++ other → behind ≡ other
behind_is front behind other whole one two =
    sym (drop-append_seam front behind)
    ∙ ap (λ (l : List Sent). drop (length front) l) (sym one ∙ two)
    ∙ drop-append_seam front other

-- A line.

module _ (config : Configuration) (taken : Taken) (k : ℕ) (line : List ℕ) where
  pub any_skipped : is_skipped line ≡ true
      → with_any_line (values_of config) taken (k, line) ≡ taken
  any_skipped skipped = rw skipped refl

  pub any_spoken : is_skipped line ≡ false → with_any_line (values_of config) taken (k, line)
      ≡ with_read taken (live_steps_of (values_of config) taken.heard k line)
  any_spoken spoken = rw spoken refl

  module _ (form : LiveForm) where
    pub text_skipped : is_skipped line ≡ true
        → line_text form config taken k line ≡ done_mark form config taken.steps k
    unfolding line_text
    text_skipped skipped = rw skipped refl

    pub text_spoken : is_skipped line ≡ false → line_text form config taken k line
        ≡ read_text form config taken k (live_steps_of (values_of config) taken.heard k line)
    unfolding line_text
    text_spoken spoken = rw spoken refl

pub fault_skipped : (config : ConfigValues) (taken : Taken) (k : ℕ) (line : List ℕ)
    → is_skipped line ≡ true → line_fault config taken (k, line) ≡ None
fault_skipped config taken k line skipped = rw skipped refl

pub fault_spoken : (config : ConfigValues) (taken : Taken) (k : ℕ) (line : List ℕ)
    → is_skipped line ≡ false
    → line_fault config taken (k, line) ≡ fault_in (live_steps_of config taken.heard k line)
fault_spoken config taken k line spoken = rw spoken refl

pub tells_nothing : (form : LiveForm) (config : Configuration) (taken : Taken) (k : ℕ)
    (line : List ℕ) (day : LiveDay) (messages : List Sent) (fault : Option ProgramFault)
    → Goes form config taken day → is_skipped line ≡ true → messages ≡ [] → fault ≡ None
    → Sends form config taken k line day messages fault
tells_nothing form config taken k line day messages fault goes skipped empty none =
    let same = any_skipped config taken k line skipped in
    record {
      goes = subst (λ (t : Taken). Goes form config t day) (sym same) goes;
      told_is = ap (λ (t : Taken). live_messages config t.steps) same
          ∙ sym (append-nil (live_messages config taken.steps))
          ∙ ap (λ (l : List Sent). live_messages config taken.steps ++ l) (sym empty);
      fault_is = none ∙ sym (fault_skipped (values_of config) taken k line skipped);
    }

-- what it spells, by what the day has
read_as : (form : LiveForm) (config : Configuration) (taken : Taken) (k : ℕ) (line : List ℕ)
    (day : LiveDay) (read : Read) → Goes form config taken day
    → live_steps_of (values_of day.config) day.heard k line ≡ read
    → live_steps_of (values_of config) taken.heard k line ≡ read
read_as form config taken k line day read goes is =
    ap₂ (λ (c : Configuration) (h : Heard). live_steps_of (values_of c) h k line)
    (sym goes.config_is) (sym goes.heard_is) ∙ is

pub tells_done : (form : LiveForm) (config : Configuration) (taken : Taken) (k : ℕ)
    (line : List ℕ) (before after : LiveDay) (messages : List Sent) (fault : Option ProgramFault)
    (more : List Step) → Goes form config taken before → is_skipped line ≡ false
    → live_steps_of (values_of before.config) before.heard k line ≡ Ok (more, after.heard)
    → ((steps : List Step) → IsAt before.config steps before.venue
    → AreTold before.config steps more after.venue messages)
    → fault ≡ None → after.form ≡ before.form → after.config ≡ before.config
    → Sends form config taken k line after messages fault
tells_done form config taken k line before after messages fault more goes spoken spelled done none
    form_same config_same =
    let read = read_as form config taken k line before _ goes spelled in
    let is_at = subst (λ (v : Configuration). IsAt v taken.steps before.venue) (sym goes.config_is)
    goes.stands in
    let told = subst (λ (v : Configuration). AreTold v taken.steps more after.venue messages)
    goes.config_is (done taken.steps is_at) in
    let same = any_spoken config taken k line spoken ∙ ap (with_read taken) read in
    record {
      goes = subst (λ (t : Taken). Goes form config t after) (sym same) (record {
        form_is = form_same ∙ goes.form_is;
        config_is = config_same ∙ goes.config_is;
        stands = told.stands;
        heard_is = refl;
      });
      told_is = ap (λ (t : Taken). live_messages config t.steps) same ∙ told.told_is;
      fault_is = none ∙ ap fault_in (sym read)
          ∙ sym (fault_spoken (values_of config) taken k line spoken);
    }

pub tells_refused : (form : LiveForm) (config : Configuration) (taken : Taken) (k : ℕ)
    (line : List ℕ) (before after : LiveDay) (what : ProgramFault) (messages : List Sent)
    (fault : Option ProgramFault) → Goes form config taken before → is_skipped line ≡ false
    → live_steps_of (values_of before.config) before.heard k line ≡ Err what
    → fault ≡ Some what → messages ≡ []
    → after.form ≡ before.form → after.config ≡ before.config → after.venue ≡ before.venue
    → after.heard ≡ before.heard → Sends form config taken k line after messages fault
tells_refused form config taken k line before after what messages fault goes spoken spelled told
    empty form_same config_same venue_same heard_same =
    let read = read_as form config taken k line before _ goes spelled in
    let same = any_spoken config taken k line spoken ∙ ap (with_read taken) read in
    record {
      goes = subst (λ (t : Taken). Goes form config t after) (sym same) (record {
        form_is = form_same ∙ goes.form_is;
        config_is = config_same ∙ goes.config_is;
        stands = subst (λ (v : LiveVenue). IsAt config taken.steps v) (sym venue_same) goes.stands;
        heard_is = heard_same ∙ goes.heard_is;
      });
      told_is = ap (λ (t : Taken). live_messages config t.steps) same
          ∙ sym (append-nil (live_messages config taken.steps))
          ∙ ap (λ (l : List Sent). live_messages config taken.steps ++ l) (sym empty);
      fault_is = told ∙ ap fault_in (sym read)
          ∙ sym (fault_spoken (values_of config) taken k line spoken);
    }

-- What was told of a line, as it is printed.

-- where nothing was sent, neither form has a line
abbrev nothing : List ℕ
nothing = []

nothing_told : (notes : Bool) → cond notes nothing nothing ≡ nothing
nothing_told true = refl
nothing_told false = refl

module _ (form : LiveForm) (config : Configuration) (taken : Taken) (k : ℕ) (line : List ℕ)
    (messages : List Sent) where
  read_told : (read : Read)
      → live_messages config (with_read taken read).steps
      ≡ live_messages config taken.steps ++ messages
      → told_text form config (with_read taken read).steps k messages (fault_in read)
      ≡ read_text form config taken k read
  read_told (Ok read) told =
      ap (λ (l : List Sent). told_lines form config (taken.steps ++ read.0) l
      ++ done_mark form config (taken.steps ++ read.0) k)
      (behind_is (live_messages config taken.steps) messages
      (gained_messages config taken.steps read.0) (live_messages config (taken.steps ++ read.0)) told
      (gained_is config taken.steps read.0))
  read_told (Err fault) told = refl

  pub text_told : live_messages config (with_any_line (values_of config) taken (k, line)).steps
      ≡ live_messages config taken.steps ++ messages
      → told_text form config (with_any_line (values_of config) taken (k, line)).steps k messages
      (line_fault (values_of config) taken (k, line)) ≡ line_text form config taken k line
  text_told told =
      elim (cases_Bool (is_skipped line)) [
        | inl skipped ↦
            (let same = any_skipped config taken k line skipped in
            let front = live_messages config taken.steps in
            let empty = behind_is front messages [] front
            (ap (λ (t : Taken). live_messages config t.steps) (sym same) ∙ told)
            (sym (append-nil front)) in
            ap₂ (λ (t : Taken) (f : Option ProgramFault). told_text form config t.steps k messages f)
            same (fault_skipped (values_of config) taken k line skipped)
            ∙ ap (λ (l : List Sent). told_lines form config taken.steps l
            ++ done_mark form config taken.steps k) empty
            ∙ ap (λ (t : List ℕ). t ++ done_mark form config taken.steps k)
            (nothing_told form.notes)
            ∙ sym (text_skipped config taken k line form skipped))
        | inr spoken ↦
            (let read = live_steps_of (values_of config) taken.heard k line in
            let same = any_spoken config taken k line spoken in
            ap₂ (λ (t : Taken) (f : Option ProgramFault). told_text form config t.steps k messages f)
            same (fault_spoken (values_of config) taken k line spoken)
            ∙ read_told read (ap (λ (t : Taken). live_messages config t.steps) (sym same) ∙ told)
            ∙ sym (text_spoken config taken k line form spoken))
      ]

read_faults : (taken : Taken) (read : Read)
    → (with_read taken read).faults ≡ taken.faults ++ option_to_list (fault_in read)
read_faults taken (Ok read) = sym (append-nil taken.faults)
read_faults taken (Err fault) = refl

pub faults_told : (config : Configuration) (taken : Taken) (k : ℕ) (line : List ℕ)
    → (with_any_line (values_of config) taken (k, line)).faults
    ≡ taken.faults ++ option_to_list (line_fault (values_of config) taken (k, line))
faults_told config taken k line =
    elim (cases_Bool (is_skipped line)) [
      | inl skipped ↦
          ap (λ (t : Taken). t.faults) (any_skipped config taken k line skipped)
          ∙ sym (append-nil taken.faults)
          ∙ ap (λ (f : Option ProgramFault). taken.faults ++ option_to_list f)
          (sym (fault_skipped (values_of config) taken k line skipped))
      | inr spoken ↦
          ap (λ (t : Taken). t.faults) (any_spoken config taken k line spoken)
          ∙ read_faults taken (live_steps_of (values_of config) taken.heard k line)
          ∙ ap (λ (f : Option ProgramFault). taken.faults ++ option_to_list f)
          (sym (fault_spoken (values_of config) taken k line spoken))
    ]

pub gives : (form : LiveForm) (config : Configuration) (taken : Taken) (k : ℕ) (line : List ℕ)
    (after : LiveDay) (messages : List Sent) (told fault : Option ProgramFault) (printed : List ℕ)
    → Sends form config taken k line after messages told → fault ≡ told
    → ((steps : List Step) → IsAt after.config steps after.venue
    → printed ≡ told_text after.form after.config steps k messages told)
    → Gives form config taken k line after printed fault
gives form config taken k line after messages told fault printed tells same printed_is =
    let then = with_any_line (values_of config) taken (k, line) in
    let is_at = subst (λ (v : Configuration). IsAt v then.steps after.venue)
    (sym tells.goes.config_is) tells.goes.stands in
    record {
      goes = tells.goes;
      printed_is = printed_is then.steps is_at
          ∙ ap₂ (λ (f : LiveForm) (v : Configuration). told_text f v then.steps k messages told)
          tells.goes.form_is tells.goes.config_is
          ∙ ap (told_text form config then.steps k messages) tells.fault_is
          ∙ text_told form config taken k line messages tells.told_is;
      told = faults_told config taken k line
          ∙ ap (λ (f : Option ProgramFault). taken.faults ++ option_to_list f)
          (sym (same ∙ tells.fault_is));
    }

-- what three clauses say of a result
pub all_ok : {A E : Type 0} (r : Result A E) (P Q R S : A → Type 0) → IfOk r P → IfOk r Q → IfOk r R
    → ((x : A) → P x → Q x → R x → S x) → IfOk r S
all_ok (Ok x) P Q R S p q r f = f x p q r
all_ok (Err e) P Q R S p q r f = tt
