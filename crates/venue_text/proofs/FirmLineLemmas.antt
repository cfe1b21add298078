-- What `live` prints of one firm is what is printed of the firm at the end of the same day.
use Rattle.std.proofs.Common.{◌≡◌, ◌<◌, ℕ, zero, suc, ◌==◌, Bool, true, false, nat_lt, List, []}
use Rattle.std.proofs.Common.{◌∷◌, ◌++◌, length, drop, fold, map, Option, Some, None, Result, Ok}
use Rattle.std.proofs.Common.{Err, refl, sym, ap, ◌∙◌, arith, inl, inr}
use Rattle.std.specs.Prelude.{slice_get}
use Rattle.std.specs.List.{flat_map}
use Rattle.std.specs.Option.{option_map, option_to_list}
use Rattle.std.proofs.Math.Seq.{drop-append_seam}
use Rattle.std.proofs.lemmas.Bool.{cases_Bool}
use Rattle.std.proofs.lemmas.Bool.Decides.{nat_tests}
use Rattle.std.proofs.lemmas.List.{append-nil, append_assoc}
use Rattle.std.proofs.lemmas.List.Concat.{flat_map-append}
use Rattle.std.proofs.lemmas.List.Elements.{filter-append}
use Rattle.venue_rows.specs.Rows.{Configuration, dealer_numbered, firm_names, values_of}
use Rattle.venue_rows.specs.declared.dealer_rows.DealerRow.{DealerRow}
use Rattle.step_replay.specs.FirmDays.{FirmDay, firm_days}
use Rattle.step_replay.specs.LiveDays.{Sent, live_messages, live_trail, messages_for}
use Rattle.step_replay.specs.StepFaults.{firms_of}
use Rattle.step_replay.specs.declared.steps.Step.{Step}
use Rattle.venue_text.specs.AskedDays.{firm_by}
use Rattle.input_lines.specs.DueText.{Lines}
use Rattle.venue_text.specs.FirmLines.{firm_lines, firm_part, line_messages, those_of}
use Rattle.venue_text.specs.KeptDays.{kept_text, messages, text_if}
use Rattle.venue_text.specs.LiveInput.{as_part, numbered_in, taken_in, taken_of}
use Rattle.input_lines.specs.Lines.{is_skipped}
use Rattle.venue_text.specs.LiveLines.{Taken, live_steps_of, nothing_taken, sent_line, sent_text}
use Rattle.venue_text.specs.LiveLines.{with_any_line, with_read}
use Rattle.venue_text.specs.MessageLines.{line_of, messages_text}
use Rattle.venue_text.specs.ReplayText.{days_text, named_days}
use Rattle.input_lines.specs.ResultSteps.{◌>>=◌}
use Rattle.input_lines.specs.StepLines.{Read, asked, firm_named}
use Rattle.input_lines.specs.VenueParts.{part_behind}
use Rattle.input_lines.specs.declared.faults.ProgramFault.{ProgramFault}
use Rattle.venue_text.specs.declared.kept_days.Asked.TheVariants as by_number
use Rattle.venue_text.proofs.DayLemmas.{length_names, messages_at}
use Rattle.input_lines.specs.FirmLemmas.{firm_is_known, same_firm}
use Rattle.venue_text.proofs.LiveGrowth.{messages_grow, no_messages}
use Rattle.venue_text.proofs.LiveLemmas.{any_skipped, any_spoken}
use Rattle.venue_text.proofs.UnmarkedLemmas.{any_lines}

-- The messages that a line brings stand behind those before.

read_grows : (taken : Taken) (read : Read)
    → (more : List Step) × ((with_read taken read).steps ≡ taken.steps ++ more)
read_grows taken (Ok read) = (read.0, refl)
read_grows taken (Err fault) = ([], sym (append-nil taken.steps))

module _ (config : Configuration) (taken : Taken) (line : ℕ × List ℕ) where
  line_grows : (more : List Step)
      × ((with_any_line (values_of config) taken line).steps ≡ taken.steps ++ more)
  line_grows =
      elim (cases_Bool (is_skipped line.1)) [
        | inl skipped ↦ (
          [],
          ap (λ (t : Taken). t.steps) (any_skipped config taken line.0 line.1 skipped)
              ∙ sym (append-nil taken.steps),
        )
        | inr spoken ↦
            (let read = live_steps_of (values_of config) taken.heard line.0 line.1 in
            let grown = read_grows taken read in (
              grown.0,
              ap (λ (t : Taken). t.steps) (any_spoken config taken line.0 line.1 spoken) ∙ grown.1,
            ))
      ]

  pub line_adds : live_messages config (with_any_line (values_of config) taken line).steps
      ≡ live_messages config taken.steps ++ line_messages config taken line
  line_adds =
      let before = live_messages config taken.steps in
      let added = messages_grow config taken.steps line_grows.0 in
      let whole = ap (live_messages config) line_grows.1 ∙ added.1 in
      whole ∙ ap (λ (l : List Sent). before ++ l)
      (sym (drop-append_seam before added.0)
      ∙ ap (λ (l : List Sent). drop (length before) l) (sym whole))

-- The lines of one firm.

-- of messages, printed
abbrev part_text : Bool → Configuration → ℕ → List Sent → List ℕ
part_text frames config firm sent = sent_text frames config (those_of firm sent)

part_append : (frames : Bool) (config : Configuration) (firm : ℕ) (front behind : List Sent)
    → part_text frames config firm (front ++ behind)
    ≡ part_text frames config firm front ++ part_text frames config firm behind
part_append frames config firm front behind =
    ap (sent_text frames config) (filter-append (λ (sent : Sent). sent.0 == firm) front behind)
    ∙ flat_map-append (sent_line frames config) (those_of firm front) (those_of firm behind)

-- line behind line they are those of all messages
lines_part : (frames : Bool) (config : Configuration) (firm : ℕ) (taken : Taken) (lines : Lines)
    → part_text frames config firm (live_messages config taken.steps)
    ++ firm_lines frames config firm taken lines
    ≡ part_text frames config firm
    (live_messages config (fold (with_any_line (values_of config)) taken lines).steps)
lines_part frames config firm taken [] =
    append-nil (part_text frames config firm (live_messages config taken.steps))
lines_part frames config firm taken (line ∷ later) =
    let then = with_any_line (values_of config) taken line in
    let part = part_text frames config firm in
    let before = live_messages config taken.steps in
    let new = line_messages config taken line in
    let rest = firm_lines frames config firm then later in
    sym (append_assoc (part before) (part new) rest)
    ∙ ap (λ (l : List ℕ). l ++ rest) (sym (part_append frames config firm before new)
    ∙ ap part (sym (line_adds config taken line)))
    ∙ lines_part frames config firm then later

pub input_part : (frames : Bool) (config : Configuration) (firm : ℕ) (lines : List (List ℕ))
    → firm_part frames config firm lines
    ≡ part_text frames config firm (live_messages config (taken_in config lines).steps)
unfolding taken_of
input_part frames config firm lines =
    let part = part_behind (as_part lines) in
    let first = nothing_taken (values_of config) in
    let print = part_text frames config firm in
    ap (λ (l : List ℕ). l ++ firm_part frames config firm lines)
    (ap print (sym (no_messages config)))
    ∙ lines_part frames config firm first (numbered_in part)
    ∙ ap (λ (t : Taken). print (live_messages config t.steps))
    (any_lines (values_of config) first part.first part.lines)

-- each message of the firm is a line of its name
same_number : (n firm : ℕ) → (n == firm) ≡ true → n ≡ firm
same_number n firm test = grind (arith, nat_tests)

pub own_line : (frames : Bool) (config : Configuration) (firm : ℕ) (name : List ℕ)
    → slice_get (firm_names config) firm ≡ Some name → (sent : Sent) → sent.0 ≡ firm
    → sent_line frames config sent ≡ line_of frames name sent.1
own_line frames config firm name named sent is =
    ap (λ (found : Option (List ℕ)).
    flat_map (λ (name : List ℕ). line_of frames name sent.1) (option_to_list found))
    (ap (slice_get (firm_names config)) is ∙ named)
    ∙ append-nil (line_of frames name sent.1)

part_named : (frames : Bool) (config : Configuration) (firm : ℕ) (name : List ℕ)
    → slice_get (firm_names config) firm ≡ Some name → (sent : List Sent)
    → part_text frames config firm sent ≡ messages_text frames name (messages_for firm sent)
part_named frames config firm name named [] = refl
part_named frames config firm name named (sent ∷ later) =
    go (sent.0 == firm) refl (part_named frames config firm name named later)
  where
    go : (b : Bool) → (sent.0 == firm) ≡ b
        → part_text frames config firm later ≡ messages_text frames name (messages_for firm later)
        → part_text frames config firm (sent ∷ later)
        ≡ messages_text frames name (messages_for firm (sent ∷ later))
    go true test rest =
        let line = own_line frames config firm name named sent (same_number sent.0 firm test) in
        rw test (ap (λ (l : List ℕ). l ++ part_text frames config firm later) line
        ∙ ap (λ (l : List ℕ). line_of frames name sent.1 ++ l) rest)
    go false test rest = rw test rest

-- The firm that a name names.

pub asked_firm_is : (found : Option ℕ) (firm : ℕ) → asked found ≡ Ok firm → found ≡ Some firm
asked_firm_is None firm is = cc
asked_firm_is (Some found) firm is = cc

item_at : {A : Type 0} (xs : List A) (n : ℕ) → n < length xs → (x : A) × (slice_get xs n ≡ Some x)
item_at [] n within = absurd (omega arith)
item_at (x ∷ xs) zero within = (x, refl)
item_at (x ∷ xs) (suc n) within = item_at xs n (omega arith)

module _ (config : Configuration) (name : List ℕ) (firm : ℕ)
    (is : firm_by name (values_of config) ≡ Ok firm) where
  pub is_known : nat_lt firm (firms_of config) ≡ true
  is_known =
      let found = asked_firm_is (firm_named (values_of config) name) firm is in
      firm_is_known config name firm (sym found ∙ same_firm config name)

  own_name : (own : List ℕ) × (slice_get (firm_names config) firm ≡ Some own)
  own_name =
      let known = is_known in
      let many = length_names config in
      let below : firm < firms_of config = grind (arith, nat_tests) in
      let within : firm < length (firm_names config) = omega (arith, many) in
      item_at (firm_names config) firm within

  text_asked : (frames : Bool) (steps : List Step)
      → kept_text (messages (Some name) frames) config steps
      ≡ days_text frames (Some firm) (named_days config (firm_days config (live_trail config steps).facts))
  text_asked frames steps =
      ap (λ (r : Result ℕ ProgramFault). text_if config steps
      ((r >>= (λ (firm : ℕ). Ok (Some firm)))
      >>= (λ (only : Option ℕ). Ok (by_number.Messages only frames)))) is

  -- what is printed of it at the end of a day, where its messages are these
  pub text_of_firm : (frames : Bool) (steps : List Step)
      → option_map (λ (day : FirmDay). day.sent)
      (slice_get (firm_days config (live_trail config steps).facts) firm)
      ≡ Some (messages_for firm (live_messages config steps))
      → kept_text (messages (Some name) frames) config steps
      ≡ part_text frames config firm (live_messages config steps)
  text_of_firm frames steps sent =
      let own = own_name in
      let days = firm_days config (live_trail config steps).facts in
      text_asked frames steps
      ∙ messages_at frames (firm_names config) days firm own.0
      (messages_for firm (live_messages config steps)) (sym own.1) (sym sent)
      ∙ sym (part_named frames config firm own.0 own.1 (live_messages config steps))

-- Of a dealer.

pub name_at : (rows : List DealerRow) (others : List (List ℕ)) (n : ℕ) (row : DealerRow)
    → slice_get rows n ≡ Some row
    → slice_get (map (λ (row : DealerRow). row.name) rows ++ others) n ≡ Some row.name
name_at [] others n row is = cc
name_at (own ∷ rows) others zero row is =
    let same : own ≡ row = cc in ap (λ (row : DealerRow). Some row.name) same
name_at (own ∷ rows) others (suc n) row is = name_at rows others n row is

pub part_of_dealer : (frames : Bool) (config : Configuration) (dealer : ℕ) (row : DealerRow)
    → dealer_numbered config dealer ≡ Some row → (sent : List Sent)
    → messages_text frames row.name (messages_for dealer sent) ≡ part_text frames config dealer sent
part_of_dealer frames config dealer row is sent =
    sym (part_named frames config dealer row.name (name_at config.dealers _ dealer row is) sent)
