-- Nothing that left is a gap later, nothing that was taken is denied, and nothing that was denied is taken.
use Rattle.std.proofs.Common.{◌≡◌, ℕ, ◌≤◌, ◌<◌, Bool, true, false, nat_le, List, [], ◌∷◌, ◌++◌, inl, inr, Option, Some, None, refl, sym, ap, subst, ◌∙◌, arith, append-nil, append_assoc, if◌then◌else◌}
use Rattle.std.proofs.lemmas.Bool.{cases_Bool, false≢true}
use Rattle.std.proofs.lemmas.Option.{none-some, same_Some}
use Rattle.fix_sessions.specs.Written.{kept_fields}
use Rattle.fix_sessions.specs.declared.state.Day.{Day}
use Rattle.fix_sessions.specs.declared.state.Session.{Session}
use Rattle.fix_sessions.specs.declared.texts.Names.{Names}
use Rattle.fix_sessions.specs.declared.turns.Said.{Said}
use Rattle.fix_sessions.specs.declared.turns.Turn.{Turn}
use Rattle.fix_sessions.specs.declared.turns.Word.{Word}
use Rattle.fix_sessions.specs.declared.turns.Word.TheVariants as word
use Rattle.laws_sessions.proofs.Acts.{taken_below, taken_once}
use Rattle.laws_sessions.proofs.Answering.{answers_ever, answers_stand, later_stands}
use Rattle.laws_sessions.proofs.Choices.{choice}
use Rattle.laws_sessions.proofs.FoldKeeps.{counted_stays}
use Rattle.laws_sessions.proofs.HandedBack.{hands_say, no_gap, none_denied}
use Rattle.laws_sessions.proofs.Leaving.{leaves_ever}
use Rattle.laws_sessions.proofs.Numbered.{one_kept}
use Rattle.laws_sessions.proofs.SaidWords.{IsSaid, IsWord, event_says, is_handing}
use Rattle.laws_sessions.proofs.ShapedDays.{event_goes}
use Rattle.laws_sessions.proofs.Shapes.{Gives}
use Rattle.laws_sessions.proofs.Starting.{Stands}
use Rattle.laws_sessions.specs.Counts.{AreRising, behind, last_from}
use Rattle.laws_sessions.specs.Handed.{AreBelow, Covers, Denies, IsDeniedBelow, IsGap, IsHanded, MakesGap, denied, denied_in, is_heartbeat}
use Rattle.laws_sessions.specs.Leaves.{AllKeepAnswers, AreWithoutResets, MayAnswer, MayLeave}
use Rattle.laws_sessions.specs.Left.{IsKept, is_reset}
use Rattle.laws_sessions.specs.Memory.{Came, Closed, Does, Event, Gone, Handed, LoggedOut, Marked, Memory, Opened, Released, Reset, Resumed, Step, Suspended, Tick, Told, is_refusal, puts, standing, turn}
use Rattle.laws_sessions.specs.Starts.{Act, AreSoundActs, Begins, Ends, Enters, Moves, Part, Stops, Tells, World, all_notes, all_taken, begins, begun, first_world, found, told_first, world_after, world_after_all}
use Rattle.session_recovery.specs.Puts.{kind_of, note_as, note_locked, note_of, note_said, put_by, sealed_by, sealed_with}
use Rattle.session_recovery.specs.Recovered.{Kept, Message, Point, Sealed, Taken, kept_reject, reads_all, recovered, start}
use Rattle.session_recovery.specs.declared.notes.NoteKind.{NoteKind}
use Rattle.session_recovery.specs.declared.notes.NoteKind.TheVariants as kind
use Rattle.session_recovery.specs.declared.puts.Standing.{Standing}

-- Words of a turn that hands nothing back.

word_gap : (low high n from : ℕ) (w : Word) → IsWord low high w → Covers n from w → ⊥
word_gap low high n from (word.Logon seconds resets expects) k g = g
word_gap low high n from word.Heartbeat k g = g
word_gap low high n from (word.Answer id) k g = g
word_gap low high n from (word.TestRequest id) k g = g
word_gap low high n from (word.ResendRequest first) k g = g
word_gap low high n from (word.Reject number of_kind fault) k g = g
word_gap low high n from (word.Fill next) k g = k
word_gap low high n from (word.Logout why) k g = g
word_gap low high n from (word.Foreign version) k g = g
word_gap low high n from (word.LogoutFor text) k g = g
word_gap low high n from (word.Denied number of_kind denial) k g = g
word_gap low high n from (word.Kept body is_copy) k g = g
word_gap low high n from (word.Again body is_copy first) k g = g

said_gap : (low high n : ℕ) (o : Option Said) → IsSaid low high o → IsGap n o → ⊥
said_gap low high n None k g = g
said_gap low high n (Some said) k g = word_gap low high n said.number said.word k g

denied_word : (low high n : ℕ) (w : Word) → IsWord low high w → denied_in w ≡ Some n → (low ≤ n) × (n < high)
denied_word low high n (word.Logon seconds resets expects) k h = absurd (none-some n h)
denied_word low high n word.Heartbeat k h = absurd (none-some n h)
denied_word low high n (word.Answer id) k h = absurd (none-some n h)
denied_word low high n (word.TestRequest id) k h = absurd (none-some n h)
denied_word low high n (word.ResendRequest first) k h = absurd (none-some n h)
denied_word low high n (word.Reject number of_kind fault) k h = absurd (none-some n h)
denied_word low high n (word.Fill next) k h = absurd (none-some n h)
denied_word low high n (word.Logout why) k h = absurd (none-some n h)
denied_word low high n (word.Foreign version) k h = absurd (none-some n h)
denied_word low high n (word.LogoutFor text) k h = absurd (none-some n h)
denied_word low high n (word.Denied number of_kind denial) k h = subst (λ m. (low ≤ m) × (m < high)) (same_Some number n h) k
denied_word low high n (word.Kept body is_copy) k h = absurd (none-some n h)
denied_word low high n (word.Again body is_copy first) k h = absurd (none-some n h)

denied_said : (low high n : ℕ) (o : Option Said) → IsSaid low high o → denied o ≡ Some n → (low ≤ n) × (n < high)
denied_said low high n None k h = absurd (none-some n h)
denied_said low high n (Some said) k h = denied_word low high n said.word k h

-- No gap.

plain_gap : (names : Names) (s : Session) (e : Event) (n : ℕ) → is_handing e ≡ false → MakesGap n (turn names s e) → ⊥
plain_gap names s e n other gap =
    let t = turn names s e in
    let k = event_says names s e other in
    elim gap [
      | inl g ↦ said_gap s.day.expected t.session.day.expected n t.first k.first g
      | inr g ↦ said_gap s.day.expected t.session.day.expected n t.second k.second g
    ]

gap_here : (names : Names) (w : World) (x : Kept) (midnight : ℕ) (e : Event) → Stands w → IsKept x w.memory.kept
    → is_heartbeat x.body ≡ false → IsHanded midnight w.memory.kept w.memory.session e
    → MakesGap x.number (turn names w.memory.session e) → ⊥
gap_here names w x midnight (Came connection clock bytes is_known denial) s h other handed gap =
    plain_gap names w.memory.session (Came connection clock bytes is_known denial) x.number refl gap
gap_here names w x midnight (Gone connection) s h other handed gap = plain_gap names w.memory.session (Gone connection) x.number refl gap
gap_here names w x midnight (Handed moment next_kept stored) s h other handed gap =
    let m = w.memory in
    let t = hands_say m.session moment next_kept stored in
    elim gap [
      | inl g ↦
          no_gap midnight next_kept m.session stored (turn names m.session (Handed moment next_kept stored)).first m.kept x h
          (λ k found e. one_kept w s.recovered x k h found e) other handed t.first g
      | inr g ↦ subst (λ o. IsGap x.number o) t.second g
    ]
gap_here names w x midnight (Tick moment) s h other handed gap = plain_gap names w.memory.session (Tick moment) x.number refl gap
gap_here names w x midnight (Opened clock) s h other handed gap = plain_gap names w.memory.session (Opened clock) x.number refl gap
gap_here names w x midnight (Closed clock) s h other handed gap = plain_gap names w.memory.session (Closed clock) x.number refl gap
gap_here names w x midnight (Suspended clock) s h other handed gap = plain_gap names w.memory.session (Suspended clock) x.number refl gap
gap_here names w x midnight (Resumed clock) s h other handed gap = plain_gap names w.memory.session (Resumed clock) x.number refl gap
gap_here names w x midnight (LoggedOut moment reason) s h other handed gap =
    plain_gap names w.memory.session (LoggedOut moment reason) x.number refl gap

pub message_is_no_gap : (names : Names) (acts more : List Act) (w later : World) (x : Kept) (midnight : ℕ) (e : Event)
    → AreSoundActs names (Some first_world) acts → world_after_all names (Some first_world) acts ≡ Some w → MayLeave w x
    → is_heartbeat x.body ≡ false → AreSoundActs names (Some w) more → AreWithoutResets more
    → world_after_all names (Some w) more ≡ Some later → IsHanded midnight later.memory.kept later.memory.session e
    → MakesGap x.number (turn names later.memory.session e) → ⊥
message_is_no_gap names acts more w later x midnight e sound h l other behind still g handed gap =
    gap_here names later x midnight e (later_stands names acts more w later sound h behind g)
    (leaves_ever names acts more w later x sound h l behind still g).kept other handed gap

-- What is denied.

plain_denies : (names : Names) (s : Session) (e : Event) (n : ℕ) → is_handing e ≡ false → Denies n (turn names s e)
    → (s.day.expected ≤ n) × (n < (turn names s e).session.day.expected)
plain_denies names s e n other d =
    let t = turn names s e in
    let k = event_says names s e other in
    elim d [
      | inl h ↦ denied_said s.day.expected t.session.day.expected n t.first k.first h
      | inr h ↦ denied_said s.day.expected t.session.day.expected n t.second k.second h
    ]

denies_here : (names : Names) (s : Session) (e : Event) (n : ℕ) → Denies n (turn names s e)
    → (s.day.expected ≤ n) × (n < (turn names s e).session.day.expected)
denies_here names s (Came connection clock bytes is_known denial) n d =
    plain_denies names s (Came connection clock bytes is_known denial) n refl d
denies_here names s (Gone connection) n d = plain_denies names s (Gone connection) n refl d
denies_here names s (Handed moment next_kept stored) n d =
    let t = hands_say s moment next_kept stored in
    absurd (elim d [
      | inl h ↦ none_denied s next_kept stored (turn names s (Handed moment next_kept stored)).first n t.first h
      | inr h ↦ none-some n (ap denied (sym t.second) ∙ h)
    ])
denies_here names s (Tick moment) n d = plain_denies names s (Tick moment) n refl d
denies_here names s (Opened clock) n d = plain_denies names s (Opened clock) n refl d
denies_here names s (Closed clock) n d = plain_denies names s (Closed clock) n refl d
denies_here names s (Suspended clock) n d = plain_denies names s (Suspended clock) n refl d
denies_here names s (Resumed clock) n d = plain_denies names s (Resumed clock) n refl d
denies_here names s (LoggedOut moment reason) n d = plain_denies names s (LoggedOut moment reason) n refl d

-- It was not taken.

behind_low : (since low : ℕ) (t : Taken) → nat_le t.place since ≡ true → behind since low t ≡ low
behind_low since low t h = ap (λ b. if b then low else t.number) h

behind_high : (since low : ℕ) (t : Taken) → nat_le t.place since ≡ false → behind since low t ≡ t.number
behind_high since low t h = ap (λ b. if b then low else t.number) h

last_up : (since low : ℕ) (ts : List Taken) → AreRising since low ts → low ≤ last_from since low ts
last_up since low [] r = omega arith
last_up since low (t ∷ ts) r =
    let up = last_up since (behind since low t) ts r.1 in
    elim (cases_Bool (nat_le t.place since)) [
      | inl h ↦ (let at = behind_low since low t h in omega (arith, up, at))
      | inr h ↦ (let at = behind_high since low t h in let less = r.0 h in omega (arith, up, at, less))
    ]

all_below : (since low n : ℕ) (ts : List Taken) → AreRising since low ts → last_from since low ts < n → AreBelow since n ts
all_below since low n [] r h = tt
all_below since low n (t ∷ ts) r h = (
  λ e. (let up = last_up since (behind since low t) ts r.1 in let at = behind_high since low t e in omega (arith, up, at, h)),
  all_below since (behind since low t) n ts r.1 h,
)

pub denied_was_not_taken : (names : Names) (acts : List Act) (w : World) (e : Event) (n : ℕ) → AreSoundActs names (Some first_world) acts
    → world_after_all names (Some first_world) acts ≡ Some w → Denies n (turn names w.memory.session e)
    → AreBelow w.memory.since n (all_taken w)
denied_was_not_taken names acts w e n sound h d =
    let less = taken_below names acts w sound h in
    let up = (denies_here names w.memory.session e n d).0 in
    all_below w.memory.since 0 n (all_taken w) (taken_once names acts w sound h) (omega (arith, less, up))

-- The notes of Rejects and BusinessMessageRejects.

abbrev AreRefused : List Sealed → Type 0
AreRefused [] = Unit {0}
AreRefused (s ∷ ss) = (s.note.kind ≡ kind.Reject → IsDeniedBelow s.note.expected s) × AreRefused ss

refused_append : (a b : List Sealed) → AreRefused a → AreRefused b → AreRefused (a ++ b)
refused_append [] b h g = g
refused_append (s ∷ a) b h g = (h.0, refused_append a b h.1 g)

refused_in : (before after : List Sealed) (s : Sealed) → AreRefused (before ++ (s ∷ after)) → s.note.kind ≡ kind.Reject
    → IsDeniedBelow s.note.expected s
refused_in [] after s h is = h.0 is
refused_in (x ∷ before) after s h is = refused_in before after s h.1 is

abbrev is_reject_kind : NoteKind → Bool
is_reject_kind kind.Reject = true
is_reject_kind other = false

abbrev is_reject_in : Option NoteKind → Bool
is_reject_in None = false
is_reject_in (Some k) = is_reject_kind k

refusal_of : (l : ℕ) (w : Word) → is_reject_in (kind_of l w) ≡ true → is_refusal w ≡ true
refusal_of l (word.Logon seconds resets expects) h = absurd (false≢true h)
refusal_of l word.Heartbeat h = absurd (false≢true h)
refusal_of l (word.Answer id) h = absurd (false≢true h)
refusal_of l (word.TestRequest id) h = absurd (false≢true h)
refusal_of l (word.ResendRequest first) h = absurd (false≢true h)
refusal_of l (word.Reject number of_kind fault) h = refl
refusal_of l (word.Fill next) h = absurd (false≢true h)
refusal_of l (word.Logout why) h = absurd (false≢true h)
refusal_of l (word.Foreign version) h = absurd (false≢true h)
refusal_of l (word.LogoutFor text) h = absurd (false≢true h)
refusal_of l (word.Denied number of_kind denial) h = refl
refusal_of l (word.Kept body is_copy) h = absurd (false≢true h)
refusal_of l (word.Again body is_copy first) h = absurd (false≢true h)

as_refused : (st : Standing) (after : Day) (said : Said) (k : Option NoteKind) → (is_reject_in k ≡ true → is_refusal said.word ≡ true)
    → ((n : ℕ) → denied_in said.word ≡ Some n → n < after.expected)
    → AreRefused (sealed_with (note_as st after said.number k) (Some said))
as_refused st after said None link below = tt
as_refused st after said (Some k) link below = (
  λ is. record { says = said.word; body = refl; refusal = link (ap is_reject_kind is); below = below },
  tt,
)

said_refused : (st : Standing) (after : Day) (o : Option Said) → ((n : ℕ) → denied o ≡ Some n → n < after.expected)
    → AreRefused (sealed_with (note_said st after o) o)
said_refused st after None below = tt
said_refused st after (Some said) below =
    as_refused st after said (kind_of after.last_logon said.word) (refusal_of after.last_logon said.word) below

may_refused : (st : Standing) (after : Day) (b : Bool) (k : NoteKind) → is_reject_kind k ≡ false
    → AreRefused (sealed_with (if b then Some (note_of st after 0 k) else None) None)
may_refused st after true k h = (λ is. absurd (false≢true (sym h ∙ ap is_reject_kind is)), tt)
may_refused st after false k h = tt

does_refused : (st : Standing) (d : Day) (t : Turn) → ((n : ℕ) → Denies n t → n < t.session.day.expected)
    → AreRefused (sealed_by (put_by st d t) t)
does_refused st d t below =
    let after = t.session.day in
    refused_append (sealed_with (note_locked st d after) None) _ (may_refused st after _ kind.Locked refl)
    (refused_append (sealed_with (note_said st after t.first) t.first) _ (said_refused st after t.first (λ n h. below n (inl h)))
    (refused_append (sealed_with (note_said st after t.second) t.second) _ (said_refused st after t.second (λ n h. below n (inr h)))
    (may_refused st after _ kind.Mark refl)))

step_refused : (names : Names) (m : Memory) (step : Step) → AreRefused (puts names m step)
step_refused names m (Does moment e) =
    does_refused (standing m moment) m.session.day (turn names m.session e) (λ n d. (denies_here names m.session e n d).1)
step_refused names m (Told moment message) = tt
step_refused names m (Reset clock since act) = (λ is. absurd (false≢true (ap is_reject_kind is)), tt)
step_refused names m (Released clock act) = (λ is. absurd (false≢true (ap is_reject_kind is)), tt)
step_refused names m (Marked moment) = (λ is. absurd (false≢true (ap is_reject_kind is)), tt)

-- Act by act.

record AllRefused (w : World) : Type 0 where
  disk : AreRefused w.disk.notes
  flight : AreRefused w.flight.notes
  fill : AreRefused w.fill.notes

tells_refused : (names : Names) (w : World) (moment : ℕ) (ws : List Message) → AllRefused w → AllRefused (told_first names w moment ws)
tells_refused names w moment [] r = r
tells_refused names w moment (x ∷ xs) r = record { disk = r.disk; flight = r.flight; fill = r.fill }

found_refused : (w : World) (is_there : Bool) → AllRefused w → AreRefused (found w.disk w.flight is_there).notes
found_refused w true r = refused_append w.disk.notes w.flight.notes r.disk r.flight
found_refused w false r = r.disk

begun_refused : (part : Part) (o : Option Point) (u : World) → AreRefused part.notes → begun part o ≡ Some u → AllRefused u
begun_refused part None u r h = absurd (none-some u h)
begun_refused part (Some p) u r h = subst AllRefused (same_Some _ u h) (record { disk = r; flight = tt; fill = tt })

act_refused : (names : Names) (w u : World) (act : Act) → AllRefused w → world_after names w act ≡ Some u → AllRefused u
act_refused names w u (Moves step place given) r h =
    subst AllRefused (same_Some _ u h)
    (record {
      disk = r.disk;
      flight = r.flight;
      fill = refused_append w.fill.notes (puts names w.memory step) r.fill (step_refused names w.memory step);
    })
act_refused names w u (Enters given) r h =
    subst AllRefused (same_Some _ u h)
    (record { disk = r.disk; flight = r.flight; fill = subst AreRefused (sym (append-nil w.fill.notes)) r.fill })
act_refused names w u (Tells moment) r h = subst AllRefused (same_Some _ u h) (tells_refused names w moment w.waiting r)
act_refused names w u Begins r h =
    subst AllRefused (same_Some (begins w) u h)
    (choice AllRefused w.is_committing _ _ (λ g. r) (λ g. record { disk = r.disk; flight = r.fill; fill = tt }))
act_refused names w u Ends r h =
    subst AllRefused (same_Some _ u h)
    (record { disk = refused_append w.disk.notes w.flight.notes r.disk r.flight; flight = tt; fill = r.fill })
act_refused names w u (Stops is_there) r h =
    let part = found w.disk w.flight is_there in
    begun_refused part (recovered part.given part.taken part.notes) u (found_refused w is_there r) h

acts_refused : (names : Names) (acts : List Act) (o : Option World) (u : World) → ((w : World) → o ≡ Some w → AllRefused w)
    → world_after_all names o acts ≡ Some u → AllRefused u
acts_refused names acts None u link h = absurd (none-some u h)
acts_refused names [] (Some w) u link h = subst AllRefused (same_Some w u h) (link w refl)
acts_refused names (act ∷ acts) (Some w) u link h =
    acts_refused names acts (world_after names w act) u (λ v e. act_refused names w v act (link w refl) e) h

first_refused : (w : World) → Some first_world ≡ Some w → AllRefused w
first_refused w e = subst AllRefused (same_Some first_world w e) (record { disk = tt; flight = tt; fill = tt })

-- what may be answered is a Reject or a BusinessMessageReject, and denies what it has counted
answer_refused : (names : Names) (acts : List Act) (w : World) (s : Sealed) → world_after_all names (Some first_world) acts ≡ Some w
    → MayAnswer w s → IsDeniedBelow s.note.expected s
answer_refused names acts w s h m =
    refused_in m.before m.after s
    (subst AreRefused m.noted (acts_refused names acts (Some first_world) w first_refused h).disk) m.is_reject

-- A Reject is no gap.

refusal_is_other : (w : Word) → is_refusal w ≡ true → is_heartbeat (kept_fields w) ≡ false
refusal_is_other (word.Logon seconds resets expects) h = absurd (false≢true h)
refusal_is_other word.Heartbeat h = absurd (false≢true h)
refusal_is_other (word.Answer id) h = absurd (false≢true h)
refusal_is_other (word.TestRequest id) h = absurd (false≢true h)
refusal_is_other (word.ResendRequest first) h = absurd (false≢true h)
refusal_is_other (word.Reject number of_kind fault) h = refl
refusal_is_other (word.Fill next) h = absurd (false≢true h)
refusal_is_other (word.Logout why) h = absurd (false≢true h)
refusal_is_other (word.Foreign version) h = absurd (false≢true h)
refusal_is_other (word.LogoutFor text) h = absurd (false≢true h)
refusal_is_other (word.Denied number of_kind denial) h = refl
refusal_is_other (word.Kept body is_copy) h = absurd (false≢true h)
refusal_is_other (word.Again body is_copy first) h = absurd (false≢true h)

pub reject_is_no_gap : (names : Names) (acts more : List Act) (w later : World) (s : Sealed) (midnight : ℕ) (e : Event)
    → AreSoundActs names (Some first_world) acts → world_after_all names (Some first_world) acts ≡ Some w → MayAnswer w s
    → AreSoundActs names (Some w) more → AllKeepAnswers names (Some w) more
    → world_after_all names (Some w) more ≡ Some later → IsHanded midnight later.memory.kept later.memory.session e
    → MakesGap s.note.number (turn names later.memory.session e) → ⊥
reject_is_no_gap names acts more w later s midnight e sound h m behind keeping g handed gap =
    let r = answer_refused names acts w s h m in
    gap_here names later (kept_reject s) midnight e (later_stands names acts more w later sound h behind g)
    (answers_stand names acts more w later s sound h m behind keeping g)
    (ap is_heartbeat r.body ∙ refusal_is_other r.says r.refusal) handed gap

-- What was denied is not taken.

taken_up : (d : Day) (t : Turn) (n : ℕ) → Gives d t → t.takes ≡ Some n → d.expected ≤ n
taken_up d t n (inl g) h = absurd (none-some n (sym g.nothing ∙ h))
taken_up d t n (inr g) h =
    let from = g.from in
    let same = same_Some g.number n (sym g.given ∙ h) in
    omega (arith, from, same)

takes_up : (names : Names) (s : Session) (e : Event) (n : ℕ) → (turn names s e).takes ≡ Some n → s.day.expected ≤ n
takes_up names s e n h =
    elim (event_goes names s e).what [
      | inl g ↦ taken_up s.day (turn names s e) n g.taken h
      | inr a ↦ absurd (none-some n (sym a.nothing ∙ h))
    ]

counted_here : (w : World) (s : Sealed) → Stands w → MayAnswer w s → s.note.expected ≤ w.memory.session.day.expected
counted_here w s stands m =
    let r = stands.recovered in
    let pending = w.flight.notes ++ w.fill.notes in
    let all : all_notes w ≡ m.before ++ (s ∷ (m.after ++ pending)) =
    ap (λ l. l ++ pending) m.noted ∙ append_assoc m.before (s ∷ m.after) pending in
    let low = counted_stays r.told m.before (m.after ++ pending) s r.point
    (ap (λ l. reads_all (Some (start r.told)) l) (sym all) ∙ r.reads) (ap is_reset m.is_reject) m.keeping in
    let up = r.agrees.expected in
    omega (arith, low, up)

below_on : (low high : ℕ) (s : Sealed) → low ≤ high → IsDeniedBelow low s → IsDeniedBelow high s
below_on low high s up d = record {
  says = d.says;
  body = d.body;
  refusal = d.refusal;
  below = λ n h. (let less = d.below n h in omega (arith, less, up));
}

pub denied_is_not_taken : (names : Names) (acts more : List Act) (w later : World) (s : Sealed) (e : Event) (n : ℕ)
    → AreSoundActs names (Some first_world) acts → world_after_all names (Some first_world) acts ≡ Some w → MayAnswer w s
    → AreSoundActs names (Some w) more → AllKeepAnswers names (Some w) more
    → world_after_all names (Some w) more ≡ Some later → (turn names later.memory.session e).takes ≡ Some n → IsDeniedBelow n s
denied_is_not_taken names acts more w later s e n sound h m behind keeping g takes =
    let counted = counted_here later s (later_stands names acts more w later sound h behind g)
    (answers_ever names acts more w later s sound h m behind keeping g) in
    let up = takes_up names later.memory.session e n takes in
    below_on s.note.expected n s (omega (arith, counted, up)) (answer_refused names acts w s h m)
