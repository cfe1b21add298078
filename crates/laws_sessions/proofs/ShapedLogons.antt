-- What the notes of a turn say: of the first message of a connection.
use Rattle.std.proofs.Common.{◌≡◌, ℕ, ◌≤◌, Bool, true, false, ◌==◌, ◌&&◌, not, nat_le, nat_lt, List, ◌+◌, ◌||◌, ◌⊎◌, inl, inr, Option, Some, None, refl, sym, ap, subst, ◌∙◌, arith, if◌then◌else◌}
use Rattle.std.proofs.lemmas.Bool.Decides.{nat_tests}
use Rattle.std.proofs.lemmas.Bool.{false≢true}
use Rattle.fix_sessions.specs.Logons.{locked, shows_loss, refuses, refuses_early, refused, refused_early, refused_for, logout_of, refusal_day, is_safe, too_low, accepts, accepted_day, answer_number, expected_by, has_gap, is_ahead, may_reset, judged_ahead, judged_number, judged_reset, judged_terms, judged_denial, judged, judged_by, waits_for, first_by, came_first, value_or_zero, is_heartbeat, is_in_time, without}
use Rattle.fix_sessions.specs.declared.state.Clock.{Clock}
use Rattle.fix_sessions.specs.declared.state.Day.{Day}
use Rattle.fix_sessions.specs.declared.state.Phase.{Phase}
use Rattle.fix_sessions.specs.declared.state.Phase.TheVariants as phase
use Rattle.fix_sessions.specs.declared.state.Session.{Session}
use Rattle.fix_sessions.specs.declared.state.Waiting.{Waiting}
use Rattle.fix_sessions.specs.declared.messages.Terms.{Terms}
use Rattle.fix_sessions.specs.declared.texts.Names.{Names}
use Rattle.fix_sessions.specs.declared.turns.Denial.{Denial}
use Rattle.fix_sessions.specs.declared.turns.Notice.{Notice}
use Rattle.fix_sessions.specs.declared.turns.Notice.TheVariants as notice
use Rattle.fix_sessions.specs.declared.turns.Why.{Why}
use Rattle.fix_sessions.specs.declared.turns.Why.TheVariants as why
use Rattle.fix_sessions.specs.declared.turns.Word.{Word}
use Rattle.fix_sessions.specs.declared.turns.Word.TheVariants as word
use Rattle.fix_sessions.specs.Heard.{logon_of}
use Rattle.fix_sessions.specs.Logons.{probed}
use Rattle.fix_sessions.specs.declared.turns.Turn.{Turn}
use Rattle.laws_sessions.proofs.Choices.{choice}
use Rattle.laws_sessions.proofs.Shapes.{Goes, Locks, LocksAndRefuses, Refuses, goes, kind_in, number_in, silent}
use Rattle.laws_sessions.specs.Agrees.{marks}
use Rattle.session_recovery.specs.Notes.{next_behind, one_or_next}
use Rattle.session_recovery.specs.Puts.{kind_of}
use Rattle.session_recovery.specs.declared.notes.NoteKind.TheVariants as note

-- The answer to a Logon.
abbrev pub logged_on_day : Day → ℕ → Bool → Day
logged_on_day d last resets = record d {
  next = next_behind d (d.is_one_free || resets);
  last_kept = if resets then d.last_given else d.last_kept;
  is_one_free = false;
  is_reset = false;
  last_logon = last;
}

pub record Accepted (d : Day) (t : Turn) : Type 0 where
  pub resets : Bool
  pub number : number_in t.first ≡ Some (one_or_next d (d.is_one_free || resets))
  pub kind : (l : ℕ) → kind_in l t.first ≡ Some (note.Logon l resets)
  pub second : (l : ℕ) → kind_in l t.second ≡ None
  pub day : marks t.session.day ≡ logged_on_day (marks d) t.session.day.last_logon resets
  pub drops : t.drops_rejects ≡ resets
  pub expected : resets ≡ false → d.expected ≤ t.session.day.expected
  pub counted : resets ≡ true → t.session.day.expected ≡ 2
  pub had : t.session.day.had ≡ d.had
  pub locked : t.session.day.is_locked ≡ d.is_locked
  pub nothing : t.takes ≡ None
  pub was : t.session.day.was_taken ≡ d.was_taken
  pub first : resets ≡ true → d.was_taken ≡ false

-- whether the firm is logged on
abbrev pub is_on : Phase → Bool
is_on phase.Away = false
is_on (phase.On line) = true
is_on (phase.Leaving connection since) = false

-- what a turn does; and where the firm is logged on after it, it was before, or number 1 is used
pub record Turned (s : Session) (t : Turn) : Type 0 where
  pub what : Goes (is_on s.phase) s.day t ⊎ Accepted s.day t
  pub on : is_on t.session.phase ≡ true → (is_on s.phase ≡ true) ⊎ (t.session.day.is_one_free ≡ false)

pub calmly : (s : Session) (t : Turn) → Goes (is_on s.phase) s.day t → (is_on t.session.phase ≡ true → is_on s.phase ≡ true) → Turned s t
calmly s t g on = record { what = inl g; on = λ h. inl (on h) }

-- where the firm is logged on
pub lively : (s : Session) (t : Turn) → is_on s.phase ≡ true → Goes true s.day t → Turned s t
lively s t h g = record { what = inl (subst (λ b. Goes b s.day t) (sym h) g); on = λ k. inl h }

pub stays_quiet : (s : Session) (t : Turn) → ((l : ℕ) → kind_in l t.first ≡ None) → ((l : ℕ) → kind_in l t.second ≡ None)
    → marks t.session.day ≡ marks s.day → t.drops_rejects ≡ false → t.session.day.expected ≡ s.day.expected
    → t.session.day.had ≡ s.day.had → t.takes ≡ None → t.session.day.was_taken ≡ s.day.was_taken
    → (is_on t.session.phase ≡ true → is_on s.phase ≡ true) → Turned s t
stays_quiet s t first second day drops e h none was on =
    calmly s t (silent s.day t first second day drops e h none was) on

-- a word that is noted as a Logout
abbrev IsLogout : Word → Type 0
IsLogout w = (l : ℕ) → kind_of l w ≡ Some note.Logout

refusal_counts : (d : Day) → (refusal_day d).expected ≡ d.expected
refusal_counts d = choice (λ (e : Day). e.expected ≡ d.expected) d.is_one_free _ _ (λ h. refl) (λ h. refl)

refusal_had : (d : Day) → (refusal_day d).had ≡ d.had
refusal_had d = choice (λ (e : Day). e.had ≡ d.had) d.is_one_free _ _ (λ h. refl) (λ h. refl)

refusal_was : (d : Day) → (refusal_day d).was_taken ≡ d.was_taken
refusal_was d = choice (λ (e : Day). e.was_taken ≡ d.was_taken) d.is_one_free _ _ (λ h. refl) (λ h. refl)

refusal_marks : (d : Day) → marks (refusal_day d) ≡ refusal_day (marks d)
refusal_marks d =
    choice (λ (e : Day). marks e ≡ refusal_day (marks d)) d.is_one_free _ _
    (λ h. ap (λ b. if b then record (marks d) { is_one_free = false } else record (marks d) { next = d.next + 1 }) (sym h))
    (λ h. ap (λ b. if b then record (marks d) { is_one_free = false } else record (marks d) { next = d.next + 1 }) (sym h))

refuses_goes : (s : Session) (connection : ℕ) (terms : Terms) (w : Word) (told : Notice) → IsLogout w
    → Turned s (refuses s connection terms w told)
refuses_goes s connection terms w told k =
    choice (Turned s) (is_safe s.day terms) _ _
    (λ h. calmly s _
    (goes s.day _ (Refuses (record { number = refl; noted = k; second = λ l. refl; day = refusal_marks s.day })) refl
    (refusal_counts s.day) (refusal_had s.day) refl (refusal_was s.day)) (λ h. h))
    (λ h. stays_quiet s _ (λ l. refl) (λ l. refl) refl refl refl refl refl refl (λ h. h))

refused_goes : (s : Session) (connection : ℕ) (terms : Terms) (y : Why) → Turned s (refused s connection terms y)
refused_goes s connection terms y = refuses_goes s connection terms (word.Logout y) (notice.Refused y) (λ l. refl)

locked_goes : (s : Session) (connection : ℕ) (terms : Terms) (w : Word) → IsLogout w
    → Turned s (refuses (locked s) connection terms w notice.LostStore)
locked_goes s connection terms w k =
    choice (Turned s) (is_safe (locked s).day terms) _ _
    (λ h. calmly s _
    (goes s.day _
    (LocksAndRefuses (record { number = refl; noted = k; second = λ l. refl; day = refusal_marks (locked s).day })) refl
    (refusal_counts (locked s).day) (refusal_had (locked s).day) refl (refusal_was (locked s).day)) (λ h. h))
    (λ h. calmly s _
    (goes s.day _ (Locks (record { first = λ l. refl; second = λ l. refl; day = refl })) refl refl refl refl refl) (λ h. h))

early_goes : (s : Session) (connection : ℕ) (clock : Clock) (terms : Terms) (w : Word) (told : Notice) → IsLogout w
    → Turned s (refuses_early s connection clock terms w told)
early_goes s connection clock terms w told k =
    choice (Turned s) (shows_loss s.day clock terms) _ _
    (λ h. locked_goes s connection terms w k) (λ h. refuses_goes s connection terms w told k)

refused_early_goes : (s : Session) (connection : ℕ) (clock : Clock) (terms : Terms) (y : Why) → Turned s (refused_early s connection clock terms y)
refused_early_goes s connection clock terms y = early_goes s connection clock terms (word.Logout y) (notice.Refused y) (λ l. refl)

logout_is : (y : Why) (denial : Option Denial) → IsLogout (logout_of y denial)
logout_is y None = λ l. refl
logout_is y (Some denial) = λ l. refl

refused_for_goes : (s : Session) (connection : ℕ) (clock : Clock) (terms : Terms) (y : Why) (denial : Option Denial)
    → Turned s (refused_for s connection clock terms y denial)
refused_for_goes s connection clock terms y denial =
    early_goes s connection clock terms (logout_of y denial) (notice.Refused y) (logout_is y denial)

too_low_goes : (s : Session) (connection : ℕ) (terms : Terms) → Turned s (too_low s connection terms)
too_low_goes s connection terms =
    let low = why.TooLow s.day.expected in
    choice (Turned s) (nat_lt s.day.last_logon (value_or_zero terms.sent)) _ _
    (λ h. locked_goes s connection terms (word.Logout low) (λ l. refl))
    (λ h. refused_goes s connection terms low)

-- a Logon with 141=Y has number 1, and finds that the venue was given nothing
abbrev MayBegin : Day → Terms → Type 0
MayBegin d terms = terms.resets ≡ true → (terms.number ≡ 1) × (d.was_taken ≡ false)

before_kept : (d : Day) (terms : Terms) → terms.resets ≡ false → expected_by d terms ≡ d.expected
before_kept d terms h = ap (λ b. if b then 1 else d.expected) h

accepted_up : (d : Day) (terms : Terms) → terms.resets ≡ false → d.expected ≤ (accepted_day d terms).expected
accepted_up d terms h =
    let before = before_kept d terms h in
    choice (λ (n : ℕ). d.expected ≤ n) (has_gap d terms) _ _ (λ g. omega (arith, before)) (λ g. omega (arith, before))

no_gap : (n : ℕ) → n ≡ 1 → nat_lt 1 n ≡ false
no_gap n h = grind (arith, nat_tests)

accepted_two : (d : Day) (terms : Terms) → MayBegin d terms → terms.resets ≡ true → (accepted_day d terms).expected ≡ 2
accepted_two d terms one h =
    let before = ap (λ b. if b then 1 else d.expected) h in
    ap (λ n. if nat_lt n terms.number then n else n + 1) before
    ∙ ap (λ b. if b then 1 else 2) (no_gap terms.number (one h).0)

accepts_goes : (s : Session) (connection now : ℕ) (terms : Terms) → MayBegin s.day terms → Turned s (accepts s connection now terms)
accepts_goes s connection now terms one = record {
  what = inr (record {
    resets = terms.resets;
    number = refl;
    kind = λ l. refl;
    second = λ l. refl;
    day = refl;
    drops = refl;
    expected = accepted_up s.day terms;
    counted = accepted_two s.day terms one;
    had = refl;
    locked = refl;
    nothing = refl;
    was = refl;
    first = λ h. (one h).1;
  });
  on = λ h. inr refl;
}

ahead_goes : (s : Session) (connection now : ℕ) (terms : Terms) → MayBegin s.day terms → Turned s (judged_ahead s connection now terms)
ahead_goes s connection now terms one =
    choice (Turned s) (is_ahead terms.expects (answer_number s.day terms)) _ _
    (λ h. refused_goes s connection terms why.Ahead) (λ h. accepts_goes s connection now terms one)

judged_number_goes : (s : Session) (connection now : ℕ) (terms : Terms) → MayBegin s.day terms → Turned s (judged_number s connection now terms)
judged_number_goes s connection now terms one =
    choice (Turned s) s.day.is_locked _ _ (λ h. refused_goes s connection terms why.Lost)
    (λ h. choice (Turned s) (s.day.is_reset && not terms.resets && not (terms.number == 1)) _ _
    (λ h. refused_goes s connection terms why.Begin)
    (λ h. choice (Turned s) (nat_lt terms.number (expected_by s.day terms)) _ _
    (λ h. too_low_goes s connection terms) (λ h. ahead_goes s connection now terms one)))

-- a Logon with 141=Y that is not refused for it
is_first : (resets first may : Bool) → (resets && not (first && may)) ≡ false → resets ≡ true → first ≡ true
is_first true true may h e = refl
is_first true false may h e = absurd (false≢true (sym h))
is_first false first may h e = absurd (false≢true e)

-- and finds nothing given
may_is : (resets first may : Bool) → (resets && not (first && may)) ≡ false → resets ≡ true → may ≡ true
may_is true true true h e = refl
may_is true true false h e = absurd (false≢true (sym h))
may_is true false may h e = absurd (false≢true (sym h))
may_is false first may h e = absurd (false≢true e)

not_taken : (was known : Bool) → (not was && not known) ≡ true → was ≡ false
not_taken true known h = absurd (false≢true h)
not_taken false known h = refl

is_one : (n : ℕ) → (n == 1) ≡ true → n ≡ 1
is_one n h = grind (arith, nat_tests)

reset_goes : (s : Session) (connection now : ℕ) (terms : Terms) → Turned s (judged_reset s connection now terms)
reset_goes s connection now terms =
    choice (Turned s) (terms.resets && not ((terms.number == 1) && may_reset s.day)) _ _
    (λ h. refused_goes s connection terms why.Reset)
    (λ h. judged_number_goes s connection now terms
    (λ e. (
      is_one terms.number (is_first terms.resets (terms.number == 1) (may_reset s.day) h e),
      not_taken s.day.was_taken (nat_lt 0 s.day.first_given && nat_le s.day.first_given s.day.had)
          (may_is terms.resets (terms.number == 1) (may_reset s.day) h e),
    )))

terms_goes : (s : Session) (connection : ℕ) (clock : Clock) (terms : Terms) → Turned s (judged_terms s connection clock terms)
terms_goes s connection clock terms =
    choice (Turned s) (not terms.is_plain) _ _ (λ h. refused_early_goes s connection clock terms why.Encrypted)
    (λ h. choice (Turned s) (not terms.is_fix50) _ _ (λ h. refused_early_goes s connection clock terms why.Version)
    (λ h. choice (Turned s) (not (is_heartbeat terms.seconds)) _ _ (λ h. refused_early_goes s connection clock terms why.Heartbeat)
    (λ h. choice (Turned s) (not (is_in_time clock terms.sent)) _ _ (λ h. refused_early_goes s connection clock terms why.Clock)
    (λ h. reset_goes s connection clock.moment terms))))

denial_goes : (s : Session) (connection : ℕ) (clock : Clock) (terms : Terms) (denial : Option Denial) → Turned s (judged_denial s connection clock terms denial)
denial_goes s connection clock terms None = terms_goes s connection clock terms
denial_goes s connection clock terms (Some denial) =
    early_goes s connection clock terms (word.LogoutFor denial.text) notice.Denied (λ l. refl)

judged_goes : (s : Session) (connection : ℕ) (clock : Clock) (terms : Terms) (denial : Option Denial) → Turned s (judged s connection clock terms denial)
judged_goes s connection clock terms denial =
    choice (Turned s) (not s.day.is_open) _ _ (λ h. refused_for_goes s connection clock terms why.Closed denial)
    (λ h. choice (Turned s) s.day.is_suspended _ _ (λ h. refused_for_goes s connection clock terms why.Suspended denial)
    (λ h. denial_goes s connection clock terms denial))

probed_on : (p : Phase) → is_on (probed p) ≡ true → is_on p ≡ true
probed_on phase.Away h = h
probed_on (phase.On line) h = h
probed_on (phase.Leaving connection since) h = h

waits_goes : (s : Session) (connection now : ℕ) (waiting : Option Waiting) → Turned s (waits_for s connection now waiting)
waits_goes s connection now None = stays_quiet s _ (λ l. refl) (λ l. refl) refl refl refl refl refl refl (probed_on s.phase)
waits_goes s connection now (Some waiting) =
    choice (Turned s) (waiting.connection == connection) _ _
    (λ h. stays_quiet s _ (λ l. refl) (λ l. refl) refl refl refl refl refl refl (λ h. h))
    (λ h. stays_quiet s _ (λ l. refl) (λ l. refl) refl refl refl refl refl refl (λ h. h))

judged_by_goes : (s : Session) (connection : ℕ) (clock : Clock) (terms : Terms) (denial : Option Denial) (p : Phase) → Turned s (judged_by s connection clock terms denial p)
judged_by_goes s connection clock terms denial phase.Away =
    let r = judged_goes (record s { waiting = without connection s.waiting }) connection clock terms denial in
    record { what = r.what; on = r.on }
judged_by_goes s connection clock terms denial (phase.On line) = waits_goes s connection clock.moment s.waiting
judged_by_goes s connection clock terms denial (phase.Leaving last since) = waits_goes s connection clock.moment s.waiting

first_by_goes : (s : Session) (connection : ℕ) (clock : Clock) (is_known : Bool) (denial : Option Denial) (terms : Option Terms) → Turned s (first_by s connection clock is_known denial terms)
first_by_goes s connection clock is_known denial None = stays_quiet s _ (λ l. refl) (λ l. refl) refl refl refl refl refl refl (λ h. h)
first_by_goes s connection clock is_known denial (Some terms) =
    choice (Turned s) is_known _ _ (λ h. judged_by_goes s connection clock terms denial s.phase)
    (λ h. stays_quiet s _ (λ l. refl) (λ l. refl) refl refl refl refl refl refl (λ h. h))

pub first_goes : (names : Names) (s : Session) (connection : ℕ) (clock : Clock) (bytes : List ℕ) (is_known : Bool) (denial : Option Denial)
    → Turned s (came_first names s connection clock bytes is_known denial)
first_goes names s connection clock bytes is_known denial = first_by_goes s connection clock is_known denial (logon_of names bytes)
