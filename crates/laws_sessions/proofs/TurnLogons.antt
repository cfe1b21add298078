-- What the first message of a connection does: whose the session is then, which numbers it uses, and
-- what leaves.
use Rattle.std.proofs.Common.{◌≡◌, ℕ, ◌+◌, ◌≤◌, Bool, true, false, ◌==◌, ◌&&◌, not, nat_lt, ◌⊎◌, inl, inr, Option, Some, None, is_some, refl, sym, ◌∙◌, arith}
use Rattle.std.proofs.lemmas.Bool.Decides.{nat_tests}
use Rattle.fix_sessions.specs.Outcomes.{quiet, ended}
use Rattle.fix_sessions.specs.Logons.{locked, shows_loss, refuses, refuses_early, refused, refused_early, refused_for, refusal_day, refusal_number, is_safe, too_low, accepts, accepted_day, answer_number, has_one, expected_by, is_ahead, may_reset, judged_ahead, judged_number, judged_reset, judged_terms, judged_denial, judged, judged_by, waits_for, probed, first_by, value_or_zero, is_heartbeat, is_in_time, without}
use Rattle.fix_sessions.specs.Rows.{below}
use Rattle.laws_sessions.specs.Kept.{entered, Within}
use Rattle.laws_sessions.specs.Logons.{sends}
use Rattle.laws_sessions.specs.Sent.{is_own_word, news, front_by, front}
use Rattle.laws_sessions.proofs.Choices.{choice}
use Rattle.fix_sessions.specs.Steps.{has}
use Rattle.fix_sessions.specs.declared.state.Clock.{Clock}
use Rattle.fix_sessions.specs.declared.state.Day.{Day}
use Rattle.fix_sessions.specs.declared.state.Phase.{Phase}
use Rattle.fix_sessions.specs.declared.state.Phase.TheVariants as phase
use Rattle.fix_sessions.specs.declared.state.Session.{Session}
use Rattle.fix_sessions.specs.declared.state.Waiting.{Waiting}
use Rattle.fix_sessions.specs.declared.messages.Terms.{Terms}
use Rattle.fix_sessions.specs.declared.turns.Denial.{Denial}
use Rattle.fix_sessions.specs.declared.turns.Notice.{Notice}
use Rattle.fix_sessions.specs.declared.turns.Notice.TheVariants as notice
use Rattle.fix_sessions.specs.declared.turns.Turn.{Turn}
use Rattle.fix_sessions.specs.declared.turns.Why.{Why}
use Rattle.fix_sessions.specs.declared.turns.Why.TheVariants as why
use Rattle.fix_sessions.specs.declared.turns.Word.{Word}
use Rattle.fix_sessions.specs.declared.turns.Word.TheVariants as word
use Rattle.laws_sessions.proofs.TurnOutcomes.{OwnTurn, no_news, not_new}

-- The next number goes on, where the session stays whose it is.
pub front_up : (low high : ℕ) (p : Phase) → low ≤ high → front_by low p ≤ front_by high p
front_up low high phase.Away less = less
front_up low high (phase.On line) less = omega arith
front_up low high (phase.Leaving connection since) less = less

pub front_below : (low high : ℕ) (p : Phase) → low ≤ high → front_by low p ≤ low
    → front_by high p ≤ high
front_below low high phase.Away less below = omega arith
front_below low high (phase.On line) less below = omega (arith, less, below)
front_below low high (phase.Leaving connection since) less below = omega arith

-- The session is whose it was, or this connection's.
pub record First (s : Session) (connection : ℕ) (t : Turn) : Type 0 where
  pub on : t.connection ≡ connection
  pub whose : (k : ℕ) → has t.session.phase k ≡ true
      → (has s.phase k ≡ true) ⊎ (connection ≡ k)
  pub most : t.session.day.next ≤ s.day.next + 2
  pub kept : Within s.day.next t.session.day.next (entered t.first)
  pub new : front s ≤ s.day.next → Within (front s) (front t.session) (news t)
  pub sound : front s ≤ s.day.next → front t.session ≤ t.session.day.next
  pub own : OwnTurn t

-- nothing happens, or the connection ends
pub quiet_first : (s : Session) (connection : ℕ) → First s connection (quiet s connection)
quiet_first s connection = record {
  on = refl;
  whose = λ k h. inl h;
  most = omega arith;
  kept = omega arith;
  new = λ h. omega arith;
  sound = λ h. h;
  own = (tt, tt);
}

pub ended_first : (s : Session) (connection : ℕ) (told : Option Notice)
    → First s connection (record (ended s connection) { notice = told })
ended_first s connection told = record {
  on = refl;
  whose = λ k h. inl h;
  most = omega arith;
  kept = omega arith;
  new = λ h. omega arith;
  sound = λ h. h;
  own = (tt, tt);
}

-- a Logout that refuses
refusal_up : (d : Day) → d.next ≤ (refusal_day d).next
refusal_up d = choice (λ (e : Day). d.next ≤ e.next) d.is_one_free _ _ (λ h. omega arith) (λ h. omega arith)

refusal_most : (d : Day) → (refusal_day d).next ≤ d.next + 2
refusal_most d =
    choice (λ (e : Day). e.next ≤ d.next + 2) d.is_one_free _ _ (λ h. omega arith) (λ h. omega arith)

refuses_first : (s : Session) (connection : ℕ) (terms : Terms) (w : Word) (told : Notice)
    → is_own_word w ≡ true → First s connection (refuses s connection terms w told)
refuses_first s connection terms w told own =
    choice (First s connection) (is_safe s.day terms) _ _
    (λ h. record {
      on = refl;
      whose = λ k h. inl h;
      most = refusal_most s.day;
      kept = refusal_up s.day;
      new = λ h. no_news (refusal_number s.day) w (front s) (front_by (refusal_day s.day).next s.phase)
          (not_new w own) (front_up s.day.next (refusal_day s.day).next s.phase (refusal_up s.day)) _;
      sound = λ h. front_below s.day.next (refusal_day s.day).next s.phase (refusal_up s.day) h;
      own = (own, tt);
    })
    (λ h. ended_first s connection (Some told))

refused_first : (s : Session) (connection : ℕ) (terms : Terms) (y : Why)
    → First s connection (refused s connection terms y)
refused_first s connection terms y =
    refuses_first s connection terms (word.Logout y) (notice.Refused y) refl

-- a session that is locked is as it was
locked_first : (s : Session) (connection : ℕ) (terms : Terms) (w : Word)
    → is_own_word w ≡ true → First s connection (refuses (locked s) connection terms w notice.LostStore)
locked_first s connection terms w own =
    let r = refuses_first (locked s) connection terms w notice.LostStore own in
    record { on = r.on; whose = r.whose; most = r.most; kept = r.kept; new = r.new; sound = r.sound; own = r.own }

early_first : (s : Session) (connection : ℕ) (clock : Clock) (terms : Terms) (w : Word) (told : Notice)
    → is_own_word w ≡ true → First s connection (refuses_early s connection clock terms w told)
early_first s connection clock terms w told own =
    choice (First s connection) (shows_loss s.day clock terms) _ _
    (λ h. locked_first s connection terms w own) (λ h. refuses_first s connection terms w told own)

refused_early_first : (s : Session) (connection : ℕ) (clock : Clock) (terms : Terms) (y : Why)
    → First s connection (refused_early s connection clock terms y)
refused_early_first s connection clock terms y =
    early_first s connection clock terms (word.Logout y) (notice.Refused y) refl

refused_for_first : (s : Session) (connection : ℕ) (clock : Clock) (terms : Terms) (y : Why)
    (denial : Option Denial) → First s connection (refused_for s connection clock terms y denial)
refused_for_first s connection clock terms y None =
    early_first s connection clock terms (word.Logout y) (notice.Refused y) refl
refused_for_first s connection clock terms y (Some denial) =
    early_first s connection clock terms (word.LogoutFor denial.text) (notice.Refused y) refl

too_low_first : (s : Session) (connection : ℕ) (terms : Terms)
    → First s connection (too_low s connection terms)
too_low_first s connection terms =
    let low = why.TooLow s.day.expected in
    choice (First s connection) (nat_lt s.day.last_logon (value_or_zero terms.sent)) _ _
    (λ h. locked_first s connection terms (word.Logout low) refl)
    (λ h. refused_first s connection terms low)

accepted_up : (d : Day) (terms : Terms) → d.next ≤ (accepted_day d terms).next
accepted_up d terms =
    choice (λ (n : ℕ). d.next ≤ n) (has_one d terms) _ _ (λ h. omega arith) (λ h. omega arith)

accepted_most : (d : Day) (terms : Terms) → (accepted_day d terms).next ≤ d.next + 2
accepted_most d terms =
    choice (λ (n : ℕ). n ≤ d.next + 2) (has_one d terms) _ _ (λ h. omega arith) (λ h. omega arith)

same_number : (a b : ℕ) → (a == b) ≡ true → a ≡ b
same_number a b h = grind (arith, nat_tests)

accepts_first : (s : Session) (connection now : ℕ) (terms : Terms)
    → First s connection (accepts s connection now terms)
accepts_first s connection now terms = record {
  on = refl;
  whose = λ k h. inr (same_number connection k h);
  most = accepted_most s.day terms;
  kept = accepted_up s.day terms;
  new = λ h. (let up = accepted_up s.day terms in omega (arith, h, up));
  sound = λ h. omega arith;
  own = (refl, tt);
}

ahead_first : (s : Session) (connection now : ℕ) (terms : Terms)
    → First s connection (judged_ahead s connection now terms)
ahead_first s connection now terms =
    choice (First s connection) (is_ahead terms.expects (answer_number s.day terms)) _ _
    (λ h. refused_first s connection terms why.Ahead) (λ h. accepts_first s connection now terms)

number_first : (s : Session) (connection now : ℕ) (terms : Terms)
    → First s connection (judged_number s connection now terms)
number_first s connection now terms =
    choice (First s connection) s.day.is_locked _ _ (λ h. refused_first s connection terms why.Lost)
    (λ h. choice (First s connection) (s.day.is_reset && not terms.resets && not (terms.number == 1)) _ _
    (λ h. refused_first s connection terms why.Begin)
    (λ h. choice (First s connection) (nat_lt terms.number (expected_by s.day terms)) _ _
    (λ h. too_low_first s connection terms) (λ h. ahead_first s connection now terms)))

reset_first : (s : Session) (connection now : ℕ) (terms : Terms)
    → First s connection (judged_reset s connection now terms)
reset_first s connection now terms =
    choice (First s connection) (terms.resets && not ((terms.number == 1) && may_reset s.day)) _ _
    (λ h. refused_first s connection terms why.Reset) (λ h. number_first s connection now terms)

terms_first : (s : Session) (connection : ℕ) (clock : Clock) (terms : Terms)
    → First s connection (judged_terms s connection clock terms)
terms_first s connection clock terms =
    choice (First s connection) (not terms.is_plain) _ _ (λ h. refused_early_first s connection clock terms why.Encrypted)
    (λ h. choice (First s connection) (not terms.is_fix50) _ _ (λ h. refused_early_first s connection clock terms why.Version)
    (λ h. choice (First s connection) (not (is_heartbeat terms.seconds)) _ _ (λ h. refused_early_first s connection clock terms why.Heartbeat)
    (λ h. choice (First s connection) (not (is_in_time clock terms.sent)) _ _ (λ h. refused_early_first s connection clock terms why.Clock)
    (λ h. reset_first s connection clock.moment terms))))

denial_first : (s : Session) (connection : ℕ) (clock : Clock) (terms : Terms) (denial : Option Denial)
    → First s connection (judged_denial s connection clock terms denial)
denial_first s connection clock terms None = terms_first s connection clock terms
denial_first s connection clock terms (Some denial) =
    early_first s connection clock terms (word.LogoutFor denial.text) notice.Denied refl

judged_first : (s : Session) (connection : ℕ) (clock : Clock) (terms : Terms) (denial : Option Denial)
    → First s connection (judged s connection clock terms denial)
judged_first s connection clock terms denial =
    choice (First s connection) (not s.day.is_open) _ _ (λ h. refused_for_first s connection clock terms why.Closed denial)
    (λ h. choice (First s connection) s.day.is_suspended _ _ (λ h. refused_for_first s connection clock terms why.Suspended denial)
    (λ h. denial_first s connection clock terms denial))

-- who asks the old connection leaves it the session
probed_has : (p : Phase) (k : ℕ) → has (probed p) k ≡ has p k
probed_has phase.Away k = refl
probed_has (phase.On line) k = refl
probed_has (phase.Leaving connection since) k = refl

probed_front : (n : ℕ) (p : Phase) → front_by n (probed p) ≡ front_by n p
probed_front n phase.Away = refl
probed_front n (phase.On line) = refl
probed_front n (phase.Leaving connection since) = refl

waits_first : (s : Session) (connection now : ℕ) (waiting : Option Waiting)
    → First s connection (waits_for s connection now waiting)
waits_first s connection now None = record {
  on = refl;
  whose = λ k h. inl (sym (probed_has s.phase k) ∙ h);
  most = omega arith;
  kept = omega arith;
  new = λ h. (let same = probed_front s.day.next s.phase in omega (arith, same));
  sound = λ h. (let same = probed_front s.day.next s.phase in omega (arith, same, h));
  own = (tt, tt);
}
waits_first s connection now (Some waiting) =
    choice (First s connection) (waiting.connection == connection) _ _
    (λ h. quiet_first s connection) (λ h. ended_first s connection None)

judged_by_first : (s : Session) (connection : ℕ) (clock : Clock) (terms : Terms) (denial : Option Denial) (p : Phase)
    → First s connection (judged_by s connection clock terms denial p)
judged_by_first s connection clock terms denial phase.Away =
    let r = judged_first (record s { waiting = without connection s.waiting }) connection clock terms denial in
    record { on = r.on; whose = r.whose; most = r.most; kept = r.kept; new = r.new; sound = r.sound; own = r.own }
judged_by_first s connection clock terms denial (phase.On line) = waits_first s connection clock.moment s.waiting
judged_by_first s connection clock terms denial (phase.Leaving last since) = waits_first s connection clock.moment s.waiting

-- either a Logon of the firm with right credentials came, or nothing happens but an end
pub record Nothing (s : Session) (connection : ℕ) (t : Turn) : Type 0 where
  pub is : t.session ≡ s
  pub silent : sends t ≡ false

pub first_by_first : (s : Session) (connection : ℕ) (clock : Clock) (is_known : Bool) (denial : Option Denial) (terms : Option Terms)
    → First s connection (first_by s connection clock is_known denial terms)
first_by_first s connection clock is_known denial None = ended_first s connection None
first_by_first s connection clock is_known denial (Some terms) =
    choice (First s connection) is_known _ _ (λ h. judged_by_first s connection clock terms denial s.phase)
    (λ h. ended_first s connection (Some notice.Credentials))

pub first_cases : (s : Session) (connection : ℕ) (clock : Clock) (is_known : Bool) (denial : Option Denial) (terms : Option Terms)
    → Nothing s connection (first_by s connection clock is_known denial terms)
    ⊎ ((is_known ≡ true) × (is_some terms ≡ true))
first_cases s connection clock is_known denial None = inl (record { is = refl; silent = refl })
first_cases s connection clock true denial (Some terms) = inr (refl, refl)
first_cases s connection clock false denial (Some terms) = inl (record { is = refl; silent = refl })
