-- How bytes move the expected number: what an outcome of a turn does.
use Rattle.std.proofs.Common.{◌≡◌, ℕ, ◌+◌, ◌<◌, Bool, true, false, ◌==◌, ◌&&◌, not, List, ◌⊎◌, inl, inr, Option, Some, None, is_some, refl, ap, subst, ◌∙◌, arith}
use Rattle.std.proofs.lemmas.Bool.{eq-eqb}
use Rattle.std.proofs.lemmas.Bool.Decides.{nat_tests}
use Rattle.std.specs.Prelude.{unwrap_or}
use Rattle.fix_sessions.specs.Outcomes.{disconnects, answers, rejects_now, rejects, parts, leaves, reject_and_logout, rejects_and_logs_out, reject_of, denies_now, counted_if, is_clear, may_log_out}
use Rattle.fix_sessions.specs.declared.messages.Heard.{Heard}
use Rattle.fix_sessions.specs.declared.messages.Heard.TheVariants as heard
use Rattle.fix_sessions.specs.declared.messages.Incoming.{Incoming}
use Rattle.fix_sessions.specs.declared.state.Day.{Day}
use Rattle.fix_sessions.specs.declared.state.Live.{Live}
use Rattle.fix_sessions.specs.declared.turns.Ending.TheVariants as ending
use Rattle.fix_sessions.specs.declared.turns.Fault.{Fault}
use Rattle.fix_sessions.specs.declared.turns.Turn.{Turn}
use Rattle.fix_sessions.specs.declared.turns.Why.{Why}
use Rattle.fix_sessions.specs.declared.turns.Word.{Word}
use Rattle.fix_sessions.specs.declared.turns.Word.TheVariants as word
use Rattle.laws_sessions.proofs.Choices.{choice}
use Rattle.laws_sessions.specs.Moves.{IsStill, echo_of, is_answer_to, is_answered_by, is_own, new_in, test_in}

-- What came, as the session hears it.

abbrev pub heard_number : Heard → Option ℕ
heard_number heard.Garbled = None
heard_number (heard.TooLong number) = number
heard_number (heard.Message m) = m.origin.number

abbrev pub heard_own : Heard → Bool
heard_own (heard.Message m) = is_own m.kind
heard_own other = false

abbrev pub heard_unread : Heard → Bool
heard_unread heard.Garbled = false
heard_unread (heard.TooLong number) = true
heard_unread (heard.Message m) = is_some m.version

abbrev pub heard_new : Heard → Option ℕ
heard_new (heard.Message m) = new_in m.kind
heard_new other = None

abbrev pub heard_test : Heard → Option (List ℕ)
heard_test (heard.Message m) = test_in m.kind
heard_test other = None

pub record Echoed (said : Heard) (t : Turn) : Type 0 where
  pub id : List ℕ
  pub asked : heard_test said ≡ Some id
  pub echoed : echo_of t.first ≡ Some id

pub record Counted (said : Heard) (d : Day) (t : Turn) : Type 0 where
  pub numbered : heard_number said ≡ Some d.expected
  pub by_one : t.session.day.expected ≡ d.expected + 1
  pub dealt : (t.takes ≡ Some d.expected)
      ⊎ ((is_answered_by d.expected t.first ≡ true)
      ⊎ ((heard_own said ≡ true)
      ⊎ (Echoed said t ⊎ ((heard_unread said ≡ true) × (t.ending ≡ ending.Ends)))))

pub record SetBy (said : Heard) (d : Day) (t : Turn) : Type 0 where
  pub set : heard_new said ≡ Some t.session.day.expected
  pub higher : d.expected < t.session.day.expected

abbrev pub MovesTo : Heard → Day → Turn → Type 0
MovesTo said d t = IsStill d t ⊎ (Counted said d t ⊎ SetBy said d t)

-- A turn that answers the message of a number, and moves the expected number no further.
pub record Answers (came : ℕ) (a : Live) (t : Turn) : Type 0 where
  pub keeps : t.session.day.expected ≡ a.day.expected
  pub answered : is_answered_by came t.first ≡ true

-- Or says why it ends, or ends the connection: whatever came.
pub record Leaf (a : Live) (t : Turn) : Type 0 where
  pub keeps : t.session.day.expected ≡ a.day.expected
  pub speaks : ((came : ℕ) → is_answered_by came t.first ≡ true) ⊎ (t.ending ≡ ending.Ends)

answers_it : (came : ℕ) (a : Live) (t : Turn) → t.session.day.expected ≡ a.day.expected
    → is_answered_by came t.first ≡ true → Answers came a t
answers_it came a t keeps answered = record { keeps = keeps; answered = answered }

says_it : (a : Live) (t : Turn) → t.session.day.expected ≡ a.day.expected
    → ((came : ℕ) → is_answered_by came t.first ≡ true) → Leaf a t
says_it a t keeps answered = record { keeps = keeps; speaks = inl answered }

disconnects_leaf : (a : Live) → Leaf a (disconnects a)
disconnects_leaf a = record { keeps = refl; speaks = inr refl }

-- a TestRequest is answered by a Heartbeat with its TestReqID
pub record Echoes (a : Live) (id : List ℕ) (t : Turn) : Type 0 where
  pub keeps : t.session.day.expected ≡ a.day.expected
  pub echoed : echo_of t.first ≡ Some id

pub answers_echo : (a : Live) (now : ℕ) (id : List ℕ) → Echoes a id (answers a now (word.Answer id))
answers_echo a now id =
    choice (Echoes a id) (is_clear a) _ _ (λ h. record { keeps = refl; echoed = refl })
    (λ h. record { keeps = refl; echoed = refl })

pub rejects_answer : (came : ℕ) (a : Live) (now : ℕ) (w : Word) → is_answer_to came w ≡ true
    → Answers came a (rejects_now a now w)
rejects_answer came a now w is =
    choice (Answers came a) (is_clear a && a.line.is_settled) _ _ (λ h. answers_it came a _ refl is)
    (λ h. answers_it came a _ refl is)

pub denies_answer : (came : ℕ) (a : Live) (now : ℕ) (w : Word) → is_answer_to came w ≡ true
    → Answers came a (denies_now a now w)
denies_answer came a now w is =
    choice (Answers came a) (is_clear a) _ _ (λ h. answers_it came a _ refl is)
    (λ h. answers_it came a _ refl is)

pub both_answer : (came : ℕ) (a : Live) (now : ℕ) (w : Word) (y : Why) → is_answer_to came w ≡ true
    → Answers came a (reject_and_logout a now w y)
both_answer came a now w y is =
    choice (Answers came a) (not a.line.is_settled) _ _ (λ h. rejects_answer came a now w is)
    (λ h. choice (Answers came a) (is_clear a) _ _ (λ h. answers_it came a _ refl is)
    (λ h. answers_it came a _ refl is))

pub parts_leaf : (a : Live) (now : ℕ) (w : Word) → ((came : ℕ) → is_answer_to came w ≡ true)
    → Leaf a (parts a now w)
parts_leaf a now w is =
    choice (Leaf a) (may_log_out a) _ _ (λ h. says_it a _ refl is) (λ h. disconnects_leaf a)

pub leaves_leaf : (a : Live) (y : Why) → Leaf a (leaves a y)
leaves_leaf a y =
    choice (Leaf a) (may_log_out a) _ _ (λ h. says_it a _ refl (λ came. refl)) (λ h. disconnects_leaf a)

-- What a turn counts only if it bears the expected number.

pub same_number : (a b : ℕ) → (a == b) ≡ true → a ≡ b
same_number a b h = grind (arith, nat_tests)

-- the answer names the number, or 0 where it can't be read
pub by_answer : (said : Heard) (a : Live) (now : ℕ) (number : Option ℕ) (t : Turn)
    → heard_number said ≡ number → Answers (unwrap_or number 0) (counted_if a now number) t
    → MovesTo said a.day t
by_answer said a now None t is = λ leaf. inl leaf.keeps
by_answer said a now (Some number) t is =
    choice (λ (b : Live). Answers number b t → MovesTo said a.day t) (number == a.day.expected) _ _
    (λ h leaf. let same = same_number number a.day.expected h in inr (inl (record {
      numbered = is ∙ ap Some same;
      by_one = leaf.keeps;
      dealt = inr (inl (subst (λ came. is_answered_by came t.first ≡ true) same leaf.answered));
    })))
    (λ h leaf. inl leaf.keeps)

-- of what is not read any further
pub by_leaf : (said : Heard) (a : Live) (now : ℕ) (number : Option ℕ) (t : Turn)
    → heard_unread said ≡ true → heard_number said ≡ number → Leaf (counted_if a now number) t
    → MovesTo said a.day t
by_leaf said a now None t unread is = λ leaf. inl leaf.keeps
by_leaf said a now (Some number) t unread is =
    choice (λ (b : Live). Leaf b t → MovesTo said a.day t) (number == a.day.expected) _ _
    (λ h leaf. inr (inl (record {
      numbered = is ∙ ap Some (same_number number a.day.expected h);
      by_one = leaf.keeps;
      dealt = elim leaf.speaks [
        | inl answered ↦ inr (inl (answered a.day.expected))
        | inr ends ↦ inr (inr (inr (inr (unread, ends))))
      ];
    })))
    (λ h leaf. inl leaf.keeps)

-- of the session's own
pub by_own : (said : Heard) (a : Live) (now : ℕ) (number : Option ℕ) (t : Turn)
    → heard_own said ≡ true → heard_number said ≡ number
    → t.session.day.expected ≡ (counted_if a now number).day.expected → MovesTo said a.day t
by_own said a now None t own is = λ same. inl same
by_own said a now (Some number) t own is =
    choice (λ (b : Live). t.session.day.expected ≡ b.day.expected → MovesTo said a.day t)
    (number == a.day.expected) _ _
    (λ h same. inr (inl (record {
      numbered = is ∙ ap Some (same_number number a.day.expected h);
      by_one = same;
      dealt = inr (inr (inl own));
    })))
    (λ h same. inl same)

-- Of a message.

abbrev pub Moves : Incoming → Live → Turn → Type 0
Moves m a t = MovesTo (heard.Message m) a.day t

-- the number that a Reject names (45)
abbrev named_by : Incoming → ℕ
named_by m = unwrap_or m.origin.number 0

names_it : (m : Incoming) → (named_by m == named_by m) ≡ true
names_it m = eq-eqb (named_by m) (named_by m) refl

pub rejected : (m : Incoming) (a : Live) (now : ℕ) (fault : Fault)
    → Moves m a (rejects a now m.origin fault)
rejected m a now fault =
    by_answer (heard.Message m) a now m.origin.number _ refl
    (rejects_answer (named_by m) (counted_if a now m.origin.number) now (reject_of m.origin fault) (names_it m))

pub both_said : (m : Incoming) (a : Live) (now : ℕ) (fault : Fault) (y : Why)
    → Moves m a (rejects_and_logs_out a now m.origin fault y)
both_said m a now fault y =
    by_answer (heard.Message m) a now m.origin.number _ refl
    (both_answer (named_by m) (counted_if a now m.origin.number) now (reject_of m.origin fault) y (names_it m))
