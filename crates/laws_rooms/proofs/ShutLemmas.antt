-- A request that is closed at a desk: it stays so, and what closes one.
use Rattle.std.proofs.Common.{◌≡◌, ◌==◌, ℕ, Bool, true, false, List, [], ◌∷◌, ◌++◌}
use Rattle.std.proofs.Common.{Option, Some, None, ap, is_none, is_some, refl, sym, ◌∙◌, subst, inl, inr}
use Rattle.std.proofs.Common.{if◌then◌else◌}
use Rattle.std.specs.Option.{option_or}
use Rattle.std.proofs.lemmas.Bool.{cases_Bool, eq-eqb, eqb-true, false≢true}
use Rattle.investor_desk.specs.InvestorFacts.{Asked, Closed, InvestorFact, StandingRequest, book_of, closes}
use Rattle.investor_desk.specs.InvestorFacts.{first_said, request_numbered, while_open}
use Rattle.investor_desk.specs.declared.standing.RequestClose.{RequestClose}
use Rattle.step_replay.specs.Lists.{Every}

said_more : {A : Type 0} (says : InvestorFact → Option A) (facts more : List InvestorFact)
    → is_some (first_said says facts) ≡ true → is_some (first_said says (facts ++ more)) ≡ true
said_more says [] more is = cc
said_more {A} says (fact ∷ facts) more is =
    either (says fact) (λ rest. said_more says facts more rest) is
  where
    either : (o : Option A)
        → (is_some (first_said says facts) ≡ true → is_some (first_said says (facts ++ more)) ≡ true)
        → is_some (option_or o (first_said says facts)) ≡ true
        → is_some (option_or o (first_said says (facts ++ more))) ≡ true
    either None later said = later said
    either (Some x) later said = refl

-- whether a request that was found is closed
abbrev pub shut : Option StandingRequest → Bool
shut None = false
shut (Some own) = is_some own.close

abbrev pub shut_in : ℕ → List InvestorFact → Bool
shut_in number facts = shut (request_numbered (book_of facts) number)

pub shut_grown : (number : ℕ) (facts more : List InvestorFact) → shut_in number facts ≡ true
    → shut_in number (facts ++ more) ≡ true
unfolding request_numbered
shut_grown number [] more is = cc
shut_grown number (Asked request ∷ facts) more is = elim (cases_Bool (request.number == number)) [
  | inl same ↦ rw same (said_more (closes request.number) facts more (rw same at is))
  | inr differs ↦ rw differs (shut_grown number facts more (rw differs at is))
]
shut_grown number (fact ∷ facts) more is = shut_grown number facts more is

pub still_live : (number : ℕ) (facts more : List InvestorFact) → shut_in number (facts ++ more) ≡ false
    → shut_in number facts ≡ false
still_live number facts more live = elim (cases_Bool (shut_in number facts)) [
  | inr not_yet ↦ not_yet
  | inl closed ↦ absurd (false≢true (sym live ∙ shut_grown number facts more closed))
]

-- one that is open is not closed
pub open_live : (found : Option StandingRequest) → is_some (while_open found) ≡ true → shut found ≡ false
open_live None is = cc
open_live (Some own) is = by_close own.close is
  where
    by_close : (o : Option RequestClose) → is_some (if is_none o then Some own else None) ≡ true
        → is_some o ≡ false
    by_close None so = refl
    by_close (Some how) so = cc

-- A fact that closes it.

said_last : {A : Type 0} (says : InvestorFact → Option A) (facts : List InvestorFact) (fact : InvestorFact)
    → is_some (says fact) ≡ true → is_some (first_said says (facts ++ fact ∷ [])) ≡ true
said_last {A} says [] fact is = by_said (says fact) is
  where
    by_said : (o : Option A) → is_some o ≡ true → is_some (option_or o None) ≡ true
    by_said None so = so
    by_said (Some x) so = refl
said_last {A} says (first ∷ facts) fact is = either (says first) (said_last says facts fact is)
  where
    either : (o : Option A) → is_some (first_said says (facts ++ fact ∷ [])) ≡ true
        → is_some (option_or o (first_said says (facts ++ fact ∷ []))) ≡ true
    either None later = later
    either (Some x) later = refl

-- a request that was accepted is closed by such a fact, where it was not before
pub shut_by : (number : ℕ) (how : RequestClose) (facts : List InvestorFact)
    → is_some (request_numbered (book_of facts) number) ≡ true
    → shut_in number (facts ++ Closed number how ∷ []) ≡ true
unfolding request_numbered
shut_by number how [] is = absurd (false≢true is)
shut_by number how (Asked request ∷ facts) is = elim (cases_Bool (request.number == number)) [
  | inl same ↦ rw same (said_last (closes request.number) facts (Closed number how)
      (subst (λ (n : ℕ). is_some (closes n (Closed number how)) ≡ true) (sym (eqb-true request.number number same))
      (rw (eq-eqb number number refl) refl)))
  | inr differs ↦ rw differs (shut_by number how facts (rw differs at is))
]
shut_by number how (fact ∷ facts) is = shut_by number how facts is

-- Facts that close nothing.

none_said : (number : ℕ) (added : List InvestorFact) → Every (λ (fact : InvestorFact). closes number fact ≡ None) added
    → first_said (closes number) added ≡ None
none_said number [] every = refl
none_said number (fact ∷ added) every = rw (every.0) (none_said number added every.1)

said_before : (number : ℕ) (facts added : List InvestorFact)
    → Every (λ (fact : InvestorFact). closes number fact ≡ None) added
    → first_said (closes number) (facts ++ added) ≡ first_said (closes number) facts
said_before number [] added every = none_said number added every
said_before number (fact ∷ facts) added every =
    ap (λ (o : Option RequestClose). option_or (closes number fact) o) (said_before number facts added every)

-- a request that is closed was closed before facts that close none with its number
pub shut_before : (number : ℕ) (facts added : List InvestorFact)
    → Every (λ (fact : InvestorFact). closes number fact ≡ None) added
    → shut_in number (facts ++ added) ≡ true → shut_in number facts ≡ true
unfolding request_numbered
shut_before number [] added every is = absurd (false≢true (sym (never added every) ∙ is))
  where
    never : (more : List InvestorFact) → Every (λ (fact : InvestorFact). closes number fact ≡ None) more
        → shut_in number more ≡ false
    never [] each = refl
    never (Asked request ∷ more) each = elim (cases_Bool (request.number == number)) [
      | inl same ↦ rw same (ap (λ (o : Option RequestClose). is_some o)
          (subst (λ (n : ℕ). first_said (closes n) more ≡ None) (sym (eqb-true request.number number same))
          (none_said number more each.1)))
      | inr differs ↦ rw differs (never more each.1)
    ]
    never (fact ∷ more) each = never more each.1
shut_before number (Asked request ∷ facts) added every is = elim (cases_Bool (request.number == number)) [
  | inl same ↦ rw same (sym (ap (λ (o : Option RequestClose). is_some o)
      (subst (λ (n : ℕ). first_said (closes n) (facts ++ added) ≡ first_said (closes n) facts)
      (sym (eqb-true request.number number same)) (said_before number facts added every)))
      ∙ (rw same at is))
  | inr differs ↦ rw differs (shut_before number facts added every (rw differs at is))
]
shut_before number (fact ∷ facts) added every is = shut_before number facts added every is
