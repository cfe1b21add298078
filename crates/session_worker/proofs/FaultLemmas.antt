-- Which firm a fault names, and of what it is true.
use Rattle.std.proofs.Common.{◌≡◌, ◌≢◌, ◌⊎◌, inl, inr, sym, ap, subst, ℕ, ◌+◌, ◌<◌}
use Rattle.std.proofs.Common.{◌≤◌, min, List, length, Result, Ok, Err, IfErr, IsErrAnd, IsOk, arith}
use Rattle.std.proofs.lemmas.Bool.{cases_lt, false≢true}
use Rattle.venue_rows.specs.Rows.{Configuration}
use Rattle.recorded_days.specs.declared.actions.Inbound.{Inbound}
use Rattle.recorded_days.specs.declared.actions.Sweep.{Sweep}
use Rattle.day_checks.specs.DayActions.{number_at}
use Rattle.day_checks.specs.DayFaults.{IsFaultOf, IsFirstOf, IsJoinedOf, JoinedDay}
use Rattle.session_worker.specs.Locks.{IsInboxAmong}
use Rattle.day_checks.specs.declared.faults.DayFault.{DayFault}
use Rattle.day_checks.specs.declared.faults.DayFault.TheVariants as fault
use Rattle.day_checks.specs.declared.left_responses.LeftResponse.{LeftResponse}

-- what is said of the fault behind a `?` is said of the fault that it returns
pub same_fault : {X : Type 0} (P : DayFault → Type 0) (r : Result X DayFault) (e : DayFault)
    → IsErrAnd r (λ f. f ≡ e) → P e → IfErr r P
same_fault P (Ok x) e is p = tt
same_fault P (Err f) e is p = subst P (sym is) p

-- Faults under the locks.

apart_below : (m n : ℕ) → m < n → m ≡ n → ⊥
apart_below m n below same = omega (arith, below, same)

apart_above : (m n : ℕ) → n < m → m ≡ n → ⊥
apart_above m n below same = omega (arith, below, same)

-- two numbers are the same or not
same_or_not : (m n : ℕ) → (m ≡ n) ⊎ (m ≢ n)
same_or_not m n = elim (cases_lt m n) [
  | inl below ↦ inr (apart_below m n below)
  | inr above ↦ elim (cases_lt n m) [
    | inl below ↦ inr (apart_above m n below)
    | inr under ↦ inl (omega (arith, above, under))
  ]
]

-- faults of the same firm
same_number : (m n : ℕ) → fault.Inbox m ≡ fault.Inbox n → m ≡ n
same_number m n is = cc

-- a fault names this firm, or it does not
named_or_not : (firm : ℕ) (why : DayFault) → (why ≡ fault.Inbox firm) ⊎ (why ≢ fault.Inbox firm)
named_or_not firm (fault.Inbox named) = elim (same_or_not named firm) [
  | inl same ↦ inl (ap fault.Inbox same)
  | inr apart ↦ inr (λ is. apart (same_number named firm is))
]
named_or_not firm (fault.Told dealer) = inr (λ is. cc)
named_or_not firm (fault.Sweep room) = inr (λ is. cc)
named_or_not firm (fault.Shown dealer) = inr (λ is. cc)
named_or_not firm (fault.Relayed room) = inr (λ is. cc)
named_or_not firm (fault.Answered room) = inr (λ is. cc)
named_or_not firm (fault.Acted named) = inr (λ is. cc)
named_or_not firm fault.Memory = inr (λ is. cc)

module _ (X : Type 0) (why : DayFault) where
  -- what fails is not well
  never_ok : IsOk {T = X} {E = DayFault} (Err why) → ⊥
  never_ok ok = false≢true ok

  -- and has one fault
  fault_is : (other : DayFault) → ◌≡◌ {A = Result X DayFault} (Err why) (Err other) → why ≡ other
  fault_is other is = cc

  -- the desk at a dealer's place is another's, or has not its inbox
  pub dealer_among : (firm place count : ℕ) (came inbox : List Inbound) → place < count
      → (firm ≢ place → ◌≡◌ {A = Result X DayFault} (Err why) (Err (fault.Inbox (number_at place))))
      → (firm ≡ place → came ≢ inbox
      → ◌≡◌ {A = Result X DayFault} (Err why) (Err (fault.Inbox firm)))
      → (firm ≡ place → came ≡ inbox → IsOk {T = X} {E = DayFault} (Err why))
      → IsInboxAmong 0 count why
  dealer_among firm place count came inbox within other_desk other_inbox given =
      elim (same_or_not firm place) [
        | inl same ↦
            let is : why ≡ fault.Inbox firm = fault_is (fault.Inbox firm)
            (other_inbox same (λ own. never_ok (given same own))) in
            let low : 0 ≤ firm = omega arith in
            let high : firm < 0 + count = omega (arith, same, within) in
            let among : IsInboxAmong 0 count (fault.Inbox firm) = (low, high) in
            subst (IsInboxAmong 0 count) (sym is) among
        | inr apart ↦
            let is : why ≡ fault.Inbox (number_at place) =
            fault_is (fault.Inbox (number_at place)) (other_desk apart) in
            let low : 0 ≤ min place 65535 = omega arith in
            let high : min place 65535 < 0 + count = omega (arith, within) in
            let among : IsInboxAmong 0 count (fault.Inbox (number_at place)) = (low, high) in
            subst (IsInboxAmong 0 count) (sym is) among
      ]

  -- the same of an investor, to whom may be answered what its messages did not leave
  pub investor_among : (own firm first count : ℕ) (came inbox : List Inbound)
      (answered left : List LeftResponse) → first ≤ firm → firm < first + count
      → (own ≢ firm → ◌≡◌ {A = Result X DayFault} (Err why) (Err (fault.Inbox firm)))
      → (came ≢ inbox → ◌≡◌ {A = Result X DayFault} (Err why) (Err (fault.Inbox firm)))
      → (answered ≢ left → ◌≡◌ {A = Result X DayFault} (Err why) (Err (fault.Inbox firm)))
      → (own ≡ firm → came ≡ inbox → answered ≡ left → IsOk {T = X} {E = DayFault} (Err why))
      → IsInboxAmong first count why
  investor_among own firm first count came inbox answered left low high other_desk other_inbox
      other_answers given =
      let among : IsInboxAmong first count (fault.Inbox firm) = (low, high) in
      elim (named_or_not firm why) [
        | inl named ↦ subst (IsInboxAmong first count) (sym named) among
        | inr apart ↦
            let no : ◌≡◌ {A = Result X DayFault} (Err why) (Err (fault.Inbox firm)) → ⊥ =
            λ is. apart (fault_is (fault.Inbox firm) is) in
            absurd (no (other_desk (λ same. no (other_inbox (λ all. no (other_answers (λ each.
            never_ok (given same all each))))))))
      ]

  -- a room is another request's
  pub room_among : {A : Type 0} (own at : A) (investor : ℕ)
      → (own ≢ at → ◌≡◌ {A = Result X DayFault} (Err why) (Err (fault.Inbox investor)))
      → (own ≡ at → IsOk {T = X} {E = DayFault} (Err why))
      → IsInboxAmong investor 1 why
  room_among own at investor other_room given =
      let is : why ≡ fault.Inbox investor = fault_is (fault.Inbox investor)
      (other_room (λ same. never_ok (given same))) in
      let low : investor ≤ investor = omega arith in
      let high : investor < investor + 1 = omega arith in
      let among : IsInboxAmong investor 1 (fault.Inbox investor) = (low, high) in
      subst (IsInboxAmong investor 1) (sym is) among

-- one firm of some firms
pub one_among : (first count firm : ℕ) → first ≤ firm → firm < first + count → (why : DayFault)
    → IsInboxAmong firm 1 why → IsInboxAmong first count why
one_among first count firm low high (fault.Inbox named) e =
    let from : firm ≤ named = e.0 in
    let below : named < firm + 1 = e.1 in
    let own_low : first ≤ named = omega (arith, low, from) in
    let own_high : named < first + count = omega (arith, high, from, below) in
    (own_low, own_high)
one_among first count firm low high (fault.Told dealer) e = e
one_among first count firm low high (fault.Sweep room) e = e
one_among first count firm low high (fault.Shown dealer) e = e
one_among first count firm low high (fault.Relayed room) e = e
one_among first count firm low high (fault.Answered room) e = e
one_among first count firm low high (fault.Acted named) e = e
one_among first count firm low high fault.Memory e = tt

-- A fault of the whole day.

-- a firm of the dealers
pub dealer_is_of : (config : Configuration) (inboxes : List (List Inbound)) (sweeps : List Sweep)
    (count : ℕ) → count ≡ length config.dealers → (why : DayFault) → IsInboxAmong 0 count why
    → IsFaultOf config inboxes sweeps why
dealer_is_of config inboxes sweeps count all (fault.Inbox firm) e =
    let below : firm < 0 + count = e.1 in omega (arith, all, below)
dealer_is_of config inboxes sweeps count all (fault.Told dealer) e = absurd e
dealer_is_of config inboxes sweeps count all (fault.Sweep room) e = absurd e
dealer_is_of config inboxes sweeps count all (fault.Shown dealer) e = absurd e
dealer_is_of config inboxes sweeps count all (fault.Relayed room) e = absurd e
dealer_is_of config inboxes sweeps count all (fault.Answered room) e = absurd e
dealer_is_of config inboxes sweeps count all (fault.Acted firm) e = absurd e
dealer_is_of config inboxes sweeps count all fault.Memory e = tt

-- a firm of the investors
pub investor_is_of : (config : Configuration) (inboxes : List (List Inbound)) (sweeps : List Sweep)
    (first count : ℕ) → first ≡ length config.dealers → count ≡ length config.investors
    → (why : DayFault) → IsInboxAmong first count why → IsFaultOf config inboxes sweeps why
investor_is_of config inboxes sweeps first count from all (fault.Inbox firm) e =
    let below : firm < first + count = e.1 in omega (arith, from, all, below)
investor_is_of config inboxes sweeps first count from all (fault.Told dealer) e = absurd e
investor_is_of config inboxes sweeps first count from all (fault.Sweep room) e = absurd e
investor_is_of config inboxes sweeps first count from all (fault.Shown dealer) e = absurd e
investor_is_of config inboxes sweeps first count from all (fault.Relayed room) e = absurd e
investor_is_of config inboxes sweeps first count from all (fault.Answered room) e = absurd e
investor_is_of config inboxes sweeps first count from all (fault.Acted firm) e = absurd e
investor_is_of config inboxes sweeps first count from all fault.Memory e = tt

-- the first fault of a joined day of the venue
pub first_is_of : (config : Configuration) (inboxes : List (List Inbound)) (sweeps : List Sweep)
    (joined : JoinedDay) → IsJoinedOf config inboxes joined → (why : DayFault)
    → IsFirstOf config sweeps joined why → IsFaultOf config inboxes sweeps why
first_is_of config inboxes sweeps joined of_day (fault.Told dealer) e =
    record { joined = joined; joined_of = of_day; first = e }
first_is_of config inboxes sweeps joined of_day (fault.Sweep room) e =
    inl (record { joined = joined; joined_of = of_day; first = e })
first_is_of config inboxes sweeps joined of_day (fault.Shown dealer) e =
    record { joined = joined; joined_of = of_day; first = e }
first_is_of config inboxes sweeps joined of_day (fault.Relayed room) e =
    record { joined = joined; joined_of = of_day; first = e }
first_is_of config inboxes sweeps joined of_day (fault.Answered room) e =
    record { joined = joined; joined_of = of_day; first = e }
first_is_of config inboxes sweeps joined of_day (fault.Acted firm) e =
    record { joined = joined; joined_of = of_day; first = e }
first_is_of config inboxes sweeps joined of_day (fault.Inbox firm) e = absurd e
first_is_of config inboxes sweeps joined of_day fault.Memory e = tt
