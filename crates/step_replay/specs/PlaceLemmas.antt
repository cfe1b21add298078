-- The facts of each place after an action, and the places of a replay.
use Rattle.std.proofs.Common.{◌≡◌, ◌≢◌, ◌<◌, ◌≤◌, ℕ, zero, suc, ◌==◌, true, false, List, [], ◌∷◌}
use Rattle.std.proofs.Common.{◌++◌, map, filter_map, length, slice_set, get_or, Option, Some, None}
use Rattle.std.proofs.Common.{refl, sym, ap, ◌∙◌, arith, eq-eqb, ◌-◌, Bool, nat_le, if◌then◌else◌}
use Rattle.std.proofs.Common.{nat_lt}
use Rattle.std.specs.Prelude.{slice_get, is_some}
use Rattle.std.proofs.lemmas.List.{append-nil}
use Rattle.std.proofs.lemmas.List.Elements.{filter_map-append}
use Rattle.market_terms.specs.declared.rooms.RoomRef.{RoomRef}
use Rattle.dealer_desk.specs.DealerOutput.{is_same_room}
use Rattle.request_room.specs.RoomFacts.{RoomFact}
use Rattle.step_replay.specs.DealerTrail.{DealerEntry}
use Rattle.step_replay.specs.InvestorTrail.{InvestorEntry}
use Rattle.step_replay.specs.VenueFacts.{Fact, AtDealer, InRoom, AtInvestor, of_dealer, of_room}
use Rattle.step_replay.specs.VenueFacts.{of_investor, entry_at_dealer, fact_in_room}
use Rattle.step_replay.specs.VenueFacts.{entry_at_investor}
use Rattle.std.proofs.lemmas.Bool.Decides.{nat_tests}
use Rattle.venue_rows.specs.Rows.{Configuration, investor_numbered}
use Rattle.venue_rows.specs.declared.investor_rows.InvestorRow.{InvestorRow}
use Rattle.std.proofs.lemmas.Option.{slice_get_within}
use Rattle.step_replay.specs.StepFaults.{firms_of}

-- Lists.

pub get_set_same : {X : Type 0} (xs : List X) (i : ℕ) (x : X) → i < length xs
    → slice_get (slice_set xs i x) i ≡ Some x
get_set_same [] i x within = absurd (omega arith)
get_set_same (y ∷ xs) zero x within = refl
get_set_same (y ∷ xs) (suc i) x within =
    let rest : i < length xs = omega arith in
    get_set_same xs i x rest

pub get_set_other : {X : Type 0} (xs : List X) (i j : ℕ) (x : X) → j ≢ i
    → slice_get (slice_set xs i x) j ≡ slice_get xs j
get_set_other [] i j x differs = refl
get_set_other (y ∷ xs) zero zero x differs = absurd (differs refl)
get_set_other (y ∷ xs) zero (suc j) x differs = refl
get_set_other (y ∷ xs) (suc i) zero x differs = refl
get_set_other (y ∷ xs) (suc i) (suc j) x differs =
    let rest : j ≢ i = λ same. differs (ap suc same) in
    get_set_other xs i j x rest

pub get_beyond : {X : Type 0} (xs : List X) (i : ℕ) → slice_get xs i ≡ None → length xs ≤ i
get_beyond [] i is = omega arith
get_beyond (y ∷ xs) zero is = cc
get_beyond (y ∷ xs) (suc i) is =
    let rest : length xs ≤ i = get_beyond xs i is in
    omega arith

pub get_first : {X : Type 0} (xs ys : List X) (i : ℕ) → i < length xs
    → slice_get (xs ++ ys) i ≡ slice_get xs i
get_first [] ys i within = absurd (omega arith)
get_first (x ∷ xs) ys zero within = refl
get_first (x ∷ xs) ys (suc i) within =
    let inner : i < length xs = omega arith in
    get_first xs ys i inner

pub has_item : {X : Type 0} (xs : List X) (i : ℕ) → i < length xs → is_some (slice_get xs i) ≡ true
has_item [] i within = absurd (omega arith)
has_item (x ∷ xs) zero within = refl
has_item (x ∷ xs) (suc i) within =
    let inner : i < length xs = omega arith in
    has_item xs i inner

-- The facts of a place after more facts.

pub dealer_grown : (number : ℕ) (facts more : List Fact)
    → of_dealer number (facts ++ more) ≡ of_dealer number facts ++ of_dealer number more
unfolding of_dealer
dealer_grown number facts more = filter_map-append (entry_at_dealer number) facts more

pub room_grown : (room : RoomRef) (facts more : List Fact)
    → of_room room (facts ++ more) ≡ of_room room facts ++ of_room room more
unfolding of_room
room_grown room facts more = filter_map-append (fact_in_room room) facts more

pub investor_grown : (number : ℕ) (facts more : List Fact)
    → of_investor number (facts ++ more) ≡ of_investor number facts ++ of_investor number more
unfolding of_investor
investor_grown number facts more = filter_map-append (entry_at_investor number) facts more

-- What adds nothing to a place leaves its facts.

pub dealer_stays : (number : ℕ) (facts more : List Fact) → of_dealer number more ≡ []
    → of_dealer number (facts ++ more) ≡ of_dealer number facts
dealer_stays number facts more none =
    dealer_grown number facts more
    ∙ ap (λ l. of_dealer number facts ++ l) none
    ∙ append-nil (of_dealer number facts)

pub room_stays : (room : RoomRef) (facts more : List Fact) → of_room room more ≡ []
    → of_room room (facts ++ more) ≡ of_room room facts
room_stays room facts more none =
    room_grown room facts more
    ∙ ap (λ l. of_room room facts ++ l) none
    ∙ append-nil (of_room room facts)

pub investor_stays : (number : ℕ) (facts more : List Fact) → of_investor number more ≡ []
    → of_investor number (facts ++ more) ≡ of_investor number facts
investor_stays number facts more none =
    investor_grown number facts more
    ∙ ap (λ l. of_investor number facts ++ l) none
    ∙ append-nil (of_investor number facts)

-- Facts of one place say nothing of another.

pub nothing_of : {X A B : Type 0} (of : X → Option B) (f : A → X) → ((x : A) → of (f x) ≡ None)
    → (xs : List A) → filter_map of (map f xs) ≡ []
nothing_of of f none [] = refl
nothing_of of f none (x ∷ xs) = rw (none x) (nothing_of of f none xs)

pub everything_of : {X A : Type 0} (of : X → Option A) (f : A → X) → ((x : A) → of (f x) ≡ Some x)
    → (xs : List A) → filter_map of (map f xs) ≡ xs
everything_of of f all [] = refl
everything_of of f all (x ∷ xs) = rw (all x) (ap (λ l. x ∷ l) (everything_of of f all xs))

pub own_trail : (number : ℕ) (xs : List DealerEntry) → of_dealer number (map (AtDealer number) xs) ≡ xs
unfolding of_dealer
own_trail number xs =
    let same : (number == number) ≡ true = eq-eqb number number refl in
    everything_of (entry_at_dealer number) (AtDealer number) (λ x. rw same refl) xs

pub other_trail : (number other : ℕ) → (other == number) ≡ false → (xs : List DealerEntry)
    → of_dealer number (map (AtDealer other) xs) ≡ []
unfolding of_dealer
other_trail number other differs xs =
    nothing_of (entry_at_dealer number) (AtDealer other) (λ x. rw differs refl) xs

pub trail_in_room : (number : ℕ) (room : RoomRef) (xs : List RoomFact)
    → of_dealer number (map (InRoom room) xs) ≡ []
unfolding of_dealer
trail_in_room number room xs =
    nothing_of (entry_at_dealer number) (InRoom room) (λ x. refl) xs

pub trail_at_investor : (number other : ℕ) (xs : List InvestorEntry)
    → of_dealer number (map (AtInvestor other) xs) ≡ []
unfolding of_dealer
trail_at_investor number other xs =
    nothing_of (entry_at_dealer number) (AtInvestor other) (λ x. refl) xs

pub own_room : (room : RoomRef) (xs : List RoomFact) → of_room room (map (InRoom room) xs) ≡ xs
unfolding of_room
own_room room xs =
    let investor : (room.investor == room.investor) ≡ true = eq-eqb room.investor room.investor refl in
    let n : (room.n == room.n) ≡ true = eq-eqb room.n room.n refl in
    everything_of (fact_in_room room) (InRoom room) (λ x. rw (investor, n) refl) xs

pub other_room : (room other : RoomRef) → is_same_room other room ≡ false → (xs : List RoomFact)
    → of_room room (map (InRoom other) xs) ≡ []
unfolding of_room
other_room room other differs xs =
    nothing_of (fact_in_room room) (InRoom other) (λ x. rw differs refl) xs

pub room_at_dealer : (room : RoomRef) (number : ℕ) (xs : List DealerEntry)
    → of_room room (map (AtDealer number) xs) ≡ []
unfolding of_room
room_at_dealer room number xs = nothing_of (fact_in_room room) (AtDealer number) (λ x. refl) xs

pub room_at_investor : (room : RoomRef) (number : ℕ) (xs : List InvestorEntry)
    → of_room room (map (AtInvestor number) xs) ≡ []
unfolding of_room
room_at_investor room number xs =
    nothing_of (fact_in_room room) (AtInvestor number) (λ x. refl) xs

pub own_investor : (number : ℕ) (xs : List InvestorEntry)
    → of_investor number (map (AtInvestor number) xs) ≡ xs
unfolding of_investor
own_investor number xs =
    let same : (number == number) ≡ true = eq-eqb number number refl in
    everything_of (entry_at_investor number) (AtInvestor number) (λ x. rw same refl) xs

pub other_investor : (number other : ℕ) → (other == number) ≡ false → (xs : List InvestorEntry)
    → of_investor number (map (AtInvestor other) xs) ≡ []
unfolding of_investor
other_investor number other differs xs =
    nothing_of (entry_at_investor number) (AtInvestor other) (λ x. rw differs refl) xs

pub investor_at_dealer : (number other : ℕ) (xs : List DealerEntry)
    → of_investor number (map (AtDealer other) xs) ≡ []
unfolding of_investor
investor_at_dealer number other xs =
    nothing_of (entry_at_investor number) (AtDealer other) (λ x. refl) xs

pub investor_in_room : (number : ℕ) (room : RoomRef) (xs : List RoomFact)
    → of_investor number (map (InRoom room) xs) ≡ []
unfolding of_investor
investor_in_room number room xs =
    nothing_of (entry_at_investor number) (InRoom room) (λ x. refl) xs

-- What is lent of a list.

pub lent : {X : Type 0} (xs : List X) (i : ℕ) (x : X) → i < length xs → x ≡ get_or xs i x
    → slice_get xs i ≡ Some x
lent [] i x within is = absurd (omega arith)
lent (y ∷ xs) zero x within is = ap (λ z. Some z) (sym is)
lent (y ∷ xs) (suc i) x within is =
    let rest : i < length xs = omega arith in
    lent xs i x rest is

-- An investor's number: behind those of the dealers, and of a firm of the venue.

pub behind_dealers : (config : Configuration) (number : ℕ) (row : InvestorRow)
    → investor_numbered config number ≡ Some row → length config.dealers ≤ number
behind_dealers config number row is = by_test (nat_le (length config.dealers) number) refl is
  where
    by_test : (b : Bool) → nat_le (length config.dealers) number ≡ b
        → (if b then slice_get config.investors (number - length config.dealers) else None)
        ≡ Some row → length config.dealers ≤ number
    by_test true test found = grind (arith, nat_tests)
    by_test false test found = cc

pub numbered_at : (config : Configuration) (number : ℕ) → length config.dealers ≤ number
    → investor_numbered config number
    ≡ slice_get config.investors (number - length config.dealers)
numbered_at config number behind =
    let test : nat_le (length config.dealers) number ≡ true = grind (arith, nat_tests) in
    ap (λ (b : Bool). if b then slice_get config.investors (number - length config.dealers)
    else None) test

pub investor_within : (config : Configuration) (firm : ℕ) (row : InvestorRow)
    → investor_numbered config firm ≡ Some row → nat_lt firm (firms_of config) ≡ true
investor_within config firm row is =
    let behind = behind_dealers config firm row is in
    let there : firm - length config.dealers < length config.investors =
    slice_get_within config.investors (firm - length config.dealers) row
    (sym (numbered_at config firm behind) ∙ is) in
    grind (arith, nat_tests)
