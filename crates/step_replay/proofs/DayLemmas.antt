-- The day of each firm: what a venue has of it by the facts, and at its places.
use Rattle.step_replay.proofs.Common.{◌≡◌, ◌<◌, ◌≤◌, ℕ, suc, ◌+◌, ◌-◌, Bool, true, false, nat_lt}
use Rattle.step_replay.proofs.Common.{◌⊎◌, inl, inr, if◌then◌else◌, List, [], ◌∷◌, ◌++◌, length}
use Rattle.step_replay.proofs.Common.{map, Some, None, option_map, is_some, refl, sym, ap, ◌∙◌}
use Rattle.step_replay.proofs.Common.{subst, arith, slice_get, cases_lt, elements, length-append}
use Rattle.step_replay.proofs.Common.{map-append, gets, slice_get_past, Configuration, DealerRow}
use Rattle.step_replay.proofs.Common.{InvestorRow, book_of, DeskState, desk_after, InvestorMarket}
use Rattle.step_replay.proofs.Common.{FirmDay, firm_days, dealer_day_at, investor_day_at, is_dealer}
use Rattle.step_replay.proofs.Common.{sent_by_facts, Match, has_item, DealerIs, InvestorStands}
use Rattle.step_replay.proofs.Common.{Stands, firms_of, Fact, of_dealer, of_investor, DealerPlace}
use Rattle.step_replay.proofs.Common.{Floor, InvestorPlace}
use Rattle.std.proofs.Common.{append_assoc}
use Rattle.std.specs.List.{range_with_len}
use Rattle.std.proofs.lemmas.Bool.{ltb-false, ltb-true}
use Rattle.std.proofs.lemmas.List.FromFn.{get_or-map-range_with_len, length-map-range_with_len}
use Rattle.std.proofs.lemmas.Simd.{map-map}
use Rattle.dealer_desk.specs.QuoteLines as quotes
use Rattle.investor_desk.specs.InvestorFacts as investor_facts
use Rattle.investor_desk.specs.InvestorOutput as investor
use Rattle.investor_desk.specs.RequestLines as requests
use Rattle.market_terms.specs.DayLines.{OfDealer, OfInvestor}
use Rattle.step_replay.specs.DealerTrail as dealer_trail
use Rattle.step_replay.specs.FirmDays.{dealer_day, dealer_days, investor_day, investor_days}
use Rattle.step_replay.specs.FloorDays.{days_of_floor}
use Rattle.step_replay.specs.InvestorTrail as investor_trail

-- What is so of each number from one on, as many as a list has items.

abbrev numbered : {X Y : Type 0} → (ℕ → Y) → ℕ → List X → List Y
numbered f number xs = map f (range_with_len number (length xs))

-- by two functions, one behind the other
module _ {Y : Type 0} (f g : ℕ → Y) (n m i : ℕ) where
  abbrev both : List Y
  both = map f (range_with_len 0 n) ++ map g (range_with_len n m)

  get_first : i < n → slice_get both i ≡ Some (f i)
  get_first low = grind (arith, gets, elements, get_or-map-range_with_len, length-map-range_with_len)

  get_second : n ≤ i → i < n + m → slice_get both i ≡ Some (g i)
  get_second high low =
      grind (arith, gets, elements, get_or-map-range_with_len, length-map-range_with_len)

  get_none : n + m ≤ i → slice_get both i ≡ None
  get_none past = grind (arith, gets, length-append, length-map-range_with_len)

mapped : {X Y Z : Type 0} (P : ℕ → X → Y → Type 0) (f : ℕ → Z) (g : Y → Z)
    → ((n : ℕ) (x : X) (y : Y) → P n x y → g y ≡ f n) → (k : ℕ) (xs : List X) (ys : List Y)
    → Match P k xs ys → map g ys ≡ numbered f k xs
mapped P f g each k [] [] all = refl
mapped P f g each k [] (y ∷ ys) all = absurd all
mapped P f g each k (x ∷ xs) [] all = absurd all
mapped P f g each k (x ∷ xs) (y ∷ ys) all =
    ap (λ z. z ∷ map g ys) (each k x y all.0)
    ∙ ap (λ l. f k ∷ l) (mapped P f g each (k + 1) xs ys all.1)

dealers_numbered : (facts : List Fact) (number : ℕ) (rows : List DealerRow)
    → dealer_days facts number rows ≡ numbered (dealer_day facts) number rows
dealers_numbered facts number [] = refl
dealers_numbered facts number (row ∷ rows) =
    ap (λ l. dealer_day facts number ∷ l) (dealers_numbered facts (number + 1) rows)

investors_numbered : (facts : List Fact) (number : ℕ) (rows : List InvestorRow)
    → investor_days facts number rows ≡ numbered (investor_day facts) number rows
investors_numbered facts number [] = refl
investors_numbered facts number (row ∷ rows) =
    ap (λ l. investor_day facts number ∷ l) (investors_numbered facts (number + 1) rows)

-- One firm at its place.

dealer_day_is : (config : Configuration) (facts : List Fact) (number : ℕ) (row : DealerRow)
    (place : DealerPlace) → DealerIs config facts number row place
    → dealer_day_at place ≡ dealer_day facts number
dealer_day_is config facts number row place stands =
    ap (λ (state : DeskState). record {
      sent = state.sent;
      lines = OfDealer (quotes.lines_of (book_of state.facts));
    })
    (ap (λ d. desk_after d place.desk.row place.desk.events) stands.date_is
    ∙ ap (λ r. desk_after config.date r place.desk.events) stands.row_is
    ∙ stands.state_is)

investor_day_is : (config : Configuration) (facts : List Fact) (number : ℕ) (row : InvestorRow)
    (place : InvestorPlace) → InvestorStands config facts number row place
    → investor_day_at place ≡ investor_day facts number
investor_day_is config facts number row place stands =
    ap (λ (state : investor.DeskState). record {
      sent = state.sent;
      lines = OfInvestor (requests.lines_of (investor_facts.book_of state.facts));
    })
    (ap (λ (m : InvestorMarket). investor.desk_after m place.desk.events) stands.market_is
    ∙ stands.state_is)

module _ (config : Configuration) (facts : List Fact) where
  -- the days of the dealers, and of the investors
  abbrev dealers : List FirmDay
  dealers = numbered (dealer_day facts) 0 config.dealers

  abbrev investors : List FirmDay
  investors = numbered (investor_day facts) (length config.dealers) config.investors

  days_are : firm_days config facts ≡ dealers ++ investors
  days_are = rw (dealers_numbered, investors_numbered) refl

  pub days_stand : (floor : Floor) → Stands config facts floor
      → days_of_floor floor ≡ firm_days config facts
  days_stand floor stands =
      let one = mapped (DealerIs config facts) (dealer_day facts) dealer_day_at
      (dealer_day_is config facts) 0 config.dealers floor.dealers.items stands.dealers_are in
      let other = mapped (InvestorStands config facts) (investor_day facts) investor_day_at
      (investor_day_is config facts) (length config.dealers) config.investors floor.investors.items
      stands.investors_are in
      rw (one, other) (sym days_are)

  -- The day of the firm with a number.

  abbrev day_by : Bool → ℕ → FirmDay
  day_by dealer firm = if dealer then dealer_day facts firm else investor_day facts firm

  day_get : (firm : ℕ) → firm < firms_of config
      → slice_get (firm_days config facts) firm ≡ Some (day_by (is_dealer config firm) firm)
  day_get firm known =
      ap (λ l. slice_get l firm) days_are ∙ by_side (cases_lt firm (length config.dealers))
    where
      by_side : (firm < length config.dealers) ⊎ (length config.dealers ≤ firm)
          → slice_get (dealers ++ investors) firm ≡ Some (day_by (is_dealer config firm) firm)
      by_side (inl within) =
          get_first (dealer_day facts) (investor_day facts) (length config.dealers)
          (length config.investors) firm within
          ∙ ap (λ (b : Bool). Some (day_by b firm)) (sym (has_item config.dealers firm within))
      by_side (inr behind) =
          get_second (dealer_day facts) (investor_day facts) (length config.dealers)
          (length config.investors) firm behind known
          ∙ ap (λ (b : Bool). Some (day_by b firm))
          (sym (ap is_some (slice_get_past config.dealers firm behind)))

  pub no_day : (firm : ℕ) → nat_lt firm (firms_of config) ≡ false
      → slice_get (firm_days config facts) firm ≡ None
  no_day firm unknown = ap (λ l. slice_get l firm) days_are
      ∙ get_none (dealer_day facts) (investor_day facts) (length config.dealers)
      (length config.investors) firm (ltb-false _ _ unknown)

  -- the messages of the day of a firm are those of the audit trail
  pub sent_on_its_day : (firm : ℕ) → nat_lt firm (firms_of config) ≡ true
      → option_map (λ (day : FirmDay). day.sent) (slice_get (firm_days config facts) firm)
      ≡ Some (sent_by_facts config firm facts)
  sent_on_its_day firm known =
      ap (option_map (λ (day : FirmDay). day.sent)) (day_get firm (ltb-true _ _ known))
      ∙ ap Some (by_role (is_dealer config firm))
    where
      by_role : (b : Bool) → (day_by b firm).sent
          ≡ (if b then dealer_trail.sent_by (of_dealer firm facts)
          else investor_trail.sent_by (of_investor firm facts))
      by_role true = refl
      by_role false = refl

-- one more
pub mapped_more : {A B C : Type 0} (f : A → C) (g : B → C) (start : List C) (done : List B)
    (before now : List A) (y : B) (x : A) → map f before ≡ start ++ map g done
    → now ≡ before ++ x ∷ [] → f x ≡ g y → map f now ≡ start ++ map g (done ++ y ∷ [])
mapped_more f g start done before now y x was is same =
    rw (is, map-append, was, same, map-append, append_assoc) refl

sent_mapped : (dealers : List DealerPlace) (investors : List InvestorPlace)
    → map (λ (day : FirmDay). day.sent) (map dealer_day_at dealers ++ map investor_day_at investors)
    ≡ map (λ place. (dealer_day_at place).sent) dealers
    ++ map (λ place. (investor_day_at place).sent) investors
sent_mapped dealers investors = simp (map-append, map-map)

-- the dealers' first, and then the investors'
pub all_sent : {X : Type 0} (items : X → List (List ℕ)) (dealers : List DealerPlace)
    (investors : List InvestorPlace) (start first all : List X) → start ≡ []
    → map items first ≡ map items start ++ map (λ place. (dealer_day_at place).sent) dealers
    → map items all ≡ map items first ++ map (λ place. (investor_day_at place).sent) investors
    → map items all ≡ map (λ (day : FirmDay). day.sent)
    (map dealer_day_at dealers ++ map investor_day_at investors)
all_sent items dealers investors start first all none are is =
    rw (is, are, none) (sym (sent_mapped dealers investors))
