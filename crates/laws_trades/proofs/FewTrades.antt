-- Two firms have at most as many trades as the dealer may have quotes in a day: each was told once, and
-- is of a quote of its own.
use Rattle.std.proofs.Common.{◌≡◌, ℕ, ◌+◌, ◌≤◌, ◌==◌, true, List, [], ◌∷◌, filter, filter_map, length, suc}
use Rattle.std.proofs.Common.{Option, Some, None, refl, sym, ap, ◌∙◌, subst, inl, inr, arith, eq-eqb}
use Rattle.std.proofs.lemmas.Bool.{cases_Bool}
use Rattle.market_terms.specs.declared.closes.Close.TheVariants as closes
use Rattle.market_terms.specs.declared.rooms.RoomRef.{RoomRef}
use Rattle.venue_rows.specs.Rows.{Configuration, dealer_numbered}
use Rattle.venue_rows.specs.declared.dealer_rows.DealerRow.{DealerRow}
use Rattle.dealer_desk.specs.DealerFacts.{DealerFact, Quoted, Told, book_of, quotes_accepted, standings}
use Rattle.dealer_desk.specs.DealerFacts.{tells}
use Rattle.dealer_desk.specs.DealerOutput.{DeskState, desk_after}
use Rattle.dealer_desk.specs.declared.accepted.AcceptedQuote.{AcceptedQuote}
use Rattle.dealer_desk.specs.declared.events.DealerEvent.{DealerEvent}
use Rattle.step_replay.specs.AuditTrail.{audit_trail}
use Rattle.step_replay.specs.DealerTrail.{DealerEntry, facts_of}
use Rattle.step_replay.specs.Lists.{In}
use Rattle.step_replay.specs.VenueFacts.{of_dealer}
use Rattle.step_replay.specs.declared.steps.Step.{Step}
use Rattle.laws_days.specs.LiveDuties.{NoDutyIsLeft}
use Rattle.laws_trades.specs.TradeNames.{notice_in, notices_to}
use Rattle.laws_trades.specs.Trades.{Trade}
use Rattle.laws_days.proofs.ListLemmas.{cases_some}
use Rattle.laws_trades.proofs.NoticedDays.{day_seen}

-- Lists of which no item stands twice.

abbrev Apart : List ℕ → Type 0
Apart [] = Unit {0}
Apart (x ∷ xs) = (In x xs → ⊥) × Apart xs

without : (x : ℕ) (ys : List ℕ) → In x ys
    → (rest : List ℕ) × (length ys ≡ suc (length rest)) × ((z : ℕ) → In z ys → (x ≡ z → ⊥) → In z rest)
without x [] is = absurd is
without x (y ∷ ys) (inl is) = (ys, refl, λ z among other. behind z among other)
  where
    behind : (z : ℕ) → In z (y ∷ ys) → (x ≡ z → ⊥) → In z ys
    behind z (inl here) other = absurd (other (sym is ∙ here))
    behind z (inr later) other = later
without x (y ∷ ys) (inr is) =
    let found = without x ys is in
    (y ∷ found.0, ap suc found.1, λ z among other. among_more found.0 found.2 z among other)
  where
    among_more : (rest : List ℕ) → ((z : ℕ) → In z ys → (x ≡ z → ⊥) → In z rest) → (z : ℕ)
        → In z (y ∷ ys) → (x ≡ z → ⊥) → In z (y ∷ rest)
    among_more rest more z (inl here) other = inl here
    among_more rest more z (inr later) other = inr (more z later other)

-- such a list is no longer than one that has all its items
no_longer : (xs ys : List ℕ) → Apart xs → ((z : ℕ) → In z xs → In z ys) → length xs ≤ length ys
no_longer [] ys apart all = omega arith
no_longer (x ∷ xs) ys apart all =
    let found = without x ys (all x (inl refl)) in
    let rest : length xs ≤ length found.0 =
    no_longer xs found.0 apart.1 (λ z among. found.2 z (all z (inr among))
    (λ same. apart.0 (subst (λ (n : ℕ). In n xs) (sym same) among))) in
    let one = found.1 in
    omega (arith, rest, one)

-- Notices of hits.

abbrev hit_told : DealerFact → Option ℕ
hit_told (Told request closes.Hit moment) = Some request
hit_told fact = None

-- the requests of which the dealer was told 694=1
abbrev hits_told : List DealerFact → List ℕ
hits_told facts = filter_map hit_told facts

-- those of one investor are no more
fewer : (investor : List ℕ) (trail : List DealerEntry) (facts : List DealerFact)
    → length (filter_map (notice_in investor trail) facts) ≤ length (hits_told facts)
fewer investor trail [] = omega arith
fewer investor trail (Told request closes.Hit moment ∷ facts) =
    let later = fewer investor trail facts in
    elim (cases_some (notice_in investor trail (Told request closes.Hit moment))) [
      | inl none ↦ rw none (omega (arith, later))
      | inr some ↦ rw (some.1) (omega (arith, later))
    ]
fewer investor trail (fact ∷ facts) = fewer investor trail facts

-- how often the dealer was told of a request
abbrev times : ℕ → List DealerFact → ℕ
times request facts = length (filter (tells request) facts)

more_times : (request : ℕ) (fact : DealerFact) (facts : List DealerFact)
    → times request facts ≤ times request (fact ∷ facts)
more_times request fact facts = elim (cases_Bool (tells request fact)) [
  | inl test ↦ rw test (omega arith)
  | inr test ↦ rw test (omega arith)
]

some_time : (request : ℕ) (facts : List DealerFact) → In request (hits_told facts)
    → 1 ≤ times request facts
some_time request [] is = absurd is
some_time request (Told other closes.Hit moment ∷ facts) (inl is) =
    rw (eq-eqb other request is) (omega arith)
some_time request (Told other closes.Hit moment ∷ facts) (inr is) =
    let later = some_time request facts is in
    let more = more_times request (Told other closes.Hit moment) facts in
    omega (arith, later, more)
some_time request (fact ∷ facts) is =
    let later = some_time request facts is in
    let more = more_times request fact facts in
    omega (arith, later, more)

told_apart : (facts : List DealerFact)
    → ((request : ℕ) → In request (hits_told facts) → times request facts ≤ 1)
    → Apart (hits_told facts)
told_apart [] once = tt
told_apart (Told request closes.Hit moment ∷ facts) once = (never, told_apart facts later)
  where
    never : In request (hits_told facts) → ⊥
    never among =
        let more : 1 ≤ times request facts = some_time request facts among in
        let all = once request (inl refl) in
        let both : suc (times request facts) ≤ 1 = rw (eq-eqb request request refl) at all in
        absurd (omega (arith, more, both))

    later : (other : ℕ) → In other (hits_told facts) → times other facts ≤ 1
    later other among =
        let all = once other (inr among) in
        let more = more_times other (Told request closes.Hit moment) facts in
        omega (arith, all, more)
told_apart (fact ∷ facts) once =
    told_apart facts (λ other among.
    let all = once other among in
    let more = more_times other fact facts in
    omega (arith, all, more))

told_there : (request : ℕ) (facts : List DealerFact) → In request (hits_told facts)
    → (moment : ℕ) × In (Told request closes.Hit moment) facts
told_there request [] is = absurd is
told_there request (Told other closes.Hit moment ∷ facts) (inl is) =
    (moment, inl (ap (λ (n : ℕ). Told n closes.Hit moment) is))
told_there request (Told other closes.Hit moment ∷ facts) (inr is) =
    let later = told_there request facts is in (later.0, inr later.1)
told_there request (fact ∷ facts) is =
    let later = told_there request facts is in (later.0, inr later.1)

-- Quotes.

abbrev quoted_on : DealerFact → Option ℕ
quoted_on (Quoted quote) = Some quote.request
quoted_on fact = None

quoted_there : (quote : AcceptedQuote) (facts : List DealerFact) → In (Quoted quote) facts
    → In quote.request (filter_map quoted_on facts)
quoted_there quote [] is = absurd is
quoted_there quote (fact ∷ facts) (inl is) =
    subst (λ (f : DealerFact). In quote.request (filter_map quoted_on (f ∷ facts))) (sym is) (inl refl)
quoted_there quote (Quoted other ∷ facts) (inr is) = inr (quoted_there quote facts is)
quoted_there quote (fact ∷ facts) (inr is) = quoted_there quote facts is

quotes_counted : (facts : List DealerFact) → length (filter_map quoted_on facts) ≡ length (standings facts)
quotes_counted [] = refl
quotes_counted (Quoted quote ∷ facts) = ap suc (quotes_counted facts)
quotes_counted (fact ∷ facts) = quotes_counted facts

-- After every list of steps that leaves no duty.

-- each notice of a hit is of a trade
abbrev pub AreOfTrades : Type 0
AreOfTrades = (config : Configuration) (steps : List Step) (dealer : ℕ) (row : DealerRow)
    (request moment : ℕ) → NoDutyIsLeft (audit_trail config steps)
    → dealer_numbered config dealer ≡ Some row
    → In (Told request closes.Hit moment) (facts_of (of_dealer dealer (audit_trail config steps).facts))
    → (trade : Trade config (audit_trail config steps).facts)
    × (trade.deal.dealer ≡ dealer) × (trade.deal.quote.request ≡ request)

-- a desk keeps the limit of its quotes
abbrev pub KeepsQuotes : Type 0
KeepsQuotes = (date : List ℕ) (row : DealerRow) (events : List DealerEvent)
    → quotes_accepted (book_of (desk_after date row events).facts) ≤ row.quotes

module _ (agree : AreOfTrades) (keeps : KeepsQuotes) (config : Configuration) (steps : List Step)
    (idle : NoDutyIsLeft (audit_trail config steps)) (dealer : ℕ) (row : DealerRow)
    (is_row : dealer_numbered config dealer ≡ Some row) where
  abbrev facts : List DealerFact
  facts = facts_of (of_dealer dealer (audit_trail config steps).facts)

  abbrev at_desk : ℕ → List DealerFact
  at_desk number = facts_of (of_dealer number (audit_trail config steps).facts)

  once : (request : ℕ) → In request (hits_told facts) → times request facts ≤ 1
  once request among =
      let there = told_there request facts among in
      let found = agree config steps dealer row request there.0 idle is_row there.1 in
      let trade = found.0 in
      let all : times trade.deal.quote.request (at_desk trade.deal.dealer) ≡ 1 =
      ap length trade.told.once in
      let same : times request facts ≡ 1 =
      subst (λ (n : ℕ). times n facts ≡ 1) found.2
      (subst (λ (d : ℕ). times trade.deal.quote.request (at_desk d) ≡ 1) found.1 all) in
      omega (arith, same)

  quoted : (request : ℕ) → In request (hits_told facts) → In request (filter_map quoted_on facts)
  quoted request among =
      let there = told_there request facts among in
      let found = agree config steps dealer row request there.0 idle is_row there.1 in
      let trade = found.0 in
      subst (λ (n : ℕ). In n (filter_map quoted_on facts)) found.2
      (quoted_there trade.deal.quote facts
      (subst (λ (d : ℕ). In (Quoted trade.deal.quote) (at_desk d)) found.1 trade.deal.was_quoted))

  pub few_trades : (investor : List ℕ)
      → length (notices_to investor (of_dealer dealer (audit_trail config steps).facts)) ≤ 4096
  few_trades investor =
      let seen = day_seen config dealer row is_row steps in
      let same : (desk_after config.date row seen.events).facts ≡ facts =
      ap (λ (state : DeskState). state.facts) seen.state_is in
      let limit : quotes_accepted (book_of facts) ≤ row.quotes =
      subst (λ (f : List DealerFact). quotes_accepted (book_of f) ≤ row.quotes) same
      (keeps config.date row seen.events) in
      let least = fewer investor (of_dealer dealer (audit_trail config steps).facts) facts in
      let told = no_longer (hits_told facts) (filter_map quoted_on facts)
      (told_apart facts once) quoted in
      let counted = quotes_counted facts in
      let most : row.quotes ≤ 4096 = row.quotes_to in
      omega (arith, limit, least, told, counted, most)
