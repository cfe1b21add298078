-- Both lines of a trade have one name, and no other trade has it.
use Rattle.std.proofs.Common.{◌≡◌, ℕ, ◌+◌, ◌-◌, ◌<◌, ◌≤◌, ◌==◌, List, [], ◌∷◌, ◌++◌, filter_map, length}
use Rattle.std.proofs.Common.{Some, refl, sym, ap, ◌∙◌, subst, inl, inr, slice_get, drop, arith, decimal}
use Rattle.std.proofs.Common.{◌^◌, true}
use Rattle.std.proofs.lemmas.Bool.{eqb-true}
use Rattle.std.proofs.lemmas.Fmt.{decimal_injective}
use Rattle.std.proofs.lemmas.List.{length-append}
use Rattle.std.proofs.lemmas.List.Elements.{filter_map-append}
use Rattle.std.proofs.lemmas.Option.{same_Some}
use Rattle.std.proofs.lemmas.Slice.Eq.{bytes_eq-Decides}
use Rattle.market_terms.specs.declared.rooms.RoomRef.{RoomRef}
use Rattle.venue_rows.specs.Rows.{Configuration, KeepsLimits, dealer_numbered, investor_numbered}
use Rattle.venue_rows.specs.declared.dealer_rows.DealerRow.{DealerRow}
use Rattle.venue_rows.specs.declared.investor_rows.InvestorRow.{InvestorRow}
use Rattle.note_lines.specs.NoteLines.{trade_name}
use Rattle.investor_desk.specs.InvestorFacts.{InvestorFact}
use Rattle.step_replay.specs.AuditTrail.{audit_trail}
use Rattle.step_replay.specs.Lists.{In}
use Rattle.step_replay.specs.VenueFacts.{of_dealer}
use Rattle.step_replay.specs.declared.steps.Step.{Step}
use Rattle.laws_trades.specs.TradeNames.{hit_in, hits_of, notices_to}
use Rattle.laws_trades.specs.Trades.{Deal, Trade, answered, at_investor, room_of}
use Rattle.laws_days.proofs.FirmNames.{dealer_name, investor_name, same_investor}
use Rattle.laws_trades.specs.TradeLines.{AreNamed}
use Rattle.laws_trades.proofs.NamedTrades.{IsNamed, named}
use Rattle.laws_trades.proofs.NoticedDays.{SameNotes, noticed_of}
use Rattle.laws_trades.proofs.PrintedDays.{printed_of}
use Rattle.laws_trades.proofs.PrintedLemmas.{text_self}
use Rattle.laws_trades.proofs.TradeTexts.{firm_plain, one_name}

in_split : {A : Type 0} (x : A) (xs : List A) → In x xs
    → (before : List A) × (later : List A) × (xs ≡ before ++ x ∷ later)
in_split x [] is = absurd is
in_split x (y ∷ xs) (inl is) = ([], xs, ap (λ z. z ∷ xs) is)
in_split x (y ∷ xs) (inr is) =
    let found = in_split x xs is in (y ∷ found.0, found.1, ap (λ l. y ∷ l) found.2)

-- Both sides.

-- the two lists of the trades of an investor and a dealer are one
abbrev pub OneList : Configuration → List Step → ℕ → ℕ → List ℕ → List ℕ → Type 0
OneList config steps investor dealer name_of_investor name_of_dealer =
    hits_of investor name_of_dealer (audit_trail config steps).facts
    ≡ notices_to name_of_investor (of_dealer dealer (audit_trail config steps).facts)

pub named_alike : SameNotes → (config : Configuration) (steps : List Step) (investor_row : InvestorRow)
    (trade : Trade config (audit_trail config steps).facts)
    → investor_numbered config trade.deal.investor ≡ Some investor_row
    → OneList config steps trade.deal.investor trade.deal.dealer investor_row.name trade.deal.row.name
    → (name : List ℕ) × AreNamed config (audit_trail config steps) trade.deal investor_row name
named_alike same config steps investor_row trade is_investor one_list =
    let deal = trade.deal in
    let facts = (audit_trail config steps).facts in
    let says = hit_in deal.investor deal.row.name in
    let room = room_of deal.investor deal.asked.number in
    let found = in_split (answered deal.asked.number deal.shown.number deal.row.name deal.quote.price)
    (at_investor deal.investor facts) trade.told.is_answered in
    let before = filter_map says found.0 in
    let later = filter_map says found.1 in
    let one : filter_map says (answered deal.asked.number deal.shown.number deal.row.name deal.quote.price
    ∷ found.1) ≡ room ∷ later = rw (text_self deal.row.name) refl in
    let hits : hits_of deal.investor deal.row.name facts ≡ before ++ room ∷ later =
    ap (filter_map says) found.2
    ∙ filter_map-append says found.0
    (answered deal.asked.number deal.shown.number deal.row.name deal.quote.price ∷ found.1)
    ∙ ap (λ (l : List RoomRef). before ++ l) one in
    let bought = printed_of config deal.investor investor_row is_investor deal.row.name steps before later room
    hits in
    let sold = noticed_of config deal.dealer deal.row deal.is_dealer investor_row.name same steps before later
    room (sym one_list ∙ hits) in (
      trade_name config.date investor_row.name deal.row.name (length before + 1),
      record {
        to_investor = bought.number;
        tells_investor = bought.tells;
        investor_line = bought.line;
        to_dealer = sold.number;
        tells_dealer = sold.tells;
        dealer_line = sold.line;
      },
    )

-- No other trade.

get_at : {A : Type 0} (xs ys : List A) (x : A) → slice_get (xs ++ x ∷ ys) (length xs) ≡ Some x
get_at [] ys x = refl
get_at (y ∷ xs) ys x = get_at xs ys x

module _ (config : Configuration) (limits : KeepsLimits config) (steps : List Step) (name : List ℕ)
    (investor_row another : InvestorRow) (deal other : Deal config (audit_trail config steps).facts)
    (is_investor : investor_numbered config deal.investor ≡ Some investor_row)
    (is_another : investor_numbered config other.investor ≡ Some another)
    (few : length (hits_of deal.investor deal.row.name (audit_trail config steps).facts) ≤ 4096)
    (is : AreNamed config (audit_trail config steps) deal investor_row name)
    (is_too : AreNamed config (audit_trail config steps) other another name) where
  own : IsNamed config.date investor_row.name deal.row.name deal.investor deal.asked.number
      (hits_of deal.investor deal.row.name (audit_trail config steps).facts) name
  own = named config deal.investor investor_row is_investor deal.row.name steps deal.asked.number is.to_investor
      name is.tells_investor is.investor_line

  its : IsNamed config.date another.name other.row.name other.investor other.asked.number
      (hits_of other.investor other.row.name (audit_trail config steps).facts) name
  its = named config other.investor another is_another other.row.name steps other.asked.number
      is_too.to_investor name is_too.tells_investor is_too.investor_line

  parts : (investor_row.name ≡ another.name) × (deal.row.name ≡ other.row.name)
      × (decimal (length own.before + 1) ≡ decimal (length its.before + 1))
  parts =
      one_name config.date investor_row.name another.name deal.row.name other.row.name
      (length own.before + 1) (length its.before + 1)
      (firm_plain config limits deal.investor investor_row.name
      (investor_name config deal.investor investor_row is_investor))
      (firm_plain config limits other.investor another.name
      (investor_name config other.investor another is_another))
      (firm_plain config limits deal.dealer deal.row.name
      (dealer_name config deal.dealer deal.row deal.is_dealer))
      (firm_plain config limits other.dealer other.row.name
      (dealer_name config other.dealer other.row other.is_dealer))
      (sym own.name_is ∙ its.name_is)

  investors : deal.investor ≡ other.investor
  investors =
      eqb-true deal.investor other.investor
      (sym (same_investor config limits deal.investor other.investor investor_row another is_investor is_another)
      ∙ (bytes_eq-Decides investor_row.name another.name).1 parts.0)

  hits : hits_of deal.investor deal.row.name (audit_trail config steps).facts
      ≡ its.before ++ room_of other.investor other.asked.number ∷ its.later
  hits =
      ap (λ (i : ℕ). hits_of i deal.row.name (audit_trail config steps).facts) investors
      ∙ ap (λ (n : List ℕ). hits_of other.investor n (audit_trail config steps).facts) parts.1
      ∙ its.hits_are

  places : length own.before ≡ length its.before
  places =
      let one = ap length own.hits_are
      ∙ length-append own.before (room_of deal.investor deal.asked.number ∷ own.later) in
      let two = ap length hits
      ∙ length-append its.before (room_of other.investor other.asked.number ∷ its.later) in
      let low : (length own.before + 1) < 2 ^ 64 = omega (arith, one, few) in
      let high : (length its.before + 1) < 2 ^ 64 = omega (arith, two, few) in
      let equal = decimal_injective (length own.before + 1) (length its.before + 1) low high parts.2 in
      omega (arith, equal)

  room_same : room_of deal.investor deal.asked.number ≡ room_of other.investor other.asked.number
  room_same =
      same_Some _ _
      (sym (get_at own.before own.later (room_of deal.investor deal.asked.number))
      ∙ ap (λ (l : List RoomRef). slice_get l (length own.before)) (sym own.hits_are ∙ hits)
      ∙ ap (slice_get (its.before ++ room_of other.investor other.asked.number ∷ its.later)) places
      ∙ get_at its.before its.later (room_of other.investor other.asked.number))

  pub one_trade : (deal.investor ≡ other.investor) × (deal.asked.number ≡ other.asked.number)
  one_trade = (investors, ap (λ (r : RoomRef). r.n) room_same)
