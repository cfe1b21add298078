-- What a day comes to by what stands in it earlier: who won a room, and which request a dealer was
-- shown.
use Rattle.laws_days.proofs.Common.{List, Some, ℕ, ap, arith, eq-eqb}
use Rattle.laws_days.proofs.Common.{inl, inr, refl, subst, sym, true}
use Rattle.laws_days.proofs.Common.{◌++◌, ◌+◌, ◌-◌, ◌==◌, ◌∙◌, ◌≡◌, append_assoc}
use Rattle.laws_days.proofs.Common.{cases_Bool, eqb-true, filter_map-append}
use Rattle.laws_days.proofs.Common.{same_Some, slice_get, Ask, Close, RoomRef}
use Rattle.laws_days.proofs.Common.{Configuration, dealer_numbered, investor_numbered, DealerRow}
use Rattle.laws_days.proofs.Common.{InvestorRow, Offered, ShownOffer, end_of}
use Rattle.laws_days.proofs.Common.{ended_as, End, close_for, AuditTrail, rooms_by, In}
use Rattle.laws_days.proofs.Common.{room_grown, dealer_grown, Fact, of_dealer, of_room, QuoteRef}
use Rattle.laws_days.proofs.Common.{quote_with_word, word_for, dealer_of, Asked, both_ways}
use Rattle.std.proofs.lemmas.Bool.{false_from_ne_true}
use Rattle.market_terms.specs.declared.closes.Close.TheVariants as closes
use Rattle.market_terms.specs.declared.rooms.Offer.{Offer}
use Rattle.venue_rows.specs.Rows.{KeepsLimits}
use Rattle.dealer_desk.specs.DealerOutput as dealer_output
use Rattle.step_replay.specs.GrowthLemmas.{number_grown, said_grown}
use Rattle.step_replay.specs.OwnerLemmas.{quote_at}
use Rattle.laws_days.proofs.ShownRequests.{number_place}
use Rattle.laws_days.proofs.VenueInvariant.{VenueOk}
use Rattle.laws_days.proofs.VenueParts.{investor_facts, number_for}
use Rattle.laws_days.proofs.FirmNames.{same_investor}
use Rattle.laws_trades.specs.TradeNames.{was_asked_by}
use Rattle.laws_trades.specs.Trades.{room_of}
use Rattle.laws_trades.proofs.TradeFound.{asks_for, at_market, award_left, one_winner}
use Rattle.laws_trades.proofs.TradeFound.{owner, told_winner, winner_told}
use Rattle.laws_trades.proofs.NameParts.{Pair, has_won, is_hit}
use Rattle.laws_trades.proofs.TradeParts.{AskedBy, AwardLeft, AwardedTo, OfferOf, TradeOk}

-- Later facts.

-- a day comes to these facts
abbrev pub ComesTo : List Fact → List Fact → Type 0
ComesTo facts final = (more : List Fact) × (final ≡ facts ++ more)

pub comes_from : (facts more final : List Fact) → ComesTo (facts ++ more) final
    → ComesTo facts final
comes_from facts more final comes =
    (more ++ comes.0, comes.1 ∙ append_assoc facts more comes.0)

pub end_comes : (facts final : List Fact) → ComesTo facts final → (room : RoomRef) (end : End)
    → end_of (of_room room facts) ≡ Some end → end_of (of_room room final) ≡ Some end
end_comes facts final comes room end is =
    rw (comes.1, room_grown room facts comes.0)
    (said_grown ended_as (of_room room facts) (of_room room comes.0) end is)

pub number_comes : (facts final : List Fact) → ComesTo facts final → (dealer : ℕ) (room : RoomRef)
    (number : ℕ) → number_for facts dealer room ≡ Some number
    → number_for final dealer room ≡ Some number
number_comes facts final comes dealer room number is =
    rw (comes.1, dealer_grown dealer facts comes.0, filter_map-append)
    (number_grown 1 _ _ room number is)

-- Who won.

pub hit_only : (close : Close) → is_hit close ≡ true → close ≡ closes.Hit
hit_only closes.Hit is = refl
hit_only other is = cc

module _ (p : Pair) where
  pub won_is : {facts : List Fact} {room : RoomRef} {winner word : ℕ}
      → AwardedTo facts room winner word → ComesTo facts p.final
      → has_won p room ≡ (winner == p.dealer)
  won_is {facts} {room} {winner} {word} award comes =
      let ends = end_comes facts p.final comes room award.end award.end_is in
      elim (cases_Bool (winner == p.dealer)) [
        | inl test ↦
            let same = eqb-true winner p.dealer test in
            rw (ends, test, ← same) (ap is_hit (winner_told award))
        | inr differs ↦ rw (ends, differs) (false_from_ne_true (is_hit (close_for award.end p.dealer))
            (λ hit.
            let won = told_winner award award.end p.dealer award.end_is
            (hit_only (close_for award.end p.dealer) hit) in
            both_ways (winner == p.dealer) differs (eq-eqb winner p.dealer (sym won))))
      ]

-- The name of the dealer that a quote shows is that of the winner, where it won.
pub shown_won : {config : Configuration} {venue : AuditTrail} (stood : VenueOk config venue)
    (trades : TradeOk config venue) (room : RoomRef) (shown : ShownOffer) (winner : ℕ)
    → In (Offered shown) (investor_facts venue.facts room.investor) → shown.request ≡ room.n
    → AwardedTo venue.facts room winner shown.offer.word
    → (row : DealerRow) × (dealer_numbered config winner ≡ Some row)
    × (shown.offer.dealer ≡ row.name)
shown_won {config} {venue} stood trades room shown winner was_shown on award =
    let offer : OfferOf config venue.facts room shown.offer =
    subst (λ (n : ℕ). OfferOf config venue.facts (room_of room.investor n) shown.offer) on
    (at_market stood trades room.investor (Offered shown) was_shown) in
    let left : AwardLeft config room venue =
    award_left stood trades room award.end award.end_is award.kind_is in
    let one = one_winner left.lift.award award in
    let words : word_for config (dealer_of left.dealer left.lift.row) left.quote
    ≡ word_for config (dealer_of offer.dealer offer.row) offer.own.number =
    one.1 ∙ ap (λ (o : Offer). o.word) offer.offer_is in
    let same = same_Some (quote_at left.dealer left.quote) (quote_at offer.dealer offer.own.number)
    (sym (owner config left.dealer left.lift.row left.quote left.lift.row_is left.lift.within)
    ∙ ap (quote_with_word config) words
    ∙ owner config offer.dealer offer.row offer.own.number offer.row_is offer.within) in
    let dealer : offer.dealer ≡ winner = sym (ap (λ (r : QuoteRef). r.dealer) same) ∙ one.0 in (
      offer.row,
      subst (λ (d : ℕ). dealer_numbered config d ≡ Some offer.row) dealer offer.row_is,
      ap (λ (o : Offer). o.dealer) offer.offer_is,
    )

-- The request that a dealer was shown for a room is asked for by the investor of the room.
pub asked_is : {config : Configuration} {venue : AuditTrail} (stood : VenueOk config venue)
    (trades : TradeOk config venue) (limits : KeepsLimits config) (dealer : ℕ) (row : DealerRow)
    → dealer_numbered config dealer ≡ Some row → (investor : ℕ) (investor_row : InvestorRow)
    → investor_numbered config investor ≡ Some investor_row → (room : RoomRef) (request : ℕ)
    → number_for venue.facts dealer room ≡ Some request
    → was_asked_by investor_row.name (of_dealer dealer venue.facts) request
    ≡ (room.investor == investor)
asked_is {config} {venue} stood trades limits dealer row is investor investor_row buys room request found =
    let asks = asks_for stood trades dealer row is room request found in
    let asked : AskedBy config room.investor asks.2.asked =
    at_market stood trades room.investor (Asked asks.2.asked) asks.2.was_asked in
    let name : asks.0.investor ≡ asked.row.name =
    ap (λ (a : Ask). a.investor) (sym asks.2.ask_is) ∙ asked.name_is in
    rw (asks.1, name) (same_investor config limits room.investor investor asked.row investor_row asked.row_is
    buys)

-- The room of a request is the one in which it was shown.
pub room_is : (facts : List Fact) (dealer : ℕ) (room : RoomRef) (request : ℕ)
    → number_for facts dealer room ≡ Some request
    → dealer_output.room_of (rooms_by (of_dealer dealer facts)) request ≡ Some room
room_is facts dealer room request found =
    let rooms = rooms_by (of_dealer dealer facts) in
    let at = number_place 1 rooms room request found in
    let number : request ≡ 1 + at.0 = at.1 in
    let place : request - 1 ≡ at.0 = omega arith in
    ap (slice_get rooms) place ∙ at.2
