-- Every duty and sweep, by what it adds at investors' desks and by what it leaves.
use Rattle.std.proofs.Common.{◌≡◌, ◌<◌, ◌≤◌, ℕ, ◌+◌, ◌&&◌, true, false, List, [], ◌∷◌}
use Rattle.std.proofs.Common.{option_map, refl, arith}
use Rattle.std.proofs.lemmas.Bool.{and_parts}
use Rattle.std.proofs.lemmas.Bool.Decides.{nat_tests}
use Rattle.market_terms.specs.declared.duties.Duty.{Duty}
use Rattle.market_terms.specs.declared.duties.Duty.TheVariants as duty
use Rattle.market_terms.specs.declared.rooms.RoomRef.{RoomRef}
use Rattle.venue_rows.specs.Rows.{Configuration, has_room}
use Rattle.venue_rows.specs.declared.investor_rows.InvestorRow.{InvestorRow}
use Rattle.investor_desk.specs.InvestorDesk.{market_of}
use Rattle.investor_desk.specs.InvestorFacts.{offers_shown, open_request, request_numbered}
use Rattle.investor_desk.specs.InvestorOutput as investor_output
use Rattle.investor_desk.specs.declared.events.InvestorEvent.{InvestorEvent}
use Rattle.request_room.specs.Book.{event_facts, hit_outcome}
use Rattle.request_room.specs.RoomFacts.{hears}
use Rattle.request_room.specs.declared.events.RoomEvent.TheVariants as at_room
use Rattle.venue_steps.specs.RoomSteps.{duties_of_decline, duties_of_expire, duties_of_hit}
use Rattle.venue_steps.specs.RoomSteps.{duties_of_pass, duties_of_post}
use Rattle.venue_steps.specs.RoomSteps.{duties_of_unpost, hit_word}
use Rattle.venue_steps.specs.Words.{has_word}
use Rattle.venue_steps.specs.Dealers.{dealer_of, has_word_for, offer_of}
use Rattle.venue_steps.specs.Dealers.{quote_with_word, word_for, words_of}
use Rattle.venue_steps.specs.declared.actors.Actor.{Actor}
use Rattle.venue_steps.specs.declared.actors.Actor.TheVariants as actor
use Rattle.step_replay.specs.Actions.{Effect, answer_to_hit, hit_with, quote_asked}
use Rattle.step_replay.specs.LineActions.{declined_by, posted_by, unposted_by}
use Rattle.step_replay.specs.DealerTrail as dealer_trail
use Rattle.step_replay.specs.DealerTrail.{entries_of}
use Rattle.step_replay.specs.DutyEffects.{duty_effect, sweep_effect}
use Rattle.step_replay.specs.Lists.{Every}
use Rattle.step_replay.specs.VenueFacts.{Fact, of_dealer, of_room}
use Rattle.laws_days.specs.DutyWalk.{AnyDealer, AnyRoom, InvestorMay, Walks, any_dealer, any_room}
use Rattle.laws_days.specs.DutyWalk.{duty_walks, settlement_found}
use Rattle.laws_days.specs.LeftBehind.{LeftBy, duty_each}
use Rattle.venue_text.specs.ReadBack.{is_short}
use Rattle.laws_dues.proofs.NumberedDesks.{FactNumbers, FactsFew, answer_plain}
use Rattle.laws_dues.proofs.NumberedDesks.{expiry_plain, offer_few, plain_few}
use Rattle.laws_dues.proofs.NumberedDesks.{withdrawal_plain}
use Rattle.laws_dues.proofs.NumberedDuties.{AreFew, DutyNumbers, behind_few, brings}
use Rattle.laws_dues.proofs.NumberedDuties.{declined_few, expire_few, hit_few, is_quoting}
use Rattle.laws_dues.proofs.NumberedDuties.{leaves, none_few, pass_few, post_few, taken_few}
use Rattle.laws_dues.proofs.NumberedEffects.{EffectNumbers, acting_numbers, at_dealer_numbers}
use Rattle.laws_dues.proofs.NumberedEffects.{book_at, desk_facts, happened_numbers}
use Rattle.laws_dues.proofs.NumberedEffects.{hit_numbers, in_room_numbers, market_numbers}
use Rattle.laws_dues.proofs.NumberedEffects.{nothing_numbers, when_numbers}
use Rattle.laws_dues.proofs.OfferCounts.{count, is_quoted}

-- how many quotes of a dealer were accepted by these facts
abbrev pub quoted_at : List Fact → ℕ → ℕ
quoted_at facts dealer = count is_quoted (dealer_trail.facts_of (of_dealer dealer facts))

abbrev pub no_quote : List ℕ → ℕ
no_quote name = 0

module _ (config : Configuration) (facts : List Fact)
    (numbers : (investor : ℕ) → Every (FactNumbers config.dealers) (desk_facts facts investor))
    (few : (investor : ℕ) → offers_shown (book_at config facts actor.Clock investor) ≤ 262144) where
  next_short : (investor : ℕ)
      → is_short (offers_shown (book_at config facts actor.Clock investor) + 1) ≡ true
  next_short investor = below (offers_shown (book_at config facts actor.Clock investor)) (few investor)
    where
      below : (n : ℕ) → n ≤ 262144 → is_short (n + 1) ≡ true
      below n most =
          let low : n + 1 < 1000000000 = omega arith in
          grind (arith, nat_tests)

  module _ (by : Actor) where
    -- What a duty leaves that brings no quote, takes none out, declines nothing and is no response:
    -- no name, no number and no quote.

    -- whether it is such a duty
    abbrev IsBare : Duty → Type 0
    IsBare (duty.Post room quote price valid_until moment) = ⊥
    IsBare (duty.Unpost room quote moment) = ⊥
    IsBare (duty.Decline room moment) = ⊥
    IsBare (duty.Hit room response word moment) = ⊥
    IsBare (duty.Pass room response moment) = ⊥
    IsBare other = Unit {0}

    -- a duty that brings no quote, and says what it has to
    abbrev IsPlain : Duty → Type 0
    IsPlain more = DutyNumbers config by more × (is_quoting more ≡ false)

    left_plain : (more d : Duty) → IsBare d → LeftBy more d → IsPlain more
    left_plain (duty.Post room quote price valid_until moment) d bare left = absurd left
    left_plain (duty.Relay at offer when) (duty.Post room quote price valid_until moment) bare left =
        absurd bare
    left_plain (duty.Relay at offer when) other bare left = absurd left
    left_plain (duty.Gone at word when) (duty.Unpost room quote moment) bare left = absurd bare
    left_plain (duty.Gone at word when) other bare left = absurd left
    left_plain (duty.Declined at when) (duty.Decline room moment) bare left = absurd bare
    left_plain (duty.Declined at when) other bare left = absurd left
    left_plain (duty.Hit room response word moment) d bare left = absurd left
    left_plain (duty.Pass room response moment) d bare left = absurd left
    left_plain (duty.Answer at to reply when) (duty.Hit room response word moment) bare left =
        absurd bare
    left_plain (duty.Answer at to reply when) (duty.Pass room response moment) bare left =
        absurd bare
    left_plain (duty.Answer at to reply when) other bare left = absurd left
    left_plain (duty.Close room moment) d bare left = absurd left
    left_plain more d bare left = (tt, refl)

    plain_ones : (duties : List Duty) → Every IsPlain duties → AreFew config by 0 duties
    plain_ones [] each = none_few config by 0
    plain_ones (more ∷ later) each =
        behind_few config by more later each.0.0 each.0.1 (plain_ones later each.1)

    -- What a duty adds at investors' desks, by the place at which it is done.

    record Shows (brought : List ℕ → ℕ) (effect : Effect) : Type 0 where
      pub shown : (investor : ℕ)
          → FactsFew config.dealers brought (desk_facts effect.facts investor)

    abbrev InvestorShows : (List ℕ → ℕ) → ℕ → InvestorRow → InvestorEvent → Type 0
    InvestorShows brought number row event =
        FactsFew config.dealers brought
        (investor_output.event_facts (market_of config number row) (book_at config facts by number)
        event)

    walks : (brought : List ℕ → ℕ)
        → Walks AnyDealer (InvestorShows brought) AnyRoom config facts (Shows brought)
    walks brought = record {
      idle = record { shown = (nothing_numbers config facts by 0 brought).shown };
      at_a_dealer = λ number row found event left any. record {
        shown = (at_dealer_numbers config facts by 0 brought number
            (entries_of config.date row (of_dealer number facts) event) [] (none_few config by 0)).shown;
      };
      at_an_investor = λ number row found event added. record {
        shown = (market_numbers config facts by 0 brought number row event []
            (none_few config by 0) added).shown;
      };
      in_a_room = λ room there event no_hit left any. record {
        shown = (happened_numbers config facts by 0 brought room
            (event_facts (of_room room facts) event) [] (none_few config by 0)).shown;
      };
      by_a_hit = λ room there response word moment any.
          let settlement = settlement_found config facts room word moment in
          record {
            shown = (hit_numbers config facts by 0 brought (quote_with_word config word)
                (hit_outcome (of_room room facts) word moment settlement) room
                (event_facts (of_room room facts) (at_room.Hit word moment settlement)) []
                (none_few config by 0)).shown;
          };
    }

    at_investors : (d : Duty) → DutyNumbers config by d
        → InvestorMay (InvestorShows (brings d)) config d
    unfolding investor_output.event_facts
    at_investors (duty.Relay room offer moment) says = λ row found.
        offer_few config.dealers (book_at config facts by room.investor) room.n offer
        (record {
          place = says.1.dealer;
          row = says.1.row;
          row_is = says.1.row_is;
          name_is = says.1.name_is;
        })
        (next_short room.investor)
        (open_request (book_at config facts by room.investor) room.n)
    at_investors (duty.Gone room word moment) says = λ row found.
        plain_few config.dealers _ _ (withdrawal_plain room.n word
        (open_request (book_at config facts by room.investor) room.n))
    at_investors (duty.Declined room moment) says = λ number dealer is row found.
        plain_few config.dealers _ [] tt
    at_investors (duty.Answer room response reply moment) says = λ fits row found.
        plain_few config.dealers _ _ (answer_plain (book_at config facts by room.investor) room.n
        response reply (request_numbered (book_at config facts by room.investor) room.n))
    at_investors (duty.Close room moment) says = λ row found.
        plain_few config.dealers _ _ (expiry_plain room.n
        (request_numbered (book_at config facts by room.investor) room.n))
    at_investors other says = tt

    pub duty_numbers : (left : Duty) → DutyNumbers config by left
        → EffectNumbers config facts by (leaves left) (brings left) (duty_effect config facts by left)
    unfolding duty_effect
    duty_numbers (duty.Post room quote price valid_until moment) says =
        acting_numbers config facts by 1 _
        (posted_by config facts room quote price valid_until moment)
        (λ number row by_is is.
        let own = dealer_of number row in
        let known = of_room room facts in
        in_room_numbers config facts by 1 _ room
        (has_word_for config own quote && hears known number)
        (at_room.Post number (word_for config own quote) price valid_until)
        (duties_of_post known room number (offer_of config own quote price valid_until) moment)
        (λ has. post_few config by known room number (offer_of config own quote price valid_until)
        moment has
        (record { dealer = number; row = row; by_is = by_is; row_is = is; name_is = refl })))
    duty_numbers (duty.Unpost room quote moment) says =
        acting_numbers config facts by 0 _ (unposted_by config facts room quote moment)
        (λ number row by_is is.
        let own = dealer_of number row in
        let known = of_room room facts in
        in_room_numbers config facts by 0 _ room
        (has_word_for config own quote && hears known number)
        (at_room.Unpost number (word_for config own quote))
        (duties_of_unpost known room number (word_for config own quote) moment)
        (λ has. taken_few config by known room number (word_for config own quote) moment has))
    duty_numbers (duty.Decline room moment) says =
        acting_numbers config facts by 0 _ (declined_by config facts room moment)
        (λ number row by_is is.
        let known = of_room room facts in
        in_room_numbers config facts by 0 _ room (hears known number) (at_room.Decline number)
        (duties_of_decline known room number moment)
        (λ has. declined_few config by known room number moment has))
    duty_numbers (duty.Hit room response word moment) says =
        let known = of_room room facts in
        let asked = hit_word known word moment in
        let settlement = option_map (answer_to_hit facts) (quote_asked config asked) in
        when_numbers config facts by 0 _
        (has_room config room.investor room.n && has_word (words_of config) asked)
        (hit_with config facts room response word moment settlement)
        (λ test. hit_numbers config facts by 0 _ (quote_with_word config word)
        (hit_outcome known word moment settlement) room
        (event_facts known (at_room.Hit word moment settlement))
        (duties_of_hit known room response word moment true settlement)
        (hit_few config by known room response moment
        (and_parts (has_room config room.investor room.n) (has_word (words_of config) asked) test).0
        says (hit_outcome known word moment settlement)))
    duty_numbers (duty.Pass room response moment) says =
        in_room_numbers config facts by 0 _ room true (at_room.Pass moment)
        (duties_of_pass (of_room room facts) room response moment)
        (λ has. pass_few config by (of_room room facts) room response moment has says)
    duty_numbers other says = record {
      left = plain_ones (duty_effect config facts by other).duties
          (duty_each IsPlain config facts by other (λ more left. left_plain more other tt left));
      shown = (duty_walks AnyDealer (InvestorShows (brings other)) AnyRoom config facts
          (Shows (brings other)) (walks (brings other)) by other
          (any_dealer AnyDealer config facts by other (λ number row event left at. tt))
          (at_investors other says)
          (any_room AnyRoom config facts by other (λ room event left at. tt))).shown;
    }

    pub sweep_numbers : (room : RoomRef) (moment : ℕ)
        → EffectNumbers config facts by 0 no_quote (sweep_effect config facts room moment)
    unfolding sweep_effect
    sweep_numbers room moment =
        in_room_numbers config facts by 0 no_quote room true (at_room.Expire moment)
        (duties_of_expire (of_room room facts) room moment)
        (λ has. expire_few config by (of_room room facts) room moment has)
