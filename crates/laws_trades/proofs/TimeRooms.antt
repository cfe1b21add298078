-- What an action in a room brings of the moments of trades.
use Rattle.std.proofs.Common.{◌≡◌, ℕ, Bool, true, false, List, [], ◌∷◌, ◌++◌, map, Option}
use Rattle.std.proofs.Common.{Some, None, refl, sym, ap, ◌∙◌, subst, inl, if◌then◌else◌, Result, Ok}
use Rattle.std.proofs.Common.{Err}
use Rattle.market_terms.specs.declared.closes.HitRefusal.{HitRefusal}
use Rattle.market_terms.specs.declared.closes.Reply.TheVariants as reply
use Rattle.market_terms.specs.declared.duties.Duty.{Duty}
use Rattle.market_terms.specs.declared.duties.Duty.TheVariants as duty
use Rattle.market_terms.specs.declared.rooms.ResponseRef.{ResponseRef}
use Rattle.market_terms.specs.declared.rooms.RoomRef.{RoomRef}
use Rattle.quote_word.specs.declared.settled.Settled.{Settled}
use Rattle.venue_rows.specs.Rows.{Configuration}
use Rattle.venue_steps.specs.RoomSteps.{close_for, dealers_of, hit_duties, reply_to_pass}
use Rattle.venue_steps.specs.RoomSteps.{told_in}
use Rattle.request_room.specs.Book.{award_of, end_by, expired, hit_outcome, hit_refusal, passed}
use Rattle.request_room.specs.Book.{fact_if}
use Rattle.request_room.specs.Book as book
use Rattle.request_room.specs.RoomFacts.{Ended, RoomFact, request_of}
use Rattle.request_room.specs.declared.ends.End.{End}
use Rattle.step_replay.specs.Actions.{QuoteRef, hit_with, lifting}
use Rattle.step_replay.specs.Actions.{quote_with_word}
use Rattle.step_replay.specs.DealerTrail as dealer_trail
use Rattle.step_replay.specs.EachLemmas.{every_both}
use Rattle.step_replay.specs.GrowthLemmas.{in_right}
use Rattle.step_replay.specs.Lists.{Every, In}
use Rattle.step_replay.specs.PlaceLemmas.{own_room, room_grown}
use Rattle.step_replay.specs.VenueFacts.{AtDealer, Fact, InRoom, of_room}
use Rattle.laws_days.specs.KeptItems.{every_map}
use Rattle.laws_trades.proofs.AwardedWords.{IsWon, is_won, settled_end}
use Rattle.laws_trades.specs.TradeTimes.{IsAwarded, IsHitAt}
use Rattle.laws_trades.proofs.TimeParts.{Brings, DutyTimed, FactTimed, hit_grown, tell_at}

module _ (config : Configuration) (facts : List Fact) where
  -- In a room.

  -- a fact that stands where a test holds
  pub so_timed : (now : List Fact) (room : RoomRef) (b : Bool) (fact : RoomFact)
      → FactTimed config now (InRoom room fact)
      → Every (FactTimed config now) (map (InRoom room) (fact_if b fact))
  so_timed now room true fact is = (is, tt)
  so_timed now room false fact is = tt

  -- a fact that says nothing of an end, and duties that are of no hit
  pub plain_room : (room : RoomRef) (b : Bool) (fact : RoomFact) (duties : List Duty)
      → ((now : List Fact) → FactTimed config now (InRoom room fact))
      → ((now : List Fact) → Every (DutyTimed config now) duties)
      → Brings config facts (record { facts = map (InRoom room) (fact_if b fact); duties = duties })
  plain_room room true fact duties plain left = record {
    facts_are = (plain (facts ++ InRoom room fact ∷ []), tt);
    duties_are = left (facts ++ InRoom room fact ∷ []);
  }
  plain_room room false fact duties plain left = record { facts_are = tt; duties_are = left (facts ++ []) }

  -- what ends a room without an award
  passed_so : (now : List Fact) (room : RoomRef) (moment : ℕ) (dealers : List ℕ)
      → Every (DutyTimed config now) (map (λ dealer. duty.Tell dealer room (close_for passed dealer) moment) dealers)
  passed_so now room moment dealers =
      every_map (DutyTimed config now) (λ dealer. duty.Tell dealer room (close_for passed dealer) moment) (λ dealer. tt) dealers

  expired_so : (now : List Fact) (room : RoomRef) (moment : ℕ) (dealers : List ℕ)
      → Every (DutyTimed config now) (map (λ dealer. duty.Tell dealer room (close_for expired dealer) moment) dealers)
  expired_so now room moment dealers =
      every_map (DutyTimed config now) (λ dealer. duty.Tell dealer room (close_for expired dealer) moment) (λ dealer. tt) dealers

  pub passed_left : (now : List Fact) (room : RoomRef) (response : ResponseRef) (moment : ℕ) (dealers : List ℕ) (b : Bool)
      → Every (DutyTimed config now) (duty.Answer room response (reply_to_pass b) moment
      ∷ (if b then map (λ dealer. duty.Tell dealer room (close_for passed dealer) moment) dealers else []))
  passed_left now room response moment dealers true = (tt, passed_so now room moment dealers)
  passed_left now room response moment dealers false = (tt, tt)

  pub expired_left : (now : List Fact) (room : RoomRef) (moment : ℕ) (dealers : List ℕ) (b : Bool)
      → Every (DutyTimed config now) (if b then duty.Close room moment
      ∷ map (λ dealer. duty.Tell dealer room (close_for expired dealer) moment) dealers else [])
  expired_left now room moment dealers true = (tt, expired_so now room moment dealers)
  expired_left now room moment dealers false = tt

  -- A hit.

  module _ (room : RoomRef) (response : ResponseRef) (word moment : ℕ)
      (hit : IsHitAt config facts room word moment) where
    abbrev known : List RoomFact
    known = of_room room facts

    awarded : (lifted : List Fact) → of_room room lifted ≡ [] → ((now : List Fact) → Every (FactTimed config now) lifted)
        → (award : End) → IsWon word award
        → Brings config facts (record {
          facts = lifted ++ InRoom room (Ended award moment) ∷ [];
          duties = duty.Answer room response reply.Awarded moment ∷ told_in known room award moment;
        })
    awarded lifted empty quiet award won =
        let ending : List Fact = InRoom room (Ended award moment) ∷ [] in
        let added : List Fact = lifted ++ ending in
        let path : of_room room (facts ++ added) ≡ known ++ Ended award moment ∷ [] =
        room_grown room facts added ∙ ap (λ (l : List RoomFact). known ++ l)
        (room_grown room lifted ending ∙ ap (λ (l : List RoomFact). l ++ of_room room ending) empty
        ∙ own_room room (Ended award moment ∷ [])) in
        let now : IsAwarded (facts ++ added) room moment = record {
          end = award;
          is_award = won.kind;
          stands = subst (In (Ended award moment)) (sym path)
              (in_right (Ended award moment) known (Ended award moment ∷ []) (inl refl));
        } in
        record {
          facts_are = every_both (FactTimed config (facts ++ added)) lifted ending (quiet (facts ++ added)) (
            (λ k. record {
              dealer = won.dealer;
              word = word;
              winner = won.winner;
              hit = hit_grown config facts added room word moment hit;
            }),
            tt,
          );
          duties_are = (
            now,
            every_map (DutyTimed config (facts ++ added)) (λ dealer. duty.Tell dealer room (close_for award dealer) moment)
                (λ dealer. tell_at config (facts ++ added) dealer room (close_for award dealer) moment now)
                (dealers_of (request_of known)),
          );
        }

    empty_room : of_room room [] ≡ []
    unfolding of_room
    empty_room = refl

    lifted_room : (dealer quote : ℕ) → of_room room (AtDealer dealer (dealer_trail.Lifted quote) ∷ []) ≡ []
    unfolding of_room
    lifted_room dealer quote = refl

    outcome_brings : (found : Option QuoteRef) (outcome : Result End HitRefusal)
        → ((award : End) → outcome ≡ Ok award → IsWon word award)
        → Brings config facts (record {
          facts = lifting found outcome ++ map (InRoom room) (end_by outcome moment);
          duties = hit_duties known room response moment outcome;
        })
    outcome_brings None (Ok award) won = awarded [] empty_room (λ now. tt) award (won award refl)
    outcome_brings (Some lift) (Ok award) won =
        awarded (AtDealer lift.dealer (dealer_trail.Lifted lift.quote) ∷ []) (lifted_room lift.dealer lift.quote)
        (λ now. (tt, tt)) award (won award refl)
    outcome_brings None (Err why) won = record { facts_are = tt; duties_are = (tt, tt) }
    outcome_brings (Some lift) (Err why) won = record { facts_are = tt; duties_are = (tt, tt) }

    pub hit_brings : (settlement : Option Settled)
        → Brings config facts (hit_with config facts room response word moment settlement)
    unfolding book.event_facts
    hit_brings settlement =
        outcome_brings (quote_with_word config word) (hit_outcome known word moment settlement)
        (λ award is.
        let both = settled_end (hit_refusal known word moment) settlement (award_of known word) award is in
        subst (IsWon word) both.1 (is_won known word moment both.0))
