-- What an action adds to the facts of rooms, it adds in the one room in which it takes place, and what
-- it sends, it sends to one firm.
use Rattle.step_replay.proofs.Common.{◌≡◌, ℕ, Bool, false, List, [], ◌∷◌, ◌++◌, map, Option, Some}
use Rattle.step_replay.proofs.Common.{None, refl, sym, ap, ◌∙◌, ◌<◌, true, nat_lt, length}
use Rattle.step_replay.proofs.Common.{filter_map, arith, ap₂, nat_tests}
use Rattle.step_replay.proofs.Common.{filter_map-append, slice_get_past, slice_get_within, RoomRef}
use Rattle.step_replay.proofs.Common.{HitRefusal, RoomFact, End, Configuration, dealer_numbered}
use Rattle.step_replay.proofs.Common.{investor_numbered, is_same_room, DealerRow, InvestorRow}
use Rattle.step_replay.proofs.Common.{IsAction}
use Rattle.step_replay.proofs.Common.{Effect, QuoteRef, lifting, quote_with_word, DealerEntry}
use Rattle.step_replay.proofs.Common.{InvestorEntry, Fact, AtDealer, InRoom, AtInvestor, of_room}
use Rattle.step_replay.proofs.Common.{other_room, room_at_dealer, room_at_investor, room_grown}
use Rattle.step_replay.proofs.Common.{behind_dealers, own_trail, own_investor}
use Rattle.step_replay.proofs.Common.{Sent, is_dealer, messages_in}
use Rattle.step_replay.proofs.Common.{sent_by_facts, sent_in}
use Rattle.step_replay.proofs.Common.{firms_of}
use Rattle.std.specs.Prelude.{Result, is_some}
use Rattle.step_replay.specs.ActionKinds.{by_dealer, by_hit, by_investor, by_room, idle}
use Rattle.step_replay.specs.PlaceLemmas.{nothing_of, investor_within}
use Rattle.step_replay.specs.DealerTrail as dealer_trail
use Rattle.step_replay.specs.InvestorTrail as investor_trail

-- whether a room is the one in which something takes place
abbrev pub is_there : Option RoomRef → RoomRef → Bool
is_there None room = false
is_there (Some at) room = is_same_room at room

-- facts that say nothing of any other room
pub record AreOf (at : Option RoomRef) (facts : List Fact) : Type 0 where
  pub elsewhere : (room : RoomRef) → is_there at room ≡ false → of_room room facts ≡ []

pub nothing_there : (at : Option RoomRef) → AreOf at []
unfolding of_room
nothing_there at = record { elsewhere = λ room other. refl }

-- a room says nothing of what is lifted
none_lifted : (room : RoomRef) (found : Option QuoteRef) (outcome : Result End HitRefusal)
    → of_room room (lifting found outcome) ≡ []
unfolding of_room
none_lifted room found outcome = grind arith

-- all actions, by their kinds
pub action_there : (config : Configuration) (facts : List Fact) (desk : Option ℕ)
    (room : Option RoomRef) (effect : Effect) → IsAction config facts desk room effect
    → AreOf room effect.facts
action_there config facts desk room effect (idle is) = rw is (nothing_there room)
action_there config facts desk room effect (by_dealer number row event duties at found comes is) =
    rw is (record { elsewhere = λ other differs. room_at_dealer other number _ })
action_there config facts desk room effect (by_investor number row event duties at found fit is) =
    rw is (record { elsewhere = λ other differs. room_at_investor other number _ })
action_there config facts desk room effect (by_room at event duties here is) =
    rw (here, is) (record { elsewhere = λ other differs. other_room other at differs _ })
action_there config facts desk room effect (by_hit at response word moment here is) =
    rw (here, is) (record {
      elsewhere = λ other differs. room_grown other (lifting (quote_with_word config word) _) _
          ∙ ap₂ (λ (l m : List RoomFact). l ++ m) (none_lifted other _ _)
          (other_room other at differs _);
    })

-- a message and its firm
abbrev pub to : ℕ → List ℕ → Sent
to firm message = (firm, message)

-- Dealers and investors.

pub dealer_is : (config : Configuration) (firm : ℕ) (row : DealerRow)
    → dealer_numbered config firm ≡ Some row → is_dealer config firm ≡ true
dealer_is config firm row is = rw is refl

pub investor_is : (config : Configuration) (firm : ℕ) (row : InvestorRow)
    → investor_numbered config firm ≡ Some row → is_dealer config firm ≡ false
investor_is config firm row is =
    ap is_some (slice_get_past config.dealers firm (behind_dealers config firm row is))

pub dealer_within : (config : Configuration) (firm : ℕ) (row : DealerRow)
    → dealer_numbered config firm ≡ Some row → nat_lt firm (firms_of config) ≡ true
dealer_within config firm row is =
    let within : firm < length config.dealers = slice_get_within config.dealers firm row is in
    grind (arith, nat_tests)

-- What one place's entries send.

dealer_sends : (config : Configuration) (firm : ℕ) → is_dealer config firm ≡ true
    → (entries : List DealerEntry) → filter_map (sent_in config) (map (AtDealer firm) entries)
    ≡ map (to firm) (filter_map dealer_trail.message_in entries)
dealer_sends config firm is [] = refl
dealer_sends config firm is (entry ∷ entries) =
    grind (arith, is, dealer_sends config firm is entries)

investor_sends : (config : Configuration) (firm : ℕ) → is_dealer config firm ≡ false
    → (entries : List InvestorEntry) → filter_map (sent_in config) (map (AtInvestor firm) entries)
    ≡ map (to firm) (filter_map investor_trail.message_in entries)
investor_sends config firm is [] = refl
investor_sends config firm is (entry ∷ entries) =
    grind (arith, is, investor_sends config firm is entries)

-- Facts that send to one firm at most.
module _ (config : Configuration) where
  pub data SendAt (desk : Option ℕ) (facts : List Fact) : Type 0 where
    quiet : messages_in config facts ≡ [] → SendAt desk facts
    own : (firm : ℕ) → desk ≡ Some firm → nat_lt firm (firms_of config) ≡ true
        → messages_in config facts ≡ map (to firm) (sent_by_facts config firm facts)
        → SendAt desk facts

  own_dealer : (firm : ℕ) (row : DealerRow) (entries : List DealerEntry)
      → dealer_numbered config firm ≡ Some row → SendAt (Some firm) (map (AtDealer firm) entries)
  unfolding messages_in
  own_dealer firm row entries is =
      let dealer = dealer_is config firm row is in
      own firm refl (dealer_within config firm row is)
      (rw dealer (dealer_sends config firm dealer entries
      ∙ ap (λ l. map (to firm) (filter_map dealer_trail.message_in l)) (sym (own_trail firm entries))))

  own_market : (firm : ℕ) (row : InvestorRow) (entries : List InvestorEntry)
      → investor_numbered config firm ≡ Some row
      → SendAt (Some firm) (map (AtInvestor firm) entries)
  unfolding messages_in
  own_market firm row entries is =
      let investor = investor_is config firm row is in
      own firm refl (investor_within config firm row is)
      (rw investor (investor_sends config firm investor entries
      ∙ ap (λ l. map (to firm) (filter_map investor_trail.message_in l))
      (sym (own_investor firm entries))))

  -- a hit sends nothing
  lifting_quiet : (found : Option QuoteRef) (outcome : Result End HitRefusal)
      → messages_in config (lifting found outcome) ≡ []
  unfolding messages_in
  lifting_quiet found outcome = grind arith

  pub messages_both : (facts more : List Fact)
      → messages_in config (facts ++ more) ≡ messages_in config facts ++ messages_in config more
  unfolding messages_in
  messages_both facts more = filter_map-append (sent_in config) facts more

  room_quiet : (room : RoomRef) (happened : List RoomFact)
      → messages_in config (map (InRoom room) happened) ≡ []
  unfolding messages_in
  room_quiet room happened = nothing_of (sent_in config) (InRoom room) (λ x. refl) happened

  nothing_sent : messages_in config [] ≡ []
  unfolding messages_in
  nothing_sent = refl

  -- all actions, by their kinds
  pub action_at : (facts : List Fact) (desk : Option ℕ) (room : Option RoomRef) (effect : Effect)
      → IsAction config facts desk room effect → SendAt desk effect.facts
  action_at facts desk room effect (idle is) = rw is (quiet nothing_sent)
  action_at facts desk room effect (by_dealer number row event duties at found comes is) =
      rw (at, is) (own_dealer number row _ found)
  action_at facts desk room effect (by_investor number row event duties at found fit is) =
      rw (at, is) (own_market number row _ found)
  action_at facts desk room effect (by_room at event duties here is) =
      rw is (quiet (room_quiet at _))
  action_at facts desk room effect (by_hit at response word moment here is) =
      rw is (quiet (messages_both (lifting _ _) (map (InRoom at) _)
      ∙ ap₂ (λ (l m : List Sent). l ++ m) (lifting_quiet (quote_with_word config word) _)
      (room_quiet at _)))
