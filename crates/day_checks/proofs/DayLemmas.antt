-- The whole day behind the joins and the checks.
use Rattle.std.proofs.Common.{◌≡◌, ◌∙◌, sym, ap, subst, refl, List, [], ◌∷◌, ◌++◌, None, length}
use Rattle.std.proofs.Common.{map, ◌+◌}
use Rattle.std.proofs.lemmas.List.{length-map, map-append}
use mathlib.Core.List.{IsPrefix}
use Rattle.quote_word.specs.SettleLog.{IsLegal, SettleLog}
use Rattle.venue_rows.specs.Rows.{Configuration}
use Rattle.recorded_days.specs.Records.{DealerLists, FirmLists, InvestorLists, RecordedDay}
use Rattle.recorded_days.specs.Records.{of_dealer, of_investor}
use Rattle.recorded_days.specs.declared.actions.Action.{Action}
use Rattle.recorded_days.specs.declared.actions.Inbound.{Inbound}
use Rattle.recorded_days.specs.declared.actions.Sweep.{Sweep}
use Rattle.day_checks.specs.AnsweredResponses.{first_unanswered}
use Rattle.day_checks.specs.DayActions.{EventsAreOfActions}
use Rattle.day_checks.specs.DayChecks.{DayRoom, first_unswept, first_untold, room_shown}
use Rattle.day_checks.specs.KeptDays.{DealersKeep, DealersStand, InvestorKeeps, InvestorsKeep}
use Rattle.day_checks.specs.KeptDays.{KeepsDay, RoomsStand, names_of, rooms_in, rooms_of}
use Rattle.day_checks.specs.KeptDays.{requests_of, rooms_of_venue, without_rooms}
use Rattle.day_checks.specs.RelayedQuotes.{first_unrelayed}
use Rattle.day_checks.specs.ShownRequests.{first_unshown}
use Rattle.day_checks.specs.declared.notices.Notice.{Notice}
use Rattle.day_checks.proofs.ActionWalks.{walks_are_right}
use Rattle.day_checks.proofs.AnswerLemmas.{unanswered_like}
use Rattle.day_checks.proofs.AwardLemmas.{awards_stand}
use Rattle.day_checks.proofs.KeptLemmas.{dealers_later, keeps_alike}
use Rattle.day_checks.proofs.PromiseLemmas.{each_shown, each_told}
use Rattle.day_checks.proofs.RelayLemmas.{unrelayed_like}
use Rattle.day_checks.proofs.RoomNames.{each_like, inboxes_like}
use Rattle.day_checks.proofs.RoomPromises.{each_answered, each_relayed, each_swept}
use Rattle.day_checks.proofs.RoomsApart.{rooms_apart}

-- the messages that came from dealers and from investors
abbrev pub dealer_inboxes : List DealerLists → List (List Inbound)
dealer_inboxes days = map (λ (day : DealerLists). day.inbox) days

abbrev pub investor_inboxes : List InvestorLists → List (List Inbound)
investor_inboxes days = map (λ (day : InvestorLists). day.inbox) days

firm_inboxes : (dealers : List DealerLists)
    → map (λ (firm : FirmLists). firm.inbox) (map of_dealer dealers) ≡ dealer_inboxes dealers
firm_inboxes [] = refl
firm_inboxes (dealer ∷ later) = ap (λ rest. dealer.inbox ∷ rest) (firm_inboxes later)

firm_inboxes_behind : (investors : List InvestorLists)
    → map (λ (firm : FirmLists). firm.inbox) (map of_investor investors)
    ≡ investor_inboxes investors
firm_inboxes_behind [] = refl
firm_inboxes_behind (investor ∷ later) =
    ap (λ rest. investor.inbox ∷ rest) (firm_inboxes_behind later)

-- what stands behind the joins and the checks
pub record Joined (config : Configuration) (inboxes : List (List Inbound)) (sweeps : List Sweep)
    (dealers : List DealerLists) (bare whole : List InvestorLists) (clock : List Action)
    (rooms : List DayRoom) (log later : SettleLog) : Type 0 where
  pub dealers_are : length dealers ≡ length config.dealers
  pub investors_are : length bare ≡ length config.investors
  pub rooms_are : names_of rooms ≡ rooms_of_venue config
  pub alike : map without_rooms whole ≡ map without_rooms bare
  pub rooms_in_whole : rooms_of (length config.dealers) whole ≡ rooms
  pub inboxes_are : dealer_inboxes dealers ++ investor_inboxes bare ≡ inboxes
  pub dealers_keep : DealersKeep config dealers
  pub investors_keep : InvestorsKeep config bare
  pub told : first_untold rooms dealers ≡ None
  pub swept : first_unswept sweeps rooms ≡ None
  pub shown : first_unshown rooms dealers ≡ None
  pub relayed : first_unrelayed config (length config.dealers) bare rooms ≡ None
  pub answered : first_unanswered (length config.dealers) bare rooms ≡ None
  pub dealers_stand : DealersStand config log dealers
  pub rooms_stand : RoomsStand later rooms
  pub goes_on : IsPrefix log later
  pub legal : IsLegal later
  pub of_actions : EventsAreOfActions (record {
    dealers = dealers;
    investors = whole;
    clock = clock;
  })

module _ (config : Configuration) (inboxes : List (List Inbound)) (sweeps : List Sweep)
    (dealers : List DealerLists) (bare whole : List InvestorLists) (clock : List Action)
    (rooms : List DayRoom) (log later : SettleLog)
    (joined : Joined config inboxes sweeps dealers bare whole clock rooms log later) where
  -- the record of it
  abbrev day_of : RecordedDay
  day_of = record { dealers = dealers; investors = whole; clock = clock }

  same_rooms : rooms ≡ rooms_in day_of
  same_rooms = sym joined.rooms_in_whole
      ∙ ap (λ n. rooms_of n whole) (sym joined.dealers_are)

  -- they have the names of the venue's rooms
  named : names_of (rooms_in day_of) ≡ rooms_of_venue config
  named = subst (λ own. names_of own ≡ rooms_of_venue config) same_rooms joined.rooms_are

  pub day_is_kept : KeepsDay config inboxes sweeps day_of
  day_is_kept = record {
    dealers_are = joined.dealers_are;
    investors_are = sym (length-map whole without_rooms) ∙ ap length joined.alike
        ∙ length-map bare without_rooms ∙ joined.investors_are;
    rooms_are = named;
    inboxes_are = map-append (λ (firm : FirmLists). firm.inbox) (map of_dealer dealers)
        (map of_investor whole)
        ∙ ap (λ first. first ++ map (λ (firm : FirmLists). firm.inbox) (map of_investor whole))
        (firm_inboxes dealers)
        ∙ ap (λ behind. dealer_inboxes dealers ++ behind)
        (firm_inboxes_behind whole ∙ inboxes_like whole bare joined.alike)
        ∙ joined.inboxes_are;
    dealers_keep = joined.dealers_keep;
    investors_keep =
        each_like (λ k. InvestorKeeps config (length config.dealers + k))
        (λ k. keeps_alike config (length config.dealers + k)) whole bare joined.alike
        joined.investors_keep;
    told = each_told (rooms_in day_of)
        (rooms_apart (λ (notice : Notice). notice.room) (length config.dealers)
        (requests_of config.investors) (rooms_in day_of) named) 0 dealers
        (subst (λ own. first_untold own dealers ≡ None) same_rooms joined.told);
    swept = each_swept sweeps (rooms_in day_of)
        (subst (λ own. first_unswept sweeps own ≡ None) same_rooms joined.swept);
    shown = each_shown (rooms_in day_of)
        (rooms_apart room_shown (length config.dealers) (requests_of config.investors)
        (rooms_in day_of) named) 0 dealers
        (subst (λ own. first_unshown own dealers ≡ None) same_rooms joined.shown);
    relayed = each_relayed config (length dealers) whole (rooms_in day_of) (ap (λ n. first_unrelayed config n whole (rooms_in day_of)) joined.dealers_are
        ∙ unrelayed_like config (length config.dealers) whole bare (rooms_in day_of) joined.alike
        ∙ subst (λ own. first_unrelayed config (length config.dealers) bare own ≡ None) same_rooms
        joined.relayed);
    answered = each_answered (length dealers) whole (rooms_in day_of) (ap (λ n. first_unanswered n whole (rooms_in day_of)) joined.dealers_are
        ∙ unanswered_like (length config.dealers) whole bare (rooms_in day_of) joined.alike
        ∙ subst (λ own. first_unanswered (length config.dealers) bare own ≡ None) same_rooms
        joined.answered);
    answers_agree = record {
      log = later;
      legal = joined.legal;
      at_desks = dealers_later log later joined.goes_on config dealers joined.dealers_stand;
      in_rooms = subst (RoomsStand later) same_rooms joined.rooms_stand;
      awards = awards_stand later (rooms_in day_of)
          (subst (RoomsStand later) same_rooms joined.rooms_stand);
    };
    of_actions = walks_are_right day_of joined.of_actions;
  }
