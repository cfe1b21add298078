-- The investors' places at the start of a day stand where no fact stands.
use Rattle.step_replay.proofs.Common.{◌≡◌, ◌<◌, ℕ, zero, suc, ◌+◌, ◌++◌, get_or, option_map, List}
use Rattle.step_replay.proofs.Common.{[], ◌∷◌, length, replicate, Some, None, refl, sym, ap, ◌∙◌, subst}
use Rattle.step_replay.proofs.Common.{same_Some, Configuration, investor_numbered, InvestorRow}
use Rattle.step_replay.proofs.Common.{market_of, market_for, InvestorEvent, room_after, RoomEvent}
use Rattle.step_replay.proofs.Common.{Match, InvestorOpens, InvestorsOpen, InvestorStands, RoomIs}
use Rattle.step_replay.proofs.Common.{slots, of_investor, of_room, InvestorPlace}
use Rattle.std.proofs.lemmas.Option.{slice_get_read}
use Rattle.investor_desk.specs.InvestorDesk.{DeskEvents, no_events}
use Rattle.investor_desk.specs.InvestorOutput.{desk_after, investor_notes}
use Rattle.step_replay.proofs.InvestorPlaceLemmas.{numbered_as}
use Rattle.step_replay.specs.NotedTrail.{noted_in, noted_so}
use Rattle.step_replay.proofs.MatchLemmas.{grown}

vacant : (firm many k : ℕ)
    → Match (RoomIs [] firm) k (replicate {A = Unit {0}} many tt) (replicate many [])
unfolding of_room room_after
vacant firm zero k = tt
vacant firm (suc many) k = (refl, vacant firm many (k + 1))

pub investor_begins : (config : Configuration) (firm : ℕ) (row : InvestorRow) (place : InvestorPlace)
    → InvestorOpens config firm row place → InvestorStands config [] firm row place
unfolding desk_after of_investor noted_in
investor_begins config firm row place opens =
    let none : place.desk.events ≡ [] =
    ap (λ (d : DeskEvents). d.events) opens.desk_is in
    record {
      market_is = ap (λ (d : DeskEvents). d.market) opens.desk_is;
      events_are = none;
      state_is = ap (λ (events : List InvestorEvent).
          desk_after (market_of config firm row) events) none;
      notes_are = ap (λ (events : List InvestorEvent).
          noted_so [] None (investor_notes (market_of config firm row) events)) (sym none);
      rooms_are = subst (λ (l : List (List RoomEvent)). Match (RoomIs [] firm) 1 (slots row) l)
          (sym opens.rooms_are) (vacant firm row.requests 1);
    }

-- the places of one investor more
pub investors_grow : (config : Configuration) (at : ℕ) (row : InvestorRow)
    (places : List InvestorPlace) (place : InvestorPlace) → at < length config.investors
    → row ≡ get_or config.investors at row → InvestorsOpen config at places
    → InvestorOpens config (length config.dealers + at) row place
    → InvestorsOpen config (at + 1) (places ++ place ∷ [])
investors_grow config at row places place within is before opens = record {
  opened = grown (InvestorOpens config) (length config.dealers) config.investors places at row place
      within is opens before.opened;
}

-- the row of an investor
found_row : (config : Configuration) (at : ℕ) (row : InvestorRow)
    → at < length config.investors → row ≡ get_or config.investors at row
    → investor_numbered config (length config.dealers + at) ≡ Some row
found_row config at row within is =
    numbered_as config (length config.dealers + at) at refl
    ∙ slice_get_read config.investors (length config.investors) at row refl within is

-- a desk of the market that its firm has
pub market_found : (config : Configuration) (firm at : ℕ) (row : InvestorRow) (desk : DeskEvents)
    → firm ≡ length config.dealers + at → at < length config.investors
    → row ≡ get_or config.investors at row
    → Some desk ≡ option_map no_events (market_for config firm)
    → desk ≡ no_events (market_of config (length config.dealers + at) row)
market_found config firm at row desk firm_is within is found =
    same_Some desk (no_events (market_of config (length config.dealers + at) row))
    (found ∙ ap (λ n. option_map no_events (market_for config n)) firm_is
    ∙ ap (λ r. option_map no_events (option_map (market_of config (length config.dealers + at)) r))
    (found_row config at row within is))
