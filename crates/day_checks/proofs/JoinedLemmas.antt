-- What was joined: a day as it was read, with the inbox of each of its sessions.
use Rattle.std.proofs.Common.{◌≡◌, ◌∙◌, sym, ap, ℕ, ◌+◌, ◌-◌, List, ◌++◌, length, map, take, drop}
use Rattle.std.proofs.Common.{arith, length-drop}
use Rattle.std.proofs.lemmas.List.{length-map, length-take-le}
use Rattle.venue_rows.specs.Rows.{Configuration}
use Rattle.recorded_days.specs.Records.{DealerLists, InvestorLists, RecordedDay}
use Rattle.recorded_days.specs.declared.actions.Action.{Action}
use Rattle.recorded_days.specs.declared.actions.Inbound.{Inbound}
use Rattle.day_checks.specs.DayFaults.{IsJoinedOf, JoinedDay}
use Rattle.day_checks.specs.KeptDays.{DealersKeep, InvestorsKeep, names_by, names_of}
use Rattle.day_checks.specs.KeptDays.{requests_of}
use Rattle.day_checks.proofs.RoomLemmas.{parts_read}

-- lists that were read are those of the record
pub day_read : (dealers given : List DealerLists) (whole given_whole : List InvestorLists)
    (clock given_clock : List Action) → given ≡ dealers → given_whole ≡ whole
    → given_clock ≡ clock
    → ◌≡◌ {A = RecordedDay}
    (record { dealers = given; investors = given_whole; clock = given_clock })
    (record { dealers = dealers; investors = whole; clock = clock })
day_read dealers given whole given_whole clock given_clock same same_whole same_clock =
    ap (λ (own : List DealerLists). let day : RecordedDay =
    record { dealers = own; investors = given_whole; clock = given_clock } in day) same
    ∙ ap (λ (own : List InvestorLists). let day : RecordedDay =
    record { dealers = dealers; investors = own; clock = given_clock } in day) same_whole
    ∙ ap (λ (own : List Action). let day : RecordedDay =
    record { dealers = dealers; investors = whole; clock = own } in day) same_clock

-- the days of dealers and investors, each with its session's inbox
pub joined_is_of : {S : Type 0} (inbox_of : S → List Inbound) (config : Configuration)
    (first from : ℕ) (sessions front behind : List S) (counts : List ℕ) (joined : JoinedDay)
    → first ≡ length config.dealers → from ≡ first
    → length sessions ≡ length config.dealers + length config.investors
    → front ≡ take from sessions → behind ≡ drop from sessions
    → map (λ (day : DealerLists). day.inbox) joined.dealers ≡ map inbox_of front
    → map (λ (day : InvestorLists). day.inbox) joined.investors ≡ map inbox_of behind
    → names_of joined.rooms ≡ names_by first counts → counts ≡ requests_of config.investors
    → DealersKeep config joined.dealers → InvestorsKeep config joined.investors
    → IsJoinedOf config (map inbox_of sessions) joined
joined_is_of inbox_of config first from sessions front behind counts joined first_is from_is all
    front_is behind_is dealers investors rooms counted dealers_keep investors_keep =
    let before : length front ≡ from = ap length front_is
    ∙ length-take-le from sessions (omega (arith, first_is, from_is, all)) in
    let left : length behind ≡ length sessions - from = ap length behind_is
    ∙ length-drop from sessions in
    let dealer_days : length joined.dealers ≡ length front =
    sym (length-map joined.dealers (λ (day : DealerLists). day.inbox)) ∙ ap length dealers
    ∙ length-map front inbox_of in
    let investor_days : length joined.investors ≡ length behind =
    sym (length-map joined.investors (λ (day : InvestorLists). day.inbox)) ∙ ap length investors
    ∙ length-map behind inbox_of in
    record {
      dealers_are = omega (arith, dealer_days, before, from_is, first_is);
      investors_are = omega (arith, investor_days, left, from_is, first_is, all);
      rooms_are = rooms ∙ ap (λ n. names_by n counts) first_is
          ∙ ap (names_by (length config.dealers)) counted;
      inboxes_are = ap (λ own. own ++ map (λ (day : InvestorLists). day.inbox) joined.investors)
          dealers
          ∙ ap (λ own. map inbox_of front ++ own) investors
          ∙ parts_read inbox_of from sessions front behind front_is behind_is;
      dealers_keep = dealers_keep;
      investors_keep = investors_keep;
    }
