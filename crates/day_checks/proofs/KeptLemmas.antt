-- What is kept of the firms and rooms of a day, of one more of them, and in a later log.
use Rattle.std.proofs.Common.{◌≡◌, refl, ◌∙◌, sym, ap, subst, ℕ, List, [], ◌∷◌, ◌++◌, Some, None}
use Rattle.std.proofs.Common.{All, slice_index_or, zero, suc, length, ◌+◌}
use Rattle.std.proofs.lemmas.List.Elements.{All-push}
use Rattle.std.proofs.lemmas.Option.{same_Some}
use Rattle.quote_word.specs.SettleLog.{SettleLog, entry_of}
use Rattle.quote_word.specs.declared.settled.Settled.{Settled}
use Rattle.quote_word.specs.declared.settled.Settlement.{Settlement}
use Rattle.venue_rows.specs.Rows.{Configuration}
use Rattle.investor_desk.specs.InvestorDesk.{DeskEvents as InvestorEvents, book_at as investor_book}
use Rattle.investor_desk.specs.InvestorDesk.{market_for}
use Rattle.investor_desk.specs.InvestorOutput.{investor_output}
use Rattle.day_checks.specs.AskedWords.{Answer, StandsIn, answers_in}
use Rattle.day_checks.specs.LeftResponses.{responses_answered, responses_left}
use Rattle.std.specs.Prelude.{slice_get}
use mathlib.Core.List.{IsPrefix}
use Rattle.investor_desk.specs.RequestLines.{lines_of as request_lines}
use Rattle.quote_word.specs.SettleLogLaws.{entry_stays_later}
use Rattle.recorded_days.specs.Records.{ActionRef, DealerLists, InvestorLists, RoomLists}
use Rattle.recorded_days.specs.declared.actions.Action.{Action}
use Rattle.recorded_days.specs.declared.actions.Inbound.{Inbound}
use Rattle.day_checks.specs.DayChecks.{DayRoom, came_from_investor}
use Rattle.day_checks.specs.KeptDays.{DealerKeeps, DealerStands, DealersKeep, DealersStand}
use Rattle.day_checks.specs.KeptDays.{InvestorKeeps, InvestorsKeep, RoomStands, RoomsStand}
use Rattle.day_checks.specs.KeptDays.{answers_to, without_rooms}

-- entries that stand in a log stand in a later one
abbrev pub Stay : List Settlement → List Settlement → Type 0
Stay log later = (w : ℕ) (was : Settled) → entry_of w log ≡ Some was → entry_of w later ≡ Some was

-- answers that stand in a log stand in a later one
pub answers_stay : (log later : List Settlement) → Stay log later → (answers : List Answer)
    → All (StandsIn log) answers → All (StandsIn later) answers
answers_stay log later stay answers stand k d below =
    stay (slice_index_or answers k d).0 (slice_index_or answers k d).1 (stand k d below)

-- what is there is not none
pub some_is_none : {X : Type 0} (x : X) → Some x ≡ None → ⊥
some_is_none x is = cc

-- what holds of each item of a list, and of one item more behind them
pub each_more : {X : Type 0} (P : ℕ → X → Type 0) (xs : List X) (x : X)
    → ((k : ℕ) (y : X) → slice_get xs k ≡ Some y → P k y) → P (length xs) x
    → (k : ℕ) (y : X) → slice_get (xs ++ x ∷ []) k ≡ Some y → P k y
each_more P [] x each last zero y found = subst (P zero) (same_Some x y found) last
each_more P [] x each last (suc k) y found = absurd (some_is_none y (sym found))
each_more P (z ∷ xs) x each last zero y found = each zero y found
each_more P (z ∷ xs) x each last (suc k) y found =
    each_more (λ n. P (suc n)) xs x (λ n w is. each (suc n) w is) last k y found

-- the days of dealers, and one more
pub dealers_grow : (config : Configuration) (days : List DealerLists) (day : DealerLists)
    → DealersKeep config days → DealerKeeps config (length days) day
    → DealersKeep config (days ++ day ∷ [])
dealers_grow config days day keep more firm dealer found =
    each_more (DealerKeeps config) days day keep more firm dealer found

-- the day of the investor with this number
pub investor_day_keeps : (config : Configuration) (firm : ℕ) (desk : InvestorEvents)
    (order : List ActionRef) (inbox : List Inbound) (actions : List Action)
    (rooms : List RoomLists) (day : InvestorLists)
    → market_for config desk.market.firm ≡ Some desk.market → desk.market.firm ≡ firm
    → day ≡ record {
      sent = investor_output desk.market desk.events;
      lines = request_lines (investor_book desk);
      events = desk.events;
      order = order;
      inbox = inbox;
      actions = actions;
      rooms = rooms;
    } → came_from_investor desk.events ≡ inbox
    → responses_answered desk.events ≡ responses_left desk → InvestorKeeps config firm day
investor_day_keeps config firm desk order inbox actions rooms day market here is own answered =
    let keeps : InvestorKeeps config firm (record {
      sent = investor_output desk.market desk.events;
      lines = request_lines (investor_book desk);
      events = desk.events;
      order = order;
      inbox = inbox;
      actions = actions;
      rooms = rooms;
    }) = record {
      market = desk.market;
      market_is = subst (λ n. market_for config n ≡ Some desk.market) here market;
      sent_is = refl;
      lines_is = refl;
      own_is = own;
      answers_are = answered;
    } in
    subst (InvestorKeeps config firm) (sym is) keeps

-- the days of investors, and one more
pub investors_grow : (config : Configuration) (days : List InvestorLists) (day : InvestorLists)
    → InvestorsKeep config days
    → InvestorKeeps config (length config.dealers + length days) day
    → InvestorsKeep config (days ++ day ∷ [])
investors_grow config days day keep more k investor found =
    each_more (λ n. InvestorKeeps config (length config.dealers + n)) days day keep more k investor
    found

-- what is recorded of an investor does not depend on its rooms
pub keeps_alike : (config : Configuration) (firm : ℕ) (x y : InvestorLists)
    → without_rooms x ≡ without_rooms y → InvestorKeeps config firm y → InvestorKeeps config firm x
keeps_alike config firm x y same keeps =
    let sent : x.sent ≡ y.sent = ap (λ (day : InvestorLists). day.sent) same in
    let lines : x.lines ≡ y.lines = ap (λ (day : InvestorLists). day.lines) same in
    let events : x.events ≡ y.events = ap (λ (day : InvestorLists). day.events) same in
    let inbox : x.inbox ≡ y.inbox = ap (λ (day : InvestorLists). day.inbox) same in
    record {
      market = keeps.market;
      market_is = keeps.market_is;
      sent_is = sent ∙ keeps.sent_is ∙ ap (investor_output keeps.market) (sym events);
      lines_is = lines ∙ keeps.lines_is ∙ ap (λ own. request_lines (investor_book
          (record { market = keeps.market; events = own }))) (sym events);
      own_is = ap came_from_investor events ∙ keeps.own_is ∙ sym inbox;
      answers_are = ap responses_answered events ∙ keeps.answers_are
          ∙ ap (λ own. responses_left (record { market = keeps.market; events = own }))
          (sym events);
    }

module _ (log later : SettleLog) (more : IsPrefix log later) where
  -- answers that stand in a log stand in each that goes on from it
  pub dealer_later : (config : Configuration) (firm : ℕ) (dealer : DealerLists)
      → DealerStands config log firm dealer → DealerStands config later firm dealer
  dealer_later config firm dealer stands row row_is =
      answers_stay log later (λ w was e. entry_stays_later log later w was more e)
      (answers_to config firm row dealer.events) (stands row row_is)

  pub dealers_later : (config : Configuration) (dealers : List DealerLists)
      → DealersStand config log dealers → DealersStand config later dealers
  dealers_later config dealers stand firm dealer found =
      dealer_later config firm dealer (stand firm dealer found)

  pub rooms_later : (rooms : List DayRoom) → RoomsStand log rooms → RoomsStand later rooms
  rooms_later rooms stand k d below =
      answers_stay log later (λ w was e. entry_stays_later log later w was more e)
      (answers_in (slice_index_or rooms k d).day.events) (stand k d below)

  pub room_later : (room : DayRoom) → RoomStands log room → RoomStands later room
  room_later room stands =
      answers_stay log later (λ w was e. entry_stays_later log later w was more e)
      (answers_in room.day.events) stands

-- one dealer more
pub dealers_stand_more : (config : Configuration) (log : SettleLog) (days : List DealerLists)
    (day : DealerLists) → DealersStand config log days
    → DealerStands config log (length days) day → DealersStand config log (days ++ day ∷ [])
dealers_stand_more config log days day stand more firm dealer found =
    each_more (DealerStands config log) days day stand more firm dealer found

-- one room more
pub rooms_stand_more : (log : SettleLog) (rooms : List DayRoom) (room : DayRoom)
    → RoomsStand log rooms → RoomStands log room → RoomsStand log (rooms ++ room ∷ [])
rooms_stand_more log rooms room stand more = All-push (RoomStands log) rooms room stand more
