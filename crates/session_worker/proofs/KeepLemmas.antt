-- The day of a dealer, by what lies under its lock.
use Rattle.std.proofs.Common.{◌≡◌, ◌∙◌, sym, ap, subst, refl, ℕ, List, All, Some}
use Rattle.std.proofs.lemmas.Option.{same_Some}
use Rattle.dealer_desk.specs.DealerDesk.{DeskEvents, book_at}
use Rattle.dealer_desk.specs.DealerOutput.{dealer_output}
use Rattle.dealer_desk.specs.QuoteLines.{lines_of}
use Rattle.dealer_desk.specs.declared.events.DealerEvent.{DealerEvent}
use Rattle.quote_word.specs.Board.{BoardName, Front}
use Rattle.venue_rows.specs.Rows.{Configuration, dealer_numbered}
use Rattle.venue_rows.specs.declared.dealer_rows.DealerRow.{DealerRow}
use Rattle.step_replay.specs.Actions.{dealer_of, first_word}
use Rattle.recorded_days.specs.Records.{ActionRef, DealerLists}
use Rattle.recorded_days.specs.declared.actions.Action.{Action}
use Rattle.recorded_days.specs.declared.actions.Inbound.{Inbound}
use Rattle.day_checks.specs.DayChecks.{came_from_dealer}
use Rattle.day_checks.specs.KeptDays.{DealerKeeps, DealerStands, answers_to}
use Rattle.session_worker.specs.Locks.{KeepsDealer}
use Rattle.day_checks.specs.AskedWords.{StandsIn, answers_at}
use Rattle.session_worker.proofs.DealerAnswers.{SentTheirView}
use Rattle.session_worker.proofs.DealerLockLemmas.{view_is_seen}

-- the day of the dealer at its own place
pub day_keeps : SentTheirView → (board : BoardName) (config : Configuration)
    (firm first place : ℕ) (desk : DeskEvents) (seen : Front) (order : List ActionRef)
    (inbox : List Inbound) (actions : List Action) (day : DealerLists)
    → KeepsDealer board config firm first desk seen → firm ≡ place
    → day ≡ record {
      sent = dealer_output config.date desk.row desk.events;
      lines = lines_of (book_at desk);
      events = desk.events;
      order = order;
      inbox = inbox;
      actions = actions;
    } → came_from_dealer desk.events ≡ inbox → DealerKeeps config place day
day_keeps law board config firm first place desk seen order inbox actions day kept here is own =
    let keeps : DealerKeeps config place (record {
      sent = dealer_output config.date desk.row desk.events;
      lines = lines_of (book_at desk);
      events = desk.events;
      order = order;
      inbox = inbox;
      actions = actions;
    }) = record {
      row = desk.row;
      row_is = subst (λ n. dealer_numbered config n ≡ Some desk.row) here kept.row_is;
      sent_is = refl;
      lines_is = ap (λ date. lines_of (book_at
          (record { date = date; row = desk.row; events = desk.events }))) kept.day_is;
      view_is = view_is_seen law board config firm first desk seen kept;
      own_is = own;
    } in
    subst (DealerKeeps config place) (sym is) keeps

-- the desk of a dealer
abbrev desk_of : List ℕ → DealerRow → List DealerEvent → DeskEvents
desk_of date row events = record { date = date; row = row; events = events }

-- the settlements at a desk stand in what its lock has seen
pub dealer_stands : (board : BoardName) (config : Configuration) (firm first place : ℕ)
    (desk : DeskEvents) (seen : Front) (day : DealerLists)
    → KeepsDealer board config firm first desk seen → firm ≡ place → day.events ≡ desk.events
    → DealerStands config seen.log place day
dealer_stands board config firm first place desk seen day keeps here events row row_is =
    let same : desk.row ≡ row = same_Some desk.row row
    (sym keeps.row_is ∙ ap (dealer_numbered config) here ∙ row_is) in
    let first_is : first ≡ first_word config (dealer_of place row) = keeps.first_is
    ∙ ap (λ n. first_word config (dealer_of n desk.row)) here
    ∙ ap (λ own. first_word config (dealer_of place own)) same in
    let desk_is : desk ≡ desk_of config.date row day.events =
    ap (λ date. desk_of date desk.row desk.events) keeps.day_is
    ∙ ap (λ own. desk_of config.date own desk.events) same
    ∙ ap (desk_of config.date row) (sym events) in
    let answers : answers_at first desk ≡ answers_to config place row day.events =
    ap (λ n. answers_at n desk) first_is
    ∙ ap (answers_at (first_word config (dealer_of place row))) desk_is in
    subst (All (StandsIn seen.log)) answers keeps.answers_stand
