-- What a dealer is told of a cancel of all.
use Rattle.std.specs.Prelude.{ℕ, ◌+◌, List, [], ◌∷◌, filter, Some, if◌then◌else◌}
use Rattle.quote_messages.specs.Written.{written}
use Rattle.quote_messages.specs.declared.out_messages.CancelStatus.TheVariants as status
use Rattle.quote_messages.specs.declared.out_messages.OutMessage.{OutMessage}
use Rattle.quote_messages.specs.declared.out_messages.OutMessage.TheVariants as out
use Rattle.venue_rows.specs.declared.dealer_rows.DealerRow.{DealerRow}
use Rattle.dealer_desk.specs.DealerFacts.{is_droppable}
use Rattle.dealer_desk.specs.Refusals.{refused_cancel}
use Rattle.dealer_desk.specs.declared.refusals.CancelRefusal.TheVariants.{Lifted}
use Rattle.dealer_desk.specs.declared.standing.StandingQuote.{StandingQuote}
use Rattle.step_replay.specs.DealerTrail.{DealerEntry, book_by, was_lifted}

-- the quotes of a dealer that a cancel of all may drop, in the order in which they were accepted
abbrev pub droppable : List DealerEntry → List StandingQuote
droppable trail = filter is_droppable (book_by trail).quotes

-- the report on one of them: 35=AI with its 117, and 297=17, or 297=5 where it was lifted
abbrev pub report_on : List DealerEntry → StandingQuote → OutMessage
report_on trail own = out.CancelReport (Some own.quote.id)
    (if was_lifted trail own.quote.number then refused_cancel Lifted else status.Withdrawn)

-- the reports on these quotes, one on each, at this moment (52) and with the MsgSeqNum (34) from
-- this number on
abbrev pub reports : List ℕ → DealerRow → List DealerEntry → ℕ → ℕ → List StandingQuote
    → List (List ℕ)
reports date row trail moment number [] = []
reports date row trail moment number (own ∷ quotes) =
    written (record { date = date; firm = row.name; number = number; moment = moment })
    (report_on trail own)
    ∷ reports date row trail moment (number + 1) quotes
