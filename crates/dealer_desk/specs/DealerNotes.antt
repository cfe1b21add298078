-- What a dealer's desk notes beside each message that it sends: the name of the line that refuses,
-- or the trade of which the message tells. It stands beside the messages: nothing that is sent can
-- read it.
use Rattle.std.specs.Prelude.{ℕ, Bool, List, [], ◌∷◌, ◌++◌, Option, Some, None}
use Rattle.std.specs.Prelude.{if◌then◌else◌}
use Rattle.market_terms.specs.declared.closes.Close.{Close}
use Rattle.market_terms.specs.declared.closes.Close.TheVariants as closes
use Rattle.quote_messages.specs.declared.out_messages.OutMessage.{OutMessage}
use Rattle.quote_word.specs.declared.settled.Settled.{Settled}
use Rattle.venue_rows.specs.declared.dealer_rows.DealerRow.{DealerRow}
use Rattle.dealer_desk.specs.DealerFacts.{DealerBook, book_of, quote_to_drop}
use Rattle.dealer_desk.specs.DealerRules.{dealer_verdict}
use Rattle.dealer_desk.specs.DealerOutput.{DeskState, no_facts, after_event, event_message}
use Rattle.dealer_desk.specs.DealerOutput.{closable, goes_through, is_withdrawn}
use Rattle.dealer_desk.specs.declared.notes.DealerNote.{DealerNote}
use Rattle.dealer_desk.specs.declared.notes.DealerNote.TheVariants as note
use Rattle.dealer_desk.specs.declared.refusals.QuoteRefusal.TheVariants as no_quote
use Rattle.dealer_desk.specs.declared.refusals.CancelRefusal.TheVariants as no_cancel
use Rattle.dealer_desk.specs.declared.refusals.DealerRefusal.{DealerRefusal}
use Rattle.dealer_desk.specs.declared.refusals.DealerRefusal.TheVariants as refused
use Rattle.dealer_desk.specs.declared.standing.StandingRequest.{StandingRequest}
use Rattle.dealer_desk.specs.declared.standing.StandingQuote.{StandingQuote}
use Rattle.dealer_desk.specs.declared.events.DealerEvent.{DealerEvent}
use Rattle.dealer_desk.specs.declared.events.DealerEvent.TheVariants as event
use Rattle.dealer_desk.specs.declared.verdicts.DealerVerdict.{DealerVerdict}
use Rattle.dealer_desk.specs.declared.verdicts.DealerVerdict.TheVariants as verdict

-- the note of a refusal, unless what was decided goes through
abbrev pub refused_unless : Bool → DealerRefusal → Option DealerNote
refused_unless goes_through refusal =
    if goes_through then None else Some (note.Refused refusal)

-- what is noted of a verdict: the name of the line that refuses, which where a word was asked is
-- that of the word
abbrev pub verdict_note : DealerVerdict → Option Settled → Option DealerNote
verdict_note (verdict.QuoteRefused request id refusal) settlement =
    Some (note.Refused (refused.Quote refusal))
verdict_note (verdict.CancelRefused id refusal) settlement =
    Some (note.Refused (refused.Cancel refusal))
verdict_note (verdict.DeclineRefused request refusal) settlement =
    Some (note.Refused (refused.Decline refusal))
verdict_note (verdict.QuoteAccepted request id quote replaced) settlement =
    refused_unless (goes_through replaced settlement) (refused.Quote no_quote.Lifted)
verdict_note (verdict.CancelAccepted id quote request) settlement =
    refused_unless (is_withdrawn settlement) (refused.Cancel no_cancel.Lifted)
verdict_note other settlement = None

-- what is noted of a closing notice of this request: a trade, where the notice is that of a hit
abbrev pub trade_of : Close → StandingRequest → Option DealerNote
trade_of closes.Hit request = Some (note.Trade request.ask.investor)
trade_of other request = None

-- the same, where a notice is due
abbrev pub notice_note : Close → Option StandingRequest → Option DealerNote
notice_note close None = None
notice_note close (Some request) = trade_of close request

-- what is noted of the drop of a quote, where one is left to be dropped
abbrev pub drop_note : Option Settled → Option StandingQuote → Option DealerNote
drop_note settlement None = None
drop_note settlement (Some own) =
    refused_unless (is_withdrawn settlement) (refused.Cancel no_cancel.Lifted)

-- what is noted beside the message that an event sends, if anything is
unfoldable pub event_note : List ℕ → DealerRow → DealerBook → DealerEvent → Option DealerNote
event_note date row book (event.Received moment bytes settlement) =
    verdict_note (dealer_verdict date row book moment bytes) settlement
event_note date row book (event.Shown room ask moment) = None
event_note date row book (event.Told request close moment) =
    notice_note close (closable book request)
event_note date row book (event.Drop last moment settlement) =
    drop_note settlement (quote_to_drop book last)

-- what is noted with the message of an event, if it sends one
abbrev pub notes_with : Option OutMessage → Option DealerNote → List (Option DealerNote)
notes_with None noted = []
notes_with (Some message) noted = noted ∷ []

-- what is noted with the messages of these events, at a desk that stands so
abbrev pub notes_from : List ℕ → DealerRow → DeskState → List DealerEvent
    → List (Option DealerNote)
notes_from date row desk [] = []
notes_from date row desk (event ∷ events) =
    notes_with (event_message date row (book_of desk.facts) event)
    (event_note date row (book_of desk.facts) event)
    ++ notes_from date row (after_event date row desk event) events

-- what is noted of a dealer's messages, one for each and in their order: nothing but the day, its
-- own row and the events at its desk goes into it
abbrev pub dealer_notes : List ℕ → DealerRow → List DealerEvent → List (Option DealerNote)
dealer_notes date row events = notes_from date row no_facts events
