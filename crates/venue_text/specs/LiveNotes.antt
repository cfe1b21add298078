-- What the desks of a venue note beside its messages, as lines behind them.
use Rattle.std.specs.Prelude.{ℕ, zero, suc, Bool, List, [], ◌++◌, length, slice_get, Option}
use Rattle.std.specs.Prelude.{Some, None}
use Rattle.std.specs.List.{flat_map}
use Rattle.std.specs.Option.{option_map, option_to_list}
use Rattle.venue_rows.specs.Rows.{Configuration, dealer_numbered, firm_names, investor_numbered}
use Rattle.venue_rows.specs.declared.dealer_rows.DealerRow.{DealerRow}
use Rattle.investor_desk.specs.InvestorDesk.{market_of}
use Rattle.step_replay.specs.AuditTrail.{AuditTrail, due_to}
use Rattle.step_replay.specs.FirmDays.{FirmDay, firm_days}
use Rattle.step_replay.specs.LiveDays.{Sent}
use Rattle.step_replay.specs.NoteViews.{dealer_note_view}
use Rattle.step_replay.specs.NotedTrail.{notes_by}
use Rattle.step_replay.specs.VenueFacts.{of_investor}
use Rattle.venue_text.specs.MessageLines.{line_of}
use Rattle.note_lines.specs.NoteLines.{dealer_note_line, investor_note_line, message_number}

-- the line behind the message of this firm with this number, by the row of the dealer that it is,
-- or else of the investor
abbrev pub note_line_by : Configuration → AuditTrail → ℕ → ℕ → Option DealerRow → List ℕ
note_line_by config trail firm number (Some row) =
    dealer_note_line config.date row.name
    (dealer_note_view config.date row (due_to firm trail)) number
note_line_by config trail firm number None =
    flat_map (λ row. investor_note_line config.date row.name
    (notes_by (market_of config firm row) (of_investor firm trail.facts)) number)
    (option_to_list (investor_numbered config firm))

abbrev pub firm_note_line : Configuration → AuditTrail → ℕ → ℕ → List ℕ
firm_note_line config trail firm number =
    note_line_by config trail firm number (dealer_numbered config firm)

-- the line of a message, of the firm that it was sent to, and the line behind it
abbrev pub noted_sent : Bool → Configuration → AuditTrail → Sent → List ℕ
noted_sent with_frames config trail sent =
    flat_map (λ name. line_of with_frames name sent.1)
    (option_to_list (slice_get (firm_names config) sent.0))
    ++ firm_note_line config trail sent.0 (message_number sent.1)

-- the same of all messages
abbrev pub noted_all : Bool → Configuration → AuditTrail → List Sent → List ℕ
noted_all with_frames config trail sent = flat_map (noted_sent with_frames config trail) sent

-- Firm by firm.

-- messages of the firm with this number
abbrev pub noted_messages : Bool → Configuration → AuditTrail → ℕ → List (List ℕ) → List ℕ
noted_messages with_frames config trail firm messages =
    flat_map (λ message. noted_sent with_frames config trail (firm, message)) messages

abbrev pub firm_noted_text : Bool → Configuration → AuditTrail → ℕ → List ℕ
firm_noted_text with_frames config trail firm =
    flat_map (noted_messages with_frames config trail firm)
    (option_to_list (option_map (λ (day : FirmDay). day.sent)
    (slice_get (firm_days config trail.facts) firm)))

-- the texts of the firms before the one with this number
abbrev pub texts_before : (ℕ → List ℕ) → ℕ → List ℕ
texts_before text zero = []
texts_before text (suc firm) = texts_before text firm ++ text firm

-- the messages of the firms that are asked for
abbrev pub noted_days_text : Bool → Configuration → AuditTrail → Option ℕ → List ℕ
noted_days_text with_frames config trail None =
    texts_before (firm_noted_text with_frames config trail) (length (firm_names config))
noted_days_text with_frames config trail (Some firm) =
    firm_noted_text with_frames config trail firm
