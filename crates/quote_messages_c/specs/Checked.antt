-- How far a message of one dealer gets, as C is told it: the dealer DLR1 with the trader T1, on 14
-- March 2025.
use Rattle.std.specs.Prelude.{ℕ, List, [], ◌∷◌, codes, nat_lt, Option, Some, None, Result, Ok, Err}
use Rattle.std.specs.Prelude.{if◌then◌else◌}
use Rattle.fix_fields.specs.Frame.{Field, frame_of}
use Rattle.quote_messages.specs.SessionChecks.{dealer_tables, session_verdict}
use Rattle.quote_messages.specs.declared.quotes.DealerMessage.{DealerMessage}
use Rattle.quote_messages.specs.declared.session_faults.SessionFault.{SessionFault}

-- the verdict of the session checks
abbrev pub verdict_of : List Field → Result DealerMessage SessionFault
verdict_of fields =
    session_verdict dealer_tables (codes "DLR1") (codes "T1" ∷ []) (codes "20250314") fields

-- 2 where there is no session fault, 3 where there is one
abbrev pub verdict_code : Result DealerMessage SessionFault → ℕ
verdict_code (Ok message) = 2
verdict_code (Err fault) = 3

-- 4 where bytes are no frame, 1 where they are one and no more is asked, and else its verdict
abbrev pub frame_code : ℕ → Option (List Field) → ℕ
frame_code steps None = 4
frame_code steps (Some fields) =
    if nat_lt steps 2 then 1 else verdict_code (verdict_of fields)

-- 0 where bytes are not to be looked at, and else how far they get
abbrev pub read_code : ℕ → List ℕ → ℕ
read_code steps bytes = if nat_lt steps 1 then 0 else frame_code steps (frame_of bytes)
