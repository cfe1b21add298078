-- What leaves of what is kept: all but the session's own fields of the header.
use Rattle.std.specs.Prelude.{ℕ, Bool, true, false, ◌||◌, ◌==◌, not, List, [], ◌∷◌, if◌then◌else◌}
use Rattle.fix_fields.specs.Frame.{Field}
use Rattle.fix_sessions.specs.declared.turns.Word.{Word}
use Rattle.fix_sessions.specs.declared.turns.Word.TheVariants as word

-- a field of the header that the session puts behind MsgType (35): SenderCompID (49), TargetCompID (56),
-- MsgSeqNum (34), PossDupFlag (43), SendingTime (52), OrigSendingTime (122), PossResend (97)
abbrev pub is_of_header : ℕ → Bool
is_of_header tag =
    (tag == 49) || (tag == 56) || (tag == 34) || (tag == 43) || (tag == 52) || (tag == 122) || (tag == 97)

abbrev pub after_header : List Field → List Field
after_header [] = []
after_header (field ∷ fields) = if is_of_header field.0 then after_header fields else field ∷ fields

-- a message without them: MsgType (35), and what stands behind the header
abbrev pub without_header : List Field → List Field
without_header [] = []
without_header (field ∷ fields) = field ∷ after_header fields

-- what stands behind a header does not begin with one of its fields
abbrev pub leads_body : List Field → Bool
leads_body [] = true
leads_body (field ∷ fields) = not (is_of_header field.0)

-- a message that is kept under its number, without 43 or with it
abbrev pub is_of_kept : Word → Bool
is_of_kept (word.Kept body is_copy) = true
is_of_kept (word.Again body is_copy first) = true
is_of_kept other = false
