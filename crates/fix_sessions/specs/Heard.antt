-- What bytes say to the session of a firm.
use Rattle.std.specs.Prelude.{ℕ, Bool, true, ◌&&◌, ◌||◌, ◌==◌, not, List, length, codes, Option, Some, None, nat_eq}
use Rattle.std.specs.Prelude.{if◌then◌else◌, option_and_then, is_some}
use Rattle.std.specs.Cmp.Lexicographic.{pointwise}
use Rattle.fix_fields.specs.Frame.{Field, value_of, times_of}
use Rattle.fix_sessions.specs.Cuts.{front_of, version_of, body_of, read_of_long, is_whole}
use Rattle.fix_sessions.specs.Fields.{fields_in}
use Rattle.fix_sessions.specs.Flaws.{flaw_of, is_msg_type}
use Rattle.fix_sessions.specs.Texts.{has_text, number_of, number_at, text_at, time_at, text_if_short}
use Rattle.fix_sessions.specs.declared.cuts.Front.{Front}
use Rattle.fix_sessions.specs.declared.cuts.Front.TheVariants as front
use Rattle.fix_sessions.specs.declared.messages.TestId.{TestId}
use Rattle.fix_sessions.specs.declared.messages.TestId.TheVariants as test_id
use Rattle.fix_sessions.specs.declared.messages.Terms.{Terms}
use Rattle.fix_sessions.specs.declared.messages.Kind.{Kind}
use Rattle.fix_sessions.specs.declared.messages.Kind.TheVariants as kind
use Rattle.fix_sessions.specs.declared.messages.Incoming.{Incoming}
use Rattle.fix_sessions.specs.declared.messages.Heard.{Heard}
use Rattle.fix_sessions.specs.declared.messages.Heard.TheVariants as heard
use Rattle.fix_sessions.specs.declared.heard.Logon.{Logon}
use Rattle.fix_sessions.specs.declared.texts.Names.{Names}
use Rattle.fix_sessions.specs.declared.turns.Denial.{Denial}

-- a number from 1 on
abbrev pub from_one : Option ℕ → Option ℕ
from_one None = None
from_one (Some number) = if number == 0 then None else Some number

-- MsgSeqNum (34): there once, and a number from 1 on
abbrev pub number_once : List Field → Option ℕ
number_once fields =
    if times_of 34 fields == 1 then from_one (option_and_then number_of (value_of 34 fields)) else None

-- the tag of the name that is another's
abbrev pub stranger_of : Names → List Field → Option ℕ
stranger_of names fields =
    if not (has_text 49 names.firm fields) then Some 49
    else if not (has_text 56 names.venue fields) then Some 56 else None

-- what a TestRequest asks for
abbrev pub test_id_as : Option (List ℕ) → TestId
test_id_as None = test_id.TooLong
test_id_as (Some id) = test_id.Is id

abbrev pub test_id_of : Option (List ℕ) → TestId
test_id_of None = test_id.Missing
test_id_of (Some text) = test_id_as (text_if_short text)

-- a SequenceReset (35=4), by its GapFillFlag (123): absent or N is reset mode
abbrev pub is_reset_mode : List Field → Bool
is_reset_mode fields = (times_of 123 fields == 0) || has_text 123 (codes "N") fields

abbrev pub reset_of : List Field → Kind
reset_of fields =
    if is_reset_mode fields then kind.Reset (number_at 36 fields)
    else kind.Fill (number_at 36 fields)

-- what a message says beside its header, by its MsgType (35)
abbrev pub kind_of : List Field → Kind
kind_of fields =
    if has_text 35 (codes "A") fields then kind.Logon
    else if has_text 35 (codes "0") fields then kind.Heartbeat (option_and_then number_of (value_of 112 fields))
    else if has_text 35 (codes "1") fields then kind.TestRequest (test_id_of (value_of 112 fields))
    else if has_text 35 (codes "2") fields then kind.ResendRequest (number_at 7 fields) (number_at 16 fields)
    else if has_text 35 (codes "3") fields then kind.Reject
    else if has_text 35 (codes "4") fields then reset_of fields
    else if has_text 35 (codes "5") fields then kind.Logout
    else kind.Other

-- MsgType (35) as a Reject names it: 1 to 4 letters or digits
abbrev pub type_if : List ℕ → Option (List ℕ)
type_if text = if is_msg_type text then Some text else None

abbrev pub msg_type_of : List Field → Option (List ℕ)
msg_type_of fields = option_and_then type_if (text_at 35 fields)

-- another BeginString than FIXT.1.1
abbrev pub is_fixt : List ℕ → Bool
is_fixt version = pointwise nat_eq version (codes "FIXT.1.1")

abbrev pub foreign_of : List ℕ → Option (List ℕ)
foreign_of version = if is_fixt version then None else text_if_short version

-- a message as the session sees it
abbrev pub incoming_of : Names → List ℕ → ℕ → List ℕ → Incoming
incoming_of names version whole body =
    let fields = fields_in body in
    record {
      version = foreign_of version;
      origin = record { number = number_once fields; msg_type = msg_type_of fields };
      stranger = stranger_of names fields;
      is_repeat = has_text 43 (codes "Y") fields;
      sent = time_at 52 fields;
      first_sent = time_at 122 fields;
      flaw = flaw_of whole body;
      kind = kind_of fields;
    }

-- what bytes say, by what stands at their front: nothing behind the message
abbrev pub heard_by : Names → Front → List ℕ → Heard
heard_by names front.Begun bytes = heard.Garbled
heard_by names front.Garbled bytes = heard.Garbled
heard_by names (front.Wrong len) bytes = heard.Garbled
heard_by names front.TooLong bytes = heard.TooLong (number_once (fields_in (read_of_long bytes)))
heard_by names (front.Whole len) bytes =
    if len == length bytes
    then heard.Message (incoming_of names (version_of bytes) (length bytes) (body_of bytes))
    else heard.Garbled

-- what bytes say
unfoldable pub heard_of : Names → List ℕ → Heard
heard_of names bytes = heard_by names (front_of bytes) bytes

-- A message of the venue's that the gateway does not take.

abbrev pub denied_other : Denial → Kind → Kind
denied_other denial kind.Other = kind.Denied denial
denied_other denial other = other

abbrev pub denied_kind : Option Denial → Kind → Kind
denied_kind None k = k
denied_kind (Some denial) k = denied_other denial k

abbrev pub denied_message : Option Denial → Incoming → Incoming
denied_message denial m = record m { kind = denied_kind denial m.kind }

-- what bytes say, as the gateway takes it
abbrev pub as_taken : Option Denial → Heard → Heard
as_taken denial (heard.Message m) = heard.Message (denied_message denial m)
as_taken denial other = other

-- The first message of a connection.

-- the body of bytes that are one message, and nothing more
abbrev pub whole_body : List ℕ → Option (List ℕ)
whole_body bytes = if is_whole (front_of bytes) bytes then Some (body_of bytes) else None

-- whether bytes are a Logon that can be read, whoever its names mean
abbrev pub is_logon : List ℕ → Bool
is_logon bytes =
    let fields = fields_in (body_of bytes) in
    is_whole (front_of bytes) bytes && is_fixt (version_of bytes)
    && not (is_some (flaw_of (length bytes) (body_of bytes))) && has_text 35 (codes "A") fields
    && is_some (number_once fields)

unfoldable pub logon_body : List ℕ → Option (List ℕ)
logon_body bytes = if is_logon bytes then Some (body_of bytes) else None

-- whose session a Logon names, and its credentials
abbrev pub named_in : List Field → Option (List ℕ) → Option (List ℕ) → Option Logon
named_in fields None venue = None
named_in fields (Some firm) None = None
named_in fields (Some firm) (Some venue) = Some (record {
  firm = firm;
  venue = venue;
  desk = text_at 57 fields;
  username = text_at 553 fields;
  password = text_at 554 fields;
})

abbrev pub question_in : Option (List ℕ) → Option Logon
question_in None = None
question_in (Some body) =
    let fields = fields_in body in
    named_in fields (text_at 49 fields) (text_at 56 fields)

-- what the first message of a connection asks for
unfoldable pub question : List ℕ → Option Logon
question bytes = question_in (logon_body bytes)

-- whether a Logon names this one of several venues, if it has to
abbrev pub names_desk : Option (List ℕ) → List Field → Bool
names_desk None fields = true
names_desk (Some desk) fields = has_text 57 desk fields

-- what a Logon asks for
abbrev pub terms_of : ℕ → List Field → Terms
terms_of number fields = record {
  number = number;
  sent = time_at 52 fields;
  is_plain = has_text 98 (codes "0") fields;
  is_fix50 = has_text 1137 (codes "9") fields;
  seconds = number_at 108 fields;
  resets = has_text 141 (codes "Y") fields;
  expects = number_at 789 fields;
}

abbrev pub terms_if : List Field → Option ℕ → Option Terms
terms_if fields None = None
terms_if fields (Some number) = Some (terms_of number fields)

abbrev pub terms_in : Names → Option (List ℕ) → Option Terms
terms_in names None = None
terms_in names (Some body) =
    let fields = fields_in body in
    if is_some (stranger_of names fields) then None
    else if names_desk names.desk fields then terms_if fields (number_once fields) else None

-- the terms of a Logon of this session
unfoldable pub logon_of : Names → List ℕ → Option Terms
logon_of names bytes = terms_in names (logon_body bytes)

-- whether bytes are a Logout of the firm
unfoldable pub is_logout : List ℕ → Bool
is_logout bytes =
    is_whole (front_of bytes) bytes && is_fixt (version_of bytes)
    && has_text 35 (codes "5") (fields_in (body_of bytes))
