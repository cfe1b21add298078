-- What a session says, field by field.
use Rattle.std.specs.Prelude.{ℕ, Bool, true, false, List, [], ◌∷◌, ◌++◌, codes, decimal, Option, Some, None, unwrap_or}
use Rattle.fix_fields.specs.Frame.{Field, value_of}
use Rattle.fix_fields.specs.UtcTimestamp.{timestamp_text}
use Rattle.fix_sessions.specs.declared.texts.Names.{Names}
use Rattle.fix_sessions.specs.declared.turns.Denial.{Denial}
use Rattle.fix_sessions.specs.declared.turns.Fault.{Fault}
use Rattle.fix_sessions.specs.declared.turns.Said.{Said}
use Rattle.fix_sessions.specs.declared.turns.Why.{Why}
use Rattle.fix_sessions.specs.declared.turns.Why.TheVariants as why
use Rattle.fix_sessions.specs.declared.turns.Word.{Word}
use Rattle.fix_sessions.specs.declared.turns.Word.TheVariants as word

-- MsgType (35) of what is kept
abbrev pub type_in : List Field → List ℕ
type_in body = unwrap_or (value_of 35 body) []

-- MsgType (35)
abbrev pub type_of : Word → List ℕ
type_of (word.Logon seconds resets expects) = codes "A"
type_of word.Heartbeat = codes "0"
type_of (word.Answer id) = codes "0"
type_of (word.TestRequest id) = codes "1"
type_of (word.ResendRequest first) = codes "2"
type_of (word.Reject number kind fault) = codes "3"
type_of (word.Fill next) = codes "4"
type_of (word.Logout why) = codes "5"
type_of (word.Foreign version) = codes "5"
type_of (word.LogoutFor text) = codes "5"
type_of (word.Denied number kind denial) = codes "j"
type_of (word.Kept body is_copy) = type_in body
type_of (word.Again body is_copy first) = type_in body

-- MsgType, SenderCompID, TargetCompID, MsgSeqNum
abbrev pub head : Names → List ℕ → ℕ → List Field
head names msg_type number =
    (35, msg_type) ∷ (49, names.venue) ∷ (56, names.firm) ∷ (34, decimal number) ∷ []

-- PossDupFlag (43) of what is sent again, SendingTime (52), and OrigSendingTime (122)
abbrev pub repeat_times : List ℕ → ℕ → ℕ → List Field
repeat_times date moment first =
    (43, codes "Y") ∷ (52, timestamp_text date moment) ∷ (122, timestamp_text date first) ∷ []

-- PossResend (97) of a copy
abbrev pub copy_mark : Bool → List Field
copy_mark true = (97, codes "Y") ∷ []
copy_mark false = []

abbrev pub times : List ℕ → ℕ → Word → List Field
times date moment (word.Fill next) = repeat_times date moment moment
times date moment (word.Again body is_copy first) = repeat_times date moment first ++ copy_mark is_copy
times date moment (word.Kept body is_copy) = (52, timestamp_text date moment) ∷ copy_mark is_copy
times date moment other = (52, timestamp_text date moment) ∷ []

-- a number, where there is one
abbrev pub number_field : ℕ → Option ℕ → List Field
number_field tag None = []
number_field tag (Some number) = (tag, decimal number) ∷ []

abbrev pub text_field : ℕ → Option (List ℕ) → List Field
text_field tag None = []
text_field tag (Some text) = (tag, text) ∷ []

abbrev pub reset_mark : Bool → List Field
reset_mark true = (141, codes "Y") ∷ []
reset_mark false = []

-- a Logon: no encryption, the heartbeat, what it asked for, and FIX 5.0 SP2
abbrev pub logon_fields : ℕ → Bool → Option ℕ → List Field
logon_fields seconds resets expects =
    (98, codes "0") ∷ (108, decimal seconds) ∷ [] ++ reset_mark resets ++ number_field 789 expects
    ++ (1137, codes "9") ∷ []

abbrev pub reject_fields : ℕ → Option (List ℕ) → Fault → List Field
reject_fields number kind fault =
    (45, decimal number) ∷ [] ++ number_field 371 fault.tag ++ text_field 372 kind
    ++ (373, decimal fault.reason) ∷ []

-- a BusinessMessageReject: which message is not taken, what the gateway names, and why
abbrev pub denied_fields : ℕ → Option (List ℕ) → Denial → List Field
denied_fields number kind denial =
    (45, decimal number) ∷ [] ++ text_field 372 kind ++ text_field 379 denial.id
    ++ (380, decimal denial.reason) ∷ (58, denial.text) ∷ []

-- Text (58) of a Logout
abbrev pub why_text : Why → List ℕ
why_text why.Answered = []
why_text why.Closed = codes "the venue is closed"
why_text why.Suspended = codes "suspended by the venue"
why_text why.Encrypted = codes "EncryptMethod (98) is not 0"
why_text why.Version = codes "DefaultApplVerID (1137) is not 9"
why_text why.Heartbeat = codes "HeartBtInt (108) is not 1 to 300"
why_text why.Clock = codes "SendingTime (52) is not the venue's time"
why_text why.Reset = codes "numbers are not reset any more today (141)"
why_text why.Lost = codes "MsgSeqNum was too low: ask the venue"
why_text why.Begin = codes "numbers begin at 1: log on with 141=Y"
why_text (why.TooLow expected) = codes "MsgSeqNum too low, expecting " ++ decimal expected
why_text why.Ahead = codes "NextExpectedMsgSeqNum (789) is not one that the venue has reached"
why_text why.LoggedOn = codes "logged on already"
why_text why.Number = codes "MsgSeqNum (34) can not be read"
why_text why.Names = codes "SenderCompID (49) or TargetCompID (56) is another's"
why_text why.TooLong = codes "a message has more than 65536 bytes"
why_text why.Silent = codes "nothing came"

abbrev pub names_no_number : Why → Bool
names_no_number (why.TooLow expected) = false
names_no_number other = true

abbrev pub text_if_any : List ℕ → List Field
text_if_any [] = []
text_if_any (byte ∷ bytes) = (58, byte ∷ bytes) ∷ []

-- the fields of what is kept behind its MsgType
abbrev pub behind_type : List Field → List Field
behind_type [] = []
behind_type (field ∷ fields) = fields

-- what stands behind the header
abbrev pub body_of : Word → List Field
body_of (word.Logon seconds resets expects) = logon_fields seconds resets expects
body_of word.Heartbeat = []
body_of (word.Answer id) = (112, id) ∷ []
body_of (word.TestRequest id) = (112, decimal id) ∷ []
body_of (word.ResendRequest first) = (7, decimal first) ∷ (16, codes "0") ∷ []
body_of (word.Reject number kind fault) = reject_fields number kind fault
body_of (word.Fill next) = (123, codes "Y") ∷ (36, decimal next) ∷ []
body_of (word.Logout why) = text_if_any (why_text why)
body_of (word.Foreign version) = (58, codes "BeginString is " ++ version) ∷ []
body_of (word.LogoutFor text) = (58, text) ∷ []
body_of (word.Denied number kind denial) = denied_fields number kind denial
body_of (word.Kept body is_copy) = behind_type body
body_of (word.Again body is_copy first) = behind_type body

-- all fields of a message to a firm
abbrev pub said_fields : Names → List ℕ → ℕ → Said → List Field
said_fields names date moment said =
    head names (type_of said.word) said.number ++ times date moment said.word ++ body_of said.word

-- what is kept of a message: MsgType, and what stands behind the header
abbrev pub kept_fields : Word → List Field
kept_fields w = (35, type_of w) ∷ body_of w
