-- How bytes move the expected number, and that no message is counted and dropped.
use Rattle.std.specs.Prelude.{◌≡◌, ℕ, ◌+◌, ◌<◌, Bool, true, false, ◌&&◌, ◌||◌, ◌==◌, List, length, Option, Some, None, is_some, ◌⊎◌, if◌then◌else◌}
use Rattle.fix_sessions.specs.Cuts.{body_of, front_of, is_whole, read_of_long, version_of}
use Rattle.fix_sessions.specs.Fields.{fields_in}
use Rattle.fix_sessions.specs.Heard.{foreign_of, is_logout, kind_of, logon_of, number_once}
use Rattle.fix_sessions.specs.declared.cuts.Front.{Front}
use Rattle.fix_sessions.specs.declared.cuts.Front.TheVariants as front
use Rattle.fix_sessions.specs.declared.messages.Kind.{Kind}
use Rattle.fix_sessions.specs.declared.messages.Kind.TheVariants as kind
use Rattle.fix_sessions.specs.declared.messages.Reading.{Reading}
use Rattle.fix_sessions.specs.declared.messages.Reading.TheVariants as reading
use Rattle.fix_sessions.specs.declared.messages.Terms.{Terms}
use Rattle.fix_sessions.specs.declared.messages.TestId.TheVariants as test_id
use Rattle.fix_sessions.specs.declared.state.Day.{Day}
use Rattle.fix_sessions.specs.declared.texts.Names.{Names}
use Rattle.fix_sessions.specs.declared.turns.Ending.TheVariants as ending
use Rattle.fix_sessions.specs.declared.turns.Said.{Said}
use Rattle.fix_sessions.specs.declared.turns.Turn.{Turn}
use Rattle.fix_sessions.specs.declared.turns.Word.{Word}
use Rattle.fix_sessions.specs.declared.turns.Word.TheVariants as word
use Rattle.laws_sessions.specs.Days.{Event, Came}

-- What bytes are.

-- one message, with right length and right sum
abbrev pub is_message : List ℕ → Bool
is_message bytes = is_whole (front_of bytes) bytes

-- the MsgSeqNum (34) that a message bears: there once, and readable. Of one of more than 65,536 bytes
-- it is read if it ends with SOH among the first 65,536
abbrev pub number_by : Front → List ℕ → Option ℕ
number_by (front.Whole len) bytes =
    if len == length bytes then number_once (fields_in (body_of bytes)) else None
number_by front.TooLong bytes = number_once (fields_in (read_of_long bytes))
number_by other bytes = None

abbrev pub number_borne : List ℕ → Option ℕ
number_borne bytes = number_by (front_of bytes) bytes

-- what a message says, by its MsgType (35)
abbrev pub kind_in : List ℕ → Kind
kind_in bytes = kind_of (fields_in (body_of bytes))

-- a message of the session's own that wants no answer at once: Logon, Heartbeat, ResendRequest, Reject,
-- SequenceReset, Logout
abbrev pub is_own : Kind → Bool
is_own kind.Logon = true
is_own (kind.Heartbeat answers) = true
is_own (kind.ResendRequest first last) = true
is_own kind.Reject = true
is_own (kind.Fill next) = true
is_own (kind.Reset next) = true
is_own kind.Logout = true
is_own _ = false

abbrev pub is_own_message : List ℕ → Bool
is_own_message bytes = is_logout bytes || (is_message bytes && is_own (kind_in bytes))

-- one that is not read any further: of another BeginString (8), or of more than 65,536 bytes
abbrev pub is_too_long : Front → Bool
is_too_long front.TooLong = true
is_too_long other = false

abbrev pub is_unread : List ℕ → Bool
is_unread bytes = is_too_long (front_of bytes) || is_some (foreign_of (version_of bytes))

-- NewSeqNo (36) of a SequenceReset, in reset mode or as a gap fill
abbrev pub read_number : Reading → Option ℕ
read_number reading.Missing = None
read_number reading.Faulty = None
read_number (reading.Is number) = Some number

abbrev pub new_in : Kind → Option ℕ
new_in (kind.Fill next) = read_number next
new_in (kind.Reset next) = read_number next
new_in _ = None

abbrev pub new_number : List ℕ → Option ℕ
new_number bytes = if is_message bytes then new_in (kind_in bytes) else None

-- What becomes of a message that is counted.

-- an answer to the message of a number: a Reject or a BusinessMessageReject that names it (45), or a Logout
abbrev pub is_answer_to : ℕ → Word → Bool
is_answer_to came (word.Reject number kind fault) = number == came
is_answer_to came (word.Denied number kind denial) = number == came
is_answer_to came (word.Logout why) = true
is_answer_to came (word.LogoutFor text) = true
is_answer_to came (word.Foreign version) = true
is_answer_to came other = false

abbrev pub is_answered_by : ℕ → Option Said → Bool
is_answered_by came None = false
is_answered_by came (Some said) = is_answer_to came said.word

-- TestReqID (112) of a TestRequest, and of the Heartbeat that answers one
abbrev pub test_in : Kind → Option (List ℕ)
test_in (kind.TestRequest (test_id.Is id)) = Some id
test_in _ = None

abbrev pub test_asked : List ℕ → Option (List ℕ)
test_asked bytes = if is_message bytes then test_in (kind_in bytes) else None

abbrev pub echo_in : Word → Option (List ℕ)
echo_in (word.Answer id) = Some id
echo_in other = None

abbrev pub echo_of : Option Said → Option (List ℕ)
echo_of None = None
echo_of (Some said) = echo_in said.word

pub record IsEchoed (bytes : List ℕ) (t : Turn) : Type 0 where
  pub id : List ℕ
  pub asked : test_asked bytes ≡ Some id
  pub echoed : echo_of t.first ≡ Some id

abbrev pub is_logon_word : Word → Bool
is_logon_word (word.Logon seconds resets expects) = true
is_logon_word other = false

abbrev pub is_logged_on_by : Option Said → Bool
is_logged_on_by None = false
is_logged_on_by (Some said) = is_logon_word said.word

-- what is not read any further ends the connection, where no Logout may leave
pub record IsCutOff (bytes : List ℕ) (t : Turn) : Type 0 where
  pub unread : is_unread bytes ≡ true
  pub ends : t.ending ≡ ending.Ends

-- it is given to the venue, or answered, or the session's own, or a TestRequest to which its Heartbeat is
-- given, or not read any further
abbrev pub IsDealtWith : List ℕ → Day → Turn → Type 0
IsDealtWith bytes d t =
    (t.takes ≡ Some d.expected)
    ⊎ ((is_answered_by d.expected t.first ≡ true)
    ⊎ ((is_own_message bytes ≡ true) ⊎ (IsEchoed bytes t ⊎ IsCutOff bytes t)))

-- The ways in which the expected number moves.

-- by one, on a message that bears it
pub record IsCounted (bytes : List ℕ) (d : Day) (t : Turn) : Type 0 where
  pub numbered : number_borne bytes ≡ Some d.expected
  pub by_one : t.session.day.expected ≡ d.expected + 1
  pub dealt : IsDealtWith bytes d t

-- to a higher one, by the firm's own SequenceReset
pub record IsSet (bytes : List ℕ) (d : Day) (t : Turn) : Type 0 where
  pub set : new_number bytes ≡ Some t.session.day.expected
  pub higher : d.expected < t.session.day.expected

-- by one, on a Logon that bears it; the Logon is answered
pub record IsLogonCounted (terms : Option Terms) (d : Day) (t : Turn) : Type 0 where
  pub logon : Terms
  pub is : terms ≡ Some logon
  pub numbered : logon.number ≡ d.expected
  pub by_one : t.session.day.expected ≡ d.expected + 1
  pub answered : is_logged_on_by t.first ≡ true

-- to 1, by the firm's Logon with 141=Y and 34=1, while the venue has been given nothing of the firm.
-- The Logon is counted, and answered
pub record IsRestart (terms : Option Terms) (d : Day) (t : Turn) : Type 0 where
  pub logon : Terms
  pub is : terms ≡ Some logon
  pub resets : logon.resets ≡ true
  pub numbered : logon.number ≡ 1
  pub nothing_taken : d.was_taken ≡ false
  pub counted : t.session.day.expected ≡ 2
  pub answered : is_logged_on_by t.first ≡ true

abbrev pub IsMoved : Names → List ℕ → Day → Turn → Type 0
IsMoved names bytes d t =
    IsCounted bytes d t
    ⊎ (IsSet bytes d t ⊎ (IsLogonCounted (logon_of names bytes) d t ⊎ IsRestart (logon_of names bytes) d t))

abbrev pub IsStill : Day → Turn → Type 0
IsStill d t = t.session.day.expected ≡ d.expected

-- whether an event is bytes of a firm
abbrev pub is_bytes : Event → Bool
is_bytes (Came connection clock bytes is_known denial) = true
is_bytes other = false
