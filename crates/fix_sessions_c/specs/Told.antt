-- What C is told of a turn.
use Rattle.std.specs.Prelude.{◌≡◌, ◌≤◌, ◌<◌, ◌⊎◌, ℕ, ◌*◌, ◌==◌, Bool, true, false, List, [], ◌++◌, length, take, Option, Some, None, unwrap_or, if◌then◌else◌}
use Rattle.fix_fields.specs.Frame.{frame_text, frame_of}
use Rattle.fix_fields.specs.UtcTimestamp.{IsDate}
use Rattle.fix_fields.specs.declared.limits.TheConstants.{A_DAY}
use Rattle.fix_sessions.specs.Names.{AreNames}
use Rattle.fix_sessions.specs.Texts.{text_if_short, date_number}
use Rattle.fix_sessions.specs.Written.{said_fields, kept_fields}
use Rattle.fix_sessions.specs.declared.heard.Logon.{Logon}
use Rattle.fix_sessions.specs.declared.cuts.Found.{Found}
use Rattle.fix_sessions.specs.declared.cuts.What.{What}
use Rattle.fix_sessions.specs.declared.cuts.What.TheVariants as what
use Rattle.fix_sessions.specs.declared.orders.Order.{Order}
use Rattle.fix_sessions.specs.declared.orders.Order.TheVariants as order
use Rattle.fix_sessions.specs.declared.state.Clock.{Clock}
use Rattle.fix_sessions.specs.declared.state.TheConstants.{DAY_LENGTH}
use Rattle.fix_sessions.specs.declared.texts.Names.{Names}
use Rattle.fix_sessions.specs.declared.turns.Denial.{Denial}
use Rattle.fix_sessions.specs.declared.turns.Ending.{Ending}
use Rattle.fix_sessions.specs.declared.turns.Ending.TheVariants as ending
use Rattle.fix_sessions.specs.declared.turns.Notice.{Notice}
use Rattle.fix_sessions.specs.declared.turns.Notice.TheVariants as notice
use Rattle.fix_sessions.specs.declared.turns.Said.{Said}
use Rattle.fix_sessions.specs.declared.turns.Stored.{Stored}
use Rattle.fix_sessions.specs.declared.turns.Turn.{Turn}
use Rattle.fix_sessions.specs.declared.turns.Want.{Want}
use Rattle.fix_sessions.specs.declared.turns.Want.TheVariants as want
use Rattle.fix_sessions.specs.declared.turns.Way.{Way}
use Rattle.fix_sessions.specs.declared.turns.Way.TheVariants as way
use Rattle.fix_sessions_c.specs.States.{shown}
use Rattle.fix_sessions_c.specs.declared.parts.TheConstants.{MOST_SAID}
use Rattle.fix_sessions_c.specs.declared.states.SessionState.{SessionState}
use Rattle.fix_sessions_c.specs.declared.streams.Asked.{Asked}
use Rattle.fix_sessions_c.specs.declared.streams.FoundNext.{FoundNext}
use Rattle.fix_sessions_c.specs.declared.streams.Wanted.{Wanted}
use Rattle.fix_sessions_c.specs.declared.told.Sent.{Sent}
use Rattle.fix_sessions_c.specs.declared.told.Told.{Told}

-- whose session it is, by the texts that C hands in: no desk where the third is none
abbrev pub AreNamed : List ℕ → List ℕ → List ℕ → Names → Type 0
AreNamed firm venue desk names = AreNames firm venue (text_if_short desk) names

-- a date is none, or its day has no such moment
abbrev pub IsNoTime : List ℕ → ℕ → Type 0
IsNoTime date moment = (¬ IsDate date) ⊎ (¬ (moment < A_DAY))

-- the clock at a moment of a day
abbrev pub IsClock : List ℕ → ℕ → Clock → Type 0
IsClock date moment clock =
    (clock.midnight ≡ date_number date * DAY_LENGTH) × (clock.moment ≡ moment)

-- a text of the gateway's that a message has
abbrev pub IsSaid : List ℕ → List ℕ → Type 0
IsSaid bytes text = (text ≡ bytes) × (length bytes ≤ MOST_SAID)

-- a name, where it is not empty
abbrev pub IsNamed : List ℕ → Option (List ℕ) → Type 0
IsNamed bytes None = bytes ≡ []
IsNamed bytes (Some name) = IsSaid bytes name

-- what the gateway says of a message, by what C hands in: nothing where it takes it
abbrev pub IsDenial : Bool → ℕ → List ℕ → List ℕ → Option Denial → Type 0
IsDenial is_denied reason id text None = is_denied ≡ false
IsDenial is_denied reason id text (Some denial) =
    (is_denied ≡ true) × ((denial.reason ≡ reason) × (IsNamed id denial.id × IsSaid text denial.text))

-- a number, or 0
abbrev pub code : Option ℕ → ℕ
code None = 0
code (Some n) = n

abbrev pub is_kept : Way → Bool
is_kept way.Leaves = false
is_kept way.KeptAndLeaves = true
is_kept way.Kept = true

abbrev pub is_leaving : Way → Bool
is_leaving way.Leaves = true
is_leaving way.KeptAndLeaves = true
is_leaving way.Kept = false

-- the frame of a message that leaves, and the one that is kept
abbrev pub sent_bytes : Names → List ℕ → ℕ → Option Said → List ℕ
sent_bytes names date moment None = []
sent_bytes names date moment (Some said) =
    if is_leaving said.way then frame_text (said_fields names date moment said) else []

abbrev pub kept_bytes : Option Said → List ℕ
kept_bytes None = []
kept_bytes (Some said) = if is_kept said.way then frame_text (kept_fields said.word) else []

-- all bytes of a turn
abbrev pub all_bytes : Names → List ℕ → ℕ → Turn → List ℕ
all_bytes names date moment turn =
    sent_bytes names date moment turn.first ++ sent_bytes names date moment turn.second
    ++ kept_bytes turn.first

abbrev pub sent_of : Option Said → ℕ → Sent
sent_of None len = record { number = 0; len = len; is_kept = false }
sent_of (Some said) len = record { number = said.number; len = len; is_kept = is_kept said.way }

abbrev pub ending_code : Ending → ℕ
ending_code ending.Stands = 0
ending_code ending.Ends = 1
ending_code ending.Parts = 2

abbrev pub some_notice_code : Notice → ℕ
some_notice_code notice.Credentials = 1
some_notice_code (notice.Refused why) = 2
some_notice_code notice.Denied = 2
some_notice_code notice.LostStore = 3
some_notice_code notice.Rejected = 4
some_notice_code notice.Dead = 5

abbrev pub notice_code : Option Notice → ℕ
notice_code None = 0
notice_code (Some told) = some_notice_code told

abbrev pub told_of : Turn → ℕ → ℕ → ℕ → Told
told_of turn first second kept = record {
  connection = turn.connection;
  first = sent_of turn.first first;
  second = sent_of turn.second second;
  kept_len = kept;
  takes = code turn.takes;
  drops_rejects = turn.drops_rejects;
  ending = ending_code turn.ending;
  notice = notice_code turn.notice;
}

-- A turn is done: the session is the next one, the turn's bytes are at the front of what C gave for
-- them, and it is told.
pub record IsTold (names : Names) (date : List ℕ) (moment : ℕ) (turn : Turn) (session : SessionState) (out : List ℕ) (report : Told) : Type 0 where
  pub goes_on : session ≡ shown turn.session
  pub bytes : take (length (all_bytes names date moment turn)) out ≡ all_bytes names date moment turn
  pub told : report ≡ told_of turn (length (sent_bytes names date moment turn.first)) (length (sent_bytes names date moment turn.second)) (length (kept_bytes turn.first))

-- what C hands in: nothing, or a frame that was kept at a moment
abbrev pub IsStored : List ℕ → ℕ → Bool → Option Stored → Type 0
IsStored frame first is_copy None = frame ≡ []
IsStored frame first is_copy (Some stored) =
    (frame_of frame ≡ Some stored.body) × ((stored.first ≡ first) × (stored.is_copy ≡ is_copy))

-- Streams, and what a first message asks for.

abbrev pub found_by : ℕ → What → FoundNext
found_by skip what.Nothing = record { skip = skip; kind = 0; len = 0 }
found_by skip (what.Message len) = record { skip = skip; kind = 1; len = len }
found_by skip what.TooLong = record { skip = skip; kind = 2; len = 0 }

abbrev pub found_next : Found → FoundNext
found_next found = found_by found.skip found.what

abbrev pub text_or_none : Option (List ℕ) → List ℕ
text_or_none text = unwrap_or text []

abbrev pub asked_bytes : Logon → List ℕ
asked_bytes logon =
    logon.firm ++ logon.venue ++ text_or_none logon.desk ++ text_or_none logon.username
    ++ text_or_none logon.password

abbrev pub asked_of : Logon → Asked
asked_of logon = record {
  firm = length logon.firm;
  venue = length logon.venue;
  desk = length (text_or_none logon.desk);
  username = length (text_or_none logon.username);
  password = length (text_or_none logon.password);
}

-- the texts of a Logon are at the front of what C gave for them
pub record IsAsked (question : Option Logon) (out : List ℕ) (lengths : Asked) : Type 0 where
  pub logon : Logon
  pub is : question ≡ Some logon
  pub bytes : take (length (asked_bytes logon)) out ≡ asked_bytes logon
  pub lengths_are : lengths ≡ asked_of logon

-- what a session asks for
abbrev pub wanted : Want → Wanted
wanted want.Nothing = record { kind = 0; number = 0 }
wanted (want.Again number) = record { kind = 1; number = number }
wanted (want.Fresh number) = record { kind = 2; number = number }
wanted want.Tick = record { kind = 3; number = 0 }
wanted (want.Logon connection) = record { kind = 4; number = connection }

-- an operator's order
abbrev pub order_of : ℕ → ℕ → Option Order
order_of kind copies =
    if kind == 0 then Some order.Open
    else if kind == 1 then Some order.Close
    else if kind == 2 then Some order.Suspend
    else if kind == 3 then Some order.Resume
    else if kind == 4 then Some order.Release
    else if kind == 5 then Some (order.Reset copies) else None
