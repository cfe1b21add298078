-- A message of the venue as a firm has it on the wire: the body stays the same, byte for byte and in
-- its order, except for the named fields. MsgSeqNum (34) stands in ApplSeqNum (1181), SendingTime (52)
-- in TransactTime (60), RefSeqNum (45) of a Reject names the session's number, and what the firm is
-- told beside the message stands last.
use Rattle.std.specs.Prelude.{◌≡◌, ◌≢◌, ◌⊎◌, ℕ, ◌<◌, ◌≤◌, ◌==◌, ◌&&◌, ◌||◌, Bool, true, false, not, List, [], ◌∷◌, ◌++◌}
use Rattle.std.specs.Prelude.{codes, decimal, map, nat_eq, nat_lt, length, if◌then◌else◌, Option, Some, None}
use Rattle.std.specs.Cmp.Lexicographic.{pointwise}
use Rattle.fix_fields.specs.Frame.{Field, IsValue, frame_of, frame_text, fields_len, is_value}
use Rattle.wire_messages.specs.declared.limits.TheConstants.{MOST_WIRE_BODY}
use Rattle.wire_messages.specs.declared.faults.Untranslated.{Untranslated}
use Rattle.wire_messages.specs.declared.faults.Untranslated.TheVariants as fault

-- a message of the venue: its header, and the fields behind it
pub record VenueMessage : Type 0 where
  pub kind : List ℕ  -- MsgType (35)
  pub sender : List ℕ  -- SenderCompID (49)
  pub target : List ℕ  -- TargetCompID (56)
  pub number : List ℕ  -- MsgSeqNum (34): the venue's count of its messages to the firm
  pub moment : List ℕ  -- SendingTime (52)
  pub behind : List Field

-- its fields
abbrev pub venue_fields : VenueMessage → List Field
venue_fields m =
    (35, m.kind) ∷ (49, m.sender) ∷ (56, m.target) ∷ (34, m.number) ∷ (52, m.moment) ∷ m.behind

-- The fields before which TransactTime (60) stands: QuoteType (537) of a quote, QuoteStatus (297) of
-- a QuoteStatusReport, and NoPartyIDs (453) of a request, so within the group of its bond.
abbrev pub time_stands_before : List ℕ → ℕ → Bool
time_stands_before kind tag =
    ((tag == 537) && pointwise nat_eq kind (codes "S"))
    || ((tag == 297) && pointwise nat_eq kind (codes "AI"))
    || ((tag == 453) && pointwise nat_eq kind (codes "R"))

-- the fields with the time in its place: before the first of these, or else behind all
abbrev pub timed : List ℕ → List ℕ → List Field → List Field
timed kind moment [] = (60, moment) ∷ []
timed kind moment (field ∷ fields) =
    if time_stands_before kind field.0 then (60, moment) ∷ field ∷ fields
    else field ∷ timed kind moment fields

-- the same where the time stands already, or not yet; and what of it stands before a field
abbrev pub timed_from : Bool → List ℕ → List ℕ → List Field → List Field
timed_from true kind moment fields = fields
timed_from false kind moment fields = timed kind moment fields

abbrev pub time_before : Bool → List ℕ → List ℕ → ℕ → List Field
time_before is_timed kind moment tag =
    if not is_timed && time_stands_before kind tag then (60, moment) ∷ [] else []

-- RefSeqNum (45) of a Reject (35=3) is the session's number of the message that is refused, where the
-- caller names it: no message has the number 0
abbrev pub referred : List ℕ → ℕ → Field → Field
referred kind reference field =
    if (field.0 == 45) && pointwise nat_eq kind (codes "3") && not (reference == 0)
    then (45, decimal reference) else field

-- the venue's fields behind its header, with the time, and with the number of the session
abbrev pub wire_behind : ℕ → VenueMessage → List Field
wire_behind reference m =
    map (referred m.kind reference) (timed m.kind m.moment m.behind)

-- what is told: one field, or none
abbrev pub told_fields : Option Field → List Field
told_fields None = []
told_fields (Some field) = field ∷ []

-- The message on the wire: MsgType, ApplSeqNum, the venue's fields, and what is told. The session
-- writes its own header behind MsgType.
abbrev pub to_firm : ℕ → Option Field → VenueMessage → List Field
to_firm reference told m =
    (35, m.kind) ∷ (1181, m.number) ∷ wire_behind reference m ++ told_fields told

-- What may be told: a reason in Text (58), or a trade's name in TradeID (1003), of one byte at least.

abbrev pub is_told_text : List ℕ → Bool
is_told_text text = nat_lt 0 (length text) && is_value text

abbrev pub IsToldField : Field → Type 0
IsToldField field = ((field.0 ≡ 58) ⊎ (field.0 ≡ 1003)) × IsValue field.1

abbrev pub IsTold : Option Field → Type 0
IsTold None = Unit {0}
IsTold (Some field) = IsToldField field

-- a field that stands on the wire alone: ApplSeqNum (1181), TransactTime (60), or what is told
abbrev pub is_told_tag : Option Field → ℕ → Bool
is_told_tag None tag = false
is_told_tag (Some told) tag = tag == told.0

abbrev pub is_added : Option Field → ℕ → Bool
is_added told tag = (tag == 1181) || (tag == 60) || is_told_tag told tag

-- whether one of these fields is such
abbrev pub has_added : Option Field → List Field → Bool
has_added told [] = false
has_added told (field ∷ fields) = is_added told field.0 || has_added told fields

-- These bytes are a message of the venue under this number.
pub record IsOfVenue (bytes : List ℕ) (number : ℕ) (m : VenueMessage) : Type 0 where
  pub frame : frame_of bytes ≡ Some (venue_fields m)
  pub number_is : m.number ≡ decimal number

-- The bytes are the message on the wire, as a frame that the session takes.
pub record IsOnWire (bytes : List ℕ) (reference : ℕ) (told : Option Field) (m : VenueMessage) : Type 0 where
  pub plain : has_added told m.behind ≡ false
  pub text : bytes ≡ frame_text (to_firm reference told m)
  pub frame : frame_of bytes ≡ Some (to_firm reference told m)
  pub fits : fields_len (to_firm reference told m) ≤ MOST_WIRE_BODY

-- Why a message is not translated: the first of these that holds, in this order. One of which none
-- holds is translated, unless memory is refused, which is asked for behind the first three.
abbrev pub IsNotForFirm : Untranslated → List ℕ → ℕ → ℕ → Option Field → Type 0
IsNotForFirm fault.Form bytes number reference told =
    (m : VenueMessage) → frame_of bytes ≢ Some (venue_fields m)
IsNotForFirm fault.Number bytes number reference told =
    (m : VenueMessage) × (frame_of bytes ≡ Some (venue_fields m)) × (m.number ≢ decimal number)
IsNotForFirm fault.Added bytes number reference told =
    (m : VenueMessage) × IsOfVenue bytes number m × (has_added told m.behind ≡ true)
IsNotForFirm fault.TooLong bytes number reference told =
    (m : VenueMessage) × IsOfVenue bytes number m × (has_added told m.behind ≡ false)
    × (MOST_WIRE_BODY < fields_len (to_firm reference told m))
IsNotForFirm fault.Memory bytes number reference told =
    (m : VenueMessage) × IsOfVenue bytes number m × (has_added told m.behind ≡ false)

-- Reading back.

-- the fields of the wire's message that are the venue's
abbrev pub without_added : Option Field → List Field → List Field
without_added told [] = []
without_added told (field ∷ fields) =
    if is_added told field.0 then without_added told fields
    else field ∷ without_added told fields
