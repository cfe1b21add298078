-- What a session is given of the messages that the venue sends to a firm, and what these say.
use Rattle.std.specs.Prelude.{◌≡◌, ℕ, ◌+◌, ◌==◌, ◌&&◌, false, List, [], ◌∷◌, codes, drop, map, nat_eq, unwrap_or, if◌then◌else◌, Option}
use Rattle.std.specs.Cmp.Lexicographic.{pointwise}
use Rattle.fix_fields.specs.Frame.{Field, frame_of, value_of}
use Rattle.wire_messages.specs.ToFirm.{IsOfVenue, IsTold, VenueMessage, has_added, to_firm, without_added}

-- These fields are made of a message of the venue under this number: they are what `to_firm` says of it,
-- with some number of the session's in 45 of a Reject, and with what is told beside it.
pub record IsMade (bytes : List ℕ) (number : ℕ) (told : Option Field) (body : List Field) : Type 0 where
  pub reference : ℕ
  pub message : VenueMessage
  pub of_venue : IsOfVenue bytes number message
  pub is : body ≡ to_firm reference told message

-- The session is given what is made of the venue's messages, in their order, from this number on, each
-- with what is told beside it: the first of them, or all. What is told may be anything, and no message
-- need be one that reads back.
abbrev pub AreMade : ℕ → List (List ℕ) → List (Option Field) → List (List Field) → Type 0
AreMade number frames tolds [] = Unit {0}
AreMade number [] tolds (body ∷ bodies) = ⊥
AreMade number (frame ∷ frames) [] (body ∷ bodies) = ⊥
AreMade number (frame ∷ frames) (told ∷ tolds) (body ∷ bodies) =
    IsMade frame number told body × AreMade (number + 1) frames tolds bodies

-- A message of the venue under this number is carried as these fields: they are made of it, and read
-- back: what is told beside it is a reason or a trade's name, and the message itself has none of the
-- fields that are added.
pub record IsCarried (bytes : List ℕ) (number : ℕ) (told : Option Field) (body : List Field) : Type 0 where
  pub reference : ℕ
  pub message : VenueMessage
  pub of_venue : IsOfVenue bytes number message
  pub told_is : IsTold told
  pub plain : has_added told message.behind ≡ false
  pub is : body ≡ to_firm reference told message

-- The session is given the venue's messages in their order, from this number on, each with what is
-- told beside it: the first of them, or all.
abbrev pub AreCarried : ℕ → List (List ℕ) → List (Option Field) → List (List Field) → Type 0
AreCarried number frames tolds [] = Unit {0}
AreCarried number [] tolds (body ∷ bodies) = ⊥
AreCarried number (frame ∷ frames) [] (body ∷ bodies) = ⊥
AreCarried number (frame ∷ frames) (told ∷ tolds) (body ∷ bodies) =
    IsCarried frame number told body × AreCarried (number + 1) frames tolds bodies

-- 45 of a Reject (35=3), which is the session's, is left empty
abbrev pub blank : List ℕ → Field → Field
blank kind field =
    if (field.0 == 45) && pointwise nat_eq kind (codes "3") then (45, []) else field

-- What a message says, but for the names of its header and for 45 of a Reject.
pub record Saying : Type 0 where
  pub kind : List ℕ  -- MsgType (35)
  pub number : List ℕ  -- the venue's number: 34 of its message, 1181 on the wire
  pub moment : List ℕ  -- 52 of its message, 60 on the wire
  pub behind : List Field

abbrev pub value_in : ℕ → List Field → List ℕ
value_in tag fields = unwrap_or (value_of tag fields) []

-- of a message of the venue
abbrev pub saying_in : List Field → Saying
saying_in fields = record {
  kind = value_in 35 fields;
  number = value_in 34 fields;
  moment = value_in 52 fields;
  behind = map (blank (value_in 35 fields)) (drop 5 fields);
}

abbrev pub said_by_venue : List ℕ → Saying
said_by_venue bytes = saying_in (unwrap_or (frame_of bytes) [])

-- of what is kept, read back
abbrev pub said_on_wire : Option Field → List Field → Saying
said_on_wire told body = record {
  kind = value_in 35 body;
  number = value_in 1181 body;
  moment = value_in 60 body;
  behind = map (blank (value_in 35 body)) (drop 1 (without_added told body));
}

-- What is kept says what the venue's messages say, each in its place.
abbrev pub AreRead : List (List ℕ) → List (Option Field) → List (List Field) → Type 0
AreRead frames tolds [] = Unit {0}
AreRead [] tolds (body ∷ bodies) = ⊥
AreRead (frame ∷ frames) [] (body ∷ bodies) = ⊥
AreRead (frame ∷ frames) (told ∷ tolds) (body ∷ bodies) =
    (said_on_wire told body ≡ said_by_venue frame) × AreRead frames tolds bodies

-- a message without 45 of a Reject
abbrev pub blanked : List Field → List Field
blanked body = map (blank (value_in 35 body)) body

-- Two lists of messages are the same in each place that both have, byte for byte, but for 45 of a Reject.
abbrev pub AreSame : List (List Field) → List (List Field) → Type 0
AreSame [] others = Unit {0}
AreSame (body ∷ bodies) [] = Unit {0}
AreSame (body ∷ bodies) (other ∷ others) = (blanked body ≡ blanked other) × AreSame bodies others
