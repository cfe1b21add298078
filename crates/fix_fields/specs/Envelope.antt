-- Messages that are cut out of a stream of bytes, by their lengths alone. An envelope is what one
-- needs to be cut: BeginString, a BodyLength, that many bytes and the shape of CheckSum. The sum
-- may be wrong, and what stands between may be no fields.
use Rattle.std.specs.Prelude.{◌≡◌, ◌≢◌, ℕ, ◌+◌, ◌<◌, ◌≤◌, ◌==◌, ◌&&◌, Bool, true, List, [], ◌∷◌}
use Rattle.std.specs.Prelude.{◌++◌, length, take, drop, codes, fold, if◌then◌else◌, nat_lt, Result}
use Rattle.std.specs.Prelude.{Ok, Err}
use Rattle.std.specs.List.{AllByRecursion, concat}
use Rattle.std.specs.Char.{is_ascii_digit}
use Rattle.std.specs.Str.{bytes_eq, all_ascii_digits}
use Rattle.std.specs.Str.Parse.{AllDigits, digits_value}
use Rattle.fix_fields.specs.declared.limits.TheConstants.{MOST_FRAME}
use Rattle.fix_fields.specs.declared.fault.StreamFault.{StreamFault}
use Rattle.fix_fields.specs.declared.fault.StreamFault.TheVariants.{Start, Length, TooLong, End}
use Rattle.fix_fields.specs.declared.fault.StreamFault.TheVariants.{Memory}
use Rattle.fix_fields.specs.Frame.{IsLength, AreSumDigits, start_text, front_text, end_text}

-- a message that is cut
pub record IsEnvelope (bytes : List ℕ) : Type 0 where
  pub length_digits : List ℕ
  pub body : List ℕ
  pub sum_digits : List ℕ
  pub length_is : IsLength length_digits (length body)
  pub sum_is : AreSumDigits sum_digits
  pub text : bytes ≡ front_text length_digits body ++ end_text sum_digits
  pub fits : length bytes ≤ MOST_FRAME

-- bytes of which the first are such a message
pub record BeginsWithEnvelope (bytes : List ℕ) : Type 0 where
  pub message : List ℕ
  pub behind : List ℕ
  pub envelope : IsEnvelope message
  pub text : bytes ≡ message ++ behind

-- Faults of a stream, each by the byte at which it shows, whatever stands behind that byte.

-- the bytes depart from `8=FIXT.1.1`, SOH, `9=`
pub record DepartsFromStart (bytes : List ℕ) : Type 0 where
  pub before : List ℕ
  pub wanted : ℕ
  pub more : List ℕ
  pub byte : ℕ
  pub behind : List ℕ
  pub start : start_text ≡ before ++ (wanted ∷ more)
  pub text : bytes ≡ before ++ (byte ∷ behind)
  pub other : byte ≢ wanted

-- a byte that can't belong to 1 to 6 digits and SOH: a digit is the seventh, an SOH has no digit
-- before it, and any other byte is out of place
pub record HasNoLength (bytes : List ℕ) : Type 0 where
  pub digits : List ℕ
  pub byte : ℕ
  pub behind : List ℕ
  pub all_digits : AllDigits 10 digits
  pub few : length digits ≤ 6
  pub text : bytes ≡ start_text ++ (digits ++ (byte ∷ behind))
  pub seventh : is_ascii_digit byte ≡ true → length digits ≡ 6
  pub first : byte ≡ 1 → length digits ≡ 0

-- how many bytes a message has: BeginString, BodyLength of these digits, as many bytes as they say,
-- and the seven of CheckSum
abbrev pub message_len : List ℕ → ℕ
message_len length_digits = length (front_text length_digits []) + digits_value 10 length_digits + 7

-- BodyLength is whole, and the message would be longer than a frame may be
pub record IsTooLong (bytes : List ℕ) : Type 0 where
  pub length_digits : List ℕ
  pub behind : List ℕ
  pub length_is : IsLength length_digits (digits_value 10 length_digits)
  pub text : bytes ≡ start_text ++ (length_digits ++ (1 ∷ behind))
  pub long : MOST_FRAME < message_len length_digits

-- the seven bytes behind the body are there, and are no CheckSum
pub record HasNoEnd (bytes : List ℕ) : Type 0 where
  pub length_digits : List ℕ
  pub body : List ℕ
  pub tail : List ℕ
  pub behind : List ℕ
  pub length_is : IsLength length_digits (length body)
  pub fits : message_len length_digits ≤ MOST_FRAME
  pub seven : length tail ≡ 7
  pub text : bytes ≡ front_text length_digits body ++ (tail ++ behind)
  pub no_end : (sum_digits : List ℕ) → AreSumDigits sum_digits → tail ≢ end_text sum_digits

-- the bytes have this fault
abbrev pub IsStreamFault : StreamFault → List ℕ → Type 0
IsStreamFault Start bytes = DepartsFromStart bytes
IsStreamFault Length bytes = HasNoLength bytes
IsStreamFault TooLong bytes = IsTooLong bytes
IsStreamFault End bytes = HasNoEnd bytes
IsStreamFault Memory bytes = ⊥

-- What a stream was cut into: the messages, and the bytes behind them, or the fault that they have.
pub record Cutting : Type 0 where
  pub messages : List (List ℕ)
  pub rest : Result (List ℕ) StreamFault

-- bytes in which no fault stands are kept, and no fault stands where none is returned
abbrev pub Stands : Result (List ℕ) StreamFault → List ℕ → Type 0
Stands (Ok kept) rest = (kept ≡ rest) × ((fault : StreamFault) → ¬ IsStreamFault fault rest)
Stands (Err fault) rest = IsStreamFault fault rest

-- A stream is the messages, one behind the other, and a rest that begins with no whole message.
pub record IsCutting (stream : List ℕ) (cutting : Cutting) : Type 0 where
  pub envelopes : AllByRecursion IsEnvelope cutting.messages
  pub behind : List ℕ
  pub text : stream ≡ concat cutting.messages ++ behind
  pub no_message : ¬ BeginsWithEnvelope behind
  pub stands : Stands cutting.rest behind

-- The same as a function, which reads the bytes in their order.

-- what the bytes tell of a message at their front: it has begun, it is whole, or there is none
pub data Front : Type 0 where
  Begun : Front
  Whole : ℕ → Front
  Faulty : StreamFault → Front

-- whether seven bytes are `10=`, three digits and SOH
abbrev pub is_end : List ℕ → Bool
is_end tail =
    bytes_eq (take 3 tail) (codes "10=") && all_ascii_digits (take 3 (drop 3 tail))
    && bytes_eq (drop 6 tail) (1 ∷ [])

-- behind BodyLength
unfoldable pub front_behind_length : List ℕ → List ℕ → Front
front_behind_length digits bytes =
    let n = digits_value 10 digits in
    if nat_lt MOST_FRAME (message_len digits) then Faulty TooLong
    else if nat_lt (length bytes) (n + 7) then Begun
    else if is_end (take 7 (drop n bytes)) then Whole (message_len digits) else Faulty End

-- in BodyLength, behind these digits
unfoldable pub front_in_length : List ℕ → List ℕ → Front
front_in_length digits [] = Begun
front_in_length digits (byte ∷ bytes) =
    if is_ascii_digit byte && nat_lt (length digits) 6
    then front_in_length (digits ++ (byte ∷ [])) bytes
    else if (byte == 1) && nat_lt 0 (length digits) then front_behind_length digits bytes
    else Faulty Length

-- where these bytes of BeginString and of the tag of BodyLength are still to come
unfoldable pub front_in_start : List ℕ → List ℕ → Front
front_in_start [] bytes = front_in_length [] bytes
front_in_start (wanted ∷ more) [] = Begun
front_in_start (wanted ∷ more) (byte ∷ bytes) =
    if byte == wanted then front_in_start more bytes else Faulty Start

unfoldable pub front_of : List ℕ → Front
front_of bytes = front_in_start start_text bytes

-- bytes behind the messages, the last of them new
abbrev pub taken : List (List ℕ) → List ℕ → Front → Cutting
taken messages bytes Begun = record { messages = messages; rest = Ok bytes }
taken messages bytes (Whole _) = record { messages = messages ++ (bytes ∷ []); rest = Ok [] }
taken messages bytes (Faulty fault) = record { messages = messages; rest = Err fault }

-- one byte more; a fault stands for ever
abbrev pub with_byte_behind : List (List ℕ) → Result (List ℕ) StreamFault → ℕ → Cutting
with_byte_behind messages (Ok rest) byte =
    taken messages (rest ++ (byte ∷ [])) (front_of (rest ++ (byte ∷ [])))
with_byte_behind messages (Err fault) byte = record { messages = messages; rest = Err fault }

abbrev pub with_byte : Cutting → ℕ → Cutting
with_byte cutting byte = with_byte_behind cutting.messages cutting.rest byte

-- what bytes behind this rest are cut into
unfoldable pub cut_behind : Result (List ℕ) StreamFault → List ℕ → Cutting
cut_behind rest bytes = fold with_byte (record { messages = []; rest = rest }) bytes

-- nothing is cut yet
abbrev pub uncut : Cutting
uncut = record { messages = []; rest = Ok [] }

-- what a stream is cut into
unfoldable pub envelopes_of : List ℕ → Cutting
envelopes_of stream = cut_behind (Ok []) stream

-- what pieces are cut into that come one after the other
unfoldable pub envelopes_of_pieces : Cutting → List (List ℕ) → Cutting
envelopes_of_pieces cutting [] = cutting
envelopes_of_pieces cutting (piece ∷ pieces) =
    let now = cut_behind cutting.rest piece in
    let both : Cutting = record { messages = cutting.messages ++ now.messages; rest = now.rest } in
    envelopes_of_pieces both pieces
