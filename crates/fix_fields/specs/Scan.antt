-- What stands at the front of a text, and what a text consists of.
use Rattle.std.specs.Prelude.{◌≡◌, ℕ, ◌<◌, ◌≤◌, List, ◌++◌, ◌%◌, length, decimal, sum}
use Rattle.std.specs.Prelude.{fold, Option, Some, None, Result, Ok, Err}
use Rattle.std.specs.List.{AllByRecursion}
use Rattle.std.specs.Prelude.{map, Vec}
use Rattle.std.specs.declared.alloc.Global.{Global}
use Rattle.fix_fields.specs.declared.limits.TheConstants.{MOST_FRAME, MOST_BODY}
use Rattle.fix_fields.specs.Frame.{Field, IsField, AreBody, AreSumDigits, field_text, fields_text}
use Rattle.fix_fields.specs.Frame.{fields_of, front_text, end_text, three_digits}
use Rattle.fix_fields.specs.Envelope.{Cutting, with_byte, front_of}
use Rattle.fix_fields.specs.Envelope.Front.{Begun, Whole, Faulty}
use Rattle.fix_fields.specs.declared.fault.StreamFault.{StreamFault}
use Rattle.fix_fields.specs.declared.fronts.Found.{Found}

-- the text begins with a lawful field
pub record BeginsWithField (text : List ℕ) : Type 0 where
  pub field : Field
  pub lawful : IsField field
  pub rest : List ℕ
  pub is : text ≡ field_text field ++ rest

-- the text is lawful fields, one behind the other
pub record HoldsFields (text : List ℕ) : Type 0 where
  pub fields : List Field
  pub lawful : AllByRecursion IsField fields
  pub is : text ≡ fields_text fields

-- the text is a body
pub record HoldsBody (text : List ℕ) : Type 0 where
  pub fields : List Field
  pub body : AreBody fields
  pub is : text ≡ fields_text fields

-- the text is a CheckSum, of these digits
pub record IsEnd (text digits : List ℕ) : Type 0 where
  pub lawful : AreSumDigits digits
  pub is : text ≡ end_text digits

-- the text is what the fields that it is cut into are written as, and they are lawful
pub record IsFieldsText (text : List ℕ) : Type 0 where
  pub lawful : AllByRecursion IsField (fields_of text)
  pub is : text ≡ fields_text (fields_of text)
  pub fits : length text ≤ MOST_FRAME

-- the same of a body
pub record IsBodyText (text : List ℕ) : Type 0 where
  pub body : AreBody (fields_of text)
  pub is : text ≡ fields_text (fields_of text)
  pub fits : length text ≤ MOST_BODY

-- a body between its BodyLength and its CheckSum, as they are written
abbrev pub text_around : List ℕ → List ℕ
text_around body =
    let front = front_text (decimal (length body)) body in
    front ++ end_text (three_digits (sum front % 256))

-- the bytes of messages
abbrev pub texts_of : Vec (Vec ℕ Global) Global → List (List ℕ)
texts_of messages = map (λ message. message.items) messages.items

-- what bytes are cut into that come behind these messages and this rest
abbrev pub cutting : List (List ℕ) → Result (List ℕ) StreamFault → Cutting
cutting messages rest = record { messages = messages; rest = rest }

abbrev pub cut_on : List (List ℕ) → Result (List ℕ) StreamFault → List ℕ → Cutting
cut_on messages rest bytes = fold with_byte (cutting messages rest) bytes

-- no further bytes tell more of these before there are this many
pub record WaitsFor (wait : ℕ) (bytes : List ℕ) : Type 0 where
  pub begun : front_of bytes ≡ Begun
  pub short : length bytes < MOST_FRAME
  pub waits : (more : List ℕ) → length (bytes ++ more) < wait → front_of (bytes ++ more) ≡ Begun

-- the first bytes are a message
pub record IsWhole (len : ℕ) (bytes : List ℕ) : Type 0 where
  pub whole : front_of bytes ≡ Whole len
  pub some : 0 < len
  pub inside : len ≤ length bytes

-- what was found at the front of bytes
abbrev pub IsFound : Found → List ℕ → Type 0
IsFound (Found.Begun wait) bytes = WaitsFor wait bytes
IsFound (Found.Message len) bytes = IsWhole len bytes
IsFound (Found.Faulty fault) bytes = front_of bytes ≡ Faulty fault

-- a rest as it is kept: its bytes, or the fault that they have
abbrev pub rest_of : Option StreamFault → List ℕ → Result (List ℕ) StreamFault
rest_of None kept = Ok kept
rest_of (Some fault) kept = Err fault

-- bytes that are kept are waited for
abbrev pub IsKept : Option StreamFault → ℕ → List ℕ → Type 0
IsKept None wait kept = WaitsFor wait kept
IsKept (Some fault) wait kept = Unit {0}
