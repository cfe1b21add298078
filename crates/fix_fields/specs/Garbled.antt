-- Which fault bytes have that are no frame: the first check that they do not pass.
use Rattle.std.specs.Prelude.{◌≡◌, ℕ, ◌≤◌, List, ◌++◌, length}
use Rattle.fix_fields.specs.Frame.{Field, AreBody, IsFrame, IsLength, AreSumDigits, fields_text}
use Rattle.fix_fields.specs.Frame.{start_text, front_text, end_text}
use Rattle.fix_fields.specs.declared.limits.TheConstants.{MOST_FRAME}
use Rattle.fix_fields.specs.declared.fault.Garbled.{Garbled}
use Rattle.fix_fields.specs.declared.fault.Garbled.TheVariants.{TooLong, Start, Length}
use Rattle.fix_fields.specs.declared.fault.Garbled.TheVariants.{Field as NoField, End, Sum}

-- bytes of a lawful length that begin as a frame does
pub record Starts (bytes : List ℕ) : Type 0 where
  pub fits : length bytes ≤ MOST_FRAME
  pub rest : List ℕ
  pub text : bytes ≡ start_text ++ rest

-- bytes of a lawful length that are cut by BodyLength into a front, a body and seven bytes
pub record IsCut (bytes length_digits body tail : List ℕ) : Type 0 where
  pub fits : length bytes ≤ MOST_FRAME
  pub length_is : IsLength length_digits (length body)
  pub text : bytes ≡ front_text length_digits body ++ tail
  pub seven : length tail ≡ 7

-- the bytes pass this check and those before it
abbrev pub Passes : Garbled → List ℕ → Type 0
Passes TooLong bytes = length bytes ≤ MOST_FRAME
Passes Start bytes = Starts bytes
Passes Length bytes = (length_digits body tail : List ℕ) × IsCut bytes length_digits body tail
Passes NoField bytes =
    (length_digits tail : List ℕ) × (fields : List Field) × AreBody fields
    × IsCut bytes length_digits (fields_text fields) tail
Passes End bytes =
    (length_digits sum_digits : List ℕ) × (fields : List Field) × AreBody fields
    × AreSumDigits sum_digits
    × IsCut bytes length_digits (fields_text fields) (end_text sum_digits)
Passes Sum bytes = (fields : List Field) × IsFrame bytes fields

-- the bytes pass all checks before this one
abbrev pub PassesBefore : Garbled → List ℕ → Type 0
PassesBefore TooLong bytes = Unit {0}
PassesBefore Start bytes = Passes TooLong bytes
PassesBefore Length bytes = Passes Start bytes
PassesBefore NoField bytes = Passes Length bytes
PassesBefore End bytes = Passes NoField bytes
PassesBefore Sum bytes = Passes End bytes

-- this check is the first that the bytes do not pass
abbrev pub IsFault : Garbled → List ℕ → Type 0
IsFault fault bytes = PassesBefore fault bytes × ¬ Passes fault bytes
