-- Each message that a part of a line spells has a byte.
use Rattle.std.proofs.Common.{◌≡◌, ◌<◌, ℕ, ◌+◌, ◌%◌, ◌==◌, Bool, true, false, not, List, [], ◌∷◌}
use Rattle.std.proofs.Common.{◌++◌, length, map, fold, option_map, Option, Some, None, Result, Ok}
use Rattle.std.proofs.Common.{Err, IfOk, IfSome, if◌then◌else◌, refl, arith, zero-lt-suc}
use Rattle.std.specs.Result.{result_ok}
use Rattle.std.proofs.lemmas.Bool.Decides.{nat_tests}
use Rattle.hex.specs.Hex as hex
use Rattle.hex.specs.Hex.{decode_of, decode_pairs, pair_value}
use Rattle.hex.specs.declared.error.FromHexError.{FromHexError}
use Rattle.hex.specs.declared.error.FromHexError.TheVariants.{OddLength}
use Rattle.fix_fields.specs.Envelope.{Begun, Cutting, Faulty, Front, Whole, cut_behind, envelopes_of}
use Rattle.fix_fields.specs.Envelope.{front_of, taken, uncut, with_byte, with_byte_behind}
use Rattle.fix_fields.specs.Frame.{Field, frame_text}
use Rattle.fix_fields.specs.declared.fault.StreamFault.{StreamFault}
use Rattle.step_replay.specs.EachLemmas.{every_both}
use Rattle.step_replay.specs.Lists.{Every}
use Rattle.input_lines.specs.DueText.{at_line}
use Rattle.input_lines.specs.Lines.{behind_part, first_part, time_of}
use Rattle.input_lines.specs.OptionSteps as option
use Rattle.input_lines.specs.ResultSteps.{◌>>=◌}
use Rattle.input_lines.specs.SayLine.{SayLine, fields_behind_type, fitting, hexed_of, received_of}
use Rattle.input_lines.specs.SayLine.{said_message, soh_for_bar}

-- Bytes.

abbrev pub HasByte : List ℕ → Type 0
HasByte [] = ⊥
HasByte (c ∷ message) = Unit {0}

some_bytes : (n : ℕ) → 0 < n → not (n == 0) ≡ true
some_bytes n some = by_test (n == 0) refl
  where
    by_test : (b : Bool) → (n == 0) ≡ b → not b ≡ true
    by_test true test =
        let none : n ≡ 0 = grind (arith, nat_tests) in
        absurd (omega arith)
    by_test false test = refl

pub has_some : (message : List ℕ) → HasByte message → not (length message == 0) ≡ true
has_some [] has = absurd has
has_some (c ∷ message) has = some_bytes (length (c ∷ message)) (zero-lt-suc (length message))

none_or_some : (message : List ℕ) → (length message == 0) ≡ false → HasByte message
none_or_some [] test = cc
none_or_some (c ∷ message) test = tt

mapped_has : (f : ℕ → ℕ) (message : List ℕ) → HasByte message → HasByte (map f message)
mapped_has f [] has = has
mapped_has f (c ∷ message) has = tt

-- a byte more
byte_behind : (message : List ℕ) (c : ℕ) → HasByte (message ++ c ∷ [])
byte_behind [] c = tt
byte_behind (first ∷ message) c = tt

-- Steps that may fail.

pub any_ok : {A B E : Type 0} (P : B → Type 0) (first : Result A E) (next : A → Result B E)
    → ((x : A) → IfOk (next x) P) → IfOk (first >>= next) P
any_ok P (Ok x) next each = each x
any_ok P (Err fault) next each = tt

pub then_ok : {A B E : Type 0} (Q : A → Type 0) (P : B → Type 0) (first : Result A E)
    (next : A → Result B E) → IfOk first Q → ((x : A) → Q x → IfOk (next x) P)
    → IfOk (first >>= next) P
then_ok Q P (Ok x) next one each = each x one
then_ok Q P (Err fault) next one each = tt

pub line_ok : {A : Type 0} (Q : A → Type 0) (k : ℕ) (found : Option A) → IfSome found Q
    → IfOk (at_line k found) Q
line_ok Q k None one = tt
line_ok Q k (Some x) one = one

any_some : {A B : Type 0} (P : B → Type 0) (first : Option A) (next : A → Option B)
    → ((x : A) → IfSome (next x) P) → IfSome (option.◌>>=◌ first next) P
any_some P None next each = tt
any_some P (Some x) next each = each x

then_some : {A B : Type 0} (Q : A → Type 0) (P : B → Type 0) (first : Option A)
    (next : A → Option B) → IfSome first Q → ((x : A) → Q x → IfSome (next x) P)
    → IfSome (option.◌>>=◌ first next) P
then_some Q P None next one each = tt
then_some Q P (Some x) next one each = each x one

-- Messages.

-- one that comes at a moment
abbrev pub Came : ℕ × List ℕ → Type 0
Came came = HasByte came.1

pub received_has : (date text : List ℕ) → IfSome (received_of date text) Came
unfolding received_of
received_has date text =
    any_some Came (time_of date (first_part text)) _
    (λ moment. by_test moment (length (behind_part text) == 0) refl)
  where
    by_test : (moment : ℕ) (b : Bool) → (length (behind_part text) == 0) ≡ b
        → IfSome (if b then None else Some (moment, map soh_for_bar (behind_part text))) Came
    by_test moment true test = tt
    by_test moment false test =
        mapped_has soh_for_bar (behind_part text) (none_or_some (behind_part text) test)

-- digits, if there are any, write bytes
pair_has : (byte : Result ℕ FromHexError) (rest : Result (List ℕ) FromHexError)
    → IfSome (result_ok (hex.◌>>=◌ byte (λ byte. hex.◌>>=◌ rest (λ bytes. Ok (byte ∷ bytes)))))
    HasByte
pair_has (Err fault) rest = tt
pair_has (Ok byte) (Err fault) = tt
pair_has (Ok byte) (Ok bytes) = tt

pairs_have : (digits : List ℕ) → HasByte digits
    → IfSome (result_ok (decode_pairs 0 digits)) HasByte
unfolding decode_pairs
pairs_have [] some = absurd some
pairs_have (digit ∷ []) some = tt
pairs_have (high ∷ low ∷ rest) some = pair_has (pair_value high low 0) (decode_pairs (0 + 2) rest)

decoded_has : (digits : List ℕ) → HasByte digits
    → IfSome (result_ok (decode_of digits)) HasByte
decoded_has digits some = by_test (length digits % 2 == 1)
  where
    by_test : (b : Bool)
        → IfSome (result_ok (if b then Err OddLength else decode_pairs 0 digits)) HasByte
    by_test true = tt
    by_test false = pairs_have digits some

pub hexed_has : (date text : List ℕ) → IfSome (hexed_of date text) Came
unfolding hexed_of
hexed_has date text =
    any_some Came (time_of date (first_part text)) _
    (λ moment. by_test moment (length (behind_part text) == 0) refl)
  where
    by_test : (moment : ℕ) (b : Bool) → (length (behind_part text) == 0) ≡ b
        → IfSome (option.◌>>=◌ (result_ok (decode_of (behind_part text)))
        (λ message. if b then None else Some (moment, message))) Came
    by_test moment true test =
        any_some Came (result_ok (decode_of (behind_part text))) _ (λ message. tt)
    by_test moment false test =
        then_some HasByte Came (result_ok (decode_of (behind_part text))) _
        (decoded_has (behind_part text) (none_or_some (behind_part text) test))
        (λ message has. has)

frame_has : (fields : List Field) → HasByte (frame_text fields)
unfolding frame_text
frame_has fields = tt

pub said_has : (date firm : List ℕ) (number : ℕ) (said : SayLine)
    → IfSome (said_message date firm number said) HasByte
said_has date firm number said =
    by_fields (fitting ((35, said.msg_type) ∷ fields_behind_type date firm number said))
  where
    by_fields : (fields : Option (List Field)) → IfSome (option_map frame_text fields) HasByte
    by_fields None = tt
    by_fields (Some fields) = frame_has fields

-- messages that are cut out of a stream
taken_have : (messages : List (List ℕ)) (bytes : List ℕ) (front : Front)
    → Every HasByte messages → HasByte bytes → Every HasByte (taken messages bytes front).messages
taken_have messages bytes Begun each some = each
taken_have messages bytes (Whole n) each some =
    every_both HasByte messages (bytes ∷ []) each (some, tt)
taken_have messages bytes (Faulty fault) each some = each

byte_has : (messages : List (List ℕ)) (rest : Result (List ℕ) StreamFault) (byte : ℕ)
    → Every HasByte messages → Every HasByte (with_byte_behind messages rest byte).messages
byte_has messages (Ok rest) byte each =
    taken_have messages (rest ++ byte ∷ []) (front_of (rest ++ byte ∷ [])) each
    (byte_behind rest byte)
byte_has messages (Err fault) byte each = each

bytes_have : (bytes : List ℕ) (cut : Cutting) → Every HasByte cut.messages
    → Every HasByte (fold with_byte cut bytes).messages
bytes_have [] cut each = each
bytes_have (byte ∷ bytes) cut each =
    bytes_have bytes (with_byte cut byte) (byte_has cut.messages cut.rest byte each)

pub cut_has : (stream : List ℕ) → Every HasByte (envelopes_of stream).messages
unfolding envelopes_of cut_behind
cut_has stream = bytes_have stream uncut tt
