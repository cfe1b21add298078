-- What was read so far, and what is left to read.
use Rattle.std.proofs.Common.{◌≡◌, ℕ, ◌+◌, ◌<◌, ◌≤◌, List, [], ◌∷◌, ◌++◌, length, refl, ap, sym}
use Rattle.std.proofs.Common.{◌∙◌, arith, Option, Some, None, Result, Ok, Err, append_assoc, true}
use Rattle.std.proofs.Common.{false, decimal, fold, nat_le, inl, inr, codes}
use Rattle.fix_fields.specs.Frame.{Field, field_text, fields_text, fields_len, left_of, frame_text}
use Rattle.fix_fields.specs.UtcTimestamp.{timestamp_text}
use Rattle.std.specs.Option.{option_map}
use Rattle.step_replay.specs.declared.dues.Due.{Due}
use Rattle.input_lines.specs.declared.faults.ProgramFault.{ProgramFault}
use Rattle.input_lines.specs.SayLine.{fitting, with_field, SayLine, header_field, said_message}
use Rattle.std.proofs.lemmas.List.{length-append, append-nil}
use Rattle.std.proofs.lemmas.Bool.{cases_Bool}
use Rattle.std.proofs.lemmas.Bool.Decides.{nat_tests}

-- fields that were read, before others that are

abbrev pub behind_fields : List Field → Option (List Field) → Option (List Field)
behind_fields done None = None
behind_fields done (Some rest) = Some (done ++ rest)

-- items that were read, before others that are
abbrev pub behind_dues : List Due → Result (List Due) ProgramFault → Result (List Due) ProgramFault
behind_dues done (Err fault) = Err fault
behind_dues done (Ok rest) = Ok (done ++ rest)

-- the length of fields
length-field : (field : Field) → length (field_text field) ≡ length (decimal field.0) + length field.1 + 2
length-field field = omega (arith, length-append (decimal field.0) (61 ∷ (field.1 ++ (1 ∷ []))), length-append field.1 (1 ∷ []))

fields_text-append : (a b : List Field) → fields_text (a ++ b) ≡ fields_text a ++ fields_text b
fields_text-append [] b = refl
fields_text-append (field ∷ a) b = ap (λ t. field_text field ++ t) (fields_text-append a b) ∙ sym (append_assoc (field_text field) (fields_text a) (fields_text b))

pub fields_len-push : (fields : List Field) (field : Field) → fields_len (fields ++ field ∷ []) ≡ fields_len fields + (length (decimal field.0) + length field.1 + 2)
unfolding fields_len
fields_len-push fields field =
    ap length (fields_text-append fields (field ∷ [])) ∙ length-append (fields_text fields) (fields_text (field ∷ []))
    ∙ ap (λ n. length (fields_text fields) + n) (ap length (append-nil (field_text field)) ∙ length-field field)

-- a type alone
pub fields_len-type : (msg_type : List ℕ) → fields_len ((35, msg_type) ∷ []) ≡ length (decimal 35) + length msg_type + 2
unfolding fields_len
fields_len-type msg_type = ap length (append-nil (field_text (35, msg_type))) ∙ length-field (35, msg_type)

pub fitting-short : (fields : List Field) → fields_len fields ≤ 4071 → fitting fields ≡ Some fields
unfolding fitting
fitting-short fields short = let test : nat_le (fields_len fields) 4071 ≡ true = grind (arith, nat_tests) in rw test refl

pub fitting-long : (fields : List Field) → 4071 < fields_len fields → fitting fields ≡ None
unfolding fitting
fitting-long fields long = let test : nat_le (fields_len fields) 4071 ≡ false = grind (arith, nat_tests) in rw test refl

-- fields that fit, and one more
pub with_field-some : (fields : List Field) (field : Field) → with_field (Some fields) field ≡ fitting (fields ++ field ∷ [])
unfolding with_field
with_field-some fields field = refl

pub with_field_none : (field : Field) → with_field None field ≡ None
unfolding with_field
with_field_none field = refl

with_field-fitting : (fields : List Field) (field : Field) → with_field (fitting fields) field ≡ fitting (fields ++ field ∷ [])
with_field-fitting fields field =
    elim (cases_Bool (nat_le (fields_len fields) 4071)) [
      | inl short ↦
          (let fits : fields_len fields ≤ 4071 = grind (arith, nat_tests) in
          ap (λ f. with_field f field) (fitting-short fields fits) ∙ with_field-some fields field)
      | inr long ↦
          (let over : 4071 < fields_len fields = grind (arith, nat_tests) in
          ap (λ f. with_field f field) (fitting-long fields over) ∙ with_field_none field
          ∙ sym (fitting-long (fields ++ field ∷ []) (omega (arith, fields_len-push fields field))))
    ]

pub fold-fitting : (fields others : List Field) → fold with_field (fitting fields) others ≡ fitting (fields ++ others)
fold-fitting fields [] = ap fitting (sym (append-nil fields))
fold-fitting fields (field ∷ others) =
    ap (λ f. fold with_field f others) (with_field-fitting fields field) ∙ fold-fitting (fields ++ field ∷ []) others
    ∙ ap fitting (append_assoc fields (field ∷ []) others)

-- the header, field by field, and then BODY
pub whole_frame : (f0 f1 f2 f3 f4 f5 f6 : Option (List Field)) (t a b c d e body : List Field) → f0 ≡ fitting t
    → f1 ≡ fold with_field f0 a → f2 ≡ fold with_field f1 b → f3 ≡ fold with_field f2 c → f4 ≡ fold with_field f3 d → f5 ≡ fold with_field f4 e
    → f6 ≡ fold with_field f5 body → f6 ≡ fitting ((((((t ++ a) ++ b) ++ c) ++ d) ++ e) ++ body)
whole_frame f0 f1 f2 f3 f4 f5 f6 t a b c d e body e0 e1 e2 e3 e4 e5 e6 =
    let s1 : f1 ≡ fitting (t ++ a) = e1 ∙ ap (λ f. fold with_field f a) e0 ∙ fold-fitting t a in
    let s2 : f2 ≡ fitting ((t ++ a) ++ b) = e2 ∙ ap (λ f. fold with_field f b) s1 ∙ fold-fitting (t ++ a) b in
    let s3 : f3 ≡ fitting (((t ++ a) ++ b) ++ c) = e3 ∙ ap (λ f. fold with_field f c) s2 ∙ fold-fitting ((t ++ a) ++ b) c in
    let s4 : f4 ≡ fitting ((((t ++ a) ++ b) ++ c) ++ d) = e4 ∙ ap (λ f. fold with_field f d) s3 ∙ fold-fitting (((t ++ a) ++ b) ++ c) d in
    let s5 : f5 ≡ fitting (((((t ++ a) ++ b) ++ c) ++ d) ++ e) = e5 ∙ ap (λ f. fold with_field f e) s4 ∙ fold-fitting ((((t ++ a) ++ b) ++ c) ++ d) e in
    e6 ∙ ap (λ f. fold with_field f body) s5 ∙ fold-fitting (((((t ++ a) ++ b) ++ c) ++ d) ++ e) body

pub begun_fits : (msg_type : List ℕ) (digits : ℕ) → digits ≡ length (decimal 35) → digits + length msg_type + 2 ≤ 4071
    → fitting ((35, msg_type) ∷ []) ≡ Some ((35, msg_type) ∷ [])
begun_fits msg_type digits is short = fitting-short ((35, msg_type) ∷ []) (omega (arith, fields_len-type msg_type))

pub begun_long : (msg_type : List ℕ) (digits : ℕ) → digits ≡ length (decimal 35) → 4071 < digits + length msg_type + 2
    → fitting ((35, msg_type) ∷ []) ≡ None
begun_long msg_type digits is long = fitting-long ((35, msg_type) ∷ []) (omega (arith, fields_len-type msg_type))

-- how much a frame has left tells whether a field fits
pub push_fits : (fields : List Field) (tag digits : ℕ) (value : List ℕ) → digits ≡ length (decimal tag) → digits + length value + 2 ≤ left_of fields
    → with_field (Some fields) (tag, value) ≡ Some (fields ++ (tag, value) ∷ [])
unfolding left_of
push_fits fields tag digits value is fits =
    with_field-some fields (tag, value) ∙ fitting-short (fields ++ (tag, value) ∷ []) (omega (arith, fields_len-push fields (tag, value)))

pub push_long : (fields : List Field) (tag digits : ℕ) (value : List ℕ) → digits ≡ length (decimal tag) → left_of fields < digits + length value + 2
    → with_field (Some fields) (tag, value) ≡ None
unfolding left_of
push_long fields tag digits value is long =
    with_field-some fields (tag, value) ∙ fitting-long (fields ++ (tag, value) ∷ []) (omega (arith, fields_len-push fields (tag, value)))

pub push_none : (fields : List Field) (tag : ℕ) (value : List ℕ) → left_of fields < length value → with_field (Some fields) (tag, value) ≡ None
push_none fields tag value long = push_long fields tag (length (decimal tag)) value refl (omega arith)

-- the message of a line, from what each step of its writing gave
pub said_message_is : (date firm : List ℕ) (number : ℕ) (said : SayLine) (f0 f1 f2 f3 f4 f5 f6 : Option (List Field)) (m : Option (List ℕ))
    (t v1 v2 v3 v4 v5 : List ℕ) (b1 b2 b3 b4 b5 b6 : List Field) → t ≡ said.msg_type → v1 ≡ firm → v2 ≡ codes "VENUE" → v3 ≡ decimal number
    → v4 ≡ timestamp_text date said.moment → v5 ≡ said.trader → b1 ≡ said.fields → b2 ≡ said.fields → b3 ≡ said.fields → b4 ≡ said.fields
    → b5 ≡ said.fields → b6 ≡ said.fields → f0 ≡ fitting ((35, t) ∷ []) → f1 ≡ fold with_field f0 (header_field b1 49 v1)
    → f2 ≡ fold with_field f1 (header_field b2 56 v2) → f3 ≡ fold with_field f2 (header_field b3 34 v3) → f4 ≡ fold with_field f3 (header_field b4 52 v4)
    → f5 ≡ fold with_field f4 (header_field b5 50 v5) → f6 ≡ fold with_field f5 b6 → m ≡ option_map frame_text f6 → m ≡ said_message date firm number said
said_message_is date firm number said f0 f1 f2 f3 f4 f5 f6 m t v1 v2 v3 v4 v5 b1 b2 b3 b4 b5 b6 et ev1 ev2 ev3 ev4 ev5 eb1 eb2 eb3 eb4 eb5 eb6 e0 e1 e2 e3 e4 e5 e6 em =
    let whole = whole_frame f0 f1 f2 f3 f4 f5 f6 ((35, t) ∷ []) (header_field b1 49 v1) (header_field b2 56 v2) (header_field b3 34 v3) (header_field b4 52 v4) (header_field b5 50 v5) b6
    e0 e1 e2 e3 e4 e5 e6 in
    let told = rw (et, ev1, ev2, ev3, ev4, ev5, eb1, eb2, eb3, eb4, eb5, eb6) at whole in
    em ∙ ap (option_map frame_text) told
