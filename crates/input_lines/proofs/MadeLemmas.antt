-- What a `say` line makes, by what each step of its reading gave.
use Rattle.std.proofs.Common.{◌≡◌, ℕ, ◌==◌, ◌||◌, Bool, true, false, List, [], ◌∷◌, ◌++◌, length, fold}
use Rattle.std.proofs.Common.{Option, Some, None, refl, sym, ap, ◌∙◌, if◌then◌else◌}
use Rattle.std.specs.List.{list_any}
use Rattle.std.specs.Option.{option_map}
use Rattle.std.proofs.lemmas.Bool.{or_parts, or_from}
use Rattle.fix_fields.specs.Frame.{Field, frame_text}
use Rattle.input_lines.specs.Lines.{first_part, behind_part, parts_of, time_of}
use Rattle.input_lines.specs.OptionSteps as option
use Rattle.input_lines.specs.SayLine.{SayLine, said_field, said_fields, fields_in, said_of, said_message}
use Rattle.input_lines.specs.SayLine.{has_tag, fitting, with_field, is_plain_part}
use Rattle.input_lines.specs.SayReading.{made_from, made_of, is_header_tag, whole_header, with_text}
use Rattle.input_lines.specs.declared.say_made.Made.{Made}
use Rattle.input_lines.proofs.SpellLemmas.{fold-fitting, with_field_none}

-- Fields that are none of the header.

-- a tag that is none of the header is none of its five
other_tags : (a b c d e : Bool) → (a || (b || (c || (d || (e || false))))) ≡ false
    → (a ≡ false) × (b ≡ false) × (c ≡ false) × (d ≡ false) × (e ≡ false)
other_tags a b c d e none =
    let one = or_parts a (b || (c || (d || (e || false)))) none in
    let two = or_parts b (c || (d || (e || false))) one.1 in
    let three = or_parts c (d || (e || false)) two.1 in
    let four = or_parts d (e || false) three.1 in
    let five = or_parts e false four.1 in
    (one.0, two.0, three.0, four.0, five.0)

tag_is_apart : (tag : ℕ) → is_header_tag tag ≡ false
    → ((tag == 49) ≡ false) × ((tag == 56) ≡ false) × ((tag == 34) ≡ false) × ((tag == 52) ≡ false) × ((tag == 50) ≡ false)
unfolding is_header_tag
tag_is_apart tag none = other_tags (tag == 49) (tag == 56) (tag == 34) (tag == 52) (tag == 50) none

-- whether one of the fields is of the header
abbrev has_header_tag : List Field → Bool
has_header_tag fields = list_any (λ field. is_header_tag field.0) fields

record AreApart (fields : List Field) : Type 0 where
  pub no_sender : has_tag fields 49 ≡ false
  pub no_target : has_tag fields 56 ≡ false
  pub no_number : has_tag fields 34 ≡ false
  pub no_time : has_tag fields 52 ≡ false
  pub no_trader : has_tag fields 50 ≡ false

are_apart : (fields : List Field) → has_header_tag fields ≡ false → AreApart fields
are_apart [] none = record { no_sender = refl; no_target = refl; no_number = refl; no_time = refl; no_trader = refl }
are_apart (field ∷ fields) none =
    let parts = or_parts (is_header_tag field.0) (has_header_tag fields) none in
    let one = tag_is_apart field.0 parts.0 in
    let rest = are_apart fields parts.1 in
    record {
      no_sender = or_from (field.0 == 49) (has_tag fields 49) one.0 rest.no_sender;
      no_target = or_from (field.0 == 56) (has_tag fields 56) one.1 rest.no_target;
      no_number = or_from (field.0 == 34) (has_tag fields 34) one.2 rest.no_number;
      no_time = or_from (field.0 == 52) (has_tag fields 52) one.3 rest.no_time;
      no_trader = or_from (field.0 == 50) (has_tag fields 50) one.4 rest.no_trader;
    }

-- One text more.

-- by what it spells
abbrev with_spelled : Option (List Field) → Option Field → Option (List Field)
with_spelled before found = option.◌>>=◌ found (λ field. if is_header_tag field.0 then None else with_field before field)

pub text_put : (before after : Option (List Field)) (text : List ℕ) (field : Field) (tag : ℕ) (value : List ℕ) → Some field ≡ said_field text
    → is_header_tag field.0 ≡ false → tag ≡ field.0 → value ≡ field.1 → after ≡ with_field before (tag, value) → after ≡ with_text before text
unfolding with_text
text_put before after text field tag value is apart et ev put =
    put ∙ ap (λ (t : ℕ). with_field before (t, value)) et ∙ ap (λ (v : List ℕ). with_field before (field.0, v)) ev
    ∙ sym (ap (λ (h : Bool). if h then None else with_field before field) apart) ∙ ap (with_spelled before) is

-- where the fields before did not fit, none do
chosen_none : (h : Bool) (field : Field) → (if h then None else with_field None field) ≡ None
chosen_none true field = refl
chosen_none false field = with_field_none field

spelled_none : (found : Option Field) → with_spelled None found ≡ None
spelled_none None = refl
spelled_none (Some field) = chosen_none (is_header_tag field.0) field

text_of_none : (text : List ℕ) → with_text None text ≡ None
unfolding with_text
text_of_none text = spelled_none (said_field text)

fold_none : (texts : List (List ℕ)) → fold with_text None texts ≡ None
fold_none [] = refl
fold_none (text ∷ texts) = ap (λ (f : Option (List Field)). fold with_text f texts) (text_of_none text) ∙ fold_none texts

-- What was put behind a frame, text by text.

record ArePut (texts : List (List ℕ)) (before : Option (List Field)) (after : List Field) : Type 0 where
  pub fields : List Field
  pub said : fields_in texts ≡ Some fields
  pub apart : has_header_tag fields ≡ false
  pub put : fold with_field before fields ≡ Some after

-- a field and those behind it, where each text spells one
abbrev fields_with : Option Field → Option (List Field) → Option (List Field)
fields_with field fields = option.◌>>=◌ field (λ one. option.◌>>=◌ fields (λ more. Some (one ∷ more)))

fields_more : (text : List ℕ) (texts : List (List ℕ)) (field : Field) (fields : List Field) → said_field text ≡ Some field
    → fields_in texts ≡ Some fields → fields_in (text ∷ texts) ≡ Some (field ∷ fields)
fields_more text texts field fields is rest =
    ap (λ (f : Option Field). fields_with f (fields_in texts)) is ∙ ap (fields_with (Some field)) rest

-- one text more in front
first_put : (text : List ℕ) (texts : List (List ℕ)) (before : Option (List Field)) (after : List Field) (field : Field)
    → said_field text ≡ Some field → is_header_tag field.0 ≡ false → ArePut texts (with_field before field) after
    → ArePut (text ∷ texts) before after
first_put text texts before after field is none rest = record {
  fields = field ∷ rest.fields;
  said = fields_more text texts field rest.fields is rest.said;
  apart = or_from (is_header_tag field.0) (has_header_tag rest.fields) none rest.apart;
  put = rest.put;
}

-- each text spelled a field, it was none of the header, and it fitted
record IsOne (text : List ℕ) (texts : List (List ℕ)) (before : Option (List Field)) (after : List Field) : Type 0 where
  pub field : Field
  pub said : said_field text ≡ Some field
  pub apart : is_header_tag field.0 ≡ false
  pub rest : fold with_text (with_field before field) texts ≡ Some after

by_header : (header : Bool) (text : List ℕ) (texts : List (List ℕ)) (before : Option (List Field)) (after : List Field) (one : Field)
    → said_field text ≡ Some one → is_header_tag one.0 ≡ header
    → fold with_text (if header then None else with_field before one) texts ≡ Some after → IsOne text texts before after
by_header true text texts before after one is test all =
    let never : None ≡ Some after = sym (fold_none texts) ∙ all in cc
by_header false text texts before after one is test all = record { field = one; said = is; apart = test; rest = all }

by_field : (found : Option Field) (text : List ℕ) (texts : List (List ℕ)) (before : Option (List Field)) (after : List Field)
    → said_field text ≡ found → fold with_text (with_spelled before found) texts ≡ Some after → IsOne text texts before after
by_field None text texts before after is all =
    let never : None ≡ Some after = sym (fold_none texts) ∙ all in cc
by_field (Some one) text texts before after is all = by_header (is_header_tag one.0) text texts before after one is refl all

first_text : (text : List ℕ) (texts : List (List ℕ)) (before : Option (List Field)) (after : List Field)
    → fold with_text before (text ∷ texts) ≡ Some after → IsOne text texts before after
unfolding with_text
first_text text texts before after all = by_field (said_field text) text texts before after refl all

are_put : (texts : List (List ℕ)) (before : Option (List Field)) (after : List Field) → fold with_text before texts ≡ Some after
    → ArePut texts before after
are_put [] before after all = record { fields = []; said = refl; apart = refl; put = all }
are_put (text ∷ texts) before after all =
    let one = first_text text texts before after all in
    first_put text texts before after one.field one.said one.apart (are_put texts (with_field before one.field) after one.rest)

-- What a line makes, by what it says.

abbrev pub made_with : SayLine → Option (List ℕ) → Option Made
made_with said message = option.◌>>=◌ message (λ text. Some (made_from said text))

abbrev pub said_makes : List ℕ → List ℕ → ℕ → Option SayLine → Option Made
said_makes date firm number said = option.◌>>=◌ said (λ one. made_with one (said_message date firm number one))

abbrev made_record : ℕ → List ℕ → Bool → Made
made_record moment message is_numbered = record { moment = moment; message = message; is_numbered = is_numbered }

made_is : (date firm text : List ℕ) (number : ℕ) (said : SayLine) (message : List ℕ) → Some said ≡ said_of date text
    → Some message ≡ said_message date firm number said → Some (made_from said message) ≡ made_of date firm number text
unfolding made_of
made_is date firm text number said message is put = ap (made_with said) put ∙ ap (said_makes date firm number) is

pub made_said : (date firm text : List ℕ) (number moment : ℕ) (said : SayLine) (message : List ℕ) (is_numbered : Bool)
    → moment ≡ said.moment → is_numbered ≡ has_tag said.fields 34 → Some said ≡ said_of date text
    → Some message ≡ said_message date firm number said → Some (made_record moment message is_numbered) ≡ made_of date firm number text
made_said date firm text number moment said message is_numbered em en is put =
    ap (λ (m : ℕ). Some (made_record m message is_numbered)) em ∙ ap (λ (b : Bool). Some (made_record said.moment message b)) en
    ∙ made_is date firm text number said message is put

-- What the parts of a line say, where each is of its form.

said_is : (date text : List ℕ) (moment : ℕ) (fields : List Field) → time_of date (first_part (behind_part text)) ≡ Some moment
    → said_fields (behind_part (behind_part (behind_part text))) ≡ Some fields → is_plain_part (first_part text) ≡ true
    → is_plain_part (first_part (behind_part (behind_part text))) ≡ true
    → (length (behind_part (behind_part (behind_part text))) == 0) ≡ false
    → said_of date text ≡ Some (record {
      trader = first_part text;
      moment = moment;
      msg_type = first_part (behind_part (behind_part text));
      fields = fields;
    })
unfolding said_of
said_is date text moment fields time body trader msg_type some = rw (time, body, trader, msg_type, some) refl

-- the message, where no field of BODY is of the header
message_is : (date firm : List ℕ) (number : ℕ) (said : SayLine) (after : List Field) → AreApart said.fields
    → fold with_field (fitting (whole_header date firm number said.moment said.trader said.msg_type)) said.fields ≡ Some after
    → said_message date firm number said ≡ Some (frame_text after)
message_is date firm number said after apart put =
    let whole : fitting (whole_header date firm number said.moment said.trader said.msg_type ++ said.fields) ≡ Some after =
    sym (fold-fitting (whole_header date firm number said.moment said.trader said.msg_type) said.fields) ∙ put in
    rw (apart.no_sender, apart.no_target, apart.no_number, apart.no_time, apart.no_trader, whole) refl

-- a message is that of a whole frame
record IsWhole (whole : Option (List Field)) (message : List ℕ) : Type 0 where
  pub after : List Field
  pub fits : whole ≡ Some after
  pub text : message ≡ frame_text after

whole_of : (whole : Option (List Field)) (message : List ℕ) → Some message ≡ option_map frame_text whole → IsWhole whole message
whole_of None message is = let never : Some message ≡ None = is in cc
whole_of (Some after) message is =
    let same : Some message ≡ Some (frame_text after) = is in
    record { after = after; fits = refl; text = (cc) }

-- what the line makes
pub made_at_once : (date firm text : List ℕ) (number moment : ℕ) (trader time msg_type body : List ℕ) (header whole : Option (List Field))
    (message : List ℕ) → trader ≡ first_part text → time ≡ first_part (behind_part text) → msg_type ≡ first_part (behind_part (behind_part text))
    → body ≡ behind_part (behind_part (behind_part text)) → Some moment ≡ time_of date time → is_plain_part trader ≡ true
    → is_plain_part msg_type ≡ true → (length body == 0) ≡ false
    → header ≡ fitting (whole_header date firm number moment trader msg_type) → whole ≡ fold with_text header (parts_of 124 body)
    → Some message ≡ option_map frame_text whole → Some (made_record moment message false) ≡ made_of date firm number text
made_at_once date firm text number moment trader time msg_type body header whole message et em ey eb read plain typed some begun folded framed =
    let found = whole_of whole message framed in
    let all = are_put (parts_of 124 body) header found.after (sym folded ∙ found.fits) in
    let apart = are_apart all.fields all.apart in
    let said : SayLine = record {
      trader = first_part text;
      moment = moment;
      msg_type = first_part (behind_part (behind_part text));
      fields = all.fields;
    } in
    let spoken = said_is date text moment all.fields (ap (time_of date) (sym em) ∙ sym read)
    (ap said_fields (sym eb) ∙ all.said) (ap is_plain_part (sym et) ∙ plain) (ap is_plain_part (sym ey) ∙ typed)
    (ap (λ (t : List ℕ). length t == 0) (sym eb) ∙ some) in
    let header_is = begun ∙ ap (λ (t : List ℕ). fitting (whole_header date firm number moment t msg_type)) et
    ∙ ap (λ (t : List ℕ). fitting (whole_header date firm number moment (first_part text) t)) ey in
    let put = message_is date firm number said found.after apart
    (ap (λ (h : Option (List Field)). fold with_field h all.fields) (sym header_is) ∙ all.put) in
    made_said date firm text number moment said message false refl (sym apart.no_number) (sym spoken) (ap Some found.text ∙ sym put)
