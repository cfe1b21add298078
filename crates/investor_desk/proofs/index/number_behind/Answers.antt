-- What writes a number is read as that number.
use Rattle.std.proofs.Common.{◌≡◌, ℕ, List, ◌∷◌, Some, None, Result, Ok, Err, sym, ap, subst, ◌∙◌}
use Rattle.std.specs.Result.{result_ok, MatchResult}
use Rattle.std.specs.Str.{IsUtf8}
use Rattle.std.specs.Fmt.{decimal}
use Rattle.std.proofs.lemmas.Fmt.{parse-decimal, IsAscii-decimal}
use Rattle.std.proofs.lemmas.Str.{IsUtf8-from_ascii}
use Rattle.std.proofs.lemmas.Option.{none-some, same_Some}
use Rattle.investor_desk.proofs.index.number_behind.Goals as goal

some_ok : {T E : Type 0} (P : T → Type 0) (Q : E → Type 0) (r : Result T E) (t : T) → Some t ≡ result_ok r → MatchResult r P Q → P t
some_ok P Q (Ok s) t is h = subst P (sym (same_Some t s is)) h
some_ok P Q (Err e) t is h = absurd (none-some t (sym is))

none_ok : {T E : Type 0} (P : T → Type 0) (Q : E → Type 0) (r : Result T E) → None ≡ result_ok r → MatchResult r P Q → (e : E) × Q e
none_ok P Q (Ok s) is h = absurd (none-some s is)
none_ok P Q (Err e) is h = (e, h)

behind : (first : ℕ) (digits whole written : List ℕ) → 81 ∷ written ≡ whole → whole ≡ first ∷ digits → digits ≡ written
behind first digits whole written is cut = let same : 81 ∷ written ≡ first ∷ digits = is ∙ cut in cc

pub returns-in_err-text : goal.returns-in_err-text
returns-in_err-text c = λ number fits is.
    let same = behind c.in_ok-digits.field-0-0.now c.in_ok-digits.digits.now c.args.name.now (decimal number) is c.in_ok-digits.ensures.cases.0 in
    let ascii = IsUtf8-from_ascii (decimal number) (IsAscii-decimal number fits) in
    let text : IsUtf8 c.in_ok-digits.digits.now = subst IsUtf8 (sym same) ascii in
    let fault = none_ok _ _ c.from_utf8.result c.in_err-text.ensures.value c.from_utf8.ensures.cases in
    absurd (fault.1.0 text)

pub returns : goal.returns
returns c = λ number fits is.
    let same = behind c.in_ok-digits.field-0-0.now c.in_ok-digits.digits.now c.args.name.now (decimal number) is c.in_ok-digits.ensures.cases.0 in
    let text = some_ok _ _ c.from_utf8.result c.in_ok-text.text c.in_ok-text.ensures.value c.from_utf8.ensures.cases in
    c.ok-2.ensures.value ∙ ap result_ok (parse-decimal 64 number c.in_ok-text.text.now c.parse.result fits fits (text.0 ∙ same) c.parse.ensures.value.0)
