use Rattle.std.proofs.Common.{◌≡◌, ◌<◌, ◌+◌, ℕ, nat_lt, List, [], ◌∷◌, ◌++◌, length, Some, None}
use Rattle.std.proofs.Common.{Result, Ok, Err, IsOk, OnOk, OnErr, refl, sym, ap, ◌∙◌, arith}
use Rattle.std.specs.List.{list_any}
use Rattle.std.specs.Result.{result_ok}
use Rattle.std.proofs.lemmas.Option.{none-some}
use Rattle.std.proofs.lemmas.List.{append-nil, length-append}
use Rattle.market_terms.specs.declared.rooms.TheConstants.AskedDealers.{MOST}
use Rattle.investor_desk.specs.InvestorRules.{is_unknown_dealer, dealer_numbers, dealer_named}
use Rattle.investor_desk.proofs.DealerLemmas.{number_next, known_next, unknown_next, too_many}
use Rattle.investor_desk.proofs.DealerLemmas.{known_refuses}
use Rattle.investor_desk.proofs.rules.dealer_numbers.Goals as goal

on_ok : {T E : Type 0} {P : Type 0} (r : Result T E) (t : T) → Some t ≡ result_ok r → OnOk r P → P
on_ok (Ok s) t is h = h
on_ok (Err e) t is h = absurd (none-some t (sym is))

was_ok : {T E : Type 0} (r : Result T E) (t : T) → Some t ≡ result_ok r → IsOk r
was_ok (Ok s) t is = refl
was_ok (Err e) t is = absurd (none-some t (sym is))

on_err : {T E : Type 0} {P : Type 0} (r : Result T E) → None ≡ result_ok r → OnErr r P → P
on_err (Ok s) is h = absurd (none-some s is)
on_err (Err e) is h = h

pub loop-name-init : goal.loop-name-init
loop-name-init c =
    let market = c.args.market.now in
    let is = c.into_iter-name-iterator.ensures.into_iter_gives in
    let none : length c.new-numbers.result.items ≡ 0 = ap length c.new-numbers.ensures in
    let many : length c.into_iter-name-iterator.result ≡ length c.args.names = ap length is in (
      ap (λ (ns : List ℕ). ns ++ dealer_numbers market c.into_iter-name-iterator.result) c.new-numbers.ensures ∙ ap (dealer_numbers market) is,
      ap (list_any (is_unknown_dealer market)) is,
      (omega arith),
      (omega arith),
    )

pub returns-in_err-number : goal.returns-in_err-number
returns-in_err-number c =
    let market = c.args.market.now in
    let named : dealer_named market c.in-Some.name ≡ None = ap (dealer_named market) (sym c.as_bytes.ensures.value) ∙ sym c.in_err-number.ensures in
    rw c.from_residual.ensures
    (known_refuses (nat_lt MOST (length c.args.names)) (list_any (is_unknown_dealer market) c.args.names)
    (sym c.loop-name.invariant.1 ∙ ap (list_any (is_unknown_dealer market)) c.in-Some.ensures.steps ∙ unknown_next market c.in-Some.name c.next.new.self named))

pub loop-name-preserved : goal.loop-name-preserved
loop-name-preserved c =
    let market = c.args.market.now in
    let number = c.in_ok-number.number in
    let rest = c.next.new.self in
    let named : dealer_named market c.in-Some.name ≡ Some number = ap (dealer_named market) (sym c.as_bytes.ensures.value) ∙ sym c.in_ok-number.ensures in
    let pushed : c.try_push.new.self.items ≡ c.loop-name.numbers.items ++ number ∷ [] = on_ok c.try_push.result c.in_ok-ok.field-0 c.in_ok-ok.ensures.value c.try_push.ensures.ok in
    let room : length c.loop-name.numbers.items < MOST = c.try_push.ensures.variant.0 (was_ok c.try_push.result c.in_ok-ok.field-0 c.in_ok-ok.ensures.value) in
    let more : length c.try_push.new.self.items ≡ length c.loop-name.numbers.items + 1 = ap length pushed ∙ length-append c.loop-name.numbers.items (number ∷ []) in
    let cut : length c.loop-name.name-iterator ≡ length (c.in-Some.name ∷ rest) = ap length c.in-Some.ensures.steps in
    let sum = c.loop-name.invariant.2 in (
      ap (λ (ns : List ℕ). ns ++ dealer_numbers market rest) pushed
          ∙ number_next market c.in-Some.name number c.loop-name.numbers.items rest (dealer_numbers market c.args.names) named
          (ap (λ (it : List (List ℕ)). c.loop-name.numbers.items ++ dealer_numbers market it) (sym c.in-Some.ensures.steps) ∙ c.loop-name.invariant.0),
      sym (known_next market c.in-Some.name number rest named) ∙ ap (list_any (is_unknown_dealer market)) (sym c.in-Some.ensures.steps) ∙ c.loop-name.invariant.1,
      (omega arith),
      (omega arith),
    )

pub returns-in_err-ok : goal.returns-in_err-ok
returns-in_err-ok c =
    let market = c.args.market.now in
    let full : length c.loop-name.numbers.items ≡ MOST = on_err c.try_push.result c.in_err-ok.ensures.value c.try_push.ensures.full in
    let cut : length c.loop-name.name-iterator ≡ length (c.in-Some.name ∷ c.next.new.self) = ap length c.in-Some.ensures.steps in
    let sum = c.loop-name.invariant.2 in
    let many : MOST < length c.args.names = omega arith in
    rw c.from_residual-in_err-ok.ensures (too_many (list_any (is_unknown_dealer market) c.args.names) MOST (length c.args.names) many)

pub returns : goal.returns
returns c =
    let market = c.args.market.now in
    let sum = c.loop-name.invariant.2 in
    let few = c.loop-name.invariant.3 in
    let done : length c.loop-name.name-iterator ≡ 0 = ap length c.in-None.ensures.steps.0 in (
      sym c.loop-name.invariant.1 ∙ ap (list_any (is_unknown_dealer market)) c.in-None.ensures.steps.0,
      (omega arith),
      sym (append-nil c.loop-name.numbers.items) ∙ ap (λ (it : List (List ℕ)). c.loop-name.numbers.items ++ dealer_numbers market it) (sym c.in-None.ensures.steps.0) ∙ c.loop-name.invariant.0,
    )
