use Rattle.std.proofs.Common.{ℕ, ◌≡◌, ◌≢◌, List, ◌∷◌, sym, ◌∙◌, get_or}
use Rattle.bond_prices.proofs.PriceOf.{price_of-empty, price_of-negative, price_of-negative_none}
use Rattle.bond_prices.proofs.PriceOf.{price_of-unsigned, price_of-unsigned_none}
use Rattle.bond_prices.proofs.read.read_exactly.Goals as goal

-- a text that begins with another byte than a minus sign
first_is_other : (text rest : List ℕ) (first : ℕ) → text ≡ first ∷ rest → first ≢ 45 → get_or text 0 0 ≢ 45
first_is_other text rest first is other = rw is other

pub returns-in_default : goal.returns-in_default
returns-in_default c = record { exact = sym (price_of-empty c.args.text.now c.in_default.ensures.cases) }

pub returns-in_default-read_decimal : goal.returns-in_default-read_decimal
returns-in_default-read_decimal c = record {
  exact = rw (c.in-Some.ensures.cases.0, c.if-first-eq45.true) (sym (price_of-negative_none _ (sym c.in_default-read_decimal.ensures.spelled)));
}

pub returns-then-first-eq45 : goal.returns-then-first-eq45
returns-then-first-eq45 c = record {
  exact = rw (c.in-Some.ensures.cases.0, c.if-first-eq45.true) (sym (price_of-negative _ _ (sym c.in-Some-read_decimal.ensures.spelled)));
}

pub returns-in_default-read_decimal-2 : goal.returns-in_default-read_decimal-2
returns-in_default-read_decimal-2 c =
    let other = first_is_other c.args.text.now _ _ c.in-Some.ensures.cases.0 c.if-first-eq45.false in
    record { exact = sym (price_of-unsigned_none c.args.text.now other (sym c.in_default-read_decimal-2.ensures.spelled)) }

pub returns : goal.returns
returns c =
    let other = first_is_other c.args.text.now _ _ c.in-Some.ensures.cases.0 c.if-first-eq45.false in
    record { exact = c.ticks_of.ensures ∙ sym (price_of-unsigned c.args.text.now c.in-Some-read_decimal-2.decimal other (sym c.in-Some-read_decimal-2.ensures.spelled)) }
