use Rattle.std.proofs.Common.{ℕ, ◌≤◌, ap, sym, subst, ◌∙◌}
use Rattle.std.proofs.lemmas.Bool.{and_parts}
use Rattle.bond_prices.specs.Price.{price_of}
use Rattle.venue_rows.specs.Texts.{is_firm_name}
use Rattle.venue_text.specs.ReadBack.{is_short}
use Rattle.investor_texts.proofs.ReadBackQuotes.{quoted_back}
use Rattle.investor_texts.proofs.read_back.quoted_is_read_back.Goals as goal

pub returns : goal.returns
returns c sayable =
    let parts = and_parts (is_short c.args.request) (is_firm_name c.args.dealer.now) sayable in
    quoted_back c.args.date.now c.args.request c.args.dealer.now c.args.price c.args.valid_until
    c.args.moment parts.0 parts.1
    (subst (λ (n : ℕ). n ≤ 255999) c.get.ensures.value c.get.ensures.at_most)
    (ap price_of (sym c.price_text.ensures.exact) ∙ c.price_text.ensures.read_back)
    c.until_is_read_back.ensures c.time_is_read_back.ensures
