use Rattle.bond_prices.proofs.Quotation.{quoted-part, quoted-eighths}
use Rattle.bond_prices.proofs.quoting.quoted_text.Goals as goal

pub returns-then-eighths-eq0-clause-exact : goal.returns-then-eighths-eq0-clause-exact
returns-then-eighths-eq0-clause-exact c =
    rw c.get-count.ensures.value at (quoted-part c.get-count.result _ _ _ _ c.if-eighths-eq0.true c.points_text-text.ensures.value c.push_ascii.ensures.pushed c.push_ascii-2.ensures.pushed c.push_ascii-3.ensures.pushed)

pub returns-clause-exact : goal.returns-clause-exact
returns-clause-exact c =
    rw c.get-count.ensures.value at (quoted-eighths c.get-count.result _ _ _ _ _ _ c.if-eighths-eq0.false c.points_text-text.ensures.value c.push_ascii.ensures.pushed c.push_ascii-2.ensures.pushed c.push_ascii-3.ensures.pushed c.eighths_sign.ensures c.push_ascii-4.ensures.pushed)
