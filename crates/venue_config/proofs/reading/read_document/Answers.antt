use Rattle.std.proofs.Common.{sym, ◌∙◌}
use Rattle.toml.specs.View.{view}
use Rattle.venue_config.proofs.ConfigLemmas.{limits_read}
use Rattle.venue_config.proofs.reading.read_document.Goals as goal

pub new-requires : goal.new-requires
new-requires c =
    let investors = rw c.as_slice.ensures.value at c.in_ok-investors.ensures.ok in
    let summed = sym c.sums_fit.ensures ∙ c.if-not-sums_fit.false in
    let fit = rw (c.as_slice-2.ensures.value, c.as_slice-3.ensures.value) at summed in
    limits_read c.in_ok-version.version (view c.args.document.now)
    (record { date = c.in_ok-date.date; bonds = c.in_ok-bonds.bonds.items; dealers = c.in_ok-dealers.dealers.items; investors = c.in_ok-investors.investors.items })
    c.in_ok-bonds.ensures.ok c.in_ok-dealers.ensures.ok investors
    c.in_ok-bonds.ensures.most c.in_ok-dealers.ensures.most c.in_ok-investors.ensures.most fit
