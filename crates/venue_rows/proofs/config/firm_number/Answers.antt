use Rattle.std.proofs.Common.{None, Some}
use Rattle.venue_rows.specs.Texts.{same_text}
use Rattle.venue_rows.specs.declared.dealer_rows.DealerRow.{DealerRow}
use Rattle.venue_rows.specs.declared.investor_rows.InvestorRow.{InvestorRow}
use Rattle.venue_rows.proofs.FirmLemmas.{place_in_front, place_behind}
use Rattle.venue_rows.proofs.config.firm_number.Goals as goal

pub returns-in-Some : goal.returns-in-Some
returns-in-Some c =
    place_in_front (λ own. same_text own c.args.name.now) (λ (row : DealerRow). row.name) (λ (row : InvestorRow). row.name)
    c.args.dealers.now c.args.investors.now c.in-Some.place c.in-Some.ensures

pub returns-in_err-place : goal.returns-in_err-place
returns-in_err-place c =
    rw c.from_residual.ensures
    (place_behind (λ own. same_text own c.args.name.now) (λ (row : DealerRow). row.name) (λ (row : InvestorRow). row.name)
    c.args.dealers.now c.args.investors.now None c.in_default.ensures c.in_err-place.ensures)

pub returns : goal.returns
returns c =
    place_behind (λ own. same_text own c.args.name.now) (λ (row : DealerRow). row.name) (λ (row : InvestorRow). row.name)
    c.args.dealers.now c.args.investors.now (Some c.in_ok-place.place) c.in_default.ensures c.in_ok-place.ensures
