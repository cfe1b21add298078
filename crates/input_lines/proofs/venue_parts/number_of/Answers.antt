use Rattle.std.proofs.Common.{ap, ◌∙◌, ◌++◌, map, position, List, ℕ}
use Rattle.venue_rows.specs.Texts.{same_text}
use Rattle.venue_rows.specs.declared.dealer_rows.DealerRow.{DealerRow}
use Rattle.venue_rows.specs.declared.investor_rows.InvestorRow.{InvestorRow}
use Rattle.input_lines.proofs.venue_parts.number_of.Goals as goal

pub returns : goal.returns
returns c =
    let test = λ (own : List ℕ). same_text own c.args.name.now in
    c.firm_number.ensures
    ∙ ap (λ (rows : List DealerRow). position test (map (λ row. row.name) rows ++ map (λ (row : InvestorRow). row.name) c.investors.result.now)) c.dealers.ensures.value
    ∙ ap (λ (rows : List InvestorRow). position test (map (λ (row : DealerRow). row.name) c.args.config.now.dealers ++ map (λ row. row.name) rows)) c.investors.ensures.value
