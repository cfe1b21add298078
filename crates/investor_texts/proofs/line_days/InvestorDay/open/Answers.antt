use Rattle.std.proofs.Common.{◌∙◌, ℕ, ◌+◌, ap, length, refl, sym}
use Rattle.input_lines.specs.StepLines.{nothing_heard}
use Rattle.investor_texts.proofs.AskedLemmas.{row_there}
use Rattle.investor_texts.proofs.line_days.InvestorDay.open.Goals as goal
use Rattle.venue_text.proofs.ArrivalLemmas.{names_count}

pub returns-clause-ok : goal.returns-clause-ok
returns-clause-ok c =
    let config = c.in_ok-config.config in
    let there = row_there config c.in_ok-investor.investor c.in_ok-investor.ensures.known in
    record {
      config = config;
      spelled = c.in_ok-config.ensures.ok;
      keeps = record {
        config_is = refl;
        named = sym c.in_ok-investor.ensures.is;
        heard_is = c.in_ok-heard.ensures
            ∙ ap (λ (n : ℕ). nothing_heard n)
            (ap (λ (n : ℕ). n + length c.investors.result.now) (ap length c.dealers.ensures.value)
            ∙ ap (λ (n : ℕ). length config.dealers + n) (ap length c.investors.ensures.value)
            ∙ sym (names_count config));
        row = there.0;
        is_investor = there.1;
        venue_is = c.in_ok-venue.ensures;
      };
    }
