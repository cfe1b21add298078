use Rattle.std.proofs.Common.{◌∙◌, ℕ, ◌+◌, ap, length, refl, sym}
use Rattle.input_lines.specs.StepLines.{nothing_heard}
use Rattle.venue_text.proofs.ArrivalLemmas.{names_count}
use Rattle.venue_text.proofs.live_lines.LiveDay.open.Goals as goal

pub returns-clause-ok : goal.returns-clause-ok
returns-clause-ok c =
    let config = c.in_ok-config.config in
    record {
      config = config;
      spelled = c.in_ok-config.ensures.ok;
      goes = record {
        form_is = refl;
        config_is = refl;
        stands = c.in_ok-venue.ensures;
        heard_is = c.in_ok-heard.ensures
            ∙ ap (λ (n : ℕ). nothing_heard n)
            (ap (λ (n : ℕ). n + length c.investors.result.now) (ap length c.dealers.ensures.value)
            ∙ ap (λ (n : ℕ). length config.dealers + n) (ap length c.investors.ensures.value)
            ∙ sym (names_count config));
      };
    }
