use Rattle.std.proofs.lemmas.Result.{err_from_is_err_and}
use Rattle.toml.specs.View.{view}
use Rattle.venue_config.proofs.FaultLemmas.{never_toml}
use Rattle.venue_config.proofs.reading.read_config.Goals as goal

pub returns-in_err-config-clause-toml : goal.returns-in_err-config-clause-toml
returns-in_err-config-clause-toml c =
    let p = err_from_is_err_and c.from_residual-in_err-config.result c.from_residual-in_err-config.ensures.1 in
    rw (p.1, p.2) (λ is. absurd (never_toml (view c.in_ok-document.document) c.in_err-config.field-0.0 c.in_err-config.ensures.err is))
