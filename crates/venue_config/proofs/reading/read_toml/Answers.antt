use Rattle.venue_config.proofs.ConfigLemmas.{document_read}
use Rattle.venue_config.proofs.reading.read_toml.Goals as goal

pub returns-in-Ok-clause-ok : goal.returns-in-Ok-clause-ok
returns-in-Ok-clause-ok c = document_read c.args.text.now c.in-Ok.table c.in-Ok.ensures.ok
