use Rattle.fix_fields.proofs.CuttingLemmas.{is_cutting, cutting_is}
use Rattle.fix_fields.proofs.stream_laws.envelopes_of_is_the_cutting.Goals as goal

pub returns : goal.returns
returns c = λ stream cut. (λ same. is_cutting stream cut same, λ is. cutting_is stream cut is)
