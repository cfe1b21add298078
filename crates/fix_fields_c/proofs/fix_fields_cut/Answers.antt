use Rattle.std.proofs.Common.{[], refl, sym}
use Rattle.fix_fields.specs.Envelope.{envelopes_of, cut_behind}
use Rattle.fix_fields_c.proofs.fix_fields_cut.Goals as goal

pub loop-rest-init : goal.loop-rest-init
unfolding envelopes_of cut_behind
loop-rest-init c = ([], refl, sym c.new-splitter.ensures, refl)
