use Rattle.std.proofs.Common.{[]}
use Rattle.fix_fields.specs.Envelope.{envelopes_of, cut_behind}
use Rattle.fix_fields.proofs.CuttingLemmas.{cut_envelopes, frame_is_envelope}
use Rattle.fix_fields.proofs.stream_laws.frames_are_cut.Goals as goal

pub returns-clause-frame : goal.returns-clause-frame
returns-clause-frame c = λ bytes fields is. frame_is_envelope bytes fields is

pub returns-clause-stream : goal.returns-clause-stream
unfolding envelopes_of cut_behind
returns-clause-stream c = λ messages all. cut_envelopes messages [] all
