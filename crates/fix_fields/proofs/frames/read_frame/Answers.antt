use Rattle.fix_fields.proofs.FrameLemmas.{reads_frame, is_frame_read, reads_fault, is_fault_read}
use Rattle.fix_fields.proofs.FrameParts.{reads_exactly}
use Rattle.fix_fields.proofs.frames.read_frame.Goals as goal

pub returns-clause-read : goal.returns-clause-read
returns-clause-read c = λ fields.
    (is_frame_read c.args.bytes.now c.read.result c.read.ensures fields, reads_frame c.args.bytes.now c.read.result c.read.ensures fields)

pub returns-clause-fault : goal.returns-clause-fault
returns-clause-fault c = λ fault.
    (is_fault_read c.args.bytes.now c.read.result c.read.ensures fault, reads_fault c.args.bytes.now c.read.result c.read.ensures fault)

pub returns-clause-exact : goal.returns-clause-exact
returns-clause-exact c = reads_exactly c.args.bytes.now c.read.result c.read.ensures
