use Rattle.fix_fields.specs.Frame.{fields_len}
use Rattle.fix_fields.proofs.FrameParts.{frame_of-frame, is_frame_of}
use Rattle.fix_fields.proofs.WriterLemmas.{is_frame_text}
use Rattle.fix_fields.proofs.laws.frame_of_is_the_reading.Goals as goal

pub returns-clause-reads : goal.returns-clause-reads
returns-clause-reads c = λ bytes fields. (λ is. is_frame_of bytes fields is, λ frame. frame_of-frame bytes fields frame)

pub returns-clause-written : goal.returns-clause-written
unfolding fields_len
returns-clause-written c = λ fields body fits. frame_of-frame _ fields (is_frame_text fields body fits)
