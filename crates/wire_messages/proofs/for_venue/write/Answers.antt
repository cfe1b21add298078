use Rattle.std.proofs.Common.{[], ◌∷◌}
use Rattle.fix_fields.specs.Frame.{Field, fields_of}
use Rattle.wire_messages.specs.ToVenue.{to_venue}
use Rattle.wire_messages.proofs.UnwrittenLemmas.{failed, unread_of, unwritten_more}
use Rattle.wire_messages.proofs.for_venue.write.Goals as goal

pub returns-in_err-writer-clause-frame : goal.returns-in_err-writer-clause-frame
returns-in_err-writer-clause-frame c =
    let why = c.in_err-writer.field-0.0 in
    let rest = c.args.rest.now in
    let first : Field = (35, c.args.kind.now) in
    let more = to_venue c.args.number (fields_of rest) in
    failed _ _ c.from_residual.result why c.from_residual.ensures.1
    (unread_of why rest (first ∷ more) (unwritten_more 4071 why (first ∷ []) more c.in_err-writer.ensures))
