use Rattle.std.proofs.Common.{refl}
use Rattle.venue_text.proofs.KeptLemmas.{kept_more}
use Rattle.venue_text.proofs.kept_days.KeptDay.keep.Goals as goal

pub returns : goal.returns
returns c config wanted taken keeps =
    let told = c.in_ok-told.told in
    kept_more wanted config taken c.args.line c.args.text.now c.args.self.now _ told.messages.items
    told.fault told.fault keeps
    (c.in_ok-told.ensures c.args.self.now.day.form config taken keeps.goes) refl refl
