use Rattle.std.proofs.Common.{sym, ◌∙◌}
use Rattle.std.proofs.lemmas.Bool.{false≢true}
use Rattle.std.proofs.lemmas.Bool.Decides.{Decides-eqb}
use Rattle.std.proofs.lemmas.Slice.Eq.{starts_is}
use Rattle.std.proofs.Common.{drop, length}
use Rattle.fix_fields.specs.Frame.{start_text}
use Rattle.fix_fields.proofs.FoundLemmas.{found_departs_early, found_in_start}
use Rattle.fix_fields.proofs.fronts.front_in_start.Goals as goal

pub returns-then-not-starts_with : goal.returns-then-not-starts_with
returns-then-not-starts_with c =
    let bytes = c.args.bytes.now in
    let starts = starts_is Decides-eqb start_text bytes c.starts_with.result c.starts_with.ensures.value in
    found_departs_early bytes c.requires (λ more is. false≢true (sym c.if-not-starts_with.true ∙ starts.1 more is))

pub returns : goal.returns
returns c =
    let bytes = c.args.bytes.now in
    let starts = starts_is Decides-eqb start_text bytes c.starts_with.result c.starts_with.ensures.value in
    found_in_start bytes (drop (length bytes) start_text) c.requires (starts.0 c.if-not-starts_with.false)
