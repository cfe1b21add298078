use Rattle.std.proofs.Common.{rules, [], ◌∷◌}
use Rattle.std.specs.Io.KnownBytes.{Appends}
use Rattle.live_runs.proofs.StreamLemmas.{front_part, line_front, line_more, more_part}
use Rattle.live_runs.proofs.output.write_named.Goals as goal

pub returns-then-not-write_text : goal.returns-then-not-write_text
returns-then-not-write_text g c = line_front _ c.args.front.now c.args.argument.now (10 ∷ []) c.write_text.ensures.prefix

pub returns-then-not-write_text-2 : goal.returns-then-not-write_text-2
returns-then-not-write_text-2 g c =
    let contents = g.E.Write.contents in
    let first : Appends (contents c.args.err.now) (contents c.write_text.new.out) c.args.front.now = search rules in
    line_more _ _ _ c.args.front.now c.args.argument.now (10 ∷ []) first (front_part _ c.args.argument.now (10 ∷ []) c.write_text-2.ensures.prefix)

pub returns : goal.returns
returns g c =
    let contents = g.E.Write.contents in
    let first : Appends (contents c.args.err.now) (contents c.write_text.new.out) c.args.front.now = search rules in
    let second : Appends (contents c.write_text.new.out) (contents c.write_text-2.new.out) c.args.argument.now = search rules in
    line_more _ _ _ c.args.front.now c.args.argument.now (10 ∷ []) first
    (more_part _ _ _ c.args.argument.now (10 ∷ []) second c.write_text-3.ensures.prefix)
