use Rattle.std.proofs.Common.{◌≡◌, ◌++◌, [], append-nil, ap, length, rules, sym, ◌∙◌}
use Rattle.std.proofs.lemmas.List.{nil_from_length}
use Rattle.venue_text.specs.MessageLines.{messages_text}
use Rattle.venue_text.proofs.DayLemmas.{parts_text}
use Rattle.venue_text.proofs.replay_command.push_blocks.Goals as goal

pub loop-rest-preserved : goal.loop-rest-preserved
loop-rest-preserved c =
    parts_text c.args.with_frames c.args.firm.now c.args.text.now _ c.loop-rest.text c.push.new.self
    c.in_ok-block.block.items c.loop-rest.rest.now c.split_at.result.0.now c.split_at.result.1.now
    c.split_at.ensures.by_index.0 c.loop-rest.invariant c.in_ok-push.ensures.ok c.in_ok-block.ensures

pub returns : goal.returns
returns c =
    let short : length c.loop-rest.rest.now ≡ 0 = search rules in
    let none : c.loop-rest.rest.now ≡ [] = nil_from_length c.loop-rest.rest.now short in
    sym (append-nil c.loop-rest.text)
    ∙ ap (λ rest. c.loop-rest.text ++ messages_text c.args.with_frames c.args.firm.now rest) (sym none)
    ∙ c.loop-rest.invariant
