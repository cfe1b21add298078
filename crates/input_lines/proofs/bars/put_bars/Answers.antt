use Rattle.input_lines.proofs.BarLemmas.{barred_put}
use Rattle.input_lines.proofs.bars.put_bars.Goals as goal

pub returns : goal.returns
returns c =
    let done = c.put_in_blocks-done in
    barred_put c.args.text.now done.new.text c.put_one_by_one.new.text done.result done.ensures.front done.ensures.behind
    c.put_one_by_one.ensures
