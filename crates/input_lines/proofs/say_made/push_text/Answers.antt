use Rattle.std.proofs.Common.{rules}
use Rattle.input_lines.proofs.TextLemmas.{added, text_spelled}
use Rattle.input_lines.proofs.say_made.push_text.Goals as goal

pub returns : goal.returns
returns c told =
    let put = added _ c.args.text.now c.args.frame.now c.spelled.new.self c.in-Some.tag c.in-Some.is c.in_ok-tag.ensures.ok in
    text_spelled c.args.frame.now c.spelled.new.self c.args.text.now c.in-Some.tag put.0 (search rules) (search rules) put.1
