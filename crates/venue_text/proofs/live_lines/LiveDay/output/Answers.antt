use Rattle.venue_text.proofs.LiveLemmas.{gives}
use Rattle.venue_text.proofs.live_lines.LiveDay.output.Goals as goal

-- NOT CHECKED
pub returns : goal.returns
returns c form config taken goes =
    let told = c.in_ok-told.told in
    gives form config taken c.args.line c.args.text.now c.send.new.self told.messages.items told.fault
    c.in_ok-output.output.fault c.in_ok-output.output.text.items
    (c.in_ok-told.ensures form config taken goes) c.in_ok-output.ensures.fault
    c.in_ok-output.ensures.text
