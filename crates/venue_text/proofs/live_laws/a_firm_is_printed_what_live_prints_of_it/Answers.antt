use Rattle.std.proofs.Common.{List, ℕ, Some, ap, sym, ◌∙◌}
use Rattle.step_replay.specs.LiveDays.{live_messages, live_steps}
use Rattle.venue_text.specs.LiveInput.{taken_in}
use Rattle.venue_text.specs.FirmLines.{line_messages}
use Rattle.venue_text.specs.MessageLines.{messages_text}
use Rattle.venue_text.proofs.FirmLineLemmas.{input_part, is_known, line_adds, part_of_dealer, text_of_firm}
use Rattle.venue_text.proofs.LiveLemmas.{text_told}
use Rattle.venue_text.proofs.live_laws.a_firm_is_printed_what_live_prints_of_it.Goals as goal

pub returns-clause-line : goal.returns-clause-line
returns-clause-line c form config taken k line =
    sym (text_told form config taken k line (line_messages config taken (k, line))
    (line_adds config taken (k, line)))

pub returns-clause-firm : goal.returns-clause-firm
returns-clause-firm c frames config name firm lines is =
    let steps = (taken_in config lines).steps in
    let one = c.firms_are_sent_one_list.ensures in
    let sent = one.days config (live_steps steps) firm (is_known config name firm is)
    ∙ ap Some (sym (one.live config steps firm)) in
    text_of_firm config name firm is frames steps sent
    ∙ sym (input_part frames config firm lines)

pub returns-clause-dealer : goal.returns-clause-dealer
returns-clause-dealer c frames config dealer row lines is =
    let steps = (taken_in config lines).steps in
    let view = c.dealers_are_given_their_view.ensures.live config steps dealer row is in
    ap (λ (sent : List (List ℕ)). messages_text frames row.name sent) (sym view)
    ∙ part_of_dealer frames config dealer row is (live_messages config steps)
    ∙ sym (input_part frames config dealer lines)
