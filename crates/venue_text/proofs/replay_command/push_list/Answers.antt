use Rattle.std.proofs.Common.{◌++◌, append-nil, sym, ap, ◌∙◌}
use Rattle.venue_rows.specs.Rows.{firm_names}
use Rattle.venue_text.specs.MessageLines.{messages_text}
use Rattle.venue_text.proofs.DayLemmas.{list_at, list_of_no_firm, list_of_none}
use Rattle.venue_text.proofs.replay_command.push_list.Goals as goal

pub returns-in_default : goal.returns-in_default
returns-in_default c =
    sym (append-nil c.args.text.now)
    ∙ ap (λ t. c.args.text.now ++ t)
    (sym (list_of_none c.args.with_frames (firm_names c.args.venue.now) _ c.args.firm c.in_default.ensures))

pub returns-in_default-get : goal.returns-in_default-get
returns-in_default-get c =
    sym (append-nil c.args.text.now)
    ∙ ap (λ t. c.args.text.now ++ t)
    (sym (list_of_no_firm (λ list. list.items) c.args.with_frames (firm_names c.args.venue.now) c.args.sent.now
    c.args.firm c.from.result c.from.ensures c.in_default-get.ensures.lookup.3))

pub returns : goal.returns
returns c =
    let name = c.in-Some.name.now in
    let there = list_at (λ list. list.items) c.args.with_frames (firm_names c.args.venue.now) c.args.sent.now c.args.firm
    c.from.result name c.in-Some-get.messages.now c.from.ensures c.in-Some.ensures c.in-Some-get.ensures.lookup.3.0
    c.in-Some-get.ensures.lookup.1 in
    c.in_ok-push_blocks.ensures
    ∙ ap (λ messages. c.args.text.now ++ messages_text c.args.with_frames name messages) c.as_slice.ensures.value
    ∙ ap (λ l. c.args.text.now ++ l) (sym there)
