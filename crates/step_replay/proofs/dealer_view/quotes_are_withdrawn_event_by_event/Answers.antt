use Rattle.step_replay.proofs.Common.{Bool, ◌||◌, ◌∙◌, ap, sym, list_any-append, list_any, book_at}
use Rattle.step_replay.proofs.Common.{with_event, asked_by, says_withdrawn, withdraws_by}
use Rattle.dealer_desk.specs.DealerDesk.{facts_at}
use Rattle.dealer_desk.specs.SettledWords.{settled_words}
use Rattle.step_replay.proofs.dealer_view.quotes_are_withdrawn_event_by_event.Goals as goal

pub returns : goal.returns
returns c desk more quote =
    let said = c.facts_say_how_words_were_settled.ensures.withdrawn in
    let grown = c.words_are_asked_event_by_event.ensures desk.date desk.row desk.events more in
    said (facts_at (with_event desk more)) quote
    ∙ ap (list_any (says_withdrawn quote)) grown
    ∙ list_any-append (says_withdrawn quote) (settled_words (facts_at desk))
    (asked_by desk.date desk.row (book_at desk) more)
    ∙ ap (λ (before : Bool). before || withdraws_by desk more quote)
    (sym (said (facts_at desk) quote))
