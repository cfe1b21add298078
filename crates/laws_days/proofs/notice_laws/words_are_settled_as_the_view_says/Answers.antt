use Rattle.laws_days.proofs.Common.{each_of}
use Rattle.laws_days.proofs.AnswerLemmas.{IsAnswered, are_answered}
use Rattle.laws_days.proofs.notice_laws.words_are_settled_as_the_view_says.Goals as goal

pub returns-clause-asked : goal.returns-clause-asked
returns-clause-asked c config steps dealer row before after entry quote is splits asks =
    let each = are_answered c.words_are_asked_event_by_event.ensures config steps dealer row is in
    (each_of (IsAnswered config.date row) _ before entry after each splits).asked quote asks

pub returns-clause-answered : goal.returns-clause-answered
returns-clause-answered c config steps dealer row before after entry quote settlement is splits says =
    let each = are_answered c.words_are_asked_event_by_event.ensures config steps dealer row is in
    (each_of (IsAnswered config.date row) _ before entry after each splits).answered quote
    settlement says
