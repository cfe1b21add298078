use Rattle.investor_desk.proofs.DeskLemmas.{facts_push, notes_push, sent_push}
use Rattle.investor_desk.proofs.laws.facts_after_one_event_more.Goals as goal

pub returns : goal.returns
returns c = record { facts = facts_push; sent = sent_push; notes = notes_push }
