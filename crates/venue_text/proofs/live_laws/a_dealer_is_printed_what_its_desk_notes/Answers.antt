use Rattle.step_replay.specs.LiveDays.{live_steps}
use Rattle.venue_text.proofs.NotedLemmas.{noted_of_dealer}
use Rattle.venue_text.proofs.live_laws.a_dealer_is_printed_what_its_desk_notes.Goals as goal

pub returns : goal.returns
returns c frames config name dealer row steps named is =
    noted_of_dealer frames config dealer row is name steps named
    (c.dealers_are_given_their_view.ensures.days config (live_steps steps) dealer row is)
