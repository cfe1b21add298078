use Rattle.recorded_days.proofs.DayViewLemmas.{day_is_seen, view_is_sent}
use Rattle.recorded_days.proofs.day_dues.recorded_dealers_are_sent_their_view.Goals as goal

pub returns : goal.returns
returns c date row events word_of answered one =
    view_is_sent date row events
    (day_is_seen date row c.words_are_asked_event_by_event.ensures
    c.facts_say_how_words_were_settled.ensures.withdrawn
    (λ desk. (
      c.what_is_asked_is_of_the_day.ensures.message desk,
      c.what_is_asked_is_of_the_day.ensures.drop desk,
    ))
    word_of events (record { answered = answered; one = one }))
