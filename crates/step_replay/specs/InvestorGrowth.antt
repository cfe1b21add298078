-- What an event at an investor's desk adds to its trail: the desk stands where its trail has come.
use Rattle.std.proofs.Common.{◌≡◌, ℕ, ◌+◌, List, [], ◌∷◌, ◌++◌, map, filter_map, length, refl, sym}
use Rattle.std.proofs.Common.{ap, ap₂, ◌∙◌}
use Rattle.std.proofs.lemmas.List.{append-nil}
use Rattle.std.proofs.lemmas.List.Elements.{filter_map-append}
use Rattle.std.proofs.lemmas.List.Sums.{fold-append}
use Rattle.investor_desk.specs.InvestorFacts.{InvestorFact}
use Rattle.investor_desk.specs.InvestorRules.{InvestorMarket}
use Rattle.investor_desk.specs.InvestorOutput.{DeskState, desk_after, after_event, no_facts}
use Rattle.investor_desk.specs.InvestorOutput.{event_facts, event_messages, moment_of, written_from}
use Rattle.investor_desk.specs.declared.events.InvestorEvent.{InvestorEvent}
use Rattle.step_replay.specs.InvestorEvents.{event_in, events_of}
use Rattle.step_replay.specs.PlaceLemmas.{nothing_of, everything_of}
use Rattle.step_replay.specs.InvestorTrail.{InvestorEntry, AtDesk, Sent, fact_in}
use Rattle.step_replay.specs.InvestorTrail.{message_in, facts_of, book_by, sent_by}
use Rattle.step_replay.specs.InvestorTrail.{entries_of}

facts_added : (facts : List InvestorFact) (messages : List (List ℕ))
    → filter_map fact_in (map AtDesk facts ++ map Sent messages) ≡ facts
facts_added facts messages =
    filter_map-append fact_in (map AtDesk facts) (map Sent messages)
    ∙ ap (λ l. filter_map fact_in (map AtDesk facts) ++ l)
    (nothing_of fact_in Sent (λ m. refl) messages)
    ∙ append-nil (filter_map fact_in (map AtDesk facts))
    ∙ everything_of fact_in AtDesk (λ fact. refl) facts

sent_added : (facts : List InvestorFact) (messages : List (List ℕ))
    → filter_map message_in (map AtDesk facts ++ map Sent messages) ≡ messages
sent_added facts messages =
    filter_map-append message_in (map AtDesk facts) (map Sent messages)
    ∙ ap (λ l. l ++ filter_map message_in (map Sent messages))
    (nothing_of message_in AtDesk (λ fact. refl) facts)
    ∙ everything_of message_in Sent (λ m. refl) messages

none_happened : (facts : List InvestorFact) (messages : List (List ℕ))
    → filter_map event_in (map AtDesk facts ++ map Sent messages) ≡ []
none_happened facts messages =
    filter_map-append event_in (map AtDesk facts) (map Sent messages)
    ∙ ap (λ l. l ++ filter_map event_in (map Sent messages))
    (nothing_of event_in AtDesk (λ fact. refl) facts)
    ∙ nothing_of event_in Sent (λ m. refl) messages

module _ (market : InvestorMarket) (trail : List InvestorEntry) (more : InvestorEvent) where
  -- the messages that the event sends
  abbrev messages : List (List ℕ)
  messages = written_from market (length (sent_by trail) + 1) (moment_of more)
      (event_messages market (book_by trail) more)

  pub events_grown : events_of (trail ++ entries_of market trail more)
      ≡ events_of trail ++ more ∷ []
  unfolding entries_of
  events_grown =
      filter_map-append event_in trail (entries_of market trail more)
      ∙ ap (λ l. events_of trail ++ more ∷ l)
      (none_happened (event_facts market (book_by trail) more) messages)

  pub facts_grown : facts_of (trail ++ entries_of market trail more)
      ≡ facts_of trail ++ event_facts market (book_by trail) more
  unfolding entries_of
  facts_grown =
      filter_map-append fact_in trail (entries_of market trail more)
      ∙ ap (λ l. facts_of trail ++ l)
      (facts_added (event_facts market (book_by trail) more) messages)

  sent_grown : sent_by (trail ++ entries_of market trail more) ≡ sent_by trail ++ messages
  unfolding entries_of
  sent_grown =
      filter_map-append message_in trail (entries_of market trail more)
      ∙ ap (λ l. sent_by trail ++ l)
      (sent_added (event_facts market (book_by trail) more) messages)

-- a desk with these facts, whose investor was sent these messages
abbrev pub desk_with : List InvestorFact → List (List ℕ) → DeskState
desk_with facts sent = record { facts = facts; sent = sent }

-- a desk where a trail has come
abbrev pub desk_of : List InvestorEntry → DeskState
desk_of trail = desk_with (facts_of trail) (sent_by trail)

-- a desk after one event more
pub desk_push : (market : InvestorMarket) (events : List InvestorEvent) (more : InvestorEvent)
    → desk_after market (events ++ more ∷ []) ≡ after_event market (desk_after market events) more
unfolding desk_after
desk_push market events more = fold-append (after_event market) no_facts events (more ∷ [])

-- a desk of a trail after one event more
pub trail_push : (market : InvestorMarket) (trail : List InvestorEntry) (more : InvestorEvent)
    → after_event market (desk_of trail) more ≡ desk_of (trail ++ entries_of market trail more)
trail_push market trail more =
    ap₂ desk_with (sym (facts_grown market trail more)) (sym (sent_grown market trail more))
