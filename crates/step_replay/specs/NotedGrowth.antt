-- One event more at an investor's desk: it notes what the trail says with the entries that it adds.
use Rattle.std.proofs.Common.{◌≡◌, ℕ, ◌+◌, List, [], ◌∷◌, ◌++◌, fold, length, map, Option, Some}
use Rattle.std.proofs.Common.{None, Bool, true, false, refl, sym, ap, ap₂, ◌∙◌}
use Rattle.std.specs.Option.{option_map, option_to_list}
use Rattle.std.proofs.lemmas.List.{append-nil, append_assoc}
use Rattle.std.proofs.lemmas.List.Sums.{fold-append}
use Rattle.market_terms.specs.declared.closes.Reply.{Reply}
use Rattle.market_terms.specs.declared.rooms.Offer.{Offer}
use Rattle.market_terms.specs.declared.rooms.ResponseRef.{ResponseRef}
use Rattle.quote_messages.specs.declared.out_messages.OutMessage.{OutMessage}
use Rattle.quote_messages.specs.declared.out_messages.OutMessage.TheVariants as out
use Rattle.investor_desk.specs.DeskLaws.{fact_note}
use Rattle.investor_desk.specs.InvestorFacts.{InvestorFact, StandingRequest, Came}
use Rattle.investor_desk.specs.InvestorFacts.{Asked, Offered, book_of, open_request}
use Rattle.investor_desk.specs.InvestorFacts.{request_numbered, offer_of_dealer, offer_with_word}
use Rattle.investor_desk.specs.InvestorRules.{InvestorMarket, investor_verdict}
use Rattle.investor_desk.specs.InvestorOutput.{DeskState, no_facts, after_event, desk_after}
use Rattle.investor_desk.specs.InvestorOutput.{event_facts, event_messages, event_note, own_facts}
use Rattle.investor_desk.specs.InvestorOutput.{verdict_message, verdict_note, written_from, moment_of}
use Rattle.investor_desk.specs.InvestorOutput.{beside_each, notes_from, investor_notes, answer_note}
use Rattle.investor_desk.specs.InvestorOutput.{offer_facts, offer_messages, withdrawal_facts}
use Rattle.investor_desk.specs.InvestorOutput.{withdrawal_messages, decline_messages, answer_facts}
use Rattle.investor_desk.specs.InvestorOutput.{answer_messages, expiry_facts, expiry_messages}
use Rattle.investor_desk.specs.InvestorOutput.{gone_facts, gone_message, next_offer, offer_message}
use Rattle.investor_desk.specs.InvestorOutput.{close_by_answer, closed_facts, refusal_of, award_note}
use Rattle.investor_desk.specs.InvestorOutput.{response_message}
use Rattle.investor_desk.specs.declared.events.InvestorEvent.{InvestorEvent}
use Rattle.investor_desk.specs.declared.events.InvestorEvent.TheVariants as event
use Rattle.investor_desk.specs.declared.notes.InvestorNote.{InvestorNote}
use Rattle.investor_desk.specs.declared.standing.RequestClose.{RequestClose}
use Rattle.investor_desk.specs.declared.standing.ShownOffer.{ShownOffer}
use Rattle.investor_desk.specs.declared.verdicts.InvestorVerdict.{InvestorVerdict}
use Rattle.investor_desk.specs.declared.verdicts.InvestorVerdict.TheVariants as verdict
use Rattle.step_replay.specs.InvestorTrail.{InvestorEntry, AtDesk, Sent, facts_of, book_by, sent_by}
use Rattle.step_replay.specs.InvestorTrail.{entries_of}
use Rattle.step_replay.specs.InvestorGrowth.{desk_of, facts_grown}
use Rattle.step_replay.specs.NotedTrail.{NotedAs, NotedSoFar, noted_after, noted_in, noted_so}

-- What the entries of one event note.

module _ (market : InvestorMarket) (facts : List InvestorFact) (notes : List (Option InvestorNote))
    (n moment : ℕ) where
  -- what stands behind these facts and messages, which came in this order
  abbrev behind : List InvestorFact → List OutMessage → NotedSoFar
  behind added messages =
      fold (noted_after market) (noted_so facts None notes)
      (map AtDesk added ++ map Sent (written_from market n moment messages))

  -- these facts were added, and beside each of the messages stands this note
  abbrev Notes : List InvestorFact → List OutMessage → Option InvestorNote → Type 0
  Notes added messages note =
      behind added messages ≡ noted_so (facts ++ added) None (notes ++ beside_each messages note)

  -- no fact and no message
  nothing_noted : (note : Option InvestorNote) → Notes [] [] note
  nothing_noted said =
      ap₂ (λ (f : List InvestorFact) (l : List (Option InvestorNote)). noted_so f None l)
      (sym (append-nil facts)) (sym (append-nil notes))

  -- a message without a fact
  message_noted : (message : OutMessage) → Notes [] (message ∷ []) None
  message_noted message =
      ap (λ (f : List InvestorFact). noted_so f None (notes ++ None ∷ [])) (sym (append-nil facts))

  -- a fact and a message, or two
  fact_noted : (fact : InvestorFact) (message : OutMessage)
      → Notes (fact ∷ []) (message ∷ []) (fact_note market (book_of facts) (Some fact))
  fact_noted fact message = refl

  -- a fact without a message
  fact_alone : (fact : InvestorFact) (note : Option InvestorNote)
      → fact_note market (book_of facts) (Some fact) ≡ None → Notes (fact ∷ []) [] note
  fact_alone fact said none =
      ap₂ (λ (next : Option InvestorNote) (l : List (Option InvestorNote)).
      noted_so (facts ++ fact ∷ []) next l) none (sym (append-nil notes))

  -- a message of the investor's own that is answered
  told_noted : (bytes : List ℕ) (used : Bool) (given : InvestorVerdict)
      → investor_verdict market (book_of facts) moment bytes ≡ given
      → noted_so (facts ++ Came moment bytes used ∷ []) None
      (notes ++ verdict_note (investor_verdict market (book_of facts) moment bytes) ∷ [])
      ≡ noted_so (facts ++ Came moment bytes used ∷ []) None (notes ++ verdict_note given ∷ [])
  told_noted bytes used given is =
      ap (λ (v : InvestorVerdict).
      noted_so (facts ++ Came moment bytes used ∷ []) None (notes ++ verdict_note v ∷ [])) is

  own_noted : (bytes : List ℕ) (given : InvestorVerdict)
      → investor_verdict market (book_of facts) moment bytes ≡ given
      → Notes (own_facts moment bytes given) (option_to_list (verdict_message given))
      (verdict_note given)
  own_noted bytes (verdict.RequestAccepted id request) is =
      ap (λ (f : List InvestorFact). noted_so f None (notes ++ None ∷ []))
      (append_assoc facts _ (Asked request ∷ []))
  own_noted bytes verdict.Dropped is = fact_alone _ None (ap verdict_note is)
  own_noted bytes (verdict.Hits request response word) is = fact_alone _ None (ap verdict_note is)
  own_noted bytes (verdict.Passes request response) is = fact_alone _ None (ap verdict_note is)
  own_noted bytes (verdict.OutOfSequence reject) is =
      told_noted bytes false (verdict.OutOfSequence reject) is
  own_noted bytes (verdict.Rejected reject) is =
      told_noted bytes true (verdict.Rejected reject) is
  own_noted bytes (verdict.RequestRefused request bond refusal) is =
      told_noted bytes true (verdict.RequestRefused request bond refusal) is
  own_noted bytes (verdict.HitUnknown id quote) is =
      told_noted bytes true (verdict.HitUnknown id quote) is
  own_noted bytes (verdict.PassUnknown id request) is =
      told_noted bytes true (verdict.PassUnknown id request) is

  shown_noted : (own : StandingRequest) (number : ℕ) (gone : Option ShownOffer) (shown : ShownOffer)
      → Notes (gone_facts number gone ++ Offered shown ∷ [])
      (option_to_list (option_map (gone_message own) gone) ++ offer_message own shown ∷ []) None
  shown_noted own number None shown = refl
  shown_noted own number (Some other) shown =
      ap₂ (λ (f : List InvestorFact) (l : List (Option InvestorNote)). noted_so f None l)
      (append_assoc facts _ (Offered shown ∷ [])) (append_assoc notes (None ∷ []) (None ∷ []))

  offer_noted : (number : ℕ) (offer : Offer) (found : Option StandingRequest)
      → Notes (offer_facts (book_of facts) number offer found)
      (offer_messages (book_of facts) number offer found) None
  offer_noted number offer None = nothing_noted None
  offer_noted number offer (Some own) =
      shown_noted own number (offer_of_dealer own offer.dealer)
      (next_offer (book_of facts) number offer)

  gone_noted : (own : StandingRequest) (number : ℕ) (gone : Option ShownOffer)
      → Notes (gone_facts number gone) (option_to_list (option_map (gone_message own) gone)) None
  gone_noted own number None = nothing_noted None
  gone_noted own number (Some shown) = refl

  withdrawal_noted : (number word : ℕ) (found : Option StandingRequest)
      → Notes (withdrawal_facts number word found) (withdrawal_messages word found) None
  withdrawal_noted number word None = nothing_noted None
  withdrawal_noted number word (Some own) = gone_noted own number (offer_with_word own word)

  decline_noted : (dealer : List ℕ) (found : Option StandingRequest)
      → Notes [] (decline_messages dealer found) None
  decline_noted dealer None = nothing_noted None
  decline_noted dealer (Some own) = message_noted (out.DealerDeclined own.request.id dealer)

  closed_noted : (number : ℕ) (message : OutMessage) (how : Option RequestClose)
      → Notes (closed_facts number how) (message ∷ []) (award_note how)
  closed_noted number message None = message_noted message
  closed_noted number message (Some how) = refl

  answer_noted : (number : ℕ) (response : ResponseRef) (reply : Reply)
      (found : Option StandingRequest)
      → Notes (answer_facts (book_of facts) number response reply found)
      (answer_messages response reply found) (answer_note (book_of facts) response reply found)
  answer_noted number response reply None = nothing_noted None
  answer_noted number response reply (Some own) =
      closed_noted number (response_message own response.id response.k (refusal_of reply))
      (close_by_answer (book_of facts) response (refusal_of reply))

  expiry_noted : (number : ℕ) (found : Option StandingRequest)
      → Notes (expiry_facts number found) (expiry_messages found) None
  expiry_noted number None = nothing_noted None
  expiry_noted number (Some own) = refl

event_noted : (market : InvestorMarket) (facts : List InvestorFact)
    (notes : List (Option InvestorNote)) (n : ℕ) (more : InvestorEvent)
    → Notes market facts notes n (moment_of more) (event_facts market (book_of facts) more)
    (event_messages market (book_of facts) more) (event_note market (book_of facts) more)
unfolding event_facts event_messages event_note
event_noted market facts notes n (event.Received moment bytes) =
    own_noted market facts notes n moment bytes (investor_verdict market (book_of facts) moment bytes)
    refl
event_noted market facts notes n (event.QuoteCame request offer moment) =
    offer_noted market facts notes n moment request offer (open_request (book_of facts) request)
event_noted market facts notes n (event.QuoteGone request word moment) =
    withdrawal_noted market facts notes n moment request word (open_request (book_of facts) request)
event_noted market facts notes n (event.DealerDeclined request dealer moment) =
    decline_noted market facts notes n moment dealer (open_request (book_of facts) request)
event_noted market facts notes n (event.Answered request response reply moment) =
    answer_noted market facts notes n moment request response reply
    (request_numbered (book_of facts) request)
event_noted market facts notes n (event.Closed request moment) =
    expiry_noted market facts notes n moment request (request_numbered (book_of facts) request)

-- What the desk noted with one event more.

pub notes_more : (market : InvestorMarket) (desk : DeskState) (events : List InvestorEvent)
    (more : InvestorEvent) → notes_from market desk (events ++ more ∷ [])
    ≡ notes_from market desk events
    ++ beside_each (event_messages market (book_of (fold (after_event market) desk events).facts) more)
    (event_note market (book_of (fold (after_event market) desk events).facts) more)
notes_more market desk [] more =
    append-nil (beside_each (event_messages market (book_of desk.facts) more)
    (event_note market (book_of desk.facts) more))
notes_more market desk (came ∷ events) more =
    let here = beside_each (event_messages market (book_of desk.facts) came)
    (event_note market (book_of desk.facts) came) in
    let then = after_event market desk came in
    let last = book_of (fold (after_event market) then events).facts in
    ap (λ (l : List (Option InvestorNote)). here ++ l) (notes_more market then events more)
    ∙ sym (append_assoc here (notes_from market then events)
    (beside_each (event_messages market last more) (event_note market last more)))

notes_push : (market : InvestorMarket) (events : List InvestorEvent) (trail : List InvestorEntry)
    (more : InvestorEvent) → desk_after market events ≡ desk_of trail
    → investor_notes market (events ++ more ∷ []) ≡ investor_notes market events
    ++ beside_each (event_messages market (book_by trail) more) (event_note market (book_by trail) more)
unfolding desk_after
notes_push market events trail more is =
    notes_more market no_facts events more
    ∙ ap (λ (state : DeskState). investor_notes market events
    ++ beside_each (event_messages market (book_of state.facts) more)
    (event_note market (book_of state.facts) more)) is

-- a trail after one event more
pub noted_push : (market : InvestorMarket) (events : List InvestorEvent)
    (trail : List InvestorEntry) (more : InvestorEvent) → desk_after market events ≡ desk_of trail
    → NotedAs market events trail
    → NotedAs market (events ++ more ∷ []) (trail ++ entries_of market trail more)
unfolding noted_in entries_of
noted_push market events trail more is noted =
    let added = entries_of market trail more in
    let notes = investor_notes market events in
    fold-append (noted_after market) (noted_so [] None []) trail added
    ∙ ap (λ (s : NotedSoFar). fold (noted_after market) s added) noted
    ∙ event_noted market (facts_of trail) notes (length (sent_by trail) + 1) more
    ∙ ap₂ (λ (f : List InvestorFact) (l : List (Option InvestorNote)). noted_so f None l)
    (sym (facts_grown market trail more)) (sym (notes_push market events trail more is))
