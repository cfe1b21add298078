-- What a room keeps after one event more, with its book best first: it goes by the fact that the
-- event adds, whatever the event is.
use Rattle.std.proofs.Common.{◌≡◌, ℕ, ◌+◌, Bool, true, false, ◌==◌, not, List, [], ◌∷◌, ◌++◌, length}
use Rattle.std.proofs.Common.{Option, Some, None, is_some, is_none, filter, refl, ap, sym, ◌∙◌, arith}
use Rattle.std.proofs.Common.{length-append}
use Rattle.std.proofs.lemmas.Bool.{and_parts}
use Rattle.std.proofs.lemmas.List.{append-nil, map-append}
use Rattle.market_terms.specs.declared.asks.Side.{Side}
use Rattle.request_room.specs.declared.book.RankedQuote.{RankedQuote}
use Rattle.request_room.specs.declared.ends.End.{End}
use Rattle.request_room.specs.declared.events.RoomEvent.{RoomEvent}
use Rattle.request_room.specs.declared.quotes.PostedQuote.{PostedQuote}
use Rattle.request_room.specs.declared.requests.RoomRequest.{RoomRequest}
use Rattle.request_room.specs.RoomFacts.{RoomFact, Opened, Readied, Posted, Unposted, Noted, Ended}
use Rattle.request_room.specs.RoomFacts.{request_of, is_vacant, takes_quotes}
use Rattle.request_room.specs.Book.{others, is_quote_of, fact_if, event_facts, room_after}
use Rattle.request_room.specs.Kept.{Keeps, KeepsRoom, Ranks, quotes_in, rank_in, ranked, is_kept_of}
use Rattle.request_room.proofs.EndLemmas.{no_end_before}
use Rattle.request_room.proofs.RankedLists.{filter-ranked, ranked-push}
use Rattle.request_room.proofs.KeptFacts.{kept_vacant, room_after_push, keeps_opened, keeps_readied}
use Rattle.request_room.proofs.KeptFacts.{keeps_posted, keeps_unposted, keeps_noted, keeps_ended}
use Rattle.request_room.proofs.KeptBookLemmas.{quotes-filter, posted_left, until_later, posted_then}

-- whether an event adds its fact
pub adds_one : (so : Bool) (fact : RoomFact) → so ≡ true → fact_if so fact ≡ fact ∷ []
adds_one so fact h = ap (λ b. fact_if b fact) h

pub adds_none : (so : Bool) (fact : RoomFact) → so ≡ false → fact_if so fact ≡ []
adds_none so fact h = ap (λ b. fact_if b fact) h

none_by : {A : Type 0} (o : Option A) → is_none o ≡ true → o ≡ None
none_by None h = refl
none_by (Some x) h = absurd (cc)

-- the posted quotes after one post more: those of the other dealers, and the new one behind them
abbrev posted_with : List RankedQuote → ℕ → PostedQuote → List RankedQuote
posted_with posted end quote =
    filter (λ one. not (one.quote.dealer == quote.dealer)) posted ++
    (record { posting = end; quote = quote }) ∷ []

ranks_posted : (request : Option RoomRequest) (side : Side) (posted kept : List RankedQuote)
    (end : ℕ) (quote : PostedQuote) → Ranks request side posted kept → is_some request ≡ true
    → Ranks request side (posted_with posted end quote)
    (rank_in side (filter (λ one. not (one.quote.dealer == quote.dealer)) kept)
    (record { posting = end; quote = quote }))
ranks_posted None side posted kept end quote ranks h = absurd (cc)
ranks_posted (Some request) side posted kept end quote ranks h =
    let is_other : RankedQuote → Bool = λ one. not (one.quote.dealer == quote.dealer) in
    let new : RankedQuote = record { posting = end; quote = quote } in (
      ranks.0,
      ap (λ quotes. rank_in side quotes new)
          (ap (filter is_other) ranks.1 ∙ filter-ranked side is_other posted)
          ∙ sym (ranked-push side (filter is_other posted) new),
    )

quotes_posted : (posted : List RankedQuote) (end : ℕ) (quote : PostedQuote)
    → quotes_in (posted_with posted end quote)
    ≡ others quote.dealer (quotes_in posted) ++ quote ∷ []
quotes_posted posted end quote =
    map-append (λ one. one.quote) (filter (λ one. not (one.quote.dealer == quote.dealer)) posted)
    ((record { posting = end; quote = quote }) ∷ [])
    ∙ ap (λ quotes. quotes ++ quote ∷ [])
    (quotes-filter (λ other. not (other.dealer == quote.dealer)) posted)

ranks_left : (request : Option RoomRequest) (side : Side) (posted kept : List RankedQuote)
    (p : RankedQuote → Bool) → Ranks request side posted kept
    → Ranks request side (filter p posted) (filter p kept)
ranks_left None side posted kept p ranks = (ap (filter p) ranks.0, ap (filter p) ranks.1)
ranks_left (Some request) side posted kept p ranks =
    (ranks.0, ap (filter p) ranks.1 ∙ filter-ranked side p posted)

ranks_opened : (request : Option RoomRequest) (side : Side) (posted kept : List RankedQuote)
    (opened : RoomRequest) → request ≡ None → Ranks request side posted kept
    → Ranks (Some opened) opened.ask.side posted kept
ranks_opened None side posted kept opened h ranks =
    (refl, ranks.1 ∙ sym (ap (ranked opened.ask.side) ranks.0))
ranks_opened (Some request) side posted kept opened h ranks = absurd (cc)

-- what a vacant room keeps
pub room_vacant : (side : Side) → KeepsRoom (room_after []) 0 None false side [] None
room_vacant side = record { posted = []; keeps = kept_vacant; ranks = (refl, refl); in_order = tt }

module _ (events : List RoomEvent) {request : Option RoomRequest} {ready : Bool} {side : Side}
    {kept : List RankedQuote} {end : Option End}
    (room : KeepsRoom (room_after events) (length events) request ready side kept end)
    (event : RoomEvent) where
  -- the event adds these facts
  abbrev Adds : List RoomFact → Type 0
  Adds added = event_facts (room_after events) event ≡ added

  -- what is kept once it came
  abbrev Then : Option RoomRequest → Bool → Side → List RankedQuote → Option End → Type 0
  Then request' ready' side' kept' end' =
      KeepsRoom (room_after (events ++ event ∷ [])) (length (events ++ event ∷ []))
      request' ready' side' kept' end'

  one_more : length (events ++ event ∷ []) ≡ length events + 1
  one_more = length-append events (event ∷ [])

  facts_then : (added : List RoomFact) → Adds added
      → room_after (events ++ event ∷ []) ≡ room_after events ++ added
  facts_then added adds =
      room_after_push events event ∙ ap (λ more. room_after events ++ more) adds

  same_book : (added : List RoomFact) → Adds added → (request' : Option RoomRequest)
      (ready' : Bool) (side' : Side) (end' : Option End)
      → Keeps (room_after events ++ added) request' ready' (quotes_in room.posted) end'
      → Ranks request' side' room.posted kept → Then request' ready' side' kept end'
  same_book added adds request' ready' side' end' keeps ranks = record {
    posted = room.posted;
    keeps = rw (facts_then added adds) keeps;
    ranks = ranks;
    in_order = rw one_more (until_later 0 (length events) room.posted room.in_order);
  }

  pub room_unchanged : Adds [] → Then request ready side kept end
  room_unchanged adds =
      same_book [] adds request ready side end (rw (append-nil (room_after events)) room.keeps)
      room.ranks

  pub room_opened : (opened : RoomRequest) → is_vacant (room_after events) ≡ true
      → Adds (Opened opened ∷ []) → Then (Some opened) ready opened.ask.side kept end
  room_opened opened vacant adds =
      let none : request_of (room_after events) ≡ None =
      none_by (request_of (room_after events)) (and_parts _ _ vacant).0 in
      same_book (Opened opened ∷ []) adds (Some opened) ready opened.ask.side end
      (keeps_opened (room_after events) request ready (quotes_in room.posted) end opened none
      room.keeps)
      (ranks_opened request side room.posted kept opened (room.keeps.request_is ∙ none) room.ranks)

  pub room_readied : Adds (Readied ∷ []) → Then request true side kept end
  room_readied adds =
      same_book (Readied ∷ []) adds request true side end
      (keeps_readied (room_after events) request ready (quotes_in room.posted) end room.keeps)
      room.ranks

  pub room_posted : (quote : PostedQuote) → takes_quotes (room_after events) ≡ true
      → Adds (Posted quote ∷ []) → Then request ready side
      (rank_in side (filter (λ one. not (one.quote.dealer == quote.dealer)) kept)
      (record { posting = length events; quote = quote })) end
  room_posted quote takes adds =
      let asked : is_some request ≡ true =
      ap is_some room.keeps.request_is ∙ (and_parts _ _ takes).0 in
      record {
        posted = posted_with room.posted (length events) quote;
        keeps = rw (
          facts_then (Posted quote ∷ []) adds,
          quotes_posted room.posted (length events) quote,
        )
            (keeps_posted (room_after events) request ready (quotes_in room.posted) end quote
            room.keeps);
        ranks = ranks_posted request side room.posted kept (length events) quote room.ranks asked;
        in_order =
            rw one_more
            (posted_then 0 (length events)
            (filter (λ one. not (one.quote.dealer == quote.dealer)) room.posted) quote (omega arith)
            (posted_left 0 (length events) (λ one. not (one.quote.dealer == quote.dealer))
            room.posted room.in_order));
      }

  pub room_unposted : (dealer w : ℕ) → Adds (Unposted dealer w ∷ [])
      → Then request ready side (filter (λ one. not (is_kept_of dealer w one)) kept) end
  room_unposted dealer w adds =
      let stays : RankedQuote → Bool = λ one. not (is_kept_of dealer w one) in
      record {
        posted = filter stays room.posted;
        keeps = rw (
          facts_then (Unposted dealer w ∷ []) adds,
          quotes-filter (λ quote. not (is_quote_of dealer w quote)) room.posted,
        )
            (keeps_unposted (room_after events) request ready (quotes_in room.posted) end dealer w
            room.keeps);
        ranks = ranks_left request side room.posted kept stays room.ranks;
        in_order =
            rw one_more
            (until_later 0 (length events) (filter stays room.posted)
            (posted_left 0 (length events) stays room.posted room.in_order));
      }

  -- a dealer that declines changes nothing of it, noted or not
  pub room_noted : (so : Bool) (dealer : ℕ) → Adds (fact_if so (Noted dealer))
      → Then request ready side kept end
  room_noted true dealer adds =
      same_book (Noted dealer ∷ []) adds request ready side end
      (keeps_noted (room_after events) request ready (quotes_in room.posted) end dealer room.keeps)
      room.ranks
  room_noted false dealer adds = room_unchanged adds

  pub room_ended : (how : End) (moment : ℕ) → Adds (Ended how moment ∷ [])
      → Then request ready side kept (Some how)
  room_ended how moment adds =
      same_book (Ended how moment ∷ []) adds request ready side (Some how)
      (keeps_ended (room_after events) request ready (quotes_in room.posted) end how moment
      (no_end_before (room_after events) event (Ended how moment) adds) room.keeps) room.ranks
