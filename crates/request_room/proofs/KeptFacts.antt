-- What a room keeps after one fact more.
use Rattle.std.proofs.Common.{◌≡◌, ℕ, Bool, true, false, List, [], ◌∷◌, ◌++◌, Option, Some, None}
use Rattle.std.proofs.Common.{refl, ap, sym, ◌∙◌}
use Rattle.std.proofs.lemmas.List.Sums.{fold-append}
use Rattle.request_room.specs.declared.ends.End.{End}
use Rattle.request_room.specs.declared.events.RoomEvent.{RoomEvent}
use Rattle.request_room.specs.declared.quotes.PostedQuote.{PostedQuote}
use Rattle.request_room.specs.declared.requests.RoomRequest.{RoomRequest}
use Rattle.request_room.specs.RoomFacts.{RoomFact, Opened, Readied, Posted, Unposted, Noted, Ended}
use Rattle.request_room.specs.RoomFacts.{opened_for, ended_as, request_of, end_of}
use Rattle.request_room.specs.Kept.{Keeps}
use Rattle.request_room.specs.Book.{others, after_event, room_after}
use Rattle.request_room.proofs.FactLemmas.{said_by_others, said_first, ready_as_before, ready_now}
use Rattle.request_room.proofs.FactLemmas.{left_by, book_after, book_opened, book_readied}
use Rattle.request_room.proofs.FactLemmas.{book_noted, book_ended, book_unposted}

-- a room after one event more is that after the others, and then after this one
pub room_after_push : (events : List RoomEvent) (event : RoomEvent)
    → room_after (events ++ event ∷ []) ≡ after_event (room_after events) event
unfolding room_after
room_after_push events event = fold-append after_event [] events (event ∷ [])

pub room_after_nothing : room_after [] ≡ []
unfolding room_after
room_after_nothing = refl

-- what a vacant room keeps
pub kept_vacant : Keeps (room_after []) None false [] None
kept_vacant =
    rw room_after_nothing (record {
      request_is = refl;
      ready_is = refl;
      book_is = refl;
      end_is =
          refl;
    })

-- What is kept after one fact more.

module _ (facts : List RoomFact) (request : Option RoomRequest) (ready : Bool)
    (book : List PostedQuote) (end : Option End) where
  pub keeps_opened : (opened : RoomRequest) → request_of facts ≡ None
      → Keeps facts request ready book end
      → Keeps (facts ++ Opened opened ∷ []) (Some opened) ready book end
  keeps_opened opened before kept = record {
    request_is = said_first opened_for facts (Opened opened) opened before refl;
    ready_is = kept.ready_is ∙ ready_as_before facts (Opened opened) refl;
    book_is = kept.book_is ∙ book_opened facts opened;
    end_is = kept.end_is ∙ said_by_others ended_as facts (Opened opened) refl;
  }

  pub keeps_readied : Keeps facts request ready book end
      → Keeps (facts ++ Readied ∷ []) request true book end
  keeps_readied kept = record {
    request_is = kept.request_is ∙ said_by_others opened_for facts Readied refl;
    ready_is = ready_now facts;
    book_is = kept.book_is ∙ book_readied facts;
    end_is = kept.end_is ∙ said_by_others ended_as facts Readied refl;
  }

  pub keeps_posted : (quote : PostedQuote) → Keeps facts request ready book end
      → Keeps (facts ++ Posted quote ∷ []) request ready (others quote.dealer book ++ quote ∷ [])
      end
  keeps_posted quote kept = record {
    request_is = kept.request_is ∙ said_by_others opened_for facts (Posted quote) refl;
    ready_is = kept.ready_is ∙ ready_as_before facts (Posted quote) refl;
    book_is =
        ap (λ kept_book. others quote.dealer kept_book ++ quote ∷ []) kept.book_is
        ∙ sym (book_after facts (Posted quote));
    end_is = kept.end_is ∙ said_by_others ended_as facts (Posted quote) refl;
  }

  pub keeps_unposted : (dealer w : ℕ) → Keeps facts request ready book end
      → Keeps (facts ++ Unposted dealer w ∷ []) request ready (left_by (Unposted dealer w) book) end
  keeps_unposted dealer w kept = record {
    request_is = kept.request_is ∙ said_by_others opened_for facts (Unposted dealer w) refl;
    ready_is = kept.ready_is ∙ ready_as_before facts (Unposted dealer w) refl;
    book_is = ap (left_by (Unposted dealer w)) kept.book_is ∙ book_unposted facts dealer w;
    end_is = kept.end_is ∙ said_by_others ended_as facts (Unposted dealer w) refl;
  }

  pub keeps_noted : (dealer : ℕ) → Keeps facts request ready book end
      → Keeps (facts ++ Noted dealer ∷ []) request ready book end
  keeps_noted dealer kept = record {
    request_is = kept.request_is ∙ said_by_others opened_for facts (Noted dealer) refl;
    ready_is = kept.ready_is ∙ ready_as_before facts (Noted dealer) refl;
    book_is = kept.book_is ∙ book_noted facts dealer;
    end_is = kept.end_is ∙ said_by_others ended_as facts (Noted dealer) refl;
  }

  pub keeps_ended : (how : End) (moment : ℕ) → end_of facts ≡ None → Keeps facts request ready book end
      → Keeps (facts ++ Ended how moment ∷ []) request ready book (Some how)
  keeps_ended how moment before kept = record {
    request_is = kept.request_is ∙ said_by_others opened_for facts (Ended how moment) refl;
    ready_is = kept.ready_is ∙ ready_as_before facts (Ended how moment) refl;
    book_is = kept.book_is ∙ book_ended facts how moment;
    end_is = said_first ended_as facts (Ended how moment) how before refl;
  }
