-- A dealer's desk after bytes that it can't read, and after whatever comes behind them.
use Rattle.std.proofs.Common.{◌≡◌, ℕ, ◌+◌, Bool, false, ◌||◌, cond, List, [], ◌∷◌, ◌++◌, count_by, filter, fold}
use Rattle.std.proofs.Common.{length, Option, None, Some, refl, sym, ap, ◌∙◌}
use Rattle.std.specs.List.{list_any}
use Rattle.std.specs.Option.{option_or}
use Rattle.std.proofs.lemmas.List.{append-nil, append_assoc}
use Rattle.std.proofs.lemmas.List.Sums.{fold-append, length-filter}
use Rattle.fix_fields.specs.Frame.{Field, IsFrame, frame_of}
use Rattle.quote_messages.specs.Arrivals.{dealer_arrival, framed}
use Rattle.quote_messages.specs.SessionChecks.{dealer_session_verdict}
use Rattle.quote_word.specs.declared.settled.Settled.{Settled}
use Rattle.venue_rows.specs.declared.dealer_rows.DealerRow.{DealerRow}
use Rattle.dealer_desk.specs.DealerFacts.{DealerFact, Came, Shown, Quoted, DealerBook, book_of}
use Rattle.dealer_desk.specs.DealerFacts.{declines, ends, expected_number, finds_lifted, first_said}
use Rattle.dealer_desk.specs.DealerFacts.{is_notice, requests_from, standings, tells, used_number}
use Rattle.dealer_desk.specs.DealerOutput.{DeskState, after_event, desk_after, event_facts}
use Rattle.dealer_desk.specs.DealerOutput.{event_message, no_facts}
use Rattle.dealer_desk.specs.DealerRules.{arrival_verdict, dealer_verdict}
use Rattle.dealer_desk.specs.declared.events.DealerEvent.{DealerEvent}
use Rattle.dealer_desk.specs.declared.events.DealerEvent.TheVariants.{Received}
use Rattle.dealer_desk.specs.declared.verdicts.DealerVerdict.TheVariants.{Dropped}
use Rattle.laws_days.specs.Unread.{IsUnread, IsSameDealer}

-- what is read of bytes is their reading
abbrev pub IsRead : Type 0
IsRead = (bytes : List ℕ) (fields : List Field) → frame_of bytes ≡ Some fields → IsFrame bytes fields

-- Bytes that can't be read are dropped.

pub dropped : IsRead → (date : List ℕ) (row : DealerRow) (book : DealerBook) (moment : ℕ)
    (bytes : List ℕ) → IsUnread bytes → dealer_verdict date row book moment bytes ≡ Dropped
unfolding dealer_verdict dealer_arrival
dropped reads date row book moment bytes unread =
    by_frame (frame_of bytes) refl
  where
    by_frame : (found : Option (List Field)) → frame_of bytes ≡ found
        → arrival_verdict row book moment
        (framed (dealer_session_verdict date row) (expected_number book) found) ≡ Dropped
    by_frame None is = refl
    by_frame (Some fields) is = rw (unread fields (reads bytes fields is)) refl

-- The book without a fact that nothing follows from.
module _ (moment : ℕ) (bytes : List ℕ) where
  abbrev unread : DealerFact
  unread = Came moment bytes false

  any_same : (says : DealerFact → Bool) → says unread ≡ false → (xs ys : List DealerFact)
      → list_any says (xs ++ unread ∷ ys) ≡ list_any says (xs ++ ys)
  any_same says none [] ys = rw none refl
  any_same says none (x ∷ xs) ys = ap (λ (b : Bool). says x || b) (any_same says none xs ys)

  kept_same : (says : DealerFact → Bool) → says unread ≡ false → (xs ys : List DealerFact)
      → filter says (xs ++ unread ∷ ys) ≡ filter says (xs ++ ys)
  kept_same says none [] ys = rw none refl
  kept_same says none (x ∷ xs) ys =
      ap (λ (l : List DealerFact). cond (says x) (x ∷ l) l) (kept_same says none xs ys)

  count_same : (says : DealerFact → Bool) → says unread ≡ false → (xs ys : List DealerFact)
      → count_by says (xs ++ unread ∷ ys) ≡ count_by says (xs ++ ys)
  count_same says none xs ys =
      sym (length-filter says (xs ++ unread ∷ ys)) ∙ ap length (kept_same says none xs ys)
      ∙ length-filter says (xs ++ ys)

  first_same : {A : Type 0} (says : DealerFact → Option A) → says unread ≡ None
      → (xs ys : List DealerFact) → first_said says (xs ++ unread ∷ ys) ≡ first_said says (xs ++ ys)
  first_same says none [] ys = rw none refl
  first_same {A} says none (x ∷ xs) ys =
      ap (λ (found : Option A). option_or (says x) found) (first_same says none xs ys)

  requests_same : (number : ℕ) (xs ys : List DealerFact)
      → requests_from number (xs ++ unread ∷ ys) ≡ requests_from number (xs ++ ys)
  requests_same number [] ys = refl
  requests_same number (Shown ask at ∷ xs) ys =
      rw (
        any_same (declines number) refl xs ys,
        any_same (tells number) refl xs ys,
        requests_same (number + 1) xs ys,
      ) refl
  requests_same number (x ∷ xs) ys = requests_same number xs ys

  standings_same : (xs ys : List DealerFact)
      → standings (xs ++ unread ∷ ys) ≡ standings (xs ++ ys)
  standings_same [] ys = refl
  standings_same (Quoted quote ∷ xs) ys =
      rw (
        any_same (finds_lifted quote.number) refl xs ys,
        first_same (ends quote) refl xs ys,
        standings_same xs ys,
      ) refl
  standings_same (x ∷ xs) ys = standings_same xs ys

  book_same : (xs ys : List DealerFact) → book_of (xs ++ unread ∷ ys) ≡ book_of (xs ++ ys)
  book_same xs ys =
      rw (
        count_same used_number refl xs ys,
        count_same is_notice refl xs ys,
        requests_same 1 xs ys,
        standings_same xs ys,
      ) refl

  -- One desk has the fact more than the other.
  record IsMore (one other : DeskState) : Type 0 where
    front : List DealerFact
    back : List DealerFact
    one_is : one.facts ≡ front ++ unread ∷ back
    other_is : other.facts ≡ front ++ back
    sent : one.sent ≡ other.sent

  book_is : (one other : DeskState) → IsMore one other → book_of one.facts ≡ book_of other.facts
  book_is one other more =
      ap book_of more.one_is ∙ book_same more.front more.back ∙ sym (ap book_of more.other_is)

  module _ (date : List ℕ) (row : DealerRow) where
    event_more : (one other : DeskState) (now : DealerEvent) → IsMore one other
        → IsMore (after_event date row one now) (after_event date row other now)
    event_more one other now more =
        let books = book_is one other more in
        let added = event_facts date row (book_of other.facts) now in
        record {
          front = more.front;
          back = more.back ++ added;
          one_is =
              rw (books, more.one_is) (append_assoc more.front (unread ∷ more.back) added);
          other_is =
              ap (λ (l : List DealerFact). l ++ added) more.other_is
              ∙ append_assoc more.front more.back added;
          sent = rw (books, more.sent) refl;
        }

    events_more : (later : List DealerEvent) (one other : DeskState) → IsMore one other
        → IsMore (fold (after_event date row) one later) (fold (after_event date row) other later)
    events_more [] one other more = more
    events_more (now ∷ later) one other more =
        events_more later (after_event date row one now) (after_event date row other now)
        (event_more one other now more)

    -- the desk that the bytes came to has it
    came_more : (desk : DeskState) (settlement : Option Settled)
        → dealer_verdict date row (book_of desk.facts) moment bytes ≡ Dropped
        → IsMore (after_event date row desk (Received moment bytes settlement)) desk
    unfolding event_facts event_message
    came_more desk settlement is = record {
      front = desk.facts;
      back = [];
      one_is = rw is refl;
      other_is = sym (append-nil desk.facts);
      sent = rw is refl;
    }

pub unheard : IsRead → (date : List ℕ) (row : DealerRow) (before after : List DealerEvent)
    (moment : ℕ) (bytes : List ℕ) (settlement : Option Settled) → IsUnread bytes
    → IsSameDealer (desk_after date row (before ++ Received moment bytes settlement ∷ after))
    (desk_after date row (before ++ after))
unfolding desk_after
unheard reads date row before after moment bytes settlement isnt =
    let step = after_event date row in
    let desk = fold step no_facts before in
    let came = after_event date row desk (Received moment bytes settlement) in
    let more : IsMore moment bytes (fold step came after) (fold step desk after) =
    events_more moment bytes date row after came desk
    (came_more moment bytes date row desk settlement
    (dropped reads date row (book_of desk.facts) moment bytes isnt)) in
    rw (
      fold-append step no_facts before (Received moment bytes settlement ∷ after),
      fold-append step no_facts before after,
    ) (record {
      book = book_is moment bytes (fold step came after) (fold step desk after) more;
      sent = more.sent;
    })
