-- An investor's desk after bytes that it can't read, and after whatever comes behind them.
use Rattle.std.proofs.Common.{◌≡◌, ℕ, Bool, false, ◌||◌, cond, List, [], ◌∷◌, ◌++◌, count_by, filter, fold}
use Rattle.std.proofs.Common.{length, Option, None, Some, refl, sym, ap, ◌∙◌}
use Rattle.std.specs.List.{list_any}
use Rattle.std.specs.Option.{option_or}
use Rattle.std.proofs.lemmas.List.{append-nil, append_assoc}
use Rattle.std.proofs.lemmas.List.Sums.{fold-append, length-filter}
use Rattle.fix_fields.specs.Frame.{Field, frame_of}
use Rattle.quote_messages.specs.Arrivals.{framed, investor_arrival}
use Rattle.quote_messages.specs.SessionChecks.{investor_session_verdict}
use Rattle.investor_desk.specs.InvestorFacts.{InvestorFact, Asked, Came, Offered, InvestorBook}
use Rattle.investor_desk.specs.InvestorFacts.{book_of, closes, expected_number, first_said}
use Rattle.investor_desk.specs.InvestorFacts.{offers_of, requests_of, says_gone, standing_on}
use Rattle.investor_desk.specs.InvestorFacts.{used_number}
use Rattle.investor_desk.specs.InvestorOutput.{DeskState, after_event, desk_after, event_facts}
use Rattle.investor_desk.specs.InvestorOutput.{event_messages, no_facts}
use Rattle.investor_desk.specs.InvestorRules.{InvestorMarket, arrival_verdict, investor_verdict}
use Rattle.investor_desk.specs.declared.events.InvestorEvent.{InvestorEvent}
use Rattle.investor_desk.specs.declared.events.InvestorEvent.TheVariants.{Received}
use Rattle.investor_desk.specs.declared.verdicts.InvestorVerdict.TheVariants.{Dropped}
use Rattle.laws_days.specs.Unread.{IsUnread, IsSameInvestor}
use Rattle.laws_days.proofs.UnreadDealer.{IsRead}

-- Bytes that can't be read are dropped.

pub dropped : IsRead → (market : InvestorMarket) (book : InvestorBook) (moment : ℕ)
    (bytes : List ℕ) → IsUnread bytes → investor_verdict market book moment bytes ≡ Dropped
unfolding investor_verdict investor_arrival
dropped reads market book moment bytes unread =
    by_frame (frame_of bytes) refl
  where
    by_frame : (found : Option (List Field)) → frame_of bytes ≡ found
        → arrival_verdict market book moment
        (framed (investor_session_verdict market.date market.row) (expected_number book) found)
        ≡ Dropped
    by_frame None is = refl
    by_frame (Some fields) is = rw (unread fields (reads bytes fields is)) refl

-- The book without a fact that nothing follows from.
module _ (moment : ℕ) (bytes : List ℕ) where
  abbrev unread : InvestorFact
  unread = Came moment bytes false

  any_same : (says : InvestorFact → Bool) → says unread ≡ false → (xs ys : List InvestorFact)
      → list_any says (xs ++ unread ∷ ys) ≡ list_any says (xs ++ ys)
  any_same says none [] ys = rw none refl
  any_same says none (x ∷ xs) ys = ap (λ (b : Bool). says x || b) (any_same says none xs ys)

  kept_same : (says : InvestorFact → Bool) → says unread ≡ false → (xs ys : List InvestorFact)
      → filter says (xs ++ unread ∷ ys) ≡ filter says (xs ++ ys)
  kept_same says none [] ys = rw none refl
  kept_same says none (x ∷ xs) ys =
      ap (λ (l : List InvestorFact). cond (says x) (x ∷ l) l) (kept_same says none xs ys)

  count_same : (says : InvestorFact → Bool) → says unread ≡ false → (xs ys : List InvestorFact)
      → count_by says (xs ++ unread ∷ ys) ≡ count_by says (xs ++ ys)
  count_same says none xs ys =
      sym (length-filter says (xs ++ unread ∷ ys)) ∙ ap length (kept_same says none xs ys)
      ∙ length-filter says (xs ++ ys)

  first_same : {A : Type 0} (says : InvestorFact → Option A) → says unread ≡ None
      → (xs ys : List InvestorFact)
      → first_said says (xs ++ unread ∷ ys) ≡ first_said says (xs ++ ys)
  first_same says none [] ys = rw none refl
  first_same {A} says none (x ∷ xs) ys =
      ap (λ (found : Option A). option_or (says x) found) (first_same says none xs ys)

  standing_same : (number : ℕ) (xs ys : List InvestorFact)
      → standing_on number (xs ++ unread ∷ ys) ≡ standing_on number (xs ++ ys)
  standing_same number [] ys = refl
  standing_same number (Offered shown ∷ xs) ys =
      rw (any_same (says_gone number shown.number) refl xs ys, standing_same number xs ys) refl
  standing_same number (x ∷ xs) ys = standing_same number xs ys

  requests_same : (xs ys : List InvestorFact)
      → requests_of (xs ++ unread ∷ ys) ≡ requests_of (xs ++ ys)
  requests_same [] ys = refl
  requests_same (Asked request ∷ xs) ys =
      rw (
        first_same (closes request.number) refl xs ys,
        standing_same request.number xs ys,
        requests_same xs ys,
      ) refl
  requests_same (x ∷ xs) ys = requests_same xs ys

  offers_same : (xs ys : List InvestorFact) → offers_of (xs ++ unread ∷ ys) ≡ offers_of (xs ++ ys)
  offers_same [] ys = refl
  offers_same (Offered shown ∷ xs) ys = rw (offers_same xs ys) refl
  offers_same (x ∷ xs) ys = offers_same xs ys

  book_same : (xs ys : List InvestorFact) → book_of (xs ++ unread ∷ ys) ≡ book_of (xs ++ ys)
  book_same xs ys =
      rw (count_same used_number refl xs ys, requests_same xs ys, offers_same xs ys) refl

  -- One desk has the fact more than the other.
  record IsMore (one other : DeskState) : Type 0 where
    front : List InvestorFact
    back : List InvestorFact
    one_is : one.facts ≡ front ++ unread ∷ back
    other_is : other.facts ≡ front ++ back
    sent : one.sent ≡ other.sent

  book_is : (one other : DeskState) → IsMore one other → book_of one.facts ≡ book_of other.facts
  book_is one other more =
      ap book_of more.one_is ∙ book_same more.front more.back ∙ sym (ap book_of more.other_is)

  module _ (market : InvestorMarket) where
    event_more : (one other : DeskState) (now : InvestorEvent) → IsMore one other
        → IsMore (after_event market one now) (after_event market other now)
    event_more one other now more =
        let books = book_is one other more in
        let added = event_facts market (book_of other.facts) now in
        record {
          front = more.front;
          back = more.back ++ added;
          one_is =
              rw (books, more.one_is) (append_assoc more.front (unread ∷ more.back) added);
          other_is =
              ap (λ (l : List InvestorFact). l ++ added) more.other_is
              ∙ append_assoc more.front more.back added;
          sent = rw (books, more.sent) refl;
        }

    events_more : (later : List InvestorEvent) (one other : DeskState) → IsMore one other
        → IsMore (fold (after_event market) one later) (fold (after_event market) other later)
    events_more [] one other more = more
    events_more (now ∷ later) one other more =
        events_more later (after_event market one now) (after_event market other now)
        (event_more one other now more)

    -- the desk that the bytes came to has it
    came_more : (desk : DeskState)
        → investor_verdict market (book_of desk.facts) moment bytes ≡ Dropped
        → IsMore (after_event market desk (Received moment bytes)) desk
    unfolding event_facts event_messages
    came_more desk is = record {
      front = desk.facts;
      back = [];
      one_is = rw is refl;
      other_is = sym (append-nil desk.facts);
      sent = rw is (append-nil desk.sent);
    }

pub unheard : IsRead → (market : InvestorMarket) (before after : List InvestorEvent) (moment : ℕ)
    (bytes : List ℕ) → IsUnread bytes
    → IsSameInvestor (desk_after market (before ++ Received moment bytes ∷ after))
    (desk_after market (before ++ after))
unfolding desk_after
unheard reads market before after moment bytes isnt =
    let step = after_event market in
    let desk = fold step no_facts before in
    let came = after_event market desk (Received moment bytes) in
    let more : IsMore moment bytes (fold step came after) (fold step desk after) =
    events_more moment bytes market after came desk
    (came_more moment bytes market desk
    (dropped reads market (book_of desk.facts) moment bytes isnt)) in
    rw (
      fold-append step no_facts before (Received moment bytes ∷ after),
      fold-append step no_facts before after,
    ) (record {
      book = book_is moment bytes (fold step came after) (fold step desk after) more;
      sent = more.sent;
    })
