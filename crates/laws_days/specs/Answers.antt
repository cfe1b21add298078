-- The words that a dealer asks, by its messages and its drops, and how each is answered, as its
-- trail has it.
use Rattle.std.specs.Prelude.{ℕ, List, [], ◌∷◌, Option, None}
use Rattle.std.specs.Option.{option_or}
use Rattle.quote_word.specs.declared.settled.Settled.{Settled}
use Rattle.venue_rows.specs.declared.dealer_rows.DealerRow.{DealerRow}
use Rattle.dealer_desk.specs.DealerFacts.{DealerFact, Came, Dropped, DealerBook, number_to_drop}
use Rattle.dealer_desk.specs.DealerRules.{dealer_verdict}
use Rattle.dealer_desk.specs.DealerOutput.{word_asked}
use Rattle.dealer_desk.specs.SettledWords.{settled_word}
use Rattle.step_replay.specs.DealerTrail.{DealerEntry, AtDesk, book_by}
use Rattle.step_replay.specs.DealerView.{answer_to, view_after}
use Rattle.step_replay.specs.DueList.{due_list}

-- the quote whose word is asked, by the book as it stood: by the verdict on a message that came, or
-- by a drop that takes the quote
abbrev pub asked_by_fact : List ℕ → DealerRow → DealerBook → DealerFact → Option ℕ
asked_by_fact date row book (Came moment bytes used) =
    word_asked (dealer_verdict date row book moment bytes)
asked_by_fact date row book (Dropped last moment) = number_to_drop book last
asked_by_fact date row book fact = None

-- the same of an entry, by the trail as it stood
abbrev pub asked_at : List ℕ → DealerRow → List DealerEntry → DealerEntry → Option ℕ
asked_at date row before (AtDesk fact) = asked_by_fact date row (book_by before) fact
asked_at date row before entry = None

-- the quote whose word an entry says was answered, and the answer
abbrev pub settlement_in : DealerEntry → Option (ℕ × Settled)
settlement_in (AtDesk fact) = settled_word fact
settlement_in entry = None

-- the first answer that stands in some entries
abbrev pub next_settlement : List DealerEntry → Option (ℕ × Settled)
next_settlement [] = None
next_settlement (entry ∷ later) = option_or (settlement_in entry) (next_settlement later)

-- what the dealer view of a trail so far answers of a quote's word: lifted exactly where a lifting
-- of the quote that counts stands in its due list, else withdrawn
abbrev pub settlement_by_view : List ℕ → DealerRow → List DealerEntry → ℕ → Settled
settlement_by_view date row before quote = answer_to (view_after date row (due_list before)) quote
