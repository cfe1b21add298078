-- How the code keeps a view: a desk and a row of words. Only private functions say this.
use Rattle.std.specs.Prelude.{◌≡◌, ◌≤◌, ℕ, ◌-◌, Bool, true, false, ◌&&◌, ◌||◌, nat_le}
use Rattle.std.specs.Prelude.{List, length, Option, Some, None}
use Rattle.std.specs.Prelude.{if◌then◌else◌}
use Rattle.std.specs.List.{list_any}
use Rattle.quote_word.specs.PlainWords.{entry_in, settlement_of, after_exchange}
use Rattle.quote_word.specs.declared.settled.Settled.{Settled}
use Rattle.quote_word.specs.declared.settled.Settled.TheVariants.{Withdrawn, Lifted}
use Rattle.dealer_desk.specs.DealerDesk.{DeskEvents, book_at, with_event}
use Rattle.dealer_desk.specs.SettledWords.{asked_by}
use Rattle.dealer_desk.specs.DeskLaws.{says_withdrawn}
use Rattle.dealer_desk.specs.declared.events.DealerEvent.{DealerEvent}
use Rattle.step_replay.specs.declared.dues.Due.{Due}
use Rattle.step_replay.specs.DealerView.{ViewState, after_due, is_lifted, is_withdrawn_at}

-- A row of words: what each of them is, or none while it is open. Words are numbered from 0,
-- quotes from 1.
abbrev pub Row : Type 0
Row = List (Option Settled)

-- what the word of a quote is from then on, where its dealer withdraws it: lifted where it was
-- lifted before
abbrev pub settlement_in : Row → ℕ → Settled
settlement_in words quote = settlement_of (entry_in words (quote - 1)) Withdrawn

-- the words after a wish for a quote's word
abbrev pub with_wish : Row → ℕ → Settled → Row
with_wish words quote wish = after_exchange (entry_in words (quote - 1)) words (quote - 1) wish

-- the words after a withdrawal of the one that is asked, if one is asked
abbrev pub with_asked : Row → Option ℕ → Row
with_asked words None = words
with_asked words (Some quote) = with_wish words quote Withdrawn

-- the words after a lifting of a quote, where the quote has a word
abbrev pub with_lifting : Row → ℕ → Row
with_lifting words quote =
    if nat_le 1 quote && nat_le quote (length words) then with_wish words quote Lifted else words

-- a quote that has a word in a row of so many
abbrev pub IsOfRow : ℕ → ℕ → Type 0
IsOfRow count quote = (1 ≤ quote) × (quote ≤ count)

-- what a word is, by whether its quote is lifted and whether it is withdrawn
abbrev pub word_if : Bool → Bool → Option Settled
word_if true withdrawn = Some Lifted
word_if false true = Some Withdrawn
word_if false false = None

-- what the word of a quote is by a view
abbrev pub word_of : ViewState → ℕ → Option Settled
word_of view quote = word_if (is_lifted view quote) (is_withdrawn_at view.desk quote)

-- the words of a row are those of a view
abbrev pub AreWordsOf : ViewState → Row → Type 0
AreWordsOf view words =
    (quote : ℕ) → IsOfRow view.desk.row.quotes quote
    → entry_in words (quote - 1) ≡ word_of view quote

-- a desk and a row of words stand for a view
pub record StandsFor (view : ViewState) (desk : DeskEvents) (words : Row) : Type 0 where
  pub desk_is : desk ≡ view.desk
  pub words_are : AreWordsOf view words

-- a desk and its words, before an item of what is due and after it
pub record DeskAndWords : Type 0 where
  pub desk : DeskEvents
  pub words : Row

-- an item happens: whatever view a desk and its words stood for, they now stand for the view after
-- it
abbrev pub Happens : Due → DeskAndWords → DeskAndWords → Type 0
Happens due before after = (view : ViewState)
    → StandsFor view before.desk before.words
    → StandsFor (after_due view due) after.desk after.words

-- whether an event withdraws a quote: it asks its word, which is settled so
abbrev pub withdraws_by : DeskEvents → DealerEvent → ℕ → Bool
withdraws_by desk more quote =
    list_any (says_withdrawn quote) (asked_by desk.date desk.row (book_at desk) more)

-- a quote is withdrawn at a desk after one event more where it was withdrawn before, or where this
-- event withdraws it
abbrev pub GrowsByEvents : Type 0
GrowsByEvents = (desk : DeskEvents) (more : DealerEvent) (quote : ℕ)
    → is_withdrawn_at (with_event desk more) quote
    ≡ (is_withdrawn_at desk quote || withdraws_by desk more quote)
