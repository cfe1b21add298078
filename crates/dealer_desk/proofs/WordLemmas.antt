-- The words that were asked, event by event.
use Rattle.std.proofs.Common.{◌≡◌, ℕ, Bool, true, false, ◌||◌, ◌==◌, cond, List, [], ◌∷◌, ◌++◌}
use Rattle.std.proofs.Common.{Option, Some, None, is_some, refl, ap, ◌∙◌}
use Rattle.std.specs.List.{list_any}
use Rattle.std.proofs.lemmas.List.Elements.{filter_map-append}
use Rattle.venue_rows.specs.declared.dealer_rows.DealerRow.{DealerRow}
use Rattle.market_terms.specs.declared.closes.Close.{Close}
use Rattle.quote_word.specs.declared.settled.Settled.{Settled}
use Rattle.quote_word.specs.declared.settled.Settled.TheVariants as settled
use Rattle.dealer_desk.specs.DealerFacts.{DealerFact, Came, Withdrawn, Late, Told, Dropped}
use Rattle.dealer_desk.specs.DealerFacts.{DealerBook, book_of, number_to_drop, finds_lifted}
use Rattle.dealer_desk.specs.DeskLaws.{withdraws, says_lifted, says_withdrawn}
use Rattle.dealer_desk.specs.DealerRules.{dealer_verdict}
use Rattle.dealer_desk.specs.DealerOutput.{desk_after, event_facts, verdict_facts, settled_facts}
use Rattle.dealer_desk.specs.DealerOutput.{uses_number, closable, word_asked}
use Rattle.dealer_desk.specs.SettledWords.{settled_word, settled_words, asked_word, asked_by}
use Rattle.dealer_desk.specs.declared.standing.Withdrawal.{Withdrawal}
use Rattle.dealer_desk.specs.declared.standing.Withdrawal.TheVariants as by
use Rattle.dealer_desk.specs.declared.events.DealerEvent.{DealerEvent}
use Rattle.dealer_desk.specs.declared.events.DealerEvent.TheVariants as event
use Rattle.dealer_desk.specs.declared.verdicts.DealerVerdict.{DealerVerdict}
use Rattle.dealer_desk.specs.declared.verdicts.DealerVerdict.TheVariants as verdict
use Rattle.dealer_desk.proofs.DeskLemmas.{facts_push}

verdict_words : (given : DealerVerdict) (settlement : Option Settled) → settled_words (verdict_facts given settlement) ≡ asked_word (word_asked given) settlement
verdict_words (verdict.QuoteAccepted request id quote None) settlement = refl
verdict_words (verdict.QuoteAccepted request id quote (Some replaced)) (Some settled.Withdrawn) = refl
verdict_words (verdict.QuoteAccepted request id quote (Some replaced)) (Some settled.Lifted) = refl
verdict_words (verdict.QuoteAccepted request id quote (Some replaced)) None = refl
verdict_words (verdict.CancelAccepted id quote request) (Some settled.Withdrawn) = refl
verdict_words (verdict.CancelAccepted id quote request) (Some settled.Lifted) = refl
verdict_words (verdict.CancelAccepted id quote request) None = refl
verdict_words (verdict.DeclineAccepted request number) settlement = refl
verdict_words other settlement = refl

told_words : (b : Bool) (request : ℕ) (close : Close) (moment : ℕ) → settled_words (cond b (Told request close moment ∷ []) []) ≡ []
told_words true request close moment = refl
told_words false request close moment = refl

settled_facts_words : (asked : Option ℕ) (how : Withdrawal) (settlement : Option Settled) → settled_words (settled_facts asked how settlement) ≡ asked_word asked settlement
settled_facts_words None how settlement = refl
settled_facts_words (Some quote) how (Some settled.Withdrawn) = refl
settled_facts_words (Some quote) how (Some settled.Lifted) = refl
settled_facts_words (Some quote) how None = refl

-- the facts of an event say the word that it asks
pub event_words : (date : List ℕ) (row : DealerRow) (book : DealerBook) (more : DealerEvent) → settled_words (event_facts date row book more) ≡ asked_by date row book more
unfolding event_facts
event_words date row book (event.Received moment bytes settlement) = verdict_words (dealer_verdict date row book moment bytes) settlement
event_words date row book (event.Shown room ask moment) = refl
event_words date row book (event.Told request close moment) = told_words (is_some (closable book request)) request close moment
event_words date row book (event.Drop last moment settlement) = settled_facts_words (number_to_drop book last) by.Cancel settlement

-- the words that were asked, after one event more
pub words_push : (date : List ℕ) (row : DealerRow) (events : List DealerEvent) (more : DealerEvent)
    → settled_words (desk_after date row (events ++ more ∷ [])).facts ≡ settled_words (desk_after date row events).facts ++ asked_by date row (book_of (desk_after date row events).facts) more
words_push date row events more =
    ap settled_words (facts_push date row events more)
    ∙ filter_map-append settled_word (desk_after date row events).facts (event_facts date row (book_of (desk_after date row events).facts) more)
    ∙ ap (λ (words : List (ℕ × Settled)). settled_words (desk_after date row events).facts ++ words) (event_words date row (book_of (desk_after date row events).facts) more)

-- A settlement where no word is asked.

unasked_verdict : (given : DealerVerdict) (settlement : Option Settled) → word_asked given ≡ None → verdict_facts given settlement ≡ verdict_facts given None
unasked_verdict (verdict.QuoteAccepted request id quote None) settlement none = refl
unasked_verdict (verdict.QuoteAccepted request id quote (Some replaced)) settlement none = cc
unasked_verdict (verdict.CancelAccepted id quote request) settlement none = cc
unasked_verdict (verdict.DeclineAccepted request number) settlement none = refl
unasked_verdict other settlement none = refl

pub unasked_own : (date : List ℕ) (row : DealerRow) (book : DealerBook) (moment : ℕ) (bytes : List ℕ) (settlement : Option Settled) → word_asked (dealer_verdict date row book moment bytes) ≡ None
    → event_facts date row book (event.Received moment bytes settlement) ≡ event_facts date row book (event.Received moment bytes None)
unfolding event_facts
unasked_own date row book moment bytes settlement none =
    ap (λ (facts : List DealerFact). Came moment bytes (uses_number (dealer_verdict date row book moment bytes)) ∷ facts) (unasked_verdict (dealer_verdict date row book moment bytes) settlement none)

unasked_settled : (asked : Option ℕ) (how : Withdrawal) (settlement : Option Settled) → asked ≡ None → settled_facts asked how settlement ≡ settled_facts asked how None
unasked_settled None how settlement none = refl
unasked_settled (Some quote) how settlement none = cc

pub unasked_drop : (date : List ℕ) (row : DealerRow) (book : DealerBook) (last moment : ℕ) (settlement : Option Settled) → number_to_drop book last ≡ None
    → event_facts date row book (event.Drop last moment settlement) ≡ event_facts date row book (event.Drop last moment None)
unfolding event_facts
unasked_drop date row book last moment settlement none =
    ap (λ (facts : List DealerFact). Dropped last moment ∷ facts) (unasked_settled (number_to_drop book last) by.Cancel settlement none)

-- The facts and the words that were asked say the same of a quote.

pub lifted_words : (facts : List DealerFact) (number : ℕ) → list_any (finds_lifted number) facts ≡ list_any (says_lifted number) (settled_words facts)
lifted_words [] number = refl
lifted_words (Late quote ∷ facts) number = ap (λ (b : Bool). (quote == number) || b) (lifted_words facts number)
lifted_words (Withdrawn quote how ∷ facts) number = lifted_words facts number
lifted_words (fact ∷ facts) number = lifted_words facts number

pub withdrawn_words : (facts : List DealerFact) (number : ℕ) → list_any (withdraws number) facts ≡ list_any (says_withdrawn number) (settled_words facts)
withdrawn_words [] number = refl
withdrawn_words (Withdrawn quote how ∷ facts) number = ap (λ (b : Bool). (quote == number) || b) (withdrawn_words facts number)
withdrawn_words (Late quote ∷ facts) number = withdrawn_words facts number
withdrawn_words (fact ∷ facts) number = withdrawn_words facts number
