-- How quotes stand, and how their words were settled, after the facts of an event and after all.
use Rattle.std.proofs.Common.{◌≡◌, ℕ, ◌+◌, Bool, true, false, cond, List, [], ◌∷◌, ◌++◌, length}
use Rattle.std.proofs.Common.{map, fold, All, Option, Some, None, is_some, option_map, slice_get}
use Rattle.std.proofs.Common.{get_or, refl, sym, ap, subst, ◌∙◌}
use Rattle.std.specs.List.{list_any}
use Rattle.std.proofs.lemmas.Option.{none-some, slice_get-get_or}
use Rattle.std.proofs.lemmas.List.{length-map}
use Rattle.std.proofs.lemmas.List.Elements.{filter_map-append}
use Rattle.venue_rows.specs.declared.dealer_rows.DealerRow.{DealerRow}
use Rattle.market_terms.specs.declared.closes.Close.{Close}
use Rattle.quote_word.specs.declared.settled.Settled.{Settled}
use Rattle.quote_word.specs.declared.settled.Settled.TheVariants as settled
use Rattle.dealer_desk.specs.DealerFacts.{DealerFact, Quoted, Withdrawn, Told, DealerBook, book_of}
use Rattle.dealer_desk.specs.DealerFacts.{number_to_drop, quote_to_drop, is_withdrawal}
use Rattle.dealer_desk.specs.BookChanges.{IsSound, IsLiveNumber, book_after, ended_at, closed_on}
use Rattle.dealer_desk.specs.DealerRules.{dealer_verdict}
use Rattle.dealer_desk.specs.DealerDesk.{DeskEvents, facts_at, book_at}
use Rattle.dealer_desk.specs.DealerOutput.{DeskState, no_facts, after_event, desk_after}
use Rattle.dealer_desk.specs.DealerOutput.{event_facts, verdict_facts, settled_facts, answer_facts}
use Rattle.dealer_desk.specs.DealerOutput.{uses_number, closable}
use Rattle.dealer_desk.specs.SettledWords.{settled_word, settled_words}
use Rattle.dealer_desk.specs.DeskLaws.{says_lifted, says_withdrawn}
use Rattle.dealer_desk.specs.declared.accepted.AcceptedQuote.{AcceptedQuote}
use Rattle.dealer_desk.specs.declared.standing.StandingQuote.{StandingQuote}
use Rattle.dealer_desk.specs.declared.standing.QuoteEnd.TheVariants as end
use Rattle.dealer_desk.specs.declared.standing.Withdrawal.{Withdrawal}
use Rattle.dealer_desk.specs.declared.standing.Withdrawal.TheVariants as by
use Rattle.dealer_desk.specs.declared.events.DealerEvent.{DealerEvent}
use Rattle.dealer_desk.specs.declared.events.DealerEvent.TheVariants as event
use Rattle.dealer_desk.specs.declared.verdicts.DealerVerdict.{DealerVerdict}
use Rattle.dealer_desk.specs.declared.verdicts.DealerVerdict.TheVariants as verdict
use Rattle.dealer_desk.proofs.BookLemmas.{came_book, dropped_book, shown_book, quoted_book}
use Rattle.dealer_desk.proofs.BookLemmas.{withdrawn_book, late_book, declined_book, told_book}
use Rattle.dealer_desk.proofs.BookPush.{books_push}
use Rattle.dealer_desk.proofs.TableClosing.{live_stands}
use Rattle.dealer_desk.proofs.StandLemmas.{StandsIn, stands_empty}
use Rattle.dealer_desk.proofs.VerdictLemmas.{Holds, verdict_holds}
use Rattle.dealer_desk.proofs.DeskLemmas.{event_stands, holds_used}
use Rattle.dealer_desk.proofs.DutyLemmas.{dropped_live}
use Rattle.dealer_desk.proofs.StandingWords.{Answered, no_word_more, withdrawn_answered}
use Rattle.dealer_desk.proofs.StandingWords.{late_answered, closed_answered, quoted_answered}

-- The facts of an event.

-- what the words are after some facts, and how the quotes stand
abbrev AfterFacts : List (ℕ × Settled) → DealerBook → List DealerFact → Type 0
AfterFacts words book facts = Answered (words ++ settled_words facts) (fold book_after book facts).quotes

word_settled : (book : DealerBook) (number : ℕ) (how : Withdrawal) (settlement : Option Settled) (words : List (ℕ × Settled)) → IsSound book.requests book.quotes → IsLiveNumber book.quotes number
    → Answered words book.quotes → AfterFacts words book (answer_facts number how settlement)
word_settled book number how (Some settled.Withdrawn) words sound live said = subst (λ (b : DealerBook). Answered (words ++ (number, settled.Withdrawn) ∷ []) b.quotes) (sym (withdrawn_book book number how))
    (withdrawn_answered book.requests book.quotes number how words sound live said)
word_settled book number how (Some settled.Lifted) words sound live said = subst (λ (b : DealerBook). Answered (words ++ (number, settled.Lifted) ∷ []) b.quotes) (sym (late_book book number))
    (late_answered book.quotes number words live said)
word_settled book number how None words sound live said = no_word_more words book.quotes said

quote_answered : (book : DealerBook) (quote : AcceptedQuote) (words : List (ℕ × Settled)) → quote.number ≡ length book.quotes + 1 → Answered words book.quotes → Answered words (book_after book (Quoted quote)).quotes
quote_answered book quote words number said = subst (λ (b : DealerBook). Answered words b.quotes) (sym (quoted_book book quote)) (quoted_answered book.quotes quote words number said)

replaced_answered : (book : DealerBook) (quote : AcceptedQuote) (replaced : ℕ) (words : List (ℕ × Settled)) → quote.number ≡ length book.quotes + 1 → IsSound book.requests book.quotes → IsLiveNumber book.quotes replaced
    → Answered words book.quotes → Answered (words ++ (replaced, settled.Withdrawn) ∷ []) (book_after (book_after book (Withdrawn replaced by.Replacement)) (Quoted quote)).quotes
replaced_answered book quote replaced words number sound live said =
    let after : List StandingQuote = map (ended_at replaced (end.Withdrawn by.Replacement)) book.quotes in
    subst (λ (b : DealerBook). Answered (words ++ (replaced, settled.Withdrawn) ∷ []) (book_after b (Quoted quote)).quotes) (sym (withdrawn_book book replaced by.Replacement))
    (quote_answered (record book { quotes = after }) quote (words ++ (replaced, settled.Withdrawn) ∷ [])
    (number ∙ ap (λ (n : ℕ). n + 1) (sym (length-map book.quotes (ended_at replaced (end.Withdrawn by.Replacement)))))
    (withdrawn_answered book.requests book.quotes replaced by.Replacement words sound live said))

verdict_answered : (row : DealerRow) (book : DealerBook) (given : DealerVerdict) (settlement : Option Settled) (words : List (ℕ × Settled)) → StandsIn row book → Holds row book given
    → Answered words book.quotes → AfterFacts words book (verdict_facts given settlement)
verdict_answered row book (verdict.QuoteAccepted request id quote None) settlement words stands holds said = no_word_more words (book_after book (Quoted quote)).quotes (quote_answered book quote words holds.number_is said)
verdict_answered row book (verdict.QuoteAccepted request id quote (Some replaced)) (Some settled.Withdrawn) words stands holds said =
    replaced_answered book quote replaced words holds.number_is stands.sound (live_stands book.requests book.quotes quote.request replaced stands.sound holds.replaced_is) said
verdict_answered row book (verdict.QuoteAccepted request id quote (Some replaced)) (Some settled.Lifted) words stands holds said =
    word_settled book replaced by.Replacement (Some settled.Lifted) words stands.sound (live_stands book.requests book.quotes quote.request replaced stands.sound holds.replaced_is) said
verdict_answered row book (verdict.QuoteAccepted request id quote (Some replaced)) None words stands holds said = no_word_more words book.quotes said
verdict_answered row book (verdict.CancelAccepted id quote request) settlement words stands holds said = word_settled book quote by.Cancel settlement words stands.sound holds.0 said
verdict_answered row book (verdict.DeclineAccepted request number) settlement words stands holds said =
    subst (λ (b : DealerBook). Answered (words ++ []) b.quotes) (sym (declined_book book number)) (no_word_more words book.quotes said)
verdict_answered row book other settlement words stands holds said = no_word_more words book.quotes said

told_answered : (book : DealerBook) (b : Bool) (request : ℕ) (close : Close) (moment : ℕ) (words : List (ℕ × Settled)) → Answered words book.quotes → AfterFacts words book (cond b (Told request close moment ∷ []) [])
told_answered book true request close moment words said = subst (λ (b : DealerBook). Answered (words ++ []) b.quotes) (sym (told_book book request close moment))
    (no_word_more words (map (closed_on request close) book.quotes) (closed_answered book.quotes request close words said))
told_answered book false request close moment words said = no_word_more words book.quotes said

drop_answered : (book : DealerBook) (last : ℕ) (settlement : Option Settled) (found : Option StandingQuote) (words : List (ℕ × Settled)) → IsSound book.requests book.quotes → quote_to_drop book last ≡ found
    → Answered words book.quotes → AfterFacts words book (settled_facts (option_map (λ (own : StandingQuote). own.quote.number) found) by.Cancel settlement)
drop_answered book last settlement None words sound is said = no_word_more words book.quotes said
drop_answered book last settlement (Some own) words sound is said =
    word_settled book own.quote.number by.Cancel settlement words sound (dropped_live book last own sound.quotes_numbered is) said

event_answered : (date : List ℕ) (row : DealerRow) (book : DealerBook) (came : DealerEvent) (words : List (ℕ × Settled)) → StandsIn row book
    → Answered words book.quotes → AfterFacts words book (event_facts date row book came)
unfolding event_facts
event_answered date row book (event.Received moment bytes settlement) words stands said =
    let given = dealer_verdict date row book moment bytes in
    let used = uses_number given in
    subst (λ (b : DealerBook). AfterFacts words b (verdict_facts given settlement)) (sym (came_book book moment bytes used))
    (verdict_answered row (record book { used = cond used (book.used + 1) book.used }) given settlement words stands
    (holds_used row book (cond used (book.used + 1) book.used) given (verdict_holds date row book moment bytes stands)) said)
event_answered date row book (event.Shown room ask moment) words stands said =
    subst (λ (b : DealerBook). Answered (words ++ []) b.quotes) (sym (shown_book book ask moment)) (no_word_more words book.quotes said)
event_answered date row book (event.Told request close moment) words stands said = told_answered book (is_some (closable book request)) request close moment words said
event_answered date row book (event.Drop last moment settlement) words stands said =
    subst (λ (b : DealerBook). AfterFacts words b (settled_facts (number_to_drop book last) by.Cancel settlement)) (sym (dropped_book book last moment))
    (drop_answered book last settlement (quote_to_drop book last) words stands.sound refl said)

-- All events.

answered_events : (date : List ℕ) (row : DealerRow) (desk : DeskState) (events : List DealerEvent) → StandsIn row (book_of desk.facts) → Answered (settled_words desk.facts) (book_of desk.facts).quotes
    → Answered (settled_words (fold (after_event date row) desk events).facts) (book_of (fold (after_event date row) desk events).facts).quotes
answered_events date row desk [] stands said = said
answered_events date row desk (came ∷ events) stands said =
    let book = book_of desk.facts in
    let more = event_facts date row book came in
    answered_events date row (after_event date row desk came) events
    (subst (λ (b : DealerBook). StandsIn row b) (sym (books_push desk.facts more)) (event_stands date row book came stands))
    (subst (λ (b : DealerBook). Answered (settled_words (desk.facts ++ more)) b.quotes) (sym (books_push desk.facts more))
    (subst (λ (ws : List (ℕ × Settled)). Answered ws (fold book_after book more).quotes) (sym (filter_map-append settled_word desk.facts more))
    (event_answered date row book came (settled_words desk.facts) stands said)))

none_stands : (k : ℕ) (own : StandingQuote) → slice_get [] k ≡ Some own → ⊥
none_stands k own at = absurd (none-some own at)

nothing_asked : Answered [] []
nothing_asked = record {
  stand = λ k own at. absurd (none_stands k own at);
  not_withdrawn = λ number past. refl;
  not_lifted = λ number past. refl;
}

desk_answered : (desk : DeskEvents) → Answered (settled_words (facts_at desk)) (book_at desk).quotes
unfolding desk_after
desk_answered desk = answered_events desk.date desk.row no_facts desk.events (stands_empty desk.row) nothing_asked

pub all_withdrawn : (desk : DeskEvents) → All (λ (own : StandingQuote). is_withdrawal own.end ≡ list_any (says_withdrawn own.quote.number) (settled_words (facts_at desk))) (book_at desk).quotes
all_withdrawn desk = λ k d within. ((desk_answered desk).stand k (get_or (book_at desk).quotes k d) (slice_get-get_or (book_at desk).quotes k d within)).withdrawn

pub all_lifted : (desk : DeskEvents) → All (λ (own : StandingQuote). own.is_known_lifted ≡ list_any (says_lifted own.quote.number) (settled_words (facts_at desk))) (book_at desk).quotes
all_lifted desk = λ k d within. ((desk_answered desk).stand k (get_or (book_at desk).quotes k d) (slice_get-get_or (book_at desk).quotes k d within)).lifted
