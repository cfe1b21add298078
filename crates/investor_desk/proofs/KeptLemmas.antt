-- What a desk keeps beside its events, after one event more.
use Rattle.std.proofs.Common.{◌≡◌, ℕ, ◌+◌, List, [], ◌∷◌, ◌++◌, length, map, fold, Option, refl}
use Rattle.std.proofs.Common.{Some, None, true, sym, ap, subst, ◌∙◌, arith}
use Rattle.std.specs.Option.{option_to_list}
use Rattle.std.proofs.lemmas.List.{length-append, append_assoc}
use Rattle.investor_desk.specs.InvestorFacts.{Asked, InvestorBook, book_of}
use Rattle.investor_desk.specs.InvestorRules.{InvestorMarket, investor_verdict}
use Rattle.investor_desk.specs.InvestorDesk.{DeskEvents, book_at, verdict_at}
use Rattle.investor_desk.specs.InvestorOutput.{DeskState, desk_after, event_facts, event_messages}
use Rattle.investor_desk.specs.InvestorOutput.{sent_with, written_from, moment_of, investor_output}
use Rattle.investor_desk.specs.InvestorOutput.{verdict_message, verdict_note, own_facts, event_note}
use Rattle.investor_desk.specs.InvestorOutput.{beside_each, uses_number}
use Rattle.investor_desk.specs.BookChanges.{book_after, book_with}
use Rattle.investor_desk.specs.RuleCuts.{IsDesk, IsLawful, noted, received_outcome, messages_of}
use Rattle.investor_desk.specs.RuleCuts.{next_written}
use Rattle.quote_messages.specs.declared.out_messages.OutMessage.{OutMessage}
use Rattle.investor_desk.specs.declared.notes.InvestorNote.{InvestorNote}
use Rattle.investor_desk.specs.declared.outcomes.Note.{Note}
use Rattle.investor_desk.specs.declared.outcomes.Outcome.{Outcome}
use Rattle.investor_desk.specs.declared.verdicts.InvestorVerdict.{InvestorVerdict}
use Rattle.investor_desk.specs.declared.verdicts.InvestorVerdict.TheVariants as verdict
use Rattle.investor_desk.specs.declared.events.InvestorEvent.{InvestorEvent}
use Rattle.investor_desk.specs.declared.events.InvestorEvent.TheVariants as event
use Rattle.investor_desk.proofs.BookLemmas.{came_book}
use Rattle.investor_desk.proofs.BookPush.{books_push}
use Rattle.investor_desk.proofs.DeskLemmas.{desk_after_push, desk_stands, event_counts}
use Rattle.investor_desk.proofs.DeskLemmas.{notes_push}
use Rattle.investor_desk.proofs.StandLemmas.{fits_book}
use Rattle.investor_desk.proofs.VerdictLemmas.{Holds, verdict_holds}

-- any event
pub kept_event : (market : InvestorMarket) (events : List InvestorEvent) (sent sent2 : List (List ℕ)) (notes notes2 : List (Option InvestorNote)) (book book2 : InvestorBook) (more : InvestorEvent)
    → IsDesk market events sent notes book
    → sent2 ≡ sent_with market sent (moment_of more) (event_messages market book more)
    → notes2 ≡ notes ++ beside_each (event_messages market book more) (event_note market book more)
    → book2 ≡ book_with book (event_facts market book more)
    → IsDesk market (events ++ more ∷ []) sent2 notes2 book2
kept_event market events sent sent2 notes notes2 book book2 more kept sends says books =
    let d = desk_after market events in
    let push = desk_after_push market events more in
    record {
      sent_are = sends
          ∙ ap (λ (b : InvestorBook). sent_with market sent (moment_of more) (event_messages market b more)) kept.book_is
          ∙ ap (λ (s : List (List ℕ)). sent_with market s (moment_of more) (event_messages market (book_of d.facts) more)) kept.sent_are
          ∙ ap (λ (s : DeskState). s.sent) (sym push);
      notes_are = says
          ∙ ap (λ (b : InvestorBook). notes ++ beside_each (event_messages market b more) (event_note market b more)) kept.book_is
          ∙ ap (λ (ns : List (Option InvestorNote)). ns ++ beside_each (event_messages market (book_of d.facts) more) (event_note market (book_of d.facts) more)) kept.notes_are
          ∙ sym (notes_push market events more);
      book_is = books
          ∙ ap (λ (b : InvestorBook). fold book_after b (event_facts market b more)) kept.book_is
          ∙ sym (books_push d.facts (event_facts market (book_of d.facts) more))
          ∙ ap (λ (s : DeskState). book_of s.facts) (sym push);
      used_least =
          let one = event_counts market book more in
          let was = kept.used_least in
          let many = length-append events (more ∷ []) in
          let is : book2.used ≡ (fold book_after book (event_facts market book more)).used = ap (λ (b : InvestorBook). b.used) books in
          omega arith;
    }

-- what a call owes to what keeps its event

pub owed_facts : (market : InvestorMarket) (events : List InvestorEvent) (sents : List (List ℕ)) (notes : List (Option InvestorNote)) (book : InvestorBook) (now : DeskEvents) (note : Note) (more : InvestorEvent)
    → IsDesk market events sents notes book → record { market = market; events = events } ≡ now
    → noted book note ≡ book_with book (event_facts market book more)
    → noted (book_at now) note ≡ book_with (book_at now) (event_facts now.market (book_at now) more)
owed_facts market events sents notes book now note more kept is facts =
    subst (λ (n : DeskEvents). noted (book_at n) note ≡ book_with (book_at n) (event_facts n.market (book_at n) more)) is
    (subst (λ (b : InvestorBook). noted b note ≡ book_with b (event_facts market b more)) kept.book_is facts)

pub owed_sent : (market : InvestorMarket) (events : List InvestorEvent) (sents : List (List ℕ)) (notes : List (Option InvestorNote)) (book : InvestorBook) (now : DeskEvents) (messages : List OutMessage) (out : List (List ℕ)) (more : InvestorEvent)
    → IsDesk market events sents notes book → record { market = market; events = events } ≡ now
    → messages ≡ event_messages market book more → out ≡ next_written now (moment_of more) messages
    → out ≡ next_written now (moment_of more) (event_messages now.market (book_at now) more)
owed_sent market events sents notes book now messages out more kept is said written =
    written ∙ ap (next_written now (moment_of more)) (said
    ∙ ap (λ (b : InvestorBook). event_messages market b more) kept.book_is
    ∙ ap (λ (n : DeskEvents). event_messages n.market (book_at n) more) is)

pub owed_note : (market : InvestorMarket) (events : List InvestorEvent) (sents : List (List ℕ)) (notes : List (Option InvestorNote)) (book : InvestorBook) (now : DeskEvents) (beside : Option InvestorNote) (more : InvestorEvent)
    → IsDesk market events sents notes book → record { market = market; events = events } ≡ now
    → beside ≡ event_note market book more
    → beside ≡ event_note now.market (book_at now) more
owed_note market events sents notes book now beside more kept is noted =
    noted ∙ ap (λ (b : InvestorBook). event_note market b more) kept.book_is
    ∙ ap (λ (n : DeskEvents). event_note n.market (book_at n) more) is

-- one note beside each message

note_each : (market : InvestorMarket) (number moment : ℕ) (beside : Option InvestorNote) (messages : List OutMessage)
    → map (λ (sent : List ℕ). beside) (written_from market number moment messages) ≡ map (λ (message : OutMessage). beside) messages
note_each market number moment beside [] = refl
note_each market number moment beside (message ∷ messages) = ap (λ (ns : List (Option InvestorNote)). beside ∷ ns) (note_each market (number + 1) moment beside messages)

beside_both : (beside : Option InvestorNote) (first second : Option (List ℕ))
    → map (λ (sent : List ℕ). beside) (option_to_list first) ++ map (λ (sent : List ℕ). beside) (option_to_list second) ≡ map (λ (sent : List ℕ). beside) (option_to_list first ++ option_to_list second)
beside_both beside None second = refl
beside_both beside (Some sent) second = refl

-- and what is kept then
pub kept_noted : (market : InvestorMarket) (events : List InvestorEvent) (sents : List (List ℕ)) (notes : List (Option InvestorNote)) (book book2 : InvestorBook) (now : DeskEvents) (note : Note) (first second : Option (List ℕ)) (beside : Option InvestorNote) (more : InvestorEvent)
    → IsDesk market events sents notes book → record { market = market; events = events } ≡ now
    → book2 ≡ noted book note
    → noted (book_at now) note ≡ book_with (book_at now) (event_facts now.market (book_at now) more)
    → option_to_list first ++ option_to_list second ≡ written_from now.market (length (investor_output now.market now.events) + 1) (moment_of more) (event_messages now.market (book_at now) more)
    → beside ≡ event_note now.market (book_at now) more
    → IsDesk market (events ++ more ∷ []) ((sents ++ option_to_list first) ++ option_to_list second)
    ((notes ++ map (λ (sent : List ℕ). beside) (option_to_list first)) ++ map (λ (sent : List ℕ). beside) (option_to_list second)) book2
kept_noted market events sents notes book book2 now note first second beside more kept is changed facts written said =
    let bk : InvestorBook = book_of (desk_after market events).facts in
    let number : ℕ = length (investor_output market events) + 1 in
    let facts2 : noted bk note ≡ book_with bk (event_facts market bk more) = subst (λ (n : DeskEvents). noted (book_at n) note ≡ book_with (book_at n) (event_facts n.market (book_at n) more)) (sym is) facts in
    let written2 : option_to_list first ++ option_to_list second ≡ written_from market number (moment_of more) (event_messages market bk more) =
    subst (λ (n : DeskEvents). option_to_list first ++ option_to_list second ≡ written_from n.market (length (investor_output n.market n.events) + 1) (moment_of more) (event_messages n.market (book_at n) more)) (sym is) written in
    let said2 : beside ≡ event_note market bk more = subst (λ (n : DeskEvents). beside ≡ event_note n.market (book_at n) more) (sym is) said in
    kept_event market events sents ((sents ++ option_to_list first) ++ option_to_list second)
    notes ((notes ++ map (λ (sent : List ℕ). beside) (option_to_list first)) ++ map (λ (sent : List ℕ). beside) (option_to_list second)) book book2 more kept
    (append_assoc sents (option_to_list first) (option_to_list second)
    ∙ ap (λ (xs : List (List ℕ)). sents ++ xs) written2
    ∙ ap (λ (ss : List (List ℕ)). sents ++ written_from market (length ss + 1) (moment_of more) (event_messages market bk more)) (sym kept.sent_are)
    ∙ ap (λ (b : InvestorBook). sents ++ written_from market (length sents + 1) (moment_of more) (event_messages market b more)) (sym kept.book_is))
    (append_assoc notes (map (λ (sent : List ℕ). beside) (option_to_list first)) (map (λ (sent : List ℕ). beside) (option_to_list second))
    ∙ ap (λ (xs : List (Option InvestorNote)). notes ++ xs) (beside_both beside first second
    ∙ ap (map (λ (sent : List ℕ). beside)) written2
    ∙ note_each market number (moment_of more) beside (event_messages market bk more))
    ∙ ap (λ (b : Option InvestorNote). notes ++ beside_each (event_messages market bk more) b) said2
    ∙ ap (λ (b : InvestorBook). notes ++ beside_each (event_messages market b more) (event_note market b more)) (sym kept.book_is))
    (changed ∙ subst (λ (b : InvestorBook). noted b note ≡ book_with b (event_facts market b more)) (sym kept.book_is) facts2)

pub kept_empty : (market : InvestorMarket) → IsDesk market [] [] [] (book_of [])
unfolding desk_after
kept_empty market = record { sent_are = refl; notes_are = refl; book_is = refl; used_least = omega arith }

-- A message of the investor's own.

-- the verdict that a contract sees is that of the index
pub verdict_seen : (market : InvestorMarket) (events : List InvestorEvent) (sents : List (List ℕ)) (notes : List (Option InvestorNote)) (book : InvestorBook) (now : DeskEvents) (moment : ℕ) (bytes : List ℕ) → IsDesk market events sents notes book → record { market = market; events = events } ≡ now
    → investor_verdict market book moment bytes ≡ verdict_at now moment bytes
verdict_seen market events sents notes book now moment bytes kept is =
    ap (λ (b : InvestorBook). investor_verdict market b moment bytes) kept.book_is ∙ ap (λ (n : DeskEvents). verdict_at n moment bytes) is

lawful_verdict : (market : InvestorMarket) (book : InvestorBook) (given : InvestorVerdict) → Holds market book given → IsLawful book (received_outcome given).note
lawful_verdict market book (verdict.RequestAccepted id request) holds = fits_book market book request holds.0
lawful_verdict market book other holds = tt

pub own_lawful : (now : DeskEvents) (moment : ℕ) (bytes : List ℕ) (outcome : Outcome) → outcome ≡ received_outcome (verdict_at now moment bytes) → IsLawful (book_at now) outcome.note
own_lawful now moment bytes outcome is =
    let stands = desk_stands now.market now.events in
    subst (λ (o : Outcome). IsLawful (book_at now) o.note) (sym is)
    (lawful_verdict now.market (book_at now) (verdict_at now moment bytes) (verdict_holds now.market (book_at now) moment bytes stands))

own_noted : (book : InvestorBook) (moment : ℕ) (bytes : List ℕ) (given : InvestorVerdict) → noted book (received_outcome given).note ≡ book_with book (own_facts moment bytes given)
own_noted book moment bytes (verdict.RequestAccepted id request) = ap (λ (b : InvestorBook). book_after b (Asked request)) (sym (came_book book moment bytes true))
own_noted book moment bytes other = sym (came_book book moment bytes (uses_number other))

pub own_facts_owed : (now : DeskEvents) (moment : ℕ) (bytes message : List ℕ) (outcome : Outcome) → message ≡ bytes → outcome ≡ received_outcome (verdict_at now moment bytes)
    → noted (book_at now) outcome.note ≡ book_with (book_at now) (event_facts now.market (book_at now) (event.Received moment message))
unfolding event_facts
own_facts_owed now moment bytes message outcome same is =
    ap (λ (o : Outcome). noted (book_at now) o.note) is
    ∙ own_noted (book_at now) moment bytes (verdict_at now moment bytes)
    ∙ ap (λ (m : List ℕ). book_with (book_at now) (own_facts moment m (verdict_at now moment m))) (sym same)

pub own_sent_owed : (market : InvestorMarket) (events : List InvestorEvent) (sents : List (List ℕ)) (notes : List (Option InvestorNote)) (book : InvestorBook) (now : DeskEvents) (moment : ℕ) (bytes message : List ℕ) (given : InvestorVerdict) (outcome : Outcome) (out : List (List ℕ))
    → IsDesk market events sents notes book → record { market = market; events = events } ≡ now
    → message ≡ bytes → given ≡ investor_verdict market book moment bytes → outcome ≡ received_outcome given → out ≡ next_written now moment (messages_of outcome)
    → out ≡ next_written now moment (event_messages now.market (book_at now) (event.Received moment message))
unfolding event_messages
own_sent_owed market events sents notes book now moment bytes message given outcome out kept is same judged leads written =
    owed_sent market events sents notes book now (messages_of outcome) out (event.Received moment message) kept is
    (ap messages_of leads ∙ ap (λ (g : InvestorVerdict). option_to_list (verdict_message g)) judged
    ∙ ap (λ (m : List ℕ). option_to_list (verdict_message (investor_verdict market book moment m))) (sym same))
    written

pub own_note_owed : (market : InvestorMarket) (events : List InvestorEvent) (sents : List (List ℕ)) (notes : List (Option InvestorNote)) (book : InvestorBook) (now : DeskEvents) (moment : ℕ) (bytes message : List ℕ) (given : InvestorVerdict) (beside : Option InvestorNote)
    → IsDesk market events sents notes book → record { market = market; events = events } ≡ now
    → message ≡ bytes → given ≡ investor_verdict market book moment bytes → beside ≡ verdict_note given
    → beside ≡ event_note now.market (book_at now) (event.Received moment message)
unfolding event_note
own_note_owed market events sents notes book now moment bytes message given beside kept is same judged noted =
    owed_note market events sents notes book now beside (event.Received moment message) kept is
    (noted ∙ ap verdict_note judged ∙ ap (λ (m : List ℕ). verdict_note (investor_verdict market book moment m)) (sym same))
