-- A notice that is due: its request was shown, and it is what the desk sends.
use Rattle.std.proofs.Common.{◌≡◌, ◌≤◌, ◌<◌, ℕ, ◌+◌, ◌==◌, Bool, true, false, cond, List, [], ◌∷◌}
use Rattle.std.proofs.Common.{◌++◌, length, find, Option, Some, None, option_map, refl, sym, ap}
use Rattle.std.proofs.Common.{subst, ◌∙◌, arith}
use Rattle.std.proofs.lemmas.Bool.{eqb-true}
use Rattle.std.proofs.lemmas.Option.{same_Some}
use Rattle.venue_rows.specs.declared.dealer_rows.DealerRow.{DealerRow}
use Rattle.market_terms.specs.declared.closes.Close.{Close}
use Rattle.quote_messages.specs.declared.out_messages.OutMessage.{OutMessage}
use Rattle.dealer_desk.specs.DealerFacts.{DealerBook, Told, request_numbered}
use Rattle.dealer_desk.specs.DealerOutput.{closable, untold, next_message, notice_of}
use Rattle.dealer_desk.specs.DealerNotes.{notice_note, trade_of}
use Rattle.dealer_desk.specs.DealerTable.{IndexView, with_fact}
use Rattle.dealer_desk.specs.RuleCuts.{IsDesk}
use Rattle.dealer_desk.specs.declared.notes.DealerNote.{DealerNote}
use Rattle.dealer_desk.specs.declared.standing.StandingRequest.{StandingRequest}
use Rattle.dealer_desk.specs.declared.events.DealerEvent.{DealerEvent}
use Rattle.dealer_desk.specs.declared.events.DealerEvent.TheVariants as event
use Rattle.dealer_desk.proofs.ListLemmas.{find_stands, within_from}
use Rattle.dealer_desk.proofs.StandLemmas.{StandsIn}
use Rattle.dealer_desk.proofs.VerdictLemmas.{IsShown}
use Rattle.dealer_desk.proofs.KeptLemmas.{kept_told, index_stands}

-- a request that was not told is the one that was found

not_told : (b : Bool) (found request : StandingRequest)
    → cond b None (Some found) ≡ Some request → Some found ≡ Some request
not_told true found request is = cc
not_told false found request is = is

still_untold : (found : Option StandingRequest) (request : StandingRequest)
    → untold found ≡ Some request → found ≡ Some request
still_untold None request is = cc
still_untold (Some found) request is = not_told found.is_told found request is

-- so it was shown
due_shown : (row : DealerRow) (book : DealerBook) (number : ℕ) (request : StandingRequest)
    → StandsIn row book → closable book number ≡ Some request → IsShown book number
unfolding closable request_numbered
due_shown row book number request stands due =
    let test = λ (r : StandingRequest). r.number == number in
    let found = still_untold (find test book.requests) request due in
    let here = find_stands test book.requests request found in
    let place : request.number ≡ here.0 + 1 = stands.sound.requests_numbered here.0 request here.1 in
    let same : request.number ≡ number = eqb-true request.number number here.2 in
    let inside : here.0 < length book.requests = within_from book.requests here.0 request here.1 in
    let first : 1 ≤ number = omega arith in
    let last : number ≤ length book.requests = omega arith in
    (first, last)

-- the request of a notice
noticed : (book : DealerBook) (close : Close) (notice : OutMessage) (found : Option StandingRequest)
    → Some notice ≡ option_map (notice_of book close) found
    → (request : StandingRequest) × (found ≡ Some request) × (notice ≡ notice_of book close request)
noticed book close notice None gives = cc
noticed book close notice (Some request) gives = (request, refl, same_Some notice (notice_of book close request) gives)

pub notice_shown : (date : List ℕ) (row : DealerRow) (events : List DealerEvent) (sent : List (List ℕ)) (notes : List (Option DealerNote))
    (index : IndexView) (number : ℕ) (close : Close) (notice : OutMessage)
    → IsDesk date row events sent notes index
    → Some notice ≡ option_map (notice_of index.book close) (closable index.book number)
    → IsShown index.book number
notice_shown date row events sent notes index number close notice kept gives =
    let due = noticed index.book close notice (closable index.book number) gives in
    due_shown row index.book number due.0 (index_stands date row events sent notes index kept).stands due.1

pub kept_notice : (date : List ℕ) (row : DealerRow) (events : List DealerEvent) (sent : List (List ℕ)) (notes : List (Option DealerNote))
    (index index2 : IndexView) (number : ℕ) (close : Close) (moment : ℕ) (notice : OutMessage) (beside : Option DealerNote) (bytes : List ℕ)
    → IsDesk date row events sent notes index
    → Some notice ≡ option_map (notice_of index.book close) (closable index.book number)
    → beside ≡ notice_note close (closable index.book number)
    → bytes ≡ next_message date row sent moment notice
    → index2 ≡ with_fact index (Told number close moment)
    → IsDesk date row (events ++ event.Told number close moment ∷ []) (sent ++ bytes ∷ []) (notes ++ beside ∷ []) index2
kept_notice date row events sent notes index index2 number close moment notice beside bytes kept gives says written changed =
    let due = noticed index.book close notice (closable index.book number) gives in
    let said : bytes ≡ next_message date row sent moment (notice_of index.book close due.0) =
    written ∙ ap (λ (m : OutMessage). next_message date row sent moment m) due.2 in
    let named : beside ≡ trade_of close due.0 = says ∙ ap (notice_note close) due.1 in
    subst (λ (b : List ℕ). IsDesk date row (events ++ event.Told number close moment ∷ []) (sent ++ b ∷ []) (notes ++ beside ∷ []) index2) (sym said)
    (subst (λ (n : Option DealerNote). IsDesk date row (events ++ event.Told number close moment ∷ []) (sent ++ next_message date row sent moment (notice_of index.book close due.0) ∷ []) (notes ++ n ∷ []) index2) (sym named)
    (kept_told date row events sent notes index index2 number due.0 close moment kept due.1 changed))
