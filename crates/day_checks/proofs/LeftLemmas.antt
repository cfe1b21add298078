-- The responses that are left at an investor's desk, event by event.
use Rattle.std.proofs.Common.{◌≡◌, refl, ◌∙◌, sym, ap, List, [], ◌∷◌, ◌++◌, Bool, true, false}
use Rattle.std.proofs.Common.{Option, Some, None, append_assoc}
use Rattle.std.proofs.lemmas.List.{append-nil}
use Rattle.std.specs.List.{cons_option}
use Rattle.std.specs.Option.{option_and_then, option_to_list}
use Rattle.investor_desk.specs.InvestorDesk.{DeskEvents, no_events, with_event}
use Rattle.investor_desk.specs.declared.events.InvestorEvent.{InvestorEvent}
use Rattle.market_terms.specs.declared.duties.Duty.{Duty}
use Rattle.venue_steps.specs.InvestorSteps.{with_event_if}
use Rattle.day_checks.specs.LeftResponseWords.{response_in}
use Rattle.day_checks.specs.LeftResponses.{left_from, response_left, response_of}
use Rattle.day_checks.specs.LeftResponses.{responses_left}
use Rattle.day_checks.specs.declared.left_responses.LeftResponse.{LeftResponse}

-- a response, where there is one, behind others
onto : (one : Option LeftResponse) (later last : List LeftResponse)
    → cons_option one later ++ last ≡ cons_option one (later ++ last)
onto None later last = refl
onto (Some response) later last = refl

-- a response, where there is one, and no others
alone : (one : Option LeftResponse) → cons_option one [] ≡ option_to_list one
alone None = refl
alone (Some response) = refl

-- a desk with these events behind its own
abbrev desk_with : DeskEvents → List InvestorEvent → DeskEvents
desk_with desk events = record desk { events = desk.events ++ events }

-- one event more, behind others
left_last : (desk : DeskEvents) (events : List InvestorEvent) (last : InvestorEvent)
    → left_from desk (events ++ last ∷ [])
    ≡ left_from desk events ++ option_to_list (response_left (desk_with desk events) last)
left_last desk [] last =
    let same : desk ≡ desk_with desk [] =
    ap (λ events. let own : DeskEvents = record desk { events = events } in own)
    (sym (append-nil desk.events)) in
    alone (response_left desk last)
    ∙ ap (λ own. option_to_list (response_left own last)) same
left_last desk (event ∷ later) last =
    let moved : desk_with (with_event desk event) later ≡ desk_with desk (event ∷ later) =
    ap (λ events. let own : DeskEvents = record desk { events = events } in own)
    (append_assoc desk.events (event ∷ []) later) in
    ap (cons_option (response_left desk event)) (left_last (with_event desk event) later last
    ∙ ap (λ own. left_from (with_event desk event) later
    ++ option_to_list (response_left own last)) moved)
    ∙ sym (onto (response_left desk event) (left_from (with_event desk event) later)
    (option_to_list (response_left (desk_with desk (event ∷ later)) last)))

-- one event more at a desk
pub left_more : (desk : DeskEvents) (more : InvestorEvent)
    → responses_left (with_event desk more)
    ≡ responses_left desk ++ option_to_list (response_left desk more)
left_more desk more = left_last (no_events desk.market) desk.events more

-- an event more that leaves no response, where it comes
pub left_stays : (desk : DeskEvents) (may : Bool) (more : InvestorEvent)
    → response_left desk more ≡ None
    → responses_left (with_event_if may desk more) ≡ responses_left desk
left_stays desk true more none =
    left_more desk more ∙ ap (λ one. responses_left desk ++ option_to_list one) none
    ∙ append-nil (responses_left desk)
left_stays desk false more none = refl

-- the response among what a message left
pub first_left : (left : Option Duty)
    → response_in (option_to_list left) ≡ option_and_then response_of left
first_left None = refl
first_left (Some own) = refl
