-- What the events in a room leave for its investor, one after the other.
use Rattle.std.proofs.Common.{◌≡◌, refl, ◌∙◌, sym, ap, true, false, List, [], ◌∷◌, ◌++◌, Option}
use Rattle.std.proofs.Common.{Some, None, Result, Ok, Err, is_ok, is_some, ℕ, arith, length}
use Rattle.std.proofs.Common.{if◌then◌else◌, append_assoc, append-nil}
use Rattle.std.proofs.lemmas.Bool.{false≢true}
use Rattle.std.specs.Option.{option_map}
use Rattle.market_terms.specs.declared.closes.HitRefusal.{HitRefusal}
use Rattle.quote_word.specs.declared.settled.Settled.{Settled}
use Rattle.request_room.specs.Book.{after_event}
use Rattle.request_room.specs.RoomFacts.{RoomFact}
use Rattle.request_room.specs.declared.events.RoomEvent.{RoomEvent}
use Rattle.day_checks.specs.NextItems.{with_next}
use Rattle.day_checks.specs.RoomOutputs.{is_settled_as_asked, may_be_tried, output_of}
use Rattle.day_checks.specs.RoomOutputs.{outputs_from, with_output}
use Rattle.day_checks.specs.declared.room_outputs.RoomOutput.{RoomOutput}

-- what is left behind these, where anything may be
abbrev pub behind : List RoomOutput → Option (List RoomOutput) → Option (List RoomOutput)
behind done later = option_map (λ more. done ++ more) later

-- behind nothing
pub behind_nothing : (later : Option (List RoomOutput)) → behind [] later ≡ later
behind_nothing None = refl
behind_nothing (Some more) = refl

one_behind : (one : Option RoomOutput) (done : List RoomOutput) (later : Option (List RoomOutput))
    → behind (with_next done one) later ≡ behind done (option_map (with_output one) later)
one_behind None done None = refl
one_behind (Some what) done None = refl
one_behind None done (Some more) = refl
one_behind (Some what) done (Some more) = ap Some (append_assoc done (what ∷ []) more)

-- an event that may be tried
pub tried_more : (facts : List RoomFact) (event : RoomEvent) (later : List RoomEvent)
    (done : List RoomOutput) → may_be_tried facts event ≡ true
    → behind (with_next done (output_of facts event))
    (outputs_from (after_event facts event) later)
    ≡ behind done (outputs_from facts (event ∷ later))
tried_more facts event later done may =
    let rest = outputs_from (after_event facts event) later in
    one_behind (output_of facts event) done rest
    ∙ sym (ap (λ b. behind done (if b then option_map (with_output (output_of facts event)) rest
    else None)) may)

some_left : (event : RoomEvent) (later : List RoomEvent) → length (event ∷ later) ≡ 0 → ⊥
some_left event later none = omega (arith, none)

-- one that may not
pub tried_never : (facts : List RoomFact) (event : RoomEvent) (later : List RoomEvent)
    (done : List RoomOutput) → may_be_tried facts event ≡ false
    → behind done (outputs_from facts (event ∷ later)) ≡ None
tried_never facts event later done may =
    let rest = outputs_from (after_event facts event) later in
    ap (λ b. behind done (if b then option_map (with_output (output_of facts event)) rest
    else None)) may

-- none is left to be tried
pub all_tried : (facts : List RoomFact) (rest : List RoomEvent) (done : List RoomOutput)
    → length rest ≡ 0 → Some done ≡ behind done (outputs_from facts rest)
all_tried facts [] done none = ap Some (sym (append-nil done))
all_tried facts (event ∷ later) done none = absurd (some_left event later none)

-- a hit that may be tried has the settlement that it asks for
pub settled_is_asked : (question : Result ℕ HitRefusal) (settlement : Option Settled)
    → is_settled_as_asked question settlement ≡ true → is_some settlement ≡ is_ok question
settled_is_asked (Ok word) (Some settled) is = refl
settled_is_asked (Ok word) None is = absurd (false≢true is)
settled_is_asked (Err why) (Some settled) is = absurd (false≢true is)
settled_is_asked (Err why) None is = refl
