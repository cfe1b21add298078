-- Who is told where a step has just ended a room.
use Rattle.std.proofs.Common.{◌≡◌, ℕ, Bool, true, false, not, cond, List, [], ◌∷◌, ◌++◌, Option}
use Rattle.std.proofs.Common.{Some, None, is_some, refl, sym, ap, ◌∙◌}
use Rattle.std.specs.Prelude.{Result, Ok, Err}
use Rattle.std.specs.Option.{option_or}
use Rattle.std.proofs.lemmas.Bool.{and_parts, not-true}
use Rattle.std.proofs.lemmas.List.Sums.{fold-append}
use Rattle.std.proofs.lemmas.Option.{cond_some}
use Rattle.market_terms.specs.declared.closes.HitRefusal.{HitRefusal}
use Rattle.market_terms.specs.declared.closes.Reply.{Reply}
use Rattle.market_terms.specs.declared.duties.Duty.{Duty}
use Rattle.market_terms.specs.declared.duties.Duty.TheVariants as duty
use Rattle.market_terms.specs.declared.rooms.ResponseRef.{ResponseRef}
use Rattle.market_terms.specs.declared.rooms.RoomRef.{RoomRef}
use Rattle.quote_word.specs.declared.settled.Settled.{Settled}
use Rattle.request_room.specs.RoomFacts.{RoomFact, Ended, first_said, ended_as, opened_for, end_of}
use Rattle.request_room.specs.RoomFacts.{request_of, is_ended, is_open, is_ready}
use Rattle.request_room.specs.Book.{after_event, event_facts, room_after, passed, expired}
use Rattle.request_room.specs.Book.{may_expire, is_past_deadline, hit_outcome, hit_refusal}
use Rattle.request_room.specs.Book.{award_of, reply_of}
use Rattle.request_room.specs.declared.ends.End.{End}
use Rattle.request_room.specs.declared.events.RoomEvent.{RoomEvent}
use Rattle.request_room.specs.declared.events.RoomEvent.TheVariants as event
use Rattle.venue_steps.specs.RoomSteps.{told_in, told_of_end, told_by, told_of_hit, told_to_each}
use Rattle.venue_steps.specs.RoomSteps.{dealers_of, is_award, reply_to_pass, duties_of_pass}
use Rattle.venue_steps.specs.RoomSteps.{duties_of_expire, hit_duties, duties_of_hit}
use Rattle.request_room.proofs.FactLemmas.{or_none}
use Rattle.request_room.proofs.KeptLemmas.{refused_none, open_if_not_refused}

-- what some facts say first, after one more
or_assoc : {A : Type 0} (x y z : Option A) → option_or x (option_or y z) ≡ option_or (option_or x y) z
or_assoc (Some x) y z = refl
or_assoc None y z = refl

said_after : {A : Type 0} (says : RoomFact → Option A) (facts : List RoomFact) (fact : RoomFact)
    → first_said says (facts ++ fact ∷ []) ≡ option_or (first_said says facts) (option_or (says fact) None)
said_after says [] fact = refl
said_after says (first ∷ later) fact =
    ap (option_or (says first)) (said_after says later fact)
    ∙ or_assoc (says first) (first_said says later) (option_or (says fact) None)

-- a room that has not ended, and now ends so
or_unended : (was : Option End) (end : End) → is_some was ≡ false → option_or was (Some end) ≡ Some end
or_unended None end stays = refl
or_unended (Some other) end stays = absurd (cc)

ends_so : (facts : List RoomFact) (end : End) (moment : ℕ) → is_ended facts ≡ false
    → end_of (facts ++ Ended end moment ∷ []) ≡ Some end
ends_so facts end moment stays =
    said_after ended_as facts (Ended end moment) ∙ or_unended (end_of facts) end stays

asks_same : (facts : List RoomFact) (end : End) (moment : ℕ)
    → request_of (facts ++ Ended end moment ∷ []) ≡ request_of facts
asks_same facts end moment =
    said_after opened_for facts (Ended end moment) ∙ or_none (request_of facts)

told_then : (facts : List RoomFact) (end : End) (ended : ℕ) (at : RoomRef) (moment : ℕ)
    → is_ended facts ≡ false
    → told_of_end (facts ++ Ended end ended ∷ []) at moment ≡ told_in facts at end moment
told_then facts end ended at moment stays =
    ap (λ (was : Option End). told_by (facts ++ Ended end ended ∷ []) at was moment) (ends_so facts end ended stays)
    ∙ ap (λ asked. told_to_each at end (dealers_of asked) moment) (asks_same facts end ended)

-- the facts after one event more
pub after_more : (events : List RoomEvent) (more : RoomEvent)
    → room_after (events ++ more ∷ []) ≡ room_after events ++ event_facts (room_after events) more
unfolding room_after
after_more events more = fold-append after_event [] events (more ∷ [])

told_after : (events : List RoomEvent) (more : RoomEvent) (end : End) (ended : ℕ) (at : RoomRef) (moment : ℕ)
    → event_facts (room_after events) more ≡ Ended end ended ∷ []
    → is_ended (room_after events) ≡ false
    → told_of_end (room_after (events ++ more ∷ [])) at moment ≡ told_in (room_after events) at end moment
told_after events more end ended at moment adds stays =
    ap (λ (facts : List RoomFact). told_of_end facts at moment)
    (after_more events more ∙ ap (λ added. room_after events ++ added) adds)
    ∙ told_then (room_after events) end ended at moment stays

-- an open room has not ended
not_ended : (facts : List RoomFact) → is_open facts ≡ true → is_ended facts ≡ false
not_ended facts stays = not-true (is_ended facts) (and_parts (is_ready facts) (not (is_ended facts)) stays).1

-- Sweeps.

expire_adds : (facts : List RoomFact) (moment : ℕ) → may_expire facts moment ≡ true
    → event_facts facts (event.Expire moment) ≡ Ended expired moment ∷ []
unfolding event_facts
expire_adds facts moment due = rw due refl

pub expired_duties : (events new : List RoomEvent) (at : RoomRef) (moment : ℕ) (items : List Duty)
    → may_expire (room_after events) moment ≡ true
    → new ≡ events ++ event.Expire moment ∷ []
    → items ≡ duty.Close at moment ∷ told_of_end (room_after new) at moment
    → items ≡ duties_of_expire (room_after events) at moment
expired_duties events new at moment items due more are =
    let facts = room_after events in
    let stays = (and_parts (is_open facts) (is_past_deadline (request_of facts) moment) due).0 in
    let told : told_of_end (room_after new) at moment ≡ told_in facts at expired moment =
    ap (λ (es : List RoomEvent). told_of_end (room_after es) at moment) more
    ∙ told_after events (event.Expire moment) expired moment at moment (expire_adds facts moment due) (not_ended facts stays) in
    are ∙ ap (λ (ds : List Duty). duty.Close at moment ∷ ds) told
    ∙ sym (ap (λ (b : Bool). cond b (duty.Close at moment ∷ told_in facts at expired moment) []) due)

-- Passes.

pass_adds : (facts : List RoomFact) (moment : ℕ) → is_open facts ≡ true
    → event_facts facts (event.Pass moment) ≡ Ended passed moment ∷ []
unfolding event_facts
pass_adds facts moment stays = rw stays refl

pass_told : (events new : List RoomEvent) (at : RoomRef) (moment : ℕ) (stays : Bool)
    → is_open (room_after events) ≡ stays
    → new ≡ events ++ event.Pass moment ∷ []
    → cond stays (told_of_end (room_after new) at moment) [] ≡ cond stays (told_in (room_after events) at passed moment) []
pass_told events new at moment false is more = refl
pass_told events new at moment true is more =
    ap (λ (es : List RoomEvent). told_of_end (room_after es) at moment) more
    ∙ told_after events (event.Pass moment) passed moment at moment (pass_adds (room_after events) moment is) (not_ended (room_after events) is)

pub passed_duties : (events new : List RoomEvent) (at : RoomRef) (response : ResponseRef) (moment : ℕ) (stays : Bool) (items : List Duty)
    → stays ≡ is_open (room_after events)
    → new ≡ events ++ event.Pass moment ∷ []
    → items ≡ duty.Answer at response (reply_to_pass stays) moment ∷ cond stays (told_of_end (room_after new) at moment) []
    → items ≡ duties_of_pass (room_after events) at response moment
passed_duties events new at response moment stays items is more are =
    let facts = room_after events in
    are ∙ ap (λ (ds : List Duty). duty.Answer at response (reply_to_pass stays) moment ∷ ds) (pass_told events new at moment stays (sym is) more)
    ∙ ap (λ (b : Bool). duty.Answer at response (reply_to_pass b) moment ∷ cond b (told_in facts at passed moment) []) is

-- Hits.

hit_adds : (facts : List RoomFact) (word moment : ℕ) (settlement : Option Settled) (end : End)
    → hit_outcome facts word moment settlement ≡ Ok end
    → event_facts facts (event.Hit word moment settlement) ≡ Ended end moment ∷ []
unfolding event_facts
hit_adds facts word moment settlement end is = rw is refl

hit_told : (events new : List RoomEvent) (at : RoomRef) (word moment : ℕ) (settlement : Option Settled) (outcome : Result End HitRefusal)
    → hit_outcome (room_after events) word moment settlement ≡ outcome
    → new ≡ events ++ event.Hit word moment settlement ∷ []
    → cond (is_award (reply_of outcome)) (told_of_end (room_after new) at moment) [] ≡ told_of_hit (room_after events) at moment outcome
hit_told events new at word moment settlement (Err refused) is more = refl
hit_told events new at word moment settlement (Ok award) is more =
    let facts = room_after events in
    let none = refused_none (hit_refusal facts word moment) settlement (award_of facts word) award is in
    ap (λ (es : List RoomEvent). told_of_end (room_after es) at moment) more
    ∙ told_after events (event.Hit word moment settlement) award moment at moment (hit_adds facts word moment settlement award is)
    (not_ended facts (open_if_not_refused facts word moment none))

pub hit_duties_are : (events new : List RoomEvent) (at : RoomRef) (response : ResponseRef) (word moment : ℕ) (has : Bool) (given settlement : Option Settled) (said : Reply) (items : List Duty)
    → cond has (Some given) None ≡ Some settlement
    → said ≡ reply_of (hit_outcome (room_after events) word moment settlement)
    → new ≡ events ++ event.Hit word moment settlement ∷ []
    → items ≡ duty.Answer at response said moment ∷ cond (is_award said) (told_of_end (room_after new) at moment) []
    → items ≡ duties_of_hit (room_after events) at response word moment has given
hit_duties_are events new at response word moment has given settlement said items asked says more are =
    let facts = room_after events in
    let outcome = hit_outcome facts word moment settlement in
    let was = cond_some has given settlement asked in
    are
    ∙ ap (λ (s : Reply). duty.Answer at response s moment ∷ cond (is_award s) (told_of_end (room_after new) at moment) []) says
    ∙ ap (λ (ds : List Duty). duty.Answer at response (reply_of outcome) moment ∷ ds) (hit_told events new at word moment settlement outcome refl more)
    ∙ ap (λ (a : Option Settled). hit_duties facts at response moment (hit_outcome facts word moment a)) (sym was.1)
    ∙ sym (ap (λ (b : Bool). cond b (hit_duties facts at response moment (hit_outcome facts word moment given)) []) was.0)
