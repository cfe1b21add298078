-- The duties that an actor has still to do, after a step of its own and of another.
use Rattle.std.proofs.Common.{◌≡◌, ◌≤◌, ℕ, zero, suc, ◌+◌, Bool, true, false, List, [], ◌∷◌, ◌++◌}
use Rattle.std.proofs.Common.{map, filter_map, drop, length, count_by, if◌then◌else◌, cond, refl}
use Rattle.std.proofs.Common.{ap, ◌∙◌, arith, eq-eqb, ◌≢◌}
use Rattle.std.proofs.lemmas.List.{append-nil, length-append, drop-append-le}
use Rattle.std.proofs.lemmas.List.Sums.{sum_by-append}
use Rattle.std.proofs.lemmas.List.Elements.{filter_map-append}
use Rattle.market_terms.specs.declared.duties.Duty.{Duty}
use Rattle.step_replay.specs.Actions.{Effect}
use Rattle.step_replay.specs.AuditTrail.{AuditTrail, is_same_actor, duty_of, pending, with_effect}
use Rattle.venue_steps.specs.declared.actors.Actor.{Actor}
use Rattle.venue_steps.specs.declared.actors.Actor.TheVariants as actor
use Rattle.std.proofs.lemmas.Bool.Decides.{nat_tests}

-- Lists.

-- the first that is left is taken
drop_next : {X : Type 0} (n : ℕ) (xs : List X) (x : X) (rest : List X) → drop n xs ≡ x ∷ rest
    → (drop (suc n) xs ≡ rest) × (suc n ≤ length xs)
drop_next zero [] x rest is = cc
drop_next zero (y ∷ xs) x rest is =
    let least : 1 ≤ length (y ∷ xs) = omega arith in
    (ap (λ l. drop 1 l) is, least)
drop_next (suc n) [] x rest is = cc
drop_next (suc n) (y ∷ xs) x rest is =
    let later = drop_next n xs x rest is in
    let within : suc n ≤ length xs = later.1 in
    let more : suc (suc n) ≤ length (y ∷ xs) = omega arith in
    (later.0, more)

-- Actors.

pub same_actor : (by : Actor) → is_same_actor by by ≡ true
same_actor (actor.Firm number) = eq-eqb number number refl
same_actor actor.Clock = refl

-- one actor by the test
pub one_actor : (by other : Actor) → is_same_actor by other ≡ true → by ≡ other
one_actor (actor.Firm one) (actor.Firm two) same =
    let equal : one ≡ two = grind (arith, nat_tests) in
    ap (λ (n : ℕ). actor.Firm n) equal
one_actor (actor.Firm one) actor.Clock same = cc
one_actor actor.Clock (actor.Firm two) same = cc
one_actor actor.Clock actor.Clock same = refl

-- whether two actors are one is asked either way
pub same_either : (by other : Actor) → is_same_actor by other ≡ false → is_same_actor other by ≡ false
same_either (actor.Firm one) (actor.Firm two) differs =
    let apart : one ≢ two = grind (arith, nat_tests) in
    grind (arith, nat_tests, apart)
same_either (actor.Firm one) actor.Clock differs = refl
same_either actor.Clock (actor.Firm two) differs = refl
same_either actor.Clock actor.Clock differs = differs

-- what an actor caused is its own
own_caused : (by : Actor) (duties : List Duty)
    → filter_map (duty_of by) (map (λ (duty : Duty). record { by = by; duty = duty }) duties) ≡ duties
own_caused by [] = refl
own_caused by (duty ∷ duties) =
    rw (same_actor by) (ap (λ l. duty ∷ l) (own_caused by duties))

other_caused : (by other : Actor) → is_same_actor by other ≡ false → (duties : List Duty)
    → filter_map (duty_of other) (map (λ (duty : Duty). record { by = by; duty = duty }) duties) ≡ []
other_caused by other differs [] = refl
other_caused by other differs (duty ∷ duties) = rw differs (other_caused by other differs duties)

-- Turns and duties more.

-- one turn more of an actor
pub turn_counted : (by other : Actor) (done : List Actor) (b : Bool) → is_same_actor other by ≡ b
    → count_by (is_same_actor other) (done ++ by ∷ [])
    ≡ count_by (is_same_actor other) done + (if b then 1 else 0)
turn_counted by other done b is =
    sum_by-append (λ (a : Actor). cond (is_same_actor other a) 1 0) done (by ∷ [])
    ∙ ap (λ n. count_by (is_same_actor other) done + n) (one_counted b is)
  where
    one_counted : (c : Bool) → is_same_actor other by ≡ c
        → count_by (is_same_actor other) (by ∷ []) ≡ (if c then 1 else 0)
    one_counted true same = rw same refl
    one_counted false same = rw same refl

caused_grown : (by other : Actor) (trail : AuditTrail) (duties : List Duty) (left : List Duty)
    → filter_map (duty_of other) (map (λ (duty : Duty). record { by = by; duty = duty }) duties)
    ≡ left
    → filter_map (duty_of other)
    (trail.caused ++ map (λ (duty : Duty). record { by = by; duty = duty }) duties)
    ≡ filter_map (duty_of other) trail.caused ++ left
caused_grown by other trail duties left is =
    filter_map-append (duty_of other) trail.caused
    (map (λ (duty : Duty). record { by = by; duty = duty }) duties)
    ∙ ap (λ l. filter_map (duty_of other) trail.caused ++ l) is

-- an actor that did a step of its own has what was left to do behind what it had
pub own_pending : (by : Actor) (trail : AuditTrail) (effect : Effect)
    → count_by (is_same_actor by) trail.done ≤ length (filter_map (duty_of by) trail.caused)
    → pending by (with_effect by trail effect) ≡ pending by trail ++ effect.duties
own_pending by trail effect within =
    ap (drop (count_by (is_same_actor by) trail.done))
    (caused_grown by by trail effect.duties effect.duties (own_caused by effect.duties))
    ∙ drop-append-le (count_by (is_same_actor by) trail.done)
    (filter_map (duty_of by) trail.caused) effect.duties within

-- another has what it had
pub other_pending : (by other : Actor) (trail : AuditTrail) (effect : Effect)
    → is_same_actor by other ≡ false
    → pending other (with_effect by trail effect) ≡ pending other trail
other_pending by other trail effect differs =
    ap (drop (count_by (is_same_actor other) trail.done))
    (caused_grown by other trail effect.duties [] (other_caused by other differs effect.duties)
    ∙ append-nil (filter_map (duty_of other) trail.caused))

-- After a turn.

-- the trail of a turn that does the oldest duty
abbrev pub turned : Actor → AuditTrail → Effect → AuditTrail
turned by trail effect = with_effect by (record trail { done = trail.done ++ by ∷ [] }) effect

pub own_turned : (by : Actor) (trail : AuditTrail) (effect : Effect) (duty : Duty) (rest : List Duty)
    → pending by trail ≡ duty ∷ rest
    → pending by (turned by trail effect) ≡ rest ++ effect.duties
own_turned by trail effect duty rest is =
    let done = count_by (is_same_actor by) trail.done in
    let caused = filter_map (duty_of by) trail.caused in
    let taken = drop_next done caused duty rest is in
    let counted : count_by (is_same_actor by) (trail.done ++ by ∷ []) ≡ suc done =
    turn_counted by by trail.done true (same_actor by) ∙ one_more done in
    ap (λ n. drop n (filter_map (duty_of by) (turned by trail effect).caused)) counted
    ∙ ap (drop (suc done))
    (caused_grown by by trail effect.duties effect.duties (own_caused by effect.duties))
    ∙ drop-append-le (suc done) caused effect.duties taken.1
    ∙ ap (λ l. l ++ effect.duties) taken.0
  where
    one_more : (n : ℕ) → n + 1 ≡ suc n
    one_more n = omega arith

pub other_turned : (by other : Actor) (trail : AuditTrail) (effect : Effect)
    → is_same_actor by other ≡ false → is_same_actor other by ≡ false
    → pending other (turned by trail effect) ≡ pending other trail
other_turned by other trail effect differs differs_too =
    let done = count_by (is_same_actor other) trail.done in
    let counted : count_by (is_same_actor other) (trail.done ++ by ∷ []) ≡ done =
    turn_counted by other trail.done false differs_too ∙ no_more done in
    ap (λ n. drop n (filter_map (duty_of other) (turned by trail effect).caused)) counted
    ∙ ap (drop done)
    (caused_grown by other trail effect.duties [] (other_caused by other differs effect.duties)
    ∙ append-nil (filter_map (duty_of other) trail.caused))
  where
    no_more : (n : ℕ) → n + 0 ≡ n
    no_more n = omega arith

-- No actor does more than it was left.
pub own_within : (by : Actor) (trail : AuditTrail) (effect : Effect) (duty : Duty)
    (rest : List Duty) → pending by trail ≡ duty ∷ rest
    → count_by (is_same_actor by) (turned by trail effect).done
    ≤ length (filter_map (duty_of by) (turned by trail effect).caused)
own_within by trail effect duty rest is =
    let done = count_by (is_same_actor by) trail.done in
    let caused = filter_map (duty_of by) trail.caused in
    let taken : suc done ≤ length caused = (drop_next done caused duty rest is).1 in
    let counted : count_by (is_same_actor by) (trail.done ++ by ∷ []) ≡ done + 1 =
    turn_counted by by trail.done true (same_actor by) in
    let grown : length (filter_map (duty_of by) (turned by trail effect).caused)
    ≡ length caused + length effect.duties =
    ap length (caused_grown by by trail effect.duties effect.duties (own_caused by effect.duties))
    ∙ length-append caused effect.duties in
    omega arith

pub other_within : (by other : Actor) (trail : AuditTrail) (effect : Effect)
    → is_same_actor by other ≡ false → is_same_actor other by ≡ false
    → count_by (is_same_actor other) trail.done ≤ length (filter_map (duty_of other) trail.caused)
    → count_by (is_same_actor other) (turned by trail effect).done
    ≤ length (filter_map (duty_of other) (turned by trail effect).caused)
other_within by other trail effect differs differs_too within =
    let done = count_by (is_same_actor other) trail.done in
    let caused = filter_map (duty_of other) trail.caused in
    let counted : count_by (is_same_actor other) (trail.done ++ by ∷ []) ≡ done + 0 =
    turn_counted by other trail.done false differs_too in
    let grown : length (filter_map (duty_of other) (turned by trail effect).caused) ≡ length caused =
    ap length (caused_grown by other trail effect.duties []
    (other_caused by other differs effect.duties) ∙ append-nil caused) in
    omega arith

pub grown_within : (by other : Actor) (trail : AuditTrail) (effect : Effect)
    → count_by (is_same_actor other) trail.done ≤ length (filter_map (duty_of other) trail.caused)
    → count_by (is_same_actor other) (with_effect by trail effect).done
    ≤ length (filter_map (duty_of other) (with_effect by trail effect).caused)
grown_within by other trail effect within =
    let added = filter_map (duty_of other)
    (map (λ (duty : Duty). record { by = by; duty = duty }) effect.duties) in
    let caused = filter_map (duty_of other) trail.caused in
    let grown : length (filter_map (duty_of other) (with_effect by trail effect).caused)
    ≡ length caused + length added =
    ap length (caused_grown by other trail effect.duties added refl)
    ∙ length-append caused added in
    omega arith
