-- The due list of a dealer, run by run.
use Rattle.step_replay.proofs.Common.{◌≡◌, ◌<◌, ◌≤◌, ℕ, ◌+◌, ◌-◌, List, [], ◌∷◌, ◌++◌, map, length}
use Rattle.step_replay.proofs.Common.{take, drop, get_or, refl, sym, ap, ◌∙◌, arith, common_steps}
use Rattle.step_replay.proofs.Common.{append_assoc, map-append, length-drop, take_more, DealerEvent}
use Rattle.step_replay.proofs.Common.{due_by_event, Due}

-- A run of events.

-- the dues of a run of events, behind some dues
abbrev pub run_behind : List Due → List DealerEvent → ℕ → ℕ → List Due
run_behind dues events from to = dues ++ map due_by_event (take (to - from) (drop from events))

run_grown : (dues : List Due) (events : List DealerEvent) (from index : ℕ) (event : DealerEvent)
    → from ≤ index → index < length events → get_or events index event ≡ event
    → run_behind dues events from index ++ due_by_event event ∷ []
    ≡ run_behind dues events from (index + 1)
run_grown dues events from index event since inside is =
    let next : index + 1 - from ≡ index - from + 1 = omega arith in
    let within : index - from < length (drop from events) =
    omega (arith, length-drop from events) in
    let here : get_or (drop from events) (index - from) event ≡ event =
    grind (arith, common_steps) in
    let more = take_more (drop from events) (index - from) event within in
    rw (next, more, here, map-append, append_assoc) refl

-- what was due by one event more is put behind them
pub run_pushed : (dues before now : List Due) (events : List DealerEvent) (from index : ℕ)
    (event : DealerEvent) (item : Due)
    → now ≡ before ++ item ∷ [] → before ≡ run_behind dues events from index
    → item ≡ due_by_event event → from ≤ index → index < length events
    → event ≡ get_or events index event
    → now ≡ run_behind dues events from (index + 1)
run_pushed dues before now events from index event item now_is before_is item_is since inside is =
    now_is
    ∙ ap (λ (l : List Due). l ++ item ∷ []) before_is
    ∙ ap (λ (d : Due). run_behind dues events from index ++ d ∷ []) item_is
    ∙ run_grown dues events from index event since inside (sym is)
