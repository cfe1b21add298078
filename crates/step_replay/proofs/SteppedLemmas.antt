-- A day that goes step by step.
use Rattle.step_replay.proofs.Common.{◌≡◌, List, [], ◌∷◌, ◌++◌, refl, fold-append, Configuration}
use Rattle.step_replay.proofs.Common.{after_step, audit_trail, no_steps, Step}

pub steps_begin : (config : Configuration) → audit_trail config [] ≡ no_steps
unfolding audit_trail
steps_begin config = refl

pub one_step_more : (config : Configuration) (steps : List Step) (next : Step)
    → audit_trail config (steps ++ next ∷ []) ≡ after_step config (audit_trail config steps) next
unfolding audit_trail
one_step_more config steps next = fold-append (after_step config) no_steps steps (next ∷ [])
