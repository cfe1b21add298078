-- What an actor notes of an action, and what the actions are that it noted.
use Rattle.std.specs.Prelude.{◌≡◌, ℕ, Bool, List, [], ◌∷◌, ◌++◌, Option, Some, None}
use Rattle.std.specs.Prelude.{if◌then◌else◌}
use Rattle.std.specs.List.{filter_map}
use Rattle.quote_word.specs.declared.settled.Settled.{Settled}
use Rattle.recorded_days.specs.declared.actions.Action.{Action}
use Rattle.recorded_days.specs.declared.actions.Kind.{Kind}

-- an action of this kind and moment, which asked this word, if one
abbrev pub action_of : Kind → ℕ → Option (ℕ × Settled) → Action
action_of kind moment word = record { kind = kind; moment = moment; word = word }

-- one action more, of this kind and at this moment, whatever word it asked
pub record IsNoted (kind : Kind) (moment : ℕ) (before after : List Action) : Type 0 where
  pub word : Option (ℕ × Settled)
  pub one_more : after ≡ before ++ action_of kind moment word ∷ []

-- the moment of an action of such a kind
abbrev pub time_of : (Kind → Bool) → Action → Option ℕ
time_of is_such action = if is_such action.kind then Some action.moment else None

-- the moments of the actions of such a kind, in their order
abbrev pub moments_of : (Kind → Bool) → List Action → List ℕ
moments_of is_such actions = filter_map (time_of is_such) actions
