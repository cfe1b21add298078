-- What a duty leaves that is no post: nothing of a quote that is to be shown.
use Rattle.std.proofs.Common.{◌≡◌, ℕ, Bool, true, false, List}
use Rattle.market_terms.specs.declared.duties.Duty.{Duty}
use Rattle.market_terms.specs.declared.duties.Duty.TheVariants as duty
use Rattle.market_terms.specs.declared.rooms.RoomRef.{RoomRef}
use Rattle.venue_rows.specs.Rows.{Configuration}
use Rattle.venue_steps.specs.declared.actors.Actor.{Actor}
use Rattle.step_replay.specs.DutyEffects.{duty_effect}
use Rattle.step_replay.specs.Lists.{Every}
use Rattle.step_replay.specs.VenueFacts.{Fact}
use Rattle.laws_days.specs.LeftBehind.{LeftBy, duty_each}
use Rattle.laws_shown.proofs.ShownOrder.{IsSilent}

-- whether a duty is a post
abbrev pub is_post : Duty → Bool
is_post (duty.Post room quote price valid_until moment) = true
is_post other = false

-- what a duty leaves that is no post
pub silent_left : (config : Configuration) (dealer : ℕ) (room : RoomRef) (facts : List Fact)
    (by : Actor) (left : Duty) → is_post left ≡ false
    → Every (IsSilent config dealer room) (duty_effect config facts by left).duties
silent_left config dealer room facts by left isnt =
    duty_each (IsSilent config dealer room) config facts by left
    (λ more behind. each more left isnt behind)
  where
    each : (more one : Duty) → is_post one ≡ false → LeftBy more one
        → IsSilent config dealer room more
    each (duty.Relay at offer when) (duty.Post other quote price until moment) isnt_post behind = cc
    each (duty.Relay at offer when) one isnt_post behind = absurd behind
    each (duty.Post at quote price until when) one isnt_post behind = absurd behind
    each more one isnt_post behind = tt
