-- The duties that a dealer's steps lead to: its posts, unposts, declines and drops, and what its
-- investors are told of them. What such a duty leaves is such a duty too.
use Rattle.std.proofs.Common.{◌≡◌, ℕ, Bool, true, false, List, refl}
use Rattle.std.proofs.lemmas.Bool.{false≢true}
use Rattle.market_terms.specs.declared.duties.Duty.{Duty}
use Rattle.market_terms.specs.declared.duties.Duty.TheVariants as duty
use Rattle.market_terms.specs.declared.rooms.RoomRef.{RoomRef}
use Rattle.venue_rows.specs.Rows.{Configuration}
use Rattle.dealer_desk.specs.DealerOutput.{post_of}
use Rattle.dealer_desk.specs.declared.verdicts.DealerVerdict.{DealerVerdict}
use Rattle.dealer_desk.specs.declared.verdicts.DealerVerdict.TheVariants as verdict
use Rattle.venue_steps.specs.declared.actors.Actor.{Actor}
use Rattle.venue_steps.specs.declared.actors.Actor.TheVariants as actor
use Rattle.step_replay.specs.DealerTrail.{rooms_by}
use Rattle.step_replay.specs.VenueFacts.{Fact, of_dealer}
use Rattle.laws_days.specs.KeptItems.{every_all}
use Rattle.laws_days.specs.MayLeave.{InRooms, MayLeave, MaySay}

-- whether a duty is one of these
abbrev pub is_quoting : Duty → Bool
is_quoting (duty.Post room quote price valid_until moment) = true
is_quoting (duty.Relay room offer moment) = true
is_quoting (duty.Unpost room quote moment) = true
is_quoting (duty.Gone room word moment) = true
is_quoting (duty.Decline room moment) = true
is_quoting (duty.Declined room moment) = true
is_quoting (duty.Drop last moment) = true
is_quoting other = false

-- the same as a fact
abbrev pub IsQuoting : Duty → Type 0
IsQuoting more = is_quoting more ≡ true

-- Whatever is so of each of these duties.
module _ (P : Duty → Type 0) (each : (more : Duty) → IsQuoting more → P more)
    (config : Configuration) (facts : List Fact) where
  in_rooms : (dealer : ℕ) (does : RoomRef → Duty) → ((room : RoomRef) → IsQuoting (does room))
      → InRooms P config facts dealer does
  in_rooms dealer does quoting =
      every_all (λ (room : RoomRef). P (does room)) (λ room. each (does room) (quoting room))
      (rooms_by (of_dealer dealer facts))

  -- it is so of what one of them leaves
  pub quoting_may : (by : Actor) (d : Duty) → IsQuoting d → MayLeave P config facts by d
  quoting_may by (duty.Post room quote price valid_until moment) is =
      λ offer. each (duty.Relay room offer moment) refl
  quoting_may by (duty.Relay room offer moment) is = tt
  quoting_may by (duty.Unpost room quote moment) is = λ word. each (duty.Gone room word moment) refl
  quoting_may by (duty.Gone room word moment) is = tt
  quoting_may by (duty.Decline room moment) is = each (duty.Declined room moment) refl
  quoting_may by (duty.Declined room moment) is = tt
  quoting_may (actor.Firm dealer) (duty.Drop last moment) is = (
    λ quote. in_rooms dealer (λ room. duty.Unpost room quote moment) (λ room. refl),
    each (duty.Drop last moment) refl,
  )
  quoting_may actor.Clock (duty.Drop last moment) is = tt
  quoting_may by other is = absurd (false≢true is)

  -- and of what a message of a dealer leaves
  pub said_may : (dealer moment : ℕ) (v : DealerVerdict) → MaySay P config facts dealer moment v
  said_may dealer moment (verdict.QuoteAccepted request id quote replaced) =
      in_rooms dealer (post_of quote) (λ room. refl)
  said_may dealer moment (verdict.CancelAccepted id quote request) =
      in_rooms dealer (λ room. duty.Unpost room quote moment) (λ room. refl)
  said_may dealer moment (verdict.DropsFollow last) = each (duty.Drop last moment) refl
  said_may dealer moment (verdict.DeclineAccepted request number) =
      in_rooms dealer (λ room. duty.Decline room moment) (λ room. refl)
  said_may dealer moment other = tt
