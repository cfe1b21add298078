-- A sweep of every room of the venue is one of the rooms that are due, in their order: those that are
-- not due may be left out.
use Rattle.step_replay.proofs.Common.{◌≡◌, ℕ, Bool, true, false, ◌&&◌, cond, List, [], ◌∷◌, ◌++◌}
use Rattle.step_replay.proofs.Common.{fold, Option, Some, None, if◌then◌else◌, refl, sym, ap, ◌∙◌}
use Rattle.step_replay.proofs.Common.{subst, contains, is_eq, both_ways, append-nil, append_assoc}
use Rattle.step_replay.proofs.Common.{RoomRef, is_same_room, may_expire, RoomFact, Configuration}
use Rattle.step_replay.proofs.Common.{has_room, AuditTrail, after_step, pending, deadline_of}
use Rattle.step_replay.proofs.Common.{live_trail, Sent, live_messages, messages_in, IsAt}
use Rattle.step_replay.proofs.Common.{SendsAllOf, VenueStands, has_come, is_due, room_cmp, fault_of}
use Rattle.step_replay.proofs.Common.{of_room, rooms_of, sweeps_at, LiveVenue, Step, same_room}
use Rattle.std.specs.BTreeSet.{BTreeSet}
use Rattle.std.specs.List.{filter}
use Rattle.std.proofs.lemmas.Bool.{false_from_ne_true}
use Rattle.std.proofs.lemmas.List.Kept.{IsStrictlySortedBy-filter}
use Rattle.std.proofs.lemmas.Map.Lookups.{btree_set_from_contains}
use Rattle.std.proofs.lemmas.Map.Views.{any-filter_same}
use Rattle.venue_steps.specs.declared.actors.Actor.TheVariants as actor
use Rattle.step_replay.specs.LiveStanding.{AnswersSweeps}
use Rattle.step_replay.specs.OpenRooms.{AreDue}
use Rattle.step_replay.specs.declared.steps.Step.TheVariants as step
use Rattle.step_replay.proofs.LiveLemmas.{live_more}
use Rattle.step_replay.proofs.OpenRoomLemmas.{due_is, one_room, room_total, rooms_exact}
use Rattle.step_replay.proofs.RoomOrder.{is_among, rooms_are, rooms_sorted}
use Rattle.step_replay.proofs.SweepLemmas.{after_sweep, idle_not_due, other_kept, sweep_idle}
use Rattle.step_replay.proofs.SweepLemmas.{sweep_not_due}

-- Sweeps of these rooms, one behind the other.

abbrev all_swept : Configuration → ℕ → AuditTrail → List RoomRef → AuditTrail
all_swept config moment trail rooms = fold (after_sweep config moment) trail rooms

swept_is : (config : Configuration) (steps : List Step) (moment : ℕ) (rooms : List RoomRef)
    → live_trail config (steps ++ sweeps_at moment rooms)
    ≡ all_swept config moment (live_trail config steps) rooms
unfolding after_sweep
swept_is config steps moment [] = ap (live_trail config) (append-nil steps)
swept_is config steps moment (room ∷ rooms) =
    let next : Step = step.Expire room moment in
    ap (live_trail config) (sym (append_assoc steps (next ∷ []) (sweeps_at moment rooms)))
    ∙ swept_is config (steps ++ next ∷ []) moment rooms
    ∙ ap (λ (t : AuditTrail). all_swept config moment t rooms) (live_more config steps next)

-- a sweep of a room that is not due, with the turns behind it
pub live_not_due : (config : Configuration) (steps : List Step) (live : LiveVenue) (room : RoomRef)
    (moment : ℕ) → IsAt config steps live
    → may_expire (of_room room (live_trail config steps).facts) moment ≡ false
    → live_trail config (steps ++ step.Expire room moment ∷ []) ≡ live_trail config steps
live_not_due config steps live room moment is_at none =
    swept_is config steps moment (room ∷ [])
    ∙ sweep_idle config moment (live_trail config steps) room is_at.clock_idle
    (sweep_not_due config (live_trail config steps) room moment none)

module _ (config : Configuration) (moment : ℕ) (kept : RoomRef → Bool) where
  -- Where sweeps of some rooms have come: these are left of those that are kept, and with the rooms
  -- that are left the whole day comes.
  pub record SweepsLeft (whole : AuditTrail) (left : List RoomRef) (live : LiveVenue)
      (told : List Sent) : Type 0 where
    pub trail : AuditTrail
    pub stands : VenueStands config trail live
    pub idle : pending actor.Clock trail ≡ []
    pub told_is : messages_in config trail.facts ≡ told
    pub known : (room : RoomRef) → kept room ≡ true → has_room config room.investor room.n ≡ true
    pub late : (room : RoomRef) → kept room ≡ false → is_due config moment trail.facts room ≡ false
    pub rooms : List RoomRef
    pub left_is : filter kept rooms ≡ left
    pub whole_is : all_swept config moment trail rooms ≡ whole

  -- the rooms up to the first that is kept may be left out
  abbrev Reaches : AuditTrail → AuditTrail → List RoomRef → Type 0
  Reaches whole trail [] = whole ≡ trail
  Reaches whole trail (room ∷ left) = (kept room ≡ true) × (rest : List RoomRef)
      × (filter kept rest ≡ left)
      × (whole ≡ all_swept config moment (after_sweep config moment trail room) rest)

  reached : (trail : AuditTrail) → pending actor.Clock trail ≡ []
      → ((room : RoomRef) → kept room ≡ false → is_due config moment trail.facts room ≡ false)
      → (rooms : List RoomRef)
      → Reaches (all_swept config moment trail rooms) trail (filter kept rooms)
  reached trail idle late [] = refl
  reached trail idle late (room ∷ rooms) =
      by_kept (kept room) refl (reached trail idle late rooms)
    where
      by_kept : (b : Bool) → kept room ≡ b
          → Reaches (all_swept config moment trail rooms) trail (filter kept rooms)
          → Reaches (all_swept config moment trail (room ∷ rooms)) trail
          (cond b (room ∷ filter kept rooms) (filter kept rooms))
      by_kept true is later = (is, rooms, refl, refl)
      by_kept false is later =
          subst (λ t. Reaches (all_swept config moment t rooms) trail (filter kept rooms))
          (sym (idle_not_due config moment trail room idle (late room is))) later

  module _ (whole : AuditTrail) (live : LiveVenue) (told : List Sent) where
    -- what is left reaches so far
    left_reaches : (left : List RoomRef) (had : SweepsLeft whole left live told)
        → Reaches whole had.trail left
    left_reaches left had =
        rw (← had.left_is, ← had.whole_is) (reached had.trail had.idle had.late had.rooms)

    pub room_known : (room : RoomRef) (left : List RoomRef) → SweepsLeft whole (room ∷ left) live told
        → fault_of config 0 (step.Expire room moment) ≡ None
    room_known room left had = rw (had.known room (left_reaches (room ∷ left) had).0) refl

    -- one room more is swept
    pub sweeps_next : (room : RoomRef) (left : List RoomRef) (after : LiveVenue) (more : List Sent)
        (had : SweepsLeft whole (room ∷ left) live told)
        → SendsAllOf config actor.Clock (after_step config had.trail (step.Expire room moment)) after more
        → SweepsLeft whole left after more
    unfolding after_sweep
    sweeps_next room left after more had all =
        let next = left_reaches (room ∷ left) had in
        record {
          trail = after_sweep config moment had.trail room;
          stands = all.tells.stands;
          idle = all.none_left;
          told_is = all.tells.told_is;
          known = had.known;
          late = λ other none.
              let differs = false_from_ne_true (is_same_room room other) (λ same.
              both_ways (kept other) none (ap kept (sym (same_room room other same)) ∙ next.0)) in
              ap (λ (l : List RoomFact). has_come moment
              (if has_room config other.investor other.n then deadline_of l else None))
              (other_kept config moment had.trail room other had.idle
              (had.stands.replay_stands.queues_stand.done_within actor.Clock) differs)
              ∙ had.late other none;
          rooms = next.1;
          left_is = next.2;
          whole_is = sym next.3;
        }

-- Sweeps of every room.

module _ (config : Configuration) (steps : List Step) (moment : ℕ) (live : LiveVenue)
    (due : BTreeSet RoomRef) (is_at : IsAt config steps live) (are : AreDue live.open_rooms moment due)
  where
    is_kept : (room : RoomRef)
        → contains room_cmp due room ≡ is_due config moment (live_trail config steps).facts room
    is_kept room = are.each room ∙ due_is config (live_trail config steps).facts live.open_rooms
        is_at.stands.rooms_stand room moment

    has : (room : RoomRef) → contains room_cmp due room ≡ true
        → has_room config room.investor room.n ≡ true
    has room kept = by_room (has_room config room.investor room.n) _ (sym (is_kept room) ∙ kept)
      where
        by_room : (b : Bool) (deadline : Option ℕ)
            → has_come moment (if b then deadline else None) ≡ true → b ≡ true
        by_room true deadline is = refl
        by_room false deadline is = cc

    due_keys : filter (contains room_cmp due) (rooms_of config) ≡ due.keys
    due_keys = btree_set_from_contains room_total (record { keys = filter kept (rooms_of config) }) due
        (IsStrictlySortedBy-filter room_cmp kept (rooms_of config) (rooms_sorted config)) are.ordered
        (λ room. any-filter_same (λ (k : RoomRef). is_eq (room_cmp room k)) kept (kept room)
        (λ k tied. ap kept (sym (one_room room k tied))) (rooms_of config)
        ∙ by_kept room (kept room) refl)
        rooms_exact
      where
        kept : RoomRef → Bool
        kept = contains room_cmp due

        by_kept : (room : RoomRef) (b : Bool) → kept room ≡ b → (b && is_among room (rooms_of config)) ≡ kept room
        by_kept room true is = rooms_are config room ∙ has room is ∙ sym is
        by_kept room false is = sym is

    pub sweeps_begin : SweepsLeft config moment (contains room_cmp due)
        (live_trail config (steps ++ sweeps_at moment (rooms_of config))) due.keys live
        (live_messages config steps ++ [])
    sweeps_begin = record {
      trail = live_trail config steps;
      stands = is_at.stands;
      idle = is_at.clock_idle;
      told_is = sym (append-nil (live_messages config steps));
      known = has;
      late = λ room none. sym (is_kept room) ∙ none;
      rooms = rooms_of config;
      left_is = due_keys;
      whole_is = sym (swept_is config steps moment (rooms_of config));
    }

pub sweeps_end : (config : Configuration) (steps : List Step) (moment : ℕ) (kept : RoomRef → Bool)
    (after : LiveVenue) (told : List Sent) → SweepsLeft config moment kept
    (live_trail config (steps ++ sweeps_at moment (rooms_of config))) [] after
    (live_messages config steps ++ told)
    → AnswersSweeps config steps moment after told
sweeps_end config steps moment kept after told had =
    let same = left_reaches config moment kept _ after _ [] had in
    record {
      stands = record { stands = rw same had.stands; clock_idle = rw same had.idle };
      told_is = rw same had.told_is;
      none_left = rw same had.idle;
    }
