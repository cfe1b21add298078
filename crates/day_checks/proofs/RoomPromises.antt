-- The checks of a day's rooms decide what it promises: each finds no room exactly where the promise is
-- kept of all.
use Rattle.std.proofs.Common.{◌≡◌, refl, ◌∙◌, ap, ℕ, Bool, true, false, List, [], ◌∷◌, find, not}
use Rattle.std.proofs.Common.{Some, None, if◌then◌else◌}
use Rattle.std.proofs.lemmas.Slice.Eq.{bytes_eq-Decides}
use Rattle.std.specs.Option.{option_map}
use Rattle.step_replay.specs.Lists.{Every}
use Rattle.venue_rows.specs.Rows.{Configuration}
use Rattle.recorded_days.specs.Records.{InvestorLists}
use Rattle.recorded_days.specs.declared.actions.Sweep.{Sweep}
use Rattle.day_checks.specs.AnsweredResponses.{first_unanswered, is_answered}
use Rattle.day_checks.specs.Arrivals.{arrivals_from}
use Rattle.day_checks.specs.DayChecks.{DayRoom, first_unswept, is_swept, times_for, times_swept}
use Rattle.day_checks.specs.DayPromises.{WasAnswered, WasRelayed, WasSwept}
use Rattle.day_checks.specs.RelayedQuotes.{first_unrelayed, is_relayed}
use Rattle.day_checks.proofs.PromiseLemmas.{text_same}

-- The first of some rooms that fails a test.
module _ (sweeps : List Sweep) where
  swept_first : (room : DayRoom) (later : List DayRoom) (swept : Bool)
      → option_map (λ (one : DayRoom). one.at)
      (if not swept then Some room else find (λ one. not (is_swept sweeps one)) later) ≡ None
      → (swept ≡ true) × (first_unswept sweeps later ≡ None)
  swept_first room later true e = (refl, e)
  swept_first room later false e = cc

  -- where the search finds no room, each was swept as the clock was told
  pub each_swept : (rooms : List DayRoom) → first_unswept sweeps rooms ≡ None
      → Every (WasSwept sweeps) rooms
  each_swept [] e = tt
  each_swept (room ∷ later) e =
      let both = swept_first room later (is_swept sweeps room) e in (
        text_same (times_swept room.day.events) (times_for room.at sweeps) both.0,
        each_swept later both.1,
      )

  pub none_unswept : (rooms : List DayRoom) → Every (WasSwept sweeps) rooms
      → first_unswept sweeps rooms ≡ None
  none_unswept [] e = refl
  none_unswept (room ∷ later) e =
      let swept : is_swept sweeps room ≡ true =
      (bytes_eq-Decides (times_swept room.day.events) (times_for room.at sweeps)).1 e.0 in
      ap (λ b. option_map (λ (one : DayRoom). one.at)
      (if not b then Some room else find (λ one. not (is_swept sweeps one)) later)) swept
      ∙ none_unswept later e.1

module _ (config : Configuration) (first : ℕ) (investors : List InvestorLists) where
  relayed_first : (room : DayRoom) (later : List DayRoom) (relayed : Bool)
      → (if relayed then first_unrelayed config first investors later else Some room.at) ≡ None
      → (relayed ≡ true) × (first_unrelayed config first investors later ≡ None)
  relayed_first room later true e = (refl, e)
  relayed_first room later false e = cc

  -- where the search finds no room, the quotes of each came to its investor
  pub each_relayed : (rooms : List DayRoom) → first_unrelayed config first investors rooms ≡ None
      → Every (WasRelayed config first investors) rooms
  each_relayed [] e = tt
  each_relayed (room ∷ later) e =
      let both = relayed_first room later
      (is_relayed config (arrivals_from room.at first investors) room) e in
      (both.0, each_relayed later both.1)

  pub none_unrelayed : (rooms : List DayRoom) → Every (WasRelayed config first investors) rooms
      → first_unrelayed config first investors rooms ≡ None
  none_unrelayed [] e = refl
  none_unrelayed (room ∷ later) e =
      ap (λ relayed. if relayed then first_unrelayed config first investors later
      else Some room.at) e.0
      ∙ none_unrelayed later e.1

module _ (first : ℕ) (investors : List InvestorLists) where
  answered_first : (room : DayRoom) (later : List DayRoom) (answered : Bool)
      → (if answered then first_unanswered first investors later else Some room.at) ≡ None
      → (answered ≡ true) × (first_unanswered first investors later ≡ None)
  answered_first room later true e = (refl, e)
  answered_first room later false e = cc

  -- where the search finds no room, the replies of each came to its investor
  pub each_answered : (rooms : List DayRoom) → first_unanswered first investors rooms ≡ None
      → Every (WasAnswered first investors) rooms
  each_answered [] e = tt
  each_answered (room ∷ later) e =
      let both = answered_first room later
      (is_answered (arrivals_from room.at first investors) room) e in
      (both.0, each_answered later both.1)

  pub none_unanswered : (rooms : List DayRoom) → Every (WasAnswered first investors) rooms
      → first_unanswered first investors rooms ≡ None
  none_unanswered [] e = refl
  none_unanswered (room ∷ later) e =
      ap (λ answered. if answered then first_unanswered first investors later else Some room.at) e.0
      ∙ none_unanswered later e.1
