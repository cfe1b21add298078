-- A lift of a quote in a replay: the words, the dealer's place and its trail.
use Rattle.step_replay.proofs.Common.{◌≡◌, ◌<◌, ℕ, zero, suc, ◌==◌, Bool, true, false, ◌&&◌, ◌||◌}
use Rattle.step_replay.proofs.Common.{if◌then◌else◌, List, [], ◌∷◌, ◌++◌, length, slice_set, Option}
use Rattle.step_replay.proofs.Common.{Some, refl, sym, ap, ◌∙◌, subst, eq-eqb, ap₂, arith}
use Rattle.step_replay.proofs.Common.{slice_get, list_any, append-nil, filter_map-append}
use Rattle.step_replay.proofs.Common.{list_any-append, or-false, same_Some, settlement_of}
use Rattle.step_replay.proofs.Common.{Exchanges, Settled, Configuration, DealerRow, DeskEvents}
use Rattle.step_replay.proofs.Common.{desk_after, withdraws, DealerEntry, Lifted, facts_of}
use Rattle.step_replay.proofs.Common.{rooms_by, sent_by, was_lifted, was_withdrawn, Fact, of_dealer}
use Rattle.step_replay.proofs.Common.{Noted, word_if, DealerStands, WordsStand, word_is}
use Rattle.step_replay.proofs.Common.{DealerPlace, desk_with}
use Rattle.std.proofs.Math.Bool.{or-true}
use Rattle.quote_word.specs.declared.settled.Settled.TheVariants as settled
use Rattle.dealer_desk.specs.DealerOutput.{rooms_of}
use Rattle.step_replay.specs.DealerTrail.{fact_in, room_in, message_in, lifts}
use Rattle.step_replay.proofs.AskedWords.{IsWord, exchanged_stand}
use Rattle.step_replay.proofs.FloorLemmas.{with_dealers}
use Rattle.step_replay.proofs.LiftingLemmas.{dues_after_lifting, within_after_lifting}

-- Lists.

pub set_same : {X : Type 0} (xs : List X) (i : ℕ) (x : X) → slice_get xs i ≡ Some x
    → slice_set xs i x ≡ xs
set_same [] i x is = refl
set_same (y ∷ xs) zero x is = ap (λ z. z ∷ xs) (sym (same_Some y x is))
set_same (y ∷ xs) (suc i) x is = ap (λ l. y ∷ l) (set_same xs i x is)

-- The place of a dealer whose quote was lifted.

pub lifted_place : (config : Configuration) (number : ℕ) (row : DealerRow) (trail : List DealerEntry)
    (quote : ℕ) (place now : DealerPlace) → DealerStands config number row trail place
    → Noted quote place now → DealerStands config number row (trail ++ Lifted quote ∷ []) now
lifted_place config number row trail quote place now before noted = record {
  date_is = ap (λ (d : DeskEvents). d.date) noted.desk_is ∙ before.date_is;
  row_is = ap (λ (d : DeskEvents). d.row) noted.desk_is ∙ before.row_is;
  state_is = ap (λ (d : DeskEvents). desk_after config.date row d.events) noted.desk_is
      ∙ before.state_is
      ∙ ap₂ desk_with
      (sym (filter_map-append fact_in trail (Lifted quote ∷ []) ∙ append-nil (facts_of trail)))
      (sym (filter_map-append message_in trail (Lifted quote ∷ []) ∙ append-nil (sent_by trail)));
  rooms_are = ap (λ (d : DeskEvents). rooms_of d.events) noted.desk_is ∙ before.rooms_are
      ∙ sym (filter_map-append room_in trail (Lifted quote ∷ []) ∙ append-nil (rooms_by trail));
  first_is = noted.first_is ∙ before.first_is;
  dues_are = dues_after_lifting config.date row trail place before.dues_are before.are_within quote
      now noted;
  are_within = within_after_lifting config.date row trail place before.dues_are before.are_within
      quote now noted;
}

-- The words after a lift.

-- what a word answers to an investor, where it is not both
pub lift_answer : (lifted withdrawn : Bool) → (lifted && withdrawn) ≡ false
    → settlement_of (word_if lifted withdrawn) settled.Lifted
    ≡ (if withdrawn then settled.Withdrawn else settled.Lifted)
lift_answer lifted withdrawn one = grind arith

if_withdrawn : (lifted withdrawn : Bool) → withdrawn ≡ true → (lifted && withdrawn) ≡ false
    → Some settled.Withdrawn ≡ word_if lifted withdrawn
if_withdrawn lifted withdrawn is one = grind arith

-- what a word of the dealer is then
word_lifted : (trail : List DealerEntry) (quote other : ℕ)
    → word_is (trail ++ Lifted quote ∷ []) other
    ≡ word_if (was_lifted trail other || ((quote == other) || false)) (was_withdrawn trail other)
word_lifted trail quote other =
    ap (λ b. word_if b (was_withdrawn (trail ++ Lifted quote ∷ []) other))
    (list_any-append (lifts other) trail (Lifted quote ∷ []))
    ∙ ap (λ f. word_if (was_lifted trail other || ((quote == other) || false))
    (list_any (withdraws other) f))
    (filter_map-append fact_in trail (Lifted quote ∷ []) ∙ append-nil (facts_of trail))

module _ {config : Configuration} {word number quote : ℕ} {row : DealerRow} (facts : List Fact)
    (words : List (Option Settled)) (of : IsWord config word number row quote)
    (stand : WordsStand config facts words) (there : word < length words) where
  -- the dealer's trail
  abbrev trail : List DealerEntry
  trail = of_dealer number facts

  -- a lift that finds the word open, or lifted before
  pub lift_stands : {after : List (Option Settled)}
      → Exchanges words word settled.Lifted settled.Lifted after
      → WordsStand config (with_dealers facts number (Lifted quote ∷ [])) after
  lift_stands exchange =
      exchanged_stand facts of stand exchange there (Lifted quote ∷ [])
      (sym (word_lifted trail quote quote
      ∙ ap (λ b. word_if b (was_withdrawn trail quote))
      (ap (λ b. was_lifted trail quote || (b || false)) (eq-eqb quote quote refl)
      ∙ or-true (was_lifted trail quote))))
      (λ other differs. word_lifted trail quote other
      ∙ ap (λ b. word_if b (was_withdrawn trail other))
      (ap (λ b. was_lifted trail other || (b || false)) differs
      ∙ or-false (was_lifted trail other)))

  -- a lift that finds it withdrawn
  pub refused_stands : {after : List (Option Settled)}
      → Exchanges words word settled.Lifted settled.Withdrawn after
      → was_withdrawn trail quote ≡ true
      → (was_lifted trail quote && was_withdrawn trail quote) ≡ false
      → WordsStand config facts after
  refused_stands {after} exchange withdrawn one =
      subst (λ (l : List Fact). WordsStand config l after) (append-nil facts)
      (exchanged_stand facts of stand exchange there []
      (if_withdrawn (was_lifted trail quote) (was_withdrawn trail quote) withdrawn one
      ∙ ap (λ l. word_is l quote) (sym (append-nil trail)))
      (λ other differs. ap (λ l. word_is l other) (append-nil trail)))
