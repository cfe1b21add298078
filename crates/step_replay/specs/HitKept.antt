-- What is kept of a dealer's trail by each of the five kinds of what can happen there is kept by a
-- hit in any room.
use Rattle.std.proofs.Common.{◌≡◌, ℕ, ◌+◌, ◌==◌, Bool, true, false, ◌&&◌, nat_le, List, [], ◌++◌}
use Rattle.std.proofs.Common.{map, Option, Some, None, option_map, if◌then◌else◌, Result, Ok, Err}
use Rattle.std.proofs.Common.{refl, sym, ap, ◌∙◌, subst, arith, eq-eqb}
use Rattle.std.proofs.lemmas.Bool.Decides.{nat_tests}
use Rattle.std.proofs.lemmas.List.{append-nil}
use Rattle.std.proofs.lemmas.List.Elements.{filter_map-append}
use Rattle.market_terms.specs.declared.closes.HitRefusal.{HitRefusal}
use Rattle.market_terms.specs.declared.rooms.ResponseRef.{ResponseRef}
use Rattle.market_terms.specs.declared.rooms.RoomRef.{RoomRef}
use Rattle.quote_word.specs.declared.settled.Settled.{Settled}
use Rattle.quote_word.specs.declared.settled.Settled.TheVariants as settled
use Rattle.venue_rows.specs.Rows.{Configuration, dealer_numbered}
use Rattle.venue_rows.specs.declared.dealer_rows.DealerRow.{DealerRow}
use Rattle.request_room.specs.RoomFacts.{RoomFact}
use Rattle.request_room.specs.declared.events.RoomEvent.TheVariants as at_room
use Rattle.request_room.specs.Book.{event_facts, hit_refusal, hit_settled, award_of, word_or}
use Rattle.request_room.specs.declared.ends.End.{End}
use Rattle.venue_steps.specs.RoomDuties.{word_asked_by, hit_word}
use Rattle.step_replay.specs.DealerTrail.{DealerEntry, was_withdrawn}
use Rattle.step_replay.specs.OwnerLemmas.{quote_of_day}
use Rattle.step_replay.specs.VenueFacts.{Fact, InRoom, of_dealer, of_room, entry_at_dealer}
use Rattle.step_replay.specs.Actions.{Effect, QuoteRef, quote_with_word, quote_asked, answer_to_hit}
use Rattle.step_replay.specs.Actions.{lifting, hit_with}
use Rattle.step_replay.specs.PlaceLemmas.{trail_in_room}
use Rattle.step_replay.specs.TrailKept.{IsKept, keeps_by}

module _ (config : Configuration) (own : ℕ) (row : DealerRow)
    (is_dealer : dealer_numbered config own ≡ Some row) (P : List DealerEntry → Type 0)
    (kept : IsKept config.date row P) where
  -- the trail of the dealer with this number
  abbrev trail : List Fact → List DealerEntry
  trail facts = of_dealer own facts

  -- what an action adds leaves the view at the desk of the dealer's trail
  abbrev Keeps : List Fact → Effect → Type 0
  Keeps facts effect =
      P (trail facts) → P (trail (facts ++ effect.facts))

  -- the quote whose word is asked, where no check refuses the hit
  abbrev unless_refused : Option HitRefusal → Option QuoteRef → Option QuoteRef
  unless_refused None found = found
  unless_refused (Some refused) found = None

  asked_is : (word : ℕ) (refused : Option HitRefusal)
      → quote_asked config (word_asked_by (word_or word refused))
      ≡ unless_refused refused (quote_with_word config word)
  asked_is word None = refl
  asked_is word (Some refused) = refl

  -- what a hit lifts, by the word's settlement
  abbrev lifted_by : Option HitRefusal → Option QuoteRef → Option Settled → End → List Fact
  lifted_by refused found settlement award = lifting found (hit_settled refused settlement award)

  hit_own : (facts : List Fact) (hit : QuoteRef) (award : End) (withdrawn : Bool)
      → was_withdrawn (of_dealer hit.dealer facts) hit.quote ≡ withdrawn
      → (nat_le 1 hit.quote && nat_le hit.quote row.quotes) ≡ true → hit.dealer ≡ own
      → P (trail facts)
      → P (trail facts ++ trail (lifted_by None (Some hit)
      (Some (if withdrawn then settled.Withdrawn else settled.Lifted)) award))
  unfolding of_dealer
  hit_own facts hit award true is within equal before =
      subst (P) (sym (append-nil (trail facts))) before
  hit_own facts hit award false is within equal before =
      let same : (hit.dealer == own) ≡ true = eq-eqb hit.dealer own equal in
      let open_word : was_withdrawn (trail facts) hit.quote ≡ false =
      ap (λ (n : ℕ). was_withdrawn (of_dealer n facts) hit.quote) (sym equal) ∙ is in
      rw same (kept.lifted (trail facts) hit.quote within open_word before)

  hit_other : (facts : List Fact) (hit : QuoteRef) (award : End) (settlement : Option Settled)
      (refused : Option HitRefusal) → (hit.dealer == own) ≡ false
      → trail (lifted_by refused (Some hit) settlement award) ≡ []
  unfolding of_dealer
  hit_other facts hit award settlement refused other =
      by_outcome (hit_settled refused settlement award)
    where
      by_outcome : (outcome : Result End HitRefusal) → trail (lifting (Some hit) outcome) ≡ []
      by_outcome (Ok end) = rw other refl
      by_outcome (Err why) = refl

  -- what a hit lifts for this dealer, by the check that refuses it and the quote that is asked
  lifted_part : (facts : List Fact) (word : ℕ) (award : End) (refused : Option HitRefusal)
      (found : Option QuoteRef) → quote_with_word config word ≡ found
      → P (trail facts)
      → P (trail facts ++ trail (lifted_by refused found
      (option_map (answer_to_hit facts) (unless_refused refused found)) award))
  unfolding of_dealer
  lifted_part facts word award (Some refused) None is before =
      subst (P) (sym (append-nil (trail facts))) before
  lifted_part facts word award (Some refused) (Some hit) is before =
      subst (P) (sym (append-nil (trail facts))) before
  lifted_part facts word award None None is before =
      subst (P) (sym (append-nil (trail facts))) before
  lifted_part facts word award None (Some hit) is before =
      by_test (hit.dealer == own) refl
    where
      by_test : (same : Bool) → (hit.dealer == own) ≡ same
          → P (trail facts ++ trail (lifted_by None (Some hit)
          (Some (answer_to_hit facts hit)) award))
      by_test false other =
          subst (λ l. P (trail facts ++ l))
          (sym (hit_other facts hit award (Some (answer_to_hit facts hit)) None other))
          (subst (P) (sym (append-nil (trail facts))) before)
      by_test true same =
          let equal : hit.dealer ≡ own = grind (arith, nat_tests) in
          let place : hit.dealer ≡ 0 + own = omega arith in
          hit_own facts hit award (was_withdrawn (of_dealer hit.dealer facts) hit.quote) refl
          (quote_of_day 0 config.dealers word hit own row is is_dealer place) equal before

  pub hit_with_keeps : (facts : List Fact) (room : RoomRef) (response : ResponseRef) (word moment : ℕ)
      → Keeps facts (hit_with config facts room response word moment
      (option_map (answer_to_hit facts)
      (quote_asked config (hit_word (of_room room facts) word moment))))
  unfolding of_dealer
  hit_with_keeps facts room response word moment =
      keeps_by config own row is_dealer P kept facts (hit_with config facts room response word
      moment
      (settlement (quote_asked config asked)))
      (trail (lifts (quote_asked config asked)))
      (filter_map-append (entry_at_dealer own) (lifts (quote_asked config asked))
      (map (InRoom room) happened)
      ∙ ap (λ l. trail (lifts (quote_asked config asked)) ++ l) (trail_in_room own room happened)
      ∙ append-nil (trail (lifts (quote_asked config asked))))
      (λ before. subst
      (λ (q : Option QuoteRef). P (trail facts ++ trail (lifts q)))
      (sym (asked_is word refused))
      (lifted_part facts word award refused (quote_with_word config word) refl before))
    where
      known : List RoomFact
      known = of_room room facts

      refused : Option HitRefusal
      refused = hit_refusal known word moment

      award : End
      award = award_of known word

      asked : Option ℕ
      asked = hit_word known word moment

      settlement : Option QuoteRef → Option Settled
      settlement q = option_map (answer_to_hit facts) q

      happened : List RoomFact
      happened = event_facts known (at_room.Hit word moment (settlement (quote_asked config asked)))

      lifts : Option QuoteRef → List Fact
      lifts q = lifted_by refused (quote_with_word config word) (settlement q) award
