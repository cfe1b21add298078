use Rattle.std.proofs.Common.{◌≡◌, ℕ, Bool, List, Option, IsSome, sym, subst}
use Rattle.std.specs.Prelude.{◌↔◌, IsTrue}
use Rattle.venue_rows.specs.Rows.{Configuration, dealer_numbered}
use Rattle.step_replay.specs.declared.steps.Step.{Step}
use Rattle.venue_text.specs.CompareCuts.{row_of}
use Rattle.venue_text.specs.CompareText.{HaveSameRow, IsFirstDifference, compare_text}
use Rattle.venue_text.specs.KeptComparison.{AreCompared, live_due, live_sent, run_of}
use Rattle.venue_text.proofs.KeptLemmas.{dealer_is_asked, dealer_is_known}
use Rattle.venue_text.proofs.kept_comparison.compared_text.Goals as goal

-- the same by the configurations and the numbers that are known otherwise
compared_by : (one other config other_config : Configuration) (steps other_steps : List Step) (d d' n n' : ℕ) (row : Bool) (due messages : Option ℕ)
    (text : List ℕ) → one ≡ config → other ≡ other_config → d ≡ n → d' ≡ n' → IsTrue row ↔ HaveSameRow (row_of one d) (row_of other d')
    → IsFirstDifference (live_due (run_of config d steps)) (live_due (run_of other_config d' other_steps)) due
    → IsFirstDifference (live_sent (run_of config d steps)) (live_sent (run_of other_config d' other_steps)) messages
    → text ≡ compare_text row due messages → AreCompared (run_of config n steps) (run_of other_config n' other_steps) text
compared_by one other config other_config steps other_steps d d' n n' row due messages text one_is other_is d_is d'_is rows dues sent printed =
    subst (λ (m : ℕ). AreCompared (run_of config m steps) (run_of other_config n' other_steps) text) d_is
    (subst (λ (m : ℕ). AreCompared (run_of config d steps) (run_of other_config m other_steps) text) d'_is
    (record {
      is_same_row = row;
      due = due;
      messages = messages;
      row_is = subst (λ (x : Configuration). IsTrue row ↔ HaveSameRow (row_of x d) (row_of other_config d')) one_is
          (subst (λ (x : Configuration). IsTrue row ↔ HaveSameRow (row_of one d) (row_of x d')) other_is rows);
      due_is = dues;
      messages_is = sent;
      printed = printed;
    }))

pub returns : goal.returns
returns c name config other_config taken other_taken keeps other_keeps =
    let one = dealer_is_asked name config taken c.args.one keeps in
    let two = dealer_is_asked name other_config other_taken c.args.other other_keeps in
    let first = c.dealer_of-dealer.ensures one.0 one.2 in
    let second = c.dealer_of-other_dealer.ensures two.0 two.2 in
    let known = subst (λ (m : ℕ). IsSome (dealer_numbered config m)) (sym first) (dealer_is_known config name one.0 one.1) in
    let other_known = subst (λ (m : ℕ). IsSome (dealer_numbered other_config m)) (sym second) (dealer_is_known other_config name two.0 two.1) in
    record {
      dealer = one.0;
      other_dealer = two.0;
      named = one.1;
      other_named = two.1;
      compared = compared_by c.args.one.day.config c.args.other.day.config config other_config taken.steps other_taken.steps _ _ one.0 two.0
          c.has_same_row-row.result c.in_ok-due.due c.messages_differ-messages.result c.in_ok-text.text.items
          keeps.goes.config_is other_keeps.goes.config_is first second c.has_same_row-row.ensures
          (c.in_ok-due.ensures config other_config taken.steps other_taken.steps keeps.goes.stands other_keeps.goes.stands known other_known)
          (c.messages_differ-messages.ensures config other_config taken.steps other_taken.steps keeps.goes.stands other_keeps.goes.stands)
          c.in_ok-text.ensures;
    }
