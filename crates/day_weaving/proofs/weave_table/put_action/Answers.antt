use Rattle.std.proofs.Common.{◌≡◌, ◌∷◌, ◌++◌, ◌+◌, ℕ, List, [], Some, length, rules, slice_get, subst, sym}
use Rattle.day_weaving.specs.OrderSearch.{IsChain, IsSlot}
use Rattle.day_weaving.specs.declared.weave_plan.Slot.{Slot}
use Rattle.day_weaving.proofs.TableLemmas.{chain_more, right_more}
use Rattle.day_weaving.proofs.weave_table.put_action.Goals as goal

pub returns-clause-built : goal.returns-clause-built
returns-clause-built c =
    let day = c.args.day.now in
    let slots = c.args.table.now.slots.items in
    let below = c.args.table.now.below.items in
    let last = c.put_grant.new.last in
    let now : Slot = record {
      action = c.args.action;
      site = c.in-Some.site;
      spot = c.in-Some.spot;
    } in
    let slots_are : c.push-2.new.self.items ≡ slots ++ now ∷ [] = c.in_ok-push-2.ensures.items in
    let below_are : c.push.new.self.items ≡ below ++ c.in_ok-below.below ∷ [] =
    c.in_ok-push.ensures.items in
    let is : IsSlot day now = record {
      is_action = c.requires.is_action;
      stands = c.requires.sound c.args.action (c.in-Some.site, c.in-Some.spot)
          (sym c.in-Some.ensures);
    } in
    let behind : c.len.result + 1 ≡ length slots + 1 = search rules in
    record {
      right = subst (λ (list : List Slot). (place : ℕ) (slot : Slot)
          → slice_get list place ≡ Some slot → IsSlot day slot) (sym slots_are)
          (right_more day slots now is c.requires.built.right);
      chain = subst (λ (list : List Slot). IsChain day list c.push.new.self.items last)
          (sym slots_are)
          (subst (λ (list : List ℕ). IsChain day (slots ++ now ∷ []) list last) (sym below_are)
          (chain_more day slots below c.args.table.now.last last now c.in-Some-action_in.done.now
          (c.len.result + 1) c.in_ok-below.below c.requires.built.chain c.in-Some-action_in.ensures
          behind c.in_ok-below.ensures));
    }
