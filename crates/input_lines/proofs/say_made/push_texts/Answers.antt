use Rattle.std.proofs.Common.{◌≡◌, ◌∷◌, ◌∙◌, ap, sym, subst, fold, List, ℕ, Option, Some, rules}
use Rattle.std.specs.List.{AllByRecursion}
use Rattle.fix_fields.specs.Frame.{Field, IsValue}
use Rattle.input_lines.specs.Lines.{parts_of}
use Rattle.input_lines.specs.SayReading.{with_text}
use Rattle.input_lines.proofs.TextLemmas.{parts_are_values}
use Rattle.input_lines.proofs.say_made.push_texts.Goals as goal

pub loop-text-init : goal.loop-text-init
loop-text-init c =
    let all : c.into_iter-text-iterator.result ≡ parts_of 124 c.args.body.now = search rules in
    record {
      can_next = tt;
      is_finite = tt;
      values = subst (λ texts. AllByRecursion IsValue texts) (sym all) (parts_are_values 124 c.args.body.now c.requires);
      put = search rules;
    }

pub push_text-requires : goal.push_text-requires
push_text-requires c =
    let first : c.loop-text.text-iterator ≡ c.in-Some.text.now ∷ c.next.new.self = search rules in
    (subst (λ texts. AllByRecursion IsValue texts) first c.loop-text.invariant.values).0

pub loop-text-preserved : goal.loop-text-preserved
loop-text-preserved c =
    let first : c.loop-text.text-iterator ≡ c.in-Some.text.now ∷ c.next.new.self = search rules in
    record {
      can_next = tt;
      is_finite = tt;
      values = (subst (λ texts. AllByRecursion IsValue texts) first c.loop-text.invariant.values).1;
      put = c.loop-text.invariant.put
          ∙ ap (λ (texts : List (List ℕ)). fold with_text (Some c.loop-text.frame) texts) first
          ∙ ap (λ (frame : Option (List Field)). fold with_text frame c.next.new.self) (sym (c.in_ok-put.ensures c.if-not-put.false));
    }
