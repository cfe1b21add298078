use Rattle.std.proofs.Common.{◌≡◌, ◌∷◌, length, take, drop, map, sym, ap, ◌∙◌, arith, Ok, List, ℕ}
use Rattle.std.proofs.Common.{[], ◌++◌, Vec, Global}
use Rattle.std.proofs.lemmas.List.{take_rest, length-drop, map-append}
use Rattle.fix_fields.specs.Scan.{cut_on}
use Rattle.fix_fields.proofs.CuttingLemmas.{cut_begun, cut_faulty, front_none}
use Rattle.fix_fields.proofs.StreamLemmas.{cut_first}
use Rattle.fix_fields.proofs.streams.cut_messages.Goals as goal

abbrev texts : List (Vec ℕ Global) → List (List ℕ)
texts messages = map (λ message. message.items) messages

pub returns-in-Begun-clause-cut : goal.returns-in-Begun-clause-cut
returns-in-Begun-clause-cut c =
    c.loop-wait.invariant ∙ cut_begun c.loop-wait.rest.now _ _ c.in-Begun.ensures.begun

pub returns-in-Begun-clause-fits : goal.returns-in-Begun-clause-fits
returns-in-Begun-clause-fits c = let short = c.in-Begun.ensures.short in omega arith

pub returns-in-Faulty-clause-cut : goal.returns-in-Faulty-clause-cut
returns-in-Faulty-clause-cut c =
    c.loop-wait.invariant ∙ cut_faulty c.loop-wait.rest.now _ _ _ front_none c.in-Faulty.ensures

pub loop-wait-smaller : goal.loop-wait-smaller
loop-wait-smaller c =
    let some = c.in-Message.ensures.some in
    let inside = c.in-Message.ensures.inside in
    let n = c.in-Message.len in
    let rest = c.loop-wait.rest.now in
    omega (arith, ap length (take_rest rest n), length-drop n rest)

pub loop-wait-preserved : goal.loop-wait-preserved
loop-wait-preserved c =
    let n = c.in-Message.len in
    let rest = c.loop-wait.rest.now in
    let before = c.loop-wait.messages.items in
    let message = c.in_ok-from_slice-in-Message.field-0 in
    let more : texts c.push-in-Message.new.self.items ≡ texts before ++ (take n rest ∷ []) =
    ap texts c.in_ok-push-in-Message.ensures.items
    ∙ (map-append (λ m. m.items) before (message ∷ []) ∙ ap (λ t. texts before ++ (t ∷ [])) c.in_ok-from_slice-in-Message.ensures.items) in
    c.loop-wait.invariant ∙ (cut_first rest (texts before) n c.in-Message.ensures
    ∙ (ap (λ ms. cut_on ms (Ok []) (drop n rest)) (sym more)
    ∙ ap (λ t. cut_on (texts c.push-in-Message.new.self.items) (Ok []) t) (sym (take_rest rest n))))
