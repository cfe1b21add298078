use Rattle.std.proofs.Common.{◌≡◌, ℕ, List, ap, arith, length, nat_eq, replicate, ◌∙◌}
use Rattle.std.specs.Map.{lookup}
use Rattle.std.specs.Prelude.{unwrap_or}
use Rattle.day_weaving.specs.OrderCounts.{count_in}
use Rattle.day_weaving.specs.declared.weave_search.Mark.TheVariants as mark
use Rattle.day_weaving.proofs.SearchEnds.{begins}
use Rattle.day_weaving.proofs.weave_search.Search.new.Goals as goal

pub returns : goal.returns
returns c day =
    let slots = c.args.table.now.slots.items in
    let long : c.len.result ≡ length slots =
    omega (arith, c.len.ensures, c.args.table.now.slots.ok.0) in
    let marks_are : c.in_ok-marks.marks.items ≡ replicate (length slots) mark.New =
    c.in_ok-marks.ensures.items_if_clones_equal (λ y same. same)
    ∙ ap (λ (n : ℕ). replicate n mark.New) long in
    let none : (key : ℕ) → count_in c.new.result key ≡ 0 =
    λ key. ap (λ (entries : List (ℕ × ℕ)). unwrap_or (lookup (nat_eq key) entries) 0)
    c.new.ensures.empty in
    begins day c.args.table.now _ marks_are none c.in_ok-with_capacity.ensures.items
    c.new-2.ensures.items
