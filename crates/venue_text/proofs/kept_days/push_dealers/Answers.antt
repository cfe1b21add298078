use Rattle.std.proofs.Common.{◌≤◌, ◌++◌, ℕ, List, length, ap, ◌∙◌, arith}
use Rattle.std.proofs.lemmas.List.{take_all}
use Rattle.std.specs.List.{flat_map}
use Rattle.step_replay.specs.LiveDays.{live_trail}
use Rattle.venue_rows.specs.declared.dealer_rows.DealerRow.{DealerRow}
use Rattle.venue_text.specs.DueCommand.{dealer_text, numbered_dealers}
use Rattle.venue_text.proofs.DayLemmas.{flat_more}
use Rattle.venue_text.proofs.DueLemmas.{length_dealers}
use Rattle.venue_text.proofs.kept_days.push_dealers.Goals as goal

pub loop-dealer-preserved : goal.loop-dealer-preserved
loop-dealer-preserved c steps at =
    let config = c.args.day.now.config in
    flat_more (dealer_text config (live_trail config steps)) (numbered_dealers config) c.loop-dealer.dealer
    c.args.text.now.items c.loop-dealer.text.items c.push_dealer.new.text.items
    (c.loop-dealer.invariant steps at) (c.in_ok-push_dealer.ensures steps at)

pub returns : goal.returns
returns c steps at =
    let config = c.args.day.now.config in
    let count = c.dealer_count-dealer-end.ensures.value in
    let many = length_dealers config in
    let all : length (numbered_dealers config) ≤ c.loop-dealer.dealer = omega (arith, count, many, c.loop-dealer-test.false) in
    c.loop-dealer.invariant steps at
    ∙ ap (λ (dealers : List (ℕ × DealerRow)). c.args.text.now.items ++ flat_map (dealer_text config (live_trail config steps)) dealers)
    (take_all c.loop-dealer.dealer (numbered_dealers config) all)
