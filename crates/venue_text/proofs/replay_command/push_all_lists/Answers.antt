use Rattle.std.proofs.Common.{◌≡◌, ◌++◌, length, ap, ◌∙◌, arith, map, take}
use Rattle.std.specs.List.{flat_map, zip}
use Rattle.venue_rows.specs.Rows.{firm_names}
use Rattle.venue_text.specs.ReplayText.{list_text}
use Rattle.venue_text.proofs.DayLemmas.{flat_more, length_names, take_zip}
use Rattle.venue_text.proofs.replay_command.push_all_lists.Goals as goal

pub loop-number-preserved : goal.loop-number-preserved
loop-number-preserved c =
    flat_more (list_text c.args.with_frames)
    (zip (firm_names c.args.venue.now) (map (λ list. list.items) c.args.sent.now)) c.loop-number.number
    c.args.text.now c.loop-number.text c.push_list.new.text c.loop-number.invariant c.in_ok-push_list.ensures

pub returns : goal.returns
returns c =
    let names = firm_names c.args.venue.now in
    let lists = map (λ list. list.items) c.args.sent.now in
    let print = list_text c.args.with_frames in
    let dealers = ap length c.dealers.ensures.value in
    let investors = ap length c.investors.ensures.value in
    let all = length_names c.args.venue.now in
    let last : c.loop-number.number ≡ length names = omega (arith, dealers, investors, all, c.loop-number-test.false, c.loop-number.auto.number-end) in
    c.loop-number.invariant
    ∙ ap (λ n. c.args.text.now ++ flat_map print (take n (zip names lists))) last
    ∙ ap (λ firms. c.args.text.now ++ flat_map print firms) (take_zip names lists)
