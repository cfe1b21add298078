use Rattle.std.proofs.Common.{◌≡◌, [], length, ap, ◌∙◌, arith, take}
use Rattle.std.specs.List.{flat_map}
use Rattle.venue_rows.specs.Rows.{firm_names}
use Rattle.venue_text.specs.RecordText.{days_in_record}
use Rattle.venue_text.specs.ReplayText.{firm_text, named_days}
use Rattle.venue_text.proofs.DayLemmas.{flat_more, length_names, take_zip}
use Rattle.venue_text.proofs.record_lines.record_text.Goals as goal

pub loop-firm-preserved : goal.loop-firm-preserved
loop-firm-preserved c =
    flat_more (firm_text c.args.with_frames) (named_days c.args.venue.now (days_in_record c.args.day.now)) c.loop-firm.firm
    [] c.loop-firm.text.items c.push_firm.new.text.items c.loop-firm.invariant c.in_ok-push_firm.ensures

pub returns : goal.returns
returns c =
    let names = firm_names c.args.venue.now in
    let print = firm_text c.args.with_frames in
    let days = days_in_record c.args.day.now in
    let dealers = ap length c.dealers.ensures.value in
    let investors = ap length c.investors.ensures.value in
    let all = length_names c.args.venue.now in
    let last : c.loop-firm.firm ≡ length names = omega (arith, dealers, investors, all, c.loop-firm-test.false, c.loop-firm.auto.firm-end) in
    c.loop-firm.invariant
    ∙ ap (λ n. flat_map print (take n (named_days c.args.venue.now days))) last
    ∙ ap (λ firms. flat_map print firms) (take_zip names days)
