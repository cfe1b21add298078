use Rattle.std.proofs.Common.{◌≡◌, ◌++◌, ℕ, List, length, add-one, append_assoc, ap, sym, ◌∙◌, arith}
use Rattle.std.proofs.lemmas.List.{append-nil}
use Rattle.step_replay.specs.LiveDays.{live_trail}
use Rattle.venue_rows.specs.Rows.{firm_names}
use Rattle.venue_text.specs.LiveNotes.{firm_noted_text, texts_before}
use Rattle.venue_text.proofs.DayLemmas.{length_names}
use Rattle.venue_text.proofs.live_notes.push_noted_firms.Goals as goal

pub loop-firm-init : goal.loop-firm-init
loop-firm-init c steps at = sym (append-nil c.args.text.now.items)

pub loop-firm-preserved : goal.loop-firm-preserved
loop-firm-preserved c steps at =
    let config = c.args.day.now.config in
    let print = firm_noted_text c.args.with_frames config (live_trail config steps) in
    let start = c.args.text.now.items in
    let firm = c.loop-firm.firm in
    c.in_ok-push_noted_firm.ensures steps at
    ∙ ap (λ (t : List ℕ). t ++ print firm) (c.loop-firm.invariant steps at)
    ∙ append_assoc start (texts_before print firm) (print firm)
    ∙ ap (λ (n : ℕ). start ++ texts_before print n) (sym (add-one firm))

pub returns : goal.returns
returns c steps at =
    let config = c.args.day.now.config in
    let print = firm_noted_text c.args.with_frames config (live_trail config steps) in
    let names = firm_names config in
    let dealers = ap length c.dealers.ensures.value in
    let investors = ap length c.investors.ensures.value in
    let all = length_names config in
    let last : c.loop-firm.firm ≡ length names = omega (arith, dealers, investors, all, c.loop-firm-test.false, c.loop-firm.auto.firm-end) in
    c.loop-firm.invariant steps at
    ∙ ap (λ (n : ℕ). c.args.text.now.items ++ texts_before print n) last
