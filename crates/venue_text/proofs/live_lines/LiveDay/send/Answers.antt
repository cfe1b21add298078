use Rattle.std.proofs.Common.{◌≡◌, ◌≢◌, [], Some, refl, sym}
use Rattle.venue_rows.specs.Rows.{values_of}
use Rattle.input_lines.specs.StepReading.{steps_in}
use Rattle.input_lines.specs.declared.faults.ProgramFault.TheVariants.{Memory}
use Rattle.venue_text.proofs.LiveLemmas.{all_ok, tells_done, tells_nothing, tells_refused}
use Rattle.venue_text.proofs.live_lines.LiveDay.send.Goals as goal

-- NOT CHECKED
pub returns-then-is_skipped : goal.returns-then-is_skipped
returns-then-is_skipped c form config taken goes =
    tells_nothing form config taken c.args.line c.args.text.now c.args.self.now _ _ goes
    (sym c.if-is_skipped.ensures) c.new.ensures.items refl

pub returns-in-Err : goal.returns-in-Err
returns-in-Err c =
    let day = c.args.self.now in
    let fault = c.in-Err.fault in
    all_ok c.refused.result (λ told. told.fault ≡ Some fault) (λ told. told.messages.items ≡ [])
    (λ _. fault ≢ Memory) _ c.refused.ensures.told c.refused.ensures.none c.refused.ensures.other
    (λ told is empty other form config taken goes.
    tells_refused form config taken c.args.line c.args.text.now day _ fault _ _ goes
    (sym c.if-is_skipped.ensures) (c.in-Err.ensures.err other) is empty refl refl refl
    (c.in-Err.ensures.unheard other))

pub returns : goal.returns
returns c form config taken goes =
    let day = c.args.self.now in
    tells_done form config taken c.args.line c.args.text.now day _ c.in_ok-messages.messages.items _
    (steps_in (values_of day.config) c.in-Ok.spelled) goes (sym c.if-is_skipped.ensures)
    c.in-Ok.ensures.ok c.in_ok-messages.ensures refl refl refl
