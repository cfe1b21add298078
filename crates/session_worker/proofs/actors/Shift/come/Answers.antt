use Rattle.std.proofs.Common.{refl}
use Rattle.recorded_days.specs.Kinds.{is_expire, is_in}
use Rattle.recorded_days.specs.declared.actions.Kind.TheVariants as kind
use Rattle.session_worker.specs.Shifts.{IsNoted}
use Rattle.session_worker.specs.Watched.{word_in}
use Rattle.session_worker.proofs.ShiftLemmas.{moment_noted, nothing_noted}
use Rattle.session_worker.proofs.actors.Shift.come.Goals as goal

-- whatever word it asked
pub returns-clause-noted : goal.returns-clause-noted
returns-clause-noted g c = record {
  word = word_in c.in_ok-done.done.asked;
  one_more = c.in_ok-note.ensures.actions;
}

pub returns-clause-messages : goal.returns-clause-messages
returns-clause-messages g c =
    let noted : IsNoted kind.In c.args.inbound.now.moment c.args.self.now.actions.items
    c.note.new.self.actions.items = record {
      word = word_in c.in_ok-done.done.asked;
      one_more = c.in_ok-note.ensures.actions;
    } in
    moment_noted is_in kind.In c.args.inbound.now.moment c.args.self.now.actions.items
    c.note.new.self.actions.items noted refl

pub returns-clause-sweeps : goal.returns-clause-sweeps
returns-clause-sweeps g c =
    let noted : IsNoted kind.In c.args.inbound.now.moment c.args.self.now.actions.items
    c.note.new.self.actions.items = record {
      word = word_in c.in_ok-done.done.asked;
      one_more = c.in_ok-note.ensures.actions;
    } in
    nothing_noted is_expire kind.In c.args.inbound.now.moment c.args.self.now.actions.items
    c.note.new.self.actions.items noted refl
