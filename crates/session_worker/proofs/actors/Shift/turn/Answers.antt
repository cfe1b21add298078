use Rattle.std.proofs.Common.{◌≡◌, ℕ, List, [], ◌∷◌, ◌++◌, Option, subst}
use Rattle.quote_word.specs.declared.settled.Settled.{Settled}
use Rattle.recorded_days.specs.Kinds.{is_expire, is_in, kind_of, moment_of}
use Rattle.recorded_days.specs.declared.actions.Action.{Action}
use Rattle.recorded_days.specs.declared.actions.Kind.{Kind}
use Rattle.session_worker.specs.Shifts.{IsNoted, action_of}
use Rattle.session_worker.specs.Watched.{word_in}
use Rattle.session_worker.proofs.ShiftLemmas.{duty_is_no_message, duty_is_no_sweep, nothing_noted}
use Rattle.session_worker.proofs.actors.Shift.turn.Goals as goal

-- one action more, by other names of its kind and moment
noted_as : (before after : List Action) (kind named : Kind) (moment time : ℕ)
    (word : Option (ℕ × Settled)) → kind ≡ named → moment ≡ time
    → after ≡ before ++ action_of kind moment word ∷ [] → IsNoted named time before after
noted_as before after kind named moment time word kind_is time_is more =
    let with_kind : after ≡ before ++ action_of named moment word ∷ [] =
    subst (λ (k : Kind). after ≡ before ++ action_of k moment word ∷ []) kind_is more in
    record {
      word = word;
      one_more = subst (λ (m : ℕ). after ≡ before ++ action_of named m word ∷ []) time_is with_kind;
    }

-- whatever word it asked
pub returns-clause-noted : goal.returns-clause-noted
returns-clause-noted g c = noted_as c.args.self.now.actions.items c.note.new.self.actions.items
    c.of-kind.result _ c.moment_of-moment.result _ (word_in c.in_ok-done.done.asked) c.of-kind.ensures
    c.moment_of-moment.ensures c.in_ok-note.ensures.actions

pub returns-clause-messages : goal.returns-clause-messages
returns-clause-messages g c =
    let noted : IsNoted (kind_of c.args.duty) (moment_of c.args.duty)
    c.args.self.now.actions.items c.note.new.self.actions.items =
    noted_as c.args.self.now.actions.items c.note.new.self.actions.items c.of-kind.result
    (kind_of c.args.duty) c.moment_of-moment.result (moment_of c.args.duty)
    (word_in c.in_ok-done.done.asked) c.of-kind.ensures c.moment_of-moment.ensures
    c.in_ok-note.ensures.actions in
    nothing_noted is_in (kind_of c.args.duty) (moment_of c.args.duty)
    c.args.self.now.actions.items c.note.new.self.actions.items noted
    (duty_is_no_message c.args.duty)

pub returns-clause-sweeps : goal.returns-clause-sweeps
returns-clause-sweeps g c =
    let noted : IsNoted (kind_of c.args.duty) (moment_of c.args.duty)
    c.args.self.now.actions.items c.note.new.self.actions.items =
    noted_as c.args.self.now.actions.items c.note.new.self.actions.items c.of-kind.result
    (kind_of c.args.duty) c.moment_of-moment.result (moment_of c.args.duty)
    (word_in c.in_ok-done.done.asked) c.of-kind.ensures c.moment_of-moment.ensures
    c.in_ok-note.ensures.actions in
    nothing_noted is_expire (kind_of c.args.duty) (moment_of c.args.duty)
    c.args.self.now.actions.items c.note.new.self.actions.items noted
    (duty_is_no_sweep c.args.duty)
