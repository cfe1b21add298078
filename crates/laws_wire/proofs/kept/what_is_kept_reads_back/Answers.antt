use Rattle.std.proofs.Common.{[], sym, subst}
use Rattle.laws_sessions.specs.Given.{given_bodies, of_venue}
use Rattle.laws_sessions.specs.Kept.{all_kept}
use Rattle.laws_wire.specs.Carried.{AreRead, AreSame}
use Rattle.laws_wire.proofs.CarriedLemmas.{all_read, all_same}
use Rattle.laws_wire.proofs.kept.what_is_kept_reads_back.Goals as goal

pub returns-clause-read : goal.returns-clause-read
returns-clause-read c = λ names s events frames tolds no_reset are.
    subst (λ bodies. AreRead frames tolds bodies) (sym (c.what_is_kept_was_given.ensures names s [] events no_reset))
    (all_read 1 frames tolds (given_bodies names s events) are)

pub returns-clause-same : goal.returns-clause-same
returns-clause-same c = λ names others s other events more frames tolds no_reset no_more one two.
    subst (λ bodies. AreSame bodies (of_venue (all_kept others other [] more))) (sym (c.what_is_kept_was_given.ensures names s [] events no_reset))
    (subst (λ bodies. AreSame (given_bodies names s events) bodies) (sym (c.what_is_kept_was_given.ensures others other [] more no_more))
    (all_same 1 frames tolds (given_bodies names s events) (given_bodies others other more) one two))
