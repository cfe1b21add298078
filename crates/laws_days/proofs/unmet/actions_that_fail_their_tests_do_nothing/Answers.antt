use Rattle.laws_days.proofs.UnmetTests.{unasked, unmet}
use Rattle.laws_days.proofs.unmet.actions_that_fail_their_tests_do_nothing.Goals as goal

pub returns : goal.returns
returns c = record {
  duties = λ config facts actor duty isnt. unmet config facts actor duty isnt;
  messages = λ config facts dealer moment bytes isnt. unasked config facts dealer moment bytes isnt;
}
