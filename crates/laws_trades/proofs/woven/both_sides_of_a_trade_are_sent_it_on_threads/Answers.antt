use Rattle.std.proofs.Common.{List, ℕ, subst}
use Rattle.step_replay.specs.Lists.{In}
use Rattle.laws_trades.proofs.WovenLemmas.{recorded_dealer, recorded_investor}
use Rattle.laws_trades.proofs.woven.both_sides_of_a_trade_are_sent_it_on_threads.Goals as goal

pub returns-clause-answers : goal.returns-clause-answers
returns-clause-answers c config day steps investor investor_row sent message limits date sends idle is
    recorded among =
    c.both_sides_of_a_trade_are_sent_it.ensures.answers config steps investor investor_row message limits
    date idle is
    (subst (λ (l : List (List ℕ)). In message l)
    (recorded_investor c.firms_are_sent_one_list.ensures.days config day steps sends investor investor_row
    sent is recorded) among)

pub returns-clause-notices : goal.returns-clause-notices
returns-clause-notices c config day steps dealer dealer_row sent message limits date sends idle is
    recorded among =
    c.both_sides_of_a_trade_are_sent_it.ensures.notices config steps dealer dealer_row message limits
    date idle is
    (subst (λ (l : List (List ℕ)). In message l)
    (recorded_dealer c.firms_are_sent_one_list.ensures.days config day steps sends dealer dealer_row sent
    is recorded) among)
