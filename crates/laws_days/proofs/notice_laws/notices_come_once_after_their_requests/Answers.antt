use Rattle.laws_days.proofs.Common.{ap, eq-eqb, refl, ◌∙◌, ◌∷◌, filter_map-append, Told}
use Rattle.laws_days.proofs.Common.{request_numbered, AtDesk, facts_of, each_of}
use Rattle.step_replay.specs.DealerTrail.{fact_in}
use Rattle.laws_days.proofs.NoticeLemmas.{IsAfterShown, are_noticed}
use Rattle.laws_days.proofs.notice_laws.notices_come_once_after_their_requests.Goals as goal

pub returns-clause-after : goal.returns-clause-after
unfolding request_numbered
returns-clause-after c config steps dealer row before after request close moment is splits =
    each_of IsAfterShown _ (facts_of before) (Told request close moment) (facts_of after)
    (are_noticed config steps dealer row is).after_shown
    (ap facts_of splits
    ∙ filter_map-append fact_in before (AtDesk (Told request close moment) ∷ after))
    request (eq-eqb request request refl)

pub returns-clause-once : goal.returns-clause-once
returns-clause-once c config steps dealer row request is =
    (are_noticed config steps dealer row is).once request
