use Rattle.std.proofs.Common.{◌≡◌, sym, ap, ◌∙◌}
use Rattle.fix_fields.specs.Envelope.{front_of, cut_behind}
use Rattle.fix_fields.specs.Envelope.Front.{Whole, Faulty}
use Rattle.std.proofs.Common.{[], length}
use Rattle.fix_fields.proofs.FrontLemmas.{front_fault, front_whole, fault_more}
use Rattle.fix_fields.proofs.CuttingLemmas.{cut_stands}
use Rattle.fix_fields.proofs.stream_laws.stream_faults_are_for_ever.Goals as goal

pub returns-clause-one : goal.returns-clause-one
returns-clause-one c = λ fault other bytes is that.
    (let same : Faulty fault ≡ Faulty other = sym (front_fault fault bytes is) ∙ front_fault other bytes that in cc)

pub returns-clause-never : goal.returns-clause-never
returns-clause-never c = λ fault bytes more is begins.
    (let same : Faulty fault ≡ Whole (length begins.message) =
    sym (front_fault fault _ (fault_more fault bytes more is)) ∙ (ap front_of begins.text ∙ front_whole begins.message begins.behind begins.envelope) in cc)

pub returns-clause-for_ever : goal.returns-clause-for_ever
returns-clause-for_ever c = λ fault bytes more is. fault_more fault bytes more is

pub returns-clause-stands : goal.returns-clause-stands
unfolding cut_behind
returns-clause-stands c = λ fault piece. cut_stands piece [] fault
