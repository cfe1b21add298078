use Rattle.investor_desk.proofs.DeskLemmas.{desk_stands}
use Rattle.investor_desk.proofs.laws.limits_are_kept.Goals as goal

pub returns : goal.returns
returns c = record {
  requests = λ market events. (desk_stands market events).few;
  open_requests = λ market events. (desk_stands market events).few_open;
}
