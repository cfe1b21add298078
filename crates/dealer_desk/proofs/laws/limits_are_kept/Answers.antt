use Rattle.dealer_desk.proofs.DeskLemmas.{desk_sound, within_limit}
use Rattle.dealer_desk.proofs.laws.limits_are_kept.Goals as goal

pub returns : goal.returns
returns c = record {
  lone = λ date row events request. (desk_sound date row events).stands.sound.lone request;
  quotes = λ date row events. (desk_sound date row events).stands.few;
  exposure = within_limit;
}
