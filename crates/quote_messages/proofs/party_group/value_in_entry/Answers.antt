use Rattle.std.proofs.Common.{◌∙◌, ap, sym, []}
use Rattle.std.specs.Option.{option_copied, unwrap_or}
use Rattle.quote_messages.proofs.party_group.value_in_entry.Goals as goal

pub returns : goal.returns
returns c = λ id.
    ap (λ first. unwrap_or (option_copied first) []) (sym c.in-Some.is)
    ∙ ap (λ found. unwrap_or found.first []) (c.slot_in_entry-slot.ensures id)
