use Rattle.std.proofs.Common.{◌∙◌, ap, sym}
use Rattle.quote_messages.specs.SessionLines.{occurrence_of}
use Rattle.quote_messages.specs.Slots.{place_of, said_by, slot_at}
use Rattle.quote_messages.proofs.SlotLemmas.{joined-none}
use Rattle.quote_messages.proofs.slots.FieldSlots.at.Goals as goal

pub returns : goal.returns
returns c =
    let slots = c.self.inside.slots in
    let tag = c.args.tag in
    ap (λ place. said_by (slot_at slots place)) c.place_of.ensures.place
    ∙ sym (joined-none (said_by (slot_at slots (place_of tag))) tag)
    ∙ c.self.invariant.0.each tag c.requires
    ∙ ap (λ fields. occurrence_of tag fields) c.self.view_is
