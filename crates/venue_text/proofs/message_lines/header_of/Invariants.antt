use Rattle.std.proofs.Common.{◌≡◌, map, take, drop}
use Rattle.venue_text.proofs.message_lines.header_of.Given as goal

abbrev pub invariant-loop : goal.invariant-loop
invariant-loop l = (map (λ field. (field.0, field.1.now)) l.header.items ≡ take l.counter l.fn.fields) × (l.fields ≡ drop l.counter l.fn.fields)
