use Rattle.std.proofs.Common.{◌≡◌, ◌++◌, map}
use Rattle.std.specs.List.{AllByRecursion}
use Rattle.fix_fields.specs.Frame.{IsField}
use Rattle.wire_messages.specs.ToFirm.{referred, timed_from, wire_behind}
use Rattle.wire_messages.proofs.for_firms.put_behind.Given as goal

abbrev pub invariant-loop-tag : goal.invariant-loop-tag
invariant-loop-tag l = record {
  fields : l.writer ++ map (referred l.message.kind l.reference) (timed_from l.is_timed l.message.kind l.message.moment l.tag-iterator)
      ≡ l.fn.writer ++ wire_behind l.reference l.message;
  lawful : AllByRecursion IsField l.tag-iterator;
}
