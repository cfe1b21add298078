use Rattle.std.proofs.Common.{◌≡◌, ◌≤◌, ◌++◌, length}
use Rattle.std.specs.List.{AllByRecursion}
use Rattle.fix_fields.specs.Frame.{IsField, fields_text, left_of}
use Rattle.fix_sessions.specs.Written.{behind_type}
use Rattle.fix_sessions.proofs.writing.put_body.Given as goal

abbrev pub invariant-loop-tag : goal.invariant-loop-tag
invariant-loop-tag l = record {
  fields : l.writer ++ l.tag-iterator ≡ l.fn.writer ++ behind_type l.body;
  lawful : AllByRecursion IsField l.tag-iterator;
  room : length (fields_text l.tag-iterator) ≤ left_of l.writer;
}
