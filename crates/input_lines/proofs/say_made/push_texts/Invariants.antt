use Rattle.std.proofs.Common.{◌≡◌, Some, fold}
use Rattle.std.specs.List.{AllByRecursion}
use Rattle.fix_fields.specs.Frame.{IsValue}
use Rattle.input_lines.specs.Lines.{parts_of}
use Rattle.input_lines.specs.SayReading.{with_text}
use Rattle.input_lines.proofs.say_made.push_texts.Given as goal

abbrev pub invariant-loop-text : goal.invariant-loop-text
invariant-loop-text l = record {
  can_next : (goal.iterator-loop-text).can_next l.text-iterator;
  is_finite : (goal.iterator-loop-text).is_finite l.text-iterator;
  values : AllByRecursion IsValue l.text-iterator;
  put : fold with_text (Some l.fn.frame) (parts_of 124 l.body) ≡ fold with_text (Some l.frame) l.text-iterator;
}
