use Rattle.step_replay.proofs.Common.{◌≡◌, length, take, view_after, StandsFor}
use Rattle.step_replay.proofs.dealer_view.alone_output.Given as goal

abbrev pub invariant-loop-due : goal.invariant-loop-due
invariant-loop-due l = record {
  stands : StandsFor (view_after l.date l.row (take l.due-index l.dues)) l.desk l.words;
  count : length l.words ≡ l.row.quotes;
  row : l.desk.row ≡ l.row;
}
