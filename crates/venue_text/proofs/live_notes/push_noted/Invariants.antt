use Rattle.std.proofs.Common.{◌≡◌, ◌++◌, List, take}
use Rattle.step_replay.specs.LiveDays.{live_trail}
use Rattle.step_replay.specs.LiveStanding.{IsAt}
use Rattle.step_replay.specs.declared.steps.Step.{Step}
use Rattle.venue_text.specs.LiveNotes.{noted_all}
use Rattle.venue_text.proofs.live_notes.push_noted.Given as goal

abbrev pub invariant-loop-sent : goal.invariant-loop-sent
invariant-loop-sent l = (steps : List Step) → IsAt l.day.config steps l.day.venue
    → l.text.items ≡ l.fn.text.items
    ++ noted_all l.day.form.frames l.day.config (live_trail l.day.config steps)
    (take l.sent-index l.told)
