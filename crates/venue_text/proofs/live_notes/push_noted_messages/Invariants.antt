use Rattle.std.proofs.Common.{◌≡◌, ◌++◌, List, take}
use Rattle.step_replay.specs.LiveDays.{live_trail}
use Rattle.step_replay.specs.LiveStanding.{IsAt}
use Rattle.step_replay.specs.declared.steps.Step.{Step}
use Rattle.venue_text.specs.LiveNotes.{noted_messages}
use Rattle.venue_text.proofs.live_notes.push_noted_messages.Given as goal

abbrev pub invariant-loop-message : goal.invariant-loop-message
invariant-loop-message l = (steps : List Step) → IsAt l.day.config steps l.day.venue
    → l.text.items ≡ l.fn.text.items
    ++ noted_messages l.with_frames l.day.config (live_trail l.day.config steps) l.firm
    (take l.message-index l.messages)
