use Rattle.std.proofs.Common.{◌≡◌, ◌++◌, List}
use Rattle.step_replay.specs.LiveDays.{live_trail}
use Rattle.step_replay.specs.LiveStanding.{IsAt}
use Rattle.step_replay.specs.declared.steps.Step.{Step}
use Rattle.venue_text.specs.LiveNotes.{firm_noted_text, texts_before}
use Rattle.venue_text.proofs.live_notes.push_noted_firms.Given as goal

abbrev pub invariant-loop-firm : goal.invariant-loop-firm
invariant-loop-firm l = (steps : List Step) → IsAt l.day.config steps l.day.venue
    → l.text.items ≡ l.fn.text.items
    ++ texts_before (firm_noted_text l.with_frames l.day.config (live_trail l.day.config steps)) l.firm
