use Rattle.std.proofs.Common.{◌≡◌, ◌++◌, take}
use Rattle.venue_text.specs.LiveLines.{sent_text}
use Rattle.venue_text.proofs.live_lines.push_sent.Given as goal

abbrev pub invariant-loop-message : goal.invariant-loop-message
invariant-loop-message l = l.text.items
    ≡ l.fn.text.items ++ sent_text l.with_frames l.config (take l.message-index l.sent)
