use Rattle.std.proofs.Common.{◌≡◌, ◌++◌, take}
use Rattle.venue_text.specs.NotedText.{investor_noted_text}
use Rattle.venue_text.proofs.noted_text.push_investor_messages.Given as goal

abbrev pub invariant-loop-message : goal.invariant-loop-message
invariant-loop-message l =
    l.text.items ≡ l.fn.text.items
    ++ investor_noted_text l.with_frames l.date l.investor l.notes (take l.message-index l.messages)
