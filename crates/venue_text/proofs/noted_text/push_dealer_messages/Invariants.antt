use Rattle.std.proofs.Common.{◌≡◌, ◌++◌, take}
use Rattle.venue_text.specs.NotedText.{dealer_noted_text}
use Rattle.venue_text.proofs.noted_text.push_dealer_messages.Given as goal

abbrev pub invariant-loop-message : goal.invariant-loop-message
invariant-loop-message l =
    l.text.items ≡ l.fn.text.items
    ++ dealer_noted_text l.with_frames l.date l.dealer l.notes (take l.message-index l.messages)
