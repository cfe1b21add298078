use Rattle.std.proofs.Common.{◌≡◌, ◌++◌, List, ℕ, map, drop}
use Rattle.std.specs.List.{concat}
use Rattle.input_lines.proofs.firm_streams.behind_all.Given as goal

abbrev pub invariant-loop-message : goal.invariant-loop-message
invariant-loop-message l = (behind : List ℕ)
    → l.fn.bytes ≡ concat (map (λ message. message.items) l.messages) ++ behind
    → l.rest ≡ concat (map (λ message. message.items) (drop l.message-index l.messages)) ++ behind
