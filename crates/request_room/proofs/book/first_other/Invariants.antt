use Rattle.std.proofs.Common.{◌≡◌, ◌==◌, not, drop, find}
use Rattle.std.specs.Option.{option_map}
use Rattle.request_room.proofs.book.first_other.Given as goal

abbrev pub invariant-loop-one : goal.invariant-loop-one
invariant-loop-one l =
    option_map (λ one. one.quote.dealer) (find (λ one. not (one.quote.dealer == l.winner)) l.quotes)
    ≡ option_map (λ one. one.quote.dealer)
    (find (λ one. not (one.quote.dealer == l.winner)) (drop l.one-index l.quotes))
