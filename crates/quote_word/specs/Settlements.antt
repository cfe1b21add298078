-- How a word was settled.
use Rattle.std.specs.Prelude.{Bool, true, false}
use Rattle.quote_word.specs.declared.settled.Settled.{Settled}
use Rattle.quote_word.specs.declared.settled.Settled.TheVariants.{Withdrawn, Lifted}

-- whether the quote was withdrawn
abbrev pub is_withdrawn : Settled → Bool
is_withdrawn Withdrawn = true
is_withdrawn Lifted = false

-- whether the quote was lifted
abbrev pub is_lifted : Settled → Bool
is_lifted Withdrawn = false
is_lifted Lifted = true
