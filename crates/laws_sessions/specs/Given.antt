-- What the venue gave, and what is kept of it.
use Rattle.std.specs.Prelude.{Bool, true, false, List, [], ◌∷◌, ◌++◌, if◌then◌else◌}
use Rattle.fix_fields.specs.Frame.{Field}
use Rattle.fix_sessions.specs.Outcomes.{is_spent}
use Rattle.fix_sessions.specs.Written.{kept_fields}
use Rattle.fix_sessions.specs.declared.state.Session.{Session}
use Rattle.fix_sessions.specs.declared.texts.Names.{Names}
use Rattle.fix_sessions.specs.declared.turns.Word.TheVariants as word
use Rattle.laws_sessions.specs.Days.{Event, turn, Given}
use Rattle.laws_sessions.specs.Kept.{Entry, Source, Venue}

abbrev pub is_venue : Source → Bool
is_venue Venue = true
is_venue other = false

-- what is kept of the venue's messages, in the order of their numbers
abbrev pub of_venue : List Entry → List (List Field)
of_venue [] = []
of_venue (e ∷ es) = if is_venue e.source then e.body ∷ of_venue es else of_venue es

-- the message that the venue gives by an event, as it is kept; once the numbers are used up it gives none
abbrev pub given_body : Session → Event → List (List Field)
given_body s (Given moment body) = if is_spent s then [] else kept_fields (word.Kept body false) ∷ []
given_body s other = []

-- and those that it gives by these events, in their order
abbrev pub given_bodies : Names → Session → List Event → List (List Field)
given_bodies names s [] = []
given_bodies names s (e ∷ es) = given_body s e ++ given_bodies names (turn names s e).session es
