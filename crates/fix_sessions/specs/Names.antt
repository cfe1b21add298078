-- The names of a session.
use Rattle.std.specs.Prelude.{◌≡◌, ℕ, ◌<◌, ◌⊎◌, List, length, Option}
use Rattle.fix_sessions.specs.declared.texts.Names.{Names}
use Rattle.fix_sessions.specs.declared.texts.TheConstants.{MOST_NAME}

-- the names of a firm, of a venue, and of one of several venues
pub record AreNames (firm venue : List ℕ) (desk : Option (List ℕ)) (names : Names) : Type 0 where
  pub firm_is : names.firm ≡ firm
  pub venue_is : names.venue ≡ venue
  pub desk_is : names.desk ≡ desk

-- one of the first two is too long
abbrev pub AreLong : List ℕ → List ℕ → Type 0
AreLong firm venue = (MOST_NAME < length firm) ⊎ (MOST_NAME < length venue)
