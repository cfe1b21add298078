-- How much room is left, at least, in the body of a frame where its parts are written. A message has
-- at most three texts of a counterparty, of 50 bytes with their tags, and some twenty fields of the
-- venue's own, so each part is given far more than it takes, and that all of them fit is seen from
-- these numbers.
use Rattle.std.specs.Prelude.{ℕ}

-- behind the header
abbrev pub room_for_fields : ℕ
room_for_fields = 3900

-- behind the first texts
abbrev pub room_behind_a_text : ℕ
room_behind_a_text = 3800

-- behind all texts
abbrev pub room_behind_texts : ℕ
room_behind_texts = 3600

-- for the last parts
abbrev pub room_behind_all : ℕ
room_behind_all = 3000
