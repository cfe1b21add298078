-- How much is left says how long a body is.
use Rattle.std.proofs.Common.{◌≡◌, ℕ, ◌<◌, ◌≤◌, List, arith}
use Rattle.fix_fields.specs.Frame.{Field, fields_len, left_of}

pub room_says : (fields : List Field) → 271 ≤ left_of fields → fields_len fields ≤ 3800
unfolding left_of
room_says fields enough = omega (arith, enough)

pub no_room_says : (fields : List Field) (left : ℕ) → left ≡ left_of fields → left < 271 → 3800 < fields_len fields
unfolding left_of
no_room_says fields left left_is short = omega (arith, left_is, short)
