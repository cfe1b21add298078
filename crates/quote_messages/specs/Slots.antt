-- Where the tags of a message are kept: names by which the one walk over its fields is proved.
use Rattle.std.specs.Prelude.{◌≡◌, ℕ, Bool, ◌==◌, ◌&&◌, ◌||◌, false, List, [], ◌∷◌, length}
use Rattle.std.specs.Prelude.{slice_index_or, None, is_some, IsTrue}
use Rattle.std.specs.List.{list_any, position_or_len}
use Rattle.std.specs.Option.{option_or, option_copied}
use Rattle.fix_fields.specs.Frame.{Field}
use Rattle.quote_messages.specs.SessionLines.{Occurrence, occurrence_of}
use Rattle.quote_messages.specs.declared.slots.Slot.{Slot}

-- the tags that the tables of both roles look at, each at its place
abbrev pub checked_tags : List ℕ
checked_tags =
    49 ∷ 56 ∷ 52 ∷ 50 ∷ 35 ∷ 34 ∷ 117 ∷ 131 ∷ 48 ∷ 22 ∷ 132 ∷ 133 ∷ 134 ∷ 135 ∷ 537 ∷ 62 ∷ 298 ∷ 658
    ∷ 146 ∷ 54 ∷ 38 ∷ 126 ∷ 453 ∷ 693 ∷ 694 ∷ []

-- the place of a tag, behind all of them where it is none of these
abbrev pub place_of : ℕ → ℕ
place_of tag = position_or_len (λ known. known == tag) checked_tags

-- whether the tables look at a tag
abbrev pub is_checked : ℕ → Bool
is_checked tag = list_any (λ known. known == tag) checked_tags

-- what a slot says of its tag
abbrev pub said_by : Slot → Occurrence
said_by slot = record { first = option_copied slot.first; is_repeated = slot.is_repeated }

-- how a tag stands in two texts, one behind the other
abbrev pub joined : Occurrence → Occurrence → Occurrence
joined one other = record {
  first = option_or one.first other.first;
  is_repeated = (one.is_repeated || other.is_repeated)
      || (is_some one.first && is_some other.first);
}

-- the slot at a place
abbrev pub slot_at : List Slot → ℕ → Slot
slot_at slots place = slice_index_or slots place (record { first = None; is_repeated = false })

-- the slots of the fields before the rest: with what the rest says, they say how each tag stands in
-- all fields
pub record AreFilledBefore (slots : List Slot) (rest all : List Field) : Type 0 where
  pub count : length slots ≡ 26
  pub each : (tag : ℕ) → IsTrue (is_checked tag) →
      joined (said_by (slot_at slots (place_of tag))) (occurrence_of tag rest)
      ≡ occurrence_of tag all

-- the slots of all fields
abbrev pub AreFilled : List Slot → List Field → Type 0
AreFilled slots all = AreFilledBefore slots [] all
