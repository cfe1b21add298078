-- Where the walk over the words of a command stands, and the flags that were given so far.
use Rattle.std.proofs.Common.{◌≡◌, ◌∙◌, ◌⊎◌, ◌||◌, ◌&&◌, refl, sym, ap, ap₂, inl, inr, ℕ, Bool}
use Rattle.std.proofs.Common.{true, false, List, [], ◌∷◌, ◌++◌, map, Option, Some, None, not}
use Rattle.std.proofs.lemmas.Bool.{and_left, and_parts, and_right, cases_Bool, false≢true, not-true}
use Rattle.std.proofs.lemmas.Bool.{or_parts}
use Rattle.std.proofs.lemmas.List.Folds.{list_any-append}
use Rattle.std.proofs.lemmas.Slice.Eq.{bytes_eq-Decides}
use Rattle.std.specs.Option.{option_map_or}
use Rattle.std.specs.Prelude.{if◌then◌else◌}
use Rattle.std.specs.Str.{bytes_eq}
use Rattle.clap.specs.declared.builder.value_parser.Reading.TheVariants.{AsWritten}
use Rattle.clap.specs.declared.error.kind.ErrorKind.TheVariants as kind
use Rattle.clap.specs.declared.parser.matches.ValueSource.TheVariants.{CommandLine}
use Rattle.clap.specs.Faults.{settle_fault, use_fault}
use Rattle.clap.specs.Kinds.{or_else}
use Rattle.clap.specs.Simple.{Shape, built_leaf, filled, inherited, marked_built, new_shape, on_top}
use Rattle.clap.specs.Simple.{with_index, with_leaf_noted}
use Rattle.clap.specs.Walk.{Held, Row, Rule, Text, Walk, arg_by_id, idle, settled, used_by_id}
use Rattle.command_arguments.specs.ArgumentWords.{Words, are_flags, is_among, no_word, one_or_none}
use Rattle.command_arguments.specs.ArgumentWords.{one_word, spelled}
use Rattle.command_arguments.specs.Arguments.{venue_app, argument_rule}
use Rattle.command_arguments.proofs.TableRows.{by_id, firm, flag_row, has_flag, one_used, rules_of}
use Rattle.command_arguments.proofs.TableRows.{word_row}

-- the program as its commands take over its settings
abbrev pub above : Shape
above = (on_top with_leaf_noted (on_top marked_built venue_app)).top

-- a command of the table, as it is built
abbrev pub shape : Text → List Rule → Shape
shape name rules = record (built_leaf (inherited above (new_shape name))) { rules = rules }

-- ---- where the walk stands

-- before the command's word, right behind it, and behind flags that are behind it
pub data Spot : Type 0 where
  before : List Text → Spot
  waits : List Text → Text → Spot
  behind : List Text → Text → List Text → Spot

-- the names of the flags that were given, and the word
abbrev pub given_at : Spot → List Text
given_at (before names) = names
given_at (waits names argument) = names
given_at (behind names argument more) = names ++ more

abbrev pub words_at : Spot → List Text
words_at (before names) = []
words_at (waits names argument) = argument ∷ []
words_at (behind names argument more) = argument ∷ []

-- one flag more
abbrev pub with_flag : Spot → Text → Spot
with_flag (before names) name = before (names ++ name ∷ [])
with_flag (waits names argument) name = behind names argument (name ∷ [])
with_flag (behind names argument more) name = behind names argument (more ++ name ∷ [])

abbrev pub rows_at : Spot → List Row
rows_at (before names) = map flag_row names
rows_at (waits names argument) = map flag_row names
rows_at (behind names argument more) = map flag_row names ++ word_row argument ∷ map flag_row more

-- the rows where nothing is pending any more
abbrev pub settled_at : Spot → List Row
settled_at (before names) = map flag_row names
settled_at (waits names argument) = map flag_row names ++ word_row argument ∷ []
settled_at (behind names argument more) = map flag_row names ++ word_row argument ∷ map flag_row more

abbrev pending_at : Spot → Option (Text × List Text)
pending_at (before names) = None
pending_at (waits names argument) = Some (firm, argument ∷ [])
pending_at (behind names argument more) = None

abbrev pub held_at : Spot → Held
held_at s = record { rows = rows_at s; pending = pending_at s; skip = 0 }

abbrev pub position_at : Spot → ℕ
position_at (before names) = 1
position_at (waits names argument) = 2
position_at (behind names argument more) = 2

abbrev pub walk_at : Spot → Bool → Walk
walk_at s t = record { held = held_at s; waiting = idle; position = position_at s; is_trailing = t; stopped = None }

-- a command of no word stands before it
abbrev pub IsPlaced : Words → Spot → Type 0
IsPlaced no_word (before names) = Unit {0}
IsPlaced no_word (waits names argument) = ⊥
IsPlaced no_word (behind names argument more) = ⊥
IsPlaced one_or_none s = Unit {0}
IsPlaced one_word s = Unit {0}

pub record Fits (own : List Text) (words : Words) (s : Spot) : Type 0 where
  pub placed : IsPlaced words s
  pub allowed : are_flags (map spelled own) (map spelled (given_at s)) ≡ true
  pub clear : is_among firm (given_at s) ≡ false

pub fits_first : (own : List Text) (words : Words) → Fits own words (before [])
fits_first own no_word = record { placed = tt; allowed = refl; clear = refl }
fits_first own one_or_none = record { placed = tt; allowed = refl; clear = refl }
fits_first own one_word = record { placed = tt; allowed = refl; clear = refl }

-- ---- flags that are a command's

pub bytes_apart : (a b : Text) → bytes_eq a b ≡ false → bytes_eq b a ≡ false
bytes_apart a b apart = elim (cases_Bool (bytes_eq b a)) [
  | inl same ↦ absurd (false≢true (sym apart ∙ (bytes_eq-Decides a b).1 (sym ((bytes_eq-Decides b a).0 same))))
  | inr other ↦ other
]

-- a flag that is none of the command's, or is given a second time
pub wrong_flag : (own front rest : List Text) (flag : Text) → (is_among flag own ≡ false) ⊎ (is_among flag front ≡ true)
    → are_flags own (front ++ flag ∷ rest) ≡ false
wrong_flag own [] rest flag (inl other) = and_left _ _ other
wrong_flag own [] rest flag (inr twice) = absurd (false≢true twice)
wrong_flag own (first ∷ front) rest flag (inl other) = and_right _ _ (and_right _ _ (wrong_flag own front rest flag (inl other)))
wrong_flag own (first ∷ front) rest flag (inr twice) = by (bytes_eq first flag) refl twice (λ again. wrong_flag own front rest flag (inr again))
  where
    by : (b : Bool) → bytes_eq first flag ≡ b → (b || is_among flag front) ≡ true
        → (is_among flag front ≡ true → are_flags own (front ++ flag ∷ rest) ≡ false) → are_flags own (first ∷ front ++ flag ∷ rest) ≡ false
    by false is again others = and_right _ _ (and_right _ _ (others again))
    by true is again others =
        let there : is_among first (front ++ flag ∷ rest) ≡ true =
        list_any-append (λ other. bytes_eq other first) front (flag ∷ rest)
        ∙ ap (λ b. is_among first front || (b || is_among first rest)) ((bytes_eq-Decides flag first).1 (sym ((bytes_eq-Decides first flag).0 is)))
        ∙ or_true (is_among first front) in
        and_right _ _ (and_left _ _ (ap not there))
      where
        or_true : (b : Bool) → (b || true) ≡ true
        or_true true = refl
        or_true false = refl

-- a flag of the command that was not given front
pub right_flag : (own front : List Text) (flag : Text) → are_flags own front ≡ true → is_among flag own ≡ true → is_among flag front ≡ false
    → are_flags own (front ++ flag ∷ []) ≡ true
right_flag own [] flag front_is is new = ap (λ b. b && true) is
right_flag own (first ∷ front) flag front_is is new =
    let parts = and_parts (is_among first own) _ front_is in
    let more = and_parts (not (is_among first front)) _ parts.1 in
    let apart = or_parts (bytes_eq first flag) (is_among flag front) new in
    let there : is_among first (front ++ flag ∷ []) ≡ false =
    list_any-append (λ other. bytes_eq other first) front (flag ∷ [])
    ∙ ap₂ (λ a b. a || (b || false)) (not-true _ more.0) (bytes_apart first flag apart.0) in
    ap₂ (λ a b. a && b) parts.0 (ap₂ (λ a b. not a && b) there (right_flag own front flag more.1 is apart.1))

pub among_spelled : (name : Text) (names : List Text) → is_among (spelled name) (map spelled names) ≡ is_among name names
among_spelled name [] = refl
among_spelled name (first ∷ names) = ap (λ b. bytes_eq first name || b) (among_spelled name names)

-- ---- what is pending

abbrev built_word : Bool → Rule
built_word required = with_index 1 (filled (argument_rule required))

abbrev settled_held : Spot → Held
settled_held s = record { rows = settled_at s; pending = None; skip = 0 }

abbrev IsSettled : List Rule → Spot → Type 0
IsSettled rules s = (settled rules (held_at s) ≡ settled_held s) × (settle_fault rules false (held_at s) ≡ [])

word_settled : (rules : List Rule) (required : Bool) (names : List Text) (argument : Text) → arg_by_id rules firm ≡ Some (built_word required)
    → is_among firm names ≡ false → IsSettled rules (waits names argument)
word_settled rules required names argument found clear =
    let none = has_flag firm names ∙ clear in (
      ap (λ o. record (settled_held (waits names argument)) { rows = used_by_id o (argument ∷ []) (map flag_row names) }) found
          ∙ ap (λ rows. record (settled_held (waits names argument)) { rows = rows }) (one_used firm AsWritten CommandLine (argument ∷ []) (map flag_row names) none),
      ap (λ o. option_map_or (λ a. use_fault false a (argument ∷ []) (map flag_row names)) o []) found
          ∙ ap (λ b. or_else (if b && true then kind.ArgumentConflict ∷ [] else []) []) none,
    )

pub settled_is : (own : List Text) (words : Words) (s : Spot) → is_among firm own ≡ false → Fits own words s → IsSettled (rules_of own words) s
settled_is own words (before names) none fit = (refl, refl)
settled_is own words (behind names argument more) none fit = (refl, refl)
settled_is own no_word (waits names argument) none fit = absurd fit.placed
settled_is own one_or_none (waits names argument) none fit = word_settled (rules_of own one_or_none) false names argument (by_id own _ firm none) fit.clear
settled_is own one_word (waits names argument) none fit = word_settled (rules_of own one_word) true names argument (by_id own _ firm none) fit.clear
