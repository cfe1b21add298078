-- A long flag behind a command's name: what clap finds wrong with it, and what it makes of it.
use Rattle.std.proofs.Common.{◌≡◌, ◌∙◌, ◌⊎◌, ◌||◌, ◌&&◌, refl, sym, ap, ap₂, subst, inl, inr, Bool}
use Rattle.std.proofs.Common.{true, false, List, [], ◌∷◌, ◌++◌, map, Option, Some, None, cond, not}
use Rattle.std.proofs.Common.{codes}
use Rattle.std.proofs.lemmas.Bool.{and_parts, and_right, cases_Bool, false≢true, not-true}
use Rattle.std.proofs.lemmas.List.{append_assoc, map-append}
use Rattle.std.proofs.lemmas.List.Folds.{list_any-append}
use Rattle.std.proofs.lemmas.Slice.Eq.{bytes_eq-Decides}
use Rattle.std.specs.List.{list_all}
use Rattle.std.specs.Prelude.{if◌then◌else◌, is_some}
use Rattle.std.specs.Str.{bytes_eq}
use Rattle.std.proofs.Math.Bool.{or-false}
use Rattle.clap.specs.declared.builder.value_parser.Reading.TheVariants.{AsWritten}
use Rattle.clap.specs.declared.error.kind.ErrorKind.TheVariants as kind
use Rattle.clap.specs.declared.parser.matches.ValueSource.TheVariants.{CommandLine}
use Rattle.clap.specs.Faults.{long_fault, step_fault, use_fault}
use Rattle.clap.specs.Kinds.{Kinds, or_else}
use Rattle.clap.specs.Lexer.{has_byte}
use Rattle.clap.specs.Simple.{filled, help_rule, with_index}
use Rattle.clap.specs.Walk.{Held, Row, Rule, Text, Walk, after_flag, after_step, arg_by_long}
use Rattle.clap.specs.Walk.{has_row, idle, long_met, reacted, settled}
use Rattle.command_arguments.specs.ArgumentWords.{Words, are_flags, is_among, no_word, one_or_none}
use Rattle.command_arguments.specs.ArgumentWords.{one_word, spelled}
use Rattle.command_arguments.proofs.TableRows.{behind_flags, built_flag, by_long, firm, flag_row}
use Rattle.command_arguments.proofs.TableRows.{has_flag, one_used, rules_of, word_row}
use Rattle.command_arguments.proofs.WordLemmas.{IsLong, neither, never}
use Rattle.command_arguments.proofs.TableSpots.{shape, Spot, before, waits, behind, given_at}
use Rattle.command_arguments.proofs.TableSpots.{with_flag, rows_at, settled_at, held_at}
use Rattle.command_arguments.proofs.TableSpots.{position_at, walk_at, IsPlaced, Fits, bytes_apart}
use Rattle.command_arguments.proofs.TableSpots.{wrong_flag, right_flag, among_spelled, settled_is}

-- ---- a long flag

-- the flags of a command that stands somewhere, with one more and any others
abbrev pub IsFlagTurn : List Text → Words → Spot → Text → Kinds → Walk → Type 0
IsFlagTurn own words s argument kinds walk =
    ((kinds ≡ [] → ⊥) × ((rest : List Text) → are_flags (map spelled own) (map spelled (given_at s) ++ argument ∷ rest) ≡ false))
    ⊎ ((name : Text) × (argument ≡ spelled name) × (kinds ≡ []) × (walk ≡ walk_at (with_flag s name) false) × Fits own words (with_flag s name))

abbrev pub built_help : Rule
built_help = with_index 1 (filled help_rule)

long_behind : (words : Words) (name : Text) → arg_by_long (behind_flags words) name ≡ cond (bytes_eq (codes "help") name || false) (Some built_help) None
long_behind no_word name = refl
long_behind one_or_none name = refl
long_behind one_word name = refl

-- what a word that is a long flag comes to, by the rule that is found for its name
abbrev pub long_kinds : List Text → Words → Text → Spot → Text → Option Text → Option Rule → Kinds
long_kinds own words name s argument v o =
    let rules = rules_of own words in
    let flag = long_met rules o v (held_at s) in
    let met = after_flag rules idle argument flag.0 flag.1 in
    or_else (long_fault rules false o v (held_at s)) (step_fault (shape name rules) (position_at s) met.0 met.1)

abbrev pub long_walk : List Text → Words → Spot → Text → Option Text → Option Rule → Walk
long_walk own words s argument v o =
    let rules = rules_of own words in
    let flag = long_met rules o v (held_at s) in
    let met = after_flag rules idle argument flag.0 flag.1 in
    after_step rules argument (walk_at s false) met.0 met.1

help_alone : (own : List Text) (words : Words) (name : Text) (s : Spot) (argument : Text) (v : Option Text) (b : Bool)
    → long_kinds own words name s argument v (cond (b || false) (Some built_help) None) ≡ [] → ⊥
help_alone own words name s argument v false e = never kind.UnknownArgument [] e
help_alone own words name s argument (Some x) true e = never kind.TooManyValues [] e
help_alone own words name s argument None true e = never kind.DisplayHelp [] (neither _ _ (neither _ _ e).0).1

-- a name among others is not one that isn't
not_other : (name other : Text) (names : List Text) → is_among name names ≡ true → is_among other names ≡ false → bytes_eq name other ≡ false
not_other name other names is none = elim (cases_Bool (bytes_eq name other)) [
  | inl same ↦ absurd (false≢true (sym none ∙ ap (λ n. is_among n names) (sym ((bytes_eq-Decides name other).0 same)) ∙ is))
  | inr apart ↦ apart
]

had_flag : (s : Spot) (name : Text) → bytes_eq firm name ≡ false → has_row name (settled_at s) ≡ is_among name (given_at s)
had_flag (before names) name apart = has_flag name names
had_flag (waits names argument) name apart =
    list_any-append (λ (r : Row). bytes_eq r.id name) (map flag_row names) (word_row argument ∷ [])
    ∙ ap₂ (λ a b. a || (b || false)) (has_flag name names) apart ∙ or-false _
had_flag (behind names argument more) name apart =
    list_any-append (λ (r : Row). bytes_eq r.id name) (map flag_row names) (word_row argument ∷ map flag_row more)
    ∙ ap₂ (λ a b. a || b) (has_flag name names) (ap (λ b. b || has_row name (map flag_row more)) apart ∙ has_flag name more)
    ∙ sym (list_any-append (λ other. bytes_eq other name) names more)

pub given_more : (s : Spot) (name : Text) → given_at (with_flag s name) ≡ given_at s ++ name ∷ []
given_more (before names) name = refl
given_more (waits names argument) name = refl
given_more (behind names argument more) name = sym (append_assoc names more (name ∷ []))

rows_more : (s : Spot) (name : Text) → settled_at s ++ flag_row name ∷ [] ≡ rows_at (with_flag s name)
rows_more (before names) name = sym (map-append flag_row names (name ∷ []))
rows_more (waits names argument) name = append_assoc (map flag_row names) (word_row argument ∷ []) (flag_row name ∷ [])
rows_more (behind names argument more) name =
    append_assoc (map flag_row names) (word_row argument ∷ map flag_row more) (flag_row name ∷ [])
    ∙ ap (λ (rows : List Row). map flag_row names ++ word_row argument ∷ rows) (sym (map-append flag_row more (name ∷ [])))

placed_more : (words : Words) (s : Spot) (name : Text) → IsPlaced words s → IsPlaced words (with_flag s name)
placed_more no_word (before names) name placed = tt
placed_more no_word (waits names argument) name placed = absurd placed
placed_more no_word (behind names argument more) name placed = absurd placed
placed_more one_or_none s name placed = tt
placed_more one_word s name placed = tt

walk_more : (s : Spot) (name : Text) (rows : List Row) → rows ≡ rows_at (with_flag s name)
    → ◌≡◌ {A = Walk} (record (walk_at s false) { held = record { rows = rows; pending = None; skip = 0 }; waiting = idle }) (walk_at (with_flag s name) false)
walk_more (before names) name rows is = ap (λ (rs : List Row). record (walk_at (before names) false) { held = record { rows = rs; pending = None; skip = 0 } }) is
walk_more (waits names argument) name rows is = ap (λ (rs : List Row). record (walk_at (waits names argument) false) { held = record { rows = rs; pending = None; skip = 0 } }) is
walk_more (behind names argument more) name rows is =
    ap (λ (rs : List Row). record (walk_at (behind names argument more) false) { held = record { rows = rs; pending = None; skip = 0 } }) is

fits_more : (own : List Text) (words : Words) (s : Spot) (name : Text) → is_among firm own ≡ false → Fits own words s → is_among name own ≡ true
    → is_among name (given_at s) ≡ false → Fits own words (with_flag s name)
fits_more own words s name none fit is new = record {
  placed = placed_more words s name fit.placed;
  allowed = ap (λ names. are_flags (map spelled own) (map spelled names)) (given_more s name)
      ∙ ap (λ flags. are_flags (map spelled own) flags) (map-append spelled (given_at s) (name ∷ []))
      ∙ right_flag (map spelled own) (map spelled (given_at s)) (spelled name) fit.allowed (among_spelled name own ∙ is) (among_spelled name (given_at s) ∙ new);
  clear = ap (λ names. is_among firm names) (given_more s name) ∙ list_any-append (λ other. bytes_eq other firm) (given_at s) (name ∷ [])
      ∙ ap₂ (λ a b. a || (b || false)) fit.clear (not_other name firm own is none);
}

-- a flag of the command, by whether it was given before
own_turn : (own : List Text) (words : Words) (name : Text) (s : Spot) (flag : Text) (had : Bool) → is_among firm own ≡ false → Fits own words s
    → is_among flag own ≡ true → is_among flag (given_at s) ≡ had
    → IsFlagTurn own words s (spelled flag) (long_kinds own words name s (spelled flag) None (Some (built_flag flag)))
    (long_walk own words s (spelled flag) None (Some (built_flag flag)))
own_turn own words name s flag true none fit is had =
    let settled_too = settled_is own words s none fit in
    let row = had_flag s flag (bytes_apart flag firm (not_other flag firm own is none)) ∙ had in
    let refused : use_fault false (built_flag flag) [] (settled (rules_of own words) (held_at s)).rows ≡ kind.ArgumentConflict ∷ [] =
    ap (λ (h : Held). use_fault false (built_flag flag) [] h.rows) settled_too.0
    ∙ ap (λ b. or_else (if b && true then kind.ArgumentConflict ∷ [] else []) []) row in
    inl (
      λ e. never kind.ArgumentConflict [] (sym refused ∙ (neither _ _ (neither _ _ e).0).1),
      λ rest. wrong_flag (map spelled own) (map spelled (given_at s)) rest (spelled flag) (inr (among_spelled flag (given_at s) ∙ had)),
    )
own_turn own words name s flag false none fit is new =
    let settled_too = settled_is own words s none fit in
    let row = had_flag s flag (bytes_apart flag firm (not_other flag firm own is none)) ∙ new in
    inr (
      flag,
      refl,
      ap₂ (λ (a b : Kinds). or_else (or_else a b) []) settled_too.1
          (ap (λ (h : Held). use_fault false (built_flag flag) [] h.rows) settled_too.0
          ∙ ap (λ b. or_else (if b && true then kind.ArgumentConflict ∷ [] else []) []) row),
      walk_more s flag _
          (ap (λ (h : Held). (reacted (rules_of own words) (built_flag flag) [] (record h { pending = None })).rows) settled_too.0
          ∙ one_used flag AsWritten CommandLine (codes "true" ∷ []) (settled_at s) row ∙ rows_more s flag),
      fits_more own words s flag none fit is new,
    )

-- what the names of a command's flags have to be
pub record AreNames (own : List Text) : Type 0 where
  pub plain : list_all (λ name. not (has_byte 61 name)) own ≡ true
  pub no_firm : is_among firm own ≡ false
  pub no_help : is_among (codes "help") own ≡ false

long_among : (argument : Text) (p : Text × Option Text) (names : List Text) → IsLong argument p → list_all (λ name. not (has_byte 61 name)) names ≡ true
    → is_among argument (map spelled names) ≡ (is_among p.0 names && not (is_some p.1))
long_among argument p [] is bare = refl
long_among argument p (name ∷ names) is bare =
    let parts = and_parts (not (has_byte 61 name)) _ bare in
    ap₂ (λ a b. a || b) (is.3 name (not-true _ parts.0)) (long_among argument p names is parts.1) ∙ joined (bytes_eq name p.0) (is_among p.0 names) (not (is_some p.1))
  where
    joined : (a b v : Bool) → ((a && v) || (b && v)) ≡ ((a || b) && v)
    joined true b true = refl
    joined true b false = and_right b false refl
    joined false b v = refl

plain_name : (name : Text) (names : List Text) → list_all (λ n. not (has_byte 61 n)) names ≡ true → is_among name names ≡ true → has_byte 61 name ≡ false
plain_name name [] bare is = absurd (false≢true is)
plain_name name (first ∷ names) bare is = by (bytes_eq first name) refl is (plain_name name names parts.1)
  where
    parts : (not (has_byte 61 first) ≡ true) × (list_all (λ n. not (has_byte 61 n)) names ≡ true)
    parts = and_parts (not (has_byte 61 first)) _ bare

    by : (b : Bool) → bytes_eq first name ≡ b → (b || is_among name names) ≡ true → (is_among name names ≡ true → has_byte 61 name ≡ false) → has_byte 61 name ≡ false
    by true same there others = ap (has_byte 61) (sym ((bytes_eq-Decides first name).0 same)) ∙ not-true _ parts.0
    by false same there others = others there

abbrev pub LongBy : List Text → Words → Text → Spot → Text → Option Text → Option Rule → Type 0
LongBy own words name s argument v o = IsFlagTurn own words s argument (long_kinds own words name s argument v o) (long_walk own words s argument v o)

long_case : (own : List Text) (words : Words) (name : Text) (s : Spot) (argument flag : Text) (v : Option Text) (b : Bool) → AreNames own → Fits own words s
    → IsLong argument (flag, v) → is_among flag own ≡ b → LongBy own words name s argument v (cond b (Some (built_flag flag)) (arg_by_long (behind_flags words) flag))
long_case own words name s argument flag v false names fit is other =
    subst (LongBy own words name s argument v) (sym (long_behind words flag))
    (inl (
      λ e. help_alone own words name s argument v (bytes_eq (codes "help") flag) e,
      λ rest. wrong_flag (map spelled own) (map spelled (given_at s)) rest argument
          (inl (long_among argument (flag, v) own is names.plain ∙ ap (λ b. b && not (is_some v)) other)),
    ))
long_case own words name s argument flag (Some x) true names fit is own_is = inl (
  λ e. never kind.TooManyValues [] e,
  λ rest. wrong_flag (map spelled own) (map spelled (given_at s)) rest argument
      (inl (long_among argument (flag, Some x) own is names.plain ∙ ap (λ b. b && false) own_is)),
)
long_case own words name s argument flag None true names fit is own_is =
    let spelling : spelled flag ≡ argument =
    (bytes_eq-Decides (spelled flag) argument).0 (is.3 flag (plain_name flag own names.plain own_is) ∙ ap (λ b. b && true) ((bytes_eq-Decides flag flag).1 refl)) in
    subst (λ w. LongBy own words name s w None (Some (built_flag flag))) spelling
    (own_turn own words name s flag (is_among flag (given_at s)) names.no_firm fit own_is refl)

pub long_turn : (own : List Text) (words : Words) (name : Text) (s : Spot) (argument : Text) (p : Text × Option Text) → AreNames own → Fits own words s → IsLong argument p
    → LongBy own words name s argument p.1 (arg_by_long (rules_of own words) p.0)
long_turn own words name s argument p names fit is =
    subst (LongBy own words name s argument p.1) (sym (by_long own (behind_flags words) p.0))
    (long_case own words name s argument p.0 p.1 (is_among p.0 own) names fit is refl)
