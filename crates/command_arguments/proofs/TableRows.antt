-- The rules and the rows of a command of the table.
use Rattle.std.proofs.Common.{◌≡◌, ◌∙◌, ◌||◌, ◌&&◌, refl, sym, ap, ap₂, Bool, ℕ, true, false, List}
use Rattle.std.proofs.Common.{[], ◌∷◌, ◌++◌, Option, Some, None, cond, not, codes, map, fold}
use Rattle.std.proofs.lemmas.Bool.{false≢true, or_parts}
use Rattle.std.proofs.lemmas.List.{append-nil}
use Rattle.std.proofs.lemmas.List.Folds.{find-append}
use Rattle.std.proofs.lemmas.List.Sums.{fold-append}
use Rattle.std.proofs.lemmas.Slice.Eq.{bytes_eq-Decides}
use Rattle.std.specs.List.{list_any}
use Rattle.std.specs.Option.{option_or}
use Rattle.std.specs.Prelude.{find, if◌then◌else◌, is_some}
use Rattle.std.specs.Str.{bytes_eq}
use Rattle.clap.specs.declared.builder.value_parser.Reading.{Reading}
use Rattle.clap.specs.declared.builder.value_parser.Reading.TheVariants.{AsWritten}
use Rattle.clap.specs.declared.parser.matches.ValueSource.{ValueSource}
use Rattle.clap.specs.declared.parser.matches.ValueSource.TheVariants.{CommandLine, DefaultValue}
use Rattle.clap.specs.Faults.{defaults_fault}
use Rattle.clap.specs.Kinds.{Kinds, or_else}
use Rattle.clap.specs.Simple.{filled, filled_from, help_rule, with_index}
use Rattle.clap.specs.Takes.{is_given}
use Rattle.clap.specs.Walk.{Row, Rule, Text, arg_by_id, arg_by_index, arg_by_long, arg_by_short}
use Rattle.clap.specs.Walk.{at_row, has_row, more_values, with_default, with_values, without}
use Rattle.command_arguments.specs.ArgumentWords.{Words, is_among, no_word, one_or_none, one_word}
use Rattle.command_arguments.specs.Arguments.{flag_rule, argument_rule, argument_rules}

-- ---- the rules of a command that is built

abbrev pub built_flag : Text → Rule
built_flag name = with_index 1 (filled (flag_rule name))

abbrev pub behind_flags : Words → List Rule
behind_flags words = filled_from 1 (argument_rules words ++ help_rule ∷ [])

abbrev pub rules_of : List Text → Words → List Rule
rules_of own words = map built_flag own ++ behind_flags words

pub rules_are : (own : List Text) (rest : List Rule) → filled_from 1 (map flag_rule own ++ rest) ≡ map built_flag own ++ filled_from 1 rest
rules_are [] rest = refl
rules_are (name ∷ own) rest = ap (λ (rules : List Rule). built_flag name ∷ rules) (rules_are own rest)

-- which rule is found

pub by_index : (own : List Text) (rest : List Rule) (place : ℕ) → arg_by_index (map built_flag own ++ rest) place ≡ arg_by_index rest place
by_index [] rest place = refl
by_index (name ∷ own) rest place = by_index own rest place

pub by_short : (own : List Text) (rest : List Rule) (letter : ℕ) → arg_by_short (map built_flag own ++ rest) letter ≡ arg_by_short rest letter
by_short [] rest letter = refl
by_short (name ∷ own) rest letter = by_short own rest letter

abbrev or_false : (b : Bool) → (b || false) ≡ b
or_false true = refl
or_false false = refl

pub by_long : (own : List Text) (rest : List Rule) (name : Text)
    → arg_by_long (map built_flag own ++ rest) name ≡ cond (is_among name own) (Some (built_flag name)) (arg_by_long rest name)
by_long [] rest name = refl
by_long (first ∷ own) rest name = here (bytes_eq first name) refl (by_long own rest name)
  where
    here : (b : Bool) → bytes_eq first name ≡ b
        → arg_by_long (map built_flag own ++ rest) name ≡ cond (is_among name own) (Some (built_flag name)) (arg_by_long rest name)
        → cond (b || false) (Some (built_flag first)) (arg_by_long (map built_flag own ++ rest) name)
        ≡ cond (b || is_among name own) (Some (built_flag name)) (arg_by_long rest name)
    here true is others = ap (λ n. Some (built_flag n)) ((bytes_eq-Decides first name).0 is)
    here false is others = others

pub by_id : (own : List Text) (rest : List Rule) (id : Text) → is_among id own ≡ false → arg_by_id (map built_flag own ++ rest) id ≡ arg_by_id rest id
by_id [] rest id none = refl
by_id (name ∷ own) rest id none =
    let parts = or_parts (bytes_eq name id) (is_among id own) none in
    ap (λ b. cond b (Some (built_flag name)) (arg_by_id (map built_flag own ++ rest) id)) parts.0 ∙ by_id own rest id parts.1

-- ---- rows

abbrev pub firm : Text
firm = codes "firm"

abbrev pub row_by : ValueSource → Text → Text → Row
row_by source id value = record { id = id; values = value ∷ []; count = None; source = Some source; reading = AsWritten }

abbrev pub flag_row : Text → Row
flag_row name = row_by CommandLine name (codes "true")

abbrev pub default_row : Text → Row
default_row name = row_by DefaultValue name (codes "false")

abbrev pub word_row : Text → Row
word_row argument = row_by CommandLine firm argument

abbrev pub row_at : Text → List Row → Option Row
row_at id rows = find (λ r. bytes_eq r.id id) rows

-- where no row has an id, one more comes to the end
at_no_row : (id : Text) (change : Row → List Row) (missing rows : List Row) → has_row id rows ≡ false → at_row id change missing rows ≡ rows ++ missing
at_no_row id change missing [] none = refl
at_no_row id change missing (r ∷ rows) none =
    let parts = or_parts (bytes_eq r.id id) (has_row id rows) none in
    ap (λ b. if b then change r ++ rows else r ∷ at_row id change missing rows) parts.0
    ∙ ap (λ (rest : List Row). r ∷ rest) (at_no_row id change missing rows parts.1)

pub one_more : (id : Text) (how : Reading) (source : ValueSource) (values : List Text) (rows : List Row) → has_row id rows ≡ false
    → with_values id how source values rows
    ≡ rows ++ record { id = id; values = values; count = None; source = Some source; reading = how } ∷ []
one_more id how source values rows none = at_no_row id (more_values source values) _ rows none

pub one_used : (id : Text) (how : Reading) (source : ValueSource) (values : List Text) (rows : List Row) → has_row id rows ≡ false
    → with_values id how source values (without id rows)
    ≡ rows ++ record { id = id; values = values; count = None; source = Some source; reading = how } ∷ []
one_used id how source values rows none =
    ap (with_values id how source values) (at_no_row id (λ r. []) [] rows none ∙ append-nil rows) ∙ one_more id how source values rows none

pub has_flag : (id : Text) (given : List Text) → has_row id (map flag_row given) ≡ is_among id given
has_flag id [] = refl
has_flag id (name ∷ given) = ap (λ b. bytes_eq name id || b) (has_flag id given)

pub at_flag : (id : Text) (given : List Text) → row_at id (map flag_row given) ≡ cond (is_among id given) (Some (flag_row id)) None
at_flag id [] = refl
at_flag id (name ∷ given) = here (bytes_eq name id) refl (at_flag id given)
  where
    here : (b : Bool) → bytes_eq name id ≡ b → row_at id (map flag_row given) ≡ cond (is_among id given) (Some (flag_row id)) None
        → cond b (Some (flag_row name)) (row_at id (map flag_row given)) ≡ cond (b || is_among id given) (Some (flag_row id)) None
    here true is others = ap (λ n. Some (flag_row n)) ((bytes_eq-Decides name id).0 is)
    here false is others = others

has_at : (id : Text) (rows : List Row) → has_row id rows ≡ is_some (row_at id rows)
has_at id [] = refl
has_at id (r ∷ rows) = here (bytes_eq r.id id) (has_at id rows)
  where
    here : (b : Bool) → has_row id rows ≡ is_some (row_at id rows) → (b || has_row id rows) ≡ is_some (cond b (Some r) (row_at id rows))
    here true others = refl
    here false others = others

-- ---- the rows at the end

-- each flag that was not given has its default
abbrev pub defaulted : List Text → List Row → List Row
defaulted own rows = fold (λ rs name. if has_row name rs then rs else rs ++ default_row name ∷ []) rows own

default_is : (name : Text) (rows : List Row) (b : Bool) → has_row name rows ≡ b
    → with_default rows (built_flag name) ≡ (if b then rows else rows ++ default_row name ∷ [])
default_is name rows true is = ap (λ b. if b then rows else with_values name AsWritten DefaultValue (codes "false" ∷ []) rows) is
default_is name rows false is =
    ap (λ b. if b then rows else with_values name AsWritten DefaultValue (codes "false" ∷ []) rows) is ∙ one_more name _ _ _ rows is

flags_defaulted : (own : List Text) (rows : List Row) → fold with_default rows (map built_flag own) ≡ defaulted own rows
flags_defaulted [] rows = refl
flags_defaulted (name ∷ own) rows =
    ap (λ rs. fold with_default rs (map built_flag own)) (default_is name rows (has_row name rows) refl) ∙ flags_defaulted own _

same_either : {X : Type 0} (b : Bool) (x : X) → (if b then x else x) ≡ x
same_either true x = refl
same_either false x = refl

others_defaulted : (words : Words) (rows : List Row) → fold with_default rows (behind_flags words) ≡ rows
others_defaulted no_word rows = same_either (has_row (codes "help") rows) rows
others_defaulted one_or_none rows =
    ap (λ rs. with_default rs (filled help_rule)) (same_either (has_row firm rows) rows) ∙ same_either (has_row (codes "help") rows) rows
others_defaulted one_word rows =
    ap (λ rs. with_default rs (filled help_rule)) (same_either (has_row firm rows) rows) ∙ same_either (has_row (codes "help") rows) rows

pub all_defaulted : (own : List Text) (words : Words) (rows : List Row) → fold with_default rows (rules_of own words) ≡ defaulted own rows
all_defaulted own words rows =
    fold-append with_default rows (map built_flag own) (behind_flags words)
    ∙ ap (λ rs. fold with_default rs (behind_flags words)) (flags_defaulted own rows) ∙ others_defaulted words _

-- what is found of them

abbrev DefaultIs : Text → Option Row → Bool → Option Row
DefaultIs id found own = option_or found (cond own (Some (default_row id)) None)

nothing_more : {X : Type 0} (o : Option X) → o ≡ option_or o None
nothing_more None = refl
nothing_more (Some x) = refl

found_already : (id : Text) (found : Option Row) (own : Bool) → is_some found ≡ true → DefaultIs id found own ≡ found
found_already id (Some r) own is = refl
found_already id None own is = absurd (false≢true is)

pub at_default : (own : List Text) (id : Text) (rows : List Row) → row_at id (defaulted own rows) ≡ DefaultIs id (row_at id rows) (is_among id own)
at_default [] id rows = nothing_more (row_at id rows)
at_default (name ∷ own) id rows = by (has_row name rows) (bytes_eq name id) refl refl (at_default own id)
  where
    by : (had same : Bool) → has_row name rows ≡ had → bytes_eq name id ≡ same
        → ((rs : List Row) → row_at id (defaulted own rs) ≡ DefaultIs id (row_at id rs) (is_among id own))
        → row_at id (defaulted own (if had then rows else rows ++ default_row name ∷ [])) ≡ DefaultIs id (row_at id rows) (same || is_among id own)
    by true false had same others = others rows
    by true true had same others =
        let is = sym (has_at id rows) ∙ ap (λ n. has_row n rows) (sym ((bytes_eq-Decides name id).0 same)) ∙ had in
        others rows ∙ found_already id _ _ is ∙ sym (found_already id _ true is)
    by false true had same others =
        others _ ∙ ap (λ o. DefaultIs id o (is_among id own)) (find-append (λ (r : Row). bytes_eq r.id id) rows (default_row name ∷ []))
        ∙ ap (λ b. DefaultIs id (option_or (row_at id rows) (cond b (Some (default_row name)) None)) (is_among id own)) same
        ∙ ap (λ n. DefaultIs id (option_or (row_at id rows) (Some (default_row n))) (is_among id own)) ((bytes_eq-Decides name id).0 same)
        ∙ twice (row_at id rows)
      where
        twice : (o : Option Row) → DefaultIs id (option_or o (Some (default_row id))) (is_among id own) ≡ option_or o (Some (default_row id))
        twice None = refl
        twice (Some r) = refl
    by false false had same others =
        others _ ∙ ap (λ o. DefaultIs id o (is_among id own)) (find-append (λ (r : Row). bytes_eq r.id id) rows (default_row name ∷ []))
        ∙ ap (λ b. DefaultIs id (option_or (row_at id rows) (cond b (Some (default_row name)) None)) (is_among id own)) same
        ∙ ap (λ o. DefaultIs id o (is_among id own)) (sym (nothing_more (row_at id rows)))

-- ---- what may be wrong at the end

either_none : (b : Bool) (kinds : Kinds) → (if b || true then [] else kinds) ≡ []
either_none true kinds = refl
either_none false kinds = refl

nor_fault : (b : Bool) → ◌≡◌ {A = Kinds} (if b || false then [] else []) []
nor_fault true = refl
nor_fault false = refl

others_fault : (words : Words) (rows : List Row) → defaults_fault rows (behind_flags words) ≡ []
unfolding defaults_fault
others_fault no_word rows = ap (λ ks. or_else ks []) (either_none (has_row (codes "help") rows) _)
others_fault one_or_none rows =
    ap₂ or_else (either_none (has_row firm rows) _) (ap (λ ks. or_else ks []) (either_none (has_row (codes "help") (with_default rows (filled (argument_rule false)))) _))
others_fault one_word rows =
    ap₂ or_else (either_none (has_row firm rows) _) (ap (λ ks. or_else ks []) (either_none (has_row (codes "help") (with_default rows (filled (argument_rule true)))) _))

pub no_default_fault : (own : List Text) (words : Words) (rows : List Row) → defaults_fault rows (rules_of own words) ≡ []
unfolding defaults_fault
no_default_fault [] words rows = others_fault words rows
no_default_fault (name ∷ own) words rows =
    ap₂ or_else (nor_fault (has_row name rows)) (no_default_fault own words (with_default rows (built_flag name)))

-- a word that has to be there, and isn't
abbrev pub lacks_word : Words → Bool → Bool
lacks_word no_word there = false
lacks_word one_or_none there = false
lacks_word one_word there = not there

pub lacks : (own : List Text) (words : Words) (rows : List Row)
    → list_any (λ a. a.required && not (is_given a.id rows)) (rules_of own words) ≡ lacks_word words (is_given firm rows)
lacks [] no_word rows = refl
lacks [] one_or_none rows = refl
lacks [] one_word rows = or_false (not (is_given firm rows))
lacks (name ∷ own) words rows = lacks own words rows
