-- The words behind a command's name: what clap finds wrong with them and makes of them, all in all.
use Rattle.std.proofs.Common.{◌≡◌, ◌∙◌, ◌⊎◌, ◌||◌, ◌&&◌, refl, sym, ap, ap₂, subst, inl, inr, Bool}
use Rattle.std.proofs.Common.{true, false, List, [], ◌∷◌, ◌++◌, map, Option, Some, None, cond, not}
use Rattle.std.proofs.Common.{codes, fold}
use Rattle.std.proofs.lemmas.Bool.{and_left, and_right, false≢true, or_parts}
use Rattle.std.proofs.lemmas.List.{append-nil, append_assoc, map-append}
use Rattle.std.proofs.lemmas.List.Folds.{find-append, list_any-append}
use Rattle.std.specs.Option.{option_map_or, option_or}
use Rattle.std.specs.Prelude.{if◌then◌else◌, is_some, option_and_then, option_map, slice_get}
use Rattle.std.specs.Str.{bytes_eq}
use Rattle.std.proofs.Math.Bool.{or-false}
use Rattle.clap.specs.declared.error.kind.ErrorKind.TheVariants as kind
use Rattle.clap.specs.Facts.{explicit_source}
use Rattle.clap.specs.Faults.{check_fault, defaults_fault, settle_fault, walk_fault}
use Rattle.clap.specs.Kinds.{Kinds, or_else}
use Rattle.clap.specs.Takes.{is_given}
use Rattle.clap.specs.Walk.{Held, Row, Text, Walk, finished, first_of, one_of, row_text, settled}
use Rattle.clap.specs.Walk.{walked, with_default}
use Rattle.command_arguments.specs.ArgumentWords.{Words, are_flags, are_words, flags_in, is_among}
use Rattle.command_arguments.specs.ArgumentWords.{is_flag, no_word, one_or_none, one_word, plain_in}
use Rattle.command_arguments.specs.ArgumentWords.{spelled}
use Rattle.command_arguments.proofs.TableRows.{all_defaulted, at_default, at_flag, default_row}
use Rattle.command_arguments.proofs.TableRows.{defaulted, firm, flag_row, lacks, lacks_word}
use Rattle.command_arguments.proofs.TableRows.{no_default_fault, row_at, rules_of, word_row}
use Rattle.command_arguments.proofs.TableFlags.{AreNames, given_more}
use Rattle.command_arguments.proofs.TableSpots.{Fits, Spot, before, behind, given_at, held_at}
use Rattle.command_arguments.proofs.TableSpots.{settled_at, among_spelled, settled_is, shape, waits}
use Rattle.command_arguments.proofs.TableSpots.{walk_at, with_flag, words_at}
use Rattle.command_arguments.proofs.TableTurns.{open_turn, trailing_turn}
use Rattle.command_arguments.proofs.WordLemmas.{neither, never}

abbrev end_fault : List Text → Words → Text → Held → Kinds
end_fault own words name held =
    let rules = rules_of own words in
    or_else (settle_fault rules false held)
    (or_else (defaults_fault (settled rules held).rows rules) (check_fault (shape name rules) (finished rules held) false))

-- what is wrong with words, from a place of the walk on
abbrev pub leaf_kinds : List Text → Words → Text → List Text → Walk → Kinds
leaf_kinds own words name rest walk =
    let rules = rules_of own words in
    or_else (walk_fault (shape name rules) [] walk rest) (end_fault own words name (fold (walked rules []) walk rest).held)

-- what is found for them
abbrev pub leaf_rows : List Text → Words → List Text → Walk → List Row
leaf_rows own words rest walk = finished (rules_of own words) (fold (walked (rules_of own words) []) walk rest).held

-- a flag was found, by its text
abbrev pub Reads : Option Text → Bool → Type 0
Reads text given =
    (given ≡ true → text ≡ Some (codes "true")) × (given ≡ false → (text ≡ Some (codes "false")) ⊎ (text ≡ None))

-- the word and the flags are found
pub record AreRead (words flags : List Text) (rows : List Row) : Type 0 where
  pub argument : first_of firm rows ≡ slice_get words 0
  pub flag : (name : Text) → bytes_eq firm name ≡ false → Reads (one_of name rows) (is_among (spelled name) flags)

abbrev pub are_lawful : List Text → Words → List Text → List Text → Bool
are_lawful own words given flags = are_words words given && are_flags (map spelled own) flags

-- nothing is wrong where the words and the flags are the command's, and then they are found
abbrev pub Ends : List Text → Words → List Text → List Text → Kinds → List Row → Type 0
Ends own words given flags kinds rows =
    (are_lawful own words given flags ≡ false → kinds ≡ [] → ⊥)
    × (are_lawful own words given flags ≡ true → (kinds ≡ []) × AreRead given flags rows)

-- ---- at the end

at_firm : (s : Spot) → is_among firm (given_at s) ≡ false → row_at firm (settled_at s) ≡ option_map word_row (slice_get (words_at s) 0)
at_firm (before names) clear = at_flag firm names ∙ ap (λ b. cond b (Some (flag_row firm)) None) clear
at_firm (waits names argument) clear =
    find-append (λ (r : Row). bytes_eq r.id firm) (map flag_row names) (word_row argument ∷ [])
    ∙ ap (λ o. option_or o (Some (word_row argument))) (at_flag firm names ∙ ap (λ b. cond b (Some (flag_row firm)) None) clear)
at_firm (behind names argument more) clear =
    let parts = or_parts _ _ (sym (list_any-append (λ other. bytes_eq other firm) names more) ∙ clear) in
    find-append (λ (r : Row). bytes_eq r.id firm) (map flag_row names) (word_row argument ∷ map flag_row more)
    ∙ ap (λ o. option_or o (Some (word_row argument))) (at_flag firm names ∙ ap (λ b. cond b (Some (flag_row firm)) None) parts.0)

joined : (a b : Bool) (r : Row) → option_or (cond a (Some r) None) (cond b (Some r) None) ≡ cond (a || b) (Some r) None
joined true b r = refl
joined false b r = refl

at_name : (s : Spot) (name : Text) → bytes_eq firm name ≡ false → row_at name (settled_at s) ≡ cond (is_among name (given_at s)) (Some (flag_row name)) None
at_name (before names) name apart = at_flag name names
at_name (waits names argument) name apart =
    find-append (λ (r : Row). bytes_eq r.id name) (map flag_row names) (word_row argument ∷ [])
    ∙ ap₂ (λ o b. option_or o (cond b (Some (word_row argument)) None)) (at_flag name names) apart
    ∙ joined (is_among name names) false (flag_row name) ∙ ap (λ b. cond b (Some (flag_row name)) None) (or-false (is_among name names))
at_name (behind names argument more) name apart =
    find-append (λ (r : Row). bytes_eq r.id name) (map flag_row names) (word_row argument ∷ map flag_row more)
    ∙ ap₂ (λ o b. option_or o (cond b (Some (word_row argument)) (row_at name (map flag_row more)))) (at_flag name names) apart
    ∙ ap (λ o. option_or (cond (is_among name names) (Some (flag_row name)) None) o) (at_flag name more)
    ∙ joined (is_among name names) (is_among name more) (flag_row name)
    ∙ ap (λ b. cond b (Some (flag_row name)) None) (sym (list_any-append (λ other. bytes_eq other name) names more))

reads : (given own : Bool) (name : Text)
    → Reads (option_and_then row_text (option_or (cond given (Some (flag_row name)) None) (cond own (Some (default_row name)) None))) given
reads true own name = (λ is. refl, λ none. absurd (false≢true (sym none)))
reads false true name = (λ is. absurd (false≢true is), λ none. inl refl)
reads false false name = (λ is. absurd (false≢true is), λ none. inr refl)

-- the word that is wanted is missing
abbrev missing : Bool → Kinds
missing lacking = if lacking then kind.MissingRequiredArgument ∷ [] else []

option_or_none : {X : Type 0} (o : Option X) → option_or o None ≡ o
option_or_none None = refl
option_or_none (Some x) = refl

given_by : (o : Option Text) → option_map_or (λ (r : Row). explicit_source r.source) (option_map word_row o) false ≡ is_some o
given_by None = refl
given_by (Some argument) = refl

word_by : (o : Option Text) → option_and_then (λ (r : Row). slice_get r.values 0) (option_map word_row o) ≡ o
word_by None = refl
word_by (Some argument) = refl

wanted : (own : List Text) (words : Words) (s : Spot) → Fits own words s
    → are_words words (words_at s) ≡ not (lacks_word words (is_some (slice_get (words_at s) 0)))
wanted own no_word (before names) fit = refl
wanted own no_word (waits names argument) fit = absurd fit.placed
wanted own no_word (behind names argument more) fit = absurd fit.placed
wanted own one_or_none (before names) fit = refl
wanted own one_or_none (waits names argument) fit = refl
wanted own one_or_none (behind names argument more) fit = refl
wanted own one_word (before names) fit = refl
wanted own one_word (waits names argument) fit = refl
wanted own one_word (behind names argument more) fit = refl

by_lack : (own : List Text) (words : Words) (given flags : List Text) (kinds : Kinds) (rows : List Row) (lacking : Bool)
    → are_lawful own words given flags ≡ not lacking → kinds ≡ missing lacking → AreRead given flags rows → Ends own words given flags kinds rows
by_lack own words given flags kinds rows true lawful is read =
    (λ no e. never kind.MissingRequiredArgument [] (sym is ∙ e), λ yes. absurd (false≢true (sym lawful ∙ yes)))
by_lack own words given flags kinds rows false lawful is read = (λ no. absurd (false≢true (sym no ∙ lawful)), λ yes. (is, read))

ended : (own : List Text) (words : Words) (name : Text) (s : Spot) → AreNames own → Fits own words s
    → Ends own words (words_at s) (map spelled (given_at s)) (end_fault own words name (held_at s)) (finished (rules_of own words) (held_at s))
ended own words name s names fit =
    let rules = rules_of own words in
    let settled_too = settled_is own words s names.no_firm fit in
    let rows = defaulted own (settled_at s) in
    let rows_are : finished rules (held_at s) ≡ rows =
    ap (λ (h : Held). fold with_default h.rows rules) settled_too.0 ∙ all_defaulted own words (settled_at s) in
    let word_is : row_at firm rows ≡ option_map word_row (slice_get (words_at s) 0) =
    at_default own firm (settled_at s) ∙ ap (λ b. option_or (row_at firm (settled_at s)) (cond b (Some (default_row firm)) None)) names.no_firm
    ∙ option_or_none _ ∙ at_firm s fit.clear in
    let there : is_given firm rows ≡ is_some (slice_get (words_at s) 0) =
    ap (λ o. option_map_or (λ (r : Row). explicit_source r.source) o false) word_is ∙ given_by (slice_get (words_at s) 0) in
    let lacking = lacks_word words (is_some (slice_get (words_at s) 0)) in
    let checked : check_fault (shape name rules) (finished rules (held_at s)) false ≡ missing lacking =
    ap (λ rs. check_fault (shape name rules) rs false) rows_are ∙ ap missing (lacks own words rows ∙ ap (lacks_word words) there) in
    by_lack own words (words_at s) (map spelled (given_at s)) _ _ lacking
    (ap₂ (λ a b. a && b) (wanted own words s fit) fit.allowed ∙ and_true lacking)
    (ap₂ or_else settled_too.1 (ap₂ or_else (no_default_fault own words (settled rules (held_at s)).rows) checked))
    (record {
      argument = ap (first_of firm) rows_are ∙ ap (option_and_then (λ (r : Row). slice_get r.values 0)) word_is ∙ word_by (slice_get (words_at s) 0);
      flag = λ flag apart. subst (λ rs. Reads (one_of flag rs) (is_among (spelled flag) (map spelled (given_at s)))) (sym rows_are)
          (subst (λ o. Reads (option_and_then row_text o) (is_among (spelled flag) (map spelled (given_at s)))) (sym (at_default own flag (settled_at s)))
          (subst (λ o. Reads (option_and_then row_text (option_or o (cond (is_among flag own) (Some (default_row flag)) None)))
          (is_among (spelled flag) (map spelled (given_at s)))) (sym (at_name s flag apart))
          (subst (λ b. Reads (option_and_then row_text (option_or (cond (is_among flag (given_at s)) (Some (flag_row flag)) None)
          (cond (is_among flag own) (Some (default_row flag)) None))) b) (sym (among_spelled flag (given_at s)))
          (reads (is_among flag (given_at s)) (is_among flag own) flag))));
    })
  where
    and_true : (b : Bool) → (not b && true) ≡ not b
    and_true true = refl
    and_true false = refl

-- ---- all the words

abbrev words_left : Bool → List Text → List Text
words_left true rest = rest
words_left false rest = plain_in rest

abbrev flags_left : Bool → List Text → List Text
flags_left true rest = []
flags_left false rest = flags_in rest

abbrev pub EndsFrom : List Text → Words → Text → List Text → Spot → Bool → Type 0
EndsFrom own words name rest s t =
    Ends own words (words_at s ++ words_left t rest) (map spelled (given_at s) ++ flags_left t rest) (leaf_kinds own words name rest (walk_at s t))
    (leaf_rows own words rest (walk_at s t))

-- one word that is at fault
failed : (own : List Text) (words : Words) (given flags : List Text) (kinds : Kinds) (rows : List Row) → (kinds ≡ [] → ⊥)
    → are_lawful own words given flags ≡ false → Ends own words given flags kinds rows
failed own words given flags kinds rows bad none = (λ no e. bad e, λ yes. absurd (false≢true (sym none ∙ yes)))

same_given : (own : List Text) (words : Words) (given more flags others : List Text) (kinds : Kinds) (rows : List Row) → more ≡ given → others ≡ flags
    → Ends own words more others kinds rows → Ends own words given flags kinds rows
same_given own words given more flags others kinds rows words_are flags_are ends =
    subst (λ ws. Ends own words ws flags kinds rows) words_are (subst (λ fs. Ends own words more fs kinds rows) flags_are ends)

-- one word that is not, and what stands behind it
moved : (own : List Text) (words : Words) (name : Text) (rest given more flags others : List Text) (turn : Kinds) (walk next : Walk)
    → turn ≡ [] → walk ≡ next → more ≡ given → others ≡ flags
    → Ends own words more others (leaf_kinds own words name rest next) (leaf_rows own words rest next)
    → Ends own words given flags
    (or_else (or_else turn (walk_fault (shape name (rules_of own words)) [] walk rest))
    (end_fault own words name (fold (walked (rules_of own words) []) walk rest).held))
    (leaf_rows own words rest walk)
moved own words name rest given more flags others turn walk next none goes words_are flags_are ends =
    subst (λ (ks : Kinds). Ends own words given flags
    (or_else (or_else ks (walk_fault (shape name (rules_of own words)) [] walk rest))
    (end_fault own words name (fold (walked (rules_of own words) []) walk rest).held)) (leaf_rows own words rest walk)) (sym none)
    (subst (λ (w : Walk). Ends own words given flags (leaf_kinds own words name rest w) (leaf_rows own words rest w)) (sym goes)
    (same_given own words given more flags others _ _ words_are flags_are ends))

-- what one word is among all
abbrev left_by : Bool → Bool → List Text → List Text → List Text → List Text
left_by is_dash is_a_flag dash a_flag other = if is_dash then dash else (if is_a_flag then a_flag else other)

same_words : (s : Spot) (name : Text) → words_at (with_flag s name) ≡ words_at s
same_words (before names) name = refl
same_words (waits names argument) name = refl
same_words (behind names argument more) name = refl

nothing_left : (own : List Text) (words : Words) (name : Text) (s : Spot) (t : Bool)
    → Ends own words (words_at s) (map spelled (given_at s)) (leaf_kinds own words name [] (walk_at s t)) (leaf_rows own words [] (walk_at s t))
    → EndsFrom own words name [] s t
nothing_left own words name s true ends =
    same_given own words _ _ _ _ _ _ (sym (append-nil (words_at s))) (sym (append-nil (map spelled (given_at s)))) ends
nothing_left own words name s false ends =
    same_given own words _ _ _ _ _ _ (sym (append-nil (words_at s))) (sym (append-nil (map spelled (given_at s)))) ends

pub ends : (own : List Text) (words : Words) (name : Text) (rest : List Text) (s : Spot) (t : Bool) → AreNames own → Fits own words s
    → EndsFrom own words name rest s t
unfolding walk_fault
ends own words name [] s t names fit = nothing_left own words name s t (ended own words name s names fit)
ends own words name (argument ∷ rest) s true names fit = elim (trailing_turn own words name s argument fit) [
  | inl bad ↦ failed own words _ _ _ _ (λ e. bad.0 (neither _ _ (neither _ _ e).0).0) (and_left _ _ (bad.1 rest))
  | inr is ↦ moved own words name rest _ _ _ _ _ _ (walk_at is.0 true) is.1 is.2
      (ap (λ ws. ws ++ rest) is.4 ∙ append_assoc (words_at s) (argument ∷ []) rest)
      (ap (λ names. map spelled names ++ []) is.5)
      (ends own words name rest is.0 true names is.3)
]
ends own words name (argument ∷ rest) s false names fit = elim (open_turn own words name s argument names fit) [
  | inl is ↦ moved own words name rest _ _ _ _ _ _ (walk_at s true) is.1 is.2
      (ap (λ b. words_at s ++ left_by b (is_flag argument) rest (plain_in rest) (argument ∷ plain_in rest)) (sym is.0))
      (ap (λ b. map spelled (given_at s) ++ left_by b (is_flag argument) [] (argument ∷ flags_in rest) (flags_in rest)) (sym is.0))
      (ends own words name rest s true names fit)
  | inr (inl (dash, a_flag, inl bad)) ↦ failed own words _ _ _ _ (λ e. bad.0 (neither _ _ (neither _ _ e).0).0)
      (and_right _ _ (ap₂ (λ b c. are_flags (map spelled own) (map spelled (given_at s) ++ left_by b c [] (argument ∷ flags_in rest) (flags_in rest))) dash a_flag
      ∙ bad.1 (flags_in rest)))
  | inr (inl (dash, a_flag, inr is)) ↦ moved own words name rest _ _ _ _ _ _ (walk_at (with_flag s is.0) false) is.2 is.3
      (ap (λ ws. ws ++ plain_in rest) (same_words s is.0)
      ∙ ap₂ (λ b c. words_at s ++ left_by b c rest (plain_in rest) (argument ∷ plain_in rest)) (sym dash) (sym a_flag))
      (ap (λ names. map spelled names ++ flags_in rest) (given_more s is.0)
      ∙ ap (λ flags. flags ++ flags_in rest) (map-append spelled (given_at s) (is.0 ∷ []))
      ∙ append_assoc (map spelled (given_at s)) (spelled is.0 ∷ []) (flags_in rest)
      ∙ ap (λ (w : Text). map spelled (given_at s) ++ w ∷ flags_in rest) (sym is.1)
      ∙ ap₂ (λ b c. map spelled (given_at s) ++ left_by b c [] (argument ∷ flags_in rest) (flags_in rest)) (sym dash) (sym a_flag))
      (ends own words name rest (with_flag s is.0) false names is.4)
  | inr (inr (dash, no_flag, inl bad)) ↦ failed own words _ _ _ _ (λ e. bad.0 (neither _ _ (neither _ _ e).0).0)
      (and_left _ _ (ap₂ (λ b c. are_words words (words_at s ++ left_by b c rest (plain_in rest) (argument ∷ plain_in rest))) dash no_flag
      ∙ bad.1 (plain_in rest)))
  | inr (inr (dash, no_flag, inr is)) ↦ moved own words name rest _ _ _ _ _ _ (walk_at is.0 false) is.1 is.2
      (ap (λ ws. ws ++ plain_in rest) is.4 ∙ append_assoc (words_at s) (argument ∷ []) (plain_in rest)
      ∙ ap₂ (λ b c. words_at s ++ left_by b c rest (plain_in rest) (argument ∷ plain_in rest)) (sym dash) (sym no_flag))
      (ap (λ names. map spelled names ++ flags_in rest) is.5
      ∙ ap₂ (λ b c. map spelled (given_at s) ++ left_by b c [] (argument ∷ flags_in rest) (flags_in rest)) (sym dash) (sym no_flag))
      (ends own words name rest is.0 false names is.3)
]
