-- One word behind a command's name: what clap finds wrong with it, and what it makes of it.
use Rattle.std.proofs.Common.{◌≡◌, ◌∙◌, ◌⊎◌, ◌||◌, ◌==◌, ◌<◌, arith, refl, sym, ap, subst, inl, inr}
use Rattle.std.proofs.Common.{ℕ, Bool, zero, suc, true, false, List, [], ◌∷◌, ◌++◌, length, map}
use Rattle.std.proofs.Common.{Option, Some, None, cond, codes}
use Rattle.std.proofs.lemmas.Slice.Eq.{bytes_eq-Decides}
use Rattle.std.specs.Option.{option_map_or}
use Rattle.std.specs.Prelude.{if◌then◌else◌, is_some, slice_get}
use Rattle.std.specs.Str.{chars}
use Rattle.clap.specs.declared.error.kind.ErrorKind.TheVariants as kind
use Rattle.clap.specs.Faults.{bundle_step_fault, flags_fault, flag_word_fault, positional_fault}
use Rattle.clap.specs.Faults.{short_fault, step_fault, stray_fault, turn_fault}
use Rattle.clap.specs.Kinds.{Kinds, or_else}
use Rattle.clap.specs.Lexer.{long_of}
use Rattle.clap.specs.Walk.{Held, Rule, Text, Walk, after_flag, after_step, arg_by_index}
use Rattle.clap.specs.Walk.{arg_by_short, bundle_met, bundle_step, idle, long_or_other, plain}
use Rattle.clap.specs.Walk.{short_or_plain, to_positional, trailing, value, walked}
use Rattle.command_arguments.specs.ArgumentWords.{Words, are_words, is_among, is_dashes, is_flag}
use Rattle.command_arguments.specs.ArgumentWords.{no_word, one_or_none, one_word, spelled}
use Rattle.command_arguments.proofs.TableRows.{behind_flags, by_index, by_short, rules_of}
use Rattle.command_arguments.proofs.WordLemmas.{IsLong, IsPlain, IsShort, neither, never, word_form}
use Rattle.command_arguments.proofs.TableSpots.{shape, Spot, before, waits, behind, given_at}
use Rattle.command_arguments.proofs.TableSpots.{words_at, held_at, position_at, walk_at, Fits}
use Rattle.command_arguments.proofs.TableSpots.{wrong_flag}
use Rattle.command_arguments.proofs.TableFlags.{IsFlagTurn, built_help, AreNames, long_turn}

-- ---- a plain word

-- the words of a command that stands somewhere, with one more and any others
abbrev IsWordTurn : List Text → Words → Spot → Bool → Text → Kinds → Walk → Type 0
IsWordTurn own words s t argument kinds walk =
    ((kinds ≡ [] → ⊥) × ((rest : List Text) → are_words words (words_at s ++ argument ∷ rest) ≡ false))
    ⊎ ((next : Spot) × (kinds ≡ []) × (walk ≡ walk_at next t) × Fits own words next × (words_at next ≡ words_at s ++ argument ∷ [])
    × (given_at next ≡ given_at s))

abbrev PlainBy : List Text → Words → Text → Spot → Bool → Text → Option Rule → Type 0
PlainBy own words name s t argument o =
    let rules = rules_of own words in
    IsWordTurn own words s t argument (option_map_or (λ a. positional_fault rules false a (held_at s)) o (stray_fault (shape name rules)))
    (to_positional rules o argument (walk_at s t) (held_at s))

too_many : (words : Words) (first second : Text) (rest : List Text) → are_words words (first ∷ second ∷ rest) ≡ false
too_many no_word first second rest = refl
too_many one_or_none first second rest = refl
too_many one_word first second rest = refl

no_words : (argument : Text) (rest : List Text) → are_words no_word (argument ∷ rest) ≡ false
no_words argument [] = refl
no_words argument (more ∷ rest) = refl

plain_by : (own : List Text) (words : Words) (name : Text) (s : Spot) (t : Bool) (argument : Text) → Fits own words s
    → PlainBy own words name s t argument (arg_by_index (behind_flags words) (position_at s))
plain_by own no_word name (before names) t argument fit = inl (λ e. never kind.UnknownArgument [] e, λ rest. no_words argument rest)
plain_by own no_word name (waits names v) t argument fit = absurd fit.placed
plain_by own no_word name (behind names v more) t argument fit = absurd fit.placed
plain_by own one_or_none name (before names) true argument fit =
    inr (waits names argument, refl, refl, record { placed = tt; allowed = fit.allowed; clear = fit.clear }, refl, refl)
plain_by own one_or_none name (before names) false argument fit =
    inr (waits names argument, refl, refl, record { placed = tt; allowed = fit.allowed; clear = fit.clear }, refl, refl)
plain_by own one_or_none name (waits names v) t argument fit = inl (λ e. never kind.UnknownArgument [] e, λ rest. too_many one_or_none v argument rest)
plain_by own one_or_none name (behind names v more) t argument fit = inl (λ e. never kind.UnknownArgument [] e, λ rest. too_many one_or_none v argument rest)
plain_by own one_word name (before names) true argument fit =
    inr (waits names argument, refl, refl, record { placed = tt; allowed = fit.allowed; clear = fit.clear }, refl, refl)
plain_by own one_word name (before names) false argument fit =
    inr (waits names argument, refl, refl, record { placed = tt; allowed = fit.allowed; clear = fit.clear }, refl, refl)
plain_by own one_word name (waits names v) t argument fit = inl (λ e. never kind.UnknownArgument [] e, λ rest. too_many one_word v argument rest)
plain_by own one_word name (behind names v more) t argument fit = inl (λ e. never kind.UnknownArgument [] e, λ rest. too_many one_word v argument rest)

pub plain_turn : (own : List Text) (words : Words) (name : Text) (s : Spot) (t : Bool) (argument : Text) → Fits own words s
    → (let rules = rules_of own words in
    IsWordTurn own words s t argument (step_fault (shape name rules) (position_at s) (held_at s) value)
    (after_step rules argument (walk_at s t) (held_at s) value))
plain_turn own words name s t argument fit =
    subst (PlainBy own words name s t argument) (sym (by_index own (behind_flags words) (position_at s))) (plain_by own words name s t argument fit)

-- ---- a bundle of short flags, by its first letter

short_behind : (words : Words) (letter : ℕ) → arg_by_short (behind_flags words) letter ≡ cond (104 == letter || false) (Some built_help) None
short_behind no_word letter = refl
short_behind one_or_none letter = refl
short_behind one_word letter = refl

short_alone : (rules : List Rule) (b : Bool) (rest : Text) (h : Held) (again : Held → Kinds)
    → short_fault rules false (cond (b || false) (Some built_help) None) rest h again ≡ [] → ⊥
short_alone rules false rest h again e = never kind.UnknownArgument [] e
short_alone rules true rest h again e = never kind.DisplayHelp [] (neither _ _ (neither _ _ e).0).1

short_any : (rules : List Rule) (o : Option Rule) (b : Bool) (rest : Text) (h : Held) (again : Held → Kinds) → o ≡ cond (b || false) (Some built_help) None
    → short_fault rules false o rest h again ≡ [] → ⊥
short_any rules o b rest h again is e = short_alone rules b rest h again (subst (λ r. short_fault rules false r rest h again ≡ []) is e)

-- what a bundle comes to, by its first letter
abbrev ShortTurn : List Text → Words → Spot → Text → Option ℕ → Kinds → Walk → Type 0
ShortTurn own words s argument (Some letter) kinds walk = kinds ≡ [] → ⊥
ShortTurn own words s argument None kinds walk = IsWordTurn own words s false argument kinds walk

abbrev CharIs : List Text → Words → Text → Spot → Text → Text → ℕ → Option ℕ → Type 0
CharIs own words name s argument flags k x =
    let rules = rules_of own words in
    let flag = bundle_step rules x flags 0 plain (held_at s) (bundle_met rules k) in
    let met = after_flag rules idle argument flag.0 flag.1 in
    ShortTurn own words s argument x
    (or_else (bundle_step_fault rules false x flags 0 (held_at s) (flags_fault rules false k)) (step_fault (shape name rules) (position_at s) met.0 met.1))
    (after_step rules argument (walk_at s false) met.0 met.1)

char_turn : (own : List Text) (words : Words) (name : Text) (s : Spot) (argument flags : Text) (k : ℕ) (x : Option ℕ) → Fits own words s
    → CharIs own words name s argument flags k x
char_turn own words name s argument flags k None fit = plain_turn own words name s false argument fit
char_turn own words name s argument flags k (Some x) fit = λ e.
    short_any (rules_of own words) (arg_by_short (rules_of own words) x) (104 == x) _ _ _ (by_short own (behind_flags words) x ∙ short_behind words x)
    (neither _ _ e).0

abbrev BundleIs : List Text → Words → Text → Spot → Text → Text → ℕ → Type 0
BundleIs own words name s argument flags n =
    let rules = rules_of own words in
    let flag = bundle_met rules n flags 0 plain (held_at s) in
    let met = after_flag rules idle argument flag.0 flag.1 in
    ShortTurn own words s argument (slice_get (chars flags) 0)
    (or_else (flags_fault rules false n flags 0 (held_at s)) (step_fault (shape name rules) (position_at s) met.0 met.1))
    (after_step rules argument (walk_at s false) met.0 met.1)

bundle_turn : (own : List Text) (words : Words) (name : Text) (s : Spot) (argument flags : Text) (n : ℕ) → 0 < n → Fits own words s
    → BundleIs own words name s argument flags n
unfolding bundle_met flags_fault
bundle_turn own words name s argument flags zero some fit = absurd (omega arith)
bundle_turn own words name s argument flags (suc k) some fit = char_turn own words name s argument flags k (slice_get (chars flags) 0) fit

-- ---- a word, by what it looks like

-- what a word comes to
abbrev pub IsTurn : List Text → Words → Spot → Text → Kinds → Walk → Type 0
IsTurn own words s argument kinds walk =
    ((is_dashes argument ≡ true) × (kinds ≡ []) × (walk ≡ walk_at s true))
    ⊎ (((is_dashes argument ≡ false) × (is_flag argument ≡ true) × IsFlagTurn own words s argument kinds walk)
    ⊎ ((is_dashes argument ≡ false) × (is_flag argument ≡ false) × IsWordTurn own words s false argument kinds walk))

abbrev TurnBy : List Text → Words → Text → Spot → Text → Bool → Option (Text × Option Text) → Type 0
TurnBy own words name s argument b o =
    let rules = rules_of own words in
    let met = if b then (held_at s, trailing (position_at s)) else long_or_other rules idle argument o (held_at s) in
    IsTurn own words s argument
    (or_else (if b then [] else flag_word_fault rules false o argument (held_at s)) (step_fault (shape name rules) (position_at s) met.0 met.1))
    (after_step rules argument (walk_at s false) met.0 met.1)

-- the same of a word that is no long flag
abbrev ShortBy : List Text → Words → Text → Spot → Text → Option Text → Type 0
ShortBy own words name s argument q =
    let rules = rules_of own words in
    let met = short_or_plain rules idle argument q (held_at s) in
    IsTurn own words s argument
    (or_else (option_map_or (λ flags. flags_fault rules false (length flags) flags 0 (held_at s)) q []) (step_fault (shape name rules) (position_at s) met.0 met.1))
    (after_step rules argument (walk_at s false) met.0 met.1)

module _ (own : List Text) (words : Words) (name : Text) (s : Spot) (argument : Text) (names : AreNames own) (fit : Fits own words s) where
  abbrev WordIs : Type 0
  WordIs = TurnBy own words name s argument (is_dashes argument) (long_of argument)

  flag_turn : (p : Text × Option Text) → IsLong argument p → WordIs
  flag_turn p is =
      subst (λ b. TurnBy own words name s argument b (long_of argument)) (sym is.1)
      (subst (TurnBy own words name s argument false) (sym is.0) (inr (inl (is.1, is.2, long_turn own words name s argument p names fit is))))

  -- a bundle of no letter is no flag
  by_letter : (flags : Text) (x : Option ℕ) (kinds : Kinds) (walk : Walk) → IsShort argument flags → slice_get (chars flags) 0 ≡ x
      → ShortTurn own words s argument x kinds walk → IsTurn own words s argument kinds walk
  by_letter flags None kinds walk is none turn = inr (inr (is.3, is.4 ∙ ap is_some none, turn))
  by_letter flags (Some x) kinds walk is some turn = inr (inl (
    is.3,
    is.4 ∙ ap is_some some,
    inl (turn, λ rest. wrong_flag (map spelled own) (map spelled (given_at s)) rest argument (inl (never_among own))),
  ))
    where
      never_among : (list : List Text) → is_among argument (map spelled list) ≡ false
      never_among [] = refl
      never_among (n ∷ list) = ap (λ b. b || is_among argument (map spelled list)) (is.5 n) ∙ never_among list

  bundled_turn : (flags : Text) → IsShort argument flags → WordIs
  bundled_turn flags is =
      subst (λ b. TurnBy own words name s argument b (long_of argument)) (sym is.3)
      (subst (TurnBy own words name s argument false) (sym is.1)
      (subst (ShortBy own words name s argument) (sym is.2)
      (by_letter flags (slice_get (chars flags) 0) _ _ is refl (bundle_turn own words name s argument flags (length flags) is.0 fit))))

  other_turn : IsPlain argument → WordIs
  other_turn is =
      subst (λ b. TurnBy own words name s argument b (long_of argument)) (sym is.2)
      (subst (TurnBy own words name s argument false) (sym is.0)
      (subst (ShortBy own words name s argument) (sym is.1) (inr (inr (is.2, is.3, plain_turn own words name s false argument fit)))))

  dashes_turn : is_dashes argument ≡ true → WordIs
  dashes_turn is = subst (λ b. TurnBy own words name s argument b (long_of argument)) (sym is) (inl (is, refl, refl))

  pub word_turn : WordIs
  word_turn = elim (word_form argument) [
    | inl is ↦ dashes_turn ((bytes_eq-Decides argument (codes "--")).1 is)
    | inr (inl is) ↦ flag_turn is.0 is.1
    | inr (inr (inl is)) ↦ bundled_turn is.0 is.1
    | inr (inr (inr is)) ↦ other_turn is
  ]

-- a word behind `--` is none of these, and another is what it looks like
pub open_turn : (own : List Text) (words : Words) (name : Text) (s : Spot) (argument : Text) → AreNames own → Fits own words s
    → (let rules = rules_of own words in
    IsTurn own words s argument (turn_fault (shape name rules) [] (walk_at s false) argument) (walked rules [] (walk_at s false) argument))
unfolding walked
open_turn own words name s argument names fit = word_turn own words name s argument names fit

pub trailing_turn : (own : List Text) (words : Words) (name : Text) (s : Spot) (argument : Text) → Fits own words s
    → (let rules = rules_of own words in
    IsWordTurn own words s true argument (turn_fault (shape name rules) [] (walk_at s true) argument) (walked rules [] (walk_at s true) argument))
unfolding walked
trailing_turn own words name s argument fit = plain_turn own words name s true argument fit
