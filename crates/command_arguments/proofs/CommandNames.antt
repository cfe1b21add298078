-- The first word of some arguments, as clap reads it: a command's name, or what is wrong with it.
use Rattle.std.proofs.Common.{◌≡◌, ◌∙◌, ◌||◌, ◌&&◌, ◌==◌, refl, sym, ap, ap₂, subst, ℕ, zero, suc}
use Rattle.std.proofs.Common.{Bool, true, false, List, [], ◌∷◌, ◌++◌, length, Option, Some, None}
use Rattle.std.proofs.Common.{cond, codes, fold}
use Rattle.std.proofs.lemmas.Slice.Eq.{bytes_eq-Decides}
use Rattle.std.specs.Option.{option_map_or}
use Rattle.std.specs.Prelude.{find, if◌then◌else◌, is_some, option_map, slice_get}
use Rattle.std.specs.Str.{bytes_eq, chars}
use Rattle.std.proofs.Math.Bool.{or-false}
use Rattle.clap.specs.declared.error.kind.ErrorKind.TheVariants as kind
use Rattle.clap.specs.Faults.{bundle_step_fault, check_fault, defaults_fault, entered_fault}
use Rattle.clap.specs.Faults.{flag_word_fault, flags_fault, level_fault, long_fault, other_fault}
use Rattle.clap.specs.Faults.{settle_fault, short_fault, step_fault, turn_fault, walk_fault}
use Rattle.clap.specs.Kinds.{Kinds, or_else}
use Rattle.clap.specs.Lexer.{long_of, short_of}
use Rattle.clap.specs.Simple.{Shape, built, entered, label_of, rows_at, subcommand_of}
use Rattle.clap.specs.Walk.{Held, Rule, Text, Walk, after_flag, after_step, answers_to, bundle_met}
use Rattle.clap.specs.Walk.{bundle_step, finished, idle, long_or_other, nothing_held, plain}
use Rattle.clap.specs.Walk.{settled, short_or_plain, subcommand_or_other, trailing, walked}
use Rattle.clap.proofs.OnLiterals.{clap_on_literals}
use Rattle.clap.proofs.WalkLemmas.{walk_stopped}
use Rattle.command_arguments.specs.ArgumentWords.{flags_in, plain_in}
use Rattle.command_arguments.specs.Arguments.{Line, arguments_fault, commands, line_of, venue_app}
use Rattle.command_arguments.proofs.TableEnds.{Ends, ends, leaf_kinds, leaf_rows}
use Rattle.command_arguments.proofs.TableSpots.{before, fits_first, walk_at}
use Rattle.command_arguments.proofs.WordLemmas.{neither, never, or_nothing}
use Rattle.command_arguments.proofs.CommandShapes.{leaf_shape, top_shape, top_rules, help_leaf}
use Rattle.command_arguments.proofs.CommandShapes.{label, names, subs_are, by_name, IsNamed}

-- ---- a command's name, and the words behind it

abbrev pub start : Walk
start = walk_at (before []) false

stopped_none : (name : Text) (seen rest : List Text) → walk_fault top_shape names (record start { stopped = Some (name, seen) }) rest ≡ []
unfolding walk_fault walked
stopped_none name seen [] = refl
stopped_none name seen (argument ∷ rest) = stopped_none name (seen ++ argument ∷ []) rest

-- what is wrong at the top, by what is behind the name
abbrev whole : Kinds → Walk → Kinds
whole behind w =
    or_else behind
    (or_else (entered_fault (built venue_app) w.stopped)
    (or_else (settle_fault top_rules false w.held)
    (or_else (defaults_fault (settled top_rules w.held).rows top_rules) (check_fault top_shape (finished top_rules w.held) (is_some (entered (built venue_app) w.stopped))))))

-- the first word is a command's name
module _ (argument : Text) (rest : List Text) (l : Line) (found : line_of argument commands ≡ Some l) (is : IsNamed argument l) where
  name_met : find (answers_to argument) names ≡ Some (label l)
  name_met = by_name label (answers_to argument) ((codes "help", []) ∷ []) argument (λ m. or-false (bytes_eq m.name argument)) commands
      ∙ ap (λ o. option_map_or (λ m. Some (label m)) o (find (answers_to argument) ((codes "help", []) ∷ []))) found

  leaf_met : find (λ s. answers_to argument (label_of s)) (built venue_app).subs ≡ Some (leaf_shape l)
  leaf_met = ap (find (λ s. answers_to argument (label_of s))) subs_are
      ∙ by_name leaf_shape (λ s. answers_to argument (label_of s)) (help_leaf ∷ []) argument (λ m. or-false (bytes_eq m.name argument)) commands
      ∙ ap (λ o. option_map_or (λ m. Some (leaf_shape m)) o (find (λ s. answers_to argument (label_of s)) (help_leaf ∷ []))) found

  abbrev stopped : Walk
  stopped = record start { stopped = Some (argument, rest) }

  first_walk : walked top_rules names start argument ≡ record start { stopped = Some (argument, []) }
  unfolding walked
  first_walk =
      ap (λ (o : Option (Text × List Text)). let met = subcommand_or_other top_rules (option_map (λ s. s.0) o) idle 1 argument nothing_held in
      after_step top_rules argument start met.0 met.1) name_met
      ∙ ap (λ (n : Text). record start { stopped = Some (n, []) }) is.name_is

  first_fault : turn_fault top_shape names start argument ≡ []
  first_fault =
      ap (λ (o : Option (Text × List Text)). let met = subcommand_or_other top_rules (option_map (λ s. s.0) o) idle 1 argument nothing_held in
      or_else (other_fault top_shape (option_map (λ s. s.0) o) argument nothing_held) (step_fault top_shape 1 met.0 met.1)) name_met
      ∙ ap (λ b. or_else (if b && true then kind.DisplayHelp ∷ kind.InvalidSubcommand ∷ [] else []) []) is.no_help

  whole_walk : fold (walked top_rules names) start (argument ∷ rest) ≡ stopped
  whole_walk = ap (λ (w : Walk). fold (walked top_rules names) w rest) first_walk ∙ sym (walk_stopped top_rules names start argument [] rest)

  whole_fault : walk_fault top_shape names start (argument ∷ rest) ≡ []
  unfolding walk_fault
  whole_fault = ap₂ (λ (ks : Kinds) (w : Walk). or_else ks (walk_fault top_shape names w rest)) first_fault first_walk ∙ stopped_none argument [] rest

  -- what is wrong, by the command that is found
  abbrev found_fault : Option Shape → Kinds
  found_fault o =
      or_else (option_map_or (λ s. level_fault s [] nothing_held rest false []) o [])
      (or_else (settle_fault top_rules false nothing_held)
      (or_else (defaults_fault (settled top_rules nothing_held).rows top_rules)
      (check_fault top_shape (finished top_rules nothing_held) (is_some (option_map (λ s. rows_at s rest) o)))))

  pub named_fault : arguments_fault (argument ∷ rest) ≡ leaf_kinds l.flags l.words l.name rest start
  unfolding arguments_fault clap_on_literals
  named_fault = ap₂ whole whole_fault whole_walk ∙ ap found_fault leaf_met ∙ or_nothing (leaf_kinds l.flags l.words l.name rest start)

  pub named_rows : subcommand_of venue_app (argument ∷ rest) ≡ Some (l.name, leaf_rows l.flags l.words rest start)
  named_rows =
      ap (λ (w : Walk). entered (built venue_app) w.stopped) whole_walk ∙ ap (λ o. option_map (λ s. rows_at s rest) o) leaf_met

  pub named_ends : Ends l.flags l.words (plain_in rest) (flags_in rest) (leaf_kinds l.flags l.words l.name rest start) (leaf_rows l.flags l.words rest start)
  named_ends = ends l.flags l.words l.name rest (before []) false is.names (fits_first l.flags l.words)

-- ---- the first word, where it is no command's name

abbrev found_above : Bool → Bool → Option Rule
found_above a b = cond (a || false) (slice_get top_rules 0) (cond (b || false) (slice_get top_rules 1) None)

above_long : (v : Option Text) (a b : Bool) → long_fault top_rules false (found_above a b) v nothing_held ≡ [] → ⊥
unfolding clap_on_literals
above_long v false false e = never kind.UnknownArgument [] e
above_long (Some x) false true e = never kind.TooManyValues [] e
above_long None false true e = never kind.DisplayVersion [] e
above_long (Some x) true b e = never kind.TooManyValues [] e
above_long None true b e = never kind.DisplayHelp [] e

above_short : (a b : Bool) (rest : Text) (next : Held → Kinds) → short_fault top_rules false (found_above a b) rest nothing_held next ≡ [] → ⊥
above_short false false rest next e = never kind.UnknownArgument [] e
above_short false true rest next e = never kind.DisplayVersion [] e
above_short true b rest next e = never kind.DisplayHelp [] e

above_char : (argument flags : Text) (k : ℕ) (x : Option ℕ)
    → (let met = bundle_step top_rules x flags 0 plain nothing_held (bundle_met top_rules k) in
    let after = after_flag top_rules idle argument met.0 met.1 in
    or_else (bundle_step_fault top_rules false x flags 0 nothing_held (flags_fault top_rules false k)) (step_fault top_shape 1 after.0 after.1)) ≡ [] → ⊥
above_char argument flags k None e = never kind.UnknownArgument (kind.InvalidSubcommand ∷ []) e
above_char argument flags k (Some x) e = above_short (104 == x) (86 == x) _ _ (neither _ _ e).0

above_bundle : (argument flags : Text) (n : ℕ)
    → (let met = bundle_met top_rules n flags 0 plain nothing_held in
    let after = after_flag top_rules idle argument met.0 met.1 in
    or_else (flags_fault top_rules false n flags 0 nothing_held) (step_fault top_shape 1 after.0 after.1)) ≡ [] → ⊥
unfolding bundle_met flags_fault
above_bundle argument flags zero e = never kind.UnknownArgument (kind.InvalidSubcommand ∷ []) e
above_bundle argument flags (suc k) e = above_char argument flags k (slice_get (chars flags) 0) e

above_rest : (argument : Text) (q : Option Text)
    → (let met = short_or_plain top_rules idle argument q nothing_held in
    or_else (option_map_or (λ flags. flags_fault top_rules false (length flags) flags 0 nothing_held) q []) (step_fault top_shape 1 met.0 met.1)) ≡ [] → ⊥
above_rest argument None e = never kind.UnknownArgument (kind.InvalidSubcommand ∷ []) e
above_rest argument (Some flags) e = above_bundle argument flags (length flags) e

above_word : (argument : Text) (o : Option (Text × Option Text))
    → (let met = long_or_other top_rules idle argument o nothing_held in
    or_else (flag_word_fault top_rules false o argument nothing_held) (step_fault top_shape 1 met.0 met.1)) ≡ [] → ⊥
above_word argument (Some p) e = above_long p.1 (bytes_eq (codes "help") p.0) (bytes_eq (codes "version") p.0) (neither _ _ e).0
above_word argument None e = above_rest argument (short_of argument) e

above_dashes : (argument : Text) (b : Bool)
    → (let met = if b then (nothing_held, trailing 1) else long_or_other top_rules idle argument (long_of argument) nothing_held in
    or_else (if b then [] else flag_word_fault top_rules false (long_of argument) argument nothing_held) (step_fault top_shape 1 met.0 met.1)) ≡ []
    → b ≡ true
above_dashes argument true e = refl
above_dashes argument false e = absurd (above_word argument (long_of argument) e)

-- what is wrong with a first word, by the subcommand that it names
abbrev first_kinds : Text → Option (Text × List Text) → Kinds
first_kinds argument o =
    let met = subcommand_or_other top_rules (option_map (λ s. s.0) o) idle 1 argument nothing_held in
    or_else (other_fault top_shape (option_map (λ s. s.0) o) argument nothing_held) (step_fault top_shape 1 met.0 met.1)

only_dashes : (argument : Text) (b : Bool) → first_kinds argument (cond (b || false) (Some (codes "help", [])) None) ≡ [] → argument ≡ codes "--"
only_dashes argument true e = absurd (never kind.DisplayHelp (kind.InvalidSubcommand ∷ []) e)
only_dashes argument false e = (bytes_eq-Decides argument (codes "--")).0 (above_dashes argument (bytes_eq argument (codes "--")) e)

first_dashes : (rest : List Text) → arguments_fault (codes "--" ∷ rest) ≡ [] → ⊥
unfolding clap_on_literals arguments_fault
first_dashes [] e = never kind.MissingSubcommand [] e
first_dashes (argument ∷ rest) e = never kind.UnknownArgument (kind.InvalidSubcommand ∷ []) e

first_none : (argument : Text) (rest : List Text) → arguments_fault (argument ∷ rest) ≡ [] → turn_fault top_shape names start argument ≡ []
unfolding arguments_fault walk_fault
first_none argument rest e = (neither _ _ (neither _ _ e).0).0

-- where nothing is wrong, the first word is a command's name
pub unnamed : (argument : Text) (rest : List Text) → line_of argument commands ≡ None → arguments_fault (argument ∷ rest) ≡ [] → ⊥
unnamed argument rest lost e =
    let met : find (answers_to argument) names ≡ cond (bytes_eq (codes "help") argument || false) (Some (codes "help", [])) None =
    by_name label (answers_to argument) ((codes "help", []) ∷ []) argument (λ m. or-false (bytes_eq m.name argument)) commands
    ∙ ap (λ o. option_map_or (λ m. Some (label m)) o (find (answers_to argument) ((codes "help", []) ∷ []))) lost in
    let dashes = only_dashes argument (bytes_eq (codes "help") argument) (ap (first_kinds argument) (sym met) ∙ first_none argument rest e) in
    first_dashes rest (subst (λ (w : Text). arguments_fault (w ∷ rest) ≡ []) dashes e)
