-- Commands that are built of a table, and what clap found for a subcommand.
use Rattle.std.proofs.Common.{◌≡◌, ◌∙◌, ◌||◌, ◌<◌, ◌+◌, ℕ, refl, sym, ap, ap₂, List, [], ◌∷◌, Option, Some, None}
use Rattle.std.proofs.Common.{false, fold, get_or, length, map, take}
use Rattle.std.proofs.lemmas.List.{map-append, take_more}
use Rattle.std.proofs.lemmas.List.Sums.{fold-append}
use Rattle.std.specs.Prelude.{Box, option_map, unwrap_or}
use Rattle.std.specs.Box.{box_value}
use Rattle.clap.specs.Built.{AddsArg, AddsSubcommand}
use Rattle.clap.specs.Simple.{App, subcommand_rows, with_rule, with_subcommand}
use Rattle.clap.specs.Walk.{Row, Rule, Text, rule_of}
use Rattle.clap.specs.declared.builder.arg.Arg.{Arg}
use Rattle.clap.specs.declared.builder.command.Command.{Command}
use Rattle.clap.specs.declared.parser.matches.ArgMatches.TheViews.{out-SubCommand}
use Rattle.clap.specs.declared.parser.matches.SubCommand.{SubCommand}
use Rattle.command_arguments.specs.Arguments.{IsAppOf, flag_rule}
use Rattle.command_arguments.specs.declared.table.FlagLine.{FlagLine}

-- a command with one argument more
pub ruled_is : (app : App) (rule : Rule) (old : Command) (arg : Arg) (new : Command) → IsAppOf app old → rule_of arg ≡ rule → arg.global ≡ false
    → AddsArg old arg new → IsAppOf (with_rule app rule) new
ruled_is app rule old arg new is ruled own added = (
  added.shape own ∙ ap₂ with_rule is.0 ruled,
  added.globals ∙ ap₂ (λ a b. a || b) is.1 own,
)

-- a command with one subcommand more
pub added_is : (app sub_app : App) (old sub new : Command) → IsAppOf app old → IsAppOf sub_app sub → AddsSubcommand old sub new
    → IsAppOf (with_subcommand app sub_app.top) new
added_is app sub_app old sub new old_is sub_is added = (
  added.shape sub_is.1 ∙ ap₂ with_subcommand old_is.0 (ap (λ (a : App). a.top) sub_is.0),
  added.globals ∙ ap₂ (λ a b. a || b) old_is.1 sub_is.1,
)

abbrev pub flag_rules : List FlagLine → List Rule
flag_rules flags = map flag_rule (map (λ flag. flag.name.now) flags)

-- one flag more
pub flag_more : (app : App) (flags : List FlagLine) (i : ℕ) (d : FlagLine) → i < length flags
    → fold with_rule app (flag_rules (take (i + 1) flags)) ≡ with_rule (fold with_rule app (flag_rules (take i flags))) (flag_rule (get_or flags i d).name.now)
flag_more app flags i d within =
    ap (λ l. fold with_rule app (flag_rules l)) (take_more flags i d within)
    ∙ ap (λ l. fold with_rule app (map flag_rule l)) (map-append (λ (flag : FlagLine). flag.name.now) (take i flags) (get_or flags i d ∷ []))
    ∙ ap (λ l. fold with_rule app l) (map-append flag_rule (map (λ (flag : FlagLine). flag.name.now) (take i flags)) ((get_or flags i d).name.now ∷ []))
    ∙ fold-append with_rule app (flag_rules (take i flags)) (flag_rule (get_or flags i d).name.now ∷ [])

-- the name of what was found
pub names_alike : {Z : Type 0} (o : Option (Box SubCommand Z))
    → option_map (λ b. (out-SubCommand (box_value b)).name.now) o ≡ option_map (λ (p : Text × List Row). p.0) (subcommand_rows o)
names_alike None = refl
names_alike (Some b) = refl

pub found_both : (met : Option (Text × List Row)) (name : Text) (rows : List Row) → Some name ≡ option_map (λ p. p.0) met
    → Some rows ≡ option_map (λ p. p.1) met → met ≡ Some (name, rows)
found_both None name rows a b = cc
found_both (Some p) name rows a b =
    ap₂ (λ (n : Text) (r : List Row). Some (n, r)) (ap (λ (o : Option Text). unwrap_or o name) (sym a)) (ap (λ (o : Option (List Row)). unwrap_or o rows) (sym b))
