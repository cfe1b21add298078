-- The commands as clap builds them, and the line of a table that has a name.
use Rattle.std.proofs.Common.{◌≡◌, ◌∙◌, ◌&&◌, refl, sym, ap, ap₂, subst, Bool, true, false, List}
use Rattle.std.proofs.Common.{[], ◌∷◌, ◌++◌, map, Some, cond, not, codes, fold}
use Rattle.std.proofs.lemmas.Bool.{and_parts, not-true}
use Rattle.std.proofs.lemmas.List.{append-nil, append_assoc}
use Rattle.std.proofs.lemmas.Slice.Eq.{bytes_eq-Decides}
use Rattle.std.specs.List.{list_all}
use Rattle.std.specs.Option.{option_map_or}
use Rattle.std.specs.Prelude.{find, unwrap_or}
use Rattle.std.specs.Str.{bytes_eq}
use Rattle.clap.specs.Lexer.{has_byte}
use Rattle.clap.specs.Simple.{App, Shape, built, built_leaf, filled_from, help_rule, help_shape}
use Rattle.clap.specs.Simple.{inherited, new_app, on_top, with_rule}
use Rattle.clap.specs.Walk.{Names, Rule, Text}
use Rattle.command_arguments.specs.ArgumentWords.{is_among}
use Rattle.command_arguments.specs.Arguments.{Line, commands, flag_rule, line_app, line_of}
use Rattle.command_arguments.specs.Arguments.{venue_app, argument_rules}
use Rattle.command_arguments.proofs.TableRows.{firm, rules_are, rules_of}
use Rattle.command_arguments.proofs.TableFlags.{AreNames}
use Rattle.command_arguments.proofs.TableSpots.{above, shape}

-- ---- the commands as clap builds them

-- a command with rules more

ruled : (app : App) (rules : List Rule) → fold with_rule app rules ≡ on_top (λ s. record s { rules = s.rules ++ rules }) app
ruled app [] = ap (λ rs. on_top (λ s. record s { rules = rs }) app) (sym (append-nil app.top.rules))
ruled app (rule ∷ rules) =
    ruled (with_rule app rule) rules ∙ ap (λ rs. on_top (λ s. record s { rules = rs }) app) (append_assoc app.top.rules (rule ∷ []) rules)

-- a command of the table, as it is built
abbrev leaf : Line → Shape
leaf l = built_leaf (inherited above (line_app l).top)

abbrev pub leaf_shape : Line → Shape
leaf_shape l = shape l.name (rules_of l.flags l.words)

leaf_is : (l : Line) → leaf l ≡ leaf_shape l
leaf_is l =
    ap (λ (a : App). built_leaf (inherited above a.top)) (ruled (new_app l.name) (map flag_rule l.flags ++ argument_rules l.words))
    ∙ ap (λ rs. shape l.name (filled_from 1 rs)) (append_assoc (map flag_rule l.flags) (argument_rules l.words) (help_rule ∷ []))
    ∙ ap (shape l.name) (rules_are l.flags (argument_rules l.words ++ help_rule ∷ []))

leaves_are : (lines : List Line) → map leaf lines ≡ map leaf_shape lines
leaves_are [] = refl
leaves_are (l ∷ lines) = ap₂ (λ (s : Shape) (rest : List Shape). s ∷ rest) (leaf_is l) (leaves_are lines)

abbrev pub top_shape : Shape
top_shape = (built venue_app).top

abbrev pub top_rules : List Rule
top_rules = top_shape.rules

abbrev pub help_leaf : Shape
help_leaf = built_leaf help_shape

abbrev pub label : Line → Text × List Text
label l = (l.name, [])

abbrev pub names : Names
names = map label commands ++ (codes "help", []) ∷ []

pub subs_are : (built venue_app).subs ≡ map leaf_shape commands ++ help_leaf ∷ []
subs_are = ap (λ (shapes : List Shape). shapes ++ help_leaf ∷ []) (leaves_are commands)

-- ---- a line by its name

module _ {X : Type 0} (f : Line → X) (p : X → Bool) (rest : List X) (name : Text) (same : (l : Line) → p (f l) ≡ bytes_eq l.name name) where
  pub by_name : (lines : List Line) → find p (map f lines ++ rest) ≡ option_map_or (λ l. Some (f l)) (line_of name lines) (find p rest)
  by_name [] = refl
  by_name (l ∷ lines) = ap (λ b. cond b (Some (f l)) (find p (map f lines ++ rest))) (same l) ∙ go (bytes_eq l.name name) (by_name lines)
    where
      go : (b : Bool) → find p (map f lines ++ rest) ≡ option_map_or (λ l. Some (f l)) (line_of name lines) (find p rest)
          → cond b (Some (f l)) (find p (map f lines ++ rest)) ≡ option_map_or (λ m. Some (f m)) (cond b (Some l) (line_of name lines)) (find p rest)
      go true others = refl
      go false others = others

-- what each line of a table has to be
abbrev pub is_lawful : Line → Bool
is_lawful l =
    not (bytes_eq l.name (codes "help")) && (list_all (λ name. not (has_byte 61 name)) l.flags
    && (not (is_among firm l.flags) && not (is_among (codes "help") l.flags)))

pub record IsNamed (name : Text) (l : Line) : Type 0 where
  pub name_is : l.name ≡ name
  pub no_help : bytes_eq l.name (codes "help") ≡ false
  pub names : AreNames l.flags

pub is_named : (name : Text) (lines : List Line) (l : Line) → list_all is_lawful lines ≡ true → line_of name lines ≡ Some l → IsNamed name l
is_named name [] l lawful found = cc
is_named name (first ∷ lines) l lawful found = go (bytes_eq first.name name) refl found (is_named name lines l parts.1)
  where
    parts : (is_lawful first ≡ true) × (list_all is_lawful lines ≡ true)
    parts = and_parts (is_lawful first) _ lawful

    lawful_first : IsNamed first.name first
    lawful_first =
        let one = and_parts (not (bytes_eq first.name (codes "help"))) _ parts.0 in
        let two = and_parts (list_all (λ name. not (has_byte 61 name)) first.flags) _ one.1 in
        let three = and_parts (not (is_among firm first.flags)) _ two.1 in
        record {
          name_is = refl;
          no_help = not-true _ one.0;
          names = record { plain = two.0; no_firm = not-true _ three.0; no_help = not-true _ three.1 };
        }

    go : (b : Bool) → bytes_eq first.name name ≡ b → cond b (Some first) (line_of name lines) ≡ Some l → (line_of name lines ≡ Some l → IsNamed name l) → IsNamed name l
    go true same is others =
        let one : first ≡ l = ap (λ o. unwrap_or o l) is in
        subst (IsNamed name) one (record { name_is = (bytes_eq-Decides first.name name).0 same; no_help = lawful_first.no_help; names = lawful_first.names })
    go false same is others = others is
