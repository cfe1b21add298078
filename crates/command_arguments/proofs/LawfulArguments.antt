-- Which arguments are a command, as clap reads them.
use Rattle.std.proofs.Common.{◌≡◌, ◌∙◌, ◌↔◌, ◌<◌, arith, refl, sym, ap, ap₂, subst, inl, inr, Bool}
use Rattle.std.proofs.Common.{true, false, List, [], ◌∷◌, length, map, Option, Some, None, cond}
use Rattle.std.proofs.Common.{codes}
use Rattle.std.proofs.lemmas.Bool.{false≢true}
use Rattle.std.specs.List.{list_all}
use Rattle.std.specs.Prelude.{if◌then◌else◌, is_some, option_and_then, slice_get, unwrap_or}
use Rattle.std.specs.Str.{bytes_eq}
use Rattle.clap.specs.Kinds.{Kinds}
use Rattle.clap.specs.Simple.{subcommand_of}
use Rattle.clap.specs.Walk.{Row, Text, first_of, one_of}
use Rattle.command_arguments.specs.ArgumentWords.{flags_in, given, plain_in}
use Rattle.command_arguments.specs.Arguments.{Line, arguments_fault, asked_by, command_of, commands}
use Rattle.command_arguments.specs.Arguments.{line_of, named_command, venue_app}
use Rattle.command_arguments.specs.declared.command.Flags.{Flags}
use Rattle.command_arguments.proofs.TableEnds.{AreRead, Ends, Reads, are_lawful, leaf_rows}
use Rattle.command_arguments.proofs.TableRows.{firm}
use Rattle.command_arguments.proofs.CommandShapes.{is_lawful, is_named}
use Rattle.command_arguments.proofs.CommandNames.{start, named_fault, named_rows, named_ends}
use Rattle.command_arguments.proofs.CommandNames.{unnamed}

-- ---- which arguments are a command

lines_are_lawful : list_all is_lawful commands ≡ true
lines_are_lawful = refl

some_lawful : (b : Bool) {X : Type 0} (x : X) → (b ≡ true) ↔ (is_some (if b then Some x else None) ≡ true)
some_lawful true x = (λ e. refl, λ e. refl)
some_lawful false x = (λ e. e, λ e. e)

none_wrong : (own : List Text) (words : _) (given flags : List Text) (kinds : Kinds) (rows : List Row) (b : Bool) → are_lawful own words given flags ≡ b
    → Ends own words given flags kinds rows → (kinds ≡ []) ↔ (b ≡ true)
none_wrong own words given flags kinds rows true is e = (λ none. refl, λ yes. (e.1 is).0)
none_wrong own words given flags kinds rows false is e = (λ none. absurd (e.0 is none), λ yes. absurd (false≢true yes))

abbrev Law : Text → List Text → Option Line → Type 0
Law argument rest o =
    (arguments_fault (argument ∷ rest) ≡ []) ↔ (is_some (option_and_then (asked_by (plain_in rest) (flags_in rest)) o) ≡ true)

law_by : (argument : Text) (rest : List Text) (o : Option Line) → line_of argument commands ≡ o → Law argument rest o
law_by argument rest None lost = (λ e. absurd (unnamed argument rest lost e), λ e. absurd (false≢true e))
law_by argument rest (Some l) found =
    let is = is_named argument commands l lines_are_lawful found in
    let lawful = are_lawful l.flags l.words (plain_in rest) (flags_in rest) in
    let none = none_wrong l.flags l.words _ _ _ _ lawful refl (named_ends argument rest l found is) in
    let some = some_lawful lawful (l.asks (slice_get (plain_in rest) 0) (given (flags_in rest))) in
    (λ e. some.0 (none.0 (sym (named_fault argument rest l found is) ∙ e)), λ e. named_fault argument rest l found is ∙ none.1 (some.1 e))

pub lawful_arguments : (argument : Text) (rest : List Text)
    → (arguments_fault (argument ∷ rest) ≡ []) ↔ (is_some (command_of (argument ∷ rest)) ≡ true)
lawful_arguments argument rest = law_by argument rest (line_of argument commands) refl

-- ---- what was found for a command

-- whether a flag was given, by its text
abbrev pub FlagIs : Option Text → Bool → Type 0
FlagIs text given =
    ((text ≡ None) → given ≡ false) × ((text ≡ Some (codes "true")) → given ≡ true) × ((text ≡ Some (codes "false")) → given ≡ false)

same_flag : (text : Option Text) (there found : Bool) → Reads text there → FlagIs text found → found ≡ there
same_flag text true found reads is = is.1 (reads.0 refl)
same_flag text false found reads is = elim (reads.1 refl) [
  | inl given ↦ is.2 given
  | inr none ↦ is.0 none
]

-- the flags that were found
pub record AreFound (flags : Flags) (rows : List Row) : Type 0 where
  pub frames : FlagIs (one_of (codes "frames") rows) flags.frames
  pub woven : FlagIs (one_of (codes "woven") rows) flags.woven
  pub marks : FlagIs (one_of (codes "marks") rows) flags.marks
  pub notes : FlagIs (one_of (codes "notes") rows) flags.notes
  pub live : FlagIs (one_of (codes "live") rows) flags.live
  pub investor : FlagIs (one_of (codes "investor") rows) flags.investor

abbrev these_flags : Bool → Bool → Bool → Bool → Bool → Bool → Flags
these_flags frames woven marks notes live investor =
    record { frames = frames; woven = woven; marks = marks; notes = notes; live = live; investor = investor }

same_flags : (words given_flags : List Text) (rows : List Row) (flags : Flags) → AreRead words given_flags rows → AreFound flags rows → flags ≡ given given_flags
same_flags words given_flags rows flags read found =
    let frames = same_flag _ _ flags.frames (read.flag (codes "frames") refl) found.frames in
    let woven = same_flag _ _ flags.woven (read.flag (codes "woven") refl) found.woven in
    let marks = same_flag _ _ flags.marks (read.flag (codes "marks") refl) found.marks in
    let notes = same_flag _ _ flags.notes (read.flag (codes "notes") refl) found.notes in
    let live = same_flag _ _ flags.live (read.flag (codes "live") refl) found.live in
    let investor = same_flag _ _ flags.investor (read.flag (codes "investor") refl) found.investor in
    let same = given given_flags in
    ap₂ (λ f w. these_flags f w flags.marks flags.notes flags.live flags.investor) frames woven
    ∙ ap₂ (λ m n. these_flags same.frames same.woven m n flags.live flags.investor) marks notes
    ∙ ap₂ (these_flags same.frames same.woven same.marks same.notes) live investor

-- each command of a table asks for what its name does
abbrev AskByName : List Line → Type 0
AskByName [] = Unit {0}
AskByName (l ∷ lines) = ((argument : Option Text) (flags : Flags) → l.asks argument flags ≡ named_command l.name argument flags) × AskByName lines

asks_by_name : (name : Text) (lines : List Line) (l : Line) → AskByName lines → line_of name lines ≡ Some l → (argument : Option Text) (flags : Flags)
    → l.asks argument flags ≡ named_command l.name argument flags
asks_by_name name [] l all found argument flags = cc
asks_by_name name (first ∷ lines) l all found argument flags =
    go (bytes_eq first.name name) found (λ others. asks_by_name name lines l all.1 others argument flags)
  where
    go : (b : Bool) → cond b (Some first) (line_of name lines) ≡ Some l → (line_of name lines ≡ Some l → l.asks argument flags ≡ named_command l.name argument flags)
        → l.asks argument flags ≡ named_command l.name argument flags
    go true is others =
        subst (λ (m : Line). m.asks argument flags ≡ named_command m.name argument flags) (ap (λ o. unwrap_or o l) is) (all.0 argument flags)
    go false is others = others is

commands_ask : AskByName commands
commands_ask = (
  λ argument flags. refl,
  (
    λ argument flags. refl,
    (
      λ argument flags. refl,
      (
        λ argument flags. refl,
        (
          λ argument flags. refl,
          (λ argument flags. refl, (λ argument flags. refl, (λ argument flags. refl, tt))),
        ),
      ),
    ),
  ),
)

-- the command that is asked for, by what was found
abbrev pub IsAsked : List Text → Text → List Row → Flags → Type 0
IsAsked arguments name rows flags = command_of arguments ≡ Some (named_command name (first_of firm rows) flags)

asked_by_rows : (argument : Text) (rest : List Text) (o : Option Line) → line_of argument commands ≡ o → arguments_fault (argument ∷ rest) ≡ []
    → (met : Text × List Row) → subcommand_of venue_app (argument ∷ rest) ≡ Some met → (flags : Flags) → AreFound flags met.1
    → IsAsked (argument ∷ rest) met.0 met.1 flags
asked_by_rows argument rest None lost none met met_is flags found = absurd (unnamed argument rest lost none)
asked_by_rows argument rest (Some l) named none met met_is flags found =
    let is = is_named argument commands l lines_are_lawful named in
    let lawful = are_lawful l.flags l.words (plain_in rest) (flags_in rest) in
    let ends_is = named_ends argument rest l named is in
    let lawful_is = (none_wrong l.flags l.words _ _ _ _ lawful refl ends_is).0 (sym (named_fault argument rest l named is) ∙ none) in
    let read = (ends_is.1 lawful_is).1 in
    let same : (l.name, leaf_rows l.flags l.words rest start) ≡ met =
    ap (λ (o : Option (Text × List Row)). unwrap_or o met) (sym (named_rows argument rest l named is) ∙ met_is) in
    subst (λ (m : Text × List Row). AreFound flags m.1 → IsAsked (argument ∷ rest) m.0 m.1 flags) same
    (λ these.
    ap (option_and_then (asked_by (plain_in rest) (flags_in rest))) named
    ∙ ap (λ b. if b then Some (l.asks (slice_get (plain_in rest) 0) (given (flags_in rest))) else None) lawful_is
    ∙ ap₂ (λ w f. Some (l.asks w f)) (sym read.argument) (sym (same_flags (plain_in rest) (flags_in rest) _ flags read these))
    ∙ ap (λ c. Some c) (asks_by_name argument commands l commands_ask named _ flags)) found

pub arguments_read : {A : Type 0} (text : A → Text) (arguments : List A) → 0 < length arguments → arguments_fault (map text arguments) ≡ []
    → (met : Text × List Row) → subcommand_of venue_app (map text arguments) ≡ Some met → (flags : Flags) → AreFound flags met.1
    → IsAsked (map text arguments) met.0 met.1 flags
arguments_read text [] some none met found flags given = absurd (omega arith)
arguments_read text (argument ∷ arguments) some none met found flags given =
    asked_by_rows (text argument) (map text arguments) (line_of (text argument) commands) refl none met found flags given
