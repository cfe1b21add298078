use Rattle.std.proofs.Common.{◌≡◌, ◌∙◌, refl, sym, ap, subst, Bool, true, false, List, [], map}
use Rattle.std.proofs.Common.{Some, None, Result, Ok, Err, codes}
use Rattle.std.specs.Prelude.{IfErr, IsErrAnd, option_map}
use Rattle.clap.specs.declared.error.Error.{Error}
use Rattle.clap.specs.Words.{HasKind, Row, Text, app_of, fault_of, found_of, is_simple, rows_of}
use Rattle.clap.specs.Words.{is_simple_and_free, one_of, one_text, subcommand_of}
use Rattle.clap.specs.declared.parser.matches.Found.{Found}
use Rattle.clap.proofs.OnLiterals.{clap_on_literals}
use Rattle.clap.proofs.WalkLemmas.{first_value-rows, one_text-rows}
use Rattle.command_arguments.specs.Arguments.{arguments_fault, named_command, venue_app}
use Rattle.command_arguments.specs.declared.command.Flags.{Flags}
use Rattle.command_arguments.specs.declared.command.VenueCommand.{VenueCommand}
use Rattle.command_arguments.proofs.AppLemmas.{found_both, names_alike}
use Rattle.command_arguments.proofs.LawfulArguments.{FlagIs, arguments_read}
use Rattle.command_arguments.proofs.command.read_command.Goals as goal

is_free : is_simple_and_free venue_app ≡ true
unfolding clap_on_literals
is_free = refl

is_simple_too : is_simple venue_app ≡ true
unfolding clap_on_literals
is_simple_too = refl

same_error : (P : Error → Type 0) (r : Result VenueCommand Error) (e : Error) → IsErrAnd r (λ f. f ≡ e) → P e → IfErr r P
same_error P (Ok x) e h p = tt
same_error P (Err f) e h p = subst P (sym h) p

flag_is : (found : Found) (name : Text) (given : Bool) → (one_text found name ≡ None → given ≡ false) → (one_text found name ≡ Some (codes "true") → given ≡ true)
    → (one_text found name ≡ Some (codes "false") → given ≡ false) → FlagIs (one_of name (rows_of found)) given
flag_is found name given none value other = (
  λ e. none (one_text-rows found name ∙ e),
  λ e. value (one_text-rows found name ∙ e),
  λ e. other (one_text-rows found name ∙ e),
)

pub returns-in_err-matches-clause-err : goal.returns-in_err-matches-clause-err
unfolding arguments_fault
returns-in_err-matches-clause-err g c =
    let app_is : app_of c.in_ok-venue_command.field-0 ≡ venue_app = c.in_ok-venue_command.ensures.0 in
    let words = map g.S.AsStr.text c.args.arguments.now in
    let kind = c.in_err-matches.ensures.kinds (ap is_simple_and_free app_is ∙ is_free) in
    same_error (HasKind (fault_of venue_app words)) c.from_residual-in_err-matches.result c.in_err-matches.field-0.0 c.from_residual-in_err-matches.ensures.1
    (subst (λ a. HasKind (fault_of a words) c.in_err-matches.field-0.0) app_is kind)

pub returns-clause-none : goal.returns-clause-none
unfolding arguments_fault
returns-clause-none g c =
    let app_is : app_of c.in_ok-venue_command.field-0 ≡ venue_app = c.in_ok-venue_command.ensures.0 in
    ap (λ a. fault_of a (map g.S.AsStr.text c.args.arguments.now)) (sym app_is) ∙ c.in_ok-matches.ensures.kinds (ap is_simple_and_free app_is ∙ is_free)

pub returns-clause-ok : goal.returns-clause-ok
unfolding arguments_fault
returns-clause-ok g c =
    let app_is : app_of c.in_ok-venue_command.field-0 ≡ venue_app = c.in_ok-venue_command.ensures.0 in
    let words = map g.S.AsStr.text c.args.arguments.now in
    let none : arguments_fault words ≡ [] = ap (λ a. fault_of a words) (sym app_is) ∙ c.in_ok-matches.ensures.kinds (ap is_simple_and_free app_is ∙ is_free) in
    let matches = c.in_ok-matches.ensures.matches (ap is_simple app_is ∙ is_simple_too) in
    let met = matches.1 ∙ ap (λ a. subcommand_of a words) app_is in
    let found = found_of c.in-Some.words.now in
    let name_is = c.in-Some.ensures.name ∙ names_alike _ ∙ ap (option_map (λ (p : Text × List Row). p.0)) met in
    let rows_are = c.in-Some.ensures.rows ∙ ap (option_map (λ (p : Text × List Row). p.1)) met in
    let flags : Flags = record { frames = c.get_flag-frames.result; woven = c.get_flag-woven.result; marks = c.get_flag-marks.result; notes = c.get_flag-notes.result; live = c.get_flag-live.result; investor = c.get_flag-investor.result } in
    let asked = arguments_read g.S.AsStr.text c.args.arguments.now c.requires none (c.in-Some.name.now, rows_of found)
    (found_both (subcommand_of venue_app words) c.in-Some.name.now (rows_of found) name_is rows_are) flags
    (record {
      frames = flag_is found (codes "frames") c.get_flag-frames.result c.get_flag-frames.ensures.none c.get_flag-frames.ensures.value c.get_flag-frames.ensures.other;
      woven = flag_is found (codes "woven") c.get_flag-woven.result c.get_flag-woven.ensures.none c.get_flag-woven.ensures.value c.get_flag-woven.ensures.other;
      marks = flag_is found (codes "marks") c.get_flag-marks.result c.get_flag-marks.ensures.none c.get_flag-marks.ensures.value c.get_flag-marks.ensures.other;
      notes = flag_is found (codes "notes") c.get_flag-notes.result c.get_flag-notes.ensures.none c.get_flag-notes.ensures.value c.get_flag-notes.ensures.other;
      live = flag_is found (codes "live") c.get_flag-live.result c.get_flag-live.ensures.none c.get_flag-live.ensures.value c.get_flag-live.ensures.other;
      investor = flag_is found (codes "investor") c.get_flag-investor.result c.get_flag-investor.ensures.none c.get_flag-investor.ensures.value c.get_flag-investor.ensures.other;
    }) in
    let firm = c.get_str.ensures ∙ first_value-rows found (codes "firm") in
    asked ∙ ap (λ argument. Some (named_command c.in-Some.name.now argument flags)) (sym firm) ∙ ap (λ command. Some command) (sym c.command_named-command.ensures)
