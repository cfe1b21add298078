-- What `alone` prints, by whose due text it is.
use Rattle.std.proofs.Common.{◌≡◌, ◌≤◌, ℕ, Bool, false, List, length, nat_lt, Option, Some, cond}
use Rattle.std.proofs.Common.{subst, sym, ap, ◌∙◌, arith}
use Rattle.std.proofs.lemmas.Bool.Decides.{nat_tests}
use Rattle.input_lines.specs.declared.faults.ProgramFault.{ProgramFault}
use Rattle.input_lines.specs.declared.faults.ProgramFault.TheVariants.{Input}
use Rattle.input_lines.specs.declared.lines.TheConstants.{MOST_INPUT}
use Rattle.investor_texts.specs.AloneCommand.{IsNoted, IsNotedBy, IsPrinted, IsPrintedBy}
use Rattle.investor_texts.specs.AloneCommand.{fault_by, first_fault}
use Rattle.investor_texts.specs.InvestorText.{is_investors}

pub printed_by : (b with_frames : Bool) (input text : List ℕ) → length input ≤ MOST_INPUT
    → is_investors input ≡ b → IsPrintedBy b with_frames input text
    → IsPrinted with_frames input text
printed_by b with_frames input text fits is printed = record {
  fits = fits;
  printed = subst (λ (test : Bool). IsPrintedBy test with_frames input text) (sym is) printed;
}

-- the same with what is noted
pub noted_by : (b with_frames : Bool) (input text : List ℕ) → length input ≤ MOST_INPUT
    → is_investors input ≡ b → IsNotedBy b with_frames input text → IsNoted with_frames input text
noted_by b with_frames input text fits is printed = record {
  fits = fits;
  printed = subst (λ (test : Bool). IsNotedBy test with_frames input text) (sym is) printed;
}

pub fault_is : (b : Bool) (input : List ℕ) (found : Option ProgramFault)
    → length input ≤ MOST_INPUT → is_investors input ≡ b → fault_by b input ≡ found
    → first_fault input ≡ found
fault_is b input found fits is there =
    let short : nat_lt MOST_INPUT (length input) ≡ false = grind (arith, nat_tests) in
    ap (λ (long : Bool). cond long (Some Input) (fault_by (is_investors input) input)) short
    ∙ ap (λ (test : Bool). fault_by test input) is
    ∙ there
