-- One line more of an investor's due text.
use Rattle.std.proofs.Common.{◌≡◌, ℕ, Bool, true, false, List, ◌∷◌, Option, Err, ap, ◌∙◌}
use Rattle.input_lines.specs.DueText.{Lines, at_line}
use Rattle.input_lines.specs.ResultSteps.{◌>>=◌}
use Rattle.input_lines.specs.declared.faults.ProgramFault.TheVariants.{Form}
use Rattle.investor_texts.specs.InvestorText.{Read, with_line, with_lines}
use Rattle.investor_texts.specs.ReadLines.{if_of_form}

module _ (date own : List ℕ) (line : ℕ × List ℕ) (rest : Lines) (read new : Read) (b : Bool)
    (is : with_line date own read line.1 ≡ if_of_form b new) where
  pub one_more : b ≡ true
      → with_lines date own read (line ∷ rest) ≡ with_lines date own new rest
  one_more holds =
      ap (λ (found : Option Read). at_line line.0 found
      >>= (λ more. with_lines date own more rest)) (is ∙ ap (λ (t : Bool). if_of_form t new) holds)

  pub bad_line : b ≡ false → with_lines date own read (line ∷ rest) ≡ Err (Form line.0)
  bad_line fails =
      ap (λ (found : Option Read). at_line line.0 found
      >>= (λ more. with_lines date own more rest)) (is ∙ ap (λ (t : Bool). if_of_form t new) fails)
