-- What `due --investor` prints: due text of an investor, which `alone` reads.
use Rattle.std.specs.Prelude.{◌≡◌, ℕ, List, length, nat_lt, Option, Some, None, Result, Ok}
use Rattle.std.specs.Prelude.{if◌then◌else◌}
use Rattle.venue_rows.specs.Rows.{ConfigValues, Configuration, investor_numbered, values_of}
use Rattle.venue_rows.specs.declared.investor_rows.InvestorRow.{InvestorRow}
use Rattle.step_replay.specs.declared.steps.Step.{Step}
use Rattle.input_lines.specs.StepLines.{asked, firm_named}
use Rattle.input_lines.specs.declared.faults.ProgramFault.{ProgramFault}
use Rattle.investor_views.specs.InvestorDues.{due_to_investor}
use Rattle.investor_views.specs.InvestorView.{seen_by}
use Rattle.investor_views.specs.declared.dues.InvestorDue.{InvestorDue}
use Rattle.venue_text.specs.AskedDays.{one_day}
use Rattle.investor_texts.specs.WrittenText.{investor_text}

-- a firm, where it is an investor: investors have their numbers behind the dealers
abbrev pub where_investor : ConfigValues → Option ℕ → Option ℕ
where_investor config None = None
where_investor config (Some firm) =
    if nat_lt firm (length config.dealers) then None else Some firm

-- INVESTOR: an investor, by its number
abbrev pub investor_by : List ℕ → ConfigValues → Result ℕ ProgramFault
investor_by name config = asked (where_investor config (firm_named config name))

-- the due text of an investor's day
abbrev pub text_of : Configuration → ℕ → InvestorRow → List Step → List ℕ
text_of config investor row steps =
    investor_text (seen_by config row) (due_to_investor config investor steps)

-- What is printed of a list that is due to the investor with this number.
pub record IsTextOfList (config : Configuration) (investor : ℕ) (dues : List InvestorDue)
    (text : List ℕ) : Type 0 where
  pub row : InvestorRow
  pub is_investor : investor_numbered config investor ≡ Some row
  pub printed : text ≡ investor_text (seen_by config row) dues

-- What is printed of steps for the investor with this number.
pub record IsTextOf (config : Configuration) (investor : ℕ) (steps : List Step) (text : List ℕ)
    : Type 0 where
  pub row : InvestorRow
  pub is_investor : investor_numbered config investor ≡ Some row
  pub printed : text ≡ text_of config investor row steps

-- What `due --investor` prints for an input: what was due to the investor that is named, by the day
-- that the input spells.
pub record IsDueText (name input text : List ℕ) : Type 0 where
  pub config : Configuration
  pub investor : ℕ
  pub steps : List Step
  pub spelled : one_day (investor_by name) input
      ≡ Ok (investor, record { config = values_of config; steps = steps })
  pub text_is : IsTextOf config investor steps text
