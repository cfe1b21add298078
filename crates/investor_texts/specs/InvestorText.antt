-- An investor's due text: what its bytes spell, or its first fault.
use Rattle.std.specs.Prelude.{ℕ, ◌==◌, ◌&&◌, Bool, false, List, [], ◌∷◌, ◌++◌, length, codes}
use Rattle.std.specs.Prelude.{Option, Some, None, Result, Ok, if◌then◌else◌}
use Rattle.venue_rows.specs.Rows.{InvestorValues}
use Rattle.venue_rows.specs.Texts.{is_firm_name, same_text, text_if}
use Rattle.venue_rows.specs.declared.bond_rows.BondRow.{BondRow}
use Rattle.input_lines.specs.DueLines.{date_of}
use Rattle.input_lines.specs.DueText.{Lines, at_line, next_line, undivided_lines}
use Rattle.input_lines.specs.Lines.{first_part, behind_part, one_past, spoken_lines}
use Rattle.input_lines.specs.OptionSteps as option
use Rattle.input_lines.specs.ResultSteps.{◌>>=◌}
use Rattle.input_lines.specs.declared.faults.ProgramFault.{ProgramFault}
use Rattle.investor_texts.specs.InvestorLines.{bond_of, item_of, may_deal, may_join, row_of}
use Rattle.investor_views.specs.declared.dues.InvestorDue.{InvestorDue}

-- What the lines behind the investor's have spelled: the bonds, the names of the dealers, the items,
-- and the number of the next `say` line.
pub record Read : Type 0 where
  pub bonds : List BondRow
  pub dealers : List (List ℕ)
  pub dues : List InvestorDue
  pub number : ℕ

abbrev pub nothing_read : Read
nothing_read = record { bonds = []; dealers = []; dues = []; number = 1 }

-- bonds stand before the dealers and the items, and dealers before the items
abbrev pub takes_bonds : Read → Bool
takes_bonds read = (length read.dealers == 0) && (length read.dues == 0)

abbrev pub takes_dealers : Read → Bool
takes_dealers read = length read.dues == 0

-- a bond more
abbrev pub bond_if : Read → BondRow → Option Read
bond_if read bond =
    if may_join read.bonds bond then Some (record read { bonds = read.bonds ++ bond ∷ [] })
    else None

abbrev pub with_bond : Read → List ℕ → Option Read
with_bond read text =
    if takes_bonds read then option.◌>>=◌ (bond_of text) (bond_if read) else None

-- a dealer more
abbrev pub dealer_if : List ℕ → Read → List ℕ → Option Read
dealer_if own read name =
    if may_deal own read.dealers name
    then Some (record read { dealers = read.dealers ++ name ∷ [] })
    else None

abbrev pub with_dealer : List ℕ → Read → List ℕ → Option Read
with_dealer own read text =
    if takes_dealers read then option.◌>>=◌ (text_if is_firm_name text) (dealer_if own read)
    else None

-- an item more
abbrev pub item_taken : Read → InvestorDue × ℕ → Option Read
item_taken read item =
    Some (record read { dues = read.dues ++ item.0 ∷ []; number = item.1 })

abbrev pub with_item : List ℕ → List ℕ → Read → List ℕ → Option Read
with_item date own read line =
    option.◌>>=◌ (item_of date own read.number line) (item_taken read)

-- a line more
abbrev pub with_line : List ℕ → List ℕ → Read → List ℕ → Option Read
with_line date own read line =
    if same_text (first_part line) (codes "bond") then with_bond read (behind_part line)
    else if same_text (first_part line) (codes "dealer")
    then with_dealer own read (behind_part line)
    else with_item date own read line

-- lines more, or the first that is not of its form
abbrev pub with_lines : List ℕ → List ℕ → Read → Lines → Result Read ProgramFault
with_lines date own read [] = Ok read
with_lines date own read (line ∷ lines) = do
  more ← at_line line.0 (with_line date own read line.1)
  with_lines date own more lines

-- what an investor's due text spells
pub record Spelled : Type 0 where
  pub date : List ℕ
  pub row : InvestorValues
  pub bonds : List BondRow
  pub dealers : List (List ℕ)
  pub dues : List InvestorDue

-- What it spells, the date's line, the investor's and then the others, or its first fault: a line
-- that divides it, or else the first line that is not of its form.
abbrev pub investor_text_of : List ℕ → Result Spelled ProgramFault
investor_text_of input = do
  lines ← undivided_lines input
  first ← next_line (one_past input) lines
  date ← at_line first.0.0 (date_of first.0.1)
  second ← next_line (one_past input) first.1
  row ← at_line second.0.0 (row_of second.0.1)
  read ← with_lines date row.name nothing_read second.1
  Ok (record {
    date = date;
    row = row;
    bonds = read.bonds;
    dealers = read.dealers;
    dues = read.dues;
  })

-- whether due text is an investor's: its second line says so
abbrev pub are_investors : Lines → Bool
are_investors [] = false
are_investors (date ∷ []) = false
are_investors (date ∷ firm ∷ lines) = same_text (first_part firm.1) (codes "investor")

abbrev pub is_investors : List ℕ → Bool
is_investors input = are_investors (spoken_lines input)
