-- What `due` prints: due text, which `alone` reads.
use Rattle.std.specs.Prelude.{◌≡◌, ℕ, List, [], ◌∷◌, ◌++◌, codes, decimal, Option, Ok}
use Rattle.std.specs.List.{enumerate_from, flat_map, join_with_byte}
use Rattle.venue_rows.specs.Rows.{Configuration, values_of}
use Rattle.venue_rows.specs.declared.dealer_rows.DealerRow.{DealerRow}
use Rattle.step_replay.specs.AuditTrail.{AuditTrail, audit_trail, due_to}
use Rattle.step_replay.specs.declared.dues.Due.{Due}
use Rattle.step_replay.specs.declared.steps.Step.{Step}
use Rattle.venue_text.specs.AskedDays.{dealers_by, one_day}
use Rattle.venue_text.specs.ReplayText.{those_asked}
use Rattle.venue_text.specs.WrittenDues.{due_lines}

-- a line of parts, with one space between each two
abbrev pub part_line : List (List ℕ) → List ℕ
part_line parts = join_with_byte 32 parts ++ 10 ∷ []

-- `date YYYYMMDD`
abbrev pub date_line : List ℕ → List ℕ
date_line date = part_line (codes "date" ∷ date ∷ [])

-- `dealer NAME QUOTES EXPOSURE TRADER ..`
abbrev pub dealer_line : DealerRow → List ℕ
dealer_line row =
    part_line (codes "dealer" ∷ row.name ∷ decimal row.quotes ∷ decimal row.exposure ∷ row.traders)

-- the due text of a dealer's day
abbrev pub due_text : List ℕ → DealerRow → List Due → List ℕ
due_text date row dues = date_line date ++ dealer_line row ++ due_lines dues

-- the dealers of a venue, each with its number, in their order
abbrev pub numbered_dealers : Configuration → List (ℕ × DealerRow)
numbered_dealers config = enumerate_from 0 config.dealers

-- the due text of one of them, of a day with this audit trail
abbrev pub dealer_text : Configuration → AuditTrail → ℕ × DealerRow → List ℕ
dealer_text config trail dealer = due_text config.date dealer.1 (due_to dealer.0 trail)

-- the due texts of the dealers that are asked for, one behind the other
abbrev pub due_texts : Option ℕ → Configuration → AuditTrail → List ℕ
due_texts only config trail =
    flat_map (dealer_text config trail) (those_asked only (numbered_dealers config))

-- What `due` prints for an input: what was due to the dealer that is named, or to each, by the
-- audit trail of the day that the input spells.
pub record IsDueText (name : Option (List ℕ)) (input text : List ℕ) : Type 0 where
  pub config : Configuration
  pub dealer : Option ℕ
  pub steps : List Step
  pub spelled : one_day (dealers_by name) input
      ≡ Ok (dealer, record { config = values_of config; steps = steps })
  pub printed : text ≡ due_texts dealer config (audit_trail config steps)
