-- What `replay` prints.
use Rattle.std.specs.Prelude.{◌≡◌, ℕ, Bool, List, take, drop, Option, Some, None, Ok}
use Rattle.std.specs.List.{flat_map, zip}
use Rattle.venue_rows.specs.Rows.{Configuration, firm_names, values_of}
use Rattle.step_replay.specs.AuditTrail.{audit_trail}
use Rattle.step_replay.specs.FirmDays.{FirmDay, firm_days}
use Rattle.step_replay.specs.declared.steps.Step.{Step}
use Rattle.venue_text.specs.AskedDays.{one_day, firms_by}
use Rattle.venue_text.specs.MessageLines.{messages_text}

-- a firm's name, and what the venue has of its day
abbrev pub NamedDay : Type 0
NamedDay = List ℕ × FirmDay

-- the firms of a venue with their days, in the order of their numbers: dealers, then investors
abbrev pub named_days : Configuration → List FirmDay → List NamedDay
named_days config days = zip (firm_names config) days

-- the one at a place, where there is one
abbrev pub one_at : {A : Type 0} → ℕ → List A → List A
one_at place xs = take 1 (drop place xs)

-- the firm that is asked for, or all
abbrev pub those_asked : {A : Type 0} → Option ℕ → List A → List A
those_asked None firms = firms
those_asked (Some number) firms = one_at number firms

-- the messages that a firm was sent, a line each
abbrev pub firm_text : Bool → NamedDay → List ℕ
firm_text with_frames firm = messages_text with_frames firm.0 firm.1.sent

-- the messages of the firms that are asked for, firm by firm
abbrev pub days_text : Bool → Option ℕ → List NamedDay → List ℕ
days_text with_frames only firms = flat_map (firm_text with_frames) (those_asked only firms)

-- a firm's name, and the messages that it was sent
abbrev pub NamedList : Type 0
NamedList = List ℕ × List (List ℕ)

-- these, a line each
abbrev pub list_text : Bool → NamedList → List ℕ
list_text with_frames firm = messages_text with_frames firm.0 firm.1

-- the messages of the firms that are asked for, by what each firm was sent
abbrev pub sent_text : Bool → Option ℕ → List NamedList → List ℕ
sent_text with_frames only firms = flat_map (list_text with_frames) (those_asked only firms)

-- What `replay` prints for an input: of the day that the input spells, what the firms were sent by
-- its audit trail.
pub record IsReplayed (only : Option (List ℕ)) (with_frames : Bool) (input text : List ℕ)
    : Type 0 where
  pub config : Configuration
  pub firm : Option ℕ
  pub steps : List Step
  pub spelled : one_day (firms_by only) input
      ≡ Ok (firm, record { config = values_of config; steps = steps })
  pub printed : text ≡ days_text with_frames firm
      (named_days config (firm_days config (audit_trail config steps).facts))
