-- A list of what was due, written as due text and read again.
use Rattle.std.proofs.Common.{◌≡◌, ℕ, ◌+◌, ◌||◌, Bool, true, false, cond, List, [], ◌∷◌, ◌++◌, codes}
use Rattle.std.proofs.Common.{Option, Result, Ok, Err, refl, ap, ap₂, ◌∙◌}
use Rattle.std.specs.List.{list_all, list_any}
use Rattle.std.proofs.lemmas.Bool.{and_parts}
use Rattle.std.proofs.lemmas.List.{append_assoc}
use Rattle.step_replay.specs.declared.dues.Due.{Due}
use Rattle.venue_rows.specs.Rows.{DealerValues}
use Rattle.venue_rows.specs.Texts.{same_text}
use Rattle.input_lines.specs.DueLines.{date_of, row_of}
use Rattle.input_lines.specs.DueText.{Lines, Spelled, at_line, due_text_of, dues_from, next_line, undivided_lines}
use Rattle.input_lines.specs.Lines.{lines_of, one_past, spoken_from, spoken_lines}
use Rattle.venue_text.specs.ReadBack.{AreHeader, AreReadBack, ReadsAs, is_sayable}
use Rattle.input_lines.specs.ResultSteps.{◌>>=◌}
use Rattle.venue_text.specs.WrittenDues.{due_lines}
use Rattle.input_lines.specs.declared.faults.ProgramFault.{ProgramFault}
use Rattle.input_lines.specs.declared.faults.ProgramFault.TheVariants.{Parts}
use Rattle.input_lines.specs.FrontLemmas.{spoken_stop}
use Rattle.venue_text.proofs.ReadBackParts.{line_first}

-- each item that can be said is read back
abbrev pub EachReadsAs : List ℕ → List Due → Type 0
EachReadsAs date [] = Unit
EachReadsAs date (item ∷ dues) =
    (is_sayable item ≡ true → ReadsAs date item) × EachReadsAs date dues

pub one_reads_more : (date : List ℕ) (dues : List Due) (item : Due) → EachReadsAs date dues
    → (is_sayable item ≡ true → ReadsAs date item) → EachReadsAs date (dues ++ item ∷ [])
one_reads_more date [] item each more = (more, tt)
one_reads_more date (due ∷ dues) item each more = (each.0, one_reads_more date dues item each.1 more)

-- the lines of an item and of those behind it
lines_behind : (date : List ℕ) (item : Due) (dues : List Due) (reads : ReadsAs date item)
    → lines_of (due_lines (item ∷ dues)) ≡ reads.line ∷ lines_of (due_lines dues)
lines_behind date item dues reads =
    ap (λ (l : List ℕ). lines_of (l ++ due_lines dues)) reads.written
    ∙ ap lines_of (append_assoc reads.line (10 ∷ []) (due_lines dues))
    ∙ line_first reads.line (due_lines dues) reads.is_one.in_line

pub all_back : (date : List ℕ) (dues : List Due) → EachReadsAs date dues
    → list_all is_sayable dues ≡ true → AreReadBack date dues
all_back date [] each sayable firm number k = refl
all_back date (item ∷ dues) each sayable firm number k =
    let parts = and_parts (is_sayable item) (list_all is_sayable dues) sayable in
    let reads = each.0 parts.0 in
    let later = lines_of (due_lines dues) in
    let rest = spoken_from (k + 1) later in
    ap (λ (lines : List (List ℕ)). dues_from date firm number (spoken_from k lines))
    (lines_behind date item dues reads)
    ∙ ap (dues_from date firm number) (spoken_stop k reads.line later reads.is_one.spoken)
    ∙ ap (λ (read : Option (Due × ℕ)). at_line k read
    >>= (λ (read : Due × ℕ). dues_from date firm read.1 rest
    >>= (λ (dues : List Due). Ok (read.0 ∷ dues)))) (reads.read firm number)
    ∙ ap (λ (read : Result (List Due) ProgramFault). read >>= (λ (dues : List Due). Ok (item ∷ dues)))
    (all_back date dues each.1 parts.1 firm number (k + 1))

-- no line of them divides a text
pub none_divides : (date : List ℕ) (dues : List Due) → EachReadsAs date dues
    → list_all is_sayable dues ≡ true
    → list_any (λ line. same_text line (codes "%%")) (lines_of (due_lines dues)) ≡ false
none_divides date [] each sayable = refl
none_divides date (item ∷ dues) each sayable =
    let parts = and_parts (is_sayable item) (list_all is_sayable dues) sayable in
    let reads = each.0 parts.0 in
    ap (list_any (λ (line : List ℕ). same_text line (codes "%%"))) (lines_behind date item dues reads)
    ∙ ap₂ (λ (a b : Bool). a || b) reads.is_one.undivided (none_divides date dues each.1 parts.1)

-- the whole text

abbrev spelled_of : List ℕ → DealerValues → List Due → Spelled
spelled_of date row dues = record { date = date; row = row; dues = dues }

module _ (date : List ℕ) (row : DealerValues) (first second : List ℕ) (dues : List Due)
    (header : AreHeader date row first second) (each : EachReadsAs date dues)
    (sayable : list_all is_sayable dues ≡ true) where
  abbrev whole : List ℕ
  whole = first ++ 10 ∷ (second ++ 10 ∷ due_lines dues)

  whole_lines : lines_of whole ≡ first ∷ second ∷ lines_of (due_lines dues)
  whole_lines =
      line_first first (second ++ 10 ∷ due_lines dues) header.first_is_one.in_line
      ∙ ap (λ (lines : List (List ℕ)). first ∷ lines)
      (line_first second (due_lines dues) header.second_is_one.in_line)

  whole_undivided : list_any (λ line. same_text line (codes "%%")) (lines_of whole) ≡ false
  whole_undivided =
      ap (list_any (λ (line : List ℕ). same_text line (codes "%%"))) whole_lines
      ∙ ap₂ (λ (a b : Bool). a || b) header.first_is_one.undivided
      (ap₂ (λ (a b : Bool). a || b) header.second_is_one.undivided
      (none_divides date dues each sayable))

  whole_spoken : spoken_lines whole ≡ (1, first) ∷ (2, second) ∷ spoken_from 3 (lines_of (due_lines dues))
  whole_spoken =
      let later = lines_of (due_lines dues) in
      ap (spoken_from 1) whole_lines
      ∙ spoken_stop 1 first (second ∷ later) header.first_is_one.spoken
      ∙ ap (λ (lines : Lines). (1, first) ∷ lines)
      (spoken_stop 2 second later header.second_is_one.spoken)

  whole_numbered : undivided_lines whole
      ≡ Ok ((1, first) ∷ (2, second) ∷ spoken_from 3 (lines_of (due_lines dues)))
  whole_numbered =
      ap (λ (b : Bool). cond b (Err Parts) (Ok (spoken_lines whole))) whole_undivided
      ∙ ap Ok whole_spoken

  -- the date's line is read, then the dealer's, and then the others
  abbrev behind_row : DealerValues → Lines → Result Spelled ProgramFault
  behind_row row lines = dues_from date row.name 1 lines
      >>= (λ (dues : List Due). Ok (spelled_of date row dues))

  pub whole_back : due_text_of whole ≡ Ok (spelled_of date row dues)
  whole_back =
      let later = spoken_from 3 (lines_of (due_lines dues)) in
      ap (λ (lines : Result Lines ProgramFault). lines
      >>= (λ (lines : Lines). next_line (one_past whole) lines
      >>= (λ (first : (ℕ × List ℕ) × Lines). at_line first.0.0 (date_of first.0.1)
      >>= (λ (date : List ℕ). next_line (one_past whole) first.1
      >>= (λ (second : (ℕ × List ℕ) × Lines). at_line second.0.0 (row_of second.0.1)
      >>= (λ (row : DealerValues). dues_from date row.name 1 second.1
      >>= (λ (dues : List Due). Ok (spelled_of date row dues)))))))) whole_numbered
      ∙ ap (λ (read : Option (List ℕ)). at_line 1 read
      >>= (λ (date : List ℕ). next_line (one_past whole) ((2, second) ∷ later)
      >>= (λ (second : (ℕ × List ℕ) × Lines). at_line second.0.0 (row_of second.0.1)
      >>= (λ (row : DealerValues). dues_from date row.name 1 second.1
      >>= (λ (dues : List Due). Ok (spelled_of date row dues)))))) header.is_date
      ∙ ap (λ (read : Option DealerValues). at_line 2 read
      >>= (λ (row : DealerValues). behind_row row later)) header.is_row
      ∙ ap (λ (read : Result (List Due) ProgramFault). read
      >>= (λ (dues : List Due). Ok (spelled_of date row dues)))
      (all_back date dues each sayable row.name 1 3)
