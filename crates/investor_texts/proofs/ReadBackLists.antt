-- A list of what was due to an investor, written as due text and read again.
use Rattle.std.proofs.Common.{◌≡◌, ℕ, ◌+◌, Bool, true, cond, List, [], ◌∷◌, ◌++◌, codes, Option}
use Rattle.std.proofs.Common.{Some, Result, Ok, refl, sym, ap, ◌∙◌}
use Rattle.std.specs.List.{list_all}
use Rattle.std.proofs.lemmas.Bool.{and_parts}
use Rattle.std.proofs.lemmas.List.{append-nil, append_assoc}
use Rattle.venue_rows.specs.Texts.{same_text}
use Rattle.input_lines.specs.DueText.{at_line}
use Rattle.input_lines.specs.Lines.{behind_part, first_part, lines_of, spoken_from}
use Rattle.input_lines.specs.FrontLemmas.{spoken_stop}
use Rattle.input_lines.specs.OptionSteps as option
use Rattle.input_lines.specs.ResultSteps.{◌>>=◌}
use Rattle.venue_text.proofs.ReadBackParts.{line_first}
use Rattle.investor_views.specs.declared.dues.InvestorDue.{InvestorDue}
use Rattle.investor_texts.specs.InvestorText.{Read, item_taken, with_bond, with_dealer, with_item}
use Rattle.investor_texts.specs.InvestorText.{with_line, with_lines}
use Rattle.investor_texts.specs.ReadBack.{AreReadBack, ReadsAs, is_sayable}
use Rattle.investor_texts.specs.WrittenText.{item_lines}

-- each item that can be said is read back
abbrev pub EachReadsAs : List ℕ → List InvestorDue → Type 0
EachReadsAs date [] = Unit
EachReadsAs date (item ∷ dues) =
    (is_sayable item ≡ true → ReadsAs date item) × EachReadsAs date dues

pub one_reads_more : (date : List ℕ) (dues : List InvestorDue) (item : InvestorDue)
    → EachReadsAs date dues → (is_sayable item ≡ true → ReadsAs date item)
    → EachReadsAs date (dues ++ item ∷ [])
one_reads_more date [] item each more = (more, tt)
one_reads_more date (due ∷ dues) item each more = (each.0, one_reads_more date dues item each.1 more)

-- the lines of an item and of those behind it
lines_behind : (date : List ℕ) (item : InvestorDue) (dues : List InvestorDue) (reads : ReadsAs date item)
    → lines_of (item_lines (item ∷ dues)) ≡ reads.line ∷ lines_of (item_lines dues)
lines_behind date item dues reads =
    ap (λ (l : List ℕ). lines_of (l ++ item_lines dues)) reads.written
    ∙ ap lines_of (append_assoc reads.line (10 ∷ []) (item_lines dues))
    ∙ line_first reads.line (item_lines dues) reads.is_one.in_line

-- an item more
abbrev with_due : Read → InvestorDue → Read
with_due read item = record read { dues = read.dues ++ item ∷ [] }

line_taken : (date firm : List ℕ) (read : Read) (item : InvestorDue) (reads : ReadsAs date item)
    → with_line date firm read reads.line ≡ Some (with_due read item)
line_taken date firm read item reads =
    let line = reads.line in
    ap (λ (b : Bool). cond b (with_bond read (behind_part line))
    (cond (same_text (first_part line) (codes "dealer")) (with_dealer firm read (behind_part line))
    (with_item date firm read line))) reads.no_bond
    ∙ ap (λ (b : Bool). cond b (with_dealer firm read (behind_part line)) (with_item date firm read line))
    reads.no_dealer
    ∙ ap (λ (found : Option (InvestorDue × ℕ)). option.◌>>=◌ found (item_taken read))
    (reads.read firm read.number)

pub all_back : (date : List ℕ) (dues : List InvestorDue) → EachReadsAs date dues
    → list_all is_sayable dues ≡ true → AreReadBack date dues
all_back date [] each sayable firm read k =
    ap (λ (l : List InvestorDue). Ok (record read { dues = l })) (sym (append-nil read.dues))
all_back date (item ∷ dues) each sayable firm read k =
    let parts = and_parts (is_sayable item) (list_all is_sayable dues) sayable in
    let reads = each.0 parts.0 in
    let later = lines_of (item_lines dues) in
    let rest = spoken_from (k + 1) later in
    ap (λ (lines : List (List ℕ)). with_lines date firm read (spoken_from k lines))
    (lines_behind date item dues reads)
    ∙ ap (with_lines date firm read) (spoken_stop k reads.line later reads.is_one.spoken)
    ∙ ap (λ (found : Option Read). at_line k found >>= (λ (more : Read). with_lines date firm more rest))
    (line_taken date firm read item reads)
    ∙ all_back date dues each.1 parts.1 firm (with_due read item) (k + 1)
    ∙ ap (λ (l : List InvestorDue). Ok (record read { dues = l })) (append_assoc read.dues (item ∷ []) dues)
