-- What `due` prints is read again, and so what `alone` makes of it is what `replay` prints.
use Rattle.std.proofs.Common.{◌≡◌, ℕ, zero, suc, Bool, true, false, List, [], ◌∷◌, ◌++◌, map, Option}
use Rattle.std.proofs.Common.{Some, None, SomeIff, option_map, Result, Ok, Err, if◌then◌else◌, refl, sym, ap, ◌∙◌}
use Rattle.std.proofs.Common.{IsTrue, subst}
use Rattle.std.specs.Prelude.{slice_get}
use Rattle.std.specs.List.{AllByRecursion, list_all, list_any}
use Rattle.std.proofs.lemmas.Bool.{or_left, or_right}
use Rattle.std.proofs.lemmas.List.{append_assoc}
use Rattle.std.proofs.lemmas.List.Elements.{recursion_from_All}
use Rattle.std.proofs.lemmas.Option.{same_Some, slice_get-map, slice_get_within}
use Rattle.std.proofs.lemmas.Slice.Eq.{bytes_eq-Decides}
use Rattle.fix_fields.specs.UtcTimestamp.{IsDate, is_date}
use Rattle.venue_rows.specs.Rows.{AreTraders, Configuration, KeepsLimits, dealer_numbered}
use Rattle.venue_rows.specs.Rows.{dealer_values, firm_names}
use Rattle.venue_rows.specs.Texts.{is_among, is_firm_name, is_name, same_text}
use Rattle.venue_rows.specs.Texts.{text_if}
use Rattle.venue_rows.specs.declared.dealer_rows.DealerRow.{DealerRow}
use Rattle.venue_rows.specs.declared.investor_rows.InvestorRow.{InvestorRow}
use Rattle.step_replay.specs.AuditTrail.{audit_trail, due_to}
use Rattle.step_replay.specs.DealerView.{dealer_view}
use Rattle.step_replay.specs.FirmDays.{FirmDay}
use Rattle.step_replay.specs.PlaceLemmas.{get_first}
use Rattle.step_replay.specs.declared.dues.Due.{Due}
use Rattle.step_replay.specs.declared.steps.Step.{Step}
use Rattle.input_lines.specs.DueText.{Spelled, due_text_of}
use Rattle.input_lines.specs.declared.faults.ProgramFault.{ProgramFault}
use Rattle.venue_text.specs.AloneText.{IsPrinted}
use Rattle.venue_text.specs.DueCommand.{due_text}
use Rattle.venue_text.specs.MessageLines.{messages_text}
use Rattle.venue_text.specs.ReadBack.{IsReadBack, is_sayable}
use Rattle.venue_text.specs.ReplayText.{days_text, named_days}
use Rattle.venue_text.specs.WrittenDues.{due_lines}
use Rattle.venue_text.proofs.DayLemmas.{messages_at}
use Rattle.laws_dues.specs.ReadDays.{WasDue}
use Rattle.laws_dues.proofs.HeaderLines.{RowNames, date_words, header_back, row_words}

-- Tests of what a configuration has.

date_tested : (found : Option (List ℕ)) (digits : List ℕ) → IsDate digits
    → SomeIff found (IsDate digits) digits
    → found ≡ (if is_date digits then Some digits else None) → is_date digits ≡ true
date_tested None digits is read exact = absurd (read is)
date_tested (Some date) digits is read exact = by_test (is_date digits) exact
  where
    by_test : (b : Bool) → Some date ≡ (if b then Some digits else None) → b ≡ true
    by_test true found = refl
    by_test false found = cc

pub own_tested : (found : Option (List ℕ)) (digits own : List ℕ) → digits ≡ own → IsDate own
    → SomeIff found (IsDate digits) digits
    → found ≡ (if is_date digits then Some digits else None) → is_date own ≡ true
own_tested found digits own same is read exact =
    ap is_date (sym same) ∙ date_tested found digits (subst IsDate (sym same) is) read exact

-- nothing is there, and something is
pub none_there : {A X : Type 0} (found : Option X) (x : X) → None ≡ found → found ≡ Some x → A
none_there found x none some =
    let clash : None ≡ Some x = none ∙ some in
    cc

-- a text at a place of some is among them
among_at : (texts : List (List ℕ)) (place : ℕ) (text : List ℕ)
    → slice_get texts place ≡ Some text → is_among texts text ≡ true
among_at [] place text at = cc
among_at (own ∷ texts) zero text at =
    or_left (same_text own text) (list_any (λ t. same_text t text) texts)
    ((bytes_eq-Decides own text).1 (same_Some own text at))
among_at (own ∷ texts) (suc place) text at =
    or_right (same_text own text) (list_any (λ t. same_text t text) texts)
    (among_at texts place text at)

pub none_found : {A : Type 0} (texts : List (List ℕ)) (place : ℕ) (text : List ℕ)
    → Some text ≡ slice_get texts place → None ≡ text_if (is_among texts) text → A
none_found {A} texts place text there none =
    by_test (is_among texts text) (among_at texts place text (sym there)) none
  where
    by_test : (b : Bool) → b ≡ true → None ≡ (if b then Some text else None) → A
    by_test true is found = cc
    by_test false is found = cc

pub found_named : (texts : List (List ℕ)) (place : ℕ) (text own name : List ℕ)
    → Some text ≡ slice_get texts place → Some own ≡ text_if (is_among texts) text
    → is_name own ≡ true → slice_get texts place ≡ Some name → is_name name ≡ true
found_named texts place text own name there found named at =
    by_test (is_among texts text) found
  where
    by_test : (b : Bool) → Some own ≡ (if b then Some text else None) → is_name name ≡ true
    by_test true is =
        subst (λ (n : List ℕ). is_name n ≡ true)
        (same_Some own text is ∙ same_Some text name (there ∙ at)) named
    by_test false is = cc

-- The text.

abbrev spelled : List ℕ → DealerRow → List Due → Spelled
spelled date row dues = record { date = date; row = dealer_values row; dues = dues }

lines_are : (first second behind : List ℕ)
    → (first ++ 10 ∷ []) ++ (second ++ 10 ∷ []) ++ behind
    ≡ first ++ 10 ∷ (second ++ 10 ∷ behind)
lines_are first second behind =
    append_assoc (first ++ 10 ∷ []) (second ++ 10 ∷ []) behind
    ∙ append_assoc first (10 ∷ []) ((second ++ 10 ∷ []) ++ behind)
    ∙ ap (λ (l : List ℕ). first ++ 10 ∷ l) (append_assoc second (10 ∷ []) behind)

read_again : (date : List ℕ) (row : DealerRow) (dues : List Due) → IsDate date
    → is_date date ≡ true → RowNames row → IsReadBack date dues
    → due_text_of (due_text date row dues)
    ≡ Ok (record { date = date; row = dealer_values row; dues = dues })
read_again date row dues is_one is own back =
    ap due_text_of (lines_are (date_words date) (row_words row) (due_lines dues))
    ∙ back (dealer_values row) (date_words date) (row_words row) (header_back date row is_one is own)

-- Rows of a configuration.

all_at : {A : Type 0} (P : A → Type 0) (xs : List A) (place : ℕ) (x : A)
    → slice_get xs place ≡ Some x → AllByRecursion P xs → P x
all_at P [] place x at each = cc
all_at P (first ∷ xs) zero x at each = subst P (same_Some first x at) each.0
all_at P (first ∷ xs) (suc place) x at each = all_at P xs place x at each.1

name_at : (config : Configuration) (dealer : ℕ) (row : DealerRow)
    → dealer_numbered config dealer ≡ Some row
    → slice_get (firm_names config) dealer ≡ Some row.name
name_at config dealer row is =
    let names = map (λ (r : DealerRow). r.name) config.dealers in
    let others = map (λ (r : InvestorRow). r.name) config.investors in
    let at : slice_get names dealer ≡ Some row.name =
    slice_get-map (λ (r : DealerRow). r.name) config.dealers dealer
    ∙ ap (option_map (λ (r : DealerRow). r.name)) is in
    get_first names others dealer (slice_get_within names dealer row.name at) ∙ at

-- a text that may be the name of a firm
abbrev Named : List ℕ → Type 0
Named name = IsTrue (is_firm_name name)

-- a row whose traders may be named so
abbrev Traded : DealerRow → Type 0
Traded row = AreTraders row.traders

row_names : (config : Configuration) → KeepsLimits config → (dealer : ℕ) (row : DealerRow)
    → dealer_numbered config dealer ≡ Some row → list_all is_name row.traders ≡ true → RowNames row
row_names config limits dealer row is traders = record {
  named = all_at Named (firm_names config) dealer row.name (name_at config dealer row is)
      (recursion_from_All Named (firm_names config) limits.firms_named);
  traders = all_at Traded config.dealers dealer row is
      (recursion_from_All Traded config.dealers limits.dealer_traders);
  traders_named = traders;
}

-- the due text of a dealer's day is read again
pub day_read : (config : Configuration) → KeepsLimits config → (dealer : ℕ) (row : DealerRow)
    (steps : List Step) (dues : List Due)
    → WasDue config dealer row steps dues → (found : DealerRow)
    → Some found ≡ dealer_numbered config dealer → list_all is_name found.traders ≡ true
    → (date : List ℕ) → date ≡ config.date → IsDate date → is_date date ≡ true
    → list_all is_sayable (due_to dealer (audit_trail config steps)) ≡ true
    → (list_all is_sayable dues ≡ true → IsReadBack date dues)
    → due_text_of (due_text config.date row dues)
    ≡ Ok (record { date = config.date; row = dealer_values row; dues = dues })
day_read config limits dealer row steps dues was found there traders date dates is_one tested
    sayable back =
    let same : found ≡ row = same_Some found row (there ∙ was.row_is) in
    read_again config.date row dues
    (subst IsDate dates is_one)
    (subst (λ (d : List ℕ). is_date d ≡ true) dates tested)
    (row_names config limits dealer row was.row_is
    (subst (λ (r : DealerRow). list_all is_name r.traders ≡ true) same traders))
    (subst (λ (d : List ℕ). IsReadBack d dues) dates
    (back (ap (list_all is_sayable) was.dues_are ∙ sayable)))

-- What is made of it.

-- the outcome of a text that is read so
abbrev as_read : Spelled → Result Spelled ProgramFault
as_read read = Ok read

ok_same : (one other : Spelled) → as_read one ≡ as_read other → one ≡ other
ok_same one other is = ap value is
  where
    value : Result Spelled ProgramFault → Spelled
    value (Ok read) = read
    value (Err fault) = one

abbrev viewed : Bool → List ℕ → DealerRow → List Due → List ℕ
viewed with_frames date row dues = messages_text with_frames row.name (dealer_view date row dues)

printed_so : ((a b : DealerRow) → dealer_values a ≡ dealer_values b → a ≡ b) → (with_frames : Bool)
    (date : List ℕ) (row : DealerRow) (dues : List Due) (input text : List ℕ)
    → due_text_of input ≡ Ok (record { date = date; row = dealer_values row; dues = dues })
    → IsPrinted with_frames input text → text ≡ viewed with_frames date row dues
printed_so rows with_frames date row dues input text read printed =
    let same = ok_same (spelled printed.date printed.row printed.dues) (spelled date row dues)
    (sym printed.spelled ∙ read) in
    let dates : printed.date ≡ date = ap (λ (s : Spelled). s.date) same in
    let values : dealer_values printed.row ≡ dealer_values row =
    ap (λ (s : Spelled). s.row) same in
    let lists : printed.dues ≡ dues = ap (λ (s : Spelled). s.dues) same in
    printed.printed
    ∙ ap (λ (d : List ℕ). viewed with_frames d printed.row printed.dues) dates
    ∙ ap (λ (r : DealerRow). viewed with_frames date r printed.dues) (rows printed.row row values)
    ∙ ap (viewed with_frames date row) lists

pub printed_again : ((a b : DealerRow) → dealer_values a ≡ dealer_values b → a ≡ b)
    → (config : Configuration) (days : List FirmDay) (dealer : ℕ) (row : DealerRow)
    (dues : List Due) (with_frames : Bool) (text : List ℕ)
    → dealer_numbered config dealer ≡ Some row
    → option_map (λ (day : FirmDay). day.sent) (slice_get days dealer)
    ≡ Some (dealer_view config.date row dues)
    → due_text_of (due_text config.date row dues)
    ≡ Ok (record { date = config.date; row = dealer_values row; dues = dues })
    → IsPrinted with_frames (due_text config.date row dues) text
    → text ≡ days_text with_frames (Some dealer) (named_days config days)
printed_again rows config days dealer row dues with_frames text is sent read printed =
    printed_so rows with_frames config.date row dues (due_text config.date row dues) text read printed
    ∙ sym (messages_at with_frames (firm_names config) days dealer row.name
    (dealer_view config.date row dues) (sym (name_at config dealer row is)) (sym sent))
