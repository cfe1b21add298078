-- What was read, printed and told where a command prints one text.
use Rattle.std.proofs.lemmas.Bool.{cases_Bool}
use Rattle.std.proofs.Common.{◌≡◌, ◌≢◌, ℕ, ◌-◌, ◌<◌, ◌≤◌, List, ◌++◌, length, sym, ap, ◌∙◌, subst, refl, arith, Option, Some, None}
use Rattle.std.proofs.Common.{true, false, nat_lt, inl, inr, Result, Ok, Err, ◌⊎◌}
use Rattle.std.proofs.lemmas.List.{append-nil, length-append}
use Rattle.input_lines.specs.declared.lines.TheConstants.{MOST_INPUT}
use Rattle.command_arguments.specs.Arguments.{Command, alone, blotter, compare, compared, day, due}
use Rattle.command_arguments.specs.Arguments.{investor_compare, investor_due, kept, live, replay}
use Rattle.live_runs.specs.Written.{Gains, GainsPart, IsReadOf, Written}
use Rattle.venue_commands.specs.Runs.{FaultLeaves, HasPrinted, HasPrintedPart, IsFaultOf, IsTextOf}
use Rattle.input_lines.specs.declared.faults.ProgramFault.{ProgramFault}
use Rattle.input_lines.specs.declared.faults.ProgramFault.TheVariants.{Config, Firm, Form, Input, Parts, Read, UnknownFirm, UnknownRoom}
use Rattle.input_lines.specs.declared.faults.ProgramFault.TheVariants.{Stream, Day, Weave, Memory, Write}
use Rattle.std.proofs.lemmas.Bool.Decides.{nat_tests}
use Rattle.std.specs.Option.{IfSome}
use Rattle.std.specs.Prelude.{IfErr, OnErr, OnOk}
use Rattle.live_runs.proofs.StreamLemmas.{keeps_same}

-- what was read, unless it is too long, is all
all_read : (all bytes : List ℕ) → IsReadOf all bytes → length bytes ≤ MOST_INPUT → bytes ≡ all
all_read all bytes read fits = sym (append-nil bytes) ∙ ap (λ rest. bytes ++ rest) (sym (read.whole fits)) ∙ sym read.split

-- an input that is too long is at fault by that, for each command
long_fault : (command : Command) (input : List ℕ) (fault : ProgramFault) → nat_lt MOST_INPUT (length input) ≡ true → IsFaultOf command input fault
    → Input ≡ fault
long_fault (alone with_frames with_notes) input fault long is = let same : Some Input ≡ Some fault = rw long at is in cc
long_fault (replay firm with_frames) input fault long is = let same : Err Input ≡ Err fault = rw long at is in cc
long_fault (day with_frames woven) input fault long (inl is) = let same : Err Input ≡ Err fault = rw long at is in cc
long_fault (day with_frames woven) input fault long (inr (inl unkept)) = let same = unkept.spelled in cc (rw long at same)
long_fault (day with_frames woven) input fault long (inr (inr unwoven)) = let same = unwoven.recorded.spelled in cc (rw long at same)
long_fault (live form) input fault long is = absurd is
long_fault (kept sought) input fault long is = absurd is
long_fault (compared whom) input fault long is = absurd is
long_fault (due dealer) input fault long is = let same : Err Input ≡ Err fault = rw long at is in cc
long_fault (investor_due name) input fault long is = let same : Err Input ≡ Err fault = rw long at is in cc
long_fault (compare dealer) input fault long is = let same : Err Input ≡ Err fault = rw long at is in cc
long_fault (investor_compare name) input fault long is = let same : Err Input ≡ Err fault = rw long at is in cc
long_fault (blotter firm) input fault long is = let same : Err Input ≡ Err fault = rw long at is in cc

too_long : (command : Command) (input bytes : List ℕ) (fault : ProgramFault) → nat_lt MOST_INPUT (length input) ≡ true → IsFaultOf command bytes fault
    → IsFaultOf command input Input
too_long (alone with_frames with_notes) input bytes fault long is = rw long refl
too_long (replay firm with_frames) input bytes fault long is = rw long refl
too_long (day with_frames woven) input bytes fault long is = inl (rw long refl)
too_long (live form) input bytes fault long is = absurd is
too_long (kept sought) input bytes fault long is = absurd is
too_long (compared whom) input bytes fault long is = absurd is
too_long (due dealer) input bytes fault long is = rw long refl
too_long (investor_due name) input bytes fault long is = rw long refl
too_long (compare dealer) input bytes fault long is = rw long refl
too_long (investor_compare name) input bytes fault long is = rw long refl
too_long (blotter firm) input bytes fault long is = rw long refl

-- and it has no text
no_text : (command : Command) (input text : List ℕ) → nat_lt MOST_INPUT (length input) ≡ true → IsTextOf command input text → ⊥
no_text (alone with_frames false) input text long is = let fits = is.fits in grind (arith, nat_tests)
no_text (alone with_frames true) input text long is = let fits = is.fits in grind (arith, nat_tests)
no_text (replay firm with_frames) input text long is = let same = is.spelled in cc (rw long at same)
no_text (day with_frames woven) input text long is = let same = is.recorded.spelled in cc (rw long at same)
no_text (live form) input text long is = absurd is
no_text (kept sought) input text long is = absurd is
no_text (compared whom) input text long is = absurd is
no_text (due dealer) input text long is = let same = is.spelled in cc (rw long at same)
no_text (investor_due name) input text long is = let same = is.spelled in cc (rw long at same)
no_text (compare dealer) input text long is = let same = is.spelled in cc (rw long at same)
no_text (investor_compare name) input text long is = let same = is.spelled in cc (rw long at same)
no_text (blotter firm) input text long is = let same = is.spelled in cc (rw long at same)

-- what was read is all, or too long, as all is then
read_whole : (all bytes : List ℕ) → IsReadOf all bytes
    → ((nat_lt MOST_INPUT (length bytes) ≡ true) × (nat_lt MOST_INPUT (length all) ≡ true)) ⊎ (bytes ≡ all)
read_whole all bytes read = elim (cases_Bool (nat_lt MOST_INPUT (length bytes))) [
  | inl long ↦
      inl (
        long,
        (let over : MOST_INPUT < length bytes = grind (arith, nat_tests) in
            let sum = ap length read.split ∙ length-append bytes read.rest in
            grind (arith, nat_tests)),
      )
  | inr short ↦
      (let fits : length bytes ≤ MOST_INPUT = grind (arith, nat_tests) in
      inr (all_read all bytes read fits))
]

pub fault_read : (command : Command) (known : Option (List ℕ)) (bytes : List ℕ) (fault : ProgramFault) → IfSome known (λ all. IsReadOf all bytes)
    → IsFaultOf command bytes fault → IfSome known (λ all. IsFaultOf command all fault)
fault_read command None bytes fault read is = tt
fault_read command (Some all) bytes fault read is = elim (read_whole all bytes read) [
  | inl long ↦ subst (IsFaultOf command all) (long_fault command bytes fault long.0 is) (too_long command all bytes fault long.1 is)
  | inr same ↦ subst (λ (l : List ℕ). IsFaultOf command l fault) same is
]

pub printed_read : (command : Command) (known : Option (List ℕ)) (out : Written) (bytes text : List ℕ) → IfSome known (λ all. IsReadOf all bytes)
    → IsTextOf command bytes text → Gains text out → IfSome known (λ all. HasPrinted command all out)
printed_read command None out bytes text read printed gained = tt
printed_read command (Some all) out bytes text read printed gained = elim (read_whole all bytes read) [
  | inl long ↦ absurd (no_text command bytes text long.0 printed)
  | inr same ↦ record { text = text; is_text = subst (λ (l : List ℕ). IsTextOf command l text) same printed; gained = gained }
]

pub part_read : (command : Command) (known : Option (List ℕ)) (out : Written) (bytes text : List ℕ) → IfSome known (λ all. IsReadOf all bytes)
    → IsTextOf command bytes text → GainsPart text out → IfSome known (λ all. HasPrintedPart command all out)
part_read command None out bytes text read printed gained = tt
part_read command (Some all) out bytes text read printed gained = elim (read_whole all bytes read) [
  | inl long ↦ absurd (no_text command bytes text long.0 printed)
  | inr same ↦ record { text = text; is_text = subst (λ (l : List ℕ). IsTextOf command l text) same printed; gained = gained }
]

-- a fault that is found before anything is printed
pub fault_left : (command : Command) (known old : Option (List ℕ)) (bytes : List ℕ) (fault : ProgramFault) → IfSome known (λ all. IsReadOf all bytes)
    → fault ≢ Write → (fault ≢ Memory → IsFaultOf command bytes fault) → FaultLeaves command fault known (record { before = old; after = old })
fault_left command known old bytes Read read other is = keeps_same old
fault_left command known old bytes Memory read other is = keeps_same old
fault_left command known old bytes Write read other is = absurd (other refl)
fault_left command known old bytes Input read other is = (keeps_same old, fault_read command known bytes Input read (is (λ e. cc)))
fault_left command known old bytes Parts read other is = (keeps_same old, fault_read command known bytes Parts read (is (λ e. cc)))
fault_left command known old bytes (Config f) read other is = (keeps_same old, fault_read command known bytes (Config f) read (is (λ e. cc)))
fault_left command known old bytes Firm read other is = (keeps_same old, fault_read command known bytes Firm read (is (λ e. cc)))
fault_left command known old bytes (Form line) read other is = (keeps_same old, fault_read command known bytes (Form line) read (is (λ e. cc)))
fault_left command known old bytes (UnknownFirm line) read other is =
    (keeps_same old, fault_read command known bytes (UnknownFirm line) read (is (λ e. cc)))
fault_left command known old bytes (UnknownRoom line) read other is =
    (keeps_same old, fault_read command known bytes (UnknownRoom line) read (is (λ e. cc)))
fault_left command known old bytes (Day what) read other is = (keeps_same old, fault_read command known bytes (Day what) read (is (λ e. cc)))
fault_left command known old bytes (Weave why) read other is = (keeps_same old, fault_read command known bytes (Weave why) read (is (λ e. cc)))
fault_left command known old bytes (Stream line) read other is = (keeps_same old, fault_read command known bytes (Stream line) read (is (λ e. cc)))

-- ---- after the writing of a command's text

pub printed_ok : {A : Type 0} (r : Result A ProgramFault) (command : Command) (known : Option (List ℕ)) (out : Written) (bytes text : List ℕ)
    → IfSome known (λ all. IsReadOf all bytes) → IsTextOf command bytes text → OnOk r (Gains text out) → OnOk r (IfSome known (λ all. HasPrinted command all out))
printed_ok (Ok x) command known out bytes text read printed gained = printed_read command known out bytes text read printed gained
printed_ok (Err fault) command known out bytes text read printed gained = tt

pub printed_err : {A : Type 0} (r : Result A ProgramFault) (command : Command) (known : Option (List ℕ)) (out : Written) (bytes text : List ℕ)
    → IfSome known (λ all. IsReadOf all bytes) → IsTextOf command bytes text → IfErr r (λ fault. fault ≡ Write) → OnErr r (GainsPart text out)
    → IfErr r (λ fault. FaultLeaves command fault known out)
printed_err (Ok x) command known out bytes text read printed is part = tt
printed_err (Err fault) command known out bytes text read printed is part =
    subst (λ (f : ProgramFault). FaultLeaves command f known out) (sym is) (part_read command known out bytes text read printed part)
