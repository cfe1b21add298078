-- What streams gain, and what two clauses say of a result.
use Rattle.std.proofs.Common.{◌≡◌, ℕ, ◌==◌, true, List, [], ◌∷◌, ◌++◌, length, Option, Some, None}
use Rattle.std.proofs.Common.{Result, Ok, Err, refl, sym, ap, subst, ◌∙◌, arith}
use Rattle.std.specs.Io.KnownBytes.{Appends, Keeps}
use Rattle.std.specs.Prelude.{IfErr, IsErrAnd}
use Rattle.std.proofs.lemmas.Bool.Decides.{nat_tests}
use Rattle.std.proofs.lemmas.List.{append-nil}
use Rattle.input_lines.specs.declared.faults.ProgramFault.{ProgramFault}
use Rattle.live_runs.specs.LiveRuns.{GainsFaults}

-- Results.

pub same_fault : {A : Type 0} (P : ProgramFault → Type 0) (r : Result A ProgramFault) (e : ProgramFault) → IsErrAnd r (λ f. f ≡ e) → P e → IfErr r P
same_fault P (Ok x) e is p = tt
same_fault P (Err f) e is p = subst P (sym is) p

pub empty_line : (line : List ℕ) → true ≡ (length line == 0) → line ≡ []
empty_line [] e = refl
empty_line (c ∷ line) e = absurd (let is = sym e in grind (arith, nat_tests))

-- Streams.

kept_first : (old mid new : Option (List ℕ)) (text : List ℕ) → Keeps old mid → Appends mid new text → Appends old new text
kept_first None mid new text kept gained = tt
kept_first (Some xs) None new text kept gained = absurd kept
kept_first (Some xs) (Some ys) None text kept gained = absurd gained
kept_first (Some xs) (Some ys) (Some zs) text kept gained = gained ∙ ap (λ (l : List ℕ). l ++ text) kept

keeps_both : (old mid new : Option (List ℕ)) → Keeps old mid → Keeps mid new → Keeps old new
keeps_both None mid new first second = tt
keeps_both (Some xs) None new first second = absurd first
keeps_both (Some xs) (Some ys) None first second = absurd second
keeps_both (Some xs) (Some ys) (Some zs) first second = second ∙ first

-- nothing is gained where nothing is written
pub gains_nothing : (old new : Option (List ℕ)) → Keeps old new → Appends old new []
gains_nothing None new kept = tt
gains_nothing (Some xs) None kept = absurd kept
gains_nothing (Some xs) (Some ys) kept = kept ∙ sym (append-nil xs)

-- faults behind what stays as it is
faults_behind : (faults : List ProgramFault) (old mid new : Option (List ℕ)) → Keeps old mid
    → GainsFaults faults (record { before = mid; after = new }) → GainsFaults faults (record { before = old; after = new })
faults_behind [] old mid new kept told = keeps_both old mid new kept told
faults_behind (fault ∷ faults) old mid new kept told =
    (told.0, record { taken = told.1.taken; gained = kept_first old mid told.0 _ kept told.1.gained }, told.2)

-- faults more are told
pub faults_more : (faults more : List ProgramFault) (old mid new : Option (List ℕ))
    → GainsFaults faults (record { before = old; after = mid }) → GainsFaults more (record { before = mid; after = new })
    → GainsFaults (faults ++ more) (record { before = old; after = new })
faults_more [] more old mid new told later = faults_behind more old mid new told later
faults_more (first ∷ faults) more old mid new told later = (told.0, told.1, faults_more faults more told.0 mid new told.2 later)

pub faults_kept : (faults : List ProgramFault) (old mid new : Option (List ℕ)) → GainsFaults faults (record { before = old; after = mid }) → Keeps mid new
    → GainsFaults faults (record { before = old; after = new })
faults_kept [] old mid new told kept = keeps_both old mid new told kept
faults_kept (first ∷ faults) old mid new told kept = (told.0, told.1, faults_kept faults told.0 mid new told.2 kept)
