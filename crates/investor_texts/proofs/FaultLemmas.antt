-- A fault that is handed on.
use Rattle.std.proofs.Common.{◌≡◌, Result, Ok, Err, sym, subst}
use Rattle.std.specs.Prelude.{IfErr, IsErrAnd}
use Rattle.input_lines.specs.declared.faults.ProgramFault.{ProgramFault}

pub same_fault : {A : Type 0} (P : ProgramFault → Type 0) (r : Result A ProgramFault)
    (e : ProgramFault) → IsErrAnd r (λ f. f ≡ e) → P e → IfErr r P
same_fault P (Ok x) e is p = tt
same_fault P (Err f) e is p = subst P (sym is) p
