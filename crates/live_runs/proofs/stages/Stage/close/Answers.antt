use Rattle.std.proofs.Common.{◌≡◌, List, ℕ, refl, rules, subst}
use Rattle.std.specs.Io.KnownBytes.{Appends}
use Rattle.input_lines.specs.declared.faults.ProgramFault.TheVariants.{Memory, Parts}
use Rattle.live_runs.specs.Written.{GainsPart}
use Rattle.live_runs.specs.declared.stages.Stage.TheVariants as stage
use Rattle.live_runs.proofs.GainLemmas.{same_fault}
use Rattle.live_runs.proofs.EndLemmas.{closes_in_memory, last_bare, last_between, last_both}
use Rattle.live_runs.proofs.EndLemmas.{last_both_unprinted, last_first, last_unprinted}
use Rattle.live_runs.proofs.stages.Stage.close.Goals as goal

pub returns-in-Configuration-clause-err : goal.returns-in-Configuration-clause-err
returns-in-Configuration-clause-err g c =
    let was : c.args.self ≡ stage.Configuration c.in-Configuration.text = search rules in
    last_bare c.args.self c.in-Configuration.text Parts (g.W.Write.contents c.args.out.now) was refl

pub returns-in_err-text-in-Kept-clause-err : goal.returns-in_err-text-in-Kept-clause-err
returns-in_err-text-in-Kept-clause-err g c =
    same_fault _ c.from_residual.result Memory c.from_residual.ensures.1
    (closes_in_memory c.args.self Memory (g.W.Write.contents c.args.out.now) refl)

pub returns-in_err-print_text-in-Kept-clause-err : goal.returns-in_err-print_text-in-Kept-clause-err
returns-in_err-print_text-in-Kept-clause-err g c =
    let text = c.in_ok-text-in-Kept.text.items in
    let old = g.W.Write.contents c.args.out.now in
    let new = g.W.Write.contents c.print_text.new.out in
    let fault = c.in_err-print_text-in-Kept.field-0.0 in
    let was : c.args.self ≡ stage.Kept c.in-Kept.day = search rules in
    let part = subst (λ (t : List ℕ). GainsPart t (record { before = old; after = new })) c.as_slice.ensures.value
    c.in_err-print_text-in-Kept.ensures.part in
    same_fault _ c.from_residual-in_err-print_text-in-Kept.result fault c.from_residual-in_err-print_text-in-Kept.ensures.1
    (last_unprinted c.args.self c.in-Kept.day old new text fault was c.in_err-print_text-in-Kept.ensures.err
    c.in_ok-text-in-Kept.ensures part)

pub returns-in-First-clause-err : goal.returns-in-First-clause-err
returns-in-First-clause-err g c =
    let was : c.args.self ≡ stage.First c.in-First.day = search rules in
    last_first c.args.self c.in-First.day Parts (g.W.Write.contents c.args.out.now) was refl

pub returns-in-Between-clause-err : goal.returns-in-Between-clause-err
returns-in-Between-clause-err g c =
    let was : c.args.self ≡ stage.Between c.in-Between.day c.in-Between.text = search rules in
    last_between c.args.self c.in-Between.day c.in-Between.text Parts (g.W.Write.contents c.args.out.now) was refl

pub returns-in_err-text-in-Both-clause-err : goal.returns-in_err-text-in-Both-clause-err
returns-in_err-text-in-Both-clause-err g c =
    same_fault _ c.from_residual-in_err-text-in-Both.result Memory c.from_residual-in_err-text-in-Both.ensures.1
    (closes_in_memory c.args.self Memory (g.W.Write.contents c.args.out.now) refl)

pub returns-in_err-print_text-in-Both-clause-err : goal.returns-in_err-print_text-in-Both-clause-err
returns-in_err-print_text-in-Both-clause-err g c =
    let text = c.in_ok-text-in-Both.text.items in
    let old = g.W.Write.contents c.args.out.now in
    let new = g.W.Write.contents c.print_text-in-Both.new.out in
    let fault = c.in_err-print_text-in-Both.field-0.0 in
    let was : c.args.self ≡ stage.Both c.in-Both.one c.in-Both.other = search rules in
    let part = subst (λ (t : List ℕ). GainsPart t (record { before = old; after = new })) c.as_slice-in-Both.ensures.value
    c.in_err-print_text-in-Both.ensures.part in
    same_fault _ c.from_residual-in_err-print_text-in-Both.result fault c.from_residual-in_err-print_text-in-Both.ensures.1
    (last_both_unprinted c.args.self c.in-Both.one c.in-Both.other old new text fault was c.in_err-print_text-in-Both.ensures.err
    c.in_ok-text-in-Both.ensures part)

pub returns-in_ok-print_text-in-Both-clause-ok : goal.returns-in_ok-print_text-in-Both-clause-ok
returns-in_ok-print_text-in-Both-clause-ok g c =
    let text = c.in_ok-text-in-Both.text.items in
    let old = g.W.Write.contents c.args.out.now in
    let new = g.W.Write.contents c.print_text-in-Both.new.out in
    let was : c.args.self ≡ stage.Both c.in-Both.one c.in-Both.other = search rules in
    let gained = subst (λ (t : List ℕ). Appends old new t) c.as_slice-in-Both.ensures.value c.in_ok-print_text-in-Both.ensures.ok in
    last_both c.args.self c.in-Both.one c.in-Both.other old new text was c.in_ok-text-in-Both.ensures gained
