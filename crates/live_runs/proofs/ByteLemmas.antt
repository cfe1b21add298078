-- The line that has begun is whole; a byte comes, and bytes.
use Rattle.std.proofs.Common.{◌≡◌, ◌⊎◌, ℕ, ◌+◌, ◌<◌, ◌≤◌, ◌==◌, true, false, List, [], ◌∷◌, ◌++◌}
use Rattle.std.proofs.Common.{length, Option, refl, sym, ap, subst, ◌∙◌, arith, inl, inr}
use Rattle.std.proofs.Common.{append_assoc, nat_lt, take, drop}
use Rattle.std.specs.List.{list_any}
use Rattle.std.proofs.lemmas.Bool.{cases_Bool}
use Rattle.std.proofs.lemmas.Bool.Decides.{nat_tests}
use Rattle.std.proofs.lemmas.List.{length-append, take-append-drop}
use Rattle.std.proofs.lemmas.List.Folds.{list_any-append}
use Rattle.input_lines.specs.Lines.{lines_of}
use Rattle.input_lines.specs.declared.faults.ProgramFault.{ProgramFault}
use Rattle.input_lines.specs.declared.faults.ProgramFault.TheVariants.{Input, Memory}
use Rattle.input_lines.specs.declared.lines.TheConstants.{MOST_INPUT}
use Rattle.live_runs.specs.LiveRuns.{EndsDay}
use Rattle.live_runs.specs.LiveCalls.{err_new, err_old, out_new, out_old, FeedFails, Feeds}
use Rattle.live_runs.specs.LiveCalls.{LineFails, LineTakes}
use Rattle.live_runs.specs.LiveStages.{IsCut, StandsAt}
use Rattle.live_runs.specs.Written.{Written}
use Rattle.live_runs.specs.declared.live.LiveRun.{LiveRun}
use Rattle.live_runs.specs.declared.live.TheConstants.{MOST_LINES}
use Rattle.live_runs.proofs.FeedLemmas.{line_closed, line_goes_on, feeds_end, feeds_stay}
use Rattle.live_runs.proofs.StageLemmas.{answered_by, still}

-- The line that has begun is whole.

pub line_past : (before : LiveRun) (o e : Option (List ℕ)) → MOST_LINES < before.number → LineFails before Input (still o) (still e)
line_past before o e past form lines start come more =
    let line = before.line.items in
    let first = length-append (lines ++ line ∷ []) more in
    let second = length-append lines (line ∷ []) in
    let at = come.number_is in
    record {
      is_fault = inr (inr (omega (arith, first, second, at, past)));
      lines = lines;
      rest = line ∷ more;
      split = append_assoc lines (line ∷ []) more;
      reached = inr (inr (omega (arith, second, at, past)));
      left = answered_by form lines before.stage (out_old start (still o)) (err_old start (still e)) come.stage_is;
    }

-- A byte comes.

cut_end : (read : List ℕ) (lines : List (List ℕ)) (begun : List ℕ) → IsCut read lines begun → IsCut (read ++ 10 ∷ []) (lines ++ begun ∷ []) []
cut_end read lines begun cut = record {
  count = length-append lines (begun ∷ []) ∙ ap (λ n. n + 1) cut.count ∙ sym (feeds_end read);
  closed = λ tail. ap lines_of (append_assoc read (10 ∷ []) tail) ∙ cut.closed (10 ∷ tail)
      ∙ ap (λ (l : List (List ℕ)). lines ++ l) (line_closed begun tail cut.goes_on) ∙ sym (append_assoc lines (begun ∷ []) (lines_of tail));
  goes_on = refl;
}

cut_more : (read : List ℕ) (lines : List (List ℕ)) (begun : List ℕ) (c : ℕ) → (c == 10) ≡ false → IsCut read lines begun
    → IsCut (read ++ c ∷ []) lines (begun ++ c ∷ [])
cut_more read lines begun c goes cut = record {
  count = cut.count ∙ sym (feeds_stay read c goes);
  closed = λ tail. ap lines_of (append_assoc read (c ∷ []) tail) ∙ cut.closed (c ∷ tail)
      ∙ ap (λ (t : List ℕ). lines ++ lines_of t) (sym (append_assoc begun (c ∷ []) tail));
  goes_on = rw (list_any-append (λ (x : ℕ). x == 10) begun (c ∷ []), cut.goes_on, goes) refl;
}

pub take_end : (before after : LiveRun) (c : ℕ) (out err : Written) → c ≡ 10 → LineTakes before after out err → after.line.items ≡ []
    → Feeds (c ∷ []) before after out err
take_end before after c out err is takes empty form read start stands =
    subst (λ (b : ℕ). StandsAt form (read ++ b ∷ []) after (out_new start out) (err_new start err)) (sym is)
    (record {
      lines = stands.lines ++ before.line.items ∷ [];
      cut = subst (IsCut (read ++ 10 ∷ []) (stands.lines ++ before.line.items ∷ [])) (sym empty)
          (cut_end read stands.lines before.line.items stands.cut);
      come = takes form stands.lines start stands.come stands.short;
      short = subst (λ (t : List ℕ). length t ≤ MOST_INPUT) (sym empty) (omega arith);
    })

pub take_fails : (before : LiveRun) (c : ℕ) (fault : ProgramFault) (out err : Written) → c ≡ 10 → LineFails before fault out err
    → FeedFails (c ∷ []) before fault out err
take_fails before c fault out err is fails form read start stands tail =
    subst (λ (b : ℕ). EndsDay form fault (lines_of ((read ++ b ∷ []) ++ tail)) (out_new start out) (err_new start err)) (sym is)
    (subst (λ (l : List (List ℕ)). EndsDay form fault l (out_new start out) (err_new start err))
    (sym ((cut_end read stands.lines before.line.items stands.cut).closed tail)) (fails form stands.lines start stands.come (lines_of tail)))

long_line : (lines : List (List ℕ)) (line : List ℕ) (behind : List (List ℕ)) → MOST_INPUT < length line
    → list_any (λ l. nat_lt MOST_INPUT (length l)) (lines ++ line ∷ behind) ≡ true
long_line [] line behind long = let is : nat_lt MOST_INPUT (length line) ≡ true = grind (arith, nat_tests) in rw is refl
long_line (first ∷ lines) line behind long =
    elim (cases_Bool (nat_lt MOST_INPUT (length first))) [
      | inl is ↦ rw is refl
      | inr not ↦ rw not (long_line lines line behind long)
    ]

pub put_fails : (before : LiveRun) (c : ℕ) (fault : ProgramFault) (o e : Option (List ℕ)) → (c == 10) ≡ false
    → (fault ≡ Memory) ⊎ ((fault ≡ Input) × MOST_INPUT ≤ length before.line.items) → FeedFails (c ∷ []) before fault (still o) (still e)
put_fails before c fault o e goes (inl is) form read start stands tail =
    subst (λ (f : ProgramFault). EndsDay form f (lines_of ((read ++ c ∷ []) ++ tail)) (out_new start (still o)) (err_new start (still e))) (sym is)
    (record {
      is_fault = tt;
      lines = stands.lines;
      rest = lines_of ((before.line.items ++ c ∷ []) ++ tail);
      split = (cut_more read stands.lines before.line.items c goes stands.cut).closed tail;
      reached = tt;
      left = answered_by form stands.lines before.stage _ _ stands.come.stage_is;
    })
put_fails before c fault o e goes (inr is) form read start stands tail =
    let begun = before.line.items in
    let closed = ap lines_of (append_assoc read (c ∷ []) tail) ∙ stands.cut.closed (c ∷ tail) in
    let on = line_goes_on begun c tail stands.cut.goes_on goes in
    let whole = closed ∙ ap (λ (l : List (List ℕ)). stands.lines ++ l) on.is in
    let long = on.long in
    let full = is.1 in
    let past : MOST_INPUT < length on.line = omega (arith, long, full) in
    subst (λ (f : ProgramFault). EndsDay form f (lines_of ((read ++ c ∷ []) ++ tail)) (out_new start (still o)) (err_new start (still e))) (sym is.0)
    (record {
      is_fault = inl (ap (list_any (λ l. nat_lt MOST_INPUT (length l))) whole ∙ long_line stands.lines on.line on.behind past);
      lines = stands.lines;
      rest = lines_of (begun ++ c ∷ tail);
      split = closed;
      reached = inl (ap (λ (l : List (List ℕ)). list_any (λ x. nat_lt MOST_INPUT (length x)) (stands.lines ++ take 1 l)) on.is
          ∙ long_line stands.lines on.line [] past);
      left = answered_by form stands.lines before.stage _ _ stands.come.stage_is;
    })

-- Bytes come.

pub feeds_both : (first mid last : LiveRun) (a b : List ℕ) (o o' o'' e e' e'' : Option (List ℕ))
    → Feeds a first mid (record { before = o; after = o' }) (record { before = e; after = e' })
    → Feeds b mid last (record { before = o'; after = o'' }) (record { before = e'; after = e'' })
    → Feeds (a ++ b) first last (record { before = o; after = o'' }) (record { before = e; after = e'' })
feeds_both first mid last a b o o' o'' e e' e'' one two form read start stands =
    subst (λ (r : List ℕ). StandsAt form r last (record { before = start.out; after = o'' }) (record { before = start.err; after = e'' }))
    (append_assoc read a b) (two form (read ++ a) start (one form read start stands))

pub feeds_fail : (first mid : LiveRun) (fault : ProgramFault) (a b rest : List ℕ) (o o' o'' e e' e'' : Option (List ℕ))
    → Feeds a first mid (record { before = o; after = o' }) (record { before = e; after = e' })
    → FeedFails b mid fault (record { before = o'; after = o'' }) (record { before = e'; after = e'' })
    → FeedFails (a ++ b ++ rest) first fault (record { before = o; after = o'' }) (record { before = e; after = e'' })
feeds_fail first mid fault a b rest o o' o'' e e' e'' one two form read start stands tail =
    let same : ((read ++ a) ++ b) ++ (rest ++ tail) ≡ (read ++ (a ++ b ++ rest)) ++ tail = simp (append_assoc) in
    subst (λ (t : List ℕ). EndsDay form fault (lines_of t) (record { before = start.out; after = o'' }) (record { before = start.err; after = e'' }))
    same (two form (read ++ a) start (one form read start stands) (rest ++ tail))

-- a byte of them ended the day
pub feeds_fail_at : (first mid : LiveRun) (fault : ProgramFault) (bytes : List ℕ) (at : ℕ) {b : ℕ} (o o' o'' e e' e'' : Option (List ℕ))
    → Feeds (take at bytes) first mid (record { before = o; after = o' }) (record { before = e; after = e' })
    → FeedFails (b ∷ []) mid fault (record { before = o'; after = o'' }) (record { before = e'; after = e'' })
    → take (at + 1) bytes ≡ take at bytes ++ b ∷ []
    → FeedFails bytes first fault (record { before = o; after = o'' }) (record { before = e; after = e'' })
feeds_fail_at first mid fault bytes at {b = b} o o' o'' e e' e'' one two is =
    subst (λ (l : List ℕ). FeedFails l first fault (record { before = o; after = o'' }) (record { before = e; after = e'' }))
    (ap (λ (l : List ℕ). l ++ drop (at + 1) bytes) (sym is) ∙ take-append-drop (at + 1) bytes)
    (feeds_fail first mid fault (take at bytes) (b ∷ []) (drop (at + 1) bytes) o o' o'' e e' e'' one two)
