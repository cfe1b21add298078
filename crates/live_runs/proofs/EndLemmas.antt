-- The input ends.
use Rattle.std.proofs.Common.{◌≡◌, ℕ, ◌+◌, ◌==◌, true, false, List, [], ◌∷◌, ◌++◌, length, Option}
use Rattle.std.proofs.Common.{refl, sym, ap, subst, ◌∙◌, inl, inr, take}
use Rattle.std.specs.Io.KnownBytes.{Appends}
use Rattle.std.specs.Prelude.{Vec}
use Rattle.std.specs.declared.alloc.Global.{Global}
use Rattle.std.proofs.lemmas.Bool.{false≢true}
use Rattle.std.proofs.Math.Seq.{take-append_seam}
use Rattle.std.proofs.lemmas.List.{append-nil}
use Rattle.venue_rows.specs.Rows.{Configuration}
use Rattle.input_lines.specs.Lines.{lines_of}
use Rattle.investor_texts.specs.SoughtDays as sought_days
use Rattle.investor_texts.specs.SoughtDays.{Sought, Whom, sought_of, sought_text, IsComparison}
use Rattle.venue_text.specs.LiveInput.{taken_in}
use Rattle.venue_text.specs.LiveLines.{Taken}
use Rattle.input_lines.specs.declared.faults.ProgramFault.{ProgramFault}
use Rattle.input_lines.specs.declared.faults.ProgramFault.TheVariants.{Memory, Parts, Write}
use Rattle.investor_texts.specs.declared.sought_days.SoughtDay.{SoughtDay}
use Rattle.live_runs.specs.LineForms.{answered, compared_for, kept_for}
use Rattle.live_runs.specs.LiveRuns.{AreWithin, EndsDay, EndsInAnswers, HasCompared, TakesOne}
use Rattle.live_runs.specs.LiveRuns.{ended_lines, second_taken}
use Rattle.live_runs.specs.LiveCalls.{err_new, out_new, CloseFails, Closes, EndFails, Ends}
use Rattle.live_runs.specs.LiveCalls.{LineFails, LineTakes}
use Rattle.live_runs.specs.LiveStages.{BothGo, IsCut, StageIs, taken_at}
use Rattle.live_runs.specs.Written.{GainsPart, Written}
use Rattle.live_runs.specs.declared.live.LiveRun.{LiveRun}
use Rattle.live_runs.specs.declared.stages.Stage.{Stage}
use Rattle.live_runs.specs.declared.stages.Stage.TheVariants as stage
use Rattle.live_runs.proofs.FeedLemmas.{line_last}
use Rattle.live_runs.proofs.LimitLemmas.{lines_within}
use Rattle.live_runs.proofs.StreamLemmas.{appends_both, more_part}
use Rattle.live_runs.proofs.TwoDayLemmas.{awaiting_taken, both_taken, first_brought, no_day}
use Rattle.live_runs.proofs.TwoDayLemmas.{not_whole, one_taken, second_brought}
use Rattle.live_runs.proofs.StageLemmas.{answered_by, still}

whole_lines : (read : List ℕ) (lines : List (List ℕ)) (begun : List ℕ) → IsCut read lines begun → begun ≡ [] → lines_of read ≡ lines
whole_lines read lines begun cut empty =
    ap lines_of (sym (append-nil read)) ∙ cut.closed [] ∙ ap (λ (t : List ℕ). lines ++ lines_of (t ++ [])) empty ∙ append-nil lines

last_line : (read : List ℕ) (lines : List (List ℕ)) (begun : List ℕ) → IsCut read lines begun → (length begun == 0) ≡ false
    → lines_of read ≡ lines ++ begun ∷ []
last_line read lines [] cut some = absurd (false≢true (sym some))
last_line read lines (c ∷ begun) cut some =
    ap lines_of (sym (append-nil read)) ∙ cut.closed [] ∙ ap (λ (t : List ℕ). lines ++ lines_of t) (append-nil (c ∷ begun))
    ∙ ap (λ (l : List (List ℕ)). lines ++ l) (line_last c begun cut.goes_on)

module _ (before : LiveRun) (o o' e : Option (List ℕ)) (empty : before.line.items ≡ []) (last : Stage) (was : last ≡ before.stage) where
  pub end_here : Closes last (record { before = o; after = o' }) → Ends before (record { before = o; after = o' }) (still e)
  end_here closes form read start stands =
      subst (λ (l : List (List ℕ)). AreWithin form l × EndsInAnswers form l (record { before = start.out; after = o' }) (err_new start (still e)))
      (sym (whole_lines read stands.lines before.line.items stands.cut empty)) (
        lines_within form stands.lines before (record { before = start.out; after = o }) (err_new start (still e)) stands.come,
        closes form stands.lines start.out (err_new start (still e))
            (subst (λ (s : Stage). StageIs form stands.lines s (record { before = start.out; after = o }) (err_new start (still e))) (sym was)
            stands.come.stage_is),
      )

  pub end_bare : (fault : ProgramFault) → CloseFails last fault (record { before = o; after = o' })
      → EndFails before fault (record { before = o; after = o' }) (still e)
  end_bare fault fails form read start stands =
      subst (λ (l : List (List ℕ)). EndsDay form fault l (record { before = start.out; after = o' }) (err_new start (still e)))
      (sym (whole_lines read stands.lines before.line.items stands.cut empty))
      (fails form stands.lines start.out (err_new start (still e))
      (subst (λ (s : Stage). StageIs form stands.lines s (record { before = start.out; after = o }) (err_new start (still e))) (sym was) stands.come.stage_is))

module _ (before : LiveRun) (some : (length before.line.items == 0) ≡ false) where
  module _ (after : LiveRun) (o o' o'' e e' : Option (List ℕ))
      (takes : LineTakes before after (record { before = o; after = o' }) (record { before = e; after = e' }))
      (last : Stage) (was : last ≡ after.stage) where
    pub end_last : Closes last (record { before = o'; after = o'' }) → Ends before (record { before = o; after = o'' }) (record { before = e; after = e' })
    end_last closes form read start stands =
        let come = takes form stands.lines start stands.come stands.short in
        subst (λ (l : List (List ℕ)). AreWithin form l × EndsInAnswers form l (record { before = start.out; after = o'' })
        (record { before = start.err; after = e' })) (sym (last_line read stands.lines before.line.items stands.cut some)) (
          lines_within form (stands.lines ++ before.line.items ∷ []) after (record { before = start.out; after = o' })
              (record { before = start.err; after = e' }) come,
          closes form (stands.lines ++ before.line.items ∷ []) start.out (record { before = start.err; after = e' })
              (subst (λ (s : Stage). StageIs form (stands.lines ++ before.line.items ∷ []) s (record { before = start.out; after = o' })
              (record { before = start.err; after = e' })) (sym was) come.stage_is),
        )

    pub end_last_bare : (fault : ProgramFault) → CloseFails last fault (record { before = o'; after = o'' })
        → EndFails before fault (record { before = o; after = o'' }) (record { before = e; after = e' })
    end_last_bare fault fails form read start stands =
        subst (λ (l : List (List ℕ)). EndsDay form fault l (record { before = start.out; after = o'' }) (record { before = start.err; after = e' }))
        (sym (last_line read stands.lines before.line.items stands.cut some))
        (fails form (stands.lines ++ before.line.items ∷ []) start.out (record { before = start.err; after = e' })
        (subst (λ (s : Stage). StageIs form (stands.lines ++ before.line.items ∷ []) s (record { before = start.out; after = o' })
        (record { before = start.err; after = e' })) (sym was) (takes form stands.lines start stands.come stands.short).stage_is))

  pub end_fails : (fault : ProgramFault) (out err : Written) → LineFails before fault out err → EndFails before fault out err
  end_fails fault out err fails form read start stands =
      subst (λ (l : List (List ℕ)). EndsDay form fault l (out_new start out) (err_new start err))
      (append-nil (stands.lines ++ before.line.items ∷ []) ∙ sym (last_line read stands.lines before.line.items stands.cut some))
      (fails form stands.lines start stands.come [])

-- The input ends at a stage.

-- there is no day
pub closes_bare : (t : Vec ℕ Global) (fault : ProgramFault) (o : Option (List ℕ)) → fault ≡ Parts
    → CloseFails (stage.Configuration t) fault (still o)
closes_bare t fault o none form lines start err is =
    subst (λ (f : ProgramFault). EndsDay form f lines (record { before = start; after = o }) err) (sym none)
    (record {
      is_fault = not_whole form lines is.nothing.undivided;
      lines = lines;
      rest = [];
      split = sym (append-nil lines);
      reached = refl;
      left = no_day form lines (record { before = start; after = o }) err is.nothing;
    })

-- what is asked for is what the lines have brought
abbrev pub TextAnywhere : SoughtDay → List ℕ → Type 0
TextAnywhere day text = (config : Configuration) (sought : Sought) (taken : Taken) → sought_days.Keeps sought config taken day
    → text ≡ sought_text sought config taken.steps

module _ (day : SoughtDay) (o o' : Option (List ℕ)) where
  pub closes_unprinted : (text : List ℕ) (fault : ProgramFault) → fault ≡ Write → TextAnywhere day text
      → GainsPart text (record { before = o; after = o' }) → CloseFails (stage.Kept day) fault (record { before = o; after = o' })
  closes_unprinted text fault write texts part (answered form) lines start err is = absurd is
  closes_unprinted text fault write texts part (compared_for whom) lines start err is = absurd is
  closes_unprinted text fault write texts part (kept_for sought) lines start err is =
      let text_is = texts is.config sought (taken_in is.config lines) is.keeps in
      subst (λ (f : ProgramFault). EndsDay (kept_for sought) f lines (record { before = start; after = o' }) err) (sym write)
      (record {
        is_fault = tt;
        lines = lines;
        rest = [];
        split = sym (append-nil lines);
        reached = refl;
        left = (
          is.config,
          record {
            divided = is.answers.divided;
            spelled = is.answers.spelled;
            asked = is.answers.asked;
            printed = subst (λ (t : List ℕ). GainsPart t (record { before = start; after = o' })) text_is
                (more_part start o o' [] text is.answers.printed part);
            told = is.answers.told;
          },
        );
      })

-- memory was refused
pub closes_in_memory : (last : Stage) (fault : ProgramFault) (o : Option (List ℕ)) → fault ≡ Memory → CloseFails last fault (still o)
closes_in_memory last fault o none form lines start err is =
    subst (λ (f : ProgramFault). EndsDay form f lines (record { before = start; after = o }) err) (sym none)
    (record {
      is_fault = tt;
      lines = lines;
      rest = [];
      split = sym (append-nil lines);
      reached = tt;
      left = answered_by form lines last (record { before = start; after = o }) err is;
    })

-- there is no second day
in_one_day : (whom : Whom) (fault : ProgramFault) (lines : List (List ℕ)) (config : Configuration) (out err : Written) → fault ≡ Parts
    → TakesOne whom config lines out err → EndsDay (compared_for whom) fault lines out err
in_one_day whom fault lines config out err none takes =
    subst (λ (f : ProgramFault). EndsDay (compared_for whom) f lines out err) (sym none)
    (record { is_fault = takes.alone; lines = lines; rest = []; split = sym (append-nil lines); reached = refl; left = inr (inl (config, takes)) })

pub closes_first : (day : SoughtDay) (fault : ProgramFault) (o : Option (List ℕ)) → fault ≡ Parts → CloseFails (stage.First day) fault (still o)
closes_first day fault o none (answered form) lines start err is = absurd is
closes_first day fault o none (kept_for sought) lines start err is = absurd is
closes_first day fault o none (compared_for whom) lines start err is =
    in_one_day whom fault lines is.goes.config _ err none (one_taken whom lines day _ err is)

pub closes_between : (day : SoughtDay) (t : Vec ℕ Global) (fault : ProgramFault) (o : Option (List ℕ)) → fault ≡ Parts
    → CloseFails (stage.Between day t) fault (still o)
closes_between day t fault o none (answered form) lines start err is = absurd is
closes_between day t fault o none (kept_for sought) lines start err is = absurd is
closes_between day t fault o none (compared_for whom) lines start err is =
    in_one_day whom fault lines is.goes.goes.config _ err none (awaiting_taken whom lines day t.items _ err is)

-- what differs between the two days
abbrev pub ComparesAnywhere : SoughtDay → SoughtDay → List ℕ → Type 0
ComparesAnywhere one other text = (whom : Whom) (config other_config : Configuration) (taken other_taken : Taken)
    → sought_days.Keeps (sought_of whom) config taken one → sought_days.Keeps (sought_of whom) other_config other_taken other
    → IsComparison whom config taken.steps other_config other_taken.steps text

has_compared : (whom : Whom) (lines : List (List ℕ)) (one other : SoughtDay) (text : List ℕ) (out err : Written) → ComparesAnywhere one other text
    → BothGo whom lines one other out err → HasCompared whom lines text err
has_compared whom lines one other text out err compares both =
    let mid : Written = record { before = err.before; after = both.mid } in
    let config = both.goes.goes.config in
    let other_config = both.second.config in
    let first = first_brought whom lines both.first both.divider both.behind both.two one out mid both.goes config in
    let second = second_brought whom lines both.first both.divider both.behind both.two one out mid both.goes other_config in
    record {
      one = config;
      other = other_config;
      takes = both_taken whom lines one other out err both;
      compared = subst (λ (t : Taken). IsComparison whom config t.steps other_config (second_taken other_config lines).steps text) (sym first)
          (subst (λ (t : Taken). IsComparison whom config (taken_in config both.first).steps other_config t.steps text) (sym second)
          (compares whom config other_config (taken_in config both.first) (taken_at other_config (length both.first + 2) both.behind)
          both.goes.goes.keeps both.second.keeps));
    }

module _ (one other : SoughtDay) (o o' : Option (List ℕ)) (text : List ℕ) (compares : ComparesAnywhere one other text) where
  pub closes_both : Appends o o' text → Closes (stage.Both one other) (record { before = o; after = o' })
  closes_both gained (answered form) lines start err is = absurd is
  closes_both gained (kept_for sought) lines start err is = absurd is
  closes_both gained (compared_for whom) lines start err is = (
    text,
    has_compared whom lines one other text (record { before = start; after = o }) err compares is,
    appends_both start o o' [] text is.goes.goes.answers.printed gained,
  )

  pub closes_both_unprinted : (fault : ProgramFault) → fault ≡ Write → GainsPart text (record { before = o; after = o' })
      → CloseFails (stage.Both one other) fault (record { before = o; after = o' })
  closes_both_unprinted fault write part (answered form) lines start err is = absurd is
  closes_both_unprinted fault write part (kept_for sought) lines start err is = absurd is
  closes_both_unprinted fault write part (compared_for whom) lines start err is =
      subst (λ (f : ProgramFault). EndsDay (compared_for whom) f lines (record { before = start; after = o' }) err) (sym write)
      (record {
        is_fault = tt;
        lines = lines;
        rest = [];
        split = sym (append-nil lines);
        reached = refl;
        left = (
          text,
          has_compared whom lines one other text (record { before = start; after = o }) err compares is,
          more_part start o o' [] text is.goes.goes.answers.printed part,
        );
      })

-- The same of a stage by what it is.

module _ (last : Stage) where
  pub last_bare : (t : Vec ℕ Global) (fault : ProgramFault) (o : Option (List ℕ)) → last ≡ stage.Configuration t → fault ≡ Parts
      → CloseFails last fault (still o)
  last_bare t fault o was none = subst (λ (s : Stage). CloseFails s fault (still o)) (sym was) (closes_bare t fault o none)

  pub last_unprinted : (day : SoughtDay) (o o' : Option (List ℕ)) (text : List ℕ) (fault : ProgramFault) → last ≡ stage.Kept day
      → fault ≡ Write → TextAnywhere day text → GainsPart text (record { before = o; after = o' })
      → CloseFails last fault (record { before = o; after = o' })
  last_unprinted day o o' text fault was write texts part =
      subst (λ (s : Stage). CloseFails s fault (record { before = o; after = o' })) (sym was) (closes_unprinted day o o' text fault write texts part)

  pub last_first : (day : SoughtDay) (fault : ProgramFault) (o : Option (List ℕ)) → last ≡ stage.First day → fault ≡ Parts
      → CloseFails last fault (still o)
  last_first day fault o was none = subst (λ (s : Stage). CloseFails s fault (still o)) (sym was) (closes_first day fault o none)

  pub last_between : (day : SoughtDay) (t : Vec ℕ Global) (fault : ProgramFault) (o : Option (List ℕ)) → last ≡ stage.Between day t → fault ≡ Parts
      → CloseFails last fault (still o)
  last_between day t fault o was none = subst (λ (s : Stage). CloseFails s fault (still o)) (sym was) (closes_between day t fault o none)

  pub last_both : (one other : SoughtDay) (o o' : Option (List ℕ)) (text : List ℕ) → last ≡ stage.Both one other → ComparesAnywhere one other text
      → Appends o o' text → Closes last (record { before = o; after = o' })
  last_both one other o o' text was compares gained =
      subst (λ (s : Stage). Closes s (record { before = o; after = o' })) (sym was) (closes_both one other o o' text compares gained)

  pub last_both_unprinted : (one other : SoughtDay) (o o' : Option (List ℕ)) (text : List ℕ) (fault : ProgramFault) → last ≡ stage.Both one other
      → fault ≡ Write → ComparesAnywhere one other text → GainsPart text (record { before = o; after = o' })
      → CloseFails last fault (record { before = o; after = o' })
  last_both_unprinted one other o o' text fault was write compares part =
      subst (λ (s : Stage). CloseFails s fault (record { before = o; after = o' })) (sym was)
      (closes_both_unprinted one other o o' text compares fault write part)

-- the lines that came whole are those that have their line feed
pub ended_is : (read : List ℕ) (lines : List (List ℕ)) (begun : List ℕ) → IsCut read lines begun → ended_lines read ≡ lines
ended_is read lines begun cut =
    let behind = lines_of (begun ++ []) in
    ap (λ n. take n (lines_of read)) (sym cut.count) ∙ ap (take (length lines)) (ap lines_of (sym (append-nil read)) ∙ cut.closed [])
    ∙ take-append_seam lines behind
