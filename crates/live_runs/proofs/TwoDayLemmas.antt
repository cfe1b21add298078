-- Two days, one behind the other.
use Rattle.std.proofs.Common.{◌≡◌, ◌≤◌, ℕ, ◌+◌, true, false, List, [], ◌∷◌, ◌++◌, length, Option, Some}
use Rattle.std.proofs.Common.{None, Ok, refl, sym, ap, subst, ◌∙◌, arith, inl, inr, append_assoc}
use Rattle.std.specs.Io.KnownBytes.{Appends, Keeps}
use Rattle.std.specs.Option.{option_to_list}
use Rattle.std.proofs.lemmas.List.{append-nil, length-append}
use Rattle.venue_rows.specs.Rows.{Configuration, values_of}
use Rattle.investor_texts.specs.SoughtDays as sought_days
use Rattle.investor_texts.specs.SoughtDays.{KeepsMore, OpensSought, Whom, sought_of}
use Rattle.venue_text.specs.LiveInput.{are_divided, configuration_in, taken_in}
use Rattle.venue_text.specs.LiveLines.{Taken}
use Rattle.input_lines.specs.VenueParts.{is_divider, venue_of}
use Rattle.input_lines.specs.declared.faults.ProgramFault.{ProgramFault}
use Rattle.input_lines.specs.declared.lines.TheConstants.{MOST_INPUT}
use Rattle.investor_texts.specs.declared.sought_days.SoughtDay.{SoughtDay}
use Rattle.live_runs.specs.LineForms.{LineForm, answered, compared_for, kept_for}
use Rattle.live_runs.specs.LiveRuns.{GainsFaults, HasAnswered, AnswersNothing, HasNoDay}
use Rattle.live_runs.specs.LiveRuns.{IsConfigurationIn, IsWholeIn, TakesBoth, TakesOne, are_four}
use Rattle.live_runs.specs.LiveRuns.{are_whole}
use Rattle.live_runs.specs.LiveRuns.{first_taken, second_configuration, second_taken}
use Rattle.live_runs.specs.LiveCalls.{Start, KeepsAnywhere, err_new, err_old, out_new, out_old}
use Rattle.live_runs.specs.LiveCalls.{KeptTakes}
use Rattle.live_runs.specs.LiveStages.{AreTwo, AwaitsSecond, BothGo, FirstGoes, taken_at}
use Rattle.live_runs.specs.Written.{IsUntouched, Written}
use Rattle.live_runs.proofs.LineLemmas.{configuration_is, configuration_stays, alone_still}
use Rattle.live_runs.proofs.LineLemmas.{first_alone, first_taken_alone, first_taken_is, four_is}
use Rattle.live_runs.proofs.LineLemmas.{nothing_at, second_configuration_is, second_taken_is}
use Rattle.live_runs.proofs.LineLemmas.{taken_any_at, undivided_alone, now_divided, still_undivided}
use Rattle.live_runs.proofs.LineLemmas.{text_grows}
use Rattle.live_runs.proofs.PartLemmas.{parts_stay}
use Rattle.live_runs.proofs.StreamLemmas.{keeps_same}
use Rattle.live_runs.proofs.GainLemmas.{faults_more}
use Rattle.live_runs.proofs.DayLineLemmas.{asked_of}

-- By the form.

pub answers_nothing : (form : LineForm) (lines : List (List ℕ)) (out err : Written) → AnswersNothing lines out err → HasAnswered form lines out err
answers_nothing (answered form) lines out err nothing = inl nothing
answers_nothing (kept_for sought) lines out err nothing = inl nothing
answers_nothing (compared_for whom) lines out err nothing = inl nothing

pub no_day : (form : LineForm) (lines : List (List ℕ)) (out err : Written) → AnswersNothing lines out err → HasNoDay form lines out err
no_day (answered form) lines out err nothing = (nothing.left, nothing.untold)
no_day (kept_for sought) lines out err nothing = (nothing.left, nothing.untold)
no_day (compared_for whom) lines out err nothing = inl nothing

pub first_text : (form : LineForm) (lines : List (List ℕ)) → IsConfigurationIn form lines (configuration_in lines)
first_text (answered form) lines = refl
first_text (kept_for sought) lines = refl
first_text (compared_for whom) lines = inl refl

pub first_whole : (form : LineForm) (lines : List (List ℕ)) → are_divided lines ≡ true → IsWholeIn form lines (configuration_in lines)
first_whole (answered form) lines divided = (divided, refl)
first_whole (kept_for sought) lines divided = (divided, refl)
first_whole (compared_for whom) lines divided = inl (divided, refl)

pub not_whole : (form : LineForm) (lines : List (List ℕ)) → are_divided lines ≡ false → are_whole form lines ≡ false
not_whole (answered form) lines undivided = undivided
not_whole (kept_for sought) lines undivided = undivided
not_whole (compared_for whom) lines undivided = undivided_alone lines undivided

-- Two days.

keeps_of : (old new : Option (List ℕ)) → Appends old new [] → Keeps old new
keeps_of None new gained = tt
keeps_of (Some xs) None gained = absurd gained
keeps_of (Some xs) (Some ys) gained = gained ∙ append-nil xs

pub one_taken : (whom : Whom) (lines : List (List ℕ)) (day : SoughtDay) (out err : Written) → (goes : FirstGoes whom lines day out err)
    → TakesOne whom goes.goes.config lines out err
one_taken whom lines day out err first = record {
  alone = first_alone lines first.alone;
  spelled = first.goes.answers.spelled;
  asked = first.goes.answers.asked;
  left = keeps_of out.before out.after first.goes.answers.printed;
  told = subst (λ (t : Taken). GainsFaults t.faults err) (sym (first_taken_alone first.goes.config lines first.alone)) first.goes.answers.told;
}

module _ (whom : Whom) (lines first : List (List ℕ)) (divider : List ℕ) (behind : List (List ℕ)) (two : AreTwo lines first divider behind)
    (day : SoughtDay) (out err : Written) (goes : FirstGoes whom first day out err) where
  first_spelled : venue_of (configuration_in lines) ≡ Ok (values_of goes.goes.config)
  first_spelled =
      ap (λ l. venue_of (configuration_in l)) two.split
      ∙ ap venue_of (configuration_stays first (divider ∷ behind) goes.goes.answers.divided) ∙ goes.goes.answers.spelled

  pub four_are : are_four lines ≡ are_divided behind
  four_are = ap are_four two.split ∙ four_is first divider behind goes.goes.answers.divided goes.alone two.divides

  pub second_text : second_configuration lines ≡ configuration_in behind
  second_text =
      ap second_configuration two.split ∙ second_configuration_is first divider behind goes.goes.answers.divided goes.alone two.divides

  pub first_brought : (config : Configuration) → first_taken config lines ≡ taken_in config first
  first_brought config =
      ap (first_taken config) two.split ∙ first_taken_is first divider behind goes.goes.answers.divided goes.alone two.divides config

  pub second_brought : (config : Configuration) → second_taken config lines ≡ taken_at config (length first + 2) behind
  second_brought config =
      ap (second_taken config) two.split ∙ second_taken_is first divider behind goes.goes.answers.divided goes.alone two.divides config

  first_told : GainsFaults (first_taken goes.goes.config lines).faults err
  first_told = subst (λ (t : Taken). GainsFaults t.faults err) (sym (first_brought goes.goes.config)) goes.goes.answers.told

  between_taken : are_divided behind ≡ false → TakesOne whom goes.goes.config lines out err
  between_taken undivided = record {
    alone = four_are ∙ undivided;
    spelled = first_spelled;
    asked = goes.goes.answers.asked;
    left = keeps_of out.before out.after goes.goes.answers.printed;
    told = first_told;
  }

pub awaiting_taken : (whom : Whom) (lines : List (List ℕ)) (day : SoughtDay) (text : List ℕ) (out err : Written)
    → (awaits : AwaitsSecond whom lines day text out err) → TakesOne whom awaits.goes.goes.config lines out err
awaiting_taken whom lines day text out err awaits =
    between_taken whom lines awaits.first awaits.divider awaits.behind awaits.two day out err awaits.goes awaits.undivided

pub both_taken : (whom : Whom) (lines : List (List ℕ)) (one other : SoughtDay) (out err : Written) → (both : BothGo whom lines one other out err)
    → TakesBoth whom both.goes.goes.config both.second.config lines err
both_taken whom lines one other out err both =
    let mid : Written = record { before = err.before; after = both.mid } in
    let second = both.second in
    record {
      both = four_are whom lines both.first both.divider both.behind both.two one out mid both.goes ∙ second.divided;
      spelled = first_spelled whom lines both.first both.divider both.behind both.two one out mid both.goes;
      asked = both.goes.goes.answers.asked;
      other_spelled = ap venue_of (second_text whom lines both.first both.divider both.behind both.two one out mid both.goes) ∙ second.spelled;
      other_asked = asked_of (sought_of whom) second.config (taken_at second.config (length both.first + 2) both.behind) other second.keeps;
      told = faults_more _ _ err.before both.mid err.after
          (first_told whom lines both.first both.divider both.behind both.two one out mid both.goes)
          (subst (λ (t : Taken). GainsFaults t.faults (record { before = both.mid; after = err.after }))
          (sym (second_brought whom lines both.first both.divider both.behind both.two one out mid both.goes second.config)) second.told);
    }

both_untouched : (whom : Whom) (lines : List (List ℕ)) (one other : SoughtDay) (out err : Written) → BothGo whom lines one other out err
    → IsUntouched out
both_untouched whom lines one other out err both = keeps_of out.before out.after both.goes.goes.answers.printed

-- what two days have taken was answered
pub both_answered : (whom : Whom) (lines : List (List ℕ)) (one other : SoughtDay) (out err : Written) → BothGo whom lines one other out err
    → HasAnswered (compared_for whom) lines out err
both_answered whom lines one other out err both =
    inr (inr (both_untouched whom lines one other out err both, (both.goes.goes.config, both.second.config, both_taken whom lines one other out err both)))

-- a line more of the first
pub first_more : (whom : Whom) (number : ℕ) (line : List ℕ) (before after : SoughtDay) (out err : Written) → is_divider line ≡ false
    → KeptTakes number line before after out err → (lines : List (List ℕ)) (start : Start) → number ≡ length lines + 1
    → FirstGoes whom lines before (out_old start out) (err_old start err)
    → FirstGoes whom (lines ++ line ∷ []) after (out_new start out) (err_new start err)
first_more whom number line before after out err other takes lines start at had = record {
  goes = takes (sought_of whom) lines start at had.goes;
  alone = alone_still lines line had.goes.answers.divided had.alone other;
}

-- its end
pub first_ends : (whom : Whom) (lines : List (List ℕ)) (line text : List ℕ) (day : SoughtDay) (out err : Written) → is_divider line ≡ true
    → text ≡ [] → FirstGoes whom lines day out err → AwaitsSecond whom (lines ++ line ∷ []) day text out err
first_ends whom lines line text day out err here empty had = record {
  first = lines;
  divider = line;
  behind = [];
  two = record { split = refl; divides = here };
  goes = had;
  undivided = refl;
  text_is = empty;
  short = subst (λ (t : List ℕ). length t ≤ MOST_INPUT) (sym empty) (omega arith);
}

two_more : (lines first : List (List ℕ)) (divider : List ℕ) (behind : List (List ℕ)) (line : List ℕ) → AreTwo lines first divider behind
    → AreTwo (lines ++ line ∷ []) first divider (behind ++ line ∷ [])
two_more lines first divider behind line two = record {
  split = ap (λ (l : List (List ℕ)). l ++ line ∷ []) two.split ∙ append_assoc first (divider ∷ behind) (line ∷ []);
  divides = two.divides;
}

-- a line of the second configuration
pub awaiting_more : (whom : Whom) (lines : List (List ℕ)) (line text after : List ℕ) (day : SoughtDay) (out err : Written) → is_divider line ≡ false
    → after ≡ text ++ line ++ 10 ∷ [] → length after ≤ MOST_INPUT → AwaitsSecond whom lines day text out err
    → AwaitsSecond whom (lines ++ line ∷ []) day after out err
awaiting_more whom lines line text after day out err other is fits had = record {
  first = had.first;
  divider = had.divider;
  behind = had.behind ++ line ∷ [];
  two = two_more lines had.first had.divider had.behind line had.two;
  goes = had.goes;
  undivided = still_undivided had.behind line had.undivided other;
  text_is = is ∙ ap (λ (t : List ℕ). t ++ line ++ 10 ∷ []) had.text_is ∙ sym (text_grows had.behind line);
  short = fits;
}

-- its end
pub second_opens : (whom : Whom) (lines : List (List ℕ)) (line text : List ℕ) (one other : SoughtDay) (out err : Written) → is_divider line ≡ true
    → OpensSought (sought_of whom) text other → AwaitsSecond whom lines one text out err → BothGo whom (lines ++ line ∷ []) one other out err
second_opens whom lines line text one other out err here opens had =
    let nothing = nothing_at opens.config (length had.first + 2) had.behind line had.undivided here in
    record {
      first = had.first;
      divider = had.divider;
      behind = had.behind ++ line ∷ [];
      two = two_more lines had.first had.divider had.behind line had.two;
      mid = err.after;
      goes = had.goes;
      second = record {
        config = opens.config;
        divided = now_divided had.behind line had.undivided here;
        spelled = ap venue_of (configuration_is had.behind line had.undivided here ∙ sym had.text_is) ∙ opens.spelled;
        keeps = subst (λ (t : Taken). sought_days.Keeps (sought_of whom) opens.config t other) (sym nothing) opens.keeps;
        told = subst (λ (t : Taken). GainsFaults t.faults (record { before = err.after; after = err.after })) (sym nothing) (keeps_same err.after);
        short = subst (λ (t : List ℕ). length t ≤ MOST_INPUT)
            (sym (configuration_is had.behind line had.undivided here ∙ sym had.text_is)) had.short;
      };
    }

-- a line more of the second
pub both_more : (whom : Whom) (number : ℕ) (line : List ℕ) (fault : Option ProgramFault) (one before after : SoughtDay)
    → KeepsAnywhere number line before after fault → (o e e' : Option (List ℕ))
    → GainsFaults (option_to_list fault) (record { before = e; after = e' }) → (lines : List (List ℕ)) (start : Start) → number ≡ length lines + 1
    → BothGo whom lines one before (record { before = start.out; after = o }) (record { before = start.err; after = e })
    → BothGo whom (lines ++ line ∷ []) one after (record { before = start.out; after = o }) (record { before = start.err; after = e' })
both_more whom number line fault one before after keeps o e e' tells lines start at had =
    let second = had.second in
    let k = length had.first + 2 in
    let count = ap (λ (l : List (List ℕ)). length l) had.two.split ∙ length-append had.first (had.divider ∷ had.behind) in
    let place : number ≡ k + length had.behind = omega (arith, at, count) in
    let same = taken_any_at second.config k had.behind line second.divided in
    let more = subst (λ (n : ℕ). KeepsMore (sought_of whom) second.config (taken_at second.config k had.behind) n line after fault) place
    (keeps second.config (sought_of whom) (taken_at second.config k had.behind) second.keeps) in
    let faults : (taken_at second.config k (had.behind ++ line ∷ [])).faults
    ≡ (taken_at second.config k had.behind).faults ++ option_to_list fault =
    ap (λ (t : Taken). t.faults) same ∙ more.told in
    record {
      first = had.first;
      divider = had.divider;
      behind = had.behind ++ line ∷ [];
      two = two_more lines had.first had.divider had.behind line had.two;
      mid = had.mid;
      goes = had.goes;
      second = record {
        config = second.config;
        divided = (parts_stay is_divider had.behind (line ∷ []) second.divided).any;
        spelled = ap venue_of (configuration_stays had.behind (line ∷ []) second.divided) ∙ second.spelled;
        keeps = subst (λ (t : Taken). sought_days.Keeps (sought_of whom) second.config t after) (sym same) more.keeps;
        told = subst (λ (f : List ProgramFault). GainsFaults f (record { before = had.mid; after = e' })) (sym faults)
            (faults_more (taken_at second.config k had.behind).faults (option_to_list fault) had.mid e e' second.told tells);
        short = subst (λ (t : List ℕ). length t ≤ MOST_INPUT)
            (sym (configuration_stays had.behind (line ∷ []) second.divided)) second.short;
      };
    }
