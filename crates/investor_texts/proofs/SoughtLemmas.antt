-- A day of firms, or one of an investor, as what is sought of it.
use Rattle.std.proofs.Common.{◌≡◌, ℕ, List, Option, Some, Result, Ok, Err, sym, ap, subst}
use Rattle.std.proofs.Common.{◌∙◌}
use Rattle.venue_rows.specs.Rows.{Configuration}
use Rattle.step_replay.specs.declared.steps.Step.{Step}
use Rattle.input_lines.specs.declared.faults.ProgramFault.{ProgramFault}
use Rattle.input_lines.specs.ResultSteps.{◌>>=◌}
use Rattle.input_lines.specs.VenueParts.{venue_of}
use Rattle.venue_text.specs.KeptComparison.{IsKeptComparison}
use Rattle.venue_text.specs.KeptDays as kept
use Rattle.venue_text.specs.KeptDays.{Wanted}
use Rattle.venue_text.specs.LiveLines.{Taken}
use Rattle.venue_text.specs.declared.kept_days.Asked.{Asked}
use Rattle.venue_text.specs.declared.kept_days.KeptDay.{KeptDay}
use Rattle.venue_text.specs.declared.kept_days.Wanted.{Wanted as RustWanted}
use Rattle.investor_texts.specs.DueCommand.{investor_by}
use Rattle.investor_texts.specs.LineDays as line_days
use Rattle.investor_texts.specs.LineDays.{AreDaysCompared, IsDayText, KeepsDay, OpensDay}
use Rattle.investor_texts.specs.SoughtDays.{IsComparison, Keeps, KeepsMore, OpensSought, Sought}
use Rattle.investor_texts.specs.SoughtDays.{Whom, asked_venue, firms, investor, meant, of_firms}
use Rattle.investor_texts.specs.SoughtDays.{of_investor, sought_of, sought_text, text_if}
use Rattle.investor_texts.specs.SoughtDays.{text_where, the_dealer, the_investor}
use Rattle.investor_texts.specs.declared.line_days.InvestorDay.{InvestorDay}
use Rattle.investor_texts.specs.declared.sought_days.Sought.{Sought as RustSought}
use Rattle.investor_texts.specs.declared.sought_days.Sought.TheVariants as rust
use Rattle.investor_texts.specs.declared.sought_days.SoughtDay.{SoughtDay}
use Rattle.investor_texts.specs.declared.sought_days.SoughtDay.TheVariants as day

-- before the first line

pub opens_firms : (sought : RustSought) (wanted : RustWanted) (text : List ℕ) (d : KeptDay)
    → sought ≡ rust.Firms wanted → kept.OpensKept (kept.meant wanted) text d
    → OpensSought (meant sought) text (day.Firms d)
opens_firms sought wanted text d is opens =
    subst (λ (s : RustSought). OpensSought (meant s) text (day.Firms d)) (sym is)
    (record { config = opens.config; spelled = opens.spelled; keeps = opens.keeps })

pub opens_investor : (sought : Sought) (name text : List ℕ) (d : InvestorDay)
    → sought ≡ of_investor name → OpensDay name text d
    → OpensSought sought text (day.Investor d)
opens_investor sought name text d is opens =
    subst (λ (s : Sought). OpensSought s text (day.Investor d)) (sym is)
    (record { config = opens.config; spelled = opens.spelled; keeps = opens.keeps })

-- the first fault

err_then : {A B C : Type 0} (r : Result A ProgramFault) (f : A → Result B ProgramFault)
    (g : B → Result C ProgramFault) (fault : ProgramFault) → (r >>= f) ≡ Err fault
    → (r >>= (λ x. f x >>= g)) ≡ Err fault
err_then (Ok x) f g fault is = ap (λ y. y >>= g) is
err_then (Err other) f g fault is =
    let same : other ≡ fault = cc in
    ap (λ (found : ProgramFault). Err found) same

pub fault_of_firms : (sought : RustSought) (wanted : RustWanted) (text : List ℕ)
    (fault : ProgramFault) → sought ≡ rust.Firms wanted
    → kept.asked_venue (kept.meant wanted) text ≡ Err fault
    → asked_venue (meant sought) text ≡ Err fault
fault_of_firms sought wanted text fault is found =
    ap (λ (s : RustSought). asked_venue (meant s) text) is
    ∙ err_then (venue_of text) (kept.asked_in (kept.meant wanted))
    (λ (asked : Asked). Ok (firms asked)) fault found

pub fault_of_investor : (sought : Sought) (name text : List ℕ) (fault : ProgramFault)
    → sought ≡ of_investor name → line_days.asked_venue name text ≡ Err fault
    → asked_venue sought text ≡ Err fault
fault_of_investor sought name text fault is found =
    ap (λ (s : Sought). asked_venue s text) is
    ∙ err_then (venue_of text) (investor_by name)
    (λ (number : ℕ). Ok (investor number)) fault found

-- two days, for whom they are compared

pub dealers_compare : (whom : Whom) (config other_config : Configuration)
    (taken other_taken : Taken) (one second : KeptDay) (other : SoughtDay) (text : List ℕ)
    → other ≡ day.Firms second
    → ((name : List ℕ) (c other_c : Configuration) (t other_t : Taken)
    → kept.Keeps (kept.dues (Some name)) c t one
    → kept.Keeps (kept.dues (Some name)) other_c other_t second
    → IsKeptComparison name c t.steps other_c other_t.steps text)
    → Keeps (sought_of whom) config taken (day.Firms one)
    → Keeps (sought_of whom) other_config other_taken other
    → IsComparison whom config taken.steps other_config other_taken.steps text
dealers_compare (the_dealer name) config other_config taken other_taken one second other text is
    compared keeps other_keeps =
    compared name config other_config taken other_taken keeps
    (subst (Keeps (sought_of (the_dealer name)) other_config other_taken) is other_keeps)
dealers_compare (the_investor name) config other_config taken other_taken one second other text is
    compared keeps other_keeps = absurd keeps

pub investors_compare : (whom : Whom) (config other_config : Configuration)
    (taken other_taken : Taken) (one second : InvestorDay) (other : SoughtDay) (text : List ℕ)
    → other ≡ day.Investor second
    → ((name : List ℕ) (c other_c : Configuration) (t other_t : Taken)
    → KeepsDay name c t one → KeepsDay name other_c other_t second
    → AreDaysCompared name c t.steps other_c other_t.steps text)
    → Keeps (sought_of whom) config taken (day.Investor one)
    → Keeps (sought_of whom) other_config other_taken other
    → IsComparison whom config taken.steps other_config other_taken.steps text
investors_compare (the_investor name) config other_config taken other_taken one second other text
    is compared keeps other_keeps =
    compared name config other_config taken other_taken keeps
    (subst (Keeps (sought_of (the_investor name)) other_config other_taken) is other_keeps)
investors_compare (the_dealer name) config other_config taken other_taken one second other text is
    compared keeps other_keeps = absurd keeps

-- behind a line more

pub firms_more : (sought : Sought) (config : Configuration) (taken : Taken) (k : ℕ)
    (line : List ℕ) (before : SoughtDay) (d after : KeptDay) (fault : Option ProgramFault)
    → before ≡ day.Firms d
    → ((c : Configuration) (wanted : Wanted) (t : Taken) → kept.Keeps wanted c t d
    → kept.KeepsMore wanted c t k line after fault)
    → Keeps sought config taken before
    → KeepsMore sought config taken k line (day.Firms after) fault
firms_more (of_firms wanted) config taken k line before d after fault is more keeps =
    let had = subst (Keeps (of_firms wanted) config taken) is keeps in
    let next = more config wanted taken had in
    record { keeps = next.keeps; told = next.told }
firms_more (of_investor name) config taken k line before d after fault is more keeps =
    absurd (subst (Keeps (of_investor name) config taken) is keeps)

pub investor_more : (sought : Sought) (config : Configuration) (taken : Taken) (k : ℕ)
    (line : List ℕ) (before : SoughtDay) (d after : InvestorDay) (fault : Option ProgramFault)
    → before ≡ day.Investor d
    → ((name : List ℕ) (c : Configuration) (t : Taken) → KeepsDay name c t d
    → line_days.KeepsMore name c t k line after fault)
    → Keeps sought config taken before
    → KeepsMore sought config taken k line (day.Investor after) fault
investor_more (of_investor name) config taken k line before d after fault is more keeps =
    let had = subst (Keeps (of_investor name) config taken) is keeps in
    let next = more name config taken had in
    record { keeps = next.keeps; told = next.told }
investor_more (of_firms wanted) config taken k line before d after fault is more keeps =
    absurd (subst (Keeps (of_firms wanted) config taken) is keeps)

-- what is printed at the end

pub text_firms : (sought : Sought) (config : Configuration) (taken : Taken) (before : SoughtDay)
    (d : KeptDay) (text : List ℕ) → before ≡ day.Firms d
    → ((c : Configuration) (wanted : Wanted) (t : Taken) → kept.Keeps wanted c t d
    → text ≡ kept.kept_text wanted c t.steps)
    → Keeps sought config taken before → text ≡ sought_text sought config taken.steps
text_firms (of_firms wanted) config taken before d text is printed keeps =
    printed config wanted taken (subst (Keeps (of_firms wanted) config taken) is keeps)
text_firms (of_investor name) config taken before d text is printed keeps =
    absurd (subst (Keeps (of_investor name) config taken) is keeps)

text_is : (name : List ℕ) (config : Configuration) (steps : List Step) (text : List ℕ)
    → IsDayText name config steps text → text ≡ sought_text (of_investor name) config steps
text_is name config steps text is =
    is.text_is.printed
    ∙ sym (ap (text_if config steps) is.named
    ∙ ap (text_where config is.investor steps) is.text_is.is_investor)

pub text_investor : (sought : Sought) (config : Configuration) (taken : Taken)
    (before : SoughtDay) (d : InvestorDay) (text : List ℕ) → before ≡ day.Investor d
    → ((name : List ℕ) (c : Configuration) (t : Taken) → KeepsDay name c t d
    → IsDayText name c t.steps text)
    → Keeps sought config taken before → text ≡ sought_text sought config taken.steps
text_investor (of_investor name) config taken before d text is printed keeps =
    text_is name config taken.steps text
    (printed name config taken (subst (Keeps (of_investor name) config taken) is keeps))
text_investor (of_firms wanted) config taken before d text is printed keeps =
    absurd (subst (Keeps (of_firms wanted) config taken) is keeps)
