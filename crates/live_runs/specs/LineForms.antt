-- What a day that is taken line by line is printed as.
use Rattle.investor_texts.specs.SoughtDays as sought_days
use Rattle.investor_texts.specs.SoughtDays.{Sought, Whom}
use Rattle.venue_text.specs.declared.live_form.LiveForm.{LiveForm}
use Rattle.live_runs.specs.declared.line_forms.LineForm.{LineForm as RustForm}
use Rattle.live_runs.specs.declared.line_forms.LineForm.TheVariants as rust_form

-- What is printed of a day that is taken line by line: the messages of each line as it comes; or
-- what is asked for, at the end.
pub data LineForm : Type 0 where
  answered : LiveForm → LineForm
  kept_for : Sought → LineForm
  -- two days, and at the end of the second what differs for the firm that is named
  compared_for : Whom → LineForm

-- the form of the code's type
abbrev pub meant_form : RustForm → LineForm
meant_form (rust_form.Answered form) = answered form
meant_form (rust_form.Kept sought) = kept_for (sought_days.meant sought)
meant_form (rust_form.Compared whom) = compared_for (sought_days.whom_meant whom)
