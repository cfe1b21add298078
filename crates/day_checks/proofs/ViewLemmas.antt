-- What the dealers of a day were sent, by their numbers.
use Rattle.std.proofs.Common.{◌≡◌, ◌∙◌, sym, ap, refl, ℕ, List, Option, Some, None}
use Rattle.std.specs.Prelude.{slice_get}
use Rattle.std.specs.Option.{option_map, option_and_then}
use Rattle.std.proofs.lemmas.Option.{same_Some}
use Rattle.venue_rows.specs.Rows.{Configuration, dealer_numbered}
use Rattle.venue_rows.specs.declared.dealer_rows.DealerRow.{DealerRow}
use Rattle.recorded_days.specs.DayDues.{day_due_list, day_dues_of}
use Rattle.step_replay.specs.DealerView.{dealer_view}
use Rattle.recorded_days.specs.Records.{DealerLists, RecordedDay}
use Rattle.step_replay.specs.declared.dues.Due.{Due}
use Rattle.day_checks.specs.KeptDays.{DealerKeeps, DealersKeep, sent_on}

-- what was due by the events at a desk, where the dealer has this row
abbrev pub dues_of : Configuration → DealerRow → DealerLists → List Due
dues_of config row lists = day_due_list config.date row lists.events

-- a dealer's day that is recorded, or is not, as one that keeps what it has to
pub view_found : (config : Configuration) (dealers : List DealerLists) (dealer : ℕ)
    (row : DealerRow) (found : Option DealerLists) → DealersKeep config dealers
    → dealer_numbered config dealer ≡ Some row → slice_get dealers dealer ≡ found
    → option_map (λ (lists : DealerLists). lists.sent) found
    ≡ option_map (dealer_view config.date row) (option_map (dues_of config row) found)
view_found config dealers dealer row None keep here is = refl
view_found config dealers dealer row (Some lists) keep here is =
    let kept : DealerKeeps config dealer lists = keep dealer lists is in
    let same : kept.row ≡ row = same_Some kept.row row (sym kept.row_is ∙ here) in
    ap Some (kept.view_is ∙ ap (λ (own : DealerRow).
    dealer_view config.date own (day_due_list config.date own lists.events)) same)

-- the list of what was due, where the dealer has this row
pub dues_found : (config : Configuration) (day : RecordedDay) (dealer : ℕ) (row : DealerRow)
    → dealer_numbered config dealer ≡ Some row
    → day_dues_of config day dealer
    ≡ option_map (dues_of config row) (slice_get day.dealers dealer)
dues_found config day dealer row here =
    ap (option_and_then (λ (own : DealerRow).
    option_map (λ (lists : DealerLists). day_due_list config.date own lists.events)
    (slice_get day.dealers dealer))) here

-- a dealer was sent the dealer view
pub is_sent_on : (config : Configuration) (day : RecordedDay) (dealer : ℕ) (row : DealerRow)
    → DealersKeep config day.dealers → dealer_numbered config dealer ≡ Some row
    → sent_on day dealer
    ≡ option_map (dealer_view config.date row) (day_dues_of config day dealer)
is_sent_on config day dealer row keep here =
    view_found config day.dealers dealer row (slice_get day.dealers dealer) keep here refl
    ∙ ap (option_map (dealer_view config.date row)) (sym (dues_found config day dealer row here))
