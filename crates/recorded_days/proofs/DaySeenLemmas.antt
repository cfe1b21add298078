-- How far the dealer view of what was due and the events of its desk have come together.
use Rattle.std.proofs.Common.{◌≡◌, ◌≤◌, ℕ, ◌==◌, Bool, true, false, ◌||◌, ◌&&◌, not, nat_le, List}
use Rattle.std.proofs.Common.{[], ◌∷◌, ◌++◌, if◌then◌else◌, refl, sym, ap, ◌∙◌, arith}
use Rattle.std.specs.List.{list_any}
use Rattle.std.proofs.lemmas.Bool.Decides.{nat_tests}
use Rattle.std.proofs.lemmas.List.Sums.{fold-append}
use Rattle.venue_rows.specs.declared.dealer_rows.DealerRow.{DealerRow}
use Rattle.dealer_desk.specs.DealerFacts.{DealerFact, book_of}
use Rattle.dealer_desk.specs.DealerOutput.{DeskState, after_event, desk_after}
use Rattle.dealer_desk.specs.SettledWords.{settled_words, asked_by}
use Rattle.dealer_desk.specs.DeskLaws.{says_lifted, says_withdrawn, withdraws}
use Rattle.dealer_desk.specs.declared.events.DealerEvent.{DealerEvent}
use Rattle.step_replay.specs.DealerView.{ViewState, after_due, view_after, view_at_start}
use Rattle.step_replay.specs.declared.dues.Due.{Due}
use Rattle.step_replay.specs.declared.dues.Due.TheVariants as due
use Rattle.recorded_days.specs.DayDues.{DayDues, after_recorded, dues_after, dues_at_start}
use Rattle.recorded_days.proofs.DeskLemmas.{view_of}
use Rattle.step_replay.specs.DealerGrowth.{desk_push}

-- the laws of a desk that are used: the words that are asked stand in the facts, event by event
abbrev pub WordsGrow : Type 0
WordsGrow = (date : List ℕ) (row : DealerRow) (events : List DealerEvent) (more : DealerEvent)
    → settled_words (desk_after date row (events ++ more ∷ [])).facts
    ≡ settled_words (desk_after date row events).facts
    ++ asked_by date row (book_of (desk_after date row events).facts) more

-- a quote is withdrawn where its word was settled so
abbrev pub WithdrawnIsSaid : Type 0
WithdrawnIsSaid = (facts : List DealerFact) (quote : ℕ)
    → list_any (withdraws quote) facts ≡ list_any (says_withdrawn quote) (settled_words facts)

-- a quote of the day
abbrev pub IsOfDay : DealerRow → ℕ → Type 0
IsOfDay row quote = (1 ≤ quote) × (quote ≤ row.quotes)

-- the walk over the events
abbrev pub walk_of : List ℕ → DealerRow → List DealerEvent → List Due → DayDues
walk_of date row events dues =
    record { desk = record { date = date; row = row; events = events }; dues = dues }

-- How far the view and the events have come together.
pub record DaySeen (date : List ℕ) (row : DealerRow) (events : List DealerEvent) : Type 0 where
  pub seen : List DealerEvent
  pub walked : List DealerEvent
  pub dues : List Due
  pub lifted : List ℕ
  pub walk_is : dues_after date row events ≡ walk_of date row walked dues
  pub view_is : view_after date row dues ≡ view_of date row seen lifted
  pub walked_is : desk_after date row walked ≡ desk_after date row events
  pub seen_is : desk_after date row seen ≡ desk_after date row events
  pub lifted_are : (quote : ℕ) → list_any (λ (one : ℕ). one == quote) lifted
      ≡ list_any (says_lifted quote) (settled_words (desk_after date row events).facts)

pub start_is_seen : (date : List ℕ) (row : DealerRow) → DaySeen date row []
unfolding desk_after
start_is_seen date row = record {
  seen = [];
  walked = [];
  dues = [];
  lifted = [];
  walk_is = refl;
  view_is = refl;
  walked_is = refl;
  seen_is = refl;
  lifted_are = λ quote. refl;
}

pub or_true : (b : Bool) → (b || (true || false)) ≡ true
or_true true = refl
or_true false = refl

module _ (date : List ℕ) (row : DealerRow) where
  -- one event more at a desk that has come as far
  pub pushed : (others events : List DealerEvent) (now : DealerEvent)
      → desk_after date row others ≡ desk_after date row events
      → desk_after date row (others ++ now ∷ []) ≡ desk_after date row (events ++ now ∷ [])
  pushed others events now is =
      desk_push date row others now
      ∙ ap (λ (state : DeskState). after_event date row state now) is
      ∙ sym (desk_push date row events now)

  pub walk_pushed : (events : List DealerEvent) (now : DealerEvent) (walked : List DealerEvent)
      (dues : List Due) (next : DayDues)
      → dues_after date row events ≡ walk_of date row walked dues
      → after_recorded (walk_of date row walked dues) now ≡ next
      → dues_after date row (events ++ now ∷ []) ≡ next
  walk_pushed events now walked dues next is then_is =
      fold-append after_recorded (dues_at_start date row) events (now ∷ [])
      ∙ ap (λ (day : DayDues). after_recorded day now) is ∙ then_is

  pub view_pushed : (dues : List Due) (item : Due) (view next : ViewState)
      → view_after date row dues ≡ view → after_due view item ≡ next
      → view_after date row (dues ++ item ∷ []) ≡ next
  view_pushed dues item view next is then_is =
      fold-append after_due (view_at_start date row) dues (item ∷ [])
      ∙ ap (λ (v : ViewState). after_due v item) is ∙ then_is

  -- A lifting that counts.

  pub lifting_seen : WithdrawnIsSaid → (seen : List DealerEvent) (lifted : List ℕ) (quote : ℕ)
      → IsOfDay row quote
      → list_any (says_withdrawn quote) (settled_words (desk_after date row seen).facts) ≡ false
      → after_due (view_of date row seen lifted) (due.Lifted quote)
      ≡ view_of date row seen (lifted ++ quote ∷ [])
  unfolding after_due
  lifting_seen said seen lifted quote of_day still = ap view_if counts
    where
      least : 1 ≤ quote
      least = of_day.0

      most : quote ≤ row.quotes
      most = of_day.1

      within : (nat_le 1 quote && nat_le quote row.quotes) ≡ true
      within = grind (arith, nat_tests)

      standing : list_any (withdraws quote) (desk_after date row seen).facts ≡ false
      standing = said (desk_after date row seen).facts quote ∙ still

      counts : (nat_le 1 quote && nat_le quote row.quotes
          && not (list_any (withdraws quote) (desk_after date row seen).facts)) ≡ true
      counts =
          ap (λ (b : Bool). b && not (list_any (withdraws quote) (desk_after date row seen).facts))
          within
          ∙ ap (λ (b : Bool). true && not b) standing

      view_if : Bool → ViewState
      view_if b =
          if b then view_of date row seen (lifted ++ quote ∷ []) else view_of date row seen lifted
