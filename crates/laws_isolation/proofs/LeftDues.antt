-- What is left of a dealer's trail tells what was due to it, but for the cover.
use Rattle.std.proofs.Common.{◌≡◌, ℕ, ◌⊎◌, inl, inr, List, [], ◌∷◌, map, filter_map, refl, sym, ap}
use Rattle.std.proofs.Common.{◌∙◌, eq-eqb}
use Rattle.market_terms.specs.Unpriced.{uncovered}
use Rattle.market_terms.specs.declared.closes.Close.TheVariants as closes
use Rattle.dealer_desk.specs.DealerFacts.{Told}
use Rattle.step_replay.specs.AuditTrail.{AuditTrail, due_to}
use Rattle.step_replay.specs.DealerTrail.{AtDesk, DealerEntry, Sent}
use Rattle.step_replay.specs.DueList.{due_list}
use Rattle.step_replay.specs.VenueFacts.{Fact, of_dealer}
use Rattle.step_replay.specs.declared.dues.Due.{Due}
use Rattle.step_replay.specs.declared.dues.Due.TheVariants as due
use Rattle.laws_days.specs.PriceAlike.{IsCoverAgainstDoneAway, IsOneButForCover}
use Rattle.laws_isolation.proofs.Left.{left, left_at_dealer}
use Rattle.laws_isolation.proofs.LeftPlaces.{trail_left}

-- Due lists.

-- an item without the cover
abbrev erase_due : Due → Due
erase_due (due.Closed request close moment) = due.Closed request (uncovered close) moment
erase_due other = other

due_left : (trail : List DealerEntry)
    → due_list (filter_map left_at_dealer trail) ≡ map erase_due (due_list trail)
due_left [] = refl
due_left (AtDesk (Told request close moment) ∷ trail) = rw (due_left trail)
due_left (Sent message ∷ trail) = due_left trail
due_left (entry ∷ trail) = rw (due_left trail)

-- two items are one, but that Cover may stand against Done Away
items : (one other : Due) → erase_due one ≡ erase_due other
    → (one ≡ other) ⊎ IsCoverAgainstDoneAway one other ⊎ IsCoverAgainstDoneAway other one
items (due.Closed request closes.Cover moment) (due.Closed again closes.Cover later) same =
    inl (cc)
items (due.Closed request closes.Cover moment) (due.Closed again closes.DoneAway later) same =
    inr (inl ((cc), (cc)))
items (due.Closed request closes.DoneAway moment) (due.Closed again closes.Cover later) same =
    inr (inr ((cc), (cc)))
items (due.Closed request closes.Cover moment) other same = cc
items one (due.Closed again closes.Cover later) same = cc
items one other same = inl same

lists : (dues others : List Due) → map erase_due dues ≡ map erase_due others
    → IsOneButForCover dues others
lists [] [] same = tt
lists [] (other ∷ others) same = cc
lists (one ∷ dues) [] same = cc
lists (one ∷ dues) (other ∷ others) same =
    (items one other (cc), lists dues others (cc))

known : (own : ℕ) (facts : List Fact)
    → due_list (of_dealer own (left own facts)) ≡ map erase_due (due_list (of_dealer own facts))
known own facts =
    rw (trail_left own own (eq-eqb own own refl) facts) (due_left (of_dealer own facts))

-- what is due is the same but for the cover
pub due_same : (own : ℕ) (one other : AuditTrail) → left own one.facts ≡ left own other.facts
    → IsOneButForCover (due_to own one) (due_to own other)
due_same own one other same =
    lists (due_to own one) (due_to own other)
    (sym (known own one.facts)
    ∙ ap (λ (l : List Fact). due_list (of_dealer own l)) same ∙ known own other.facts)
