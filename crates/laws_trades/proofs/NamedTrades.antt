-- Which line of its own an investor's trade has, by the message that tells of it.
use Rattle.std.proofs.Common.{◌≡◌, ℕ, ◌+◌, List, [], ◌∷◌, ◌++◌, filter_map, length}
use Rattle.std.proofs.Common.{Option, Some, None, refl, sym, ap, ◌∙◌, subst, slice_get, drop, arith, suc}
use Rattle.std.specs.Prelude.{unwrap_or}
use Rattle.std.proofs.lemmas.List.{append_assoc, length-append}
use Rattle.std.proofs.lemmas.List.Elements.{filter_map-append}
use Rattle.std.proofs.lemmas.Option.{same_Some}
use Rattle.market_terms.specs.declared.rooms.RoomRef.{RoomRef}
use Rattle.venue_rows.specs.Rows.{Configuration, investor_numbered}
use Rattle.venue_rows.specs.declared.investor_rows.InvestorRow.{InvestorRow}
use Rattle.note_lines.specs.NoteLines.{investor_note_line, trade_line, trade_name}
use Rattle.investor_desk.specs.InvestorDesk.{market_of}
use Rattle.investor_desk.specs.InvestorFacts.{Closed}
use Rattle.investor_desk.specs.InvestorOutput.{DeskState, investor_notes}
use Rattle.investor_desk.specs.InvestorRules.{InvestorMarket}
use Rattle.investor_desk.specs.declared.notes.InvestorNote.{InvestorNote}
use Rattle.investor_desk.specs.declared.standing.RequestClose.TheVariants as close
use Rattle.step_replay.specs.AuditTrail.{audit_trail}
use Rattle.step_replay.specs.EachLemmas.{each_of}
use Rattle.step_replay.specs.InvestorTrail.{AtDesk, InvestorEntry, Sent, fact_in, facts_of, sent_by}
use Rattle.step_replay.specs.NotedTrail.{NotedSoFar, notes_by}
use Rattle.step_replay.specs.VenueFacts.{of_investor}
use Rattle.step_replay.specs.declared.steps.Step.{Step}
use Rattle.laws_trades.specs.TradeNames.{hit_in, hits_of}
use Rattle.laws_trades.specs.Trades.{room_of}
use Rattle.laws_trades.specs.PrintedTrades.{TellsOfTrade}
use Rattle.laws_trades.proofs.PrintedDays.{day_kept, line_of}
use Rattle.laws_trades.proofs.PrintedLemmas.{IsTold, text_self}
use Rattle.laws_trades.proofs.TradeTexts.{one_line}

-- Two places of a list at which something is counted, with as many before them, are one.

module _ {E A : Type 0} (count : List E → List A)
    (both : (xs ys : List E) → count (xs ++ ys) ≡ count xs ++ count ys) where
  abbrev Counts : E → Type 0
  Counts x = (xs : List E) → length (count (x ∷ xs)) ≡ suc (length (count xs))

  more : (x : E) (xs : List E)
      → length (count (x ∷ xs)) ≡ length (count (x ∷ [])) + length (count xs)
  more x xs = ap length (both (x ∷ []) xs) ∙ length-append (count (x ∷ [])) (count xs)

  nothing : length (count []) ≡ 0
  nothing =
      let twice : length (count []) ≡ length (count []) + length (count []) =
      ap length (both [] []) ∙ length-append (count []) (count []) in
      omega (arith, twice)

  same_front : (xs ys : List E) (x y : E) (rest later : List E)
      → xs ++ x ∷ rest ≡ ys ++ y ∷ later → Counts x → Counts y
      → length (count xs) ≡ length (count ys) → xs ≡ ys
  same_front [] [] x y rest later is counted counted_too same = refl
  same_front [] (z ∷ ys) x y rest later is counted counted_too same =
      let first : x ≡ z = same_Some x z (ap (λ (l : List E). slice_get l 0) is) in
      let one : length (count (z ∷ ys)) ≡ suc (length (count ys)) = subst Counts first counted ys in
      absurd (omega (arith, one, same, nothing))
  same_front (z ∷ xs) [] x y rest later is counted counted_too same =
      let first : z ≡ y = same_Some z y (ap (λ (l : List E). slice_get l 0) is) in
      let one : length (count (z ∷ xs)) ≡ suc (length (count xs)) =
      subst Counts (sym first) counted_too xs in
      absurd (omega (arith, one, same, nothing))
  same_front (z ∷ xs) (w ∷ ys) x y rest later is counted counted_too same =
      let first : z ≡ w = same_Some z w (ap (λ (l : List E). slice_get l 0) is) in
      let one = more z xs in
      let other = more w ys in
      let equal : length (count (z ∷ [])) ≡ length (count (w ∷ [])) =
      ap (λ (e : E). length (count (e ∷ []))) first in
      let fewer : length (count xs) ≡ length (count ys) = omega (arith, one, other, equal, same) in
      ap (λ (e : E). e ∷ xs) first
      ∙ ap (λ (l : List E). w ∷ l)
      (same_front xs ys x y rest later (ap (drop 1) is) counted counted_too fewer)

-- The line of a trade, by the message that tells of it.

-- which trade of the two firms this name is of
pub record IsNamed (date own dealer : List ℕ) (investor request : ℕ) (hits : List RoomRef)
    (name : List ℕ) : Type 0 where
  pub before : List RoomRef
  pub later : List RoomRef
  pub hits_are : hits ≡ before ++ room_of investor request ∷ later
  pub name_is : name ≡ trade_name date own dealer (length before + 1)

module _ (config : Configuration) (investor : ℕ) (row : InvestorRow)
    (is_row : investor_numbered config investor ≡ Some row) (dealer : List ℕ) (steps : List Step) where
  abbrev market : InvestorMarket
  market = market_of config investor row

  abbrev trail : List InvestorEntry
  trail = of_investor investor (audit_trail config steps).facts

  abbrev told_in : List InvestorEntry → List RoomRef
  told_in entries = filter_map (hit_in investor dealer) (facts_of entries)

  told_both : (xs ys : List InvestorEntry) → told_in (xs ++ ys) ≡ told_in xs ++ told_in ys
  told_both xs ys =
      ap (filter_map (hit_in investor dealer)) (filter_map-append fact_in xs ys)
      ∙ filter_map-append (hit_in investor dealer) (facts_of xs) (facts_of ys)

  told_one : (request quote price : ℕ) (entries : List InvestorEntry)
      → told_in (AtDesk (Closed request (close.Awarded quote dealer price)) ∷ entries)
      ≡ room_of investor request ∷ told_in entries
  told_one request quote price entries = rw (text_self dealer) refl

  pub named : (request number : ℕ) (name : List ℕ)
      → TellsOfTrade trail dealer (room_of investor request) number
      → investor_note_line config.date row.name (notes_by market trail) number
      ≡ trade_line row.name number name
      → IsNamed config.date row.name dealer investor request (told_in trail) name
  named request number name tells line =
      let before = told_in tells.stood in
      let later = told_in tells.after in
      let entry : InvestorEntry = AtDesk (Closed request (close.Awarded tells.quote dealer tells.price)) in
      let split : trail ≡ tells.stood ++ entry ∷ Sent tells.message ∷ tells.after =
      tells.trail_is ∙ append_assoc tells.stood (entry ∷ Sent tells.message ∷ []) tells.after in
      let hits : told_in trail ≡ before ++ room_of investor request ∷ later =
      ap told_in split ∙ told_both tells.stood (entry ∷ Sent tells.message ∷ tells.after)
      ∙ ap (λ (l : List RoomRef). before ++ l)
      (told_one request tells.quote tells.price (Sent tells.message ∷ tells.after)) in
      let kept = day_kept config investor row is_row dealer steps in
      let notes = investor_notes market kept.events in
      let told = each_of (λ before room later. IsTold market investor dealer trail notes before room)
      (told_in trail) before (room_of investor request) later kept.each hits in
      let its = told.tells in
      let own : InvestorEntry = AtDesk (Closed request (close.Awarded its.quote dealer its.price)) in
      let place : tells.stood ≡ its.stood =
      same_front told_in told_both tells.stood its.stood entry own
      (Sent tells.message ∷ tells.after) (Sent its.message ∷ its.after)
      (sym split ∙ (its.trail_is ∙ append_assoc its.stood (own ∷ Sent its.message ∷ []) its.after))
      (λ xs. ap length (told_one request tells.quote tells.price xs))
      (λ xs. ap length (told_one request its.quote its.price xs))
      (ap length told.before_is) in
      let numbers : told.number ≡ number =
      its.number_is ∙ ap (λ (l : List InvestorEntry). length (sent_by l) + 1) (sym place)
      ∙ sym tells.number_is in
      let notes_are : notes_by market trail ≡ notes = ap (λ (s : NotedSoFar). s.notes) kept.noted in
      let printed : investor_note_line config.date row.name (notes_by market trail) told.number
      ≡ trade_line row.name told.number (trade_name config.date row.name dealer (length before + 1)) =
      ap (λ (l : List (Option InvestorNote)). investor_note_line config.date row.name l told.number) notes_are
      ∙ line_of config.date row.name dealer notes told.number (length before + 1) _
      (ap (λ (f : Option (Option InvestorNote)). unwrap_or f None) told.said) told.counted in
      record {
        before = before;
        later = later;
        hits_are = hits;
        name_is = one_line row.name number name
            (trade_name config.date row.name dealer (length before + 1)) (sym line
            ∙ subst (λ (n : ℕ). investor_note_line config.date row.name (notes_by market trail) n
            ≡ trade_line row.name n (trade_name config.date row.name dealer (length before + 1)))
            numbers printed);
      }
