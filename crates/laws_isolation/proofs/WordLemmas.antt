-- What was asked on a recorded day stands in one log.
use Rattle.std.proofs.Common.{◌≡◌, ◌∙◌, ℕ, Option, Some, sym, subst}
use Rattle.std.specs.Prelude.{IfSome}
use Rattle.std.proofs.lemmas.List.Elements.{All-contains}
use Rattle.std.proofs.lemmas.Option.{same_Some}
use Rattle.quote_word.specs.SettleLog.{entry_of}
use Rattle.quote_word.specs.declared.settled.Settled.{Settled}
use Rattle.quote_word.specs.declared.settled.Settled.TheVariants.{Lifted}
use Rattle.request_room.specs.declared.ends.End.{End}
use Rattle.venue_rows.specs.Rows.{Configuration}
use Rattle.recorded_days.specs.Records.{RecordedDay}
use Rattle.day_checks.specs.KeptDays.{AnswersAgree, AwardStands, RoomStands, WinnerLifted}
use Rattle.day_checks.specs.KeptDays.{answers_to, rooms_in}
use Rattle.day_checks.specs.AskedWords.{Answer, StandsIn, answers_in}
use Rattle.laws_isolation.specs.DayWords.{AtDesk, HasWon, InRoom, WasAsked}

module _ (config : Configuration) (day : RecordedDay) (agree : AnswersAgree config day) where
  -- what was asked stands there
  pub stands : (asked : Answer) → WasAsked config day asked → StandsIn agree.log asked
  stands asked (AtDesk firm dealer row is_dealer has_row within) =
      All-contains (StandsIn agree.log) (answers_to config firm row dealer.events) asked
      (agree.at_desks firm dealer is_dealer row has_row) within
  stands asked (InRoom room is_room within) =
      All-contains (StandsIn agree.log) (answers_in room.day.events) asked
      (All-contains (RoomStands agree.log) (rooms_in day) room agree.in_rooms is_room) within

  -- so a word has one settlement
  pub one_settlement : (word : ℕ) (one other : Settled) → WasAsked config day (word, one)
      → WasAsked config day (word, other) → one ≡ other
  one_settlement word one other this that =
      same_Some one other (sym (stands (word, one) this) ∙ stands (word, other) that)

  -- the word of the winner of an end is lifted there
  lifted_by : (how : End) (dealer word : ℕ) → how.winner ≡ Some (dealer, word)
      → IfSome how.winner (λ (winner : ℕ × ℕ). entry_of winner.1 agree.log ≡ Some Lifted)
      → entry_of word agree.log ≡ Some Lifted
  lifted_by how dealer word won award =
      subst (λ (winner : Option (ℕ × ℕ)).
      IfSome winner (λ (w : ℕ × ℕ). entry_of w.1 agree.log ≡ Some Lifted)) won award

  -- and so is that of a quote that won in a room
  pub won_is_lifted : (word : ℕ) → HasWon day word → entry_of word agree.log ≡ Some Lifted
  won_is_lifted word has =
      let award =
      All-contains (AwardStands agree.log) (rooms_in day) has.room agree.awards has.of_day in
      lifted_by has.how has.dealer word has.won
      (subst (λ (end : Option End). WinnerLifted agree.log end) has.ended award)

  -- so whoever asked it was told so
  pub is_told_lifted : (word : ℕ) (settled : Settled) → HasWon day word
      → WasAsked config day (word, settled) → settled ≡ Lifted
  is_told_lifted word settled has this =
      same_Some settled Lifted (sym (stands (word, settled) this) ∙ won_is_lifted word has)
