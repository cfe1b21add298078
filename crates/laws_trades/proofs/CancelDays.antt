-- A cancel of all on a live day, turn by turn.
use Rattle.std.proofs.Common.{◌≡◌, ◌≤◌, ◌+◌, ℕ, zero, suc, Bool, true, false, List, [], ◌∷◌, ◌++◌}
use Rattle.std.proofs.Common.{filter, length, replicate, Some, None, option_map, refl}
use Rattle.std.proofs.Common.{sym, ap, ◌∙◌, subst, arith, inl, inr, ◌⊎◌, if◌then◌else◌}
use Rattle.std.specs.Option.{option_to_list}
use Rattle.std.proofs.lemmas.List.{append-nil, append_assoc, length-append}
use Rattle.std.proofs.lemmas.List.Concat.{flat_map-append}
use Rattle.std.proofs.lemmas.List.Sums.{fold-append}
use Rattle.market_terms.specs.declared.duties.Duty.{Duty}
use Rattle.market_terms.specs.declared.duties.Duty.TheVariants as duty
use Rattle.market_terms.specs.declared.rooms.RoomRef.{RoomRef}
use Rattle.quote_messages.specs.Written.{written}
use Rattle.quote_messages.specs.declared.out_messages.OutMessage.{OutMessage}
use Rattle.quote_word.specs.declared.settled.Settled.TheVariants as settled
use Rattle.venue_rows.specs.Rows.{Configuration, dealer_numbered}
use Rattle.venue_rows.specs.declared.dealer_rows.DealerRow.{DealerRow}
use Rattle.venue_steps.specs.Dealers.{acting_dealer, dealer_of}
use Rattle.venue_steps.specs.declared.actors.Actor.{Actor}
use Rattle.venue_steps.specs.declared.actors.Actor.TheVariants as actor
use Rattle.venue_steps.specs.Words.{has_word}
use Rattle.dealer_desk.specs.DealerFacts.{Came, DealerFact, Dropped, number_to_drop, quote_to_drop, quotes_accepted, standings}
use Rattle.dealer_desk.specs.DealerOutput.{answer_facts, drop_message, event_facts, event_message}
use Rattle.dealer_desk.specs.DealerOutput.{further_drop, next_message, unpost_dropped}
use Rattle.dealer_desk.specs.DealerRules.{dealer_verdict}
use Rattle.dealer_desk.specs.declared.events.DealerEvent.{DealerEvent}
use Rattle.dealer_desk.specs.declared.events.DealerEvent.TheVariants as at_desk
use Rattle.dealer_desk.specs.declared.standing.StandingQuote.{StandingQuote}
use Rattle.dealer_desk.specs.declared.standing.Withdrawal.TheVariants as by_way
use Rattle.dealer_desk.specs.declared.verdicts.DealerVerdict.TheVariants as verdict
use Rattle.step_replay.specs.Actions.{Effect, answer_to_drop, at_dealer, at_market, drop_at, left_by_drop, nothing}
use Rattle.step_replay.specs.Actions.{words_of, word_for}
use Rattle.investor_desk.specs.InvestorDesk.{market_of}
use Rattle.investor_desk.specs.declared.events.InvestorEvent.TheVariants as at_investor
use Rattle.step_replay.specs.AuditTrail.{AuditTrail, after_step, after_turn, audit_trail, no_steps, pending}
use Rattle.step_replay.specs.AuditTrail.{sent_to, with_effect}
use Rattle.step_replay.specs.DealerGrowth.{facts_grown, lifted_grown, sent_grown}
use Rattle.step_replay.specs.DealerTrail.{DealerEntry, answer_to_dealer, book_by, entries_of, facts_of}
use Rattle.step_replay.specs.DealerTrail.{rooms_by, sent_by, was_lifted}
use Rattle.step_replay.specs.DutyEffects.{duty_effect, message_effect}
use Rattle.step_replay.specs.EachLemmas.{every_both}
use Rattle.step_replay.specs.GrowthLemmas.{in_left, in_right}
use Rattle.step_replay.specs.Lists.{Every, In}
use Rattle.step_replay.specs.LiveDays.{live_steps, live_trail, with_turns}
use Rattle.step_replay.specs.PlaceLemmas.{dealer_grown, dealer_stays, own_trail, trail_at_investor, trail_in_room}
use Rattle.step_replay.specs.QueueLemmas.{own_pending, own_turned}
use Rattle.step_replay.specs.VenueFacts.{Fact, of_dealer}
use Rattle.step_replay.specs.declared.steps.Step.{Step}
use Rattle.step_replay.specs.declared.steps.Step.TheVariants as step
use Rattle.step_replay.specs.declared.steps.TheConstants.{MOST_TURNS_BEHIND}
use Rattle.laws_days.specs.ActionCases.{by_does, if_does, invested_does}
use Rattle.laws_days.specs.KeptItems.{every_all}
use Rattle.laws_days.specs.LeftDuties.{duty_leaves}
use Rattle.laws_days.specs.LiveDuties.{NoDutyIsLeft}
use Rattle.laws_days.specs.Conditions.{is_met}
use Rattle.laws_days.proofs.ConditionMet.{met}
use Rattle.laws_days.proofs.LiveQuotes.{LoneQuotes}
use Rattle.laws_days.proofs.VenueDay.{venue_ok}
use Rattle.laws_days.proofs.VenueDesk.{WordsOfDay}
use Rattle.laws_days.proofs.VenueInvariant.{VenueOk}
use Rattle.laws_days.proofs.VenueKnown.{pending_ok}
use Rattle.laws_days.proofs.VenueParts.{later_same}
use Rattle.laws_shown.proofs.ListLemmas.{AreFrom}
use Rattle.laws_trades.specs.Cancels.{droppable, report_on, reports}
use Rattle.laws_trades.proofs.CancelLemmas.{came_same, drop_takes, dropped_same, found_first, found_none}
use Rattle.laws_trades.proofs.CancelLemmas.{may_drop, number_at, numbered_from, reports_counted, reports_more, up_to}
use Rattle.laws_trades.proofs.WithdrawalLemmas.{VerdictOk, verdict_ok}

-- What a drop of these quotes leaves, and what that leaves.
module _ (last moment : ℕ) where
  abbrev pub IsDropping : Duty → Type 0
  IsDropping (duty.Unpost room quote at) = Unit {0}
  IsDropping (duty.Gone room word at) = Unit {0}
  IsDropping (duty.Drop up_to at) = (up_to ≡ last) × (at ≡ moment)
  IsDropping d = ⊥

-- One step more.
one_step : (config : Configuration) (before : List Step) (more : Step)
    → audit_trail config (before ++ more ∷ []) ≡ after_step config (audit_trail config before) more
unfolding audit_trail
one_step config before more = fold-append (after_step config) no_steps before (more ∷ [])

module _ (lone : LoneQuotes) (words : WordsOfDay) (config : Configuration) (dealer : ℕ) (row : DealerRow)
    (is : dealer_numbered config dealer ≡ Some row) where
  abbrev me : Actor
  me = actor.Firm dealer

  abbrev trail_in : List Fact → List DealerEntry
  trail_in facts = of_dealer dealer facts

  abbrev standing_in : List Fact → List StandingQuote
  standing_in facts = standings (facts_of (trail_in facts))

  -- A cancel of all, from this trail on, of these quotes.
  module _ (start : List DealerEntry) (last moment : ℕ) (all : List StandingQuote) where
    abbrev told : List StandingQuote → List (List ℕ)
    told owns = reports config.date row start moment (length (sent_by start) + 1) owns

    record Dropping (venue : AuditTrail) : Type 0 where
      pub done : List StandingQuote
      pub left : List StandingQuote
      pub all_are : all ≡ done ++ left
      pub left_are : filter (may_drop last) (standing_in venue.facts) ≡ left
      pub sent_are : sent_by (trail_in venue.facts) ≡ sent_by start ++ told done
      pub words_are : (quote : ℕ) → was_lifted (trail_in venue.facts) quote ≡ was_lifted start quote
      pub waits : Every (IsDropping last moment) (pending me venue)
      pub more : (left ≡ []) ⊎ In (duty.Drop last moment) (pending me venue)

    -- An action that adds nothing at the dealer's desk.

    quiet_kept : (venue now : AuditTrail) → Dropping venue → trail_in now.facts ≡ trail_in venue.facts
        → Every (IsDropping last moment) (pending me now)
        → (In (duty.Drop last moment) (pending me venue) → In (duty.Drop last moment) (pending me now))
        → Dropping now
    quiet_kept venue now was same waits stays = record {
      done = was.done;
      left = was.left;
      all_are = was.all_are;
      left_are = ap (λ (l : List DealerEntry). filter (may_drop last) (standings (facts_of l))) same ∙ was.left_are;
      sent_are = ap (λ (l : List DealerEntry). sent_by l) same ∙ was.sent_are;
      words_are = λ quote. ap (λ (l : List DealerEntry). was_lifted l quote) same ∙ was.words_are quote;
      waits = waits;
      more = elim was.more [
        | inl none ↦ inl none
        | inr there ↦ inr (stays there)
      ];
    }

    -- what adds nothing there
    record AddsNone (effect : Effect) : Type 0 where
      pub none : trail_in effect.facts ≡ []

    no_effect : AddsNone nothing
    unfolding of_dealer
    no_effect = record { none = refl }

    unpost_none : (facts : List Fact) (room : RoomRef) (quote at : ℕ)
        → AddsNone (duty_effect config facts me (duty.Unpost room quote at))
    unfolding duty_effect
    unpost_none facts room quote at =
        by_does AddsNone no_effect (acting_dealer config me) _
        (λ d. if_does AddsNone no_effect _ _ (record { none = trail_in_room dealer room _ }))

    gone_none : (facts : List Fact) (room : RoomRef) (word at : ℕ)
        → AddsNone (duty_effect config facts me (duty.Gone room word at))
    unfolding duty_effect
    gone_none facts room word at =
        invested_does AddsNone no_effect config room.investor _
        (λ other. if_does AddsNone no_effect _ (at_market facts (market_of config room.investor other)
        (at_investor.QuoteGone room.n word at) []) (record { none = trail_at_investor dealer room.investor _ }))

    -- A turn that does a duty.
    module _ (venue : AuditTrail) (d : Duty) (rest : List Duty) (waits : pending me venue ≡ d ∷ rest) where
      abbrev brought : Effect
      brought = duty_effect config venue.facts me d

      abbrev then_day : AuditTrail
      then_day = after_turn config me venue (d ∷ rest)

      then_waits : pending me then_day ≡ rest ++ brought.duties
      then_waits = own_turned me venue brought d rest waits

      all_wait : Every (IsDropping last moment) (pending me venue)
          → Every (IsDropping last moment) brought.duties → Every (IsDropping last moment) (pending me then_day)
      all_wait before more =
          let first : Every (IsDropping last moment) (d ∷ rest) = subst (Every (IsDropping last moment)) waits before in
          rw then_waits (every_both (IsDropping last moment) rest brought.duties first.1 more)

      quiet_turn : trail_in brought.facts ≡ [] → Every (IsDropping last moment) brought.duties
          → (d ≡ duty.Drop last moment → ⊥) → Dropping venue → Dropping then_day
      quiet_turn none leaves isnt was =
          quiet_kept venue then_day was (dealer_stays dealer venue.facts brought.facts none)
          (all_wait was.waits leaves)
          (λ there. rw then_waits (in_left (duty.Drop last moment) rest brought.duties
          (behind (subst (In (duty.Drop last moment)) waits there))))
        where
          behind : In (duty.Drop last moment) (d ∷ rest) → In (duty.Drop last moment) rest
          behind (inl same) = absurd (isnt same)
          behind (inr later) = later

    -- A turn that does a drop.
    module _ (venue : AuditTrail) (rest : List Duty) (waits : pending me venue ≡ duty.Drop last moment ∷ rest)
        (fit : is_met config venue.facts me (duty.Drop last moment) ≡ true)
        (from : AreFrom number_at 1 (standing_in venue.facts)) (was : Dropping venue) where
      abbrev trail : List DealerEntry
      trail = trail_in venue.facts

      abbrev drops : DealerEvent
      drops = drop_at trail last moment

      abbrev entries : List DealerEntry
      entries = entries_of config.date row trail drops

      abbrev effect : Effect
      effect = at_dealer config venue.facts (dealer_of dealer row) drops
          (left_by_drop config venue.facts last moment (dealer_of dealer row))

      abbrev dropped_day : AuditTrail
      dropped_day = after_turn config me venue (duty.Drop last moment ∷ rest)

      effect_is : duty_effect config venue.facts me (duty.Drop last moment) ≡ effect
      unfolding is_met duty_effect
      effect_is =
          let has : has_word (words_of config) (option_map (word_for config (dealer_of dealer row))
          (number_to_drop (book_by trail) last)) ≡ true = rw is at fit in
          rw (is, has) refl

      trail_is : trail_in dropped_day.facts ≡ trail ++ entries
      trail_is =
          dealer_grown dealer venue.facts (duty_effect config venue.facts me (duty.Drop last moment)).facts
          ∙ ap (λ (e : Effect). trail ++ trail_in e.facts) effect_is
          ∙ ap (λ (l : List DealerEntry). trail ++ l) (own_trail dealer entries)

      waits_are : pending me dropped_day ≡ rest ++ effect.duties
      waits_are =
          then_waits venue (duty.Drop last moment) rest waits
          ∙ ap (λ (e : Effect). rest ++ e.duties) effect_is

      drop_waits : Every (IsDropping last moment) (pending me dropped_day)
      drop_waits =
          all_wait venue (duty.Drop last moment) rest waits was.waits
          (duty_leaves (IsDropping last moment) config venue.facts me (duty.Drop last moment)
          ((λ quote. every_all _ (λ room. tt) _), (refl, refl))).each

      words_then : (quote : ℕ) → was_lifted (trail_in dropped_day.facts) quote ≡ was_lifted start quote
      words_then quote =
          ap (λ (l : List DealerEntry). was_lifted l quote) trail_is
          ∙ lifted_grown config.date row trail drops quote ∙ was.words_are quote

      -- nothing is left to be dropped
      none_dropped : was.left ≡ [] → Dropping dropped_day
      unfolding quote_to_drop event_facts event_message
      none_dropped none =
          let at : filter (may_drop last) (standing_in venue.facts) ≡ [] = was.left_are ∙ none in
          let found : quote_to_drop (book_by trail) last ≡ None = found_none last (standing_in venue.facts) at in
          let facts_are : facts_of (trail ++ entries) ≡ facts_of trail ++ Dropped last moment ∷ [] =
          facts_grown config.date row trail drops ∙ rw found refl in
          let sent_is : sent_by (trail ++ entries) ≡ sent_by trail ++ [] =
          sent_grown config.date row trail drops ∙ rw found refl in
          record {
            done = was.done;
            left = [];
            all_are = was.all_are ∙ ap (λ (l : List StandingQuote). was.done ++ l) none;
            left_are = ap (λ (l : List DealerEntry). filter (may_drop last) (standings (facts_of l))) trail_is
                ∙ ap (λ (l : List DealerFact). filter (may_drop last) (standings l)) facts_are
                ∙ ap (filter (may_drop last)) (dropped_same (facts_of trail) last moment) ∙ at;
            sent_are = ap (λ (l : List DealerEntry). sent_by l) trail_is ∙ sent_is ∙ append-nil (sent_by trail)
                ∙ was.sent_are;
            words_are = words_then;
            waits = drop_waits;
            more = inl refl;
          }

      message_is : (own : StandingQuote) (b : Bool) → b ≡ was_lifted start own.quote.number
          → drop_message (Some (if b then settled.Lifted else settled.Withdrawn)) own ≡ report_on start own
      message_is own true at = rw (← at) refl
      message_is own false at = rw (← at) refl

      one_dropped : (own : StandingQuote) (left : List StandingQuote) → was.left ≡ own ∷ left
          → Dropping dropped_day
      unfolding quote_to_drop event_facts event_message
      one_dropped own left some =
          let at : filter (may_drop last) (standing_in venue.facts) ≡ own ∷ left = was.left_are ∙ some in
          let found : quote_to_drop (book_by trail) last ≡ Some own =
          found_first last (standing_in venue.facts) own left at in
          let settlement = answer_to_dealer trail own.quote.number in
          let facts_are : facts_of (trail ++ entries)
          ≡ facts_of trail ++ Dropped last moment ∷ answer_facts own.quote.number by_way.Cancel (Some settlement) =
          facts_grown config.date row trail drops ∙ rw found refl in
          let sent_is : sent_by (trail ++ entries)
          ≡ sent_by trail ++ next_message config.date row (sent_by trail) moment (drop_message (Some settlement) own) ∷ [] =
          sent_grown config.date row trail drops ∙ rw found refl in
          let then_left : filter (may_drop last) (standings (facts_of (trail ++ entries))) ≡ left =
          ap (λ (l : List DealerFact). filter (may_drop last) (standings l)) facts_are
          ∙ drop_takes last (facts_of trail) from own left moment settlement at in
          let says : drop_message (Some settlement) own ≡ report_on start own =
          message_is own (was_lifted trail own.quote.number) (was.words_are own.quote.number) in
          let counted : length (sent_by trail) ≡ length (sent_by start) + length was.done =
          ap length was.sent_are ∙ length-append (sent_by start) (told was.done)
          ∙ ap (λ (n : ℕ). length (sent_by start) + n)
          (reports_counted config.date row start moment (length (sent_by start) + 1) was.done) in
          let number : length (sent_by trail) + 1 ≡ length (sent_by start) + 1 + length was.done = omega arith in
          let bytes_are : next_message config.date row (sent_by trail) moment (drop_message (Some settlement) own)
          ≡ written (record {
            date = config.date;
            firm = row.name;
            number = length (sent_by start) + 1 + length was.done;
            moment = moment;
          }) (report_on start own) =
          ap (λ (n : ℕ). written (record { date = config.date; firm = row.name; number = n; moment = moment })
          (drop_message (Some settlement) own)) number
          ∙ ap (λ (m : OutMessage). written (record {
            date = config.date;
            firm = row.name;
            number = length (sent_by start) + 1 + length was.done;
            moment = moment;
          }) m) says in
          record {
            done = was.done ++ own ∷ [];
            left = left;
            all_are = was.all_are ∙ ap (λ (l : List StandingQuote). was.done ++ l) some
                ∙ sym (append_assoc was.done (own ∷ []) left);
            left_are = ap (λ (l : List DealerEntry). filter (may_drop last) (standings (facts_of l))) trail_is
                ∙ then_left;
            sent_are = ap (λ (l : List DealerEntry). sent_by l) trail_is ∙ sent_is
                ∙ ap (λ (l : List (List ℕ)). l ++ next_message config.date row (sent_by trail) moment
                (drop_message (Some settlement) own) ∷ []) was.sent_are
                ∙ append_assoc (sent_by start) (told was.done)
                (next_message config.date row (sent_by trail) moment (drop_message (Some settlement) own) ∷ [])
                ∙ ap (λ (m : List ℕ). sent_by start ++ (told was.done ++ m ∷ [])) bytes_are
                ∙ ap (λ (l : List (List ℕ)). sent_by start ++ l)
                (sym (reports_more config.date row start moment (length (sent_by start) + 1) was.done own));
            words_are = words_then;
            waits = drop_waits;
            more = further left then_left;
          }
        where
          further : (some_left : List StandingQuote)
              → filter (may_drop last) (standings (facts_of (trail ++ entries))) ≡ some_left
              → (some_left ≡ []) ⊎ In (duty.Drop last moment) (pending me dropped_day)
          further [] then_left = inl refl
          further (next ∷ some_left) then_left =
              let found : quote_to_drop (book_by (trail ++ entries)) last ≡ Some next =
              found_first last (standings (facts_of (trail ++ entries))) next some_left then_left in
              let unposts = option_to_list (unpost_dropped (rooms_by trail) moment (answer_to_drop trail last)
              (quote_to_drop (book_by trail) last)) in
              let drops_on : In (duty.Drop last moment)
              (option_to_list (further_drop (book_by (trail ++ entries)) last moment)) = rw found (inl refl) in
              inr (rw waits_are (in_right (duty.Drop last moment) rest effect.duties
              (in_right (duty.Drop last moment) unposts
              (option_to_list (further_drop (book_by (trail ++ entries)) last moment)) drops_on)))

      drop_turn : Dropping dropped_day
      drop_turn = by_left was.left refl
        where
          by_left : (left : List StandingQuote) → was.left ≡ left → Dropping dropped_day
          by_left [] at = none_dropped at
          by_left (own ∷ left) at = one_dropped own left at

    -- A turn of the dealer, whatever it does.

    turn_dropping : (venue : AuditTrail) → VenueOk config venue → AreFrom number_at 1 (standing_in venue.facts)
        → (duties : List Duty) → pending me venue ≡ duties → Dropping venue
        → Dropping (after_turn config me venue duties)
    turn_dropping venue stood from [] waits was = was
    turn_dropping venue stood from (d ∷ rest) waits was =
        by_duty d waits (subst (Every (IsDropping last moment)) waits was.waits).0
      where
        by_duty : (one : Duty) → pending me venue ≡ one ∷ rest → IsDropping last moment one
            → Dropping (after_turn config me venue (one ∷ rest))
        by_duty (duty.Unpost room quote at) is_there dropping =
            quiet_turn venue (duty.Unpost room quote at) rest is_there (unpost_none venue.facts room quote at).none
            (duty_leaves (IsDropping last moment) config venue.facts me (duty.Unpost room quote at) (λ word. tt)).each
            (λ same. cc) was
        by_duty (duty.Gone room word at) is_there dropping =
            quiet_turn venue (duty.Gone room word at) rest is_there (gone_none venue.facts room word at).none
            (duty_leaves (IsDropping last moment) config venue.facts me (duty.Gone room word at) tt).each
            (λ same. cc) was
        by_duty (duty.Drop some_last at) is_there dropping =
            let same : duty.Drop some_last at ≡ duty.Drop last moment =
            ap (λ (n : ℕ). duty.Drop n at) dropping.0 ∙ ap (λ (n : ℕ). duty.Drop last n) dropping.1 in
            let there : pending me venue ≡ duty.Drop last moment ∷ rest =
            is_there ∙ ap (λ (one : Duty). one ∷ rest) same in
            let fits = pending_ok stood me (duty.Drop last moment) rest there in
            let fit = met stood me words (duty.Drop last moment) (fits.0 venue (later_same venue)) fits.1 in
            subst (λ (one : Duty). Dropping (after_turn config me venue (one ∷ rest))) (sym same)
            (drop_turn venue rest there fit from was)
        by_duty other is_there dropping = absurd dropping

    turns_dropping : (before : List Step) (count : ℕ) → Dropping (audit_trail config before)
        → Dropping (audit_trail config (before ++ replicate count (step.Turn me)))
    unfolding after_step
    turns_dropping before zero was =
        subst (λ (l : List Step). Dropping (audit_trail config l)) (sym (append-nil before)) was
    turns_dropping before (suc count) was =
        let venue = audit_trail config before in
        let turned : Dropping (after_step config venue (step.Turn me)) =
        turn_dropping venue (venue_ok lone words config before) (numbered_from config dealer row is before)
        (pending me venue) refl was in
        subst (λ (l : List Step). Dropping (audit_trail config l))
        (append_assoc before (step.Turn me ∷ []) (replicate count (step.Turn me)))
        (turns_dropping (before ++ step.Turn me ∷ []) count
        (subst Dropping (sym (one_step config before (step.Turn me))) turned))

  -- The message.
  module _ (steps : List Step) (moment : ℕ) (bytes : List ℕ) (last : ℕ) where
    abbrev venue : AuditTrail
    venue = live_trail config steps

    abbrev start : List DealerEntry
    start = trail_in venue.facts

    abbrev came : DealerEvent
    came = at_desk.Received moment bytes None

    abbrev entries_come : List DealerEntry
    entries_come = entries_of config.date row start came

    abbrev comes : Effect
    comes = at_dealer config venue.facts (dealer_of dealer row) came (duty.Drop last moment ∷ [])

    module _ (drops_follow : dealer_verdict config.date row (book_by start) moment bytes ≡ verdict.DropsFollow last)
        (idle : pending me venue ≡ []) where
      comes_is : message_effect config venue.facts dealer moment bytes ≡ comes
      unfolding message_effect
      comes_is = rw (is, drops_follow) refl

      abbrev come_day : AuditTrail
      come_day = with_effect me venue (message_effect config venue.facts dealer moment bytes)

      come_trail : trail_in come_day.facts ≡ start ++ entries_come
      come_trail =
          dealer_grown dealer venue.facts (message_effect config venue.facts dealer moment bytes).facts
          ∙ ap (λ (e : Effect). start ++ trail_in e.facts) comes_is
          ∙ ap (λ (l : List DealerEntry). start ++ l) (own_trail dealer entries_come)

      come_facts : facts_of (start ++ entries_come) ≡ facts_of start ++ Came moment bytes true ∷ []
      unfolding event_facts
      come_facts = facts_grown config.date row start came ∙ rw drops_follow refl

      come_sent : sent_by (start ++ entries_come) ≡ sent_by start ++ []
      unfolding event_message
      come_sent = sent_grown config.date row start came ∙ rw drops_follow refl

      names_all : last ≡ quotes_accepted (book_by start)
      names_all = subst (VerdictOk (facts_of start)) drops_follow
          (verdict_ok (facts_of start) config.date row moment bytes)

      come_left : filter (may_drop last) (standing_in come_day.facts) ≡ droppable start
      come_left =
          ap (λ (l : List DealerEntry). filter (may_drop last) (standings (facts_of l))) come_trail
          ∙ ap (λ (l : List DealerFact). filter (may_drop last) (standings l)) come_facts
          ∙ ap (filter (may_drop last)) (came_same (facts_of start) moment bytes true)
          ∙ up_to last 1 (standings (facts_of start)) (numbered_from config dealer row is (live_steps steps)) few
        where
          few : 1 + length (standings (facts_of start)) ≤ last + 1
          few = let all_named : last ≡ length (standings (facts_of start)) = names_all in omega arith

      come_waits : pending me come_day ≡ duty.Drop last moment ∷ []
      come_waits =
          own_pending me venue (message_effect config venue.facts dealer moment bytes)
          ((venue_ok lone words config (live_steps steps)).queues me).within
          ∙ ap (λ (l : List Duty). l ++ (message_effect config venue.facts dealer moment bytes).duties) idle
          ∙ ap (λ (e : Effect). e.duties) comes_is

      starts : Dropping start last moment (droppable start) come_day
      starts = record {
        done = [];
        left = droppable start;
        all_are = refl;
        left_are = come_left;
        sent_are = ap (λ (l : List DealerEntry). sent_by l) come_trail ∙ come_sent;
        words_are = λ quote. ap (λ (l : List DealerEntry). was_lifted l quote) come_trail
            ∙ lifted_grown config.date row start came quote;
        waits = rw come_waits ((refl, refl), tt);
        more = inr (rw come_waits (inl refl));
      }

      abbrev next : Step
      next = step.In dealer moment bytes

      all_steps : live_steps (steps ++ next ∷ [])
          ≡ (live_steps steps ++ next ∷ []) ++ replicate MOST_TURNS_BEHIND (step.Turn me)
      unfolding with_turns
      all_steps =
          flat_map-append with_turns steps (next ∷ [])
          ∙ ap (λ (l : List Step). live_steps steps ++ l)
          (append-nil (next ∷ replicate MOST_TURNS_BEHIND (step.Turn me)))
          ∙ sym (append_assoc (live_steps steps) (next ∷ []) (replicate MOST_TURNS_BEHIND (step.Turn me)))

      come_is : audit_trail config (live_steps steps ++ next ∷ []) ≡ come_day
      unfolding audit_trail after_step
      come_is = fold-append (after_step config) no_steps (live_steps steps) (next ∷ [])

      ends : Dropping start last moment (droppable start) (live_trail config (steps ++ next ∷ []))
      ends =
          subst (λ (l : List Step). Dropping start last moment (droppable start) (audit_trail config l)) (sym all_steps)
          (turns_dropping start last moment (droppable start) (live_steps steps ++ next ∷ []) MOST_TURNS_BEHIND
          (subst (Dropping start last moment (droppable start)) (sym come_is) starts))

  pub answered : (steps : List Step) (moment : ℕ) (bytes : List ℕ) (last : ℕ)
      → dealer_verdict config.date row (book_by (of_dealer dealer (live_trail config steps).facts)) moment bytes
      ≡ verdict.DropsFollow last → NoDutyIsLeft (live_trail config steps)
      → NoDutyIsLeft (live_trail config (steps ++ step.In dealer moment bytes ∷ []))
      → sent_to config dealer (live_trail config (steps ++ step.In dealer moment bytes ∷ []))
      ≡ sent_to config dealer (live_trail config steps)
      ++ reports config.date row (of_dealer dealer (live_trail config steps).facts) moment
      (length (sent_to config dealer (live_trail config steps)) + 1)
      (droppable (of_dealer dealer (live_trail config steps).facts))
  answered steps moment bytes last drops_follow before behind =
      let end = ends steps moment bytes last drops_follow (before me) in
      let from = start steps moment bytes last in
      let none : end.left ≡ [] = elim end.more [
        | inl is_none ↦ is_none
        | inr there ↦ absurd (subst (In (duty.Drop last moment)) (behind me) there)
      ] in
      let done_are : end.done ≡ droppable from =
      sym (append-nil end.done) ∙ ap (λ (l : List StandingQuote). end.done ++ l) (sym none) ∙ sym end.all_are in
      rw is (end.sent_are ∙ ap (λ (l : List StandingQuote).
      sent_by from ++ reports config.date row from moment (length (sent_by from) + 1) l) done_are)
