-- What is kept between an investor and a dealer is kept by every step of a day: so the dealer's list
-- of trades begins the investor's.
use Rattle.laws_days.proofs.Common.{Bool, List, Some, ℕ, [], ap, false, fold}
use Rattle.laws_days.proofs.Common.{if◌then◌else◌, inl, inr, option_map, option_to_list, refl, subst}
use Rattle.laws_days.proofs.Common.{sym, true, ◌++◌, ◌==◌, ◌∙◌, ◌∷◌, ◌≡◌, append-nil}
use Rattle.laws_days.proofs.Common.{append_assoc, cases_Bool, filter_map-append, Duty}
use Rattle.laws_days.proofs.Common.{RoomRef, Configuration, dealer_numbered, investor_numbered}
use Rattle.laws_days.proofs.Common.{DealerRow, InvestorRow, hit_word, Actor, Effect, AuditTrail}
use Rattle.laws_days.proofs.Common.{after_step, after_turn, audit_trail, is_same_actor, no_steps}
use Rattle.step_replay.specs.AuditTrail.{with_effect}
use Rattle.laws_days.proofs.Common.{nothing, pending, duty_effect, message_effect, sweep_effect}
use Rattle.laws_days.proofs.Common.{Fact, of_dealer, of_investor, Step}
use Rattle.std.proofs.lemmas.List.Sums.{fold-append}
use Rattle.market_terms.specs.declared.closes.Reply.TheVariants as reply
use Rattle.market_terms.specs.declared.duties.Duty.TheVariants as duty
use Rattle.request_room.specs.declared.ends.EndKind.{EndKind}
use Rattle.venue_rows.specs.Rows.{KeepsLimits}
use Rattle.venue_steps.specs.declared.actors.Actor.TheVariants as actor
use Rattle.step_replay.specs.Actions.{answer_to_hit, quote_asked}
use Rattle.step_replay.specs.QueueLemmas.{one_actor, other_pending, other_turned, own_pending}
use Rattle.step_replay.specs.QueueLemmas.{own_turned, same_either}
use Rattle.step_replay.specs.declared.steps.Step.TheVariants as step
use Rattle.laws_days.proofs.ConditionMet.{tell_met}
use Rattle.laws_days.proofs.LiveQuotes.{LoneQuotes}
use Rattle.laws_days.proofs.VenueDay.{venue_ok}
use Rattle.laws_days.proofs.VenueDesk.{WordsOfDay}
use Rattle.laws_days.proofs.VenueInvariant.{DutyOk, VenueOk}
use Rattle.laws_days.proofs.VenueKinds.{known}
use Rattle.laws_days.proofs.VenueKnown.{named_dealer, pending_ok, shown_ended}
use Rattle.laws_days.proofs.VenueParts.{OrderOk, Still, closer, did_in, later_same, mark_of, marks}
use Rattle.laws_days.proofs.VenueParts.{number_for}
use Rattle.laws_days.proofs.VenueSteps.{Here}
use Rattle.laws_days.proofs.VenueTurns.{Doing, turn}
use Rattle.laws_trades.specs.TradeNames.{NamesOneTrade}
use Rattle.laws_trades.proofs.TradeFound.{hit_kind}
use Rattle.laws_trades.proofs.NameAwards.{answer_adds, hit_adds, tell_adds}
use Rattle.laws_trades.proofs.NameLemmas.{ComesTo, asked_is, comes_from, hit_only, number_comes, room_is}
use Rattle.laws_trades.proofs.NameParts.{InStep, IsOrdered, Pair, answers, answers_in, begins_it, hits}
use Rattle.laws_trades.proofs.NameParts.{is_hit, notices, ordered_both, ordered_length, said, said_first}
use Rattle.laws_trades.proofs.NameParts.{tells, tells_in, where_own}
use Rattle.laws_trades.proofs.NameSilent.{hits_both, idle, notices_both}
use Rattle.laws_trades.proofs.NameTurns.{Adds, message_adds, other_adds, passed_adds, passed_on_adds}
use Rattle.laws_trades.proofs.NameTurns.{refused_adds, silent_adds, swept_adds}
use Rattle.laws_trades.proofs.TradeDay.{next_left, one_more, trade_ok}
use Rattle.laws_trades.proofs.TradeParts.{TradeDuty, TradeOk}

-- Lists.

regroup : (a b c d : List RoomRef) → (a ++ b) ++ (c ++ d) ≡ (a ++ (b ++ c)) ++ d
regroup a b c d =
    append_assoc a b (c ++ d) ∙ ap (λ l. a ++ l) (sym (append_assoc b c d))
    ∙ sym (append_assoc a (b ++ c) d)

joined : (h hit a x n told t h1 a1 n1 t1 : List RoomRef) → h1 ≡ h ++ hit → a1 ≡ a ++ x
    → n1 ≡ n ++ told → t1 ≡ t ++ x → h ++ (hit ++ a) ≡ n ++ (told ++ t) → h1 ++ a1 ≡ n1 ++ t1
joined h hit a x n told t h1 a1 n1 t1 hits_are answers_are notices_are tells_are same =
    ap (λ l. l ++ a1) hits_are ∙ ap (λ l. (h ++ hit) ++ l) answers_are ∙ regroup h hit a x
    ∙ ap (λ l. l ++ x) same ∙ sym (regroup n told t x)
    ∙ sym (ap (λ l. l ++ t1) notices_are ∙ ap (λ l. (n ++ told) ++ l) tells_are)

module _ (p : Pair) (facts : List Fact) (effect : Effect) where
  -- what is done and what is left then
  keeps_step : (hit told : List RoomRef) (rest : List Duty) → Adds p effect hit told
      → hits p facts ++ (hit ++ answers p rest) ≡ notices p facts ++ (told ++ tells p rest)
      → IsOrdered p rest → InStep p (facts ++ effect.facts) (rest ++ effect.duties)
  keeps_step hit told rest adds same ordered = record {
    same = joined (hits p facts) hit (answers p rest) (answers p effect.duties) (notices p facts)
        told (tells p rest) (hits p (facts ++ effect.facts)) (answers p (rest ++ effect.duties))
        (notices p (facts ++ effect.facts)) (tells p (rest ++ effect.duties))
        (hits_both p facts effect.facts ∙ ap (λ l. hits p facts ++ l) adds.hit_is)
        (filter_map-append (answers_in p) rest effect.duties)
        (notices_both p facts effect.facts ∙ ap (λ l. notices p facts ++ l) adds.told_is)
        (filter_map-append (tells_in p) rest effect.duties
        ∙ ap (λ l. tells p rest ++ l) (sym adds.batch.same))
        same;
    ordered = ordered_both p rest effect.duties ordered adds.batch;
  }

  -- the same where another actor acts
  stays_so : (duties : List Duty) → hits p effect.facts ≡ [] → notices p effect.facts ≡ []
      → InStep p facts duties → InStep p (facts ++ effect.facts) duties
  stays_so duties none silent before = record {
    same = joined (hits p facts) [] (answers p duties) [] (notices p facts) [] (tells p duties)
        (hits p (facts ++ effect.facts)) (answers p duties) (notices p (facts ++ effect.facts))
        (tells p duties) (hits_both p facts effect.facts ∙ ap (λ l. hits p facts ++ l) none)
        (sym (append-nil (answers p duties)))
        (notices_both p facts effect.facts ∙ ap (λ l. notices p facts ++ l) silent)
        (sym (append-nil (tells p duties))) before.same;
    ordered = before.ordered;
  }

-- A day comes to what its later steps add.

step_comes : (config : Configuration) (trail : AuditTrail) (s : Step)
    → ComesTo trail.facts (after_step config trail s).facts
unfolding after_step
step_comes config trail (step.In firm moment message) =
    ((message_effect config trail.facts firm moment message).facts, refl)
step_comes config trail (step.Expire room moment) =
    ((sweep_effect config trail.facts room moment).facts, refl)
step_comes config trail (step.Turn by) = by_duties (pending by trail)
  where
    by_duties : (duties : List Duty)
        → ComesTo trail.facts (after_turn config by trail duties).facts
    by_duties [] = ([], sym (append-nil trail.facts))
    by_duties (left ∷ rest) = ((duty_effect config trail.facts by left).facts, refl)

steps_come : (config : Configuration) (trail : AuditTrail) (steps : List Step)
    → ComesTo trail.facts (fold (after_step config) trail steps).facts
steps_come config trail [] = ([], sym (append-nil trail.facts))
steps_come config trail (s ∷ steps) =
    let first = step_comes config trail s in
    let later = steps_come config (after_step config trail s) steps in (
      first.0 ++ later.0,
      later.1 ∙ ap (λ l. l ++ later.0) first.1
          ∙ append_assoc trail.facts first.0 later.0,
    )

day_comes : (config : Configuration) (before rest : List Step)
    → ComesTo (audit_trail config before).facts (audit_trail config (before ++ rest)).facts
unfolding audit_trail
day_comes config before rest =
    let comes = steps_come config (audit_trail config before) rest in (
      comes.0,
      ap (λ (t : AuditTrail). t.facts) (fold-append (after_step config) no_steps before rest)
          ∙ comes.1,
    )

module _ (config : Configuration) (limits : KeepsLimits config) (investor dealer : ℕ)
    (investor_row : InvestorRow) (dealer_row : DealerRow)
    (is_investor : investor_numbered config investor ≡ Some investor_row)
    (is_dealer : dealer_numbered config dealer ≡ Some dealer_row) (last : AuditTrail)
    (last_stood : VenueOk config last) (last_trades : TradeOk config last) where
  abbrev pair : Pair
  pair = record {
    investor = investor;
    dealer = dealer;
    investor_name = investor_row.name;
    dealer_name = dealer_row.name;
    final = last.facts;
  }

  module _ (venue : AuditTrail) (stood : VenueOk config venue) (trades : TradeOk config venue) where
    abbrev here : (by : Actor) → Doing venue by → Here
    here by doing =
        record { config = config; venue = venue; stood = stood; by = by; doing = doing }

    abbrev Comes : Effect → Type 0
    Comes effect = ComesTo (venue.facts ++ effect.facts) last.facts

    when_adds : (b : Bool) (effect : Effect) → (Comes effect → Adds pair effect [] [])
        → Comes (if b then effect else nothing)
        → Adds pair (if b then effect else nothing) [] []
    when_adds true effect adds comes = adds comes
    when_adds false effect adds comes = silent_adds pair nothing (idle pair) tt

    turn_adds : (by : Actor) (doing : Doing venue by) (left : Duty) → DutyOk config by left venue
        → OrderOk venue (marks (did_in venue by)) (mark_of left)
        → Still (TradeDuty config by left) venue → Comes (duty_effect config venue.facts by left)
        → Adds pair (duty_effect config venue.facts by left) (said (answers_in pair) left)
        (said (tells_in pair) left)
    unfolding duty_effect
    turn_adds by doing (duty.Hit room response word moment) ok order stands comes =
        when_adds _ _ (hit_adds (here by doing) pair trades room response word moment ok.by_is stands
        (option_map (answer_to_hit venue.facts)
        (quote_asked config (hit_word (known (here by doing) room) word moment)))) comes
    turn_adds by doing (duty.Pass room response moment) ok order stands comes =
        passed_adds pair config venue.facts by room response moment
    turn_adds by doing (duty.Answer room response reply.Awarded moment) ok order stands comes =
        answer_adds (here by doing) pair trades limits dealer_row is_dealer refl
        (comes_from venue.facts _ last.facts comes) room response moment
        (stands venue (later_same venue)).1 ok.0 ok.1
    turn_adds by doing (duty.Answer room response reply.Passed moment) ok order stands comes =
        passed_on_adds pair config venue.facts by room response moment ok.0
    turn_adds by doing (duty.Answer room response (reply.Refused why) moment) ok order stands comes =
        refused_adds pair config venue.facts by room response why moment
    turn_adds by doing (duty.Tell other room close moment) ok order stands comes =
        let found = named_dealer stood room other ok.named in
        let number = shown_ended stood room ok.end other ok.end_is ok.named in
        let may = rw (found.1, number.1) at (tell_met stood by other room close ok order.0) in
        let there = number_comes venue.facts last.facts (comes_from venue.facts _ last.facts comes) other room number.0
        number.1 in
        rw found.1 (tell_adds (here by doing) pair other found.0 found.1 room close moment number.0
        number.1 may
        (λ same. asked_is last_stood last_trades limits dealer dealer_row is_dealer investor investor_row is_investor
        room number.0 (subst (λ (d : ℕ). number_for last.facts d room ≡ Some number.0) same there))
        (λ same. room_is last.facts dealer room number.0
        (subst (λ (d : ℕ). number_for last.facts d room ≡ Some number.0) same there)))
    turn_adds by doing other ok order stands comes =
        other_adds pair config venue.facts by other tt

    -- another actor's duty is none of the pair's
    unowned : (room : RoomRef) (b : Bool) → (room.investor == investor) ≡ false
        → option_to_list (where_own pair room b) ≡ []
    unowned room true differs = rw differs refl
    unowned room false differs = refl

    not_own : (by : Actor) (left : Duty) → is_same_actor by (actor.Firm investor) ≡ false
        → DutyOk config by left venue → Still (TradeDuty config by left) venue
        → (said (answers_in pair) left ≡ []) × (said (tells_in pair) left ≡ [])
    not_own by (duty.Answer room response reply.Awarded moment) differs ok stands =
        let by_is : by ≡ actor.Firm room.investor = (stands venue (later_same venue)).0 in
        (unowned room _ (rw by_is at differs), refl)
    not_own by (duty.Tell other room close moment) differs ok stands = (
      refl,
      elim (cases_Bool (is_hit close)) [
        | inl hit ↦
            let kind = hit_kind ok.end.kind ok.end other
            (sym ok.close_is ∙ hit_only close hit) in
            let by_is : by ≡ actor.Firm room.investor =
            ok.by_is ∙ ap (λ (k : EndKind). closer k room) kind in
            unowned room _ (rw by_is at differs)
        | inr never ↦ rw never refl
      ],
    )
    not_own by other differs ok stands = (refl, refl)

    -- the duties of the investor
    abbrev own_duties : AuditTrail → List Duty
    own_duties trail = pending (actor.Firm investor) trail

    module _ (before : InStep pair venue.facts (own_duties venue)) where
      -- beside its queue
      beside_keeps : (by : Actor) (effect : Effect) → Adds pair effect [] []
          → InStep pair (venue.facts ++ effect.facts) (own_duties (with_effect by venue effect))
      beside_keeps by effect adds = elim (cases_Bool (is_same_actor by (actor.Firm investor))) [
        | inl same ↦
            subst (λ (a : Actor). InStep pair (venue.facts ++ effect.facts)
            (own_duties (with_effect a venue effect))) (sym (one_actor by (actor.Firm investor) same))
            (rw (own_pending (actor.Firm investor) venue effect
            (stood.queues (actor.Firm investor)).within)
            (keeps_step pair venue.facts effect [] [] (own_duties venue) adds before.same
            before.ordered))
        | inr differs ↦ rw (other_pending by (actor.Firm investor) venue effect differs)
            (stays_so pair venue.facts effect (own_duties venue) adds.hit_is adds.told_is before)
      ]

      turn_keeps : (by : Actor) (duties : List Duty) → pending by venue ≡ duties
          → ComesTo (after_turn config by venue duties).facts last.facts
          → InStep pair (after_turn config by venue duties).facts
          (own_duties (after_turn config by venue duties))
      turn_keeps by [] is comes = before
      turn_keeps by (left ∷ rest) is comes =
          let fits = pending_ok stood by left rest is in
          let ok = fits.0 venue (later_same venue) in
          let stands = next_left trades by left rest is in
          let effect = duty_effect config venue.facts by left in
          let adds = turn_adds by (turn left rest is) left ok fits.1 stands comes in
          elim (cases_Bool (is_same_actor by (actor.Firm investor))) [
            | inl same ↦
                let one = one_actor by (actor.Firm investor) same in
                let had : own_duties venue ≡ left ∷ rest =
                ap (λ (a : Actor). pending a venue) (sym one) ∙ is in
                let now : own_duties (after_turn config by venue (left ∷ rest))
                ≡ rest ++ effect.duties =
                ap (λ (a : Actor). pending a (after_turn config by venue (left ∷ rest))) (sym one)
                ∙ own_turned by venue effect left rest is in
                let ordered : IsOrdered pair (left ∷ rest) =
                subst (IsOrdered pair) had before.ordered in
                rw now (keeps_step pair venue.facts effect (said (answers_in pair) left)
                (said (tells_in pair) left) rest adds
                (ap (λ l. hits pair venue.facts ++ l) (sym (ap (answers pair) had
                ∙ said_first (answers_in pair) left rest))
                ∙ before.same
                ∙ ap (λ l. notices pair venue.facts ++ l) (ap (tells pair) had
                ∙ said_first (tells_in pair) left rest))
                ordered.1)
            | inr differs ↦
                let none = not_own by left differs ok stands in
                rw (other_turned by (actor.Firm investor) venue effect differs
                (same_either by (actor.Firm investor) differs))
                (stays_so pair venue.facts effect (own_duties venue) (adds.hit_is ∙ none.0)
                (adds.told_is ∙ none.1) before)
          ]

      step_keeps : (more : Step) → ComesTo (after_step config venue more).facts last.facts
          → InStep pair (after_step config venue more).facts
          (own_duties (after_step config venue more))
      unfolding after_step
      step_keeps (step.In firm moment message) comes =
          beside_keeps (actor.Firm firm) (message_effect config venue.facts firm moment message)
          (message_adds pair config venue.facts firm moment message)
      step_keeps (step.Turn by) comes = turn_keeps by (pending by venue) refl comes
      step_keeps (step.Expire room moment) comes =
          beside_keeps actor.Clock (sweep_effect config venue.facts room moment)
          (swept_adds pair config venue.facts room moment)

module _ (lone : LoneQuotes) (words : WordsOfDay) (config : Configuration)
    (limits : KeepsLimits config) (investor dealer : ℕ) (investor_row : InvestorRow) (dealer_row : DealerRow)
    (is_investor : investor_numbered config investor ≡ Some investor_row)
    (is_dealer : dealer_numbered config dealer ≡ Some dealer_row) (steps : List Step) where
  abbrev last : AuditTrail
  last = audit_trail config steps

  abbrev two : Pair
  two = pair config limits investor dealer investor_row dealer_row is_investor is_dealer last
      (venue_ok lone words config steps) (trade_ok lone words config steps)

  abbrev KeptAt : List Step → Type 0
  KeptAt some = InStep two (audit_trail config some).facts
      (pending (actor.Firm investor) (audit_trail config some))

  start : KeptAt []
  unfolding audit_trail of_dealer of_investor
  start = record { same = refl; ordered = tt }

  walk : (before rest : List Step) → before ++ rest ≡ steps → KeptAt before → KeptAt steps
  walk before [] is kept = subst KeptAt (sym (append-nil before) ∙ is) kept
  walk before (more ∷ rest) is kept =
      let next : (before ++ more ∷ []) ++ rest ≡ steps = append_assoc before (more ∷ []) rest ∙ is in
      let comes : ComesTo (audit_trail config (before ++ more ∷ [])).facts last.facts =
      subst (λ (l : List Step). ComesTo (audit_trail config (before ++ more ∷ [])).facts
      (audit_trail config l).facts) next (day_comes config (before ++ more ∷ []) rest) in
      let one = one_more lone words config before more in
      walk (before ++ more ∷ []) rest next (rw one (step_keeps config limits investor dealer investor_row
      dealer_row is_investor is_dealer last (venue_ok lone words config steps)
      (trade_ok lone words config steps) (audit_trail config before)
      (venue_ok lone words config before) (trade_ok lone words config before) kept more
      (rw one at comes)))

  pub names_one : NamesOneTrade last.facts investor dealer investor_row.name dealer_row.name
  names_one =
      let kept = walk [] steps refl start in
      let duties = pending (actor.Firm investor) last in
      let begins = begins_it (hits two last.facts) (answers two duties) (notices two last.facts)
      (tells two duties) kept.same (ordered_length two duties kept.ordered) in
      record { later = begins.0; begins = begins.1 }

  -- where the investor has no duty left the two lists are one
  pub names_both : pending (actor.Firm investor) last ≡ [] → hits two last.facts ≡ notices two last.facts
  names_both idle =
      let kept = walk [] steps refl start in
      sym (append-nil (hits two last.facts))
      ∙ ap (λ (l : List Duty). hits two last.facts ++ answers two l) (sym idle) ∙ kept.same
      ∙ ap (λ (l : List Duty). notices two last.facts ++ tells two l) idle
      ∙ append-nil (notices two last.facts)
