-- The reply to a response brings what stands of trades: by an award the request is closed.
use Rattle.laws_days.proofs.Common.{Bool, None, Some, ℕ, [], inl, inr}
use Rattle.laws_days.proofs.Common.{refl, subst, sym, true, ◌∷◌, ◌≡◌}
use Rattle.laws_days.proofs.Common.{and_parts, HitRefusal, ResponseRef, RoomRef}
use Rattle.laws_days.proofs.Common.{investor_numbered, InvestorRow, market_for, InvestorFact}
use Rattle.laws_days.proofs.Common.{book_of, knows, InvestorEvent, Effect, done_for, replies_to}
use Rattle.laws_days.proofs.Common.{AuditTrail, Every, in_right, ended_as, AtInvestor, nothing}
use Rattle.laws_days.proofs.Common.{if◌then◌else◌}
use Rattle.market_terms.specs.declared.closes.Reply.{Reply}
use Rattle.market_terms.specs.declared.closes.Reply.TheVariants as reply
use Rattle.market_terms.specs.declared.duties.Duty.TheVariants as duty
use Rattle.investor_desk.specs.InvestorFacts.{Closed, request_numbered}
use Rattle.investor_desk.specs.InvestorOutput.{answer_facts, event_facts}
use Rattle.investor_desk.specs.declared.events.InvestorEvent.TheVariants as at_investor
use Rattle.investor_desk.specs.declared.standing.RequestClose.TheVariants.{Awarded}
use Rattle.step_replay.specs.Actions.{at_market}
use Rattle.step_replay.specs.LineActions.{answered_by}
use Rattle.step_replay.specs.InvestorTrail.{AtDesk}
use Rattle.laws_days.proofs.ListLemmas.{cases_some, some_of}
use Rattle.laws_days.proofs.VenueKnown.{known_room}
use Rattle.laws_days.proofs.VenueParts.{KnownIn, Later, Still, later_same}
use Rattle.laws_days.proofs.VenueParts.{investor_facts, said_later}
use Rattle.laws_days.proofs.VenueSteps.{Here, day, to_now}
use Rattle.laws_days.proofs.Common.{ap, ◌∙◌, In, List, Option, Some, None, map, ◌++◌, length, ◌+◌, in_left, investor_grown, of_investor}
use Rattle.fix_fields.specs.Frame.{Field, IsValue, frame_text, value_of}
use Rattle.quote_messages.specs.Written.{written, written_fields}
use Rattle.quote_messages.specs.declared.out_messages.OutMessage.{OutMessage}
use Rattle.quote_messages.specs.declared.out_messages.Head.{Head}
use Rattle.quote_messages.specs.declared.out_messages.OutMessage.TheVariants as out
use Rattle.investor_desk.specs.InvestorOutput.{answer_messages, event_messages, head_of}
use Rattle.investor_desk.specs.InvestorOutput.{pass_status, response_message, written_from}
use Rattle.investor_desk.specs.InvestorFacts.{StandingRequest}
use Rattle.step_replay.specs.InvestorTrail.{Sent, entries_of, sent_by}
use Rattle.step_replay.specs.PlaceLemmas.{own_investor}
use Rattle.laws_shown.proofs.LawfulFields.{AreLawful}
use Rattle.laws_shown.proofs.ReadBack.{all_read}
use Rattle.laws_trades.proofs.ReadMessages.{answer_lawful, pass_read, refused_read}
use Rattle.laws_trades.proofs.CalmMessages.{Harmless, WasAsked, numbered_asked}
use Rattle.laws_trades.proofs.TradeMarkets.{harmless_sent, may_now, sent_with}
use Rattle.laws_trades.proofs.TradeMarkets.{desk_facts, event_makes, fact_later, facts_then, market}
use Rattle.laws_trades.proofs.TradeMarkets.{investor_makes, offer_later}
use Rattle.laws_trades.proofs.TradeParts.{IsAnswerTo, MayBeRead}
use Rattle.laws_trades.proofs.TradeParts.{AnswerOf, AwardedTo, ClosedBy, TradeDuty}
use Rattle.laws_trades.proofs.TradeSteps.{DoneNow, FactNow, Makes, when_makes}

-- an award stands
pub awarded_later : {was now : AuditTrail} → Later was now → (room : RoomRef) (dealer word : ℕ)
    → AwardedTo was.facts room dealer word → AwardedTo now.facts room dealer word
awarded_later later room dealer word award = record {
  end = award.end;
  end_is = said_later later ended_as room award.end award.end_is;
  kind_is = award.kind_is;
  winner_is = award.winner_is;
}

module _ (h : Here) (room : RoomRef) (response : ResponseRef) (moment : ℕ) where
  module _ (row : InvestorRow) (row_is : investor_numbered h.config room.investor ≡ Some row) where
    abbrev pub replied : Reply → InvestorEvent
    replied reply = at_investor.Answered room.n response reply moment

    abbrev pub replying : Reply → Effect
    replying reply = at_market h.venue.facts (market h room.investor row) (replied reply) []

    -- the same where the investor knows the request, and the quote that is meant
    abbrev is_known : Bool
    is_known = knows (book_of (desk_facts h room.investor row)) room.n response.k

    abbrev if_known : Reply → Effect
    if_known reply = if is_known then replying reply else nothing

    -- An award.

    module _ (answer : AnswerOf h.venue.facts room response)
        (knows_it : KnownIn room response.k h.venue.facts) where
      abbrev pub closed : InvestorFact
      closed = Closed room.n (Awarded answer.hit.shown.number answer.hit.shown.offer.dealer
          answer.hit.shown.offer.price)

      pub closes_it : event_facts (market h room.investor row)
          (book_of (desk_facts h room.investor row)) (replied reply.Awarded) ≡ closed ∷ []
      unfolding event_facts
      closes_it =
          let own = some_of (request_numbered (book_of (desk_facts h room.investor row)) room.n)
          (and_parts _ _ knows_it).0 in
          rw (own.1, answer.hit.response_is, answer.hit.found) refl

      -- what it sends
      abbrev head : Head
      head =
          head_of (market h room.investor row)
          (length (sent_by (of_investor room.investor h.venue.facts)) + 1) moment

      own : (own : StandingRequest)
          × (request_numbered (book_of (desk_facts h room.investor row)) room.n ≡ Some own)
      own =
          some_of (request_numbered (book_of (desk_facts h room.investor row)) room.n)
          (and_parts _ _ knows_it).0

      abbrev reply_fields : List Field
      reply_fields =
          written_fields head
          (out.HitReport response.id own.0.request.id answer.hit.shown.number None)

      -- it may stand in a frame where the texts of the desk may
      reply_lawful : MayBeRead h.config.date row.name (investor_facts h.venue.facts room.investor)
          → AreLawful reply_fields
      reply_lawful may =
          answer_lawful head may.named may.dated response.id own.0.request.id
          answer.hit.shown.number answer.hit.id_is
          (may.ids own.0.request (numbered_asked (investor_facts h.venue.facts room.investor) room.n
          own.0 own.1))

      sends_it : sent_with h room.investor row (replied reply.Awarded) ≡ frame_text reply_fields ∷ []
      unfolding event_messages written
      sends_it =
          ap (written_from (market h room.investor row)
          (length (sent_by (of_investor room.investor h.venue.facts)) + 1) moment)
          (ap (answer_messages response reply.Awarded) own.1
          ∙ ap (λ (k : Option ℕ). response_message own.0 response.id k None ∷ [])
          answer.hit.response_is)

      -- what stands then
      closed_then : (now : AuditTrail) → Later (day h (replying reply.Awarded)) now
          → In closed (investor_facts now.facts room.investor)
      closed_then now later =
          fact_later later room.investor closed
          (rw (facts_then h room.investor row (replied reply.Awarded) [], closes_it)
          (in_right closed (desk_facts h room.investor row) (closed ∷ []) (inl refl)))

      sent_then : (now : AuditTrail) → Later (day h (replying reply.Awarded)) now
          → In (Sent (frame_text reply_fields)) (of_investor room.investor now.facts)
      unfolding entries_of
      sent_then now later =
          let trail = of_investor room.investor h.venue.facts in
          let event = replied reply.Awarded in
          let entries = entries_of (market h room.investor row) trail event in
          let there : In (Sent (frame_text reply_fields)) entries =
          inr (in_right (Sent (frame_text reply_fields))
          (map AtDesk (event_facts (market h room.investor row)
          (book_of (desk_facts h room.investor row)) event))
          (map Sent (sent_with h room.investor row event)) (rw sends_it (inl refl))) in
          rw (
            later.facts_are,
            investor_grown room.investor (day h (replying reply.Awarded)).facts later.more,
            investor_grown room.investor h.venue.facts (map (AtInvestor room.investor) entries),
            own_investor room.investor entries,
          ) (in_left (Sent (frame_text reply_fields)) (trail ++ entries) _
          (in_right (Sent (frame_text reply_fields)) trail entries there))

      answers_it : IsAnswerTo reply_fields answer.hit.shown.number
      answers_it = record { is = refl; names = refl }

      closed_by : (now : AuditTrail) → Later (day h (replying reply.Awarded)) now
          → ClosedBy h.config now.facts room.investor room.n answer.hit.shown.number
          answer.hit.shown.offer.dealer answer.hit.shown.offer.price
      closed_by now later = record {
        shown = answer.hit.shown;
        winner = answer.winner;
        found = offer_later (to_now h (replying reply.Awarded) later) room.investor
            answer.hit.shown.number answer.hit.shown answer.hit.found;
        request_is = answer.hit.request_is;
        dealer_is = refl;
        price_is = refl;
        award = subst (λ (w : ℕ). AwardedTo now.facts room answer.winner w)
            (sym answer.hit.word_is)
            (awarded_later (to_now h (replying reply.Awarded) later) room answer.winner answer.word
            answer.award);
        fields = reply_fields;
        sent = sent_then now later;
        is = answers_it;
        body = λ other other_is may. (
          refl,
          reply_lawful (may_now h (replying reply.Awarded) room.investor row row_is now later other
              other_is may),
        );
      }

      award_makes : Makes h (replying reply.Awarded)
      award_makes =
          event_makes h room.investor row (replied reply.Awarded)
          (rw closes_it (λ now later. closed_by now later, tt))
          (rw sends_it (
            λ now later other other_is may fields read is.
                let same : fields ≡ reply_fields = all_read reply_fields fields (reply_lawful
                (may_now h (replying reply.Awarded) room.investor row row_is now later other other_is
                may)) read in
                record {
                  text = ap frame_text (sym same);
                  request = room.n;
                  quote = answer.hit.shown.number;
                  dealer = answer.hit.shown.offer.dealer;
                  price = answer.hit.shown.offer.price;
                  names = ap (value_of 117) same ∙ answers_it.names;
                  closed = closed_then now later;
                },
            tt,
          ))

      award_done : DoneNow h (replying reply.Awarded) (duty.Answer room response reply.Awarded moment)
      award_done now later = record {
        quote = answer.hit.shown.number;
        dealer = answer.hit.shown.offer.dealer;
        price = answer.hit.shown.offer.price;
        closed = closed_then now later;
      }

    -- Any other reply.

    -- a message by which a response is refused
    abbrev Calm : OutMessage → Type 0
    Calm message = Harmless (market h room.investor row) (desk_facts h room.investor row) message

    refused_harmless : (why : HitRefusal) → IsValue response.id → (own : Option StandingRequest)
        → WasAsked (desk_facts h room.investor row) own
        → Every Calm (answer_messages response (reply.Refused why) own)
    refused_harmless why id None asked = tt
    refused_harmless why id (Some own) asked = (by_response response.k, tt)
      where
        by_response : (quote : Option ℕ)
            → Calm (response_message own response.id quote (Some why))
        by_response None number moment may =
            pass_read (head_of (market h room.investor row) number moment) may.named may.dated
            response.id own.request.id (pass_status (Some why)) id
            (may.ids own.request (asked own refl))
        by_response (Some quote) number moment may =
            refused_read (head_of (market h room.investor row) number moment) may.named may.dated
            response.id own.request.id quote why id (may.ids own.request (asked own refl))

    passed_harmless : response.k ≡ None → IsValue response.id → (own : Option StandingRequest)
        → WasAsked (desk_facts h room.investor row) own
        → Every Calm (answer_messages response reply.Passed own)
    passed_harmless none id None asked = tt
    passed_harmless none id (Some own) asked = rw none (
      λ number moment may. pass_read (head_of (market h room.investor row) number moment) may.named
          may.dated response.id own.request.id (pass_status None) id
          (may.ids own.request (asked own refl)),
      tt,
    )

    refused_makes : (why : HitRefusal) → IsValue response.id
        → Makes h (replying (reply.Refused why))
    unfolding event_facts event_messages
    refused_makes why id =
        event_makes h room.investor row (replied (reply.Refused why))
        (elim (request_numbered (book_of (desk_facts h room.investor row)) room.n)
        as (λ own. Every
        (λ fact. FactNow h (replying (reply.Refused why)) (AtInvestor room.investor (AtDesk fact)))
        (answer_facts (book_of (desk_facts h room.investor row)) room.n response
        (reply.Refused why) own)) [
          | None ↦ tt
          | Some own ↦ tt
        ])
        (harmless_sent h (replying (reply.Refused why)) room.investor row row_is _ moment _
        (refused_harmless why id
        (request_numbered (book_of (desk_facts h room.investor row)) room.n)
        (numbered_asked (desk_facts h room.investor row) room.n)))

    passed_makes : response.k ≡ None → IsValue response.id → Makes h (replying reply.Passed)
    unfolding event_facts event_messages
    passed_makes none id =
        event_makes h room.investor row (replied reply.Passed)
        (elim (request_numbered (book_of (desk_facts h room.investor row)) room.n)
        as (λ own. Every
        (λ fact. FactNow h (replying reply.Passed) (AtInvestor room.investor (AtDesk fact)))
        (answer_facts (book_of (desk_facts h room.investor row)) room.n response reply.Passed own)) [
          | None ↦ tt
          | Some own ↦ rw none (λ now later. tt, tt)
        ])
        (harmless_sent h (replying reply.Passed) room.investor row row_is _ moment _
        (passed_harmless none id
        (request_numbered (book_of (desk_facts h room.investor row)) room.n)
        (numbered_asked (desk_facts h room.investor row) room.n)))

  -- what the duty does
  abbrev pub effect_of : Reply → Effect
  effect_of reply =
      done_for (market_for h.config room.investor)
      (answered_by h.venue.facts room response reply moment)

  pub answer_makes : (reply : Reply) → replies_to response.k reply ≡ true
      → KnownIn room response.k h.venue.facts
      → Still (TradeDuty h.config h.by (duty.Answer room response reply moment)) h.venue
      → Makes h (effect_of reply) × DoneNow h (effect_of reply)
      (duty.Answer room response reply moment)
  answer_makes reply.Awarded replies knows_it answers =
      let answer = (answers h.venue (later_same h.venue)).1 in
      elim (cases_some (investor_numbered h.config room.investor)) [
        | inl none ↦ cc (rw none at (known_room h.stood room response.k knows_it))
        | inr some ↦ rw (some.1, replies, knows_it) (
          award_makes some.0 some.1 answer knows_it,
          award_done some.0 some.1 answer knows_it,
        )
      ]
  answer_makes reply.Passed replies knows_it answers = (
    investor_makes h room.investor (answered_by h.venue.facts room response reply.Passed moment)
        (λ row is. when_makes h (replies_to response.k reply.Passed) (if_known row is reply.Passed)
        (λ test. when_makes h (is_known row is) (replying row is reply.Passed) (λ also. elim (cases_some response.k) [
          | inl none ↦ passed_makes row is none (answers h.venue (later_same h.venue))
          | inr some ↦ cc (rw (some.1) at replies)
        ]))),
    λ now later. tt,
  )
  answer_makes (reply.Refused why) replies knows_it answers = (
    investor_makes h room.investor
        (answered_by h.venue.facts room response (reply.Refused why) moment)
        (λ row is. when_makes h (replies_to response.k (reply.Refused why))
        (if_known row is (reply.Refused why)) (λ test.
        when_makes h (is_known row is) (replying row is (reply.Refused why))
        (λ also. refused_makes row is why (answers h.venue (later_same h.venue))))),
    λ now later. tt,
  )
