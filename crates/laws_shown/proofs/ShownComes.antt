-- What a message of an investor and a quote that comes to it bring of what is shown, and all else
-- that comes to its desk.
use Rattle.std.proofs.Common.{◌≡◌, ℕ, ◌+◌, true, false, List, [], ◌++◌, length}
use Rattle.std.proofs.Common.{Option, Some, None, refl, inl, inr, arith}
use Rattle.std.specs.Option.{option_to_list}
use Rattle.market_terms.specs.declared.closes.HitRefusal.{HitRefusal}
use Rattle.market_terms.specs.declared.closes.Reply.{Reply}
use Rattle.market_terms.specs.declared.rooms.ResponseRef.{ResponseRef}
use Rattle.quote_messages.specs.declared.out_messages.OutMessage.{OutMessage}
use Rattle.venue_rows.specs.Rows.{Configuration, investor_numbered}
use Rattle.venue_rows.specs.declared.investor_rows.InvestorRow.{InvestorRow}
use Rattle.venue_steps.specs.declared.actors.Actor.{Actor}
use Rattle.investor_desk.specs.InvestorDesk.{market_of}
use Rattle.investor_desk.specs.InvestorFacts.{Asked, Came, InvestorBook, InvestorFact}
use Rattle.investor_desk.specs.InvestorFacts.{StandingRequest}
use Rattle.investor_desk.specs.InvestorFacts.{offers_of, request_numbered}
use Rattle.investor_desk.specs.InvestorFacts.{requests_of}
use Rattle.investor_desk.specs.InvestorOutput.{answer_messages}
use Rattle.investor_desk.specs.InvestorOutput.{event_facts}
use Rattle.investor_desk.specs.InvestorOutput.{event_messages}
use Rattle.investor_desk.specs.InvestorOutput.{own_facts}
use Rattle.investor_desk.specs.InvestorOutput.{refusal_of, response_message}
use Rattle.investor_desk.specs.InvestorOutput.{verdict_duty, verdict_facts, verdict_message}
use Rattle.investor_desk.specs.InvestorRules.{InvestorMarket, investor_verdict}
use Rattle.investor_desk.specs.declared.events.InvestorEvent.{InvestorEvent}
use Rattle.investor_desk.specs.declared.events.InvestorEvent.TheVariants as event
use Rattle.investor_desk.specs.declared.verdicts.InvestorVerdict.{InvestorVerdict}
use Rattle.investor_desk.specs.declared.verdicts.InvestorVerdict.TheVariants as verdict
use Rattle.step_replay.specs.Actions.{at_market, left_by_investor, received_by_investor}
use Rattle.step_replay.specs.InvestorTrail.{AtDesk, book_by}
use Rattle.step_replay.specs.Lists.{Every, In}
use Rattle.step_replay.specs.VenueFacts.{Fact, of_investor}
use Rattle.laws_days.proofs.NewsWalk.{IsNews, news_adds, news_says, reply_adds}
use Rattle.laws_shown.specs.ShownRequests.{at_investor}
use Rattle.laws_shown.proofs.AcceptedRequests.{AcceptOk, verdict_accepts}
use Rattle.laws_shown.proofs.ListLemmas.{AreFrom}
use Rattle.laws_shown.proofs.Messages.{shows}
use Rattle.laws_shown.proofs.ShownDesk.{Brings}
use Rattle.laws_shown.proofs.ShownMarket.{plain_turn}
use Rattle.laws_shown.proofs.ShownMarket.{IsPlain, asked_count, effect, happened_now}
use Rattle.laws_shown.proofs.ShownMarket.{market_brings, plain_brings, plain_says}
use Rattle.laws_shown.proofs.ShownParts.{DutyOk, InvestorOk, asked_of, number_asked}

module _ (config : Configuration) (facts : List Fact) (by : Actor) (firm : ℕ) (row : InvestorRow)
  where
    abbrev market : InvestorMarket
    market = market_of config firm row

    abbrev desk : List InvestorFact
    desk = at_investor firm facts

    abbrev book : InvestorBook
    book = book_by (of_investor firm facts)

    -- A message of its own.

    module _ (is_investor : investor_numbered config firm ≡ Some row) (moment : ℕ) (bytes : List ℕ)
        (now : List Fact) where
      said_stands : (v : InvestorVerdict) → AcceptOk market book moment bytes v
          → ((fact : InvestorFact) → In fact (own_facts moment bytes v)
          → In fact (at_investor firm now))
          → Every (λ fact. InvestorOk config now firm (AtDesk fact)) (verdict_facts v)
      said_stands (verdict.RequestAccepted id request) accepts added = (
        record {
          row = row;
          asked = accepts.fields;
          is_investor = is_investor;
          accepted = added (Asked request) (inr (inl refl));
          number = refl;
          came = record {
            bytes = bytes;
            came = rw (accepts.moment_is) (added (Came moment bytes true) (inl refl));
            frame = accepts.frame;
          };
          says = accepts.says;
        },
        tt,
      )
      said_stands other accepts added = tt

      said_left : (v : InvestorVerdict)
          → Every (λ fact. InvestorOk config now firm (AtDesk fact)) (verdict_facts v)
          → Every (DutyOk config now by) (option_to_list (verdict_duty market moment v))
      said_left (verdict.RequestAccepted id request) stands = (
        record {
          request = request;
          is_request = stands.0;
          ask_is = refl;
          dealers_are = refl;
        },
        tt,
      )
      said_left (verdict.Hits request response word) stands = (tt, tt)
      said_left (verdict.Passes request response) stands = (tt, tt)
      said_left other stands = tt

    said_numbered : (moment : ℕ) (bytes : List ℕ) (v : InvestorVerdict)
        → AcceptOk market book moment bytes v
        → AreFrom number_asked (1 + length (asked_of desk)) (asked_of (verdict_facts v))
    said_numbered moment bytes (verdict.RequestAccepted id request) accepts =
        let counted : length (requests_of desk) ≡ length (asked_of desk) = asked_count desk in
        let number : request.number ≡ length (requests_of desk) + 1 = accepts.number_is in
        (omega arith, tt)
    said_numbered moment bytes other accepts = tt

    said_plain : (moment : ℕ) (bytes : List ℕ) (v : InvestorVerdict)
        → AcceptOk market book moment bytes v
        → Every (λ (m : OutMessage). shows m ≡ false) (option_to_list (verdict_message v))
    said_plain moment bytes verdict.Dropped accepts = tt
    said_plain moment bytes (verdict.Hits request response word) accepts = tt
    said_plain moment bytes (verdict.Passes request response) accepts = tt
    said_plain moment bytes other accepts = (refl, tt)

    said_offers : (v : InvestorVerdict) → offers_of (verdict_facts v) ≡ []
    said_offers (verdict.RequestAccepted id request) = refl
    said_offers other = refl

    pub asked_brings : investor_numbered config firm ≡ Some row → (moment : ℕ) (bytes : List ℕ)
        → Brings config facts by (received_by_investor facts moment bytes market)
    unfolding event_facts event_messages
    asked_brings is_investor moment bytes =
        let v = investor_verdict market book moment bytes in
        let more = event.Received moment bytes in
        let duties = left_by_investor facts moment bytes market in
        let now = facts ++ (effect config facts by firm row more duties).facts in
        let accepts = verdict_accepts market book moment bytes in
        let stands = said_stands is_investor moment bytes now v accepts
        (happened_now config facts by firm row more duties) in
        market_brings config facts by firm row more duties (tt, stands)
        (plain_says config facts by firm row more duties (event_messages market book more)
        (said_plain moment bytes v accepts)) (said_numbered moment bytes v accepts)
        (rw (said_offers v) (plain_turn config facts by firm row more duties _ moment
        (event_messages market book more) (said_plain moment bytes v accepts)))
        (said_left is_investor moment bytes now v stands)

    -- What comes from a room and shows nothing: news, and the reply to a response.

    pub news_brings : (more : InvestorEvent) → IsNews more
        → Brings config facts by (at_market facts market more [])
    news_brings more news =
        plain_brings config facts by firm row more []
        (news_adds (IsPlain config facts by firm row more []) market book more news
        (λ request word moment at quote. tt) (λ request. tt))
        (news_says (λ (m : OutMessage). shows m ≡ false) market book more news
        (λ request own stands. record {
          gone = λ request word moment at shown. refl;
          declined = λ request dealer moment at. refl;
          expired = refl;
        })) tt

    pub answered_brings : (number : ℕ) (response : ResponseRef) (reply : Reply) (moment : ℕ)
        → Brings config facts by
        (at_market facts market (event.Answered number response reply moment) [])
    unfolding event_facts event_messages
    answered_brings number response reply moment =
        let answered = event.Answered number response reply moment in
        plain_brings config facts by firm row answered []
        (reply_adds (IsPlain config facts by firm row answered []) book number response reply
        (λ how. tt) (request_numbered book number)) (says (request_numbered book number)) tt
      where
        reported : (own : StandingRequest) (id : List ℕ) (quote : Option ℕ)
            (refusal : Option HitRefusal) → shows (response_message own id quote refusal) ≡ false
        reported own id None refusal = refl
        reported own id (Some quote) refusal = refl

        says : (found : Option StandingRequest)
            → Every (λ (m : OutMessage). shows m ≡ false) (answer_messages response reply found)
        says None = tt
        says (Some own) = (reported own response.id response.k (refusal_of reply), tt)
