-- What an event at an investor's desk brings of what is shown.
use Rattle.std.proofs.Common.{◌≡◌, ℕ, ◌+◌, ◌==◌, false, List, [], ◌∷◌, ◌++◌, map}
use Rattle.std.proofs.Common.{length, None, refl, ap}
use Rattle.std.proofs.Common.{◌∙◌, subst, inl, inr, codes}
use Rattle.std.proofs.lemmas.Bool.{cases_Bool, eqb-true}
use Rattle.std.proofs.lemmas.List.{append-nil}
use Rattle.std.proofs.lemmas.List.Elements.{filter_map-append}
use Rattle.market_terms.specs.declared.duties.Duty.{Duty}
use Rattle.quote_messages.specs.Written.{written}
use Rattle.quote_messages.specs.declared.out_messages.OutMessage.{OutMessage}
use Rattle.venue_rows.specs.Rows.{Configuration}
use Rattle.venue_rows.specs.declared.investor_rows.InvestorRow.{InvestorRow}
use Rattle.venue_steps.specs.declared.actors.Actor.{Actor}
use Rattle.investor_desk.specs.InvestorDesk.{market_of}
use Rattle.investor_desk.specs.InvestorFacts.{offers_of, Asked, InvestorBook, InvestorFact, Offered}
use Rattle.investor_desk.specs.InvestorFacts.{StandingRequest}
use Rattle.investor_desk.specs.InvestorFacts.{requests_of}
use Rattle.investor_desk.specs.InvestorOutput.{event_facts}
use Rattle.investor_desk.specs.InvestorOutput.{event_messages}
use Rattle.investor_desk.specs.InvestorOutput.{head_of, moment_of}
use Rattle.investor_desk.specs.InvestorOutput.{written_from}
use Rattle.investor_desk.specs.InvestorRules.{InvestorMarket}
use Rattle.investor_desk.specs.declared.events.InvestorEvent.{InvestorEvent}
use Rattle.step_replay.specs.Actions.{Effect, at_market}
use Rattle.step_replay.specs.EachLemmas.{every_both}
use Rattle.step_replay.specs.GrowthLemmas.{in_right}
use Rattle.step_replay.specs.InvestorTrail.{AtDesk, InvestorEntry, Sent, book_by, entries_of, fact_in}
use Rattle.step_replay.specs.InvestorTrail.{facts_of, message_in, sent_by}
use Rattle.step_replay.specs.Lists.{Every, In}
use Rattle.step_replay.specs.PlaceLemmas.{everything_of, nothing_of, other_investor, own_investor}
use Rattle.step_replay.specs.PlaceLemmas.{trail_at_investor}
use Rattle.step_replay.specs.VenueFacts.{AtInvestor, Fact, of_investor}
use Rattle.laws_days.specs.KeptItems.{every_in}
use Rattle.laws_shown.specs.Said.{SaysWhenRead}
use Rattle.laws_shown.specs.ShownQuotes.{ShowsWhatWasQuoted}
use Rattle.laws_shown.specs.ShownRequests.{at_investor}
use Rattle.laws_shown.proofs.ListLemmas.{AreFrom}
use Rattle.laws_shown.proofs.Messages.{plain_to_investor}
use Rattle.laws_shown.proofs.Messages.{shows}
use Rattle.laws_shown.proofs.ShownDesk.{Brings}
use Rattle.laws_shown.specs.ShownQuotes.{AreShownInTurn, shown_to}
use Rattle.laws_shown.proofs.Messages.{plain_shows_none}
use Rattle.laws_shown.proofs.ShownParts.{turn_none, DutyOk, FactOk, InvestorOk}
use Rattle.laws_shown.proofs.ShownParts.{asked_of, investor_facts_grown, number_asked}

-- The requests of a book.

-- each request that stands was accepted
pub requests_in : (facts : List InvestorFact) (own : StandingRequest) → In own (requests_of facts)
    → In (Asked own.request) facts
requests_in [] own is = absurd is
requests_in (Asked request ∷ facts) own (inl is) =
    inl (ap (λ (r : StandingRequest). Asked r.request) is)
requests_in (Asked request ∷ facts) own (inr is) = inr (requests_in facts own is)
requests_in (fact ∷ facts) own is = inr (requests_in facts own is)

-- and as many stand as were accepted
pub asked_count : (facts : List InvestorFact) → length (requests_of facts) ≡ length (asked_of facts)
asked_count [] = refl
asked_count (Asked request ∷ facts) =
    ap (λ (n : ℕ). n) (rw (asked_count facts) refl)
asked_count (fact ∷ facts) = asked_count facts

module _ (config : Configuration) (facts : List Fact) (by : Actor) (firm : ℕ) (row : InvestorRow)
  where
    abbrev market : InvestorMarket
    market = market_of config firm row

    abbrev trail : List InvestorEntry
    trail = of_investor firm facts

    abbrev book : InvestorBook
    book = book_by trail

    -- One event.

    module _ (more : InvestorEvent) (duties : List Duty) where
      abbrev pub effect : Effect
      effect = at_market facts market more duties

      abbrev now : List Fact
      now = facts ++ effect.facts

      abbrev happened : List InvestorFact
      happened = event_facts market book more

      abbrev entries : List InvestorEntry
      entries = entries_of market trail more

      abbrev pub first : ℕ
      first = length (sent_by trail) + 1

      abbrev pub sent : List (List ℕ)
      sent = written_from market first (moment_of more) (event_messages market book more)

      pub entries_facts : facts_of entries ≡ happened
      unfolding entries_of
      entries_facts =
          filter_map-append fact_in (map AtDesk happened) (map Sent sent)
          ∙ rw (
            everything_of fact_in AtDesk (λ fact. refl) happened,
            nothing_of fact_in Sent (λ m. refl) sent,
          ) (append-nil happened)

      entries_sent : sent_by entries ≡ sent
      unfolding entries_of
      entries_sent =
          filter_map-append message_in (map AtDesk happened) (map Sent sent)
          ∙ rw (
            nothing_of message_in AtDesk (λ fact. refl) happened,
            everything_of message_in Sent (λ m. refl) sent,
          ) refl

      pub happened_now : (fact : InvestorFact) → In fact happened → In fact (at_investor firm now)
      happened_now fact is = rw (
        investor_facts_grown firm facts effect.facts,
        own_investor firm entries,
        entries_facts,
      ) (in_right fact (at_investor firm facts) happened is)

      -- what a message says that is sent
      abbrev pub Says : OutMessage → Type 0
      Says message = (number moment : ℕ)
          → SaysWhenRead (codes "S") (ShowsWhatWasQuoted config now firm)
          (written (head_of market number moment) message)

      written_ok : (number moment : ℕ) (messages : List OutMessage) → Every Says messages
          → Every (λ text. InvestorOk config now firm (Sent text))
          (written_from market number moment messages)
      written_ok number moment [] say = tt
      written_ok number moment (message ∷ messages) say =
          (say.0 number moment, written_ok (number + 1) moment messages say.1)

      entries_ok : Every (λ fact. InvestorOk config now firm (AtDesk fact)) happened
          → Every Says (event_messages market book more)
          → Every (InvestorOk config now firm) entries
      unfolding entries_of
      entries_ok stand say =
          let Ok = InvestorOk config now firm in (
            tt,
            every_both Ok (map AtDesk happened) (map Sent sent)
                (every_in (λ fact. Ok (AtDesk fact)) Ok AtDesk (λ fact ok. ok) happened stand)
                (every_in (λ message. Ok (Sent message)) Ok Sent (λ message ok. ok) sent
                (written_ok first (moment_of more) (event_messages market book more) say)),
          )

      pub market_brings : Every (λ fact. InvestorOk config now firm (AtDesk fact)) happened
          → Every Says (event_messages market book more)
          → AreFrom number_asked (1 + length (asked_of (at_investor firm facts))) (asked_of happened)
          → AreShownInTurn config now firm sent (offers_of happened)
          → Every (DutyOk config now by) duties → Brings config facts by effect
      market_brings stand say numbered turn left = record {
        stands = every_in (InvestorOk config now firm) (FactOk config now) (AtInvestor firm)
            (λ entry ok. ok) entries (entries_ok stand say);
        left = left;
        asks = λ dealer. rw (trail_at_investor dealer firm entries) tt;
        numbered = λ investor. elim (cases_Bool (firm == investor)) [
          | inl same ↦
              subst (λ i. AreFrom number_asked (1 + length (asked_of (at_investor i facts)))
              (asked_of (at_investor i effect.facts))) (eqb-true firm investor same)
              (rw (own_investor firm entries, entries_facts) numbered)
          | inr differs ↦ rw (other_investor investor firm differs entries) tt
        ];
        sent = λ investor. elim (cases_Bool (firm == investor)) [
          | inl same ↦
              subst (λ i. AreShownInTurn config now i (sent_by (of_investor i effect.facts))
              (shown_to i effect.facts)) (eqb-true firm investor same)
              (rw (own_investor firm entries, entries_sent, entries_facts) turn)
          | inr differs ↦ rw (other_investor investor firm differs entries)
              (turn_none config now investor)
        ];
      }

      -- messages that show nothing
      abbrev pub ArePlain : List OutMessage → Type 0
      ArePlain messages = Every (λ message. shows message ≡ false) messages

      pub plain_says : (messages : List OutMessage) → ArePlain messages → Every Says messages
      plain_says [] plain = tt
      plain_says (message ∷ messages) plain = (
        λ number moment. plain_to_investor (ShowsWhatWasQuoted config now firm)
            (head_of market number moment) message plain.0,
        plain_says messages plain.1,
      )

      -- facts of which none says that something was accepted or shown
      abbrev pub IsPlain : InvestorFact → Type 0
      IsPlain (Asked request) = ⊥
      IsPlain (Offered shown) = ⊥
      IsPlain fact = Unit {0}

      plain_ok : (some : List InvestorFact) → Every IsPlain some
          → Every (λ fact. InvestorOk config now firm (AtDesk fact)) some
      plain_ok [] plain = tt
      plain_ok (Asked request ∷ some) plain = absurd plain.0
      plain_ok (Offered shown ∷ some) plain = absurd plain.0
      plain_ok (fact ∷ some) plain = (tt, plain_ok some plain.1)

      plain_asked : (some : List InvestorFact) → Every IsPlain some → asked_of some ≡ []
      plain_asked [] plain = refl
      plain_asked (Asked request ∷ some) plain = absurd plain.0
      plain_asked (Offered shown ∷ some) plain = absurd plain.0
      plain_asked (fact ∷ some) plain = plain_asked some plain.1
          -- and in turn nothing is shown

      pub plain_turn : (number moment : ℕ) (messages : List OutMessage) → ArePlain messages
          → AreShownInTurn config now firm (written_from market number moment messages) []
      plain_turn number moment [] plain = turn_none config now firm
      plain_turn number moment (message ∷ messages) plain =
          let rest = plain_turn (number + 1) moment messages plain.1 in
          record {
            beside = None ∷ rest.beside;
            each = (plain_shows_none (head_of market number moment) message plain.0, rest.each);
            are_all = rest.are_all;
          }

      plain_offers : (some : List InvestorFact) → Every IsPlain some → offers_of some ≡ []
      plain_offers [] plain = refl
      plain_offers (Asked request ∷ some) plain = absurd plain.0
      plain_offers (Offered shown ∷ some) plain = absurd plain.0
      plain_offers (fact ∷ some) plain = plain_offers some plain.1

      pub plain_brings : Every IsPlain happened → ArePlain (event_messages market book more)
          → Every (DutyOk config now by) duties → Brings config facts by effect
      plain_brings stand plain left =
          market_brings (plain_ok happened stand) (plain_says (event_messages market book more) plain)
          (rw (plain_asked happened stand) tt)
          (rw (plain_offers happened stand)
          (plain_turn first (moment_of more) (event_messages market book more) plain)) left
