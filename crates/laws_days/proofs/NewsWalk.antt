-- News at an investor's desk: that a quote is gone, that a dealer declined, that its request expired.
-- It is no message of the investor, no quote and no reply. Whoever shows something of each fact that
-- news may add, or of each message that it may say, has shown it of all news.
use Rattle.std.proofs.Common.{◌≡◌, ℕ, List, [], ◌∷◌, filter_map, Option, Some, None, option_map}
use Rattle.std.proofs.Common.{inl, inr, refl}
use Rattle.std.specs.Option.{option_to_list}
use Rattle.std.proofs.lemmas.Bool.{cases_Bool}
use Rattle.market_terms.specs.declared.closes.Reply.{Reply}
use Rattle.market_terms.specs.declared.duties.Duty.{Duty}
use Rattle.market_terms.specs.declared.duties.Duty.TheVariants as duty
use Rattle.market_terms.specs.declared.rooms.Offer.{Offer}
use Rattle.market_terms.specs.declared.rooms.ResponseRef.{ResponseRef}
use Rattle.quote_messages.specs.declared.out_messages.OutMessage.{OutMessage}
use Rattle.quote_messages.specs.declared.out_messages.OutMessage.TheVariants as out
use Rattle.venue_rows.specs.Rows.{Configuration, investor_numbered}
use Rattle.venue_rows.specs.declared.investor_rows.InvestorRow.{InvestorRow}
use Rattle.investor_desk.specs.InvestorFacts.{Closed, Gone, InvestorBook, InvestorFact, Offered}
use Rattle.investor_desk.specs.InvestorFacts.{StandingRequest, is_open, offer_of_dealer}
use Rattle.investor_desk.specs.InvestorFacts.{offer_with_word, open_request, request_numbered}
use Rattle.investor_desk.specs.InvestorFacts.{while_open}
use Rattle.investor_desk.specs.InvestorOutput.{answer_facts, close_by_answer, closed_facts}
use Rattle.investor_desk.specs.InvestorOutput.{decline_messages, event_facts, event_messages}
use Rattle.investor_desk.specs.InvestorOutput.{expiry_facts, expiry_messages, gone_facts}
use Rattle.investor_desk.specs.InvestorOutput.{gone_message, next_offer, offer_facts, refusal_of}
use Rattle.investor_desk.specs.InvestorOutput.{withdrawal_facts, withdrawal_messages}
use Rattle.investor_desk.specs.InvestorRules.{InvestorMarket}
use Rattle.investor_desk.specs.declared.events.InvestorEvent.{InvestorEvent}
use Rattle.investor_desk.specs.declared.events.InvestorEvent.TheVariants as at_investor
use Rattle.investor_desk.specs.declared.standing.RequestClose.{RequestClose}
use Rattle.investor_desk.specs.declared.standing.RequestClose.TheVariants as close
use Rattle.investor_desk.specs.declared.standing.ShownOffer.{ShownOffer}
use Rattle.step_replay.specs.EachLemmas.{every_both}
use Rattle.step_replay.specs.Lists.{Every}
use Rattle.laws_days.specs.DutyWalk.{InvestorMay}

-- an event that is news
abbrev pub IsNews : InvestorEvent → Type 0
IsNews (at_investor.Received moment bytes) = ⊥
IsNews (at_investor.QuoteCame request offer moment) = ⊥
IsNews (at_investor.Answered request response reply moment) = ⊥
IsNews other = Unit {0}

-- a duty that brings an investor no more than news
abbrev pub BringsNews : Duty → Type 0
BringsNews (duty.Relay room offer moment) = ⊥
BringsNews (duty.Answer room response reply moment) = ⊥
BringsNews other = Unit {0}

-- what is so of news is so of what such a duty may bring
pub any_news : (Has : ℕ → InvestorRow → InvestorEvent → Type 0) (config : Configuration) (d : Duty)
    → BringsNews d → ((number : ℕ) (row : InvestorRow) → investor_numbered config number ≡ Some row
    → (event : InvestorEvent) → IsNews event → Has number row event) → InvestorMay Has config d
any_news Has config (duty.Relay room offer moment) news each = absurd news
any_news Has config (duty.Gone room word moment) news each =
    λ row found. each room.investor row found _ tt
any_news Has config (duty.Declined room moment) news each =
    λ number dealer is row found. each room.investor row found _ tt
any_news Has config (duty.Answer room response reply moment) news each = absurd news
any_news Has config (duty.Close room moment) news each =
    λ row found. each room.investor row found _ tt
any_news Has config other news each = tt

-- items of which none gives anything
pub none_given : {A B : Type 0} (gives : A → Option B) (xs : List A)
    → Every (λ x. gives x ≡ None) xs → filter_map gives xs ≡ []
none_given gives [] none = refl
none_given gives (x ∷ xs) none = rw (none.0) (none_given gives xs none.1)

-- What an event adds, that is no message of the investor.

module _ (P : InvestorFact → Type 0) where
  gone_adds : (request : ℕ) → ((quote : ℕ) → P (Gone request quote)) → (found : Option ShownOffer)
      → Every P (gone_facts request found)
  gone_adds request gone None = tt
  gone_adds request gone (Some shown) = (gone shown.number, tt)

  -- a quote, and that the one which it replaces is gone
  pub offer_adds : (book : InvestorBook) (request : ℕ) (offer : Offer)
      → ((quote : ℕ) → P (Gone request quote)) → P (Offered (next_offer book request offer))
      → (found : Option StandingRequest) → Every P (offer_facts book request offer found)
  offer_adds book request offer gone shown None = tt
  offer_adds book request offer gone shown (Some own) =
      every_both P (gone_facts request (offer_of_dealer own offer.dealer))
      (Offered (next_offer book request offer) ∷ [])
      (gone_adds request gone (offer_of_dealer own offer.dealer)) (shown, tt)

  -- a reply
  pub reply_adds : (book : InvestorBook) (request : ℕ) (response : ResponseRef) (reply : Reply)
      → ((how : RequestClose) → P (Closed request how)) → (found : Option StandingRequest)
      → Every P (answer_facts book request response reply found)
  reply_adds book request response reply closed None = tt
  reply_adds book request response reply closed (Some own) =
      by_close (close_by_answer book response (refusal_of reply))
    where
      by_close : (found : Option RequestClose) → Every P (closed_facts request found)
      by_close None = tt
      by_close (Some how) = (closed how, tt)

  withdrawal_adds : (request word : ℕ) → ((quote : ℕ) → P (Gone request quote))
      → (found : Option StandingRequest) → Every P (withdrawal_facts request word found)
  withdrawal_adds request word gone None = tt
  withdrawal_adds request word gone (Some own) =
      gone_adds request gone (offer_with_word own word)

  expiry_adds : (request : ℕ) → P (Closed request close.Expired)
      → (found : Option StandingRequest) → Every P (expiry_facts request found)
  expiry_adds request expired None = tt
  expiry_adds request expired (Some own) = (expired, tt)

  -- news
  pub news_adds : (market : InvestorMarket) (book : InvestorBook) (event : InvestorEvent)
      → IsNews event → ((request word moment : ℕ)
      → event ≡ at_investor.QuoteGone request word moment → (quote : ℕ) → P (Gone request quote))
      → ((request : ℕ) → P (Closed request close.Expired)) → Every P (event_facts market book event)
  unfolding event_facts
  news_adds market book (at_investor.Received moment bytes) news gone expired = absurd news
  news_adds market book (at_investor.QuoteCame request offer moment) news gone expired =
      absurd news
  news_adds market book (at_investor.QuoteGone request word moment) news gone expired =
      withdrawal_adds request word (gone request word moment refl) (open_request book request)
  news_adds market book (at_investor.DealerDeclined request dealer moment) news gone expired = tt
  news_adds market book (at_investor.Answered request response reply moment) news gone expired =
      absurd news
  news_adds market book (at_investor.Closed request moment) news gone expired =
      expiry_adds request (expired request) (request_numbered book request)

-- What news says, of a request that stands at the desk.

-- a request that is open is the accepted one with its number
pub while_found : (found : Option StandingRequest) (own : StandingRequest)
    → while_open found ≡ Some own → found ≡ Some own
while_found None own is = cc
while_found (Some other) own is = elim (cases_Bool (is_open other)) [
  | inl test ↦ rw test at is
  | inr fails ↦ cc (rw fails at is)
]

module _ (Q : OutMessage → Type 0) where
  pub gone_says : (own : StandingRequest) → ((shown : ShownOffer) → Q (gone_message own shown))
      → (found : Option ShownOffer)
      → Every Q (option_to_list (option_map (gone_message own) found))
  gone_says own gone None = tt
  gone_says own gone (Some shown) = (gone shown, tt)

  -- what is to be shown of a request
  pub record Says (event : InvestorEvent) (own : StandingRequest) : Type 0 where
    pub gone : (request word moment : ℕ) → event ≡ at_investor.QuoteGone request word moment
        → (shown : ShownOffer) → Q (gone_message own shown)
    pub declined : (request : ℕ) (dealer : List ℕ) (moment : ℕ)
        → event ≡ at_investor.DealerDeclined request dealer moment
        → Q (out.DealerDeclined own.request.id dealer)
    pub expired : Q (out.RequestExpired own.request.id)

  pub news_says : (market : InvestorMarket) (book : InvestorBook) (event : InvestorEvent)
      → IsNews event → ((request : ℕ) (own : StandingRequest)
      → request_numbered book request ≡ Some own → Says event own)
      → Every Q (event_messages market book event)
  unfolding event_messages
  news_says market book (at_investor.Received moment bytes) news says = absurd news
  news_says market book (at_investor.QuoteCame request offer moment) news says = absurd news
  news_says market book (at_investor.QuoteGone request word moment) news says =
      by_own (open_request book request) refl
    where
      by_own : (found : Option StandingRequest) → open_request book request ≡ found
          → Every Q (withdrawal_messages word found)
      by_own None is = tt
      by_own (Some own) is =
          gone_says own ((says request own (while_found (request_numbered book request) own is)).gone
          request word moment refl) (offer_with_word own word)
  news_says market book (at_investor.DealerDeclined request dealer moment) news says =
      by_own (open_request book request) refl
    where
      by_own : (found : Option StandingRequest) → open_request book request ≡ found
          → Every Q (decline_messages dealer found)
      by_own None is = tt
      by_own (Some own) is = (
        (says request own (while_found (request_numbered book request) own is)).declined request
            dealer moment refl,
        tt,
      )
  news_says market book (at_investor.Answered request response reply moment) news says =
      absurd news
  news_says market book (at_investor.Closed request moment) news says =
      by_own (request_numbered book request) refl
    where
      by_own : (found : Option StandingRequest) → request_numbered book request ≡ found
          → Every Q (expiry_messages found)
      by_own None is = tt
      by_own (Some own) is = ((says request own is).expired, tt)
