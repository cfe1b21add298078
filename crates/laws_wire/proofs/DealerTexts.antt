-- What a dealer's desk sends: the texts and moments of its messages may be said.
use Rattle.std.proofs.Common.{◌≡◌, ℕ, ◌+◌, ◌<◌, Bool, false, List, [], ◌∷◌}
use Rattle.std.proofs.Common.{find, Option, Some, None, refl}
use Rattle.std.proofs.Common.{option_map}
use Rattle.std.proofs.Common.{is_some, is_none}
use Rattle.std.proofs.lemmas.Bool.{cond_both}
use Rattle.fix_fields.specs.declared.limits.TheConstants.{A_DAY}
use Rattle.market_terms.specs.Checks.{first_refusal}
use Rattle.market_terms.specs.declared.closes.Close.{Close}
use Rattle.quote_messages.specs.Arrivals.{dealer_arrival}
use Rattle.quote_messages.specs.declared.arrivals.Arrival.{Arrival}
use Rattle.quote_messages.specs.declared.arrivals.Arrival.TheVariants as arrival
use Rattle.quote_messages.specs.declared.out_messages.OutMessage.{OutMessage}
use Rattle.quote_messages.specs.declared.quotes.CancelScope.{CancelScope}
use Rattle.quote_messages.specs.declared.quotes.CancelScope.TheVariants as cancels
use Rattle.quote_messages.specs.declared.quotes.DealerMessage.{DealerMessage}
use Rattle.quote_messages.specs.declared.quotes.DealerMessage.TheVariants as message
use Rattle.quote_messages.specs.declared.quotes.Quote.{Quote}
use Rattle.quote_word.specs.declared.settled.Settled.{Settled}
use Rattle.quote_word.specs.declared.settled.Settled.TheVariants as settled
use Rattle.venue_rows.specs.declared.dealer_rows.DealerRow.{DealerRow}
use Rattle.dealer_desk.specs.DealerFacts.{Came, DealerBook, DealerFact, Declined, Dropped, Late}
use Rattle.dealer_desk.specs.DealerFacts.{Quoted, Shown, Told, Withdrawn, book_of, expected_number}
use Rattle.dealer_desk.specs.DealerFacts.{live_quote_on, number_to_drop, quote_to_drop}
use Rattle.dealer_desk.specs.DealerFacts.{quote_with_id, quotes_accepted}
use Rattle.dealer_desk.specs.DealerFacts.{request_numbered, requests_from, standings}
use Rattle.dealer_desk.specs.DealerOutput.{answer_facts, closable, drop_message}
use Rattle.dealer_desk.specs.DealerOutput.{event_facts, event_message, goes_through, notice_of}
use Rattle.dealer_desk.specs.DealerOutput.{quoted_price, settled_facts, untold, verdict_facts}
use Rattle.dealer_desk.specs.DealerOutput.{verdict_message}
use Rattle.dealer_desk.specs.DealerRules.{arrival_verdict, cancel_answer, cancel_checks, cancel_of}
use Rattle.dealer_desk.specs.DealerRules.{cancel_verdict, dealer_verdict, decline_answer}
use Rattle.dealer_desk.specs.DealerRules.{decline_verdict, quote_answer, quote_verdict}
use Rattle.dealer_desk.specs.declared.events.DealerEvent.{DealerEvent}
use Rattle.dealer_desk.specs.declared.events.DealerEvent.TheVariants as event
use Rattle.dealer_desk.specs.declared.refusals.CancelRefusal.{CancelRefusal}
use Rattle.dealer_desk.specs.declared.refusals.DeclineRefusal.{DeclineRefusal}
use Rattle.dealer_desk.specs.declared.refusals.QuoteRefusal.{QuoteRefusal}
use Rattle.dealer_desk.specs.declared.standing.StandingQuote.{StandingQuote}
use Rattle.dealer_desk.specs.declared.standing.StandingRequest.{StandingRequest}
use Rattle.dealer_desk.specs.declared.standing.Withdrawal.{Withdrawal}
use Rattle.dealer_desk.specs.declared.verdicts.DealerVerdict.{DealerVerdict}
use Rattle.dealer_desk.specs.declared.verdicts.DealerVerdict.TheVariants as verdict
use Rattle.step_replay.specs.EachLemmas.{every_both}
use Rattle.step_replay.specs.Lists.{Every}
use Rattle.laws_wire.proofs.ArrivalTexts.{ArrivalGiven, DealerSaid, ScopeGiven, dealer_came}
use Rattle.laws_wire.proofs.FieldValues.{IsGiven, MayBeGiven}
use Rattle.laws_wire.proofs.MessageFields.{AskGiven, IfMoment, MessageGiven, QuoteGiven}
use Rattle.laws_wire.proofs.MessageFields.{RejectGiven}
use Rattle.laws_wire.proofs.MessageFields.{has_reason}

-- Options.

abbrev pub IfThere : {A : Type 0} → (A → Type 0) → Option A → Type 0
IfThere P None = Unit {0}
IfThere P (Some x) = P x

pub found_there : {A : Type 0} (P : A → Type 0) (test : A → Bool) (xs : List A) → Every P xs
    → IfThere P (find test xs)
found_there P test [] every = tt
found_there P test (x ∷ xs) every =
    cond_both (test x) (Some x) (find test xs) (IfThere P) (λ is. every.0)
    (λ isnt. found_there P test xs every.1)

-- Verdicts.

abbrev pub VerdictGiven : (ℕ → Type 0) → DealerVerdict → Type 0
VerdictGiven D verdict.Dropped = Unit {0}
VerdictGiven D (verdict.OutOfSequence reject) = RejectGiven reject
VerdictGiven D (verdict.Rejected reject) = RejectGiven reject
VerdictGiven D (verdict.QuoteRefused request id refusal) = IsGiven request × IsGiven id
VerdictGiven D (verdict.CancelRefused id refusal) = MayBeGiven id
VerdictGiven D (verdict.DeclineRefused request refusal) = IsGiven request
VerdictGiven D (verdict.QuoteAccepted request id quote replaced) =
    IsGiven request × IsGiven id × IsGiven quote.id × IfMoment D quote.valid_until
    × D quote.moment
VerdictGiven D (verdict.CancelAccepted id quote request) = IsGiven id
VerdictGiven D (verdict.DropsFollow last) = Unit {0}
VerdictGiven D (verdict.DeclineAccepted request number) = IsGiven request

module _ (D : ℕ → Type 0) (of_day : (n : ℕ) → n < A_DAY → D n) where
  quote_given : (book : DealerBook) (moment : ℕ) (quote : Quote) (request : Option StandingRequest)
      (refusal : Option QuoteRefusal) → D moment → DealerSaid D (message.Quote quote)
      → VerdictGiven D (quote_answer book moment quote request refusal)
  quote_given book moment quote request (Some refused) day said = (said.1, said.0)
  quote_given book moment quote None None day said = (said.1, said.0)
  quote_given book moment quote (Some request) None day said =
      (said.1, said.0, said.0, said.2, day)

  cancel_answered : (id : List ℕ) (own : StandingQuote) (refusal : Option CancelRefusal)
      → IsGiven id → VerdictGiven D (cancel_answer id own refusal)
  cancel_answered id own (Some refused) given = given
  cancel_answered id own None given = given

  found_cancel : (id : List ℕ) (own : Option StandingQuote) → IsGiven id
      → VerdictGiven D (cancel_of id own)
  found_cancel id None given = given
  found_cancel id (Some own) given =
      cancel_answered id own (first_refusal (cancel_checks own)) given

  cancel_given : (book : DealerBook) (scope : CancelScope) → ScopeGiven scope
      → VerdictGiven D (cancel_verdict book scope)
  unfolding cancel_verdict
  cancel_given book (cancels.One id) given = found_cancel id (quote_with_id book id) given
  cancel_given book (cancels.All id) given =
      cond_both (is_none (quote_to_drop book (quotes_accepted book))) _ _ (VerdictGiven D)
      (λ none. given) (λ some. tt)
  cancel_given book (cancels.Other cancel_type id) given = given

  decline_given : (name : List ℕ) (request : Option StandingRequest)
      (refusal : Option DeclineRefusal) → IsGiven name
      → VerdictGiven D (decline_answer name request refusal)
  decline_given name request (Some refused) given = given
  decline_given name None None given = given
  decline_given name (Some request) None given = given

  came_given : (row : DealerRow) (book : DealerBook) (moment : ℕ) (came : Arrival DealerMessage)
      → D moment → ArrivalGiven (DealerSaid D) came
      → VerdictGiven D (arrival_verdict row book moment came)
  unfolding quote_verdict decline_verdict
  came_given row book moment arrival.Dropped day said = tt
  came_given row book moment (arrival.OutOfSequence reject) day said = said
  came_given row book moment (arrival.Rejected reject) day said = said
  came_given row book moment (arrival.Taken (message.Quote quote)) day said =
      quote_given book moment quote _ _ day said
  came_given row book moment (arrival.Taken (message.Cancel cancel)) day said =
      cancel_given book cancel.scope said
  came_given row book moment (arrival.Taken (message.Decline decline)) day said =
      decline_given decline.request _ _ said

  pub verdict_given : (date : List ℕ) (row : DealerRow) (book : DealerBook) (moment : ℕ)
      (bytes : List ℕ) → D moment → VerdictGiven D (dealer_verdict date row book moment bytes)
  unfolding dealer_verdict
  verdict_given date row book moment bytes day =
      came_given row book moment (dealer_arrival date row (expected_number book) bytes) day
      (dealer_came D of_day date row (expected_number book) bytes)

-- Facts.

abbrev pub FactGiven : (ℕ → Type 0) → DealerFact → Type 0
FactGiven D (Came moment bytes used) = D moment
FactGiven D (Shown ask moment) = AskGiven D ask × D moment
FactGiven D (Quoted quote) = IsGiven quote.id
FactGiven D (Told request close moment) = D moment
FactGiven D (Dropped last moment) = D moment
FactGiven D other = Unit {0}

abbrev pub EventGiven : (ℕ → Type 0) → DealerEvent → Type 0
EventGiven D (event.Received moment bytes settlement) = D moment
EventGiven D (event.Shown room ask moment) = AskGiven D ask × D moment
EventGiven D (event.Told request close moment) = D moment
EventGiven D (event.Drop last moment settlement) = D moment

-- a message of a dealer: no room refuses it
abbrev pub MaySend : (ℕ → Type 0) → OutMessage → Type 0
MaySend D message = MessageGiven D message × (has_reason message ≡ false)

module _ (D : ℕ → Type 0) where
  quotes_given : (facts : List DealerFact) → Every (FactGiven D) facts
      → Every (λ (own : StandingQuote). IsGiven own.quote.id) (standings facts)
  quotes_given [] every = tt
  quotes_given (Quoted quote ∷ later) every = (every.0, quotes_given later every.1)
  quotes_given (Came moment bytes used ∷ later) every = quotes_given later every.1
  quotes_given (Shown ask moment ∷ later) every = quotes_given later every.1
  quotes_given (Withdrawn quote how ∷ later) every = quotes_given later every.1
  quotes_given (Late quote ∷ later) every = quotes_given later every.1
  quotes_given (Dropped last moment ∷ later) every = quotes_given later every.1
  quotes_given (Declined request ∷ later) every = quotes_given later every.1
  quotes_given (Told request close moment ∷ later) every = quotes_given later every.1

  asks_given : (first : ℕ) (facts : List DealerFact) → Every (FactGiven D) facts
      → Every (λ (own : StandingRequest). AskGiven D own.ask) (requests_from first facts)
  asks_given first [] every = tt
  asks_given first (Shown ask moment ∷ later) every =
      (every.0.0, asks_given (first + 1) later every.1)
  asks_given first (Quoted quote ∷ later) every = asks_given first later every.1
  asks_given first (Came moment bytes used ∷ later) every = asks_given first later every.1
  asks_given first (Withdrawn quote how ∷ later) every = asks_given first later every.1
  asks_given first (Late quote ∷ later) every = asks_given first later every.1
  asks_given first (Dropped last moment ∷ later) every = asks_given first later every.1
  asks_given first (Declined request ∷ later) every = asks_given first later every.1
  asks_given first (Told request close moment ∷ later) every = asks_given first later every.1

  -- What an event adds.

  answer_given : (quote : ℕ) (how : Withdrawal) (settlement : Option Settled)
      → Every (FactGiven D) (answer_facts quote how settlement)
  answer_given quote how (Some settled.Withdrawn) = (tt, tt)
  answer_given quote how (Some settled.Lifted) = (tt, tt)
  answer_given quote how None = tt

  settled_given : (quote : Option ℕ) (how : Withdrawal) (settlement : Option Settled)
      → Every (FactGiven D) (settled_facts quote how settlement)
  settled_given None how settlement = tt
  settled_given (Some quote) how settlement = answer_given quote how settlement

  verdict_adds : (v : DealerVerdict) (settlement : Option Settled) → VerdictGiven D v
      → Every (FactGiven D) (verdict_facts v settlement)
  verdict_adds (verdict.QuoteAccepted request id quote replaced) settlement given =
      every_both (FactGiven D) (settled_facts replaced _ settlement) _
      (settled_given replaced _ settlement)
      (cond_both (goes_through replaced settlement) (Quoted quote ∷ []) [] (Every (FactGiven D))
      (λ goes. (given.2, tt)) (λ stays. tt))
  verdict_adds (verdict.CancelAccepted id quote request) settlement given =
      answer_given quote _ settlement
  verdict_adds (verdict.DeclineAccepted request number) settlement given = (tt, tt)
  verdict_adds verdict.Dropped settlement given = tt
  verdict_adds (verdict.OutOfSequence reject) settlement given = tt
  verdict_adds (verdict.Rejected reject) settlement given = tt
  verdict_adds (verdict.QuoteRefused request id refusal) settlement given = tt
  verdict_adds (verdict.CancelRefused id refusal) settlement given = tt
  verdict_adds (verdict.DeclineRefused request refusal) settlement given = tt
  verdict_adds (verdict.DropsFollow last) settlement given = tt

  pub event_adds : (of_day : (n : ℕ) → n < A_DAY → D n) (date : List ℕ) (row : DealerRow)
      (book : DealerBook) (more : DealerEvent) → EventGiven D more
      → Every (FactGiven D) (event_facts date row book more)
  unfolding event_facts
  event_adds of_day date row book (event.Received moment bytes settlement) given = (
    given,
    verdict_adds (dealer_verdict date row book moment bytes) settlement
        (verdict_given D of_day date row book moment bytes given),
  )
  event_adds of_day date row book (event.Shown room ask moment) given = (given, tt)
  event_adds of_day date row book (event.Told request close moment) given =
      cond_both (is_some (closable book request)) (Told request close moment ∷ []) []
      (Every (FactGiven D)) (λ may. (given, tt)) (λ no. tt)
  event_adds of_day date row book (event.Drop last moment settlement) given =
      (given, settled_given (number_to_drop book last) _ settlement)

  -- What it sends.

  verdict_sends : (v : DealerVerdict) (settlement : Option Settled) → VerdictGiven D v
      → IfThere (MaySend D) (verdict_message v settlement)
  verdict_sends verdict.Dropped settlement given = tt
  verdict_sends (verdict.OutOfSequence reject) settlement given = (given, refl)
  verdict_sends (verdict.Rejected reject) settlement given = (given, refl)
  verdict_sends (verdict.QuoteRefused request id refusal) settlement given = (given, refl)
  verdict_sends (verdict.CancelRefused id refusal) settlement given = (given, refl)
  verdict_sends (verdict.DeclineRefused request refusal) settlement given = (given, refl)
  verdict_sends (verdict.QuoteAccepted request id quote replaced) settlement given =
      ((given.0, given.1), refl)
  verdict_sends (verdict.CancelAccepted id quote request) settlement given = (given, refl)
  verdict_sends (verdict.DropsFollow last) settlement given = tt
  verdict_sends (verdict.DeclineAccepted request number) settlement given = (given, refl)

  drop_sends : (settlement : Option Settled) (own : Option StandingQuote)
      → IfThere (λ (q : StandingQuote). IsGiven q.quote.id) own
      → IfThere (MaySend D) (option_map (drop_message settlement) own)
  drop_sends settlement None given = tt
  drop_sends settlement (Some own) given = (given, refl)

  price_given : (own : Option StandingQuote) → IfThere (λ (q : StandingQuote). IsGiven q.quote.id)
      own
      → QuoteGiven (option_map quoted_price own)
  price_given None given = tt
  price_given (Some own) given = given

  untold_given : (request : Option StandingRequest)
      → IfThere (λ (r : StandingRequest). AskGiven D r.ask) request
      → IfThere (λ (r : StandingRequest). AskGiven D r.ask) (untold request)
  untold_given None given = tt
  untold_given (Some request) given =
      cond_both request.is_told None (Some request)
      (IfThere (λ (r : StandingRequest). AskGiven D r.ask))
      (λ told. tt) (λ stands. given)

  module _ (facts : List DealerFact) (every : Every (FactGiven D) facts) where
    told_sends : (close : Close) (request : Option StandingRequest)
        → IfThere (λ (r : StandingRequest). AskGiven D r.ask) request
        → IfThere (MaySend D) (option_map (notice_of (book_of facts) close) request)
    unfolding live_quote_on
    told_sends close None given = tt
    told_sends close (Some own) given = (
      (
        given,
        price_given (live_quote_on (book_of facts) own.number)
            (found_there (λ (q : StandingQuote). IsGiven q.quote.id) _ (standings facts)
            (quotes_given facts every)),
      ),
      refl,
    )

    pub event_sends : (of_day : (n : ℕ) → n < A_DAY → D n) (date : List ℕ) (row : DealerRow)
        (more : DealerEvent) → EventGiven D more
        → IfThere (MaySend D) (event_message date row (book_of facts) more)
    unfolding event_message closable request_numbered quote_to_drop
    event_sends of_day date row (event.Received moment bytes settlement) given =
        verdict_sends (dealer_verdict date row (book_of facts) moment bytes) settlement
        (verdict_given D of_day date row (book_of facts) moment bytes given)
    event_sends of_day date row (event.Shown room ask moment) given = (given.0, refl)
    event_sends of_day date row (event.Told request close moment) given =
        told_sends close (closable (book_of facts) request)
        (untold_given (request_numbered (book_of facts) request)
        (found_there (λ (r : StandingRequest). AskGiven D r.ask) _ (requests_from 1 facts)
        (asks_given 1 facts every)))
    event_sends of_day date row (event.Drop last moment settlement) given =
        drop_sends settlement (quote_to_drop (book_of facts) last)
        (found_there (λ (q : StandingQuote). IsGiven q.quote.id) _ (standings facts)
        (quotes_given facts every))
