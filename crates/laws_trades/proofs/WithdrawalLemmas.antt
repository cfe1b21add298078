-- A quote whose withdrawal is confirmed is lifted by no hit.
use Rattle.std.proofs.Common.{◌≡◌, ◌&&◌, ℕ, Bool, true, false, List, [], ◌∷◌, ◌++◌, find}
use Rattle.std.proofs.Common.{Option, Some, None, option_map, refl, sym, ap, ◌∙◌, subst}
use Rattle.std.proofs.Common.{inl, inr, if◌then◌else◌, ◌||◌}
use Rattle.std.specs.List.{list_any}
use Rattle.std.specs.Option.{option_to_list}
use Rattle.std.specs.Prelude.{is_none}
use Rattle.std.proofs.lemmas.Bool.{cases_Bool, eq-eqb, false≢true}
use Rattle.std.proofs.lemmas.List.{append-nil, append_assoc}
use Rattle.std.proofs.lemmas.List.Elements.{filter_map-append}
use Rattle.std.proofs.lemmas.Option.{same_Some}
use Rattle.std.proofs.lemmas.Slice.Eq.{bytes_eq-Decides}
use Rattle.market_terms.specs.Checks.{first_refusal}
use Rattle.market_terms.specs.declared.closes.Close.{Close}
use Rattle.quote_messages.specs.Arrivals.{dealer_arrival}
use Rattle.quote_messages.specs.declared.arrivals.Arrival.{Arrival}
use Rattle.quote_messages.specs.declared.arrivals.Arrival.TheVariants as arrival
use Rattle.quote_messages.specs.declared.out_messages.CancelStatus.{CancelStatus}
use Rattle.quote_messages.specs.declared.out_messages.CancelStatus.TheVariants as status
use Rattle.quote_messages.specs.declared.out_messages.OutMessage.{OutMessage}
use Rattle.quote_messages.specs.declared.out_messages.OutMessage.TheVariants as out
use Rattle.quote_messages.specs.declared.quotes.CancelScope.{CancelScope}
use Rattle.quote_messages.specs.declared.quotes.CancelScope.TheVariants as cancels
use Rattle.quote_messages.specs.declared.quotes.DealerMessage.{DealerMessage}
use Rattle.quote_messages.specs.declared.quotes.DealerMessage.TheVariants as message
use Rattle.quote_messages.specs.declared.quotes.Quote.{Quote}
use Rattle.quote_word.specs.declared.settled.Settled.{Settled}
use Rattle.quote_word.specs.declared.settled.Settled.TheVariants as settled
use Rattle.venue_rows.specs.Rows.{Configuration, dealer_numbered}
use Rattle.venue_rows.specs.Texts.{same_text}
use Rattle.venue_rows.specs.declared.dealer_rows.DealerRow.{DealerRow}
use Rattle.dealer_desk.specs.DealerFacts.{Came, DealerBook, DealerFact, Dropped, Quoted, Withdrawn}
use Rattle.dealer_desk.specs.DealerFacts.{book_of, expected_number, is_live_on, live_number_on}
use Rattle.dealer_desk.specs.DealerFacts.{live_quote_on, quote_to_drop, quote_with_id}
use Rattle.dealer_desk.specs.DealerFacts.{quotes_accepted, request_named, standings}
use Rattle.dealer_desk.specs.DealerOutput.{closable, drop_message, event_facts}
use Rattle.dealer_desk.specs.DealerOutput.{event_message, moment_of, next_message}
use Rattle.dealer_desk.specs.DealerOutput.{notice_of, settled_facts, uses_number}
use Rattle.dealer_desk.specs.DealerOutput.{verdict_facts, verdict_message}
use Rattle.dealer_desk.specs.DealerRules.{arrival_verdict, cancel_answer, cancel_checks, cancel_of}
use Rattle.dealer_desk.specs.DealerRules.{cancel_verdict, dealer_verdict, decline_answer}
use Rattle.dealer_desk.specs.DealerRules.{decline_checks, decline_verdict, quote_answer}
use Rattle.dealer_desk.specs.DealerRules.{quote_refusal, quote_verdict}
use Rattle.dealer_desk.specs.DeskLaws.{withdraws}
use Rattle.dealer_desk.specs.Refusals.{refused_cancel}
use Rattle.dealer_desk.specs.declared.accepted.AcceptedQuote.{AcceptedQuote}
use Rattle.dealer_desk.specs.declared.events.DealerEvent.{DealerEvent}
use Rattle.dealer_desk.specs.declared.events.DealerEvent.TheVariants as at_desk
use Rattle.dealer_desk.specs.declared.refusals.CancelRefusal.{CancelRefusal}
use Rattle.dealer_desk.specs.declared.refusals.CancelRefusal.TheVariants as no_cancel
use Rattle.dealer_desk.specs.declared.refusals.DeclineRefusal.{DeclineRefusal}
use Rattle.dealer_desk.specs.declared.refusals.QuoteRefusal.{QuoteRefusal}
use Rattle.dealer_desk.specs.declared.standing.StandingQuote.{StandingQuote}
use Rattle.dealer_desk.specs.declared.standing.StandingRequest.{StandingRequest}
use Rattle.dealer_desk.specs.declared.standing.Withdrawal.{Withdrawal}
use Rattle.dealer_desk.specs.declared.standing.Withdrawal.TheVariants as by_way
use Rattle.dealer_desk.specs.declared.verdicts.DealerVerdict.{DealerVerdict}
use Rattle.dealer_desk.specs.declared.verdicts.DealerVerdict.TheVariants as verdict
use Rattle.step_replay.specs.AuditTrail.{audit_trail, sent_to}
use Rattle.step_replay.specs.DealerGrowth.{facts_grown, sent_grown}
use Rattle.step_replay.specs.DealerTrail.{DealerEntry, Lifted, book_by, entries_of, facts_of, fact_in}
use Rattle.step_replay.specs.DealerTrail.{message_by, message_in, sent_by, was_lifted, was_withdrawn}
use Rattle.step_replay.specs.EachLemmas.{every_both, every_weaker}
use Rattle.step_replay.specs.GrowthLemmas.{all_in, in_left, in_right}
use Rattle.step_replay.specs.Lists.{Every, In}
use Rattle.step_replay.specs.StepLemmas.{kept_by_all}
use Rattle.step_replay.specs.TrailKept.{IsKept}
use Rattle.step_replay.specs.VenueFacts.{Fact, of_dealer}
use Rattle.step_replay.specs.declared.steps.Step.{Step}
use Rattle.laws_shown.specs.ShownQuotes.{AreOfTheirOwn}
use Rattle.laws_trades.specs.Trades.{Trade}
use Rattle.laws_trades.specs.Withdrawals.{Confirms, IsSaid}

-- Lists.

-- what is found stands in the list, and passes the test
pub found : {A : Type 0} (test : A → Bool) (xs : List A) (x : A) → find test xs ≡ Some x
    → In x xs × (test x ≡ true)
found test [] x is = cc
found test (y ∷ xs) x is = elim (cases_Bool (test y)) [
  | inl passes ↦
      (let same = same_Some y x (rw passes at is) in
      (inl same, ap test (sym same) ∙ passes))
  | inr fails ↦ (let rest = found test xs x (rw fails at is) in (inr rest.0, rest.1))
]

-- where two items stand
pub data Places {A : Type 0} (x y : A) (xs : List A) : Type 0 where
  AtOne : x ≡ y → Places x y xs
  Before : (b m a : List A) → xs ≡ b ++ x ∷ m ++ y ∷ a → Places x y xs
  Behind : (b m a : List A) → xs ≡ b ++ y ∷ m ++ x ∷ a → Places x y xs

pub split : {A : Type 0} (x : A) (xs : List A) → In x xs → (b : List A) × (a : List A) × (xs ≡ b ++ x ∷ a)
split x [] is = absurd is
split x (z ∷ xs) (inl is) = ([], xs, ap (λ w. w ∷ xs) is)
split x (z ∷ xs) (inr is) = (let rest = split x xs is in (z ∷ rest.0, rest.1, ap (λ l. z ∷ l) rest.2))

further : {A : Type 0} (x y z : A) (xs : List A) → Places x y xs → Places x y (z ∷ xs)
further x y z xs (AtOne is) = AtOne is
further x y z xs (Before b m a is) = Before (z ∷ b) m a (ap (λ l. z ∷ l) is)
further x y z xs (Behind b m a is) = Behind (z ∷ b) m a (ap (λ l. z ∷ l) is)

pub places : {A : Type 0} (x y : A) (xs : List A) → In x xs → In y xs → Places x y xs
places x y [] is also = absurd is
places x y (z ∷ xs) (inl is) (inl also) = AtOne (sym is ∙ also)
places x y (z ∷ xs) (inl is) (inr also) =
    (let rest = split y xs also in
    Before [] rest.0 rest.1 (ap (λ w. w ∷ xs) is ∙ ap (λ l. x ∷ l) rest.2))
places x y (z ∷ xs) (inr is) (inl also) =
    (let rest = split x xs is in
    Behind [] rest.0 rest.1 (ap (λ w. w ∷ xs) also ∙ ap (λ l. y ∷ l) rest.2))
places x y (z ∷ xs) (inr is) (inr also) = further x y z xs (places x y xs is also)

-- Quotes of a desk.

quoted_one : (a b : AcceptedQuote) → ◌≡◌ {A = DealerFact} (Quoted a) (Quoted b) → a ≡ b
quoted_one a b is = cc

-- two quotes with one identifier are one
one_quote : (facts : List Fact) (dealer : ℕ) → AreOfTheirOwn facts dealer → (a b : AcceptedQuote)
    → In (Quoted a) (facts_of (of_dealer dealer facts))
    → In (Quoted b) (facts_of (of_dealer dealer facts)) → a.id ≡ b.id → a ≡ b
one_quote facts dealer own a b is also same =
    elim (places (Quoted a) (Quoted b) (facts_of (of_dealer dealer facts)) is also) [
      | AtOne at ↦ quoted_one a b at
      | Before before between after at ↦ absurd (own before between after a b at same)
      | Behind before between after at ↦ absurd (own before between after b a at (sym same))
    ]

pub standing_in : (own : StandingQuote) (facts : List DealerFact) → In own (standings facts)
    → In (Quoted own.quote) facts
standing_in own [] is = absurd is
standing_in own (Quoted quote ∷ facts) (inl is) =
    inl (ap (λ (s : StandingQuote). Quoted s.quote) is)
standing_in own (Quoted quote ∷ facts) (inr is) = inr (standing_in own facts is)
standing_in own (fact ∷ facts) is = inr (standing_in own facts is)

text_same : (a b : List ℕ) → same_text a b ≡ true → a ≡ b
text_same a b test = (bytes_eq-Decides a b).0 test

-- What a verdict says of the quote that it takes back.
module _ (facts : List DealerFact) where
  abbrev book : DealerBook
  book = book_of facts

  -- a cancel names the quote by its identifier, an accepted quote its request, and a cancel of all
  -- names each quote so far
  abbrev pub VerdictOk : DealerVerdict → Type 0
  VerdictOk (verdict.CancelAccepted id quote request) =
      (own : StandingQuote) × (quote_with_id book id ≡ Some own) × (own.quote.number ≡ quote)
  VerdictOk (verdict.QuoteAccepted name id quote replaced) =
      (shown : StandingRequest) × (request_named book name ≡ Some shown)
      × (replaced ≡ live_number_on book shown.number)
  VerdictOk (verdict.DropsFollow last) = last ≡ quotes_accepted book
  VerdictOk other = Unit {0}

  quoted_ok : (moment : ℕ) (quote : Quote) (request : Option StandingRequest)
      (refused : Option QuoteRefusal) → request_named book quote.request ≡ request
      → VerdictOk (quote_answer book moment quote request refused)
  quoted_ok moment quote request (Some refusal) is = tt
  quoted_ok moment quote None None is = tt
  quoted_ok moment quote (Some shown) None is = (shown, is, refl)

  answer_ok : (id : List ℕ) (own : StandingQuote) (refused : Option CancelRefusal)
      → quote_with_id book id ≡ Some own → VerdictOk (cancel_answer id own refused)
  answer_ok id own (Some refusal) is = tt
  answer_ok id own None is = (own, is, refl)

  found_ok : (id : List ℕ) (own : Option StandingQuote) → quote_with_id book id ≡ own
      → VerdictOk (cancel_of id own)
  found_ok id None is = tt
  found_ok id (Some own) is = answer_ok id own (first_refusal (cancel_checks own)) is

  all_ok : (id : Option (List ℕ)) (none : Bool)
      → VerdictOk (if none then verdict.CancelRefused id no_cancel.NothingToCancel
      else verdict.DropsFollow (quotes_accepted book))
  all_ok id true = tt
  all_ok id false = refl

  cancel_ok : (scope : CancelScope) → VerdictOk (cancel_verdict book scope)
  unfolding cancel_verdict
  cancel_ok (cancels.One id) = found_ok id (quote_with_id book id) refl
  cancel_ok (cancels.All id) = all_ok id (is_none (quote_to_drop book (quotes_accepted book)))
  cancel_ok (cancels.Other cancel_type id) = tt

  decline_ok : (name : List ℕ) (request : Option StandingRequest) (refused : Option DeclineRefusal)
      → VerdictOk (decline_answer name request refused)
  decline_ok name request (Some refusal) = tt
  decline_ok name None None = tt
  decline_ok name (Some request) None = tt

  arrival_ok : (row : DealerRow) (moment : ℕ) (came : Arrival DealerMessage)
      → VerdictOk (arrival_verdict row book moment came)
  unfolding quote_verdict decline_verdict
  arrival_ok row moment (arrival.Taken (message.Quote quote)) =
      quoted_ok moment quote (request_named book quote.request)
      (quote_refusal row book moment quote (request_named book quote.request)) refl
  arrival_ok row moment (arrival.Taken (message.Cancel cancel)) = cancel_ok cancel.scope
  arrival_ok row moment (arrival.Taken (message.Decline decline)) =
      decline_ok decline.request (request_named book decline.request)
      (first_refusal (decline_checks book (request_named book decline.request)))
  arrival_ok row moment other = tt

  pub verdict_ok : (date : List ℕ) (row : DealerRow) (moment : ℕ) (bytes : List ℕ)
      → VerdictOk (dealer_verdict date row book moment bytes)
  unfolding dealer_verdict
  verdict_ok date row moment bytes =
      arrival_ok row moment (dealer_arrival date row (expected_number book) bytes)

-- A confirmation stands beside the withdrawal.
module _ (stood : List DealerEntry) where
  -- a quote with the identifier of the one that is confirmed is withdrawn by these facts
  record Settles (quote : AcceptedQuote) (added : List DealerFact) : Type 0 where
    pub own : AcceptedQuote
    pub quoted : In (Quoted own) (facts_of stood)
    pub same : own.id ≡ quote.id
    pub how : Withdrawal
    pub withdrawn : In (Withdrawn own.number how) added

  -- what a message confirms is settled so
  abbrev IsBorne : Option OutMessage → List DealerFact → Type 0
  IsBorne None added = Unit {0}
  IsBorne (Some said) added = (quote : AcceptedQuote) → Confirms stood said quote → Settles quote added

  not_so : (quote : AcceptedQuote) (id : Option (List ℕ)) (told : CancelStatus)
      → (told ≡ status.Withdrawn → ⊥) → Confirms stood (out.CancelReport id told) quote → ⊥
  not_so quote None told isnt confirms = confirms
  not_so quote (Some id) status.Withdrawn isnt confirms = isnt refl
  not_so quote (Some id) status.Unknown isnt confirms = confirms
  not_so quote (Some id) (status.Refused reason) isnt confirms = confirms

  refused_not : (refusal : CancelRefusal) → refused_cancel refusal ≡ status.Withdrawn → ⊥
  refused_not no_cancel.UnknownCancelType is = cc
  refused_not no_cancel.UnknownQuote is = cc
  refused_not no_cancel.Withdrawn is = cc
  refused_not no_cancel.Closed is = cc
  refused_not no_cancel.Lifted is = cc
  refused_not no_cancel.NothingToCancel is = cc

  -- a quote that is found
  by_own : (own : StandingQuote) (added : List DealerFact) (how : Withdrawal)
      → In own (standings (facts_of stood)) → In (Withdrawn own.quote.number how) added
      → (quote : AcceptedQuote) → own.quote.id ≡ quote.id → Settles quote added
  by_own own added how there withdrawn quote same = record {
    own = own.quote;
    quoted = standing_in own (facts_of stood) there;
    same = same;
    how = how;
    withdrawn = withdrawn;
  }

  -- an accepted quote that replaces one
  replaced_borne : (name id : List ℕ) (accepted : AcceptedQuote) (old : Option ℕ)
      (settlement : Option Settled) (shown : StandingRequest)
      → request_named (book_by stood) name ≡ Some shown
      → old ≡ live_number_on (book_by stood) shown.number
      → IsBorne (verdict_message (verdict.QuoteAccepted name id accepted old) settlement)
      (verdict_facts (verdict.QuoteAccepted name id accepted old) settlement)
  unfolding live_quote_on
  replaced_borne name id accepted None settlement shown named old_is quote is =
      (let at : is.shown ≡ shown = same_Some is.shown shown (sym is.is_named ∙ named) in
      let live : live_number_on (book_by stood) shown.number ≡ Some is.own.quote.number =
      ap (λ (r : StandingRequest). live_number_on (book_by stood) r.number) (sym at)
      ∙ ap (option_map (λ (own : StandingQuote). own.quote.number)) is.is_live in
      cc)
  replaced_borne name id accepted (Some old) None shown named old_is quote is = absurd is
  replaced_borne name id accepted (Some old) (Some settled.Lifted) shown named old_is quote is = absurd is
  replaced_borne name id accepted (Some old) (Some settled.Withdrawn) shown named old_is quote is =
      (let at : is.shown ≡ shown = same_Some is.shown shown (sym is.is_named ∙ named) in
      let live : live_number_on (book_by stood) shown.number ≡ Some is.own.quote.number =
      ap (λ (r : StandingRequest). live_number_on (book_by stood) r.number) (sym at)
      ∙ ap (option_map (λ (own : StandingQuote). own.quote.number)) is.is_live in
      let number : old ≡ is.own.quote.number = same_Some old is.own.quote.number (old_is ∙ live) in
      by_own is.own (Withdrawn old by_way.Replacement ∷ Quoted accepted ∷ []) by_way.Replacement
      (found (is_live_on is.shown.number) (standings (facts_of stood)) is.own is.is_live).0
      (inl (ap (λ (n : ℕ). Withdrawn n by_way.Replacement) number)) quote
      (ap (λ (q : AcceptedQuote). q.id) is.is))

  cancel_borne : (id : List ℕ) (number request : ℕ) (settlement : Option Settled)
      (own : StandingQuote) → quote_with_id (book_by stood) id ≡ Some own → own.quote.number ≡ number
      → IsBorne (verdict_message (verdict.CancelAccepted id number request) settlement)
      (verdict_facts (verdict.CancelAccepted id number request) settlement)
  unfolding quote_with_id
  cancel_borne id number request None own there number_is quote is = absurd is
  cancel_borne id number request (Some settled.Lifted) own there number_is quote is = absurd is
  cancel_borne id number request (Some settled.Withdrawn) own there number_is quote is =
      (let at = found (λ (s : StandingQuote). same_text s.quote.id id) (standings (facts_of stood)) own there in
      by_own own (Withdrawn number by_way.Cancel ∷ []) by_way.Cancel at.0
      (inl (ap (λ (n : ℕ). Withdrawn n by_way.Cancel) (sym number_is))) quote
      (text_same own.quote.id id at.1 ∙ sym is))

  verdict_borne : (v : DealerVerdict) (settlement : Option Settled) → VerdictOk (facts_of stood) v
      → IsBorne (verdict_message v settlement) (verdict_facts v settlement)
  verdict_borne verdict.Dropped settlement ok = tt
  verdict_borne (verdict.OutOfSequence reject) settlement ok = λ quote is. absurd is
  verdict_borne (verdict.Rejected reject) settlement ok = λ quote is. absurd is
  verdict_borne (verdict.QuoteRefused request id refusal) settlement ok = λ quote is. absurd is
  verdict_borne (verdict.CancelRefused id refusal) settlement ok =
      λ quote is. absurd (not_so quote id (refused_cancel refusal) (refused_not refusal) is)
  verdict_borne (verdict.DeclineRefused request refusal) settlement ok = λ quote is. absurd is
  verdict_borne (verdict.QuoteAccepted name id accepted old) settlement ok =
      replaced_borne name id accepted old settlement ok.0 ok.1 ok.2
  verdict_borne (verdict.CancelAccepted id number request) settlement ok =
      cancel_borne id number request settlement ok.0 ok.1 ok.2
  verdict_borne (verdict.DropsFollow last) settlement ok = tt
  verdict_borne (verdict.DeclineAccepted request number) settlement ok = λ quote is. absurd is

  more_borne : (said : Option OutMessage) (fact : DealerFact) (added : List DealerFact)
      → IsBorne said added → IsBorne said (fact ∷ added)
  more_borne None fact added borne = tt
  more_borne (Some said) fact added borne = λ quote is.
      let so = borne quote is in
      record {
        own = so.own;
        quoted = so.quoted;
        same = so.same;
        how = so.how;
        withdrawn = inr so.withdrawn;
      }

  drop_borne : (last moment : ℕ) (settlement : Option Settled) (own : Option StandingQuote)
      → quote_to_drop (book_by stood) last ≡ own
      → IsBorne (option_map (drop_message settlement) own)
      (Dropped last moment ∷ settled_facts (option_map (λ (s : StandingQuote). s.quote.number) own) by_way.Cancel settlement)
  unfolding quote_to_drop
  drop_borne last moment settlement None is = tt
  drop_borne last moment None (Some own) is = λ quote so. absurd so
  drop_borne last moment (Some settled.Lifted) (Some own) is = λ quote so. absurd so
  drop_borne last moment (Some settled.Withdrawn) (Some own) is = λ quote so.
      by_own own (Dropped last moment ∷ Withdrawn own.quote.number by_way.Cancel ∷ []) by_way.Cancel
      (found _ (standings (facts_of stood)) own is).0 (inr (inl refl)) quote (sym so)

  told_borne : (close : Close) (request : Option StandingRequest) (added : List DealerFact)
      → IsBorne (option_map (notice_of (book_by stood) close) request) added
  told_borne close None added = tt
  told_borne close (Some request) added = λ quote is. absurd is

  event_borne : (date : List ℕ) (row : DealerRow) (event : DealerEvent)
      → IsBorne (event_message date row (book_by stood) event) (event_facts date row (book_by stood) event)
  unfolding event_message event_facts
  event_borne date row (at_desk.Received moment bytes settlement) =
      let v = dealer_verdict date row (book_by stood) moment bytes in
      more_borne (verdict_message v settlement) (Came moment bytes (uses_number v)) (verdict_facts v settlement)
      (verdict_borne v settlement (verdict_ok (facts_of stood) date row moment bytes))
  event_borne date row (at_desk.Shown room ask moment) = λ quote is. absurd is
  event_borne date row (at_desk.Told request close moment) =
      told_borne close (closable (book_by stood) request) _
  event_borne date row (at_desk.Drop last moment settlement) =
      drop_borne last moment settlement (quote_to_drop (book_by stood) last) refl

-- Each message is what an event says.

module _ (date : List ℕ) (row : DealerRow) where
  abbrev AreSaid : List DealerEntry → Type 0
  AreSaid trail = Every (IsSaid date row trail) (sent_by trail)

  later_said : (trail more : List DealerEntry) (bytes : List ℕ) → IsSaid date row trail bytes
      → IsSaid date row (trail ++ more) bytes
  later_said trail more bytes is = record {
    stood = is.stood;
    event = is.event;
    after = is.after ++ more;
    trail_is = ap (λ l. l ++ more) is.trail_is
        ∙ append_assoc (is.stood ++ entries_of date row is.stood is.event) is.after more;
    message = is.message;
    says = is.says;
    bytes_are = is.bytes_are;
  }

  -- by one event more
  event_said : (trail : List DealerEntry) (event : DealerEvent) → AreSaid trail
      → AreSaid (trail ++ entries_of date row trail event)
  event_said trail event before =
      let grown = trail ++ entries_of date row trail event in
      subst (Every (IsSaid date row grown)) (sym (sent_grown date row trail event))
      (every_both (IsSaid date row grown) (sent_by trail)
      (option_to_list (message_by date row trail event))
      (every_weaker (IsSaid date row trail) (IsSaid date row grown)
      (later_said trail (entries_of date row trail event)) (sent_by trail) before)
      (by_message (event_message date row (book_by trail) event) refl))
    where
      by_message : (said : Option OutMessage) → event_message date row (book_by trail) event ≡ said
          → Every (IsSaid date row (trail ++ entries_of date row trail event))
          (option_to_list (option_map (next_message date row (sent_by trail) (moment_of event)) said))
      by_message None is = tt
      by_message (Some said) is = (
        record {
          stood = trail;
          event = event;
          after = [];
          trail_is = sym (append-nil (trail ++ entries_of date row trail event));
          message = said;
          says = is;
          bytes_are = refl;
        },
        tt,
      )

  said_kept : IsKept date row AreSaid
  said_kept = record {
    own = λ trail moment bytes before. event_said trail _ before;
    drop = λ trail last moment before. event_said trail _ before;
    shown = λ trail room ask moment before. event_said trail (at_desk.Shown room ask moment) before;
    told = λ trail request close moment may before.
        event_said trail (at_desk.Told request close moment) before;
    lifted = λ trail quote within stays before.
        subst (Every (IsSaid date row (trail ++ Lifted quote ∷ [])))
        (sym (filter_map-append message_in trail (Lifted quote ∷ []) ∙ append-nil (sent_by trail)))
        (every_weaker (IsSaid date row trail) (IsSaid date row (trail ++ Lifted quote ∷ []))
        (later_said trail (Lifted quote ∷ [])) (sent_by trail) before);
  }

pub sent_said : (config : Configuration) (steps : List Step) (dealer : ℕ) (row : DealerRow) (bytes : List ℕ)
    → dealer_numbered config dealer ≡ Some row
    → In bytes (sent_to config dealer (audit_trail config steps))
    → IsSaid config.date row (of_dealer dealer (audit_trail config steps).facts) bytes
sent_said config steps dealer row bytes is there =
    let trail = of_dealer dealer (audit_trail config steps).facts in
    let own : sent_to config dealer (audit_trail config steps) ≡ sent_by trail = rw is refl in
    all_in (IsSaid config.date row trail) bytes (sent_by trail)
    (kept_by_all config dealer row is (AreSaid config.date row) (said_kept config.date row) tt steps)
    (subst (In bytes) own there)

-- What is confirmed is never lifted.

is_withdrawn : (number : ℕ) (how : Withdrawal) (facts : List DealerFact) → In (Withdrawn number how) facts
    → list_any (withdraws number) facts ≡ true
is_withdrawn number how [] is = absurd is
is_withdrawn number how (fact ∷ facts) (inl is) =
    ap (λ (f : DealerFact). list_any (withdraws number) (f ∷ facts)) is
    ∙ ap (λ (b : Bool). b || list_any (withdraws number) facts) (eq-eqb number number refl)
is_withdrawn number how (fact ∷ facts) (inr is) =
    or_right (withdraws number fact) (list_any (withdraws number) facts) (is_withdrawn number how facts is)
  where
    or_right : (a b : Bool) → b ≡ true → (a || b) ≡ true
    or_right true b is = refl
    or_right false b is = is

not_both : (a b : Bool) → (a && b) ≡ false → b ≡ true → a ≡ false
not_both true b both is = absurd (false≢true (sym both ∙ is))
not_both false b both is = refl

-- no quote of a dealer is both lifted and withdrawn
abbrev AreApart : List Fact → ℕ → Type 0
AreApart facts dealer = (quote : ℕ)
    → (was_lifted (of_dealer dealer facts) quote && was_withdrawn (of_dealer dealer facts) quote) ≡ false

pub never_lifted : (date : List ℕ) (row : DealerRow) (facts : List Fact) (dealer : ℕ)
    → AreApart facts dealer → AreOfTheirOwn facts dealer → (bytes : List ℕ)
    → (is : IsSaid date row (of_dealer dealer facts) bytes) → (quote : AcceptedQuote)
    → Confirms is.stood is.message quote → In (Quoted quote) (facts_of (of_dealer dealer facts))
    → was_lifted (of_dealer dealer facts) quote.number ≡ false
never_lifted date row facts dealer apart own bytes is quote confirms quoted =
    let trail = of_dealer dealer facts in
    let added = event_facts date row (book_by is.stood) is.event in
    let so : Settles is.stood quote added =
    subst (λ (m : Option OutMessage). IsBorne is.stood m added) is.says
    (event_borne is.stood date row is.event) quote confirms in
    let grown : facts_of trail ≡ facts_of is.stood ++ added ++ facts_of is.after =
    ap facts_of is.trail_is
    ∙ filter_map-append fact_in (is.stood ++ entries_of date row is.stood is.event) is.after
    ∙ ap (λ (l : List DealerFact). l ++ facts_of is.after) (facts_grown date row is.stood is.event) in
    let own_quoted : In (Quoted so.own) (facts_of trail) =
    subst (In (Quoted so.own)) (sym grown)
    (in_left (Quoted so.own) (facts_of is.stood ++ added) (facts_of is.after)
    (in_left (Quoted so.own) (facts_of is.stood) added so.quoted)) in
    let withdrawn : In (Withdrawn so.own.number so.how) (facts_of trail) =
    subst (In (Withdrawn so.own.number so.how)) (sym grown)
    (in_left (Withdrawn so.own.number so.how) (facts_of is.stood ++ added) (facts_of is.after)
    (in_right (Withdrawn so.own.number so.how) (facts_of is.stood) added so.withdrawn)) in
    let same : so.own ≡ quote = one_quote facts dealer own so.own quote own_quoted quoted so.same in
    ap (λ (q : AcceptedQuote). was_lifted trail q.number) (sym same)
    ∙ not_both (was_lifted trail so.own.number) (was_withdrawn trail so.own.number) (apart so.own.number)
    (is_withdrawn so.own.number so.how (facts_of trail) withdrawn)

-- nor traded
pub never_traded : (config : Configuration) (row : DealerRow) (facts : List Fact) (dealer : ℕ)
    → AreApart facts dealer → AreOfTheirOwn facts dealer → (bytes : List ℕ)
    → (is : IsSaid config.date row (of_dealer dealer facts) bytes) → (quote : AcceptedQuote)
    → Confirms is.stood is.message quote → In (Quoted quote) (facts_of (of_dealer dealer facts))
    → (trade : Trade config facts) → trade.deal.dealer ≡ dealer → trade.deal.quote.id ≡ quote.id → ⊥
never_traded config row facts dealer apart own bytes is quote confirms quoted trade at id =
    let there : In (Quoted trade.deal.quote) (facts_of (of_dealer dealer facts)) =
    subst (λ (d : ℕ). In (Quoted trade.deal.quote) (facts_of (of_dealer d facts))) at trade.deal.was_quoted in
    let lifted : was_lifted (of_dealer dealer facts) trade.deal.quote.number ≡ true =
    subst (λ (d : ℕ). was_lifted (of_dealer d facts) trade.deal.quote.number ≡ true) at trade.deal.lifted in
    let same : trade.deal.quote ≡ quote = one_quote facts dealer own trade.deal.quote quote there quoted id in
    false≢true (sym (never_lifted config.date row facts dealer apart own bytes is quote confirms quoted)
    ∙ ap (λ (q : AcceptedQuote). was_lifted (of_dealer dealer facts) q.number) (sym same) ∙ lifted)
