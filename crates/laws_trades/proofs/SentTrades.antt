-- The messages of the two sides of a trade, where no duty is left.
use Rattle.laws_days.proofs.Common.{List, None, Some, ℕ, [], ap, arith}
use Rattle.laws_days.proofs.Common.{inl, inr, length, refl, subst}
use Rattle.laws_days.proofs.Common.{sym, true, ◌++◌, ◌∙◌, ◌∷◌, ◌≡◌, ◌≤◌, append_assoc}
use Rattle.laws_days.proofs.Common.{filter_map-append, same_Some, slice_get_within, Ask}
use Rattle.laws_days.proofs.Common.{Configuration, dealer_numbered, investor_numbered, DealerRow}
use Rattle.laws_days.proofs.Common.{InvestorRow, Told, tells, AcceptedQuote, Asked}
use Rattle.laws_days.proofs.Common.{AuditTrail, AtDesk, DealerEntry, facts_of, Each}
use Rattle.laws_days.proofs.Common.{all_in, ◌+◌, each_of, In, in_right, AtInvestor, of_dealer}
use Rattle.laws_days.proofs.Common.{of_investor, InvestorEntry, next_sent}
use Rattle.std.proofs.Common.{◌<◌}
use Rattle.fix_fields.specs.Frame.{Field, IsValue, frame_of, frame_text, value_of}
use Rattle.bond_prices.specs.Price.{price_digits}
use Rattle.market_terms.specs.declared.asks.Side.{Side}
use Rattle.market_terms.specs.declared.asks.Side.TheVariants.{Buy, Sell}
use Rattle.market_terms.specs.declared.closes.Close.TheVariants as closes
use Rattle.quote_messages.specs.Written.{price_tag, quote_name, written, written_fields}
use Rattle.quote_messages.specs.declared.out_messages.Head.{Head}
use Rattle.std.specs.Fmt as fmt
use Rattle.investor_desk.specs.InvestorFacts.{Closed}
use Rattle.investor_desk.specs.declared.standing.RequestClose.TheVariants.{Awarded}
use Rattle.step_replay.specs.AuditTrail.{sent_to}
use Rattle.step_replay.specs.DealerTrail as dealer_trail
use Rattle.step_replay.specs.InvestorTrail as investor_trail
use Rattle.step_replay.specs.PlaceLemmas.{behind_dealers}
use Rattle.laws_days.proofs.ListLemmas.{cases_some}
use Rattle.laws_days.proofs.ShownRequests.{in_facts}
use Rattle.laws_days.proofs.VenueInvariant.{VenueOk}
use Rattle.laws_days.proofs.VenueParts.{investor_facts}
use Rattle.venue_rows.specs.Rows.{KeepsLimits}
use Rattle.fix_fields.proofs.FrameParts.{is_frame_of}
use Rattle.laws_shown.proofs.LawfulFields.{AreLawful, dealer_value, firm_value}
use Rattle.laws_shown.proofs.ReadBack.{fields_read}
use Rattle.step_replay.specs.VenueFacts.{Fact}
use Rattle.dealer_desk.specs.DealerFacts.{Quoted}
use Rattle.investor_desk.specs.declared.standing.AcceptedRequest.{AcceptedRequest}
use Rattle.laws_days.specs.LiveDuties.{NoDutyIsLeft}
use Rattle.laws_trades.specs.SentTrades.{AnswerIsOfTrade, AnswersTrade, NoticeIsOfTrade, NotesTrade}
use Rattle.laws_trades.specs.SentTrades.{is_answer, is_notice}
use Rattle.laws_trades.specs.Trades.{Trade, notice_of}
use Rattle.laws_trades.proofs.BothSides.{trade_of, trade_told}
use Rattle.laws_trades.proofs.TradeFound.{at_investor_all, at_market, filter_in, in_split}
use Rattle.laws_trades.proofs.TradeFound.{all_facts}
use Rattle.laws_trades.proofs.QuoteNumbers.{QuotesFit}
use Rattle.laws_trades.proofs.SentNotices.{SentFit}
use Rattle.laws_days.proofs.FirmNames.{investor_name}
use Rattle.laws_trades.proofs.ReadMessages.{notice_lawful}
use Rattle.laws_trades.proofs.TradeParts.{AskedBy, ClosedBy, MayBeRead, SentAs, TradeFact, TradeOk}

-- Messages and the entries that send them.

sent_entry : (message : List ℕ) (trail : List DealerEntry) → In message (dealer_trail.sent_by trail)
    → In (dealer_trail.Sent message) trail
sent_entry message [] is = absurd is
sent_entry message (dealer_trail.Sent other ∷ trail) (inl is) = inl (ap dealer_trail.Sent is)
sent_entry message (dealer_trail.Sent other ∷ trail) (inr is) = inr (sent_entry message trail is)
sent_entry message (entry ∷ trail) is = inr (sent_entry message trail is)

sent_market : (message : List ℕ) (trail : List InvestorEntry)
    → In message (investor_trail.sent_by trail) → In (investor_trail.Sent message) trail
sent_market message [] is = absurd is
sent_market message (investor_trail.Sent other ∷ trail) (inl is) = inl (ap investor_trail.Sent is)
sent_market message (investor_trail.Sent other ∷ trail) (inr is) =
    inr (sent_market message trail is)
sent_market message (entry ∷ trail) is = inr (sent_market message trail is)

entry_sent : (message : List ℕ) (trail : List InvestorEntry)
    → In (investor_trail.Sent message) trail → In message (investor_trail.sent_by trail)
entry_sent message [] is = absurd is
entry_sent message (investor_trail.Sent other ∷ trail) (inl is) = inl (cc)
entry_sent message (investor_trail.Sent other ∷ trail) (inr is) = inr (entry_sent message trail is)
entry_sent message (investor_trail.AtDesk fact ∷ trail) (inl is) = cc
entry_sent message (investor_trail.AtDesk fact ∷ trail) (inr is) = entry_sent message trail is
entry_sent message (investor_trail.Happened event ∷ trail) (inl is) = cc
entry_sent message (investor_trail.Happened event ∷ trail) (inr is) = entry_sent message trail is

next_in : (message : List ℕ) (trail : List DealerEntry) → next_sent trail ≡ Some message
    → In message (dealer_trail.sent_by trail)
next_in message [] is = cc
next_in message (dealer_trail.Sent other ∷ trail) is = inl (same_Some other message is)
next_in message (AtDesk fact ∷ trail) is = next_in message trail is
next_in message (dealer_trail.ShownIn room ∷ trail) is = next_in message trail is
next_in message (dealer_trail.Lifted quote ∷ trail) is = next_in message trail is

-- Firms.

no_dealer : (config : Configuration) (investor : ℕ) (row : InvestorRow)
    → investor_numbered config investor ≡ Some row → dealer_numbered config investor ≡ None
no_dealer config investor row is = elim (cases_some (dealer_numbered config investor)) [
  | inl none ↦ none
  | inr some ↦
      let behind : length config.dealers ≤ investor = behind_dealers config investor row is in
      let within : investor < length config.dealers =
      slice_get_within config.dealers investor some.0 some.1 in
      absurd (omega arith)
]

-- The fields of a notice.

price_said : (head : Head) (number : ℕ) (investor bond : List ℕ) (side : Side)
    (quantity deadline : ℕ) (ask : Ask) (quote : AcceptedQuote)
    → value_of (price_tag side)
    (written_fields head (notice_of number (record ask { side = side }) quote))
    ≡ Some (price_digits quote.price)
price_said head number investor bond Buy quantity deadline ask quote = refl
price_said head number investor bond Sell quantity deadline ask quote = refl

module _ {config : Configuration} (trail : AuditTrail) (trade : Trade config trail.facts)
    (head : Head) (number : ℕ)
    (lawful : AreLawful (written_fields head (notice_of number trade.deal.asked.ask trade.deal.quote)))
    (sent : In (written head (notice_of number trade.deal.asked.ask trade.deal.quote))
    (sent_to config trade.deal.dealer trail)) where
  notes : NotesTrade trail trade (written_fields head (notice_of number trade.deal.asked.ask trade.deal.quote))
  unfolding written fmt.digits
  notes = record {
    body = (refl, lawful);
    sent = sent;
    is = refl;
    request = refl;
    quote = refl;
    bond = refl;
    side = refl;
    quantity = refl;
    price = price_said head number [] [] trade.deal.asked.ask.side 0 0 trade.deal.asked.ask trade.deal.quote;
  }

-- What firms wrote that is said of a trade may stand in a field: the ids and the bonds of requests,
-- and the ids of quotes.
pub record WroteValues (facts : List Fact) : Type 0 where
  pub ids : (investor : ℕ) (asked : AcceptedRequest)
      → In (Asked asked) (investor_facts facts investor) → IsValue asked.id
  pub bonds : (investor : ℕ) (asked : AcceptedRequest)
      → In (Asked asked) (investor_facts facts investor) → IsValue asked.ask.bond
  pub quotes : (dealer : ℕ) (quote : AcceptedQuote)
      → In (Quoted quote) (facts_of (of_dealer dealer facts)) → IsValue quote.id

module _ {config : Configuration} {venue : AuditTrail} (limits : KeepsLimits config)
    (dated : IsValue config.date) (wrote : WroteValues venue.facts) (stood : VenueOk config venue)
    (trades : TradeOk config venue)
    (fits : (dealer : ℕ) (row : DealerRow) → dealer_numbered config dealer ≡ Some row
    → QuotesFit (facts_of (of_dealer dealer venue.facts))) (idle : NoDutyIsLeft venue) where
  -- what a dealer is sent, and an investor

  abbrev dealer_sent : ℕ → List (List ℕ)
  dealer_sent dealer = dealer_trail.sent_by (of_dealer dealer venue.facts)

  abbrev investor_sent : ℕ → List (List ℕ)
  investor_sent investor = investor_trail.sent_by (of_investor investor venue.facts)

  to_dealer : (dealer : ℕ) (row : DealerRow) → dealer_numbered config dealer ≡ Some row
      → sent_to config dealer venue ≡ dealer_sent dealer
  to_dealer dealer row is = rw is refl

  to_investor : (investor : ℕ) (row : InvestorRow) → investor_numbered config investor ≡ Some row
      → sent_to config investor venue ≡ investor_sent investor
  to_investor investor row is = rw (no_dealer config investor row is) refl

  -- what an investor is sent may be read
  may_read : (investor : ℕ) (row : InvestorRow) → investor_numbered config investor ≡ Some row
      → MayBeRead config.date row.name (investor_facts venue.facts investor)
  may_read investor row is = record {
    dated = dated;
    named = firm_value config limits investor row.name (investor_name config investor row is);
    ids = wrote.ids investor;
  }

  module _ (trade : Trade config venue.facts) where
    -- the notice of a trade may stand in a frame
    lawful_notice : (head : Head) → head.date ≡ config.date → head.firm ≡ trade.deal.row.name
        → (number : ℕ)
        → AreLawful (written_fields head (notice_of number trade.deal.asked.ask trade.deal.quote))
    lawful_notice head date_is firm_is number =
        notice_lawful head
        (subst IsValue (sym firm_is)
        (dealer_value config limits trade.deal.dealer trade.deal.row trade.deal.is_dealer))
        (subst IsValue (sym date_is) dated) number trade.deal.asked.ask trade.deal.quote
        (wrote.quotes trade.deal.dealer trade.deal.quote trade.deal.was_quoted)
        (wrote.bonds trade.deal.investor trade.deal.asked trade.deal.was_asked)

    -- the notice of a trade was sent
    notice_sent : (others : List Field) × NotesTrade venue trade others
    unfolding written
    notice_sent =
        let trail = of_dealer trade.deal.dealer venue.facts in
        let told : In (AtDesk (Told trade.deal.quote.request closes.Hit trade.told.moment)) trail =
        in_facts (Told trade.deal.quote.request closes.Hit trade.told.moment) trail
        (filter_in (tells trade.deal.quote.request) (Told trade.deal.quote.request closes.Hit trade.told.moment)
        (facts_of trail) (rw (trade.told.once) (inl refl))) in
        let split = in_split (AtDesk (Told trade.deal.quote.request closes.Hit trade.told.moment)) trail told in
        let bears = trade.told.notice trade.told.moment split.0 split.1 split.2 in
        let head : Head = record {
          date = config.date;
          firm = trade.deal.row.name;
          number = length (dealer_trail.sent_by split.0) + 1;
          moment = trade.told.moment;
        } in
        let message = written head (notice_of bears.0 trade.deal.asked.ask trade.deal.quote) in
        let told_entry = AtDesk (Told trade.deal.quote.request closes.Hit trade.told.moment) in
        let there : In message (dealer_sent trade.deal.dealer) =
        subst (λ (l : List DealerEntry). In message (dealer_trail.sent_by l)) (sym split.2)
        (subst (In message) (sym (filter_map-append dealer_trail.message_in split.0
        (told_entry ∷ split.1)))
        (in_right message (dealer_trail.sent_by split.0) (dealer_trail.sent_by split.1)
        (next_in message split.1 bears.1))) in (
          written_fields head (notice_of bears.0 trade.deal.asked.ask trade.deal.quote),
          notes venue trade head bears.0 (lawful_notice head refl refl bears.0)
              (subst (In message) (sym (to_dealer trade.deal.dealer trade.deal.row trade.deal.is_dealer)) there),
        )

    -- its answer was sent
    answer_sent : (others : List Field) × AnswersTrade venue trade others
    answer_sent =
        let closed : ClosedBy config venue.facts trade.deal.investor trade.deal.asked.number
        trade.deal.shown.number trade.deal.row.name trade.deal.quote.price =
        at_market stood trades trade.deal.investor
        (Closed trade.deal.asked.number (Awarded trade.deal.shown.number trade.deal.row.name trade.deal.quote.price))
        trade.told.is_answered in
        let asked : AskedBy config trade.deal.investor trade.deal.asked =
        at_market stood trades trade.deal.investor (Asked trade.deal.asked) trade.deal.was_asked in (
          closed.fields,
          record {
            body = closed.body asked.row asked.row_is
                (may_read trade.deal.investor asked.row asked.row_is);
            sent = subst (In (frame_text closed.fields))
                (sym (to_investor trade.deal.investor asked.row asked.row_is))
                (entry_sent (frame_text closed.fields) (of_investor trade.deal.investor venue.facts)
                closed.sent);
            is = closed.is.is;
            quote = closed.is.names;
          },
        )

  -- What an investor was sent, as it is read.
  pub answer_is : (investor : ℕ) (investor_row : InvestorRow) (message : List ℕ)
      → investor_numbered config investor ≡ Some investor_row
      → In message (sent_to config investor venue) → (fields : List Field)
      → frame_of message ≡ Some fields → is_answer fields ≡ true
      → AnswerIsOfTrade config venue investor fields
  answer_is investor investor_row message is among fields read answers =
      let sent : SentAs config venue.facts investor message =
      all_in (λ entry. TradeFact config (AtInvestor investor entry) venue)
      (investor_trail.Sent message) (of_investor investor venue.facts)
      (at_investor_all (λ fact. TradeFact config fact venue) investor venue.facts
      (all_facts stood trades))
      (sent_market message (of_investor investor venue.facts)
      (subst (In message) (to_investor investor investor_row is) among)) in
      let reads = sent investor_row is (may_read investor investor_row is) fields read answers in
      let made = trade_of stood trades fits idle investor reads.request reads.quote reads.dealer
      reads.price reads.closed in
      let notice = notice_sent made.0 in
      record {
        trade = made.0;
        investor_is = made.1;
        answer = record {
          body = (is_frame_of message fields read).body;
          sent = subst (λ (i : ℕ). In (frame_text fields) (sent_to config i venue)) (sym made.1)
              (subst (λ (m : List ℕ). In m (sent_to config investor venue)) reads.text among);
          is = answers;
          quote = reads.names ∙ ap (λ (n : ℕ). Some (quote_name n)) (sym made.3);
        };
        others = notice.0;
        notice = notice.1;
      }

  -- What a dealer was sent, as it is read.
  pub notice_is_of : (dealer : ℕ) (dealer_row : DealerRow) (message : List ℕ)
      → dealer_numbered config dealer ≡ Some dealer_row
      → Each (SentFit config.date dealer_row.name) [] (of_dealer dealer venue.facts)
      → In message (sent_to config dealer venue) → (fields : List Field)
      → frame_of message ≡ Some fields → is_notice fields ≡ true
      → NoticeIsOfTrade config venue dealer fields
  notice_is_of dealer dealer_row message is sents among fields read notes_it =
      let trail = of_dealer dealer venue.facts in
      let split = in_split (dealer_trail.Sent message) trail
      (sent_entry message trail (subst (In message) (to_dealer dealer dealer_row is) among)) in
      let sent = each_of (SentFit config.date dealer_row.name) trail split.0 (dealer_trail.Sent message)
      split.1 sents split.2 in
      let told = sent.told dated (dealer_value config limits dealer dealer_row is) fields read notes_it in
      let rest = dealer_trail.Sent message ∷ split.1 in
      let whole : trail ≡ told.0 ++ AtDesk (Told told.1 closes.Hit told.2) ∷ rest =
      split.2 ∙ ap (λ l. l ++ rest) told.3
      ∙ append_assoc told.0 (AtDesk (Told told.1 closes.Hit told.2) ∷ []) rest in
      let fact : In (Told told.1 closes.Hit told.2) (facts_of trail) =
      subst (λ (l : List DealerEntry). In (Told told.1 closes.Hit told.2) (facts_of l)) (sym whole)
      (subst (In (Told told.1 closes.Hit told.2)) (sym (filter_map-append dealer_trail.fact_in
      told.0 (AtDesk (Told told.1 closes.Hit told.2) ∷ rest)))
      (in_right (Told told.1 closes.Hit told.2) (facts_of told.0)
      (facts_of (AtDesk (Told told.1 closes.Hit told.2) ∷ rest)) (inl refl))) in
      let made = trade_told stood trades fits idle dealer dealer_row told.1 told.2 is fact in
      let trade = made.0 in
      let bears = trade.told.notice told.2 told.0 rest
      (ap (λ (d : ℕ). of_dealer d venue.facts) made.1 ∙ whole
      ∙ ap (λ (n : ℕ). told.0 ++ AtDesk (Told n closes.Hit told.2) ∷ rest) (sym made.2)) in
      let head : Head = record {
        date = config.date;
        firm = trade.deal.row.name;
        number = length (dealer_trail.sent_by told.0) + 1;
        moment = told.2;
      } in
      let notice = notice_of bears.0 trade.deal.asked.ask trade.deal.quote in
      let text : message ≡ written head notice = same_Some message (written head notice) bears.1 in
      let lawful = lawful_notice trade head refl refl bears.0 in
      let same : fields ≡ written_fields head notice =
      fields_read head notice fields
      (subst (λ (m : List ℕ). frame_of m ≡ Some fields) text read) lawful in
      let answer = answer_sent trade in
      record {
        trade = trade;
        dealer_is = made.1;
        notice = subst (NotesTrade venue trade) (sym same) (notes venue trade head bears.0 lawful
            (subst (λ (d : ℕ). In (written head notice) (sent_to config d venue)) (sym made.1)
            (subst (λ (m : List ℕ). In m (sent_to config dealer venue)) text among)));
        others = answer.0;
        answer = answer.1;
      }
