-- A request that an investor's desk accepts is what the investor wrote.
use Rattle.std.proofs.Common.{◌≡◌, ℕ, ◌+◌, true, false, List, [], ◌∷◌, find, map, filter_map, Option}
use Rattle.std.proofs.Common.{Some, None, is_none, get_or, refl, sym, ap, ◌∙◌, subst, inl, inr, codes}
use Rattle.std.proofs.Common.{decimal}
use Rattle.std.specs.Fmt as fmt
use Rattle.std.specs.List.{cons_option, list_any}
use Rattle.std.specs.Prelude.{slice_get, unwrap_or}
use Rattle.std.proofs.lemmas.Bool.{cases_Bool}
use Rattle.std.proofs.lemmas.List.Quantifiers.{position-Some}
use Rattle.std.proofs.lemmas.Option.{same_Some, slice_get-get_or}
use Rattle.fix_fields.specs.Frame.{Field, frame_of, value_of}
use Rattle.venue_rows.specs.Texts.{same_text}
use Rattle.venue_rows.specs.declared.bond_rows.BondRow.{BondRow}
use Rattle.market_terms.specs.Codes.{side_code}
use Rattle.quote_messages.specs.Arrivals.{investor_arrival}
use Rattle.quote_messages.specs.SessionChecks.{header_lines, investor_tables, request_lines, request_of}
use Rattle.quote_messages.specs.SessionChecks.{side_of, types_of}
use Rattle.quote_messages.specs.SessionLines.{text_at}
use Rattle.quote_messages.specs.ValueForms.{AnId, OneOf}
use Rattle.quote_messages.specs.declared.arrivals.Arrival.{Arrival}
use Rattle.quote_messages.specs.declared.arrivals.Arrival.TheVariants as arrival
use Rattle.investor_desk.specs.declared.refusals.RequestRefusal.{RequestRefusal}
use Rattle.quote_messages.specs.declared.requests.InvestorMessage.{InvestorMessage}
use Rattle.quote_messages.specs.declared.requests.InvestorMessage.TheVariants as message
use Rattle.quote_messages.specs.declared.requests.QuoteHit.{QuoteHit}
use Rattle.quote_messages.specs.declared.requests.QuoteRequest.{QuoteRequest}
use Rattle.quote_messages.specs.declared.requests.RequestPass.{RequestPass}
use Rattle.quote_messages.specs.declared.session_faults.SessionRejectReason.{SessionRejectReason}
use Rattle.quote_messages.specs.declared.session_faults.SessionRejectReason.TheVariants.{CompIdProblem}
use Rattle.quote_messages.specs.declared.session_faults.SessionRejectReason.TheVariants.{InvalidMsgType}
use Rattle.quote_messages.specs.declared.session_faults.SessionRejectReason.TheVariants.{ValueIncorrect}
use Rattle.investor_desk.specs.InvestorFacts.{InvestorBook, StandingRequest, expected_number}
use Rattle.investor_desk.specs.InvestorFacts.{offer_named, request_with_id, requests_accepted}
use Rattle.investor_desk.specs.InvestorRules as rules
use Rattle.investor_desk.specs.InvestorRules.{InvestorMarket, arrival_verdict, bond_with_id}
use Rattle.investor_desk.specs.InvestorRules.{hit_verdict, investor_verdict, pass_verdict}
use Rattle.investor_desk.specs.InvestorRules.{dealer_named, dealer_numbers, is_unknown_dealer}
use Rattle.investor_desk.specs.InvestorRules.{request_answer, request_checks, request_refusal}
use Rattle.investor_desk.specs.InvestorRules.{request_verdict}
use Rattle.investor_desk.specs.declared.standing.AcceptedRequest.{AcceptedRequest}
use Rattle.investor_desk.specs.declared.standing.ShownOffer.{ShownOffer}
use Rattle.investor_desk.specs.declared.verdicts.InvestorVerdict.{InvestorVerdict}
use Rattle.investor_desk.specs.declared.verdicts.InvestorVerdict.TheVariants as verdict
use Rattle.laws_days.specs.AcceptedQuotes.{none_holds}
use Rattle.laws_shown.specs.Said.{SaysRequest}
use Rattle.laws_shown.proofs.ReadFields.{Stood, lines_kept, required_as, required_kept, required_moment}
use Rattle.laws_shown.proofs.ReadFields.{required_quantity, required_stands, text_same}
use Rattle.laws_shown.proofs.ReadRequests.{ArrivalOk, ReadAs, ReadFrom, arrival_ok}

-- the bond that is found has the identifier that it is found by
bond_found : (id : List ℕ) (bonds : List BondRow) (bond : BondRow)
    → find (λ (b : BondRow). same_text b.id id) bonds ≡ Some bond → bond.id ≡ id
bond_found id [] bond found = cc
bond_found id (first ∷ bonds) bond found = elim (cases_Bool (same_text first.id id)) [
  | inl is ↦
      let same = same_Some first bond (rw is at found) in
      sym (ap (λ (b : BondRow). b.id) same) ∙ text_same first.id id is
  | inr isnt ↦ bond_found id bonds bond (rw isnt at found)
]

-- what is looked up, where each is found, leads back to what it was looked up by
each_found : {A B : Type 0} (look : A → Option B) (back : B → Option A)
    → ((x : A) (y : B) → look x ≡ Some y → back y ≡ Some x) → (xs : List A)
    → list_any (λ (x : A). is_none (look x)) xs ≡ false
    → map back (filter_map look xs) ≡ map (λ (x : A). Some x) xs
each_found look back leads [] all = refl
each_found {A} {B} look back leads (x ∷ xs) all =
    by_found (look x) refl (λ rest. each_found look back leads xs rest)
  where
    by_found : (found : Option B) → look x ≡ found
        → (list_any (λ (y : A). is_none (look y)) xs ≡ false
        → map back (filter_map look xs) ≡ map (λ (y : A). Some y) xs)
        → map back (filter_map look (x ∷ xs)) ≡ Some x ∷ map (λ (y : A). Some y) xs
    by_found None is later = cc (rw is at all)
    by_found (Some y) is later =
        ap (λ (o : Option B). map back (cons_option o (filter_map look xs))) is
        ∙ ap (λ (o : Option A). o ∷ map back (filter_map look xs)) (leads x y is)
        ∙ ap (λ (l : List (Option A)). Some x ∷ l) (later (rw is at all))

-- the dealer that is found has the name that it is found by
dealer_found : (market : InvestorMarket) (name : List ℕ) (dealer : ℕ)
    → dealer_named market name ≡ Some dealer → slice_get market.dealers dealer ≡ Some name
unfolding dealer_named
dealer_found market name dealer found =
    let first = position-Some (λ (own : List ℕ). same_text own name) market.dealers dealer [] found in
    slice_get-get_or market.dealers dealer [] first.0
    ∙ ap (λ (text : List ℕ). Some text) (text_same (get_or market.dealers dealer []) name first.1)

-- and so it is of dealers none of which is unknown
dealers_found : (market : InvestorMarket) (names : List (List ℕ))
    → list_any (is_unknown_dealer market) names ≡ false
    → map (λ (dealer : ℕ). slice_get market.dealers dealer) (dealer_numbers market names)
    ≡ map (λ (name : List ℕ). Some name) names
dealers_found market names known =
    each_found (dealer_named market) (λ (dealer : ℕ). slice_get market.dealers dealer)
    (dealer_found market) names known

-- the side that stands is the one that is read
side_stands : (date : List ℕ) (reason : SessionRejectReason) (value : Option (List ℕ))
    → Stood date true (OneOf (codes "1" ∷ codes "2" ∷ []) reason) value
    → value ≡ Some (decimal (side_code (side_of (unwrap_or value []))))
unfolding fmt.digits
side_stands date reason None stood = cc
side_stands date reason (Some text) stood = elim (cases_Bool (same_text (codes "1") text)) [
  | inl buys ↦
      rw buys (ap (λ (t : List ℕ). Some t) (sym (text_same (codes "1") text buys)))
  | inr sells ↦ elim (cases_Bool (same_text (codes "2") text)) [
    | inl is ↦ rw sells (ap (λ (t : List ℕ). Some t) (sym (text_same (codes "2") text is)))
    | inr isnt ↦ cc (rw (sells, isnt) at stood)
  ]
]

module _ (market : InvestorMarket) (book : InvestorBook) (moment : ℕ) (bytes : List ℕ) where
  -- bytes that came are read as a request that is accepted
  pub record AcceptsRequest (request : AcceptedRequest) : Type 0 where
    pub fields : List Field
    pub frame : frame_of bytes ≡ Some fields
    pub says : SaysRequest market.date market.dealers market.row.name fields request
    pub moment_is : request.moment ≡ moment
    pub number_is : request.number ≡ requests_accepted book + 1

  abbrev pub AcceptOk : InvestorVerdict → Type 0
  AcceptOk (verdict.RequestAccepted id request) = AcceptsRequest request
  AcceptOk other = Unit {0}

  module _ (fields : List Field) (frame : frame_of bytes ≡ Some fields)
      (read : ReadAs market.date market.row fields (request_of market.date fields)) where
    -- the request as it is read
    abbrev request : QuoteRequest
    request = request_of market.date fields

    request_accepts : (bond : Option BondRow) (refusal : Option RequestRefusal)
        → bond_with_id market request.bond ≡ bond
        → request_refusal market book moment request ≡ refusal
        → AcceptOk (request_answer market book moment request bond refusal)
    unfolding bond_with_id request_refusal
    request_accepts bond (Some reason) found refused = tt
    request_accepts None None found refused = tt
    request_accepts (Some bond) None found refused =
        let checks = none_holds (request_checks market book moment request) refused in
        let date = market.date in
        let lines = lines_kept date fields request_lines read.lines in
        let header = lines_kept date fields
        (header_lines market.row.name market.row.traders (types_of investor_tables)) read.header in
        record {
          fields = fields;
          frame = frame;
          says = record {
            is_request = required_stands date fields 35
                (OneOf (types_of investor_tables) InvalidMsgType) header.1.1.1.1.0
                ∙ ap (λ (t : List ℕ). Some t)
                (sym (text_same (codes "R") (text_at 35 fields) read.type_is));
            sender = required_as date fields 49 market.row.name CompIdProblem header.0;
            id = required_stands date fields 131 AnId lines.0;
            bond = required_stands date fields 48 AnId lines.1.1.0
                ∙ ap (λ (t : List ℕ). Some t)
                (sym (bond_found request.bond market.bonds bond found));
            side = side_stands date ValueIncorrect (value_of 54 fields)
                (required_kept date fields 54
                (OneOf (codes "1" ∷ codes "2" ∷ []) ValueIncorrect) lines.1.1.1.1.0);
            quantity = required_quantity date fields 38 lines.1.1.1.1.1.0;
            deadline = required_moment date fields 126 lines.1.1.1.1.1.1.0;
            asker = refl;
            named = dealers_found market request.dealers checks.1.1.1.1.0;
          };
          moment_is = refl;
          number_is = refl;
        }

  hit_accepts : (hit : QuoteHit) (shown : Option ShownOffer) → AcceptOk (rules.hit_of hit shown)
  hit_accepts hit None = tt
  hit_accepts hit (Some shown) = tt

  pass_accepts : (pass : RequestPass) (own : Option StandingRequest)
      → AcceptOk (rules.pass_of pass own)
  pass_accepts pass None = tt
  pass_accepts pass (Some own) = tt

  request_said : (said : QuoteRequest) → ReadFrom market.date market.row bytes said
      → AcceptOk (request_verdict market book moment said)
  unfolding request_verdict
  request_said said from =
      subst (λ (q : QuoteRequest). ReadAs market.date market.row from.fields q
      → AcceptOk (request_verdict market book moment q)) (sym from.read.request_is)
      (λ read. request_accepts from.fields from.frame read _ _ refl refl) from.read

  came_accepts : (came : Arrival InvestorMessage) → ArrivalOk market.date market.row bytes came
      → AcceptOk (arrival_verdict market book moment came)
  unfolding hit_verdict pass_verdict
  came_accepts (arrival.Taken (message.Request said)) from = request_said said from
  came_accepts (arrival.Taken (message.Hit hit)) from =
      hit_accepts hit (offer_named book hit.quote)
  came_accepts (arrival.Taken (message.Pass pass)) from =
      pass_accepts pass (request_with_id book pass.request)
  came_accepts other from = tt

  pub verdict_accepts : AcceptOk (investor_verdict market book moment bytes)
  unfolding investor_verdict
  verdict_accepts =
      came_accepts (investor_arrival market.date market.row (expected_number book) bytes)
      (arrival_ok market.date market.row (expected_number book) bytes)
