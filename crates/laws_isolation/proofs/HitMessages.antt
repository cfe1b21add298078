-- A day to which no message comes that hits a quote has no hit.
use Rattle.std.proofs.Common.{◌≡◌, ℕ, ◌==◌, Bool, true, false, ◌&&◌, List, codes, Option, Some}
use Rattle.std.proofs.Common.{None, Result, Ok, Err, refl, if◌then◌else◌, not, [], ◌∷◌, fold}
use Rattle.std.proofs.Common.{is_some, sym, ap, ◌∙◌}
use Rattle.std.specs.Str.Parse.{digits_value}
use Rattle.std.specs.List.{list_any}
use Rattle.std.proofs.lemmas.Bool.{cond_both, or_parts}
use Rattle.fix_fields.specs.Frame.{Field, frame_of}
use Rattle.market_terms.specs.declared.duties.Duty.{Duty}
use Rattle.quote_messages.specs.Arrivals.{in_sequence, numbered, framed, investor_arrival}
use Rattle.quote_messages.specs.Arrivals.{sequence_number, reject_of, out_of_sequence}
use Rattle.quote_messages.specs.SessionChecks.{investor_session_verdict, request_of, hit_of}
use Rattle.quote_messages.specs.SessionChecks.{pass_of}
use Rattle.quote_messages.specs.SessionLines.{has_number, unless_fault, text_at}
use Rattle.quote_messages.specs.declared.arrivals.Arrival.{Arrival}
use Rattle.quote_messages.specs.declared.arrivals.Arrival.TheVariants as arrival
use Rattle.quote_messages.specs.declared.requests.InvestorMessage.{InvestorMessage}
use Rattle.quote_messages.specs.declared.requests.InvestorMessage.TheVariants as message
use Rattle.investor_desk.specs.declared.refusals.RequestRefusal.{RequestRefusal}
use Rattle.quote_messages.specs.declared.session_faults.SessionFault.{SessionFault}
use Rattle.quote_messages.specs.declared.requests.QuoteRequest.{QuoteRequest}
use Rattle.quote_messages.specs.declared.requests.RequestPass.{RequestPass}
use Rattle.venue_rows.specs.Texts.{same_text}
use Rattle.venue_rows.specs.declared.bond_rows.BondRow.{BondRow}
use Rattle.venue_rows.specs.declared.investor_rows.InvestorRow.{InvestorRow}
use Rattle.venue_rows.specs.Rows.{Configuration, dealer_numbered}
use Rattle.investor_desk.specs.InvestorFacts.{InvestorBook, StandingRequest, expected_number}
use Rattle.investor_desk.specs.InvestorFacts.{request_with_id}
use Rattle.investor_desk.specs.InvestorRules.{InvestorMarket, investor_verdict, arrival_verdict}
use Rattle.investor_desk.specs.InvestorRules.{request_verdict, request_answer, request_refusal}
use Rattle.investor_desk.specs.InvestorRules.{bond_with_id, pass_verdict}
use Rattle.investor_desk.specs.InvestorRules as rules
use Rattle.investor_desk.specs.InvestorDesk.{market_of}
use Rattle.step_replay.specs.DutyEffects.{message_effect}
use Rattle.step_replay.specs.AuditTrail.{AuditTrail, Caused, after_step, audit_trail, no_steps}
use Rattle.step_replay.specs.EachLemmas.{every_weaker}
use Rattle.step_replay.specs.InvestorTrail as investor_trail
use Rattle.step_replay.specs.VenueFacts.{Fact, of_investor}
use Rattle.step_replay.specs.declared.steps.Step.{Step}
use Rattle.step_replay.specs.declared.steps.Step.TheVariants as step
use Rattle.step_replay.specs.Actions.{dealer_of, verdict_on}
use Rattle.laws_days.specs.DayParts.{CausedOk}
use Rattle.laws_days.specs.DealerDuties.{said_may}
use Rattle.laws_days.specs.KeptItems.{none_any}
use Rattle.laws_days.specs.LeftDuties.{message_leaves}
use Rattle.laws_isolation.specs.Silence.{says_hit, is_hit, has_hit, brings_hit, is_of_another}
use Rattle.laws_isolation.specs.Silence.{acts_as_another}
use Rattle.laws_isolation.proofs.QuietVerdicts.{hits}
use Rattle.laws_isolation.proofs.Quiet.{Suits}
use Rattle.laws_isolation.proofs.QuotingDuties.{hits_none, plain_none, quoting_plain, suits_plain}
use Rattle.laws_isolation.proofs.SilenceLemmas.{DayFits, hit_by, step_unseen, step_alike}

-- What the session makes of a message that does not hit.

-- whether a message that came is a hit
abbrev ok_hit : Result InvestorMessage SessionFault → Bool
ok_hit (Ok (message.Hit hit)) = true
ok_hit other = false

-- whether what came is
abbrev takes_hit : Arrival InvestorMessage → Bool
takes_hit (arrival.Taken (message.Hit hit)) = true
takes_hit other = false

ok_unless : (fault : Option SessionFault) (v : Result InvestorMessage SessionFault)
    → ok_hit v ≡ false → ok_hit (unless_fault fault v) ≡ false
ok_unless None v isnt = isnt
ok_unless (Some fault) v isnt = refl

session_none : (date : List ℕ) (row : InvestorRow) (fields : List Field)
    → says_hit (Some fields) ≡ false
    → ok_hit (investor_session_verdict date row fields) ≡ false
unfolding investor_session_verdict
session_none date row fields isnt =
    ok_unless _ _
    (by_type (same_text (codes "R") (text_at 35 fields))
    (same_text (codes "AJ") (text_at 35 fields)) (has_number 694 1 fields) _ _ _ isnt)
  where
    by_kind : (b : Bool) → b ≡ false
        → ok_hit (Ok (if b then message.Hit (hit_of fields) else message.Pass (pass_of fields)))
        ≡ false
    by_kind true is = cc
    by_kind false is = refl

    by_type : (r aj b : Bool) (one other : Option SessionFault) (third : SessionFault)
        → (aj && b) ≡ false
        → ok_hit (if r then unless_fault one (Ok (message.Request (request_of date fields)))
        else if aj
        then unless_fault other
        (Ok (if b then message.Hit (hit_of fields) else message.Pass (pass_of fields)))
        else Err third) ≡ false
    by_type true aj b one other third is =
        ok_unless one (Ok (message.Request (request_of date fields))) refl
    by_type false true b one other third is = ok_unless other _ (by_kind b is)
    by_type false false b one other third is = refl

arrival_none : (date : List ℕ) (row : InvestorRow) (expected : ℕ) (bytes : List ℕ)
    → says_hit (frame_of bytes) ≡ false
    → takes_hit (investor_arrival date row expected bytes) ≡ false
unfolding investor_arrival
arrival_none date row expected bytes isnt = by_frame (frame_of bytes) isnt
  where
    by_verdict : (fields : List Field) (number : List ℕ) (v : Result InvestorMessage SessionFault)
        → ok_hit v ≡ false → takes_hit (in_sequence fields number v) ≡ false
    by_verdict fields number (Ok (message.Hit hit)) is = cc
    by_verdict fields number other is = refl

    by_number : (fields : List Field) (number : Option (List ℕ))
        (v : Result InvestorMessage SessionFault) → ok_hit v ≡ false
        → takes_hit (numbered expected fields number v) ≡ false
    by_number fields None v is = refl
    by_number fields (Some number) v is =
        cond_both (digits_value 10 number == expected) (in_sequence fields number v)
        (arrival.OutOfSequence (reject_of fields number out_of_sequence))
        (λ (came : Arrival InvestorMessage). takes_hit came ≡ false)
        (λ right. by_verdict fields number v is) (λ wrong. refl)

    by_frame : (frame : Option (List Field)) → says_hit frame ≡ false
        → takes_hit (framed (investor_session_verdict date row) expected frame) ≡ false
    by_frame None is = refl
    by_frame (Some fields) is =
        by_number fields (sequence_number fields) (investor_session_verdict date row fields)
        (session_none date row fields is)

-- What the market makes of it.

request_none : (market : InvestorMarket) (book : InvestorBook) (moment : ℕ) (request : QuoteRequest)
    (bond : Option BondRow) (refused : Option RequestRefusal)
    → hits (request_answer market book moment request bond refused) ≡ false
request_none market book moment request bond (Some reason) = refl
request_none market book moment request None None = refl
request_none market book moment request (Some bond) None = refl

pass_none : (pass : RequestPass) (found : Option StandingRequest)
    → hits (rules.pass_of pass found) ≡ false
pass_none pass None = refl
pass_none pass (Some own) = refl

came_none : (market : InvestorMarket) (book : InvestorBook) (moment : ℕ)
    (came : Arrival InvestorMessage) → takes_hit came ≡ false
    → hits (arrival_verdict market book moment came) ≡ false
unfolding request_verdict pass_verdict
came_none market book moment (arrival.Taken (message.Request request)) isnt =
    request_none market book moment request (bond_with_id market request.bond)
    (request_refusal market book moment request)
came_none market book moment (arrival.Taken (message.Hit hit)) isnt = cc
came_none market book moment (arrival.Taken (message.Pass pass)) isnt =
    pass_none pass (request_with_id book pass.request)
came_none market book moment other isnt = refl

pub verdict_none : (market : InvestorMarket) (book : InvestorBook) (moment : ℕ) (bytes : List ℕ)
    → says_hit (frame_of bytes) ≡ false
    → hits (investor_verdict market book moment bytes) ≡ false
unfolding investor_verdict
verdict_none market book moment bytes isnt =
    came_none market book moment
    (investor_arrival market.date market.row (expected_number book) bytes)
    (arrival_none market.date market.row (expected_number book) bytes isnt)

-- a duty that brings no hit
abbrev IsNoHit : Duty → Type 0
IsNoHit more = is_hit more ≡ false

module _ (config : Configuration) where
  message_none : (facts : List Fact) (firm moment : ℕ) (bytes : List ℕ)
      → (not (is_some (dealer_numbered config firm)) && says_hit (frame_of bytes)) ≡ false
      → list_any is_hit (message_effect config facts firm moment bytes).duties ≡ false
  message_none facts firm moment bytes isnt =
      none_any is_hit (message_effect config facts firm moment bytes).duties
      (message_leaves IsNoHit config facts firm moment bytes
      (λ row found. said_may IsNoHit (λ more quoting. plain_none more (quoting_plain more quoting))
      config facts firm moment (verdict_on config facts moment bytes (dealer_of firm row)))
      (λ row no_dealer.
      let market = market_of config firm row in
      let book = investor_trail.book_by (of_investor firm facts) in
      hits_none market moment (investor_verdict market book moment bytes)
      (verdict_none market book moment bytes
      (sym (ap (λ (b : Bool). not b && says_hit (frame_of bytes)) no_dealer) ∙ isnt)))).each

  -- The day, of all dealers, none in particular.

  abbrev any_dealer : ℕ
  any_dealer = 0

  none_by : (trail : AuditTrail) (s : Step) → brings_hit config s ≡ false
      → hit_by config any_dealer trail s ≡ false
  none_by trail (step.In firm moment bytes) isnt =
      message_none trail.facts firm moment bytes isnt
  none_by trail other isnt = refl

  step_fits : (trail : AuditTrail) (s : Step) → brings_hit config s ≡ false
      → DayFits config any_dealer trail → DayFits config any_dealer (after_step config trail s)
  step_fits trail s isnt fits = by_test (is_of_another config any_dealer s) refl
    where
      by_test : (b : Bool) → is_of_another config any_dealer s ≡ b
          → DayFits config any_dealer (after_step config trail s)
      by_test true is = (step_unseen config any_dealer trail s is fits).1
      by_test false is =
          (step_alike config any_dealer trail s is fits (none_by trail s isnt)).1

  steps_fit : (trail : AuditTrail) (steps : List Step) → list_any (brings_hit config) steps ≡ false
      → DayFits config any_dealer trail
      → DayFits config any_dealer (fold (after_step config) trail steps)
  steps_fit trail [] isnt fits = fits
  steps_fit trail (s ∷ steps) isnt fits =
      let parts = or_parts (brings_hit config s) (list_any (brings_hit config) steps) isnt in
      steps_fit (after_step config trail s) steps parts.1 (step_fits trail s parts.0 fits)

  pub none_hits : (steps : List Step) → list_any (brings_hit config) steps ≡ false
      → has_hit config steps ≡ false
  unfolding audit_trail
  none_hits steps isnt =
      let caused = (fold (after_step config) no_steps steps).caused in
      none_any (λ (c : Caused). is_hit c.duty) caused
      (every_weaker (CausedOk (Suits config any_dealer)) (λ (c : Caused). is_hit c.duty ≡ false)
      (λ c suits. plain_none c.duty
      (suits_plain (acts_as_another config any_dealer c.by) c.duty suits)) caused
      (steps_fit no_steps steps isnt tt))
