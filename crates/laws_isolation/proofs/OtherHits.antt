-- Two messages that are hits of the same firm, in which the quote alone differs: each uses up its
-- number where the other does, and adds nothing else.
use Rattle.std.proofs.Common.{◌≡◌, ℕ, ◌==◌, inl, inr, Bool, true, false, List, [], ◌∷◌, codes}
use Rattle.std.proofs.Common.{filter, length, Option, Some, None, Result, Ok, Err, refl, sym, ap}
use Rattle.std.proofs.Common.{◌∙◌, suc, if◌then◌else◌, subst}
use Rattle.std.specs.List.{AllZip}
use Rattle.std.specs.Str.Parse.{digits_value}
use Rattle.std.proofs.lemmas.Bool.{and_parts, cases_Bool}
use Rattle.std.proofs.lemmas.List.Sums.{length-filter}
use Rattle.std.proofs.lemmas.Slice.Eq.{bytes_eq-Decides}
use Rattle.fix_fields.specs.Frame.{Field, frame_of, times_of, value_of}
use Rattle.quote_messages.specs.Arrivals.{in_sequence, investor_arrival, numbered, sequence_number}
use Rattle.quote_messages.specs.SessionChecks.{investor_session_verdict}
use Rattle.quote_messages.specs.SessionChecks.{header_lines, investor_tables, response_lines}
use Rattle.quote_messages.specs.SessionChecks.{response_of, types_of, verdict_by}
use Rattle.quote_messages.specs.SessionLines.{first_fault}
use Rattle.quote_messages.specs.SessionLines.{has_number, text_at, unless_fault}
use Rattle.quote_messages.specs.declared.requests.InvestorMessage.{InvestorMessage}
use Rattle.quote_messages.specs.declared.requests.InvestorMessage.TheVariants as message
use Rattle.quote_messages.specs.declared.requests.QuoteHit.{QuoteHit}
use Rattle.quote_messages.specs.declared.session_faults.SessionFault.{SessionFault}
use Rattle.venue_rows.specs.Texts.{same_text}
use Rattle.venue_rows.specs.declared.investor_rows.InvestorRow.{InvestorRow}
use Rattle.investor_desk.specs.InvestorFacts.{InvestorBook, expected_number, offer_named}
use Rattle.investor_desk.specs.InvestorOutput.{uses_number, verdict_duty, verdict_facts}
use Rattle.investor_desk.specs.InvestorRules.{InvestorMarket, arrival_verdict, hit_of, hit_verdict}
use Rattle.investor_desk.specs.InvestorRules.{investor_verdict}
use Rattle.investor_desk.specs.declared.standing.ShownOffer.{ShownOffer}
use Rattle.investor_desk.specs.declared.verdicts.InvestorVerdict.{InvestorVerdict}
use Rattle.laws_isolation.specs.Silence.{says_hit}
use Rattle.laws_isolation.specs.Presence.{IsSameOrQuote}
use Rattle.laws_isolation.proofs.LeftInvestor.{hits}

-- Two verdicts add the same, and leave the same where neither is a hit.
pub record IsSaidAlike (market : InvestorMarket) (moment : ℕ) (one other : InvestorVerdict)
    : Type 0 where
  pub uses_are : uses_number one ≡ uses_number other
  pub facts_are : verdict_facts one ≡ verdict_facts other
  pub duty_is : hits one ≡ false → hits other ≡ false
      → verdict_duty market moment one ≡ verdict_duty market moment other

pub same_said : (market : InvestorMarket) (moment : ℕ) (v : InvestorVerdict)
    → IsSaidAlike market moment v v
same_said market moment v = record {
  uses_are = refl;
  facts_are = refl;
  duty_is = λ isnt isnt_too. refl;
}

pub said_back : (market : InvestorMarket) (moment : ℕ) (v w : InvestorVerdict)
    → IsSaidAlike market moment v w → IsSaidAlike market moment w v
said_back market moment v w alike = record {
  uses_are = sym alike.uses_are;
  facts_are = sym alike.facts_are;
  duty_is = λ isnt isnt_too. sym (alike.duty_is isnt_too isnt);
}

-- What the fields of such messages say.

-- a tag but QuoteID has one value in both
value_same : (tag : ℕ) → (117 == tag) ≡ false → (fields fields_too : List Field)
    → AllZip IsSameOrQuote fields fields_too → value_of tag fields ≡ value_of tag fields_too
value_same tag apart [] [] alike = refl
value_same tag apart [] (other ∷ fields_too) alike = elim alike [ ]
value_same tag apart (one ∷ fields) [] alike = elim alike [ ]
value_same tag apart (one ∷ fields) (other ∷ fields_too) alike = elim (alike.0) [
  | inl same ↦ rw same (ap (λ (o : Option (List ℕ)). if other.0 == tag then Some other.1 else o)
      (value_same tag apart fields fields_too alike.1))
  | inr both ↦ rw (both.0, both.1, apart) (value_same tag apart fields fields_too alike.1)
]

-- and stands as often
times_filtered : (tag : ℕ) → (117 == tag) ≡ false → (fields fields_too : List Field)
    → AllZip IsSameOrQuote fields fields_too
    → length (filter (λ (field : Field). field.0 == tag) fields)
    ≡ length (filter (λ (field : Field). field.0 == tag) fields_too)
times_filtered tag apart [] [] alike = refl
times_filtered tag apart [] (other ∷ fields_too) alike = elim alike [ ]
times_filtered tag apart (one ∷ fields) [] alike = elim alike [ ]
times_filtered tag apart (one ∷ fields) (other ∷ fields_too) alike = elim (alike.0) [
  | inl same ↦ elim (cases_Bool (other.0 == tag)) [
    | inl is ↦ rw (same, is) (ap (λ (n : ℕ). suc n)
        (times_filtered tag apart fields fields_too alike.1))
    | inr isnt ↦ rw (same, isnt) (times_filtered tag apart fields fields_too alike.1)
  ]
  | inr both ↦ rw (both.0, both.1, apart) (times_filtered tag apart fields fields_too alike.1)
]

times_same : (tag : ℕ) → (117 == tag) ≡ false → (fields fields_too : List Field)
    → AllZip IsSameOrQuote fields fields_too → times_of tag fields ≡ times_of tag fields_too
times_same tag apart fields fields_too alike =
    sym (length-filter (λ (field : Field). field.0 == tag) fields)
    ∙ times_filtered tag apart fields fields_too alike
    ∙ length-filter (λ (field : Field). field.0 == tag) fields_too

module _ (fields fields_too : List Field) (alike : AllZip IsSameOrQuote fields fields_too) where
  pub number_same : sequence_number fields ≡ sequence_number fields_too
  number_same =
      rw (times_same 34 refl fields fields_too alike, value_same 34 refl fields fields_too alike)
      refl

  pub hits_too : says_hit (Some fields) ≡ true → says_hit (Some fields_too) ≡ true
  hits_too is =
      rw (value_same 35 refl fields fields_too alike, value_same 694 refl fields fields_too alike)
      at is

-- The session's verdict on a hit.

-- it is a hit, or has a fault
abbrev pub IsHitOrFault : Result InvestorMessage SessionFault → Type 0
IsHitOrFault (Err fault) = Unit {0}
IsHitOrFault (Ok (message.Hit hit)) = Unit {0}
IsHitOrFault (Ok other) = ⊥

unless_hit : (fault : Option SessionFault) (v : Result InvestorMessage SessionFault)
    → IsHitOrFault v → IsHitOrFault (unless_fault fault v)
unless_hit None v is = is
unless_hit (Some fault) v is = tt

pub session_hit : (date : List ℕ) (row : InvestorRow) (fields : List Field)
    → says_hit (Some fields) ≡ true → IsHitOrFault (investor_session_verdict date row fields)
unfolding investor_session_verdict
session_hit date row fields is =
    let parts = and_parts (same_text (codes "AJ") (text_at 35 fields))
    (has_number 694 1 fields) is in
    let kind : codes "AJ" ≡ text_at 35 fields =
    (bytes_eq-Decides (codes "AJ") (text_at 35 fields)).0 parts.0 in
    let other : same_text (codes "R") (text_at 35 fields) ≡ false =
    subst (λ (text : List ℕ). same_text (codes "R") text ≡ false) kind refl in
    unless_hit (first_fault (header_lines row.name row.traders
    (types_of investor_tables)) date fields)
    (verdict_by investor_tables date fields)
    (rw (other, parts.0) (unless_hit (first_fault response_lines date fields)
    (Ok (response_of date fields)) (rw (parts.1) tt)))

-- What becomes of it.

module _ (market : InvestorMarket) (moment : ℕ) where
  -- a verdict that adds nothing but that a number was used up, or not
  record IsHitSaid (used : Bool) (v : InvestorVerdict) : Type 0 where
    uses_is : uses_number v ≡ used
    no_facts : verdict_facts v ≡ []
    no_duty : hits v ≡ false → verdict_duty market moment v ≡ None

  both_said : (used : Bool) (v w : InvestorVerdict) → IsHitSaid used v → IsHitSaid used w
      → IsSaidAlike market moment v w
  both_said used v w first second = record {
    uses_are = first.uses_is ∙ sym second.uses_is;
    facts_are = first.no_facts ∙ sym second.no_facts;
    duty_is = λ isnt isnt_too. first.no_duty isnt ∙ sym (second.no_duty isnt_too);
  }

  hit_said : (hit : QuoteHit) (found : Option ShownOffer) → IsHitSaid true (hit_of hit found)
  hit_said hit None = record { uses_is = refl; no_facts = refl; no_duty = λ isnt. refl }
  hit_said hit (Some shown) = record { uses_is = refl; no_facts = refl; no_duty = λ isnt. cc }

  module _ (book : InvestorBook) where
    in_said : (fields : List Field) (number : List ℕ) (v : Result InvestorMessage SessionFault)
        → IsHitOrFault v
        → IsHitSaid true (arrival_verdict market book moment (in_sequence fields number v))
    unfolding hit_verdict
    in_said fields number (Err fault) is =
        record { uses_is = refl; no_facts = refl; no_duty = λ isnt. refl }
    in_said fields number (Ok (message.Hit hit)) is = hit_said hit (offer_named book hit.quote)
    in_said fields number (Ok other) is = absurd is

    numbered_said : (expected : ℕ) (fields fields_too : List Field) (number : Option (List ℕ))
        (v w : Result InvestorMessage SessionFault) → IsHitOrFault v → IsHitOrFault w
        → IsSaidAlike market moment
        (arrival_verdict market book moment (numbered expected fields number v))
        (arrival_verdict market book moment (numbered expected fields_too number w))
    numbered_said expected fields fields_too None v w is is_too =
        record { uses_are = refl; facts_are = refl; duty_is = λ isnt isnt_too. refl }
    numbered_said expected fields fields_too (Some number) v w is is_too =
        elim (cases_Bool (digits_value 10 number == expected)) [
          | inl test ↦ rw test (both_said true _ _ (in_said fields number v is)
              (in_said fields_too number w is_too))
          | inr test ↦ rw test
              (record { uses_are = refl; facts_are = refl; duty_is = λ isnt isnt_too. refl })
        ]

    -- two hits in which the quote alone differs
    pub hits_said : (bytes bytes_too : List ℕ) (fields fields_too : List Field)
        → frame_of bytes ≡ Some fields → frame_of bytes_too ≡ Some fields_too
        → says_hit (Some fields) ≡ true → AllZip IsSameOrQuote fields fields_too
        → IsSaidAlike market moment (investor_verdict market book moment bytes)
        (investor_verdict market book moment bytes_too)
    unfolding investor_verdict investor_arrival
    hits_said bytes bytes_too fields fields_too is is_too hit alike =
        rw (is, is_too, number_same fields fields_too alike)
        (numbered_said (expected_number book) fields fields_too (sequence_number fields_too)
        (investor_session_verdict market.date market.row fields)
        (investor_session_verdict market.date market.row fields_too)
        (session_hit market.date market.row fields hit)
        (session_hit market.date market.row fields_too
        (hits_too fields fields_too alike hit)))
