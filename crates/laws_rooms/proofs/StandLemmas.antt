-- The quotes that stand on a request at the desk of its investor, as one fact more comes.
use Rattle.std.proofs.Common.{◌≡◌, ◌==◌, ◌+◌, ℕ, Bool, true, false, not, List, [], ◌∷◌, ◌++◌, filter}
use Rattle.std.proofs.Common.{filter_map, find, Option, Some, None, is_some, refl, sym, ap, ◌∙◌, subst}
use Rattle.std.proofs.Common.{inl, inr, ◌⊎◌, if◌then◌else◌}
use Rattle.std.specs.List.{list_any}
use Rattle.std.proofs.lemmas.Bool.{and_parts, cases_Bool, eq-eqb, eqb-true, false≢true}
use Rattle.std.proofs.lemmas.List.{append-nil, append_assoc}
use Rattle.std.proofs.lemmas.List.Elements.{filter_map-append}
use Rattle.std.proofs.lemmas.List.Folds.{list_any-append}
use Rattle.investor_desk.specs.BookChanges.{leaves, offered_on}
use Rattle.investor_desk.specs.InvestorFacts.{Asked, Gone, InvestorFact, Offered, StandingRequest, book_of}
use Rattle.investor_desk.specs.InvestorFacts.{offer_numbered, offers_of, request_numbered, says_gone}
use Rattle.investor_desk.specs.InvestorFacts.{standing_on, stands_on}
use Rattle.investor_desk.specs.declared.standing.ShownOffer.{ShownOffer}
use Rattle.step_replay.specs.GrowthLemmas.{any_left}
use Rattle.step_replay.specs.Lists.{Every, In}
use Rattle.laws_shown.proofs.ListLemmas.{AreFrom, one_with}
use Rattle.laws_days.proofs.KnownDesks.{asked_is, asks}
use Rattle.laws_rooms.proofs.FoundLemmas.{left_says, none_says}

-- A request by its number, with more facts.

pub found_more : (number : ℕ) (facts more : List InvestorFact)
    → is_some (request_numbered (book_of facts) number) ≡ true
    → is_some (request_numbered (book_of (facts ++ more)) number) ≡ true
found_more number facts more is =
    asked_is number (facts ++ more) ∙ any_left (asks number) facts more (sym (asked_is number facts) ∙ is)

-- The quotes that stand, whatever request.

standing_more : (number : ℕ) (facts : List InvestorFact) (fact : InvestorFact)
    → standing_on number (facts ++ fact ∷ [])
    ≡ filter (leaves number fact) (standing_on number facts) ++ offered_on number fact
standing_more number [] (Offered shown) = elim (cases_Bool (shown.request == number)) [
  | inl same ↦ rw same refl
  | inr differs ↦ rw differs refl
]
standing_more number [] fact = refl
standing_more number (Offered shown ∷ facts) fact =
    let later : standing_on number (facts ++ fact ∷ [])
    ≡ filter (leaves number fact) (standing_on number facts) ++ offered_on number fact =
    standing_more number facts fact in
    let any = list_any-append (says_gone number shown.number) facts (fact ∷ []) in
    elim (cases_Bool (shown.request == number)) [
      | inr differs ↦ rw differs later
      | inl same ↦ elim (cases_Bool (list_any (says_gone number shown.number) facts)) [
        | inl gone ↦ rw (same, any, gone) later
        | inr stands ↦ elim (cases_Bool (says_gone number shown.number fact)) [
          | inl goes ↦ rw (same, any, stands, goes) later
          | inr stays ↦ rw (same, any, stands, stays) (ap (λ (l : List ShownOffer). shown ∷ l) later)
        ]
      ]
    ]
standing_more number (other ∷ facts) fact = standing_more number facts fact

standing_there : (number : ℕ) (facts : List InvestorFact) (shown : ShownOffer)
    → In shown (standing_on number facts) → In shown (offers_of facts) × (shown.request ≡ number)
standing_there number [] shown is = absurd is
standing_there number (Offered other ∷ facts) shown is = elim (cases_Bool (stands_on number other facts)) [
  | inl stands ↦ elim (rw stands at is) [
    | inl here ↦ (
      inl here,
      subst (λ (s : ShownOffer). s.request ≡ number) here (eqb-true other.request number
          (and_parts (other.request == number) (not (list_any (says_gone number other.number) facts)) stands).0),
    )
    | inr behind ↦ (let later = standing_there number facts shown behind in (inr later.0, later.1))
  ]
  | inr gone ↦ (let later = standing_there number facts shown (rw gone at is) in (inr later.0, later.1))
]
standing_there number (fact ∷ facts) shown is = standing_there number facts shown is

-- Those of a request that was found.

abbrev pub standing_at : Option StandingRequest → List ShownOffer
standing_at None = []
standing_at (Some own) = own.standing

abbrev pub stand_in : ℕ → List InvestorFact → List ShownOffer
stand_in number facts = standing_at (request_numbered (book_of facts) number)

stand_more : (number : ℕ) (facts : List InvestorFact) (fact : InvestorFact)
    → is_some (request_numbered (book_of facts) number) ≡ true
    → stand_in number (facts ++ fact ∷ [])
    ≡ filter (leaves number fact) (stand_in number facts) ++ offered_on number fact
unfolding request_numbered
stand_more number [] fact is = absurd (false≢true is)
stand_more number (Asked request ∷ facts) fact is = elim (cases_Bool (request.number == number)) [
  | inl same ↦ rw same (subst (λ (n : ℕ). standing_on request.number (facts ++ fact ∷ [])
      ≡ filter (leaves n fact) (standing_on request.number facts) ++ offered_on n fact)
      (eqb-true request.number number same) (standing_more request.number facts fact))
  | inr differs ↦ rw differs (stand_more number facts fact (rw differs at is))
]
stand_more number (other ∷ facts) fact is = stand_more number facts fact is

none_more : (number : ℕ) (facts : List InvestorFact) (fact : InvestorFact)
    → is_some (request_numbered (book_of facts) number) ≡ false → stand_in number (facts ++ fact ∷ []) ≡ []
unfolding request_numbered
none_more number [] (Asked request) is = elim (cases_Bool (request.number == number)) [
  | inl same ↦ rw same refl
  | inr differs ↦ rw differs refl
]
none_more number [] fact is = refl
none_more number (Asked request ∷ facts) fact is = elim (cases_Bool (request.number == number)) [
  | inl same ↦ absurd (false≢true (sym (rw same at is)))
  | inr differs ↦ rw differs (none_more number facts fact (rw differs at is))
]
none_more number (other ∷ facts) fact is = none_more number facts fact is

none_found : (found : Option StandingRequest) → is_some found ≡ false → standing_at found ≡ []
none_found None is = refl
none_found (Some own) is = cc

pub stand_there : (number : ℕ) (facts : List InvestorFact) (shown : ShownOffer)
    → In shown (stand_in number facts) → In shown (offers_of facts) × (shown.request ≡ number)
unfolding request_numbered
stand_there number [] shown is = absurd is
stand_there number (Asked request ∷ facts) shown is = elim (cases_Bool (request.number == number)) [
  | inl same ↦
      (let there = standing_there request.number facts shown (rw same at is) in
      (there.0, there.1 ∙ eqb-true request.number number same))
  | inr differs ↦ stand_there number facts shown (rw differs at is)
]
stand_there number (Offered other ∷ facts) shown is =
    let there = stand_there number facts shown is in (inr there.0, there.1)
stand_there number (fact ∷ facts) shown is = stand_there number facts shown is

-- What they say, as one fact more comes.

-- a fact that changes nothing of a request
abbrev pub IsElsewhere : ℕ → InvestorFact → Type 0
IsElsewhere number (Offered shown) = (shown.request == number) ≡ false
IsElsewhere number (Gone on gone) = (on == number) ≡ false
IsElsewhere number fact = Unit {0}

module _ (number : ℕ) (says : ShownOffer → Option ℕ) where
  abbrev pub words_in : List InvestorFact → List ℕ
  words_in facts = filter_map says (stand_in number facts)

  words_more : (facts : List InvestorFact) (fact : InvestorFact)
      → is_some (request_numbered (book_of facts) number) ≡ true
      → words_in (facts ++ fact ∷ []) ≡ filter_map says (filter (leaves number fact) (stand_in number facts))
      ++ filter_map says (offered_on number fact)
  words_more facts fact found =
      ap (λ (l : List ShownOffer). filter_map says l) (stand_more number facts fact found)
      ∙ filter_map-append says (filter (leaves number fact) (stand_in number facts)) (offered_on number fact)

  unfound : (facts : List InvestorFact) → is_some (request_numbered (book_of facts) number) ≡ false
      → words_in facts ≡ []
  unfound facts none =
      ap (λ (l : List ShownOffer). filter_map says l)
      (none_found (request_numbered (book_of facts) number) none)

  unfound_more : (facts : List InvestorFact) (fact : InvestorFact)
      → is_some (request_numbered (book_of facts) number) ≡ false → words_in (facts ++ fact ∷ []) ≡ []
  unfound_more facts fact none =
      ap (λ (l : List ShownOffer). filter_map says l) (none_more number facts fact none)

  -- where a fact leaves those that say something, and shows none
  kept : (facts : List InvestorFact) (fact : InvestorFact) → offered_on number fact ≡ []
      → ((shown : ShownOffer) → In shown (stand_in number facts)
      → (says shown ≡ None) ⊎ (leaves number fact shown ≡ true))
      → words_in (facts ++ fact ∷ []) ≡ words_in facts
  kept facts fact none each = elim (cases_Bool (is_some (request_numbered (book_of facts) number))) [
    | inr missing ↦ unfound_more facts fact missing ∙ sym (unfound facts missing)
    | inl found ↦
        words_more facts fact found
        ∙ ap (λ (l : List ℕ). l ++ filter_map says (offered_on number fact))
        (left_says says (leaves number fact) (stand_in number facts) each)
        ∙ ap (λ (l : List ShownOffer). words_in facts ++ filter_map says l) none ∙ append-nil (words_in facts)
  ]

  -- where it leaves none of them, and shows none
  dropped : (facts : List InvestorFact) (fact : InvestorFact) → offered_on number fact ≡ []
      → ((shown : ShownOffer) → In shown (stand_in number facts)
      → (says shown ≡ None) ⊎ (leaves number fact shown ≡ false))
      → words_in (facts ++ fact ∷ []) ≡ []
  dropped facts fact none each = elim (cases_Bool (is_some (request_numbered (book_of facts) number))) [
    | inr missing ↦ unfound_more facts fact missing
    | inl found ↦
        words_more facts fact found
        ∙ ap (λ (l : List ℕ). l ++ filter_map says (offered_on number fact))
        (none_says says (leaves number fact) (stand_in number facts) each)
        ∙ ap (λ (l : List ShownOffer). filter_map says l) none
  ]

  all_left : (fact : InvestorFact) → IsElsewhere number fact → (shown : ShownOffer)
      → leaves number fact shown ≡ true
  all_left (Gone on gone) is shown = rw is refl
  all_left other is shown = refl

  none_offered : (fact : InvestorFact) → IsElsewhere number fact → offered_on number fact ≡ []
  none_offered (Offered shown) is = rw is refl
  none_offered other is = refl

  pub elsewhere_all : (facts more : List InvestorFact) → Every (IsElsewhere number) more
      → words_in (facts ++ more) ≡ words_in facts
  elsewhere_all facts [] every = ap (λ (l : List InvestorFact). words_in l) (append-nil facts)
  elsewhere_all facts (fact ∷ more) every =
      ap (λ (l : List InvestorFact). words_in l) (sym (append_assoc facts (fact ∷ []) more))
      ∙ elsewhere_all (facts ++ fact ∷ []) more every.1
      ∙ kept facts fact (none_offered fact every.0) (λ shown there. inr (all_left fact every.0 shown))

  -- A quote that is gone.

  on_it : (gone : ℕ) (shown : ShownOffer) (b : Bool) → (gone == shown.number) ≡ b
      → leaves number (Gone number gone) shown ≡ not b
  on_it gone shown b is =
      let own : (number == number) ≡ true = eq-eqb number number refl in
      rw (own, is) refl

  pub gone_words : (facts : List InvestorFact) (gone : ℕ)
      → ((shown : ShownOffer) → In shown (stand_in number facts)
      → (says shown ≡ None) ⊎ ((gone == shown.number) ≡ true))
      → words_in (facts ++ Gone number gone ∷ []) ≡ []
  gone_words facts gone each =
      dropped facts (Gone number gone) refl (λ shown there. elim (each shown there) [
        | inl none ↦ inl none
        | inr same ↦ inr (on_it gone shown true same)
      ])

  pub kept_words : (facts : List InvestorFact) (gone : ℕ)
      → ((shown : ShownOffer) → In shown (stand_in number facts)
      → (says shown ≡ None) ⊎ ((gone == shown.number) ≡ false))
      → words_in (facts ++ Gone number gone ∷ []) ≡ words_in facts
  kept_words facts gone each =
      kept facts (Gone number gone) refl (λ shown there. elim (each shown there) [
        | inl none ↦ inl none
        | inr differs ↦ inr (on_it gone shown false differs)
      ])

  -- A quote more.

  pub offered_words : (facts : List InvestorFact) (shown : ShownOffer)
      → is_some (request_numbered (book_of facts) number) ≡ true → (shown.request == number) ≡ true
      → words_in (facts ++ Offered shown ∷ []) ≡ words_in facts ++ filter_map says (shown ∷ [])
  offered_words facts shown found same =
      words_more facts (Offered shown) found
      ∙ ap (λ (l : List ℕ). l ++ filter_map says (offered_on number (Offered shown)))
      (left_says says (leaves number (Offered shown)) (stand_in number facts) (λ other there. inr refl))
      ∙ ap (λ (b : Bool). words_in facts ++ filter_map says (if b then shown ∷ [] else [])) same

-- Quotes by their numbers.

abbrev pub number_of : ShownOffer → ℕ
number_of shown = shown.number

found_number : (first : ℕ) (offers : List ShownOffer) → AreFrom number_of first offers
    → (shown : ShownOffer) → In shown offers
    → find (λ (s : ShownOffer). s.number == shown.number) offers ≡ Some shown
found_number first [] from shown there = absurd there
found_number first (other ∷ offers) from shown there =
    elim (cases_Bool (other.number == shown.number)) [
      | inl same ↦ rw same (ap (λ (s : ShownOffer). Some s)
          (one_with number_of first (other ∷ offers) from other shown (inl refl) there
          (eqb-true other.number shown.number same)))
      | inr differs ↦ elim there [
        | inl here ↦ absurd (false≢true (sym differs ∙ eq-eqb other.number shown.number (ap number_of here)))
        | inr behind ↦ rw differs (found_number (first + 1) offers from.1 shown behind)
      ]
    ]

pub numbered_one : (facts : List InvestorFact) → AreFrom number_of 1 (offers_of facts)
    → (shown : ShownOffer) → In shown (offers_of facts)
    → offer_numbered (book_of facts) shown.number ≡ Some shown
unfolding offer_numbered
numbered_one facts from shown there = found_number 1 (offers_of facts) from shown there
