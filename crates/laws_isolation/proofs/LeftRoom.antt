-- What is left of a room: its request, whether it is ready and whether it has ended, what the
-- dealer itself can unpost there, and what events other than a hit add, are what they are in the
-- room.
use Rattle.std.proofs.Common.{◌≡◌, ℕ, ◌==◌, ◌||◌, Bool, true, false, List, [], ◌∷◌, None, refl}
use Rattle.std.proofs.Common.{sym, ap, ◌∙◌, arith, subst, inl, inr, if◌then◌else◌}
use Rattle.std.specs.List.{list_any}
use Rattle.std.proofs.lemmas.Bool.{cases_Bool, eqb-true, or_parts}
use Rattle.std.proofs.lemmas.Bool.Decides.{nat_tests}
use Rattle.request_room.specs.RoomFacts.{RoomFact, Opened, Readied, Posted, Unposted, Noted, Ended}
use Rattle.request_room.specs.RoomFacts.{request_of, is_ready, is_ended}
use Rattle.request_room.specs.Book.{takes_out, book_of, is_quote_of, stands, may_unpost}
use Rattle.request_room.specs.Book.{quote_posted, fact_if, event_facts}
use Rattle.request_room.specs.declared.events.RoomEvent.{RoomEvent}
use Rattle.request_room.specs.declared.events.RoomEvent.TheVariants as event
use Rattle.request_room.specs.declared.quotes.PostedQuote.{PostedQuote}
use Rattle.laws_days.specs.DutyWalk.{NoHitThere}
use Rattle.laws_isolation.proofs.Left.{left_in_room}
use Rattle.laws_isolation.proofs.LeftPlaces.{left_room}
use Rattle.laws_isolation.proofs.QuietRoom.{IsOfOther}

module _ (own : ℕ) where
  -- What facts say.

  pub request_same : (facts : List RoomFact) → request_of (left_room own facts) ≡ request_of facts
  request_same [] = refl
  request_same (Posted quote ∷ facts) = elim (cases_Bool (quote.dealer == own)) [
    | inl is ↦ rw is (request_same facts)
    | inr is ↦ rw is (request_same facts)
  ]
  request_same (Unposted dealer word ∷ facts) = elim (cases_Bool (dealer == own)) [
    | inl is ↦ rw is (request_same facts)
    | inr is ↦ rw is (request_same facts)
  ]
  request_same (Noted dealer ∷ facts) = elim (cases_Bool (dealer == own)) [
    | inl is ↦ rw is (request_same facts)
    | inr is ↦ rw is (request_same facts)
  ]
  request_same (Opened request ∷ facts) = refl
  request_same (Readied ∷ facts) = request_same facts
  request_same (Ended end moment ∷ facts) = request_same facts

  pub ready_same : (facts : List RoomFact) → is_ready (left_room own facts) ≡ is_ready facts
  ready_same [] = refl
  ready_same (Posted quote ∷ facts) = elim (cases_Bool (quote.dealer == own)) [
    | inl is ↦ rw is (ready_same facts)
    | inr is ↦ rw is (ready_same facts)
  ]
  ready_same (Unposted dealer word ∷ facts) = elim (cases_Bool (dealer == own)) [
    | inl is ↦ rw is (ready_same facts)
    | inr is ↦ rw is (ready_same facts)
  ]
  ready_same (Noted dealer ∷ facts) = elim (cases_Bool (dealer == own)) [
    | inl is ↦ rw is (ready_same facts)
    | inr is ↦ rw is (ready_same facts)
  ]
  ready_same (Opened request ∷ facts) = ready_same facts
  ready_same (Readied ∷ facts) = refl
  ready_same (Ended end moment ∷ facts) = ready_same facts

  pub ended_same : (facts : List RoomFact) → is_ended (left_room own facts) ≡ is_ended facts
  ended_same [] = refl
  ended_same (Posted quote ∷ facts) = elim (cases_Bool (quote.dealer == own)) [
    | inl is ↦ rw is (ended_same facts)
    | inr is ↦ rw is (ended_same facts)
  ]
  ended_same (Unposted dealer word ∷ facts) = elim (cases_Bool (dealer == own)) [
    | inl is ↦ rw is (ended_same facts)
    | inr is ↦ rw is (ended_same facts)
  ]
  ended_same (Noted dealer ∷ facts) = elim (cases_Bool (dealer == own)) [
    | inl is ↦ rw is (ended_same facts)
    | inr is ↦ rw is (ended_same facts)
  ]
  ended_same (Opened request ∷ facts) = ended_same facts
  ended_same (Readied ∷ facts) = ended_same facts
  ended_same (Ended end moment ∷ facts) = refl

  ruleset said_same = (request_same, ready_same, ended_same)

  -- The book: an own quote stands in it or not, whoever else posts.

  -- what takes an own quote out is left
  takes_same : (quote : PostedQuote) → (quote.dealer == own) ≡ true → (facts : List RoomFact)
      → list_any (takes_out quote) (left_room own facts) ≡ list_any (takes_out quote) facts
  takes_same quote mine [] = refl
  takes_same quote mine (Posted next ∷ facts) = elim (cases_Bool (next.dealer == own)) [
    | inl is ↦ rw is (ap (λ (b : Bool). (quote.dealer == next.dealer) || b)
        (takes_same quote mine facts))
    | inr is ↦
        let apart : (quote.dealer == next.dealer) ≡ false = grind (arith, nat_tests) in
        rw (is, apart) (takes_same quote mine facts)
  ]
  takes_same quote mine (Unposted dealer word ∷ facts) = elim (cases_Bool (dealer == own)) [
    | inl is ↦ rw is (ap (λ (b : Bool). is_quote_of dealer word quote || b)
        (takes_same quote mine facts))
    | inr is ↦
        let apart : (quote.dealer == dealer) ≡ false = grind (arith, nat_tests) in
        rw (is, apart) (takes_same quote mine facts)
  ]
  takes_same quote mine (Noted dealer ∷ facts) = elim (cases_Bool (dealer == own)) [
    | inl is ↦ rw is (takes_same quote mine facts)
    | inr is ↦ rw is (takes_same quote mine facts)
  ]
  takes_same quote mine (fact ∷ facts) = takes_same quote mine facts

  pub own_stands : (facts : List RoomFact) (word : ℕ)
      → stands (book_of (left_room own facts)) own word ≡ stands (book_of facts) own word
  own_stands [] word = refl
  own_stands (Posted quote ∷ later) word = elim (cases_Bool (quote.dealer == own)) [
    | inl mine ↦ rw (mine, takes_same quote mine later)
        (if_out (list_any (takes_out quote) later) _ _ (own_stands later word))
    | inr another ↦ rw another
        (own_stands later word ∙ if_another (list_any (takes_out quote) later) another)
  ]
    where
      if_out : (out : Bool) (one other : List PostedQuote)
          → stands one own word ≡ stands other own word
          → stands (if out then one else quote ∷ one) own word
          ≡ stands (if out then other else quote ∷ other) own word
      if_out true one other same = same
      if_out false one other same = ap (λ (b : Bool). is_quote_of own word quote || b) same

      if_another : (out : Bool) → (quote.dealer == own) ≡ false
          → stands (book_of later) own word
          ≡ stands (if out then book_of later else quote ∷ book_of later) own word
      if_another true test = refl
      if_another false test = rw test refl
  own_stands (Unposted dealer gone ∷ later) word = elim (cases_Bool (dealer == own)) [
    | inl is ↦ rw is (own_stands later word)
    | inr is ↦ rw is (own_stands later word)
  ]
  own_stands (Noted dealer ∷ later) word = elim (cases_Bool (dealer == own)) [
    | inl is ↦ rw is (own_stands later word)
    | inr is ↦ rw is (own_stands later word)
  ]
  own_stands (Opened request ∷ later) word = own_stands later word
  own_stands (Readied ∷ later) word = own_stands later word
  own_stands (Ended end moment ∷ later) word = own_stands later word

  module _ (facts : List RoomFact) where
    pub stands_same : (dealer word : ℕ) → (dealer == own) ≡ true
        → stands (book_of (left_room own facts)) dealer word ≡ stands (book_of facts) dealer word
    stands_same dealer word mine =
        let same : own ≡ dealer = sym (eqb-true dealer own mine) in
        subst (λ (d : ℕ). stands (book_of (left_room own facts)) d word
        ≡ stands (book_of facts) d word) same (own_stands facts word)

    -- What an event adds.

    none_left : (b : Bool) (fact : RoomFact) → left_in_room own fact ≡ None
        → left_room own (fact_if b fact) ≡ []
    none_left true fact isnt = rw isnt refl
    none_left false fact isnt = refl

    unposts_same : (dealer word : ℕ)
        → left_room own (fact_if (may_unpost facts dealer word) (Unposted dealer word))
        ≡ left_room own
        (fact_if (may_unpost (left_room own facts) dealer word) (Unposted dealer word))
    unposts_same dealer word = elim (cases_Bool (dealer == own)) [
      | inl mine ↦ rw (request_same facts, ended_same facts, stands_same dealer word mine) refl
      | inr another ↦
          let none : left_in_room own (Unposted dealer word) ≡ None = rw another refl in
          none_left (may_unpost facts dealer word) (Unposted dealer word) none
          ∙ sym (none_left (may_unpost (left_room own facts) dealer word) (Unposted dealer word)
          none)
    ]

    pub happens_same : (more : RoomEvent) → NoHitThere more
        → left_room own (event_facts facts more)
        ≡ left_room own (event_facts (left_room own facts) more)
    unfolding event_facts
    happens_same (event.Unpost dealer word) isnt = unposts_same dealer word
    happens_same (event.Hit word moment settlement) isnt = absurd isnt
    happens_same other isnt = simp said_same

    pub other_adds : (more : RoomEvent) → IsOfOther own more
        → left_room own (event_facts facts more) ≡ []
    unfolding event_facts
    other_adds (event.Post dealer word price until) another =
        none_left _ (Posted (quote_posted dealer word price until)) (rw another refl)
    other_adds (event.Unpost dealer word) another =
        none_left _ (Unposted dealer word) (rw another refl)
    other_adds (event.Decline dealer) another = none_left _ (Noted dealer) (rw another refl)
    other_adds other another = absurd another

-- A dealer has one quote in a book at most.

-- a quote that a later one of its dealer takes out
module _ (dealer : ℕ) where
  -- no quote of the dealer stands where each is taken out by a later one
  none_stands : (quote : PostedQuote) → (quote.dealer == dealer) ≡ true → (later : List RoomFact)
      → list_any (takes_out quote) later ≡ false → (word : ℕ)
      → stands (book_of later) dealer word ≡ false
  none_stands quote mine [] none word = refl
  none_stands quote mine (Posted next ∷ later) none word =
      let parts = or_parts (quote.dealer == next.dealer) _ none in
      let apart : (next.dealer == dealer) ≡ false = grind (arith, nat_tests, parts.0) in
      let rest = none_stands quote mine later parts.1 word in
      elim (cases_Bool (list_any (takes_out next) later)) [
        | inl out ↦ rw out rest
        | inr stays ↦ rw (stays, apart) rest
      ]
  none_stands quote mine (Unposted other gone ∷ later) none word =
      none_stands quote mine later (or_parts (is_quote_of other gone quote) _ none).1 word
  none_stands quote mine (fact ∷ later) none word = none_stands quote mine later none word

  pub one_stands : (facts : List RoomFact) (one other : ℕ)
      → stands (book_of facts) dealer one ≡ true → stands (book_of facts) dealer other ≡ true
      → one ≡ other
  one_stands [] one other is also = cc
  one_stands (Posted quote ∷ later) one other is also =
      elim (cases_Bool (list_any (takes_out quote) later)) [
        | inl out ↦ one_stands later one other (rw out at is) (rw out at also)
        | inr stays ↦ elim (cases_Bool (quote.dealer == dealer)) [
          | inr another ↦ one_stands later one other (rw (stays, another) at is)
              (rw (stays, another) at also)
          | inl mine ↦
              let none = none_stands quote mine later stays in
              sym (word_is one (none one) (rw (stays, mine) at is))
              ∙ word_is other (none other) (rw (stays, mine) at also)
        ]
      ]
    where
      word_is : (word : ℕ) → stands (book_of later) dealer word ≡ false
          → ((quote.word == word) || stands (book_of later) dealer word) ≡ true
          → quote.word ≡ word
      word_is word none so = elim (cases_Bool (quote.word == word)) [
        | inl same ↦ eqb-true quote.word word same
        | inr differs ↦ cc (rw (differs, none) at so)
      ]
  one_stands (Opened request ∷ later) one other is also = one_stands later one other is also
  one_stands (Readied ∷ later) one other is also = one_stands later one other is also
  one_stands (Unposted other_dealer gone ∷ later) one other is also =
      one_stands later one other is also
  one_stands (Noted other_dealer ∷ later) one other is also = one_stands later one other is also
  one_stands (Ended end moment ∷ later) one other is also = one_stands later one other is also
