-- A room without the posts, unposts and declines of other dealers: its request, whether it is ready
-- and whether it has ended, what a dealer can unpost there and what events other than a hit add are
-- what they are in it.
use Rattle.std.proofs.Common.{◌≡◌, ℕ, ◌==◌, Bool, true, false, ◌||◌, cond, List, [], ◌∷◌, filter}
use Rattle.std.proofs.Common.{Option, None, is_some, refl, sym, ap, ◌∙◌, arith, subst}
use Rattle.std.proofs.Common.{if◌then◌else◌}
use Rattle.std.specs.List.{list_any}
use Rattle.std.specs.Option.{option_or}
use Rattle.std.proofs.lemmas.Bool.Decides.{nat_tests}
use Rattle.request_room.specs.RoomFacts.{RoomFact, Opened, Readied, Posted, Unposted, Noted, Ended}
use Rattle.request_room.specs.RoomFacts.{first_said, opened_for, ended_as, is_readied, request_of}
use Rattle.request_room.specs.RoomFacts.{is_ready, is_ended}
use Rattle.request_room.specs.Book.{takes_out, book_of, is_quote_of, stands, may_unpost}
use Rattle.request_room.specs.Book.{quote_posted, fact_if, event_facts}
use Rattle.request_room.specs.declared.ends.End.{End}
use Rattle.request_room.specs.declared.events.RoomEvent.{RoomEvent}
use Rattle.request_room.specs.declared.events.RoomEvent.TheVariants as event
use Rattle.request_room.specs.declared.quotes.PostedQuote.{PostedQuote}
use Rattle.laws_days.specs.DutyWalk.{NoHitThere}
use Rattle.laws_days.specs.KeptItems.{any_kept}
use Rattle.laws_isolation.proofs.Quiet.{stays_in_room}

module _ (own : ℕ) where
  -- the facts of a room without the others
  abbrev pub quiet_room : List RoomFact → List RoomFact
  quiet_room facts = filter (stays_in_room own) facts

  -- What facts say.

  said_kept : {A : Type 0} (says : RoomFact → Option A)
      → ((fact : RoomFact) → stays_in_room own fact ≡ false → says fact ≡ None)
      → (facts : List RoomFact) → first_said says (quiet_room facts) ≡ first_said says facts
  said_kept says none [] = refl
  said_kept {A} says none (fact ∷ facts) =
      by_test (stays_in_room own fact) refl (said_kept says none facts)
    where
      by_test : (b : Bool) → stays_in_room own fact ≡ b
          → first_said says (quiet_room facts) ≡ first_said says facts
          → first_said says (cond b (fact ∷ quiet_room facts) (quiet_room facts))
          ≡ option_or (says fact) (first_said says facts)
      by_test true test rest = ap (λ (o : Option A). option_or (says fact) o) rest
      by_test false test rest = rw (none fact test) rest

  pub request_same : (facts : List RoomFact) → request_of (quiet_room facts) ≡ request_of facts
  request_same facts = said_kept opened_for none facts
    where
      none : (fact : RoomFact) → stays_in_room own fact ≡ false → opened_for fact ≡ None
      none (Opened request) is = cc
      none fact is = refl

  pub ready_same : (facts : List RoomFact) → is_ready (quiet_room facts) ≡ is_ready facts
  ready_same facts = any_kept (stays_in_room own) is_readied none facts
    where
      none : (fact : RoomFact) → stays_in_room own fact ≡ false → is_readied fact ≡ false
      none Readied is = cc
      none fact is = refl

  pub ended_same : (facts : List RoomFact) → is_ended (quiet_room facts) ≡ is_ended facts
  ended_same facts = ap (λ (o : Option End). is_some o) (said_kept ended_as none facts)
    where
      none : (fact : RoomFact) → stays_in_room own fact ≡ false → ended_as fact ≡ None
      none (Ended end moment) is = cc
      none fact is = refl

  ruleset said_same = (request_same, ready_same, ended_same)

  -- The book: an own quote stands in it or not, whoever else posts.

  -- no fact of another dealer takes an own quote out
  takes_none : (quote : PostedQuote) → (quote.dealer == own) ≡ true → (fact : RoomFact)
      → stays_in_room own fact ≡ false → takes_out quote fact ≡ false
  takes_none quote mine (Posted next) is =
      let next_is : (next.dealer == own) ≡ false = is in
      let apart : (quote.dealer == next.dealer) ≡ false = grind (arith, nat_tests) in
      apart
  takes_none quote mine (Unposted dealer word) is =
      let dealer_is : (dealer == own) ≡ false = is in
      let another : (quote.dealer == dealer) ≡ false = grind (arith, nat_tests) in
      rw another refl
  takes_none quote mine fact is = refl

  skipped : (b : Bool) (fact : RoomFact) (kept : List RoomFact) (word : ℕ)
      → book_of (fact ∷ kept) ≡ book_of kept
      → stands (book_of (cond b (fact ∷ kept) kept)) own word ≡ stands (book_of kept) own word
  skipped true fact kept word same =
      ap (λ (book : List PostedQuote). stands book own word) same
  skipped false fact kept word same = refl

  own_stands : (facts : List RoomFact) (word : ℕ)
      → stands (book_of (quiet_room facts)) own word ≡ stands (book_of facts) own word
  own_stands [] word = refl
  own_stands (Posted quote ∷ later) word =
      by_test (quote.dealer == own) refl (own_stands later word)
    where
      if_out : (out : Bool) (one other : List PostedQuote)
          → stands one own word ≡ stands other own word
          → stands (if out then one else quote ∷ one) own word
          ≡ stands (if out then other else quote ∷ other) own word
      if_out true one other same = same
      if_out false one other same = ap (λ (b : Bool). is_quote_of own word quote || b) same

      if_another : (out : Bool) → (quote.dealer == own) ≡ false
          → stands (book_of later) own word
          ≡ stands (if out then book_of later else quote ∷ book_of later) own word
      if_another true test = refl
      if_another false test = rw test refl

      by_test : (b : Bool) → (quote.dealer == own) ≡ b
          → stands (book_of (quiet_room later)) own word ≡ stands (book_of later) own word
          → stands (book_of (cond b (Posted quote ∷ quiet_room later) (quiet_room later))) own word
          ≡ stands (book_of (Posted quote ∷ later)) own word
      by_test true test rest =
          ap (λ (out : Bool). stands (if out then book_of (quiet_room later)
          else quote ∷ book_of (quiet_room later)) own word)
          (any_kept (stays_in_room own) (takes_out quote) (takes_none quote test) later)
          ∙ if_out (list_any (takes_out quote) later) (book_of (quiet_room later)) (book_of later)
          rest
      by_test false test rest =
          rest ∙ if_another (list_any (takes_out quote) later) test
  own_stands (Unposted dealer gone ∷ later) word =
      skipped (dealer == own) (Unposted dealer gone) (quiet_room later) word refl
      ∙ own_stands later word
  own_stands (Noted dealer ∷ later) word =
      skipped (dealer == own) (Noted dealer) (quiet_room later) word refl ∙ own_stands later word
  own_stands (fact ∷ later) word = own_stands later word

  -- an event of a dealer that is another one
  abbrev pub IsOfOther : RoomEvent → Type 0
  IsOfOther (event.Post dealer word price until) = (dealer == own) ≡ false
  IsOfOther (event.Unpost dealer word) = (dealer == own) ≡ false
  IsOfOther (event.Decline dealer) = (dealer == own) ≡ false
  IsOfOther other = ⊥

  module _ (facts : List RoomFact) where
    pub stands_same : (dealer word : ℕ) → (dealer == own) ≡ true
        → stands (book_of (quiet_room facts)) dealer word ≡ stands (book_of facts) dealer word
    stands_same dealer word mine =
        let same : own ≡ dealer = grind (arith, nat_tests) in
        subst (λ (d : ℕ). stands (book_of (quiet_room facts)) d word
        ≡ stands (book_of facts) d word) same (own_stands facts word)

    -- What an event adds.

    none_stays : (b : Bool) (fact : RoomFact) → stays_in_room own fact ≡ false
        → quiet_room (fact_if b fact) ≡ []
    none_stays true fact isnt = rw isnt refl
    none_stays false fact isnt = refl

    unposts_same : (dealer word : ℕ) (b : Bool) → (dealer == own) ≡ b
        → quiet_room (fact_if (may_unpost facts dealer word) (Unposted dealer word))
        ≡ quiet_room (fact_if (may_unpost (quiet_room facts) dealer word) (Unposted dealer word))
    unposts_same dealer word true mine =
        rw (request_same facts, ended_same facts, stands_same dealer word mine) refl
    unposts_same dealer word false another =
        none_stays (may_unpost facts dealer word) (Unposted dealer word) another
        ∙ sym (none_stays (may_unpost (quiet_room facts) dealer word) (Unposted dealer word)
        another)

    pub happens_same : (more : RoomEvent) → NoHitThere more
        → quiet_room (event_facts facts more) ≡ quiet_room (event_facts (quiet_room facts) more)
    unfolding event_facts
    happens_same (event.Unpost dealer word) isnt = unposts_same dealer word (dealer == own) refl
    happens_same (event.Hit word moment settlement) isnt = absurd isnt
    happens_same other isnt = simp said_same

    pub other_adds : (more : RoomEvent) → IsOfOther more
        → quiet_room (event_facts facts more) ≡ []
    unfolding event_facts
    other_adds (event.Post dealer word price until) another =
        none_stays _ (Posted (quote_posted dealer word price until)) another
    other_adds (event.Unpost dealer word) another = none_stays _ (Unposted dealer word) another
    other_adds (event.Decline dealer) another = none_stays _ (Noted dealer) another
    other_adds other another = absurd another
