-- What a relay and a withdrawal say at the desk of an investor of one dealer's quotes on one request: where a
-- quote of the dealer stands, it is gone.
use Rattle.std.proofs.Common.{◌≡◌, ◌==◌, ◌&&◌, ◌+◌, ℕ, Bool, true, false, nat_le, List, [], ◌∷◌, ◌++◌, filter_map, find}
use Rattle.std.proofs.Common.{Option, Some, None, is_some, option_map, option_to_list, refl, sym, ap, ◌∙◌, subst}
use Rattle.std.proofs.Common.{inl, inr, ◌⊎◌, arith}
use Rattle.std.specs.List.{cons_option}
use Rattle.std.proofs.lemmas.Bool.{cases_Bool, eq-eqb, eqb-true, false≢true}
use Rattle.std.proofs.lemmas.List.{append-nil, append_assoc}
use Rattle.std.proofs.lemmas.Option.{same_Some}
use Rattle.market_terms.specs.declared.rooms.Offer.{Offer}
use Rattle.market_terms.specs.declared.rooms.RoomRef.{RoomRef}
use Rattle.venue_rows.specs.Rows.{Configuration, KeepsLimits, dealer_numbered}
use Rattle.venue_rows.specs.Texts.{same_text}
use Rattle.venue_rows.specs.declared.dealer_rows.DealerRow.{DealerRow}
use Rattle.venue_steps.specs.Dealers.{QuoteRef, dealer_of, offer_of, quote_with_word}
use Rattle.investor_desk.specs.InvestorFacts.{Gone, InvestorFact, Offered, StandingRequest, book_of}
use Rattle.investor_desk.specs.InvestorFacts.{offers_of}
use Rattle.investor_desk.specs.InvestorFacts.{offer_numbered, request_numbered}
use Rattle.investor_desk.specs.InvestorOutput as investor_output
use Rattle.investor_desk.specs.InvestorRules.{InvestorMarket}
use Rattle.investor_desk.specs.declared.standing.ShownOffer.{ShownOffer}
use Rattle.request_room.specs.Book.{quote_posted}
use Rattle.request_room.specs.declared.quotes.PostedQuote.{PostedQuote}
use Rattle.step_replay.specs.Lists.{Every, In}
use Rattle.step_replay.specs.OwnerLemmas.{owner_among, quote_at}
use Rattle.laws_shown.proofs.ListLemmas.{AreFrom}
use Rattle.laws_days.proofs.FirmNames.{same_dealer}
use Rattle.laws_days.proofs.ListLemmas.{found_in}
use Rattle.laws_rooms.specs.Answered.{Answer, Quotes, Withdraws}
use Rattle.laws_rooms.specs.Offers.{is_of, shown_of}
use Rattle.laws_rooms.specs.Tellings.{IsAnothers, IsIts, IsOther, as_told}
use Rattle.laws_rooms.proofs.DeclineLemmas.{found_there}
use Rattle.laws_rooms.proofs.FoundLemmas.{found_none, found_one}
use Rattle.laws_rooms.proofs.StandLemmas.{IsElsewhere, found_more, gone_words, kept_words}
use Rattle.laws_rooms.proofs.StandLemmas.{number_of, numbered_one, offered_words, stand_in, stand_there}
use Rattle.laws_rooms.proofs.StandLemmas.{standing_at, words_in}
use Rattle.laws_rooms.proofs.TellingParts.{FactsSay}

module _ (config : Configuration) (dealer : ℕ) (row : DealerRow)
    (is : dealer_numbered config dealer ≡ Some row) (room : RoomRef) where
  -- the word of a quote that was shown, where it is the dealer's on this request
  abbrev pub word_of : ShownOffer → Option ℕ
  word_of shown = option_map (λ (quote : PostedQuote). quote.word) (shown_of config dealer room.n shown)

  abbrev pub words : List InvestorFact → List ℕ
  words known = words_in room.n word_of known

  -- an offer is a quote of a dealer with this number: it bears the dealer's name, and a word of its
  pub record OfDealer (offer : Offer) (whose : ℕ) : Type 0 where
    pub own : DealerRow
    pub own_is : dealer_numbered config whose ≡ Some own
    pub name_is : offer.dealer ≡ own.name
    pub its_is : is_of dealer (quote_with_word config offer.word) ≡ (whose == dealer)

  pub of_offer : (offer : Offer) (whose : ℕ) (own : DealerRow) (quote price : ℕ) (until : Option ℕ)
      → dealer_numbered config whose ≡ Some own → (nat_le 1 quote && nat_le quote own.quotes) ≡ true
      → offer ≡ offer_of config (dealer_of whose own) quote price until → OfDealer offer whose
  of_offer offer whose own quote price until own_is within offer_is =
      let number : 0 + whose ≡ whose = omega arith in
      record {
        own = own;
        own_is = own_is;
        name_is = ap (λ (o : Offer). o.dealer) offer_is;
        its_is = ap (λ (o : Offer). is_of dealer (quote_with_word config o.word)) offer_is
            ∙ ap (λ (q : Option QuoteRef). is_of dealer q)
            (owner_among 0 config.dealers whose own quote own_is within
            ∙ ap (λ (n : ℕ). Some (quote_at n quote)) number);
      }

  -- A quote on this request, by whose word it is.

  module _ (shown : ShownOffer) (same : (shown.request == room.n) ≡ true) where
    its_word : is_of dealer (quote_with_word config shown.offer.word) ≡ true → word_of shown ≡ Some shown.offer.word
    its_word mine = rw (same, mine) refl

    no_word : is_of dealer (quote_with_word config shown.offer.word) ≡ false → word_of shown ≡ None
    no_word isnt = rw (same, isnt) refl

    has_word : is_some (word_of shown) ≡ is_of dealer (quote_with_word config shown.offer.word)
    has_word = elim (cases_Bool (is_of dealer (quote_with_word config shown.offer.word))) [
      | inl mine ↦ rw (same, mine) refl
      | inr isnt ↦ rw (same, isnt) refl
    ]

  none_shown : (found : Option PostedQuote) → option_map (λ (quote : PostedQuote). quote.word) found ≡ None
      → found ≡ None
  none_shown None none = refl
  none_shown (Some quote) none = cc

  some_shown : (found : Option PostedQuote) (word : ℕ)
      → option_map (λ (quote : PostedQuote). quote.word) found ≡ Some word
      → (quote : PostedQuote) × (found ≡ Some quote) × (quote.word ≡ word)
  some_shown None word some = cc
  some_shown (Some quote) word some = (quote, refl, same_Some quote.word word some)

  -- What is elsewhere says nothing of it.

  elsewhere_none : (shown : ShownOffer) → (shown.request == room.n) ≡ false
      → shown_of config dealer room.n shown ≡ None
  elsewhere_none shown differs = rw differs refl

  module _ (market : InvestorMarket) (known : List InvestorFact) where
    abbrev OtherHere : InvestorFact → Type 0
    OtherHere fact = IsOther config market dealer row.name room.n known fact

    abbrev SayHere : List Answer → List InvestorFact → Type 0
    SayHere answers facts = FactsSay config market dealer row.name room.n known answers facts

    elsewhere_other : (fact : InvestorFact) → IsElsewhere room.n fact → OtherHere fact
    elsewhere_other (Offered shown) differs = elsewhere_none shown differs
    elsewhere_other (Gone on gone) differs =
        λ same. absurd (false≢true (sym differs ∙ eq-eqb on room.n same))
    elsewhere_other fact differs = tt

    pub elsewhere_others : (facts : List InvestorFact) → Every (IsElsewhere room.n) facts → Every OtherHere facts
    elsewhere_others [] every = tt
    elsewhere_others (fact ∷ facts) every =
        (elsewhere_other fact every.0, elsewhere_others facts every.1)

    -- At the desk.

    module _ (limits : KeepsLimits config) (from : AreFrom number_of 1 (offers_of known))
        (offers_ok : (shown : ShownOffer) → In shown (offers_of known) → (whose : ℕ) × OfDealer shown.offer whose)
        (own : StandingRequest) (found : request_numbered (book_of known) room.n ≡ Some own) where
      standing_is : stand_in room.n known ≡ own.standing
      standing_is = ap (λ (r : Option StandingRequest). standing_at r) found

      is_there : is_some (request_numbered (book_of known) room.n) ≡ true
      is_there = ap (λ (r : Option StandingRequest). is_some r) found

      here : (shown : ShownOffer) → In shown (stand_in room.n known) → (shown.request == room.n) ≡ true
      here shown there = eq-eqb shown.request room.n (stand_there room.n known shown there).1

      -- the name of an offer is this dealer's just where its word is
      by_name : (offer : Offer) (whose : ℕ) → OfDealer offer whose
          → same_text offer.dealer row.name ≡ is_of dealer (quote_with_word config offer.word)
      by_name offer whose its =
          ap (λ (n : List ℕ). same_text n row.name) its.name_is
          ∙ same_dealer config limits whose dealer its.own row its.own_is is ∙ sym its.its_is

      module _ (test : ShownOffer → Bool) where
        -- a quote of the dealer that stands is gone, where one does
        pub data GoneBy (live : Option ℕ) : Type 0 where
          none_stands : live ≡ None → find test own.standing ≡ None → GoneBy live
          one_stands : (word : ℕ) (one : ShownOffer) → live ≡ Some word → find test own.standing ≡ Some one
              → IsIts config dealer room.n known one.number word → GoneBy live

        pub record Goes (live : Option ℕ) : Type 0 where
          pub by : GoneBy live
          pub left : words (known ++ investor_output.gone_facts room.n (find test own.standing)) ≡ []

        pub goes : ((shown : ShownOffer) → In shown (stand_in room.n known) → test shown ≡ is_some (word_of shown))
            → (live : Option ℕ) → words known ≡ option_to_list live → Goes live
        goes names None none =
            let nobody : find test own.standing ≡ None =
            subst (λ (l : List ShownOffer). find test l ≡ None) standing_is
            (found_none word_of test (stand_in room.n known) names none) in
            record {
              by = none_stands refl nobody;
              left = ap (λ (f : Option ShownOffer). words (known ++ investor_output.gone_facts room.n f)) nobody
                  ∙ ap (λ (l : List InvestorFact). words l) (append-nil known) ∙ none;
            }
        goes names (Some word) stands =
            let f = found_one word_of test (stand_in room.n known) word names stands in
            let it : find test own.standing ≡ Some f.one =
            subst (λ (l : List ShownOffer). find test l ≡ Some f.one) standing_is f.found in
            let quote = some_shown (shown_of config dealer room.n f.one) word f.says_it in
            record {
              by = one_stands word f.one refl it (record {
                shown = f.one;
                was_shown = numbered_one known from f.one (stand_there room.n known f.one f.there).0;
                quote = quote.0;
                is_its = quote.1;
                word_is = quote.2;
              });
              left = ap (λ (g : Option ShownOffer). words (known ++ investor_output.gone_facts room.n g)) it
                  ∙ gone_words room.n word_of known f.one.number (λ shown there.
                  elim (f.alone shown there) [
                    | inl none ↦ inl none
                    | inr same ↦ inr (eq-eqb f.one.number shown.number
                        (ap (λ (s : ShownOffer). s.number) (sym same)))
                  ]);
            }

        -- a quote that is found of another dealer
        pub record Stays : Type 0 where
          pub others : Every OtherHere (investor_output.gone_facts room.n (find test own.standing))
          pub stay : words (known ++ investor_output.gone_facts room.n (find test own.standing)) ≡ words known

        anothers : (one : ShownOffer) → In one (stand_in room.n known) → word_of one ≡ None
            → IsAnothers config dealer room.n known one.number
        anothers one there none = record {
          shown = one;
          was_shown = numbered_one known from one (stand_there room.n known one there).0;
          is_anothers = none_shown (shown_of config dealer room.n one) none;
        }

        -- two quotes that stand under one number are one
        apart : (one : ShownOffer) → In one (stand_in room.n known) → word_of one ≡ None → (shown : ShownOffer)
            → In shown (stand_in room.n known)
            → (word_of shown ≡ None) ⊎ ((one.number == shown.number) ≡ false)
        apart one there none shown also = elim (cases_Bool (one.number == shown.number)) [
          | inr differs ↦ inr differs
          | inl same ↦
              (let its = numbered_one known from one (stand_there room.n known one there).0 in
              let other = numbered_one known from shown (stand_there room.n known shown also).0 in
              let it : one ≡ shown = same_Some one shown (sym its
              ∙ ap (λ (n : ℕ). offer_numbered (book_of known) n) (eqb-true one.number shown.number same) ∙ other) in
              inl (subst (λ (s : ShownOffer). word_of s ≡ None) it none))
        ]

        by_found : (old : Option ShownOffer) → find test own.standing ≡ old
            → ((one : ShownOffer) → old ≡ Some one → In one (stand_in room.n known) × (word_of one ≡ None))
            → Stays
        by_found None at each = record {
          others = subst (λ (f : Option ShownOffer). Every OtherHere (investor_output.gone_facts room.n f))
              (sym at) tt;
          stay = ap (λ (f : Option ShownOffer). words (known ++ investor_output.gone_facts room.n f)) at
              ∙ ap (λ (l : List InvestorFact). words l) (append-nil known);
        }
        by_found (Some one) at each =
            let it = each one refl in
            record {
              others = subst (λ (f : Option ShownOffer). Every OtherHere (investor_output.gone_facts room.n f))
                  (sym at) (λ same. anothers one it.0 it.1, tt);
              stay = ap (λ (f : Option ShownOffer). words (known ++ investor_output.gone_facts room.n f)) at
                  ∙ kept_words room.n word_of known one.number (apart one it.0 it.1);
            }

        pub stays : ((shown : ShownOffer) → In shown (stand_in room.n known) → test shown ≡ true
            → word_of shown ≡ None) → Stays
        stays isnt = by_found (find test own.standing) refl (λ one at.
            let there = found_there test own.standing one at in
            let stands : In one (stand_in room.n known) =
            subst (λ (l : List ShownOffer). In one l) (sym standing_is) there.0 in
            (stands, isnt one stands there.1))

      -- A quote that comes.

      module _ (offer : Offer) where
        abbrev next : ShownOffer
        next = investor_output.next_offer (book_of known) room.n offer

        abbrev by_its_name : ShownOffer → Bool
        by_its_name shown = same_text shown.offer.dealer offer.dealer

        abbrev pub come : List InvestorFact
        come = investor_output.offer_facts (book_of known) room.n offer (Some own)

        abbrev old : Option ShownOffer
        old = find by_its_name own.standing

        own_request : (next.request == room.n) ≡ true
        own_request = eq-eqb room.n room.n refl

        -- what stands with it
        with_it : words (known ++ come)
            ≡ words (known ++ investor_output.gone_facts room.n old) ++ filter_map word_of (next ∷ [])
        with_it =
            ap (λ (l : List InvestorFact). words l)
            (sym (append_assoc known (investor_output.gone_facts room.n old) (Offered next ∷ [])))
            ∙ offered_words room.n word_of (known ++ investor_output.gone_facts room.n old) next
            (found_more room.n known (investor_output.gone_facts room.n old) is_there) own_request

        abbrev posted : PostedQuote
        posted = quote_posted dealer offer.word offer.price offer.valid_until

        -- this dealer's
        module _ (its : OfDealer offer dealer) where
          its_own : is_of dealer (quote_with_word config offer.word) ≡ true
          its_own = its.its_is ∙ eq-eqb dealer dealer refl

          its_name : offer.dealer ≡ row.name
          its_name = its.name_is ∙ ap (λ (r : DealerRow). r.name) (same_Some its.own row (sym its.own_is ∙ is))

          names : (shown : ShownOffer) → In shown (stand_in room.n known) → by_its_name shown ≡ is_some (word_of shown)
          names shown there =
              let whose = offers_ok shown (stand_there room.n known shown there).0 in
              ap (λ (n : List ℕ). same_text shown.offer.dealer n) its_name
              ∙ by_name shown.offer whose.0 whose.1 ∙ sym (has_word shown (here shown there))

          shows_it : shown_of config dealer room.n next ≡ Some posted
          shows_it = rw (own_request, its_own) refl

          says_it : (live : Option ℕ) → GoneBy by_its_name live → SayHere (as_told live (Quotes posted ∷ [])) come
          says_it live (none_stands none nobody) = rw (none, nobody) (shows_it, tt)
          says_it live (one_stands word one stands it its_old) = rw (stands, it) ((refl, its_old), (shows_it, tt))

          pub record Comes (live : Option ℕ) : Type 0 where
            pub say : SayHere (as_told live (Quotes posted ∷ [])) come
            pub stand : words (known ++ come) ≡ offer.word ∷ []

          pub comes : (live : Option ℕ) → words known ≡ option_to_list live → Comes live
          comes live stands =
              let g = goes by_its_name names live stands in
              record {
                say = says_it live g.by;
                stand = with_it ∙ ap (λ (l : List ℕ). l ++ filter_map word_of (next ∷ [])) g.left
                    ∙ ap (λ (o : Option ℕ). cons_option o []) (its_word next own_request its_own);
              }

        -- another dealer's
        pub record Beside : Type 0 where
          pub others : Every OtherHere come
          pub stay : words (known ++ come) ≡ words known

        module _ (whose : ℕ) (its : OfDealer offer whose) (differs : (whose == dealer) ≡ false) where
          not_its : is_of dealer (quote_with_word config offer.word) ≡ false
          not_its = its.its_is ∙ differs

          hidden : shown_of config dealer room.n next ≡ None
          hidden = rw (own_request, not_its) refl

          another_name : (shown : ShownOffer) → In shown (stand_in room.n known) → by_its_name shown ≡ true
              → word_of shown ≡ None
          another_name shown there same =
              let of = offers_ok shown (stand_there room.n known shown there).0 in
              let names_are : same_text shown.offer.dealer offer.dealer ≡ (of.0 == whose) =
              ap (λ (n : List ℕ). same_text n offer.dealer) of.1.name_is
              ∙ ap (λ (n : List ℕ). same_text of.1.own.name n) its.name_is
              ∙ same_dealer config limits of.0 whose of.1.own its.own of.1.own_is its.own_is in
              let one : of.0 ≡ whose = eqb-true of.0 whose (sym names_are ∙ same) in
              no_word shown (here shown there)
              (of.1.its_is ∙ ap (λ (n : ℕ). n == dealer) one ∙ differs)

          both_others : (facts : List InvestorFact) → Every OtherHere facts → Every OtherHere (facts ++ Offered next ∷ [])
          both_others [] every = (hidden, tt)
          both_others (fact ∷ facts) every = (every.0, both_others facts every.1)

          pub beside : Beside
          beside =
              let s = stays by_its_name another_name in
              record {
                others = both_others (investor_output.gone_facts room.n old) s.others;
                stay = with_it ∙ ap (λ (l : List ℕ). l ++ filter_map word_of (next ∷ [])) s.stay
                    ∙ ap (λ (o : Option ℕ). words known ++ cons_option o []) (no_word next own_request not_its)
                    ∙ append-nil (words known);
              }

      -- A quote that is withdrawn.

      module _ (word : ℕ) where
        abbrev by_its_word : ShownOffer → Bool
        by_its_word shown = shown.offer.word == word

        abbrev pub gone : List InvestorFact
        gone = investor_output.withdrawal_facts room.n word (Some own)

        -- this dealer's, which stands
        module _ (stands : words known ≡ word ∷ []) where
          bears : (shown : ShownOffer) (found_word : Option ℕ) → word_of shown ≡ found_word
              → In shown (stand_in room.n known) → is_of dealer (quote_with_word config word) ≡ true
              → by_its_word shown ≡ is_some found_word
          bears shown None none there mine = elim (cases_Bool (shown.offer.word == word)) [
            | inr differs ↦ differs
            | inl same ↦ cc (sym none ∙ its_word shown (here shown there)
                (ap (λ (w : ℕ). is_of dealer (quote_with_word config w)) (eqb-true shown.offer.word word same) ∙ mine))
          ]
          bears shown (Some other) some there mine =
              eq-eqb shown.offer.word word (shown_word shown (here shown there) other some
              ∙ one_word other (found_in word_of shown other (stand_in room.n known) some there))
            where
              shown_word : (s : ShownOffer) → (s.request == room.n) ≡ true → (w : ℕ) → word_of s ≡ Some w
                  → s.offer.word ≡ w
              shown_word s same w has = elim (cases_Bool (is_of dealer (quote_with_word config s.offer.word))) [
                | inl owns ↦ same_Some s.offer.word w (sym (its_word s same owns) ∙ has)
                | inr isnt ↦ cc (sym (no_word s same isnt) ∙ has)
              ]

              one_word : (w : ℕ) → In w (words known) → w ≡ word
              one_word w is_in = elim (subst (λ (l : List ℕ). In w l) stands is_in) [
                | inl it ↦ sym it
                | inr never ↦ absurd never
              ]

          pub record Withdrawn : Type 0 where
            pub say : SayHere (Withdraws word ∷ []) gone
            pub none_left : words (known ++ gone) ≡ []

          says_gone : GoneBy by_its_word (Some word) → SayHere (Withdraws word ∷ []) gone
          says_gone (none_stands none nobody) = cc
          says_gone (one_stands other one same it its) =
              rw it (
                (
                  refl,
                  subst (λ (w : ℕ). IsIts config dealer room.n known one.number w)
                      (sym (same_Some word other same)) its,
                ),
                tt,
              )

          pub withdrawn : is_of dealer (quote_with_word config word) ≡ true → Withdrawn
          withdrawn mine =
              let g = goes by_its_word (λ shown there. bears shown (word_of shown) refl there mine) (Some word) stands in
              record { say = says_gone g.by; none_left = g.left }

        -- another dealer's
        pub record StaysBeside : Type 0 where
          pub others : Every OtherHere gone
          pub stay : words (known ++ gone) ≡ words known

        pub withdrawn_beside : is_of dealer (quote_with_word config word) ≡ false → StaysBeside
        withdrawn_beside isnt =
            let s = stays by_its_word (λ shown there same. no_word shown (here shown there)
            (ap (λ (w : ℕ). is_of dealer (quote_with_word config w)) (eqb-true shown.offer.word word same) ∙ isnt)) in
            record { others = s.others; stay = s.stay }
