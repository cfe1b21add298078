-- The earliest posted quote that bears a word, in a book that is kept best first.
use Rattle.std.proofs.Common.{◌≡◌, ℕ, ◌+◌, ◌<◌, ◌≤◌, Bool, true, false, ◌==◌, cond, nat_lt, List}
use Rattle.std.proofs.Common.{[], ◌∷◌, Option, Some, None, IfSome, find, fold, refl, ap, sym, ◌∙◌}
use Rattle.std.proofs.Common.{arith}
use Rattle.std.specs.Option.{option_map, option_or}
use Rattle.std.proofs.lemmas.Bool.Decides.{nat_tests}
use Rattle.std.proofs.lemmas.Bool.{and_from, and_left, and_right}
use Rattle.market_terms.specs.declared.asks.Side.{Side}
use Rattle.request_room.specs.declared.book.RankedQuote.{RankedQuote}
use Rattle.request_room.specs.Book.{is_better}
use Rattle.request_room.specs.Kept.{rank_in, ranked, bears, comes_first, earlier_of, earliest_of}
use Rattle.request_room.specs.Kept.{quotes_in, IsPostedIn}

-- The earliest posted quote that bears a word.

-- each was posted before this number
abbrev AllBefore : ℕ → List RankedQuote → Type 0
AllBefore end [] = Unit {0}
AllBefore end (one ∷ others) = (one.posting < end) × AllBefore end others

before_later : (end later : ℕ) (quotes : List RankedQuote) → end ≤ later → AllBefore end quotes
    → AllBefore later quotes
before_later end later [] h all = tt
before_later end later (one ∷ others) h all = (omega arith, before_later end later others h all.1)

before_with : (side : Side) (new : RankedQuote) (quotes : List RankedQuote)
    → AllBefore new.posting quotes → AllBefore (new.posting + 1) (rank_in side quotes new)
before_with side new [] all = (omega arith, tt)
before_with side new (one ∷ others) all =
    elim (is_better side new.quote.price one.quote.price) as
    (λ b. AllBefore (new.posting + 1)
    (cond b (new ∷ one ∷ others) (one ∷ rank_in side others new))) [
      | true ↦ (
        omega arith,
        (
          omega arith,
          before_later new.posting (new.posting + 1) others
              (omega arith) all.1,
        ),
      )
      | false ↦ (omega arith, before_with side new others all.1)
    ]

taken : (w : ℕ) (found : Option RankedQuote) (one : RankedQuote) → comes_first w found one ≡ true
    → earlier_of w found one ≡ Some one
taken w found one h = ap (λ b. cond b (Some one) found) h

left : (w : ℕ) (found : Option RankedQuote) (one : RankedQuote) → comes_first w found one ≡ false
    → earlier_of w found one ≡ found
left w found one h = ap (λ b. cond b (Some one) found) h

none_bears : (w : ℕ) (one : RankedQuote) → bears w one ≡ false → (found : Option RankedQuote)
    → earlier_of w found one ≡ found
none_bears w one h None = left w None one h
none_bears w one h (Some first) =
    left w (Some first) one (and_left (bears w one) (nat_lt one.posting first.posting) h)

later_stays : (w : ℕ) (one new : RankedQuote) → one.posting < new.posting
    → earlier_of w (Some one) new ≡ Some one
later_stays w one new before =
    left w (Some one) new (and_right (bears w new) (nat_lt new.posting one.posting)
    (grind (arith, nat_tests)))

earlier_taken : (w : ℕ) (one new : RankedQuote) → bears w one ≡ true → one.posting < new.posting
    → earlier_of w (Some new) one ≡ Some one
earlier_taken w one new h before =
    taken w (Some new) one (and_from (bears w one) (nat_lt one.posting new.posting) h
    (grind (arith, nat_tests)))

-- the order in which two quotes that bear the word are looked at does not matter
either_order : (w : ℕ) (first new one : RankedQuote) (new_first one_first : Bool)
    → nat_lt new.posting first.posting ≡ new_first → nat_lt one.posting first.posting ≡ one_first
    → bears w new ≡ true → bears w one ≡ true → one.posting < new.posting
    → earlier_of w (earlier_of w (Some first) new) one
    ≡ earlier_of w (earlier_of w (Some first) one) new
either_order w first new one true true hn ho bn bo before =
    let by_new : earlier_of w (Some first) new ≡ Some new =
    taken w (Some first) new (and_from (bears w new) (nat_lt new.posting first.posting) bn hn) in
    let by_one : earlier_of w (Some first) one ≡ Some one =
    taken w (Some first) one (and_from (bears w one) (nat_lt one.posting first.posting) bo ho) in
    ap (λ o. earlier_of w o one) by_new ∙ earlier_taken w one new bo before
    ∙ sym (ap (λ o. earlier_of w o new) by_one ∙ later_stays w one new before)
either_order w first new one true false hn ho bn bo before =
    let clash : Unit {0} → one.posting < first.posting = λ _. grind (arith, nat_tests) in
    absurd (grind (arith, nat_tests))
either_order w first new one false true hn ho bn bo before =
    let by_new : earlier_of w (Some first) new ≡ Some first =
    left w (Some first) new (and_right (bears w new) (nat_lt new.posting first.posting) hn) in
    let by_one : earlier_of w (Some first) one ≡ Some one =
    taken w (Some first) one (and_from (bears w one) (nat_lt one.posting first.posting) bo ho) in
    ap (λ o. earlier_of w o one) by_new ∙ by_one
    ∙ sym (ap (λ o. earlier_of w o new) by_one ∙ later_stays w one new before)
either_order w first new one false false hn ho bn bo before =
    let by_new : earlier_of w (Some first) new ≡ Some first =
    left w (Some first) new (and_right (bears w new) (nat_lt new.posting first.posting) hn) in
    let by_one : earlier_of w (Some first) one ≡ Some first =
    left w (Some first) one (and_right (bears w one) (nat_lt one.posting first.posting) ho) in
    ap (λ o. earlier_of w o one) by_new ∙ by_one
    ∙ sym (ap (λ o. earlier_of w o new) by_one ∙ by_new)

bearers_in_order : (w : ℕ) (found : Option RankedQuote) (new one : RankedQuote) → bears w new ≡ true
    → bears w one ≡ true → one.posting < new.posting
    → earlier_of w (earlier_of w found new) one ≡ earlier_of w (earlier_of w found one) new
bearers_in_order w None new one bn bo before =
    ap (λ o. earlier_of w o one) (taken w None new bn) ∙ earlier_taken w one new bo before
    ∙ sym (ap (λ o. earlier_of w o new) (taken w None one bo) ∙ later_stays w one new before)
bearers_in_order w (Some first) new one bn bo before =
    either_order w first new one (nat_lt new.posting first.posting)
    (nat_lt one.posting first.posting) refl refl bn bo before

in_order : (w : ℕ) (found : Option RankedQuote) (new one : RankedQuote) (new_bears one_bears : Bool)
    → bears w new ≡ new_bears → bears w one ≡ one_bears → one.posting < new.posting
    → earlier_of w (earlier_of w found new) one ≡ earlier_of w (earlier_of w found one) new
in_order w found new one true true bn bo before = bearers_in_order w found new one bn bo before
in_order w found new one true false bn bo before =
    none_bears w one bo (earlier_of w found new)
    ∙ sym (ap (λ o. earlier_of w o new) (none_bears w one bo found))
in_order w found new one false one_bears bn bo before =
    ap (λ o. earlier_of w o one) (none_bears w new bn found)
    ∙ sym (none_bears w new bn (earlier_of w found one))

other_order : (w : ℕ) (found : Option RankedQuote) (new one : RankedQuote)
    → one.posting < new.posting → earlier_of w (earlier_of w found new) one
    ≡ earlier_of w (earlier_of w found one) new
other_order w found new one before =
    in_order w found new one (bears w new) (bears w one) refl refl before

-- a quote that was posted after the others may as well be looked at behind them
looked_at_last : (w : ℕ) (found : Option RankedQuote) (new : RankedQuote)
    (quotes : List RankedQuote) → AllBefore new.posting quotes
    → fold (earlier_of w) (earlier_of w found new) quotes
    ≡ earlier_of w (fold (earlier_of w) found quotes) new
looked_at_last w found new [] all = refl
looked_at_last w found new (one ∷ others) all =
    ap (λ o. fold (earlier_of w) o others) (other_order w found new one all.0)
    ∙ looked_at_last w (earlier_of w found one) new others all.1

earliest_by_test : (w : ℕ) (side : Side) (found : Option RankedQuote) (new one : RankedQuote)
    (others : List RankedQuote) (b : Bool) → AllBefore new.posting (one ∷ others)
    → fold (earlier_of w) (earlier_of w found one) (rank_in side others new)
    ≡ earlier_of w (fold (earlier_of w) (earlier_of w found one) others) new
    → fold (earlier_of w) found (cond b (new ∷ one ∷ others) (one ∷ rank_in side others new))
    ≡ earlier_of w (fold (earlier_of w) found (one ∷ others)) new
earliest_by_test w side found new one others true all more =
    looked_at_last w found new (one ∷ others) all
earliest_by_test w side found new one others false all more = more

earliest-rank_in : (w : ℕ) (side : Side) (found : Option RankedQuote) (new : RankedQuote)
    (quotes : List RankedQuote) → AllBefore new.posting quotes
    → fold (earlier_of w) found (rank_in side quotes new)
    ≡ earlier_of w (fold (earlier_of w) found quotes) new
earliest-rank_in w side found new [] all = refl
earliest-rank_in w side found new (one ∷ others) all =
    earliest_by_test w side found new one others (is_better side new.quote.price one.quote.price)
    all (earliest-rank_in w side (earlier_of w found one) new others all.1)

-- what was found was posted before
found_before : (w end : ℕ) (found : Option RankedQuote) (one : RankedQuote)
    → IfSome found (λ first. first.posting < end) → one.posting < end
    → IfSome (earlier_of w found one) (λ first. first.posting < end)
found_before w end found one h before =
    elim (comes_first w found one) as
    (λ b. IfSome (cond b (Some one) found) (λ first. first.posting < end))
    [ true ↦ before | false ↦ h ]

all_found_before : (w end : ℕ) (found : Option RankedQuote) (quotes : List RankedQuote)
    → IfSome found (λ first. first.posting < end) → AllBefore end quotes
    → IfSome (fold (earlier_of w) found quotes) (λ first. first.posting < end)
all_found_before w end found [] h all = h
all_found_before w end found (one ∷ others) h all =
    all_found_before w end (earlier_of w found one) others (found_before w end found one h all.0)
    all.1

-- a quote posted after what was found is taken only where nothing was found
then_later : (w : ℕ) (found : Option RankedQuote) (new : RankedQuote)
    → IfSome found (λ first. first.posting < new.posting) → earlier_of w found new
    ≡ option_or found (cond (bears w new) (Some new) None)
then_later w None new h = refl
then_later w (Some first) new h = later_stays w first new h

or_else : (found : Option RankedQuote) (b : Bool) (new : RankedQuote) (rest : Option RankedQuote)
    → option_or (option_or found (cond b (Some new) None)) rest
    ≡ option_or found (cond b (Some new) rest)
or_else None true new rest = refl
or_else None false new rest = refl
or_else (Some first) b new rest = refl

or_nothing : (found : Option RankedQuote) → found ≡ option_or found None
or_nothing None = refl
or_nothing (Some first) = refl

earliest-ranked_on : (w least end : ℕ) (side : Side) (best posted : List RankedQuote)
    → AllBefore least best → IsPostedIn least end posted
    → earliest_of w (fold (rank_in side) best posted)
    ≡ option_or (earliest_of w best) (find (bears w) posted)
earliest-ranked_on w least end side best [] all h = or_nothing (earliest_of w best)
earliest-ranked_on w least end side best (new ∷ later) all h =
    let before : AllBefore new.posting best = before_later least new.posting best h.0 all in
    earliest-ranked_on w (new.posting + 1) end side (rank_in side best new) later
    (before_with side new best before) h.2
    ∙ ap (λ found. option_or found (find (bears w) later))
    (earliest-rank_in w side None new best before
    ∙ then_later w (earliest_of w best) new (all_found_before w new.posting None best tt before))
    ∙ or_else (earliest_of w best) (bears w new) new (find (bears w) later)

find-map : (w : ℕ) (posted : List RankedQuote)
    → option_map (λ one. one.quote) (find (bears w) posted)
    ≡ find (λ quote. quote.word == w) (quotes_in posted)
find-map w [] = refl
find-map w (one ∷ others) =
    elim (one.quote.word == w) as (λ b. option_map (λ one. one.quote)
    (cond b (Some one) (find (bears w) others))
    ≡ cond b (Some one.quote) (find (λ quote. quote.word == w) (quotes_in others)))
    [ true ↦ refl | false ↦ find-map w others ]

-- the earliest posted of the kept quotes that bear a word is the first of the posted ones that does
pub earliest-ranked : (w end : ℕ) (side : Side) (posted : List RankedQuote)
    → IsPostedIn 0 end posted → option_map (λ one. one.quote) (earliest_of w (ranked side posted))
    ≡ find (λ quote. quote.word == w) (quotes_in posted)
earliest-ranked w end side posted h =
    ap (option_map (λ one. one.quote)) (earliest-ranked_on w 0 end side [] posted tt h)
    ∙ find-map w posted
