-- Quotes, withdrawals and declines of a dealer in their order: which of its quotes stands behind them.
use Rattle.std.proofs.Common.{◌≡◌, ◌==◌, ◌||◌, ◌⊎◌, ℕ, true, false, List, [], ◌∷◌, ◌++◌, filter_map}
use Rattle.std.proofs.Common.{Option, Some, None, refl, sym, ap, ◌∙◌, inl, inr}
use Rattle.std.specs.List.{cons_option, list_any}
use Rattle.std.proofs.lemmas.Bool.{and_parts, cases_Bool, eq-eqb, eqb-true, false≢true, or_cases, or_parts}
use Rattle.std.proofs.lemmas.Bool.{or_right}
use Rattle.std.proofs.lemmas.List.{append_assoc}
use Rattle.std.proofs.lemmas.Option.{same_Some}
use Rattle.request_room.specs.Book.{book_of, is_quote_of, stands, takes_out}
use Rattle.request_room.specs.RoomFacts.{Noted, Posted, RoomFact, Unposted}
use Rattle.request_room.specs.declared.quotes.PostedQuote.{PostedQuote}
use Rattle.step_replay.specs.Lists.{Every}
use Rattle.laws_rooms.specs.Answered.{Answer, Declines, Quotes, Withdraws, answer_in, answers_in, changes_in}
use Rattle.laws_rooms.specs.Tellings.{as_told, gone_first}

-- the word of the quote that stands behind these, where this one stood before
abbrev pub stands_after : Option ℕ → List Answer → Option ℕ
stands_after live [] = live
stands_after live (Quotes quote ∷ later) = stands_after (Some quote.word) later
stands_after live (Withdraws word ∷ later) = stands_after None later
stands_after live (Declines ∷ later) = stands_after live later

-- each withdrawal is of the quote that stands
abbrev pub Fit : Option ℕ → List Answer → Type 0
Fit live [] = Unit {0}
Fit live (Quotes quote ∷ later) = Fit (Some quote.word) later
Fit live (Withdraws word ∷ later) = (live ≡ Some word) × Fit None later
Fit live (Declines ∷ later) = Fit live later

pub after_both : (live : Option ℕ) (answers more : List Answer)
    → stands_after live (answers ++ more) ≡ stands_after (stands_after live answers) more
after_both live [] more = refl
after_both live (Quotes quote ∷ answers) more = after_both (Some quote.word) answers more
after_both live (Withdraws word ∷ answers) more = after_both None answers more
after_both live (Declines ∷ answers) more = after_both live answers more

pub fit_left : (live : Option ℕ) (answers more : List Answer) → Fit live (answers ++ more) → Fit live answers
fit_left live [] more fit = tt
fit_left live (Quotes quote ∷ answers) more fit = fit_left (Some quote.word) answers more fit
fit_left live (Withdraws word ∷ answers) more fit = (fit.0, fit_left None answers more fit.1)
fit_left live (Declines ∷ answers) more fit = fit_left live answers more fit

pub fit_right : (live : Option ℕ) (answers more : List Answer) → Fit live (answers ++ more)
    → Fit (stands_after live answers) more
fit_right live [] more fit = fit
fit_right live (Quotes quote ∷ answers) more fit = fit_right (Some quote.word) answers more fit
fit_right live (Withdraws word ∷ answers) more fit = fit_right None answers more fit.1
fit_right live (Declines ∷ answers) more fit = fit_right live answers more fit

pub fit_both : (live : Option ℕ) (answers more : List Answer) → Fit live answers
    → Fit (stands_after live answers) more → Fit live (answers ++ more)
fit_both live [] more one other = other
fit_both live (Quotes quote ∷ answers) more one other = fit_both (Some quote.word) answers more one other
fit_both live (Withdraws word ∷ answers) more one other = (one.0, fit_both None answers more one.1 other)
fit_both live (Declines ∷ answers) more one other = fit_both live answers more one other

pub told_with : (live : Option ℕ) (answers more : List Answer)
    → as_told live (answers ++ more) ≡ as_told live answers ++ as_told (stands_after live answers) more
told_with live [] more = refl
told_with live (Quotes quote ∷ answers) more =
    ap (λ (l : List Answer). gone_first live ++ Quotes quote ∷ l) (told_with (Some quote.word) answers more)
    ∙ sym (append_assoc (gone_first live) (Quotes quote ∷ as_told (Some quote.word) answers)
    (as_told (stands_after (Some quote.word) answers) more))
told_with live (Withdraws word ∷ answers) more =
    ap (λ (l : List Answer). Withdraws word ∷ l) (told_with None answers more)
told_with live (Declines ∷ answers) more =
    ap (λ (l : List Answer). Declines ∷ l) (told_with live answers more)

-- Quotes and declines alone.

abbrev pub plain : Answer → Option Answer
plain (Withdraws word) = None
plain answer = Some answer

abbrev pub plains : List Answer → List Answer
plains answers = filter_map plain answers

pub plain_changes : (dealer : ℕ) (facts : List RoomFact)
    → plains (changes_in dealer facts) ≡ answers_in dealer facts
plain_changes dealer [] = refl
plain_changes dealer (Posted quote ∷ facts) = elim (cases_Bool (quote.dealer == dealer)) [
  | inl same ↦ rw same (ap (λ (l : List Answer). Quotes quote ∷ l) (plain_changes dealer facts))
  | inr differs ↦ rw differs (plain_changes dealer facts)
]
plain_changes dealer (Noted other ∷ facts) = elim (cases_Bool (other == dealer)) [
  | inl same ↦ rw same (ap (λ (l : List Answer). Declines ∷ l) (plain_changes dealer facts))
  | inr differs ↦ rw differs (plain_changes dealer facts)
]
plain_changes dealer (Unposted other word ∷ facts) = elim (cases_Bool (other == dealer)) [
  | inl same ↦ rw same (plain_changes dealer facts)
  | inr differs ↦ rw differs (plain_changes dealer facts)
]
plain_changes dealer (fact ∷ facts) = plain_changes dealer facts

-- a fact that takes out no quote
abbrev pub IsNoUnpost : RoomFact → Type 0
IsNoUnpost (Unposted dealer word) = ⊥
IsNoUnpost fact = Unit {0}

pub same_changes : (dealer : ℕ) (facts : List RoomFact) → Every IsNoUnpost facts
    → changes_in dealer facts ≡ answers_in dealer facts
same_changes dealer [] every = refl
same_changes dealer (Unposted other word ∷ facts) every = absurd every.0
same_changes dealer (fact ∷ facts) every =
    ap (λ (l : List Answer). cons_option (answer_in dealer fact) l) (same_changes dealer facts every.1)

pub plain_fit : (dealer : ℕ) (live : Option ℕ) (facts : List RoomFact) → Every IsNoUnpost facts
    → Fit live (changes_in dealer facts)
plain_fit dealer live [] every = tt
plain_fit dealer live (Posted quote ∷ facts) every = elim (cases_Bool (quote.dealer == dealer)) [
  | inl same ↦ rw same (plain_fit dealer (Some quote.word) facts every.1)
  | inr differs ↦ rw differs (plain_fit dealer live facts every.1)
]
plain_fit dealer live (Noted other ∷ facts) every = elim (cases_Bool (other == dealer)) [
  | inl same ↦ rw same (plain_fit dealer live facts every.1)
  | inr differs ↦ rw differs (plain_fit dealer live facts every.1)
]
plain_fit dealer live (Unposted other word ∷ facts) every = absurd every.0
plain_fit dealer live (fact ∷ facts) every = plain_fit dealer live facts every.1

-- The quote that stands in the book of a room.

module _ (dealer : ℕ) where
  abbrev changes : List RoomFact → List Answer
  changes facts = changes_in dealer facts

  -- a quote of the dealer that nothing takes out
  untouched : (quote : PostedQuote) → quote.dealer ≡ dealer → (facts : List RoomFact)
      → Fit (Some quote.word) (changes facts) → list_any (takes_out quote) facts ≡ false
      → stands_after (Some quote.word) (changes facts) ≡ Some quote.word
  untouched quote own [] fit none = refl
  untouched quote own (Posted next ∷ later) fit none =
      let parts = or_parts (quote.dealer == next.dealer) (list_any (takes_out quote) later) none in
      elim (cases_Bool (next.dealer == dealer)) [
        | inl same ↦ absurd (false≢true (sym parts.0
            ∙ eq-eqb quote.dealer next.dealer (own ∙ sym (eqb-true next.dealer dealer same))))
        | inr differs ↦ rw differs (untouched quote own later (rw differs at fit) parts.1)
      ]
  untouched quote own (Unposted other word ∷ later) fit none =
      let parts = or_parts (is_quote_of other word quote) (list_any (takes_out quote) later) none in
      elim (cases_Bool (other == dealer)) [
        | inl same ↦
            (let fits : (Some quote.word ≡ Some word) × Fit None (changes later) = rw same at fit in
            let one : (quote.dealer == other) ≡ true =
            eq-eqb quote.dealer other (own ∙ sym (eqb-true other dealer same)) in
            let two : (quote.word == word) ≡ true =
            eq-eqb quote.word word (same_Some quote.word word fits.0) in
            absurd (false≢true (sym parts.0 ∙ rw (one, two) refl)))
        | inr differs ↦ rw differs (untouched quote own later (rw differs at fit) parts.1)
      ]
  untouched quote own (Noted other ∷ later) fit none = elim (cases_Bool (other == dealer)) [
    | inl same ↦ rw same (untouched quote own later (rw same at fit) none)
    | inr differs ↦ rw differs (untouched quote own later (rw differs at fit) none)
  ]
  untouched quote own (fact ∷ later) fit none = untouched quote own later fit none

  pub stands_live : (word : ℕ) (facts : List RoomFact) (live : Option ℕ) → Fit live (changes facts)
      → stands (book_of facts) dealer word ≡ true → stands_after live (changes facts) ≡ Some word
  stands_live word [] live fit is = cc
  stands_live word (Posted quote ∷ later) live fit is =
      elim (cases_Bool (quote.dealer == dealer)) [
        | inr differs ↦ elim (cases_Bool (list_any (takes_out quote) later)) [
          | inl taken ↦ rw differs (stands_live word later live (rw differs at fit) (rw taken at is))
          | inr stays ↦ rw differs (stands_live word later live (rw differs at fit) (rw (stays, differs) at is))
        ]
        | inl same ↦ elim (cases_Bool (list_any (takes_out quote) later)) [
          | inl taken ↦ rw same (stands_live word later (Some quote.word) (rw same at fit) (rw taken at is))
          | inr stays ↦
              (let either : (is_quote_of dealer word quote || stands (book_of later) dealer word) ≡ true =
              rw stays at is in
              elim (or_cases (is_quote_of dealer word quote) (stands (book_of later) dealer word) either) [
                | inr behind ↦ rw same (stands_live word later (Some quote.word) (rw same at fit) behind)
                | inl it ↦
                    (let words : quote.word ≡ word =
                    eqb-true quote.word word (and_parts (quote.dealer == dealer) (quote.word == word) it).1 in
                    rw same (untouched quote (eqb-true quote.dealer dealer same) later (rw same at fit) stays
                    ∙ ap (λ (w : ℕ). Some w) words))
              ])
        ]
      ]
  stands_live word (Unposted other gone ∷ later) live fit is = elim (cases_Bool (other == dealer)) [
    | inl same ↦
        (let fits : (live ≡ Some gone) × Fit None (changes later) = rw same at fit in
        rw same (stands_live word later None fits.1 is))
    | inr differs ↦ rw differs (stands_live word later live (rw differs at fit) is)
  ]
  stands_live word (Noted other ∷ later) live fit is = elim (cases_Bool (other == dealer)) [
    | inl same ↦ rw same (stands_live word later live (rw same at fit) is)
    | inr differs ↦ rw differs (stands_live word later live (rw differs at fit) is)
  ]
  stands_live word (fact ∷ later) live fit is = stands_live word later live fit is

  -- what stood before these facts is in no way touched by them
  abbrev AreElsewhere : List RoomFact → Type 0
  AreElsewhere facts = (quote : PostedQuote) → quote.dealer ≡ dealer → list_any (takes_out quote) facts ≡ false

  not_its : (quote : PostedQuote) (other : ℕ) → quote.dealer ≡ dealer → (other == dealer) ≡ false
      → (quote.dealer == other) ≡ false
  not_its quote other own differs = elim (cases_Bool (quote.dealer == other)) [
    | inr isnt ↦ isnt
    | inl same ↦ absurd (false≢true (sym differs
        ∙ eq-eqb other dealer (sym (eqb-true quote.dealer other same) ∙ own)))
  ]

  -- a quote more in the book
  behind_it : (quote : PostedQuote) (word : ℕ) (later : List RoomFact) → stands (book_of later) dealer word ≡ true
      → stands (book_of (Posted quote ∷ later)) dealer word ≡ true
  behind_it quote word later is = elim (cases_Bool (list_any (takes_out quote) later)) [
    | inl taken ↦ rw taken is
    | inr stays ↦ rw stays (or_right (is_quote_of dealer word quote) (stands (book_of later) dealer word) is)
  ]

  -- the quote that stands behind these stands in the book, or it stood before them
  live_stands : (word : ℕ) (facts : List RoomFact) (live : Option ℕ) → stands_after live (changes facts) ≡ Some word
      → (stands (book_of facts) dealer word ≡ true) ⊎ ((live ≡ Some word) × AreElsewhere facts)
  live_stands word [] live is = inr (is, λ quote own. refl)
  live_stands word (Posted quote ∷ later) live is = elim (cases_Bool (quote.dealer == dealer)) [
    | inl same ↦ elim (live_stands word later (Some quote.word) (rw same at is)) [
      | inl there ↦ inl (behind_it quote word later there)
      | inr it ↦
          (let stays = it.1 quote (eqb-true quote.dealer dealer same) in
          let its : (quote.word == word) ≡ true = eq-eqb quote.word word (same_Some quote.word word it.0) in
          inl (rw (stays, same, its) refl))
    ]
    | inr differs ↦ elim (live_stands word later live (rw differs at is)) [
      | inl there ↦ inl (behind_it quote word later there)
      | inr it ↦ inr (it.0, λ other own. rw (not_its other quote.dealer own differs) (it.1 other own))
    ]
  ]
  live_stands word (Unposted other gone ∷ later) live is = elim (cases_Bool (other == dealer)) [
    | inl same ↦ elim (live_stands word later None (rw same at is)) [
      | inl there ↦ inl there
      | inr it ↦ cc (it.0)
    ]
    | inr differs ↦ elim (live_stands word later live (rw differs at is)) [
      | inl there ↦ inl there
      | inr it ↦ inr (it.0, λ quote own. rw (not_its quote other own differs) (it.1 quote own))
    ]
  ]
  live_stands word (Noted other ∷ later) live is = elim (cases_Bool (other == dealer)) [
    | inl same ↦ live_stands word later live (rw same at is)
    | inr differs ↦ live_stands word later live (rw differs at is)
  ]
  live_stands word (fact ∷ later) live is = live_stands word later live is

  pub stands_there : (word : ℕ) (facts : List RoomFact) → stands_after None (changes facts) ≡ Some word
      → stands (book_of facts) dealer word ≡ true
  stands_there word facts is = elim (live_stands word facts None is) [
    | inl there ↦ there
    | inr it ↦ cc (it.0)
  ]
