-- How the settlements of a desk go on event by event, and what the code puts for an event.
use Rattle.std.proofs.Common.{◌≡◌, ℕ, ◌==◌, Bool, true, false, ◌&&◌, List, [], ◌∷◌, ◌++◌, Option}
use Rattle.std.proofs.Common.{Some, All, refl, sym, ap, subst, ◌∙◌, arith, ◌⊎◌, inl, inr}
use Rattle.std.specs.List.{list_any}
use Rattle.std.proofs.Math.Seq.{append_snoc}
use Rattle.std.proofs.lemmas.Bool.Decides.{nat_tests}
use Rattle.std.proofs.lemmas.List.{append-nil}
use Rattle.std.proofs.lemmas.List.Elements.{All-cons, All-head, All-nil, All-tail}
use Rattle.std.proofs.lemmas.Bool.{or_from}
use Rattle.quote_word.specs.declared.settled.Settled.{Settled}
use Rattle.market_terms.specs.declared.asks.Ask.{Ask}
use Rattle.market_terms.specs.declared.closes.Close.{Close}
use Rattle.market_terms.specs.declared.rooms.RoomRef.{RoomRef}
use Rattle.dealer_desk.specs.DealerFacts.{number_to_drop}
use Rattle.dealer_desk.specs.DealerDesk.{DeskEvents, with_event, book_at, verdict_at, with_notice}
use Rattle.dealer_desk.specs.DealerOutput.{word_asked}
use Rattle.dealer_desk.specs.declared.events.DealerEvent.{DealerEvent}
use Rattle.dealer_desk.specs.declared.events.DealerEvent.TheVariants as event
use Rattle.step_replay.specs.declared.dues.Due.{Due}
use Rattle.step_replay.specs.declared.dues.Due.TheVariants as due
use Rattle.recorded_days.specs.DayDues.{AreAnsweredFrom, DayDues, IsSettledIfAsked, after_drop, after_own}
use Rattle.recorded_days.specs.DayDues.{after_recorded, settlement_taken, lifting_learned}

-- Lists.

pub all_front : {A : Type 0} (P : A → Type 0) (xs ys : List A) → All P (xs ++ ys) → All P xs
all_front P [] ys all = All-nil P
all_front P (x ∷ xs) ys all =
    All-cons P x xs (All-head P x (xs ++ ys) all)
    (all_front P xs ys (All-tail P x (xs ++ ys) all))

pub all_behind : {A : Type 0} (P : A → Type 0) (xs ys : List A) → All P (xs ++ ys) → All P ys
all_behind P [] ys all = all
all_behind P (x ∷ xs) ys all = all_behind P xs ys (All-tail P x (xs ++ ys) all)

-- what each element more keeps is kept by a list more
pub kept_by_more : {A : Type 0} (P : List A → Type 0)
    → ((xs : List A) (x : A) → P xs → P (xs ++ x ∷ [])) → (xs ys : List A) → P xs → P (xs ++ ys)
kept_by_more P more xs [] p = subst P (sym (append-nil xs)) p
kept_by_more P more xs (y ∷ ys) p =
    subst P (append_snoc xs y ys) (kept_by_more P more (xs ++ y ∷ []) ys (more xs y p))

-- The settlements of a desk.

-- a desk with more events
abbrev with_events : DeskEvents → List DealerEvent → DeskEvents
with_events desk more = record desk { events = desk.events ++ more }

pub answered_more : (desk : DeskEvents) (events : List DealerEvent) (now : DealerEvent)
    → AreAnsweredFrom desk events → IsSettledIfAsked (with_events desk events) now
    → AreAnsweredFrom desk (events ++ now ∷ [])
answered_more desk [] now before is = (
  subst (λ (l : List DealerEvent). IsSettledIfAsked (record desk { events = l }) now)
      (append-nil desk.events) is,
  tt,
)
answered_more desk (first ∷ events) now before is = (
  before.0,
  answered_more (with_event desk first) events now before.1
      (subst (λ (l : List DealerEvent). IsSettledIfAsked (record desk { events = l }) now)
      (sym (append_snoc desk.events first events)) is),
)

pub answered_before : (desk : DeskEvents) (events : List DealerEvent) (now : DealerEvent)
    → AreAnsweredFrom desk (events ++ now ∷ []) → AreAnsweredFrom desk events
answered_before desk [] now all = tt
answered_before desk (first ∷ events) now all =
    (all.0, answered_before (with_event desk first) events now all.1)

pub answered_last : (desk : DeskEvents) (events : List DealerEvent) (now : DealerEvent)
    → AreAnsweredFrom desk (events ++ now ∷ []) → IsSettledIfAsked (with_events desk events) now
answered_last desk [] now all =
    subst (λ (l : List DealerEvent). IsSettledIfAsked (record desk { events = l }) now)
    (sym (append-nil desk.events)) all.0
answered_last desk (first ∷ events) now all =
    subst (λ (l : List DealerEvent). IsSettledIfAsked (record desk { events = l }) now)
    (append_snoc desk.events first events)
    (answered_last (with_event desk first) events now all.1)

-- what each answer says of its quote's word is what that word is
abbrev pub AreOne : (ℕ → Option Settled) → List (ℕ × Settled) → Type 0
AreOne word_of words = All (λ (asked : ℕ × Settled). word_of asked.0 ≡ Some asked.1) words

apart : (one other : ℕ) → (one ≡ other → ⊥) → (one == other) ≡ false
apart one other differs = grind (arith, nat_tests)

-- whether an answer says the other thing of a quote's word
abbrev says : (Settled → Bool) → ℕ → (ℕ × Settled) → Bool
says kind quote asked = kind asked.1 && (asked.0 == quote)

module _ (word_of : ℕ → Option Settled) (quote : ℕ) (settlement : Settled) (kind : Settled → Bool)
    (is : word_of quote ≡ Some settlement)
    (other_kind : (other : Settled) → (kind other ≡ false) ⊎ (other ≡ settlement → ⊥)) where
  says_not : (number : ℕ) (other : Settled) → word_of number ≡ Some other
      → (kind other && (number == quote)) ≡ false
  says_not number other told = elim (other_kind other) [
    | inl never ↦ ap (λ (b : Bool). b && (number == quote)) never
    | inr differs ↦ ap (λ (b : Bool). kind other && b)
        (apart number quote (λ (same : number ≡ quote). differs (inside same))) ∙ and_false (kind other)
  ]
    where
      inside : number ≡ quote → other ≡ settlement
      inside same =
          let told_too : Some other ≡ Some settlement = sym told ∙ ap word_of same ∙ is in cc

      and_false : (b : Bool) → (b && false) ≡ false
      and_false true = refl
      and_false false = refl

  pub none_says : (words : List (ℕ × Settled)) → AreOne word_of words
      → list_any (says kind quote) words ≡ false
  none_says [] one = refl
  none_says (word ∷ words) one =
      or_from (says kind quote word) (list_any (says kind quote) words)
      (says_not word.0 word.1 (All-head (λ (asked : ℕ × Settled). word_of asked.0 ≡ Some asked.1)
      word words one))
      (none_says words (All-tail (λ (asked : ℕ × Settled). word_of asked.0 ≡ Some asked.1)
      word words one))

-- The code: what it puts is what is put by the definition.

abbrev day_of : DeskEvents → List Due → DayDues
day_of desk dues = record { desk = desk; dues = dues }

days_are : (desk other : DeskEvents) (dues others : List Due) → desk ≡ other → dues ≡ others
    → day_of desk dues ≡ day_of other others
days_are desk other dues others one two =
    ap (λ d. day_of d dues) one ∙ ap (λ l. day_of other l) two

pub own_is_put : (old new : DeskEvents) (dues lifted after : List Due) (moment : ℕ)
    (bytes copy : List ℕ) (settlement taken : Option Settled) (asked : Option ℕ)
    → asked ≡ word_asked (verdict_at old moment bytes)
    → lifted ≡ dues ++ lifting_learned asked settlement
    → copy ≡ bytes → after ≡ lifted ++ due.Own moment copy ∷ []
    → taken ≡ settlement_taken asked settlement
    → new ≡ with_event old (event.Received moment bytes taken)
    → day_of new after ≡ after_recorded (day_of old dues) (event.Received moment bytes settlement)
unfolding after_recorded
own_is_put old new dues lifted after moment bytes copy settlement taken asked as_verdict put same pushed
    as_taken came =
    days_are new _ after _
    (came ∙ ap (λ (a : Option Settled). with_event old (event.Received moment bytes a)) as_taken)
    (pushed ∙ ap (λ (b : List ℕ). lifted ++ due.Own moment b ∷ []) same
    ∙ ap (λ (l : List Due). l ++ due.Own moment bytes ∷ []) put)
    ∙ ap (λ (a : Option ℕ). after_own (day_of old dues) moment bytes settlement a) as_verdict

pub drop_is_put : (old new : DeskEvents) (dues lifted after : List Due) (last moment : ℕ)
    (settlement taken : Option Settled) (asked : Option ℕ)
    → asked ≡ number_to_drop (book_at old) last
    → lifted ≡ dues ++ lifting_learned asked settlement
    → after ≡ lifted ++ due.Drop last moment ∷ []
    → taken ≡ settlement_taken asked settlement
    → new ≡ with_event old (event.Drop last moment taken)
    → day_of new after ≡ after_recorded (day_of old dues) (event.Drop last moment settlement)
unfolding after_recorded
drop_is_put old new dues lifted after last moment settlement taken asked as_asked put pushed as_taken
    came =
    days_are new _ after _
    (came ∙ ap (λ (a : Option Settled). with_event old (event.Drop last moment a)) as_taken)
    (pushed ∙ ap (λ (l : List Due). l ++ due.Drop last moment ∷ []) put)
    ∙ ap (λ (a : Option ℕ). after_drop (day_of old dues) last moment settlement a) as_asked

pub shown_is_put : (old new : DeskEvents) (dues after : List Due) (room : RoomRef)
    (ask one other : Ask) (moment : ℕ) (now : DealerEvent)
    → now ≡ event.Shown room ask moment
    → one ≡ ask → other ≡ ask → after ≡ dues ++ due.Shown one moment ∷ []
    → new ≡ with_event old (event.Shown room other moment)
    → day_of new after ≡ after_recorded (day_of old dues) now
unfolding after_recorded
shown_is_put old new dues after room ask one other moment now is same same_too pushed came =
    days_are new _ after _
    (came ∙ ap (λ (a : Ask). with_event old (event.Shown room a moment)) same_too)
    (pushed ∙ ap (λ (a : Ask). dues ++ due.Shown a moment ∷ []) same)
    ∙ ap (after_recorded (day_of old dues)) (sym is)

pub told_is_put : (old new : DeskEvents) (dues after : List Due) (request : ℕ) (close : Close)
    (moment : ℕ) (now : DealerEvent)
    → now ≡ event.Told request close moment
    → after ≡ dues ++ due.Closed request close moment ∷ []
    → new ≡ with_notice old request close moment
    → day_of new after ≡ after_recorded (day_of old dues) now
unfolding after_recorded
told_is_put old new dues after request close moment now is pushed came =
    days_are new _ after _ came pushed ∙ ap (after_recorded (day_of old dues)) (sym is)
