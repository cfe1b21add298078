-- The messages of a firm among those of all, and what a place sends to its firm as facts come.
use Rattle.step_replay.proofs.Common.{◌≡◌, ℕ, ◌==◌, Bool, true, false, cond, List, [], ◌∷◌, ◌++◌}
use Rattle.step_replay.proofs.Common.{filter_map, Option, Some, None, option_map, refl, sym, ap}
use Rattle.step_replay.proofs.Common.{◌∙◌, arith, zero, suc, nat_lt, if◌then◌else◌, length, map}
use Rattle.step_replay.proofs.Common.{drop, nat_tests, filter_map-append, slice_get, same_Some}
use Rattle.step_replay.proofs.Common.{Configuration, is_dealer, messages_in, sent_by_facts, sent_in}
use Rattle.step_replay.proofs.Common.{Fact, AtDealer, InRoom, AtInvestor, of_dealer, of_investor}
use Rattle.step_replay.proofs.Common.{FirmDay, firm_days, sent_behind, Stands, firms_of}
use Rattle.step_replay.proofs.Common.{Floor}
use Rattle.std.proofs.Common.{option_and_then}
use Rattle.std.specs.List.{cons_option}
use Rattle.std.proofs.Math.Seq.{drop-append_seam}
use Rattle.step_replay.specs.DealerTrail as dealer_trail
use Rattle.step_replay.specs.InvestorTrail as investor_trail
use Rattle.step_replay.specs.LiveDays.{message_for, messages_for}
use Rattle.step_replay.specs.VenueFacts.{entry_at_dealer, entry_at_investor}
use Rattle.step_replay.specs.FloorDays.{sent_on_day, sent_on_floor}
use Rattle.step_replay.proofs.StepEffects.{messages_both, to, SendAt, own, quiet}
use Rattle.step_replay.proofs.DayLemmas.{days_stand, no_day, sent_on_its_day}

-- Two filters, one behind the other, are two others that find the same in each item.

two_filters : {Y Z : Type 0} (g : Y → Option Z) (o : Option Y) (ys : List Y)
    → filter_map g (cons_option o ys) ≡ cons_option (option_and_then g o) (filter_map g ys)
two_filters g None ys = refl
two_filters g (Some y) ys = refl

twice : {X Y W Z : Type 0} (f : X → Option Y) (g : Y → Option Z) (h : X → Option W)
    (k : W → Option Z) → ((x : X) → option_and_then g (f x) ≡ option_and_then k (h x))
    → (xs : List X) → filter_map g (filter_map f xs) ≡ filter_map k (filter_map h xs)
twice f g h k each [] = refl
twice f g h k each (x ∷ xs) =
    let later = twice f g h k each xs in
    rw (two_filters, each, later, two_filters) refl

-- The messages of a firm among all.

module _ (config : Configuration) (firm : ℕ) where
  -- a message of a firm of this firm's role, by whether it is this firm
  of_role : {E : Type 0} (message : E → Option (List ℕ)) (entry : E) (n : ℕ) (o : Option (List ℕ))
      (b : Bool) → message entry ≡ o → (n == firm) ≡ b
      → option_and_then (message_for firm) (option_map (to n) o)
      ≡ option_and_then message (cond b (Some entry) None)
  of_role message entry n None true is test = sym is
  of_role message entry n None false is test = refl
  of_role message entry n (Some m) true is test = rw test (sym is)
  of_role message entry n (Some m) false is test = rw test refl

  -- a firm of the other role is another firm, and none of its messages is this firm's
  apart : (n : ℕ) (b c : Bool) → is_dealer config n ≡ b → is_dealer config firm ≡ c
      → (b ≡ c → ⊥) → (n == firm) ≡ false
  apart n b c is own_is differs = by_test (n == firm) refl
    where
      by_test : (e : Bool) → (n == firm) ≡ e → e ≡ false
      by_test false test = refl
      by_test true test =
          let equal : n ≡ firm = grind (arith, nat_tests) in
          absurd (differs (sym is ∙ ap (is_dealer config) equal ∙ own_is))

  of_other : (n : ℕ) (o : Option (List ℕ)) → (n == firm) ≡ false
      → option_and_then (message_for firm) (option_map (to n) o) ≡ None
  of_other n None test = refl
  of_other n (Some m) test = rw test refl

  at_dealer : is_dealer config firm ≡ true → (fact : Fact)
      → option_and_then (message_for firm) (sent_in config fact)
      ≡ option_and_then dealer_trail.message_in (entry_at_dealer firm fact)
  at_dealer own_is (InRoom room fact) = refl
  at_dealer own_is (AtInvestor n entry) = by_role (is_dealer config n) refl
    where
      by_role : (b : Bool) → is_dealer config n ≡ b → option_and_then (message_for firm)
          (cond b None (option_map (to n) (investor_trail.message_in entry))) ≡ None
      by_role true is = refl
      by_role false is =
          of_other n (investor_trail.message_in entry) (apart n false true is own_is (λ e. cc))
  at_dealer own_is (AtDealer n entry) = by_role (is_dealer config n) refl
    where
      by_role : (b : Bool) → is_dealer config n ≡ b → option_and_then (message_for firm)
          (cond b (option_map (to n) (dealer_trail.message_in entry)) None)
          ≡ option_and_then dealer_trail.message_in (cond (n == firm) (Some entry) None)
      by_role true is =
          of_role dealer_trail.message_in entry n (dealer_trail.message_in entry) (n == firm) refl refl
      by_role false is = rw (apart n false true is own_is (λ e. cc)) refl

  at_investor : is_dealer config firm ≡ false → (fact : Fact)
      → option_and_then (message_for firm) (sent_in config fact)
      ≡ option_and_then investor_trail.message_in (entry_at_investor firm fact)
  at_investor own_is (InRoom room fact) = refl
  at_investor own_is (AtDealer n entry) = by_role (is_dealer config n) refl
    where
      by_role : (b : Bool) → is_dealer config n ≡ b → option_and_then (message_for firm)
          (cond b (option_map (to n) (dealer_trail.message_in entry)) None) ≡ None
      by_role false is = refl
      by_role true is =
          of_other n (dealer_trail.message_in entry) (apart n true false is own_is (λ e. cc))
  at_investor own_is (AtInvestor n entry) = by_role (is_dealer config n) refl
    where
      by_role : (b : Bool) → is_dealer config n ≡ b → option_and_then (message_for firm)
          (cond b None (option_map (to n) (investor_trail.message_in entry)))
          ≡ option_and_then investor_trail.message_in (cond (n == firm) (Some entry) None)
      by_role false is =
          of_role investor_trail.message_in entry n (investor_trail.message_in entry) (n == firm) refl
          refl
      by_role true is = rw (apart n true false is own_is (λ e. cc)) refl

  pub own_part : (facts : List Fact)
      → messages_for firm (messages_in config facts) ≡ sent_by_facts config firm facts
  unfolding messages_in of_dealer of_investor
  own_part facts = by_case (is_dealer config firm) refl
    where
      by_case : (b : Bool) → is_dealer config firm ≡ b
          → messages_for firm (messages_in config facts) ≡ sent_by_facts config firm facts
      by_case true is = rw is (twice (sent_in config) (message_for firm) (entry_at_dealer firm)
          dealer_trail.message_in (at_dealer is) facts)
      by_case false is = rw is (twice (sent_in config) (message_for firm) (entry_at_investor firm)
          investor_trail.message_in (at_investor is) facts)

  pub sent_both : (facts more : List Fact) → sent_by_facts config firm (facts ++ more)
      ≡ sent_by_facts config firm facts ++ sent_by_facts config firm more
  sent_both facts more =
      sym (own_part (facts ++ more))
      ∙ ap (messages_for firm) (messages_both config facts more)
      ∙ filter_map-append (message_for firm) (messages_in config facts) (messages_in config more)
      ∙ ap (λ (l : List (List ℕ)). l ++ messages_for firm (messages_in config more)) (own_part facts)
      ∙ ap (λ (l : List (List ℕ)). sent_by_facts config firm facts ++ l) (own_part more)

-- what a day has sent, by its messages
sent_by_day : (day : Option FirmDay) (sent : List (List ℕ))
    → option_map (λ (d : FirmDay). d.sent) day ≡ Some sent → sent_on_day day ≡ sent
sent_by_day None sent is = cc
sent_by_day (Some day) sent is = same_Some day.sent sent is

module _ (config : Configuration) (facts : List Fact) (firm : ℕ) (floor : Floor)
    (stands : Stands config facts floor) where
  known_sent : nat_lt firm (firms_of config) ≡ true
      → sent_on_floor floor firm ≡ sent_by_facts config firm facts
  known_sent known =
      ap (λ (d : List FirmDay). sent_on_day (slice_get d firm)) (days_stand config facts floor stands)
      ∙ sent_by_day (slice_get (firm_days config facts) firm) (sent_by_facts config firm facts)
      (sent_on_its_day config facts firm known)

  unknown_sent : nat_lt firm (firms_of config) ≡ false → sent_on_floor floor firm ≡ []
  unknown_sent unknown =
      ap (λ (d : List FirmDay). sent_on_day (slice_get d firm)) (days_stand config facts floor stands)
      ∙ ap sent_on_day (no_day config facts firm unknown)

drop_nothing : (n : ℕ) → ◌≡◌ {A = List (List ℕ)} (drop n []) []
drop_nothing zero = refl
drop_nothing (suc n) = refl

module _ (config : Configuration) (facts more : List Fact) (before after : Floor)
    (stood : Stands config facts before) (stands : Stands config (facts ++ more) after) where
  -- what stands at a desk behind what stood there
  more_sent : (desk : ℕ) (b : Bool) → nat_lt desk (firms_of config) ≡ b
      → drop (length (sent_on_floor before desk)) (sent_on_floor after desk)
      ≡ (if b then sent_by_facts config desk more else [])
  more_sent desk true known =
      ap (λ (l : List (List ℕ)). drop (length l) (sent_on_floor after desk))
      (known_sent config facts desk before stood known)
      ∙ ap (drop (length (sent_by_facts config desk facts)))
      (known_sent config (facts ++ more) desk after stands known ∙ sent_both config desk facts more)
      ∙ drop-append_seam (sent_by_facts config desk facts) (sent_by_facts config desk more)
  more_sent desk false unknown =
      ap (drop (length (sent_on_floor before desk)))
      (unknown_sent config (facts ++ more) desk after stands unknown)
      ∙ drop_nothing (length (sent_on_floor before desk))

  -- what stands behind is what facts more send
  pub behind_is : (desk : ℕ) → SendAt config (Some desk) more
      → messages_in config more ≡ sent_behind after desk (length (sent_on_floor before desk))
  behind_is desk (quiet none) =
      none ∙ sym (ap (map (to desk)) (more_sent desk (nat_lt desk (firms_of config)) refl
      ∙ by_known (nat_lt desk (firms_of config))))
    where
      by_known : (b : Bool) → (if b then sent_by_facts config desk more else []) ≡ []
      by_known true = sym (own_part config desk more) ∙ ap (messages_for desk) none
      by_known false = refl
  behind_is desk (own firm is known sent) =
      let same : desk ≡ firm = same_Some desk firm is in
      sent ∙ ap (λ (n : ℕ). map (to n) (sent_by_facts config n more)) (sym same)
      ∙ ap (map (to desk)) (sym (more_sent desk true
      (ap (λ (n : ℕ). nat_lt n (firms_of config)) same ∙ known)))
