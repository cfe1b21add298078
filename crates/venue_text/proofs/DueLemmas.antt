-- The due texts of dealers, one dealer at a time.
use Rattle.std.proofs.Common.{◌≡◌, ◌+◌, ◌++◌, ◌∷◌, [], ℕ, zero, suc, List, length}
use Rattle.std.proofs.Common.{Some, None, refl, sym, ap, ◌∙◌, arith}
use Rattle.std.proofs.lemmas.List.{append-nil}
use Rattle.std.proofs.lemmas.List.FromFn.{length-enumerate_from}
use Rattle.std.specs.List.{enumerate_from, flat_map}
use Rattle.std.specs.Prelude.{slice_get}
use Rattle.venue_rows.specs.Rows.{Configuration, dealer_numbered}
use Rattle.venue_rows.specs.declared.dealer_rows.DealerRow.{DealerRow}
use Rattle.step_replay.specs.AuditTrail.{AuditTrail, due_to}
use Rattle.venue_text.specs.DueCommand.{dealer_text, due_text, numbered_dealers}
use Rattle.venue_text.specs.ReplayText.{one_at}

-- an item with its number, or none
numbered_at : {A : Type 0} (m : ℕ) (xs : List A) (n : ℕ) (x : A) → slice_get xs n ≡ Some x
    → one_at n (enumerate_from m xs) ≡ (m + n, x) ∷ []
numbered_at m [] n x is = cc
numbered_at {A} m (a ∷ xs) zero x is =
    let number : m ≡ m + zero = omega arith in
    let same : a ≡ x = cc in
    ap (λ (k : ℕ). (k, a) ∷ []) number ∙ ap (λ (y : A). (m + zero, y) ∷ []) same
numbered_at m (a ∷ xs) (suc n) x is =
    let number : m + 1 + n ≡ m + suc n = omega arith in
    numbered_at (m + 1) xs n x is ∙ ap (λ (k : ℕ). (k, x) ∷ []) number

none_numbered : {A : Type 0} (m : ℕ) (xs : List A) (n : ℕ) → slice_get xs n ≡ None
    → one_at n (enumerate_from m xs) ≡ []
none_numbered m [] zero is = refl
none_numbered m [] (suc n) is = refl
none_numbered m (a ∷ xs) zero is = cc
none_numbered m (a ∷ xs) (suc n) is = none_numbered (m + 1) xs n is

-- the due text of the dealer with a number
pub dealer_at : (config : Configuration) (trail : AuditTrail) (n : ℕ) (row : DealerRow)
    → Some row ≡ dealer_numbered config n
    → due_text config.date row (due_to n trail)
    ≡ flat_map (dealer_text config trail) (one_at n (numbered_dealers config))
dealer_at config trail n row is =
    let number : n ≡ 0 + n = omega arith in
    ap (λ (k : ℕ). due_text config.date row (due_to k trail)) number
    ∙ sym (append-nil (due_text config.date row (due_to (0 + n) trail)))
    ∙ ap (flat_map (dealer_text config trail)) (sym (numbered_at 0 config.dealers n row (sym is)))

-- nothing where no dealer has it
pub no_dealer_at : (config : Configuration) (trail : AuditTrail) (n : ℕ) (text : List ℕ)
    → None ≡ dealer_numbered config n
    → text ≡ text ++ flat_map (dealer_text config trail) (one_at n (numbered_dealers config))
no_dealer_at config trail n text none =
    sym (append-nil text)
    ∙ ap (λ (dealers : List (ℕ × DealerRow)). text ++ flat_map (dealer_text config trail) dealers)
    (sym (none_numbered 0 config.dealers n (sym none)))

-- how many dealers a venue has
pub length_dealers : (config : Configuration) → length (numbered_dealers config) ≡ length config.dealers
length_dealers config = length-enumerate_from 0 config.dealers
