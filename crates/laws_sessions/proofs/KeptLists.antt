-- What is kept, and what each message of the venue adds to it.
use Rattle.std.proofs.Common.{◌≡◌, ◌≤◌, List, [], ◌∷◌, ◌++◌, ◌⊎◌, inl, inr, ap, arith}
use Rattle.laws_sessions.proofs.Choices.{choice}
use Rattle.laws_sessions.specs.Left.{IsKept}
use Rattle.session_recovery.specs.Notes.{is_used_up}
use Rattle.session_recovery.specs.Recovered.{Kept, Message, Point, gives_all, kept_message, with_message}

-- Of two lists.

pub kept_front : (x : Kept) (a b : List Kept) → IsKept x a → IsKept x (a ++ b)
kept_front x [] b h = absurd h
kept_front x (k ∷ a) b (inl e) = inl e
kept_front x (k ∷ a) b (inr h) = inr (kept_front x a b h)

pub kept_parts : (x : Kept) (a b : List Kept) → IsKept x (a ++ b) → IsKept x a ⊎ IsKept x b
kept_parts x [] b h = inr h
kept_parts x (k ∷ a) b (inl e) = inl (inl e)
kept_parts x (k ∷ a) b (inr h) =
    elim (kept_parts x a b h) [
      | inl g ↦ inl (inr g)
      | inr g ↦ inr g
    ]

pub kept_last : (x k : Kept) (a : List Kept) → IsKept x (a ++ (k ∷ [])) → IsKept x a ⊎ (x ≡ k)
kept_last x k a h =
    elim (kept_parts x a (k ∷ []) h) [
      | inl g ↦ inl g
      | inr g ↦ elim g [ inl e ↦ inr e | inr none ↦ absurd none ]
    ]

-- A message of the venue: what was kept is kept, and what it adds has its place among all that was given.

pub keeps_on : (x : Kept) (p : Point) (m : Message) (ms : List Message) → IsKept x p.kept → IsKept x (with_message p m ms).kept
keeps_on x p m ms h =
    choice (λ ks. IsKept x ks) (is_used_up p.session.day) _ _ (λ g. h)
    (λ g. kept_front x p.kept (kept_message p.session m ∷ []) h)

pub keeps_back : (x : Kept) (p : Point) (m : Message) (ms : List Message) → x.ordinal ≤ p.session.given
    → IsKept x (with_message p m ms).kept → IsKept x p.kept
keeps_back x p m ms low =
    choice (λ ks. IsKept x ks → IsKept x p.kept) (is_used_up p.session.day) _ _ (λ g h. h)
    (λ g h. elim (kept_last x (kept_message p.session m) p.kept h) [
      | inl k ↦ k
      | inr e ↦ (let o = ap (λ (y : Kept). y.ordinal) e in absurd (omega (arith, low, o)))
    ])

pub all_keeps : (x : Kept) (p : Point) (ms : List Message) → IsKept x p.kept → IsKept x (gives_all p ms).kept
all_keeps x p [] h = h
all_keeps x p (m ∷ ms) h = all_keeps x (with_message p m ms) ms (keeps_on x p m ms h)

pub all_back : (x : Kept) (p : Point) (ms : List Message) → x.ordinal ≤ p.session.given → IsKept x (gives_all p ms).kept
    → IsKept x p.kept
all_back x p [] low h = h
all_back x p (m ∷ ms) low h =
    keeps_back x p m ms low (all_back x (with_message p m ms) ms (omega (arith, low)) h)
