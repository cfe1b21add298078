-- What readers and writers hold, where they tell it.
use Rattle.std.proofs.Common.{◌≡◌, ◌<◌, ◌≤◌, ℕ, ◌+◌, ◌-◌, List, [], ◌∷◌, ◌++◌, length, get_or, take}
use Rattle.std.proofs.Common.{drop, sym, ap, ◌∙◌, subst, refl, arith, Option, Some, None}
use Rattle.std.proofs.Common.{append_assoc}
use Rattle.std.specs.Io.KnownBytes.{Appends, Keeps}
use Rattle.std.proofs.lemmas.Grind.{flat_map-append}
use Rattle.std.specs.List.{flat_map}
use Rattle.std.proofs.lemmas.List.{append-nil, take-append-drop, take_all, take_more, length-drop}
use Rattle.std.proofs.Math.Seq.{take-append_seam}
use Rattle.live_runs.specs.Written.{Gains, GainsPart, Written}

-- two texts that were taken one behind the other

pub appends_both : (old mid new : Option (List ℕ)) (a b : List ℕ) → Appends old mid a → Appends mid new b → Appends old new (a ++ b)
appends_both None mid new a b first second = tt
appends_both (Some xs) None new a b first second = absurd first
appends_both (Some xs) (Some ys) None a b first second = absurd second
appends_both (Some xs) (Some ys) (Some zs) a b first second = second ∙ ap (λ l. l ++ b) first ∙ append_assoc xs a b

pub appends_kept : (old mid new : Option (List ℕ)) (a : List ℕ) → Appends old mid a → Keeps mid new → Appends old new a
appends_kept None mid new a first stays = tt
appends_kept (Some xs) None new a first stays = absurd first
appends_kept (Some xs) (Some ys) None a first stays = absurd stays
appends_kept (Some xs) (Some ys) (Some zs) a first stays = stays ∙ first

-- what was taken of a text
pub prefix_taken : (out : Written) (text written rest : List ℕ) → Gains written out → text ≡ written ++ rest → GainsPart text out
prefix_taken out text written rest gains split =
    record {
      taken = length written;
      gained = subst (λ (l : List ℕ). Gains l out) (sym (ap (take (length written)) split ∙ take-append_seam written rest)) gains;
    }

-- a part more of it
pub split_more : (text written rest : List ℕ) (n : ℕ) → text ≡ written ++ rest → text ≡ (written ++ take n rest) ++ take (length rest - n) (drop n rest)
split_more text written rest n split =
    split ∙ ap (λ l. written ++ l) (sym (take-append-drop n rest)) ∙ sym (append_assoc written (take n rest) (drop n rest))
    ∙ ap (λ l. (written ++ take n rest) ++ l) (sym (take_all (length rest - n) (drop n rest) (omega (arith, length-drop n rest))))

pub keeps_same : (known : Option (List ℕ)) → Keeps known known
keeps_same None = tt
keeps_same (Some xs) = refl

-- ---- a line of a front, a word and a line feed

take_less : (n : ℕ) (a b : List ℕ) → take n a ≡ take (length (take n a)) (a ++ b)
take_less n a b = sym (ap (λ l. take (length (take n a)) l) (ap (λ l. l ++ b) (sym (take-append-drop n a)) ∙ append_assoc (take n a) (drop n a) b)
    ∙ take-append_seam (take n a) (drop n a ++ b))

-- a part of the front is one of the line
pub front_part : (out : Written) (a b : List ℕ) → GainsPart a out → GainsPart (a ++ b) out
front_part out a b part = record {
  taken = length (take part.taken a);
  gained = subst (λ (l : List ℕ). Gains l out) (take_less part.taken a b) part.gained;
}

-- the front, and a part of what stands behind it
pub more_part : (old mid new : Option (List ℕ)) (a b : List ℕ) → Appends old mid a
    → GainsPart b (record { before = mid; after = new }) → GainsPart (a ++ b) (record { before = old; after = new })
more_part old mid new a b first part =
    prefix_taken (record { before = old; after = new }) (a ++ b) (a ++ take part.taken b) (drop part.taken b)
    (appends_both old mid new a (take part.taken b) first part.gained)
    (ap (λ l. a ++ l) (sym (take-append-drop part.taken b)) ∙ sym (append_assoc a (take part.taken b) (drop part.taken b)))

-- the same of a front, a word and an end
pub line_front : (out : Written) (a b c : List ℕ) → GainsPart a out → GainsPart ((a ++ b) ++ c) out
line_front out a b c part = subst (λ (l : List ℕ). GainsPart l out) (sym (append_assoc a b c)) (front_part out a (b ++ c) part)

pub line_more : (old mid new : Option (List ℕ)) (a b c : List ℕ) → Appends old mid a
    → GainsPart (b ++ c) (record { before = mid; after = new }) → GainsPart ((a ++ b) ++ c) (record { before = old; after = new })
line_more old mid new a b c first part =
    subst (λ (l : List ℕ). GainsPart l (record { before = old; after = new })) (sym (append_assoc a b c)) (more_part old mid new a (b ++ c) first part)

-- ---- texts one behind the other

pub appends_none : (known : Option (List ℕ)) → Appends known known []
appends_none None = tt
appends_none (Some xs) = sym (append-nil xs)

-- one text more
one_more : {X : Type 0} (text : X → List ℕ) (xs : List X) (i : ℕ) (x : X) → i < length xs → x ≡ get_or xs i x
    → flat_map text (take i xs) ++ text x ≡ flat_map text (take (i + 1) xs)
one_more text xs i x within is =
    ap (λ l. flat_map text (take i xs) ++ l) (sym (append-nil (text x)))
    ∙ sym (flat_map-append text (take i xs) (x ∷ []))
    ∙ ap (flat_map text) (ap (λ y. take i xs ++ y ∷ []) is ∙ sym (take_more xs i x within))

pub blocks_more : {X : Type 0} (text : X → List ℕ) (old mid new : Option (List ℕ)) (xs : List X) (i : ℕ) (x : X) (block : List ℕ)
    → i < length xs → x ≡ get_or xs i x → block ≡ text x → Appends old mid (flat_map text (take i xs)) → Appends mid new block
    → Appends old new (flat_map text (take (i + 1) xs))
blocks_more text old mid new xs i x block within is same first second =
    subst (Appends old new) (ap (λ l. flat_map text (take i xs) ++ l) same ∙ one_more text xs i x within is)
    (appends_both old mid new (flat_map text (take i xs)) block first second)

-- a part of one text more
pub blocks_part : {X : Type 0} (text : X → List ℕ) (old mid new : Option (List ℕ)) (xs : List X) (i : ℕ) (x : X) (block : List ℕ)
    → i < length xs → x ≡ get_or xs i x → block ≡ text x → Appends old mid (flat_map text (take i xs))
    → GainsPart block (record { before = mid; after = new })
    → GainsPart (flat_map text xs) (record { before = old; after = new })
blocks_part text old mid new xs i x block within is same first part =
    let whole : flat_map text (take (i + 1) xs) ++ flat_map text (drop (i + 1) xs) ≡ flat_map text xs =
    sym (flat_map-append text (take (i + 1) xs) (drop (i + 1) xs)) ∙ ap (flat_map text) (take-append-drop (i + 1) xs) in
    let more : flat_map text (take i xs) ++ block ≡ flat_map text (take (i + 1) xs) =
    ap (λ l. flat_map text (take i xs) ++ l) same ∙ one_more text xs i x within is in
    subst (λ l. GainsPart l (record { before = old; after = new }))
    (ap (λ l. l ++ flat_map text (drop (i + 1) xs)) more ∙ whole)
    (front_part (record { before = old; after = new }) (flat_map text (take i xs) ++ block)
    (flat_map text (drop (i + 1) xs))
    (more_part old mid new (flat_map text (take i xs)) block first part))

-- all of them
pub blocks_whole : {X : Type 0} (text : X → List ℕ) (old new : Option (List ℕ)) (xs : List X) (i : ℕ) → length xs ≤ i
    → Appends old new (flat_map text (take i xs)) → GainsPart (flat_map text xs) (record { before = old; after = new })
blocks_whole text old new xs i past all =
    prefix_taken (record { before = old; after = new }) (flat_map text xs) (flat_map text (take i xs)) [] all
    (ap (flat_map text) (sym (take_all i xs past)) ∙ sym (append-nil (flat_map text (take i xs))))
