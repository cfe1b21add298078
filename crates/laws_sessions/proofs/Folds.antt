-- A start is a fold.
use Rattle.std.proofs.Common.{◌≡◌, ℕ, zero, suc, ◌-◌, List, [], ◌∷◌, ◌++◌, Option, Some, None, length, refl, sym, ap, subst}
use Rattle.std.proofs.lemmas.Option.{none-some}
use Rattle.laws_sessions.specs.Agrees.{with_more}
use Rattle.session_recovery.specs.Notes.{after_note}
use Rattle.session_recovery.specs.Recovered.{Message, Point, Sealed, copies, gives_from, reads, reads_all, reads_one, with_message, with_session}
use Rattle.session_recovery.specs.declared.points.Recovered.{Recovered}

abbrev more_of : List Message → Option Point → Option Point
more_of more None = None
more_of more (Some p) = Some (with_more p more)

gives_more : (count : ℕ) (p q : Point) (rest ms more : List Message) → gives_from count p ms ≡ Some q
    → gives_from count (record p { rest = rest }) (ms ++ more) ≡ Some (with_more q more)
gives_more zero p q rest ms more h = ap (more_of more) h
gives_more (suc count) p q rest [] more h = absurd (none-some q h)
gives_more (suc count) p q rest (m ∷ ms) more h =
    gives_more count (with_message p m ms) q (ms ++ more) ms more h

session_more : (p q : Point) (s : Sealed) (r : Option Recovered) (more : List Message)
    → with_session p s r ≡ Some q → with_session (with_more p more) s r ≡ Some (with_more q more)
session_more p q s None more h = absurd (none-some q h)
session_more p q s (Some r) more h = ap (more_of more) h

one_more : (o w : Option Point) (q : Point) (s : Sealed) (more : List Message)
    → ((x : Point) → o ≡ Some x → w ≡ Some (with_more x more))
    → reads_one s o ≡ Some q → reads_one s w ≡ Some (with_more q more)
one_more None w q s more link h = absurd (none-some q h)
one_more (Some x) w q s more link h =
    subst (λ z. reads_one s z ≡ Some (with_more q more)) (sym (link x refl))
    (session_more x q s (after_note x.session s.note (length (copies s.note.had x.kept))) more h)

reads_more : (p q : Point) (s : Sealed) (more : List Message) → reads p s ≡ Some q
    → reads (with_more p more) s ≡ Some (with_more q more)
reads_more p q s more h =
    one_more (gives_from (s.note.given - p.session.given) p p.rest)
    (gives_from (s.note.given - p.session.given) (with_more p more) (p.rest ++ more)) q s more
    (λ x e. gives_more (s.note.given - p.session.given) p x (p.rest ++ more) p.rest more e) h

through : (o w : Option Point) (q : Point) (ss later : List Sealed) (more : List Message)
    → ((x : Point) → o ≡ Some x → w ≡ Some (with_more x more))
    → ((x : Point) → reads_all (Some x) ss ≡ Some q
    → reads_all (Some (with_more x more)) (ss ++ later) ≡ reads_all (Some (with_more q more)) later)
    → reads_all o ss ≡ Some q
    → reads_all w (ss ++ later) ≡ reads_all (Some (with_more q more)) later
through None w q ss later more link on h = absurd (none-some q h)
through (Some x) w q ss later more link on h =
    subst (λ z. reads_all z (ss ++ later) ≡ reads_all (Some (with_more q more)) later)
    (sym (link x refl)) (on x h)

pub all_more : (p q : Point) (notes later : List Sealed) (more : List Message) → reads_all (Some p) notes ≡ Some q
    → reads_all (Some (with_more p more)) (notes ++ later) ≡ reads_all (Some (with_more q more)) later
all_more p q [] later more h = ap (λ o. reads_all (more_of more o) later) h
all_more p q (s ∷ ss) later more h =
    through (reads p s) (reads (with_more p more) s) q ss later more
    (λ x e. reads_more p x s more e) (λ x g. all_more x q ss later more g) h
