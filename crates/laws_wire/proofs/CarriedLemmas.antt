-- What is carried says what the venue's message says, and is the same whatever the session's number.
use Rattle.std.proofs.Common.{◌≡◌, ℕ, ◌+◌, ◌==◌, ◌&&◌, Bool, true, false, not, List, [], ◌∷◌, ◌++◌, cond, drop, map, unwrap_or, Option, Some, ap, sym, ◌∙◌, refl}
use Rattle.std.specs.Prelude.{codes, decimal, nat_eq}
use Rattle.std.specs.Cmp.Lexicographic.{pointwise}
use Rattle.fix_fields.specs.Frame.{Field}
use Rattle.wire_messages.specs.ToFirm.{VenueMessage, referred, timed, told_fields, to_firm, venue_fields, without_added}
use Rattle.wire_messages.proofs.BackLemmas.{plain_of, reads_back, moment_back}
use Rattle.laws_wire.specs.Carried.{AreCarried, AreMade, AreRead, AreSame, IsCarried, IsMade, Saying, blank, blanked, said_by_venue, said_on_wire, saying_in, value_in}

-- 45 of a Reject is left empty whatever it was
blank_by : (a p q : Bool) (number : List ℕ) (field : Field) → (field.0 == 45) ≡ a
    → cond (((cond (a && p && q) (45, number) field).0 == 45) && p) (45, []) (cond (a && p && q) (45, number) field)
    ≡ cond ((field.0 == 45) && p) (45, []) field
blank_by true true true number field is = rw is refl
blank_by true true false number field is = refl
blank_by true false q number field is = refl
blank_by false p q number field is = refl

blank_referred : (kind : List ℕ) (reference : ℕ) (field : Field) → blank kind (referred kind reference field) ≡ blank kind field
blank_referred kind reference field =
    blank_by (field.0 == 45) (pointwise nat_eq kind (codes "3")) (not (reference == 0)) (decimal reference) field refl

blank_map : (kind : List ℕ) (reference : ℕ) (fields : List Field)
    → map (blank kind) (map (referred kind reference) fields) ≡ map (blank kind) fields
blank_map kind reference [] = refl
blank_map kind reference (field ∷ fields) =
    ap (λ f. f ∷ map (blank kind) (map (referred kind reference) fields)) (blank_referred kind reference field)
    ∙ ap (λ fs. blank kind field ∷ fs) (blank_map kind reference fields)

blank_append : (kind : List ℕ) (xs ys : List Field) → map (blank kind) (xs ++ ys) ≡ map (blank kind) xs ++ map (blank kind) ys
blank_append kind [] ys = refl
blank_append kind (x ∷ xs) ys = ap (λ fs. blank kind x ∷ fs) (blank_append kind xs ys)

-- what is carried, read back

abbrev say : List ℕ → List ℕ → List ℕ → List Field → Saying
say kind number moment behind = record { kind = kind; number = number; moment = moment; behind = behind }

sayings : (kind number moment other : List ℕ) (behind others : List Field) → moment ≡ other → behind ≡ others
    → say kind number moment behind ≡ say kind number other others
sayings kind number moment other behind others same_moment same_behind =
    ap (λ m. say kind number m behind) same_moment ∙ ap (λ b. say kind number other b) same_behind

said_of_wire : (reference : ℕ) (told : Option Field) (bytes : List ℕ) (number : ℕ) (body : List Field) (carried : IsCarried bytes number told body)
    → said_on_wire told body ≡ saying_in (venue_fields carried.message)
said_of_wire reference told bytes number body carried =
    let m = carried.message in
    let r = carried.reference in
    let plain = plain_of told m.behind carried.plain in
    let moment : value_in 60 (to_firm r told m) ≡ m.moment = ap (λ v. unwrap_or v []) (moment_back r told m plain) in
    let behind : map (blank m.kind) (drop 1 (without_added told (to_firm r told m))) ≡ map (blank m.kind) m.behind =
    ap (λ (fs : List Field). map (blank m.kind) (drop 1 fs)) (reads_back r told m carried.told_is plain) ∙ blank_map m.kind r m.behind in
    ap (λ b. said_on_wire told b) carried.is
    ∙ sayings m.kind m.number (value_in 60 (to_firm r told m)) m.moment
    (map (blank m.kind) (drop 1 (without_added told (to_firm r told m)))) (map (blank m.kind) m.behind) moment behind

pub carried_reads : (bytes : List ℕ) (number : ℕ) (told : Option Field) (body : List Field) → IsCarried bytes number told body
    → said_on_wire told body ≡ said_by_venue bytes
carried_reads bytes number told body carried =
    said_of_wire carried.reference told bytes number body carried
    ∙ ap (λ fs. saying_in (unwrap_or fs [])) (sym carried.of_venue.frame)

pub all_read : (number : ℕ) (frames : List (List ℕ)) (tolds : List (Option Field)) (bodies : List (List Field))
    → AreCarried number frames tolds bodies → AreRead frames tolds bodies
all_read number frames tolds [] are = tt
all_read number [] tolds (body ∷ bodies) are = absurd are
all_read number (frame ∷ frames) [] (body ∷ bodies) are = absurd are
all_read number (frame ∷ frames) (told ∷ tolds) (body ∷ bodies) are =
    (carried_reads frame number told body are.0, all_read (number + 1) frames tolds bodies are.1)

-- what is carried, whatever the session's number

canonical : List ℕ → List ℕ → List ℕ → List Field → Option Field → List Field
canonical kind number moment behind told =
    (35, kind) ∷ (1181, number) ∷ map (blank kind) (timed kind moment behind) ++ map (blank kind) (told_fields told)

blanked_wire : (reference : ℕ) (told : Option Field) (m : VenueMessage)
    → blanked (to_firm reference told m) ≡ canonical m.kind m.number m.moment m.behind told
unfolding canonical
blanked_wire reference told m =
    ap (λ (fs : List Field). (35, m.kind) ∷ (1181, m.number) ∷ fs)
    (blank_append m.kind (map (referred m.kind reference) (timed m.kind m.moment m.behind)) (told_fields told)
    ∙ ap (λ fs. fs ++ map (blank m.kind) (told_fields told)) (blank_map m.kind reference (timed m.kind m.moment m.behind)))

some_fields : (xs ys : List Field) → Some xs ≡ Some ys → xs ≡ ys
some_fields xs ys is = cc

pub made_once : (bytes : List ℕ) (number other_number : ℕ) (told : Option Field) (body other : List Field)
    → IsMade bytes number told body → IsMade bytes other_number told other → blanked body ≡ blanked other
made_once bytes number other_number told body other one two =
    let m = one.message in
    let n = two.message in
    let same : venue_fields m ≡ venue_fields n =
    some_fields (venue_fields m) (venue_fields n) (sym one.of_venue.frame ∙ two.of_venue.frame) in
    let kind : m.kind ≡ n.kind = ap (λ fs. value_in 35 fs) same in
    let numbers : m.number ≡ n.number = ap (λ fs. value_in 34 fs) same in
    let moment : m.moment ≡ n.moment = ap (λ fs. value_in 52 fs) same in
    let behind : m.behind ≡ n.behind = ap (λ (fs : List Field). drop 5 fs) same in
    ap blanked one.is ∙ blanked_wire one.reference told m
    ∙ ap (λ k. canonical k m.number m.moment m.behind told) kind
    ∙ ap (λ k. canonical n.kind k m.moment m.behind told) numbers
    ∙ ap (λ k. canonical n.kind n.number k m.behind told) moment
    ∙ ap (λ k. canonical n.kind n.number n.moment k told) behind
    ∙ sym (blanked_wire two.reference told n) ∙ ap blanked (sym two.is)

pub all_same : (number : ℕ) (frames : List (List ℕ)) (tolds : List (Option Field)) (bodies others : List (List Field))
    → AreMade number frames tolds bodies → AreMade number frames tolds others → AreSame bodies others
all_same number frames tolds [] others one two = tt
all_same number frames tolds (body ∷ bodies) [] one two = tt
all_same number [] tolds (body ∷ bodies) (other ∷ others) one two = absurd one
all_same number (frame ∷ frames) [] (body ∷ bodies) (other ∷ others) one two = absurd one
all_same number (frame ∷ frames) (told ∷ tolds) (body ∷ bodies) (other ∷ others) one two = (
  made_once frame number number told body other one.0 two.0,
  all_same (number + 1) frames tolds bodies others one.1 two.1,
)
