-- The party group, field by field.
use Rattle.std.proofs.Common.{◌≡◌, ℕ, ◌+◌, ◌≤◌, ◌==◌, Bool, true, false, ◌||◌, ◌&&◌, List, [], ◌∷◌}
use Rattle.std.proofs.Common.{length, drop, cond, Option, Some, None, arith, refl, ap, ◌∙◌, sym}
use Rattle.std.proofs.Common.{suc, is_some, not, codes}
use Rattle.std.specs.List.{filter_map, take_while, position_or_len, after_first, cons_option}
use Rattle.std.proofs.lemmas.List.Sums.{take_while-cons, sum_by-cons}
use Rattle.std.proofs.lemmas.Bool.Decides.{nat_tests}
use Rattle.fix_fields.specs.Frame.{Field, value_of, times_of}
use Rattle.quote_messages.specs.declared.session_faults.SessionFault.{SessionFault}
use Rattle.venue_rows.specs.Texts.{same_text}
use Rattle.market_terms.specs.Texts.{is_id}
use Rattle.quote_messages.specs.declared.session_faults.SessionRejectReason.TheVariants.{TagWithoutValue}
use Rattle.quote_messages.specs.declared.session_faults.SessionRejectReason.TheVariants.{IncorrectDataFormat}
use Rattle.quote_messages.specs.ValueForms.{AnId, AnyText, value_fault}
use Rattle.quote_messages.specs.SessionLines.{occurrence_of, or_next, first_fault, required}
use Rattle.quote_messages.specs.SessionLines.{tag_fault, at_tag, text_at}
use Rattle.quote_messages.specs.Slots.{joined}
use Rattle.quote_messages.specs.PartyGroup.{is_of_party, is_beside_parties, not_ignored, group_of}
use Rattle.quote_messages.specs.PartyGroup.{before_entry, entries_of, entry_lines, entries_fault}
use Rattle.quote_messages.specs.PartyGroup.{dealer_of_entry, named_dealers}
use Rattle.quote_messages.specs.GroupReading.{run_of, StandsBefore}
use Rattle.quote_messages.proofs.SlotLemmas.{one_value, joined-same, joined-other, none-joined}

-- the run, by what its first field is

pub run_of-party : (field : Field) (fields : List Field) → is_of_party field.0 ≡ true → run_of (field ∷ fields) ≡ field ∷ run_of fields
run_of-party field fields p =
    let kept : not_ignored (field ∷ fields) ≡ field ∷ not_ignored fields = rw p refl in
    ap (λ all. take_while (λ f. is_of_party f.0) all) kept ∙ take_while-cons (λ f. is_of_party f.0) field (not_ignored fields) ∙ ap (λ b. cond b (field ∷ run_of fields) []) p

-- what stands behind the first element that passes a test
after_first-cons : {X : Type 0} (p : X → Bool) (b : Bool) (x : X) (xs : List X) → p x ≡ b → after_first p (x ∷ xs) ≡ cond b xs (after_first p xs)
after_first-cons p true x xs h = rw h refl
after_first-cons p false x xs h =
    let n = position_or_len p xs in
    let more : 1 + n + 1 ≡ suc (n + 1) = omega arith in
    rw h (ap (λ k. drop k (x ∷ xs)) more)

group_of-kept : (b : Bool) (field : Field) (fields : List Field) → field.0 == 453 ≡ false → is_of_party field.0 || is_beside_parties field.0 ≡ b → group_of (field ∷ fields) ≡ group_of fields
group_of-kept true field fields h k =
    let kept : not_ignored (field ∷ fields) ≡ field ∷ not_ignored fields = ap (λ b. cond b (field ∷ not_ignored fields) (not_ignored fields)) k in
    ap (λ all. take_while (λ f. is_of_party f.0) (after_first (λ f. f.0 == 453) all)) kept
    ∙ ap (λ all. take_while (λ f. is_of_party f.0) all) (after_first-cons (λ f. f.0 == 453) false field (not_ignored fields) h)
group_of-kept false field fields h k =
    let kept : not_ignored (field ∷ fields) ≡ not_ignored fields = ap (λ b. cond b (field ∷ not_ignored fields) (not_ignored fields)) k in
    ap (λ all. take_while (λ f. is_of_party f.0) (after_first (λ f. f.0 == 453) all)) kept

-- and where another field does
pub group_of-other : (field : Field) (fields : List Field) → field.0 == 453 ≡ false → group_of (field ∷ fields) ≡ group_of fields
group_of-other field fields h = group_of-kept (is_of_party field.0 || is_beside_parties field.0) field fields h refl

-- the fields before the next entry
pub before_entry-entry : (field : Field) (fields : List Field) → field.0 == 448 ≡ true → before_entry (field ∷ fields) ≡ []
before_entry-entry field fields h = take_while-cons (λ f. not (f.0 == 448)) field fields ∙ ap (λ b. cond (not b) (field ∷ before_entry fields) []) h

pub before_entry-other : (field : Field) (fields : List Field) → field.0 == 448 ≡ false → before_entry (field ∷ fields) ≡ field ∷ before_entry fields
before_entry-other field fields h = take_while-cons (λ f. not (f.0 == 448)) field fields ∙ ap (λ b. cond (not b) (field ∷ before_entry fields) []) h

none_before-at : (b : Bool) (field : Field) (fields : List Field) → field.0 == 448 ≡ b → occurrence_of 448 (before_entry fields) ≡ occurrence_of 448 [] → occurrence_of 448 (before_entry (field ∷ fields)) ≡ occurrence_of 448 []
none_before-at true field fields h behind = ap (λ all. occurrence_of 448 all) (before_entry-entry field fields h)
none_before-at false field fields h behind = ap (λ all. occurrence_of 448 all) (before_entry-other field fields h) ∙ joined-other 448 field (before_entry fields) h ∙ behind

-- no PartyID stands before the next entry
none_before : (fields : List Field) → occurrence_of 448 (before_entry fields) ≡ occurrence_of 448 []
none_before [] = refl
none_before (field ∷ fields) = none_before-at (field.0 == 448) field fields refl (none_before fields)

-- the PartyID of an entry
pub entry_id : (id : List ℕ) (fields : List Field) → occurrence_of 448 ((448, id) ∷ before_entry fields) ≡ record { first = Some id; is_repeated = false }
entry_id id fields =
    sym (none-joined (occurrence_of 448 ((448, id) ∷ before_entry fields)))
    ∙ sym (joined-same (record { first = None; is_repeated = false }) 448 (448, id) (before_entry fields) refl)
    ∙ ap (λ rest. joined (one_value id) rest) (none_before fields)

-- a field that begins no entry
pub entries_skip : (field : Field) (fields : List Field) → field.0 == 448 ≡ false → entries_of (field ∷ fields) ≡ entries_of fields
entries_skip field fields h = ap (λ b. cond b ((field ∷ before_entry fields) ∷ entries_of fields) (entries_of fields)) h

-- a tag before the next entry, by the first field
pub stands_before : (tag : ℕ) (field : Field) (fields : List Field) → field.0 == 448 ≡ false → field.0 == tag ≡ true → StandsBefore tag (before_entry (field ∷ fields)) field.1 (before_entry fields)
stands_before tag field fields h t =
    ap (λ all. occurrence_of tag all) (before_entry-other field fields h)
    ∙ sym (none-joined (occurrence_of tag (field ∷ before_entry fields)))
    ∙ sym (joined-same (record { first = None; is_repeated = false }) tag field (before_entry fields) t)

pub passed_before : (tag : ℕ) (field : Field) (fields : List Field) → field.0 == 448 ≡ false → field.0 == tag ≡ false → occurrence_of tag (before_entry (field ∷ fields)) ≡ occurrence_of tag (before_entry fields)
passed_before tag field fields h t =
    ap (λ all. occurrence_of tag all) (before_entry-other field fields h) ∙ joined-other tag field (before_entry fields) t

pub differs : (a b : ℕ) → (a ≡ b → ⊥) → a == b ≡ false
differs a b h = grind (arith, nat_tests)

pub is_same : (a b : ℕ) → a ≡ b → a == b ≡ true
is_same a b h = grind (arith, nat_tests)

-- what is behind the first field
pub length_behind : (all : List Field) (field : Field) (rest : List Field) (most : ℕ) → all ≡ field ∷ rest → length all ≤ most → length rest ≤ most
length_behind all field rest most e h = let longer = rw e at h in omega (arith, longer)

pub length_more : (n most : ℕ) (all : List Field) (field : Field) (rest : List Field) → all ≡ field ∷ rest → n + length all ≤ most → n + 1 + length rest ≤ most
length_more n most all field rest e h = let longer = rw e at h in omega (arith, longer)

pub length_same : (n total : ℕ) (all : List Field) (field : Field) (rest : List Field) → all ≡ field ∷ rest → n + length all ≡ total → n + 1 + length rest ≡ total
length_same n total all field rest e h = let longer = rw e at h in omega (arith, longer)

pub times_same : (n one total : ℕ) (all : List Field) (field : Field) (rest : List Field) → one ≡ cond (field.0 == 448) 1 0 → all ≡ field ∷ rest → n + times_of 448 all ≡ total → n + one + times_of 448 rest ≡ total
times_same n one total all field rest o e h =
    let counted : times_of 448 all ≡ one + times_of 448 rest = ap (λ f. times_of 448 f) e ∙ sum_by-cons (λ f. cond (f.0 == 448) 1 0) field rest ∙ ap (λ k. k + times_of 448 rest) (sym o) in
    omega (arith, counted, h)

-- no fault before a fault
pub or_next-none : (a b : Option SessionFault) → or_next a b ≡ None → (a ≡ None) × (b ≡ None)
or_next-none None b h = (refl, h)
or_next-none (Some fault) b h = absurd (cc_none fault h) where
  cc_none : (fault : SessionFault) → Some fault ≡ None → ⊥
  cc_none fault h = cc

-- entries behind the first field
pub whole_behind : (b : Bool) (date : List ℕ) (field : Field) (fields : List Field) → field.0 == 448 ≡ b → entries_fault date (entries_of (field ∷ fields)) ≡ None → entries_fault date (entries_of fields) ≡ None
whole_behind true date field fields h whole =
    (or_next-none (first_fault entry_lines date (field ∷ before_entry fields)) (entries_fault date (entries_of fields))
    (sym (ap (λ b. entries_fault date (cond b ((field ∷ before_entry fields) ∷ entries_of fields) (entries_of fields))) h) ∙ whole)).1
whole_behind false date field fields h whole = sym (ap (λ all. entries_fault date all) (entries_skip field fields h)) ∙ whole

-- the fault of a PartyID
pub party_id_fault : (date id : List ℕ) (fields : List Field) → required 448 AnId date ((448, id) ∷ before_entry fields) ≡ at_tag 448 (cond (length id == 0) (Some TagWithoutValue) (value_fault date AnId id))
unfolding tag_fault
party_id_fault date id fields = ap (λ found. tag_fault date (record { tag = 448; is_required = true; value = AnId }) found) (entry_id id fields)

lawful_id : (empty lawful : Bool) → at_tag 448 (cond empty (Some TagWithoutValue) (cond lawful None (Some IncorrectDataFormat))) ≡ None → lawful ≡ true
lawful_id empty true h = refl
lawful_id true false h = cc
lawful_id false false h = cc

-- the PartyID of a whole entry is an identifier
pub id_of_whole : (date id : List ℕ) (fields : List Field) → entries_fault date (entries_of ((448, id) ∷ fields)) ≡ None → is_id id ≡ true
id_of_whole date id fields whole =
    let first = (or_next-none (first_fault entry_lines date ((448, id) ∷ before_entry fields)) (entries_fault date (entries_of fields)) whole).0 in
    let party = (or_next-none (required 448 AnId date ((448, id) ∷ before_entry fields)) (or_next (required 447 AnyText date ((448, id) ∷ before_entry fields)) (or_next (required 452 AnyText date ((448, id) ∷ before_entry fields)) None)) first).0 in
    lawful_id (length id == 0) (is_id id) (sym (party_id_fault date id fields) ∙ party)

-- the dealer of an entry
pub no_dealer : (entry : List Field) (source : List ℕ) → text_at 447 entry ≡ source → same_text (codes "D") source ≡ false → dealer_of_entry entry ≡ None
no_dealer entry source s d = ap (λ b. cond (b && same_text (codes "35") (text_at 452 entry)) (value_of 448 entry) None) (ap (λ text. same_text (codes "D") text) s ∙ d)

pub dealer_if : (b : Bool) (id : List ℕ) (fields : List Field) (source role : List ℕ) → text_at 447 ((448, id) ∷ before_entry fields) ≡ source → same_text (codes "D") source ≡ true → text_at 452 ((448, id) ∷ before_entry fields) ≡ role → b ≡ same_text (codes "35") role
    → dealer_of_entry ((448, id) ∷ before_entry fields) ≡ cond b (Some id) None
dealer_if b id fields source role s d r e =
    ap (λ c. cond (c && same_text (codes "35") (text_at 452 ((448, id) ∷ before_entry fields))) (value_of 448 ((448, id) ∷ before_entry fields)) None) (ap (λ text. same_text (codes "D") text) s ∙ d)
    ∙ ap (λ c. cond c (Some id) None) (ap (λ text. same_text (codes "35") text) r ∙ sym e)

pub not_false : (b : Bool) → true ≡ not b → b ≡ false
not_false true h = cc
not_false false h = refl

pub not_true : (b : Bool) → false ≡ not b → b ≡ true
not_true true h = refl
not_true false h = cc

pub text_if-none : (b : Bool) (text : List ℕ) → is_some (cond b (Some text) None) ≡ false → b ≡ false
text_if-none true text h = cc
text_if-none false text h = refl

pub text_if-some : (b : Bool) (text : List ℕ) → is_some (cond b (Some text) None) ≡ true → b ≡ true
text_if-some true text h = refl
text_if-some false text h = cc

-- the dealers, by the first field
pub dealers_skip : (field : Field) (fields : List Field) → field.0 == 448 ≡ false → named_dealers (field ∷ fields) ≡ named_dealers fields
unfolding named_dealers
dealers_skip field fields h = ap (λ entries. filter_map dealer_of_entry entries) (entries_skip field fields h)

pub dealers_named : (id : List ℕ) (fields : List Field) → dealer_of_entry ((448, id) ∷ before_entry fields) ≡ Some id → named_dealers ((448, id) ∷ fields) ≡ id ∷ named_dealers fields
unfolding named_dealers
dealers_named id fields h = ap (λ found. cons_option found (filter_map dealer_of_entry (entries_of fields))) h

pub dealers_other : (id : List ℕ) (fields : List Field) → dealer_of_entry ((448, id) ∷ before_entry fields) ≡ None → named_dealers ((448, id) ∷ fields) ≡ named_dealers fields
unfolding named_dealers
dealers_other id fields h = ap (λ found. cons_option found (filter_map dealer_of_entry (entries_of fields))) h

pub dealers_none : (fields : List Field) → fields ≡ [] → named_dealers fields ≡ []
unfolding named_dealers
dealers_none fields h = ap (λ all. filter_map dealer_of_entry (entries_of all)) h
