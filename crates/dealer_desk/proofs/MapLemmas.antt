-- What the maps of an index keep.
use Rattle.std.proofs.Common.{◌≡◌, ℕ, ◌+◌, Bool, true, false, cond, List, [], ◌∷◌, ◌++◌, length}
use Rattle.std.proofs.Common.{map, find, Option, Some, None, option_map, refl, sym, ap, ◌∙◌, arith}
use Rattle.std.proofs.Common.{inl, inr}
use Rattle.std.specs.Option.{option_or}
use Rattle.std.specs.BTreeMap.{BTreeMap, get, is_at}
use Rattle.std.specs.Cmp.Lexicographic.{slice_cmp}
use Rattle.std.specs.Ordering.{nat_cmp, is_eq, ordering_then}
use Rattle.std.specs.declared.cmp.Ordering.{Ordering}
use Rattle.std.specs.declared.cmp.Ordering.TheVariants.{Less, Equal, Greater}
use Rattle.std.proofs.lemmas.Bool.{cases_Bool}
use Rattle.std.proofs.lemmas.Bool.Decides.{nat_tests}
use Rattle.std.proofs.lemmas.List.Folds.{find-append}
use Rattle.std.proofs.lemmas.Slice.Eq.{bytes_eq-Decides}
use Rattle.std.proofs.lemmas.Map.Text.{is_eq-slice_cmp}
use Rattle.venue_rows.specs.Texts.{same_text}
use Rattle.dealer_desk.specs.DealerFacts.{standing_quote}
use Rattle.market_terms.specs.declared.rooms.RoomRef.{RoomRef}
use Rattle.dealer_desk.specs.DealerOutput.{is_same_room, number_from, number_in}
use Rattle.dealer_desk.specs.DealerTable.{IsIdMap, IsRoomMap, room_cmp, key_cmp, key_of, rank_of}
use Rattle.dealer_desk.specs.declared.id_keys.IdKey.{IdKey}
use Rattle.dealer_desk.specs.declared.accepted.AcceptedQuote.{AcceptedQuote}
use Rattle.dealer_desk.specs.declared.standing.StandingQuote.{StandingQuote}
use Rattle.dealer_desk.proofs.ListLemmas.{find_mapped}

-- a change of quotes that keeps what was accepted keeps the map

pub ids_kept : (quotes : List StandingQuote) (by_id : BTreeMap IdKey ℕ) (f : StandingQuote → StandingQuote) → ((own : StandingQuote) → (f own).quote ≡ own.quote)
    → IsIdMap quotes by_id → IsIdMap (map f quotes) by_id
ids_kept quotes by_id f keeps ids = record {
  ids_are = λ id. ids.ids_are id
      ∙ sym (find_mapped (λ (q : StandingQuote). q.quote.number) (λ (q : StandingQuote). same_text q.quote.id id) f quotes
      (λ y. ap (λ (q : AcceptedQuote). q.number) (keeps y)) (λ k y at. ap (λ (q : AcceptedQuote). same_text q.id id) (keeps y)));
}

-- the keys of the maps

tail_same : (n : ℕ) → nat_cmp n n ≡ Equal
tail_same n = grind (arith, nat_tests)

then_apart : (first then : Ordering) → is_eq then ≡ false → is_eq (ordering_then first then) ≡ false
then_apart Less then apart = refl
then_apart Equal then apart = apart
then_apart Greater then apart = refl

same_key : (key id : List ℕ) → is_at (key_cmp (key_of key)) (key_of id) ≡ same_text key id
same_key key id =
    elim (cases_Bool (same_text key id)) [
      | inl so ↦
          (ap (λ (i : List ℕ). is_eq (ordering_then (nat_cmp (rank_of key) (rank_of i)) (slice_cmp nat_cmp key id))) (sym ((bytes_eq-Decides key id).0 so))
          ∙ ap (λ (o : Ordering). is_eq (ordering_then o (slice_cmp nat_cmp key id))) (tail_same (rank_of key))
          ∙ is_eq-slice_cmp key id)
      | inr apart ↦ then_apart (nat_cmp (rank_of key) (rank_of id)) (slice_cmp nat_cmp key id) (is_eq-slice_cmp key id ∙ apart) ∙ sym apart
    ]

pub or_none : {A : Type 0} (o : Option A) → option_or o None ≡ o
or_none None = refl
or_none (Some x) = refl

pick_new : (b : Bool) (quotes : List StandingQuote) (quote : AcceptedQuote) (found : Option StandingQuote) (was : Option ℕ) → was ≡ option_map (λ (q : StandingQuote). q.quote.number) found → (b ≡ true → found ≡ None)
    → cond b (Some quote.number) was ≡ option_map (λ (q : StandingQuote). q.quote.number) (option_or found (cond b (Some (standing_quote quote [])) None))
pick_new true quotes quote found was is new = ap (λ (o : Option StandingQuote). option_map (λ (q : StandingQuote). q.quote.number) (option_or o (Some (standing_quote quote [])))) (sym (new refl))
pick_new false quotes quote found was is new = is ∙ ap (option_map (λ (q : StandingQuote). q.quote.number)) (sym (or_none found))

-- a quote behind the others, with a new QuoteID
pub ids_pushed : (quotes : List StandingQuote) (old new : BTreeMap IdKey ℕ) (quote : AcceptedQuote)
    → IsIdMap quotes old → find (λ (q : StandingQuote). same_text q.quote.id quote.id) quotes ≡ None
    → ((q : IdKey) → get key_cmp new q ≡ cond (is_at (key_cmp (key_of quote.id)) q) (Some quote.number) (get key_cmp old q))
    → IsIdMap (quotes ++ standing_quote quote [] ∷ []) new
ids_pushed quotes old new quote ids unused updates = record {
  ids_are = λ id.
      updates (key_of id)
      ∙ ap (λ (b : Bool). cond b (Some quote.number) (get key_cmp old (key_of id))) (same_key quote.id id)
      ∙ pick_new (same_text quote.id id) quotes quote (find (λ (q : StandingQuote). same_text q.quote.id id) quotes) (get key_cmp old (key_of id)) (ids.ids_are id)
      (λ so. ap (λ (i : List ℕ). find (λ (q : StandingQuote). same_text q.quote.id i) quotes) (sym ((bytes_eq-Decides quote.id id).0 so)) ∙ unused)
      ∙ ap (option_map (λ (q : StandingQuote). q.quote.number)) (sym (find-append (λ (q : StandingQuote). same_text q.quote.id id) quotes (standing_quote quote [] ∷ [])));
}

first_or : (b : Bool) (first : ℕ) (m n o : Option ℕ) → m ≡ option_or n o → cond b (Some first) m ≡ option_or (cond b (Some first) n) o
first_or true first m n o h = refl
first_or false first m n o h = h

-- a room behind the others
number_pushed : (rooms : List RoomRef) (room q : RoomRef) (first : ℕ) → number_from first (rooms ++ room ∷ []) q ≡ option_or (number_from first rooms q) (cond (is_same_room room q) (Some (first + length rooms)) None)
number_pushed [] room q first = ap (λ (n : ℕ). cond (is_same_room room q) (Some n) None) (omega arith)
number_pushed (shown ∷ rooms) room q first =
    first_or (is_same_room shown q) first (number_from (first + 1) (rooms ++ room ∷ []) q) (number_from (first + 1) rooms q) (cond (is_same_room room q) (Some (first + length (shown ∷ rooms))) None)
    (number_pushed rooms room q (first + 1) ∙ ap (λ (n : ℕ). option_or (number_from (first + 1) rooms q) (cond (is_same_room room q) (Some n) None)) (omega arith))

pub rooms_pushed : (rooms : List RoomRef) (old new : BTreeMap RoomRef ℕ) (room : RoomRef) (number : ℕ) → IsRoomMap rooms old → number ≡ length rooms + 1
    → ((q : RoomRef) → get room_cmp new q ≡ option_or (get room_cmp old q) (cond (is_same_room room q) (Some number) None))
    → IsRoomMap (rooms ++ room ∷ []) new
rooms_pushed rooms old new room number was is put = record {
  rooms_are = λ q.
      put q
      ∙ ap (λ (o : Option ℕ). option_or o (cond (is_same_room room q) (Some number) None)) (was.rooms_are q)
      ∙ ap (λ (n : ℕ). option_or (number_in rooms q) (cond (is_same_room room q) (Some n) None)) (is ∙ omega arith)
      ∙ sym (number_pushed rooms room q 1);
}
