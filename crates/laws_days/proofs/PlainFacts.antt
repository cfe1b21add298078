-- The facts of one place among those of a venue; entries that no room and no other desk looks at.
use Rattle.laws_days.proofs.Common.{Bool, List, Option, ℕ, [], false, filter_map, inl, inr, map}
use Rattle.laws_days.proofs.Common.{refl, true, ◌++◌, ◌==◌, ◌∷◌, ◌≡◌, cases_Bool, eqb-true}
use Rattle.laws_days.proofs.Common.{RoomRef, Settled, DealerRow, Came, DealerFact, Dropped, Shown}
use Rattle.laws_days.proofs.Common.{Told, is_same_room, settled_facts, verdict_facts}
use Rattle.laws_days.proofs.Common.{DealerVerdict, RoomFact, settled_undue, verdict_undue, AtDesk}
use Rattle.laws_days.proofs.Common.{DealerEntry, Sent, ShownIn, rooms_by, due_by_fact, Each, Every}
use Rattle.laws_days.proofs.Common.{same_room, AtDealer, Fact, InRoom, of_dealer, of_room}
use Rattle.dealer_desk.specs.declared.standing.Withdrawal.{Withdrawal}
use Rattle.laws_days.proofs.ListLemmas.{every_map}
use Rattle.laws_days.proofs.VenueParts.{NamesLifted}

-- What stands at each fact stands at each of a place.

pub in_room_all : (P : Fact → Type 0) (room : RoomRef) (some : List Fact) → Every P some
    → Every (λ (fact : RoomFact). P (InRoom room fact)) (of_room room some)
unfolding of_room
in_room_all P room [] every = tt
in_room_all P room (InRoom other fact ∷ some) every =
    elim (cases_Bool (is_same_room other room)) [
      | inl same ↦
          rw same (rw (same_room other room same) at every.0, in_room_all P room some every.1)
      | inr differs ↦ rw differs (in_room_all P room some every.1)
    ]
in_room_all P room (fact ∷ some) every = in_room_all P room some every.1

pub at_dealer_all : (P : Fact → Type 0) (dealer : ℕ) (some : List Fact) → Every P some
    → Every (λ (entry : DealerEntry). P (AtDealer dealer entry)) (of_dealer dealer some)
unfolding of_dealer
at_dealer_all P dealer [] every = tt
at_dealer_all P dealer (AtDealer other entry ∷ some) every = elim (cases_Bool (other == dealer)) [
  | inl test ↦
      rw test (rw (eqb-true other dealer test) at every.0, at_dealer_all P dealer some every.1)
  | inr differs ↦ rw differs (at_dealer_all P dealer some every.1)
]
at_dealer_all P dealer (fact ∷ some) every = at_dealer_all P dealer some every.1

pub rooms_all : (P : DealerEntry → Type 0) (Q : RoomRef → Type 0)
    → ((room : RoomRef) → P (ShownIn room) → Q room) → (trail : List DealerEntry)
    → Every P trail → Every Q (rooms_by trail)
rooms_all P Q weaker [] every = tt
rooms_all P Q weaker (ShownIn room ∷ trail) every =
    (weaker room every.0, rooms_all P Q weaker trail every.1)
rooms_all P Q weaker (entry ∷ trail) every = rooms_all P Q weaker trail every.1

-- Entries.

-- whether an entry is neither a notice nor a request that was shown
abbrev pub is_plain_entry : DealerEntry → Bool
is_plain_entry (AtDesk (Told request close moment)) = false
is_plain_entry (AtDesk (Shown ask moment)) = false
is_plain_entry (ShownIn room) = false
is_plain_entry entry = true

-- entries none of which is
abbrev pub ArePlain : List DealerEntry → Type 0
ArePlain entries = Every (λ entry. is_plain_entry entry ≡ true) entries

-- whether a fact is plain, if it is of a dealer
abbrev pub is_quiet : Fact → Bool
is_quiet (AtDealer dealer entry) = is_plain_entry entry
is_quiet fact = true

-- facts of which each of a dealer is plain
abbrev pub AreQuiet : List Fact → Type 0
AreQuiet facts = Every (λ fact. is_quiet fact ≡ true) facts

pub quiet_trail : (dealer : ℕ) (facts : List Fact) → AreQuiet facts
    → ArePlain (of_dealer dealer facts)
quiet_trail dealer facts quiet = at_dealer_all (λ fact. is_quiet fact ≡ true) dealer facts quiet

pub plain_rooms : (entries : List DealerEntry) → ArePlain entries → rooms_by entries ≡ []
plain_rooms [] plain = refl
plain_rooms (ShownIn room ∷ entries) plain = cc (plain.0)
plain_rooms (entry ∷ entries) plain = plain_rooms entries plain.1

pub plain_names : (date : List ℕ) (row : DealerRow) (before entries : List DealerEntry)
    → ArePlain entries → Each (NamesLifted date row) before entries
plain_names date row before [] plain = tt
plain_names date row before (AtDesk (Told request close moment) ∷ entries) plain = cc (plain.0)
plain_names date row before (entry ∷ entries) plain =
    (tt, plain_names date row (before ++ entry ∷ []) entries plain.1)

pub sent_plain : (messages : List (List ℕ)) → ArePlain (map Sent messages)
sent_plain messages =
    every_map (λ entry. is_plain_entry entry ≡ true) Sent messages (λ message is. refl)

-- what a verdict and a settlement add is plain
abbrev pub IsPlain : DealerFact → Type 0
IsPlain fact = is_plain_entry (AtDesk fact) ≡ true

-- facts of which nothing is due by itself are
undue_plain : (facts : List DealerFact) → filter_map due_by_fact facts ≡ [] → Every IsPlain facts
undue_plain [] undue = tt
undue_plain (Came moment bytes used ∷ facts) undue = cc
undue_plain (Shown ask moment ∷ facts) undue = cc
undue_plain (Told request close moment ∷ facts) undue = cc
undue_plain (Dropped last moment ∷ facts) undue = cc
undue_plain (fact ∷ facts) undue = (refl, undue_plain facts undue)

pub settled_plain : (asked : Option ℕ) (how : Withdrawal) (settlement : Option Settled)
    → Every IsPlain (settled_facts asked how settlement)
settled_plain asked how settlement = undue_plain _ (settled_undue asked how settlement)

pub verdict_plain : (v : DealerVerdict) (settlement : Option Settled)
    → Every IsPlain (verdict_facts v settlement)
verdict_plain v settlement = undue_plain _ (verdict_undue v settlement)

-- what an event adds that shows no request and tells nothing
pub event_plain : (facts : List DealerFact) (messages : List (List ℕ)) → Every IsPlain facts
    → ArePlain (map AtDesk facts ++ [] ++ map Sent messages)
event_plain [] messages plain = sent_plain messages
event_plain (fact ∷ facts) messages plain = (plain.0, event_plain facts messages plain.1)
