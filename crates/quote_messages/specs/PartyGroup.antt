-- The party group of a QuoteRequest: NoPartyIDs (453) and behind it, entry by entry, PartyID (448),
-- PartyIDSource (447) and PartyRole (452).
use Rattle.std.specs.Prelude.{◌≡◌, ℕ, Bool, true, ◌==◌, ◌&&◌, ◌||◌, not, List, [], ◌∷◌, length}
use Rattle.std.specs.Prelude.{codes, count_by, Option, Some, None, if◌then◌else◌}
use Rattle.std.specs.List.{list_any, filter, filter_map, after_first, take_while}
use Rattle.fix_fields.specs.Frame.{Field, value_of, times_of}
use Rattle.venue_rows.specs.Texts.{same_text}
use Rattle.quote_messages.specs.ValueForms.{AnId, AnyText}
use Rattle.quote_messages.specs.SessionLines.{Line, required, first_fault, or_next, text_at}
use Rattle.quote_messages.specs.SessionLines.{has_number}
use Rattle.quote_messages.specs.declared.session_faults.SessionRejectReason.TheVariants.{IncorrectNumInGroup}
use Rattle.quote_messages.specs.declared.session_faults.SessionFault.{SessionFault}

-- a tag of an entry
abbrev pub is_of_party : ℕ → Bool
is_of_party tag = tag == 448 || (tag == 447 || tag == 452)

-- the other tags of the tables of a QuoteRequest: the header's, and its own
abbrev pub is_beside_parties : ℕ → Bool
is_beside_parties tag =
    list_any (λ known. known == tag)
    (49 ∷ 56 ∷ 52 ∷ 50 ∷ 35 ∷ 131 ∷ 146 ∷ 48 ∷ 22 ∷ 54 ∷ 38 ∷ 126 ∷ 453 ∷ [])

-- the fields without those that are ignored
abbrev pub not_ignored : List Field → List Field
not_ignored fields = filter (λ field. is_of_party field.0 || is_beside_parties field.0) fields

-- the group: the run of fields of entries that stands directly behind NoPartyIDs (453)
abbrev pub group_of : List Field → List Field
group_of fields =
    take_while (λ field. is_of_party field.0) (after_first
    (λ field. field.0 == 453) (not_ignored fields))

-- whether the group is empty or begins with an entry
abbrev pub begins_with_entry : List Field → Bool
begins_with_entry [] = true
begins_with_entry (field ∷ fields) = field.0 == 448

-- whether the group begins with an entry, has as many as NoPartyIDs (453) says, and no field of an
-- entry stands anywhere else
abbrev pub is_one_group : List Field → List Field → Bool
is_one_group group fields =
    (begins_with_entry group && has_number 453 (times_of 448 group) fields)
    && (length group == count_by (λ field. is_of_party field.0) fields)

-- the fields before the next entry
abbrev pub before_entry : List Field → List Field
before_entry fields = take_while (λ field. not (field.0 == 448)) fields

-- the entries: each begins with PartyID (448) and ends before the next one
abbrev pub entries_of : List Field → List (List Field)
entries_of [] = []
entries_of (field ∷ fields) =
    if field.0 == 448 then (field ∷ before_entry fields) ∷ entries_of fields else entries_of fields

-- what is asked of an entry
abbrev pub entry_lines : List Line
entry_lines =
    required 448 AnId
    ∷ required 447 AnyText
    ∷ required 452 AnyText
    ∷ []

-- the first fault of the first entry that has one
abbrev pub entries_fault : List ℕ → List (List Field) → Option SessionFault
entries_fault date [] = None
entries_fault date (entry ∷ entries) =
    or_next (first_fault entry_lines date entry) (entries_fault date entries)

-- the fault of a group that is not whole
abbrev pub group_fault : List Field → Option SessionFault
group_fault fields =
    if is_one_group (group_of fields) fields then None
    else Some (record { tag = 453; reason = IncorrectNumInGroup })

-- The line of the table: the group is whole, and so is each entry. The entries are looked for in
-- all fields, since none of theirs stands outside a whole group.
unfoldable pub party_group : Line
party_group = λ date fields. or_next (group_fault fields) (entries_fault date (entries_of fields))

-- the dealer that an entry names: its PartyID, where PartyIDSource is D and PartyRole is 35; other
-- entries are ignored
abbrev pub dealer_of_entry : List Field → Option (List ℕ)
dealer_of_entry entry =
    if same_text (codes "D") (text_at 447 entry) && same_text (codes "35") (text_at 452 entry)
    then value_of 448 entry
    else None

-- the dealers that a message names, in their order
unfoldable pub named_dealers : List Field → List (List ℕ)
named_dealers fields = filter_map dealer_of_entry (entries_of fields)

-- each entry is whole
abbrev pub AreWhole : List (List Field) → Type 0
AreWhole entries = (date : List ℕ) → entries_fault date entries ≡ None
