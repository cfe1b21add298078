-- What an exchange on a list of words keeps.
use Rattle.std.specs.Prelude.{◌≡◌, ◌≢◌, ℕ, ◌<◌, List, Option, Some, None, length}
use Rattle.std.proofs.Common.{refl, sym, ap, ◌∙◌, subst, length-set}
use Rattle.std.proofs.lemmas.List.{get_or-set_same, get_or-set_other}
use Rattle.quote_word.specs.declared.settled.Settled.{Settled}
use Rattle.quote_word.specs.PlainWords.{Exchanges, entry_in, after_exchange, settlement_of}

-- the words after an exchange on a word with this entry are as many
count_after : (entry : Option Settled) (entries : List (Option Settled)) (w : ℕ) (wish : Settled)
    → length (after_exchange entry entries w wish) ≡ length entries
count_after None entries w wish = length-set entries w (Some wish)
count_after (Some settled) entries w wish = refl

-- no word comes or goes
pub exchange_keeps_count : (before after : List (Option Settled)) (w : ℕ)
    (wish settlement : Settled)
    → Exchanges before w wish settlement after → length after ≡ length before
exchange_keeps_count before after w wish settlement e =
    ap length e.changed ∙ count_after (entry_in before w) before w wish

-- the word's entry after an exchange is the settlement
entry_after : (entry : Option Settled) (entries : List (Option Settled)) (w : ℕ) (wish : Settled)
    → w < length entries → entry_in entries w ≡ entry
    → entry_in (after_exchange entry entries w wish) w ≡ Some (settlement_of entry wish)
entry_after None entries w wish within is = get_or-set_same entries w (Some wish) None within
entry_after (Some settled) entries w wish within is = is

-- the settlement is the word's entry afterwards
pub exchange_answers_entry : (before after : List (Option Settled)) (w : ℕ)
    (wish settlement : Settled)
    → w < length before → Exchanges before w wish settlement after → entry_in after w
    ≡ Some settlement
exchange_answers_entry before after w wish settlement within e =
    ap (λ words. entry_in words w) e.changed
    ∙ entry_after (entry_in before w) before w wish within refl ∙ ap Some (sym e.answered)

-- a word that is open
abbrev IsOpen : Option Settled → Type 0
IsOpen None = Unit {0}
IsOpen (Some settled) = ⊥

-- a word that is open is not one that is settled
other_word : (entries : List (Option Settled)) (w v : ℕ) (was : Settled) → entry_in entries w ≡ None
    → entry_in entries v ≡ Some was → v ≢ w
other_word entries w v was unsettled stands same =
    subst IsOpen (sym unsettled ∙ ap (entry_in entries) (sym same) ∙ stands) tt

-- an entry that stands stays, whatever the entry of the word that is asked
stays_after : (entry : Option Settled) (entries : List (Option Settled)) (w v : ℕ)
    → (wish was : Settled)
    → entry_in entries w ≡ entry → entry_in entries v ≡ Some was
    → entry_in (after_exchange entry entries w wish) v ≡ Some was
stays_after None entries w v wish was unsettled stands =
    get_or-set_other entries w v (Some wish) None (other_word entries w v was unsettled stands)
    ∙ stands
stays_after (Some settled) entries w v wish was is stands = stands

-- an entry that stands stays
pub exchange_keeps_entries : (before after : List (Option Settled)) (w v : ℕ)
    → (wish settlement was : Settled)
    → Exchanges before w wish settlement after → entry_in before v ≡ Some was
    → entry_in after v ≡ Some was
exchange_keeps_entries before after w v wish settlement was e stands =
    ap (λ words. entry_in words v) e.changed
    ∙ stays_after (entry_in before w) before w v wish was refl stands

-- an open word becomes the wish
pub exchange_takes_wish : (before after : List (Option Settled)) (w : ℕ) (wish settlement : Settled)
    → w < length before → Exchanges before w wish settlement after → entry_in before w ≡ None
    → entry_in after w ≡ Some wish
exchange_takes_wish before after w wish settlement within e unsettled =
    exchange_answers_entry before after w wish settlement within e
    ∙ ap Some (e.answered ∙ ap (λ (entry : Option Settled). settlement_of entry wish) unsettled)

-- no other word changes
others_after : (entry : Option Settled) (entries : List (Option Settled)) (w v : ℕ) (wish : Settled)
    → v ≢ w → entry_in (after_exchange entry entries w wish) v ≡ entry_in entries v
others_after None entries w v wish other = get_or-set_other entries w v (Some wish) None other
others_after (Some settled) entries w v wish other = refl

pub exchange_keeps_others : (before after : List (Option Settled)) (w v : ℕ)
    (wish settlement : Settled)
    → Exchanges before w wish settlement after → v ≢ w → entry_in after v ≡ entry_in before v
exchange_keeps_others before after w v wish settlement e other =
    ap (λ words. entry_in words v) e.changed
    ∙ others_after (entry_in before w) before w v wish other
