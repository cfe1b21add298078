-- What an exchange on a settle log keeps.
use Rattle.std.specs.Prelude.{◌≡◌, ◌≢◌, ℕ, ◌==◌, Bool, true, false, [], ◌∷◌, ◌++◌, Option, Some}
use Rattle.std.specs.Prelude.{None, if◌then◌else◌}
use Rattle.std.proofs.Common.{refl, sym, ap, ◌∙◌, subst, append_assoc}
use Rattle.std.proofs.Common.{arith}
use Rattle.std.proofs.lemmas.List.{append-nil}
use Rattle.std.proofs.lemmas.Bool.Decides.{nat_tests}
use mathlib.Core.List.{IsPrefix}
use Rattle.quote_word.specs.declared.settled.Settled.{Settled}
use Rattle.quote_word.specs.declared.settled.Settlement.{Settlement}
use Rattle.quote_word.specs.SettleLog.{SettleLog, entry_of, IsLegal, added_by, log_after}
use Rattle.quote_word.specs.PlainWords.{settlement_of}

-- an entry that stands stays, whatever is appended
entry_stays_by : (e : Settlement) (log more : SettleLog) (w : ℕ) (was : Settled) (here : Bool)
    → (entry_of w log ≡ Some was → entry_of w (log ++ more) ≡ Some was)
    → (if here then Some e.settled else entry_of w log) ≡ Some was
    → (if here then Some e.settled else entry_of w (log ++ more)) ≡ Some was
entry_stays_by e log more w was true rest stands = stands
entry_stays_by e log more w was false rest stands = rest stands

pub entry_stays : (log more : SettleLog) (w : ℕ) (was : Settled) → entry_of w log ≡ Some was
    → entry_of w (log ++ more) ≡ Some was
entry_stays [] more w was stands = absurd cc
entry_stays (e ∷ log) more w was stands =
    entry_stays_by e log more w was (e.word == w) (entry_stays log more w was) stands

-- an entry of a log stands in each log that begins with it
pub entry_stays_later : (log later : SettleLog) (w : ℕ) (was : Settled) → IsPrefix log later
    → entry_of w log ≡ Some was → entry_of w later ≡ Some was
entry_stays_later log later w was p stands =
    ap (entry_of w) (sym p.1) ∙ entry_stays log p.0 w was stands

-- a word without an entry has the entry that is appended
entry_appended_by : (e : Settlement) (log more : SettleLog) (w : ℕ) (here : Bool)
    → (entry_of w log ≡ None → entry_of w (log ++ more) ≡ entry_of w more)
    → (if here then Some e.settled else entry_of w log) ≡ None
    → (if here then Some e.settled else entry_of w (log ++ more)) ≡ entry_of w more
entry_appended_by e log more w true rest unsettled = absurd cc
entry_appended_by e log more w false rest unsettled = rest unsettled

pub entry_appended : (log more : SettleLog) (w : ℕ) → entry_of w log ≡ None
    → entry_of w (log ++ more) ≡ entry_of w more
entry_appended [] more w unsettled = refl
entry_appended (e ∷ log) more w unsettled =
    entry_appended_by e log more w (e.word == w) (entry_appended log more w) unsettled

-- an appended entry is that of its own word, and of no other
entry_alone_by : (here : Bool) (settled : Settled) → here ≡ true
    → (if here then Some settled else None) ≡ Some settled
entry_alone_by true settled is = refl
entry_alone_by false settled is = absurd cc

pub entry_alone : (w : ℕ) (wish : Settled)
    → entry_of w (record { word = w; settled = wish } ∷ []) ≡ Some wish
entry_alone w wish = entry_alone_by (w == w) wish (grind (arith, nat_tests))

other_alone_by : (here : Bool) (settled : Settled) → here ≡ false
    → (if here then Some settled else None) ≡ None
other_alone_by true settled is = absurd cc
other_alone_by false settled is = refl

other_alone : (w v : ℕ) (wish : Settled) → v ≢ w
    → entry_of v (record { word = w; settled = wish } ∷ []) ≡ None
other_alone w v wish other = other_alone_by (w == v) wish (grind (arith, nat_tests))

-- after an exchange the word's entry is what it was already, or else the wish
entry_after_by : (entry : Option Settled) (log : SettleLog) (w : ℕ) (wish : Settled)
    → entry_of w log ≡ entry
    → entry_of w (log ++ added_by entry w wish) ≡ Some (settlement_of entry wish)
entry_after_by None log w wish is =
    entry_appended log (added_by None w wish) w is ∙ entry_alone w wish
entry_after_by (Some settled) log w wish is = entry_stays log [] w settled is

pub entry_after : (log : SettleLog) (w : ℕ) (wish : Settled)
    → entry_of w (log_after log w wish) ≡ Some (settlement_of (entry_of w log) wish)
entry_after log w wish = entry_after_by (entry_of w log) log w wish refl

-- and every other word's entry is what it was
other_after_none : (entry : Option Settled) (log : SettleLog) (w v : ℕ) (wish : Settled) → v ≢ w
    → entry_of v log ≡ entry → entry_of v (log ++ record { word = w; settled = wish } ∷ []) ≡ entry
other_after_none None log w v wish other is =
    entry_appended log (record { word = w; settled = wish } ∷ []) v is ∙ other_alone w v wish other
other_after_none (Some settled) log w v wish other is =
    entry_stays log (record { word = w; settled = wish } ∷ []) v settled is

other_after_by : (entry : Option Settled) (log : SettleLog) (w v : ℕ) (wish : Settled) → v ≢ w
    → entry_of v (log ++ added_by entry w wish) ≡ entry_of v log
other_after_by None log w v wish other = other_after_none (entry_of v log) log w v wish other refl
other_after_by (Some settled) log w v wish other = ap (entry_of v) (append-nil log)

pub other_after : (log : SettleLog) (w v : ℕ) (wish : Settled) → v ≢ w
    → entry_of v (log_after log w wish) ≡ entry_of v log
other_after log w v wish other = other_after_by (entry_of w log) log w v wish other

-- a word that is open in a log is not that of its first entry, and is open behind it
head_apart_by : (e : Settlement) (later : Option Settled) (here : Bool)
    → (if here then Some e.settled else later) ≡ None → here ≡ true → ⊥
head_apart_by e later true unsettled is = cc
head_apart_by e later false unsettled is = cc

head_apart : (e : Settlement) (log : SettleLog) (w : ℕ) → entry_of w (e ∷ log) ≡ None → e.word ≢ w
head_apart e log w unsettled same =
    head_apart_by e (entry_of w log) (e.word == w) unsettled (grind (arith, nat_tests))

tail_open_by : (e : Settlement) (later : Option Settled) (here : Bool)
    → (if here then Some e.settled else later) ≡ None → later ≡ None
tail_open_by e later true unsettled = absurd cc
tail_open_by e later false unsettled = unsettled

tail_open : (e : Settlement) (log : SettleLog) (w : ℕ) → entry_of w (e ∷ log) ≡ None
    → entry_of w log ≡ None
tail_open e log w unsettled = tail_open_by e (entry_of w log) (e.word == w) unsettled

-- a legal log is legal after an exchange
legal_appended : (log : SettleLog) (w : ℕ) (wish : Settled) → entry_of w log ≡ None → IsLegal log
    → IsLegal (log ++ record { word = w; settled = wish } ∷ [])
legal_appended [] w wish unsettled legal = (refl, tt)
legal_appended (e ∷ log) w wish unsettled legal =
    let apart : e.word ≢ w = head_apart e log w unsettled in (
      entry_appended log (record {
        word =
            w;
        settled = wish;
      } ∷ []) e.word legal.0 ∙ other_alone w e.word wish apart,
      legal_appended log w wish (tail_open e log w unsettled) legal.1,
    )

legal_after_by : (entry : Option Settled) (log : SettleLog) (w : ℕ) (wish : Settled)
    → entry_of w log ≡ entry → IsLegal log → IsLegal (log ++ added_by entry w wish)
legal_after_by None log w wish is legal = legal_appended log w wish is legal
legal_after_by (Some settled) log w wish is legal = subst IsLegal (sym (append-nil log)) legal

pub legal_after : (log : SettleLog) (w : ℕ) (wish : Settled) → IsLegal log
    → IsLegal (log_after log w wish)
legal_after log w wish legal = legal_after_by (entry_of w log) log w wish refl legal

-- the log before an exchange begins the log after it
pub log_goes_on : (log : SettleLog) (w : ℕ) (wish : Settled) → IsPrefix log (log_after log w wish)
log_goes_on log w wish = (added_by (entry_of w log) w wish, refl)

-- of three logs of which each begins the next, the first begins the last
pub begins_all : (first second third : SettleLog) → IsPrefix first second → IsPrefix second third
    → IsPrefix first third
begins_all first second third p q =
    (p.0 ++ q.0, sym (append_assoc first p.0 q.0) ∙ (ap (λ w. w ++ q.0) p.1 ∙ q.1))

-- two settlements that are one word's entry in one log are one settlement
pub one_entry : (log : SettleLog) (w v : ℕ) (first second : Settled) → entry_of w log ≡ Some first
    → entry_of v log ≡ Some second → w ≡ v → first ≡ second
one_entry log w v first second one two same = cc (ap (λ (k : ℕ). entry_of k log) same)

-- an open word has the wish as its entry
pub open_after : (log : SettleLog) (w : ℕ) (wish : Settled) → entry_of w log ≡ None
    → entry_of w (log_after log w wish) ≡ Some wish
open_after log w wish unsettled =
    entry_after log w wish ∙ ap (λ (entry : Option Settled). Some (settlement_of entry wish))
    unsettled

-- a settled word adds nothing
pub settled_after : (log : SettleLog) (w : ℕ) (wish was : Settled) → entry_of w log ≡ Some was
    → log_after log w wish ≡ log
settled_after log w wish was stands =
    ap (λ (entry : Option Settled). log ++ added_by entry w wish) stands ∙ append-nil log
