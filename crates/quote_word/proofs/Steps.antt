-- The steps of a board keep its rule.
use Rattle.std.proofs.Common.{◌≡◌, ◌≢◌, ℕ, ◌<◌, ◌==◌, Bool, true, false, List, [], ◌∷◌, ◌++◌}
use Rattle.std.proofs.Common.{length, slice_index_or, slice_set, Option, Some, None, refl, ap, sym}
use Rattle.std.proofs.Common.{◌∙◌, subst, arith, inl, length-set}
use Rattle.std.proofs.lemmas.List.{get_or-set_same, get_or-set_other}
use Rattle.std.proofs.lemmas.Bool.Decides.{nat_tests}
use mathlib.Core.List.{IsPrefix}
use prog.Atomic.{either}
use Rattle.logbook.specs.Pages.{Book, Named, Cell, View, cell, keeps, no_nib, step, Moves, Goes}
use Rattle.quote_word.specs.declared.settled.Settled.{Settled}
use Rattle.quote_word.specs.declared.settled.Settled.TheVariants.{Withdrawn, Lifted}
use Rattle.quote_word.specs.declared.settled.Settlement.{Settlement}
use Rattle.quote_word.specs.PlainWords.{settlement_of}
use Rattle.quote_word.specs.SettleLog.{SettleLog, entry_of, IsLegal, added_by, log_after}
use Rattle.quote_word.specs.SettleLogLaws.{entry_after, other_after, legal_after}
use Rattle.quote_word.specs.Board.{BoardName, SettlesOnBoard}
use Rattle.quote_word.specs.Rule.{code_of, entry_of_code, IsBegun, words_of, settle_log, IsKept}
use Rattle.quote_word.specs.Rule.{Exchanged, front_of, word_of, AreWords}

-- what clients see of the log, which is nothing, and how an update moves it
abbrev pub shown : List Settlement → List Settlement
shown log = []

abbrev pub moved : List Settlement → List Settlement → ℕ → Type 0
moved before after settlement = Unit {0}

-- what is appended to a log that has begun
pub begun_appended : (log more : List Settlement) → IsBegun log → IsBegun (log ++ more)
begun_appended [] more begun = absurd begun
begun_appended (first ∷ log) more begun = tt

pub words_appended : (log more : List Settlement) → IsBegun log
    → words_of (log ++ more) ≡ words_of log
words_appended [] more begun = absurd begun
words_appended (first ∷ log) more begun = refl

pub settle_log_appended : (log more : List Settlement) → IsBegun log
    → settle_log (log ++ more) ≡ settle_log log ++ more
settle_log_appended [] more begun = absurd begun
settle_log_appended (first ∷ log) more begun = refl

-- what begins a log that goes on from one that has begun
pub begun_later : (log later : List Settlement) → IsPrefix log later → IsBegun log → IsBegun later
begun_later log later p begun = subst IsBegun p.1 (begun_appended log p.0 begun)

pub words_later : (log later : List Settlement) → IsPrefix log later → IsBegun log
    → words_of later ≡ words_of log
words_later log later p begun = ap words_of (sym p.1) ∙ words_appended log p.0 begun

pub settle_log_later : (log later : List Settlement) → IsPrefix log later → IsBegun log
    → IsPrefix (settle_log log) (settle_log later)
settle_log_later log later p begun =
    (p.0, sym (settle_log_appended log p.0 begun) ∙ ap settle_log p.1)

-- the number in a word says its entry
pub code_back : (entry : Option Settled) → entry_of_code (code_of entry) ≡ entry
code_back None = refl
code_back (Some Withdrawn) = refl
code_back (Some Lifted) = refl

-- the cell of a word with this entry
abbrev cell_of : Option Settled → Cell
cell_of entry = (code_of entry, true)

-- what an exchange makes of the number that it finds
abbrev pub written : Settled → ℕ → ℕ
written wish n = either (n == 0) (code_of (Some wish)) n

-- the number after an exchange is that of the entry after it
pub written_code : (entry : Option Settled) (wish : Settled)
    → written wish (code_of entry) ≡ code_of (Some (settlement_of entry wish))
written_code None wish = refl
written_code (Some Withdrawn) wish = refl
written_code (Some Lifted) wish = refl

-- the cells after an exchange on the word w
abbrev exchanged : List Cell → ℕ → Settled → List Cell
exchanged cs w wish = slice_set cs w (written wish (cell cs w).0, true)

-- each cell is that of its word's entry
abbrev AreCells : List Cell → SettleLog → Type 0
AreCells cs log = (w : ℕ) → w < length cs → cell cs w ≡ cell_of (entry_of w log)

-- and it is so afterwards
module _ (cs : List Cell) (log : SettleLog) (w : ℕ) (wish : Settled) (cells : AreCells cs log) where
  same_cell : w < length cs
      → cell (exchanged cs w wish) w ≡ cell_of (entry_of w (log_after log w wish))
  same_cell within =
      get_or-set_same cs w (written wish (cell cs w).0, true) (0, false) within
      ∙ ap (λ (c : Cell). (written wish c.0, true)) (cells w within)
      ∙ ap (λ (n : ℕ). (n, true)) (written_code (entry_of w log) wish)
      ∙ ap cell_of (sym (entry_after log w wish))

  other_cell : (v : ℕ) → v ≢ w → v < length cs
      → cell (exchanged cs w wish) v ≡ cell_of (entry_of v (log_after log w wish))
  other_cell v other in_row =
      get_or-set_other cs w v (written wish (cell cs w).0, true) (0, false) other
      ∙ cells v in_row ∙ ap cell_of (sym (other_after log w v wish other))

  each_cell : (v : ℕ) (here : Bool) → (v == w) ≡ here → v < length cs
      → cell (exchanged cs w wish) v ≡ cell_of (entry_of v (log_after log w wish))
  each_cell v true is in_row =
      let same : w ≡ v = grind (arith, nat_tests) in
      let P : ℕ → Type 0 =
      λ k. cell (exchanged cs w wish) k ≡ cell_of (entry_of k (log_after log w wish)) in
      subst P same (same_cell (rw same in_row))
  each_cell v false is in_row =
      let other : v ≢ w = grind (arith, nat_tests) in other_cell v other in_row

  cells_after : AreCells (exchanged cs w wish) (log_after log w wish)
  cells_after v in_row =
      let as_many = length-set cs w (written wish (cell cs w).0, true) in
      each_cell v (v == w) refl (subst (λ (n : ℕ). v < n) as_many in_row)

-- the rule after an exchange
kept_after : (cs : List Cell) (log : List Settlement) (w : ℕ) (wish : Settled) → IsKept cs log
    → IsKept (exchanged cs w wish) (log ++ added_by (entry_of w (settle_log log)) w wish)
kept_after cs log w wish kept =
    let more : List Settlement = added_by (entry_of w (settle_log log)) w wish in
    let tail = settle_log_appended log more kept.begun in
    let after : AreCells (exchanged cs w wish) (settle_log log ++ more) =
    cells_after cs (settle_log log) w wish kept.codes in
    record {
      begun = begun_appended log more kept.begun;
      legal = subst IsLegal (sym tail) (legal_after (settle_log log) w wish kept.legal);
      count =
          length-set cs w (written wish (cell cs w).0, true) ∙ kept.count
          ∙ sym (words_appended log more kept.begun);
      codes = subst (AreCells (exchanged cs w wish)) (sym tail) after;
    }

-- what an exchange tells a caller who has seen so much
abbrev pub Asks : List Settlement → ℕ → Settled → ℕ → View Settlement ℕ → Type 0
Asks seen w wish =
    let asked : Settlement = record { word = w; settled = wish } in
    Exchanged (step w 0 (code_of (Some wish)) asked) (seen, (no_nib, None))

-- whatever the board is, an exchange keeps the rule, and finds the word as its entry
asks_goes : (seen log : List Settlement) (cs : List Cell) (w : ℕ) (wish : Settled)
    → IsKept cs log → IsPrefix seen log → w < length cs
    → Goes IsKept shown moved w (seen, (no_nib, None)) (written wish) (Asks seen w wish) cs log
asks_goes seen log cs w wish kept pre within = (
  keeps,
  added_by (entry_of w (settle_log log)) w wish,
  None,
  tt,
  kept_after cs log w wish kept,
  inl (refl, refl),
  (log, pre, kept.legal, ap (λ (c : Cell). c.0) (kept.codes w within), refl),
)

pub asks_moves : (seen : List Settlement) (w : ℕ) (wish : Settled) → IsBegun seen
    → w < words_of seen
    → Moves IsKept shown moved w (seen, (no_nib, None)) (written wish) (Asks seen w wish)
asks_moves seen w wish begun word cs log kept pre away =
    let within : w < length cs = rw (kept.count, words_later seen log pre begun) word in
    let home = ap (λ (c : Cell). c.1) (kept.codes w within) in
    (within, home, asks_goes seen log cs w wish kept pre within)

-- the word that a call asks is tracked by the book of its token, under its own number
pub record Found (book : Book) (log : List Settlement) (w : ℕ) (word : Named) : Type 0 where
  pub is : word ≡ word_of book w
  pub within : w < words_of log

pub word_found : (words : List Named) (board now : BoardName) (book : Book) (log : List Settlement)
    → (w : ℕ) (found : Named) → AreWords words board → board ≡ now → (front_of book log).board ≡ now
    → w < now.words → found ≡ slice_index_or words w found → Found book log w found
word_found words board now book log w found are same ours word at =
    let within : w < length words = rw (are.count, same) word in
    record {
      is = at ∙ are.each w found within
          ∙ ap (λ (b : BoardName). word_of b.book w) (same ∙ sym ours);
      within = subst (λ (n : ℕ). w < n) (ap (λ (b : BoardName). b.words) (sym ours)) word;
    }

-- what a caller knows after an exchange: the log that it sees is lawful, and is that which was
-- found, after one exchange
pub record Told (book : Book) (seen : List Settlement) (w : ℕ) (wish : Settled) (found : ℕ)
    (later : List Settlement) : Type 0 where
  pub begun : IsBegun later
  pub legal : IsLegal (settle_log later)
  pub settles :
      SettlesOnBoard (front_of book seen) w wish (settlement_of (entry_of_code found) wish)
      (front_of book later)

told_of : (book : Book) (seen log later : List Settlement) (w : ℕ) (wish : Settled) (found : ℕ)
    → IsBegun seen → IsPrefix seen log → IsLegal (settle_log log)
    → found ≡ code_of (entry_of w (settle_log log))
    → later ≡ log ++ added_by (entry_of w (settle_log log)) w wish
    → Told book seen w wish found later
told_of book seen log later w wish found begun goes_on legal is grown =
    let more : List Settlement = added_by (entry_of w (settle_log log)) w wish in
    let begun_log : IsBegun log = begun_later seen log goes_on begun in
    let tail : settle_log later ≡ log_after (settle_log log) w wish =
    ap settle_log grown ∙ settle_log_appended log more begun_log in
    let said : entry_of_code found ≡ entry_of w (settle_log log) =
    ap entry_of_code is ∙ code_back (entry_of w (settle_log log)) in
    let as_many : words_of later ≡ words_of seen =
    ap words_of grown ∙ words_appended log more begun_log
    ∙ words_later seen log goes_on begun in
    let named : ℕ → BoardName = λ n. record { book = book; words = n } in
    let answered : Option Settled → Option Settled = λ e. Some (settlement_of e wish) in
    record {
      begun = subst IsBegun (sym grown) (begun_appended log more begun_log);
      legal = subst IsLegal (sym tail) (legal_after (settle_log log) w wish legal);
      settles = record {
        board = ap named as_many;
        found = settle_log log;
        extends = settle_log_later seen log goes_on begun;
        legal = legal;
        settled = tail;
        answered =
            ap (entry_of w) tail ∙ entry_after (settle_log log) w wish ∙ ap answered (sym said);
      };
    }

pub exchange_told : (book : Book) (key old new : ℕ) (ask : Settlement)
    → (before after : View Settlement ℕ) (found w : ℕ) (wish : Settled) → IsBegun before.0
    → key ≡ w → ask.settled ≡ wish → Exchanged (step key old new ask) before found after
    → Told book before.0 w wish found after.0
exchange_told book key old new ask before after found w wish begun k a told =
    let P : ℕ → Settled → Type 0 =
    λ n settled. (log : List Settlement) × IsPrefix before.0 log × IsLegal (settle_log log)
    × (found ≡ code_of (entry_of n (settle_log log)))
    × (after.0 ≡ log ++ added_by (entry_of n (settle_log log)) n settled) in
    let told' : P w wish =
    subst (λ (s : Settled). P w s) a (subst (λ (n : ℕ). P n ask.settled) k told) in
    told_of book before.0 told'.0 after.0 w wish found begun told'.1 told'.2 told'.3 told'.4
