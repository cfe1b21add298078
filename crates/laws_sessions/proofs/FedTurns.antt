-- What a session does with what it is handed.
use Rattle.std.proofs.Common.{◌≡◌, ◌⊎◌, ◌≤◌, ◌<◌, ◌+◌, ◌-◌, ◌==◌, ◌&&◌, ◌||◌, not, ℕ, Bool, true, false}
use Rattle.std.proofs.Common.{nat_le, nat_lt, List, Option, Some, None, refl, sym, ◌∙◌}
use Rattle.std.proofs.Common.{ap, subst, arith, inl, inr, if◌then◌else◌}
use Rattle.std.specs.Prelude.{codes}
use Rattle.std.proofs.lemmas.Bool.{cases_Bool, eqb-true, eq-eqb, false≢true}
use Rattle.std.proofs.lemmas.Bool.Decides.{nat_tests}
use Rattle.fix_fields.specs.Frame.{Field, value_of}
use Rattle.fix_sessions.specs.Outcomes.{is_spent, said, standing, stays}
use Rattle.fix_sessions.specs.Sending.{again_of, again_to, before_kept, fill_end, fills_gap, fresh_of}
use Rattle.fix_sessions.specs.Sending.{hands, hands_on, is_answer, is_reject, is_resending, passed, wants}
use Rattle.fix_sessions.specs.Sending.{requests, wants_of_its_own, wants_on}
use Rattle.fix_sessions.specs.Written.{kept_fields}
use Rattle.fix_sessions.specs.declared.state.Line.{Line}
use Rattle.fix_sessions.specs.declared.state.Live.{Live}
use Rattle.fix_sessions.specs.declared.state.TheConstants.{LAST_NUMBER}
use Rattle.fix_sessions.specs.declared.turns.Said.{Said}
use Rattle.fix_sessions.specs.declared.turns.Stored.{Stored}
use Rattle.fix_sessions.specs.declared.turns.Turn.{Turn}
use Rattle.fix_sessions.specs.declared.turns.Want.TheVariants as want
use Rattle.fix_sessions.specs.declared.turns.Way.TheVariants as way
use Rattle.fix_sessions.specs.declared.turns.Word.TheVariants as word
use Rattle.laws_sessions.specs.Kept.{Entry, IsKept, is_answer_body}
use Rattle.laws_sessions.specs.Fed.{IsDue, IsHandedBack, has_number, leaves_under}
use Rattle.laws_sessions.proofs.FedKept.{choice, less_by, not_less, at_most, is_at_most}
use Rattle.laws_sessions.proofs.FedKept.{by_true, by_false, other_number}
use Rattle.laws_sessions.proofs.FedKept.{not_there, behind_free, answer_again}

-- A session that may go on.
pub record Stands (a : Live) : Type 0 where
  pub unspent : is_spent (standing a) ≡ false
  pub settled : a.line.is_settled ≡ true
  pub holds_none : a.line.is_held ≡ false
  pub in_order : is_resending a.line ≡ true → a.line.again ≤ a.line.fresh

-- its numbers
record Numbers (a : Live) : Type 0 where
  pub next : nat_lt LAST_NUMBER a.day.next ≡ false
  pub expected : nat_lt LAST_NUMBER a.day.expected ≡ false
  pub fresh : a.line.fresh ≤ a.day.next
  pub again_end : a.line.again_end ≤ a.day.next
  pub overtook : nat_le a.line.overtook a.day.next ≡ true

or_parts : (a b c : Bool) → ((a || b) || not c) ≡ false → (a ≡ false) × (b ≡ false) × (c ≡ true)
or_parts true b c h = absurd (false≢true (sym h))
or_parts false true c h = absurd (false≢true (sym h))
or_parts false false true h = (refl, refl, refl)
or_parts false false false h = absurd (false≢true (sym h))

and_three : (a b c : Bool) → ((a && b) && c) ≡ true → (a ≡ true) × (b ≡ true) × (c ≡ true)
and_three true true c h = (refl, refl, h)
and_three true false c h = absurd (false≢true h)
and_three false b c h = absurd (false≢true h)

numbers_of : (a : Live) → is_spent (standing a) ≡ false → Numbers a
numbers_of a unspent =
    let or = or_parts (nat_lt LAST_NUMBER a.day.next) (nat_lt LAST_NUMBER a.day.expected)
    ((nat_le a.line.fresh a.day.next && nat_le a.line.again_end a.day.next)
    && nat_le a.line.overtook a.day.next) unspent in
    let and = and_three (nat_le a.line.fresh a.day.next) (nat_le a.line.again_end a.day.next)
    (nat_le a.line.overtook a.day.next) or.2 in
    record {
      next = or.0;
      expected = or.1;
      fresh = at_most a.line.fresh a.day.next and.0;
      again_end = at_most a.line.again_end a.day.next and.1;
      overtook = and.2;
    }

not_spent : (a : Live) → Numbers a → is_spent (standing a) ≡ false
not_spent a numbers =
    rw (
      numbers.next,
      numbers.expected,
      is_at_most a.line.fresh a.day.next numbers.fresh,
      is_at_most a.line.again_end a.day.next numbers.again_end,
      numbers.overtook,
    ) refl

-- Turns.

-- the same session on another line
abbrev pub moved : Live → Line → Live
moved a line = record a { line = line }

-- how many numbers it may still want
abbrev pub left : Live → ℕ
left a = (a.line.again_end - a.line.again) + (a.day.next - a.line.fresh)

-- nothing that is kept leaves under this number any more
abbrev pub IsPast : Line → ℕ → Type 0
IsPast line n = (n < line.fresh) × ((n < line.again) ⊎ (line.again_end ≤ n))

-- what a turn does that hands something in
pub record Stepped (a : Live) (kept : List Entry) (t : Turn) : Type 0 where
  pub line : Line
  pub is : t.session ≡ standing (moved a line)
  pub stands : Stands (moved a line)
  pub less : left (moved a line) < left a
  pub past : (n : ℕ) → IsPast a.line n → (leaves_under n t.first ≡ false) × IsPast line n
  pub due : (n : ℕ) (body : List Field) → ((other : List Field) → IsKept n other kept → body ≡ other)
      → IsKept n body kept → IsDue a.line n body
      → ((leaves_under n t.first ≡ true) × IsPast line n)
      ⊎ ((leaves_under n t.first ≡ false) × IsDue line n body)

-- the later of two numbers
abbrev later : ℕ → ℕ → ℕ
later fresh to = if nat_lt fresh to then to else fresh

later_first : (fresh to : ℕ) → fresh ≤ later fresh to
later_first fresh to =
    choice (λ (n : ℕ). fresh ≤ n) (nat_lt fresh to) _ _
    (λ h. (let l = less_by fresh to h in omega (arith, l))) (λ h. omega arith)

later_other : (fresh to : ℕ) → to ≤ later fresh to
later_other fresh to =
    choice (λ (n : ℕ). to ≤ n) (nat_lt fresh to) _ _ (λ h. omega arith) (λ h. not_less fresh to h)

later_least : (fresh to most : ℕ) → fresh ≤ most → to ≤ most → later fresh to ≤ most
later_least fresh to most one other =
    choice (λ (n : ℕ). n ≤ most) (nat_lt fresh to) _ _ (λ h. other) (λ h. one)

-- Numbers are sent again.
module _ (a : Live) (stands : Stands a) (kept : List Entry) (to now : ℕ) (first : Option Said)
    (resends : is_resending a.line ≡ true) (above : a.line.again < to) (most : to ≤ a.line.again_end) where
  abbrev ahead : Line
  ahead = again_to a.line now to

  abbrev turned : Turn
  turned = record (stays (moved a ahead)) { first = first }

  numbers : Numbers a
  numbers = numbers_of a stands.unspent

  more : Stands (moved a ahead)
  more = record {
    unspent = not_spent (moved a ahead) (record {
      next = numbers.next;
      expected = numbers.expected;
      fresh = later_least a.line.fresh to a.day.next numbers.fresh
          (let one = numbers.again_end in omega (arith, one, most));
      again_end = numbers.again_end;
      overtook = numbers.overtook;
    });
    settled = stands.settled;
    holds_none = rw (stands.holds_none) refl;
    in_order = λ goes_on. later_other a.line.fresh to;
  }

  fewer : left (moved a ahead) < left a
  fewer =
      let up = later_first a.line.fresh to in
      omega (arith, up, above, most)

  again_stepped : ((n : ℕ) → (n ≡ a.line.again → ⊥) → leaves_under n first ≡ false)
      → ((n : ℕ) (body : List Field) → ((other : List Field) → IsKept n other kept → body ≡ other)
      → IsKept n body kept → is_answer_body body ≡ false → a.line.again ≤ n → n < to
      → leaves_under n first ≡ true)
      → Stepped a kept turned
  again_stepped only here = record {
    line = ahead;
    is = refl;
    stands = more;
    less = fewer;
    past = λ n past. (
      only n (λ same. elim past.1 [
        | inl before ↦ omega (arith, before, same)
        | inr behind ↦ omega (arith, behind, same, above, most)
      ]),
      (
        (let up = later_first a.line.fresh to in let low = past.0 in omega (arith, up, low)),
        elim past.1 [ inl before ↦ inl (omega (arith, before, above)) | inr behind ↦ inr behind ],
      ),
    );
    due = λ n body once is due. elim due [
      | inl asked ↦ elim (cases_Bool (nat_lt n to)) [
        | inl now_left ↦
            (let low = less_by n to now_left in
            inl (
              here n body once is asked.2 asked.0 low,
              ((let up = later_other a.line.fresh to in omega (arith, up, low)), inl low),
            ))
        | inr still ↦
            (let high = not_less n to still in
            inr (
              only n (λ same. omega (arith, same, high, above)),
              inl (high, asked.1, asked.2),
            ))
      ]
      | inr fresh ↦
          (let high = fresh.0 in
          inr (
            only n (λ same. omega (arith, same, high, above, most)),
            inr (fresh.0, later_least a.line.fresh to n fresh.1 (omega (arith, high, most))),
          ))
    ];
  }

-- What leaves for the first time.
module _ (a : Live) (stands : Stands a) (kept : List Entry) (sent : ℕ) (first : Option Said)
    (resends : is_resending a.line ≡ false) (above : a.line.fresh < a.day.next) where
  abbrev on : Line
  on = record (passed a.line) { sent = sent }

  abbrev so : Turn
  so = record (stays (moved a on)) { first = first }

  own : Numbers a
  own = numbers_of a stands.unspent

  ended : a.line.again_end ≤ a.line.again
  ended = not_less a.line.again a.line.again_end resends

  goes : Stands (moved a on)
  goes = record {
    unspent = not_spent (moved a on) (record {
      next = own.next;
      expected = own.expected;
      fresh = omega (arith, above);
      again_end = own.again_end;
      overtook = own.overtook;
    });
    settled = stands.settled;
    holds_none = stands.holds_none;
    in_order = λ goes_on. absurd (false≢true (sym resends ∙ goes_on));
  }

  one_fewer : left (moved a on) < left a
  one_fewer = omega (arith, above)

  fresh_stepped : ((n : ℕ) → (n ≡ a.line.fresh → ⊥) → leaves_under n first ≡ false)
      → ((n : ℕ) (body : List Field) → IsKept n body kept → n ≡ a.line.fresh → leaves_under n first ≡ true)
      → Stepped a kept so
  fresh_stepped only here = record {
    line = on;
    is = refl;
    stands = goes;
    less = one_fewer;
    past = λ n past. (
      only n (λ same. (let low = past.0 in omega (arith, low, same))),
      ((let low = past.0 in omega (arith, low)), past.1),
    );
    due = λ n body once is due. elim due [
      | inl asked ↦
          (let low = asked.0 in let high = asked.1 in let end = ended in absurd (omega (arith, low, high, end)))
      | inr fresh ↦ elim (cases_Bool (a.line.fresh == n)) [
        | inl same ↦
            (let at : n ≡ a.line.fresh = sym (eqb-true a.line.fresh n same) in
            inl (here n body is at, (omega (arith, at), inr fresh.0)))
        | inr differs ↦
            (let low = fresh.1 in
            let apart : (n ≡ a.line.fresh → ⊥) = (λ at. false≢true (sym differs ∙ eq-eqb a.line.fresh n (sym at))) in
            let over : a.line.fresh < n = grind (arith, nat_tests) in
            inr (only n apart, inr (fresh.0, omega (arith, over))))
      ]
    ];
  }

-- What is handed in.

fill_above : (l : Line) (next_kept : ℕ) → is_resending l ≡ true → l.again < fill_end l next_kept
fill_above l next_kept resends =
    let asks = less_by l.again l.again_end resends in
    choice (λ (n : ℕ). l.again < n) (not (nat_lt l.again l.split)) _ _ (λ h. omega arith)
    (λ h. choice (λ (n : ℕ). l.again < n) (nat_lt l.split (before_kept l next_kept)) _ _
    (λ k. is_above (nat_lt l.again l.split) refl h)
    (λ k. choice (λ (n : ℕ). l.again < n) (nat_le next_kept l.again) _ _ (λ g. omega arith)
    (λ g. choice (λ (n : ℕ). l.again < n) (nat_lt next_kept l.again_end) _ _
    (λ f. over g) (λ f. asks))))
  where
    is_above : (b : Bool) → nat_lt l.again l.split ≡ b → not b ≡ false → l.again < l.split
    is_above true is h = less_by l.again l.split is
    is_above false is h = absurd (false≢true (sym h))

    over : nat_le next_kept l.again ≡ false → l.again < next_kept
    over g = grind (arith, nat_tests)

fill_most : (l : Line) (next_kept : ℕ) → is_resending l ≡ true → fill_end l next_kept ≤ l.again_end
fill_most l next_kept resends =
    let asks = less_by l.again l.again_end resends in
    let before : before_kept l next_kept ≤ l.again_end =
    choice (λ (n : ℕ). n ≤ l.again_end) (nat_le next_kept l.again) _ _ (λ g. omega (arith, asks))
    (λ g. choice (λ (n : ℕ). n ≤ l.again_end) (nat_lt next_kept l.again_end) _ _
    (λ f. (let low = less_by next_kept l.again_end f in omega (arith, low))) (λ f. omega arith)) in
    choice (λ (n : ℕ). n ≤ l.again_end) (not (nat_lt l.again l.split)) _ _ (λ h. omega (arith, asks))
    (λ h. choice (λ (n : ℕ). n ≤ l.again_end) (nat_lt l.split (before_kept l next_kept)) _ _
    (λ k. (let low = less_by l.split (before_kept l next_kept) k in omega (arith, low, before))) (λ k. before))

-- a gap fill goes no further than what is named
fill_next : (l : Line) (next_kept : ℕ) → l.again < next_kept → fill_end l next_kept ≤ next_kept
fill_next l next_kept less =
    let before : before_kept l next_kept ≤ next_kept =
    choice (λ (n : ℕ). n ≤ next_kept) (nat_le next_kept l.again) _ _ (λ h. omega (arith, less))
    (λ h. choice (λ (n : ℕ). n ≤ next_kept) (nat_lt next_kept l.again_end) _ _ (λ k. omega arith)
    (λ k. not_less next_kept l.again_end k)) in
    choice (λ (n : ℕ). n ≤ next_kept) (not (nat_lt l.again l.split)) _ _ (λ h. omega (arith, less))
    (λ h. choice (λ (n : ℕ). n ≤ next_kept) (nat_lt l.split (before_kept l next_kept)) _ _
    (λ k. (let one = less_by l.split (before_kept l next_kept) k in omega (arith, one, before)))
    (λ k. before))

module _ (a : Live) (stands : Stands a) (kept : List Entry) (now next_kept : ℕ) where
  abbrev Does : Turn → Type 0
  Does = Stepped a kept

  fills : (next : ℕ) → is_resending a.line ≡ true
      → ((n : ℕ) (body : List Field) → ((other : List Field) → IsKept n other kept → body ≡ other)
      → IsKept n body kept → is_answer_body body ≡ false → a.line.again ≤ n → n < fill_end a.line next → ⊥)
      → Does (fills_gap a now next)
  fills next resends none =
      again_stepped a stands kept (fill_end a.line next) now
      (said a.line.again way.Leaves (word.Fill (fill_end a.line next))) resends
      (fill_above a.line next resends) (fill_most a.line next resends) (λ n differs. refl)
      (λ n body once is isnt low high. absurd (none n body once is isnt low high))

  again_does : (stored : Option Stored) → is_resending a.line ≡ true
      → IsHandedBack (want.Again a.line.again) kept next_kept stored → Does (again_of a now next_kept stored)
  again_does None resends back =
      fills next_kept resends (λ n body once is isnt low high.
      let up = fill_next a.line next_kept back.0 in
      let behind = behind_free a.line.again next_kept n body kept back.1 is isnt low in
      omega (arith, up, behind, high))
  again_does (Some stored) resends back =
      choice Does (is_answer stored) _ _
      (λ h. fills (a.line.again + 1) resends (λ n body once is isnt low high.
      let up = fill_next a.line (a.line.again + 1) (omega arith) in
      let same : a.line.again ≡ n = omega (arith, up, high, low) in
      let fields = kept_fields (word.Kept stored.body stored.is_copy) in
      let there : IsKept n fields kept = subst (λ (m : ℕ). IsKept m fields kept) same back in
      false≢true (sym isnt ∙ ap is_answer_body (once fields there)
      ∙ answer_again (codes "0") (value_of 35 stored.body) h)))
      (λ h. again_stepped a stands kept (a.line.again + 1) now
      (said a.line.again way.Leaves (word.Again stored.body stored.is_copy stored.first)) resends
      (omega arith) (let asks = less_by a.line.again a.line.again_end resends in omega (arith, asks))
      (λ n differs. other_number a.line.again n differs)
      (λ n body once is isnt low high. eq-eqb a.line.again n (omega (arith, low, high))))

  fresh_does : (stored : Option Stored) → is_resending a.line ≡ false → a.line.fresh < a.day.next
      → IsHandedBack (want.Fresh a.line.fresh) kept next_kept stored → Does (fresh_of a now stored)
  fresh_does None resends above back =
      fresh_stepped a stands kept a.line.sent None resends above (λ n differs. refl)
      (λ n body is same. absurd (not_there n body kept
      (ap (λ (m : ℕ). has_number m kept) same ∙ back) is))
  fresh_does (Some stored) resends above back =
      choice Does (is_reject stored.body && not a.line.is_settled) _ _
      (λ h. absurd (false≢true (sym (settles (is_reject stored.body) a.line.is_settled stands.settled) ∙ h)))
      (λ h. fresh_stepped a stands kept now
      (said a.line.fresh way.Leaves (word.Kept stored.body stored.is_copy)) resends above
      (λ n differs. other_number a.line.fresh n differs)
      (λ n body is same. eq-eqb a.line.fresh n (sym same)))
    where
      settles : (reject settled : Bool) → settled ≡ true → (reject && not settled) ≡ false
      settles true true is = refl
      settles false true is = refl
      settles reject false is = absurd (false≢true is)

  no_number : (due : Bool) (stored : Option Stored) → IsHandedBack (wants_of_its_own due) kept next_kept stored → ⊥
  no_number true stored back = back
  no_number false stored back = back

  hands_on_does : (stored : Option Stored) → IsHandedBack (wants_on a) kept next_kept stored
      → Does (hands_on a now next_kept stored)
  hands_on_does stored back =
      choice Does (is_resending a.line) _ _
      (λ h. again_does stored h
      (subst (λ w. IsHandedBack w kept next_kept stored) (by_true (is_resending a.line) (want.Again a.line.again) _ h) back))
      (λ h.
      let free = by_false (is_resending a.line) (want.Again a.line.again) _ h
      ∙ by_false a.line.is_held (wants_of_its_own a.line.is_test_due) _ stands.holds_none in
      choice Does (not a.line.is_held && nat_lt a.line.fresh a.day.next) _ _
      (λ k. let parts = held_parts a.line.is_held (nat_lt a.line.fresh a.day.next) k in
      fresh_does stored h (less_by a.line.fresh a.day.next parts)
      (subst (λ w. IsHandedBack w kept next_kept stored)
      (free ∙ by_true (nat_lt a.line.fresh a.day.next) (want.Fresh a.line.fresh) _ parts) back))
      (λ k. let done = rests a.line.is_held (nat_lt a.line.fresh a.day.next) stands.holds_none k in
      absurd (no_number (a.line.is_test_due || requests a.line) stored
      (subst (λ w. IsHandedBack w kept next_kept stored)
      (free ∙ by_false (nat_lt a.line.fresh a.day.next) (want.Fresh a.line.fresh) _ done) back))))
    where
      held_parts : (held less : Bool) → (not held && less) ≡ true → less ≡ true
      held_parts true less h = absurd (false≢true h)
      held_parts false less h = h

      rests : (held less : Bool) → held ≡ false → (not held && less) ≡ false → less ≡ false
      rests true less is h = absurd (false≢true (sym is))
      rests false less is h = h

  pub hands_does : (stored : Option Stored) → IsHandedBack (wants (standing a)) kept next_kept stored
      → Does (hands (standing a) now next_kept stored)
  unfolding hands wants
  hands_does stored back =
      choice Does (is_spent (standing a)) _ _ (λ h. absurd (false≢true (sym stands.unspent ∙ h)))
      (λ h. hands_on_does stored back)
