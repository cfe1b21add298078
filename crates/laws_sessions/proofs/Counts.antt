-- The numbers of the firm's entries rise, so a start counts them.
use Rattle.std.proofs.Common.{◌≡◌, ℕ, ◌+◌, ◌≤◌, ◌<◌, Bool, true, false, nat_le, nat_lt, List, [], ◌∷◌, ◌++◌, ◌⊎◌, inl, inr, Option, Some, None, refl, sym, ap, subst, ◌∙◌, arith, append-nil, if◌then◌else◌}
use Rattle.std.proofs.lemmas.Bool.{false≢true}
use Rattle.std.proofs.lemmas.Bool.Decides.{nat_tests}
use Rattle.fix_sessions.specs.declared.state.Day.{Day}
use Rattle.fix_sessions.specs.declared.turns.Turn.{Turn}
use Rattle.laws_sessions.proofs.Choices.{choice}
use Rattle.laws_sessions.proofs.Shapes.{Gives, Goes}
use Rattle.laws_sessions.proofs.ShapedLogons.{Accepted}
use Rattle.laws_sessions.specs.Agrees.{bare}
use Rattle.laws_sessions.specs.Counts.{AreRising, AreUpTo, behind, last_from}
use Rattle.laws_sessions.specs.Starts.{taken_at}
use Rattle.session_recovery.specs.Notes.{after_entry}
use Rattle.session_recovery.specs.Recovered.{Taken, counts_all}
use Rattle.session_recovery.specs.declared.points.Recovered.{Recovered}

-- Entries behind others.

pub last_append : (since low : ℕ) (ts us : List Taken) → last_from since low (ts ++ us) ≡ last_from since (last_from since low ts) us
last_append since low [] us = refl
last_append since low (t ∷ ts) us = last_append since (behind since low t) ts us

pub rising_append : (since low : ℕ) (ts us : List Taken) → AreRising since low ts → AreRising since (last_from since low ts) us
    → AreRising since low (ts ++ us)
rising_append since low [] us a b = b
rising_append since low (t ∷ ts) us a b = (a.0, rising_append since (behind since low t) ts us a.1 b)

pub rising_first : (since low : ℕ) (ts us : List Taken) → AreRising since low (ts ++ us) → AreRising since low ts
rising_first since low [] us h = tt
rising_first since low (t ∷ ts) us h = (h.0, rising_first since (behind since low t) ts us h.1)

-- Those up to a reset count no more.

le_true : (a b : ℕ) → a ≤ b → nat_le a b ≡ true
le_true a b h = grind (arith, nat_tests)

before_behind : (since low : ℕ) (t : Taken) → t.place ≤ since → behind since low t ≡ low
before_behind since low t h = ap (λ b. if b then low else t.number) (le_true t.place since h)

pub none_last : (since low : ℕ) (ts : List Taken) → AreUpTo since ts → last_from since low ts ≡ low
none_last since low [] h = refl
none_last since low (t ∷ ts) h =
    ap (λ n. last_from since n ts) (before_behind since low t h.0) ∙ none_last since low ts h.1

pub none_rising : (since low : ℕ) (ts : List Taken) → AreUpTo since ts → AreRising since low ts
none_rising since low [] h = tt
none_rising since low (t ∷ ts) h = (
  λ e. absurd (false≢true (sym e ∙ le_true t.place since h.0)),
  subst (λ n. AreRising since n ts) (sym (before_behind since low t h.0)) (none_rising since low ts h.1),
)

-- One behind a reset.

le_false : (a b : ℕ) → b < a → nat_le a b ≡ false
le_false a b h = grind (arith, nat_tests)

behind_is : (since low place number : ℕ) → since < place → behind since low (record { place = place; number = number }) ≡ number
behind_is since low place number h = ap (λ b. if b then low else number) (le_false place since h)

-- Counting.

pub record Counted (r s : Recovered) : Type 0 where
  pub same : bare r ≡ bare s
  pub had : r.day.had ≡ s.day.had
  pub up : r.day.expected ≤ s.day.expected
  pub from : (s.day.expected ≡ r.day.expected) ⊎ (s.day.expected ≤ s.taken + 1)
  pub rises : r.taken ≤ s.taken
  pub was : (s.day.was_taken ≡ true) ⊎ (s ≡ r)
  pub low : r.taken < r.day.expected → s.taken < s.day.expected

still_counted : (r : Recovered) → Counted r r
still_counted r = record {
  same = refl;
  had = refl;
  up = omega arith;
  from = inl refl;
  rises = omega arith;
  was = inr refl;
  low = λ h. h;
}

from_on : (a b c : Recovered) → Counted a b → Counted b c → (c.day.expected ≡ a.day.expected) ⊎ (c.day.expected ≤ c.taken + 1)
from_on a b c f g =
    elim g.from [
      | inr up ↦ inr up
      | inl e ↦
          elim f.from [
            | inl d ↦ inl (e ∙ d)
            | inr up ↦ inr (let r = g.rises in omega (arith, e, up, r))
          ]
    ]

was_on : (a b c : Recovered) → Counted a b → Counted b c → (c.day.was_taken ≡ true) ⊎ (c ≡ a)
was_on a b c f g =
    elim g.was [
      | inl h ↦ inl h
      | inr e ↦
          elim f.was [
            | inl h ↦ inl (ap (λ (x : Recovered). x.day.was_taken) e ∙ h)
            | inr d ↦ inr (e ∙ d)
          ]
    ]

counted_on : (a b c : Recovered) → Counted a b → Counted b c → Counted a c
counted_on a b c f g =
    let x = f.up in let y = g.up in let p = f.rises in let q = g.rises in
    record {
      same = f.same ∙ g.same;
      had = f.had ∙ g.had;
      up = omega (arith, x, y);
      from = from_on a b c f g;
      rises = omega (arith, p, q);
      was = was_on a b c f g;
      low = λ h. g.low (f.low h);
    }

-- one entry
record One (r : Recovered) (t : Taken) (o : Option Recovered) : Type 0 where
  session : Recovered
  is : o ≡ Some session
  counted : Counted r session
  since : session.since ≡ r.since
  taken : session.taken ≡ behind r.since r.taken t

abbrev counts_one : Recovered → ℕ → Recovered
counts_one r n = record r {
  taken = n;
  day = record r.day {
    expected = if nat_lt r.day.expected (n + 1) then n + 1 else r.day.expected;
    was_taken = true;
  };
}

up_to : (n e : ℕ) → e ≤ (if nat_lt e (n + 1) then n + 1 else e)
up_to n e = choice (λ (x : ℕ). e ≤ x) (nat_lt e (n + 1)) _ _ (λ g. grind (arith, nat_tests)) (λ g. omega arith)

less_up_to : (n e : ℕ) → n < (if nat_lt e (n + 1) then n + 1 else e)
less_up_to n e = choice (λ (x : ℕ). n < x) (nat_lt e (n + 1)) _ _ (λ g. omega arith) (λ g. grind (arith, nat_tests))

either : (n e : ℕ) → ((if nat_lt e (n + 1) then n + 1 else e) ≡ e) ⊎ ((if nat_lt e (n + 1) then n + 1 else e) ≤ n + 1)
either n e =
    choice (λ (x : ℕ). (x ≡ e) ⊎ (x ≤ n + 1)) (nat_lt e (n + 1)) _ _ (λ g. inr (omega arith)) (λ g. inl refl)

one_is_counted : (r : Recovered) (n : ℕ) → r.taken < n → Counted r (counts_one r n)
one_is_counted r n h = record {
  same = refl;
  had = refl;
  up = up_to n r.day.expected;
  from = either n r.day.expected;
  rises = omega (arith, h);
  was = inl refl;
  low = λ g. less_up_to n r.day.expected;
}

not_below : {A : Type 0} (n low : ℕ) → nat_le n low ≡ true → low < n → A
not_below n low g h = absurd (false≢true (sym (le_false n low h) ∙ g))

counts_entry : (r : Recovered) (t : Taken) → (nat_le t.place r.since ≡ false → r.taken < t.number) → One r t (after_entry r t.place t.number)
counts_entry r t rise =
    choice (One r t) (nat_le t.place r.since) _ _
    (λ h. record {
      session = r;
      is = refl;
      counted = still_counted r;
      since = refl;
      taken = sym (ap (λ b. if b then r.taken else t.number) h);
    })
    (λ h. choice (One r t) (nat_le t.number r.taken) _ _ (λ g. not_below t.number r.taken g (rise h))
    (λ g. record {
      session = counts_one r t.number;
      is = refl;
      counted = one_is_counted r t.number (rise h);
      since = refl;
      taken = sym (ap (λ b. if b then r.taken else t.number) h);
    }))

-- all of them
pub record CountsTo (r : Recovered) (ts : List Taken) : Type 0 where
  pub session : Recovered
  pub is : counts_all (Some r) ts ≡ Some session
  pub counted : Counted r session
  pub taken : session.taken ≡ last_from r.since r.taken ts
  pub since : session.since ≡ r.since

pub counts_to : (ts : List Taken) (r : Recovered) → AreRising r.since r.taken ts → CountsTo r ts
counts_to [] r rising = record { session = r; is = refl; counted = still_counted r; taken = refl; since = refl }
counts_to (t ∷ ts) r rising =
    let one = counts_entry r t rising.0 in
    let s = one.session in
    let rest = counts_to ts s
    (subst (λ n. AreRising n s.taken ts) (sym one.since) (subst (λ n. AreRising r.since n ts) (sym one.taken) rising.1)) in
    record {
      session = rest.session;
      is = ap (λ o. counts_all o ts) one.is ∙ rest.is;
      counted = counted_on r s rest.session one.counted rest.counted;
      taken = rest.taken ∙ (ap (λ n. last_from n s.taken ts) one.since ∙ ap (λ n. last_from r.since n ts) one.taken);
      since = rest.since ∙ one.since;
    }

-- What is in memory: the numbers of the entries that count rise, and are below the expected one; and the
-- mark says whether there are any.
pub record Counts (since : ℕ) (d : Day) (ts : List Taken) : Type 0 where
  pub rising : AreRising since 0 ts
  pub below : last_from since 0 ts < d.expected
  pub was : d.was_taken ≡ false → last_from since 0 ts ≡ 0

-- a day in which these are the same, or nothing was taken and numbers begin again
pub counts_still : (since : ℕ) (d e : Day) (ts : List Taken) → d.expected ≤ e.expected → e.was_taken ≡ d.was_taken
    → Counts since d ts → Counts since e ts
counts_still since d e ts up was c = record {
  rising = c.rising;
  below = (let b = c.below in omega (arith, up, b));
  was = λ h. c.was (sym was ∙ h);
}

abbrev with_taken : ℕ → List Taken → Option ℕ → List Taken
with_taken place ts takes = ts ++ taken_at place takes

none_counts : (since place : ℕ) (e : Day) (ts : List Taken) (takes : Option ℕ) → takes ≡ None → Counts since e ts
    → Counts since e (with_taken place ts takes)
none_counts since place e ts takes none c =
    subst (λ l. Counts since e l) (sym (ap (λ o. with_taken place ts o) none ∙ append-nil ts)) c

some_counts : (since place n : ℕ) (d e : Day) (ts : List Taken) (takes : Option ℕ) → since < place → takes ≡ Some n → d.expected ≤ n
    → e.expected ≡ n + 1 → e.was_taken ≡ true → Counts since d ts → Counts since e (with_taken place ts takes)
some_counts since place n d e ts takes later is from counted was c =
    let t : Taken = record { place = place; number = n } in
    let last = last_from since 0 ts in
    let less = c.below in
    let at = last_append since 0 ts (t ∷ []) ∙ behind_is since last place n later in
    subst (λ o. Counts since e (with_taken place ts o)) (sym is)
    (record {
      rising = rising_append since 0 ts (t ∷ []) c.rising (λ h. omega (arith, less, from), tt);
      below = omega (arith, at, counted);
      was = λ h. absurd (false≢true (sym h ∙ was));
    })

given_counts : (since place : ℕ) (d : Day) (t : Turn) (ts : List Taken) → since < place → d.expected ≤ t.session.day.expected
    → Gives d t → Counts since d ts → Counts since t.session.day (with_taken place ts t.takes)
given_counts since place d t ts later up (inl n) c =
    none_counts since place t.session.day ts t.takes n.nothing (counts_still since d t.session.day ts up n.was c)
given_counts since place d t ts later up (inr g) c =
    some_counts since place g.number d t.session.day ts t.takes later g.given g.from g.counted g.was c

-- a Logon: with 141=Y nothing was taken, and 2 is expected
logon_counts : (since place : ℕ) (d : Day) (t : Turn) (ts : List Taken) (a : Accepted d t) (b : Bool) → a.resets ≡ b
    → Counts since d ts → Counts since t.session.day ts
logon_counts since place d t ts a true h c = record {
  rising = c.rising;
  below = (let two = a.counted h in let none = c.was (a.first h) in omega (arith, two, none));
  was = λ g. c.was (sym a.was ∙ g);
}
logon_counts since place d t ts a false h c = counts_still since d t.session.day ts (a.expected h) a.was c

pub turn_counts : {live : Bool} (since place : ℕ) (d : Day) (t : Turn) (ts : List Taken) → since < place
    → Goes live d t ⊎ Accepted d t → Counts since d ts → Counts since t.session.day (with_taken place ts t.takes)
turn_counts since place d t ts later (inl g) c = given_counts since place d t ts later g.expected g.taken c
turn_counts since place d t ts later (inr a) c =
    none_counts since place t.session.day ts t.takes a.nothing (logon_counts since place d t ts a a.resets refl c)
