-- A start: it refuses nothing of what a gateway has put, and what is recovered is what was in memory.
use Rattle.std.proofs.Common.{◌≡◌, ℕ, ◌+◌, ◌≤◌, ◌<◌, true, false, nat_le, nat_lt, List, [], ◌∷◌, ◌++◌, ◌⊎◌, inl, inr, Option, Some, None, refl, sym, ap, subst, ◌∙◌, arith, append-nil}
use Rattle.std.proofs.lemmas.Bool.{cases_Bool, false≢true}
use Rattle.std.proofs.lemmas.Bool.Decides.{nat_tests}
use Rattle.laws_sessions.proofs.Counts.{Counted, counts_to}
use Rattle.laws_sessions.proofs.CountedSteps.{CountsIn}
use Rattle.laws_sessions.proofs.FoldKeeps.{IsUncounted, all_expected, all_since, all_uncounted}
use Rattle.laws_sessions.proofs.Folds.{all_more}
use Rattle.laws_sessions.proofs.ReadNotes.{all}
use Rattle.laws_sessions.proofs.ReadSteps.{OneUsed, not_on}
use Rattle.laws_sessions.specs.Agrees.{with_more}
use Rattle.laws_sessions.specs.Counts.{AreFrom, AreRising, last_from}
use Rattle.laws_sessions.specs.Left.{AreKeeping}
use Rattle.laws_sessions.specs.Memory.{Memory}
use Rattle.laws_sessions.specs.Starts.{IsReadable, IsRecovered, Part, World, all_notes, all_taken, begun, joined, nothing, remembered, starts}
use Rattle.session_recovery.specs.Recovered.{Message, Point, Sealed, Taken, ends_all, reads, reads_all, start, with_counts}
use Rattle.session_recovery.specs.declared.days.TheConstants.{LAST_NUMBER}
use Rattle.session_recovery.specs.declared.points.Recovered.{Recovered}

-- Notes behind others.

pub reads_append : (a b : List Sealed) (o : Option Point) → reads_all o (a ++ b) ≡ reads_all (reads_all o a) b
reads_append a b None = refl
reads_append [] b (Some p) = refl
reads_append (s ∷ a) b (Some p) = reads_append a b (reads p s)

-- more that the venue gave
pub reads_with : (told more : List Message) (notes : List Sealed) (p : Point) → reads_all (Some (start told)) notes ≡ Some p
    → reads_all (Some (start (told ++ more))) notes ≡ Some (with_more p more)
reads_with told more notes p h =
    subst (λ l. reads_all (Some (start (told ++ more))) l ≡ Some (with_more p more)) (append-nil notes)
    (all_more (start told) p notes [] more h)

-- What a start reads and counts: the numbers of the entries rise, and if the last number of all is among
-- them a note says that more is expected. And it expects no number above this one.
pub record Countable (part : Part) (most : ℕ) : Type 0 where
  pub point : Point
  pub reads : reads_all (Some (start part.given)) part.notes ≡ Some point
  pub rising : AreRising point.session.since 0 part.taken
  pub used_up : nat_le LAST_NUMBER (last_from point.session.since 0 part.taken) ≡ true → nat_lt LAST_NUMBER point.session.day.expected ≡ true
  pub noted : point.session.day.expected ≤ most
  pub entered : last_from point.session.since 0 part.taken < most

pub readable : (part : Part) (most : ℕ) → Countable part most → IsReadable part
readable part most k = (k.point, k.reads)

abbrev part_of : List Message → List Taken → List Sealed → Part
part_of given taken notes = record { given = given; taken = taken; notes = notes }

joined_nothing : (p : Part) → joined p nothing ≡ p
joined_nothing p =
    ap (λ g. part_of g (p.taken ++ []) (p.notes ++ [])) (append-nil p.given)
    ∙ (ap (λ t. part_of p.given t (p.notes ++ [])) (append-nil p.taken)
    ∙ ap (λ n. part_of p.given p.taken n) (append-nil p.notes))

pub countable_still : (part : Part) (most : ℕ) → Countable part most → Countable (joined part nothing) most
countable_still part most k = subst (λ p. Countable p most) (sym (joined_nothing part)) k

-- What is behind it: each entry has a number that a start expects, if no note is a reset or a Logon with 141=Y;
-- and so has what is in memory.
abbrev pub IsBehind : ℕ → Memory → List Sealed → List Taken → Type 0
IsBehind most m notes taken = AreKeeping notes → (most ≤ m.session.day.expected) × AreFrom most taken

-- What holds of a gateway and its database.
pub record Stands (w : World) : Type 0 where
  pub recovered : IsRecovered w
  pub counts : CountsIn w.memory (all_taken w)
  pub most : ℕ
  pub disk : Countable w.disk most
  pub behind : IsBehind most w.memory (w.flight.notes ++ w.fill.notes) (w.flight.taken ++ w.fill.taken)
  pub most_too : ℕ
  pub whole : Countable (joined w.disk w.flight) most_too
  pub behind_too : IsBehind most_too w.memory w.fill.notes w.fill.taken
  pub one : OneUsed w.memory.session
  pub idle : w.is_committing ≡ false → w.flight ≡ nothing

-- All that was put, where nothing is being filled.

above : (l n e : ℕ) → nat_le l n ≡ true → n < e → nat_lt l e ≡ true
above l n e h g = grind (arith, nat_tests)

abbrev full : Memory → List Message → Part → Part → World
full m waiting disk flight = record {
  memory = m;
  waiting = waiting;
  disk = disk;
  flight = flight;
  fill = nothing;
  is_committing = true;
}

pub full_countable : (m : Memory) (waiting : List Message) (disk flight : Part) → IsRecovered (full m waiting disk flight)
    → CountsIn m (all_taken (full m waiting disk flight)) → Countable (joined disk flight) m.session.day.expected
full_countable m waiting disk flight r c =
    let w = full m waiting disk flight in
    let p = r.point in
    let given = disk.given ++ flight.given in
    let taken = disk.taken ++ flight.taken in
    let read = subst (λ ms. reads_all (Some (start ms)) (all_notes w) ≡ Some (with_more p waiting)) r.in_order
    (reads_with r.told waiting (all_notes w) p r.reads) in
    let since : m.since ≡ p.session.since = sym (ap (λ (x : Recovered). x.since) r.agrees.same) ∙ all_since p.rest p in
    let kept : disk.taken ++ (flight.taken ++ []) ≡ taken = ap (λ l. disk.taken ++ l) (append-nil flight.taken) in
    let last : last_from m.since 0 (disk.taken ++ (flight.taken ++ [])) ≡ last_from p.session.since 0 taken =
    ap (λ n. last_from n 0 (disk.taken ++ (flight.taken ++ []))) since ∙ ap (λ l. last_from p.session.since 0 l) kept in
    record {
      point = with_more p waiting;
      reads = ap (λ l. reads_all (Some (start given)) (disk.notes ++ l)) (sym (append-nil flight.notes)) ∙ read;
      rising = subst (λ l. AreRising p.session.since 0 l) kept
          (subst (λ n. AreRising n 0 (disk.taken ++ (flight.taken ++ []))) since c.rising);
      used_up = λ h. ap (λ n. nat_lt LAST_NUMBER n) (sym (all_expected p.rest p))
          ∙ (r.agrees.used_up
          ∙ above LAST_NUMBER (last_from m.since 0 (disk.taken ++ (flight.taken ++ []))) m.session.day.expected
          (ap (λ n. nat_le LAST_NUMBER n) last ∙ h) c.below);
      noted = (let up = r.agrees.expected in let e = all_expected p.rest p in omega (arith, up, e));
      entered = (let less = c.below in omega (arith, less, last));
    }

-- A start.

not_above : (l a b : ℕ) → a ≤ b → nat_lt l b ≡ false → nat_lt l a ≡ false
not_above l a b h g = grind (arith, nat_tests)

last_is : (l b n : ℕ) → nat_lt l b ≡ true → b ≤ n + 1 → nat_le l n ≡ true
last_is l b n h g = grind (arith, nat_tests)

used_same : (l a b n : ℕ) → a ≤ b → (b ≡ a) ⊎ (b ≤ n + 1) → (nat_le l n ≡ true → nat_lt l a ≡ true) → nat_lt l a ≡ nat_lt l b
used_same l a b n up from used =
    elim (cases_Bool (nat_lt l b)) [
      | inl h ↦
          elim from [
            | inl e ↦ ap (λ x. nat_lt l x) (sym e)
            | inr less ↦ used (last_is l b n h less) ∙ sym h
          ]
      | inr h ↦ not_above l a b up h ∙ sym h
    ]

nothing_was : (r s : Recovered) → IsUncounted r → Counted r s → s.day.was_taken ≡ false → s.taken ≡ 0
nothing_was r s u c h =
    elim c.was [
      | inl was ↦ absurd (false≢true (sym h ∙ was))
      | inr same ↦ ap (λ (x : Recovered). x.taken) same ∙ u.taken
    ]

last_here : (a b n : ℕ) (ts : List Taken) → b ≡ a → n ≡ last_from b 0 ts → n ≡ last_from a 0 ts
last_here a b n ts e h = h ∙ ap (λ x. last_from x 0 ts) e

at_most : (a b n most : ℕ) → a ≤ most → n < most → (b ≡ a) ⊎ (b ≤ n + 1) → b ≤ most
at_most a b n most h g from = elim from [ inl e ↦ omega (arith, h, e) | inr less ↦ omega (arith, g, less) ]

abbrev world_of : Part → Point → Recovered → World
world_of part q s = record {
  memory = remembered (record (all q) { session = s });
  waiting = [];
  disk = part;
  flight = nothing;
  fill = nothing;
  is_committing = false;
}

pub record Began (part : Part) (most : ℕ) : Type 0 where
  pub world : World
  pub is : starts part ≡ Some world
  pub stands : Stands world
  pub expects : world.memory.session.day.expected ≤ most
  pub point : Point
  pub reads : reads_all (Some (start part.given)) part.notes ≡ Some point
  pub kept : world.memory.kept ≡ (all point).kept
  pub given : world.memory.given ≡ (all point).session.given
  pub disk : world.disk ≡ part
  pub pending : world.flight.notes ++ world.fill.notes ≡ []

pub starts_well : (part : Part) (most : ℕ) → Countable part most → Began part most
starts_well part most k =
    let q = k.point in
    let r = (all q).session in
    let u = all_uncounted part.given part.notes q k.reads in
    let since = all_since q.rest q in
    let to = counts_to part.taken r
    (subst (λ n. AreRising n r.taken part.taken) (sym since) (subst (λ n. AreRising q.session.since n part.taken) (sym u.taken) k.rising)) in
    let s = to.session in
    let c = to.counted in
    let from : s.since ≡ q.session.since = to.since ∙ since in
    let last : s.taken ≡ last_from s.since 0 part.taken =
    to.taken ∙ (ap (λ n. last_from n r.taken part.taken) (sym to.since) ∙ ap (λ n. last_from s.since n part.taken) u.taken) in
    let less = c.low (let one = u.one in let none = u.taken in omega (arith, one, none)) in
    let had = c.had in
    let up = c.up in
    let e = all_expected q.rest q in
    let b = s.day.expected in
    let again : Countable part b = record {
      point = q;
      reads = k.reads;
      rising = k.rising;
      used_up = k.used_up;
      noted = omega (arith, up, e);
      entered = (let l = last_here q.session.since s.since s.taken part.taken from last in omega (arith, less, l));
    } in
    record {
      world = world_of part q s;
      point = q;
      reads = k.reads;
      kept = refl;
      given = ap (λ (x : Recovered). x.given) (sym c.same);
      disk = refl;
      pending = refl;
      expects = at_most r.day.expected s.day.expected s.taken most (let x = k.noted in omega (arith, x, e))
          (let l = last_here q.session.since s.since s.taken part.taken from last in let x = k.entered in omega (arith, x, l)) c.from;
      is = ap (λ o. begun part (ends_all part.taken o)) k.reads ∙ ap (λ o. begun part (with_counts (all q) o)) to.is;
      stands = record {
        recovered = record {
          told = part.given;
          point = q;
          in_order = refl;
          reads = ap (λ l. reads_all (Some (start part.given)) l) (append-nil part.notes) ∙ k.reads;
          agrees = record {
            same = c.same;
            kept = refl;
            expected = c.up;
            had = omega (arith, had);
            used_up = used_same LAST_NUMBER r.day.expected s.day.expected s.taken c.up c.from
                (λ h. ap (λ n. nat_lt LAST_NUMBER n) (all_expected q.rest q)
                ∙ k.used_up (ap (λ n. nat_le LAST_NUMBER n) (sym (last ∙ ap (λ n. last_from n 0 part.taken) from)) ∙ h));
          };
        };
        counts = subst (λ ts. CountsIn (remembered (record (all q) { session = s })) ts) (sym (append-nil part.taken))
            (record {
              rising = subst (λ n. AreRising n 0 part.taken) (sym from) k.rising;
              below = omega (arith, last, less);
              was = λ h. sym last ∙ nothing_was r s u c h;
            });
        most = b;
        disk = again;
        behind = λ keeping. (omega arith, tt);
        most_too = b;
        whole = countable_still part b again;
        behind_too = λ keeping. (omega arith, tt);
        one = λ h. not_on h;
        idle = λ h. refl;
      };
    }
