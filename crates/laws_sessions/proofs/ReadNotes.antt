-- Reading a note that a session has put.
use Rattle.std.proofs.Common.{◌≡◌, ℕ, ◌+◌, ◌-◌, ◌≤◌, true, false, nat_le, nat_lt, List, [], ◌∷◌, length, Some, None, refl, sym, ap, subst, ◌∙◌, arith, eq-eqb, if◌then◌else◌}
use Rattle.std.proofs.lemmas.Bool.{and_from}
use Rattle.std.proofs.lemmas.Bool.Decides.{nat_tests}
use Rattle.fix_sessions.specs.declared.state.Day.{Day}
use Rattle.laws_sessions.specs.Agrees.{IsAs, bare}
use Rattle.session_recovery.specs.Notes.{follows, is_act_next, is_counted, is_same, noted, number_due}
use Rattle.session_recovery.specs.Recovered.{Kept, Message, Point, Sealed, copies, gives_all, gives_from, kept_by, reads, reads_all, reads_one, with_message, with_session}
use Rattle.session_recovery.specs.declared.days.TheConstants.{LAST_NUMBER}
use Rattle.session_recovery.specs.declared.notes.Digest.{Digest}
use Rattle.session_recovery.specs.declared.notes.Note.{Note}
use Rattle.session_recovery.specs.declared.notes.NoteKind.{NoteKind}
use Rattle.session_recovery.specs.declared.notes.NoteKind.TheVariants as kind
use Rattle.session_recovery.specs.declared.points.Recovered.{Recovered}

-- What the venue gave has its numbers.

count_all : (ms : List Message) (p : Point) → gives_from (length ms) p ms ≡ Some (gives_all p ms)
count_all [] p = refl
count_all (m ∷ ms) p = count_all ms (with_message p m ms)

pub rest_all : (ms : List Message) (p : Point) → (gives_all p ms).rest ≡ []
rest_all [] p = refl
rest_all (m ∷ ms) p = rest_all ms (with_message p m ms)

given_all : (ms : List Message) (p : Point) → (gives_all p ms).session.given ≡ p.session.given + length ms
given_all [] p = omega arith
given_all (m ∷ ms) p = let e = given_all ms (with_message p m ms) in omega (arith, e)

abbrev pub all : Point → Point
all p = gives_all p p.rest

left : (p : Point) (n : ℕ) → n ≡ (all p).session.given → n - p.session.given ≡ length p.rest
left p n h = let g = given_all p.rest p in omega (arith, h, g)

reads_is : (p : Point) (s : Sealed) → s.note.given ≡ (all p).session.given → reads p s ≡ reads_one s (Some (all p))
reads_is p s h =
    ap (λ n. reads_one s (gives_from n p p.rest)) (left p s.note.given h)
    ∙ ap (reads_one s) (count_all p.rest p)

-- where it ends
abbrev pub result : Point → Sealed → Point
result p s = record {
  session = noted (all p).session s.note (length (copies s.note.had (all p).kept)) s.note.kind;
  kept = kept_by (all p).kept s s.note.kind;
  rest = [];
}

one_is : (p : Point) (s : Sealed) → follows (all p).session s.note ≡ true → reads_one s (Some (all p)) ≡ Some (result p s)
one_is p s h =
    let r = noted (all p).session s.note (length (copies s.note.had (all p).kept)) s.note.kind in
    ap (λ b. with_session (all p) s (if b then Some r else None)) h
    ∙ ap (λ ms. Some (record { session = r; kept = kept_by (all p).kept s s.note.kind; rest = ms })) (rest_all p.rest p)

-- A note of what is in memory.
pub record Fits (c : Recovered) (n : Note) : Type 0 where
  pub epoch : n.epoch ≡ c.epoch
  pub given : n.given ≡ c.given
  pub digest : n.digest ≡ c.digest
  pub number : n.number ≡ number_due c.day n.kind
  pub had : c.day.had ≤ n.had
  pub counted : is_counted c.day n n.kind ≡ true
  pub act : is_act_next c n.kind ≡ true

-- what is recovered is what is in memory, but for what is counted
pub record Near (r : Recovered) (ks : List Kept) (c : Recovered) (rs : List Kept) : Type 0 where
  pub same : bare r ≡ bare c
  pub kept : ks ≡ rs
  pub expected : r.day.expected ≤ c.day.expected
  pub had : r.day.had ≤ c.day.had

pub near : (r c : Recovered) (ks rs : List Kept) → IsAs r ks c rs → Near r ks c rs
near r c ks rs a = record { same = a.same; kept = a.kept; expected = a.expected; had = a.had }

number_bare : (r : Recovered) (k : NoteKind) → number_due (bare r).day k ≡ number_due r.day k
number_bare r (kind.Logon last_logon resets) = refl
number_bare r kind.Own = refl
number_bare r kind.Reject = refl
number_bare r kind.Logout = refl
number_bare r (kind.Reset since act) = refl
number_bare r kind.Locked = refl
number_bare r (kind.Released act) = refl
number_bare r kind.Mark = refl

act_bare : (r : Recovered) (k : NoteKind) → is_act_next (bare r) k ≡ is_act_next r k
act_bare r (kind.Logon last_logon resets) = refl
act_bare r kind.Own = refl
act_bare r kind.Reject = refl
act_bare r kind.Logout = refl
act_bare r (kind.Reset since act) = refl
act_bare r kind.Locked = refl
act_bare r (kind.Released act) = refl
act_bare r kind.Mark = refl

noted_bare : (r : Recovered) (n : Note) (cs : ℕ) (k : NoteKind) → bare (noted (bare r) n cs k) ≡ bare (noted r n cs k)
noted_bare r n cs (kind.Logon last_logon resets) = refl
noted_bare r n cs kind.Own = refl
noted_bare r n cs kind.Reject = refl
noted_bare r n cs kind.Logout = refl
noted_bare r n cs (kind.Reset since act) = refl
noted_bare r n cs kind.Locked = refl
noted_bare r n cs (kind.Released act) = refl
noted_bare r n cs kind.Mark = refl

noted_expected : (r c : Recovered) (n : Note) (cs ds : ℕ) (k : NoteKind)
    → (noted r n cs k).day.expected ≡ (noted c n ds k).day.expected
noted_expected r c n cs ds (kind.Logon last_logon resets) = refl
noted_expected r c n cs ds kind.Own = refl
noted_expected r c n cs ds kind.Reject = refl
noted_expected r c n cs ds kind.Logout = refl
noted_expected r c n cs ds (kind.Reset since act) = refl
noted_expected r c n cs ds kind.Locked = refl
noted_expected r c n cs ds (kind.Released act) = refl
noted_expected r c n cs ds kind.Mark = refl

noted_had : (r c : Recovered) (n : Note) (cs ds : ℕ) (k : NoteKind)
    → (noted r n cs k).day.had ≡ (noted c n ds k).day.had
noted_had r c n cs ds (kind.Logon last_logon resets) = refl
noted_had r c n cs ds kind.Own = refl
noted_had r c n cs ds kind.Reject = refl
noted_had r c n cs ds kind.Logout = refl
noted_had r c n cs ds (kind.Reset since act) = refl
noted_had r c n cs ds kind.Locked = refl
noted_had r c n cs ds (kind.Released act) = refl
noted_had r c n cs ds kind.Mark = refl

pub less_counted : (a b n : ℕ) → a ≤ b → nat_le b n ≡ true → nat_le a n ≡ true
less_counted a b n h e = grind (arith, nat_tests)

counted_too : (d e : Day) (n : Note) (k : NoteKind) → d.expected ≤ e.expected → is_counted e n k ≡ true → is_counted d n k ≡ true
counted_too d e n (kind.Logon last_logon true) less h = h
counted_too d e n (kind.Logon last_logon false) less h = less_counted d.expected e.expected n.expected less h
counted_too d e n kind.Own less h = less_counted d.expected e.expected n.expected less h
counted_too d e n kind.Reject less h = less_counted d.expected e.expected n.expected less h
counted_too d e n kind.Logout less h = less_counted d.expected e.expected n.expected less h
counted_too d e n (kind.Reset since act) less h = less_counted d.expected e.expected n.expected less h
counted_too d e n kind.Locked less h = less_counted d.expected e.expected n.expected less h
counted_too d e n (kind.Released act) less h = less_counted d.expected e.expected n.expected less h
counted_too d e n kind.Mark less h = less_counted d.expected e.expected n.expected less h

same_digest : (d : Digest) → is_same d d ≡ true
same_digest d =
    and_from _ _
    (and_from _ _ (and_from _ _ (eq-eqb d.first d.first refl) (eq-eqb d.second d.second refl)) (eq-eqb d.third d.third refl))
    (eq-eqb d.fourth d.fourth refl)

pub le_is : (a b : ℕ) → a ≤ b → nat_le a b ≡ true
le_is a b h = grind (arith, nat_tests)

follows_is : (r c : Recovered) (ks rs : List Kept) (n : Note) → Near r ks c rs → Fits c n → follows r n ≡ true
follows_is r c ks rs n a f =
    let e = ap (λ (x : Recovered). x.epoch) a.same in
    let g = ap (λ (x : Recovered). x.given) a.same in
    let d = ap (λ (x : Recovered). x.digest) a.same in
    let due = sym (number_bare r n.kind) ∙ ap (λ (x : Recovered). number_due x.day n.kind) a.same ∙ number_bare c n.kind in
    let next = sym (act_bare r n.kind) ∙ ap (λ (x : Recovered). is_act_next x n.kind) a.same ∙ act_bare c n.kind in
    let low = a.had in let high = f.had in
    and_from _ _
    (and_from _ _
    (and_from _ _
    (and_from _ _
    (and_from _ _
    (and_from _ _ (eq-eqb n.epoch r.epoch (f.epoch ∙ sym e)) (eq-eqb n.given r.given (f.given ∙ sym g)))
    (subst (λ x. is_same n.digest x ≡ true) (f.digest ∙ sym d) (same_digest n.digest)))
    (eq-eqb n.number (number_due r.day n.kind) (f.number ∙ sym due)))
    (le_is r.day.had n.had (omega (arith, low, high))))
    (counted_too r.day c.day n n.kind a.expected f.counted))
    (next ∙ f.act)

-- memory, once the note is read
abbrev pub noted_in : Recovered → List Kept → Note → Recovered
noted_in c rs n = noted c n (length (copies n.had rs)) n.kind

noted_as : (r c : Recovered) (ks rs : List Kept) (s : Sealed) → Near r ks c rs
    → IsAs (noted_in r ks s.note) (kept_by ks s s.note.kind) (noted_in c rs s.note) (kept_by rs s s.note.kind)
noted_as r c ks rs s a =
    let n = s.note in
    let k = n.kind in
    let cs = length (copies n.had ks) in
    let ds = length (copies n.had rs) in
    let e = noted_expected r c n cs ds k in
    let h = noted_had r c n cs ds k in
    record {
      same = sym (noted_bare r n cs k) ∙ ap (λ (x : Recovered). bare (noted x n cs k)) a.same ∙ noted_bare c n cs k
          ∙ ap (λ l. bare (noted c n (length (copies n.had l)) k)) a.kept;
      kept = ap (λ l. kept_by l s k) a.kept;
      expected = omega (arith, e);
      had = omega (arith, h);
      used_up = ap (λ x. nat_lt LAST_NUMBER x) e;
    }

-- What is recovered at a point, once what the venue gave has its numbers.

abbrev pub IsAt : Point → Recovered → List Kept → Type 0
IsAt p c rs = IsAs (all p).session (all p).kept c rs

abbrev pub NearAt : Point → Recovered → List Kept → Type 0
NearAt p c rs = Near (all p).session (all p).kept c rs

-- these notes are read from this point on, and then this is in memory
pub record Reads (p : Point) (ss : List Sealed) (c : Recovered) (rs : List Kept) : Type 0 where
  pub end : Point
  pub reads : reads_all (Some p) ss ≡ Some end
  pub agrees : IsAt end c rs

pub reads_none : (p : Point) (c : Recovered) (rs : List Kept) → IsAt p c rs → Reads p [] c rs
reads_none p c rs a = record { end = p; reads = refl; agrees = a }

read_is : (p : Point) (c : Recovered) (rs : List Kept) (s : Sealed) → NearAt p c rs → Fits c s.note → reads p s ≡ Some (result p s)
read_is p c rs s a f =
    let g = ap (λ (x : Recovered). x.given) a.same in
    reads_is p s (f.given ∙ sym g) ∙ one_is p s (follows_is (all p).session c (all p).kept rs s.note a f)

pub reads_more : (p : Point) (s : Sealed) (ss : List Sealed) (c d : Recovered) (rs ts : List Kept)
    → NearAt p c rs → Fits c s.note
    → ((q : Point) → IsAt q (noted_in c rs s.note) (kept_by rs s s.note.kind) → Reads q ss d ts)
    → Reads p (s ∷ ss) d ts
reads_more p s ss c d rs ts a f more =
    let q = more (result p s) (noted_as (all p).session c (all p).kept rs s a) in
    record {
      end = q.end;
      reads = ap (λ o. reads_all o ss) (read_is p c rs s a f) ∙ q.reads;
      agrees = q.agrees;
    }
