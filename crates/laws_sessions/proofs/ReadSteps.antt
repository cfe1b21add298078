-- What is recovered is what is in memory, step by step.
use Rattle.std.proofs.Common.{◌≡◌, ℕ, ◌+◌, ◌≤◌, ◌<◌, Bool, true, false, ◌&&◌, ◌||◌, not, nat_lt, List, [], ◌∷◌, ◌++◌, length, Option, Some, None, inl, inr, refl, sym, ap, ap₂, subst, ◌∙◌, arith, append-nil, append_assoc, if◌then◌else◌}
use Rattle.std.proofs.lemmas.Bool.{and_from, cases_Bool, false≢true}
use Rattle.std.proofs.lemmas.Bool.Decides.{nat_tests}
use Rattle.std.proofs.lemmas.Option.{none-some, same_Some}
use Rattle.fix_fields.specs.Frame.{Field}
use Rattle.fix_sessions.specs.Outcomes.{are_bounded, is_clear, is_spent, live}
use Rattle.fix_sessions.specs.Outcomes.{ended, free, holder, is_free, quiet}
use Rattle.fix_sessions.specs.Sending.{given_on, is_reject, keeps_one}
use Rattle.fix_sessions.specs.Steps.{given, given_by, ordered, reset_day}
use Rattle.fix_sessions.specs.declared.orders.Order.TheVariants as order
use Rattle.fix_sessions.specs.declared.state.Clock.{Clock}
use Rattle.fix_sessions.specs.declared.state.Day.{Day}
use Rattle.fix_sessions.specs.declared.state.Live.{Live}
use Rattle.fix_sessions.specs.declared.state.Phase.{Phase}
use Rattle.fix_sessions.specs.declared.state.Phase.TheVariants as phase
use Rattle.fix_sessions.specs.declared.state.Session.{Session}
use Rattle.fix_sessions.specs.declared.texts.Names.{Names}
use Rattle.fix_sessions.specs.declared.turns.Said.{Said}
use Rattle.fix_sessions.specs.declared.turns.Turn.{Turn}
use Rattle.laws_sessions.proofs.Choices.{choice}
use Rattle.laws_sessions.proofs.Folds.{all_more}
use Rattle.laws_sessions.proofs.ReadNotes.{IsAt, Reads, all, le_is, near, reads_more, reads_none}
use Rattle.laws_sessions.proofs.ReadShapes.{turn_read, turn_used}
use Rattle.laws_sessions.proofs.ShapedDays.{event_goes}
use Rattle.laws_sessions.proofs.ShapedLogons.{is_on}
use Rattle.laws_sessions.proofs.Shapes.{number_in}
use Rattle.laws_sessions.specs.Agrees.{Agrees, IsAs, as_recovered, bare, marks, with_more}
use Rattle.laws_sessions.specs.Memory.{AreSound, Does, Event, IsSound, Marked, Memory, Released, Reset, Step, Told, copied, fresh, memory_after, memory_after_all, numbered, puts, puts_all, standing, tells_all, turn}
use Rattle.laws_sessions.specs.Starts.{is_told}
use Rattle.session_recovery.specs.Notes.{begun_again, is_used_up, keeps_message}
use Rattle.session_recovery.specs.Puts.{note_of}
use Rattle.session_recovery.specs.Recovered.{Kept, Message, Point, Sealed, gives_all, kept_message, reads_all, start, with_message}
use Rattle.session_recovery.specs.declared.days.TheConstants.{LAST_NUMBER}
use Rattle.session_recovery.specs.declared.notes.NoteKind.TheVariants as kind
use Rattle.session_recovery.specs.declared.points.Recovered.{Recovered}

-- Where a firm is logged on, number 1 is used.
abbrev pub OneUsed : Session → Type 0
OneUsed s = is_on s.phase ≡ true → s.day.is_one_free ≡ false

pub not_on : {A : Type 0} → false ≡ true → A
not_on h = absurd (false≢true h)

-- An event.

does_read : (names : Names) (q : Point) (m : Memory) (moment : ℕ) (e : Event) → IsAt q (as_recovered m) m.kept
    → OneUsed m.session
    → Reads q (puts names m (Does moment e)) (as_recovered (memory_after names m (Does moment e)))
    (memory_after names m (Does moment e)).kept
does_read names q m moment e a one =
    turn_read q m (turn names m.session e) moment (is_on m.session.phase) a one (event_goes names m.session e).what

does_used : (names : Names) (s : Session) (e : Event) → OneUsed s → OneUsed (turn names s e).session
does_used names s e one h =
    let t = event_goes names s e in
    elim (t.on h) [
      | inl on ↦ turn_used (is_on s.phase) s.day (turn names s e) t.what (one on)
      | inr free ↦ free
    ]

-- The same memory, but for what is not compared.
as_same : (r c e : Recovered) (ks rs : List Kept) → IsAs r ks c rs → bare c ≡ bare e → c.day.expected ≡ e.day.expected
    → c.day.had ≡ e.day.had → IsAs r ks e rs
as_same r c e ks rs a same x y =
    let p = a.expected in let q = a.had in
    record {
      same = a.same ∙ same;
      kept = a.kept;
      expected = omega (arith, p, x);
      had = omega (arith, q, y);
      used_up = a.used_up ∙ ap (λ n. nat_lt LAST_NUMBER n) x;
    }

-- A mark, a release and a reset.

marked_read : (names : Names) (q : Point) (m : Memory) (moment : ℕ) → IsAt q (as_recovered m) m.kept
    → Reads q (puts names m (Marked moment)) (as_recovered m) m.kept
marked_read names q m moment a =
    let d = m.session.day in
    reads_more q (record { note = note_of (standing m moment) d 0 kind.Mark; body = [] }) [] (as_recovered m) (as_recovered m) m.kept
    m.kept (near _ _ _ _ a)
    (record {
      epoch = refl;
      given = refl;
      digest = refl;
      number = refl;
      had = omega arith;
      counted = le_is d.expected d.expected (omega arith);
      act = refl;
    })
    (λ p b. reads_none p (as_recovered m) m.kept b)

lt_is : (a b : ℕ) → a < b → nat_lt a b ≡ true
lt_is a b h = grind (arith, nat_tests)

-- its day
pub record ReleasedTo (s : Session) (clock : Clock) : Type 0 where
  pub day : (ordered s clock order.Release).session.day ≡ record s.day { is_locked = false }
  pub phase : (ordered s clock order.Release).session.phase ≡ s.phase

pub released_to : (s : Session) (clock : Clock) → ReleasedTo s clock
unfolding ordered
released_to s clock = record { day = refl; phase = refl }

released_read : (names : Names) (q : Point) (m : Memory) (clock : Clock) (act : ℕ) → m.act < act
    → IsAt q (as_recovered m) m.kept
    → Reads q (puts names m (Released clock act)) (as_recovered (memory_after names m (Released clock act))) m.kept
released_read names q m clock act later a =
    let d = m.session.day in
    let c = as_recovered (memory_after names m (Released clock act)) in
    let s : Sealed = record { note = note_of (standing m (clock.midnight + clock.moment)) d 0 (kind.Released act); body = [] } in
    let to = (released_to m.session clock).day in
    reads_more q s [] (as_recovered m) c m.kept m.kept (near _ _ _ _ a)
    (record {
      epoch = refl;
      given = refl;
      digest = refl;
      number = refl;
      had = omega arith;
      counted = le_is d.expected d.expected (omega arith);
      act = lt_is m.act act later;
    })
    (λ p b. reads_none p c m.kept
    (as_same _ _ c _ m.kept b
    (ap (λ (x : Day). record (as_recovered m) { act = act; taken = 0; day = marks x }) (sym to))
    (ap (λ (x : Day). x.expected) (sym to)) (ap (λ (x : Day). x.had) (sym to))))

pub record ResetTo (s : Session) (clock : Clock) (copies : ℕ) : Type 0 where
  pub day : (ordered s clock (order.Reset copies)).session.day ≡ reset_day s.day clock copies
  pub phase : is_on (ordered s clock (order.Reset copies)).session.phase ≡ false

not_free : (p : Phase) → is_free p ≡ true → is_on p ≡ false
not_free phase.Away h = refl
not_free (phase.On line) h = absurd (false≢true h)
not_free (phase.Leaving connection since) h = absurd (false≢true h)

pub reset_to : (s : Session) (clock : Clock) (copies : ℕ) → ResetTo s clock copies
unfolding ordered
reset_to s clock copies =
    let b = record s { day = reset_day s.day clock copies } in
    record {
      day = choice (λ (t : Turn). t.session.day ≡ reset_day s.day clock copies) (is_free s.phase)
          (record (quiet b 0) { drops_rejects = true }) (record (ended (free b) (holder s.phase)) { drops_rejects = true })
          (λ h. refl) (λ h. refl);
      phase = choice (λ (t : Turn). is_on t.session.phase ≡ false) (is_free s.phase)
          (record (quiet b 0) { drops_rejects = true }) (record (ended (free b) (holder s.phase)) { drops_rejects = true })
          (λ h. not_free s.phase h) (λ h. refl);
    }

reset_marks : (d : Day) (clock : Clock) (copies : ℕ)
    → marks (begun_again (clock.midnight + clock.moment) copies) ≡ marks (reset_day d clock copies)
reset_marks d clock copies = refl

reset_read : (names : Names) (q : Point) (m : Memory) (clock : Clock) (since act : ℕ) → m.act < act → act ≤ since
    → m.since ≤ since → IsAt q (as_recovered m) m.kept
    → Reads q (puts names m (Reset clock since act)) (as_recovered (memory_after names m (Reset clock since act))) (copied m)
reset_read names q m clock since act later in_time after a =
    let d = m.session.day in
    let c = as_recovered (memory_after names m (Reset clock since act)) in
    let s : Sealed = record {
      note = note_of (standing m (clock.midnight + clock.moment)) d 0 (kind.Reset since act);
      body = [];
    } in
    let to = (reset_to m.session clock (length (copied m))).day in
    let r = record (as_recovered m) { epoch = m.epoch + 1; since = since; act = act } in
    reads_more q s [] (as_recovered m) c m.kept (copied m) (near _ _ _ _ a)
    (record {
      epoch = refl;
      given = refl;
      digest = refl;
      number = refl;
      had = omega arith;
      counted = le_is d.expected d.expected (omega arith);
      act = and_from _ _ (and_from _ _ (lt_is m.act act later) (le_is act since in_time)) (le_is m.since since after);
    })
    (λ p b. reads_none p c (copied m)
    (as_same _ _ c _ (copied m) b
    (ap (λ (x : Day). record r { taken = 0; day = x }) (reset_marks d clock (length (copied m)))
    ∙ ap (λ (x : Day). record r { taken = 0; day = marks x }) (sym to))
    (ap (λ (x : Day). x.expected) (sym to)) (ap (λ (x : Day). x.had) (sym to))))

-- The venue's next message.

all_snoc : (ms : List Message) (p : Point) (rest : List Message) (x : Message)
    → gives_all (record p { rest = rest }) (ms ++ (x ∷ [])) ≡ with_message (gives_all p ms) x []
all_snoc [] p rest x = refl
all_snoc (m ∷ ms) p rest x = all_snoc ms (with_message p m ms) (ms ++ (x ∷ [])) x

pub record GivenTo (s : Session) (t : Turn) : Type 0 where
  pub day : t.session.day ≡ keeps_one s.day
  pub number : number_in t.first ≡ Some s.day.next
  pub on : is_on t.session.phase ≡ is_on s.phase

given_on_to : (s : Session) (a : Live) (now : ℕ) (body : List Field) → s.day ≡ a.day → is_on s.phase ≡ true
    → GivenTo s (given_on a now body)
given_on_to s a now body e on =
    choice (GivenTo s) (is_clear a && (a.line.is_settled || not (is_reject body))) _ _
    (λ h. record { day = ap keeps_one (sym e); number = ap (λ (d : Day). Some d.next) (sym e); on = sym on })
    (λ h. record { day = ap keeps_one (sym e); number = ap (λ (d : Day). Some d.next) (sym e); on = sym on })

given_by_to : (s : Session) (now : ℕ) (body : List Field) (p : Phase) → s.phase ≡ p → GivenTo s (given_by s now body p)
given_by_to s now body phase.Away e = record { day = refl; number = refl; on = refl }
given_by_to s now body (phase.On line) e = given_on_to s (live s line) now body refl (ap is_on e)
given_by_to s now body (phase.Leaving connection since) e = record { day = refl; number = refl; on = refl }

pub given_to : (s : Session) (now : ℕ) (body : List Field) → is_spent s ≡ false → GivenTo s (given s now body)
unfolding given
given_to s now body h =
    subst (λ b. GivenTo s (if b then quiet s 0 else given_by s now body s.phase)) (sym h)
    (given_by_to s now body s.phase refl)

pub given_none : (s : Session) (now : ℕ) (body : List Field) → is_spent s ≡ true → given s now body ≡ quiet s 0
unfolding given
given_none s now body h = ap (λ b. if b then quiet s 0 else given_by s now body s.phase) h

numbered_is : (m : Memory) (x : Message) (o : Option Said) (n : ℕ) → number_in o ≡ Some n
    → numbered m x o
    ≡ (record { number = n; ordinal = m.given + 1; body = x.body; moment = x.moment; is_copy = false } ∷ [])
numbered_is m x None n h = absurd (none-some n h)
numbered_is m x (Some said) n h =
    ap (λ j. record { number = j; ordinal = m.given + 1; body = x.body; moment = x.moment; is_copy = false } ∷ [])
    (same_Some said.number n h)

-- numbers are used up in both, or in neither
or_true : (x : Bool) → (x || not true) ≡ x
or_true true = refl
or_true false = refl

spent_is : (s : Session) → are_bounded s.day s.phase ≡ true → is_spent s ≡ is_used_up s.day
spent_is s h =
    ap (λ b. is_used_up s.day || not b) h ∙ or_true (is_used_up s.day)

used_up_as : (r c : Recovered) (ks rs : List Kept) → IsAs r ks c rs → is_used_up r.day ≡ is_used_up c.day
used_up_as r c ks rs a =
    ap (λ (x : Recovered). nat_lt LAST_NUMBER x.day.next || nat_lt LAST_NUMBER r.day.expected) a.same
    ∙ ap (λ b. nat_lt LAST_NUMBER c.day.next || b) a.used_up

abbrev told_day : Recovered → Message → Bool → Day → Recovered
told_day r x up d = record r { given = r.given + 1; digest = x.digest; day = if up then d else keeps_message d }

told_as : (up : Bool) (r c : Recovered) (ks rs : List Kept) (x : Message) → IsAs r ks c rs
    → IsAs (told_day r x up r.day) (if up then ks else ks ++ (kept_message r x ∷ []))
    (told_day c x up c.day) (if up then rs else rs ++ (kept_message c x ∷ []))
told_as true r c ks rs x a = record {
  same = ap (λ (y : Recovered). record y { given = y.given + 1; digest = x.digest }) a.same;
  kept = a.kept;
  expected = a.expected;
  had = a.had;
  used_up = a.used_up;
}
told_as false r c ks rs x a = record {
  same = ap (λ (y : Recovered). record y { given = y.given + 1; digest = x.digest; day = keeps_message y.day }) a.same;
  kept = ap₂ (λ l k. l ++ (k ∷ [])) a.kept (ap (λ (y : Recovered). kept_message y x) a.same);
  expected = a.expected;
  had = a.had;
  used_up = a.used_up;
}

-- memory, once it is told
told_memory : (names : Names) (m : Memory) (moment : ℕ) (x : Message) (up : Bool) → is_spent m.session ≡ up
    → (bare (told_day (as_recovered m) x up m.session.day) ≡ bare (as_recovered (memory_after names m (Told moment x))))
    × (((told_day (as_recovered m) x up m.session.day).day.expected ≡ (memory_after names m (Told moment x)).session.day.expected)
    × (((told_day (as_recovered m) x up m.session.day).day.had ≡ (memory_after names m (Told moment x)).session.day.had)
    × ((if up then m.kept else m.kept ++ (kept_message (as_recovered m) x ∷ []))
    ≡ (memory_after names m (Told moment x)).kept)))
told_memory names m moment x true h =
    let t = given_none m.session moment x.body h in
    let r = record (as_recovered m) { given = m.given + 1; digest = x.digest; taken = 0 } in (
      ap (λ (t : Turn). record r { day = marks t.session.day }) (sym t),
      (
        ap (λ (t : Turn). t.session.day.expected) (sym t),
        (
          ap (λ (t : Turn). t.session.day.had) (sym t),
          sym (append-nil m.kept) ∙ ap (λ (t : Turn). m.kept ++ numbered m x t.first) (sym t),
        ),
      ),
    )
told_memory names m moment x false h =
    let g = given_to m.session moment x.body h in
    let t = given m.session moment x.body in
    let r = record (as_recovered m) { given = m.given + 1; digest = x.digest; taken = 0 } in (
      ap (λ (d : Day). record r { day = marks d }) (sym g.day),
      (
        ap (λ (d : Day). d.expected) (sym g.day),
        (
          ap (λ (d : Day). d.had) (sym g.day),
          ap (λ ks. m.kept ++ ks) (sym (numbered_is m x t.first m.session.day.next g.number)),
        ),
      ),
    )

pub told_read : (names : Names) (q : Point) (m : Memory) (moment : ℕ) (x : Message)
    → are_bounded m.session.day m.session.phase ≡ true → IsAt q (as_recovered m) m.kept
    → Reads (with_more q (x ∷ [])) [] (as_recovered (memory_after names m (Told moment x)))
    (memory_after names m (Told moment x)).kept
told_read names q m moment x bounded a =
    let r = (all q).session in
    let c = as_recovered m in
    let e = as_recovered (memory_after names m (Told moment x)) in
    let up = is_used_up r.day in
    let to = told_memory names m moment x up (spent_is m.session bounded ∙ sym (used_up_as r c (all q).kept m.kept a)) in
    let b = as_same _ _ e _ _ (told_as up r c (all q).kept m.kept x a) to.0 to.1.0 to.1.1.0 in
    reads_none (with_more q (x ∷ [])) e (memory_after names m (Told moment x)).kept
    (subst (λ (p : Point). IsAs p.session p.kept e (memory_after names m (Told moment x)).kept)
    (sym (all_snoc q.rest q (q.rest ++ (x ∷ [])) x))
    (record {
      same = b.same;
      kept = b.kept ∙ to.1.1.1;
      expected = b.expected;
      had = b.had;
      used_up = b.used_up;
    }))

pub told_used : (names : Names) (m : Memory) (moment : ℕ) (x : Message) → OneUsed m.session
    → OneUsed (memory_after names m (Told moment x)).session
told_used names m moment x one h =
    elim (cases_Bool (is_spent m.session)) [
      | inl spent ↦
          (let t = given_none m.session moment x.body spent in
          ap (λ (t : Turn). t.session.day.is_one_free) t ∙ one (ap (λ (t : Turn). is_on t.session.phase) (sym t) ∙ h))
      | inr not ↦
          (let g = given_to m.session moment x.body not in
          ap (λ (d : Day). d.is_one_free) g.day ∙ one (sym g.on ∙ h))
    ]

-- A step that tells nothing.

pub step_read : (names : Names) (q : Point) (m : Memory) (step : Step) → IsSound m step → is_told step ≡ false
    → IsAt q (as_recovered m) m.kept → OneUsed m.session
    → Reads q (puts names m step) (as_recovered (memory_after names m step)) (memory_after names m step).kept
step_read names q m (Does moment e) sound other a one = does_read names q m moment e a one
step_read names q m (Told moment x) sound other a one = absurd (false≢true (sym other))
step_read names q m (Reset clock since act) sound other a one =
    reset_read names q m clock since act sound.0 sound.1 sound.2 a
step_read names q m (Released clock act) sound other a one = released_read names q m clock act sound a
step_read names q m (Marked moment) sound other a one = marked_read names q m moment a

pub step_used : (names : Names) (m : Memory) (step : Step) → is_told step ≡ false → OneUsed m.session
    → OneUsed (memory_after names m step).session
step_used names m (Does moment e) other one = does_used names m.session e one
step_used names m (Told moment x) other one = absurd (false≢true (sym other))
step_used names m (Reset clock since act) other one =
    λ h. not_on (sym (reset_to m.session clock (length (copied m))).phase ∙ h)
step_used names m (Released clock act) other one =
    λ h. (let to = released_to m.session clock in ap (λ (d : Day). d.is_one_free) to.day ∙ one (ap is_on (sym to.phase) ∙ h))
step_used names m (Marked moment) other one = one

-- One step behind the other.

joined : (q : Point) (ss ts : List Sealed) (more : List Message) (c d : Recovered) (ks rs : List Kept) → Reads q ss c ks
    → ((p : Point) → IsAt p c ks → Reads (with_more p more) ts d rs) → Reads (with_more q more) (ss ++ ts) d rs
joined q ss ts more c d ks rs r on =
    let o = on r.end r.agrees in
    record { end = o.end; reads = all_more q r.end ss ts more r.reads ∙ o.reads; agrees = o.agrees }

abbrev Follows : Names → Memory → List Step → Point → Type 0
Follows names m steps p =
    let end = memory_after_all names m steps in
    Reads (with_more p (tells_all steps)) (puts_all names m steps) (as_recovered end) end.kept

steps_read : (names : Names) (steps : List Step) (q : Point) (m : Memory) → AreSound names m steps
    → IsAt q (as_recovered m) m.kept → OneUsed m.session → Follows names m steps q
steps_read names [] q m sound a one =
    subst (λ p. Reads p [] (as_recovered m) m.kept) (sym (ap (λ ms. record q { rest = ms }) (append-nil q.rest)))
    (reads_none q (as_recovered m) m.kept a)
steps_read names (Does moment e ∷ steps) q m sound a one =
    let n = memory_after names m (Does moment e) in
    let end = memory_after_all names n steps in
    joined q (puts names m (Does moment e)) (puts_all names n steps) (tells_all steps) (as_recovered n) (as_recovered end)
    n.kept end.kept (does_read names q m moment e a one)
    (λ p b. steps_read names steps p n sound.1 b (does_used names m.session e one))
steps_read names (Told moment x ∷ steps) q m sound a one =
    let n = memory_after names m (Told moment x) in
    let end = memory_after_all names n steps in
    subst (λ p. Reads p (puts_all names n steps) (as_recovered end) end.kept)
    (ap (λ ms. record q { rest = ms }) (append_assoc q.rest (x ∷ []) (tells_all steps)))
    (joined (with_more q (x ∷ [])) [] (puts_all names n steps) (tells_all steps) (as_recovered n) (as_recovered end)
    n.kept end.kept (told_read names q m moment x sound.0 a)
    (λ p b. steps_read names steps p n sound.1 b (told_used names m moment x one)))
steps_read names (Reset clock since act ∷ steps) q m sound a one =
    let n = memory_after names m (Reset clock since act) in
    let end = memory_after_all names n steps in
    joined q (puts names m (Reset clock since act)) (puts_all names n steps) (tells_all steps) (as_recovered n) (as_recovered end)
    n.kept end.kept (reset_read names q m clock since act sound.0.0 sound.0.1 sound.0.2 a)
    (λ p b. steps_read names steps p n sound.1 b
    (λ h. not_on (sym (reset_to m.session clock (length (copied m))).phase ∙ h)))
steps_read names (Released clock act ∷ steps) q m sound a one =
    let n = memory_after names m (Released clock act) in
    let end = memory_after_all names n steps in
    let to = released_to m.session clock in
    joined q (puts names m (Released clock act)) (puts_all names n steps) (tells_all steps) (as_recovered n) (as_recovered end)
    n.kept end.kept (released_read names q m clock act sound.0 a)
    (λ p b. steps_read names steps p n sound.1 b
    (λ h. ap (λ (d : Day). d.is_one_free) to.day ∙ one (ap is_on (sym to.phase) ∙ h)))
steps_read names (Marked moment ∷ steps) q m sound a one =
    let end = memory_after_all names m steps in
    joined q (puts names m (Marked moment)) (puts_all names m steps) (tells_all steps) (as_recovered m) (as_recovered end)
    m.kept end.kept (marked_read names q m moment a)
    (λ p b. steps_read names steps p m sound.1 b one)

pub fresh_is : IsAt (start []) (as_recovered fresh) []
fresh_is = record { same = refl; kept = refl; expected = omega arith; had = omega arith; used_up = refl }

pub recovered_is : (names : Names) (steps : List Step) → AreSound names fresh steps
    → (p : Point)
    × (reads_all (Some (start (tells_all steps))) (puts_all names fresh steps) ≡ Some p)
    × Agrees p (memory_after_all names fresh steps)
recovered_is names steps sound =
    let r = steps_read names steps (start []) fresh sound fresh_is (λ h. not_on h) in
    (r.end, r.reads, r.agrees)
