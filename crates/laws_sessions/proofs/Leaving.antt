-- What may leave may leave ever after, and stands at the next gateway.
use Rattle.std.proofs.Common.{◌≡◌, ℕ, ◌+◌, ◌≤◌, Bool, true, false, nat_lt, List, [], ◌∷◌, ◌++◌, length, inl, inr, Option, Some, None, refl, sym, ap, subst, ◌∙◌, arith, append-nil, append_assoc, length-append, if◌then◌else◌}
use Rattle.std.proofs.lemmas.Bool.{false≢true}
use Rattle.std.proofs.lemmas.Bool.Decides.{nat_tests}
use Rattle.std.proofs.lemmas.Option.{none-some, same_Some}
use Rattle.fix_sessions.specs.declared.state.Day.{Day}
use Rattle.fix_sessions.specs.declared.texts.Names.{Names}
use Rattle.fix_sessions.specs.declared.turns.Said.{Said}
use Rattle.fix_sessions.specs.declared.turns.Turn.{Turn}
use Rattle.fix_sessions.specs.declared.turns.Word.{Word}
use Rattle.fix_sessions.specs.declared.turns.Word.TheVariants as word
use Rattle.laws_sessions.proofs.Acts.{act_next, acts_next, all_stand, found_countable, most_of}
use Rattle.laws_sessions.proofs.Choices.{choice}
use Rattle.laws_sessions.proofs.FoldPoints.{IsKeptBy, read_points}
use Rattle.laws_sessions.proofs.KeptLists.{kept_front}
use Rattle.laws_sessions.proofs.LeftAgain.{kept_at_start, noted_given}
use Rattle.laws_sessions.proofs.Starting.{Stands, starts_well}
use Rattle.laws_sessions.specs.Leaves.{AreUncommitted, AreWithoutResets, MayLeave, commits, resets, resets_in}
use Rattle.laws_sessions.specs.Left.{AreLater, IsKept, is_reset, lost}
use Rattle.laws_sessions.specs.Memory.{Does, Marked, Memory, Released, Reset, Step, Told, kept_new, memory_after, puts, standing, turn}
use Rattle.laws_sessions.specs.Starts.{Act, AreSoundActs, Begins, Ends, Enters, IsSoundAct, Moves, Part, Stops, Tells, World, begins, first_world, found, is_told, starts, told_first, world_after, world_after_all}
use Rattle.session_recovery.specs.Puts.{kind_of, note_as, note_locked, note_of, note_said, put_by, sealed_by, sealed_with}
use Rattle.session_recovery.specs.Recovered.{Kept, Message, Point, Sealed, copies, gives_all, is_reject, reads_all, start, without_rejects}
use Rattle.session_recovery.specs.declared.notes.NoteKind.{NoteKind}
use Rattle.session_recovery.specs.declared.notes.NoteKind.TheVariants as kind
use Rattle.session_recovery.specs.declared.puts.Standing.{Standing}

-- Of lists.

later_append : (n : ℕ) (a b : List Sealed) → AreLater n a → AreLater n b → AreLater n (a ++ b)
later_append n [] b h g = g
later_append n (s ∷ a) b h g = (h.0, h.1, later_append n a b h.2 g)

later_last : (n : ℕ) (a b : List Sealed) → AreLater n (a ++ b) → AreLater n b
later_last n [] b h = h
later_last n (s ∷ a) b h = later_last n a b h.2

not_reject : (n : ℕ) → 1 ≤ n → nat_lt n 1 ≡ false
not_reject n h = grind (arith, nat_tests)

kept_venue : (x : Kept) (ks : List Kept) → 1 ≤ x.ordinal → IsKept x ks → IsKept x (without_rejects ks)
kept_venue x [] low h = h
kept_venue x (k ∷ ks) low (inl e) =
    let is : is_reject k ≡ false = ap is_reject (sym e) ∙ not_reject x.ordinal low in
    subst (λ b. IsKept x (if b then without_rejects ks else k ∷ without_rejects ks)) (sym is) (inl e)
kept_venue x (k ∷ ks) low (inr h) =
    choice (λ l. IsKept x l) (is_reject k) (without_rejects ks) (k ∷ without_rejects ks)
    (λ g. kept_venue x ks low h) (λ g. inr (kept_venue x ks low h))

-- All that the venue gave is counted, or left.

abbrev HasAll : ℕ → Point → List Message → Type 0
HasAll total p ms = p.session.given + length ms ≡ total

all_is_kept : (total : ℕ) → IsKeptBy (HasAll total)
all_is_kept total = record {
  message = λ p m ms h. omega (arith, h);
  rest = λ p ms rest h. h;
  note = λ p s due h. (let same = noted_given p.session s.note (length (copies s.note.had p.kept)) s.note.kind in omega (arith, h, same));
}

all_given : (given : List Message) (notes : List Sealed) (q : Point) → reads_all (Some (start given)) notes ≡ Some q
    → (gives_all q q.rest).session.given ≡ length given
all_given given notes q h =
    let e = read_points (HasAll (length given)) (all_is_kept (length given)) given notes q (omega arith) h in omega (arith, e)

-- What a step puts is behind what was given.

abbrev is_reset_in : Option NoteKind → Bool
is_reset_in None = false
is_reset_in (Some k) = is_reset k

no_reset : (l : ℕ) (w : Word) → is_reset_in (kind_of l w) ≡ false
no_reset l (word.Logon seconds resets expects) = refl
no_reset l word.Heartbeat = refl
no_reset l (word.Answer id) = refl
no_reset l (word.TestRequest id) = refl
no_reset l (word.ResendRequest first) = refl
no_reset l (word.Reject number of_kind fault) = refl
no_reset l (word.Fill next) = refl
no_reset l (word.Logout why) = refl
no_reset l (word.Foreign version) = refl
no_reset l (word.LogoutFor text) = refl
no_reset l (word.Denied number of_kind denial) = refl
no_reset l (word.Kept body is_copy) = refl
no_reset l (word.Again body is_copy first) = refl

as_later : (n : ℕ) (st : Standing) (after : Day) (number : ℕ) (k : Option NoteKind) (said : Said) → n ≤ st.given
    → is_reset_in k ≡ false → AreLater n (sealed_with (note_as st after number k) (Some said))
as_later n st after number None said low h = tt
as_later n st after number (Some k) said low h = (inr low, h, tt)

said_later : (n : ℕ) (st : Standing) (after : Day) (o : Option Said) → n ≤ st.given
    → AreLater n (sealed_with (note_said st after o) o)
said_later n st after None low = tt
said_later n st after (Some said) low =
    as_later n st after said.number (kind_of after.last_logon said.word) said low (no_reset after.last_logon said.word)

may_later : (n : ℕ) (st : Standing) (after : Day) (b : Bool) (k : NoteKind) → n ≤ st.given → is_reset k ≡ false
    → AreLater n (sealed_with (if b then Some (note_of st after 0 k) else None) None)
may_later n st after true k low h = (inr low, h, tt)
may_later n st after false k low h = tt

does_later : (n : ℕ) (st : Standing) (d : Day) (t : Turn) → n ≤ st.given → AreLater n (sealed_by (put_by st d t) t)
does_later n st d t low =
    let after = t.session.day in
    later_append n (sealed_with (note_locked st d after) None) _ (may_later n st after _ kind.Locked low refl)
    (later_append n (sealed_with (note_said st after t.first) t.first) _ (said_later n st after t.first low)
    (later_append n (sealed_with (note_said st after t.second) t.second) _ (said_later n st after t.second low)
    (may_later n st after _ kind.Mark low refl)))

step_later : (names : Names) (n : ℕ) (m : Memory) (step : Step) → resets_in step ≡ false → n ≤ m.given
    → AreLater n (puts names m step)
step_later names n m (Does moment e) other low = does_later n (standing m moment) m.session.day (turn names m.session e) low
step_later names n m (Told moment message) other low = tt
step_later names n m (Reset clock since act) other low = absurd (false≢true (sym other))
step_later names n m (Released clock act) other low = (inr low, refl, tt)
step_later names n m (Marked moment) other low = (inr low, refl, tt)

-- What is kept stays.

step_keeps : (names : Names) (x : Kept) (m : Memory) (step : Step) → is_told step ≡ false → resets_in step ≡ false
    → 1 ≤ x.ordinal → IsKept x m.kept → IsKept x (memory_after names m step).kept
step_keeps names x m (Does moment e) other still low h =
    let t = turn names m.session e in
    kept_front x (if t.drops_rejects then without_rejects m.kept else m.kept) (kept_new moment t.first)
    (choice (λ ks. IsKept x ks) t.drops_rejects (without_rejects m.kept) m.kept (λ g. kept_venue x m.kept low h) (λ g. h))
step_keeps names x m (Told moment message) other still low h = absurd (false≢true (sym other))
step_keeps names x m (Reset clock since act) other still low h = absurd (false≢true (sym still))
step_keeps names x m (Released clock act) other still low h = h
step_keeps names x m (Marked moment) other still low h = h

step_given : (names : Names) (m : Memory) (step : Step) → is_told step ≡ false → (memory_after names m step).given ≡ m.given
step_given names m (Does moment e) other = refl
step_given names m (Told moment message) other = absurd (false≢true (sym other))
step_given names m (Reset clock since act) other = refl
step_given names m (Released clock act) other = refl
step_given names m (Marked moment) other = refl

-- Act by act.

moves_leave : (names : Names) (w : World) (step : Step) (place : ℕ) (given : List Message) (x : Kept) (o : Option World) (u : World)
    → is_told step ≡ false → resets_in step ≡ false → MayLeave w x → o ≡ world_after names w (Moves step place given)
    → o ≡ Some u → MayLeave u x
moves_leave names w step place given x o u other still l is h =
    let m = w.memory in
    let new = puts names m step in
    let same = step_given names m step other in
    let told = l.told in
    subst (λ v. MayLeave v x) (same_Some _ u (sym is ∙ h))
    (record {
      kept = step_keeps names x m step other still l.is_of_venue l.kept;
      is_of_venue = l.is_of_venue;
      told = omega (arith, told, same);
      entry = l.entry;
      notes = subst (AreLater x.ordinal) (append_assoc w.flight.notes w.fill.notes new)
          (later_append x.ordinal (w.flight.notes ++ w.fill.notes) new l.notes (step_later names x.ordinal m step still told));
    })

enters_leave : (w : World) (given : List Message) (x : Kept) → MayLeave w x
    → MayLeave (record w { fill = record { given = w.fill.given ++ given; taken = w.fill.taken ++ []; notes = w.fill.notes ++ [] } }) x
enters_leave w given x l = record {
  kept = l.kept;
  is_of_venue = l.is_of_venue;
  told = l.told;
  entry = l.entry;
  notes = subst (λ ns. AreLater x.ordinal (w.flight.notes ++ ns)) (sym (append-nil w.fill.notes)) l.notes;
}

tells_leave : (names : Names) (w : World) (moment : ℕ) (ws : List Message) (x : Kept) → MayLeave w x
    → MayLeave (told_first names w moment ws) x
tells_leave names w moment [] x l = l
tells_leave names w moment (y ∷ ys) x l =
    let told = l.told in
    record {
      kept = kept_front x w.memory.kept _ l.kept;
      is_of_venue = l.is_of_venue;
      told = omega (arith, told);
      entry = l.entry;
      notes = l.notes;
    }

begins_leave : (w : World) (x : Kept) → MayLeave w x → MayLeave (begins w) x
begins_leave w x l =
    choice (λ v. MayLeave v x) w.is_committing _ _ (λ h. l)
    (λ h. record {
      kept = l.kept;
      is_of_venue = l.is_of_venue;
      told = l.told;
      entry = l.entry;
      notes = subst (AreLater x.ordinal) (sym (append-nil w.fill.notes)) (later_last x.ordinal w.flight.notes w.fill.notes l.notes);
    })

more_given : (n : ℕ) (a b : List Message) → n ≤ length a → n ≤ length (a ++ b)
more_given n a b h = let e = length-append a b in omega (arith, h, e)

found_given : (n : ℕ) (w : World) (is_there : Bool) → n ≤ length w.disk.given → n ≤ length (found w.disk w.flight is_there).given
found_given n w true h = more_given n w.disk.given w.flight.given h
found_given n w false h = h

lost_later : (n : ℕ) (w : World) (is_there : Bool) → AreLater n (w.flight.notes ++ w.fill.notes) → AreLater n (lost w is_there)
lost_later n w true h = later_last n w.flight.notes w.fill.notes h
lost_later n w false h = h

-- at the next gateway
stops_leave : (names : Names) (w u : World) (is_there : Bool) (x : Kept) → Stands w → MayLeave w x
    → world_after names w (Stops is_there) ≡ Some u → MayLeave u x
stops_leave names w u is_there x s l h =
    let part = found w.disk w.flight is_there in
    let b = starts_well part (most_of s is_there) (found_countable w is_there s) in
    let all = all_given part.given part.notes b.point b.reads in
    let low = found_given x.ordinal w is_there l.entry in
    let given = b.given in
    subst (λ v. MayLeave v x) (same_Some b.world u (sym b.is ∙ h))
    (record {
      kept = subst (λ ks. IsKept x ks) (sym b.kept)
          (kept_at_start w s.recovered is_there x b.point l.kept l.is_of_venue (lost_later x.ordinal w is_there l.notes) b.reads
          (omega (arith, low, all)));
      is_of_venue = l.is_of_venue;
      told = omega (arith, low, all, given);
      entry = subst (λ (p : Part). x.ordinal ≤ length p.given) (sym b.disk) low;
      notes = subst (AreLater x.ordinal) (sym b.pending) tt;
    })

act_leaves : (names : Names) (w u : World) (act : Act) (x : Kept) → Stands w → IsSoundAct w act → resets act ≡ false → MayLeave w x
    → world_after names w act ≡ Some u → MayLeave u x
act_leaves names w u (Moves step place given) x s sound still l h =
    moves_leave names w step place given x (Some u) u sound.1 still l (sym h) refl
act_leaves names w u (Enters given) x s sound still l h = subst (λ v. MayLeave v x) (same_Some _ u h) (enters_leave w given x l)
act_leaves names w u (Tells moment) x s sound still l h =
    subst (λ v. MayLeave v x) (same_Some _ u h) (tells_leave names w moment w.waiting x l)
act_leaves names w u Begins x s sound still l h = subst (λ v. MayLeave v x) (same_Some _ u h) (begins_leave w x l)
act_leaves names w u Ends x s sound still l h =
    subst (λ v. MayLeave v x) (same_Some _ u h)
    (record {
      kept = l.kept;
      is_of_venue = l.is_of_venue;
      told = l.told;
      entry = more_given x.ordinal w.disk.given w.flight.given l.entry;
      notes = later_last x.ordinal w.flight.notes w.fill.notes l.notes;
    })
act_leaves names w u (Stops is_there) x s sound still l h = stops_leave names w u is_there x s l h

acts_leave : (names : Names) (more : List Act) (w u : World) (x : Kept) → Stands w → AreSoundActs names (Some w) more
    → AreWithoutResets more → MayLeave w x → world_after_all names (Some w) more ≡ Some u → MayLeave u x
acts_leave names [] w u x s sound still l h = subst (λ v. MayLeave v x) (same_Some w u h) l
acts_leave names (act ∷ more) w u x s sound still l h =
    let one = act_next names w act s sound.0 in
    acts_leave names more one.world u x one.stands (subst (λ o. AreSoundActs names o more) one.is sound.1) still.1
    (act_leaves names w one.world act x s sound.0 still.0 l one.is)
    (ap (λ o. world_after_all names o more) (sym one.is) ∙ h)

-- what may leave may leave ever after, until a reset
pub leaves_ever : (names : Names) (acts more : List Act) (w u : World) (x : Kept) → AreSoundActs names (Some first_world) acts
    → world_after_all names (Some first_world) acts ≡ Some w → MayLeave w x → AreSoundActs names (Some w) more
    → AreWithoutResets more → world_after_all names (Some w) more ≡ Some u → MayLeave u x
leaves_ever names acts more w u x sound h l later still g =
    acts_leave names more w u x (all_stand names acts w sound h) later still l g

-- A gateway that goes on: the next one finds what it found when that lost its term.

told_disk : (names : Names) (w : World) (moment : ℕ) (ws : List Message) (b : Bool)
    → found (told_first names w moment ws).disk (told_first names w moment ws).flight b ≡ found w.disk w.flight b
told_disk names w moment [] b = refl
told_disk names w moment (y ∷ ys) b = refl

act_finds : (names : Names) (w u : World) (act : Act) (b : Bool) → commits act ≡ false → world_after names w act ≡ Some u
    → found u.disk u.flight b ≡ found w.disk w.flight b
act_finds names w u (Moves step place given) b still h = ap (λ (v : World). found v.disk v.flight b) (sym (same_Some _ u h))
act_finds names w u (Enters given) b still h = ap (λ (v : World). found v.disk v.flight b) (sym (same_Some _ u h))
act_finds names w u (Tells moment) b still h =
    ap (λ (v : World). found v.disk v.flight b) (sym (same_Some _ u h)) ∙ told_disk names w moment w.waiting b
act_finds names w u Begins b still h = absurd (false≢true (sym still))
act_finds names w u Ends b still h = absurd (false≢true (sym still))
act_finds names w u (Stops is_there) b still h = absurd (false≢true (sym still))

through_finds : (names : Names) (more : List Act) (w : World) (o : Option World) (u : World) (b : Bool) → AreUncommitted more
    → ((v : World) → o ≡ Some v → found v.disk v.flight b ≡ found w.disk w.flight b)
    → world_after_all names o more ≡ Some u → found u.disk u.flight b ≡ found w.disk w.flight b
through_finds names more w None u b still link h = absurd (none-some u h)
through_finds names [] w (Some v) u b still link h =
    ap (λ (y : World). found y.disk y.flight b) (sym (same_Some v u h)) ∙ link v refl
through_finds names (act ∷ more) w (Some v) u b still link h =
    through_finds names more w (world_after names v act) u b still.1
    (λ y e. act_finds names v y act b still.0 e ∙ link v refl) h

pub stands_at_next : (names : Names) (acts more : List Act) (w old next : World) (is_there : Bool) (x : Kept)
    → AreSoundActs names (Some first_world) acts → world_after_all names (Some first_world) acts ≡ Some w
    → AreSoundActs names (Some w) more → AreUncommitted more → world_after_all names (Some w) more ≡ Some old → MayLeave old x
    → world_after names w (Stops is_there) ≡ Some next → IsKept x next.memory.kept
stands_at_next names acts more w old next is_there x sound h later still g l e =
    let s = all_stand names acts w sound h in
    let n = acts_next names more w s later in
    let stands = subst Stands (same_Some n.world old (sym n.is ∙ g)) n.stands in
    let same = through_finds names more w (Some w) old is_there still (λ v f. ap (λ (y : World). found y.disk y.flight is_there) (sym (same_Some w v f))) g in
    (stops_leave names old next is_there x stands l (ap starts same ∙ e)).kept
