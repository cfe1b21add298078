-- A Reject whose note is committed stands, at whichever gateway.
use Rattle.std.proofs.Common.{◌≡◌, ℕ, Bool, true, false, List, [], ◌∷◌, ◌++◌, Some, sym, ap, subst, ◌∙◌, append-nil, append_assoc}
use Rattle.std.proofs.lemmas.Option.{same_Some}
use Rattle.fix_sessions.specs.declared.texts.Names.{Names}
use Rattle.laws_sessions.proofs.Acts.{act_next, acts_next, all_stand, found_countable, most_of}
use Rattle.laws_sessions.proofs.Choices.{choice}
use Rattle.laws_sessions.proofs.CountedSteps.{keeps_parts}
use Rattle.laws_sessions.proofs.LeftAgain.{rejects_are_kept}
use Rattle.laws_sessions.proofs.Starting.{Stands, starts_well}
use Rattle.laws_sessions.specs.Leaves.{AllKeepAnswers, KeepsAnswers, MayAnswer}
use Rattle.laws_sessions.specs.Left.{AreKeeping, IsKept}
use Rattle.laws_sessions.specs.Memory.{puts}
use Rattle.laws_sessions.specs.Starts.{Act, AreSoundActs, Begins, Ends, Enters, IsRecovered, Moves, Part, Stops, Tells, World, all_notes, begins, first_world, found, told_first, world_after, world_after_all}
use Rattle.session_recovery.specs.Recovered.{Message, Sealed, kept_reject, reads_all, start}

-- Of lists.

keeps_both : (a b : List Sealed) → AreKeeping a → AreKeeping b → AreKeeping (a ++ b)
keeps_both [] b h g = g
keeps_both (s ∷ a) b h g = (h.0, keeps_both a b h.1 g)

-- It is kept in memory.
kept_in_memory : (w : World) (r : IsRecovered w) (s : Sealed) → MayAnswer w s → IsKept (kept_reject s) w.memory.kept
kept_in_memory w r s m =
    let pending = w.flight.notes ++ w.fill.notes in
    let all : all_notes w ≡ m.before ++ (s ∷ (m.after ++ pending)) =
    ap (λ l. l ++ pending) m.noted ∙ append_assoc m.before (s ∷ m.after) pending in
    subst (λ ks. IsKept (kept_reject s) ks) r.agrees.kept
    (rejects_are_kept r.told m.before (m.after ++ pending) s r.point
    (ap (λ l. reads_all (Some (start r.told)) l) (sym all) ∙ r.reads) m.is_reject m.keeping)

-- Act by act.

moves_answer : (names : Names) (w u : World) (act : Act) (new : List Sealed) (s : Sealed) → AreKeeping new
    → u.disk ≡ w.disk → u.flight ≡ w.flight → u.fill.notes ≡ w.fill.notes ++ new → MayAnswer w s → MayAnswer u s
moves_answer names w u act new s keeping disk flight fill m =
    let pending = w.flight.notes ++ w.fill.notes in
    record {
      before = m.before;
      after = m.after;
      noted = ap (λ (p : Part). p.notes) disk ∙ m.noted;
      is_reject = m.is_reject;
      keeping = subst (λ ns. AreKeeping (m.after ++ ns))
          (append_assoc w.flight.notes w.fill.notes new
          ∙ (ap (λ (p : Part). p.notes ++ (w.fill.notes ++ new)) (sym flight) ∙ ap (λ l. u.flight.notes ++ l) (sym fill)))
          (subst AreKeeping (append_assoc m.after pending new) (keeps_both (m.after ++ pending) new m.keeping keeping));
    }

tells_answer : (names : Names) (w : World) (moment : ℕ) (ws : List Message) (s : Sealed) → MayAnswer w s
    → MayAnswer (told_first names w moment ws) s
tells_answer names w moment [] s m = m
tells_answer names w moment (y ∷ ys) s m =
    record { before = m.before; after = m.after; noted = m.noted; is_reject = m.is_reject; keeping = m.keeping }

begins_answer : (w : World) (s : Sealed) → MayAnswer w s → MayAnswer (begins w) s
begins_answer w s m =
    let parts = keeps_parts m.after (w.flight.notes ++ w.fill.notes) m.keeping in
    let fill = (keeps_parts w.flight.notes w.fill.notes parts.1).1 in
    choice (λ v. MayAnswer v s) w.is_committing _ _ (λ h. m)
    (λ h. record {
      before = m.before;
      after = m.after;
      noted = m.noted;
      is_reject = m.is_reject;
      keeping = keeps_both m.after (w.fill.notes ++ []) parts.0 (subst AreKeeping (sym (append-nil w.fill.notes)) fill);
    })

-- with what was being committed
joined_noted : (w : World) (s : Sealed) (m : MayAnswer w s)
    → w.disk.notes ++ w.flight.notes ≡ m.before ++ (s ∷ (m.after ++ w.flight.notes))
joined_noted w s m = ap (λ l. l ++ w.flight.notes) m.noted ∙ append_assoc m.before (s ∷ m.after) w.flight.notes

ends_answer : (w u : World) (s : Sealed) → u.disk.notes ≡ w.disk.notes ++ w.flight.notes → u.flight.notes ++ u.fill.notes ≡ w.fill.notes
    → MayAnswer w s → MayAnswer u s
ends_answer w u s disk pending m = record {
  before = m.before;
  after = m.after ++ w.flight.notes;
  noted = disk ∙ joined_noted w s m;
  is_reject = m.is_reject;
  keeping = subst (λ ns. AreKeeping ((m.after ++ w.flight.notes) ++ ns)) (sym pending)
      (subst AreKeeping (sym (append_assoc m.after w.flight.notes w.fill.notes)) m.keeping);
}

-- what a start finds
found_answer : (w u : World) (s : Sealed) (is_there : Bool) → u.disk ≡ found w.disk w.flight is_there
    → u.flight.notes ++ u.fill.notes ≡ [] → MayAnswer w s → MayAnswer u s
found_answer w u s true disk pending m =
    let parts = keeps_parts m.after (w.flight.notes ++ w.fill.notes) m.keeping in
    let flight = (keeps_parts w.flight.notes w.fill.notes parts.1).0 in
    record {
      before = m.before;
      after = m.after ++ w.flight.notes;
      noted = ap (λ (p : Part). p.notes) disk ∙ joined_noted w s m;
      is_reject = m.is_reject;
      keeping = keeps_both (m.after ++ w.flight.notes) (u.flight.notes ++ u.fill.notes) (keeps_both m.after w.flight.notes parts.0 flight)
          (subst AreKeeping (sym pending) tt);
    }
found_answer w u s false disk pending m =
    let parts = keeps_parts m.after (w.flight.notes ++ w.fill.notes) m.keeping in
    record {
      before = m.before;
      after = m.after;
      noted = ap (λ (p : Part). p.notes) disk ∙ m.noted;
      is_reject = m.is_reject;
      keeping = keeps_both m.after (u.flight.notes ++ u.fill.notes) parts.0 (subst AreKeeping (sym pending) tt);
    }

act_answers : (names : Names) (w u : World) (act : Act) (s : Sealed) → Stands w → KeepsAnswers names w act → MayAnswer w s
    → world_after names w act ≡ Some u → MayAnswer u s
act_answers names w u (Moves step place given) s stands keeping m h =
    let e = same_Some _ u h in
    moves_answer names w u (Moves step place given) (puts names w.memory step) s keeping (ap (λ (v : World). v.disk) (sym e))
    (ap (λ (v : World). v.flight) (sym e)) (ap (λ (v : World). v.fill.notes) (sym e)) m
act_answers names w u (Enters given) s stands keeping m h =
    let e = same_Some _ u h in
    moves_answer names w u (Enters given) [] s tt (ap (λ (v : World). v.disk) (sym e)) (ap (λ (v : World). v.flight) (sym e))
    (ap (λ (v : World). v.fill.notes) (sym e)) m
act_answers names w u (Tells moment) s stands keeping m h =
    subst (λ v. MayAnswer v s) (same_Some _ u h) (tells_answer names w moment w.waiting s m)
act_answers names w u Begins s stands keeping m h = subst (λ v. MayAnswer v s) (same_Some _ u h) (begins_answer w s m)
act_answers names w u Ends s stands keeping m h =
    let e = same_Some _ u h in
    ends_answer w u s (ap (λ (v : World). v.disk.notes) (sym e)) (ap (λ (v : World). v.flight.notes ++ v.fill.notes) (sym e)) m
act_answers names w u (Stops is_there) s stands keeping m h =
    let b = starts_well (found w.disk w.flight is_there) (most_of stands is_there) (found_countable w is_there stands) in
    let e = same_Some b.world u (sym b.is ∙ h) in
    found_answer w u s is_there (ap (λ (v : World). v.disk) (sym e) ∙ b.disk)
    (ap (λ (v : World). v.flight.notes ++ v.fill.notes) (sym e) ∙ b.pending) m

acts_answer : (names : Names) (more : List Act) (w u : World) (s : Sealed) → Stands w → AreSoundActs names (Some w) more
    → AllKeepAnswers names (Some w) more → MayAnswer w s → world_after_all names (Some w) more ≡ Some u → MayAnswer u s
acts_answer names [] w u s stands sound keeping m h = subst (λ v. MayAnswer v s) (same_Some w u h) m
acts_answer names (act ∷ more) w u s stands sound keeping m h =
    let one = act_next names w act stands sound.0 in
    acts_answer names more one.world u s one.stands (subst (λ o. AreSoundActs names o more) one.is sound.1)
    (subst (λ o. AllKeepAnswers names o more) one.is keeping.1)
    (act_answers names w one.world act s stands keeping.0 m one.is)
    (ap (λ o. world_after_all names o more) (sym one.is) ∙ h)

-- what may be answered may be answered ever after, as long as no such note is put
pub answers_ever : (names : Names) (acts more : List Act) (w later : World) (s : Sealed) → AreSoundActs names (Some first_world) acts
    → world_after_all names (Some first_world) acts ≡ Some w → MayAnswer w s → AreSoundActs names (Some w) more
    → AllKeepAnswers names (Some w) more → world_after_all names (Some w) more ≡ Some later → MayAnswer later s
answers_ever names acts more w later s sound h m behind keeping g =
    acts_answer names more w later s (all_stand names acts w sound h) behind keeping m g

pub later_stands : (names : Names) (acts more : List Act) (w later : World) → AreSoundActs names (Some first_world) acts
    → world_after_all names (Some first_world) acts ≡ Some w → AreSoundActs names (Some w) more
    → world_after_all names (Some w) more ≡ Some later → Stands later
later_stands names acts more w later sound h behind g =
    let n = acts_next names more w (all_stand names acts w sound h) behind in
    subst Stands (same_Some n.world later (sym n.is ∙ g)) n.stands

pub answers_stand : (names : Names) (acts more : List Act) (w later : World) (s : Sealed) → AreSoundActs names (Some first_world) acts
    → world_after_all names (Some first_world) acts ≡ Some w → MayAnswer w s → AreSoundActs names (Some w) more
    → AllKeepAnswers names (Some w) more → world_after_all names (Some w) more ≡ Some later
    → IsKept (kept_reject s) later.memory.kept
answers_stand names acts more w later s sound h m behind keeping g =
    kept_in_memory later (later_stands names acts more w later sound h behind g).recovered s
    (answers_ever names acts more w later s sound h m behind keeping g)
