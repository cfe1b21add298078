-- What is kept of the venue's messages is what it gave, in its order.
use Rattle.std.proofs.Common.{◌≡◌, ℕ, zero, suc, ◌+◌, ◌≤◌, nat_lt, List, [], ◌∷◌, ◌++◌, length, inl, inr, Some, refl, sym, subst, ◌∙◌, arith, append-nil, append_assoc, length-append}
use Rattle.fix_fields.specs.Frame.{Field}
use Rattle.fix_sessions.specs.declared.texts.Names.{Names}
use Rattle.laws_sessions.proofs.Acts.{all_recovered}
use Rattle.laws_sessions.proofs.Choices.{choice}
use Rattle.laws_sessions.proofs.FoldPoints.{IsKeptBy, read_points}
use Rattle.laws_sessions.proofs.ReadNotes.{all}
use Rattle.laws_sessions.proofs.LeftAgain.{noted_given}
use Rattle.laws_sessions.specs.Leaves.{IsNth, MayLeave}
use Rattle.laws_sessions.specs.Left.{IsKept}
use Rattle.laws_sessions.specs.Starts.{Act, AreSoundActs, IsRecovered, World, all_notes, first_world, world_after_all}
use Rattle.session_recovery.specs.Notes.{is_used_up}
use Rattle.session_recovery.specs.Recovered.{Kept, Message, Point, Sealed, copies, copies_from, is_reject, kept_by, kept_message, kept_reject, with_message, without_rejects}
use Rattle.session_recovery.specs.declared.notes.NoteKind.{NoteKind}
use Rattle.session_recovery.specs.declared.notes.NoteKind.TheVariants as kind

-- Of lists.

nth_append : (n : ℕ) (a b : List Message) (body : List Field) (moment : ℕ) → IsNth n a body moment → IsNth n (a ++ b) body moment
nth_append zero a b body moment h = absurd h
nth_append (suc n) [] b body moment h = absurd h
nth_append (suc zero) (m ∷ a) b body moment h = h
nth_append (suc (suc n)) (m ∷ a) b body moment h = nth_append (suc n) a b body moment h

nth_last : (a : List Message) (m : Message) → IsNth (suc (length a)) (a ++ (m ∷ [])) m.body m.moment
nth_last [] m = (refl, refl)
nth_last (x ∷ a) m = nth_last a m

nth_first : (n : ℕ) (a b : List Message) (body : List Field) (moment : ℕ) → n ≤ length a → IsNth n (a ++ b) body moment
    → IsNth n a body moment
nth_first zero a b body moment low h = absurd h
nth_first (suc n) [] b body moment low h = absurd (omega (arith, low))
nth_first (suc zero) (m ∷ a) b body moment low h = h
nth_first (suc (suc n)) (m ∷ a) b body moment low h = nth_first (suc n) a b body moment (omega (arith, low)) h

-- Each message of the venue that is kept is the one of its place.

abbrev IsPlaced : List Message → Kept → Type 0
IsPlaced done k = 1 ≤ k.ordinal → IsNth k.ordinal done k.body k.moment

abbrev ArePlaced : List Message → List Kept → Type 0
ArePlaced done [] = Unit {0}
ArePlaced done (k ∷ ks) = IsPlaced done k × ArePlaced done ks

placed_more : (a b : List Message) (ks : List Kept) → ArePlaced a ks → ArePlaced (a ++ b) ks
placed_more a b [] h = tt
placed_more a b (k ∷ ks) h =
    (λ low. nth_append k.ordinal a b k.body k.moment (h.0 low), placed_more a b ks h.1)

placed_append : (done : List Message) (ks : List Kept) (k : Kept) → ArePlaced done ks → IsPlaced done k → ArePlaced done (ks ++ (k ∷ []))
placed_append done [] k h g = (g, tt)
placed_append done (x ∷ ks) k h g = (h.0, placed_append done ks k h.1 g)

placed_without : (done : List Message) (ks : List Kept) → ArePlaced done ks → ArePlaced done (without_rejects ks)
placed_without done [] h = tt
placed_without done (k ∷ ks) h =
    choice (ArePlaced done) (is_reject k) (without_rejects ks) (k ∷ without_rejects ks)
    (λ g. placed_without done ks h.1) (λ g. (h.0, placed_without done ks h.1))

placed_copies : (done : List Message) (number had : ℕ) (ks : List Kept) → ArePlaced done ks → ArePlaced done (copies_from number had ks)
placed_copies done number had [] h = tt
placed_copies done number had (k ∷ ks) h =
    choice (ArePlaced done) (is_reject k) (copies_from number had ks) _ (λ g. placed_copies done number had ks h.1)
    (λ g. choice (ArePlaced done) (nat_lt had k.number) _ (copies_from number had ks)
    (λ e. (h.0, placed_copies done (number + 1) had ks h.1)) (λ e. placed_copies done number had ks h.1))

placed_by : (done : List Message) (ks : List Kept) (s : Sealed) (k : NoteKind) → ArePlaced done ks → ArePlaced done (kept_by ks s k)
placed_by done ks s (kind.Logon last_logon resets) h =
    choice (ArePlaced done) resets (without_rejects ks) ks (λ g. placed_without done ks h) (λ g. h)
placed_by done ks s kind.Own h = h
placed_by done ks s kind.Reject h = placed_append done ks (kept_reject s) h (λ low. absurd (omega (arith, low)))
placed_by done ks s kind.Logout h = h
placed_by done ks s (kind.Reset since act) h = placed_copies done 2 s.note.had ks h
placed_by done ks s kind.Locked h = h
placed_by done ks s (kind.Released act) h = h
placed_by done ks s kind.Mark h = h

-- a point of the fold over what the venue gave
record Holds (given : List Message) (p : Point) (rest : List Message) : Type 0 where
  done : List Message
  whole : done ++ rest ≡ given
  count : p.session.given ≡ length done
  placed : ArePlaced done p.kept

suc_is : (n m : ℕ) → n ≡ m → n + 1 ≡ suc m
suc_is n m h = omega (arith, h)

message_holds : (given : List Message) (p : Point) (m : Message) (ms : List Message) → Holds given p (m ∷ ms)
    → Holds given (with_message p m ms) ms
message_holds given p m ms h =
    let done = h.done ++ (m ∷ []) in
    let number = suc_is p.session.given (length h.done) h.count in
    let e = length-append h.done (m ∷ []) in
    let c = h.count in
    record {
      done = done;
      whole = append_assoc h.done (m ∷ []) ms ∙ h.whole;
      count = omega (arith, e, c);
      placed = choice (ArePlaced done) (is_used_up p.session.day) p.kept (p.kept ++ (kept_message p.session m ∷ []))
          (λ g. placed_more h.done (m ∷ []) p.kept h.placed)
          (λ g. placed_append done p.kept (kept_message p.session m) (placed_more h.done (m ∷ []) p.kept h.placed)
          (λ low. subst (λ n. IsNth n done m.body m.moment) (sym number) (nth_last h.done m)));
    }

placed_is_kept : (given : List Message) → IsKeptBy (Holds given)
placed_is_kept given = record {
  message = message_holds given;
  rest = λ p ms rest h. record { done = h.done; whole = h.whole; count = h.count; placed = h.placed };
  note = λ p s due h. record {
    done = h.done;
    whole = h.whole;
    count = noted_given p.session s.note (length (copies s.note.had p.kept)) s.note.kind ∙ h.count;
    placed = placed_by h.done p.kept s s.note.kind h.placed;
  };
}

placed_in : (done : List Message) (ks : List Kept) (x : Kept) → ArePlaced done ks → IsKept x ks → IsPlaced done x
placed_in done [] x h k = absurd k
placed_in done (y ∷ ks) x h (inl e) = subst (IsPlaced done) (sym e) h.0
placed_in done (y ∷ ks) x h (inr k) = placed_in done ks x h.1 k

-- what is kept in memory is what the venue gave for the entries that are committed, or being committed
kept_is_given : (w : World) (r : IsRecovered w) (x : Kept) → IsKept x w.memory.kept → 1 ≤ x.ordinal
    → IsNth x.ordinal (w.disk.given ++ w.flight.given) x.body x.moment
kept_is_given w r x k low =
    let p = r.point in
    let h = read_points (Holds r.told) (placed_is_kept r.told) r.told (all_notes w) p
    (record { done = []; whole = refl; count = refl; placed = tt }) r.reads in
    let whole : h.done ≡ r.told = sym (append-nil h.done) ∙ h.whole in
    let nth = placed_in h.done (all p).kept x h.placed (subst (λ ks. IsKept x ks) (sym r.agrees.kept) k) low in
    subst (λ ms. IsNth x.ordinal ms x.body x.moment) r.in_order
    (nth_append x.ordinal r.told w.waiting x.body x.moment
    (subst (λ ms. IsNth x.ordinal ms x.body x.moment) whole nth))

-- what may leave as the venue's n-th message is the n-th that the committed entries give
pub leaves_as_given : (names : Names) (acts : List Act) (w : World) (x : Kept) → AreSoundActs names (Some first_world) acts
    → world_after_all names (Some first_world) acts ≡ Some w → MayLeave w x → IsNth x.ordinal w.disk.given x.body x.moment
leaves_as_given names acts w x sound h l =
    nth_first x.ordinal w.disk.given w.flight.given x.body x.moment l.entry
    (kept_is_given w (all_recovered names acts w sound h) x l.kept l.is_of_venue)
