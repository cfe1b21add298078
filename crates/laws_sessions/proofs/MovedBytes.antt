-- What the session hears of bytes, and the bytes themselves.
use Rattle.std.proofs.Common.{◌≡◌, ℕ, ◌+◌, Bool, true, false, ◌==◌, ◌&&◌, ◌||◌, List, length, ◌⊎◌, inl, inr, Option, Some, None, is_some, refl, sym, ap, ◌∙◌, if◌then◌else◌}
use Rattle.std.proofs.lemmas.Bool.{false≢true}
use Rattle.fix_sessions.specs.Cuts.{body_of, front_of, is_whole, read_of_long, version_of}
use Rattle.fix_sessions.specs.Fields.{fields_in}
use Rattle.fix_sessions.specs.Heard.{as_taken, denied_kind, foreign_of, heard_by, heard_of, incoming_of, is_logout, number_once}
use Rattle.fix_sessions.specs.Steps.{last_counted, came_leaving_as}
use Rattle.fix_sessions.specs.declared.cuts.Front.{Front}
use Rattle.fix_sessions.specs.declared.cuts.Front.TheVariants as front
use Rattle.fix_sessions.specs.declared.messages.Heard.{Heard}
use Rattle.fix_sessions.specs.declared.messages.Heard.TheVariants as heard
use Rattle.fix_sessions.specs.declared.messages.Kind.{Kind}
use Rattle.fix_sessions.specs.declared.messages.Kind.TheVariants as kind
use Rattle.fix_sessions.specs.declared.state.Day.{Day}
use Rattle.fix_sessions.specs.declared.state.Session.{Session}
use Rattle.fix_sessions.specs.declared.texts.Names.{Names}
use Rattle.fix_sessions.specs.declared.turns.Denial.{Denial}
use Rattle.fix_sessions.specs.declared.turns.Turn.{Turn}
use Rattle.laws_sessions.proofs.Choices.{choice}
use Rattle.laws_sessions.proofs.MovedOutcomes.{MovesTo, heard_number, same_number}
use Rattle.laws_sessions.specs.Moves.{IsMoved, IsStill, is_own, is_message, is_too_long, kind_in, new_in, number_borne, number_by, test_in}

-- Bytes.

abbrev pub Moved : Names → List ℕ → Day → Turn → Type 0
Moved names bytes d t = IsStill d t ⊎ IsMoved names bytes d t

-- what a denial leaves as it is
own_taken : (denial : Option Denial) (k : Kind) → is_own (denied_kind denial k) ≡ is_own k
own_taken None k = refl
own_taken (Some denial) kind.Logon = refl
own_taken (Some denial) (kind.Heartbeat answered) = refl
own_taken (Some denial) (kind.TestRequest id) = refl
own_taken (Some denial) (kind.ResendRequest first last) = refl
own_taken (Some denial) kind.Reject = refl
own_taken (Some denial) (kind.Fill next) = refl
own_taken (Some denial) (kind.Reset next) = refl
own_taken (Some denial) kind.Logout = refl
own_taken (Some denial) (kind.Denied other) = refl
own_taken (Some denial) kind.Other = refl

new_taken : (denial : Option Denial) (k : Kind) → new_in (denied_kind denial k) ≡ new_in k
new_taken None k = refl
new_taken (Some denial) kind.Logon = refl
new_taken (Some denial) (kind.Heartbeat answered) = refl
new_taken (Some denial) (kind.TestRequest id) = refl
new_taken (Some denial) (kind.ResendRequest first last) = refl
new_taken (Some denial) kind.Reject = refl
new_taken (Some denial) (kind.Fill next) = refl
new_taken (Some denial) (kind.Reset next) = refl
new_taken (Some denial) kind.Logout = refl
new_taken (Some denial) (kind.Denied other) = refl
new_taken (Some denial) kind.Other = refl

test_taken : (denial : Option Denial) (k : Kind) → test_in (denied_kind denial k) ≡ test_in k
test_taken None k = refl
test_taken (Some denial) kind.Logon = refl
test_taken (Some denial) (kind.Heartbeat answered) = refl
test_taken (Some denial) (kind.TestRequest id) = refl
test_taken (Some denial) (kind.ResendRequest first last) = refl
test_taken (Some denial) kind.Reject = refl
test_taken (Some denial) (kind.Fill next) = refl
test_taken (Some denial) (kind.Reset next) = refl
test_taken (Some denial) kind.Logout = refl
test_taken (Some denial) (kind.Denied other) = refl
test_taken (Some denial) kind.Other = refl

some_or : (a b : Bool) → b ≡ true → (a || b) ≡ true
some_or true b h = refl
some_or false b h = h

-- what bytes are heard as, by their front
garbled_moves : (names : Names) (bytes : List ℕ) (d : Day) (t : Turn) → MovesTo heard.Garbled d t
    → Moved names bytes d t
garbled_moves names bytes d t (inl still) = inl still
garbled_moves names bytes d t (inr (inl counted)) = absurd (false≢true (ap is_some counted.numbered))
garbled_moves names bytes d t (inr (inr set)) = absurd (false≢true (ap is_some set.set))

long_moves : (names : Names) (bytes : List ℕ) (d : Day) (t : Turn) → front_of bytes ≡ front.TooLong
    → MovesTo (heard.TooLong (number_once (fields_in (read_of_long bytes)))) d t
    → Moved names bytes d t
long_moves names bytes d t is (inl still) = inl still
long_moves names bytes d t is (inr (inr set)) = absurd (false≢true (ap is_some set.set))
long_moves names bytes d t is (inr (inl counted)) =
    inr (inl (record {
      numbered = ap (λ f. number_by f bytes) is ∙ counted.numbered;
      by_one = counted.by_one;
      dealt = elim counted.dealt [
        | inl given ↦ inl given
        | inr rest ↦ (elim rest [
          | inl answered ↦ inr (inl answered)
          | inr other ↦ (elim other [
            | inl own ↦ absurd (false≢true own)
            | inr last ↦ (elim last [
              | inl echo ↦ absurd (false≢true (ap is_some echo.asked))
              | inr off ↦ inr (inr (inr (inr (record {
                unread = ap (λ f. is_too_long f || is_some (foreign_of (version_of bytes))) is;
                ends = off.1;
              }))))
            ])
          ])
        ])
      ];
    }))

message_moves : (names : Names) (bytes : List ℕ) (denial : Option Denial) (d : Day) (t : Turn)
    → number_borne bytes ≡ number_once (fields_in (body_of bytes)) → is_message bytes ≡ true
    → MovesTo (as_taken denial (heard.Message (incoming_of names (version_of bytes) (length bytes) (body_of bytes)))) d t
    → Moved names bytes d t
message_moves names bytes denial d t borne whole (inl still) = inl still
message_moves names bytes denial d t borne whole (inr (inr set)) =
    inr (inr (inl (record {
      set = ap (λ b. if b then new_in (kind_in bytes) else None) whole
          ∙ sym (new_taken denial (kind_in bytes)) ∙ set.set;
      higher = set.higher;
    })))
message_moves names bytes denial d t borne whole (inr (inl counted)) =
    inr (inl (record {
      numbered = borne ∙ counted.numbered;
      by_one = counted.by_one;
      dealt = elim counted.dealt [
        | inl given ↦ inl given
        | inr rest ↦ (elim rest [
          | inl answered ↦ inr (inl answered)
          | inr other ↦ (elim other [
            | inl own ↦ inr (inr (inl (some_or (is_logout bytes) (is_message bytes && is_own (kind_in bytes))
                (ap (λ b. b && is_own (kind_in bytes)) whole ∙ sym (own_taken denial (kind_in bytes)) ∙ own))))
            | inr last ↦ (elim last [
              | inl echo ↦ inr (inr (inr (inl (record {
                id = echo.id;
                asked = ap (λ b. if b then test_in (kind_in bytes) else None) whole
                    ∙ sym (test_taken denial (kind_in bytes)) ∙ echo.asked;
                echoed = echo.echoed;
              }))))
              | inr off ↦ inr (inr (inr (inr (record {
                unread = some_or (is_too_long (front_of bytes)) (is_some (foreign_of (version_of bytes))) off.0;
                ends = off.1;
              }))))
            ])
          ])
        ])
      ];
    }))

by_front : (names : Names) (bytes : List ℕ) (denial : Option Denial) (d : Day) (t : Turn) (f : Front)
    → front_of bytes ≡ f → MovesTo (as_taken denial (heard_by names f bytes)) d t → Moved names bytes d t
by_front names bytes denial d t front.Begun is = garbled_moves names bytes d t
by_front names bytes denial d t front.Garbled is = garbled_moves names bytes d t
by_front names bytes denial d t (front.Wrong len) is = garbled_moves names bytes d t
by_front names bytes denial d t front.TooLong is = long_moves names bytes d t is
by_front names bytes denial d t (front.Whole len) is =
    choice (λ (x : Heard). MovesTo (as_taken denial x) d t → Moved names bytes d t) (len == length bytes) _ _
    (λ h. message_moves names bytes denial d t
    (ap (λ f. number_by f bytes) is
    ∙ ap (λ b. if b then number_once (fields_in (body_of bytes)) else None) h)
    (ap (λ f. is_whole f bytes) is ∙ h))
    (λ h. garbled_moves names bytes d t)

pub by_heard : (names : Names) (bytes : List ℕ) (denial : Option Denial) (d : Day) (t : Turn)
    → MovesTo (as_taken denial (heard_of names bytes)) d t → Moved names bytes d t
unfolding heard_of
by_heard names bytes denial d t moves = by_front names bytes denial d t (front_of bytes) refl moves

-- behind a Logout, the firm's own is counted
pub leaving_as_moves : (s : Session) (connection : ℕ) (said : Heard)
    → IsStill s.day (came_leaving_as s connection said)
    ⊎ ((heard_number said ≡ Some s.day.expected)
    × ((came_leaving_as s connection said).session.day.expected ≡ s.day.expected + 1))
leaving_as_moves s connection heard.Garbled = inl refl
leaving_as_moves s connection (heard.TooLong number) = inl refl
leaving_as_moves s connection (heard.Message m) = by_number m.origin.number refl
  where
    by_number : (number : Option ℕ) → m.origin.number ≡ number
        → ((last_counted s number).day.expected ≡ s.day.expected)
        ⊎ ((m.origin.number ≡ Some s.day.expected)
        × ((last_counted s number).day.expected ≡ s.day.expected + 1))
    by_number None is = inl refl
    by_number (Some number) is =
        choice (λ (x : Session). (x.day.expected ≡ s.day.expected)
        ⊎ ((m.origin.number ≡ Some s.day.expected) × (x.day.expected ≡ s.day.expected + 1)))
        (number == s.day.expected) _ _
        (λ h. inr (is ∙ ap Some (same_number number s.day.expected h), refl))
        (λ h. inl refl)

borne_by : (names : Names) (bytes : List ℕ) (f : Front) → front_of bytes ≡ f
    → heard_number (heard_by names f bytes) ≡ number_by f bytes
borne_by names bytes front.Begun is = refl
borne_by names bytes front.Garbled is = refl
borne_by names bytes (front.Wrong len) is = refl
borne_by names bytes front.TooLong is = refl
borne_by names bytes (front.Whole len) is = by_whole (len == length bytes)
  where
    by_whole : (b : Bool)
        → heard_number (if b then heard.Message (incoming_of names (version_of bytes) (length bytes) (body_of bytes)) else heard.Garbled)
        ≡ (if b then number_once (fields_in (body_of bytes)) else None)
    by_whole true = refl
    by_whole false = refl

pub borne : (names : Names) (bytes : List ℕ) → heard_number (heard_of names bytes) ≡ number_borne bytes
unfolding heard_of
borne names bytes = borne_by names bytes (front_of bytes) refl
