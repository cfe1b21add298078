-- The times of what leaves.
use Rattle.std.proofs.Common.{◌≡◌, ℕ, ◌+◌, ◌≤◌, Bool, true, false, nat_lt, List, ◌∷◌, [], ◌++◌, inl, inr, Option, Some, refl, sym, ap, subst, ◌∙◌, arith}
use Rattle.std.proofs.lemmas.Bool.{false≢true}
use Rattle.std.proofs.lemmas.Bool.Decides.{nat_tests}
use Rattle.std.proofs.lemmas.Option.{none-some, same_Some}
use Rattle.fix_fields.specs.Frame.{Field, value_of}
use Rattle.fix_fields.specs.UtcTimestamp.{timestamp_text}
use Rattle.fix_sessions.specs.Sending.{wants}
use Rattle.fix_sessions.specs.Steps.{given}
use Rattle.fix_sessions.specs.Written.{body_of, head, said_fields, times, type_of}
use Rattle.fix_sessions.specs.declared.state.Session.{Session}
use Rattle.fix_sessions.specs.declared.texts.Names.{Names}
use Rattle.fix_sessions.specs.declared.turns.Said.{Said}
use Rattle.fix_sessions.specs.declared.turns.Stored.{Stored}
use Rattle.fix_sessions.specs.declared.turns.Want.TheVariants as want
use Rattle.fix_sessions.specs.declared.turns.Way.TheVariants as way
use Rattle.fix_sessions.specs.declared.turns.Word.{Word}
use Rattle.fix_sessions.specs.declared.turns.Word.TheVariants as word
use Rattle.laws_sessions.proofs.Acts.{all_stand}
use Rattle.laws_sessions.proofs.Answering.{answers_stand, later_stands}
use Rattle.laws_sessions.proofs.Choices.{choice}
use Rattle.laws_sessions.proofs.HandedBack.{Fills, Handing, IsAlone, Repeats, Sends, Silent, Skips, found_one, hands_say}
use Rattle.laws_sessions.proofs.Leaving.{leaves_ever}
use Rattle.laws_sessions.proofs.Numbered.{one_kept}
use Rattle.laws_sessions.proofs.SaidWords.{IsSaid, IsWord, event_says, is_handing}
use Rattle.laws_sessions.proofs.Starting.{Stands}
use Rattle.laws_sessions.specs.Handed.{IsAsKept, IsHanded, IsWanted}
use Rattle.laws_sessions.specs.Leaves.{AllKeepAnswers, AreWithoutResets, MayAnswer, MayLeave}
use Rattle.laws_sessions.specs.Left.{IsKept}
use Rattle.laws_sessions.specs.Memory.{Came, Closed, Event, Gone, Handed, LoggedOut, Memory, Opened, Resumed, Suspended, Tick, Told, memory_after, numbered, turn}
use Rattle.laws_sessions.specs.Starts.{Act, AreSoundActs, World, first_world, world_after_all}
use Rattle.laws_sessions.specs.Times.{HasTime, is_again, later_of}
use Rattle.session_recovery.specs.Recovered.{Kept, Message, Sealed, kept_reject}

-- SendingTime (52) is the moment of the turn.

word_at : (names : Names) (date : List ℕ) (moment number : ℕ) (w : Word)
    → value_of 52 (head names (type_of w) number ++ times date moment w ++ body_of w) ≡ Some (timestamp_text date moment)
word_at names date moment number (word.Logon seconds resets expects) = refl
word_at names date moment number word.Heartbeat = refl
word_at names date moment number (word.Answer id) = refl
word_at names date moment number (word.TestRequest id) = refl
word_at names date moment number (word.ResendRequest first) = refl
word_at names date moment number (word.Reject of_number of_kind fault) = refl
word_at names date moment number (word.Fill next) = refl
word_at names date moment number (word.Logout why) = refl
word_at names date moment number (word.Foreign version) = refl
word_at names date moment number (word.LogoutFor text) = refl
word_at names date moment number (word.Denied of_number of_kind denial) = refl
word_at names date moment number (word.Kept body is_copy) = refl
word_at names date moment number (word.Again body is_copy first) = refl

pub sent_at : (names : Names) (date : List ℕ) (moment : ℕ) (said : Said)
    → value_of 52 (said_fields names date moment said) ≡ Some (timestamp_text date moment)
sent_at names date moment said = word_at names date moment said.number said.word

-- OrigSendingTime (122) is the moment with which the message is kept.

again_at : (names : Names) (date : List ℕ) (moment number : ℕ) (body : List Field) (is_copy : Bool) (first : ℕ)
    → value_of 122 (said_fields names date moment (record { number = number; way = way.Leaves; word = word.Again body is_copy first }))
    ≡ Some (timestamp_text date first)
again_at names date moment number body is_copy first = refl

-- what was handed back under the number of a message that is kept is this message
found_as : (midnight n next_kept : ℕ) (s : Session) (stored : Option Stored) (one : Stored) (ks : List Kept) (x : Kept) → IsKept x ks
    → IsAlone x ks → x.number ≡ n → IsWanted midnight (want.Again n) ks next_kept stored → stored ≡ Some one → IsAsKept midnight n one x
found_as midnight n next_kept s stored one ks x h alone number found at =
    found_one midnight n ks one x h alone number (subst (λ p. IsWanted midnight (want.Again n) ks next_kept p) at found)

hands_time : (names : Names) (date : List ℕ) (moment midnight next_kept : ℕ) (s : Session) (stored : Option Stored) (o : Option Said) (said : Said)
    (ks : List Kept) (x : Kept) → IsKept x ks → IsAlone x ks → IsWanted midnight (wants s) ks next_kept stored
    → Handing s next_kept stored o → o ≡ Some said → is_again said.word ≡ true → said.number ≡ x.number
    → HasTime 122 midnight x.moment date (said_fields names date moment said)
hands_time names date moment midnight next_kept s stored o said ks x h alone found (Silent e) g again number =
    absurd (none-some said (sym e ∙ g))
hands_time names date moment midnight next_kept s stored o said ks x h alone found (Fills n to asks at up e) g again number =
    absurd (false≢true (ap (λ (q : Said). is_again q.word) (same_Some _ said (sym e ∙ g)) ∙ again))
hands_time names date moment midnight next_kept s stored o said ks x h alone found (Skips n to one asks at is up e) g again number =
    absurd (false≢true (ap (λ (q : Said). is_again q.word) (same_Some _ said (sym e ∙ g)) ∙ again))
hands_time names date moment midnight next_kept s stored o said ks x h alone found (Repeats n one asks at is e) g again number =
    let one_said : Said = record { number = n; way = way.Leaves; word = word.Again one.body one.is_copy one.first } in
    let same = same_Some one_said said (sym e ∙ g) in
    let kept = found_as midnight n next_kept s stored one ks x h alone (sym number ∙ sym (ap (λ (q : Said). q.number) same))
    (subst (λ w. IsWanted midnight w ks next_kept stored) asks found) at in
    record {
      time = one.first;
      of_day = kept.moment;
      text = subst (λ q. value_of 122 (said_fields names date moment q) ≡ Some (timestamp_text date one.first)) same
          (again_at names date moment n one.body one.is_copy one.first);
    }
hands_time names date moment midnight next_kept s stored o said ks x h alone found (Sends n one asks at e) g again number =
    absurd (false≢true (ap (λ (q : Said). is_again q.word) (same_Some _ said (sym e ∙ g)) ∙ again))

-- nothing else is sent again
word_again : (low high : ℕ) (w : Word) → IsWord low high w → is_again w ≡ true → ⊥
word_again low high (word.Logon seconds resets expects) k h = false≢true h
word_again low high word.Heartbeat k h = false≢true h
word_again low high (word.Answer id) k h = false≢true h
word_again low high (word.TestRequest id) k h = false≢true h
word_again low high (word.ResendRequest first) k h = false≢true h
word_again low high (word.Reject number of_kind fault) k h = false≢true h
word_again low high (word.Fill next) k h = k
word_again low high (word.Logout why) k h = false≢true h
word_again low high (word.Foreign version) k h = false≢true h
word_again low high (word.LogoutFor text) k h = false≢true h
word_again low high (word.Denied number of_kind denial) k h = false≢true h
word_again low high (word.Kept body is_copy) k h = k
word_again low high (word.Again body is_copy first) k h = k

plain_again : (names : Names) (s : Session) (e : Event) (said : Said) → is_handing e ≡ false → (turn names s e).first ≡ Some said
    → is_again said.word ≡ true → ⊥
plain_again names s e said other g again =
    let high = (turn names s e).session.day.expected in
    word_again s.day.expected high said.word (subst (λ o. IsSaid s.day.expected high o) g (event_says names s e other).first) again

time_here : (names : Names) (w : World) (x : Kept) (midnight : ℕ) (e : Event) (date : List ℕ) (moment : ℕ) (said : Said) → Stands w
    → IsKept x w.memory.kept → IsHanded midnight w.memory.kept w.memory.session e → (turn names w.memory.session e).first ≡ Some said
    → is_again said.word ≡ true → said.number ≡ x.number → HasTime 122 midnight x.moment date (said_fields names date moment said)
time_here names w x midnight (Came connection clock bytes is_known denial) date moment said s h handed g again number =
    absurd (plain_again names w.memory.session (Came connection clock bytes is_known denial) said refl g again)
time_here names w x midnight (Gone connection) date moment said s h handed g again number =
    absurd (plain_again names w.memory.session (Gone connection) said refl g again)
time_here names w x midnight (Handed now next_kept stored) date moment said s h handed g again number =
    let m = w.memory in
    hands_time names date moment midnight next_kept m.session stored (turn names m.session (Handed now next_kept stored)).first said
    m.kept x h (λ k found e. one_kept w s.recovered x k h found e) handed (hands_say m.session now next_kept stored).first g again number
time_here names w x midnight (Tick now) date moment said s h handed g again number =
    absurd (plain_again names w.memory.session (Tick now) said refl g again)
time_here names w x midnight (Opened clock) date moment said s h handed g again number =
    absurd (plain_again names w.memory.session (Opened clock) said refl g again)
time_here names w x midnight (Closed clock) date moment said s h handed g again number =
    absurd (plain_again names w.memory.session (Closed clock) said refl g again)
time_here names w x midnight (Suspended clock) date moment said s h handed g again number =
    absurd (plain_again names w.memory.session (Suspended clock) said refl g again)
time_here names w x midnight (Resumed clock) date moment said s h handed g again number =
    absurd (plain_again names w.memory.session (Resumed clock) said refl g again)
time_here names w x midnight (LoggedOut now reason) date moment said s h handed g again number =
    absurd (plain_again names w.memory.session (LoggedOut now reason) said refl g again)

pub message_time : (names : Names) (acts more : List Act) (w later : World) (x : Kept) (midnight : ℕ) (e : Event) (date : List ℕ) (moment : ℕ)
    (said : Said) → AreSoundActs names (Some first_world) acts → world_after_all names (Some first_world) acts ≡ Some w → MayLeave w x
    → AreSoundActs names (Some w) more → AreWithoutResets more → world_after_all names (Some w) more ≡ Some later
    → IsHanded midnight later.memory.kept later.memory.session e → (turn names later.memory.session e).first ≡ Some said
    → is_again said.word ≡ true → said.number ≡ x.number → HasTime 122 midnight x.moment date (said_fields names date moment said)
message_time names acts more w later x midnight e date moment said sound h l behind still f handed g again number =
    time_here names later x midnight e date moment said (later_stands names acts more w later sound h behind f)
    (leaves_ever names acts more w later x sound h l behind still f).kept handed g again number

pub reject_time : (names : Names) (acts more : List Act) (w later : World) (s : Sealed) (midnight : ℕ) (e : Event) (date : List ℕ) (moment : ℕ)
    (said : Said) → AreSoundActs names (Some first_world) acts → world_after_all names (Some first_world) acts ≡ Some w → MayAnswer w s
    → AreSoundActs names (Some w) more → AllKeepAnswers names (Some w) more → world_after_all names (Some w) more ≡ Some later
    → IsHanded midnight later.memory.kept later.memory.session e → (turn names later.memory.session e).first ≡ Some said
    → is_again said.word ≡ true → said.number ≡ s.note.number
    → HasTime 122 midnight s.note.moment date (said_fields names date moment said)
reject_time names acts more w later s midnight e date moment said sound h m behind keeping f handed g again number =
    time_here names later (kept_reject s) midnight e date moment said (later_stands names acts more w later sound h behind f)
    (answers_stand names acts more w later s sound h m behind keeping f) handed g again number

-- The first time: at the later of two moments.

not_less : (m n : ℕ) → nat_lt m n ≡ false → n ≤ m
not_less m n h = grind (arith, nat_tests)

later_up : (clock moment : ℕ) → moment ≤ later_of clock moment
later_up clock moment =
    choice (λ (n : ℕ). moment ≤ n) (nat_lt clock moment) _ _ (λ h. omega arith) (λ h. not_less clock moment h)

-- what is said of what is handed back, under the number of a message that is kept
said_as : (midnight next_kept : ℕ) (s : Session) (one : Stored) (o : Option Said) (said : Said) (ks : List Kept) (x : Kept) → IsKept x ks
    → IsAlone x ks → IsWanted midnight (wants s) ks next_kept (Some one) → Handing s next_kept (Some one) o → o ≡ Some said
    → said.number ≡ x.number → IsAsKept midnight x.number one x
said_as midnight next_kept s one o said ks x h alone found (Silent e) g number = absurd (none-some said (sym e ∙ g))
said_as midnight next_kept s one o said ks x h alone found (Fills n to asks at up e) g number = absurd (none-some one (sym at))
said_as midnight next_kept s one o said ks x h alone found (Skips n to other asks at is up e) g number =
    let under = sym number ∙ sym (ap (λ (q : Said). q.number) (same_Some (record { number = n; way = way.Leaves; word = word.Fill to }) said (sym e ∙ g))) in
    subst (λ k. IsAsKept midnight k one x) (sym under)
    (found_one midnight n ks one x h alone under (subst (λ w. IsWanted midnight w ks next_kept (Some one)) asks found))
said_as midnight next_kept s one o said ks x h alone found (Repeats n other asks at is e) g number =
    let under = sym number ∙ sym (ap (λ (q : Said). q.number)
    (same_Some (record { number = n; way = way.Leaves; word = word.Again other.body other.is_copy other.first }) said (sym e ∙ g))) in
    subst (λ k. IsAsKept midnight k one x) (sym under)
    (found_one midnight n ks one x h alone under (subst (λ w. IsWanted midnight w ks next_kept (Some one)) asks found))
said_as midnight next_kept s one o said ks x h alone found (Sends n other asks at e) g number =
    let under = sym number ∙ sym (ap (λ (q : Said). q.number)
    (same_Some (record { number = n; way = way.Leaves; word = word.Kept other.body other.is_copy }) said (sym e ∙ g))) in
    subst (λ k. IsAsKept midnight k one x) (sym under)
    (found_one midnight n ks one x h alone under (subst (λ w. IsWanted midnight w ks next_kept (Some one)) asks found))

pub first_time : (names : Names) (acts : List Act) (w : World) (x : Kept) (midnight clock next_kept : ℕ) (one : Stored) (said : Said)
    → AreSoundActs names (Some first_world) acts → world_after_all names (Some first_world) acts ≡ Some w
    → IsKept x w.memory.kept
    → IsHanded midnight w.memory.kept w.memory.session (Handed (later_of clock one.first) next_kept (Some one))
    → (turn names w.memory.session (Handed (later_of clock one.first) next_kept (Some one))).first ≡ Some said
    → said.number ≡ x.number → x.moment ≤ midnight + later_of clock one.first
first_time names acts w x midnight clock next_kept one said sound h kept handed g number =
    let s = all_stand names acts w sound h in
    let m = w.memory in
    let now = later_of clock one.first in
    let same = said_as midnight next_kept m.session one (turn names m.session (Handed now next_kept (Some one))).first said m.kept x kept
    (λ k found e. one_kept w s.recovered x k kept found e) handed (hands_say m.session now next_kept (Some one)).first g number in
    let up = later_up clock one.first in
    let at = same.moment in
    omega (arith, up, at)

kept_behind : (x : Kept) (a b : List Kept) → IsKept x b → IsKept x (a ++ b)
kept_behind x [] b h = h
kept_behind x (k ∷ a) b h = inr (kept_behind x a b h)

-- a message that the session is told of
pub told_time : (names : Names) (m : Memory) (message : Message) (midnight clock time : ℕ) (said : Said) → midnight + time ≡ message.moment
    → (given m.session (later_of clock time) message.body).first ≡ Some said
    → (k : Kept) × IsKept k (memory_after names m (Told (later_of clock time) message)).kept × (k.number ≡ said.number)
    × (k.moment ≤ midnight + later_of clock time)
told_time names m message midnight clock time said at g =
    let now = later_of clock time in
    let up = later_up clock time in
    let k : Kept = record {
      number = said.number;
      ordinal = m.given + 1;
      body = message.body;
      moment = message.moment;
      is_copy = false;
    } in (
      k,
      subst (λ o. IsKept k (m.kept ++ numbered m message o)) (sym g) (kept_behind k m.kept (k ∷ []) (inl refl)),
      refl,
      omega (arith, up, at),
    )
