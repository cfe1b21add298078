-- What leaves, after every list of events.
use Rattle.std.proofs.Common.{◌≡◌, ℕ, ◌+◌, ◌<◌, ◌≤◌, Bool, true, false, ◌&&◌, ◌||◌, not, nat_lt, nat_le, List, [], ◌∷◌, ◌++◌, inl, inr, Option, Some, None, refl, sym, ap, subst, ◌∙◌, arith, if◌then◌else◌}
use Rattle.std.proofs.Common.{codes, unwrap_or}
use Rattle.std.proofs.lemmas.Bool.{false≢true}
use Rattle.std.proofs.lemmas.Bool.Decides.{nat_tests}
use Rattle.fix_fields.specs.Frame.{Field, value_of}
use Rattle.fix_sessions.specs.Outcomes.{is_clear, live, free, is_spent}
use Rattle.fix_sessions.specs.Sending.{is_resending, fill_end, before_kept, is_answer, is_reject, fills_gap, again_of, fresh_of, hands_on, hands_by, hands, given_on}
use Rattle.laws_sessions.specs.Days.{Event, turn, after, is_reset, without_resets}
use Rattle.laws_sessions.specs.Days.{Came, Gone, Given, Handed, Tick, Ordered, LoggedOut}
use Rattle.laws_sessions.specs.Kept.{Entry, entered, Within}
use Rattle.laws_sessions.specs.Sent.{news, all_news, front_by, front}
use Rattle.laws_sessions.proofs.Choices.{choice}
use Rattle.fix_sessions.specs.Steps.{given_by, given, resets}
use Rattle.fix_sessions.specs.declared.state.Line.{Line}
use Rattle.fix_sessions.specs.declared.state.Live.{Live}
use Rattle.fix_sessions.specs.declared.state.Phase.{Phase}
use Rattle.fix_sessions.specs.declared.state.Phase.TheVariants as phase
use Rattle.fix_sessions.specs.declared.state.Session.{Session}
use Rattle.fix_sessions.specs.declared.texts.Names.{Names}
use Rattle.fix_sessions.specs.declared.turns.Said.{Said}
use Rattle.fix_sessions.specs.declared.turns.Stored.{Stored}
use Rattle.fix_sessions.specs.declared.turns.Turn.{Turn}
use Rattle.fix_sessions.specs.declared.turns.Word.{Word}
use Rattle.fix_sessions.specs.declared.turns.Word.TheVariants as word
use Rattle.std.proofs.lemmas.List.{append-nil}
use Rattle.fix_sessions.specs.Sending.{wants, wants_by, wants_on, wants_of_its_own}
use Rattle.fix_sessions.specs.Texts.{is_that}
use Rattle.fix_sessions.specs.Written.{kept_fields}
use Rattle.fix_sessions.specs.declared.turns.Want.TheVariants as want
use Rattle.laws_sessions.specs.Kept.{IsAnswered, IsFree, IsHanded, IsKept, IsWanted, all_kept, is_answer_body, is_refusal, kept_after, still_kept, without_rejects}
use Rattle.laws_sessions.specs.Sent.{AreHanded, AreRight, AreTurnsRight, Ascends, IsRight}
use Rattle.laws_sessions.proofs.SentTurns.{event_counts}
use Rattle.laws_sessions.proofs.TurnOutcomes.{IsOwn, OwnSaid, OwnTurn}

-- Lists of entries.

lower : (low mid : ℕ) (es : List Entry) → low ≤ mid → Ascends mid es → Ascends low es
lower low mid [] less up = up
lower low mid (e ∷ es) less up = (let at = up.0 in omega (arith, less, at), up.1)

joined : (low mid : ℕ) (xs ys : List Entry) → Within low mid xs → Ascends mid ys → Ascends low (xs ++ ys)
joined low mid [] ys within up = lower low mid ys within up
joined low mid (x ∷ xs) ys within up = (within.0, joined (x.number + 1) mid xs ys within.1 up)

lowered : (low lower high : ℕ) (es : List Entry) → lower ≤ low → Within low high es → Within lower high es
lowered low lower high [] less within = omega (arith, less, within)
lowered low lower high (e ∷ es) less within = (let at = within.0 in omega (arith, less, at), within.1)

appended : (low mid high : ℕ) (xs ys : List Entry) → Within low mid xs → Within mid high ys
    → Within low high (xs ++ ys)
appended low mid high [] ys front back = lowered mid low high ys front back
appended low mid high (x ∷ xs) ys front back = (front.0, appended (x.number + 1) mid high xs ys front.1 back)

fewer : (low high : ℕ) (es : List Entry) → Within low high es → Within low high (without_rejects es)
fewer low high [] within = within
fewer low high (e ∷ es) within =
    choice (Within low high) (is_refusal e.source) _ _
    (λ h. lowered (e.number + 1) low high (without_rejects es) (let at = within.0 in omega (arith, at))
    (fewer (e.number + 1) high es within.1))
    (λ h. (within.0, fewer (e.number + 1) high es within.1))

-- What leaves for the first time does so in order.

both_parts : (a b : Bool) → (not a && b) ≡ true → (a ≡ false) × (b ≡ true)
both_parts true b h = absurd (false≢true h)
both_parts false b h = (refl, h)

news_ascend : (names : Names) (s : Session) (events : List Event) → without_resets events ≡ true
    → front s ≤ s.day.next → Ascends (front s) (all_news names s events)
news_ascend names s [] none sound = tt
news_ascend names s (e ∷ es) none sound =
    let t = turn names s e in
    let parts = both_parts (is_reset e) (without_resets es) none in
    let counts = event_counts names s e parts.0 in
    joined (front s) (front t.session) (news t) (all_news names t.session es) (counts.new sound)
    (news_ascend names t.session es parts.1 (counts.sound sound))

pub new_in_order : (names : Names) (s : Session) (events : List Event) → s.phase ≡ phase.Away
    → without_resets events ≡ true → Ascends s.day.next (all_news names s events)
new_in_order names s events away none =
    let at : front s ≡ s.day.next = ap (front_by s.day.next) away in
    subst (λ n. Ascends n (all_news names s events)) at
    (news_ascend names s events none (omega (arith, at)))

-- What is kept is kept under numbers that rise.

kept_on : (low high : ℕ) (t : Turn) (kept : List Entry) → Within low high kept
    → Within low high (still_kept t kept)
kept_on low high t kept within =
    choice (Within low high) t.drops_rejects _ _ (λ h. fewer low high kept within) (λ h. within)

pub kept_in_order : (names : Names) (s : Session) (kept : List Entry) (events : List Event)
    → without_resets events ≡ true → Within 0 s.day.next kept
    → Within 0 (after names s events).day.next (all_kept names s kept events)
kept_in_order names s kept [] none within = within
kept_in_order names s kept (e ∷ es) none within =
    let t = turn names s e in
    let parts = both_parts (is_reset e) (without_resets es) none in
    let counts = event_counts names s e parts.0 in
    kept_in_order names t.session (kept_after kept t) es parts.1
    (appended 0 s.day.next t.session.day.next (still_kept t kept) (entered t.first)
    (kept_on 0 s.day.next t kept within) counts.kept)

-- What leaves is kept, or the session's own.

abbrev Right : List Entry → Turn → Type 0
Right kept t = AreRight t.first (kept_after kept t) × AreRight t.second (kept_after kept t)

own_word : (number : ℕ) (w : Word) (kept : List Entry) → IsOwn w → IsRight number w kept
own_word number (word.Logon seconds resets expects) kept own = tt
own_word number word.Heartbeat kept own = tt
own_word number (word.Answer id) kept own = tt
own_word number (word.TestRequest id) kept own = tt
own_word number (word.ResendRequest first) kept own = tt
own_word number (word.Reject name kind fault) kept own = tt
own_word number (word.Fill next) kept own = absurd (false≢true own)
own_word number (word.Logout why) kept own = tt
own_word number (word.Foreign version) kept own = tt
own_word number (word.LogoutFor text) kept own = tt
own_word number (word.Denied name kind denial) kept own = tt
own_word number (word.Kept body is_copy) kept own = absurd (false≢true own)
own_word number (word.Again body is_copy first) kept own = absurd (false≢true own)

own_said : (said : Option Said) (kept : List Entry) → OwnSaid said → AreRight said kept
own_said None kept own = tt
own_said (Some said) kept own = own_word said.number said.word kept own

own_right : (kept : List Entry) (t : Turn) → OwnTurn t → Right kept t
own_right kept t own = (own_said t.first (kept_after kept t) own.0, own_said t.second (kept_after kept t) own.1)

-- what the venue gives is kept in the same turn

kept_last : (kept : List Entry) (e : Entry) → IsKept e.number e.body (kept ++ (e ∷ []))
kept_last [] e = inl (refl, refl)
kept_last (x ∷ xs) e = inr (kept_last xs e)

given_on_right : (a : Live) (now : ℕ) (body : List Field) (kept : List Entry) → Right kept (given_on a now body)
given_on_right a now body kept =
    choice (Right kept) (is_clear a && (a.line.is_settled || not (is_reject body))) _ _
    (λ h. (kept_last kept _, tt)) (λ h. (kept_last kept _, tt))

given_by_right : (s : Session) (now : ℕ) (body : List Field) (kept : List Entry) (p : Phase)
    → Right kept (given_by s now body p)
given_by_right s now body kept phase.Away = (kept_last kept _, tt)
given_by_right s now body kept (phase.On line) = given_on_right (live s line) now body kept
given_by_right s now body kept (phase.Leaving connection since) = (kept_last kept _, tt)

given_right : (s : Session) (now : ℕ) (body : List Field) (kept : List Entry) → Right kept (given s now body)
unfolding given
given_right s now body kept =
    choice (Right kept) (is_spent s) _ _ (λ h. (tt, tt)) (λ h. given_by_right s now body kept s.phase)

-- What is handed in.

kept_more : (number : ℕ) (body : List Field) (kept more : List Entry) → IsKept number body kept
    → IsKept number body (kept ++ more)
kept_more number body [] more is = absurd is
kept_more number body (e ∷ es) more (inl here) = inl here
kept_more number body (e ∷ es) more (inr there) = inr (kept_more number body es more there)

free_to : (from to further : ℕ) (kept : List Entry) → to ≤ further → IsFree from further kept → IsFree from to kept
free_to from to further [] less free = tt
free_to from to further (e ∷ es) less free = (
  elim free.0 [
    | inl before ↦ inl before
    | inr rest ↦ (elim rest [
      | inl behind ↦ inr (inl (omega (arith, less, behind)))
      | inr answer ↦ inr (inr answer)
    ])
  ],
  free_to from to further es less free.1,
)

free_above : (n high : ℕ) (kept : List Entry) → Within (n + 1) high kept → IsFree n (n + 1) kept
free_above n high [] within = tt
free_above n high (e ∷ es) within = (
  inr (inl within.0),
  free_above n high es
      (lowered (e.number + 1) (n + 1) high es (let at = within.0 in omega (arith, at)) within.1),
)

kept_above : (low high n : ℕ) (body : List Field) (kept : List Entry) → Within low high kept
    → IsKept n body kept → low ≤ n
kept_above low high n body [] within is = absurd is
kept_above low high n body (e ∷ es) within (inl here) = (let at = within.0 in let same = here.0 in omega (arith, at, same))
kept_above low high n body (e ∷ es) within (inr there) =
    (let at = within.0 in let up = kept_above (e.number + 1) high n body es within.1 there in omega (arith, at, up))

-- the one that is kept under a number is an answer
free_at : (low high n : ℕ) (body : List Field) (kept : List Entry) → Within low high kept
    → IsKept n body kept → is_answer_body body ≡ true → IsFree n (n + 1) kept
free_at low high n body [] within is answer = tt
free_at low high n body (e ∷ es) within (inl here) answer = (
  inr (inr (ap is_answer_body (sym here.1) ∙ answer)),
  free_above n high es (subst (λ m. Within (m + 1) high es) (sym here.0) within.1),
)
free_at low high n body (e ∷ es) within (inr there) answer = (
  inl (let up = kept_above (e.number + 1) high n body es within.1 there in omega (arith, up)),
  free_at (e.number + 1) high n body es within.1 there answer,
)

is_answer_again : (text : List ℕ) (value : Option (List ℕ)) → is_that text value ≡ true
    → is_that text (Some (unwrap_or value [])) ≡ true
is_answer_again text None h = absurd (false≢true h)
is_answer_again text (Some value) h = h

less_by : (m n : ℕ) → nat_lt m n ≡ true → m < n
less_by m n h = grind (arith, nat_tests)

not_less : (m n : ℕ) → nat_lt m n ≡ false → n ≤ m
not_less m n h = grind (arith, nat_tests)

at_most : (m n : ℕ) → nat_le m n ≡ true → m ≤ n
at_most m n h = grind (arith, nat_tests)

-- a gap fill ends before what is kept next
before_next : (l : Line) (next_kept : ℕ) → l.again < next_kept → before_kept l next_kept ≤ next_kept
before_next l next_kept less =
    choice (λ (n : ℕ). n ≤ next_kept) (nat_le next_kept l.again) _ _ (λ h. omega (arith, less))
    (λ h. choice (λ (n : ℕ). n ≤ next_kept) (nat_lt next_kept l.again_end) _ _ (λ k. omega arith)
    (λ k. not_less next_kept l.again_end k))

fill_next : (l : Line) (next_kept : ℕ) → l.again < next_kept → fill_end l next_kept ≤ next_kept
fill_next l next_kept less =
    choice (λ (n : ℕ). n ≤ next_kept) (not (nat_lt l.again l.split)) _ _ (λ h. omega (arith, less))
    (λ h. choice (λ (n : ℕ). n ≤ next_kept) (nat_lt l.split (before_kept l next_kept)) _ _
    (λ k. (let one = less_by l.split (before_kept l next_kept) k in
    let two = before_next l next_kept less in omega (arith, one, two)))
    (λ k. before_next l next_kept less))

fills_right : (a : Live) (now next_kept : ℕ) (kept : List Entry) → a.line.again < next_kept
    → IsFree a.line.again next_kept kept → Right kept (fills_gap a now next_kept)
fills_right a now next_kept kept less free = (
  subst (IsFree a.line.again (fill_end a.line next_kept)) (sym (append-nil kept))
      (free_to a.line.again (fill_end a.line next_kept) next_kept kept (fill_next a.line next_kept less) free),
  tt,
)

again_of_right : (a : Live) (now next_kept high : ℕ) (stored : Option Stored) (kept : List Entry)
    → Within 0 high kept → IsAnswered a.line.again kept next_kept stored
    → Right kept (again_of a now next_kept stored)
again_of_right a now next_kept high None kept within handed =
    fills_right a now next_kept kept handed.0 handed.1
again_of_right a now next_kept high (Some stored) kept within handed =
    choice (Right kept) (is_answer stored) _ _
    (λ h. fills_right a now (a.line.again + 1) kept (omega arith)
    (free_at 0 high a.line.again (kept_fields (word.Kept stored.body stored.is_copy)) kept within handed
    (is_answer_again (codes "0") (value_of 35 stored.body) h)))
    (λ h. (kept_more a.line.again (kept_fields (word.Kept stored.body stored.is_copy)) kept [] handed, tt))

fresh_of_right : (a : Live) (now next_kept : ℕ) (stored : Option Stored) (kept : List Entry)
    → IsAnswered a.line.fresh kept next_kept stored → Right kept (fresh_of a now stored)
fresh_of_right a now next_kept None kept handed = (tt, tt)
fresh_of_right a now next_kept (Some stored) kept handed =
    choice (Right kept) (is_reject stored.body && not a.line.is_settled) _ _ (λ h. (tt, tt))
    (λ h. (kept_more a.line.fresh (kept_fields (word.Kept stored.body stored.is_copy)) kept [] handed, tt))

by_true : {A : Type 0} (b : Bool) (x y : A) → b ≡ true → (if b then x else y) ≡ x
by_true true x y h = refl
by_true false x y h = absurd (false≢true h)

by_false : {A : Type 0} (b : Bool) (x y : A) → b ≡ false → (if b then x else y) ≡ y
by_false true x y h = absurd (false≢true (sym h))
by_false false x y h = refl

held_parts : (held less : Bool) → (not held && less) ≡ true → (held ≡ false) × (less ≡ true)
held_parts true less h = absurd (false≢true h)
held_parts false less h = (refl, h)

hands_on_right : (a : Live) (now next_kept high : ℕ) (stored : Option Stored) (kept : List Entry)
    → Within 0 high kept → IsWanted (wants_on a) kept next_kept stored
    → Right kept (hands_on a now next_kept stored)
hands_on_right a now next_kept high stored kept within handed =
    choice (Right kept) (is_resending a.line) _ _
    (λ h. again_of_right a now next_kept high stored kept within
    (subst (λ w. IsWanted w kept next_kept stored) (by_true (is_resending a.line) (want.Again a.line.again) _ h) handed))
    (λ h. choice (Right kept) (not a.line.is_held && nat_lt a.line.fresh a.day.next) _ _
    (λ k. let parts = held_parts a.line.is_held (nat_lt a.line.fresh a.day.next) k in
    fresh_of_right a now next_kept stored kept
    (subst (λ w. IsWanted w kept next_kept stored)
    (by_false (is_resending a.line) (want.Again a.line.again) _ h
    ∙ by_false a.line.is_held (wants_of_its_own a.line.is_test_due) _ parts.0
    ∙ by_true (nat_lt a.line.fresh a.day.next) (want.Fresh a.line.fresh) _ parts.1) handed))
    (λ k. (tt, tt)))

hands_by_right : (s : Session) (now next_kept : ℕ) (stored : Option Stored) (kept : List Entry) (p : Phase)
    → Within 0 s.day.next kept → IsWanted (wants_by s p) kept next_kept stored
    → Right kept (hands_by s now next_kept stored p)
hands_by_right s now next_kept stored kept phase.Away within handed = (tt, tt)
hands_by_right s now next_kept stored kept (phase.On line) within handed =
    hands_on_right (live s line) now next_kept s.day.next stored kept within handed
hands_by_right s now next_kept stored kept (phase.Leaving connection since) within handed = (tt, tt)

hands_right : (s : Session) (now next_kept : ℕ) (stored : Option Stored) (kept : List Entry)
    → Within 0 s.day.next kept → IsWanted (wants s) kept next_kept stored
    → Right kept (hands s now next_kept stored)
unfolding hands wants
hands_right s now next_kept stored kept within handed =
    choice (Right kept) (is_spent s) _ _ (λ h. (tt, tt))
    (λ h. hands_by_right s now next_kept stored kept s.phase within handed)

pub event_right : (names : Names) (s : Session) (kept : List Entry) (e : Event) → is_reset e ≡ false
    → Within 0 s.day.next kept → IsHanded kept s e → Right kept (turn names s e)
event_right names s kept (Came connection clock bytes is_known denial) unless within handed =
    own_right kept (turn names s (Came connection clock bytes is_known denial)) ((event_counts names s (Came connection clock bytes is_known denial) unless).own refl)
event_right names s kept (Gone connection) unless within handed =
    own_right kept (turn names s (Gone connection)) ((event_counts names s (Gone connection) unless).own refl)
event_right names s kept (Given moment body) unless within handed = given_right s moment body kept
event_right names s kept (Handed moment next_kept stored) unless within handed =
    hands_right s moment next_kept stored kept within handed
event_right names s kept (Tick moment) unless within handed =
    own_right kept (turn names s (Tick moment)) ((event_counts names s (Tick moment) unless).own refl)
event_right names s kept (Ordered clock o) unless within handed =
    own_right kept (turn names s (Ordered clock o)) ((event_counts names s (Ordered clock o) unless).own refl)
event_right names s kept (LoggedOut moment reason) unless within handed =
    own_right kept (turn names s (LoggedOut moment reason)) ((event_counts names s (LoggedOut moment reason) unless).own refl)

pub turns_right : (names : Names) (s : Session) (kept : List Entry) (events : List Event)
    → without_resets events ≡ true → Within 0 s.day.next kept → AreHanded names s kept events
    → AreTurnsRight names s kept events
turns_right names s kept [] none within handed = tt
turns_right names s kept (e ∷ es) none within handed =
    let t = turn names s e in
    let parts = both_parts (is_reset e) (without_resets es) none in
    let counts = event_counts names s e parts.0 in (
      event_right names s kept e parts.0 within handed.0,
      turns_right names t.session (kept_after kept t) es parts.1
          (appended 0 s.day.next t.session.day.next (still_kept t kept) (entered t.first)
          (kept_on 0 s.day.next t kept within) counts.kept) handed.1,
    )
