-- What is kept of the venue's messages is what the venue gave.
use Rattle.std.proofs.Common.{◌≡◌, ℕ, Bool, true, false, ◌&&◌, ◌||◌, not, nat_lt, List, [], ◌∷◌, ◌++◌, Option, Some, None, refl, sym, ap, ◌∙◌, if◌then◌else◌}
use Rattle.std.proofs.lemmas.Bool.{false≢true}
use Rattle.std.proofs.lemmas.List.{append-nil, append_assoc}
use Rattle.fix_fields.specs.Frame.{Field}
use Rattle.fix_sessions.specs.Outcomes.{is_clear, is_spent, live, quiet}
use Rattle.fix_sessions.specs.Sending.{again_of, fresh_of, given_on, hands, hands_by, hands_on, is_answer, is_reject, is_resending}
use Rattle.fix_sessions.specs.Steps.{given, given_by}
use Rattle.fix_sessions.specs.Written.{kept_fields}
use Rattle.fix_sessions.specs.declared.state.Live.{Live}
use Rattle.fix_sessions.specs.declared.state.Phase.{Phase}
use Rattle.fix_sessions.specs.declared.state.Phase.TheVariants as phase
use Rattle.fix_sessions.specs.declared.state.Session.{Session}
use Rattle.fix_sessions.specs.declared.texts.Names.{Names}
use Rattle.fix_sessions.specs.declared.turns.Said.{Said}
use Rattle.fix_sessions.specs.declared.turns.Stored.{Stored}
use Rattle.fix_sessions.specs.declared.turns.Turn.{Turn}
use Rattle.fix_sessions.specs.declared.turns.Word.{Word}
use Rattle.fix_sessions.specs.declared.turns.Word.TheVariants as word
use Rattle.laws_sessions.proofs.Choices.{choice}
use Rattle.laws_sessions.proofs.SentTurns.{event_counts}
use Rattle.laws_sessions.proofs.TurnOutcomes.{IsOwn, OwnSaid}
use Rattle.laws_sessions.specs.Days.{Event, turn, is_reset, without_resets}
use Rattle.laws_sessions.specs.Days.{Came, Gone, Given, Handed, Tick, Ordered, LoggedOut}
use Rattle.laws_sessions.specs.Given.{given_bodies, given_body, is_venue, of_venue}
use Rattle.laws_sessions.specs.Kept.{Entry, Source, Venue, Refusal, Own, all_kept, entered, entry_of, is_kept, is_refusal, kept_after, source_of, still_kept, without_rejects}

-- Lists.

behind : (b : Bool) (body : List Field) (xs ys : List (List Field))
    → (if b then body ∷ (xs ++ ys) else xs ++ ys) ≡ (if b then body ∷ xs else xs) ++ ys
behind true body xs ys = refl
behind false body xs ys = refl

of_both : (xs ys : List Entry) → of_venue (xs ++ ys) ≡ of_venue xs ++ of_venue ys
of_both [] ys = refl
of_both (x ∷ xs) ys =
    ap (λ bodies. if is_venue x.source then x.body ∷ bodies else bodies) (of_both xs ys)
    ∙ behind (is_venue x.source) x.body (of_venue xs) (of_venue ys)

refusal_not : (source : Source) → is_refusal source ≡ true → is_venue source ≡ false
refusal_not Venue h = absurd (false≢true h)
refusal_not Refusal h = refl
refusal_not Own h = absurd (false≢true h)

-- no message of the venue is dropped
none_dropped : (es : List Entry) → of_venue (without_rejects es) ≡ of_venue es
none_dropped [] = refl
none_dropped (e ∷ es) =
    choice (λ (kept : List Entry). of_venue kept ≡ of_venue (e ∷ es)) (is_refusal e.source) _ _
    (λ h. none_dropped es
    ∙ sym (ap (λ b. if b then e.body ∷ of_venue es else of_venue es) (refusal_not e.source h)))
    (λ h. ap (λ bodies. if is_venue e.source then e.body ∷ bodies else bodies) (none_dropped es))

still_all : (t : Turn) (kept : List Entry) → of_venue (still_kept t kept) ≡ of_venue kept
still_all t kept =
    choice (λ (es : List Entry). of_venue es ≡ of_venue kept) t.drops_rejects _ _
    (λ h. none_dropped kept) (λ h. refl)

-- What a turn keeps.

own_not : (w : Word) → IsOwn w → is_venue (source_of w) ≡ false
own_not (word.Logon seconds resets expects) own = refl
own_not word.Heartbeat own = refl
own_not (word.Answer id) own = refl
own_not (word.TestRequest id) own = refl
own_not (word.ResendRequest first) own = refl
own_not (word.Reject number kind fault) own = refl
own_not (word.Denied number kind denial) own = refl
own_not (word.Fill next) own = refl
own_not (word.Logout why) own = refl
own_not (word.LogoutFor text) own = refl
own_not (word.Foreign version) own = refl
own_not (word.Kept body is_copy) own = absurd (false≢true own)
own_not (word.Again body is_copy first) own = refl

own_none : (said : Option Said) → OwnSaid said → of_venue (entered said) ≡ []
own_none None own = refl
own_none (Some said) own =
    choice (λ (es : List Entry). of_venue es ≡ []) (is_kept said.way) (entry_of said ∷ []) []
    (λ h. ap (λ b. if b then (entry_of said).body ∷ [] else []) (own_not said.word own))
    (λ h. refl)

abbrev Keeps : List (List Field) → Turn → Type 0
Keeps bodies t = of_venue (entered t.first) ≡ bodies

given_on_keeps : (a : Live) (now : ℕ) (body : List Field)
    → Keeps (kept_fields (word.Kept body false) ∷ []) (given_on a now body)
given_on_keeps a now body =
    choice (Keeps (kept_fields (word.Kept body false) ∷ []))
    (is_clear a && (a.line.is_settled || not (is_reject body))) _ _ (λ h. refl) (λ h. refl)

given_by_keeps : (s : Session) (now : ℕ) (body : List Field) (p : Phase)
    → Keeps (kept_fields (word.Kept body false) ∷ []) (given_by s now body p)
given_by_keeps s now body phase.Away = refl
given_by_keeps s now body (phase.On line) = given_on_keeps (live s line) now body
given_by_keeps s now body (phase.Leaving connection since) = refl

given_keeps : (s : Session) (now : ℕ) (body : List Field)
    → Keeps (if is_spent s then [] else kept_fields (word.Kept body false) ∷ []) (given s now body)
unfolding given
given_keeps s now body =
    by_spent (is_spent s)
  where
    by_spent : (b : Bool)
        → Keeps (if b then [] else kept_fields (word.Kept body false) ∷ [])
        (if b then quiet s 0 else given_by s now body s.phase)
    by_spent true = refl
    by_spent false = given_by_keeps s now body s.phase

again_keeps : (a : Live) (now next_kept : ℕ) (stored : Option Stored)
    → Keeps [] (again_of a now next_kept stored)
again_keeps a now next_kept None = refl
again_keeps a now next_kept (Some stored) =
    choice (Keeps []) (is_answer stored) _ _ (λ h. refl) (λ h. refl)

fresh_keeps : (a : Live) (now : ℕ) (stored : Option Stored) → Keeps [] (fresh_of a now stored)
fresh_keeps a now None = refl
fresh_keeps a now (Some stored) =
    choice (Keeps []) (is_reject stored.body && not a.line.is_settled) _ _ (λ h. refl) (λ h. refl)

hands_on_keeps : (a : Live) (now next_kept : ℕ) (stored : Option Stored)
    → Keeps [] (hands_on a now next_kept stored)
hands_on_keeps a now next_kept stored =
    choice (Keeps []) (is_resending a.line) _ _ (λ h. again_keeps a now next_kept stored)
    (λ h. choice (Keeps []) (not a.line.is_held && nat_lt a.line.fresh a.day.next) _ _
    (λ k. fresh_keeps a now stored) (λ k. refl))

hands_by_keeps : (s : Session) (now next_kept : ℕ) (stored : Option Stored) (p : Phase)
    → Keeps [] (hands_by s now next_kept stored p)
hands_by_keeps s now next_kept stored phase.Away = refl
hands_by_keeps s now next_kept stored (phase.On line) = hands_on_keeps (live s line) now next_kept stored
hands_by_keeps s now next_kept stored (phase.Leaving connection since) = refl

hands_keeps : (s : Session) (now next_kept : ℕ) (stored : Option Stored)
    → Keeps [] (hands s now next_kept stored)
unfolding hands
hands_keeps s now next_kept stored =
    choice (Keeps []) (is_spent s) _ _ (λ h. refl) (λ h. hands_by_keeps s now next_kept stored s.phase)

event_keeps : (names : Names) (s : Session) (e : Event) → is_reset e ≡ false
    → Keeps (given_body s e) (turn names s e)
event_keeps names s (Came connection clock bytes is_known denial) unless =
    own_none (turn names s (Came connection clock bytes is_known denial)).first ((event_counts names s (Came connection clock bytes is_known denial) unless).own refl).0
event_keeps names s (Gone connection) unless =
    own_none (turn names s (Gone connection)).first ((event_counts names s (Gone connection) unless).own refl).0
event_keeps names s (Given moment body) unless = given_keeps s moment body
event_keeps names s (Handed moment next_kept stored) unless = hands_keeps s moment next_kept stored
event_keeps names s (Tick moment) unless =
    own_none (turn names s (Tick moment)).first ((event_counts names s (Tick moment) unless).own refl).0
event_keeps names s (Ordered clock o) unless =
    own_none (turn names s (Ordered clock o)).first ((event_counts names s (Ordered clock o) unless).own refl).0
event_keeps names s (LoggedOut moment reason) unless =
    own_none (turn names s (LoggedOut moment reason)).first ((event_counts names s (LoggedOut moment reason) unless).own refl).0

-- After these events.

both_parts : (a b : Bool) → (not a && b) ≡ true → (a ≡ false) × (b ≡ true)
both_parts true b h = absurd (false≢true h)
both_parts false b h = (refl, h)

pub kept_was_given : (names : Names) (s : Session) (kept : List Entry) (events : List Event)
    → without_resets events ≡ true
    → of_venue (all_kept names s kept events) ≡ of_venue kept ++ given_bodies names s events
kept_was_given names s kept [] none = sym (append-nil (of_venue kept))
kept_was_given names s kept (e ∷ es) none =
    let t = turn names s e in
    let parts = both_parts (is_reset e) (without_resets es) none in
    let now : of_venue (kept_after kept t) ≡ of_venue kept ++ given_body s e =
    of_both (still_kept t kept) (entered t.first)
    ∙ ap (λ bodies. bodies ++ of_venue (entered t.first)) (still_all t kept)
    ∙ ap (λ bodies. of_venue kept ++ bodies) (event_keeps names s e parts.0) in
    kept_was_given names t.session (kept_after kept t) es parts.1
    ∙ ap (λ bodies. bodies ++ given_bodies names t.session es) now
    ∙ append_assoc (of_venue kept) (given_body s e) (given_bodies names t.session es)
