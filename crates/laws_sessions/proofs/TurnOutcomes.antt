-- What an outcome of a turn does: whose the session stays, which numbers it uses, and what leaves.
use Rattle.std.proofs.Common.{◌≡◌, ℕ, ◌+◌, ◌≤◌, Bool, true, false, ◌==◌, ◌&&◌, not, [], ◌∷◌, ◌++◌, Option, Some, None, refl, sym, subst, arith, if◌then◌else◌}
use Rattle.std.proofs.lemmas.Bool.{false≢true}
use Rattle.fix_sessions.specs.Outcomes.{stays, disconnects, says, answers, rejects_now, rejects, parts, leaves, logs_out, reject_and_logout, rejects_and_logs_out, reject_of, denies, denies_now, denial_of, counted, counted_if, is_clear, may_log_out}
use Rattle.laws_sessions.specs.Kept.{Entry, entered, Within}
use Rattle.laws_sessions.specs.Sent.{is_kept_word, is_own_word, news, front}
use Rattle.laws_sessions.proofs.Choices.{choice}
use Rattle.fix_sessions.specs.Steps.{resets}
use Rattle.fix_sessions.specs.declared.state.Live.{Live}
use Rattle.fix_sessions.specs.declared.state.Phase.{Phase}
use Rattle.fix_sessions.specs.declared.state.Phase.TheVariants as phase
use Rattle.fix_sessions.specs.declared.messages.Origin.{Origin}
use Rattle.fix_sessions.specs.declared.turns.Denial.{Denial}
use Rattle.fix_sessions.specs.declared.turns.Fault.{Fault}
use Rattle.fix_sessions.specs.declared.turns.Said.{Said}
use Rattle.fix_sessions.specs.declared.turns.Turn.{Turn}
use Rattle.fix_sessions.specs.declared.turns.Why.{Why}
use Rattle.fix_sessions.specs.declared.turns.Word.{Word}
use Rattle.fix_sessions.specs.declared.turns.Word.TheVariants as word

-- whose a session may be: this connection's, or no one's
abbrev pub IsOf : ℕ → Phase → Type 0
IsOf connection phase.Away = Unit {0}
IsOf connection (phase.On line) = line.connection ≡ connection
IsOf connection (phase.Leaving last since) = last ≡ connection

-- a word of the session's own
abbrev pub IsOwn : Word → Type 0
IsOwn w = is_own_word w ≡ true

abbrev pub OwnSaid : Option Said → Type 0
OwnSaid None = Unit {0}
OwnSaid (Some said) = IsOwn said.word

abbrev pub OwnTurn : Turn → Type 0
OwnTurn t = OwnSaid t.first × OwnSaid t.second

-- A turn of this connection, where the next number and the first one that has not left are these.
pub record Does (is_own : Bool) (connection next fresh : ℕ) (t : Turn) : Type 0 where
  pub on : t.connection ≡ connection
  pub whose : IsOf connection t.session.phase
  pub most : t.session.day.next ≤ next + 2
  pub kept : Within next t.session.day.next (entered t.first)
  pub new : fresh ≤ next → Within fresh (front t.session) (news t)
  pub sound : fresh ≤ next → front t.session ≤ t.session.day.next
  pub own : is_own ≡ true → OwnTurn t

-- one that says nothing but what is the session's own
abbrev pub DoesOf : Live → Turn → Type 0
DoesOf a t = Does true a.line.connection a.day.next a.line.fresh t

-- or any
abbrev pub AnyOf : Live → Turn → Type 0
AnyOf a t = Does false a.line.connection a.day.next a.line.fresh t

pub any_does : (a : Live) (t : Turn) → DoesOf a t → AnyOf a t
any_does a t does = record {
  on = does.on;
  whose = does.whose;
  most = does.most;
  kept = does.kept;
  new = does.new;
  sound = does.sound;
  own = λ o. absurd (false≢true o);
}

-- a word of the session's own was not kept before
pub not_new : (w : Word) → IsOwn w → is_kept_word w ≡ false
not_new (word.Logon seconds resets expects) own = refl
not_new word.Heartbeat own = refl
not_new (word.Answer id) own = refl
not_new (word.TestRequest id) own = refl
not_new (word.ResendRequest first) own = refl
not_new (word.Reject number kind fault) own = refl
not_new (word.Fill next) own = refl
not_new (word.Logout why) own = refl
not_new (word.Foreign version) own = refl
not_new (word.LogoutFor text) own = refl
not_new (word.Denied number kind denial) own = refl
not_new (word.Kept body is_copy) own = absurd (false≢true own)
not_new (word.Again body is_copy first) own = refl

pub no_news : (number : ℕ) (w : Word) (low high : ℕ) → is_kept_word w ≡ false → low ≤ high
    → (e : Entry) → Within low high ((if is_kept_word w then e ∷ [] else []) ++ [])
no_news number w low high own less e =
    subst (λ b. Within low high ((if b then e ∷ [] else []) ++ [])) (sym own) less

-- Outcomes.

pub stays_does : (a : Live) → DoesOf a (stays a)
stays_does a = record {
  on = refl;
  whose = refl;
  most = omega arith;
  kept = omega arith;
  new = λ h. omega arith;
  sound = λ h. h;
  own = λ o. (tt, tt);
}

pub disconnects_does : (a : Live) → DoesOf a (disconnects a)
disconnects_does a = record {
  on = refl;
  whose = tt;
  most = omega arith;
  kept = omega arith;
  new = λ h. h;
  sound = λ h. omega arith;
  own = λ o. (tt, tt);
}

pub says_does : (a : Live) (now : ℕ) (w : Word) → IsOwn w → DoesOf a (says a now w)
says_does a now w own = record {
  on = refl;
  whose = refl;
  most = omega arith;
  kept = omega arith;
  new = λ h. no_news a.day.next w a.line.fresh (a.day.next + 1) (not_new w own) (omega (arith, h)) _;
  sound = λ h. omega arith;
  own = λ o. (own, tt);
}

pub answers_does : (a : Live) (now : ℕ) (w : Word) → IsOwn w → DoesOf a (answers a now w)
answers_does a now w own =
    choice (DoesOf a) (is_clear a) _ _ (λ h. says_does a now w own)
    (λ h. record {
      on = refl;
      whose = refl;
      most = omega arith;
      kept = (omega arith, omega arith);
      new = λ h. omega arith;
      sound = λ h. omega (arith, h);
      own = λ o. (own, tt);
    })

pub rejects_now_does : (a : Live) (now : ℕ) (w : Word) → IsOwn w → DoesOf a (rejects_now a now w)
rejects_now_does a now w own =
    choice (DoesOf a) (is_clear a && a.line.is_settled) _ _
    (λ h. record {
      on = refl;
      whose = refl;
      most = omega arith;
      kept = (omega arith, omega arith);
      new = λ h. (omega (arith, h), omega arith);
      sound = λ h. omega arith;
      own = λ o. (own, tt);
    })
    (λ h. record {
      on = refl;
      whose = refl;
      most = omega arith;
      kept = (omega arith, omega arith);
      new = λ h. omega arith;
      sound = λ h. omega (arith, h);
      own = λ o. (own, tt);
    })

denies_now_does : (a : Live) (now : ℕ) (w : Word) → IsOwn w → DoesOf a (denies_now a now w)
denies_now_does a now w own =
    choice (DoesOf a) (is_clear a) _ _
    (λ h. record {
      on = refl;
      whose = refl;
      most = omega arith;
      kept = (omega arith, omega arith);
      new = λ h. (omega (arith, h), omega arith);
      sound = λ h. omega arith;
      own = λ o. (own, tt);
    })
    (λ h. record {
      on = refl;
      whose = refl;
      most = omega arith;
      kept = (omega arith, omega arith);
      new = λ h. omega arith;
      sound = λ h. omega (arith, h);
      own = λ o. (own, tt);
    })

pub denies_does : (a : Live) (now : ℕ) (m : Origin) (denial : Denial) → DoesOf a (denies a now m denial)
denies_does a now m denial = denies_now_does (counted a now) now (denial_of m denial) refl

pub parts_does : (a : Live) (now : ℕ) (w : Word) → IsOwn w → DoesOf a (parts a now w)
parts_does a now w own =
    choice (DoesOf a) (may_log_out a) _ _
    (λ h. record {
      on = refl;
      whose = refl;
      most = omega arith;
      kept = omega arith;
      new = λ h. no_news a.day.next w a.line.fresh (a.day.next + 1) (not_new w own) (omega (arith, h)) _;
      sound = λ h. omega arith;
      own = λ o. (own, tt);
    })
    (λ h. disconnects_does a)

pub leaves_does : (a : Live) (y : Why) → DoesOf a (leaves a y)
leaves_does a y =
    choice (DoesOf a) (may_log_out a) _ _
    (λ h. record {
      on = refl;
      whose = tt;
      most = omega arith;
      kept = omega arith;
      new = λ h. omega (arith, h);
      sound = λ h. omega arith;
      own = λ o. (refl, tt);
    })
    (λ h. disconnects_does a)

pub both_does : (a : Live) (now : ℕ) (w : Word) (y : Why) → IsOwn w
    → DoesOf a (reject_and_logout a now w y)
both_does a now w y own =
    choice (DoesOf a) (not a.line.is_settled) _ _ (λ h. rejects_now_does a now w own)
    (λ h. choice (DoesOf a) (is_clear a) _ _
    (λ h. record {
      on = refl;
      whose = refl;
      most = omega arith;
      kept = (omega arith, omega arith);
      new = λ h. (omega (arith, h), omega arith);
      sound = λ h. omega arith;
      own = λ o. (own, refl);
    })
    (λ h. record {
      on = refl;
      whose = tt;
      most = omega arith;
      kept = (omega arith, omega arith);
      new = λ h. omega (arith, h);
      sound = λ h. omega arith;
      own = λ o. (own, tt);
    }))

-- what is counted changes none of these numbers
pub from_counted : (a : Live) (now : ℕ) (number : Option ℕ) (t : Turn)
    → DoesOf (counted_if a now number) t → DoesOf a t
from_counted a now None t = λ d. d
from_counted a now (Some number) t =
    choice (λ (b : Live). DoesOf b t → DoesOf a t) (number == a.day.expected) _ _ (λ h d. d) (λ h d. d)

pub rejects_does : (a : Live) (now : ℕ) (m : Origin) (fault : Fault) → DoesOf a (rejects a now m fault)
rejects_does a now m fault =
    from_counted a now m.number _ (rejects_now_does (counted_if a now m.number) now (reject_of m fault) refl)

pub logs_out_does : (a : Live) (now : ℕ) (number : Option ℕ) (w : Word) → IsOwn w
    → DoesOf a (logs_out a now number w)
logs_out_does a now number w own =
    from_counted a now number _ (parts_does (counted_if a now number) now w own)

pub both_counted_does : (a : Live) (now : ℕ) (m : Origin) (fault : Fault) (y : Why)
    → DoesOf a (rejects_and_logs_out a now m fault y)
both_counted_does a now m fault y =
    from_counted a now m.number _
    (both_does (counted_if a now m.number) now (reject_of m fault) y refl)
