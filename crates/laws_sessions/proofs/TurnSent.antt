-- What the other events of a firm that is logged on do: the venue gives a message, what is kept is
-- handed in, time passes.
use Rattle.std.proofs.Common.{◌≡◌, ℕ, ◌+◌, ◌-◌, ◌<◌, ◌≤◌, Bool, true, false, ◌&&◌, ◌||◌, not, nat_lt, nat_le, List, Option, Some, None, refl, arith}
use Rattle.std.proofs.lemmas.Bool.{false≢true}
use Rattle.std.proofs.lemmas.Bool.Decides.{nat_tests}
use Rattle.fix_fields.specs.Frame.{Field}
use Rattle.fix_sessions.specs.Outcomes.{stays, is_clear}
use Rattle.fix_sessions.specs.Sending.{is_resending, requests, fill_end, before_kept, is_answer, is_reject, fills_gap, again_of, again_to, fresh_of, hands_on, given_on}
use Rattle.laws_sessions.specs.Sent.{is_kept_word}
use Rattle.laws_sessions.proofs.Choices.{choice}
use Rattle.fix_sessions.specs.Steps.{tests_firm, requests_missing, due, made_due, still_settling, is_over, is_dead, tick_on}
use Rattle.fix_sessions.specs.declared.state.Line.{Line}
use Rattle.fix_sessions.specs.declared.state.Live.{Live}
use Rattle.fix_sessions.specs.declared.turns.Stored.{Stored}
use Rattle.fix_sessions.specs.declared.turns.Way.TheVariants as way
use Rattle.fix_sessions.specs.declared.turns.Why.TheVariants as why
use Rattle.fix_sessions.specs.declared.turns.Word.{Word}
use Rattle.fix_sessions.specs.declared.turns.Word.TheVariants as word
use Rattle.laws_sessions.proofs.TurnOutcomes.{AnyOf, DoesOf, any_does, disconnects_does, leaves_does, no_news, says_does, stays_does}

-- The venue gives a message.

-- nothing waits: the first number that has not left is the next
pub clear_is : (a : Live) (b : Bool) → (is_clear a && b) ≡ true → a.line.fresh ≡ a.day.next
clear_is a b h = grind (arith, nat_tests)

pub given_on_does : (a : Live) (now : ℕ) (body : List Field) → AnyOf a (given_on a now body)
given_on_does a now body =
    choice (AnyOf a) (is_clear a && (a.line.is_settled || not (is_reject body))) _ _
    (λ h. let clear = clear_is a (a.line.is_settled || not (is_reject body)) h in
    record {
      on = refl;
      whose = refl;
      most = omega arith;
      kept = (omega arith, omega arith);
      new = λ h. (omega (arith, h), omega (arith, clear));
      sound = λ h. omega (arith, h);
      own = λ o. absurd (false≢true o);
    })
    (λ h. record {
      on = refl;
      whose = refl;
      most = omega arith;
      kept = (omega arith, omega arith);
      new = λ h. omega arith;
      sound = λ h. omega (arith, h);
      own = λ o. absurd (false≢true o);
    })

-- What is kept is handed in.

-- all below a number was sent again
again_does : (a : Live) (now to : ℕ) (w : Word) → is_kept_word w ≡ false → to ≤ a.day.next
    → AnyOf a (record (stays (record a { line = again_to a.line now to })) {
      first = Some (record { number = a.line.again; way = way.Leaves; word = w });
    })
again_does a now to w own less = record {
  on = refl;
  whose = refl;
  most = omega arith;
  kept = omega arith;
  new = λ h. no_news a.line.again w a.line.fresh (again_to a.line now to).fresh own
      (choice (λ (n : ℕ). a.line.fresh ≤ n) (nat_lt a.line.fresh to) to a.line.fresh
      (λ k. less_is a.line.fresh to k) (λ k. omega arith)) _;
  sound = λ h. choice (λ (n : ℕ). n ≤ a.day.next) (nat_lt a.line.fresh to) to a.line.fresh
      (λ k. less) (λ k. h);
  own = λ o. absurd (false≢true o);
}
  where
    less_is : (m n : ℕ) → nat_lt m n ≡ true → m ≤ n
    less_is m n h = grind (arith, nat_tests)

less_by : (m n : ℕ) → nat_lt m n ≡ true → m < n
less_by m n h = grind (arith, nat_tests)

-- a gap fill ends with what is asked for, at the latest
pub before_most : (l : Line) (next_kept : ℕ) → l.again < l.again_end
    → before_kept l next_kept ≤ l.again_end
before_most l next_kept asks =
    choice (λ (n : ℕ). n ≤ l.again_end) (nat_le next_kept l.again) _ _ (λ h. omega (arith, asks))
    (λ h. choice (λ (n : ℕ). n ≤ l.again_end) (nat_lt next_kept l.again_end) _ _
    (λ k. (let less = less_by next_kept l.again_end k in omega (arith, less))) (λ k. omega arith))

pub fill_most : (l : Line) (next_kept : ℕ) → l.again < l.again_end
    → fill_end l next_kept ≤ l.again_end
fill_most l next_kept asks =
    choice (λ (n : ℕ). n ≤ l.again_end) (not (nat_lt l.again l.split)) _ _ (λ h. omega (arith, asks))
    (λ h. choice (λ (n : ℕ). n ≤ l.again_end) (nat_lt l.split (before_kept l next_kept)) _ _
    (λ k. (let less = less_by l.split (before_kept l next_kept) k in
    let most = before_most l next_kept asks in omega (arith, less, most)))
    (λ k. before_most l next_kept asks))

fills_does : (a : Live) (now next_kept : ℕ) → a.line.again < a.line.again_end
    → a.line.again_end ≤ a.day.next → AnyOf a (fills_gap a now next_kept)
fills_does a now next_kept asks bounded =
    let to = fill_end a.line next_kept in
    let most = fill_most a.line next_kept asks in
    again_does a now to (word.Fill to) refl (omega (arith, most, bounded))

again_of_does : (a : Live) (now next_kept : ℕ) (stored : Option Stored)
    → a.line.again < a.line.again_end → a.line.again_end ≤ a.day.next
    → AnyOf a (again_of a now next_kept stored)
again_of_does a now next_kept None asks bounded = fills_does a now next_kept asks bounded
again_of_does a now next_kept (Some stored) asks bounded =
    choice (AnyOf a) (is_answer stored) _ _ (λ h. fills_does a now (a.line.again + 1) asks bounded)
    (λ h. again_does a now (a.line.again + 1) (word.Again stored.body stored.is_copy stored.first) refl
    (omega (arith, asks, bounded)))

fresh_of_does : (a : Live) (now : ℕ) (stored : Option Stored) → a.line.fresh < a.day.next
    → AnyOf a (fresh_of a now stored)
fresh_of_does a now None less = record {
  on = refl;
  whose = refl;
  most = omega arith;
  kept = omega arith;
  new = λ h. omega arith;
  sound = λ h. omega (arith, less);
  own = λ o. absurd (false≢true o);
}
fresh_of_does a now (Some stored) less =
    choice (AnyOf a) (is_reject stored.body && not a.line.is_settled) _ _
    (λ h. record {
      on = refl;
      whose = refl;
      most = omega arith;
      kept = omega arith;
      new = λ h. omega arith;
      sound = λ h. h;
      own = λ o. absurd (false≢true o);
    })
    (λ h. record {
      on = refl;
      whose = refl;
      most = omega arith;
      kept = omega arith;
      new = λ h. (omega arith, omega arith);
      sound = λ h. omega (arith, less);
      own = λ o. absurd (false≢true o);
    })

not_held : (held : Bool) (m n : ℕ) → (not held && nat_lt m n) ≡ true → m < n
not_held held m n h = grind (arith, nat_tests)

pub hands_on_does : (a : Live) (now next_kept : ℕ) (stored : Option Stored)
    → a.line.again_end ≤ a.day.next → AnyOf a (hands_on a now next_kept stored)
hands_on_does a now next_kept stored bounded =
    choice (AnyOf a) (is_resending a.line) _ _
    (λ h. again_of_does a now next_kept stored (less_by a.line.again a.line.again_end h) bounded)
    (λ h. choice (AnyOf a) (not a.line.is_held && nat_lt a.line.fresh a.day.next) _ _
    (λ k. fresh_of_does a now stored (not_held a.line.is_held a.line.fresh a.day.next k))
    (λ k. any_does a _ (stays_does a)))

-- Time passes.

tests_firm_does : (a : Live) (now : ℕ) → DoesOf a (tests_firm a now)
tests_firm_does a now = record {
  on = refl;
  whose = refl;
  most = omega arith;
  kept = omega arith;
  new = λ h. choice (λ (n : ℕ). a.line.fresh ≤ n) (is_clear a) (a.day.next + 1) a.line.fresh
      (λ k. omega (arith, h)) (λ k. omega arith);
  sound = λ h. choice (λ (n : ℕ). n ≤ a.day.next + 1) (is_clear a) (a.day.next + 1) a.line.fresh
      (λ k. omega arith) (λ k. omega (arith, h));
  own = λ o. (refl, tt);
}

requests_does : (a : Live) (now : ℕ) → DoesOf a (requests_missing a now)
requests_does a now = record {
  on = refl;
  whose = refl;
  most = omega arith;
  kept = omega arith;
  new = λ h. omega (arith, h);
  sound = λ h. omega arith;
  own = λ o. (refl, tt);
}

due_does : (a : Live) (now : ℕ) → DoesOf a (due a now)
due_does a now =
    choice (DoesOf a) (is_resending a.line || (not a.line.is_held && not (is_clear a))) _ _
    (λ h. stays_does a)
    (λ h. choice (DoesOf a) (is_clear a && requests a.line) _ _ (λ h. requests_does a now)
    (λ h. choice (DoesOf a) a.line.is_test_due _ _ (λ h. tests_firm_does a now)
    (λ h. choice (DoesOf a) (is_clear a && nat_le a.line.heartbeat (now - a.line.sent)) _ _
    (λ h. says_does a now word.Heartbeat refl) (λ h. stays_does a))))

pub tick_on_does : (a : Live) (now : ℕ) → DoesOf a (tick_on a now)
tick_on_does a now =
    let b = still_settling a now in
    choice (DoesOf a) (is_over b.line now) _ _ (λ h. disconnects_does b)
    (λ h. choice (DoesOf a) (is_dead b.line now) _ _ (λ h. leaves_does b why.Silent)
    (λ h. due_does (made_due b now) now))
