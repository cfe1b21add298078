-- The numbers of a session stay in their bounds: the other events of a firm that is logged on.
use Rattle.std.proofs.Common.{◌≡◌, ℕ, ◌+◌, ◌-◌, ◌<◌, ◌≤◌, Bool, true, false, ◌==◌, ◌&&◌, ◌||◌, not, nat_lt, nat_le, List, Option, Some, None, arith}
use Rattle.std.proofs.lemmas.Bool.Decides.{nat_tests}
use Rattle.fix_fields.specs.Frame.{Field}
use Rattle.fix_sessions.specs.Outcomes.{stays, is_clear}
use Rattle.fix_sessions.specs.Sending.{is_resending, requests, fill_end, is_answer, is_reject, fills_gap, again_of, again_to, fresh_of, passed, hands_on, given_on, keeps_one}
use Rattle.fix_sessions.specs.Steps.{tests_firm, requests_missing, due, made_due, still_settling, is_over, is_dead, tick_on}
use Rattle.fix_sessions.specs.declared.state.Day.{Day}
use Rattle.fix_sessions.specs.declared.state.Line.{Line}
use Rattle.fix_sessions.specs.declared.state.Live.{Live}
use Rattle.fix_sessions.specs.declared.turns.Stored.{Stored}
use Rattle.fix_sessions.specs.declared.turns.Way.TheVariants as way
use Rattle.fix_sessions.specs.declared.turns.Why.TheVariants as why
use Rattle.fix_sessions.specs.declared.turns.Word.{Word}
use Rattle.fix_sessions.specs.declared.turns.Word.TheVariants as word
use Rattle.laws_sessions.proofs.BoundedOutcomes.{Fits, disconnects_fit, fresh_fits, has_room, leaves_fit, one_more, says_fit, stays_fit, up_to, used_fits}
use Rattle.laws_sessions.proofs.Choices.{choice}
use Rattle.laws_sessions.proofs.TurnSent.{clear_is, fill_most}
use Rattle.laws_sessions.specs.Bounds.{DayFits, IsNumber, LineFits, TurnFits}

-- The venue gives a message.

pub given_fits : (d : Day) → DayFits d → d.next ≤ 999999990 → DayFits (keeps_one d)
given_fits d f room = record {
  expected = f.expected;
  next = one_more d.next room;
  had = f.had;
  first_given = choice IsNumber (d.first_given == 0) d.next d.first_given
      (λ h. has_room d.next room) (λ h. f.first_given);
  last_given = has_room d.next room;
  last_kept = has_room d.next room;
}

passed_is : (fresh next : ℕ) → fresh ≡ next → next ≤ 999999990 → fresh + 1 ≤ 999999999
passed_is fresh next same room = omega (arith, same, room)

pub given_on_fit : (a : Live) (now : ℕ) (body : List Field) → Fits a → TurnFits (given_on a now body)
given_on_fit a now body f =
    choice TurnFits (is_clear a && (a.line.is_settled || not (is_reject body))) _ _
    (λ h. record {
      session = record {
        day = given_fits a.day f.day f.room;
        phase = fresh_fits a.line now (a.line.fresh + 1) f.line
            (passed_is a.line.fresh a.day.next (clear_is a (a.line.is_settled || not (is_reject body)) h) f.room);
      };
      first = has_room a.day.next f.room;
      second = tt;
    })
    (λ h. record {
      session = record { day = given_fits a.day f.day f.room; phase = f.line };
      first = has_room a.day.next f.room;
      second = tt;
    })

-- What is kept is handed in.

less_by : (m n : ℕ) → nat_lt m n ≡ true → m < n
less_by m n h = grind (arith, nat_tests)

again_fits : (l : Line) (now to : ℕ) → LineFits l → IsNumber to → LineFits (again_to l now to)
again_fits l now to f is = record {
  heartbeat = f.heartbeat;
  gap = f.gap;
  again = is;
  again_end = f.again_end;
  fresh = choice IsNumber (nat_lt l.fresh to) to l.fresh (λ h. is) (λ h. f.fresh);
  split = f.split;
  first_test = f.first_test;
  last_test = f.last_test;
  overtook = f.overtook;
}

again_fit : (a : Live) (now to : ℕ) (w : Word) → Fits a → IsNumber to
    → TurnFits (record (stays (record a { line = again_to a.line now to })) {
      first = Some (record { number = a.line.again; way = way.Leaves; word = w });
    })
again_fit a now to w f is = record {
  session = record { day = f.day; phase = again_fits a.line now to f.line is };
  first = f.line.again;
  second = tt;
}

fills_fit : (a : Live) (now next_kept : ℕ) → Fits a → a.line.again < a.line.again_end
    → TurnFits (fills_gap a now next_kept)
fills_fit a now next_kept f asks =
    again_fit a now (fill_end a.line next_kept) (word.Fill (fill_end a.line next_kept)) f
    (up_to (fill_end a.line next_kept) a.line.again_end (fill_most a.line next_kept asks) f.line.again_end)

one_again : (m n : ℕ) → m < n → n ≤ 999999999 → m + 1 ≤ 999999999
one_again m n less is = omega (arith, less, is)

again_of_fit : (a : Live) (now next_kept : ℕ) (stored : Option Stored) → Fits a
    → a.line.again < a.line.again_end → TurnFits (again_of a now next_kept stored)
again_of_fit a now next_kept None f asks = fills_fit a now next_kept f asks
again_of_fit a now next_kept (Some stored) f asks =
    choice TurnFits (is_answer stored) _ _ (λ h. fills_fit a now (a.line.again + 1) f asks)
    (λ h. again_fit a now (a.line.again + 1) (word.Again stored.body stored.is_copy stored.first) f
    (one_again a.line.again a.line.again_end asks f.line.again_end))

passed_fits : (l : Line) (next : ℕ) → LineFits l → l.fresh < next → IsNumber next → LineFits (passed l)
passed_fits l next f less is = record {
  heartbeat = f.heartbeat;
  gap = f.gap;
  again = f.again;
  again_end = f.again_end;
  fresh = one_again l.fresh next less is;
  split = f.split;
  first_test = f.first_test;
  last_test = f.last_test;
  overtook = f.overtook;
}

held_fits : (l : Line) → LineFits l → LineFits (record l { is_held = true })
held_fits l f = record {
  heartbeat = f.heartbeat;
  gap = f.gap;
  again = f.again;
  again_end = f.again_end;
  fresh = f.fresh;
  split = f.split;
  first_test = f.first_test;
  last_test = f.last_test;
  overtook = f.overtook;
}

fresh_of_fit : (a : Live) (now : ℕ) (stored : Option Stored) → Fits a → a.line.fresh < a.day.next
    → TurnFits (fresh_of a now stored)
fresh_of_fit a now None f less = record {
  session = record { day = f.day; phase = passed_fits a.line a.day.next f.line less f.day.next };
  first = tt;
  second = tt;
}
fresh_of_fit a now (Some stored) f less =
    choice TurnFits (is_reject stored.body && not a.line.is_settled) _ _
    (λ h. record {
      session = record { day = f.day; phase = held_fits a.line f.line };
      first = tt;
      second = tt;
    })
    (λ h. record {
      session = record {
        day = f.day;
        phase = fresh_fits a.line now (a.line.fresh + 1) f.line
            (one_again a.line.fresh a.day.next less f.day.next);
      };
      first = f.line.fresh;
      second = tt;
    })

not_held : (held : Bool) (m n : ℕ) → (not held && nat_lt m n) ≡ true → m < n
not_held held m n h = grind (arith, nat_tests)

pub hands_on_fit : (a : Live) (now next_kept : ℕ) (stored : Option Stored) → Fits a
    → TurnFits (hands_on a now next_kept stored)
hands_on_fit a now next_kept stored f =
    choice TurnFits (is_resending a.line) _ _
    (λ h. again_of_fit a now next_kept stored f (less_by a.line.again a.line.again_end h))
    (λ h. choice TurnFits (not a.line.is_held && nat_lt a.line.fresh a.day.next) _ _
    (λ k. fresh_of_fit a now stored f (not_held a.line.is_held a.line.fresh a.day.next k))
    (λ k. stays_fit a f))

-- Time passes.

tests_firm_fit : (a : Live) (now : ℕ) → Fits a → TurnFits (tests_firm a now)
tests_firm_fit a now f =
    let room = f.room in
    record {
      session = record {
        day = used_fits a.day f.day f.room;
        phase = record {
          heartbeat = f.line.heartbeat;
          gap = f.line.gap;
          again = f.line.again;
          again_end = f.line.again_end;
          fresh = choice IsNumber (is_clear a) (a.day.next + 1) a.line.fresh
              (λ h. one_more a.day.next room) (λ h. f.line.fresh);
          split = f.line.split;
          first_test = choice IsNumber (a.line.first_test == 0) a.day.next a.line.first_test
              (λ h. has_room a.day.next room) (λ h. f.line.first_test);
          last_test = has_room a.day.next room;
          overtook = choice (λ (n : ℕ). n ≤ 999999990) (is_clear a) a.line.overtook a.day.next
              (λ h. f.line.overtook) (λ h. room);
        };
      };
      first = has_room a.day.next room;
      second = tt;
    }

requests_fit : (a : Live) (now : ℕ) → Fits a → TurnFits (requests_missing a now)
requests_fit a now f =
    says_fit (record a { line = record a.line { gap_since = now; is_request_due = false } }) now
    (word.ResendRequest a.day.expected)
    (record {
      day = f.day;
      line = record {
        heartbeat = f.line.heartbeat;
        gap = f.line.gap;
        again = f.line.again;
        again_end = f.line.again_end;
        fresh = f.line.fresh;
        split = f.line.split;
        first_test = f.line.first_test;
        last_test = f.line.last_test;
        overtook = f.line.overtook;
      };
      room = f.room;
    })

due_fit : (a : Live) (now : ℕ) → Fits a → TurnFits (due a now)
due_fit a now f =
    choice TurnFits (is_resending a.line || (not a.line.is_held && not (is_clear a))) _ _
    (λ h. stays_fit a f)
    (λ h. choice TurnFits (is_clear a && requests a.line) _ _ (λ h. requests_fit a now f)
    (λ h. choice TurnFits a.line.is_test_due _ _ (λ h. tests_firm_fit a now f)
    (λ h. choice TurnFits (is_clear a && nat_le a.line.heartbeat (now - a.line.sent)) _ _
    (λ h. says_fit a now word.Heartbeat f) (λ h. stays_fit a f))))

made_fits : (a : Live) (now : ℕ) → Fits a → Fits (made_due a now)
made_fits a now f = record {
  day = f.day;
  line = record {
    heartbeat = f.line.heartbeat;
    gap = f.line.gap;
    again = f.line.again;
    again_end = f.line.again_end;
    fresh = f.line.fresh;
    split = f.line.split;
    first_test = f.line.first_test;
    last_test = f.line.last_test;
    overtook = f.line.overtook;
  };
  room = f.room;
}

settling_fits : (a : Live) (now : ℕ) → Fits a → Fits (still_settling a now)
settling_fits a now f = record {
  day = f.day;
  line = record {
    heartbeat = f.line.heartbeat;
    gap = f.line.gap;
    again = f.line.again;
    again_end = f.line.again_end;
    fresh = f.line.fresh;
    split = f.line.split;
    first_test = f.line.first_test;
    last_test = f.line.last_test;
    overtook = f.line.overtook;
  };
  room = f.room;
}

pub tick_on_fit : (a : Live) (now : ℕ) → Fits a → TurnFits (tick_on a now)
tick_on_fit a now f =
    let b = still_settling a now in
    let g = settling_fits a now f in
    choice TurnFits (is_over b.line now) _ _ (λ h. disconnects_fit b g)
    (λ h. choice TurnFits (is_dead b.line now) _ _ (λ h. leaves_fit b why.Silent g)
    (λ h. due_fit (made_due b now) now (made_fits b now g)))
