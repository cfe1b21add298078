-- The numbers of a session stay in their bounds: what an outcome of a turn does.
use Rattle.std.proofs.Common.{ℕ, ◌+◌, ◌≤◌, ◌==◌, ◌&&◌, not, nat_le, Option, Some, None, arith}
use Rattle.fix_sessions.specs.Outcomes.{stays, disconnects, says, answers, rejects_now, rejects, denies, denies_now, denial_of, parts, leaves, logs_out, reject_and_logout, rejects_and_logs_out, reject_of, counted, counted_if, moved_to, is_clear, may_log_out, used, keeping}
use Rattle.fix_sessions.specs.declared.messages.Origin.{Origin}
use Rattle.fix_sessions.specs.declared.state.Day.{Day}
use Rattle.fix_sessions.specs.declared.state.Line.{Line}
use Rattle.fix_sessions.specs.declared.state.Live.{Live}
use Rattle.fix_sessions.specs.declared.turns.Denial.{Denial}
use Rattle.fix_sessions.specs.declared.turns.Fault.{Fault}
use Rattle.fix_sessions.specs.declared.turns.Why.{Why}
use Rattle.fix_sessions.specs.declared.turns.Word.{Word}
use Rattle.laws_sessions.proofs.Choices.{choice}
use Rattle.laws_sessions.specs.Bounds.{DayFits, IsNumber, LineFits, TurnFits}

-- A session in which the firm is logged on, whose numbers are not used up.
pub record Fits (a : Live) : Type 0 where
  pub day : DayFits a.day
  pub line : LineFits a.line
  pub room : a.day.next ≤ 999999990

-- a number that has room is one that a message may have, and so are the two behind it
pub has_room : (n : ℕ) → n ≤ 999999990 → n ≤ 999999999
has_room n h = omega (arith, h)

pub one_more : (n : ℕ) → n ≤ 999999990 → n + 1 ≤ 999999999
one_more n h = omega (arith, h)

two_more : (n : ℕ) → n ≤ 999999990 → n + 1 + 1 ≤ 999999999
two_more n h = omega (arith, h)

-- and so is what is not above one
pub up_to : (m n : ℕ) → m ≤ n → n ≤ 999999999 → m ≤ 999999999
up_to m n less is = omega (arith, less, is)

pub zero_is : 0 ≤ 999999999
zero_is = omega arith

pub one_is : 1 ≤ 999999999
one_is = omega arith

pub used_fits : (d : Day) → DayFits d → d.next ≤ 999999990 → DayFits (used d)
used_fits d f room = record {
  expected = f.expected;
  next = one_more d.next room;
  had = f.had;
  first_given = f.first_given;
  last_given = f.last_given;
  last_kept = f.last_kept;
}

keeping_fits : (d : Day) → DayFits d → d.next ≤ 999999990 → DayFits (keeping d)
keeping_fits d f room = record {
  expected = f.expected;
  next = one_more d.next room;
  had = f.had;
  first_given = f.first_given;
  last_given = f.last_given;
  last_kept = has_room d.next room;
}

both_fit : (d : Day) → DayFits d → d.next ≤ 999999990 → DayFits (used (keeping d))
both_fit d f room = record {
  expected = f.expected;
  next = two_more d.next room;
  had = f.had;
  first_given = f.first_given;
  last_given = f.last_given;
  last_kept = has_room d.next room;
}

pub fresh_fits : (l : Line) (now n : ℕ) → LineFits l → IsNumber n
    → LineFits (record l { sent = now; fresh = n })
fresh_fits l now n f is = record {
  heartbeat = f.heartbeat;
  gap = f.gap;
  again = f.again;
  again_end = f.again_end;
  fresh = is;
  split = f.split;
  first_test = f.first_test;
  last_test = f.last_test;
  overtook = f.overtook;
}

-- Outcomes.

pub stays_fit : (a : Live) → Fits a → TurnFits (stays a)
stays_fit a f = record { session = record { day = f.day; phase = f.line }; first = tt; second = tt }

pub disconnects_fit : (a : Live) → Fits a → TurnFits (disconnects a)
disconnects_fit a f = record { session = record { day = f.day; phase = tt }; first = tt; second = tt }

pub says_fit : (a : Live) (now : ℕ) (w : Word) → Fits a → TurnFits (says a now w)
says_fit a now w f = record {
  session = record {
    day = used_fits a.day f.day f.room;
    phase = fresh_fits a.line now (a.day.next + 1) f.line (one_more a.day.next f.room);
  };
  first = has_room a.day.next f.room;
  second = tt;
}

pub answers_fit : (a : Live) (now : ℕ) (w : Word) → Fits a → TurnFits (answers a now w)
answers_fit a now w f =
    choice TurnFits (is_clear a) _ _ (λ h. says_fit a now w f)
    (λ h. record {
      session = record { day = used_fits a.day f.day f.room; phase = f.line };
      first = has_room a.day.next f.room;
      second = tt;
    })

keeps_and_leaves : (a : Live) (now : ℕ) → Fits a
    → LineFits (record a.line { sent = now; fresh = a.day.next + 1 })
keeps_and_leaves a now f = fresh_fits a.line now (a.day.next + 1) f.line (one_more a.day.next f.room)

pub rejects_now_fit : (a : Live) (now : ℕ) (w : Word) → Fits a → TurnFits (rejects_now a now w)
rejects_now_fit a now w f =
    choice TurnFits (is_clear a && a.line.is_settled) _ _
    (λ h. record {
      session = record { day = keeping_fits a.day f.day f.room; phase = keeps_and_leaves a now f };
      first = has_room a.day.next f.room;
      second = tt;
    })
    (λ h. record {
      session = record { day = keeping_fits a.day f.day f.room; phase = f.line };
      first = has_room a.day.next f.room;
      second = tt;
    })

denies_now_fit : (a : Live) (now : ℕ) (w : Word) → Fits a → TurnFits (denies_now a now w)
denies_now_fit a now w f =
    choice TurnFits (is_clear a) _ _
    (λ h. record {
      session = record { day = keeping_fits a.day f.day f.room; phase = keeps_and_leaves a now f };
      first = has_room a.day.next f.room;
      second = tt;
    })
    (λ h. record {
      session = record { day = keeping_fits a.day f.day f.room; phase = f.line };
      first = has_room a.day.next f.room;
      second = tt;
    })

pub parts_fit : (a : Live) (now : ℕ) (w : Word) → Fits a → TurnFits (parts a now w)
parts_fit a now w f =
    choice TurnFits (may_log_out a) _ _
    (λ h. record {
      session = record { day = used_fits a.day f.day f.room; phase = tt };
      first = has_room a.day.next f.room;
      second = tt;
    })
    (λ h. disconnects_fit a f)

pub leaves_fit : (a : Live) (y : Why) → Fits a → TurnFits (leaves a y)
leaves_fit a y f =
    choice TurnFits (may_log_out a) _ _
    (λ h. record {
      session = record { day = used_fits a.day f.day f.room; phase = tt };
      first = has_room a.day.next f.room;
      second = tt;
    })
    (λ h. disconnects_fit a f)

both_now_fit : (a : Live) (now : ℕ) (w : Word) (y : Why) → Fits a → TurnFits (reject_and_logout a now w y)
both_now_fit a now w y f =
    choice TurnFits (not a.line.is_settled) _ _ (λ h. rejects_now_fit a now w f)
    (λ h. choice TurnFits (is_clear a) _ _
    (λ h. record {
      session = record { day = both_fit a.day f.day f.room; phase = tt };
      first = has_room a.day.next f.room;
      second = one_more a.day.next f.room;
    })
    (λ h. record {
      session = record { day = keeping_fits a.day f.day f.room; phase = tt };
      first = has_room a.day.next f.room;
      second = tt;
    }))

-- What is counted.

pub moved_fits : (a : Live) (now number : ℕ) → Fits a → IsNumber number → Fits (moved_to a now number)
moved_fits a now number f is = record {
  day = record {
    expected = is;
    next = f.day.next;
    had = f.day.had;
    first_given = f.day.first_given;
    last_given = f.day.last_given;
    last_kept = f.day.last_kept;
  };
  line = record {
    heartbeat = f.line.heartbeat;
    gap = choice IsNumber (nat_le number a.line.gap) a.line.gap 0 (λ h. f.line.gap) (λ h. zero_is);
    again = f.line.again;
    again_end = f.line.again_end;
    fresh = f.line.fresh;
    split = f.line.split;
    first_test = f.line.first_test;
    last_test = f.line.last_test;
    overtook = f.line.overtook;
  };
  room = f.room;
}

pub counted_fits : (a : Live) (now : ℕ) → Fits a → a.day.expected ≤ 999999990 → Fits (counted a now)
counted_fits a now f low = moved_fits a now (a.day.expected + 1) f (one_more a.day.expected low)

pub counted_if_fits : (a : Live) (now : ℕ) (number : Option ℕ) → Fits a → a.day.expected ≤ 999999990
    → Fits (counted_if a now number)
counted_if_fits a now None f low = f
counted_if_fits a now (Some number) f low =
    choice Fits (number == a.day.expected) _ _ (λ h. counted_fits a now f low) (λ h. f)

pub rejects_fit : (a : Live) (now : ℕ) (m : Origin) (fault : Fault) → Fits a → a.day.expected ≤ 999999990
    → TurnFits (rejects a now m fault)
rejects_fit a now m fault f low =
    rejects_now_fit (counted_if a now m.number) now (reject_of m fault) (counted_if_fits a now m.number f low)

pub denies_fit : (a : Live) (now : ℕ) (m : Origin) (denial : Denial) → Fits a → a.day.expected ≤ 999999990
    → TurnFits (denies a now m denial)
denies_fit a now m denial f low =
    denies_now_fit (counted a now) now (denial_of m denial) (counted_fits a now f low)

pub logs_out_fit : (a : Live) (now : ℕ) (number : Option ℕ) (w : Word) → Fits a
    → a.day.expected ≤ 999999990 → TurnFits (logs_out a now number w)
logs_out_fit a now number w f low =
    parts_fit (counted_if a now number) now w (counted_if_fits a now number f low)

pub both_counted_fit : (a : Live) (now : ℕ) (m : Origin) (fault : Fault) (y : Why) → Fits a
    → a.day.expected ≤ 999999990 → TurnFits (rejects_and_logs_out a now m fault y)
both_counted_fit a now m fault y f low =
    both_now_fit (counted_if a now m.number) now (reject_of m fault) y (counted_if_fits a now m.number f low)
