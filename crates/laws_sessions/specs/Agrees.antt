-- When what is recovered is what a gateway has in memory.
use Rattle.std.specs.Prelude.{◌≡◌, ◌≤◌, false, nat_lt, ◌++◌, List}
use Rattle.fix_sessions.specs.declared.state.Day.{Day}
use Rattle.laws_sessions.specs.Memory.{Memory}
use Rattle.session_recovery.specs.Recovered.{Kept, Message, Point, gives_all}
use Rattle.session_recovery.specs.declared.days.TheConstants.{LAST_NUMBER}
use Rattle.session_recovery.specs.declared.points.Recovered.{Recovered}

-- a day but for what is counted, and what operators' acts and the entries say
abbrev pub marks : Day → Day
marks d = record d { expected = 0; had = 0; was_taken = false; is_open = false; is_suspended = false }

abbrev pub bare : Recovered → Recovered
bare r = record r { taken = 0; day = marks r.day }

-- memory as what is recovered has it
abbrev pub as_recovered : Memory → Recovered
as_recovered m = record {
  epoch = m.epoch;
  since = m.since;
  act = m.act;
  given = m.given;
  digest = m.digest;
  taken = 0;
  day = m.session.day;
}

-- the same, but that less may be counted; and numbers are used up in both, or in neither
pub record IsAs (r : Recovered) (ks : List Kept) (m : Recovered) (remembered : List Kept) : Type 0 where
  pub same : bare r ≡ bare m
  pub kept : ks ≡ remembered
  pub expected : r.day.expected ≤ m.day.expected
  pub had : r.day.had ≤ m.day.had
  pub used_up : nat_lt LAST_NUMBER r.day.expected ≡ nat_lt LAST_NUMBER m.day.expected

-- once what the venue gave has its numbers
abbrev pub Agrees : Point → Memory → Type 0
Agrees p m =
    let q = gives_all p p.rest in IsAs q.session q.kept (as_recovered m) m.kept

-- more that the venue gave
abbrev pub with_more : Point → List Message → Point
with_more p more = record p { rest = p.rest ++ more }
