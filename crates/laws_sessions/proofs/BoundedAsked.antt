-- What came has numbers of at most nine digits; and what a ResendRequest asks for.
use Rattle.std.proofs.Common.{◌≡◌, ℕ, ◌+◌, ◌-◌, ◌≤◌, true, false, ◌==◌, ◌&&◌, ◌||◌, nat_lt, Option, Some, None, arith, if◌then◌else◌}
use Rattle.std.proofs.lemmas.Bool.Decides.{nat_tests}
use Rattle.fix_sessions.specs.Rows.{again_from, highest_left, asked_of, asked_to, numbers_asked}
use Rattle.fix_sessions.specs.declared.messages.Heard.{Heard}
use Rattle.fix_sessions.specs.declared.messages.Heard.TheVariants as heard
use Rattle.fix_sessions.specs.declared.messages.Incoming.{Incoming}
use Rattle.fix_sessions.specs.declared.messages.Kind.{Kind}
use Rattle.fix_sessions.specs.declared.messages.Kind.TheVariants as kind
use Rattle.fix_sessions.specs.declared.messages.Reading.{Reading}
use Rattle.fix_sessions.specs.declared.messages.Reading.TheVariants as reading
use Rattle.fix_sessions.specs.declared.requests.Asked.{Asked}
use Rattle.fix_sessions.specs.declared.requests.Asked.TheVariants as asked
use Rattle.fix_sessions.specs.declared.state.Line.{Line}
use Rattle.laws_sessions.proofs.BoundedOutcomes.{one_more}
use Rattle.laws_sessions.proofs.Choices.{choice}
use Rattle.laws_sessions.specs.Bounds.{IsNumber, LineFits}

abbrev pub ReadingFits : Reading → Type 0
ReadingFits reading.Missing = Unit {0}
ReadingFits reading.Faulty = Unit {0}
ReadingFits (reading.Is number) = IsNumber number

abbrev pub KindFits : Kind → Type 0
KindFits (kind.Fill next) = ReadingFits next
KindFits (kind.Reset next) = ReadingFits next
KindFits _ = Unit {0}

abbrev pub OptionFits : Option ℕ → Type 0
OptionFits None = Unit {0}
OptionFits (Some number) = IsNumber number

pub record MessageFits (m : Incoming) : Type 0 where
  pub number : OptionFits m.origin.number
  pub kind : KindFits m.kind

abbrev pub HeardFits : Heard → Type 0
HeardFits (heard.Message m) = MessageFits m
HeardFits _ = Unit {0}

-- Row 13.

less_by : (m n : ℕ) → nat_lt m n ≡ true → m + 1 ≤ n
less_by m n h = grind (arith, nat_tests)

not_less : (m n : ℕ) → nat_lt m n ≡ false → n ≤ m
not_less m n h = grind (arith, nat_tests)

before : (m n : ℕ) → m + 1 ≤ n → n ≤ 999999999 → n - 1 + 1 ≤ 999999999
before m n less is = grind arith

pub highest_fits : (l : Line) → LineFits l → IsNumber (highest_left l + 1)
highest_fits l f =
    choice (λ (n : ℕ). IsNumber (n + 1)) (nat_lt l.overtook l.fresh) (l.fresh - 1) l.overtook
    (λ h. before l.overtook l.fresh (less_by l.overtook l.fresh h) f.fresh)
    (λ h. one_more l.overtook f.overtook)

abbrev pub AskedFits : Asked → Type 0
AskedFits (asked.Wrong fault) = Unit {0}
AskedFits (asked.Numbers first last) = IsNumber first × IsNumber (last + 1)

last_fits : (top last : ℕ) → IsNumber (top + 1)
    → IsNumber ((if (last == 0) || nat_lt top last then top else last) + 1)
last_fits top last most =
    choice (λ (n : ℕ). IsNumber (n + 1)) ((last == 0) || nat_lt top last) top last (λ h. most)
    (λ h. below_one last top (not_above top last h) most)
  where
    not_above : (m n : ℕ) → ((n == 0) || nat_lt m n) ≡ false → n ≤ m
    not_above m n h = grind (arith, nat_tests)

    below_one : (m n : ℕ) → m ≤ n → n + 1 ≤ 999999999 → m + 1 ≤ 999999999
    below_one m n less is = omega (arith, less, is)

numbers_fit : (top first last : ℕ) → IsNumber (top + 1) → AskedFits (numbers_asked top first last)
numbers_fit top first last most =
    choice AskedFits (nat_lt top first) _ _ (λ h. tt)
    (λ h. choice AskedFits (nat_lt 0 last && nat_lt last first) _ _ (λ k. tt)
    (λ k. (first_is first top (not_less top first h) most, last_fits top last most)))
  where
    first_is : (m n : ℕ) → m ≤ n → n + 1 ≤ 999999999 → m ≤ 999999999
    first_is m n less is = omega (arith, less, is)

asked_to_fit : (top first : ℕ) (last : Reading) → IsNumber (top + 1) → AskedFits (asked_to top first last)
asked_to_fit top first reading.Missing most = tt
asked_to_fit top first reading.Faulty most = tt
asked_to_fit top first (reading.Is last) most = numbers_fit top (if first == 0 then 1 else first) last most

pub asked_fit : (top : ℕ) (first last : Reading) → IsNumber (top + 1) → AskedFits (asked_of top first last)
asked_fit top reading.Missing last most = tt
asked_fit top reading.Faulty last most = tt
asked_fit top (reading.Is first) last most = asked_to_fit top first last most

again_line : (l : Line) (again again_end : ℕ) → LineFits l → IsNumber again → IsNumber again_end
    → LineFits (record l { again = again; again_end = again_end })
again_line l again again_end f from to = record {
  heartbeat = f.heartbeat;
  gap = f.gap;
  again = from;
  again_end = to;
  fresh = f.fresh;
  split = f.split;
  first_test = f.first_test;
  last_test = f.last_test;
  overtook = f.overtook;
}

pub again_fits : (l : Line) (first last : ℕ) → LineFits l → IsNumber first → IsNumber (last + 1)
    → LineFits (again_from l first last)
again_fits l first last f from to =
    choice LineFits (nat_lt l.again l.again_end) _ _
    (λ h. again_line l (if nat_lt first l.again then first else l.again)
    (if nat_lt l.again_end (last + 1) then last + 1 else l.again_end) f
    (choice IsNumber (nat_lt first l.again) first l.again (λ k. from) (λ k. f.again))
    (choice IsNumber (nat_lt l.again_end (last + 1)) (last + 1) l.again_end (λ k. to) (λ k. f.again_end)))
    (λ h. again_line l first (last + 1) f from to)
