-- What holds of a gateway and its database, act by act.
use Rattle.std.proofs.Common.{◌≡◌, ℕ, ◌≤◌, ◌<◌, Bool, true, false, List, [], ◌∷◌, ◌++◌, Option, Some, refl, sym, ap, subst, ◌∙◌, arith, append-nil, append_assoc, if◌then◌else◌}
use Rattle.std.proofs.lemmas.Bool.{false≢true}
use Rattle.std.proofs.lemmas.Option.{same_Some}
use Rattle.fix_sessions.specs.declared.texts.Names.{Names}
use Rattle.laws_sessions.proofs.CountedSteps.{CountsIn, from_append, from_down, keeps_parts, step_counts, step_up, told_counts, told_up}
use Rattle.laws_sessions.proofs.ReadSteps.{fresh_is, not_on, step_read, step_used, told_read, told_used}
use Rattle.laws_sessions.proofs.Starting.{Countable, IsBehind, Stands, countable_still, full_countable, readable, reads_append, reads_with, starts_well}
use Rattle.laws_sessions.specs.Counts.{AreFrom, AreRising, last_from}
use Rattle.laws_sessions.specs.Left.{AreKeeping, lost, lost_taken}
use Rattle.laws_sessions.specs.Memory.{Memory, Step, Told, memory_after, puts}
use Rattle.laws_sessions.specs.Starts.{Act, AreSoundActs, Begins, Ends, Enters, IsReadable, IsRecovered, IsSoundAct, Moves, Part, Stops, Tells, World, all_notes, all_taken, begins, first_world, found, joined, nothing, taken_at, takes, told_first, world_after, world_after_all}
use Rattle.session_recovery.specs.Recovered.{Message, Sealed, Taken, reads_all, start}

-- what is behind these
behind : {A : Type 0} (a b c new : List A) → a ++ (b ++ (c ++ new)) ≡ (a ++ (b ++ c)) ++ new
behind a b c new = sym (append_assoc a (b ++ c) new ∙ ap (λ l. a ++ l) (append_assoc b c new))

-- and what is behind them
behind_on : (most : ℕ) (m n : Memory) (notes new : List Sealed) (taken more : List Taken) → IsBehind most m notes taken
    → (AreKeeping new → (m.session.day.expected ≤ n.session.day.expected) × AreFrom m.session.day.expected more)
    → IsBehind most n (notes ++ new) (taken ++ more)
behind_on most m n notes new taken more b up keeping =
    let parts = keeps_parts notes new keeping in
    let old = b parts.0 in
    let step = up parts.1 in
    let x = old.0 in let y = step.0 in (
      omega (arith, x, y),
      from_append most taken more old.1 (from_down most m.session.day.expected more x step.1),
    )

behind_as : (most : ℕ) (m : Memory) (notes ns : List Sealed) (taken ts : List Taken) → notes ≡ ns → taken ≡ ts
    → IsBehind most m notes taken → IsBehind most m ns ts
behind_as most m notes ns taken ts e f b =
    subst (λ l. IsBehind most m ns l) f (subst (λ l. IsBehind most m l taken) e b)

behind_up : (most : ℕ) (m n : Memory) (notes : List Sealed) (taken : List Taken)
    → m.session.day.expected ≤ n.session.day.expected → IsBehind most m notes taken → IsBehind most n notes taken
behind_up most m n notes taken up b keeping = let old = b keeping in let x = old.0 in (omega (arith, x, up), old.1)

-- an act has a world after it
pub record Next (o : Option World) : Type 0 where
  pub world : World
  pub is : o ≡ Some world
  pub stands : Stands world

-- A step.
moves_next : (names : Names) (w : World) (step : Step) (place : ℕ) (given : List Message) → Stands w
    → IsSoundAct w (Moves step place given) → Next (world_after names w (Moves step place given))
moves_next names w step place given s sound =
    let r = s.recovered in
    let new = puts names w.memory step in
    let more = taken_at place (takes names w.memory step) in
    let after = memory_after names w.memory step in
    let up = step_up names w.memory step place sound.1 in
    let read = step_read names r.point w.memory step sound.0 sound.1 r.agrees s.one in
    record {
      world = _;
      is = refl;
      stands = record {
        recovered = record {
          told = r.told;
          point = read.end;
          in_order = r.in_order;
          reads = ap (λ l. reads_all (Some (start r.told)) l) (behind w.disk.notes w.flight.notes w.fill.notes new)
              ∙ (reads_append (all_notes w) new (Some (start r.told))
              ∙ (ap (λ o. reads_all o new) r.reads ∙ read.reads));
          agrees = read.agrees;
        };
        counts = subst (λ ts. CountsIn after ts) (sym (behind w.disk.taken w.flight.taken w.fill.taken more))
            (step_counts names w step place sound.1 sound.2 s.counts);
        most = s.most;
        disk = s.disk;
        behind = behind_as s.most after ((w.flight.notes ++ w.fill.notes) ++ new) (w.flight.notes ++ (w.fill.notes ++ new))
            ((w.flight.taken ++ w.fill.taken) ++ more) (w.flight.taken ++ (w.fill.taken ++ more))
            (append_assoc w.flight.notes w.fill.notes new) (append_assoc w.flight.taken w.fill.taken more)
            (behind_on s.most w.memory after (w.flight.notes ++ w.fill.notes) new (w.flight.taken ++ w.fill.taken) more s.behind up);
        most_too = s.most_too;
        whole = s.whole;
        behind_too = behind_on s.most_too w.memory after w.fill.notes new w.fill.taken more s.behind_too up;
        one = step_used names w.memory step sound.1 s.one;
        idle = s.idle;
      };
    }

enters_next : (names : Names) (w : World) (given : List Message) → Stands w → Next (world_after names w (Enters given))
enters_next names w given s =
    let r = s.recovered in
    record {
      world = _;
      is = refl;
      stands = record {
        recovered = record {
          told = r.told;
          point = r.point;
          in_order = r.in_order;
          reads = ap (λ l. reads_all (Some (start r.told)) (w.disk.notes ++ (w.flight.notes ++ l))) (append-nil w.fill.notes)
              ∙ r.reads;
          agrees = r.agrees;
        };
        counts = subst (λ l. CountsIn w.memory (w.disk.taken ++ (w.flight.taken ++ l))) (sym (append-nil w.fill.taken)) s.counts;
        most = s.most;
        disk = s.disk;
        behind = behind_as s.most w.memory (w.flight.notes ++ w.fill.notes) (w.flight.notes ++ (w.fill.notes ++ []))
            (w.flight.taken ++ w.fill.taken) (w.flight.taken ++ (w.fill.taken ++ []))
            (ap (λ l. w.flight.notes ++ l) (sym (append-nil w.fill.notes)))
            (ap (λ l. w.flight.taken ++ l) (sym (append-nil w.fill.taken))) s.behind;
        most_too = s.most_too;
        whole = s.whole;
        behind_too = behind_as s.most_too w.memory w.fill.notes (w.fill.notes ++ []) w.fill.taken (w.fill.taken ++ [])
            (sym (append-nil w.fill.notes)) (sym (append-nil w.fill.taken)) s.behind_too;
        one = s.one;
        idle = s.idle;
      };
    }

-- The session is told.
tells_stand : (names : Names) (w : World) (moment : ℕ) (ws : List Message) → w.waiting ≡ ws → Stands w
    → IsSoundAct w (Tells moment) → Stands (told_first names w moment ws)
tells_stand names w moment [] e s sound = s
tells_stand names w moment (x ∷ xs) e s sound =
    let r = s.recovered in
    let read = told_read names r.point w.memory moment x sound r.agrees in
    let after = memory_after names w.memory (Told moment x) in
    let up = told_up names w.memory moment x in
    record {
      recovered = record {
        told = r.told ++ (x ∷ []);
        point = read.end;
        in_order = append_assoc r.told (x ∷ []) xs ∙ (ap (λ l. r.told ++ l) (sym e) ∙ r.in_order);
        reads = reads_with r.told (x ∷ []) (all_notes w) r.point r.reads ∙ read.reads;
        agrees = read.agrees;
      };
      counts = told_counts names w.memory moment x (all_taken w) s.counts;
      most = s.most;
      disk = s.disk;
      behind = behind_up s.most w.memory after (w.flight.notes ++ w.fill.notes) (w.flight.taken ++ w.fill.taken) up s.behind;
      most_too = s.most_too;
      whole = s.whole;
      behind_too = behind_up s.most_too w.memory after w.fill.notes w.fill.taken up s.behind_too;
      one = told_used names w.memory moment x s.one;
      idle = s.idle;
    }

-- A commit.

-- what is filled, where nothing is being committed
abbrev filled : World → World
filled w = record w {
  flight = w.fill;
  fill = nothing;
  waiting = w.waiting ++ w.fill.given;
  is_committing = true;
}

filled_stands : (w : World) → Stands w → w.is_committing ≡ false → Stands (filled w)
filled_stands w s h =
    let r = s.recovered in
    let idle = s.idle h in
    let recovered : IsRecovered (filled w) = record {
      told = r.told;
      point = r.point;
      in_order = sym (append_assoc r.told w.waiting w.fill.given)
          ∙ ap (λ l. l ++ w.fill.given)
          (r.in_order ∙ (ap (λ (f : Part). w.disk.given ++ f.given) idle ∙ append-nil w.disk.given));
      reads = ap (λ l. reads_all (Some (start r.told)) (w.disk.notes ++ l))
          (append-nil w.fill.notes ∙ ap (λ (f : Part). f.notes ++ w.fill.notes) (sym idle))
          ∙ r.reads;
      agrees = r.agrees;
    } in
    let counts : CountsIn w.memory (w.disk.taken ++ (w.fill.taken ++ [])) =
    subst (λ l. CountsIn w.memory (w.disk.taken ++ l))
    (sym (append-nil w.fill.taken ∙ ap (λ (f : Part). f.taken ++ w.fill.taken) (sym idle))) s.counts in
    record {
      recovered = recovered;
      counts = counts;
      most = s.most;
      disk = s.disk;
      behind = behind_as s.most w.memory w.fill.notes (w.fill.notes ++ []) w.fill.taken (w.fill.taken ++ [])
          (sym (append-nil w.fill.notes)) (sym (append-nil w.fill.taken))
          (subst (λ (f : Part). IsBehind s.most w.memory (f.notes ++ w.fill.notes) (f.taken ++ w.fill.taken)) idle s.behind);
      most_too = w.memory.session.day.expected;
      behind_too = λ keeping. (omega arith, tt);
      whole = full_countable w.memory (w.waiting ++ w.fill.given) w.disk w.fill recovered counts;
      one = s.one;
      idle = λ g. absurd (false≢true (sym g));
    }

begins_stand : (w : World) (b : Bool) → w.is_committing ≡ b → Stands w → Stands (if b then w else filled w)
begins_stand w true e s = s
begins_stand w false e s = filled_stands w s e

ends_next : (names : Names) (w : World) → Stands w → Next (world_after names w Ends)
ends_next names w s =
    let r = s.recovered in
    record {
      world = _;
      is = refl;
      stands = record {
        recovered = record {
          told = r.told;
          point = r.point;
          in_order = r.in_order ∙ sym (append-nil (w.disk.given ++ w.flight.given));
          reads = ap (λ l. reads_all (Some (start r.told)) l) (append_assoc w.disk.notes w.flight.notes w.fill.notes) ∙ r.reads;
          agrees = r.agrees;
        };
        counts = subst (λ ts. CountsIn w.memory ts) (sym (append_assoc w.disk.taken w.flight.taken w.fill.taken)) s.counts;
        most = s.most_too;
        disk = s.whole;
        behind = s.behind_too;
        most_too = s.most_too;
        whole = countable_still (joined w.disk w.flight) s.most_too s.whole;
        behind_too = s.behind_too;
        one = s.one;
        idle = λ g. refl;
      };
    }

-- what the next gateway finds
abbrev pub most_of : {w : World} → Stands w → Bool → ℕ
most_of s is_there = if is_there then s.most_too else s.most

pub found_countable : (w : World) (is_there : Bool) (s : Stands w) → Countable (found w.disk w.flight is_there) (most_of s is_there)
found_countable w true s = s.whole
found_countable w false s = s.disk

found_behind : (w : World) (is_there : Bool) (s : Stands w) → IsBehind (most_of s is_there) w.memory (lost w is_there) (lost_taken w is_there)
found_behind w true s = s.behind_too
found_behind w false s = s.behind

-- Every act, and every list of them.

pub act_next : (names : Names) (w : World) (act : Act) → Stands w → IsSoundAct w act → Next (world_after names w act)
act_next names w (Moves step place given) s sound = moves_next names w step place given s sound
act_next names w (Enters given) s sound = enters_next names w given s
act_next names w (Tells moment) s sound = record {
  world = told_first names w moment w.waiting;
  is = refl;
  stands = tells_stand names w moment w.waiting refl s sound;
}
act_next names w Begins s sound = record { world = begins w; is = refl; stands = begins_stand w w.is_committing refl s }
act_next names w Ends s sound = ends_next names w s
act_next names w (Stops is_there) s sound =
    let b = starts_well (found w.disk w.flight is_there) (most_of s is_there) (found_countable w is_there s) in
    record { world = b.world; is = b.is; stands = b.stands }

pub acts_next : (names : Names) (acts : List Act) (v : World) → Stands v → AreSoundActs names (Some v) acts
    → Next (world_after_all names (Some v) acts)
acts_next names [] v s sound = record { world = v; is = refl; stands = s }
acts_next names (act ∷ acts) v s sound =
    let one = act_next names v act s sound.0 in
    let rest = acts_next names acts one.world one.stands (subst (λ o. AreSoundActs names o acts) one.is sound.1) in
    record {
      world = rest.world;
      is = ap (λ o. world_after_all names o acts) one.is ∙ rest.is;
      stands = rest.stands;
    }

first_countable : Countable nothing 1
first_countable = record {
  point = start [];
  reads = refl;
  rising = tt;
  used_up = λ h. absurd (false≢true h);
  noted = omega arith;
  entered = omega arith;
}

first_stands : Stands first_world
first_stands = record {
  recovered = record { told = []; point = start []; in_order = refl; reads = refl; agrees = fresh_is };
  counts = record { rising = tt; below = omega arith; was = λ h. refl };
  most = 1;
  disk = first_countable;
  behind = λ keeping. (omega arith, tt);
  most_too = 1;
  whole = first_countable;
  behind_too = λ keeping. (omega arith, tt);
  one = λ h. not_on h;
  idle = λ h. refl;
}

-- a start refuses nothing
pub all_start : (names : Names) (acts : List Act) → AreSoundActs names (Some first_world) acts
    → (w : World) × (world_after_all names (Some first_world) acts ≡ Some w)
all_start names acts sound =
    let next = acts_next names acts first_world first_stands sound in (next.world, next.is)

pub all_stand : (names : Names) (acts : List Act) (w : World) → AreSoundActs names (Some first_world) acts
    → world_after_all names (Some first_world) acts ≡ Some w → Stands w
all_stand names acts w sound h =
    let next = acts_next names acts first_world first_stands sound in
    subst Stands (same_Some next.world w (sym next.is ∙ h)) next.stands

pub all_recovered : (names : Names) (acts : List Act) (w : World) → AreSoundActs names (Some first_world) acts
    → world_after_all names (Some first_world) acts ≡ Some w → IsRecovered w
all_recovered names acts w sound h = (all_stand names acts w sound h).recovered

pub all_readable : (names : Names) (acts : List Act) (w : World) (is_there : Bool)
    → AreSoundActs names (Some first_world) acts → world_after_all names (Some first_world) acts ≡ Some w
    → IsReadable (found w.disk w.flight is_there)
all_readable names acts w is_there sound h =
    let s = all_stand names acts w sound h in
    readable (found w.disk w.flight is_there) (most_of s is_there) (found_countable w is_there s)

-- The entries of the firm.

pub taken_once : (names : Names) (acts : List Act) (w : World) → AreSoundActs names (Some first_world) acts
    → world_after_all names (Some first_world) acts ≡ Some w → AreRising w.memory.since 0 (all_taken w)
taken_once names acts w sound h = (all_stand names acts w sound h).counts.rising

pub taken_below : (names : Names) (acts : List Act) (w : World) → AreSoundActs names (Some first_world) acts
    → world_after_all names (Some first_world) acts ≡ Some w
    → last_from w.memory.since 0 (all_taken w) < w.memory.session.day.expected
taken_below names acts w sound h = (all_stand names acts w sound h).counts.below

asked_again : (names : Names) (w v : World) (is_there : Bool) → Stands w → world_after names w (Stops is_there) ≡ Some v
    → AreKeeping (lost w is_there) → AreFrom v.memory.session.day.expected (lost_taken w is_there)
asked_again names w v is_there s h keeping =
    let most = most_of s is_there in
    let b = starts_well (found w.disk w.flight is_there) most (found_countable w is_there s) in
    let up = b.expects in
    let same = same_Some b.world v (sym b.is ∙ h) in
    let less : v.memory.session.day.expected ≤ most = subst (λ (u : World). u.memory.session.day.expected ≤ most) same up in
    from_down v.memory.session.day.expected most (lost_taken w is_there) less (found_behind w is_there s keeping).1

pub all_again : (names : Names) (acts : List Act) (w v : World) (is_there : Bool) → AreSoundActs names (Some first_world) acts
    → world_after_all names (Some first_world) acts ≡ Some w → world_after names w (Stops is_there) ≡ Some v
    → AreKeeping (lost w is_there) → AreFrom v.memory.session.day.expected (lost_taken w is_there)
all_again names acts w v is_there sound h after keeping =
    asked_again names w v is_there (all_stand names acts w sound h) after keeping
