-- What is due to a dealer, as its own trail has it: each message of its own, each request that it
-- was shown, each lifting of a quote of its, each turn of a cancel of all, and each closing notice.
use Rattle.std.specs.Prelude.{List, filter_map, Option, Some, None}
use Rattle.dealer_desk.specs.DealerFacts.{DealerFact, Came, Shown, Told, Dropped}
use Rattle.step_replay.specs.DealerTrail.{DealerEntry, AtDesk, Lifted}
use Rattle.step_replay.specs.declared.dues.Due.{Due}
use Rattle.step_replay.specs.declared.dues.Due.TheVariants as due

-- what a fact of the desk says was due
abbrev pub due_by_fact : DealerFact → Option Due
due_by_fact (Came moment bytes used) = Some (due.Own moment bytes)
due_by_fact (Shown ask moment) = Some (due.Shown ask moment)
due_by_fact (Told request close moment) = Some (due.Closed request close moment)
due_by_fact (Dropped last moment) = Some (due.Drop last moment)
due_by_fact fact = None

-- what an entry says was due
abbrev pub due_by : DealerEntry → Option Due
due_by (AtDesk fact) = due_by_fact fact
due_by (Lifted quote) = Some (due.Lifted quote)
due_by entry = None

-- what was due to the dealer, in its order
abbrev pub due_list : List DealerEntry → List Due
due_list trail = filter_map due_by trail
