use Rattle.std.specs.Prelude.{slice_get}
use Rattle.laws_dues.proofs.ReadAgain.{found_named, none_found, none_there}
use Rattle.laws_dues.proofs.read_again.trader_is_named.Goals as goal

pub returns-in_default : goal.returns-in_default
returns-in_default c name at =
    none_there (slice_get c.args.traders.now c.args.place) name c.in_default.ensures at

pub returns-in_default-find : goal.returns-in_default-find
returns-in_default-find c name at =
    none_found c.args.traders.now c.args.place c.in-Some.text.now c.in-Some.ensures
    c.in_default-find.ensures

pub returns : goal.returns
returns c name at =
    found_named c.args.traders.now c.args.place c.in-Some.text.now c.in-Some-find.name name
    c.in-Some.ensures c.in-Some-find.ensures c.as_bytes.ensures.named at
