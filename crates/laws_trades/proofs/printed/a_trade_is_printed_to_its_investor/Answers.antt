use Rattle.laws_trades.proofs.PrintedDays.{printed_of}
use Rattle.laws_trades.proofs.printed.a_trade_is_printed_to_its_investor.Goals as goal

pub returns : goal.returns
returns c config steps investor investor_row dealer before later room is hits =
    printed_of config investor investor_row is dealer steps before later room hits
