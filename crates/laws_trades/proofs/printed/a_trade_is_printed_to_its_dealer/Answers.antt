use Rattle.laws_trades.proofs.NoticedDays.{noticed_of}
use Rattle.laws_trades.proofs.printed.a_trade_is_printed_to_its_dealer.Goals as goal

pub returns : goal.returns
returns c config steps dealer dealer_row investor before later room is notices =
    noticed_of config dealer dealer_row is investor c.the_same_facts_have_the_same_notes.ensures steps
    before later room notices
