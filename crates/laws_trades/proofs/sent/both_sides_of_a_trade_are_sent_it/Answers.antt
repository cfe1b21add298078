use Rattle.std.proofs.Common.{List}
use Rattle.venue_rows.specs.Rows.{Configuration}
use Rattle.step_replay.specs.AuditTrail.{audit_trail}
use Rattle.step_replay.specs.declared.steps.Step.{Step}
use Rattle.laws_days.proofs.VenueDay.{venue_ok}
use Rattle.laws_shown.proofs.LawfulFields.{frame_value}
use Rattle.laws_shown.proofs.ReadBack.{date_value}
use Rattle.laws_shown.proofs.ShownLaws.{quote_accepted, request_accepted}
use Rattle.laws_trades.proofs.QuoteNumbers.{quotes_fit}
use Rattle.laws_trades.proofs.SentNotices.{messages_fit}
use Rattle.laws_trades.proofs.SentTrades.{WroteValues, answer_is, notice_is_of}
use Rattle.laws_trades.proofs.TradeDay.{trade_ok}
use Rattle.laws_trades.proofs.sent.both_sides_of_a_trade_are_sent_it.Goals as goal

-- each request and each quote was accepted as it came, in a frame
wrote_values : (config : Configuration) (steps : List Step)
    → WroteValues (audit_trail config steps).facts
wrote_values config steps = record {
  ids = λ investor asked among.
      let is = request_accepted config steps investor asked among in
      frame_value is.came.bytes is.asked 131 asked.id is.came.frame is.says.id;
  bonds = λ investor asked among.
      let is = request_accepted config steps investor asked among in
      frame_value is.came.bytes is.asked 48 asked.ask.bond is.came.frame is.says.bond;
  quotes = λ dealer quote among.
      let is = (quote_accepted config steps dealer quote among).is_written.is_quote in
      frame_value is.came.bytes is.wrote 117 quote.id is.came.frame is.says.id;
}

pub returns-clause-answers : goal.returns-clause-answers
returns-clause-answers c config steps investor investor_row message limits date idle is among fields read
    answers =
    let lone = c.limits_are_kept.ensures.lone in
    let asked = c.what_is_asked_is_of_the_day.ensures in
    answer_is limits (date_value config.date date) (wrote_values config steps)
    (venue_ok lone record { asks = asked.message; drops = asked.drop } config steps)
    (trade_ok lone record { asks = asked.message; drops = asked.drop } config steps)
    (quotes_fit config steps) idle investor investor_row message is among fields read answers

pub returns-clause-notices : goal.returns-clause-notices
returns-clause-notices c config steps dealer dealer_row message limits date idle is among fields read
    notes =
    let lone = c.limits_are_kept.ensures.lone in
    let asked = c.what_is_asked_is_of_the_day.ensures in
    notice_is_of limits (date_value config.date date) (wrote_values config steps)
    (venue_ok lone record { asks = asked.message; drops = asked.drop } config steps)
    (trade_ok lone record { asks = asked.message; drops = asked.drop } config steps)
    (quotes_fit config steps) idle dealer dealer_row message is
    (messages_fit config steps dealer dealer_row is) among fields read notes
