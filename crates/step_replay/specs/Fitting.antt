-- Which events fit what stands at an investor's desk.
use Rattle.std.specs.Prelude.{Bool, true, ◌&&◌, None}
use Rattle.investor_desk.specs.InvestorFacts.{InvestorBook, knows}
use Rattle.investor_desk.specs.declared.events.InvestorEvent.{InvestorEvent}
use Rattle.investor_desk.specs.declared.events.InvestorEvent.TheVariants as event
use Rattle.venue_steps.specs.Replies.{replies_to}

-- Whether an event fits what stands at a desk with this book: it is of a request that was accepted,
-- and where it answers a response, of one that this request may have. A message of the investor's
-- own always fits.
abbrev pub fits : InvestorBook → InvestorEvent → Bool
fits book (event.Received moment bytes) = true
fits book (event.QuoteCame request offer moment) = knows book request None
fits book (event.QuoteGone request word moment) = knows book request None
fits book (event.DealerDeclined request dealer moment) = knows book request None
fits book (event.Answered request response reply moment) =
    knows book request response.k && replies_to response.k reply
fits book (event.Closed request moment) = knows book request None
