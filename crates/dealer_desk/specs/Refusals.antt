-- Why a dealer's message is refused: the codes that its report bears for each reason, and the
-- reason's name.
use Rattle.std.specs.Prelude.{ℕ, List, codes}
use Rattle.quote_messages.specs.declared.out_messages.CancelStatus.{CancelStatus}
use Rattle.quote_messages.specs.declared.out_messages.CancelStatus.TheVariants as status
use Rattle.quote_messages.specs.declared.reject_reasons.QuoteRejectReason.{QuoteRejectReason}
use Rattle.quote_messages.specs.declared.reject_reasons.QuoteRejectReason.TheVariants as reason
use Rattle.dealer_desk.specs.declared.refusals.QuoteRefusal.{QuoteRefusal}
use Rattle.dealer_desk.specs.declared.refusals.QuoteRefusal.TheVariants as no_quote
use Rattle.dealer_desk.specs.declared.refusals.CancelRefusal.{CancelRefusal}
use Rattle.dealer_desk.specs.declared.refusals.CancelRefusal.TheVariants as no_cancel
use Rattle.dealer_desk.specs.declared.refusals.DeclineRefusal.{DeclineRefusal}
use Rattle.dealer_desk.specs.declared.refusals.DeclineRefusal.TheVariants as no_decline
use Rattle.dealer_desk.specs.declared.refusals.DealerRefusal.{DealerRefusal}
use Rattle.dealer_desk.specs.declared.refusals.DealerRefusal.TheVariants as refused

-- Quotes: QuoteRejectReason (300), and the name.

abbrev pub quote_reason : QuoteRefusal → QuoteRejectReason
quote_reason no_quote.UnknownRequest = reason.Other
quote_reason no_quote.Declined = reason.Other
quote_reason no_quote.Closed = reason.TooLate
quote_reason no_quote.DeadlinePassed = reason.TooLate
quote_reason no_quote.OtherBond = reason.UnknownSymbol
quote_reason no_quote.InvalidPrice = reason.InvalidPrice
quote_reason no_quote.OutsideBand = reason.InvalidPrice
quote_reason no_quote.OtherQuantity = reason.Other
quote_reason no_quote.NotTradeable = reason.Other
quote_reason no_quote.DuplicateQuote = reason.DuplicateQuote
quote_reason no_quote.ValidityPassed = reason.Other
quote_reason no_quote.QuotesUsedUp = reason.ExceedsLimit
quote_reason no_quote.ExposureExceeded = reason.ExceedsLimit
quote_reason no_quote.Lifted = reason.TooLate

abbrev pub quote_refusal_name : QuoteRefusal → List ℕ
quote_refusal_name no_quote.UnknownRequest = codes "UnknownRequest"
quote_refusal_name no_quote.Declined = codes "Declined"
quote_refusal_name no_quote.Closed = codes "Closed"
quote_refusal_name no_quote.DeadlinePassed = codes "DeadlinePassed"
quote_refusal_name no_quote.OtherBond = codes "OtherBond"
quote_refusal_name no_quote.InvalidPrice = codes "InvalidPrice"
quote_refusal_name no_quote.OutsideBand = codes "OutsideBand"
quote_refusal_name no_quote.OtherQuantity = codes "OtherQuantity"
quote_refusal_name no_quote.NotTradeable = codes "NotTradeable"
quote_refusal_name no_quote.DuplicateQuote = codes "DuplicateQuote"
quote_refusal_name no_quote.ValidityPassed = codes "ValidityPassed"
quote_refusal_name no_quote.QuotesUsedUp = codes "QuotesUsedUp"
quote_refusal_name no_quote.ExposureExceeded = codes "ExposureExceeded"
quote_refusal_name no_quote.Lifted = codes "Lifted"

-- Cancels: QuoteStatus (297) with QuoteRejectReason (300) where it is 5, and the name.

abbrev pub refused_cancel : CancelRefusal → CancelStatus
refused_cancel no_cancel.UnknownCancelType = status.Refused reason.Other
refused_cancel no_cancel.UnknownQuote = status.Unknown
refused_cancel no_cancel.Withdrawn = status.Refused reason.Other
refused_cancel no_cancel.Closed = status.Refused reason.TooLate
refused_cancel no_cancel.Lifted = status.Refused reason.TooLate
refused_cancel no_cancel.NothingToCancel = status.Unknown

abbrev pub cancel_refusal_name : CancelRefusal → List ℕ
cancel_refusal_name no_cancel.UnknownCancelType = codes "UnknownCancelType"
cancel_refusal_name no_cancel.UnknownQuote = codes "UnknownQuote"
cancel_refusal_name no_cancel.Withdrawn = codes "Withdrawn"
cancel_refusal_name no_cancel.Closed = codes "Closed"
cancel_refusal_name no_cancel.Lifted = codes "Lifted"
cancel_refusal_name no_cancel.NothingToCancel = codes "NothingToCancel"

-- Declines: QuoteRejectReason (300), and the name.

abbrev pub decline_reason : DeclineRefusal → QuoteRejectReason
decline_reason no_decline.UnknownRequest = reason.Other
decline_reason no_decline.Declined = reason.Other
decline_reason no_decline.Closed = reason.TooLate
decline_reason no_decline.LiveQuote = reason.Other

abbrev pub decline_refusal_name : DeclineRefusal → List ℕ
decline_refusal_name no_decline.UnknownRequest = codes "UnknownRequest"
decline_refusal_name no_decline.Declined = codes "Declined"
decline_refusal_name no_decline.Closed = codes "Closed"
decline_refusal_name no_decline.LiveQuote = codes "LiveQuote"

-- the name of whatever refuses a message
abbrev pub dealer_refusal_name : DealerRefusal → List ℕ
dealer_refusal_name (refused.Quote refusal) = quote_refusal_name refusal
dealer_refusal_name (refused.Cancel refusal) = cancel_refusal_name refusal
dealer_refusal_name (refused.Decline refusal) = decline_refusal_name refusal
