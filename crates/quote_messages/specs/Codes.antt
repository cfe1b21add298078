-- The numbers of reasons, as messages bear them.
use Rattle.std.specs.Prelude.{ℕ}
use Rattle.quote_messages.specs.declared.session_faults.SessionRejectReason.{SessionRejectReason}
use Rattle.quote_messages.specs.declared.session_faults.SessionRejectReason.TheVariants as session
use Rattle.quote_messages.specs.declared.reject_reasons.QuoteRejectReason.{QuoteRejectReason}
use Rattle.quote_messages.specs.declared.reject_reasons.QuoteRejectReason.TheVariants as quote
use Rattle.quote_messages.specs.declared.reject_reasons.RequestRejectReason.{RequestRejectReason}
use Rattle.quote_messages.specs.declared.reject_reasons.RequestRejectReason.TheVariants as request

-- the numbers of SessionRejectReason (373)
abbrev pub session_reject_code : SessionRejectReason → ℕ
session_reject_code session.RequiredTagMissing = 1
session_reject_code session.TagWithoutValue = 4
session_reject_code session.ValueIncorrect = 5
session_reject_code session.IncorrectDataFormat = 6
session_reject_code session.CompIdProblem = 9
session_reject_code session.InvalidMsgType = 11
session_reject_code session.TagMoreThanOnce = 13
session_reject_code session.IncorrectNumInGroup = 16

-- the numbers of QuoteRejectReason (300)
abbrev pub quote_reject_code : QuoteRejectReason → ℕ
quote_reject_code quote.UnknownSymbol = 1
quote_reject_code quote.ExceedsLimit = 3
quote_reject_code quote.TooLate = 4
quote_reject_code quote.DuplicateQuote = 6
quote_reject_code quote.InvalidPrice = 8
quote_reject_code quote.Other = 99

-- the numbers of QuoteRequestRejectReason (658)
abbrev pub request_reject_code : RequestRejectReason → ℕ
request_reject_code request.UnknownSymbol = 1
request_reject_code request.ExceedsLimit = 3
request_reject_code request.TooLate = 4
request_reject_code request.Other = 99
