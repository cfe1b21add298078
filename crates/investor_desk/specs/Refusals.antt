-- Why a request is refused: what the investor is told, and the name of the line that refuses.
use Rattle.std.specs.Prelude.{ℕ, List, codes}
use Rattle.quote_messages.specs.declared.reject_reasons.RequestRejectReason.{RequestRejectReason}
use Rattle.quote_messages.specs.declared.reject_reasons.RequestRejectReason.TheVariants as told
use Rattle.investor_desk.specs.declared.refusals.RequestRefusal.{RequestRefusal}
use Rattle.investor_desk.specs.declared.refusals.RequestRefusal.TheVariants as refusal

-- the reason that the investor is told, QuoteRequestRejectReason (658)
abbrev pub request_reason : RequestRefusal → RequestRejectReason
request_reason refusal.DuplicateRequest = told.Other
request_reason refusal.UnknownBond = told.UnknownSymbol
request_reason refusal.QuantityExceeded = told.ExceedsLimit
request_reason refusal.NoDealer = told.Other
request_reason refusal.UnknownDealer = told.Other
request_reason refusal.DealerTwice = told.Other
request_reason refusal.TooManyDealers = told.Other
request_reason refusal.DeadlinePassed = told.TooLate
request_reason refusal.RequestsUsedUp = told.ExceedsLimit
request_reason refusal.TooManyOpen = told.ExceedsLimit

-- the name of the line of MARKET.md
abbrev pub refusal_name : RequestRefusal → List ℕ
refusal_name refusal.DuplicateRequest = codes "DuplicateRequest"
refusal_name refusal.UnknownBond = codes "UnknownBond"
refusal_name refusal.QuantityExceeded = codes "QuantityExceeded"
refusal_name refusal.NoDealer = codes "NoDealer"
refusal_name refusal.UnknownDealer = codes "UnknownDealer"
refusal_name refusal.DealerTwice = codes "DealerTwice"
refusal_name refusal.TooManyDealers = codes "TooManyDealers"
refusal_name refusal.DeadlinePassed = codes "DeadlinePassed"
refusal_name refusal.RequestsUsedUp = codes "RequestsUsedUp"
refusal_name refusal.TooManyOpen = codes "TooManyOpen"
