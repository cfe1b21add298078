-- What FIX messages bear of the terms: digits and names.
use Rattle.std.specs.Prelude.{ℕ, List, codes}
use Rattle.market_terms.specs.declared.asks.Side.{Side}
use Rattle.market_terms.specs.declared.asks.Side.TheVariants.{Buy, Sell}
use Rattle.market_terms.specs.declared.closes.Close.{Close}
use Rattle.market_terms.specs.declared.closes.Close.TheVariants as closes
use Rattle.market_terms.specs.declared.closes.HitRefusal.{HitRefusal}
use Rattle.market_terms.specs.declared.closes.HitRefusal.TheVariants as refusals

-- the digit of Side (54)
abbrev pub side_code : Side → ℕ
side_code Buy = 1
side_code Sell = 2

-- the digit of QuoteRespType (694)
abbrev pub close_code : Close → ℕ
close_code closes.Hit = 1
close_code closes.Expired = 3
close_code closes.Cover = 4
close_code closes.DoneAway = 5
close_code closes.Pass = 6

-- the Text (58) of a refused hit or pass
abbrev pub refusal_name : HitRefusal → List ℕ
refusal_name refusals.NotOpen = codes "NotOpen"
refusal_name refusals.Deadline = codes "Deadline"
refusal_name refusals.Gone = codes "Gone"
refusal_name refusals.Expired = codes "Expired"
refusal_name refusals.Withdrawn = codes "Withdrawn"
