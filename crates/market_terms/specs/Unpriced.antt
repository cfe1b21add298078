-- What the terms of the market say without prices, and whoever was the cover: a price is 0, and
-- Cover (694=4) is Done Away (694=5).
use Rattle.market_terms.specs.declared.closes.Close.{Close}
use Rattle.market_terms.specs.declared.closes.Close.TheVariants as closes
use Rattle.market_terms.specs.declared.duties.Duty.{Duty}
use Rattle.market_terms.specs.declared.duties.Duty.TheVariants as duty
use Rattle.market_terms.specs.declared.rooms.Offer.{Offer}

-- how a request ended for a dealer
abbrev pub uncovered : Close → Close
uncovered closes.Cover = closes.DoneAway
uncovered other = other

-- a quote as the investor sees it
abbrev pub unpriced_offer : Offer → Offer
unpriced_offer offer = record offer { price = 0 }

-- what is left to be done
abbrev pub unpriced_duty : Duty → Duty
unpriced_duty (duty.Post room quote price valid_until moment) =
    duty.Post room quote 0 valid_until moment
unpriced_duty (duty.Relay room offer moment) = duty.Relay room (unpriced_offer offer) moment
unpriced_duty (duty.Tell dealer room close moment) =
    duty.Tell dealer room (uncovered close) moment
unpriced_duty other = other
