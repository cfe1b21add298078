-- The venue of the worked days: three dealers, two investors, two bonds.
use Prim.Native.String.{String}
use Rattle.std.specs.Prelude.{[], ◌∷◌, codes}
use Rattle.std.proofs.Common.{arith}
use Rattle.bond_prices.specs.Band.{whole_band}
use Rattle.venue_rows.specs.Rows.{Configuration}
use Rattle.venue_rows.specs.declared.bond_rows.BondRow.{BondRow}
use Rattle.venue_rows.specs.declared.dealer_rows.DealerRow.{DealerRow}
use Rattle.venue_rows.specs.declared.investor_rows.InvestorRow.{InvestorRow}

-- The venue: three dealers, two investors, two bonds.

-- the first dealer
abbrev pub dlr1 : DealerRow
dlr1 = record {
  name = codes "DLR1";
  traders = codes "T1" ∷ [];
  quotes = 4;
  exposure = 10000000;
  has_trader = omega arith;
  quotes_from = omega arith;
  quotes_to = omega arith;
  exposure_from = omega arith;
  exposure_to = omega arith;
}

-- the same with one quote in its day
abbrev pub dlr1_of_one_quote : DealerRow
dlr1_of_one_quote = record {
  name = codes "DLR1";
  traders = codes "T1" ∷ [];
  quotes = 1;
  exposure = 10000000;
  has_trader = omega arith;
  quotes_from = omega arith;
  quotes_to = omega arith;
  exposure_from = omega arith;
  exposure_to = omega arith;
}

-- the second
abbrev pub dlr2 : DealerRow
dlr2 = record {
  name = codes "DLR2";
  traders = codes "T2" ∷ [];
  quotes = 4;
  exposure = 10000000;
  has_trader = omega arith;
  quotes_from = omega arith;
  quotes_to = omega arith;
  exposure_from = omega arith;
  exposure_to = omega arith;
}

-- the third
abbrev pub dlr3 : DealerRow
dlr3 = record {
  name = codes "DLR3";
  traders = codes "T3" ∷ [];
  quotes = 4;
  exposure = 10000000;
  has_trader = omega arith;
  quotes_from = omega arith;
  quotes_to = omega arith;
  exposure_from = omega arith;
  exposure_to = omega arith;
}

-- the first investor
abbrev pub inv1 : InvestorRow
inv1 = record {
  name = codes "INV1";
  traders = codes "T8" ∷ [];
  requests = 3;
  open_limit = 2;
  quantity = 5000000;
  has_trader = omega arith;
  requests_from = omega arith;
  requests_to = omega arith;
  open_limit_from = omega arith;
  open_limit_to = omega arith;
  quantity_from = omega arith;
  quantity_to = omega arith;
}

-- the same with one request in its day
abbrev pub inv1_of_one_request : InvestorRow
inv1_of_one_request = record {
  name = codes "INV1";
  traders = codes "T8" ∷ [];
  requests = 1;
  open_limit = 2;
  quantity = 5000000;
  has_trader = omega arith;
  requests_from = omega arith;
  requests_to = omega arith;
  open_limit_from = omega arith;
  open_limit_to = omega arith;
  quantity_from = omega arith;
  quantity_to = omega arith;
}

-- the second
abbrev pub inv2 : InvestorRow
inv2 = record {
  name = codes "INV2";
  traders = codes "T9" ∷ [];
  requests = 3;
  open_limit = 2;
  quantity = 5000000;
  has_trader = omega arith;
  requests_from = omega arith;
  requests_to = omega arith;
  open_limit_from = omega arith;
  open_limit_to = omega arith;
  quantity_from = omega arith;
  quantity_to = omega arith;
}

-- a bond with this identifier, on the finest grid and in the band of every price
abbrev pub bond : String → BondRow
bond id = record { id = codes id; grid = 256; band = whole_band }

-- the day of these two firms beside the others
abbrev pub venue_of : DealerRow → InvestorRow → Configuration
venue_of first investor = record {
  date = codes "20250314";
  bonds = bond "BONDA0000001" ∷ bond "BONDB0000002" ∷ [];
  dealers = first ∷ dlr2 ∷ dlr3 ∷ [];
  investors = investor ∷ inv2 ∷ [];
}

-- the venue of most days
abbrev pub venue : Configuration
venue = venue_of dlr1 inv1
