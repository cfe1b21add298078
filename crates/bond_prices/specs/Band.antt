-- Bands of prices: the lowest and the highest that a bond is quoted at.
use Rattle.std.specs.Prelude.{ℕ, ◌==◌, ◌&&◌, Bool, nat_le}
use Rattle.bond_prices.specs.declared.band.Band.{Band}

-- the band in which every price is
abbrev pub whole_band : Band
whole_band = record { low = 1; high = 255999 }

-- whether two bands have the same ends
abbrev pub same_band : Band → Band → Bool
same_band one other = (one.low == other.low) && (one.high == other.high)

-- whether a band is that of every price
abbrev pub is_whole : Band → Bool
is_whole band = same_band band whole_band

-- whether a price of n 256ths is in a band: neither below its lowest nor above its highest
abbrev pub in_band : ℕ → Band → Bool
in_band n band = nat_le band.low n && nat_le n band.high
