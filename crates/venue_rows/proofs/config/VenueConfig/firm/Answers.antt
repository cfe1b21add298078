use Rattle.venue_rows.proofs.config.VenueConfig.firm.Goals as goal

pub returns : goal.returns
returns c = rw (c.dealers.ensures.value, c.investors.ensures.value, c.as_bytes.ensures.value) at c.firm_number.ensures
