-- The date and the row that every message is checked for.
use Rattle.std.proofs.Common.{◌≡◌, ℕ, true, List, [], ◌∷◌, refl}
use Rattle.std.specs.Prelude.{codes}
use Rattle.fix_fields.specs.Frame.{Field}
use Rattle.fix_fields.specs.UtcTimestamp.{is_date}
use Rattle.venue_rows.specs.declared.dealer_rows.DealerRow.{DealerRow}
use Rattle.quote_messages.specs.SessionChecks.{dealer_session_verdict}
use Rattle.quote_messages_c.specs.Checked.{verdict_of}

pub is_the_day : is_date (codes "20250314") ≡ true
unfolding is_date
is_the_day = refl

pub is_the_verdict : (date : List ℕ) (row : DealerRow) (fields : List Field) → date ≡ codes "20250314"
    → row.name ≡ codes "DLR1" → row.traders ≡ codes "T1" ∷ []
    → dealer_session_verdict date row fields ≡ verdict_of fields
unfolding dealer_session_verdict
is_the_verdict date row fields day name traders = rw (day, name, traders) refl
