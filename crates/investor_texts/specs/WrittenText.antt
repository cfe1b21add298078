-- An investor's due text as it is written.
use Rattle.std.specs.Prelude.{ℕ, List, [], ◌∷◌, ◌++◌, codes, decimal, Option, Some, None}
use Rattle.std.specs.List.{flat_map}
use Rattle.bond_prices.specs.Price.{price_digits}
use Rattle.fix_fields.specs.TimeOfDay.{time_text}
use Rattle.market_terms.specs.Codes.{refusal_name}
use Rattle.market_terms.specs.declared.closes.Reply.{Reply}
use Rattle.market_terms.specs.declared.closes.Reply.TheVariants as reply
use Rattle.market_terms.specs.declared.rooms.ResponseRef.{ResponseRef}
use Rattle.venue_rows.specs.declared.bond_rows.BondRow.{BondRow}
use Rattle.venue_rows.specs.declared.investor_rows.InvestorRow.{InvestorRow}
use Rattle.investor_views.specs.InvestorView.{SeenMarket}
use Rattle.investor_views.specs.declared.dues.InvestorDue.{InvestorDue}
use Rattle.investor_views.specs.declared.dues.InvestorDue.TheVariants as due
use Rattle.venue_text.specs.DueCommand.{date_line}
use Rattle.venue_text.specs.DueCuts.{parts_behind}
use Rattle.venue_text.specs.WrittenDues.{band_text, own_line}

-- What the investor sees.

-- `investor NAME REQUESTS OPEN QUANTITY`
abbrev pub limits_text : InvestorRow → List ℕ
limits_text row =
    codes "investor " ++ row.name ++ 32 ∷ decimal row.requests ++ 32 ∷ decimal row.open_limit
    ++ 32 ∷ decimal row.quantity

-- `investor NAME REQUESTS OPEN QUANTITY TRADER ..`
abbrev pub row_line : InvestorRow → List ℕ
row_line row = limits_text row ++ parts_behind row.traders ++ 10 ∷ []

-- `bond BOND GRID`, and LOW HIGH where not every price is in the band
abbrev pub bond_line : BondRow → List ℕ
bond_line bond = codes "bond " ++ bond.id ++ 32 ∷ decimal bond.grid ++ band_text bond.band
    ++ 10 ∷ []

-- `dealer NAME`
abbrev pub dealer_line : List ℕ → List ℕ
dealer_line name = codes "dealer " ++ name ++ 10 ∷ []

-- the lines of all that it sees
abbrev pub seen_text : SeenMarket → List ℕ
seen_text seen =
    date_line seen.date ++ row_line seen.row ++ flat_map bond_line seen.bonds
    ++ flat_map dealer_line seen.dealers

-- Items.

-- UNTIL, or K, behind its space, where it is given
unfoldable pub until_text : Option ℕ → List ℕ
until_text None = []
until_text (Some moment) = 32 ∷ time_text moment

unfoldable pub quote_text : Option ℕ → List ℕ
quote_text None = []
quote_text (Some quote) = 32 ∷ decimal quote

-- REPLY
unfoldable pub reply_text : Reply → List ℕ
reply_text reply.Awarded = codes "Awarded"
reply_text reply.Passed = codes "Passed"
reply_text (reply.Refused refusal) = refusal_name refusal

-- `quoted N DEALER PRICE TIME`, and UNTIL where it is given
unfoldable pub quoted_line : ℕ → List ℕ → ℕ → Option ℕ → ℕ → List ℕ
quoted_line request dealer price valid_until moment =
    codes "quoted " ++ decimal request ++ 32 ∷ dealer ++ 32 ∷ price_digits price
    ++ 32 ∷ time_text moment ++ until_text valid_until ++ 10 ∷ []

-- `gone N K TIME`
unfoldable pub gone_line : ℕ → ℕ → ℕ → List ℕ
gone_line request quote moment =
    codes "gone " ++ decimal request ++ 32 ∷ decimal quote ++ 32 ∷ time_text moment ++ 10 ∷ []

-- `declined N DEALER TIME`
unfoldable pub declined_line : ℕ → List ℕ → ℕ → List ℕ
declined_line request dealer moment =
    codes "declined " ++ decimal request ++ 32 ∷ dealer ++ 32 ∷ time_text moment ++ 10 ∷ []

-- `answered N ID REPLY TIME`, and K where it is a hit
unfoldable pub answered_line : ℕ → ResponseRef → Reply → ℕ → List ℕ
answered_line request response reply moment =
    codes "answered " ++ decimal request ++ 32 ∷ response.id ++ 32 ∷ reply_text reply
    ++ 32 ∷ time_text moment ++ quote_text response.k ++ 10 ∷ []

-- `expired N TIME`
unfoldable pub expired_line : ℕ → ℕ → List ℕ
expired_line request moment =
    codes "expired " ++ decimal request ++ 32 ∷ time_text moment ++ 10 ∷ []

-- an item of what is due as its line of due text
abbrev pub item_line : InvestorDue → List ℕ
item_line (due.Own moment message) = own_line moment message
item_line (due.Offered request dealer price valid_until moment) =
    quoted_line request dealer price valid_until moment
item_line (due.Gone request quote moment) = gone_line request quote moment
item_line (due.Declined request dealer moment) = declined_line request dealer moment
item_line (due.Answered request response reply moment) =
    answered_line request response reply moment
item_line (due.Expired request moment) = expired_line request moment

-- a list of what is due, a line an item
abbrev pub item_lines : List InvestorDue → List ℕ
item_lines dues = flat_map item_line dues

-- the due text of an investor's day
abbrev pub investor_text : SeenMarket → List InvestorDue → List ℕ
investor_text seen dues = seen_text seen ++ item_lines dues
