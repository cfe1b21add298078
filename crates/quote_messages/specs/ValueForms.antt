-- The forms of values: what the value of a tag has to be, and what is wrong with one that is not.
use Rattle.std.specs.Prelude.{ℕ, ◌==◌, List, Option, Some, None, is_some, Result, Ok, Err}
use Rattle.std.specs.Prelude.{if◌then◌else◌}
use Rattle.std.specs.List.{list_all, list_any, before_first, after_first}
use Rattle.std.specs.Str.Parse.{digits_value}
use Rattle.bond_prices.specs.Price.{price_of}
use Rattle.bond_prices.specs.declared.fault.PriceFault.{PriceFault}
use Rattle.bond_prices.specs.declared.fault.PriceFault.TheVariants.{Form as PriceForm, Range, Grid}
use Rattle.fix_fields.specs.UtcTimestamp.{moment_of}
use Rattle.fix_fields.specs.declared.fault.MomentFault.{MomentFault}
use Rattle.fix_fields.specs.declared.fault.MomentFault.TheVariants.{Form as MomentForm, OtherDay}
use Rattle.venue_rows.specs.Texts.{is_among}
use Rattle.market_terms.specs.Texts.{is_id, is_quantity}
use Rattle.quote_messages.specs.Texts.{number_of, is_point, has_quantity_form}
use Rattle.quote_messages.specs.declared.session_faults.SessionRejectReason.{SessionRejectReason}
use Rattle.quote_messages.specs.declared.session_faults.SessionRejectReason.TheVariants.{ValueIncorrect}
use Rattle.quote_messages.specs.declared.session_faults.SessionRejectReason.TheVariants.{IncorrectDataFormat}

-- what the value of a tag has to be
pub data ValueRule : Type 0 where
  AnyText : ValueRule  -- any value but the empty one
  AnId : ValueRule  -- 1 to 40 printing characters
  ANumber : ValueRule  -- 1 to 9 digits
  APrice : ValueRule  -- the form of a price, whatever its value
  AQuantity : ValueRule  -- a whole quantity within its limits
  AMoment : ValueRule  -- a moment of the day
  -- one of these texts, and else this reason
  OneOf : List (List ℕ) → SessionRejectReason → ValueRule
  -- 1 to 9 digits that write one of these numbers, and else this reason
  NumberIs : List ℕ → SessionRejectReason → ValueRule

-- a whole number within the limits, and else the reason
abbrev pub quantity_in_limits : ℕ → Result ℕ SessionRejectReason
quantity_in_limits units = if is_quantity units then Ok units else Err ValueIncorrect

-- the digits before the point and those behind it: a quantity is whole where those behind it are
-- zeros
abbrev pub quantity_of_digits : List ℕ → List ℕ → Result ℕ SessionRejectReason
quantity_of_digits whole decimals =
    if has_quantity_form whole decimals
    then (if list_all (λ c. c == 48) decimals
    then quantity_in_limits (digits_value 10 whole)
    else Err ValueIncorrect)
    else Err IncorrectDataFormat

-- the quantity that a text is, or the reason why it is none
unfoldable pub quantity_of : List ℕ → Result ℕ SessionRejectReason
quantity_of text = quantity_of_digits (before_first is_point text) (after_first is_point text)

-- a price of another form is a fault of the session; one out of range or off the grid is not
abbrev pub price_fault : Result ℕ PriceFault → Option SessionRejectReason
price_fault (Ok price) = None
price_fault (Err PriceForm) = Some IncorrectDataFormat
price_fault (Err Range) = None
price_fault (Err Grid) = None

-- a moment of another form, and one of another day
abbrev pub moment_fault : Result ℕ MomentFault → Option SessionRejectReason
moment_fault (Ok moment) = None
moment_fault (Err MomentForm) = Some IncorrectDataFormat
moment_fault (Err OtherDay) = Some ValueIncorrect

-- a quantity of another form, and one that is not whole or out of its limits
abbrev pub quantity_fault : Result ℕ SessionRejectReason → Option SessionRejectReason
quantity_fault (Ok units) = None
quantity_fault (Err reason) = Some reason

-- a text that writes no number has another form
abbrev pub number_fault : List ℕ → SessionRejectReason → Option ℕ → Option SessionRejectReason
number_fault numbers reason None = Some IncorrectDataFormat
number_fault numbers reason (Some number) =
    if list_any (λ n. n == number) numbers then None else Some reason

-- what is wrong with a value, if anything is
abbrev pub value_fault : List ℕ → ValueRule → List ℕ → Option SessionRejectReason
value_fault date AnyText value = None
value_fault date AnId value = if is_id value then None else Some IncorrectDataFormat
value_fault date ANumber value = if is_some (number_of value) then None
    else Some IncorrectDataFormat
value_fault date APrice value = price_fault (price_of value)
value_fault date AQuantity value = quantity_fault (quantity_of value)
value_fault date AMoment value = moment_fault (moment_of date value)
value_fault date (OneOf texts reason) value = if is_among texts value then None else Some reason
value_fault date (NumberIs numbers reason) value = number_fault numbers reason (number_of value)
