-- The name of a duty and its moment, and the kinds of action that are none.
use Rattle.std.specs.Prelude.{ℕ, Bool, true, false}
use Rattle.market_terms.specs.declared.duties.Duty.{Duty}
use Rattle.market_terms.specs.declared.duties.Duty.TheVariants as duty
use Rattle.recorded_days.specs.declared.actions.Kind.{Kind}
use Rattle.recorded_days.specs.declared.actions.Kind.TheVariants as kind

-- the name of a duty
abbrev pub kind_of : Duty → Kind
kind_of (duty.Open room ask dealers moment) = kind.Open
kind_of (duty.Show dealer room ask moment) = kind.Show
kind_of (duty.Ready room moment) = kind.Ready
kind_of (duty.Post room quote price valid_until moment) = kind.Post
kind_of (duty.Relay room offer moment) = kind.Relay
kind_of (duty.Unpost room quote moment) = kind.Unpost
kind_of (duty.Gone room word moment) = kind.Gone
kind_of (duty.Decline room moment) = kind.Decline
kind_of (duty.Declined room moment) = kind.Declined
kind_of (duty.Hit room response word moment) = kind.Hit
kind_of (duty.Pass room response moment) = kind.Pass
kind_of (duty.Answer room response reply moment) = kind.Answer
kind_of (duty.Close room moment) = kind.Close
kind_of (duty.Tell dealer room close moment) = kind.Tell
kind_of (duty.Drop last moment) = kind.Drop

-- the moment that a duty bears
abbrev pub moment_of : Duty → ℕ
moment_of (duty.Open room ask dealers moment) = moment
moment_of (duty.Show dealer room ask moment) = moment
moment_of (duty.Ready room moment) = moment
moment_of (duty.Post room quote price valid_until moment) = moment
moment_of (duty.Relay room offer moment) = moment
moment_of (duty.Unpost room quote moment) = moment
moment_of (duty.Gone room word moment) = moment
moment_of (duty.Decline room moment) = moment
moment_of (duty.Declined room moment) = moment
moment_of (duty.Hit room response word moment) = moment
moment_of (duty.Pass room response moment) = moment
moment_of (duty.Answer room response reply moment) = moment
moment_of (duty.Close room moment) = moment
moment_of (duty.Tell dealer room close moment) = moment
moment_of (duty.Drop last moment) = moment

-- whether a kind is that of a message which comes to a desk
abbrev pub is_in : Kind → Bool
is_in kind.In = true
is_in other = false

-- whether it is that of a sweep
abbrev pub is_expire : Kind → Bool
is_expire kind.Expire = true
is_expire other = false
