-- Which replies of a room answer which response.
use Rattle.std.specs.Prelude.{ℕ, Bool, true, false, Option, Some, None}
use Rattle.market_terms.specs.declared.closes.HitRefusal.{HitRefusal}
use Rattle.market_terms.specs.declared.closes.HitRefusal.TheVariants.{NotOpen}
use Rattle.market_terms.specs.declared.closes.Reply.{Reply}
use Rattle.market_terms.specs.declared.closes.Reply.TheVariants as reply

-- whether a refusal is that the request is not open
abbrev pub is_not_open : HitRefusal → Bool
is_not_open NotOpen = true
is_not_open refusal = false

-- whether a reply answers a hit: it is awarded or refused
abbrev pub replies_to_hit : Reply → Bool
replies_to_hit reply.Awarded = true
replies_to_hit reply.Passed = false
replies_to_hit (reply.Refused refusal) = true

-- whether a reply answers a pass: it is passed, or refused because the request is not open
abbrev pub replies_to_pass : Reply → Bool
replies_to_pass reply.Awarded = false
replies_to_pass reply.Passed = true
replies_to_pass (reply.Refused refusal) = is_not_open refusal

-- whether a reply answers a response, to this quote or to the request
abbrev pub replies_to : Option ℕ → Reply → Bool
replies_to (Some quote) reply = replies_to_hit reply
replies_to None reply = replies_to_pass reply
