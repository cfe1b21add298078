-- A hit that awards is taken by an open room.
use Rattle.std.proofs.Common.{◌≡◌, ℕ, Bool, true, false, not, List, ◌∷◌, Option, Some, None}
use Rattle.std.proofs.Common.{Ok, refl}
use Rattle.market_terms.specs.declared.closes.HitRefusal.{HitRefusal}
use Rattle.market_terms.specs.declared.closes.HitRefusal.TheVariants as refusal
use Rattle.quote_word.specs.declared.settled.Settled.{Settled}
use Rattle.request_room.specs.declared.ends.End.{End}
use Rattle.request_room.specs.RoomFacts.{RoomFact, is_open}
use Rattle.market_terms.specs.Checks.{first_refusal}
use Rattle.request_room.specs.Book.{open_checks, hit_refusal, hit_settled}

pub refused_none : (refused : Option HitRefusal) (settlement : Option Settled) (award award' : End)
    → hit_settled refused settlement award ≡ Ok award' → refused ≡ None
refused_none None settlement award award' h = refl
refused_none (Some refused) settlement award award' h = absurd (cc)

open_first : (is_so : Bool) (checks : List (Bool × HitRefusal))
    → first_refusal ((not is_so, refusal.NotOpen) ∷ checks) ≡ None → is_so ≡ true
open_first true checks h = refl
open_first false checks h = absurd (cc)

pub open_if_not_refused : (facts : List RoomFact) (w moment : ℕ) → hit_refusal facts w moment ≡ None
    → is_open facts ≡ true
unfolding hit_refusal
open_if_not_refused facts w moment h = open_first (is_open facts) (open_checks facts w moment) h
