-- The first refusal of two lists of checks, one behind the other, and of those by the table's row of
-- a request.
use Rattle.std.proofs.Common.{◌≡◌, Bool, true, false, ◌||◌, List, [], ◌∷◌, ◌++◌, Some, None, cond, refl, ap}
use Rattle.market_terms.specs.Checks.{first_refusal}
use Rattle.dealer_desk.specs.DealerFacts.{DealerBook, has_lifted_quote}
use Rattle.dealer_desk.specs.RuleCuts.{standing_checks, row_checks}
use Rattle.dealer_desk.specs.declared.refusals.QuoteRefusal.{QuoteRefusal}
use Rattle.dealer_desk.specs.declared.refusals.QuoteRefusal.TheVariants.{Declined, Closed}
use Rattle.dealer_desk.specs.declared.table.RequestRow.{RequestRow}

abbrev pub Checks : Type 0
Checks = List (Bool × QuoteRefusal)

-- what some checks refuse for a reason, they refuse with more behind them
one_refuses : (b : Bool) (at reason : QuoteRefusal) (checks more : Checks) → (first_refusal checks ≡ Some reason → first_refusal (checks ++ more) ≡ Some reason) → cond b (Some at) (first_refusal checks) ≡ Some reason → cond b (Some at) (first_refusal (checks ++ more)) ≡ Some reason
one_refuses true at reason checks more rest h = h
one_refuses false at reason checks more rest h = rest h

pub refused_first : (checks more : Checks) (reason : QuoteRefusal) → first_refusal checks ≡ Some reason → first_refusal (checks ++ more) ≡ Some reason
refused_first [] more reason h = cc
refused_first (check ∷ checks) more reason h = one_refuses check.0 check.1 reason checks more (refused_first checks more reason) h

-- where some checks refuse nothing, those behind them decide
one_passes : (b : Bool) (at : QuoteRefusal) (checks more : Checks) → (first_refusal checks ≡ None → first_refusal (checks ++ more) ≡ first_refusal more) → cond b (Some at) (first_refusal checks) ≡ None → cond b (Some at) (first_refusal (checks ++ more)) ≡ first_refusal more
one_passes true at checks more rest h = cc
one_passes false at checks more rest h = rest h

pub passed_first : (checks more : Checks) → first_refusal checks ≡ None → first_refusal (checks ++ more) ≡ first_refusal more
passed_first [] more h = refl
passed_first (check ∷ checks) more h = one_passes check.0 check.1 checks more (passed_first checks more) h

-- what the table keeps of a request decides as the book does
pub standing_by_row : (book : DealerBook) (row : RequestRow) → row.has_lifted ≡ has_lifted_quote book row.request.number → first_refusal (row_checks row) ≡ first_refusal (standing_checks book row.request)
standing_by_row book row lifted =
    ap (λ (known : Bool). first_refusal ((row.request.is_declined, Declined) ∷ (row.request.is_told || known, Closed) ∷ [])) lifted
