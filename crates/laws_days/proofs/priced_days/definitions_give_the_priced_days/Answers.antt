-- Both days are computed.
use Rattle.laws_days.proofs.Common.{List, [], ◌∷◌, ◌++◌, ◌≡◌, ◌⊎◌, ℕ, codes, drop, inl, inr, refl}
use Rattle.laws_days.proofs.Common.{take, AllZip, Field, ArePricesOf, IsPricedByAnother}
use Rattle.laws_days.proofs.Common.{bond_meant, venue}
use Prim.Native.String.{String}
use Rattle.fix_fields.specs.Frame.{fields_of}
use Rattle.step_replay.specs.declared.steps.Step.TheVariants as step
use Rattle.laws_days.specs.PriceAlike.{DiffersInPrices}
use Rattle.laws_days.specs.PricedDays.{cheap, day_with, dear}
use Rattle.laws_days.specs.WorkedParts.{message, moment, with_soh}
use Rattle.laws_days.specs.WorkedVenue.{dlr2}
use Rattle.laws_days.proofs.ComputedDays.{computed}
use Rattle.laws_days.proofs.priced_days.definitions_give_the_priced_days.Goals as goal

-- Lists that are one but for one item.
module _ {A : Type 0} (Differ : A → A → Type 0) where
  all_same : (xs : List A) → AllZip (λ x y. (x ≡ y) ⊎ Differ x y) xs xs
  all_same [] = tt
  all_same (x ∷ xs) = (inl refl, all_same xs)

  but_one : (before : List A) (x y : A) (after : List A) → Differ x y
      → AllZip (λ x y. (x ≡ y) ⊎ Differ x y) (before ++ x ∷ after) (before ++ y ∷ after)
  but_one [] x y after differ = (inr differ, all_same after)
  but_one (z ∷ before) x y after differ = (inl refl, but_one before x y after differ)

-- the fields of the quote of DLR2
abbrev fields : String → List Field
fields quote = fields_of (with_soh
    (codes "35=S|49=DLR2|56=VENUE|34=1|52=20250314-09:00:20|50=T2|" ++ codes quote ++ codes "|"))

-- its bytes
abbrev quoted : String → List ℕ
quoted quote = message "DLR2" "T2" "09:00:20" "S" 1 quote

module _ (c : goal.After-frame_of_is_the_reading) where
  priced : DiffersInPrices venue (quoted dear) (quoted cheap)
  unfolding computed
  priced =
      let prices : ArePricesOf (bond_meant venue (fields dear)) (133, codes "99.515625")
      (133, codes "99.5") =
      record {
        is_price = refl;
        tag = refl;
        one_price = record { price = 25476; is_read = refl; is_on_grid = refl; is_in_band = refl };
        other_price = record { price = 25472; is_read = refl; is_on_grid = refl; is_in_band = refl };
      } in
      record {
        fields = fields dear;
        others = fields cheap;
        one_is = (c.frame_of_is_the_reading.ensures.reads (quoted dear) (fields dear)).0 refl;
        other_is = (c.frame_of_is_the_reading.ensures.reads (quoted cheap) (fields cheap)).0 refl;
        fields_are = but_one (ArePricesOf (bond_meant venue (fields dear)))
            (take 10 (fields dear)) _ _ [] prices;
      }

  by_another : IsPricedByAnother venue 0 (step.In 1 (moment "09:00:20") (quoted dear))
      (step.In 1 (moment "09:00:20") (quoted cheap))
  by_another = record {
    firm = 1;
    row = dlr2;
    is_dealer = refl;
    is_another = refl;
    moment = moment "09:00:20";
    message = quoted dear;
    priced = quoted cheap;
    one_is = refl;
    other_is = refl;
    prices = priced;
  }

pub returns : goal.returns
unfolding computed
returns c = record {
  alike = but_one (IsPricedByAnother venue 0) (take 12 (day_with dear)) _ _
      (drop 13 (day_with dear)) (by_another c);
  dear = refl;
  cheap = refl;
}
