-- The places of a venue at the start of a day stand where no fact stands.
use Rattle.step_replay.proofs.Common.{◌≡◌, ◌<◌, ◌≤◌, ℕ, zero, suc, ◌+◌, ◌-◌, nat_lt, Bool, true}
use Rattle.step_replay.proofs.Common.{false, if◌then◌else◌, List, [], ◌∷◌, ◌++◌, length, take, drop}
use Rattle.step_replay.proofs.Common.{get_or, replicate, Option, Some, None, option_map, refl, sym}
use Rattle.step_replay.proofs.Common.{ap, ◌∙◌, subst, arith, slice_get, common_steps, gets}
use Rattle.step_replay.proofs.Common.{append-nil, append_assoc, length-replicate, length-append}
use Rattle.step_replay.proofs.Common.{take_all, entry_in, Settled, Configuration, DealerRow}
use Rattle.step_replay.proofs.Common.{desk_after, DealerEvent, QuoteRef, quote_among, quotes_of}
use Rattle.step_replay.proofs.Common.{word_for, dealer_of, AreWithin, dues_behind, Match}
use Rattle.step_replay.proofs.Common.{DealersOpen, InvestorOpens, Opens, owners_from, DealerIs}
use Rattle.step_replay.proofs.Common.{InvestorStands, Stands, of_dealer, DealerPlace, Floor}
use Rattle.step_replay.proofs.Common.{Lifting}
use Rattle.std.proofs.lemmas.List.{drop_all}
use Rattle.std.proofs.lemmas.List.Sums.{sum_by-cons, sum_by_more}
use Rattle.dealer_desk.specs.DealerDesk as dealer_desk
use Rattle.dealer_desk.specs.DealerOutput as dealer
use Rattle.step_replay.specs.Openings.{DealerOpens}
use Rattle.step_replay.proofs.InvestorOpeningLemmas.{investor_begins}
use Rattle.step_replay.proofs.MatchLemmas.{grown, kept}

-- The owners of words.

abbrev dealer_in : QuoteRef → ℕ
dealer_in quote = quote.dealer

-- the first owner's words, and those behind
own_word : {X : Type 0} (many : ℕ) (x : X) (xs : List X) (i : ℕ) → nat_lt i many ≡ true
    → slice_get (replicate many x ++ xs) i ≡ Some x
own_word many x xs i low = grind (arith, common_steps, gets)

later_word : {X : Type 0} (many : ℕ) (x : X) (xs : List X) (i : ℕ) → nat_lt i many ≡ false
    → slice_get (replicate many x ++ xs) i ≡ slice_get xs (i - many)
later_word many x xs i high = grind (arith, common_steps, gets)

owner_found : (number : ℕ) (rows : List DealerRow) (word : ℕ)
    → slice_get (owners_from number rows) word ≡ option_map dealer_in (quote_among number rows word)
owner_found number [] word = refl
owner_found number (row ∷ rows) word =
    by_test (nat_lt word row.quotes) refl (owner_found (number + 1) rows (word - row.quotes))
  where
    by_test : (b : Bool) → nat_lt word row.quotes ≡ b
        → slice_get (owners_from (number + 1) rows) (word - row.quotes)
        ≡ option_map dealer_in (quote_among (number + 1) rows (word - row.quotes))
        → slice_get (replicate row.quotes number ++ owners_from (number + 1) rows) word
        ≡ option_map dealer_in (if b then Some (record { dealer = number; quote = word + 1 })
        else quote_among (number + 1) rows (word - row.quotes))
    by_test true is later = own_word row.quotes number _ word is
    by_test false is later = later_word row.quotes number _ word is ∙ later

pub owners_count : (number : ℕ) (rows : List DealerRow)
    → length (owners_from number rows) ≡ quotes_of rows
owners_count number [] = refl
owners_count number (row ∷ rows) =
    rw (length-append, length-replicate, owners_count (number + 1) rows)
    (sym (sum_by-cons (λ (r : DealerRow). r.quotes) row rows))

-- the owners of the next row's words are put behind those so far, and the rest is left
pub owners_next : (rows : List DealerRow) (at : ℕ) (row : DealerRow) (before now all : List ℕ)
    → at < length rows → row ≡ get_or rows at row → before ++ owners_from at (drop at rows) ≡ all
    → now ≡ before ++ replicate row.quotes at → now ++ owners_from (at + 1) (drop (at + 1) rows) ≡ all
owners_next rows at row before now all within is was put =
    let next : drop at rows ≡ row ∷ drop (at + 1) rows = grind (arith, common_steps) in
    rw (put, append_assoc) (rw next at was)

-- none is left
pub owners_whole : (rows : List DealerRow) (at : ℕ) (owners all : List ℕ) → length rows ≤ at
    → owners ++ owners_from at (drop at rows) ≡ all → owners ≡ all
owners_whole rows at owners all done was = rw (drop_all at rows done, append-nil owners) at was

-- the words of one dealer more
pub words_grow : (rows : List DealerRow) (at : ℕ) (row : DealerRow)
    → at < length rows → row ≡ get_or rows at row
    → quotes_of (take at rows) + row.quotes ≡ quotes_of (take (at + 1) rows)
words_grow rows at row within is =
    sym (sum_by_more (λ (r : DealerRow). r.quotes) rows at row within
    ∙ ap (λ (found : DealerRow). quotes_of (take at rows) + found.quotes) (sym is))

-- The dealers.

-- the places of one dealer more
pub dealers_grow : (config : Configuration) (at : ℕ) (row : DealerRow)
    (places : List DealerPlace) (place : DealerPlace) → at < length config.dealers
    → row ≡ get_or config.dealers at row → DealersOpen config at places
    → DealerOpens config at row place → DealersOpen config (at + 1) (places ++ place ∷ [])
dealers_grow config at row places place within is before opens =
    let same : at ≡ 0 + at = omega arith in
    record {
      opened = grown (DealerOpens config) 0 config.dealers places at row place within is
          (subst (λ (n : ℕ). DealerOpens config n row place) same opens) before.opened;
    }

dealer_begins : (config : Configuration) (number : ℕ) (row : DealerRow) (place : DealerPlace)
    → DealerOpens config number row place → DealerIs config [] number row place
unfolding desk_after of_dealer
dealer_begins config number row place opens =
    let events_are : place.desk.events ≡ [] =
    ap (λ (d : dealer_desk.DeskEvents). d.events) opens.desk_is in
    record {
      date_is = ap (λ (d : dealer_desk.DeskEvents). d.date) opens.desk_is;
      row_is = ap (λ (d : dealer_desk.DeskEvents). d.row) opens.desk_is;
      state_is = ap (λ (events : List DealerEvent). desk_after config.date row events) events_are;
      rooms_are = ap (λ (events : List DealerEvent). dealer.rooms_of events) events_are;
      first_is = opens.first_is;
      dues_are = ap (λ (events : List DealerEvent). dues_behind 0 events place.liftings.items) events_are
          ∙ ap (λ (l : List Lifting). dues_behind 0 [] l) opens.liftings_are;
      are_within = subst (AreWithin (length place.desk.events)) (sym opens.liftings_are) tt;
    }

-- All places.

no_word : (many word : ℕ) → entry_in (replicate many None) word ≡ None
no_word zero w = refl
no_word (suc n) zero = refl
no_word (suc n) (suc w) = no_word n w

-- all rows are those that were gone through
whole : {X Y : Type 0} (P : ℕ → X → Y → Type 0) (k : ℕ) (xs : List X) (ys : List Y)
    → Match P k (take (length xs) xs) ys → Match P k xs ys
whole P k xs ys all =
    let most : length xs ≤ length xs = omega arith in
    subst (λ l. Match P k l ys) (take_all (length xs) xs most) all

pub all_begin : (config : Configuration) (floor : Floor) → Opens config floor
    → Stands config [] floor
unfolding of_dealer
all_begin config floor opens = record {
  config_is = opens.config_is;
  dealers_are = kept (DealerOpens config) (DealerIs config []) 0 config.dealers floor.dealers.items
      (λ n row place least so. dealer_begins config n row place so)
      (whole (DealerOpens config) 0 config.dealers floor.dealers.items opens.dealers_open.opened);
  investors_are = kept (InvestorOpens config) (InvestorStands config []) (length config.dealers)
      config.investors floor.investors.items
      (λ n row place least so. investor_begins config n row place so)
      (whole (InvestorOpens config) (length config.dealers) config.investors
      floor.investors.items opens.investors_open.opened);
  word_count = ap length opens.words_open
      ∙ length-replicate (length floor.owners.items) None
      ∙ ap length opens.owners_are ∙ owners_count 0 config.dealers;
  words_are = λ number row quote is within.
      ap (λ (entries : List (Option Settled)). entry_in entries
      (word_for config (dealer_of number row) quote)) opens.words_open
      ∙ no_word (length floor.owners.items) (word_for config (dealer_of number row) quote);
  owners_are = λ word.
      ap (λ (l : List ℕ). slice_get l word) opens.owners_are ∙ owner_found 0 config.dealers word;
}
