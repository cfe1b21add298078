-- Entries of an investor's trail that tell of one dealer's answers: with more behind them, they tell those too.
use Rattle.std.proofs.Common.{◌≡◌, ◌==◌, ℕ, List, [], ◌∷◌, ◌++◌, map, filter_map, find}
use Rattle.std.proofs.Common.{Option, Some, None, refl, sym, ap, ◌∙◌, subst}
use Rattle.std.specs.List.{cons_option}
use Rattle.std.proofs.lemmas.List.{append_assoc}
use Rattle.std.proofs.lemmas.List.Elements.{filter_map-append}
use Rattle.venue_rows.specs.Rows.{Configuration}
use Rattle.investor_desk.specs.InvestorFacts.{Asked, Gone, InvestorFact, Offered, book_of}
use Rattle.investor_desk.specs.InvestorFacts.{offer_numbered, offers_of}
use Rattle.investor_desk.specs.InvestorRules.{InvestorMarket}
use Rattle.investor_desk.specs.declared.standing.ShownOffer.{ShownOffer}
use Rattle.request_room.specs.declared.quotes.PostedQuote.{PostedQuote}
use Rattle.step_replay.specs.EachLemmas.{every_both, every_weaker}
use Rattle.step_replay.specs.GrowthLemmas.{in_left}
use Rattle.step_replay.specs.InvestorTrail as investor_trail
use Rattle.step_replay.specs.InvestorTrail.{AtDesk, Happened, InvestorEntry, Sent, facts_of}
use Rattle.step_replay.specs.Lists.{Every}
use Rattle.laws_shown.proofs.ShownParts.{offers_both}
use Rattle.laws_days.proofs.ListLemmas.{find_grown}
use Rattle.laws_rooms.specs.Answered.{Answer, Declines, Quotes, Withdraws}
use Rattle.laws_rooms.specs.Offers.{quotes_shown, shown_of}
use Rattle.laws_rooms.specs.Tellings.{IsAnothers, IsIts, IsOther, SayNone, Says, SaysDecline}
use Rattle.laws_rooms.specs.Tellings.{ShowNone, Tell, TellAll, TellQuotes}

-- Entries that tell.

module _ (config : Configuration) (market : InvestorMarket) (dealer : ℕ) (name : List ℕ) (request : ℕ) where
  module _ (known : List InvestorFact) where
    -- whatever may stand beside
    module _ (Beside : List InvestorEntry → Type 0)
        (both : (one other : List InvestorEntry) → Beside one → Beside other → Beside (one ++ other)) where
      abbrev Telling : List Answer → List InvestorEntry → Type 0
      Telling answers entries = Tell config market dealer name request known Beside answers entries

      -- what may stand beside may stand before
      tell_behind : (answers : List Answer) (entries more : List InvestorEntry) → Beside entries
          → Telling answers more → Telling answers (entries ++ more)
      tell_behind [] entries more beside tell = both entries more beside tell
      tell_behind (answer ∷ answers) entries more beside tell = record {
        before = entries ++ tell.before;
        entry = tell.entry;
        after = tell.after;
        are = ap (λ (l : List InvestorEntry). entries ++ l) tell.are
            ∙ sym (append_assoc entries tell.before (tell.entry ∷ tell.after));
        none_before = both entries tell.before beside tell.none_before;
        says = tell.says;
        then_rest = tell.then_rest;
      }

      -- what is told, and then more
      tell_with : (answers also : List Answer) (entries more : List InvestorEntry) → Telling answers entries
          → Telling also more → Telling (answers ++ also) (entries ++ more)
      tell_with [] also entries more one other = tell_behind also entries more one other
      tell_with (answer ∷ answers) also entries more one other = record {
        before = one.before;
        entry = one.entry;
        after = one.after ++ more;
        are = ap (λ (l : List InvestorEntry). l ++ more) one.are
            ∙ append_assoc one.before (one.entry ∷ one.after) more;
        none_before = one.none_before;
        says = one.says;
        then_rest = tell_with answers also one.after more one.then_rest other;
      }

    -- Quotes and declines.

    abbrev NoneIn : List InvestorEntry → Type 0
    NoneIn entries = ShowNone config market dealer name request known entries

    abbrev TellIn : List Answer → List InvestorEntry → Type 0
    TellIn answers entries = TellQuotes config market dealer name request known answers entries

    quotes_both : (entries more : List InvestorEntry)
        → quotes_shown config dealer request (facts_of (entries ++ more))
        ≡ quotes_shown config dealer request (facts_of entries) ++ quotes_shown config dealer request (facts_of more)
    quotes_both entries more =
        ap (λ (l : List InvestorFact). quotes_shown config dealer request l)
        (filter_map-append investor_trail.fact_in entries more)
        ∙ ap (λ (l : List ShownOffer). filter_map (shown_of config dealer request) l)
        (offers_both (facts_of entries) (facts_of more))
        ∙ filter_map-append (shown_of config dealer request) (offers_of (facts_of entries))
        (offers_of (facts_of more))

    none_both : (entries more : List InvestorEntry) → NoneIn entries → NoneIn more → NoneIn (entries ++ more)
    none_both entries more one other =
        quotes_both entries more
        ∙ ap (λ (l : List PostedQuote). l ++ quotes_shown config dealer request (facts_of more)) one ∙ other

    pub tell_both : (answers also : List Answer) (entries more : List InvestorEntry) → TellIn answers entries
        → TellIn also more → TellIn (answers ++ also) (entries ++ more)
    tell_both answers also entries more one other =
        tell_with NoneIn none_both answers also entries more one other

    -- the quotes that are shown are told
    shown_told : (entries : List InvestorEntry)
        → TellIn (map Quotes (quotes_shown config dealer request (facts_of entries))) entries
    shown_told [] = refl
    shown_told (AtDesk (Offered shown) ∷ entries) =
        by_shown (shown_of config dealer request shown) refl (shown_told entries)
      where
        by_shown : (found : Option PostedQuote) → shown_of config dealer request shown ≡ found
            → TellIn (map Quotes (quotes_shown config dealer request (facts_of entries))) entries
            → TellIn (map Quotes (cons_option found (quotes_shown config dealer request (facts_of entries))))
            (AtDesk (Offered shown) ∷ entries)
        by_shown None at later =
            tell_behind NoneIn none_both (map Quotes (quotes_shown config dealer request (facts_of entries)))
            (AtDesk (Offered shown) ∷ []) entries
            (ap (λ (o : Option PostedQuote). cons_option o []) at) later
        by_shown (Some quote) at later = record {
          before = [];
          entry = AtDesk (Offered shown);
          after = entries;
          are = refl;
          none_before = refl;
          says = at;
          then_rest = later;
        }
    shown_told (AtDesk fact ∷ entries) =
        tell_behind NoneIn none_both (map Quotes (quotes_shown config dealer request (facts_of entries)))
        (AtDesk fact ∷ []) entries refl (shown_told entries)
    shown_told (Happened event ∷ entries) =
        tell_behind NoneIn none_both (map Quotes (quotes_shown config dealer request (facts_of entries)))
        (Happened event ∷ []) entries refl (shown_told entries)
    shown_told (Sent bytes ∷ entries) =
        tell_behind NoneIn none_both (map Quotes (quotes_shown config dealer request (facts_of entries)))
        (Sent bytes ∷ []) entries refl (shown_told entries)

    pub told_as : (quotes : List PostedQuote) (entries : List InvestorEntry)
        → quotes_shown config dealer request (facts_of entries) ≡ quotes → TellIn (map Quotes quotes) entries
    told_as quotes entries is =
        subst (λ (l : List PostedQuote). TellIn (map Quotes l) entries) is (shown_told entries)

    -- Quotes, withdrawals and declines.

    abbrev SilentIn : List InvestorEntry → Type 0
    SilentIn entries = SayNone config market dealer name request known entries

    abbrev AllIn : List Answer → List InvestorEntry → Type 0
    AllIn answers entries = TellAll config market dealer name request known answers entries

    abbrev OtherIn : InvestorFact → Type 0
    OtherIn fact = IsOther config market dealer name request known fact

    silent_both : (entries more : List InvestorEntry) → SilentIn entries → SilentIn more
        → SilentIn (entries ++ more)
    silent_both entries more one other =
        subst (Every OtherIn) (sym (filter_map-append investor_trail.fact_in entries more))
        (every_both OtherIn (facts_of entries) (facts_of more) one other)

    pub all_both : (answers also : List Answer) (entries more : List InvestorEntry) → AllIn answers entries
        → AllIn also more → AllIn (answers ++ also) (entries ++ more)
    all_both answers also entries more one other =
        tell_with SilentIn silent_both answers also entries more one other

    -- facts that say these answers one by one, and others behind them
    abbrev pub FactsSay : List Answer → List InvestorFact → Type 0
    FactsSay [] facts = Every OtherIn facts
    FactsSay (answer ∷ answers) [] = ⊥
    FactsSay (answer ∷ answers) (fact ∷ facts) =
        Says config market dealer name request known answer (AtDesk fact) × FactsSay answers facts

    pub facts_told : (answers : List Answer) (entries : List InvestorEntry)
        → FactsSay answers (facts_of entries) → AllIn answers entries
    facts_told [] entries say = say
    facts_told (answer ∷ answers) [] say = absurd say
    facts_told (answer ∷ answers) (AtDesk fact ∷ entries) say = record {
      before = [];
      entry = AtDesk fact;
      after = entries;
      are = refl;
      none_before = tt;
      says = say.0;
      then_rest = facts_told answers entries say.1;
    }
    facts_told (answer ∷ answers) (Happened event ∷ entries) say =
        tell_behind SilentIn silent_both (answer ∷ answers) (Happened event ∷ []) entries tt
        (facts_told (answer ∷ answers) entries say)
    facts_told (answer ∷ answers) (Sent bytes ∷ entries) say =
        tell_behind SilentIn silent_both (answer ∷ answers) (Sent bytes ∷ []) entries tt
        (facts_told (answer ∷ answers) entries say)

  -- What is told goes on to be, as more is known.

  module _ (known more : List InvestorFact) where
    decline_grown : (bytes : List ℕ) → SaysDecline market known request name bytes
        → SaysDecline market (known ++ more) request name bytes
    decline_grown bytes is = record {
      said = is.said;
      bytes_are = is.bytes_are;
      is_it = record {
        own = is.is_it.own;
        accepted = in_left (Asked is.is_it.own) known more is.is_it.accepted;
        number_is = is.is_it.number_is;
        says = is.is_it.says;
      };
    }

    number_grown : (number : ℕ) (shown : ShownOffer)
        → offer_numbered (book_of known) number ≡ Some shown
        → offer_numbered (book_of (known ++ more)) number ≡ Some shown
    unfolding offer_numbered
    number_grown number shown is =
        ap (λ (l : List ShownOffer). find (λ (s : ShownOffer). s.number == number) l) (offers_both known more)
        ∙ find_grown (λ (s : ShownOffer). s.number == number) (offers_of known) (offers_of more) shown is

    its_grown : (number word : ℕ) → IsIts config dealer request known number word
        → IsIts config dealer request (known ++ more) number word
    its_grown number word is = record {
      shown = is.shown;
      was_shown = number_grown number is.shown is.was_shown;
      quote = is.quote;
      is_its = is.is_its;
      word_is = is.word_is;
    }

    anothers_grown : (number : ℕ) → IsAnothers config dealer request known number
        → IsAnothers config dealer request (known ++ more) number
    anothers_grown number is = record {
      shown = is.shown;
      was_shown = number_grown number is.shown is.was_shown;
      is_anothers = is.is_anothers;
    }

    says_grown : (answer : Answer) (entry : InvestorEntry)
        → Says config market dealer name request known answer entry
        → Says config market dealer name request (known ++ more) answer entry
    says_grown (Quotes quote) (AtDesk (Offered shown)) is = is
    says_grown (Withdraws word) (AtDesk (Gone on number)) is = (is.0, its_grown number word is.1)
    says_grown Declines (Sent bytes) is = decline_grown bytes is
    says_grown answer entry is = absurd is

    other_grown : (fact : InvestorFact) → IsOther config market dealer name request known fact
        → IsOther config market dealer name request (known ++ more) fact
    other_grown (Offered shown) is = is
    other_grown (Gone on number) is = λ same. anothers_grown number (is same)
    other_grown fact is = tt

    module _ (Beside Then : List InvestorEntry → Type 0)
        (goes_on : (entries : List InvestorEntry) → Beside entries → Then entries) where
      grown : (answers : List Answer) (entries : List InvestorEntry)
          → Tell config market dealer name request known Beside answers entries
          → Tell config market dealer name request (known ++ more) Then answers entries
      grown [] entries tell = goes_on entries tell
      grown (answer ∷ answers) entries tell = record {
        before = tell.before;
        entry = tell.entry;
        after = tell.after;
        are = tell.are;
        none_before = goes_on tell.before tell.none_before;
        says = says_grown answer tell.entry tell.says;
        then_rest = grown answers tell.after tell.then_rest;
      }

    pub tell_grown : (answers : List Answer) (entries : List InvestorEntry)
        → TellQuotes config market dealer name request known answers entries
        → TellQuotes config market dealer name request (known ++ more) answers entries
    tell_grown answers entries tell =
        grown (ShowNone config market dealer name request known)
        (ShowNone config market dealer name request (known ++ more)) (λ some none. none) answers entries tell

    pub all_grown : (answers : List Answer) (entries : List InvestorEntry)
        → TellAll config market dealer name request known answers entries
        → TellAll config market dealer name request (known ++ more) answers entries
    all_grown answers entries tell =
        grown (SayNone config market dealer name request known)
        (SayNone config market dealer name request (known ++ more))
        (λ some none. every_weaker (IsOther config market dealer name request known)
        (IsOther config market dealer name request (known ++ more)) other_grown (facts_of some) none)
        answers entries tell
