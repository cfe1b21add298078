-- Duties that can make nothing due that due text can't say.
use Rattle.std.proofs.Common.{◌≡◌, ◌<◌, ◌≤◌, ℕ, Bool, true, false, ◌-◌, List, [], ◌∷◌, ◌++◌, length, map}
use Rattle.std.proofs.Common.{option_map, option_to_list, Option, Some, None}
use Rattle.std.proofs.Common.{if◌then◌else◌, IsTrue, sym, ◌∙◌, ap, subst, arith, zero, suc}
use Rattle.std.specs.List.{AllByRecursion}
use Rattle.std.specs.Prelude.{slice_get}
use Rattle.std.proofs.lemmas.List.Elements.{recursion_from_All}
use Rattle.std.proofs.lemmas.Option.{same_Some}
use Rattle.market_terms.specs.declared.asks.Ask.{Ask}
use Rattle.market_terms.specs.declared.duties.Duty.{Duty}
use Rattle.market_terms.specs.declared.duties.Duty.TheVariants as duty
use Rattle.market_terms.specs.declared.rooms.RoomRef.{RoomRef}
use Rattle.quote_word.specs.declared.settled.Settled.{Settled}
use Rattle.venue_rows.specs.Rows.{Configuration, KeepsLimits, firm_names, investor_numbered}
use Rattle.venue_rows.specs.Texts.{is_firm_name}
use Rattle.venue_rows.specs.declared.dealer_rows.DealerRow.{DealerRow}
use Rattle.venue_rows.specs.declared.investor_rows.InvestorRow.{InvestorRow}
use Rattle.dealer_desk.specs.DealerFacts.{DealerBook, quotes_accepted}
use Rattle.dealer_desk.specs.DealerOutput.{goes_through, is_withdrawn, post_of, room_of}
use Rattle.dealer_desk.specs.DealerOutput.{verdict_duty}
use Rattle.dealer_desk.specs.declared.verdicts.DealerVerdict.{DealerVerdict}
use Rattle.dealer_desk.specs.declared.verdicts.DealerVerdict.TheVariants as verdict
use Rattle.investor_desk.specs.InvestorOutput as investor_output
use Rattle.investor_desk.specs.InvestorRules.{InvestorMarket}
use Rattle.investor_desk.specs.declared.verdicts.InvestorVerdict.{InvestorVerdict}
use Rattle.investor_desk.specs.declared.verdicts.InvestorVerdict.TheVariants as answer
use Rattle.request_room.specs.RoomFacts.{RoomFact, is_vacant}
use Rattle.venue_steps.specs.RoomSteps.{duties_of_open}
use Rattle.venue_steps.specs.RoomSteps.{shown_then_ready}
use Rattle.step_replay.specs.EachLemmas.{every_both}
use Rattle.step_replay.specs.Lists.{Every}
use Rattle.step_replay.specs.PlaceLemmas.{behind_dealers, numbered_at}
use Rattle.venue_text.specs.ReadBack.{is_short}
use Rattle.laws_dues.proofs.RoomCounts.{HasRoom}
use Rattle.laws_dues.proofs.SayableTrails.{short_below}
use Rattle.laws_dues.proofs.SayableVerdicts.{AsksAs, DropsAccepted}

-- Names of investors.

module _ (P : List ℕ → Type 0) where
  behind : (xs ys : List (List ℕ)) → AllByRecursion P (xs ++ ys) → AllByRecursion P ys
  behind [] ys each = each
  behind (x ∷ xs) ys each = behind xs ys each.1

  at_place : (rows : List InvestorRow) (place : ℕ) (row : InvestorRow)
      → slice_get rows place ≡ Some row
      → AllByRecursion P (map (λ (r : InvestorRow). r.name) rows) → P row.name
  at_place [] place row at each = cc
  at_place (first ∷ rows) zero row at each =
      subst (λ (r : InvestorRow). P r.name) (same_Some first row at) each.0
  at_place (first ∷ rows) (suc place) row at each = at_place rows place row at each.1

abbrev Named : List ℕ → Type 0
Named name = IsTrue (is_firm_name name)

-- an investor has the name of a firm
pub investor_named : (config : Configuration) → KeepsLimits config → (firm : ℕ) (row : InvestorRow)
    → investor_numbered config firm ≡ Some row → is_firm_name row.name ≡ true
investor_named config limits firm row is =
    let place = firm - length config.dealers in
    let at : slice_get config.investors place ≡ Some row =
    sym (numbered_at config firm (behind_dealers config firm row is)) ∙ is in
    at_place Named config.investors place row at
    (behind Named (map (λ (r : DealerRow). r.name) config.dealers)
    (map (λ (r : InvestorRow). r.name) config.investors)
    (recursion_from_All Named (firm_names config) limits.firms_named))

-- Duties.

module _ (config : Configuration) where
  -- a request is asked in a firm's name, and shown in a room of the venue; a drop names a quote of
  -- a short number
  abbrev pub DutyFits : Duty → Type 0
  DutyFits (duty.Open room ask dealers moment) = is_firm_name ask.investor ≡ true
  DutyFits (duty.Show dealer room ask moment) =
      (is_firm_name ask.investor ≡ true) × HasRoom config room
  DutyFits (duty.Drop last moment) = is_short last ≡ true
  DutyFits other = Unit {0}

  abbrev pub AllFit : List Duty → Type 0
  AllFit duties = Every DutyFits duties

  -- Choices.

  either_fit : (b : Bool) (one other : List Duty) → AllFit one → AllFit other
      → AllFit (if b then one else other)
  either_fit true one other first second = first
  either_fit false one other first second = second

  option_fit : (b : Bool) (left : Option Duty) → AllFit (option_to_list left)
      → AllFit (option_to_list (if b then left else None))
  option_fit true left fits = fits
  option_fit false left fits = tt

  mapped_fit : (left : RoomRef → Duty) → ((room : RoomRef) → DutyFits (left room))
      → (found : Option RoomRef) → AllFit (option_to_list (option_map left found))
  mapped_fit left fits None = tt
  mapped_fit left fits (Some room) = (fits room, tt)

  -- Of rooms.

  shows_fit : (room : RoomRef) (ask : Ask) (moment : ℕ) → is_firm_name ask.investor ≡ true
      → HasRoom config room → (dealers : List ℕ)
      → AllFit (map (λ dealer. duty.Show dealer room ask moment) dealers)
  shows_fit room ask moment named has [] = tt
  shows_fit room ask moment named has (dealer ∷ dealers) =
      ((named, has), shows_fit room ask moment named has dealers)

  pub open_fit : (facts : List RoomFact) (room : RoomRef) (ask : Ask) (dealers : List ℕ)
      (moment : ℕ) → is_firm_name ask.investor ≡ true → HasRoom config room
      → AllFit (duties_of_open facts room ask dealers moment)
  open_fit facts room ask dealers moment named has =
      either_fit (is_vacant facts) (shown_then_ready room ask dealers moment) []
      (every_both DutyFits (map (λ dealer. duty.Show dealer room ask moment) dealers)
      (duty.Ready room moment ∷ []) (shows_fit room ask moment named has dealers) (tt, tt)) tt

  -- Of a dealer.

  pub said_fit : (book : DealerBook) (rooms : List RoomRef) (moment : ℕ) (v : DealerVerdict)
      (settlement : Option Settled) → DropsAccepted book v → quotes_accepted book ≤ 4096
      → AllFit (option_to_list (verdict_duty rooms moment v settlement))
  said_fit book rooms moment (verdict.QuoteAccepted request id quote replaced) settlement drops few =
      option_fit (goes_through replaced settlement)
      (option_map (post_of quote) (room_of rooms quote.request))
      (mapped_fit (post_of quote) (λ room. tt) (room_of rooms quote.request))
  said_fit book rooms moment (verdict.CancelAccepted id quote request) settlement drops few =
      option_fit (is_withdrawn settlement)
      (option_map (λ room. duty.Unpost room quote moment) (room_of rooms request))
      (mapped_fit (λ room. duty.Unpost room quote moment) (λ room. tt) (room_of rooms request))
  said_fit book rooms moment (verdict.DeclineAccepted request number) settlement drops few =
      mapped_fit (λ room. duty.Decline room moment) (λ room. tt) (room_of rooms number)
  said_fit book rooms moment (verdict.DropsFollow last) settlement drops few =
      (short_below last (low last (quotes_accepted book) drops few), tt)
    where
      low : (last accepted : ℕ) → last ≡ accepted → accepted ≤ 4096 → last < 1000000000
      low last accepted same few = omega arith
  said_fit book rooms moment other settlement drops few = tt

  -- Of an investor.

  pub asked_fit : (market : InvestorMarket) (moment : ℕ) (v : InvestorVerdict)
      → AsksAs market.row.name v → is_firm_name market.row.name ≡ true
      → AllFit (option_to_list (investor_output.verdict_duty market moment v))
  asked_fit market moment (answer.RequestAccepted id request) asks named =
      (ap is_firm_name asks ∙ named, tt)
  asked_fit market moment (answer.Hits request response word) asks named = (tt, tt)
  asked_fit market moment (answer.Passes request response) asks named = (tt, tt)
  asked_fit market moment other asks named = tt
