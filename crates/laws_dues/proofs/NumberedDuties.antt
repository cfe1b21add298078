-- What is left to be done, by the rooms, the names and the numbers that it says, and by the quotes
-- that it brings to investors.
use Rattle.std.proofs.Common.{◌≡◌, ◌≤◌, ℕ, ◌+◌, ◌&&◌, Bool, true, false, List, [], ◌∷◌, ◌++◌}
use Rattle.std.proofs.Common.{option_map, option_to_list, Option, Some, None, Result, Ok, Err}
use Rattle.std.proofs.Common.{if◌then◌else◌, refl, ap, ◌∙◌, arith}
use Rattle.market_terms.specs.declared.closes.HitRefusal.{HitRefusal}
use Rattle.market_terms.specs.declared.duties.Duty.{Duty}
use Rattle.market_terms.specs.declared.duties.Duty.TheVariants as duty
use Rattle.market_terms.specs.declared.rooms.Offer.{Offer}
use Rattle.market_terms.specs.declared.rooms.ResponseRef.{ResponseRef}
use Rattle.market_terms.specs.declared.rooms.RoomRef.{RoomRef}
use Rattle.quote_word.specs.declared.settled.Settled.{Settled}
use Rattle.venue_rows.specs.Rows.{Configuration, dealer_numbered}
use Rattle.venue_rows.specs.Texts.{same_text}
use Rattle.venue_rows.specs.declared.dealer_rows.DealerRow.{DealerRow}
use Rattle.dealer_desk.specs.DealerFacts.{Quoted}
use Rattle.dealer_desk.specs.DealerOutput.{goes_through, is_withdrawn, post_of, room_of}
use Rattle.dealer_desk.specs.DealerOutput.{settled_facts, verdict_duty, verdict_facts}
use Rattle.dealer_desk.specs.declared.standing.Withdrawal.TheVariants as by_way
use Rattle.dealer_desk.specs.declared.verdicts.DealerVerdict.{DealerVerdict}
use Rattle.dealer_desk.specs.declared.verdicts.DealerVerdict.TheVariants as verdict
use Rattle.request_room.specs.RoomFacts.{RoomFact, hears, is_open, takes_quotes}
use Rattle.request_room.specs.Book.{expired, may_expire, may_unpost, passed}
use Rattle.request_room.specs.declared.ends.End.{End}
use Rattle.venue_steps.specs.RoomSteps.{duties_of_decline, duties_of_expire}
use Rattle.venue_steps.specs.RoomSteps.{duties_of_pass, duties_of_post, duties_of_unpost}
use Rattle.venue_steps.specs.RoomSteps.{hit_duties, reply_to_pass, told_in}
use Rattle.venue_steps.specs.RoomSteps.{told_to_each, where_follows}
use Rattle.venue_steps.specs.declared.actors.Actor.{Actor}
use Rattle.venue_steps.specs.declared.actors.Actor.TheVariants as actor
use Rattle.step_replay.specs.Lists.{Every}
use Rattle.investor_texts.specs.ReadBack.{is_short_if}
use Rattle.laws_dues.proofs.RoomCounts.{HasRoom}
use Rattle.laws_dues.proofs.OfferCounts.{bit, count, count_append, is_quoted}

-- whether a duty posts a quote or brings one to its investor
abbrev pub is_quoting : Duty → Bool
is_quoting (duty.Post room quote price valid_until moment) = true
is_quoting (duty.Relay room offer moment) = true
is_quoting other = false

-- how many duties of that kind one may leave
abbrev pub leaves : Duty → ℕ
leaves (duty.Post room quote price valid_until moment) = 1
leaves other = 0

-- how many quotes of a dealer it may bring to an investor
abbrev pub brings : Duty → List ℕ → ℕ
brings (duty.Relay room offer moment) name = bit (same_text offer.dealer name)
brings other name = 0

module _ (config : Configuration) (by : Actor) where
  -- a dealer of this name acts
  pub record ActsAs (name : List ℕ) : Type 0 where
    pub dealer : ℕ
    pub row : DealerRow
    pub by_is : by ≡ actor.Firm dealer
    pub row_is : dealer_numbered config dealer ≡ Some row
    pub name_is : name ≡ row.name

  -- a duty whose place is an investor's desk has a room of the venue, a quote its dealer's name, and
  -- a response a short number
  abbrev pub DutyNumbers : Duty → Type 0
  DutyNumbers (duty.Relay room offer moment) = HasRoom config room × ActsAs offer.dealer
  DutyNumbers (duty.Gone room word moment) = HasRoom config room
  DutyNumbers (duty.Declined room moment) = HasRoom config room
  DutyNumbers (duty.Hit room response word moment) = is_short_if response.k ≡ true
  DutyNumbers (duty.Pass room response moment) = is_short_if response.k ≡ true
  DutyNumbers (duty.Answer room response reply moment) =
      HasRoom config room × (is_short_if response.k ≡ true)
  DutyNumbers (duty.Close room moment) = HasRoom config room
  DutyNumbers other = Unit {0}

  -- duties that say so, and how many of them bring quotes
  pub record AreFew (most : ℕ) (duties : List Duty) : Type 0 where
    pub numbers : Every DutyNumbers duties
    pub few : count is_quoting duties ≤ most

  pub none_few : (most : ℕ) → AreFew most []
  none_few most = record { numbers = tt; few = omega arith }

  one_few : (most : ℕ) (left : Duty) → DutyNumbers left → bit (is_quoting left) ≤ most
      → AreFew most (left ∷ [])
  one_few most left numbers few = record { numbers = (numbers, tt); few = omega arith }

  either_few : (most : ℕ) (b : Bool) (one other : List Duty) → AreFew most one
      → AreFew most other → AreFew most (if b then one else other)
  either_few most true one other first second = first
  either_few most false one other first second = second

  follows_few : (most : ℕ) (b : Bool) (left : Duty) → DutyNumbers left
      → bit (is_quoting left) ≤ most → AreFew most (where_follows b left)
  follows_few most true left numbers few = one_few most left numbers few
  follows_few most false left numbers few = none_few most

  -- Of rooms.

  pub post_few : (facts : List RoomFact) (room : RoomRef) (dealer : ℕ) (offer : Offer) (moment : ℕ)
      → HasRoom config room → ActsAs offer.dealer
      → AreFew 1 (duties_of_post facts room dealer offer moment)
  post_few facts room dealer offer moment has acts =
      follows_few 1 (hears facts dealer && takes_quotes facts) (duty.Relay room offer moment)
      (has, acts) (omega arith)

  pub taken_few : (facts : List RoomFact) (room : RoomRef) (dealer word moment : ℕ)
      → HasRoom config room → AreFew 0 (duties_of_unpost facts room dealer word moment)
  taken_few facts room dealer word moment has =
      follows_few 0 (hears facts dealer && may_unpost facts dealer word)
      (duty.Gone room word moment) has (omega arith)

  pub declined_few : (facts : List RoomFact) (room : RoomRef) (dealer moment : ℕ)
      → HasRoom config room → AreFew 0 (duties_of_decline facts room dealer moment)
  declined_few facts room dealer moment has =
      follows_few 0 (hears facts dealer && takes_quotes facts) (duty.Declined room moment) has
      (omega arith)

  tells_few : (room : RoomRef) (end : End) (dealers : List ℕ) (moment : ℕ)
      → AreFew 0 (told_to_each room end dealers moment)
  tells_few room end [] moment = none_few 0
  tells_few room end (dealer ∷ dealers) moment =
      let later = tells_few room end dealers moment in
      let few : count is_quoting (told_to_each room end dealers moment) ≤ 0 = later.few in
      record { numbers = (tt, later.numbers); few = omega arith }

  pub behind_few : (left : Duty) (later : List Duty) → DutyNumbers left → is_quoting left ≡ false
      → AreFew 0 later → AreFew 0 (left ∷ later)
  behind_few left later numbers plain few =
      let here : bit (is_quoting left) ≡ 0 = ap bit plain in
      let rest : count is_quoting later ≤ 0 = few.few in
      record { numbers = (numbers, few.numbers); few = omega arith }

  pub hit_few : (facts : List RoomFact) (room : RoomRef) (response : ResponseRef) (moment : ℕ)
      → HasRoom config room → is_short_if response.k ≡ true → (outcome : Result End HitRefusal)
      → AreFew 0 (hit_duties facts room response moment outcome)
  hit_few facts room response moment has short (Ok award) =
      behind_few (duty.Answer room response _ moment) (told_in facts room award moment) (has, short)
      refl (tells_few room award _ moment)
  hit_few facts room response moment has short (Err refused) =
      behind_few (duty.Answer room response _ moment) [] (has, short) refl (none_few 0)

  pub pass_few : (facts : List RoomFact) (room : RoomRef) (response : ResponseRef) (moment : ℕ)
      → HasRoom config room → is_short_if response.k ≡ true
      → AreFew 0 (duties_of_pass facts room response moment)
  pass_few facts room response moment has short =
      behind_few (duty.Answer room response (reply_to_pass (is_open facts)) moment) _ (has, short)
      refl (either_few 0 (is_open facts) (told_in facts room passed moment) []
      (tells_few room passed _ moment) (none_few 0))

  pub expire_few : (facts : List RoomFact) (room : RoomRef) (moment : ℕ) → HasRoom config room
      → AreFew 0 (duties_of_expire facts room moment)
  expire_few facts room moment has =
      either_few 0 (may_expire facts moment)
      (duty.Close room moment ∷ told_in facts room expired moment) []
      (behind_few (duty.Close room moment) (told_in facts room expired moment) has refl
      (tells_few room expired _ moment)) (none_few 0)

  -- Of a dealer: a quote that is posted is accepted.

  option_few : (most : ℕ) (b : Bool) (left : Option Duty) → (b ≡ true → AreFew most
      (option_to_list left)) → AreFew most (option_to_list (if b then left else None))
  option_few most true left few = few refl
  option_few most false left few = none_few most

  mapped_few : (most : ℕ) (left : RoomRef → Duty) → ((room : RoomRef) → DutyNumbers (left room))
      → ((room : RoomRef) → bit (is_quoting (left room)) ≤ most) → (found : Option RoomRef)
      → AreFew most (option_to_list (option_map left found))
  mapped_few most left numbers few None = none_few most
  mapped_few most left numbers few (Some room) =
      one_few most (left room) (numbers room) (few room)

  zero_most : (most : ℕ) → 0 ≤ most
  zero_most most = omega arith

  pub said_few : (rooms : List RoomRef) (moment : ℕ) (v : DealerVerdict)
      (settlement : Option Settled)
      → AreFew (count is_quoted (verdict_facts v settlement))
      (option_to_list (verdict_duty rooms moment v settlement))
  said_few rooms moment (verdict.QuoteAccepted request id quote replaced) settlement =
      option_few _ (goes_through replaced settlement)
      (option_map (post_of quote) (room_of rooms quote.request))
      (λ goes. mapped_few _ (post_of quote) (λ room. tt) (λ room. accepted goes)
      (room_of rooms quote.request))
    where
      accepted : goes_through replaced settlement ≡ true
          → 1 ≤ count is_quoted (settled_facts replaced by_way.Replacement settlement
          ++ (if goes_through replaced settlement then Quoted quote ∷ [] else []))
      accepted goes =
          let front = settled_facts replaced by_way.Replacement settlement in
          let sum : count is_quoted
          (front ++ (if goes_through replaced settlement then Quoted quote ∷ [] else []))
          ≡ count is_quoted front
          + count is_quoted (if goes_through replaced settlement then Quoted quote ∷ [] else []) =
          count_append is_quoted front
          (if goes_through replaced settlement then Quoted quote ∷ [] else []) in
          let own : count is_quoted (if goes_through replaced settlement then Quoted quote ∷ [] else [])
          ≡ 1 = ap (λ (b : Bool). count is_quoted (if b then Quoted quote ∷ [] else [])) goes
          ∙ one in
          omega arith
        where
          one : count is_quoted (Quoted quote ∷ []) ≡ 1
          one = omega arith
  said_few rooms moment (verdict.CancelAccepted id quote request) settlement =
      option_few _ (is_withdrawn settlement)
      (option_map (λ room. duty.Unpost room quote moment) (room_of rooms request))
      (λ goes. mapped_few _ (λ room. duty.Unpost room quote moment) (λ room. tt)
      (λ room. zero_most _) (room_of rooms request))
  said_few rooms moment (verdict.DeclineAccepted request number) settlement =
      mapped_few _ (λ room. duty.Decline room moment) (λ room. tt) (λ room. zero_most _)
      (room_of rooms number)
  said_few rooms moment (verdict.DropsFollow last) settlement =
      one_few _ (duty.Drop last moment) tt (zero_most _)
  said_few rooms moment other settlement = none_few _
