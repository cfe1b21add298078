-- The duties that each step in a room leaves, in their order. A step whose condition does not hold
-- (a room that is not vacant, a dealer that is not named) leaves no duty.
use Rattle.std.specs.Prelude.{ℕ, Bool, true, false, ◌&&◌, ◌==◌, List, [], ◌∷◌, ◌++◌, map}
use Rattle.std.specs.Prelude.{Option, Some, None, Result, Ok, Err, if◌then◌else◌}
use Rattle.market_terms.specs.declared.asks.Ask.{Ask}
use Rattle.market_terms.specs.declared.closes.Close.{Close}
use Rattle.market_terms.specs.declared.closes.Close.TheVariants as closes
use Rattle.market_terms.specs.declared.closes.HitRefusal.{HitRefusal}
use Rattle.market_terms.specs.declared.closes.HitRefusal.TheVariants.{NotOpen}
use Rattle.market_terms.specs.declared.closes.Reply.{Reply}
use Rattle.market_terms.specs.declared.closes.Reply.TheVariants as reply
use Rattle.market_terms.specs.declared.duties.Duty.{Duty}
use Rattle.market_terms.specs.declared.duties.Duty.TheVariants as duty
use Rattle.market_terms.specs.declared.rooms.Offer.{Offer}
use Rattle.market_terms.specs.declared.rooms.ResponseRef.{ResponseRef}
use Rattle.market_terms.specs.declared.rooms.RoomRef.{RoomRef}
use Rattle.quote_word.specs.declared.settled.Settled.{Settled}
use Rattle.request_room.specs.RoomFacts.{RoomFact, hears, is_vacant, is_open}
use Rattle.request_room.specs.RoomFacts.{takes_quotes, request_of}
use Rattle.request_room.specs.Book.{may_unpost, may_expire, hit_question, hit_outcome}
use Rattle.request_room.specs.Book.{reply_of, passed, expired}
use Rattle.request_room.specs.declared.ends.End.{End}
use Rattle.request_room.specs.declared.ends.EndKind.{EndKind}
use Rattle.request_room.specs.declared.ends.EndKind.TheVariants as ends
use Rattle.request_room.specs.declared.requests.RoomRequest.{RoomRequest}

-- one duty where it follows
abbrev pub where_follows : Bool → Duty → List Duty
where_follows true duty = duty ∷ []
where_follows false duty = []

-- Opening.

-- each named dealer is shown the request, in the request's order, and then the room is made ready
abbrev pub shown_then_ready : RoomRef → Ask → List ℕ → ℕ → List Duty
shown_then_ready at ask dealers moment =
    map (λ dealer. duty.Show dealer at ask moment) dealers ++ duty.Ready at moment ∷ []

-- what an opening leaves
abbrev pub duties_of_open : List RoomFact → RoomRef → Ask → List ℕ → ℕ → List Duty
duties_of_open facts at ask dealers moment =
    if is_vacant facts then shown_then_ready at ask dealers moment else []

-- Quotes.

-- a quote is posted for a dealer that the room hears, and relayed to the investor where the post
-- takes effect
abbrev pub duties_of_post : List RoomFact → RoomRef → ℕ → Offer → ℕ → List Duty
duties_of_post facts at dealer offer moment =
    where_follows (hears facts dealer && takes_quotes facts) (duty.Relay at offer moment)

-- a quote is taken out, and the investor is told so where that takes effect
abbrev pub duties_of_unpost : List RoomFact → RoomRef → ℕ → ℕ → ℕ → List Duty
duties_of_unpost facts at dealer word moment =
    where_follows (hears facts dealer && may_unpost facts dealer word) (duty.Gone at word moment)

-- a decline is noted, and the investor is told so where that takes effect
abbrev pub duties_of_decline : List RoomFact → RoomRef → ℕ → ℕ → List Duty
duties_of_decline facts at dealer moment =
    where_follows (hears facts dealer && takes_quotes facts) (duty.Declined at moment)

-- The end.

-- whether a dealer is this winner
abbrev pub is_winner : Option (ℕ × ℕ) → ℕ → Bool
is_winner None dealer = false
is_winner (Some winner) dealer = winner.0 == dealer

-- whether a dealer's quote is this cover
abbrev pub is_cover : Option ℕ → ℕ → Bool
is_cover None dealer = false
is_cover (Some cover) dealer = cover == dealer

-- how an award ended for a dealer: it won, its quote is the cover, or it was done away
abbrev pub close_at_award : End → ℕ → Close
close_at_award end dealer =
    if is_winner end.winner dealer then closes.Hit
    else if is_cover end.cover dealer then closes.Cover else closes.DoneAway

-- how an end of this kind ended for a dealer
abbrev pub close_by : EndKind → End → ℕ → Close
close_by ends.Awarded end dealer = close_at_award end dealer
close_by ends.Passed end dealer = closes.Pass
close_by ends.Expired end dealer = closes.Expired

-- how it ended for a dealer
abbrev pub close_for : End → ℕ → Close
close_for end dealer = close_by end.kind end dealer

-- the dealers that the request names, in its order
abbrev pub dealers_of : Option RoomRequest → List ℕ
dealers_of None = []
dealers_of (Some request) = request.dealers

-- each named dealer, also one that declined, is told how the request ended for it
abbrev pub told_to_each : RoomRef → End → List ℕ → ℕ → List Duty
told_to_each at end dealers moment =
    map (λ dealer. duty.Tell dealer at (close_for end dealer) moment) dealers

-- the same in a room with these facts
abbrev pub told_in : List RoomFact → RoomRef → End → ℕ → List Duty
told_in facts at end moment = told_to_each at end (dealers_of (request_of facts)) moment

-- who is told of a hit: each named dealer where it awards, else nobody
abbrev pub told_of_hit : List RoomFact → RoomRef → ℕ → Result End HitRefusal → List Duty
told_of_hit facts at moment (Ok award) = told_in facts at award moment
told_of_hit facts at moment (Err refused) = []

-- the word that a hit asks, where no check refuses it before
abbrev pub word_asked_by : Result ℕ HitRefusal → Option ℕ
word_asked_by (Ok word) = Some word
word_asked_by (Err refused) = None

-- the same of a hit of this word at this moment
abbrev pub hit_word : List RoomFact → ℕ → ℕ → Option ℕ
hit_word facts word moment = word_asked_by (hit_question facts word moment)

-- what a hit leaves with the settlement of its word: the investor is answered, then each named
-- dealer is told where the hit awards
abbrev pub hit_duties : List RoomFact → RoomRef → ResponseRef → ℕ → Result End HitRefusal
    → List Duty
hit_duties facts at response moment outcome =
    duty.Answer at response (reply_of outcome) moment ∷ told_of_hit facts at moment outcome

-- the same, where the row has the word that the hit asks
abbrev pub duties_of_hit : List RoomFact → RoomRef → ResponseRef → ℕ → ℕ → Bool → Option Settled
    → List Duty
duties_of_hit facts at response word moment has settlement =
    if has then hit_duties facts at response moment
    (hit_outcome facts word moment settlement) else []

-- what the investor is answered to a pass
abbrev pub reply_to_pass : Bool → Reply
reply_to_pass passed = if passed then reply.Passed else reply.Refused NotOpen

-- what a pass leaves: the investor is answered, then each named dealer is told where it ends the
-- room
abbrev pub duties_of_pass : List RoomFact → RoomRef → ResponseRef → ℕ → List Duty
duties_of_pass facts at response moment =
    duty.Answer at response (reply_to_pass (is_open facts)) moment
    ∷ (if is_open facts then told_in facts at passed moment else [])

-- what a sweep leaves where it ends the room: the investor is told, then each named dealer
abbrev pub duties_of_expire : List RoomFact → RoomRef → ℕ → List Duty
duties_of_expire facts at moment =
    if may_expire facts moment then duty.Close at moment ∷ told_in facts at expired moment else []
