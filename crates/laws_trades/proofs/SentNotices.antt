-- A dealer's messages: before each that is read as a notice 694=1 stands that the dealer was told so.
use Rattle.laws_days.proofs.Common.{List, None, Option, Some, ℕ, [], false, map}
use Rattle.laws_days.proofs.Common.{option_map, option_to_list, refl, subst, sym, true, ◌++◌, ◌∷◌}
use Rattle.laws_days.proofs.Common.{append_assoc, length, same_Some, ◌+◌}
use Rattle.laws_days.proofs.Common.{◌≡◌, append-nil, Close, Settled, Configuration}
use Rattle.laws_days.proofs.Common.{dealer_numbered, DealerRow, DealerFact, Shown, Told}
use Rattle.laws_days.proofs.Common.{event_facts, dealer_verdict, settlement_of, drop_at}
use Rattle.laws_days.proofs.Common.{answer_to_drop, audit_trail, AtDesk, DealerEntry, Sent, ShownIn}
use Rattle.laws_days.proofs.Common.{book_by, entries_of, message_by, Lifted, Each, each_append}
use Rattle.laws_days.proofs.Common.{kept_by_all, IsKept, of_dealer, Step, StandingQuote}
use Rattle.laws_days.proofs.Common.{StandingRequest, DealerVerdict, RoomRef, closable}
use Rattle.fix_fields.specs.Frame.{Field, IsValue, frame_of}
use Rattle.market_terms.specs.declared.closes.Close.TheVariants as closes
use Rattle.quote_messages.specs.Written.{msg_type_of, written}
use Rattle.venue_rows.specs.Texts.{same_text}
use Rattle.std.proofs.Common.{codes}
use Rattle.quote_messages.specs.declared.out_messages.Head.{Head}
use Rattle.quote_messages.specs.declared.out_messages.OutMessage.{OutMessage}
use Rattle.dealer_desk.specs.DealerFacts.{DealerBook, quote_to_drop}
use Rattle.dealer_desk.specs.DealerFacts.{live_quote_on}
use Rattle.dealer_desk.specs.DealerOutput.{drop_message, event_message}
use Rattle.dealer_desk.specs.DealerOutput.{notice_of, quoted_price, verdict_message}
use Rattle.dealer_desk.specs.declared.events.DealerEvent.TheVariants as event
use Rattle.dealer_desk.specs.declared.verdicts.DealerVerdict.TheVariants as verdict
use Rattle.step_replay.specs.DealerTrail.{sent_by}
use Rattle.laws_trades.specs.SentTrades.{is_notice}
use Rattle.laws_trades.proofs.ReadMessages.{closing_read, other_notice}

-- what stands of a message that was sent behind these entries to the dealer of this name, on a day
-- of this date, where both may stand in a field
pub record SentBehind (date name : List ℕ) (before : List DealerEntry) (bytes : List ℕ)
    : Type 0 where
  pub told : IsValue date → IsValue name → (fields : List Field) → frame_of bytes ≡ Some fields
      → is_notice fields ≡ true → (front : List DealerEntry) × (request moment : ℕ)
      × (before ≡ front ++ AtDesk (Told request closes.Hit moment) ∷ [])

abbrev pub SentFit : List ℕ → List ℕ → List DealerEntry → DealerEntry → List DealerEntry → Type 0
SentFit date name before (Sent bytes) after = SentBehind date name before bytes
SentFit date name before entry after = Unit {0}

-- a message of another type than a notice
abbrev Calm : OutMessage → Type 0
Calm message = same_text (msg_type_of message) (codes "AJ") ≡ false

calm_sent : (before : List DealerEntry) (head : Head) (message : OutMessage) → Calm message
    → SentBehind head.date head.firm before (written head message)
calm_sent before head message calm = record {
  told = λ dated named fields read is.
      let other = other_notice head message fields read calm in
      cc (other, is);
}

-- the entries of an event: facts, the room of a request, and a message
entries_fit : (date name : List ℕ) (before : List DealerEntry) (facts : List DealerFact)
    (rooms : List RoomRef) (message : Option (List ℕ))
    → ((sent : List ℕ) → message ≡ Some sent
    → SentBehind date name (before ++ map AtDesk facts ++ map ShownIn rooms) sent)
    → Each (SentFit date name) before (map AtDesk facts ++ map ShownIn rooms ++ map Sent (option_to_list message))
entries_fit date name before (fact ∷ facts) rooms message sent = (
  tt,
  entries_fit date name (before ++ AtDesk fact ∷ []) facts rooms message (λ bytes is.
      subst (λ (l : List DealerEntry). SentBehind date name l bytes)
      (simp append_assoc) (sent bytes is)),
)
entries_fit date name before [] (room ∷ rooms) message sent = (
  tt,
  entries_fit date name (before ++ ShownIn room ∷ []) [] rooms message (λ bytes is.
      subst (λ (l : List DealerEntry). SentBehind date name l bytes)
      (simp (append_assoc, append-nil)) (sent bytes is)),
)
entries_fit date name before [] [] None sent = tt
entries_fit date name before [] [] (Some bytes) sent =
    (subst (λ (l : List DealerEntry). SentBehind date name l bytes) (simp append-nil) (sent bytes refl), tt)

-- the messages of a verdict and of a drop
said_calm : (before : List DealerEntry) (head : Head) (v : DealerVerdict)
    (settlement : Option Settled) (sent : List ℕ)
    → option_map (written head) (verdict_message v settlement) ≡ Some sent
    → SentBehind head.date head.firm before sent
said_calm before head verdict.Dropped settlement sent is = cc
said_calm before head (verdict.OutOfSequence reject) settlement sent is =
    subst (SentBehind head.date head.firm before) (same_Some _ sent is) (calm_sent before head _ refl)
said_calm before head (verdict.Rejected reject) settlement sent is =
    subst (SentBehind head.date head.firm before) (same_Some _ sent is) (calm_sent before head _ refl)
said_calm before head (verdict.QuoteRefused request id refusal) settlement sent is =
    subst (SentBehind head.date head.firm before) (same_Some _ sent is) (calm_sent before head _ refl)
said_calm before head (verdict.CancelRefused None refusal) settlement sent is =
    subst (SentBehind head.date head.firm before) (same_Some _ sent is) (calm_sent before head _ refl)
said_calm before head (verdict.CancelRefused (Some id) refusal) settlement sent is =
    subst (SentBehind head.date head.firm before) (same_Some _ sent is) (calm_sent before head _ refl)
said_calm before head (verdict.DeclineRefused request refusal) settlement sent is =
    subst (SentBehind head.date head.firm before) (same_Some _ sent is) (calm_sent before head _ refl)
said_calm before head (verdict.QuoteAccepted request id quote replaced) settlement sent is =
    subst (SentBehind head.date head.firm before) (same_Some _ sent is) (calm_sent before head _ refl)
said_calm before head (verdict.CancelAccepted id quote request) settlement sent is =
    subst (SentBehind head.date head.firm before) (same_Some _ sent is) (calm_sent before head _ refl)
said_calm before head (verdict.DropsFollow last) settlement sent is = cc
said_calm before head (verdict.DeclineAccepted request number) settlement sent is =
    subst (SentBehind head.date head.firm before) (same_Some _ sent is) (calm_sent before head _ refl)

dropped_calm : (before : List DealerEntry) (head : Head) (settlement : Option Settled)
    (own : Option StandingQuote) (sent : List ℕ)
    → option_map (written head) (option_map (drop_message settlement) own) ≡ Some sent
    → SentBehind head.date head.firm before sent
dropped_calm before head settlement None sent is = cc
dropped_calm before head settlement (Some own) sent is =
    subst (SentBehind head.date head.firm before) (same_Some _ sent is) (calm_sent before head _ refl)

-- a notice
told_sent : (before : List DealerEntry) (head : Head) (book : DealerBook) (request moment : ℕ)
    (close : Close) (closing : Option StandingRequest) (sent : List ℕ)
    → option_map (written head) (option_map (notice_of book close) closing) ≡ Some sent
    → SentBehind head.date head.firm (before ++ AtDesk (Told request close moment) ∷ []) sent
told_sent before head book request moment close None sent is = cc
told_sent before head book request moment closes.Hit (Some own) sent is =
    record { told = λ dated named fields read hit. (before, request, moment, refl) }
told_sent before head book request moment close (Some own) sent is =
    subst (SentBehind head.date head.firm (before ++ AtDesk (Told request close moment) ∷ []))
    (same_Some _ sent is) (record {
      told = λ dated named fields read notes.
          let other = closing_read head named dated (book.notices + 1)
          (record { number = own.number; ask = own.ask }) close
          (option_map quoted_price (live_quote_on book own.number)) refl fields read in
          cc (other, notes);
    })

module _ (date : List ℕ) (row : DealerRow) where
  abbrev head_of : List DealerEntry → ℕ → Head
  head_of trail moment =
      record { date = date; firm = row.name; number = length (sent_by trail) + 1; moment = moment }

  -- what fits of this dealer's trail
  abbrev Fits : List DealerEntry → DealerEntry → List DealerEntry → Type 0
  Fits before entry after = SentFit date row.name before entry after

  fits_more : (trail entries : List DealerEntry) → Each Fits [] trail → Each Fits trail entries
      → Each Fits [] (trail ++ entries)
  fits_more trail entries before more =
      each_append Fits (λ front entry after later fit. stays front entry after later fit) [] trail
      entries before more
    where
      stays : (front : List DealerEntry) (entry : DealerEntry) (after later : List DealerEntry)
          → Fits front entry after → Fits front entry (after ++ later)
      stays front (Sent bytes) after later fit = fit
      stays front (AtDesk fact) after later fit = tt
      stays front (ShownIn room) after later fit = tt
      stays front (Lifted quote) after later fit = tt

  sent_is_kept : IsKept date row (Each Fits [])
  unfolding entries_of event_facts event_message
  sent_is_kept = record {
    own = λ trail moment bytes before.
        let v = dealer_verdict date row (book_by trail) moment bytes in
        fits_more trail _ before (entries_fit date row.name trail
        (event_facts date row (book_by trail) (event.Received moment bytes (settlement_of trail v))) []
        (message_by date row trail (event.Received moment bytes (settlement_of trail v)))
        (said_calm _ (head_of trail moment) v (settlement_of trail v)));
    drop = λ trail last moment before.
        fits_more trail _ before (entries_fit date row.name trail
        (event_facts date row (book_by trail) (drop_at trail last moment)) []
        (message_by date row trail (drop_at trail last moment))
        (dropped_calm _ (head_of trail moment) (answer_to_drop trail last)
        (quote_to_drop (book_by trail) last)));
    shown = λ trail room ask moment before.
        fits_more trail _ before (entries_fit date row.name trail (Shown ask moment ∷ []) (room ∷ [])
        (message_by date row trail (event.Shown room ask moment))
        (λ sent is. subst (SentBehind date row.name _) (same_Some _ sent is)
        (calm_sent _ (head_of trail moment) _ refl)));
    told = λ trail request close moment may before.
        rw may (fits_more trail _ before (entries_fit date row.name trail (Told request close moment ∷ []) []
        (message_by date row trail (event.Told request close moment))
        (λ sent is. subst (λ (l : List DealerEntry). SentBehind date row.name l sent)
        (sym (append-nil (trail ++ AtDesk (Told request close moment) ∷ [])))
        (told_sent trail (head_of trail moment) (book_by trail) request moment close
        (closable (book_by trail) request) sent is))));
    lifted = λ trail quote within stays before. fits_more trail (Lifted quote ∷ []) before (tt, tt);
  }

pub messages_fit : (config : Configuration) (steps : List Step) (dealer : ℕ) (row : DealerRow)
    → dealer_numbered config dealer ≡ Some row
    → Each (SentFit config.date row.name) [] (of_dealer dealer (audit_trail config steps).facts)
messages_fit config steps dealer row is =
    kept_by_all config dealer row is (Each (SentFit config.date row.name) [])
    (sent_is_kept config.date row) tt steps
