-- The names of other crates, and of specs/, that most proofs of this one cite, passed on from one place.
-- Declares nothing.
pub use Rattle.std.proofs.Common.{List, None, Option, Some, ℕ, [], filter_map, map, option_map}
pub use Rattle.std.proofs.Common.{option_to_list, refl, ◌++◌, ◌∙◌, ◌∷◌, ◌≡◌, count_by, fold, sym}
pub use Rattle.std.proofs.Common.{ap, ◌==◌, ◌⊎◌, inl, inr, true, eq-eqb, Bool, IfSome, arith, false}
pub use Rattle.std.proofs.Common.{is_some, nat_le, subst, take, ◌&&◌, ◌+◌, ◌-◌, ◌≤◌, if◌then◌else◌}
pub use Rattle.std.proofs.Common.{length, find, filter, is_none, suc, zero, Ok, Result, drop, codes}
pub use Rattle.std.proofs.Common.{Err, not}
pub use Rattle.std.proofs.lemmas.List.{append-nil, map-append, append_assoc, length-append}
pub use Rattle.std.proofs.lemmas.List.{take-append-drop}
pub use Rattle.std.proofs.lemmas.List.Elements.{filter_map-append}
pub use Rattle.std.proofs.lemmas.Bool.{cases_Bool, and_from, both_ways, or_right, eqb-true}
pub use Rattle.std.proofs.lemmas.Bool.{not-false, or_left, and_parts, or_cases, or_parts, not-true}
pub use Rattle.std.proofs.lemmas.Bool.Decides.{nat_tests}
pub use Rattle.std.proofs.lemmas.Option.{same_Some, slice_get_within}
pub use Rattle.std.specs.Prelude.{slice_get}
pub use Rattle.std.proofs.lemmas.Slice.Eq.{bytes_eq-Decides}
pub use Rattle.std.proofs.Math.Bool.{or-false}
pub use Rattle.std.proofs.lemmas.List.Folds.{list_any-append}
pub use Rattle.std.specs.List.{list_any, AllZip}
pub use Rattle.quote_word.specs.declared.settled.Settled.{Settled}
pub use Rattle.venue_rows.specs.Rows.{Configuration, dealer_numbered, investor_numbered}
pub use Rattle.venue_rows.specs.Rows.{bond_with_id, has_room}
pub use Rattle.venue_rows.specs.declared.dealer_rows.DealerRow.{DealerRow}
pub use Rattle.dealer_desk.specs.DealerFacts.{Came, DealerFact, Dropped, Shown, Told, Withdrawn}
pub use Rattle.dealer_desk.specs.DealerFacts.{number_to_drop, Quoted, tells, requests_from}
unfoldable pub use Rattle.dealer_desk.specs.DealerFacts.{request_numbered}
pub use Rattle.dealer_desk.specs.DealerOutput.{desk_after, settled_facts, shown_room, uses_number}
pub use Rattle.dealer_desk.specs.DealerOutput.{verdict_facts, number_in, is_same_room, untold}
unfoldable pub use Rattle.dealer_desk.specs.DealerOutput.{event_facts, closable}
unfoldable pub use Rattle.dealer_desk.specs.DealerRules.{dealer_verdict}
pub use Rattle.dealer_desk.specs.declared.events.DealerEvent.{DealerEvent}
pub use Rattle.step_replay.specs.Actions.{answer_to_drop, drop_at, settlement_of, Effect, dealer_of}
pub use Rattle.step_replay.specs.Actions.{Dealer, acting_dealer, dealer_at, word_for, done_by}
pub use Rattle.step_replay.specs.Actions.{done_for, dropped_by, quote_with_word, told_to}
pub use Rattle.step_replay.specs.Actions.{received_by_dealer, where_known, QuoteRef, in_room}
pub use Rattle.step_replay.specs.Actions.{lifting, nothing}
pub use Rattle.step_replay.specs.AuditTrail.{AuditTrail, Caused, after_turn, duty_of, is_same_actor}
pub use Rattle.step_replay.specs.AuditTrail.{no_steps, pending}
unfoldable pub use Rattle.step_replay.specs.AuditTrail.{audit_trail, after_step}
pub use Rattle.step_replay.specs.DealerGrowth.{settled_undue, verdict_undue, facts_grown}
pub use Rattle.step_replay.specs.DealerGrowth.{rooms_grown}
pub use Rattle.step_replay.specs.DealerTrail.{AtDesk, DealerEntry, Sent, ShownIn, answer_to_dealer}
pub use Rattle.step_replay.specs.DealerTrail.{book_by, facts_of, message_by, rooms_by}
pub use Rattle.step_replay.specs.DealerTrail.{was_withdrawn, was_lifted, Lifted, lifts}
unfoldable pub use Rattle.step_replay.specs.DealerTrail.{entries_of}
pub use Rattle.step_replay.specs.DueList.{due_by_fact, due_list}
pub use Rattle.step_replay.specs.EachLemmas.{Each, Stays, each_append, every_both}
pub use Rattle.step_replay.specs.EachLemmas.{every_weaker, each_of}
pub use Rattle.step_replay.specs.IsolationLemmas.{seen_is_kept}
pub use Rattle.step_replay.specs.Lists.{Every, In}
pub use Rattle.step_replay.specs.SeenLemmas.{Seen, start_seen}
pub use Rattle.step_replay.specs.StepLemmas.{kept_by_all}
pub use Rattle.step_replay.specs.TrailKept.{IsKept}
pub use Rattle.step_replay.specs.VenueFacts.{Fact, AtDealer, InRoom, AtInvestor}
unfoldable pub use Rattle.step_replay.specs.VenueFacts.{of_dealer, of_room, of_investor}
pub use Rattle.step_replay.specs.declared.steps.Step.{Step}
pub use mathlib.Core.List.{map-map}
pub use Rattle.market_terms.specs.Unpriced.{uncovered, unpriced_duty}
pub use Rattle.market_terms.specs.declared.duties.Duty.{Duty}
pub use Rattle.fix_fields.specs.Frame.{Field, frame_of, value_of, times_of}
pub use Rattle.venue_steps.specs.declared.actors.Actor.{Actor}
unfoldable pub use Rattle.step_replay.specs.DutyEffects.{duty_effect, message_effect, sweep_effect}
pub use Rattle.laws_days.specs.PriceAlike.{IsPricedByAnother, ArePricesOf, IsOneOrPriced}
pub use Rattle.laws_days.specs.PriceAlike.{is_price_tag, bond_meant}
pub use Rattle.laws_days.specs.WorkedVenue.{venue}
pub use Rattle.market_terms.specs.declared.asks.Ask.{Ask}
pub use Rattle.market_terms.specs.declared.closes.Close.{Close}
pub use Rattle.market_terms.specs.declared.closes.HitRefusal.{HitRefusal}
pub use Rattle.market_terms.specs.declared.rooms.RoomRef.{RoomRef}
pub use Rattle.laws_days.specs.AcceptedQuotes.{none_holds}
pub use Rattle.investor_desk.specs.InvestorFacts.{knows, InvestorBook, Asked, InvestorFact, Offered}
pub use Rattle.investor_desk.specs.InvestorFacts.{book_of, offers_of, requests_of}
pub use Rattle.request_room.specs.Book.{hit_checks, quote_meant, fact_if}
unfoldable pub use Rattle.request_room.specs.Book.{hit_refusal}
pub use Rattle.request_room.specs.RoomFacts.{RoomFact, is_ended, is_named, is_opening, is_ready}
pub use Rattle.request_room.specs.RoomFacts.{is_vacant, request_of, end_of, Posted, Ended, ended_as}
pub use Rattle.request_room.specs.RoomFacts.{is_open, is_readied, opened_for, Opened, Readied}
pub use Rattle.request_room.specs.RoomFacts.{first_said, names}
pub use Rattle.request_room.specs.declared.ends.End.{End}
pub use Rattle.venue_steps.specs.InvestorSteps.{replies_to}
pub use Rattle.venue_steps.specs.RoomSteps.{hit_word, where_follows, close_for}
pub use Rattle.market_terms.specs.declared.rooms.ResponseRef.{ResponseRef}
pub use Rattle.dealer_desk.specs.Unpriced.{unpriced_verdict}
pub use Rattle.dealer_desk.proofs.UnpricedBooks.{book_same}
pub use Rattle.investor_desk.specs.InvestorRules.{InvestorMarket}
unfoldable pub use Rattle.investor_desk.specs.InvestorRules.{investor_verdict}
pub use Rattle.dealer_desk.specs.declared.verdicts.DealerVerdict.{DealerVerdict}
pub use Rattle.investor_desk.specs.declared.events.InvestorEvent.{InvestorEvent}
pub use Rattle.step_replay.specs.InvestorTrail.{InvestorEntry}
pub use Rattle.step_replay.specs.PlaceLemmas.{nothing_of, dealer_grown, own_trail, investor_grown}
pub use Rattle.step_replay.specs.PlaceLemmas.{investor_in_room, own_room, room_grown}
pub use Rattle.market_terms.specs.Dealers.{are_distinct}
pub use Rattle.venue_rows.specs.Texts.{same_text}
pub use Rattle.venue_rows.specs.declared.bond_rows.BondRow.{BondRow}
pub use Rattle.venue_rows.specs.declared.investor_rows.InvestorRow.{InvestorRow}
pub use Rattle.investor_desk.specs.InvestorDesk.{market_of, market_for}
pub use Rattle.investor_desk.specs.InvestorOutput.{own_facts}
pub use Rattle.investor_desk.specs.declared.standing.AcceptedRequest.{AcceptedRequest}
pub use Rattle.investor_desk.specs.declared.standing.ShownOffer.{ShownOffer}
pub use Rattle.investor_desk.specs.declared.verdicts.InvestorVerdict.{InvestorVerdict}
pub use Rattle.step_replay.specs.GrowthLemmas.{any_left, same_room, all_in, in_right}
pub use Rattle.step_replay.specs.GrowthLemmas.{said_after, any_right, AreNumbered, in_left}
pub use Rattle.dealer_desk.specs.declared.accepted.AcceptedQuote.{AcceptedQuote}
pub use Rattle.dealer_desk.specs.declared.standing.StandingQuote.{StandingQuote}
pub use Rattle.dealer_desk.specs.declared.standing.StandingRequest.{StandingRequest}
pub use Rattle.laws_days.specs.Notices.{NamesLiftedQuote, next_sent}
unfoldable pub use Rattle.bond_prices.specs.Price.{price_of}
pub use Rattle.quote_messages.specs.SessionLines.{first_fault}
unfoldable pub use Rattle.quote_messages.specs.SessionLines.{tag_fault}
pub use Rattle.quote_messages.specs.SessionChecks.{quote_lines}
pub use Rattle.request_room.specs.declared.requests.RoomRequest.{RoomRequest}
pub use Rattle.step_replay.specs.WordLemmas.{IsOneOf}
