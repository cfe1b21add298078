-- The names of other crates, and of specs/, that most proofs of this one cite, passed on from one place.
-- Declares nothing.
pub use Rattle.std.proofs.Common.{◌≡◌, ◌<◌, ◌≤◌, ℕ, nat_le, nat_lt, Bool, true, false, ◌&&◌}
pub use Rattle.std.proofs.Common.{if◌then◌else◌, List, [], ◌++◌, length, Option, Some, None, IfSome}
pub use Rattle.std.proofs.Common.{option_map, refl, sym, ap, ◌∙◌, subst, arith, ◌≢◌, ◌+◌, ◌==◌}
pub use Rattle.std.proofs.Common.{◌||◌, eq-eqb, ap₂, is_some, suc, ◌-◌, ◌⊎◌, inl, inr, ◌∷◌, map}
pub use Rattle.std.proofs.Common.{filter_map, take, drop, get_or, cond, zero, slice_set, count_by}
pub use Rattle.std.proofs.Common.{replicate, not, fold, rules, map-id}
pub use Rattle.std.specs.List.{list_any, AllByRecursion}
pub use Rattle.std.specs.Vec.{with_item}
pub use Rattle.std.proofs.lemmas.Bool.Decides.{nat_tests, same_from_decides}
pub use Rattle.std.proofs.lemmas.List.Folds.{list_any-append}
pub use Rattle.std.proofs.lemmas.Option.{same_Some, gets, slice_get_past, slice_get_within}
pub use Rattle.std.proofs.lemmas.Option.{get_or_from_slice_get}
pub use Rattle.std.specs.Prelude.{slice_get}
pub use Rattle.std.proofs.lemmas.Bool.{cases_lt, and_left, both_ways}
pub use Rattle.std.proofs.lemmas.Grind.{elements, common_steps}
pub use Rattle.std.proofs.lemmas.List.{length-append, map-append, append-nil, append_assoc}
pub use Rattle.std.proofs.lemmas.List.{length-drop, take_more, length-map, take_all}
pub use Rattle.std.proofs.lemmas.List.{length-replicate, map-set}
pub use Rattle.std.proofs.Math.Bool.{or-false}
pub use Rattle.std.specs.Option.{option_to_list}
pub use Rattle.std.proofs.lemmas.List.Elements.{filter_map-append}
pub use Rattle.std.proofs.lemmas.List.Sums.{fold-append}
pub use Rattle.std.specs.Ordering.{is_eq}
unfoldable pub use Rattle.std.specs.List.Sorted.{IsStrictlySortedBy}
pub use Rattle.std.specs.Map.Iter.{deref}
pub use Rattle.std.specs.declared.cmp.Ordering.TheVariants.{Less}
pub use Rattle.std.proofs.lemmas.Map.Iter.{rest_more}
pub use Rattle.std.specs.BTreeSet.{contains}
pub use Rattle.std.proofs.lemmas.Iterator.Adapters.{YieldsList-from_vec}
pub use Rattle.std.proofs.lemmas.Iterator.Consumers.{YieldsList-end}
pub use Rattle.quote_word.specs.PlainWords.{entry_in, Exchanges, settlement_of}
pub use Rattle.quote_word.specs.PlainWordsLaws.{exchange_keeps_count, exchange_answers_entry}
pub use Rattle.quote_word.specs.PlainWordsLaws.{exchange_keeps_others}
pub use Rattle.quote_word.specs.declared.settled.Settled.{Settled}
pub use Rattle.venue_rows.specs.Rows.{Configuration, dealer_numbered, has_room, investor_numbered}
pub use Rattle.venue_rows.specs.Rows.{may_request}
pub use Rattle.market_terms.specs.declared.duties.Duty.{Duty}
pub use Rattle.dealer_desk.specs.DealerDesk.{DeskEvents, with_event, book_at, verdict_at}
pub use Rattle.dealer_desk.specs.DealerOutput.{DeskState, word_asked, is_same_room}
unfoldable pub use Rattle.dealer_desk.specs.DealerOutput.{event_facts, desk_after}
pub use Rattle.dealer_desk.specs.DeskLaws.{withdraws, says_withdrawn}
pub use Rattle.dealer_desk.specs.declared.events.DealerEvent.{DealerEvent}
pub use Rattle.venue_steps.specs.Words.{AsksAtMost, SettlesSo, settlement_in, has_word, word_to_ask}
pub use Rattle.step_replay.specs.DealerTrail.{DealerEntry, book_by, answer_to_dealer, entries_of}
pub use Rattle.step_replay.specs.DealerTrail.{facts_of, was_lifted, was_withdrawn, rooms_by}
pub use Rattle.step_replay.specs.DealerTrail.{sent_by, Lifted}
pub use Rattle.step_replay.specs.VenueFacts.{Fact, AtDealer, InRoom, AtInvestor}
unfoldable pub use Rattle.step_replay.specs.VenueFacts.{of_dealer, of_investor, of_room}
pub use Rattle.step_replay.specs.Actions.{Effect, Dealer, dealer_of, at_dealer, nothing, word_for}
pub use Rattle.step_replay.specs.Actions.{words_of, quote_among, QuoteRef, quote_with_word, told_of}
pub use Rattle.step_replay.specs.Actions.{dealer_at, done_by, first_word, dropped_by}
pub use Rattle.step_replay.specs.Actions.{received_by_dealer, lifting, hit_in, done_for, at_market}
pub use Rattle.step_replay.specs.Actions.{received_by_investor, where_known, quotes_of}
pub use Rattle.step_replay.specs.Standing.{Stands, Does, WordsStand, word_is, ActsOnce, DealerIs}
pub use Rattle.step_replay.specs.Standing.{InvestorStands, DealerStands, RoomIs, slots, AreOneOf}
pub use Rattle.step_replay.specs.declared.floor.DealerPlace.{DealerPlace}
pub use Rattle.step_replay.specs.declared.floor.Floor.{Floor}
pub use Rattle.venue_rows.specs.declared.dealer_rows.DealerRow.{DealerRow}
pub use Rattle.step_replay.specs.RowOfWords.{word_if, AreWordsOf, GrowsByEvents, IsOfRow, Row}
pub use Rattle.step_replay.specs.RowOfWords.{StandsFor, with_asked, with_wish, withdraws_by}
pub use Rattle.step_replay.specs.OwnerLemmas.{quote_at}
pub use Rattle.step_replay.specs.DealerGrowth.{facts_grown, desk_with}
pub use Rattle.market_terms.specs.declared.rooms.RoomRef.{RoomRef}
pub use Rattle.venue_steps.specs.Placed.{swept}
unfoldable pub use Rattle.venue_steps.specs.Placed.{placed}
pub use Rattle.venue_steps.specs.declared.actors.Actor.{Actor}
pub use Rattle.venue_steps.specs.declared.arrivals.Placement.{Placement}
unfoldable pub use Rattle.step_replay.specs.DutyEffects.{duty_effect, sweep_effect, message_effect}
unfoldable pub use Rattle.step_replay.specs.Coming.{dealer_gets, investor_gets, room_gets}
pub use Rattle.step_replay.specs.PlaceLemmas.{has_item, room_stays, investor_stays, own_trail}
pub use Rattle.step_replay.specs.PlaceLemmas.{room_at_dealer, get_set_same, lent, numbered_at}
pub use Rattle.step_replay.specs.PlaceLemmas.{own_investor, room_at_investor, behind_dealers}
pub use Rattle.step_replay.specs.PlaceLemmas.{other_room, room_grown}
pub use Rattle.venue_rows.specs.declared.investor_rows.InvestorRow.{InvestorRow}
pub use Rattle.dealer_desk.specs.DealerFacts.{book_of, DealerBook, number_to_drop}
pub use Rattle.investor_desk.specs.InvestorRules.{InvestorMarket}
pub use Rattle.step_replay.specs.FirmDays.{FirmDay, firm_days}
pub use Rattle.step_replay.specs.FloorDays.{dealer_day_at, investor_day_at}
pub use Rattle.step_replay.specs.LiveDays.{is_dealer, sent_by_facts, sent_in, Sent, actor_of}
pub use Rattle.step_replay.specs.LiveDays.{live_steps, live_trail, live_messages}
unfoldable pub use Rattle.step_replay.specs.LiveDays.{messages_in}
pub use Rattle.step_replay.specs.Matching.{Match}
pub use Rattle.step_replay.specs.StepFaults.{firms_of, fault_of, first_fault_from, first_fault}
pub use Rattle.step_replay.specs.declared.floor.InvestorPlace.{InvestorPlace}
pub use Rattle.market_terms.specs.declared.asks.Ask.{Ask}
pub use Rattle.market_terms.specs.declared.closes.Close.{Close}
pub use Rattle.step_replay.specs.DueList.{due_by_fact}
pub use Rattle.step_replay.specs.Liftings.{due_by_event, Noted, NotedAt, dues_behind, AreWithin}
pub use Rattle.step_replay.specs.declared.dues.Due.{Due}
pub use Rattle.step_replay.specs.LiveStanding.{sent_behind, SendsAllOf, VenueSends}
pub use Rattle.step_replay.specs.LiveStanding.{first_in, IsAt, VenueStands}
unfoldable pub use Rattle.step_replay.specs.LiveStanding.{after_turns}
pub use Rattle.step_replay.specs.InvestorGrowth.{desk_of}
pub use Rattle.step_replay.specs.ActionKinds.{IsAction, duty_action, message_action, sweep_action}
pub use Rattle.step_replay.specs.AuditTrail.{AuditTrail, after_turn, pending, with_effect}
pub use Rattle.step_replay.specs.AuditTrail.{is_same_actor, duty_of, no_steps}
unfoldable pub use Rattle.step_replay.specs.AuditTrail.{after_step, audit_trail}
pub use Rattle.step_replay.specs.Queues.{is_known, queue_of, QueuesStand, QueueHas}
pub use Rattle.step_replay.specs.Following.{ReplayStands, duties_in}
pub use Rattle.step_replay.specs.DonePlaces.{IsDone}
pub use Rattle.step_replay.specs.declared.done.Done.{Done}
pub use Rattle.step_replay.specs.declared.replay.Replay.{Replay}
pub use Rattle.step_replay.specs.QueueLemmas.{own_turned, other_turned, own_pending, other_pending}
pub use Rattle.step_replay.specs.QueueLemmas.{same_either}
pub use Rattle.market_terms.specs.declared.closes.HitRefusal.{HitRefusal}
pub use Rattle.request_room.specs.RoomFacts.{RoomFact}
pub use Rattle.request_room.specs.Book.{may_expire}
unfoldable pub use Rattle.request_room.specs.Book.{room_after}
pub use Rattle.request_room.specs.declared.ends.End.{End}
pub use Rattle.request_room.specs.declared.events.RoomEvent.{RoomEvent}
pub use Rattle.venue_steps.specs.RoomSteps.{where_done}
pub use Rattle.investor_desk.specs.InvestorDesk.{market_of, market_for}
pub use Rattle.investor_desk.specs.declared.events.InvestorEvent.{InvestorEvent}
pub use Rattle.step_replay.specs.Openings.{InvestorOpens, InvestorsOpen, DealersOpen, Opens}
pub use Rattle.step_replay.specs.Openings.{owners_from}
pub use Rattle.step_replay.specs.InvestorTrail.{InvestorEntry}
pub use Rattle.dealer_desk.specs.SettledWords.{asked_word, asked_by}
pub use Rattle.step_replay.specs.DealerView.{ViewState, answer_to, dealer_view, is_withdrawn_at}
pub use Rattle.step_replay.specs.DealerView.{no_room, view_after, with_event_at_desk}
unfoldable pub use Rattle.step_replay.specs.DealerView.{after_due}
pub use Rattle.step_replay.specs.declared.floor.Lifting.{Lifting}
pub use Rattle.step_replay.specs.declared.live.LiveVenue.{LiveVenue}
pub use Rattle.step_replay.specs.declared.steps.Step.{Step}
pub use Rattle.step_replay.specs.declared.steps.TheConstants.{MOST_TURNS_BEHIND}
pub use Rattle.step_replay.specs.OpenRooms.{IsEmpty, Notes, RoomsStand, has_come}
pub use Rattle.step_replay.specs.OpenRooms.{room_cmp, any_due, entry_cmp, is_due, deadline_by}
pub use Rattle.step_replay.specs.Deadlines.{deadline_of}
pub use Rattle.step_replay.specs.VenueRooms.{rooms_of, sweeps_at}
pub use Rattle.step_replay.specs.declared.open_rooms.OpenRooms.{OpenRooms}
pub use Rattle.step_replay.specs.GrowthLemmas.{same_room}
pub use Rattle.step_replay.specs.DoneSteps.{AreKnown, IsLeft, after_steps}
pub use Rattle.step_replay.specs.IsolationLemmas.{is_sent_its_view}
