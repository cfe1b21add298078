-- What a worked day computes with: to open `computed` is to open each definition that it names.
use Rattle.laws_days.proofs.Common.{List, Step, venue}
use Rattle.std.specs.Fmt as fmt
use Rattle.fix_fields.specs.Frame as frame
use Rattle.fix_fields.specs.UtcTimestamp as timestamp
use Rattle.bond_prices.specs.Grid as grid
use Rattle.bond_prices.specs.Price as price
use Rattle.quote_messages.specs.Arrivals as arrivals
use Rattle.quote_messages.specs.PartyGroup as party
use Rattle.quote_messages.specs.SessionChecks as session
use Rattle.quote_messages.specs.SessionLines as lines
use Rattle.quote_messages.specs.ValueForms as forms
use Rattle.quote_messages.specs.Written as written
use Rattle.dealer_desk.specs.DealerFacts as dealer_facts
use Rattle.dealer_desk.specs.DealerOutput as dealer_output
use Rattle.dealer_desk.specs.DealerRules as dealer_rules
use Rattle.investor_desk.specs.InvestorFacts as investor_facts
use Rattle.investor_desk.specs.InvestorOutput as investor_output
use Rattle.investor_desk.specs.InvestorRules as investor_rules
use Rattle.request_room.specs.Book as book
use Rattle.step_replay.specs.AuditTrail as audit
use Rattle.step_replay.specs.DealerTrail as dealer_trail
use Rattle.step_replay.specs.DutyEffects as effects
use Rattle.step_replay.specs.InvestorTrail as investor_trail
use Rattle.step_replay.specs.VenueFacts as facts

-- the audit trail of a worked day
unfoldable pub computed : List Step → audit.AuditTrail
unfolding fmt.digits frame.frame_text frame.fields_of frame.field_of frame.pieces_of frame.builds frame.length_digits_of frame.body_of frame.sum_digits_of frame.frame_of timestamp.is_date timestamp.milliseconds_of timestamp.spells timestamp.moment_of grid.on_grid price.price_of price.fraction_digits price.price_digits arrivals.dealer_arrival arrivals.investor_arrival party.party_group party.named_dealers session.dealer_session_verdict session.investor_session_verdict lines.tag_fault forms.quantity_of written.written dealer_facts.request_named dealer_facts.request_numbered dealer_facts.quote_with_id dealer_facts.quote_numbered dealer_facts.live_quote_on dealer_facts.has_lifted_quote dealer_facts.quote_to_drop dealer_facts.exposure_of dealer_facts.exposure_beside dealer_output.closable dealer_output.event_facts dealer_output.event_message dealer_rules.price_for dealer_rules.quote_refusal dealer_rules.quote_verdict dealer_rules.cancel_verdict dealer_rules.decline_verdict dealer_rules.dealer_verdict investor_facts.request_with_id investor_facts.request_numbered investor_facts.offer_named investor_facts.offer_numbered investor_output.event_facts investor_output.event_messages investor_rules.bond_with_id investor_rules.dealer_named investor_rules.request_refusal investor_rules.request_verdict investor_rules.hit_verdict investor_rules.pass_verdict investor_rules.investor_verdict book.cover_of book.hit_refusal book.event_facts effects.duty_effect effects.sweep_effect effects.message_effect audit.after_step audit.audit_trail dealer_trail.entries_of investor_trail.entries_of facts.of_dealer facts.of_room facts.of_investor
computed steps = audit.audit_trail venue steps
