use Rattle.std.proofs.Common.{◌≡◌, ◌<◌, ◌≤◌, ◌+◌, ℕ, List, [], ◌∷◌, ◌++◌, Some, ap, arith, length}
use Rattle.std.proofs.Common.{refl, slice_get, subst, sym, ◌∙◌}
use Rattle.std.specs.Option.{option_map}
use Rattle.std.proofs.lemmas.Option.{slice_get_read, slice_get_within}
use Rattle.venue_steps.specs.declared.actors.Actor.TheVariants as actor
use Rattle.step_replay.specs.declared.steps.Step.{Step}
use Rattle.step_replay.specs.declared.steps.Step.TheVariants as step
use Rattle.day_weaving.specs.OrderCounts.{SetsCount, count_in, inbound_at}
use Rattle.recorded_days.specs.Records.{FirmLists, RecordedDay, firm_in}
use Rattle.recorded_days.specs.declared.actions.Inbound.{Inbound}
use Rattle.day_weaving.proofs.InboxLemmas.{inbox_at}
use Rattle.day_weaving.proofs.woven_steps.put_message.Goals as goal

-- what is read of the inbox is the message that is wanted
read_is : (day : RecordedDay) (firm sender count at : ℕ) (inbox : List Inbound)
    (inbound : Inbound) → firm ≡ sender → count ≡ at
    → Some inbox ≡ option_map (λ (lists : FirmLists). lists.inbox) (firm_in day sender)
    → inbound_at day firm at ≡ Some inbound → slice_get inbox count ≡ Some inbound
read_is day firm sender count at inbox inbound same count_is inbox_is wanted =
    ap (slice_get inbox) count_is
    ∙ sym (inbox_at day firm at inbox (inbox_is
    ∙ ap (λ (n : ℕ). option_map (λ (lists : FirmLists). lists.inbox) (firm_in day n)) (sym same)))
    ∙ wanted

pub returns-in_default-get : goal.returns-in_default-get
returns-in_default-get c firm inbound by_firm wanted =
    let came = c.args.came.now in
    let both : actor.Firm firm ≡ actor.Firm c.in-Firm.firm = sym by_firm ∙ c.in-Firm.is in
    let same : firm ≡ c.in-Firm.firm = cc in
    let count_is : c.count_of-count.result ≡ count_in came firm =
    c.count_of-count.ensures ∙ ap (count_in came) (c.from.ensures ∙ sym same) in
    let there : slice_get c.in-Some.inbox.now c.count_of-count.result ≡ Some inbound =
    read_is c.args.day.now firm c.in-Firm.firm c.count_of-count.result (count_in came firm)
    c.in-Some.inbox.now inbound same count_is c.in-Some.ensures wanted in
    let within : c.count_of-count.result < length c.in-Some.inbox.now =
    slice_get_within c.in-Some.inbox.now c.count_of-count.result inbound there in
    let beyond : length c.in-Some.inbox.now ≤ c.count_of-count.result =
    c.in_default-get.ensures.lookup.3 in
    absurd (omega (arith, within, beyond))

pub returns : goal.returns
returns c firm inbound by_firm wanted =
    let came = c.args.came.now in
    let after = c.put_count.new.counts in
    let count = c.count_of-count.result in
    let both : actor.Firm firm ≡ actor.Firm c.in-Firm.firm = sym by_firm ∙ c.in-Firm.is in
    let same : firm ≡ c.in-Firm.firm = cc in
    let count_is : count ≡ count_in came firm =
    c.count_of-count.ensures ∙ ap (count_in came) (c.from.ensures ∙ sym same) in
    let inbox = c.in-Some.inbox.now in
    let within : count < length inbox = c.in-Some-get.ensures.lookup.3.0 in
    let two : Some c.in-Some-get.inbound.now ≡ Some inbound =
    sym (slice_get_read inbox (length inbox) count c.in-Some-get.inbound.now refl within
    c.in-Some-get.ensures.lookup.1)
    ∙ read_is c.args.day.now firm c.in-Firm.firm count (count_in came firm) c.in-Some.inbox.now
    inbound same count_is c.in-Some.ensures wanted in
    let one : c.in-Some-get.inbound.now ≡ inbound = cc in
    let bytes : c.in_ok-message.message ≡ c.in-Some-get.inbound.now.bytes =
    c.in_ok-message.ensures ∙ c.as_bytes.ensures in
    record {
      firm = firm;
      inbound = inbound;
      by_firm = by_firm;
      is_next = wanted;
      counted = subst (λ (n : ℕ). SetsCount came after firm (n + 1)) count_is
          (subst (λ (key : ℕ). SetsCount came after key (count + 1))
          (c.from-2.ensures ∙ sym same) c.in_ok-put_count.ensures);
      steps_are = c.in_ok-push.ensures.items
          ∙ ap (λ (now : Step). c.args.steps.now.items ++ now ∷ [])
          (ap (step.In c.in-Firm.firm c.in-Some-get.inbound.now.moment) bytes
          ∙ ap (λ (n : ℕ). step.In n c.in-Some-get.inbound.now.moment
          c.in-Some-get.inbound.now.bytes) (sym same)
          ∙ ap (λ (found : Inbound). step.In firm found.moment found.bytes) one);
    }
