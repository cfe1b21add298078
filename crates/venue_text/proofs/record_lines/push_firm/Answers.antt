use Rattle.std.proofs.Common.{◌≡◌, ◌++◌, Some, sym, ap, ◌∙◌, rules}
use Rattle.std.specs.Prelude.{slice_get}
use Rattle.std.specs.Option.{option_map}
use Rattle.std.proofs.lemmas.List.{append-nil}
use Rattle.recorded_days.specs.Records.{FirmLists, firms_in}
use Rattle.venue_rows.specs.Rows.{firm_names}
use Rattle.venue_text.specs.RecordText.{days_in_record}
use Rattle.venue_text.proofs.ArrivalLemmas.{recorded_sent}
use Rattle.venue_text.proofs.DayLemmas.{messages_at, messages_of_none, messages_of_no_day}
use Rattle.venue_text.proofs.record_lines.push_firm.Goals as goal

pub returns-in_default : goal.returns-in_default
returns-in_default c =
    sym (append-nil c.args.text.now.items)
    ∙ ap (λ t. c.args.text.now.items ++ t)
    (sym (messages_of_none c.args.with_frames (firm_names c.args.venue.now) (days_in_record c.args.day.now) c.args.firm c.in_default.ensures))

pub returns-in_default-sent : goal.returns-in_default-sent
returns-in_default-sent c =
    sym (append-nil c.args.text.now.items)
    ∙ ap (λ t. c.args.text.now.items ++ t)
    (sym (messages_of_no_day c.args.with_frames (firm_names c.args.venue.now) (days_in_record c.args.day.now) c.args.firm
    (c.in_default-sent.ensures ∙ recorded_sent (firms_in c.args.day.now) c.args.firm)))

pub returns : goal.returns
returns c =
    let named : Some c.in-Some.name.now ≡ slice_get (firm_names c.args.venue.now) c.args.firm = search rules in
    let sent : Some c.in-Some-sent.messages.now ≡ option_map (λ (firm : FirmLists). firm.sent) (slice_get (firms_in c.args.day.now) c.args.firm) = search rules in
    c.in_ok-push_messages.ensures
    ∙ ap (λ t. c.args.text.now.items ++ t)
    (sym (messages_at c.args.with_frames (firm_names c.args.venue.now) (days_in_record c.args.day.now) c.args.firm c.in-Some.name.now
    c.in-Some-sent.messages.now named (sent ∙ recorded_sent (firms_in c.args.day.now) c.args.firm)))
