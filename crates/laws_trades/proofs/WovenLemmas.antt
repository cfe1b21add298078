-- The messages of a firm in a record that steps send as it is recorded.
use Rattle.std.proofs.Common.{◌≡◌, ◌<◌, ℕ, List, Some, true, nat_lt, option_map, length, arith}
use Rattle.std.proofs.Common.{sym, ◌∙◌}
use Rattle.std.specs.Prelude.{slice_get}
use Rattle.std.proofs.lemmas.Bool.Decides.{nat_tests}
use Rattle.std.proofs.lemmas.Option.{same_Some, slice_get_within}
use Rattle.venue_rows.specs.Rows.{Configuration, dealer_numbered, investor_numbered}
use Rattle.venue_rows.specs.declared.dealer_rows.DealerRow.{DealerRow}
use Rattle.venue_rows.specs.declared.investor_rows.InvestorRow.{InvestorRow}
use Rattle.step_replay.specs.AuditTrail.{audit_trail, sent_to}
use Rattle.step_replay.specs.FirmDays.{FirmDay, firm_days}
use Rattle.step_replay.specs.PlaceLemmas.{investor_within}
use Rattle.step_replay.specs.StepFaults.{firms_of}
use Rattle.step_replay.specs.declared.steps.Step.{Step}
use Rattle.recorded_days.specs.Records.{RecordedDay}
use Rattle.day_weaving.specs.Weaving.{SendAsRecorded, sent_by_record}

-- what a replay gives of a firm is what it was sent
abbrev pub AreOneList : Type 0
AreOneList = (config : Configuration) (steps : List Step) (firm : ℕ)
    → nat_lt firm (firms_of config) ≡ true
    → option_map (λ (day : FirmDay). day.sent)
    (slice_get (firm_days config (audit_trail config steps).facts) firm)
    ≡ Some (sent_to config firm (audit_trail config steps))

module _ (one_list : AreOneList) (config : Configuration) (day : RecordedDay) (steps : List Step)
    (sends : SendAsRecorded config day steps) where
  recorded : (firm : ℕ) (sent : List (List ℕ)) → nat_lt firm (firms_of config) ≡ true
      → sent_by_record day firm ≡ Some sent → sent ≡ sent_to config firm (audit_trail config steps)
  recorded firm sent within is =
      let there : firm < firms_of config = grind (arith, nat_tests) in
      same_Some sent (sent_to config firm (audit_trail config steps))
      (sym is ∙ sym (sends firm there) ∙ one_list config steps firm within)

  pub recorded_investor : (investor : ℕ) (investor_row : InvestorRow) (sent : List (List ℕ))
      → investor_numbered config investor ≡ Some investor_row → sent_by_record day investor ≡ Some sent
      → sent ≡ sent_to config investor (audit_trail config steps)
  recorded_investor investor investor_row sent is recorded_so =
      recorded investor sent (investor_within config investor investor_row is) recorded_so

  pub recorded_dealer : (dealer : ℕ) (dealer_row : DealerRow) (sent : List (List ℕ))
      → dealer_numbered config dealer ≡ Some dealer_row → sent_by_record day dealer ≡ Some sent
      → sent ≡ sent_to config dealer (audit_trail config steps)
  recorded_dealer dealer dealer_row sent is recorded_so =
      let there : dealer < length config.dealers =
      slice_get_within config.dealers dealer dealer_row is in
      let within : nat_lt dealer (firms_of config) ≡ true = grind (arith, nat_tests) in
      recorded dealer sent within recorded_so
