use Rattle.std.proofs.Common.{◌≡◌, take}
use Rattle.std.specs.List.{flat_map}
use Rattle.venue_text.specs.RecordText.{days_in_record}
use Rattle.venue_text.specs.ReplayText.{firm_text, named_days}
use Rattle.venue_text.proofs.record_lines.record_text.Given as goal

abbrev pub invariant-loop-firm : goal.invariant-loop-firm
invariant-loop-firm l =
    l.text.items ≡ flat_map (firm_text l.with_frames) (take l.firm (named_days l.venue (days_in_record l.day)))
