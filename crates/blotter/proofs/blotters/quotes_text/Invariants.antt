use Rattle.std.proofs.Common.{◌≡◌, take, string_bytes}
use Rattle.std.specs.List.{flat_map}
use Rattle.blotter.specs.BlotterText.{quote_line}
use Rattle.blotter.proofs.blotters.quotes_text.Given as goal

abbrev pub invariant-loop-quote : goal.invariant-loop-quote
invariant-loop-quote l = string_bytes l.text ≡ flat_map quote_line (take l.quote-index l.quotes)
