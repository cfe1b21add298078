use Rattle.std.proofs.Common.{◌≡◌, take, string_bytes}
use Rattle.std.specs.List.{flat_map}
use Rattle.blotter.specs.BlotterText.{request_line}
use Rattle.blotter.proofs.blotters.requests_text.Given as goal

abbrev pub invariant-loop-request : goal.invariant-loop-request
invariant-loop-request l = string_bytes l.text ≡ flat_map request_line (take l.request-index l.requests)
