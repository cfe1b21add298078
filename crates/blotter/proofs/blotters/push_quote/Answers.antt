use Rattle.std.proofs.Common.{◌++◌, codes, decimal, string_bytes}
use Rattle.bond_prices.specs.ThirtySeconds.{thirty_seconds}
use Rattle.fix_fields.specs.TimeOfDay.{time_text}
use Rattle.blotter.specs.BlotterText.{quote_line, left_in, right_in, side_letter, quote_state}
use Rattle.blotter.proofs.LineLemmas.{quote_line_joined}
use Rattle.blotter.proofs.blotters.push_quote.Goals as goal

pub returns : goal.returns
unfolding quote_line
returns c =
    let line = c.args.line.now in
    rw (c.in_ok-push_quote_end.ensures, c.in_ok-push_terms.ensures, c.in_ok-push_request_number.ensures, c.in_ok-push_entry.ensures)
    (quote_line_joined (string_bytes c.args.text.now) (right_in 4 (decimal line.q)) (time_text line.moment) (left_in 8 line.trader)
    (left_in 5 (codes "R" ++ decimal line.request)) line.bond (side_letter line.side) (right_in 13 (decimal line.quantity))
    (right_in 7 (thirty_seconds line.price)) (quote_state line.state))
