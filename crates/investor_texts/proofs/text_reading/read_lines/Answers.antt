use Rattle.std.proofs.Common.{◌≡◌, ◌∷◌, ap, ◌∙◌, rules}
use Rattle.input_lines.specs.DueText.{Lines}
use Rattle.investor_texts.specs.InvestorText.{with_lines}
use Rattle.investor_texts.proofs.ReadLemmas.{bad_line, one_more}
use Rattle.investor_texts.proofs.text_reading.read_lines.Goals as goal

pub returns-then-not-is_of_form-clause-err : goal.returns-then-not-is_of_form-clause-err
returns-then-not-is_of_form-clause-err c other =
    let date = c.args.date.now in
    let firm = c.args.firm.now in
    let line : c.loop-line.line-iterator
    ≡ (c.in-Some.line, c.in-Some.text.now) ∷ c.next.new.self = search rules in
    c.loop-line.invariant.read
    ∙ ap (λ (lines : Lines). with_lines date firm c.loop-line.reading lines) line
    ∙ bad_line date firm (c.in-Some.line, c.in-Some.text.now) c.next.new.self
    c.loop-line.reading c.take.new.self c.in_ok-is_of_form.is_of_form
    c.in_ok-is_of_form.ensures c.if-not-is_of_form.true

pub loop-line-preserved : goal.loop-line-preserved
loop-line-preserved c =
    let date = c.args.date.now in
    let firm = c.args.firm.now in
    let line : c.loop-line.line-iterator
    ≡ (c.in-Some.line, c.in-Some.text.now) ∷ c.next.new.self = search rules in
    record {
      next = tt;
      ends = tt;
      read = c.loop-line.invariant.read
          ∙ ap (λ (lines : Lines). with_lines date firm c.loop-line.reading lines) line
          ∙ one_more date firm (c.in-Some.line, c.in-Some.text.now) c.next.new.self
          c.loop-line.reading c.take.new.self c.in_ok-is_of_form.is_of_form
          c.in_ok-is_of_form.ensures c.if-not-is_of_form.false;
    }
