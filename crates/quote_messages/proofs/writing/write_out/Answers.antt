use Rattle.std.proofs.Common.{◌∙◌, ap}
use Rattle.fix_fields.specs.Frame.{frame_text}
use Rattle.quote_messages.specs.Written.{written}
use Rattle.quote_messages.proofs.writing.write_out.Goals as goal

pub returns-clause-text : goal.returns-clause-text
unfolding written
returns-clause-text c =
    c.new.ensures ∙ c.in_ok-bytes.ensures.text
    ∙ ap frame_text (rw (c.in_ok-put_body.ensures, c.in_ok-writer.ensures.fields, c.msg_type.ensures.value))
