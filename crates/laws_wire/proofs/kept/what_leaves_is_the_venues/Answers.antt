use Rattle.std.proofs.Common.{ap, ◌∙◌}
use Rattle.fix_sessions.specs.Written.{body_of, kept_fields}
use Rattle.fix_sessions.specs.declared.turns.Word.{Word}
use Rattle.laws_sessions.specs.Stamps.{is_of_kept, leads_body}
use Rattle.laws_wire.proofs.kept.what_leaves_is_the_venues.Goals as goal

pub returns-clause-first : goal.returns-clause-first
returns-clause-first c = λ names date moment reference said told m is_copy is.
    c.what_leaves_is_what_is_kept.ensures names date moment said
    (ap is_of_kept is) (ap (λ (w : Word). leads_body (body_of w)) is) ∙ ap kept_fields is

pub returns-clause-again : goal.returns-clause-again
returns-clause-again c = λ names date moment reference first said told m is_copy is.
    c.what_leaves_is_what_is_kept.ensures names date moment said
    (ap is_of_kept is) (ap (λ (w : Word). leads_body (body_of w)) is) ∙ ap kept_fields is
