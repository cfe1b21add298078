use Rattle.std.proofs.Common.{[], ◌∷◌, ◌++◌, ap, ◌∙◌, append_assoc}
use Rattle.fix_fields.proofs.writer.push_three.Goals as goal

pub returns-clause-items : goal.returns-clause-items
returns-clause-items c =
    let behind = c.args.second ∷ c.args.third ∷ [] in
    c.push_two.ensures.items
    ∙ ap (λ t. t ++ behind) c.push_reserved.ensures.items
    ∙ append_assoc c.args.body.now.items (c.args.first ∷ []) behind
