use Rattle.std.proofs.Common.{rules, ◌≡◌, ◌∙◌, ◌++◌, List, ℕ, Some, ap, map, refl, subst, sym}
use Rattle.std.specs.List.{concat}
use Rattle.fix_fields.specs.Envelope.{envelopes_of}
use Rattle.input_lines.specs.StepReading.{whole_cut, whole_messages}
use Rattle.input_lines.proofs.StreamLemmas.{cut_found}
use Rattle.input_lines.proofs.firm_streams.cut_bytes.Goals as goal

pub returns : goal.returns
returns c =
    let bytes = c.args.bytes.now in
    let cut = envelopes_of bytes in
    let some : Some c.in-Some.messages ≡ whole_messages cut = search rules in
    let list_is = ap (map (λ message. message.items)) c.as_slice.ensures.value ∙ c.into_vec-list.ensures in
    subst (λ (l : List (List ℕ)). Some (l, c.in_ok-behind.behind.items) ≡ whole_cut cut)
    (sym (c.new.ensures ∙ c.into_vec-list.ensures))
    (cut_found bytes c.in_ok-behind.behind.items c.in-Some.messages cut ((c.envelopes_of_is_the_cutting.ensures bytes cut).0 refl) some
    (λ (b : List ℕ) is. c.in_ok-behind.ensures.items ∙ c.behind_all.ensures b (is ∙ ap (λ (l : List (List ℕ)). concat l ++ b) (sym list_is))))
