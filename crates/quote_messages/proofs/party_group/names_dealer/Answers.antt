use Rattle.std.proofs.Common.{◌≡◌, ◌∙◌, ap, sym, codes, true, false, ◌∷◌}
use Rattle.venue_rows.specs.Texts.{same_text}
use Rattle.quote_messages.specs.PartyGroup.{before_entry}
use Rattle.quote_messages.proofs.GroupLemmas.{no_dealer, dealer_if, not_false, not_true}
use Rattle.quote_messages.proofs.party_group.names_dealer.Goals as goal

pub returns-then-ne : goal.returns-then-ne
returns-then-ne c = λ id.
    let source = c.value_in_entry-source.result.now in
    let other : same_text (codes "D") source ≡ false =
    ap (λ text. same_text text source) (sym c.as_slice.ensures) ∙ not_false (same_text c.as_slice.result.now source) c.if-ne.ensures in
    no_dealer ((448, id) ∷ before_entry c.args.behind.now) source (sym (c.value_in_entry-source.ensures id)) other

pub returns : goal.returns
returns c = λ id.
    let source = c.value_in_entry-source.result.now in
    let role = c.value_in_entry-role.result.now in
    let is_d : same_text (codes "D") source ≡ true =
    ap (λ text. same_text text source) (sym c.as_slice.ensures) ∙ not_true (same_text c.as_slice.result.now source) c.if-ne.ensures in
    dealer_if c.eq.result id c.args.behind.now source role (sym (c.value_in_entry-source.ensures id)) is_d (sym (c.value_in_entry-role.ensures id))
    (c.eq.ensures ∙ ap (λ text. same_text text role) c.as_slice-2.ensures)
