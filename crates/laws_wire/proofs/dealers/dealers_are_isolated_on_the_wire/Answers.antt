use Rattle.std.proofs.Common.{◌≡◌, ap, sym, ◌∙◌, subst}
use Rattle.laws_sessions.specs.Given.{given_bodies}
use Rattle.step_replay.specs.AuditTrail as venue
use Rattle.step_replay.specs.NoteViews.{dealer_note_view}
use Rattle.laws_wire.specs.Carried.{AreMade}
use Rattle.laws_wire.proofs.dealers.dealers_are_isolated_on_the_wire.Goals as goal

pub returns : goal.returns
returns c = λ one other steps others dealer number row words names more_names s t events more date_is here there due_is no_reset no_more first second.
    let dues = venue.due_to dealer (venue.audit_trail one steps) in
    let other_dues = venue.due_to number (venue.audit_trail other others) in
    let sent = venue.sent_to one dealer (venue.audit_trail one steps) in
    let other_sent = venue.sent_to other number (venue.audit_trail other others) in
    let same_sent : sent ≡ other_sent = c.dealers_are_isolated.ensures one other steps others dealer number row date_is here there due_is in
    let same_notes : dealer_note_view one.date row dues ≡ dealer_note_view other.date row other_dues =
    ap (λ d. dealer_note_view d row dues) date_is ∙ ap (λ l. dealer_note_view other.date row l) due_is in
    let as_first : AreMade 1 sent (words (dealer_note_view one.date row dues)) (given_bodies more_names t more) =
    subst (λ frames. AreMade 1 frames (words (dealer_note_view one.date row dues)) (given_bodies more_names t more)) (sym same_sent)
    (subst (λ notes. AreMade 1 other_sent (words notes) (given_bodies more_names t more)) (sym same_notes) second) in
    c.what_is_kept_reads_back.ensures.same names more_names s t events more sent (words (dealer_note_view one.date row dues)) no_reset no_more first as_first
