-- The view, item by item.
use Rattle.std.proofs.Common.{◌≡◌, ◌<◌, ◌≤◌, ℕ, ◌+◌, List, [], ◌∷◌, ◌++◌, length, take, get_or}
use Rattle.std.proofs.Common.{sym, ap, ◌∙◌}
use Rattle.std.proofs.lemmas.List.{take_all, take_more}
use Rattle.std.proofs.lemmas.List.Sums.{fold-append}
use Rattle.investor_desk.specs.InvestorDesk.{DeskEvents, no_events}
use Rattle.investor_desk.specs.InvestorOutput.{investor_notes, investor_output}
use Rattle.investor_views.specs.NoteView.{note_view, notes_at}
use Rattle.investor_views.specs.InvestorView.{SeenMarket, after_due, investor_view, market_seen}
use Rattle.investor_views.specs.InvestorView.{sent_at, view_after}
use Rattle.investor_views.specs.declared.dues.InvestorDue.{InvestorDue}

pub item_more : (seen : SeenMarket) (dues : List InvestorDue) (at : ℕ) (item : InvestorDue)
    (before after : DeskEvents) → at < length dues → item ≡ get_or dues at item
    → before ≡ view_after seen (take at dues) → after ≡ after_due before item
    → after ≡ view_after seen (take (at + 1) dues)
item_more seen dues at item before after within is had now =
    now ∙ ap (λ (d : DeskEvents). after_due d item) had
    ∙ sym (ap (view_after seen) (take_more dues at item within
    ∙ ap (λ (found : InvestorDue). take at dues ++ found ∷ []) (sym is))
    ∙ fold-append after_due (no_events (market_seen seen)) (take at dues) (item ∷ []))

pub all_seen : (seen : SeenMarket) (dues : List InvestorDue) (at : ℕ) (desk : DeskEvents)
    → length dues ≤ at → desk ≡ view_after seen (take at dues)
    → investor_output desk.market desk.events ≡ investor_view seen dues
all_seen seen dues at desk past is =
    ap sent_at (is ∙ ap (view_after seen) (take_all at dues past))

pub all_noted : (seen : SeenMarket) (dues : List InvestorDue) (at : ℕ) (desk : DeskEvents)
    → length dues ≤ at → desk ≡ view_after seen (take at dues)
    → investor_notes desk.market desk.events ≡ note_view seen dues
all_noted seen dues at desk past is =
    ap notes_at (is ∙ ap (view_after seen) (take_all at dues past))
