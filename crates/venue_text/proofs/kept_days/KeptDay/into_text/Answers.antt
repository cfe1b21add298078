use Rattle.venue_text.proofs.KeptLemmas.{text_kept}
use Rattle.venue_text.proofs.kept_days.KeptDay.into_text.Goals as goal

pub returns-in_ok-text-in-Messages : goal.returns-in_ok-text-in-Messages
returns-in_ok-text-in-Messages c config wanted taken keeps =
    text_kept wanted config taken c.args.self _ c.in_ok-text-in-Messages.text.items c.in-Messages.is
    c.in_ok-text-in-Messages.ensures keeps

pub returns-in_ok-text-in-Due : goal.returns-in_ok-text-in-Due
returns-in_ok-text-in-Due c config wanted taken keeps =
    text_kept wanted config taken c.args.self _ c.in_ok-text-in-Due.text.items c.in-Due.is
    c.in_ok-text-in-Due.ensures keeps

pub returns-in_ok-text-in-Blotter : goal.returns-in_ok-text-in-Blotter
returns-in_ok-text-in-Blotter c config wanted taken keeps =
    text_kept wanted config taken c.args.self _ c.in_ok-text-in-Blotter.text.items c.in-Blotter.is
    c.in_ok-text-in-Blotter.ensures keeps

pub returns-in_ok-text-in-Noted : goal.returns-in_ok-text-in-Noted
returns-in_ok-text-in-Noted c config wanted taken keeps =
    text_kept wanted config taken c.args.self _ c.in_ok-text-in-Noted.text.items c.in-Noted.is
    c.in_ok-text-in-Noted.ensures keeps
