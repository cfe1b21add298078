use Rattle.std.proofs.Common.{sym, ◌∙◌}
use Rattle.std.specs.List.{list_any}
use Rattle.std.proofs.lemmas.Option.{IfSome_then}
use Rattle.std.proofs.lemmas.Bool.{not-true}
use Rattle.day_weaving.specs.DayForm.{AreMisnamed, IsMalformed, Misnamed, takes_message}
use Rattle.day_weaving.proofs.NumberedLemmas.{none_then}
use Rattle.day_weaving.proofs.day_form.well_formed_places.Goals as goal

pub returns-clause-yes : goal.returns-clause-yes
returns-clause-yes c =
    IfSome_then c.in_ok-places.places c.in_ok-places.ensures.yes
    (λ places told. (
      record {
        firms = c.has_firms_of.ensures.yes c.if-not-has_firms_of.false;
        days = c.are_firms_days.ensures.yes c.if-not-are_firms_days.false;
        clock = not-true (list_any takes_message c.args.day.now.clock)
            (sym c.has_no_message_of_clock.ensures ∙ c.if-not-has_no_message_of_clock.false);
        named = told.0;
      },
      told.1,
      told.2,
    ))

pub returns-clause-no : goal.returns-clause-no
returns-clause-no c =
    none_then c.in_ok-places.places (AreMisnamed c.args.day.now)
    (IsMalformed c.args.config.now c.args.day.now) (λ why. Misnamed why) c.in_ok-places.ensures.no

pub returns-then-not-has_firms_of-clause-no : goal.returns-then-not-has_firms_of-clause-no
returns-then-not-has_firms_of-clause-no c =
    c.has_firms_of.ensures.no c.if-not-has_firms_of.true

pub returns-then-not-are_firms_days-clause-no : goal.returns-then-not-are_firms_days-clause-no
returns-then-not-are_firms_days-clause-no c =
    c.are_firms_days.ensures.no c.if-not-are_firms_days.true
