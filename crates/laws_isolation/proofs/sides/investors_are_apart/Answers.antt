use Rattle.laws_isolation.proofs.ApartDays.{dealer_due, firm_sent, investor_due}
use Rattle.laws_isolation.proofs.sides.investors_are_apart.Goals as goal

pub returns-clause-investors : goal.returns-clause-investors
returns-clause-investors c config side steps others investor here alike =
    investor_due side config steps others alike investor here

pub returns-clause-dealers : goal.returns-clause-dealers
returns-clause-dealers c config side steps others dealer here alike =
    dealer_due side config steps others alike dealer here

pub returns-clause-sent : goal.returns-clause-sent
returns-clause-sent c config side steps others firm here alike =
    firm_sent side config steps others alike firm here
