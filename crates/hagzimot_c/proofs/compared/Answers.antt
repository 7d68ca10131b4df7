use Rattle.hagzimot_c.proofs.Versions.{without_break, with_break}
use Rattle.hagzimot_c.proofs.compared.Goals as goal

pub returns-in-None-clause-yes : goal.returns-in-None-clause-yes
returns-in-None-clause-yes c _ = without_break c.in-Ok.why c.in-Ok.ensures c.in-None.is

pub returns-in-Some-clause-no : goal.returns-in-Some-clause-no
returns-in-Some-clause-no c _ = with_break c.in-Ok.why c.in-Some.why c.in-Ok.ensures c.in-Some.is
