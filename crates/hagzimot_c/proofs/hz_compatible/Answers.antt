use Rattle.std.specs.Prelude.{option_copied}
use Rattle.hagzimot_c.proofs.Versions.{found_of, broken_of}
use Rattle.hagzimot_c.proofs.hz_compatible.Goals as goal

pub returns-in-Ok-clause-yes : goal.returns-in-Ok-clause-yes
returns-in-Ok-clause-yes c is =
    found_of c.args.older.now c.args.newer.now c.args.renames.now c.args.root.now (option_copied c.in-Some.root) c.in-Ok.versions c.in-Some.ensures c.in-Ok.ensures (c.compared.ensures.yes is)

pub returns-in-Ok-clause-no : goal.returns-in-Ok-clause-no
returns-in-Ok-clause-no c is =
    broken_of c.args.older.now c.args.newer.now c.args.renames.now c.args.root.now (option_copied c.in-Some.root) c.in-Ok.versions c.in-Some.ensures c.in-Ok.ensures (c.compared.ensures.no is)
