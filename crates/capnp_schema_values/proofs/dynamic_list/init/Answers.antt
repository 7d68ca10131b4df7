use Rattle.std.proofs.Common.{Ok, Err, refl}
use Rattle.capnp_schema_values.proofs.dynamic_list.init.Goals as goal

pub returns-in-Ok-clause-begins : goal.returns-in-Ok-clause-begins
returns-in-Ok-clause-begins g c = (c.init.new.self, Ok tt, (c.in-Ok.ensures.puts, tt), c.get.ensures.gets)

pub returns-in-Err-clause-begins : goal.returns-in-Err-clause-begins
returns-in-Err-clause-begins g c = (c.init.new.self, Err c.in-Err.error, (c.in-Err.ensures.puts, c.in-Err.ensures.refused), (refl, refl))
