use Rattle.std.proofs.Common.{rules}
use Rattle.serde_json.specs.View.{view}
use Rattle.serde_json.specs.Errors.{IsMemory}
use Rattle.capnp_relay_files.proofs.JsonTexts.{value-read, no-value}
use Rattle.capnp_relay_files.proofs.json.value_in.Goals as goal

pub returns-in-Ok-clause-ok : goal.returns-in-Ok-clause-ok
returns-in-Ok-clause-ok c = value-read c.args.bytes.now (view c.in-Ok.json) c.in-Ok.ensures.ok.0 c.in-Ok.ensures.ok.1

pub returns-else-is_memory-clause-refused : goal.returns-else-is_memory-clause-refused
returns-else-is_memory-clause-refused c =
    let other : IsMemory c.in-Err.e → ⊥ = λ m. let t = c.is_memory.ensures.1 m in absurd (search rules) in
    no-value c.args.bytes.now (c.in-Err.ensures.err other)
