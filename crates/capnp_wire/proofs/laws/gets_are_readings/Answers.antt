-- Each law is proved of the definitions.
use Rattle.capnp_wire.proofs.ReadingLaws.{bytes, structs, lists}
use Rattle.capnp_wire.proofs.laws.gets_are_readings.Goals as goal

pub returns : goal.returns
returns c = record { bytes = bytes; structs = structs; lists = lists }
