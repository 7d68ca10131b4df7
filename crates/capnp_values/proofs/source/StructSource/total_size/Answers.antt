use Rattle.capnp_values.proofs.source.StructSource.total_size.Goals as goal

pub returns-in-Message : goal.returns-in-Message
returns-in-Message g c = rw c.in-Message.is c.size_of_struct.ensures

pub returns-in-Default : goal.returns-in-Default
returns-in-Default g c = rw c.in-Default.is c.size_of_struct-in-Default.ensures
