use Rattle.capnp_values.proofs.source.size_of_struct.Goals as goal

pub returns : goal.returns
returns g c = (c.new-unlimited.result, c.total_size.new.limiter, c.new-unlimited.ensures.left, c.total_size.ensures)
