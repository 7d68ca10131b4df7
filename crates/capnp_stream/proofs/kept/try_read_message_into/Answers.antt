use Rattle.capnp_stream.proofs.kept.try_read_message_into.Goals as goal

pub returns : goal.returns
returns g c = record { message = c.try_read_message.ensures.message; longer = c.try_read_message.ensures.longer }
