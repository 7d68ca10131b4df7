use Rattle.capnp_calls_replies.proofs.ends.element_reply.Goals as goal

pub returns-in-Set : goal.returns-in-Set
returns-in-Set c s = rw c.in-Set.is (c.set_element.ensures s)
