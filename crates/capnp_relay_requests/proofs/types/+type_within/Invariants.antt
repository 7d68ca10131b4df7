use Rattle.capnp_relay_requests.proofs.types.+type_within.Given as goal

abbrev pub decreases-type_within : goal.decreases-type_within
decreases-type_within t l = l.lists
