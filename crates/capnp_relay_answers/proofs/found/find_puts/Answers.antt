use Rattle.capnp_relay_answers.proofs.found.find_puts.Goals as goal

pub returns-in-Some-clause-found : goal.returns-in-Some-clause-found
returns-in-Some-clause-found c = λ schema known. (let all = c.in_ok-sets.ensures.plain schema known in rw c.in-Some.is at all, known)
