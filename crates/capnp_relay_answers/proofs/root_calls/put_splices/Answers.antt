use Rattle.capnp_relay_answers.proofs.Fronts.{told_put}
use Rattle.capnp_relay_answers.proofs.root_calls.put_splices.Goals as goal

pub returns-clause-told : goal.returns-clause-told
returns-clause-told c schema known =
    told_put schema c.args.calls.now known c.args.count c.args.words.now.items c.write_splices.new.words.items c.write_splices.result c.write_splices.ensures.told
