-- The words of the trimmed value after the calls.
use Rattle.capnp_wire_canonical.specs.Writes.{words_view}
use Rattle.capnp_calls_in_place.proofs.SetRoots.{sets_words}
use Rattle.capnp_calls_in_place.proofs.sets.write_sets.Goals as goal

pub returns-clause-sets : goal.returns-clause-sets
returns-clause-sets c = λ schema calls t done plain fits is words. sets_words schema calls c.args.sets.now t (words_view c.put_in_root.new.words) plain fits is (c.put_in_root.ensures.words t done fits words)
