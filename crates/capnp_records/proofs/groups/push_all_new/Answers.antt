use Rattle.std.proofs.Common.{ℕ, get_or}
use Rattle.capnp_records.proofs.lemmas.ListTests.{default_any}
use Rattle.capnp_records.proofs.Below.{passes_one_more}
use Rattle.capnp_records.proofs.groups.push_all_new.Goals as goal

pub loop-id-preserved : goal.loop-id-preserved
loop-id-preserved c =
    let more = c.args.more.now in
    let i = c.loop-id.id-index in
    let id : ℕ = get_or more i 0 in
    record {
      same = c.in_ok-push_new.ensures.same;
      more = passes_one_more c.args.ids.now.items c.loop-id.ids.items c.push_new.new.ids.items more i id c.loop-id-test.true (default_any more i 0 id c.loop-id-test.true) c.loop-id.invariant.more c.in_ok-push_new.ensures.more;
    }
