use Rattle.capnp_calls.specs.Resolved.{call_of}
use Rattle.capnp_calls.specs.Replies.{reply_view}
use Rattle.capnp_calls_run.proofs.Tested.{over_ok, tested}
use Rattle.capnp_calls_run.proofs.Levels.{DepthLaws}
use Rattle.capnp_calls_run.proofs.run.test.Goals as goal

pub returns : goal.returns
returns g c =
    let reader = c.struct_of.result in
    let seg = g.A.ReaderArena.segments in
    let laws : DepthLaws = record { depths = c.depths_of_owned_values.ensures.objects; owned = c.changes_with_fewer_levels.ensures.object_owned; replaced = c.changes_with_fewer_levels.ensures.object_replaced } in
    record {
      replied = over_ok c.reply_to.result (λ x h. tested laws seg (seg c.args.arena.now) (g.A.ReaderArena.nesting c.args.arena.now) (c.requires.arena.few c.args.arena.now) (c.requires.arena.deep c.args.arena.now) c.args.object c.args.schema (call_of c.args.call.now) reader (reply_view x) c.struct_of.ensures.schema c.struct_of.ensures.source h) c.reply_to.ensures.replied;
      memory = c.reply_to.ensures.memory;
    }
