use Rattle.std.proofs.Common.{ap}
use Rattle.std.specs.Prelude.{map}
use Rattle.capnp_units.specs.Segments.{words_in}
use Rattle.capnp_units.specs.declared.sizes.StructSize.{StructSize}
use Rattle.capnp_calls.specs.Resolved.{calls_of}
use Rattle.capnp_calls.specs.Replies.{reply_view}
use Rattle.std.proofs.lemmas.Result.{err_from_is_err_and}
use Rattle.capnp_units.specs.declared.errors.Error.{Error}
use Rattle.capnp_copy_arenas.specs.Refusals.{IsSizeOrRefusal}
use Rattle.capnp_calls_run.proofs.Tested.{over_ok, over_err}
use Rattle.capnp_calls_run.proofs.AtRoot.{ValueLaws, at_root, long_at_root, stops_at_root, root_refused}
use Rattle.capnp_calls_run.proofs.root.run_root.Goals as goal

pub returns-clause-all : goal.returns-clause-all
returns-clause-all g c =
    let seg = g.A.ReaderArena.segments in
    let values : ValueLaws = record { again = c.changes_of_values.ensures.again; after = c.changes_of_values.ensures.owned; down = c.objects_of_pointers.ensures.down; up = c.objects_of_pointers.ensures.up; depths_at = c.depths_of_owned_values.ensures.values; owned_at = c.changes_with_fewer_levels.ensures.owned; replaced_at = c.changes_with_fewer_levels.ensures.replaced } in
    over_ok c.run_at.result
    (λ told h. at_root values (words_in (seg c.args.arena.now)) (words_in (seg c.get_struct.new.arena)) (c.requires.arena.few c.args.arena.now) (c.requires.arena.few c.get_struct.new.arena) c.args.schema c.in_ok-object.object c.struct_size.result.data_words c.struct_size.result.pointers (ap (λ (x : StructSize). x.data_words) c.struct_size.ensures) (ap (λ (x : StructSize). x.pointers) c.struct_size.ensures) c.in_ok-object.ensures.value c.in_ok-object.ensures.object (words_in (seg c.run_at.new.arena)) (calls_of c.args.calls.now) (map reply_view told.items) h)
    c.run_at.ensures.all

pub returns-clause-size : goal.returns-clause-size
returns-clause-size g c err =
    let seg = g.A.ReaderArena.segments in
    let values : ValueLaws = record { again = c.changes_of_values.ensures.again; after = c.changes_of_values.ensures.owned; down = c.objects_of_pointers.ensures.down; up = c.objects_of_pointers.ensures.up; depths_at = c.depths_of_owned_values.ensures.values; owned_at = c.changes_with_fewer_levels.ensures.owned; replaced_at = c.changes_with_fewer_levels.ensures.replaced } in
    long_at_root values (words_in (seg c.args.arena.now)) (words_in (seg c.get_struct.new.arena)) (c.requires.arena.few c.args.arena.now) (c.requires.arena.few c.get_struct.new.arena) c.args.schema c.in_ok-object.object c.struct_size.result.data_words c.struct_size.result.pointers (ap (λ (x : StructSize). x.data_words) c.struct_size.ensures) (ap (λ (x : StructSize). x.pointers) c.struct_size.ensures) c.in_ok-object.ensures.value c.in_ok-object.ensures.object (calls_of c.args.calls.now) (c.run_at.ensures.size err)

pub returns-in_err-object-clause-stops : goal.returns-in_err-object-clause-stops
returns-in_err-object-clause-stops g c =
    let seg = g.A.ReaderArena.segments in
    let told : Error → Type 0 = IsSizeOrRefusal g.A.BuilderArena.refuses in
    let r = err_from_is_err_and c.from_residual.result c.from_residual.ensures.1 in
    rw (r.1, r.2) (root_refused told (words_in (seg c.args.arena.now)) (words_in (seg c.get_struct.new.arena)) c.args.schema c.struct_size.result.data_words c.struct_size.result.pointers (ap (λ (x : StructSize). x.data_words) c.struct_size.ensures) (ap (λ (x : StructSize). x.pointers) c.struct_size.ensures) (calls_of c.args.calls.now) c.in_err-object.field-0.0 (ap words_in c.in_err-object.ensures.refused) c.in_err-object.ensures.kind c.in_err-object.ensures.cause)

pub returns-clause-stops : goal.returns-clause-stops
returns-clause-stops g c =
    let seg = g.A.ReaderArena.segments in
    let told : Error → Type 0 = IsSizeOrRefusal g.A.BuilderArena.refuses in
    let values : ValueLaws = record { again = c.changes_of_values.ensures.again; after = c.changes_of_values.ensures.owned; down = c.objects_of_pointers.ensures.down; up = c.objects_of_pointers.ensures.up; depths_at = c.depths_of_owned_values.ensures.values; owned_at = c.changes_with_fewer_levels.ensures.owned; replaced_at = c.changes_with_fewer_levels.ensures.replaced } in
    over_err c.run_at.result
    (λ fault h. stops_at_root values (words_in (seg c.args.arena.now)) (words_in (seg c.get_struct.new.arena)) (c.requires.arena.few c.args.arena.now) (c.requires.arena.few c.get_struct.new.arena) c.args.schema c.in_ok-object.object c.struct_size.result.data_words c.struct_size.result.pointers (ap (λ (x : StructSize). x.data_words) c.struct_size.ensures) (ap (λ (x : StructSize). x.pointers) c.struct_size.ensures) c.in_ok-object.ensures.value c.in_ok-object.ensures.object told (words_in (seg c.run_at.new.arena)) (calls_of c.args.calls.now) fault h)
    c.run_at.ensures.stops
