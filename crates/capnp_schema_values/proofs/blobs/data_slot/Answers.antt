use Rattle.std.proofs.Common.{option_map, option_copied, inl}
use Rattle.std.proofs.lemmas.Result.{err_from_is_err_and}
use Rattle.capnp_model.specs.Segments.{Segments}
use Rattle.capnp_units.specs.Segments.{words_in}
use Rattle.capnp_wire_objects.specs.Places.{place_view}
use Rattle.capnp_records.specs.NodeViews.{value_of}
use Rattle.capnp_copy_arenas.proofs.lemmas.RoomLaws.{still_some}
use Rattle.capnp_layout_builders.specs.Blobs.{data_named}
use Rattle.capnp_schema_values.specs.Defaults.{default_bytes}
use Rattle.capnp_schema_values.proofs.BegunBytes.{got_if_ok, refused_if_err, bytes_grow}
use Rattle.capnp_schema_values.proofs.blobs.data_slot.Goals as goal

pub data_here-requires-clause-there : goal.data_here-requires-clause-there
data_here-requires-clause-there g c =
    still_some (words_in (g.A.ReaderArena.segments c.args.memory.now.arena)) (words_in (g.A.ReaderArena.segments c.begin_bytes.new.arena)) (place_view c.args.slot) 1 c.begin_bytes.ensures.grows c.requires.there

pub returns-clause-got : goal.returns-clause-got
returns-clause-got g c =
    let s : Segments = words_in (g.A.ReaderArena.segments c.args.memory.now.arena) in
    let m : Segments = words_in (g.A.ReaderArena.segments c.begin_bytes.new.arena) in
    let u : Segments = words_in (g.A.ReaderArena.segments c.data_here.new.memory.arena) in
    let d = default_bytes (option_map value_of (option_copied c.args.default)) in
    got_if_ok data_named d s m u c.args.slot c.in_ok-begin_bytes.ensures.begins (λ n. n) c.data_here.result c.data_here.ensures.got c.data_here.ensures.near

pub returns-clause-refused : goal.returns-clause-refused
returns-clause-refused g c =
    let s : Segments = words_in (g.A.ReaderArena.segments c.args.memory.now.arena) in
    let m : Segments = words_in (g.A.ReaderArena.segments c.begin_bytes.new.arena) in
    let u : Segments = words_in (g.A.ReaderArena.segments c.data_here.new.memory.arena) in
    let d = default_bytes (option_map value_of (option_copied c.args.default)) in
    refused_if_err data_named d s m u c.args.slot c.in_ok-begin_bytes.ensures.begins c.data_here.result c.data_here.ensures.refused

pub returns-clause-grows : goal.returns-clause-grows
returns-clause-grows g c =
    let s : Segments = words_in (g.A.ReaderArena.segments c.args.memory.now.arena) in
    let m : Segments = words_in (g.A.ReaderArena.segments c.begin_bytes.new.arena) in
    let u : Segments = words_in (g.A.ReaderArena.segments c.data_here.new.memory.arena) in
    let d = default_bytes (option_map value_of (option_copied c.args.default)) in
    bytes_grow data_named d s m u c.args.slot c.in_ok-begin_bytes.ensures.begins (λ n. n) c.data_here.result c.begin_bytes.ensures.grows c.data_here.ensures.got c.data_here.ensures.refused

pub returns-in_err-begin_bytes-clause-refused : goal.returns-in_err-begin_bytes-clause-refused
returns-in_err-begin_bytes-clause-refused g c =
    let p = err_from_is_err_and c.from_residual.result c.from_residual.ensures.1 in
    rw (p.1, p.2) (inl c.in_err-begin_bytes.ensures.refused)
