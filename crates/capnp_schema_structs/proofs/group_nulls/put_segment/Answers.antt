use Rattle.std.proofs.Common.{sym, ◌∙◌}
use Rattle.capnp_model.specs.Accepted.{schema_of}
use Rattle.capnp_model.specs.Decoding.{decode}
use Rattle.capnp_model.specs.Groups.{empty_tree, source_tree}
use Rattle.capnp_model.specs.Schemas.{default_or_null}
use Rattle.capnp_model.specs.Segments.{root}
use Rattle.capnp_model.specs.Traversal.{cost_at}
use Rattle.capnp_model.specs.Trees.{null}
use Rattle.capnp_records.specs.Sets.{nodes_of}
use Rattle.capnp_copy_values.specs.Defaults.{default_segments}
use Rattle.capnp_values_queries.specs.Types.{ty_of}
use Rattle.capnp_copy_arenas.specs.Refusals.{IsSizeOrRefusal}
use Rattle.capnp_copy_arenas.specs.States.{state_in}
use Rattle.capnp_schema_structs.proofs.lemmas.NullMembers.{null_root, some_root}
use Rattle.capnp_schema_structs.proofs.NullRefusals.{put_as, copy_not_put}
use Rattle.capnp_schema_structs.proofs.group_nulls.put_segment.Goals as goal

pub returns-then-has_null_root : goal.returns-then-has_null_root
returns-then-has_null_root g c =
    let at = state_in g.A.ReaderArena.segments g.A.BuilderArena.room g.A.BuilderArena.books in
    let around = schema_of (nodes_of c.args.set.now) in
    let ty = ty_of c.args.ty in
    let d = default_or_null (decode c.args.bytes.now) in
    let same = null_root around ty d c.words_of-words.result.now (c.words_of-words.ensures.value c.requires.reads) (sym c.has_null_root.ensures ∙ c.if-has_null_root.true) in
    put_as (IsSizeOrRefusal g.A.BuilderArena.refuses) (at c.args.arena.now) (at c.put_empty.new.arena) c.args.slot (empty_tree around ty) (source_tree around ty d null) c.put_empty.result same c.put_empty.ensures

pub returns : goal.returns
returns g c =
    let at = state_in g.A.ReaderArena.segments g.A.BuilderArena.room g.A.BuilderArena.books in
    let old = at c.args.arena.now in
    let new = at c.copy_root.new.arena in
    let around = schema_of (nodes_of c.args.set.now) in
    let ty = ty_of c.args.ty in
    let d = default_or_null (decode c.args.bytes.now) in
    let ws = c.words_of-words.result.now in
    let from = default_segments ws in
    let holds = c.words_of-words.ensures.value c.requires.reads in
    let same = some_root around ty d ws holds (sym c.has_null_root.ensures ∙ c.if-has_null_root.false) in
    let e = c.copy_root.ensures in
    let why = copy_not_put (IsSizeOrRefusal g.A.BuilderArena.refuses) old new c.args.slot.segment ws d (cost_at 64 from root) holds (c.values_on_walks.ensures.cost 64 from root d holds) c.copy_root.result e.why in
    put_as (IsSizeOrRefusal g.A.BuilderArena.refuses) old new c.args.slot d (source_tree around ty d null) c.copy_root.result same (record { puts = e.puts d holds; stands = e.stands; why = why; books = e.books })
