use Rattle.std.proofs.Common.{◌≡◌, ◌*◌, ◌++◌, ◌∷◌, [], Option, Some, length, sym, ap, ◌∙◌}
use Rattle.std.specs.Prelude.{option_map, option_copied}
use Rattle.capnp_model.specs.Accepted.{schema_of, default_tree}
use Rattle.capnp_model.specs.Calls.{blob_tree, text_tree}
use Rattle.capnp_model.specs.Groups.{empty_tree}
use Rattle.capnp_model.specs.Schemas.{Value, text_bytes, blob_bytes, struct_segment, list_segment, default_or_null}
use Rattle.capnp_model.specs.Sections.{words_for}
use Rattle.capnp_records.specs.NodeViews.{value_of}
use Rattle.capnp_records.specs.Sets.{nodes_of}
use Rattle.capnp_records.specs.declared.node.Value.TheVariants as V
use Rattle.capnp_values_queries.specs.Types.{ty_of}
use Rattle.capnp_copy_arenas.specs.Refusals.{IsSizeOrRefusal}
use Rattle.capnp_copy_arenas.specs.States.{state_in}
use Rattle.capnp_schema_structs.specs.GroupSets.{null_tree}
use Rattle.capnp_schema_structs.proofs.lemmas.NullMembers.{value_said, none_said, plain_said, empty_stands}
use Rattle.capnp_schema_structs.proofs.NullRefusals.{put_as, blob_put}
use Rattle.capnp_schema_structs.proofs.group_nulls.put_null.Goals as goal

pub returns-in_default : goal.returns-in_default
returns-in_default g c =
    let at = state_in g.A.ReaderArena.segments g.A.BuilderArena.room g.A.BuilderArena.books in
    let around = schema_of (nodes_of c.args.set.now) in
    let ty = ty_of c.args.ty in
    let v = option_map value_of (option_copied c.args.default) in
    let same = empty_stands around ty (default_or_null (default_tree v)) (none_said c.args.default c.in_default.is) in
    put_as (IsSizeOrRefusal g.A.BuilderArena.refuses) (at c.args.arena.now) (at c.put_empty.new.arena) c.args.slot (empty_tree around ty) (null_tree around ty v) c.put_empty.result same c.put_empty.ensures

pub returns-in-Text : goal.returns-in-Text
returns-in-Text g c =
    let at = state_in g.A.ReaderArena.segments g.A.BuilderArena.room g.A.BuilderArena.books in
    let old = at c.args.arena.now in
    let new = at c.put_blob.new.arena in
    let bs = c.deref.result.now ++ 0 ∷ [] in
    let around = schema_of (nodes_of c.args.set.now) in
    let ty = ty_of c.args.ty in
    let v = option_map value_of (option_copied c.args.default) in
    let said : v ≡ Some (text_bytes c.deref.result.now) = value_said c.args.default c.in-Some.value (V.Text c.in-Text.text) c.in-Some.is c.in-Text.is ∙ ap (λ x. Some (text_bytes x)) (sym c.deref.ensures.value) in
    let e = c.put_blob.ensures in
    put_as (IsSizeOrRefusal g.A.BuilderArena.refuses) old new c.args.slot (text_tree c.deref.result.now) (null_tree around ty v) c.put_blob.result (ap (λ (x : Option Value). null_tree around ty x) (sym said))
    (blob_put (IsSizeOrRefusal g.A.BuilderArena.refuses) old new c.args.slot bs (words_for (8 * length bs)) c.put_blob.result e.made e.refused e.cause e.grows e.books)

pub returns-in-Data : goal.returns-in-Data
returns-in-Data g c =
    let at = state_in g.A.ReaderArena.segments g.A.BuilderArena.room g.A.BuilderArena.books in
    let old = at c.args.arena.now in
    let new = at c.put_blob-in-Data.new.arena in
    let bs = c.deref-in-Data.result.now in
    let around = schema_of (nodes_of c.args.set.now) in
    let ty = ty_of c.args.ty in
    let v = option_map value_of (option_copied c.args.default) in
    let said : v ≡ Some (blob_bytes bs) = value_said c.args.default c.in-Some.value (V.Data c.in-Data.data) c.in-Some.is c.in-Data.is ∙ ap (λ x. Some (blob_bytes x)) (sym c.deref-in-Data.ensures.value) in
    let e = c.put_blob-in-Data.ensures in
    put_as (IsSizeOrRefusal g.A.BuilderArena.refuses) old new c.args.slot (blob_tree bs) (null_tree around ty v) c.put_blob-in-Data.result (ap (λ (x : Option Value). null_tree around ty x) (sym said))
    (blob_put (IsSizeOrRefusal g.A.BuilderArena.refuses) old new c.args.slot bs (words_for (8 * length bs)) c.put_blob-in-Data.result e.made e.refused e.cause e.grows e.books)

pub returns-in-Struct : goal.returns-in-Struct
returns-in-Struct g c =
    let at = state_in g.A.ReaderArena.segments g.A.BuilderArena.room g.A.BuilderArena.books in
    let around = schema_of (nodes_of c.args.set.now) in
    let ty = ty_of c.args.ty in
    let v = option_map value_of (option_copied c.args.default) in
    let w : Option Value = Some (struct_segment c.deref-in-Struct.result.now) in
    let said : v ≡ w = value_said c.args.default c.in-Some.value (V.Struct c.in-Struct.segment) c.in-Some.is c.in-Struct.is ∙ ap (λ x. Some (struct_segment x)) (sym c.deref-in-Struct.ensures.value) in
    put_as (IsSizeOrRefusal g.A.BuilderArena.refuses) (at c.args.arena.now) (at c.put_segment.new.arena) c.args.slot (null_tree around ty w) (null_tree around ty v) c.put_segment.result (ap (λ (x : Option Value). null_tree around ty x) (sym said)) c.put_segment.ensures

pub returns-in-List : goal.returns-in-List
returns-in-List g c =
    let at = state_in g.A.ReaderArena.segments g.A.BuilderArena.room g.A.BuilderArena.books in
    let around = schema_of (nodes_of c.args.set.now) in
    let ty = ty_of c.args.ty in
    let v = option_map value_of (option_copied c.args.default) in
    let w : Option Value = Some (list_segment c.deref-in-List.result.now) in
    let said : v ≡ w = value_said c.args.default c.in-Some.value (V.List c.in-List.segment) c.in-Some.is c.in-List.is ∙ ap (λ x. Some (list_segment x)) (sym c.deref-in-List.ensures.value) in
    put_as (IsSizeOrRefusal g.A.BuilderArena.refuses) (at c.args.arena.now) (at c.put_segment-in-List.new.arena) c.args.slot (null_tree around ty w) (null_tree around ty v) c.put_segment-in-List.result (ap (λ (x : Option Value). null_tree around ty x) (sym said)) c.put_segment-in-List.ensures

pub returns-in_default-value : goal.returns-in_default-value
returns-in_default-value g c =
    let at = state_in g.A.ReaderArena.segments g.A.BuilderArena.room g.A.BuilderArena.books in
    let not = c.in_default-value in
    let around = schema_of (nodes_of c.args.set.now) in
    let ty = ty_of c.args.ty in
    let v = option_map value_of (option_copied c.args.default) in
    let bare = plain_said c.args.default c.in-Some.value c.in-Some.is not.not-Text not.not-Data not.not-List not.not-Struct in
    let same = empty_stands around ty (default_or_null (default_tree v)) bare in
    put_as (IsSizeOrRefusal g.A.BuilderArena.refuses) (at c.args.arena.now) (at c.put_empty-in_default-value.new.arena) c.args.slot (empty_tree around ty) (null_tree around ty v) c.put_empty-in_default-value.result same c.put_empty-in_default-value.ensures
