use Rattle.std.proofs.Common.{[], IfErr, OnOk, sym, subst}
use Rattle.capnp_units.specs.declared.errors.Error.{Error}
use Rattle.capnp_copy_arenas.specs.Refusals.{IsSizeOrRefusal}
use Rattle.capnp_schema_structs.specs.Given.{set_content, set_edit}
use Rattle.capnp_values_queries.specs.Handles.{entry_of_field}
use Rattle.capnp_text.specs.declared.text.Reader.{Reader as TextReader}
use Rattle.capnp_values.specs.declared.dynamic_value.Reader.{Reader}
use Rattle.capnp_values.specs.declared.dynamic_value.Reader.TheVariants as value
use Rattle.capnp_calls_edits.proofs.ClaimsEnds.{single_of}
use Rattle.capnp_calls_edits.proofs.ClaimsEnds.{put_claimed, text_never, data_never}
use Rattle.std.specs.Prelude.{string_bytes}
use Rattle.capnp_model.specs.Calls.{set_to, text_value, blob_value}
use Rattle.capnp_records.specs.NodeViews.{field_of}
use Rattle.capnp_calls.specs.CallViews.{slot_value_view}
use Rattle.capnp_copy_arenas.specs.States.{state_in}
use Rattle.capnp_calls_edits.specs.Written.{WritesField, WhereFieldTakes}
use Rattle.capnp_calls_edits.proofs.Ends.{text_end, data_end}
use Rattle.capnp_units.specs.Segments.{words_in}
use Rattle.capnp_schema_structs.proofs.lemmas.Ready.{areas_inside}
use Rattle.capnp_calls_edits.proofs.values.set_value.Goals as goal

pub set_flat-requires-clause-inside : goal.set_flat-requires-clause-inside
set_flat-requires-clause-inside g c = areas_inside c.args.field.parent c.args.object c.requires.wide

pub set_flat-requires-in-Data-clause-inside : goal.set_flat-requires-in-Data-clause-inside
set_flat-requires-in-Data-clause-inside g c = areas_inside c.args.field.parent c.args.object c.requires.wide

pub returns-in-Text-clause-writes : goal.returns-in-Text-clause-writes
returns-in-Text-clause-writes g c =
    let at = state_in g.A.ReaderArena.segments g.A.BuilderArena.room g.A.BuilderArena.books in
    let s = words_in (g.A.ReaderArena.segments c.args.arena.now) in
    let u = words_in (g.A.ReaderArena.segments c.set_flat.new.arena) in
    subst (λ a. OnOk c.set_flat.result (WritesField s u c.args.object c.args.field (record { path = []; verb = set_to (slot_value_view a) }))) (sym c.in-Text.is)
    (text_end (Unit {0}) c.args.field (field_of c.get_proto-said.result.now) c.get_proto-said.ensures (record { 0 = c.as_bytes.result }) (string_bytes c.in-Text.text) c.as_bytes.ensures.value (at c.args.arena.now) (at c.set_flat.new.arena) c.args.object c.set_flat.result c.set_flat.ensures.puts)

pub returns-in-Data-clause-writes : goal.returns-in-Data-clause-writes
returns-in-Data-clause-writes g c =
    let at = state_in g.A.ReaderArena.segments g.A.BuilderArena.room g.A.BuilderArena.books in
    let s = words_in (g.A.ReaderArena.segments c.args.arena.now) in
    let u = words_in (g.A.ReaderArena.segments c.set_flat-in-Data.new.arena) in
    subst (λ a. OnOk c.set_flat-in-Data.result (WritesField s u c.args.object c.args.field (record { path = []; verb = set_to (slot_value_view a) }))) (sym c.in-Data.is)
    (data_end (Unit {0}) c.args.field (field_of c.get_proto-said.result.now) c.get_proto-said.ensures c.deref.result c.in-Data.bytes.items c.deref.ensures.value (at c.args.arena.now) (at c.set_flat-in-Data.new.arena) c.args.object c.set_flat-in-Data.result c.set_flat-in-Data.ensures.puts)

pub returns-in-Number-clause-cause : goal.returns-in-Number-clause-cause
returns-in-Number-clause-cause g c = c.set_plain.ensures.cause (single_of c.args.value.now c.in-Number.is)

pub returns-in-Text-clause-cause : goal.returns-in-Text-clause-cause
returns-in-Text-clause-cause g c =
    let at = state_in g.A.ReaderArena.segments g.A.BuilderArena.room g.A.BuilderArena.books in
    let told : Error → Type 0 = IsSizeOrRefusal g.A.BuilderArena.refuses in
    let f = c.args.field in
    let t : TextReader = record { 0 = c.as_bytes.result } in
    let v : Reader (Unit {0}) = value.Text t in
    let bytes = string_bytes c.in-Text.text in
    subst (λ a. IfErr c.set_flat.result (λ e. WhereFieldTakes f (set_to (slot_value_view a)) (told e))) (sym c.in-Text.is)
    (put_claimed f (at c.args.arena.now) (at c.set_flat.new.arena) c.args.object (set_edit f v) (set_content v (entry_of_field f)) told (set_to (text_value bytes)) c.set_flat.result
    (text_never f (field_of c.get_proto-said.result.now) c.get_proto-said.ensures (Unit {0}) t bytes c.as_bytes.ensures.value) c.set_flat.ensures.puts c.set_flat.ensures.cause)

pub returns-in-Data-clause-cause : goal.returns-in-Data-clause-cause
returns-in-Data-clause-cause g c =
    let at = state_in g.A.ReaderArena.segments g.A.BuilderArena.room g.A.BuilderArena.books in
    let told : Error → Type 0 = IsSizeOrRefusal g.A.BuilderArena.refuses in
    let f = c.args.field in
    let v : Reader (Unit {0}) = value.Data c.deref.result in
    let bytes = c.in-Data.bytes.items in
    subst (λ a. IfErr c.set_flat-in-Data.result (λ e. WhereFieldTakes f (set_to (slot_value_view a)) (told e))) (sym c.in-Data.is)
    (put_claimed f (at c.args.arena.now) (at c.set_flat-in-Data.new.arena) c.args.object (set_edit f v) (set_content v (entry_of_field f)) told (set_to (blob_value bytes)) c.set_flat-in-Data.result
    (data_never f (field_of c.get_proto-said.result.now) c.get_proto-said.ensures (Unit {0}) c.deref.result bytes c.deref.ensures.value) c.set_flat-in-Data.ensures.puts c.set_flat-in-Data.ensures.cause)
