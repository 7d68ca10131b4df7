use Rattle.std.proofs.Common.{[], IfErr, OnOk, sym, subst}
use Rattle.capnp_units.specs.declared.errors.Error.{Error}
use Rattle.capnp_copy_arenas.specs.Refusals.{IsSizeOrRefusal}
use Rattle.capnp_schema_lists.specs.Elements.{flat_element, element_edit}
use Rattle.capnp_text.specs.declared.text.Reader.{Reader as TextReader}
use Rattle.capnp_values.specs.declared.dynamic_value.Reader.{Reader}
use Rattle.capnp_values.specs.declared.dynamic_value.Reader.TheVariants as value
use Rattle.capnp_calls_edits.proofs.ClaimsEnds.{single_of}
use Rattle.capnp_calls_edits.proofs.ClaimsElements.{put_claimed, text_never, data_never}
use Rattle.std.specs.Prelude.{string_bytes}
use Rattle.capnp_model.specs.Calls.{set_to, text_value, blob_value}
use Rattle.capnp_units.specs.Segments.{words_in}
use Rattle.capnp_values_queries.specs.Types.{ty_of}
use Rattle.capnp_calls.specs.CallViews.{slot_value_view}
use Rattle.capnp_copy_arenas.specs.States.{state_in}
use Rattle.capnp_calls_edits.specs.Elements.{EditsElementAt, WhereElementTakes}
use Rattle.capnp_calls_edits.proofs.ElementEnds.{text_end, data_end}
use Rattle.capnp_calls_edits.proofs.elements.set_value.Goals as goal

pub returns-in-Text-clause-writes : goal.returns-in-Text-clause-writes
returns-in-Text-clause-writes g c around =
    let at = state_in g.A.ReaderArena.segments g.A.BuilderArena.room g.A.BuilderArena.books in
    let s = words_in (g.A.ReaderArena.segments c.args.arena.now) in
    let u = words_in (g.A.ReaderArena.segments c.set_flat.new.arena) in
    subst (λ a. OnOk c.set_flat.result (EditsElementAt s u (record { place = c.args.list; at = c.args.index; around = around; ty = ty_of c.args.ty }) (record { path = []; verb = set_to (slot_value_view a) }))) (sym c.in-Text.is)
    (text_end (Unit {0}) (at c.args.arena.now) (at c.set_flat.new.arena) c.args.list c.args.index around (ty_of c.args.ty) (record { 0 = c.as_bytes.result }) (string_bytes c.in-Text.text) c.as_bytes.ensures.value c.set_flat.result c.set_flat.ensures.puts)

pub returns-in-Data-clause-writes : goal.returns-in-Data-clause-writes
returns-in-Data-clause-writes g c around =
    let at = state_in g.A.ReaderArena.segments g.A.BuilderArena.room g.A.BuilderArena.books in
    let s = words_in (g.A.ReaderArena.segments c.args.arena.now) in
    let u = words_in (g.A.ReaderArena.segments c.set_flat-in-Data.new.arena) in
    subst (λ a. OnOk c.set_flat-in-Data.result (EditsElementAt s u (record { place = c.args.list; at = c.args.index; around = around; ty = ty_of c.args.ty }) (record { path = []; verb = set_to (slot_value_view a) }))) (sym c.in-Data.is)
    (data_end (Unit {0}) (at c.args.arena.now) (at c.set_flat-in-Data.new.arena) c.args.list c.args.index around (ty_of c.args.ty) c.deref.result c.in-Data.bytes.items c.deref.ensures.value c.set_flat-in-Data.result c.set_flat-in-Data.ensures.puts)

pub returns-in-Message-clause-writes : goal.returns-in-Message-clause-writes
returns-in-Message-clause-writes g c around =
    let s = words_in (g.A.ReaderArena.segments c.args.arena.now) in
    let u = words_in (g.A.ReaderArena.segments c.set_message.new.arena) in
    subst (λ a. OnOk c.set_message.result (EditsElementAt s u (record { place = c.args.list; at = c.args.index; around = around; ty = ty_of c.args.ty }) (record { path = []; verb = set_to (slot_value_view a) }))) (sym c.in-Message.is) (c.set_message.ensures.writes around)

pub returns-in-Number-clause-cause : goal.returns-in-Number-clause-cause
returns-in-Number-clause-cause g c around = c.set_plain.ensures.cause around (single_of c.args.value.now c.in-Number.is)

pub returns-in-Text-clause-cause : goal.returns-in-Text-clause-cause
returns-in-Text-clause-cause g c around =
    let at = state_in g.A.ReaderArena.segments g.A.BuilderArena.room g.A.BuilderArena.books in
    let told : Error → Type 0 = IsSizeOrRefusal g.A.BuilderArena.refuses in
    let ty = ty_of c.args.ty in
    let t : TextReader = record { 0 = c.as_bytes.result } in
    let v : Reader (Unit {0}) = value.Text t in
    let bytes = string_bytes c.in-Text.text in
    subst (λ a. IfErr c.set_flat.result (λ e. WhereElementTakes around ty (set_to (slot_value_view a)) (told e))) (sym c.in-Text.is)
    (put_claimed (at c.args.arena.now) (at c.set_flat.new.arena) c.args.list (element_edit v ty) c.args.index (flat_element v ty) told around ty (set_to (text_value bytes)) c.set_flat.result
    (text_never (Unit {0}) around ty t bytes c.as_bytes.ensures.value) c.set_flat.ensures.puts c.set_flat.ensures.cause)

pub returns-in-Data-clause-cause : goal.returns-in-Data-clause-cause
returns-in-Data-clause-cause g c around =
    let at = state_in g.A.ReaderArena.segments g.A.BuilderArena.room g.A.BuilderArena.books in
    let told : Error → Type 0 = IsSizeOrRefusal g.A.BuilderArena.refuses in
    let ty = ty_of c.args.ty in
    let v : Reader (Unit {0}) = value.Data c.deref.result in
    let bytes = c.in-Data.bytes.items in
    subst (λ a. IfErr c.set_flat-in-Data.result (λ e. WhereElementTakes around ty (set_to (slot_value_view a)) (told e))) (sym c.in-Data.is)
    (put_claimed (at c.args.arena.now) (at c.set_flat-in-Data.new.arena) c.args.list (element_edit v ty) c.args.index (flat_element v ty) told around ty (set_to (blob_value bytes)) c.set_flat-in-Data.result
    (data_never (Unit {0}) around ty c.deref.result bytes c.deref.ensures.value) c.set_flat-in-Data.ensures.puts c.set_flat-in-Data.ensures.cause)

pub returns-in-Message-clause-cause : goal.returns-in-Message-clause-cause
returns-in-Message-clause-cause g c around =
    subst (λ a. IfErr c.set_message.result (λ e. WhereElementTakes around (ty_of c.args.ty) (set_to (slot_value_view a)) (IsSizeOrRefusal g.A.BuilderArena.refuses e))) (sym c.in-Message.is) (c.set_message.ensures.cause around)
