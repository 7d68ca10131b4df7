use Rattle.std.proofs.Common.{◌≡◌, ℕ, List, length, ◌+◌, true, Option, Some, Result, Ok, Err, IfOk, option_map, sym, subst, ◌∙◌, rules}
use Rattle.std.specs.Bool.{⊤}
use Rattle.std.specs.Prelude.{OnOk, option_copied}
use Rattle.capnp_model.specs.Sections.{number_of}
use Rattle.capnp_model.specs.Segments.{Segments, Place}
use Rattle.capnp_model.specs.Schemas.{Value, text_bytes, blob_bytes}
use Rattle.capnp_model.specs.Trees.{plain_list}
use Rattle.capnp_units.specs.declared.errors.Error.{Error}
use Rattle.capnp_units.specs.Segments.{words_in}
use Rattle.capnp_wire_objects.specs.Places.{place_view}
use Rattle.capnp_records.specs.NodeViews.{value_of}
use Rattle.capnp_copy_arenas.specs.Values.{Becomes}
use Rattle.capnp_copy_values.specs.Defaults.{is_null_or_absent}
use Rattle.capnp_schema_values.specs.Defaults.{ByteList, default_bytes, BytesPut, BytesBegin}
use Rattle.capnp_schema_values.proofs.InputGrowth.{bytes_grow}
use Rattle.capnp_schema_values.proofs.default.begin_bytes.Goals as goal

put_by : (d : ByteList) (s u : Segments) (p : Place) (r : Result ⊤ Error) → is_null_or_absent s p ≡ true → IfOk r (λ o. Becomes s u p (plain_list 2 d.count d.section)) → OnOk r (BytesBegin (Some d) s u p)
put_by d s u p (Ok x) null h = subst (λ b. BytesPut b d s u p) (sym null) h
put_by d s u p (Err e) null h = tt

pub returns-in-Some-Text-clause-begins : goal.returns-in-Some-Text-clause-begins
returns-in-Some-Text-clause-begins g c =
    let s = words_in (g.A.ReaderArena.segments c.args.arena.now) in
    let u = words_in (g.A.ReaderArena.segments c.set_text.new.arena) in
    let p = place_view c.args.slot in
    let bytes = c.deref.result.now in
    let text : List ℕ → Option Value = λ bs. Some (text_bytes bs) in
    let is : option_map value_of (option_copied c.args.default) ≡ text bytes = search rules in
    subst (λ d. OnOk c.set_text.result (BytesBegin (default_bytes d) s u p)) (sym is)
    (put_by (record { count = length bytes + 1; section = number_of 8 bytes }) s u p c.set_text.result (sym c.is_null.ensures ∙ c.if-is_null.true) c.set_text.ensures.value)

pub returns-in-Some-Data-clause-begins : goal.returns-in-Some-Data-clause-begins
returns-in-Some-Data-clause-begins g c =
    let s = words_in (g.A.ReaderArena.segments c.args.arena.now) in
    let u = words_in (g.A.ReaderArena.segments c.set_data.new.arena) in
    let p = place_view c.args.slot in
    let bytes = c.deref-in-Some-Data.result.now in
    let data_of : List ℕ → Option Value = λ bs. Some (blob_bytes bs) in
    let is : option_map value_of (option_copied c.args.default) ≡ data_of bytes = search rules in
    subst (λ d. OnOk c.set_data.result (BytesBegin (default_bytes d) s u p)) (sym is)
    (put_by (record { count = length bytes; section = number_of 8 bytes }) s u p c.set_data.result (search rules) c.set_data.ensures.value)

pub returns-in-Some-Text-clause-grows : goal.returns-in-Some-Text-clause-grows
returns-in-Some-Text-clause-grows g c =
    bytes_grow (g.A.ReaderArena.segments c.args.arena.now) (g.A.ReaderArena.segments c.set_text.new.arena) c.set_text.result c.set_text.ensures.grows c.set_text.ensures.refused

pub returns-in-Some-Data-clause-grows : goal.returns-in-Some-Data-clause-grows
returns-in-Some-Data-clause-grows g c =
    bytes_grow (g.A.ReaderArena.segments c.args.arena.now) (g.A.ReaderArena.segments c.set_data.new.arena) c.set_data.result c.set_data.ensures.grows c.set_data.ensures.refused
