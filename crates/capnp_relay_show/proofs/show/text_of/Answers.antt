use Rattle.std.proofs.Common.{ℕ, List, Result, Ok, Err, ap, sym, ◌∙◌, subst}
use Rattle.capnp_units.specs.Errors.{kind_of}
use Rattle.capnp_model.specs.Kinds.{Kind}
use Rattle.capnp_model.specs.Schemas.{struct}
use Rattle.capnp_model.specs.Printing.{as_it_is}
use Rattle.capnp_model.specs.Readings.{read}
use Rattle.capnp_wire.specs.Views.{seen_pointer, seen_struct}
use Rattle.capnp_values_queries.specs.Structs.{schema_around, id_of}
use Rattle.capnp_values.specs.Sources.{struct_seen}
use Rattle.capnp_values.specs.Shown.{Shown, shown_behind}
use Rattle.capnp_values.specs.Standing.{null_as_empty, Answers}
use Rattle.capnp_relay_show.proofs.Roots.{no_root, root_is, root_answers, get_refused, struct_opened, no_struct_there, text_shown, fault_shown, moved}
use Rattle.capnp_relay_show.proofs.show.text_of.Goals as goal

pub returns-in_default-clause-fault : goal.returns-in_default-clause-fault
returns-in_default-clause-fault g c t has = no_root (g.A.ReaderArena.segments c.args.arena.now) (g.A.ReaderArena.nesting c.args.arena.now) t (kind_of c.in_default.field-0.kind) has c.in_default.ensures

pub returns-in_default-get_struct-clause-fault : goal.returns-in_default-get_struct-clause-fault
returns-in_default-get_struct-clause-fault g c t has =
    let bytes = g.A.ReaderArena.segments c.args.arena.now in
    let limit = g.A.ReaderArena.nesting c.args.arena.now in
    let s = schema_around c.args.root in
    let id = id_of c.args.root in
    let p = seen_pointer g.A.ReaderArena.segments c.in-Ok.pointer in
    let answers = root_answers bytes limit c.pointers_are_read.ensures s id t has p (root_is bytes limit p c.in-Ok.ensures) in
    let e = c.in_default-get_struct.field-0 in
    let none = get_refused s id p (seen_struct g.A.ReaderArena.segments) c.new-unlimited.result c.get_struct.new.limiter e c.new-unlimited.ensures.left c.in_default-get_struct.ensures in
    no_struct_there s as_it_is id t (kind_of e.kind) (subst (λ (o : Result Shown Kind). Answers s o (null_as_empty s (struct id) (read s t (struct id)))) none answers)

pub returns-in-Ok-print-clause-text : goal.returns-in-Ok-print-clause-text
returns-in-Ok-print-clause-text g c t has =
    let bytes = g.A.ReaderArena.segments c.args.arena.now in
    let limit = g.A.ReaderArena.nesting c.args.arena.now in
    let r = c.args.root in
    let s = schema_around r in
    let id = id_of r in
    let p = seen_pointer g.A.ReaderArena.segments c.in-Ok.pointer in
    let v = seen_struct g.A.ReaderArena.segments c.in-Ok-get_struct.value in
    let answers = root_answers bytes limit c.pointers_are_read.ensures s id t has p (root_is bytes limit p c.in-Ok.ensures) in
    let got = c.in-Ok-get_struct.ensures in
    let opens = struct_opened s id p got.0 v got.1 got.3 in
    let out = c.print.new.out.items in
    let printed = moved c.new.result.schema r (struct_seen g.A.ReaderArena.segments c.new.result.source) v c.new-text.result.items out c.print.result (Ok c.in-Ok-print.field-0) c.new.ensures.schema c.new.ensures.source c.new-text.ensures.items c.in-Ok-print.is c.print.ensures in
    text_shown c.records_are_read.ensures.values c.texts_are_models.ensures r v t (shown_behind s (struct id) p) opens answers printed.0 printed.1 ∙ ap (λ (z : List ℕ). Ok z) (sym printed.2)

pub returns-in-Err-clause-fault : goal.returns-in-Err-clause-fault
returns-in-Err-clause-fault g c t has =
    let bytes = g.A.ReaderArena.segments c.args.arena.now in
    let limit = g.A.ReaderArena.nesting c.args.arena.now in
    let r = c.args.root in
    let s = schema_around r in
    let id = id_of r in
    let p = seen_pointer g.A.ReaderArena.segments c.in-Ok.pointer in
    let v = seen_struct g.A.ReaderArena.segments c.in-Ok-get_struct.value in
    let answers = root_answers bytes limit c.pointers_are_read.ensures s id t has p (root_is bytes limit p c.in-Ok.ensures) in
    let got = c.in-Ok-get_struct.ensures in
    let opens = struct_opened s id p got.0 v got.1 got.3 in
    let out = c.print.new.out.items in
    let printed = moved c.new.result.schema r (struct_seen g.A.ReaderArena.segments c.new.result.source) v c.new-text.result.items out c.print.result (Err c.in-Err.e) c.new.ensures.schema c.new.ensures.source c.new-text.ensures.items c.in-Err.is c.print.ensures in
    fault_shown c.records_are_read.ensures.values c.texts_are_models.ensures r v t (shown_behind s (struct id) p) opens answers c.in-Err.e c.fault_of.result c.fault_of.ensures.memory c.fault_of.ensures.other printed.1
