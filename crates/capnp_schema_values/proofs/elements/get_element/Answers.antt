use Rattle.capnp_model.specs.Accepted.{schema_of}
use Rattle.capnp_units.specs.Segments.{words_in}
use Rattle.capnp_wire.specs.Views.{list_at}
use Rattle.capnp_records.specs.Sets.{nodes_of}
use Rattle.capnp_values_queries.specs.Types.{ty_of}
use Rattle.capnp_copy_arenas.specs.Elements.{first_element}
use Rattle.capnp_schema_values.proofs.GotElements.{behind_got, behind_pointers, plain_got, plain_is_there, element_grows}
use Rattle.capnp_schema_values.proofs.elements.get_element.Goals as goal

pub get_slot-requires-clause-there : goal.get_slot-requires-clause-there
get_slot-requires-clause-there g c =
    let s = words_in (g.A.ReaderArena.segments c.args.memory.now.arena) in
    let has = behind_pointers c.args.list (ty_of c.args.ty) c.in-Behind.ensures c.requires.holds in
    (c.elements_as_pointers.ensures.there s c.args.list c.args.index c.element_pointer-slot.result has c.requires.index c.element_pointer-slot.ensures.place c.requires.there).0

pub get_slot-requires-clause-near : goal.get_slot-requires-clause-near
get_slot-requires-clause-near g c =
    let s = words_in (g.A.ReaderArena.segments c.args.memory.now.arena) in
    let has = behind_pointers c.args.list (ty_of c.args.ty) c.in-Behind.ensures c.requires.holds in
    (c.elements_as_pointers.ensures.there s c.args.list c.args.index c.element_pointer-slot.result has c.requires.index c.element_pointer-slot.ensures.place c.requires.there).1

pub returns-in-Behind-clause-gets : goal.returns-in-Behind-clause-gets
returns-in-Behind-clause-gets g c =
    let o = c.args.list in
    let arena = c.args.memory.now.arena in
    let v = list_at (g.A.ReaderArena.segments arena) (g.A.ReaderArena.nesting arena) (first_element o) o.size o.count o.data_words o.pointers in
    behind_got (schema_of (nodes_of c.args.set.now)) v (words_in (g.A.ReaderArena.segments arena)) (words_in (g.A.ReaderArena.segments c.get_slot.new.memory.arena)) o c.args.index c.element_pointer-slot.result c.element_pointer-slot.ensures.place (ty_of c.args.ty) c.in-Behind.ensures c.get_slot.result c.get_slot.ensures.gets

pub returns-in-Behind-clause-grows : goal.returns-in-Behind-clause-grows
returns-in-Behind-clause-grows g c =
    let s = words_in (g.A.ReaderArena.segments c.args.memory.now.arena) in
    let u = words_in (g.A.ReaderArena.segments c.get_slot.new.memory.arena) in
    let o = c.args.list in
    let q = c.element_pointer-slot.result in
    let has = behind_pointers o (ty_of c.args.ty) c.in-Behind.ensures c.requires.holds in
    element_grows s u o c.args.index q (λ n t is own. c.elements_as_pointers.ensures.parts n s o c.args.index q t has c.requires.index c.element_pointer-slot.ensures.place c.requires.there is own) c.get_slot.ensures.grows

pub returns-in-Plain-clause-gets : goal.returns-in-Plain-clause-gets
returns-in-Plain-clause-gets g c =
    let o = c.args.list in
    let arena = c.args.memory.now.arena in
    let v = list_at (g.A.ReaderArena.segments arena) (g.A.ReaderArena.nesting arena) (first_element o) o.size o.count o.data_words o.pointers in
    plain_got (schema_of (nodes_of c.args.set.now)) (ty_of c.args.ty) v (words_in (g.A.ReaderArena.segments arena)) o c.args.index c.plain_element.result c.in-Plain.ensures c.plain_element.ensures

pub returns-in-Plain-clause-there : goal.returns-in-Plain-clause-there
returns-in-Plain-clause-there g c =
    let o = c.args.list in
    let arena = c.args.memory.now.arena in
    let v = list_at (g.A.ReaderArena.segments arena) (g.A.ReaderArena.nesting arena) (first_element o) o.size o.count o.data_words o.pointers in
    plain_is_there (words_in (g.A.ReaderArena.segments arena)) (schema_of (nodes_of c.args.set.now)) (ty_of c.args.ty) v c.args.index c.plain_element.result c.in-Plain.ensures c.plain_element.ensures
