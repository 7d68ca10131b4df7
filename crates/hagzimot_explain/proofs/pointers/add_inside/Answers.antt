use Rattle.std.proofs.Common.{◌+◌, ◌*◌, ◌<◌, ℕ}
use Rattle.std.specs.List.{Contains}
use Rattle.capnp_model.specs.Segments.{after, place}
use Rattle.capnp_wire_objects.specs.declared.object.Object.TheVariants as object
use Rattle.capnp_wire_objects.specs.Places.{place_view, placed}
use Rattle.hagzimot_explain.specs.Reached.{Adds, IsInRow, IsInElements, IsPointerOf, HasPointersOf}
use Rattle.hagzimot_explain.proofs.PointerLemmas.{if_ok_as, adds_as, struct_pointer, struct_has, list_pointer, list_has, structs_pointer, structs_have}
use Rattle.hagzimot_explain.proofs.pointers.add_inside.Goals as goal

pub returns-in-Struct-clause-adds : goal.returns-in-Struct-clause-adds
returns-in-Struct-clause-adds c =
    let p = c.in-Struct.start in
    let d = c.in-Struct.data_words in
    let k = c.in-Struct.pointers in
    let old = c.args.places.now.items in
    let before = c.args.seen.now.items in
    let new = c.add_row.new.places.items in
    let seen = c.add_row.new.seen.items in
    let row = place p.segment (p.position + d) in
    rw c.in-Struct.is (if_ok_as c.add_row.result (Adds (IsInRow row k) old new before seen) (Adds (IsPointerOf (object.Struct p d k)) old new before seen) (adds_as (IsInRow row k) (IsPointerOf (object.Struct p d k)) old new before seen (struct_pointer p d k)) c.add_row.ensures.adds)

pub returns-in-Struct-clause-has : goal.returns-in-Struct-clause-has
returns-in-Struct-clause-has c =
    let p = c.in-Struct.start in
    let d = c.in-Struct.data_words in
    let k = c.in-Struct.pointers in
    let new = c.add_row.new.places.items in
    let row = place p.segment (p.position + d) in
    rw c.in-Struct.is (if_ok_as c.add_row.result ((i : ℕ) → i < k → Contains new (placed (after row i))) (HasPointersOf (object.Struct p d k) new) (struct_has p d k new) c.add_row.ensures.has)

pub returns-in-PointerList-clause-adds : goal.returns-in-PointerList-clause-adds
returns-in-PointerList-clause-adds c =
    let p = c.in-PointerList.start in
    let n = c.in-PointerList.count in
    let old = c.args.places.now.items in
    let before = c.args.seen.now.items in
    let new = c.add_row-in-PointerList.new.places.items in
    let seen = c.add_row-in-PointerList.new.seen.items in
    rw c.in-PointerList.is (if_ok_as c.add_row-in-PointerList.result (Adds (IsInRow (place_view p) n) old new before seen) (Adds (IsPointerOf (object.PointerList p n)) old new before seen) (adds_as (IsInRow (place_view p) n) (IsPointerOf (object.PointerList p n)) old new before seen (list_pointer p n)) c.add_row-in-PointerList.ensures.adds)

pub returns-in-PointerList-clause-has : goal.returns-in-PointerList-clause-has
returns-in-PointerList-clause-has c =
    let p = c.in-PointerList.start in
    let n = c.in-PointerList.count in
    let new = c.add_row-in-PointerList.new.places.items in
    rw c.in-PointerList.is (if_ok_as c.add_row-in-PointerList.result ((i : ℕ) → i < n → Contains new (placed (after (place_view p) i))) (HasPointersOf (object.PointerList p n) new) (list_has p n new) c.add_row-in-PointerList.ensures.has)

pub returns-in-StructList-clause-adds : goal.returns-in-StructList-clause-adds
returns-in-StructList-clause-adds c =
    let p = c.in-StructList.start in
    let w = c.in-StructList.words in
    let n = c.in-StructList.count in
    let d = c.in-StructList.data_words in
    let k = c.in-StructList.pointers in
    let old = c.args.places.now.items in
    let before = c.args.seen.now.items in
    let new = c.add_elements.new.places.items in
    let seen = c.add_elements.new.seen.items in
    rw c.in-StructList.is (if_ok_as c.add_elements.result (Adds (IsInElements (place_view p) n d k) old new before seen) (Adds (IsPointerOf (object.StructList p w n d k)) old new before seen) (adds_as (IsInElements (place_view p) n d k) (IsPointerOf (object.StructList p w n d k)) old new before seen (structs_pointer p w n d k)) c.add_elements.ensures.adds)

pub returns-in-StructList-clause-has : goal.returns-in-StructList-clause-has
returns-in-StructList-clause-has c =
    let p = c.in-StructList.start in
    let w = c.in-StructList.words in
    let n = c.in-StructList.count in
    let d = c.in-StructList.data_words in
    let k = c.in-StructList.pointers in
    let new = c.add_elements.new.places.items in
    rw c.in-StructList.is (if_ok_as c.add_elements.result ((e : ℕ) (i : ℕ) → e < n → i < k → Contains new (placed (after (place_view p) (e * (d + k) + d + i)))) (HasPointersOf (object.StructList p w n d k) new) (structs_have p w n d k new) c.add_elements.ensures.has)
