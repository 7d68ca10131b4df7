-- What each step reads, counts and pays.
use Rattle.std.proofs.Common.{◌≡◌, ℕ, ◌+◌, ◌-◌, ◌*◌, List, [], drop, refl, ap, ◌∙◌, arith}
use Rattle.std.proofs.lemmas.Result.{err_from_is_err_and}
use Rattle.capnp_model.specs.Segments.{Segments, Place, after}
use Rattle.capnp_model.specs.Trees.{none, no_elements}
use Rattle.capnp_model.specs.Sizes.{object_words, each_object_words, element_object_words, capability_count, each_capability_count, element_capability_count}
use Rattle.capnp_model.specs.Traversal.{tree_at, each, each_element}
use Rattle.capnp_model.specs.Coverage.{from_each, from_elements}
use Rattle.capnp_model.specs.Visits.{visits}
use Rattle.capnp_units.specs.Segments.{words_in}
use Rattle.capnp_wire_objects.specs.Places.{place_view}
use Rattle.capnp_wire_objects.proofs.lemmas.Measuring.{null_in, capability_in, list_in, struct_in, pointers_in, structs_in, structs_refused, leaf_at, deep_at, unfollowed_at, plain_in, wordless, nothing_more, nothing_counted, refused_is}
use Rattle.capnp_wire_objects.proofs.lemmas.Walks.{begun, ended, next, stopped}
use Rattle.capnp_wire_objects.proofs.lemmas.Rows.{row_start, row_end, met_next, row_join, no_words, no_capabilities, no_element_words, no_element_capabilities, elements_start, elements_met_next, element_join}
use Rattle.capnp_wire_objects.proofs.size.+size.Goals as goal

pub size_at-returns-in_err-object : goal.size_at-returns-in_err-object
size_at-returns-in_err-object g t c =
    let s : Segments = words_in (g.A.ReaderArena.segments c.args.arena.now) in
    let r = err_from_is_err_and c.from_residual.result c.from_residual.ensures.1 in
    unfollowed_at c.args.levels s (place_view c.args.place) c.args.limiter.now c.follow_within.new.limiter c.from_residual.result r.0 c.in_err-object.field-0.0 r.1 r.2 c.in_err-object.ensures

pub size_at-returns-then-levels-eq0 : goal.size_at-returns-then-levels-eq0
size_at-returns-then-levels-eq0 g t c =
    let s : Segments = words_in (g.A.ReaderArena.segments c.args.arena.now) in
    leaf_at c.args.levels s (place_view c.args.place) c.in_ok-object.object c.args.limiter.now c.follow_within.new.limiter c.size_of_leaf.result c.if-levels-eq0.true c.in_ok-object.ensures.0 c.in_ok-object.ensures.1 c.size_of_leaf.ensures

pub size_at-returns : goal.size_at-returns
size_at-returns g t c =
    let s : Segments = words_in (g.A.ReaderArena.segments c.args.arena.now) in
    let some = c.if-levels-eq0.false in
    deep_at c.args.levels (c.args.levels - 1) s (place_view c.args.place) c.in_ok-object.object c.args.limiter.now c.follow_within.new.limiter c.size_inside.new.limiter c.size_inside.result (omega arith) c.in_ok-object.ensures.0 c.size_inside.ensures

pub size_inside-returns-in-Null : goal.size_inside-returns-in-Null
size_inside-returns-in-Null g t c =
    let s : Segments = words_in (g.A.ReaderArena.segments c.args.arena.now) in
    null_in s (tree_at c.args.levels s) (visits c.args.levels s) c.args.object c.args.limiter.now c.args.limiter.now c.in-Null.is

pub size_inside-returns-in-Capability : goal.size_inside-returns-in-Capability
size_inside-returns-in-Capability g t c =
    let s : Segments = words_in (g.A.ReaderArena.segments c.args.arena.now) in
    capability_in s (tree_at c.args.levels s) (visits c.args.levels s) c.args.object c.args.limiter.now c.args.limiter.now c.in-Capability.index c.in-Capability.is

pub size_inside-returns-in-List : goal.size_inside-returns-in-List
size_inside-returns-in-List g t c =
    let s : Segments = words_in (g.A.ReaderArena.segments c.args.arena.now) in
    let inside = rw c.in-List.is at c.requires in
    list_in s (tree_at c.args.levels s) (visits c.args.levels s) c.args.object c.args.limiter.now c.args.limiter.now
    c.in-List.start c.in-List.size c.in-List.count c.words_of_elements.result c.with_words.result c.in-List.is inside.0 c.words_of_elements.ensures.words c.with_words.ensures

pub size_inside-returns-in_ok-size-in-Struct : goal.size_inside-returns-in_ok-size-in-Struct
size_inside-returns-in_ok-size-in-Struct g t c =
    let s : Segments = words_in (g.A.ReaderArena.segments c.args.arena.now) in
    struct_in s (tree_at c.args.levels s) (visits c.args.levels s) c.args.object c.args.limiter.now c.size_of_row.new.limiter
    c.in-Struct.start c.in-Struct.data_words c.in-Struct.pointers c.in_ok-size-in-Struct.size c.with_words-in-Struct.result c.in-Struct.is c.with_words-in-Struct.ensures c.in_ok-size-in-Struct.ensures

pub size_inside-returns-in_ok-size-in-PointerList : goal.size_inside-returns-in_ok-size-in-PointerList
size_inside-returns-in_ok-size-in-PointerList g t c =
    let s : Segments = words_in (g.A.ReaderArena.segments c.args.arena.now) in
    pointers_in s (tree_at c.args.levels s) (visits c.args.levels s) c.args.object c.args.limiter.now c.size_of_row-in-PointerList.new.limiter
    c.in-PointerList.start c.in-PointerList.count c.in_ok-size-in-PointerList.size c.with_words-in-PointerList.result c.in-PointerList.is c.with_words-in-PointerList.ensures c.in_ok-size-in-PointerList.ensures

pub size_inside-returns-in_ok-size-in-StructList : goal.size_inside-returns-in_ok-size-in-StructList
size_inside-returns-in_ok-size-in-StructList g t c =
    let s : Segments = words_in (g.A.ReaderArena.segments c.args.arena.now) in
    structs_in s (tree_at c.args.levels s) (visits c.args.levels s) c.args.object c.args.limiter.now c.size_of_structs.new.limiter
    c.in-StructList.start c.in-StructList.words c.in-StructList.count c.in-StructList.data_words c.in-StructList.pointers c.in_ok-size-in-StructList.size c.with_words-in-StructList.result c.in-StructList.is c.with_words-in-StructList.ensures (c.in_ok-size-in-StructList.ensures _)

pub size_inside-returns-in_err-size-in-StructList : goal.size_inside-returns-in_err-size-in-StructList
size_inside-returns-in_err-size-in-StructList g t c =
    let s : Segments = words_in (g.A.ReaderArena.segments c.args.arena.now) in
    let r = err_from_is_err_and c.from_residual-in_err-size-in-StructList.result c.from_residual-in_err-size-in-StructList.ensures.1 in
    structs_refused s (tree_at c.args.levels s) (visits c.args.levels s) c.args.object c.args.limiter.now c.size_of_structs.new.limiter
    c.in-StructList.start c.in-StructList.words c.in-StructList.count c.in-StructList.data_words c.in-StructList.pointers c.from_residual-in_err-size-in-StructList.result r.0 c.in_err-size-in-StructList.field-0.0
    c.in-StructList.is r.1 r.2 (c.in_err-size-in-StructList.ensures [])

pub size_of_row-loop-i-init : goal.size_of_row-loop-i-init
size_of_row-loop-i-init g t c =
    let s : Segments = words_in (g.A.ReaderArena.segments c.args.arena.now) in
    let p : Place = place_view c.args.first in
    let n = c.args.levels in
    let count = c.args.count in
    begun each_object_words each_capability_count _ _ _ _ c.args.limiter.now (wordless 0) nothing_counted (row_start p count (each (tree_at n s))) (row_start p count (from_each (visits n s)))

pub size_of_row-returns-in_err-one : goal.size_of_row-returns-in_err-one
size_of_row-returns-in_err-one g t c =
    let s : Segments = words_in (g.A.ReaderArena.segments c.args.arena.now) in
    let p : Place = place_view c.args.first in
    let n = c.args.levels in
    let i = c.loop-i.i in
    let count = c.args.count in
    let in_row = c.loop-i-test.true in
    let r = err_from_is_err_and c.from_residual.result c.from_residual.ensures.1 in
    refused_is each_object_words each_capability_count (each (tree_at n s) p count) (from_each (visits n s) p count) c.args.limiter.now c.size_at.new.limiter c.from_residual.result r.0 c.in_err-one.field-0.0 r.1 r.2
    (stopped each_object_words each_capability_count (each (tree_at n s) p count) (each (tree_at n s) (after p i) (count - i)) (from_each (visits n s) p count) (from_each (visits n s) (after p i) (count - i)) (visits n s (after p i)) (from_each (visits n s) (after p (i + 1)) (count - (i + 1)))
    c.args.limiter.now c.loop-i.limiter c.size_at.new.limiter c.loop-i.size c.in_err-one.field-0.0 (met_next p i count in_row (visits n s)) c.in_err-one.ensures c.loop-i.invariant)

pub size_of_row-loop-i-preserved : goal.size_of_row-loop-i-preserved
size_of_row-loop-i-preserved g t c =
    let s : Segments = words_in (g.A.ReaderArena.segments c.args.arena.now) in
    let p : Place = place_view c.args.first in
    let n = c.args.levels in
    let i = c.loop-i.i in
    let count = c.args.count in
    let in_row = c.loop-i-test.true in
    let rest = count - (i + 1) in
    next each_object_words each_capability_count object_words capability_count (each (tree_at n s) p count) (each (tree_at n s) (after p i) (count - i)) (each (tree_at n s) (after p (i + 1)) rest) (tree_at n s (after p i))
    (from_each (visits n s) p count) (from_each (visits n s) (after p i) (count - i)) (from_each (visits n s) (after p (i + 1)) rest) (visits n s (after p i)) 0 c.args.limiter.now c.loop-i.limiter c.size_at.new.limiter c.loop-i.size c.in_ok-one.one c.plus-size.result
    (row_join p i count in_row (tree_at n s)) (met_next p i count in_row (visits n s)) (λ w x v e a b. nothing_more w v (x + e) c.plus-size.result (c.plus-size.ensures w x v e a b)) c.in_ok-one.ensures c.loop-i.invariant

pub size_of_row-returns : goal.size_of_row-returns
size_of_row-returns g t c =
    let s : Segments = words_in (g.A.ReaderArena.segments c.args.arena.now) in
    let p : Place = place_view c.args.first in
    let n = c.args.levels in
    let i = c.loop-i.i in
    let count = c.args.count in
    let past = c.loop-i-test.false in
    ended each_object_words each_capability_count (each (tree_at n s) p count) (each (tree_at n s) (after p i) (count - i)) (from_each (visits n s) p count) (from_each (visits n s) (after p i) (count - i)) c.args.limiter.now c.loop-i.limiter c.loop-i.size none
    (row_end count i (each (tree_at n s) (after p i)) past) no_words no_capabilities (row_end count i (from_each (visits n s) (after p i)) past) c.loop-i.invariant

pub size_of_structs-loop-i-init : goal.size_of_structs-loop-i-init
size_of_structs-loop-i-init g t c = λ ws.
    let s : Segments = words_in (g.A.ReaderArena.segments c.args.arena.now) in
    let p : Place = place_view c.args.start in
    let n = c.args.levels in
    let d = c.args.data_words in
    let k = c.args.pointers in
    let count = c.args.count in
    let none_before : 0 * (d + k) ≡ 0 = omega arith in
    let words : drop (0 * (d + k)) ws ≡ ws = ap (λ (m : ℕ). drop m ws) none_before in
    begun (element_object_words d) element_capability_count _ _ _ _ c.args.limiter.now (wordless 0) nothing_counted
    (ap (λ (xs : List ℕ). each_element (tree_at n s) (after p (0 * (d + k))) xs d k (count - 0)) words ∙ elements_start p d k count (λ q m. each_element (tree_at n s) q ws d k m)) (elements_start p d k count (λ q m. from_elements (visits n s) q d k m))

pub size_of_structs-returns-then-pointers-eq0 : goal.size_of_structs-returns-then-pointers-eq0
size_of_structs-returns-then-pointers-eq0 g t c = λ ws.
    let s : Segments = words_in (g.A.ReaderArena.segments c.args.arena.now) in
    plain_in (tree_at c.args.levels s) (visits c.args.levels s) (place_view c.args.start) ws c.args.data_words c.args.pointers c.args.count _ c.args.limiter.now c.with_words.result c.if-pointers-eq0.true refl c.with_words.ensures

pub size_of_structs-returns-in_err-one : goal.size_of_structs-returns-in_err-one
size_of_structs-returns-in_err-one g t c = λ ws.
    let s : Segments = words_in (g.A.ReaderArena.segments c.args.arena.now) in
    let p : Place = place_view c.args.start in
    let n = c.args.levels in
    let d = c.args.data_words in
    let k = c.args.pointers in
    let i = c.loop-i.i in
    let count = c.args.count in
    let in_row = c.loop-i-test.true in
    let at = after p (i * (d + k)) in
    let here = after at d in
    let behind = after p ((i + 1) * (d + k)) in
    let r = err_from_is_err_and c.from_residual.result c.from_residual.ensures.1 in
    refused_is (element_object_words d) element_capability_count (each_element (tree_at n s) p ws d k count) (from_elements (visits n s) p d k count) c.args.limiter.now c.size_of_row.new.limiter c.from_residual.result r.0 c.in_err-one.field-0.0 r.1 r.2
    (stopped (element_object_words d) element_capability_count (each_element (tree_at n s) p ws d k count) (each_element (tree_at n s) at (drop (i * (d + k)) ws) d k (count - i)) (from_elements (visits n s) p d k count) (from_elements (visits n s) at d k (count - i)) (from_each (visits n s) here k)
    (from_elements (visits n s) behind d k (count - (i + 1))) c.args.limiter.now c.loop-i.limiter c.size_of_row.new.limiter c.loop-i.size c.in_err-one.field-0.0 (elements_met_next p d k i count in_row (visits n s)) c.in_err-one.ensures (c.loop-i.invariant ws))

pub size_of_structs-loop-i-preserved : goal.size_of_structs-loop-i-preserved
size_of_structs-loop-i-preserved g t c = λ ws.
    let s : Segments = words_in (g.A.ReaderArena.segments c.args.arena.now) in
    let p : Place = place_view c.args.start in
    let n = c.args.levels in
    let d = c.args.data_words in
    let k = c.args.pointers in
    let i = c.loop-i.i in
    let count = c.args.count in
    let in_row = c.loop-i-test.true in
    let at = after p (i * (d + k)) in
    let here = after at d in
    let behind = after p ((i + 1) * (d + k)) in
    let rest = count - (i + 1) in
    next (element_object_words d) element_capability_count each_object_words each_capability_count (each_element (tree_at n s) p ws d k count) (each_element (tree_at n s) at (drop (i * (d + k)) ws) d k (count - i)) (each_element (tree_at n s) behind (drop ((i + 1) * (d + k)) ws) d k rest) (each (tree_at n s) here k)
    (from_elements (visits n s) p d k count) (from_elements (visits n s) at d k (count - i)) (from_elements (visits n s) behind d k rest) (from_each (visits n s) here k) (d + k) c.args.limiter.now c.loop-i.limiter c.size_of_row.new.limiter c.loop-i.size c.in_ok-one.one c.plus-size.result
    (element_join p d k i count in_row (tree_at n s) ws) (elements_met_next p d k i count in_row (visits n s)) (λ w x v e a b. c.plus-size.ensures w x (v + (d + k)) e a (c.with_words-in-loop-i.ensures v e b)) c.in_ok-one.ensures (c.loop-i.invariant ws)

pub size_of_structs-returns : goal.size_of_structs-returns
size_of_structs-returns g t c = λ ws.
    let s : Segments = words_in (g.A.ReaderArena.segments c.args.arena.now) in
    let p : Place = place_view c.args.start in
    let n = c.args.levels in
    let d = c.args.data_words in
    let k = c.args.pointers in
    let i = c.loop-i.i in
    let count = c.args.count in
    let past = c.loop-i-test.false in
    let at = after p (i * (d + k)) in
    ended (element_object_words d) element_capability_count (each_element (tree_at n s) p ws d k count) (each_element (tree_at n s) at (drop (i * (d + k)) ws) d k (count - i)) (from_elements (visits n s) p d k count) (from_elements (visits n s) at d k (count - i)) c.args.limiter.now c.loop-i.limiter c.loop-i.size no_elements
    (row_end count i (each_element (tree_at n s) at (drop (i * (d + k)) ws) d k) past) (no_element_words d) no_element_capabilities (row_end count i (from_elements (visits n s) at d k) past) (c.loop-i.invariant ws)
