use Rattle.std.proofs.Common.{Ok, suc, ◌≡◌, ◌+◌, ◌*◌, ◌<◌, ◌≤◌, ℕ, length, map, unwrap_or, refl, ap, sym, ◌∙◌, subst, arith, rules}
use Rattle.capnp_model.specs.Segments.{after, word_at}
use Rattle.capnp_model.specs.Segments as model
use Rattle.capnp_model.specs.Pointers.{Object, nothing, a_struct, a_list, a_capability}
use Rattle.capnp_wire_objects.specs.Objects.{whole}
use Rattle.capnp_wire_objects.specs.declared.object.Object.TheVariants as object
use Rattle.capnp_units.specs.Segments.{words_in}
use Rattle.capnp_units.specs.Sizes.{size_number}
use Rattle.capnp_units.specs.Errors.{kind_of}
use Rattle.capnp_wire_objects.specs.Places.{place_view}
use Rattle.capnp_wire_objects.specs.Named.{named_view, found_view}
use Rattle.capnp_copy_arenas.specs.Clearing.{ClearsObject, ClearsKids}
use Rattle.capnp_copy_arenas.proofs.ClearedKids.{KidsSoFar, kids_none, kids_next, kids_all, kids_without, kids_absent}
use Rattle.capnp_copy_arenas.proofs.ClearedElements.{ElementsSoFar, list_first, elements_absent, elements_none, elements_next, elements_all, elements_without}
use Rattle.capnp_copy_arenas.proofs.ClearedObjects.{nothing_goes, capability_goes, after_kids, after_pointers, after_elements, after_plain}
use Rattle.capnp_copy_arenas.proofs.ClearedSlots.{clears_null, clears_fault, clears_found}
use Rattle.capnp_copy_arenas.proofs.lemmas.ZeroedWords.{null_there}
use Rattle.capnp_copy_arenas.proofs.clear.+clear.Goals as goal

pub clear-returns-then-word-eq0-clause-clears : goal.clear-returns-then-word-eq0-clause-clears
clear-returns-then-word-eq0-clause-clears g t c =
    let s = words_in (g.A.ReaderArena.segments c.args.arena.now) in
    let e : unwrap_or (word_at s (place_view c.args.slot)) 0 ≡ 0 = search rules in
    clears_null s (place_view c.args.slot) e

pub clear_there-returns-in-Ok-clause-clears : goal.clear_there-returns-in-Ok-clause-clears
clear_there-returns-in-Ok-clause-clears g t c =
    let s = words_in (g.A.ReaderArena.segments c.args.arena.now) in
    clears_found s (words_in (g.A.ReaderArena.segments c.write_null.new.arena)) (words_in (g.A.ReaderArena.segments c.clear_object.new.arena)) (words_in (g.A.ReaderArena.segments c.zero_there.new.arena)) (place_view c.args.slot) (place_view c.place_in_word.result) (found_view c.in-Ok.found) c.args.word
    (sym c.requires.there) c.requires.some c.in-Ok.ensures.found c.write_null.ensures.words c.clear_object.ensures.clears c.place_in_word.ensures c.zero_there.ensures.words

pub clear_there-returns-in_default-clause-clears : goal.clear_there-returns-in_default-clause-clears
clear_there-returns-in_default-clause-clears g t c =
    let s = words_in (g.A.ReaderArena.segments c.args.arena.now) in
    clears_fault s (words_in (g.A.ReaderArena.segments c.write_null.new.arena)) (place_view c.args.slot) (kind_of c.in_default.field-0.kind) (sym c.in_default.ensures.found)

pub clear_kids-loop-i-init : goal.clear_kids-loop-i-init
clear_kids-loop-i-init g t c =
    let s = words_in (g.A.ReaderArena.segments c.args.arena.now) in
    (kids_none s (place_view c.args.start) c.args.data_words c.args.pointers, refl, omega arith, refl, refl)

pub clear_kids-loop-i-preserved : goal.clear_kids-loop-i-preserved
clear_kids-loop-i-preserved g t c =
    let s = words_in (g.A.ReaderArena.segments c.args.arena.now) in
    let i = c.loop-i.invariant in
    let next : c.loop-i.i < c.args.pointers = search rules in
    let u = words_in (g.A.ReaderArena.segments c.clear.new.arena) in
    let one : suc c.loop-i.i ≡ c.loop-i.i + 1 = omega arith in
    let kids = kids_next s (words_in (g.A.ReaderArena.segments c.loop-i.arena)) u (place_view c.args.start) c.args.data_words c.args.pointers c.loop-i.i next i.0 c.clear.ensures.clears in
    (subst (λ (n : ℕ). KidsSoFar s u (place_view c.args.start) c.args.data_words c.args.pointers n) one kids, c.clear.ensures.sizes ∙ i.1, omega (arith, c.clear.ensures.nonzero, i.2), c.clear.ensures.books ∙ i.3, c.clear.ensures.room ∙ i.4)

pub clear_kids-returns-clause-clears : goal.clear_kids-returns-clause-clears
clear_kids-returns-clause-clears g t c =
    let s = words_in (g.A.ReaderArena.segments c.args.arena.now) in
    let u = words_in (g.A.ReaderArena.segments c.loop-i.arena) in
    let all : c.loop-i.i ≡ c.args.pointers = search rules in
    kids_all s u (place_view c.args.start) c.args.data_words c.args.pointers (subst (λ (n : ℕ). KidsSoFar s u (place_view c.args.start) c.args.data_words c.args.pointers n) all c.loop-i.invariant.0)

pub clear_elements-returns-then-pointers-eq0-clause-clears : goal.clear_elements-returns-then-pointers-eq0-clause-clears
clear_elements-returns-then-pointers-eq0-clause-clears g t c =
    let s = words_in (g.A.ReaderArena.segments c.args.arena.now) in
    let x = c.in-Ok-StructList in
    elements_without s (place_view c.args.start) c.args.words x.first x.field-0-1 x.count x.data_words x.pointers (search rules) (search rules)

pub clear_elements-loop-i-init : goal.clear_elements-loop-i-init
clear_elements-loop-i-init g t c =
    let s = words_in (g.A.ReaderArena.segments c.args.arena.now) in
    (elements_none s (place_view c.args.start) c.args.words c.in-Ok-StructList.data_words c.in-Ok-StructList.pointers, refl, omega arith, refl, refl)

pub clear_elements-loop-i-preserved : goal.clear_elements-loop-i-preserved
clear_elements-loop-i-preserved g t c =
    let s = words_in (g.A.ReaderArena.segments c.args.arena.now) in
    let u = words_in (g.A.ReaderArena.segments c.clear_kids.new.arena) in
    let x = c.in-Ok-StructList in
    let p = place_view c.args.start in
    let i = c.loop-i.invariant in
    let next : c.loop-i.i < x.count = search rules in
    let one : suc c.loop-i.i ≡ c.loop-i.i + 1 = omega arith in
    let is : whole s (a_list p 7 c.args.words) ≡ Ok (object.StructList x.first x.field-0-1 x.count x.data_words x.pointers) = search rules in
    let known = list_first s p c.args.words x.first x.field-0-1 x.count x.data_words x.pointers is in
    let clears : ClearsKids (words_in (g.A.ReaderArena.segments c.loop-i.arena)) u (after (after p 1) (c.loop-i.i * (x.data_words + x.pointers))) x.data_words x.pointers = subst (λ (q : model.Place). ClearsKids (words_in (g.A.ReaderArena.segments c.loop-i.arena)) u (after q (c.loop-i.i * (x.data_words + x.pointers))) x.data_words x.pointers) known c.clear_kids.ensures.clears in
    let elements = elements_next s (words_in (g.A.ReaderArena.segments c.loop-i.arena)) u p c.args.words x.first x.field-0-1 x.count x.data_words x.pointers c.loop-i.i is next i.0 clears in
    (subst (λ (n : ℕ). ElementsSoFar s u p c.args.words x.data_words x.pointers n) one elements, c.clear_kids.ensures.sizes ∙ i.1, omega (arith, c.clear_kids.ensures.nonzero, i.2), c.clear_kids.ensures.books ∙ i.3, c.clear_kids.ensures.room ∙ i.4)

pub clear_elements-returns-clause-clears : goal.clear_elements-returns-clause-clears
clear_elements-returns-clause-clears g t c =
    let s = words_in (g.A.ReaderArena.segments c.args.arena.now) in
    let u = words_in (g.A.ReaderArena.segments c.loop-i.arena) in
    let x = c.in-Ok-StructList in
    let p = place_view c.args.start in
    let is : whole s (a_list p 7 c.args.words) ≡ Ok (object.StructList x.first x.field-0-1 x.count x.data_words x.pointers) = search rules in
    let all : c.loop-i.i ≡ x.count = search rules in
    elements_all s u p c.args.words x.first x.field-0-1 x.count x.data_words x.pointers is (subst (λ (n : ℕ). ElementsSoFar s u p c.args.words x.data_words x.pointers n) all c.loop-i.invariant.0)

pub clear_kids-returns-then-pointers-eq0-clause-clears : goal.clear_kids-returns-then-pointers-eq0-clause-clears
clear_kids-returns-then-pointers-eq0-clause-clears g t c = kids_without (words_in (g.A.ReaderArena.segments c.args.arena.now)) (place_view c.args.start) c.args.data_words c.args.pointers (search rules)

pub clear_list-returns-in-Pointer-clause-clears : goal.clear_list-returns-in-Pointer-clause-clears
clear_list-returns-in-Pointer-clause-clears g t c =
    let size : size_number c.args.size ≡ 6 = search rules in
    after_pointers (words_in (g.A.ReaderArena.segments c.args.arena.now)) (words_in (g.A.ReaderArena.segments c.clear_kids.new.arena)) (words_in (g.A.ReaderArena.segments c.zero_there.new.arena)) (place_view c.args.start) (size_number c.args.size) c.args.count size c.clear_kids.ensures.clears c.zero_there.ensures.words

pub clear_list-returns-in-InlineComposite-clause-clears : goal.clear_list-returns-in-InlineComposite-clause-clears
clear_list-returns-in-InlineComposite-clause-clears g t c =
    let size : size_number c.args.size ≡ 7 = search rules in
    after_elements (words_in (g.A.ReaderArena.segments c.args.arena.now)) (words_in (g.A.ReaderArena.segments c.clear_elements.new.arena)) (words_in (g.A.ReaderArena.segments c.zero_there-in-InlineComposite.new.arena)) (place_view c.args.start) (size_number c.args.size) c.args.count size c.clear_elements.ensures.clears c.zero_there-in-InlineComposite.ensures.words

pub clear_object-returns-in-Null-clause-clears : goal.clear_object-returns-in-Null-clause-clears
clear_object-returns-in-Null-clause-clears g t c =
    let s = words_in (g.A.ReaderArena.segments c.args.arena.now) in
    let is : named_view c.args.object ≡ nothing = search rules in
    subst (λ (o : Object). ClearsObject s s o) (sym is) (nothing_goes s)

pub clear_object-returns-in-Capability-clause-clears : goal.clear_object-returns-in-Capability-clause-clears
clear_object-returns-in-Capability-clause-clears g t c =
    let s = words_in (g.A.ReaderArena.segments c.args.arena.now) in
    let is : named_view c.args.object ≡ a_capability c.in-Capability.index = search rules in
    subst (λ (o : Object). ClearsObject s s o) (sym is) (capability_goes s c.in-Capability.index)

pub clear_object-returns-in-Struct-clause-clears : goal.clear_object-returns-in-Struct-clause-clears
clear_object-returns-in-Struct-clause-clears g t c =
    let x = c.in-Struct in
    let is : named_view c.args.object ≡ a_struct (place_view x.start) x.data_words x.pointers = search rules in
    after_kids (words_in (g.A.ReaderArena.segments c.args.arena.now)) (words_in (g.A.ReaderArena.segments c.clear_kids.new.arena)) (words_in (g.A.ReaderArena.segments c.zero_there.new.arena)) (place_view x.start) x.data_words x.pointers (x.data_words + x.pointers) (named_view c.args.object) is refl c.clear_kids.ensures.clears c.zero_there.ensures.words

pub clear_object-returns-in-List-clause-clears : goal.clear_object-returns-in-List-clause-clears
clear_object-returns-in-List-clause-clears g t c =
    let x = c.in-List in
    let is : named_view c.args.object ≡ a_list (place_view x.start) (size_number x.size) x.count = search rules in
    subst (λ (o : Object). ClearsObject (words_in (g.A.ReaderArena.segments c.args.arena.now)) (words_in (g.A.ReaderArena.segments c.clear_list.new.arena)) o) (sym is) c.clear_list.ensures.clears
