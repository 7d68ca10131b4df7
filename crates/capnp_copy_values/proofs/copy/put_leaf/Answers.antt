use Rattle.std.proofs.Common.{length, map, ◌≡◌, ◌+◌, ◌*◌, ◌∷◌, [], ◌^◌, ℕ, ap, sym, ◌∙◌, subst, rules}
use Rattle.capnp_model.specs.Segments.{Segments}
use Rattle.capnp_units.specs.Segments.{words_in}
use Rattle.capnp_wire_objects.specs.Places.{place_view}
use Rattle.capnp_wire_objects.specs.declared.object.Object.{Object}
use Rattle.capnp_model_writes.specs.Writes.{with_words}
use Rattle.capnp_copy_arenas.proofs.lemmas.ZeroedWords.{written_sizes}
use Rattle.capnp_copy_arenas.proofs.lemmas.RoomLaws.{sizes_grow, still_some}
use Rattle.capnp_copy_values.specs.Copies.{BecomesCopy}
use Rattle.capnp_copy_values.specs.Objects.{leaf_value, copied_pointer}
use Rattle.capnp_copy_values.proofs.Leaves.{null_now, capability_now, leaf_null}
use Rattle.capnp_copy_values.proofs.copy.put_leaf.Goals as goal

pub write_word-requires : goal.write_word-requires
write_word-requires g c =
    let s = words_in (g.A.ReaderArena.segments c.args.arena.now) in
    let u = words_in (g.A.ReaderArena.segments c.clear.new.arena) in
    still_some s u (place_view c.args.slot) 1 (sizes_grow s u c.clear.ensures.sizes) c.requires.there

pub returns-in-Capability-clause-becomes : goal.returns-in-Capability-clause-becomes
returns-in-Capability-clause-becomes g c =
    let s = words_in (g.A.ReaderArena.segments c.args.arena.now) in
    let u = words_in (g.A.ReaderArena.segments c.clear.new.arena) in
    let v = words_in (g.A.ReaderArena.segments c.write_word.new.self) in
    let p = place_view c.args.slot in
    let i = c.in-Capability.index in
    let word : c.pointer_word.result ≡ 3 + 2 ^ 32 * i = c.pointer_word.ensures.word ∙ ap copied_pointer c.in-Capability.is in
    let now : v ≡ with_words u p ((3 + 2 ^ 32 * i) ∷ []) = c.write_word.ensures.words ∙ ap (λ (w : ℕ). with_words u p (w ∷ [])) word in
    let all = capability_now s u v p i (search rules) c.clear.ensures.clears now in
    subst (λ (o : Object). BecomesCopy 0 s v p (leaf_value o)) (sym c.in-Capability.is) all

pub returns-in-Capability-clause-sizes : goal.returns-in-Capability-clause-sizes
returns-in-Capability-clause-sizes g c =
    let u = words_in (g.A.ReaderArena.segments c.clear.new.arena) in
    ap (λ (x : Segments). map length x) c.write_word.ensures.words ∙ written_sizes u (place_view c.args.slot) _ ∙ c.clear.ensures.sizes

pub returns-in_default : goal.returns-in_default
returns-in_default g c =
    let s = words_in (g.A.ReaderArena.segments c.args.arena.now) in
    let u = words_in (g.A.ReaderArena.segments c.clear.new.arena) in
    let p = place_view c.args.slot in
    record {
      becomes = leaf_null s u p c.args.object c.requires.leaf c.in_default.not-Capability (null_now s u p c.clear.ensures.clears);
      sizes = c.clear.ensures.sizes;
      room = c.clear.ensures.room;
      books = c.clear.ensures.books;
    }
