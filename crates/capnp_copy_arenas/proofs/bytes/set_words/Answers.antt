use Rattle.std.proofs.Common.{◌≡◌, ◌+◌, ◌*◌, ◌/◌, ℕ, ap, sym, ◌∙◌, subst, arith, rules, length, map, true}
use Rattle.std.specs.Option.{is_some}
use Rattle.capnp_model.specs.Bytes.{words_in_bytes}
use Rattle.capnp_model.specs.Sections.{number_of, with_bits}
use Rattle.capnp_model.specs.Segments.{Segments, after}
use Rattle.capnp_model.specs.Pointers.{a_list}
use Rattle.capnp_model.specs.Trees.{plain_list}
use Rattle.capnp_units.specs.Segments.{words_in}
use Rattle.capnp_wire_objects.specs.Places.{place_view}
use Rattle.capnp_model_writes.specs.Changes.{ReplacesObject}
use Rattle.capnp_copy_arenas.proofs.ByteSets.{whole_set}
use Rattle.capnp_copy_arenas.proofs.lemmas.ZeroedWords.{written_sizes}
use Rattle.capnp_copy_arenas.proofs.bytes.set_words.Goals as goal

pub returns-then-has_words-clause-sets : goal.returns-then-has_words-clause-sets
returns-then-has_words-clause-sets g c = λ n m section l o.
    let s = words_in (g.A.ReaderArena.segments c.args.arena.now) in
    let p = place_view c.args.start in
    let bytes = c.args.bytes.now in
    let all = whole_set n s p m c.args.at section bytes (λ i. let h = c.type_inv.bytes i in omega (arith, h)) c.requires.whole.0 c.requires.whole.1 l o in
    subst (λ (u : Segments). ReplacesObject n s u (a_list p 2 m) (plain_list 2 m (with_bits (8 * c.args.at) (8 * length bytes) (number_of 8 bytes) section))) (sym c.write_words.ensures.words) all

pub returns-then-has_words-clause-sizes : goal.returns-then-has_words-clause-sizes
returns-then-has_words-clause-sizes g c =
    ap (λ (x : Segments). map length x) c.write_words.ensures.words ∙ written_sizes (words_in (g.A.ReaderArena.segments c.args.arena.now)) (after (place_view c.args.start) (c.args.at / 8)) (words_in_bytes (length c.args.bytes.now / 8) c.args.bytes.now)
