use Rattle.std.proofs.Common.{◌*◌, ℕ, ap, sym, ◌∙◌, subst, length, map, replicate}
use Rattle.capnp_model.specs.Sections.{number_of, with_bits}
use Rattle.capnp_model.specs.Segments.{Segments}
use Rattle.capnp_model.specs.Pointers.{a_list}
use Rattle.capnp_model.specs.Trees.{plain_list}
use Rattle.capnp_units.specs.Segments.{words_in}
use Rattle.capnp_wire_objects.specs.Places.{place_view}
use Rattle.capnp_model_writes.specs.Changes.{ReplacesObject}
use Rattle.capnp_copy_arenas.proofs.ByteSets.{zeros_set}
use Rattle.capnp_copy_arenas.proofs.lemmas.ZeroedWords.{written_sizes}
use Rattle.capnp_copy_arenas.proofs.bytes.zero_front.Goals as goal

pub returns-then-has_words-clause-sets : goal.returns-then-has_words-clause-sets
returns-then-has_words-clause-sets g c = λ n m section l o.
    let s = words_in (g.A.ReaderArena.segments c.args.arena.now) in
    let p = place_view c.args.start in
    let w : ℕ = c.args.words in
    let all = zeros_set n s p m w section l o in
    subst (λ (u : Segments). ReplacesObject n s u (a_list p 2 m) (plain_list 2 m (with_bits (8 * 0) (8 * length (replicate {A = ℕ} (8 * w) 0)) (number_of 8 (replicate (8 * w) 0)) section))) (sym c.zero_words.ensures.words) all

pub returns-then-has_words-clause-sizes : goal.returns-then-has_words-clause-sizes
returns-then-has_words-clause-sizes g c =
    ap (λ (x : Segments). map length x) c.zero_words.ensures.words ∙ written_sizes (words_in (g.A.ReaderArena.segments c.args.arena.now)) (place_view c.args.start) (replicate c.args.words 0)
