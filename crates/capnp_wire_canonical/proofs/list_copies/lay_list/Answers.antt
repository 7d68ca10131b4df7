-- The words of a list, without the bits behind its last element.
use Rattle.std.proofs.Common.{◌≡◌, ℕ, ◌+◌, ◌-◌, ◌*◌, ◌%◌, ◌^◌, List, ◌++◌, take, set, refl, ap, sym, ◌∙◌, arith}
use Rattle.std.specs.Int.{from_le_bytes, w64}
use Rattle.std.proofs.Math.Seq.{take-set-lt}
use Rattle.std.proofs.lemmas.List.{length-map}
use Rattle.capnp_model.specs.Sections.{words_for, words_of}
use Rattle.capnp_model.specs.Segments.{Segments, Place}
use Rattle.capnp_model.specs.Trees.{plain_list, size_bits, has_capability}
use Rattle.capnp_model.specs.Encoding.{list_pointer}
use Rattle.capnp_units.specs.Segments.{words_in}
use Rattle.capnp_units.specs.Sizes.{size_number, data_bits}
use Rattle.capnp_wire_objects.specs.Places.{place_view}
use Rattle.capnp_wire_objects.specs.Inside.{section_at}
use Rattle.capnp_wire_objects.proofs.lemmas.Walks.{walked_none}
use Rattle.capnp_wire_objects.proofs.lemmas.Measuring.{data_bits_plain}
use Rattle.capnp_wire_canonical.specs.Writes.{words_view, filled, with_section_at}
use Rattle.capnp_wire_canonical.proofs.Copying.{behind_both}
use Rattle.capnp_wire_canonical.proofs.lemmas.Putting.{take_words}
use Rattle.capnp_wire_canonical.proofs.Objects.{filled_length, list_written}
use Rattle.capnp_wire_canonical.proofs.Finals.{own_at_least}
use Rattle.capnp_wire_canonical.proofs.list_copies.lay_list.Goals as goal

pub returns : goal.returns
unfolding has_capability
returns g c = λ levels l most room.
    let s : Segments = words_in (g.A.ReaderArena.segments c.args.arena.now) in
    let p : Place = place_view c.args.list.start in
    let z = size_number c.args.list.size in
    let n = c.args.list.count in
    let at = c.args.at in
    let used = c.args.used in
    let bits : ℕ = data_bits z * n in
    let all : ℕ = words_for bits in
    let old = c.args.into.now in
    let first = c.put.new.into in
    let mid = c.copy_words.new.into in
    let new = c.mask_last.new.into in
    let word = c.pointer_to_list-word.result in
    let count = c.args.list.words in
    let count_is : count ≡ all = (c.requires.measured.1 ∙ ap words_for c.requires.measured.0) in
    let end : ℕ = used + count in
    let end_is : end ≡ used + count = refl in
    let bound = c.requires.room.0 in
    let near = c.requires.room.1 in
    let less = c.requires.place.0 in
    let inside = c.requires.place.1 in
    let own = own_at_least z n in
    let put_same = c.put.ensures.behind.0 in
    let copy_same = c.copy_words.ensures.behind.0 in
    let mask_same = c.mask_last.ensures.behind.0 in
    let size = length-map first (from_le_bytes w64) in
    let section = section_at s p all in
    let front = set (filled used old) at word in
    let b : ℕ = c.args.list.bits in
    let b_is : b ≡ bits = c.requires.measured.0 in
    let plain = data_bits_plain z c.requires.inside.0 in
    let copied : filled end mid ≡ front ++ words_of (words_for b) section =
    ap (take end) c.copy_words.ensures.words ∙ ap (λ (j : ℕ). take j (with_section_at used count (section_at s p count) (words_view first))) end_is
    ∙ take_words used count (section_at s p count) (words_view first) (omega arith)
    ∙ ap (λ (xs : List ℕ). xs ++ words_of count (section_at s p count)) (ap (take used) c.put.ensures.words ∙ take-set-lt used (words_view old) at word (omega arith))
    ∙ ap (λ (j : ℕ). front ++ words_of j (section_at s p j)) count_is
    ∙ ap (λ (j : ℕ). front ++ words_of (words_for j) section) (sym b_is) in
    let masked : filled end new ≡ front ++ words_of (words_for (size_bits z * n)) (section % 2 ^ bits) =
    c.mask_last.ensures.words front section copied ∙ ap (λ (j : ℕ). front ++ words_of (words_for j) (section % 2 ^ j)) b_is
    ∙ ap (λ (j : ℕ). front ++ words_of (words_for (j * n)) (section % 2 ^ bits)) (sym plain) in
    let pointing : word ≡ list_pointer (used - at - 1) z n = c.pointer_to_list-word.ensures ∙ ap (λ (j : ℕ). list_pointer (used - at - 1) j n) c.number.ensures in
    record {
      what = plain_list z n (section % 2 ^ bits);
      there_is = refl;
      clean = refl;
      words = list_written at used z n (section % 2 ^ bits) word (filled used old) (filled end new) (filled_length used old inside) pointing masked;
      behind = behind_both (used + count) end end old mid new (omega arith) (omega arith) (behind_both (at + 1) (used + count) (used + count) old first mid (omega arith) (omega arith) c.put.ensures.behind c.copy_words.ensures.behind) c.mask_last.ensures.behind;
      bound = omega arith;
      near = near;
      more = omega arith;
      cost = 0;
      cost_is = refl;
      walked = walked_none l;
      few = omega arith;
    }
