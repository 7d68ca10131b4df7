-- The words of a framed message, whose table is put before those of its segment.
use Rattle.std.proofs.Common.{arith, ◌≡◌, ℕ, ◌+◌, ◌*◌, ◌^◌, ◌<◌, ◌≤◌, List, ◌∷◌, length, Some, Ok, false, ap, sym, ◌∙◌, refl, add-one}
use Rattle.std.proofs.lemmas.List.{length-map, length-take-le}
use Rattle.std.proofs.lemmas.Nat.{from_le_bytes-to_le_bytes_8}
use Rattle.std.specs.Int.{w64, to_le_bytes, from_le_bytes}
use Rattle.capnp_model.specs.Segments.{Segments, root}
use Rattle.capnp_model.specs.Trees.{Tree, has_capability}
use Rattle.capnp_model.specs.Trimming.{trim}
use Rattle.capnp_model.specs.Traversal.{tree_at}
use Rattle.capnp_model.specs.Encoding.{canonical_words}
use Rattle.capnp_model.specs.Canonical.{canonical_at}
use Rattle.capnp_model.specs.Messages.{flat_at}
use Rattle.capnp_wire_canonical.specs.Writes.{words_view, filled}
use Rattle.capnp_wire_canonical.specs.Copies.{CopyState, Written}
use Rattle.capnp_wire_canonical.specs.Objects.{canonical_copy}
use Rattle.capnp_wire_canonical.specs.Reaches.{reach}
use Rattle.hagzimot_in_process.specs.declared.frames.Limits.{Limits}
use Rattle.hagzimot_in_process.specs.Frames.{framed, IsCanonicalForm}

length_filled : (count : ℕ) (into : List (List ℕ)) → count ≤ length into → length (filled count into) ≡ count
length_filled count into fits = let few : count ≤ length (words_view into) = omega (arith, length-map into (from_le_bytes w64)) in length-take-le count (words_view into) few

-- The table is the number of words, in the upper half of a word.
framed_front : (count : ℕ) (head : List ℕ) (into : List (List ℕ)) (segment : List ℕ) → count < 2 ^ 29 → count ≤ length into → head ≡ to_le_bytes w64 (count * 2 ^ 32) → filled count into ≡ segment → filled (count + 1) (head ∷ into) ≡ framed segment
framed_front count head into segment few fits table is =
    let small : count * 2 ^ 32 < 2 ^ 64 = omega (arith, few) in
    let first : from_le_bytes w64 head ≡ length segment * 2 ^ 32 = ap (from_le_bytes w64) table ∙ from_le_bytes-to_le_bytes_8 (count * 2 ^ 32) small ∙ ap (λ n. n * 2 ^ 32) (sym (length_filled count into fits) ∙ ap length is) in
    rw add-one (ap (λ w. w ∷ filled count into) first ∙ ap (λ ws. length segment * 2 ^ 32 ∷ ws) is)

canonical_of : (n : ℕ) (s : Segments) (t : Tree) → tree_at n s root ≡ Some t → has_capability t ≡ false → canonical_at n s root ≡ Some (canonical_words (trim t))
canonical_of n s t there clean = rw there (rw clean refl)

-- What is written is the canonical form.
pub form_of : (limits : Limits) (bytes rest : List ℕ) (s : Segments) (old new : CopyState) (count : ℕ) (head : List ℕ) → flat_at (Some limits.words) bytes ≡ Ok (s, rest) → Written (canonical_copy (reach limits.levels s) root) old count new → head ≡ to_le_bytes w64 (count * 2 ^ 32) → IsCanonicalForm limits bytes (filled (count + 1) (head ∷ new.words))
form_of limits bytes rest s old new count head begins written table = record {
  segments = s;
  begins = (rest, begins);
  segment = canonical_words (trim written.what);
  canonical = canonical_of limits.levels s written.what written.there_is written.clean;
  words_are = framed_front count head new.words (canonical_words (trim written.what)) written.near written.bound table written.words;
}
