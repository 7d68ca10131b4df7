-- What a lent slice leaves of the segments whose bytes it shows.
use Rattle.std.proofs.Common.{ℕ, ◌*◌, ◌≤◌, List, sym, subst, ◌∙◌}
use Rattle.std.specs.List.{slice_index_or, length_refill}
use Rattle.std.specs.Vec.{with_items}
use Rattle.std.specs.Borrow.{Fml, MutBor, Array, u8, Lends}
use Rattle.capnp_stream.specs.declared.segments.OwnedSegments.{OwnedSegments}
use Rattle.capnp_stream.specs.contracts.segments.OwnedSegments.{the_row}

-- The segments with other bytes, which lie where the former lay.
abbrev pub with_segment_bytes : OwnedSegments → List ℕ → OwnedSegments
with_segment_bytes s bytes = record {
  bytes = with_items s.bytes bytes;
  indices = s.indices;
  within = λ k d inside.
      let before = s.within k d inside in
      (before.0, subst (λ n. 8 * (slice_index_or s.indices.items k d).1 ≤ n) (sym s.bytes.ok.0 ∙ length_refill s.bytes.len s.bytes.items bytes s.bytes.ok.0) before.1);
}

-- Once the borrow ends the bytes are those that it shows last.
abbrev pub LendsBytes : MutBor OwnedSegments → MutBor (List ℕ) → Fml
LendsBytes s r = Lends the_row (Array u8 0) s r (with_segment_bytes s.now)
