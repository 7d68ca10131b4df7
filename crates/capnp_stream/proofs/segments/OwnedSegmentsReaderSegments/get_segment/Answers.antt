use Rattle.std.proofs.Common.{◌≡◌, ◌*◌, Some, refl, ap, ◌∙◌, sym, List, ℕ, length, arith, rules}
use Rattle.std.proofs.lemmas.List.{length-map}
use Rattle.std.specs.List.{slice_range, slice_get}
use Rattle.std.specs.Option.{option_map}
use Rattle.std.proofs.lemmas.Option.{slice_get-map, slice_get_read}
use Rattle.capnp_units.specs.Segments.{whole_words}
use Rattle.capnp_stream.specs.Segments.{bytes_of_segments}
use Rattle.capnp_stream.proofs.segments.OwnedSegmentsReaderSegments.get_segment.Goals as goal

pub returns : goal.returns
returns c =
    let s = c.args.self.now in
    let r = c.in_ok-start.field-0.now in
    let all = c.deref.result.now in
    let part : ℕ × ℕ → List ℕ = λ x. slice_range s.bytes.items (8 * x.0) (8 * x.1) in
    let found = c.in_ok-start.ensures.lookup in
    let here : slice_get s.indices.items c.args.id ≡ Some r =
    ap (λ xs. slice_get xs c.args.id) (sym c.deref.ensures.value) ∙ slice_get_read all (length all) c.args.id r refl found.3.0 found.1 in
    let lies : slice_get (bytes_of_segments s) c.args.id ≡ Some (slice_range c.deref-2.result.now (8 * r.0) (8 * r.1)) =
    slice_get-map part s.indices.items c.args.id ∙ ap (option_map part) here ∙ ap (λ bytes. Some (slice_range bytes (8 * r.0) (8 * r.1))) (sym c.deref-2.ensures.value) in
    record {
      bytes = sym lies;
      words = slice_get-map whole_words (bytes_of_segments s) c.args.id ∙ ap (option_map whole_words) lies;
      whole = search rules;
      there = (λ some. omega (arith, found, length-map (bytes_of_segments s) whole_words, length-map s.indices.items part, ap length c.deref.ensures.value), λ below. refl);
    }
