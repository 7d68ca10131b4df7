use Rattle.std.proofs.Common.{◌≡◌, ◌-◌, ◌/◌, arith, List, Some, true, length, ap, sym, ◌∙◌, ℕ}
use Rattle.std.proofs.lemmas.List.{length-map}
use Rattle.capnp_model.specs.Segments.{Segments}
use Rattle.capnp_units.specs.Segments.{whole_words, words_in}
use Rattle.capnp_stream.specs.Buffers.{buffer_segments, found_segments}
use Rattle.hagzimot_salvage.specs.Roots.{has_root}
use Rattle.hagzimot_salvage.specs.Frames.{has_zero_padding, words_of_front}
use Rattle.hagzimot_salvage.proofs.Fronts.{found_behind}
use Rattle.hagzimot_salvage.proofs.frames.behind_frame.Goals as goal

pub returns-clause-rest : goal.returns-clause-rest
returns-clause-rest c =
    let l = c.args.limits in
    let b = c.args.bytes.now in
    let rest = c.from_slice.new.slice.now in
    let found = found_segments c.in-Ok.message in
    let s : Segments = words_in found in
    let framed = c.texts_in_slices.ensures.of_slice (Some l.message_words) b _ c.in-Ok.ensures.message in
    let count : c.len.result ≡ length s = c.len.ensures ∙ sym (length-map found whole_words) in
    let padded : has_zero_padding (length s) b ≡ true = ap (λ (n : ℕ). has_zero_padding n b) (sym count) ∙ sym c.has_zero_padding.ensures ∙ c.if-not-has_zero_padding.false in
    let size : c.saturating_sub-words.result ≡ length b - length rest = omega arith in
    let segments = buffer_segments c.in_ok-segments.segments in
    let here : has_root l (c.saturating_sub-words.result / 8) (words_in segments) ≡ true = sym c.has_root.ensures ∙ c.if-not-has_root.false in
    let sized : has_root l (words_of_front b rest) (words_in segments) ≡ true = ap (λ (n : ℕ). has_root l (n / 8) (words_in segments)) (sym size) ∙ here in
    let rooted : has_root l (words_of_front b rest) s ≡ true = ap (λ (x : List (List ℕ)). has_root l (words_of_front b rest) (words_in x)) (sym c.in_ok-segments.ensures.segments) ∙ sized in
    sym (found_behind l b rest s framed padded rooted)
