use Rattle.std.proofs.Common.{◌≡◌, ℕ, Some, option_map, List, ap, sym, ◌∙◌}
use Rattle.capnp_units.specs.Segments.{words_in}
use Rattle.capnp_model.specs.Bytes.{bytes_of_words}
use Rattle.capnp_wire_canonical.specs.Writes.{words_view}
use Rattle.capnp_stream.specs.Buffers.{found_segments}
use Rattle.capnp_calls.specs.Copied.{canonical_words_in}
use Rattle.capnp_calls.proofs.lemmas.Kept.{kept_decodes, kept_is, not_read, not_framed}
use Rattle.capnp_calls.proofs.message.MessageValue.new.Goals as goal

pub returns-in_default-clause-value : goal.returns-in_default-clause-value
returns-in_default-clause-value c = not_framed c.args.bytes.now (sym (ap (option_map (λ s. words_in (found_segments s))) c.in_default.is) ∙ c.one_frame.ensures)

pub invariant_of-result : goal.invariant_of-result
invariant_of-result c =
    let at = ap (λ s. canonical_words_in (words_in (found_segments s))) c.new-arena.ensures.segments in
    let read : Some (words_view c.in-Some-2.words.items) ≡ canonical_words_in (words_in (found_segments c.in-Some.segments)) = sym (ap (option_map (λ w. words_view w.items)) c.in-Some-2.is) ∙ c.in_ok-words.ensures ∙ at in
    let kept = c.in_ok-bytes_of_words-in-Some-2.ensures ∙ ap (λ (ws : List (List ℕ)). bytes_of_words (words_view ws)) c.deref.ensures.value in
    record { readable = kept_decodes c.in_ok-bytes_of_words-in-Some-2.field-0.items (words_view c.in-Some-2.words.items) (words_in (found_segments c.in-Some.segments)) read kept }

pub returns-in_ok-bytes_of_words-in-Some-2-clause-value : goal.returns-in_ok-bytes_of_words-in-Some-2-clause-value
returns-in_ok-bytes_of_words-in-Some-2-clause-value c =
    let at = ap (λ s. canonical_words_in (words_in (found_segments s))) c.new-arena.ensures.segments in
    let read : Some (words_view c.in-Some-2.words.items) ≡ canonical_words_in (words_in (found_segments c.in-Some.segments)) = sym (ap (option_map (λ w. words_view w.items)) c.in-Some-2.is) ∙ c.in_ok-words.ensures ∙ at in
    let kept = c.in_ok-bytes_of_words-in-Some-2.ensures ∙ ap (λ (ws : List (List ℕ)). bytes_of_words (words_view ws)) c.deref.ensures.value in
    kept_is c.args.bytes.now c.in_ok-bytes_of_words-in-Some-2.field-0.items (words_view c.in-Some-2.words.items) (words_in (found_segments c.in-Some.segments)) c.in-Some.ensures read kept

pub returns-in-None-clause-value : goal.returns-in-None-clause-value
returns-in-None-clause-value c =
    let at = ap (λ s. canonical_words_in (words_in (found_segments s))) c.new-arena.ensures.segments in
    let none = sym (ap (option_map (λ w. words_view w.items)) c.in-None.is) ∙ c.in_ok-words.ensures ∙ at in
    not_read c.args.bytes.now (words_in (found_segments c.in-Some.segments)) c.in-Some.ensures none
