-- The segment of a message that is kept is that of its value.
use Rattle.std.proofs.Common.{◌≡◌, ℕ, ◌/◌, Bool, true, false, not, ◌&&◌, Option, Some, None, option_map, List, [], ◌∷◌, length, refl, sym, ◌∙◌, ap, subst}
use Rattle.std.specs.Prelude.{IsSome}
use Rattle.std.specs.Str.{bytes_eq}
use Rattle.std.proofs.lemmas.Slice.Eq.{bytes_eq-Decides}
use Rattle.capnp_model.specs.Segments.{root}
use Rattle.capnp_model.specs.Trees.{Tree, has_capability}
use Rattle.capnp_model.specs.Trimming.{trim}
use Rattle.capnp_model.specs.Traversal.{tree_at}
use Rattle.capnp_model.specs.Encoding.{canonical_words}
use Rattle.capnp_model.specs.Bytes.{bytes_of_words, words_in_bytes}
use Rattle.capnp_model.specs.Decoding.{decode}
use Rattle.capnp_model.specs.Schemas.{default_or_null}
use Rattle.capnp_model.proofs.lemmas.Chaining.{bind_some, provided_some}
use Rattle.capnp_calls.specs.declared.message.MessageValue.{MessageValue}
use Rattle.capnp_calls.specs.Frames.{value_in}
use Rattle.capnp_calls.specs.Messages.{tree_of_message}
use Rattle.capnp_relay_requests.specs.Requests.{segment_in}

second : (cap same : Bool) → (not cap && same) ≡ true → same ≡ true
second true same h = absurd (cc h)
second false same h = h

decoded_is : (bs : List ℕ) (t : Tree) → decode bs ≡ Some t → bytes_of_words (canonical_words (trim t)) ≡ bs
unfolding decode
decoded_is bs t e =
    let a = bind_some (tree_at 64 (words_in_bytes (length bs / 8) bs ∷ []) root) _ t e in
    let g = provided_some a.0 t (not (has_capability a.0) && bytes_eq (bytes_of_words (canonical_words (trim a.0))) bs) a.2 in
    let same = second (has_capability a.0) (bytes_eq (bytes_of_words (canonical_words (trim a.0))) bs) g.0 in
    subst (λ (u : Tree). bytes_of_words (canonical_words (trim u)) ≡ bs) g.1 ((bytes_eq-Decides (bytes_of_words (canonical_words (trim a.0))) bs).0 same)

spelled : (bs : List ℕ) (o : Option Tree) → decode bs ≡ o → IsSome o → bytes_of_words (canonical_words (trim (default_or_null o))) ≡ bs
spelled bs None e h = absurd (cc h)
spelled bs (Some t) e h = decoded_is bs t e

pub segment_is : (bytes : List ℕ) (m : MessageValue) → Some (tree_of_message m) ≡ value_in bytes → segment_in bytes ≡ Some m.segment.items
segment_is bytes m e =
    ap (option_map (λ t. bytes_of_words (canonical_words (trim t)))) (sym e)
    ∙ ap Some (spelled m.segment.items (decode m.segment.items) refl m.readable)
