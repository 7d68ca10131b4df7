-- A zero byte behind the others leaves their number.
use Rattle.std.proofs.Common.{◌≡◌, ℕ, [], ◌∷◌, ◌++◌, length, refl, ap, sym, ◌∙◌}
use Rattle.std.proofs.lemmas.List.{length_push}
use Rattle.capnp_model.specs.Sections.{number_of, section_of}
use Rattle.capnp_model.specs.Trees.{plain_list}
use Rattle.capnp_wire_canonical.specs.Writes.{words_view}
use Rattle.capnp_copy_arenas.proofs.lemmas.BlobNumbers.{number_behind}
use Rattle.capnp_calls_splice.proofs.blob.Blob.text.Goals as goal

pub returns-clause-tree : goal.returns-clause-tree
returns-clause-tree c =
    let bs = c.args.bytes.now in
    let b = c.in_ok-blob.blob in
    let long : b.len ≡ length (bs ++ 0 ∷ []) = c.in_ok-blob.ensures.tree.0 ∙ sym (length_push bs 0) in
    let same : section_of (words_view b.words.items) ≡ number_of 8 (bs ++ 0 ∷ []) = c.in_ok-blob.ensures.tree.1 ∙ sym (number_behind bs (0 ∷ []) refl) in
    ap (λ (n : ℕ). plain_list 2 n (section_of (words_view b.words.items))) long ∙ ap (plain_list 2 (length (bs ++ 0 ∷ []))) same
