-- The list of a text's bytes with the zero byte behind them.
use Rattle.std.proofs.Common.{◌≡◌, ℕ, ◌+◌, ◌*◌, ◌^◌, ◌%◌, List, [], ◌∷◌, ◌++◌, length, Result, IfErr, OnOk, refl, sym, ap, subst, ◌∙◌}
use Rattle.std.proofs.lemmas.List.{length-append}
use Rattle.capnp_model.specs.Sections.{number_of, words_for}
use Rattle.capnp_model.specs.Trees.{Tree, plain_list}
use Rattle.capnp_model.specs.Calls.{blob_tree}
use Rattle.capnp_units.specs.declared.errors.Error.{Error}
use Rattle.capnp_wire_objects.specs.declared.place.Place as code
use Rattle.capnp_layout_builders.specs.Making.{ArenaState, Makes, BytesNotSet}
use Rattle.capnp_schema_structs.specs.Blobs.{list_bytes_of}
use Rattle.capnp_schema_structs.specs.declared.setting.Blob.{Blob}

-- a zero byte more is the same number
zero_more : (bs : List ℕ) → number_of 8 (bs ++ 0 ∷ []) ≡ number_of 8 bs
zero_more [] = refl
zero_more (b ∷ bs) = ap (λ n. n * 2 ^ 8 + b % 2 ^ 8) (zero_more bs)

one_more : (bs : List ℕ) → length bs + 1 ≡ length (bs ++ 0 ∷ [])
one_more bs = sym (length-append bs (0 ∷ []))

text_is : (bs : List ℕ) → plain_list 2 (length bs + 1) (number_of 8 bs) ≡ blob_tree (bs ++ 0 ∷ [])
text_is bs = ap (λ n. plain_list 2 n (number_of 8 bs)) (one_more bs) ∙ ap (λ k. plain_list 2 (length (bs ++ 0 ∷ [])) k) (sym (zero_more bs))

module _ {X : Type 0} (old new : ArenaState) (r : Result X Error) where
  pub text_made : (slot : code.Place) (bs : List ℕ) → OnOk r (Makes old new slot (plain_list 2 (length bs + 1) (number_of 8 bs)) (words_for (8 * (length bs + 1)))) → OnOk r (Makes old new slot (blob_tree (bs ++ 0 ∷ [])) (words_for (8 * length (bs ++ 0 ∷ []))))
  text_made slot bs h =
      let tree = subst (λ (v : Tree). OnOk r (Makes old new slot v (words_for (8 * (length bs + 1))))) (text_is bs) h in
      subst (λ n. OnOk r (Makes old new slot (blob_tree (bs ++ 0 ∷ [])) (words_for (8 * n)))) (one_more bs) tree

  pub text_refused : (segment : ℕ) (bs : List ℕ) → IfErr r (BytesNotSet old new segment (length bs + 1)) → IfErr r (BytesNotSet old new segment (length (bs ++ 0 ∷ [])))
  text_refused segment bs h = subst (λ n. IfErr r (BytesNotSet old new segment n)) (one_more bs) h

  pub blob_made : (slot : code.Place) (b x : Blob) → b ≡ x → OnOk r (Makes old new slot (blob_tree (list_bytes_of x)) (words_for (8 * length (list_bytes_of x)))) → OnOk r (Makes old new slot (blob_tree (list_bytes_of b)) (words_for (8 * length (list_bytes_of b))))
  blob_made slot b x e h = subst (λ y. OnOk r (Makes old new slot (blob_tree (list_bytes_of y)) (words_for (8 * length (list_bytes_of y))))) (sym e) h

  pub blob_refused : (segment : ℕ) (b x : Blob) → b ≡ x → IfErr r (BytesNotSet old new segment (length (list_bytes_of x))) → IfErr r (BytesNotSet old new segment (length (list_bytes_of b)))
  blob_refused segment b x e h = subst (λ y. IfErr r (BytesNotSet old new segment (length (list_bytes_of y)))) (sym e) h
