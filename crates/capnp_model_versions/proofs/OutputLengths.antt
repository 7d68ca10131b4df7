-- The bytes of what is written without calls.
use Rattle.std.proofs.Common.{◌≡◌, ℕ, ◌+◌, ◌*◌, ◌^◌, ◌≤◌, true, not, Some, List, [], ◌∷◌, ◌++◌, length, sym, ◌∙◌, ap, subst, arith}
use Rattle.std.specs.List.{AllByRecursion}
use Rattle.std.proofs.lemmas.Bool.{leb-true}
use Rattle.std.proofs.lemmas.List.{length-append}
use Rattle.std.proofs.lemmas.Nat.{pow_pos}
use Rattle.capnp_model.specs.Segments.{Segments, root}
use Rattle.capnp_model.specs.Trees.{Tree, null, capability, structure, plain_list, pointer_list, struct_list, none, resized, has_capability}
use Rattle.capnp_model.specs.Trimming.{trim}
use Rattle.capnp_model.specs.Traversal.{tree_at, cost_at}
use Rattle.capnp_model.specs.Encoding.{canonical_words}
use Rattle.capnp_model.specs.Bytes.{bytes_of_words}
use Rattle.capnp_model.specs.Messages.{Reader, within, frame}
use Rattle.capnp_model.specs.Schemas.{Shape, shape}
use Rattle.capnp_model.specs.NamedPaths.{IsOpen}
use Rattle.capnp_model.specs.Answers.{Answer, refused_value, refused_root, refused_depth, written, Limits, levels, value_within, widened_root, opened_root, edits}
use Rattle.capnp_model.specs.Runs.{output_of, AnswerEach, End}
use Rattle.capnp_model.specs.SameRuns.{Work, IsAnswerIn, Relays}
use Rattle.capnp_model.proofs.lemmas.ByteWords.{bytes_length}
use Rattle.capnp_model.proofs.lemmas.Canonical.{canonical_size}
use Rattle.capnp_model.proofs.lemmas.Chaining.{bind_some, provided_some}
use Rattle.capnp_model.proofs.lemmas.Tests.{and_right}
use Rattle.capnp_model.proofs.lemmas.TrimTwice.{trim-trim}
use Rattle.capnp_model.proofs.lemmas.Widening.{trim-structure}
use Rattle.capnp_model_versions.specs.Whole.{IsWhole}
use Rattle.capnp_model_versions.specs.OwnOutput.{edited_value}
use Rattle.capnp_model_versions.specs.TwoRelays.{RelayWrites}
use Rattle.capnp_model_versions.proofs.SameContents.{bare_nulls}
use Rattle.capnp_model_versions.proofs.Structs.{reopened}
use Rattle.capnp_model_versions.proofs.lemmas.WholeValues.{fits-whole, whole-trim}
use Rattle.capnp_model_versions.proofs.lemmas.WrittenValues.{has-written, value-fits}

frame_length : (ws : List ℕ) → length (frame (ws ∷ [])) ≡ 8 * (length ws + 1)
frame_length ws =
    let head : List ℕ = bytes_of_words ((2 ^ 32 * length ws) ∷ []) in
    let h = bytes_length ((2 ^ 32 * length ws) ∷ []) in
    let b = bytes_length ws in
    omega (arith, h, b, length-append head (bytes_of_words ws ++ []), length-append (bytes_of_words ws) [])

-- ---- the words of the value

-- a null opens as the empty struct
opened_null : (g : Shape) → trim (widened_root g null) ≡ trim (structure 0 0 none)
opened_null (shape nid w p u fs) = trim-structure w 0 0 (resized p none) none (pow_pos (64 * w)) (omega arith) (bare_nulls p ∙ sym (bare_nulls 0))

-- a value that is opened as the root and not changed has the words that are written for it, a null those of the empty struct
opened_words : (g : Shape) (t : Tree) → IsOpen t → IsWhole t → length (canonical_words (trim (widened_root g (trim t)))) ≤ length (canonical_words (trim t))
unfolding trim canonical_words
opened_words g null o h = let e = opened_null g in omega (arith, ap (λ z. length (canonical_words z)) e)
opened_words g (structure w n ts) o h =
    let e : trim (widened_root g (trim (structure w n ts))) ≡ trim (structure w n ts) =
    reopened g (trim (structure w n ts)) tt (whole-trim (structure w n ts) h) ∙ trim-trim (structure w n ts) in
    omega (arith, ap (λ z. length (canonical_words z)) e)
opened_words g (capability i) o h = absurd o
opened_words g (plain_list z n x) o h = absurd o
opened_words g (pointer_list ts) o h = absurd o
opened_words g (struct_list d k es) o h = absurd o

-- a value within a limit of words has one word more than the limit at most, that of the root
words_within : (limits : Limits) (words : ℕ) (s : Segments) (t : Tree) → limits.words ≡ Some words → value_within limits s ≡ Some t → length (canonical_words (trim t)) ≤ words + 1
unfolding value_within
words_within limits words s t is e =
    let l = bind_some (levels limits.nesting) _ t e in
    let v = bind_some (tree_at l.0 s root) _ t l.2 in
    let k = provided_some v.0 t _ v.2 in
    let cost = leb-true (cost_at l.0 s root) words (subst (λ o. within (cost_at l.0 s root) o ≡ true) is (and_right (not (has_capability v.0)) _ k.0)) in
    let size = canonical_size l.0 s root t (subst (λ z. tree_at l.0 s root ≡ Some z) k.1 v.1) in
    omega arith

-- ---- THE LAW

module _ (w : Work) (words : ℕ) (none_called : w.calls ≡ []) (is : w.limits.words ≡ Some words) where
  edited_words : (t : Tree) → IsOpen t → IsWhole t → length (canonical_words (trim (edited_value w t))) ≤ length (canonical_words (trim t))
  unfolding edits opened_root
  edited_words t o h =
      subst (λ calls. length (canonical_words (trim (edits w.schema w.root calls (opened_root w.schema w.root t)))) ≤ length (canonical_words (trim t))) (sym none_called) (opened_words (w.schema.shape_of w.root) t o h)

  pub framed-without-calls : (message segments : Segments) → RelayWrites w message segments → length (frame segments) ≤ 8 * (words + 2)
  framed-without-calls message segments writes =
      let h = has-written w message segments writes.0 writes.1 in
      let few = words_within w.limits words message h.value is h.is_value in
      let same = edited_words h.value h.is_open (fits-whole h.value (value-fits w.limits message h.value h.is_value)) in
      let long = frame_length (canonical_words (trim (edited_value w h.value))) in
      subst (λ s. length (frame s) ≤ 8 * (words + 2)) (sym h.is_written) (omega arith)

  outputs-without-calls : (ms : List Segments) (xs : List Answer) → AnswerEach (IsAnswerIn w) ms xs → AllByRecursion (λ a. length (output_of bytes_of_words a) ≤ 8 * (words + 2)) xs
  outputs-without-calls [] [] a = tt
  outputs-without-calls [] (x ∷ xs) a = absurd a
  outputs-without-calls (m ∷ ms) [] a = absurd a
  outputs-without-calls (m ∷ ms) (refused_value ∷ xs) a = (omega arith, outputs-without-calls ms xs a.1)
  outputs-without-calls (m ∷ ms) (refused_root ∷ xs) a = (omega arith, outputs-without-calls ms xs a.1)
  outputs-without-calls (m ∷ ms) (refused_depth ∷ xs) a = (omega arith, outputs-without-calls ms xs a.1)
  outputs-without-calls (m ∷ ms) (written s rs ∷ xs) a = (framed-without-calls m s (rs, a.0), outputs-without-calls ms xs a.1)

  pub run-without-calls : (read : Reader) (bytes output log : List ℕ) (end : End) → (x : Relays w read bytes_of_words bytes output log end) → AllByRecursion (λ a. length (output_of bytes_of_words a) ≤ 8 * (words + 2)) x.answers
  run-without-calls read bytes output log end x = outputs-without-calls x.messages x.answers x.answered
