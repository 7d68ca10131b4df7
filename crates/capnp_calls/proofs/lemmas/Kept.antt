-- The canonical bytes of a value that was read are read as the trimmed value.
use Rattle.std.proofs.Common.{◌≡◌, ℕ, ◌/◌, ◌^◌, ◌≤◌, Bool, true, false, not, ◌&&◌, nat_le, Option, Some, None, option_map, List, [], ◌∷◌, length, refl, sym, ◌∙◌, ap, subst, arith, append-nil}
use Rattle.std.specs.Prelude.{IsSome}
use Rattle.std.specs.Str.{bytes_eq}
use Rattle.std.proofs.lemmas.Bool.Decides.{nat_tests}
use Rattle.std.proofs.lemmas.Slice.Eq.{bytes_eq-Decides}
use Rattle.capnp_model.specs.Segments.{Segments, root}
use Rattle.capnp_model.specs.Trees.{Tree, has_capability}
use Rattle.capnp_model.specs.Trimming.{trim}
use Rattle.capnp_model.specs.Fits.{Fits}
use Rattle.capnp_model.specs.Traversal.{tree_at, cost_at}
use Rattle.capnp_model.specs.Encoding.{canonical_words}
use Rattle.capnp_model.specs.Bytes.{bytes_of_words, words_in_bytes}
use Rattle.capnp_model.specs.Spelling.{AreWords}
use Rattle.capnp_model.specs.Decoding.{decode}
use Rattle.capnp_model.specs.Answers.{value_within}
use Rattle.capnp_model.proofs.lemmas.Chaining.{bind_some, provided_some, some_is}
use Rattle.capnp_model.proofs.lemmas.ByteWords.{words_back, bytes_length}
use Rattle.capnp_model.proofs.lemmas.ReadFits.{tree_at_fits}
use Rattle.capnp_model.proofs.lemmas.TrimFits.{Fits-trim}
use Rattle.capnp_model.proofs.lemmas.TrimTwice.{trim-trim}
use Rattle.capnp_model.proofs.lemmas.Canonical.{canonical_size, canonical_means}
use Rattle.capnp_model.proofs.lemmas.CanonicalWords.{canonical_words_are}
use Rattle.capnp_model.proofs.lemmas.CanonicalCopies.{free_trim}
use Rattle.capnp_model.specs.Schemas.{default_or_null}
use Rattle.capnp_calls.specs.declared.message.MessageValue.{MessageValue}
use Rattle.capnp_calls.specs.Frames.{default_limits, one_frame, value_in}
use Rattle.capnp_calls.specs.Copied.{canonical_words_in}
use Rattle.capnp_calls.specs.Messages.{tree_of_message}

-- ---- a value within the limits

record IsRead (s : Segments) (t : Tree) : Type 0 where
  pub found : tree_at 64 s root ≡ Some t
  pub clean : has_capability t ≡ false
  pub few : cost_at 64 s root ≤ 8388608

both : (cap within : Bool) → (not cap && within) ≡ true → (cap ≡ false) × (within ≡ true)
both true within h = absurd (cc h)
both false within h = (refl, h)

within : (n : ℕ) → nat_le n 8388608 ≡ true → n ≤ 8388608
within n h = grind (arith, nat_tests)

read_of : (s : Segments) (t : Tree) → value_within default_limits s ≡ Some t → IsRead s t
unfolding value_within
read_of s t e =
    let a = bind_some (tree_at 64 s root) _ t e in
    let g = provided_some a.0 t (not (has_capability a.0) && nat_le (cost_at 64 s root) 8388608) a.2 in
    let is : a.0 ≡ t = g.1 in
    let tests = both (has_capability a.0) (nat_le (cost_at 64 s root) 8388608) g.0 in
    record {
      found = a.1 ∙ ap Some is;
      clean = ap has_capability (sym is) ∙ tests.0;
      few = within (cost_at 64 s root) tests.1;
    }

read_fits : (s : Segments) (t : Tree) → value_within default_limits s ≡ Some t → Fits (trim t)
read_fits s t e = Fits-trim t (tree_at_fits 64 s root t (read_of s t e).found)

read_short : (s : Segments) (t : Tree) → value_within default_limits s ≡ Some t → length (canonical_words (trim t)) ≤ 2 ^ 29
read_short s t e =
    let r = read_of s t e in
    let size = canonical_size 64 s root t r.found in
    let few = r.few in
    omega arith

-- ---- its canonical bytes

bytes_back : (ws : List ℕ) → AreWords ws → words_in_bytes (length (bytes_of_words ws) / 8) (bytes_of_words ws) ≡ ws
bytes_back ws h =
    let l = bytes_length ws in
    let n : length (bytes_of_words ws) / 8 ≡ length ws = omega arith in
    ap (λ k. words_in_bytes k (bytes_of_words ws)) n ∙ ap (words_in_bytes (length ws)) (sym (append-nil (bytes_of_words ws))) ∙ words_back ws [] h

spelled_by : (bs : List ℕ) (u : Tree) → tree_at 64 (words_in_bytes (length bs / 8) bs ∷ []) root ≡ Some u → has_capability u ≡ false → bytes_of_words (canonical_words (trim u)) ≡ bs → decode bs ≡ Some u
unfolding decode
spelled_by bs u e c same =
    let eq : bytes_eq (bytes_of_words (canonical_words (trim u))) bs ≡ true = (bytes_eq-Decides (bytes_of_words (canonical_words (trim u))) bs).1 same in
    rw (e, c, eq) refl

-- they are decoded as the trimmed value.
decoded : (s : Segments) (t : Tree) → value_within default_limits s ≡ Some t → decode (bytes_of_words (canonical_words (trim t))) ≡ Some (trim t)
decoded s t e =
    let r = read_of s t e in
    let few = r.few in
    let words : AreWords (canonical_words (trim t)) = canonical_words_are (trim t) (read_fits s t e) (read_short s t e) in
    let means : tree_at 64 (canonical_words (trim t) ∷ []) root ≡ Some (trim t) = canonical_means 64 s root t r.found (omega arith) in
    spelled_by (bytes_of_words (canonical_words (trim t))) (trim t)
    (ap (λ (ws : List ℕ). tree_at 64 (ws ∷ []) root) (bytes_back (canonical_words (trim t)) words) ∙ means)
    (free_trim t r.clean)
    (ap (λ u. bytes_of_words (canonical_words u)) (trim-trim t))

-- ---- the value that bytes hold

-- canonical words are those of a value
value_of : (s : Segments) (ws : List ℕ) → Some ws ≡ canonical_words_in s → (t : Tree) × (Some t ≡ value_within default_limits s) × (ws ≡ canonical_words (trim t))
value_of s ws e = by (value_within default_limits s) refl
  where
    by : (o : Option Tree) → o ≡ value_within default_limits s → (t : Tree) × (Some t ≡ value_within default_limits s) × (ws ≡ canonical_words (trim t))
    by None v = absurd (cc (e ∙ ap (option_map (λ t. canonical_words (trim t))) (sym v)))
    by (Some t) v = (t, v, some_is ws (canonical_words (trim t)) (e ∙ ap (option_map (λ u. canonical_words (trim u))) (sym v)))

no_value : (s : Segments) → None ≡ canonical_words_in s → None ≡ value_within default_limits s
no_value s e = by (value_within default_limits s) refl
  where
    by : (o : Option Tree) → o ≡ value_within default_limits s → None ≡ value_within default_limits s
    by None v = v
    by (Some t) v = absurd (cc (e ∙ ap (option_map (λ u. canonical_words (trim u))) (sym v)))

pub not_framed : (bytes : List ℕ) → None ≡ one_frame bytes → None ≡ value_in bytes
unfolding value_in
not_framed bytes f = rw (sym f) refl

none_in : (bytes : List ℕ) (s : Segments) → Some s ≡ one_frame bytes → None ≡ value_within default_limits s → None ≡ value_in bytes
unfolding value_in
none_in bytes s f v = rw (sym f, sym v) refl

pub not_read : (bytes : List ℕ) (s : Segments) → Some s ≡ one_frame bytes → None ≡ canonical_words_in s → None ≡ value_in bytes
not_read bytes s f e = none_in bytes s f (no_value s e)

value_is : (bytes : List ℕ) (s : Segments) (t : Tree) → Some s ≡ one_frame bytes → Some t ≡ value_within default_limits s → Some (trim t) ≡ value_in bytes
unfolding value_in
value_is bytes s t f v = rw (sym f, sym v) refl

kept_decoded : (kept ws : List ℕ) (s : Segments) (t : Tree) → Some t ≡ value_within default_limits s → ws ≡ canonical_words (trim t) → kept ≡ bytes_of_words ws → decode kept ≡ Some (trim t)
kept_decoded kept ws s t v is k = ap decode (k ∙ ap bytes_of_words is) ∙ decoded s t (sym v)

pub kept_is : (bytes kept ws : List ℕ) (s : Segments) → Some s ≡ one_frame bytes → Some ws ≡ canonical_words_in s → kept ≡ bytes_of_words ws → Some (default_or_null (decode kept)) ≡ value_in bytes
kept_is bytes kept ws s f e k =
    let v = value_of s ws e in
    ap (λ o. Some (default_or_null o)) (kept_decoded kept ws s v.0 v.1 v.2 k) ∙ value_is bytes s v.0 f v.1

pub kept_decodes : (kept ws : List ℕ) (s : Segments) → Some ws ≡ canonical_words_in s → kept ≡ bytes_of_words ws → IsSome (decode kept)
kept_decodes kept ws s e k =
    let v = value_of s ws e in
    subst IsSome (sym (kept_decoded kept ws s v.0 v.1 v.2 k)) refl

-- ---- a message that is kept

decode_fits : (bs : List ℕ) (t : Tree) → decode bs ≡ Some t → Fits t
unfolding decode
decode_fits bs t e =
    let a = bind_some (tree_at 64 (words_in_bytes (length bs / 8) bs ∷ []) root) _ t e in
    let g = provided_some _ _ _ a.2 in
    subst Fits g.1 (tree_at_fits 64 (words_in_bytes (length bs / 8) bs ∷ []) root a.0 a.1)

or_null_fits : (o : Option Tree) → ((t : Tree) → o ≡ Some t → Fits t) → Fits (default_or_null o)
or_null_fits None h = tt
or_null_fits (Some t) h = h t refl

pub message_fits : (m : MessageValue) → Fits (tree_of_message m)
message_fits m = or_null_fits (decode m.segment.items) (λ t e. decode_fits m.segment.items t e)
