-- Texts, data and segments are equal where the canonical words of their values are.
use Rattle.std.proofs.Common.{◌≡◌, ℕ, zero, suc, ◌+◌, ◌-◌, ◌*◌, ◌/◌, ◌%◌, ◌^◌, ◌<◌, ◌≤◌, Bool, true, false, not, ◌&&◌, Option, Some, None, List, [], ◌∷◌, ◌++◌, length, refl, sym, ◌∙◌, ap, subst, arith}
use Rattle.std.specs.Str.{bytes_eq}
use Rattle.std.specs.Prelude.{cond}
use Rattle.std.proofs.lemmas.Slice.Eq.{bytes_eq-Decides}
use Rattle.std.proofs.lemmas.List.{length-append}
use Rattle.capnp_model.specs.Chains.{◌>>=◌, ◌provided◌}
use Rattle.capnp_model.specs.Segments.{root}
use Rattle.capnp_model.specs.Sections.{number_of, words_of, words_for}
use Rattle.capnp_model.specs.Trees.{Tree, plain_list, has_capability, depth}
use Rattle.capnp_model.specs.Trimming.{trim}
use Rattle.capnp_model.specs.Traversal.{tree_at}
use Rattle.capnp_model.specs.Encoding.{canonical_words}
use Rattle.capnp_model.specs.Bytes.{AreBytes, bytes_of_words, words_in_bytes}
use Rattle.capnp_model.specs.Fits.{Fits}
use Rattle.capnp_model.specs.Calls.{text_tree, blob_tree}
use Rattle.capnp_model.specs.Decoding.{decode}
use Rattle.capnp_model.proofs.lemmas.Tests.{and_right}
use Rattle.capnp_model.proofs.lemmas.Numbers.{length-numbers_in}
use Rattle.capnp_model.proofs.lemmas.FittingValues.{bytes_fit}
use Rattle.capnp_model.proofs.lemmas.RoundTrip.{enc_means, enc_is}
use Rattle.capnp_model.proofs.lemmas.ReadFits.{tree_at_fits}
use Rattle.capnp_model.proofs.lemmas.TrimFits.{Fits-trim, depth-trim}
use Rattle.capnp_model.proofs.lemmas.Depth.{tree_at_deep}
use Rattle.capnp_model.proofs.lemmas.CanonicalWords.{canonical_words_are}
use Rattle.capnp_model.proofs.lemmas.ByteWords.{words_back, bytes_length}

same_front : (a b x y : ℕ) → x < 256 → y < 256 → a * 2 ^ 8 + x % 2 ^ 8 ≡ b * 2 ^ 8 + y % 2 ^ 8 → (x ≡ y) × (a ≡ b)
same_front a b x y h k e = (omega arith, omega arith)

-- bytes of one number are equal
same_number : (xs ys : List ℕ) → AreBytes xs → AreBytes ys → length xs ≡ length ys → number_of 8 xs ≡ number_of 8 ys → xs ≡ ys
same_number [] [] h k l e = refl
same_number [] (y ∷ ys) h k l e = absurd (omega arith)
same_number (x ∷ xs) [] h k l e = absurd (omega arith)
same_number (x ∷ xs) (y ∷ ys) h k l e =
    let parts = same_front (number_of 8 xs) (number_of 8 ys) x y (h 0) (k 0) e in
    let rest : xs ≡ ys = same_number xs ys (λ i. h (suc i)) (λ i. k (suc i)) (omega arith) parts.1 in
    ap (λ z. z ∷ xs) parts.0 ∙ ap (λ zs. y ∷ zs) rest

size_of : Tree → ℕ
size_of (plain_list size n section) = n
size_of _ = 0

section_in : Tree → ℕ
section_in (plain_list size n section) = section
section_in _ = 0

short_words : (n section : ℕ) → n < 2 ^ 29 → length (canonical_words (plain_list 2 n section)) ≤ 2 ^ 29
unfolding canonical_words
short_words n section h = let long : length (words_of (words_for (8 * n)) section) ≡ words_for (8 * n) = length-numbers_in 64 (words_for (8 * n)) section in omega (arith, long)

same_tree : (xs ys : List ℕ) → AreBytes xs → AreBytes ys → blob_tree xs ≡ blob_tree ys → xs ≡ ys
unfolding size_of section_in
same_tree xs ys h k e = same_number xs ys h k (ap size_of e) (ap section_in e)

same_data : (xs ys : List ℕ) → AreBytes xs → AreBytes ys → length xs < 2 ^ 29 → length ys < 2 ^ 29 → canonical_words (blob_tree xs) ≡ canonical_words (blob_tree ys) → xs ≡ ys
same_data xs ys h k a b e = same_tree xs ys h k (enc_is (blob_tree xs) (blob_tree ys) (bytes_fit xs a) (bytes_fit ys b) (short_words (length xs) (number_of 8 xs) a) e)

-- two tests of equality that say the same
same_tests : (a b c d : List ℕ) → (a ≡ b → c ≡ d) → (c ≡ d → a ≡ b) → bytes_eq a b ≡ bytes_eq c d
same_tests a b c d f g = by (bytes_eq a b) (bytes_eq c d) refl refl
  where
    by : (x y : Bool) → bytes_eq a b ≡ x → bytes_eq c d ≡ y → x ≡ y
    by true true p q = refl
    by false false p q = refl
    by true false p q = sym ((bytes_eq-Decides c d).1 (f ((bytes_eq-Decides a b).0 p))) ∙ q
    by false true p q = sym p ∙ (bytes_eq-Decides a b).1 (g ((bytes_eq-Decides c d).0 q))

pub data_equal : (xs ys : List ℕ) → AreBytes xs → AreBytes ys → length xs < 2 ^ 29 → length ys < 2 ^ 29 → bytes_eq (canonical_words (blob_tree xs)) (canonical_words (blob_tree ys)) ≡ bytes_eq xs ys
data_equal xs ys h k a b = same_tests (canonical_words (blob_tree xs)) (canonical_words (blob_tree ys)) xs ys (same_data xs ys h k a b) (ap (λ bs. canonical_words (blob_tree bs)))

with_zero : (bs : List ℕ) → AreBytes bs → AreBytes (bs ++ 0 ∷ [])
with_zero [] h zero = omega arith
with_zero [] h (suc i) = omega arith
with_zero (b ∷ bs) h zero = h zero
with_zero (b ∷ bs) h (suc i) = with_zero bs (λ j. h (suc j)) i

same_before_zero : (xs ys : List ℕ) → xs ++ 0 ∷ [] ≡ ys ++ 0 ∷ [] → xs ≡ ys
same_before_zero [] [] e = refl
same_before_zero [] (y ∷ []) e = absurd (cc e)
same_before_zero [] (y ∷ z ∷ ys) e = absurd (cc e)
same_before_zero (x ∷ []) [] e = absurd (cc e)
same_before_zero (x ∷ z ∷ xs) [] e = absurd (cc e)
same_before_zero (x ∷ xs) (y ∷ ys) e =
    let here : x ≡ y = cc e in
    let rest : xs ++ 0 ∷ [] ≡ ys ++ 0 ∷ [] = cc e in
    ap (λ z. z ∷ xs) here ∙ ap (λ zs. y ∷ zs) (same_before_zero xs ys rest)

pub texts_equal : (xs ys : List ℕ) → AreBytes xs → AreBytes ys → length xs < 2 ^ 29 - 1 → length ys < 2 ^ 29 - 1 → bytes_eq (canonical_words (text_tree xs)) (canonical_words (text_tree ys)) ≡ bytes_eq xs ys
texts_equal xs ys h k a b =
    let la : length (xs ++ 0 ∷ []) < 2 ^ 29 = omega (arith, length-append xs (0 ∷ [])) in
    let lb : length (ys ++ 0 ∷ []) < 2 ^ 29 = omega (arith, length-append ys (0 ∷ [])) in
    same_tests (canonical_words (text_tree xs)) (canonical_words (text_tree ys)) xs ys
    (λ e. same_before_zero xs ys (same_data (xs ++ 0 ∷ []) (ys ++ 0 ∷ []) (with_zero xs h) (with_zero ys k) la lb e))
    (ap (λ bs. canonical_words (text_tree bs)))

-- ---- segments

record IsSpelled (bs : List ℕ) (t : Tree) : Type 0 where
  pub read : tree_at 64 (words_in_bytes (length bs / 8) bs ∷ []) root ≡ Some t
  pub spelled : bytes_of_words (canonical_words (trim t)) ≡ bs

decoded : (bs : List ℕ) (t : Tree) → decode bs ≡ Some t → IsSpelled bs t
unfolding decode
decoded bs t e = by (tree_at 64 (words_in_bytes (length bs / 8) bs ∷ []) root) refl e
  where
    passed : (u : Tree) → tree_at 64 (words_in_bytes (length bs / 8) bs ∷ []) root ≡ Some u → (b : Bool) → (not (has_capability u) && bytes_eq (bytes_of_words (canonical_words (trim u))) bs) ≡ b → cond b (Some u) None ≡ Some t → IsSpelled bs t
    passed u r true p q =
        let is : u ≡ t = cc q in
        let same : bytes_of_words (canonical_words (trim u)) ≡ bs = (bytes_eq-Decides (bytes_of_words (canonical_words (trim u))) bs).0 (and_right (not (has_capability u)) _ p) in
        record { read = r ∙ ap (λ (x : Tree). Some x) is; spelled = ap (λ (x : Tree). bytes_of_words (canonical_words (trim x))) (sym is) ∙ same }
    passed u r false p q = absurd (cc q)

    by : (o : Option Tree) → tree_at 64 (words_in_bytes (length bs / 8) bs ∷ []) root ≡ o → (o >>= λ u. u provided (not (has_capability u) && bytes_eq (bytes_of_words (canonical_words (trim u))) bs)) ≡ Some t → IsSpelled bs t
    by None r q = absurd (cc q)
    by (Some u) r q = passed u r (not (has_capability u) && bytes_eq (bytes_of_words (canonical_words (trim u))) bs) refl q

-- what canonical bytes spell is trimmed, and short
trimmed_again : (bs : List ℕ) (t : Tree) → length bs < 8 * 2 ^ 29 → IsSpelled bs t → (trim t ≡ t) × (length (canonical_words t) ≤ 2 ^ 29)
trimmed_again bs t short s =
    let ws = canonical_words (trim t) in
    let fits : Fits (trim t) = Fits-trim t (tree_at_fits 64 (words_in_bytes (length bs / 8) bs ∷ []) root t s.read) in
    let long : 8 * length ws ≡ length bs = sym (bytes_length ws) ∙ ap length s.spelled in
    let few : length ws ≤ 2 ^ 29 = omega arith in
    let deep : depth (trim t) ≤ 64 = omega (arith, depth-trim t, tree_at_deep 64 (words_in_bytes (length bs / 8) bs ∷ []) root t s.read) in
    let count : length bs / 8 ≡ length ws = omega arith in
    let nothing : bytes_of_words ws ++ [] ≡ bs = none_behind (bytes_of_words ws) ∙ s.spelled in
    let words : words_in_bytes (length bs / 8) bs ≡ ws = ap (λ n. words_in_bytes n bs) count ∙ ap (words_in_bytes (length ws)) (sym nothing) ∙ words_back ws [] (canonical_words_are (trim t) fits few) in
    let back : tree_at 64 (ws ∷ []) root ≡ Some (trim t) = enc_means (trim t) 64 fits deep few in
    let same : Some (trim t) ≡ Some t = sym back ∙ ap (λ (x : List ℕ). tree_at 64 (x ∷ []) root) (sym words) ∙ s.read in
    let is : trim t ≡ t = cc same in
    (is, subst (λ (u : Tree). length (canonical_words u) ≤ 2 ^ 29) is few)
  where
    none_behind : (xs : List ℕ) → xs ++ [] ≡ xs
    none_behind [] = refl
    none_behind (x ∷ xs) = ap (λ zs. x ∷ zs) (none_behind xs)

pub segments_equal : (xs ys : List ℕ) (t u : Tree) → length xs < 8 * 2 ^ 29 → length ys < 8 * 2 ^ 29 → decode xs ≡ Some t → decode ys ≡ Some u → bytes_eq (canonical_words t) (canonical_words u) ≡ bytes_eq xs ys
segments_equal xs ys t u a b p q =
    let s = decoded xs t p in
    let r = decoded ys u q in
    let short = (trimmed_again xs t a s).1 in
    let to : canonical_words t ≡ canonical_words u → xs ≡ ys = λ e.
    let same : t ≡ u = enc_is t u (tree_at_fits 64 (words_in_bytes (length xs / 8) xs ∷ []) root t s.read) (tree_at_fits 64 (words_in_bytes (length ys / 8) ys ∷ []) root u r.read) short e in
    sym s.spelled ∙ ap (λ (x : Tree). bytes_of_words (canonical_words (trim x))) same ∙ r.spelled in
    let from : xs ≡ ys → canonical_words t ≡ canonical_words u = λ e.
    let same : Some t ≡ Some u = sym p ∙ ap decode e ∙ q in
    let is : t ≡ u = cc same in
    ap canonical_words is in
    same_tests (canonical_words t) (canonical_words u) xs ys to from
