-- What the first of canonical words tells of a root.
use Rattle.std.proofs.Common.{◌≡◌, ℕ, zero, suc, ◌*◌, ◌/◌, ◌%◌, ◌^◌, ◌<◌, Some, List, [], ◌∷◌, ◌++◌, length, take, drop, refl, ap, sym, subst, ◌∙◌, arith}
use Rattle.std.specs.Prelude.{slice_get}
use Rattle.std.specs.Int.{from_le_bytes, w64}
use Rattle.std.proofs.Math.Seq.{take-append_seam, drop-append_seam}
use Rattle.std.proofs.lemmas.List.{length-take, length-drop, take-map, drop-map, map-append}
use Rattle.capnp_model.specs.Sections.{words_of, needed_words}
use Rattle.capnp_model.specs.Trees.{Tree, null, capability, structure, plain_list, pointer_list, struct_list, Trees, none, ◌▸◌}
use Rattle.capnp_model.specs.Fits.{Fits}
use Rattle.capnp_model.specs.Encoding.{pointer, links, bodies, canonical_words}
use Rattle.capnp_model.proofs.lemmas.Numbers.{length-numbers_in}
use Rattle.capnp_wire_canonical.specs.Writes.{words_view}
use Rattle.capnp_calls_splice.specs.DataWords.{put_sets, AreData, HasData, AreRootAfter, AreWordsAfter}
use Rattle.capnp_calls_splice.specs.declared.plain.PlainSet.{PlainSet}
use Rattle.capnp_calls_splice.proofs.lemmas.DataWords.{long_as}

-- A pointer to a struct tells its words of data.
pub is_struct : (t : Tree) (p : ℕ) → Fits t → p ≡ pointer 0 t → p % 4 ≡ 0 → (p ≡ 0 → ⊥) → HasData (p / 2 ^ 32 % 2 ^ 16) t
is_struct null p f e k some = some e
is_struct (capability i) p f e k some = absurd (omega arith)
is_struct (structure zero section none) p f e k some = omega arith
is_struct (structure zero section (t ▸ ts)) p f e k some = let few = f.1 in omega arith
is_struct (structure (suc d) section ts) p f e k some = let short = f.0 in let few = f.1 in omega arith
is_struct (plain_list size n section) p f e k some = absurd (omega arith)
is_struct (pointer_list ts) p f e k some = absurd (omega arith)
is_struct (struct_list d k es) p f e h some = absurd (omega arith)

-- The pointer doesn't tell what the data are.
pointer_stays : (d s u : ℕ) (kids : Trees) → pointer 0 (structure d s kids) ≡ pointer 0 (structure d u kids)
pointer_stays zero s u none = refl
pointer_stays zero s u (t ▸ ts) = refl
pointer_stays (suc d) s u kids = refl

-- The pointer is the first word.
pub first_word : (words : List (List ℕ)) (b : List ℕ) (t : Tree) → Some b ≡ slice_get words 0 → words_view words ≡ canonical_words t → from_le_bytes w64 b ≡ pointer 0 t
unfolding canonical_words
first_word [] b t first e = absurd (cc first)
first_word (x ∷ xs) b t first e = let same : b ≡ x = cc first in let head : from_le_bytes w64 x ≡ pointer 0 t = cc e in ap (from_le_bytes w64) same ∙ head

-- ---- the words of a root's data, among its words

behind_first : (words : List (List ℕ)) (d s : ℕ) (kids : Trees) → words_view words ≡ canonical_words (structure d s kids) → words_view (drop 1 words) ≡ words_of d s ++ (links 0 0 kids ++ bodies kids)
unfolding canonical_words
behind_first [] d s kids e = absurd (cc e)
behind_first (x ∷ xs) d s kids e = cc e

-- They are those of its section.
data_before : (words : List (List ℕ)) (d s : ℕ) (kids : Trees) → words_view words ≡ canonical_words (structure d s kids) → s < 2 ^ (64 * d) → d < length words → AreData (take d (drop 1 words)) s
data_before words d s kids e small inside =
    let long = length-numbers_in 64 d s in
    let size : length (take d (drop 1 words)) ≡ d = length-take d (drop 1 words) ∙ (let l = length-drop 1 words in omega arith) in
    let front : take d (words_of d s ++ (links 0 0 kids ++ bodies kids)) ≡ words_of d s = ap (λ (k : ℕ). take k (words_of d s ++ (links 0 0 kids ++ bodies kids))) (sym long) ∙ take-append_seam (words_of d s) (links 0 0 kids ++ bodies kids) in
    long_as (take d (drop 1 words)) d s size small (sym (take-map (from_le_bytes w64) d (drop 1 words)) ∙ ap (take d) (behind_first words d s kids e) ∙ front)

replaced : (words slice : List (List ℕ)) (d s u : ℕ) (kids : Trees) → words_view words ≡ canonical_words (structure d s kids) → words_view slice ≡ words_of d u
    → words_view (take 1 words ++ (slice ++ drop d (drop 1 words))) ≡ canonical_words (structure d u kids)
unfolding canonical_words
replaced [] slice d s u kids e is = absurd (cc e)
replaced (x ∷ xs) slice d s u kids e is =
    let f = from_le_bytes w64 in
    let more = links 0 0 kids ++ bodies kids in
    let head : f x ≡ pointer 0 (structure d s kids) = cc e in
    let tail : words_view xs ≡ words_of d s ++ more = cc e in
    let long = length-numbers_in 64 d s in
    let back : drop d (words_of d s ++ more) ≡ more = ap (λ (k : ℕ). drop k (words_of d s ++ more)) (sym long) ∙ drop-append_seam (words_of d s) more in
    let behind : words_view (drop d xs) ≡ more = sym (drop-map f d xs) ∙ ap (drop d) tail ∙ back in
    let whole : words_view (slice ++ drop d xs) ≡ words_of d u ++ more = map-append f slice (drop d xs) ∙ ap (λ (ws : List ℕ). ws ++ words_view (drop d xs)) is ∙ ap (λ (ws : List ℕ). words_of d u ++ ws) behind in
    ap (λ (w : ℕ). w ∷ words_view (slice ++ drop d xs)) (head ∙ pointer_stays d s u kids) ∙ ap (λ (ws : List ℕ). pointer 0 (structure d u kids) ∷ ws) whole

-- What stands after other data are put there.
module _ (words slice : List (List ℕ)) (sets : List PlainSet) (n k : ℕ) (same : k ≡ n) (inside : n < length words)
    (put : (s : ℕ) → AreData (take k (drop 1 words)) s → AreData slice (put_sets sets s)) (len : length slice ≡ length (take k (drop 1 words)))
    (least : (s : ℕ) → AreData slice s → needed_words (length slice) s ≡ length slice) where
  size : length slice ≡ n
  size = len ∙ length-take k (drop 1 words) ∙ (let l = length-drop 1 words in omega arith)

  after : (s : ℕ) (kids : Trees) → s < 2 ^ (64 * n) → words_view words ≡ canonical_words (structure n s kids) → AreRootAfter sets n s kids (words_view (take 1 words ++ (slice ++ drop k (drop 1 words))))
  after s kids small e =
      let before : AreData (take k (drop 1 words)) s = subst (λ (j : ℕ). AreData (take j (drop 1 words)) s) (sym same) (data_before words n s kids e small inside) in
      let now = put s before in
      let u : ℕ = put_sets sets s in
      record {
        fits = subst (λ (j : ℕ). u < 2 ^ (64 * j)) size now.fits;
        least = subst (λ (j : ℕ). needed_words j u ≡ j) size (least u now);
        words = ap (λ (j : ℕ). words_view (take 1 words ++ (slice ++ drop j (drop 1 words)))) same ∙ replaced words slice n s u kids e (now.words ∙ ap (λ (j : ℕ). words_of j u) size);
      }

  pub words_after : (t : Tree) → HasData n t → Fits t → words_view words ≡ canonical_words t → AreWordsAfter sets t (words_view (take 1 words ++ (slice ++ drop k (drop 1 words))))
  words_after null h f e = absurd h
  words_after (capability i) h f e = absurd h
  words_after (structure w s kids) h f e =
      subst (λ (j : ℕ). AreRootAfter sets j s kids (words_view (take 1 words ++ (slice ++ drop k (drop 1 words))))) h
      (after s kids (subst (λ (j : ℕ). s < 2 ^ (64 * j)) (sym h) f.2) (e ∙ ap (λ (j : ℕ). canonical_words (structure j s kids)) (sym h)))
  words_after (plain_list z m section) h f e = absurd h
  words_after (pointer_list ts) h f e = absurd h
  words_after (struct_list d p es) h f e = absurd h
