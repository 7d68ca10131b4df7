-- Objects behind their pointers.
use Rattle.std.proofs.Common.{◌≡◌, ℕ, ◌+◌, ◌-◌, ◌*◌, ◌<◌, ◌≤◌, List, [], ◌∷◌, ◌++◌, length, take, set, refl, ap, sym, ◌∙◌, arith, append-nil, append_assoc}
use Rattle.std.specs.Int.{from_le_bytes, w64}
use Rattle.std.proofs.Math.Seq.{take-set-lt}
use Rattle.std.proofs.lemmas.List.{take-take, length-take, length-map}
use Rattle.capnp_model.specs.Sections.{words_of, words_for, needed_words}
use Rattle.capnp_model.specs.Trees.{Tree, null, structure, plain_list, pointer_list, struct_list, Trees, Elements, no_elements, element, tree_count, element_count, resized, size_bits}
use Rattle.capnp_model.specs.Trimming.{stripped, common_words, common_pointers, with_pointers, trim, trim_each, trim_elements}
use Rattle.capnp_model.specs.Encoding.{struct_pointer, list_pointer, pointer, body, cells, element_bodies, canonical_words}
use Rattle.capnp_model.proofs.lemmas.TrimFits.{count-trim_each, count-with_pointers, count-trim_elements}
use Rattle.capnp_model.proofs.lemmas.Stripping.{resized-stripped, resized_all}
use Rattle.capnp_wire_canonical.specs.Writes.{words_view, filled, with_link, with_links, with_cells}
use Rattle.capnp_wire_canonical.proofs.lemmas.Putting.{links_written, cells_written, cells_of_one}

-- ---- words in use

pub filled_length : (n : ℕ) (into : List (List ℕ)) → n ≤ length into → length (filled n into) ≡ n
filled_length n into h = let size = length-map into (from_le_bytes w64) in omega (arith, length-take n (words_view into))

pub filled_part : (n m : ℕ) (into : List (List ℕ)) → n ≤ m → take n (filled m into) ≡ filled n into
filled_part n m into h = take-take n m (words_view into) h

-- a word that was put
pub filled_put : (at used end word : ℕ) (old new : List (List ℕ)) → at < used → used ≤ end → words_view new ≡ set (words_view old) at word → take used (filled end new) ≡ set (filled used old) at word
filled_put at used end word old new h le is = filled_part used end new le ∙ ap (take used) is ∙ take-set-lt used (words_view old) at word h

-- ---- null

pub null_written : (at : ℕ) (w : List ℕ) → set w at 0 ≡ with_link at (trim null) w
unfolding with_link trim
null_written at w = sym (append-nil (set w at 0))

-- ---- a struct

pub stripped_front : (ts : Trees) → resized (tree_count (stripped ts)) ts ≡ stripped ts
stripped_front ts = sym (resized-stripped (tree_count (stripped ts)) ts) ∙ resized_all (tree_count (stripped ts)) (stripped ts) refl

pub struct_written : (at used d d' k' section word : ℕ) (us : Trees) (w grown : List ℕ) → length w ≡ used → take used grown ≡ set w at word → length grown ≡ used + (d' + k') → d' ≡ needed_words d section → tree_count (stripped (trim_each us)) ≡ k'
    → ((ts : Trees) → tree_count ts ≡ k' → word ≡ pointer (used - at - 1) (structure d' section ts))
    → with_cells used (used + (d' + k')) d' k' (element section (resized k' (trim_each us)) no_elements) grown ≡ with_link at (trim (structure d section us)) w
unfolding with_link trim
struct_written at used d d' k' section word us w grown long kept size words count is =
    let ts = stripped (trim_each us) in
    let same : resized k' (trim_each us) ≡ ts = ap (λ (j : ℕ). resized j (trim_each us)) (sym count) ∙ stripped_front (trim_each us) in
    ap (λ (xs : Trees). with_cells used (used + (d' + k')) d' k' (element section xs no_elements) grown) same
    ∙ cells_written (set w at word) grown used (d' + k') kept size d' k' (element section ts no_elements)
    ∙ ap (λ (xs : List ℕ). set w at word ++ xs) (cells_of_one d' k' section ts)
    ∙ ap (λ (x : ℕ). set w at x ++ body (structure d' section ts)) (is ts count)
    ∙ ap (λ (n : ℕ). set w at (pointer (n - at - 1) (structure d' section ts)) ++ body (structure d' section ts)) (sym long)
    ∙ ap (λ (n : ℕ). set w at (pointer (length w - at - 1) (structure n section ts)) ++ body (structure n section ts)) words

-- ---- lists

pub list_written : (at used size n section word : ℕ) (w out : List ℕ) → length w ≡ used → word ≡ list_pointer (used - at - 1) size n → out ≡ set w at word ++ words_of (words_for (size_bits size * n)) section
    → out ≡ with_link at (trim (plain_list size n section)) w
unfolding with_link trim
list_written at used size n section word w out long is e =
    e ∙ ap (λ (x : ℕ). set w at x ++ words_of (words_for (size_bits size * n)) section) (is ∙ ap (λ (u : ℕ). list_pointer (u - at - 1) size n) (sym long))

pub pointers_written : (at used n word : ℕ) (us : Trees) (w grown : List ℕ) → length w ≡ used → take used grown ≡ set w at word → length grown ≡ used + n → tree_count us ≡ n → word ≡ list_pointer (used - at - 1) 6 n
    → with_links used (used + n) (trim_each us) grown ≡ with_link at (trim (pointer_list us)) w
unfolding with_link trim
pointers_written at used n word us w grown long kept size count is =
    let same : tree_count (trim_each us) ≡ n = count-trim_each us ∙ count in
    links_written (set w at word) grown used n kept size (trim_each us)
    ∙ ap (λ (x : ℕ). set w at x ++ body (pointer_list (trim_each us))) (is ∙ ap (λ (u : ℕ). list_pointer (u - at - 1) 6 n) (sym long) ∙ ap (list_pointer (length w - at - 1) 6) (sym same))

pub structs_written : (at used n d k d' k' word tag : ℕ) (es : Elements) (w grown : List ℕ) → length w ≡ used → take (used + 1) grown ≡ set w at word ++ tag ∷ [] → length grown ≡ used + 1 + n * (d' + k') → element_count es ≡ n
    → common_words d (trim_elements es) ≡ d' → common_pointers (trim_elements es) ≡ k' → word ≡ list_pointer (used - at - 1) 7 (n * (d' + k')) → tag ≡ struct_pointer n d' k'
    → with_cells (used + 1) (used + 1 + n * (d' + k')) d' k' (with_pointers k' (trim_elements es)) grown ≡ with_link at (trim (struct_list d k es)) w
unfolding with_link trim
structs_written at used n d k d' k' word tag es w grown long kept size count words pointers is tag_is =
    let us = with_pointers k' (trim_elements es) in
    let same : element_count us ≡ n = count-with_pointers k' (trim_elements es) ∙ count-trim_elements es ∙ count in
    let made : body (struct_list d' k' us) ≡ tag ∷ (cells 0 d' k' us ++ element_bodies us) = ap (λ (x : ℕ). x ∷ (cells 0 d' k' us ++ element_bodies us)) (ap (λ (j : ℕ). struct_pointer j d' k') same ∙ sym tag_is) in
    cells_written (set w at word ++ tag ∷ []) grown (used + 1) (n * (d' + k')) kept size d' k' us
    ∙ append_assoc (set w at word) (tag ∷ []) (cells 0 d' k' us ++ element_bodies us)
    ∙ ap (λ (xs : List ℕ). set w at word ++ xs) (sym made)
    ∙ ap (λ (x : ℕ). set w at x ++ body (struct_list d' k' us)) (is ∙ ap (λ (u : ℕ). list_pointer (u - at - 1) 7 (n * (d' + k'))) (sym long) ∙ ap (λ (j : ℕ). list_pointer (length w - at - 1) 7 (j * (d' + k'))) (sym same))
    ∙ ap (λ (j : ℕ). set w at (pointer (length w - at - 1) (struct_list j k' us)) ++ body (struct_list j k' us)) (sym words)
    ∙ ap (λ (j : ℕ). set w at (pointer (length w - at - 1) (struct_list (common_words d (trim_elements es)) j (with_pointers j (trim_elements es)))) ++ body (struct_list (common_words d (trim_elements es)) j (with_pointers j (trim_elements es)))) (sym pointers)

-- ---- the root

pub root_written : (t : Tree) (w : List ℕ) → length w ≡ 1 → with_link 0 t w ≡ canonical_words t
unfolding with_link canonical_words
root_written t [] e = absurd (omega arith)
root_written t (x ∷ []) e = refl
root_written t (x ∷ y ∷ w) e = absurd (omega arith)
