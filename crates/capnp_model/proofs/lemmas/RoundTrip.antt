-- The words of a value mean the value.
use Rattle.std.proofs.Common.{◌≡◌, ℕ, zero, suc, ◌+◌, ◌-◌, ◌*◌, ◌^◌, ◌≤◌, ◌<◌, max, true, false, eqb, leb, List, [], ◌∷◌, ◌++◌, length, take, drop, Some, Ok, refl, ap, subst, sym, ◌∙◌, append_assoc, arith}
use Rattle.std.specs.List.{slice_get}
use Rattle.std.proofs.lemmas.Bool.{le-leb, ne_eqb}
use Rattle.std.proofs.lemmas.List.{length-append, drop_at, take_at, append-nil}
use Rattle.capnp_model.specs.Sections.{words_of, section_of, words_for}
use Rattle.capnp_model.specs.Segments.{Segments, place, word_at, words_at}
use Rattle.capnp_model.specs.Pointers.{to_struct, to_list, pointer_of, Object, nothing, a_struct, a_list, a_capability, Found, found_at}
use Rattle.capnp_model.specs.Trees.{Tree, Trees, Elements, null, capability, structure, plain_list, pointer_list, struct_list, none, ◌▸◌, no_elements, element, size_bits, tree_count, element_count, depth, depths, element_depths}
use Rattle.capnp_model.specs.Traversal.{each, each_element, tree_at}
use Rattle.capnp_model.specs.Fits.{Fits, FitEach, FitElements}
use Rattle.capnp_model.specs.Encoding.{struct_pointer, pointer, body, links, bodies, cells, element_bodies, canonical_words}
use Rattle.capnp_model.proofs.lemmas.Numbers.{length-numbers_in, section_of-words_of, masked_section}
use Rattle.capnp_model.proofs.lemmas.Chaining.{some_is}
use Rattle.capnp_model.proofs.lemmas.PointerWords.{struct_says, list_says, capability_says, begins_behind, begins_here, list_kind_small}
use Rattle.capnp_model.proofs.lemmas.Holding.{Holds, holds_left, holds_right, holds_words, holds_word, holds_at}

pub links_length : (ts : Trees) (behind before : ℕ) → length (links behind before ts) ≡ tree_count ts
links_length none behind before = refl
links_length (t ▸ ts) behind before = ap suc (links_length ts behind (before + length (body t)))

-- ---- objects

abbrev at : Object → Found
at o = record { pads = 0; object = o }

found_struct : (u : Segments) (k w gap d c : ℕ) → word_at u (place 0 k) ≡ Some w → (w ≡ 0 → ⊥) → pointer_of w ≡ to_struct gap d c → gap < 2 ^ 29 → found_at u (place 0 k) ≡ Ok (at (a_struct (place 0 (k + 1 + gap)) d c))
found_struct u k w gap d c e some says lt =
    let test : eqb w 0 ≡ false = ne_eqb _ _ some in
    rw (e, test, says, begins_behind (place 0 (k + 1)) gap lt) refl

found_list : (u : Segments) (k w gap size n : ℕ) → word_at u (place 0 k) ≡ Some w → (w ≡ 0 → ⊥) → pointer_of w ≡ to_list gap size n → gap < 2 ^ 29 → found_at u (place 0 k) ≡ Ok (at (a_list (place 0 (k + 1 + gap)) size n))
found_list u k w gap size n e some says lt =
    let test : eqb w 0 ≡ false = ne_eqb _ _ some in
    rw (e, test, says, begins_behind (place 0 (k + 1)) gap lt) refl

found_null : (u : Segments) (k : ℕ) → word_at u (place 0 k) ≡ Some 0 → found_at u (place 0 k) ≡ Ok (at nothing)
found_null u k e = rw e refl

found_capability : (u : Segments) (k i : ℕ) → i < 2 ^ 32 → word_at u (place 0 k) ≡ Some (3 + 2 ^ 32 * i) → found_at u (place 0 k) ≡ Ok (at (a_capability i))
found_capability u k i lt e =
    let test : eqb (3 + 2 ^ 32 * i) 0 ≡ false = ne_eqb _ _ (omega arith) in
    rw (e, test, capability_says i lt) refl

-- The words of the elements of a list of structs.
pub cells_length : (es : Elements) (before d k : ℕ) → FitElements d k es → length (cells before d k es) ≡ element_count es * (d + k)
cells_length no_elements before d k f = omega arith
cells_length (element section ts es) before d k f =
    let l = links (element_count es * (d + k)) before ts in
    let c = cells (before + length (bodies ts)) d k es in
    let rest = cells_length es (before + length (bodies ts)) d k f.3 in
    omega (arith, length-append (words_of d section) (l ++ c), length-append l c, length-numbers_in 64 d section, links_length ts (element_count es * (d + k)) before, rest, f.1)

-- Where a struct stands, by the word that points at it.
record Stands (u : Segments) (x : List ℕ) (k : ℕ) (d section : ℕ) (ts : Trees) : Type 0 where
  start : ℕ
  found : found_at u (place 0 k) ≡ Ok (at (a_struct (place 0 start) d (tree_count ts)))
  words : Holds x start (words_of d section ++ (links 0 0 ts ++ bodies ts))

module _ (u : Segments) (x further : List ℕ) (there : slice_get u 0 ≡ Some (x ++ further)) (small : length x ≤ 2 ^ 29) where
  behind_it : (k gap : ℕ) (d section : ℕ) (ts : Trees) → 0 < d + tree_count ts → d < 2 ^ 16 → tree_count ts < 2 ^ 16 → Holds x k (struct_pointer gap d (tree_count ts) ∷ []) → Holds x (k + 1 + gap) (words_of d section ++ (links 0 0 ts ++ bodies ts)) → Stands u x k d section ts
  behind_it k gap d section ts some lw lt h b =
      let in_x = b.within in
      record {
        start = k + 1 + gap;
        found = found_struct u k _ gap d (tree_count ts) (holds_word u further _ [] there h) (omega arith) (struct_says gap d (tree_count ts) (omega arith) lw lt) (omega arith);
        words = b;
      }

  stands : (k gap : ℕ) (d section : ℕ) (ts : Trees) → d < 2 ^ 16 → tree_count ts < 2 ^ 16 → Holds x k (pointer gap (structure d section ts) ∷ []) → Holds x (k + 1 + gap) (words_of d section ++ (links 0 0 ts ++ bodies ts)) → Stands u x k d section ts
  stands k gap zero section none lw lt h b =
      let test : eqb (struct_pointer (2 ^ 30 - 1) 0 0) 0 ≡ false = refl in
      record {
        start = k;
        found = rw (holds_word u further _ [] there h, begins_here 0 k) refl;
        words = record { rest = drop k x; parts = refl; within = h.within };
      }
  stands k gap zero section (t ▸ ts) lw lt h b = behind_it k gap zero section (t ▸ ts) (omega arith) lw lt h b
  stands k gap (suc d) section ts lw lt h b = behind_it k gap (suc d) section ts (omega arith) lw lt h b

  mutual
    unfolding tree_at

    reads : (t : Tree) (n k gap : ℕ) → Fits t → depth t ≤ n → Holds x k (pointer gap t ∷ []) → Holds x (k + 1 + gap) (body t) → tree_at n u (place 0 k) ≡ Some t
    reads null zero k gap f l h b = rw (found_null u k (holds_word u further _ [] there h)) refl
    reads null (suc n) k gap f l h b = rw (found_null u k (holds_word u further _ [] there h)) refl
    reads (capability i) zero k gap f l h b = rw (found_capability u k i f (holds_word u further _ [] there h)) refl
    reads (capability i) (suc n) k gap f l h b = rw (found_capability u k i f (holds_word u further _ [] there h)) refl
    reads (structure d section ts) zero k gap f l h b = absurd (omega (arith, l))
    reads (structure d section ts) (suc n) k gap f l h b =
        let ws = words_of d section in
        let long = length-numbers_in 64 d section in
        let s = stands k gap d section ts f.0 f.1 h b in
        let here = s.found in
        let own : Holds x s.start (ws ++ links 0 0 ts) = holds_left (ws ++ links 0 0 ts) (bodies ts) (subst (λ (y : List ℕ). Holds x s.start y) (sym (append_assoc ws (links 0 0 ts) (bodies ts))) s.words) in
        let tail : Holds x (s.start + d) (links 0 0 ts ++ bodies ts) = holds_at _ _ (omega arith) (holds_right ws (links 0 0 ts ++ bodies ts) s.words) in
        let words : words_at u (place 0 s.start) (d + tree_count ts) ≡ Some (ws ++ links 0 0 ts) = holds_words u further (ws ++ links 0 0 ts) _ there own (omega (arith, length-append ws (links 0 0 ts), links_length ts 0 0)) in
        let deeper : depths ts ≤ n = omega (arith, l) in
        let below : each (tree_at n u) (place 0 (s.start + d)) (tree_count ts) ≡ Some ts = reads_each ts n (s.start + d) 0 0 f.3 deeper (holds_left (links 0 0 ts) (bodies ts) tail) (holds_at _ _ (omega (arith, links_length ts 0 0)) (holds_right (links 0 0 ts) (bodies ts) tail)) in
        let front : take d (ws ++ links 0 0 ts) ≡ ws = take_at ws (links 0 0 ts) d long in
        rw (here, words, below) (ap (λ (m : ℕ). Some (structure d m ts)) (ap section_of front ∙ section_of-words_of d section f.2))
    reads (plain_list size m section) zero k gap f l h b = absurd (omega (arith, l))
    reads (plain_list size m section) (suc n) k gap f l h b =
        let in_x = b.within in
        let small_size = f.0 in
        let here = found_list u k _ gap size m (holds_word u further _ [] there h) (omega arith) (list_says gap size m (omega arith) (omega arith) f.1) (omega arith) in
        let kind = list_kind_small size f.0 in
        let ws = words_of (words_for (size_bits size * m)) section in
        let words : words_at u (place 0 (k + 1 + gap)) (words_for (size_bits size * m)) ≡ Some ws = holds_words u further ws _ there b (sym (length-numbers_in 64 (words_for (size_bits size * m)) section)) in
        rw (here, kind, words) (ap (λ (z : ℕ). Some (plain_list size m z)) (masked_section (size_bits size * m) section f.2))
    reads (pointer_list ts) zero k gap f l h b = absurd (omega (arith, l))
    reads (pointer_list ts) (suc n) k gap f l h b =
        let in_x = b.within in
        let here = found_list u k _ gap 6 (tree_count ts) (holds_word u further _ [] there h) (omega arith) (list_says gap 6 (tree_count ts) (omega arith) (omega arith) f.0) (omega arith) in
        let own = holds_left (links 0 0 ts) (bodies ts) b in
        let words : words_at u (place 0 (k + 1 + gap)) (tree_count ts) ≡ Some (links 0 0 ts) = holds_words u further (links 0 0 ts) _ there own (sym (links_length ts 0 0)) in
        let below : each (tree_at n u) (place 0 (k + 1 + gap)) (tree_count ts) ≡ Some ts = reads_each ts n (k + 1 + gap) 0 0 f.1 (omega (arith, l)) own (holds_at _ _ (omega (arith, links_length ts 0 0)) (holds_right (links 0 0 ts) (bodies ts) b)) in
        rw (here, words, below) refl
    reads (struct_list d c es) zero k gap f l h b = absurd (omega (arith, l))
    reads (struct_list d c es) (suc n) k gap f l h b =
        let in_x = b.within in
        let tag = struct_pointer (element_count es) d c in
        let all = cells 0 d c es in
        let size = cells_length es 0 d c f.4 in
        let here = found_list u k _ gap 7 (element_count es * (d + c)) (holds_word u further _ [] there h) (omega arith) (list_says gap 7 (element_count es * (d + c)) (omega arith) (omega arith) f.3) (omega arith) in
        let own : Holds x (k + 1 + gap) (tag ∷ all) = holds_left (tag ∷ all) (element_bodies es) b in
        let words : words_at u (place 0 (k + 1 + gap)) (1 + element_count es * (d + c)) ≡ Some (tag ∷ all) = holds_words u further (tag ∷ all) _ there own (omega (arith, size)) in
        let says : pointer_of tag ≡ to_struct (element_count es) d c = struct_says (element_count es) d c (omega arith) f.0 f.1 in
        let room : leb (element_count es * (d + c)) (length all) ≡ true = le-leb _ _ (omega (arith, size)) in
        let behind : Holds x (k + 1 + gap + 1) (all ++ element_bodies es) = holds_right (tag ∷ []) (all ++ element_bodies es) b in
        let below : each_element (tree_at n u) (place 0 (k + 1 + gap + 1)) all d c (element_count es) ≡ Some es = reads_elements es n (k + 1 + gap + 1) 0 d c f.4 (omega (arith, l)) (holds_left all (element_bodies es) behind) (holds_at _ _ (omega (arith, size)) (holds_right all (element_bodies es) behind)) in
        rw (here, words, says, room, below) refl

    reads_each : (ts : Trees) (n k behind before : ℕ) → FitEach ts → depths ts ≤ n → Holds x k (links behind before ts) → Holds x (k + (tree_count ts + behind + before)) (bodies ts) → each (tree_at n u) (place 0 k) (tree_count ts) ≡ Some ts
    reads_each none n k behind before f l h b = refl
    reads_each (t ▸ ts) n k behind before f l h b =
        let p = pointer (tree_count ts + behind + before) t in
        let deep : max (depth t) (depths ts) ≤ n = l in
        let own : Holds x (k + 1 + (tree_count ts + behind + before)) (body t) = holds_at _ _ (omega arith) (holds_left (body t) (bodies ts) b) in
        let here : tree_at n u (place 0 k) ≡ Some t = reads t n k (tree_count ts + behind + before) f.0 (omega arith) (holds_left (p ∷ []) _ h) own in
        let others : Holds x (k + 1 + (tree_count ts + behind + (before + length (body t)))) (bodies ts) = holds_at _ _ (omega arith) (holds_right (body t) (bodies ts) b) in
        let rest : each (tree_at n u) (place 0 (k + 1)) (tree_count ts) ≡ Some ts = reads_each ts n (k + 1) behind (before + length (body t)) f.1 (omega arith) (holds_right (p ∷ []) _ h) others in
        rw (here, rest) refl

    reads_elements : (es : Elements) (n k before d c : ℕ) → FitElements d c es → element_depths es ≤ n → Holds x k (cells before d c es) → Holds x (k + element_count es * (d + c) + before) (element_bodies es) → each_element (tree_at n u) (place 0 k) (cells before d c es) d c (element_count es) ≡ Some es
    reads_elements no_elements n k before d c f l h b = refl
    reads_elements (element section ts es) n k before d c f l h b =
        let deep : max (depths ts) (element_depths es) ≤ n = l in
        let own = links (element_count es * (d + c)) before ts in
        let more = cells (before + length (bodies ts)) d c es in
        let n_own = links_length ts (element_count es * (d + c)) before in
        let ws = words_of d section in
        let wide = length-numbers_in 64 d section in
        let many = f.1 in
        let tail : Holds x (k + length ws) (own ++ more) = holds_right ws (own ++ more) h in
        let at_own : Holds x (k + d) own = holds_at _ _ (omega arith) (holds_left own more tail) in
        let at_more : Holds x (k + (d + c)) more = holds_at _ _ (omega arith) (holds_right own more tail) in
        let targets : Holds x (k + d + (tree_count ts + element_count es * (d + c) + before)) (bodies ts) = holds_at _ _ (omega arith) (holds_left (bodies ts) (element_bodies es) b) in
        let others : Holds x (k + (d + c) + element_count es * (d + c) + (before + length (bodies ts))) (element_bodies es) = holds_at _ _ (omega arith) (holds_right (bodies ts) (element_bodies es) b) in
        let here : each (tree_at n u) (place 0 (k + d)) c ≡ Some ts = subst (λ (j : ℕ). each (tree_at n u) (place 0 (k + d)) j ≡ Some ts) many (reads_each ts n (k + d) (element_count es * (d + c)) before f.2 (omega arith) at_own targets) in
        let rest : each_element (tree_at n u) (place 0 (k + (d + c))) more d c (element_count es) ≡ Some es = reads_elements es n (k + (d + c)) (before + length (bodies ts)) d c f.3 (omega arith) at_more others in
        let front : take d (ws ++ (own ++ more)) ≡ ws = take_at ws (own ++ more) d wide in
        let back : drop (d + c) (ws ++ (own ++ more)) ≡ more = ap (drop (d + c)) (sym (append_assoc ws own more)) ∙ drop_at (ws ++ own) more (d + c) (omega (arith, length-append ws own)) in
        rw (here, back, rest) (ap (λ (m : ℕ). Some (element m ts es)) (ap section_of front ∙ section_of-words_of d section f.0))

-- THE LAW: the words of a value that fits mean it, where a first segment begins with them.
pub enc_means_first : (t : Tree) (n : ℕ) (u : Segments) (more : List ℕ) → Fits t → depth t ≤ n → length (canonical_words t) ≤ 2 ^ 29 → slice_get u 0 ≡ Some (canonical_words t ++ more) → tree_at n u (place 0 0) ≡ Some t
unfolding canonical_words
enc_means_first t n u more f l small there =
    reads u (pointer 0 t ∷ body t) more there small t n 0 0 f l
    (record { rest = body t; parts = refl; within = omega arith })
    (record { rest = []; parts = sym (append-nil (body t)); within = omega arith })

pub enc_means : (t : Tree) (n : ℕ) → Fits t → depth t ≤ n → length (canonical_words t) ≤ 2 ^ 29 → tree_at n (canonical_words t ∷ []) (place 0 0) ≡ Some t
enc_means t n f l small = enc_means_first t n (canonical_words t ∷ []) [] f l small (ap (λ (ws : List ℕ). Some ws) (sym (append-nil (canonical_words t))))

-- Equal words, equal values.
pub enc_is : (t u : Tree) → Fits t → Fits u → length (canonical_words t) ≤ 2 ^ 29 → canonical_words t ≡ canonical_words u → t ≡ u
enc_is t u ft fu small e =
    let n = max (depth t) (depth u) in
    let small_u : length (canonical_words u) ≤ 2 ^ 29 = subst (λ (x : List ℕ). length x ≤ 2 ^ 29) e small in
    let a : tree_at n (canonical_words t ∷ []) (place 0 0) ≡ Some t = enc_means t n ft (omega arith) small in
    let b : tree_at n (canonical_words u ∷ []) (place 0 0) ≡ Some u = enc_means u n fu (omega arith) small_u in
    let c : tree_at n (canonical_words t ∷ []) (place 0 0) ≡ Some u = rw e b in
    some_is _ _ (sym a ∙ c)
