-- The canonical words of a value take each of their words once.
use Rattle.std.proofs.Common.{◌≡◌, ℕ, zero, suc, ◌+◌, ◌-◌, ◌*◌, ◌^◌, ◌≤◌, ◌<◌, max, true, false, eqb, leb, List, [], ◌∷◌, ◌++◌, length, drop, Some, Ok, refl, ap, sym, ◌∙◌, arith}
use Rattle.std.specs.List.{slice_get}
use Rattle.std.proofs.lemmas.Bool.{le-leb, ne_eqb}
use Rattle.std.proofs.lemmas.List.{length-append, append-nil}
use Rattle.capnp_model.specs.Sections.{words_of, words_for}
use Rattle.capnp_model.specs.Segments.{Segments, Place, place, after, word_at, words_at, root}
use Rattle.capnp_model.specs.Pointers.{to_struct, pointer_of, Object, nothing, a_struct, a_list, a_capability, Found, found_at}
use Rattle.capnp_model.specs.Trees.{Tree, Trees, Elements, null, capability, structure, plain_list, pointer_list, struct_list, none, ◌▸◌, no_elements, element, size_bits, tree_count, element_count, depth, depths, element_depths}
use Rattle.capnp_model.specs.Coverage.{Span, span, pads_at, from_each, from_elements, covered_object, times_held}
use Rattle.capnp_model.specs.Fits.{Fits, FitEach, FitElements}
use Rattle.capnp_model.specs.Encoding.{struct_pointer, pointer, body, links, bodies, cells, element_bodies, canonical_words}
use Rattle.capnp_model.proofs.lemmas.Numbers.{length-numbers_in}
use Rattle.capnp_model.proofs.lemmas.PointerWords.{struct_says, capability_says, begins_behind, begins_here, list_kind_small}
use Rattle.capnp_model.proofs.lemmas.Holding.{Holds, holds_left, holds_right, holds_words, holds_word, holds_at}
use Rattle.capnp_model.proofs.lemmas.RoundTrip.{links_length, cells_length, enc_means_first}
use Rattle.capnp_model_writes.specs.Footprints.{behind, footprint, Owns}
use Rattle.capnp_model_writes.proofs.lemmas.Spans.{times_held_append, held, held_is, held_le, held_split}
use Rattle.capnp_model_writes.proofs.lemmas.Zeros.{held_none}
use Rattle.capnp_model_writes.proofs.lemmas.Pointing.{Names, struct_names, list_names, near_found}

-- a span by itself
only_held : (p : Place) (n : ℕ) (q : Place) → times_held (span p n ∷ []) q ≡ held p n q
only_held p n q = let e = held_is p n [] q in omega (arith, e)

abbrev at : Object → Found
at o = record { pads = 0; object = o }

-- a pointer to an object without a pad takes what the object covers
record Near (u : Segments) (k : ℕ) (o : Object) : Type 0 where
  found : found_at u (place 0 k) ≡ Ok (at o)
  no_pad : pads_at u (place 0 k) ≡ []

taken_near : (n : ℕ) (u : Segments) (k : ℕ) (o : Object) → Near u k o → behind (suc n) u (place 0 k) ≡ covered_object u (behind n u) o
unfolding behind
taken_near n u k o near = rw (near.no_pad, near.found) refl

near_null : (u : Segments) (k : ℕ) → word_at u (place 0 k) ≡ Some 0 → Near u k nothing
near_null u k e = record { found = rw e refl; no_pad = rw e refl }

near_capability : (u : Segments) (k i : ℕ) → i < 2 ^ 32 → word_at u (place 0 k) ≡ Some (3 + 2 ^ 32 * i) → Near u k (a_capability i)
near_capability u k i lt e =
    let says = capability_says i lt in
    let test : eqb (3 + 2 ^ 32 * i) 0 ≡ false = ne_eqb _ _ (omega arith) in
    record { found = rw (e, test, says) refl; no_pad = rw (e, says) refl }

near_object : (u : Segments) (k gap w : ℕ) (make : Place → Object) → Names w gap make → word_at u (place 0 k) ≡ Some w → 0 < w → gap < 2 ^ 29 → Near u k (make (place 0 (k + 1 + gap)))
near_object u k gap w make names e some lt =
    record {
      found = near_found u (place 0 k) (place 0 (k + 1 + gap)) w gap make names e some (begins_behind (place 0 (k + 1)) gap lt);
      no_pad = rw e names.no_pad;
    }

near_empty : (u : Segments) (k : ℕ) → word_at u (place 0 k) ≡ Some (struct_pointer (2 ^ 30 - 1) 0 0) → Near u k (a_struct (place 0 k) 0 0)
near_empty u k e =
    let names = struct_names (2 ^ 30 - 1) 0 0 (omega arith) (omega arith) (omega arith) in
    record {
      found = near_found u (place 0 k) (place 0 k) (struct_pointer (2 ^ 30 - 1) 0 0) (2 ^ 30 - 1) (λ q. a_struct q 0 0) names e (omega arith) (begins_here 0 k);
      no_pad = rw e names.no_pad;
    }

-- so many words, and as many behind them
joined : (s : Place) (a b n : ℕ) (xs : List Span) (q : Place) → n ≡ a + b → times_held xs q ≡ held (after s a) b q → times_held (span s a ∷ xs) q ≡ held s n q
joined s a b n xs q e h = held_is s a xs q ∙ ap (λ (m : ℕ). held s a q + m) h ∙ sym (held_split s a b q) ∙ ap (λ (m : ℕ). held s m q) (sym e)

-- two parts, the second behind the first
both : (s t : Place) (a b n : ℕ) (xs ys : List Span) (q : Place) → t ≡ after s a → n ≡ a + b → times_held xs q ≡ held s a q → times_held ys q ≡ held t b q → times_held (xs ++ ys) q ≡ held s n q
both s t a b n xs ys q et e h k =
    times_held_append xs ys q ∙ ap (λ (m : ℕ). m + times_held ys q) h ∙ ap (λ (m : ℕ). held s a q + m) (k ∙ ap (λ (p : Place). held p b q) et) ∙ sym (held_split s a b q) ∙ ap (λ (m : ℕ). held s m q) (sym e)

-- Where a struct stands, by the word that points at it: an empty one at that word.
record Stands (u : Segments) (x : List ℕ) (k gap d section : ℕ) (ts : Trees) : Type 0 where
  start : ℕ
  near : Near u k (a_struct (place 0 start) d (tree_count ts))
  words : Holds x start (words_of d section ++ (links 0 0 ts ++ bodies ts))
  alike : (q : Place) → held (place 0 start) (length (words_of d section ++ (links 0 0 ts ++ bodies ts))) q ≡ held (place 0 (k + 1 + gap)) (length (words_of d section ++ (links 0 0 ts ++ bodies ts))) q

module _ (u : Segments) (x further : List ℕ) (there : slice_get u 0 ≡ Some (x ++ further)) (small : length x ≤ 2 ^ 29) where
  stands_behind : (k gap d section : ℕ) (ts : Trees) → 0 < d + tree_count ts → d < 2 ^ 16 → tree_count ts < 2 ^ 16 → Holds x k (struct_pointer gap d (tree_count ts) ∷ []) → Holds x (k + 1 + gap) (words_of d section ++ (links 0 0 ts ++ bodies ts)) → Stands u x k gap d section ts
  stands_behind k gap d section ts some lw lt h b =
      let in_x = b.within in
      record {
        start = k + 1 + gap;
        near = near_object u k gap _ (λ p. a_struct p d (tree_count ts)) (struct_names gap d (tree_count ts) (omega arith) lw lt) (holds_word u further _ [] there h) (omega arith) (omega arith);
        words = b;
        alike = λ q. refl;
      }

  stands : (k gap d section : ℕ) (ts : Trees) → d < 2 ^ 16 → tree_count ts < 2 ^ 16 → Holds x k (pointer gap (structure d section ts) ∷ []) → Holds x (k + 1 + gap) (words_of d section ++ (links 0 0 ts ++ bodies ts)) → Stands u x k gap d section ts
  stands k gap zero section none lw lt h b =
      record {
        start = k;
        near = near_empty u k (holds_word u further _ [] there h);
        words = record { rest = drop k x; parts = refl; within = h.within };
        alike = λ q. held_none (place 0 k) q ∙ sym (held_none (place 0 (k + 1 + gap)) q);
      }
  stands k gap zero section (t ▸ ts) lw lt h b = stands_behind k gap zero section (t ▸ ts) (omega arith) lw lt h b
  stands k gap (suc d) section ts lw lt h b = stands_behind k gap (suc d) section ts (omega arith) lw lt h b

  mutual
    unfolding behind

    -- what lies behind a pointer
    takes : (t : Tree) (n k gap : ℕ) (q : Place) → Fits t → depth t ≤ n → Holds x k (pointer gap t ∷ []) → Holds x (k + 1 + gap) (body t) → times_held (behind n u (place 0 k)) q ≡ held (place 0 (k + 1 + gap)) (length (body t)) q
    takes null zero k gap q f l h b = ap (λ (xs : List Span). times_held xs q) (near_null u k (holds_word u further _ [] there h)).no_pad ∙ sym (held_none (place 0 (k + 1 + gap)) q)
    takes null (suc n) k gap q f l h b = ap (λ (xs : List Span). times_held xs q) (taken_near n u k nothing (near_null u k (holds_word u further _ [] there h))) ∙ sym (held_none (place 0 (k + 1 + gap)) q)
    takes (capability i) zero k gap q f l h b = ap (λ (xs : List Span). times_held xs q) (near_capability u k i f (holds_word u further _ [] there h)).no_pad ∙ sym (held_none (place 0 (k + 1 + gap)) q)
    takes (capability i) (suc n) k gap q f l h b = ap (λ (xs : List Span). times_held xs q) (taken_near n u k (a_capability i) (near_capability u k i f (holds_word u further _ [] there h))) ∙ sym (held_none (place 0 (k + 1 + gap)) q)
    takes (structure d section ts) zero k gap q f l h b = absurd (omega (arith, l))
    takes (structure d section ts) (suc n) k gap q f l h b =
        let ws = words_of d section in
        let long = length-numbers_in 64 d section in
        let s = stands k gap d section ts f.0 f.1 h b in
        let tail : Holds x (s.start + d) (links 0 0 ts ++ bodies ts) = holds_at _ _ (omega arith) (holds_right ws (links 0 0 ts ++ bodies ts) s.words) in
        let below : times_held (from_each (behind n u) (place 0 (s.start + d)) (tree_count ts)) q ≡ held (place 0 (s.start + d + (tree_count ts + 0 + 0))) (length (bodies ts)) q = takes_each ts n (s.start + d) 0 0 q f.3 (omega (arith, l)) (holds_left (links 0 0 ts) (bodies ts) tail) (holds_at _ _ (omega (arith, links_length ts 0 0)) (holds_right (links 0 0 ts) (bodies ts) tail)) in
        let same : s.start + d + (tree_count ts + 0 + 0) ≡ s.start + (d + tree_count ts) = omega arith in
        ap (λ (xs : List Span). times_held xs q) (taken_near n u k (a_struct (place 0 s.start) d (tree_count ts)) s.near) ∙ joined (place 0 s.start) (d + tree_count ts) (length (bodies ts)) (length (ws ++ (links 0 0 ts ++ bodies ts))) (from_each (behind n u) (place 0 (s.start + d)) (tree_count ts)) q (omega (arith, length-append ws (links 0 0 ts ++ bodies ts), length-append (links 0 0 ts) (bodies ts), links_length ts 0 0, long)) (below ∙ ap (λ (j : ℕ). held (place 0 j) (length (bodies ts)) q) same) ∙ s.alike q
    takes (plain_list size m section) zero k gap q f l h b = absurd (omega (arith, l))
    takes (plain_list size m section) (suc n) k gap q f l h b =
        let in_x = b.within in
        let small_size = f.0 in
        let w = length-numbers_in 64 (words_for (size_bits size * m)) section in
        let near = near_object u k gap _ (λ p. a_list p size m) (list_names gap size m (omega arith) (omega arith) f.1) (holds_word u further _ [] there h) (omega arith) (omega arith) in
        let kind = list_kind_small size f.0 in
        let words : covered_object u (behind n u) (a_list (place 0 (k + 1 + gap)) size m) ≡ span (place 0 (k + 1 + gap)) (words_for (size_bits size * m)) ∷ [] = rw kind refl in
        ap (λ (xs : List Span). times_held xs q) (taken_near n u k (a_list (place 0 (k + 1 + gap)) size m) near ∙ words) ∙ only_held (place 0 (k + 1 + gap)) (words_for (size_bits size * m)) q ∙ ap (λ (c : ℕ). held (place 0 (k + 1 + gap)) c q) (sym w)
    takes (pointer_list ts) zero k gap q f l h b = absurd (omega (arith, l))
    takes (pointer_list ts) (suc n) k gap q f l h b =
        let in_x = b.within in
        let near = near_object u k gap _ (λ p. a_list p 6 (tree_count ts)) (list_names gap 6 (tree_count ts) (omega arith) (omega arith) f.0) (holds_word u further _ [] there h) (omega arith) (omega arith) in
        let own = holds_left (links 0 0 ts) (bodies ts) b in
        let below : times_held (from_each (behind n u) (place 0 (k + 1 + gap)) (tree_count ts)) q ≡ held (place 0 (k + 1 + gap + (tree_count ts + 0 + 0))) (length (bodies ts)) q = takes_each ts n (k + 1 + gap) 0 0 q f.1 (omega (arith, l)) own (holds_at _ _ (omega (arith, links_length ts 0 0)) (holds_right (links 0 0 ts) (bodies ts) b)) in
        let same : k + 1 + gap + (tree_count ts + 0 + 0) ≡ k + 1 + gap + tree_count ts = omega arith in
        ap (λ (xs : List Span). times_held xs q) (taken_near n u k (a_list (place 0 (k + 1 + gap)) 6 (tree_count ts)) near) ∙ joined (place 0 (k + 1 + gap)) (tree_count ts) (length (bodies ts)) (length (body (pointer_list ts))) (from_each (behind n u) (place 0 (k + 1 + gap)) (tree_count ts)) q (omega (arith, length-append (links 0 0 ts) (bodies ts), links_length ts 0 0)) (below ∙ ap (λ (j : ℕ). held (place 0 j) (length (bodies ts)) q) same)
    takes (struct_list d c es) zero k gap q f l h b = absurd (omega (arith, l))
    takes (struct_list d c es) (suc n) k gap q f l h b =
        let in_x = b.within in
        let tag = struct_pointer (element_count es) d c in
        let all = cells 0 d c es in
        let size = cells_length es 0 d c f.4 in
        let many = element_count es * (d + c) in
        let near = near_object u k gap _ (λ p. a_list p 7 many) (list_names gap 7 many (omega arith) (omega arith) f.3) (holds_word u further _ [] there h) (omega arith) (omega arith) in
        let own : Holds x (k + 1 + gap) (tag ∷ all) = holds_left (tag ∷ all) (element_bodies es) b in
        let words : words_at u (place 0 (k + 1 + gap)) (1 + many) ≡ Some (tag ∷ all) = holds_words u further (tag ∷ all) _ there own (omega (arith, size)) in
        let says : pointer_of tag ≡ to_struct (element_count es) d c = struct_says (element_count es) d c (omega arith) f.0 f.1 in
        let room : leb many (length all) ≡ true = le-leb _ _ (omega (arith, size)) in
        let behind_tag : Holds x (k + 1 + gap + 1) (all ++ element_bodies es) = holds_right (tag ∷ []) (all ++ element_bodies es) b in
        let below : times_held (from_elements (behind n u) (place 0 (k + 1 + gap + 1)) d c (element_count es)) q ≡ held (place 0 (k + 1 + gap + 1 + many + 0)) (length (element_bodies es)) q = takes_elements es n (k + 1 + gap + 1) 0 d c q f.4 (omega (arith, l)) (holds_left all (element_bodies es) behind_tag) (holds_at _ _ (omega (arith, size)) (holds_right all (element_bodies es) behind_tag)) in
        let covers : covered_object u (behind n u) (a_list (place 0 (k + 1 + gap)) 7 many) ≡ span (place 0 (k + 1 + gap)) (1 + many) ∷ from_elements (behind n u) (place 0 (k + 1 + gap + 1)) d c (element_count es) = rw (words, says, room) refl in
        let same : k + 1 + gap + 1 + many + 0 ≡ k + 1 + gap + (1 + many) = omega arith in
        ap (λ (xs : List Span). times_held xs q) (taken_near n u k (a_list (place 0 (k + 1 + gap)) 7 many) near ∙ covers) ∙ joined (place 0 (k + 1 + gap)) (1 + many) (length (element_bodies es)) (length (body (struct_list d c es))) (from_elements (behind n u) (place 0 (k + 1 + gap + 1)) d c (element_count es)) q (omega (arith, length-append all (element_bodies es), size)) (below ∙ ap (λ (j : ℕ). held (place 0 j) (length (element_bodies es)) q) same)

    -- what lies behind pointers in a row
    takes_each : (ts : Trees) (n k behind_row before : ℕ) (q : Place) → FitEach ts → depths ts ≤ n → Holds x k (links behind_row before ts) → Holds x (k + (tree_count ts + behind_row + before)) (bodies ts) → times_held (from_each (behind n u) (place 0 k) (tree_count ts)) q ≡ held (place 0 (k + (tree_count ts + behind_row + before))) (length (bodies ts)) q
    takes_each none n k behind_row before q f l h b = sym (held_none (place 0 (k + (0 + behind_row + before))) q)
    takes_each (t ▸ ts) n k behind_row before q f l h b =
        let p = pointer (tree_count ts + behind_row + before) t in
        let deep : max (depth t) (depths ts) ≤ n = l in
        let own : Holds x (k + 1 + (tree_count ts + behind_row + before)) (body t) = holds_at _ _ (omega arith) (holds_left (body t) (bodies ts) b) in
        let here : times_held (behind n u (place 0 k)) q ≡ held (place 0 (k + 1 + (tree_count ts + behind_row + before))) (length (body t)) q = takes t n k (tree_count ts + behind_row + before) q f.0 (omega arith) (holds_left (p ∷ []) _ h) own in
        let others : Holds x (k + 1 + (tree_count ts + behind_row + (before + length (body t)))) (bodies ts) = holds_at _ _ (omega arith) (holds_right (body t) (bodies ts) b) in
        let rest : times_held (from_each (behind n u) (place 0 (k + 1)) (tree_count ts)) q ≡ held (place 0 (k + 1 + (tree_count ts + behind_row + (before + length (body t))))) (length (bodies ts)) q = takes_each ts n (k + 1) behind_row (before + length (body t)) q f.1 (omega arith) (holds_right (p ∷ []) _ h) others in
        let next : place 0 (k + 1 + (tree_count ts + behind_row + (before + length (body t)))) ≡ after (place 0 (k + 1 + (tree_count ts + behind_row + before))) (length (body t)) = ap (λ (j : ℕ). place 0 j) (omega arith) in
        let start : k + 1 + (tree_count ts + behind_row + before) ≡ k + (suc (tree_count ts) + behind_row + before) = omega arith in
        both (place 0 (k + 1 + (tree_count ts + behind_row + before))) _ (length (body t)) (length (bodies ts)) (length (body t ++ bodies ts)) (behind n u (place 0 k)) (from_each (behind n u) (place 0 (k + 1)) (tree_count ts)) q next (length-append (body t) (bodies ts)) here rest ∙ ap (λ (j : ℕ). held (place 0 j) (length (body t ++ bodies ts)) q) start

    -- what lies behind the pointers in a list's elements
    takes_elements : (es : Elements) (n k before d c : ℕ) (q : Place) → FitElements d c es → element_depths es ≤ n → Holds x k (cells before d c es) → Holds x (k + element_count es * (d + c) + before) (element_bodies es) → times_held (from_elements (behind n u) (place 0 k) d c (element_count es)) q ≡ held (place 0 (k + element_count es * (d + c) + before)) (length (element_bodies es)) q
    takes_elements no_elements n k before d c q f l h b = sym (held_none (place 0 (k + 0 * (d + c) + before)) q)
    takes_elements (element section ts es) n k before d c q f l h b =
        let deep : max (depths ts) (element_depths es) ≤ n = l in
        let own = links (element_count es * (d + c)) before ts in
        let more = cells (before + length (bodies ts)) d c es in
        let n_own = links_length ts (element_count es * (d + c)) before in
        let ws = words_of d section in
        let wide = length-numbers_in 64 d section in
        let many = f.1 in
        let tail : Holds x (k + length ws) (own ++ more) = holds_right ws (own ++ more) h in
        let at_own : Holds x (k + d) own = holds_at _ _ (omega arith) (holds_left own more tail) in
        let at_more : Holds x (k + (d + c)) more = holds_at _ _ (omega arith) (holds_right own more tail) in
        let targets : Holds x (k + d + (tree_count ts + element_count es * (d + c) + before)) (bodies ts) = holds_at _ _ (omega arith) (holds_left (bodies ts) (element_bodies es) b) in
        let others : Holds x (k + (d + c) + element_count es * (d + c) + (before + length (bodies ts))) (element_bodies es) = holds_at _ _ (omega arith) (holds_right (bodies ts) (element_bodies es) b) in
        let here : times_held (from_each (behind n u) (place 0 (k + d)) c) q ≡ held (place 0 (k + d + (tree_count ts + element_count es * (d + c) + before))) (length (bodies ts)) q = ap (λ (j : ℕ). times_held (from_each (behind n u) (place 0 (k + d)) j) q) (sym many) ∙ takes_each ts n (k + d) (element_count es * (d + c)) before q f.2 (omega arith) at_own targets in
        let rest : times_held (from_elements (behind n u) (place 0 (k + (d + c))) d c (element_count es)) q ≡ held (place 0 (k + (d + c) + element_count es * (d + c) + (before + length (bodies ts)))) (length (element_bodies es)) q = takes_elements es n (k + (d + c)) (before + length (bodies ts)) d c q f.3 (omega arith) at_more others in
        let next : place 0 (k + (d + c) + element_count es * (d + c) + (before + length (bodies ts))) ≡ after (place 0 (k + d + (tree_count ts + element_count es * (d + c) + before))) (length (bodies ts)) = ap (λ (j : ℕ). place 0 j) (omega (arith, many)) in
        let start : k + d + (tree_count ts + element_count es * (d + c) + before) ≡ k + suc (element_count es) * (d + c) + before = omega (arith, many) in
        both (place 0 (k + d + (tree_count ts + element_count es * (d + c) + before))) _ (length (bodies ts)) (length (element_bodies es)) (length (bodies ts ++ element_bodies es)) (from_each (behind n u) (place 0 (k + d)) c) (from_elements (behind n u) (place 0 (k + (d + c))) d c (element_count es)) q next (length-append (bodies ts) (element_bodies es)) here rest ∙ ap (λ (j : ℕ). held (place 0 j) (length (bodies ts ++ element_bodies es)) q) start

-- THE LAW
pub canonical_words_taken : (t : Tree) (n : ℕ) (u : Segments) (more : List ℕ) (q : Place) → Fits t → depth t ≤ n → length (canonical_words t) ≤ 2 ^ 29 → slice_get u 0 ≡ Some (canonical_words t ++ more) → footprint n u root q ≡ times_held (span root (length (canonical_words t)) ∷ []) q
unfolding canonical_words
canonical_words_taken t n u more q f l small there =
    let below : times_held (behind n u (place 0 0)) q ≡ held (place 0 1) (length (body t)) q = takes u (pointer 0 t ∷ body t) more there small t n 0 0 q f l
    (record { rest = body t; parts = refl; within = omega arith })
    (record { rest = []; parts = sym (append-nil (body t)); within = omega arith }) in
    joined root 1 (length (body t)) (length (pointer 0 t ∷ body t)) (behind n u (place 0 0)) q (omega arith) below ∙ sym (only_held root (length (pointer 0 t ∷ body t)) q)

pub canonical_words_owned : (t : Tree) (n : ℕ) (u : Segments) (more : List ℕ) → Fits t → depth t ≤ n → length (canonical_words t) ≤ 2 ^ 29 → slice_get u 0 ≡ Some (canonical_words t ++ more) → Owns n u root t
canonical_words_owned t n u more f l small there =
    record {
      means = enc_means_first t n u more f l small there;
      apart = λ q. (let e = canonical_words_taken t n u more q f l small there in let o = only_held root (length (canonical_words t)) q in let h = held_le root (length (canonical_words t)) q in omega (arith, e, o, h));
    }
