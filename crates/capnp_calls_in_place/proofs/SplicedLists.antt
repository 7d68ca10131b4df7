-- What is put into the elements of trimmed lists of structs, and the change that does the same to the whole ones.
use Rattle.std.proofs.Common.{◌≡◌, ℕ, zero, suc, ◌*◌, ◌^◌, ◌<◌, ◌≤◌, max, Bool, true, false, nat_lt, refl, ap, sym, subst, ◌∙◌, arith}
use Rattle.capnp_model.specs.Sections.{needed_words}
use Rattle.capnp_model.specs.Trees.{Tree, null, capability, structure, plain_list, pointer_list, struct_list, Trees, Elements, no_elements, element, tree_count, resized, padded_to, depths, element_depths}
use Rattle.capnp_model.specs.Fits.{Fits, FitElements}
use Rattle.capnp_model.specs.Trimming.{stripped, common_words, common_pointers, with_pointers, trim, trim_each, trim_elements}
use Rattle.capnp_model.specs.Schemas.{Shape, shape}
use Rattle.capnp_model.specs.Edits.{Cell, Edit, padded_elements, widened_list, edit_list, on_elements}
use Rattle.capnp_model.proofs.lemmas.Numbers.{needed_words-more, needed_words_le}
use Rattle.capnp_model.proofs.lemmas.Stripping.{stripped-resized, resized-stripped, count-resized, count-stripped}
use Rattle.capnp_model.proofs.lemmas.TrimTwice.{common_words_le}
use Rattle.capnp_model.proofs.lemmas.Widening.{bare-padded_to}
use Rattle.capnp_calls_splice.specs.Splices.{InElements, InList}
use Rattle.capnp_calls_in_place.proofs.SplicedKids.{depths_padded, resized_all}
use Rattle.capnp_calls_in_place.proofs.SplicedCells.{IsCut, Follows, IsEditOf, Makes, IsChangeOf}

-- ---- the words that elements need

-- The section of each element has so many words.
abbrev HaveWords : ℕ → Elements → Type 0
HaveWords n no_elements = Unit {0}
HaveWords n (element section kids es) = (section < 2 ^ (64 * n)) × HaveWords n es

have_words : (n p : ℕ) (es : Elements) → FitElements n p (with_pointers p es) → HaveWords n es
have_words n p no_elements fit = tt
have_words n p (element section kids es) fit = (fit.0, have_words n p es fit.3)

padded_words : (n q : ℕ) (es : Elements) → HaveWords n (trim_elements es) → HaveWords n (trim_elements (padded_elements q es))
unfolding trim
padded_words n q no_elements h = tt
padded_words n q (element section kids es) h = (h.0, padded_words n q es h.1)

-- They need the same of more words.
common_more : (v n : ℕ) (es : Elements) → n ≤ v → HaveWords n es → common_words v es ≡ common_words n es
common_more v n no_elements le h = refl
common_more v n (element section kids es) le h =
    ap (λ (m : ℕ). max m (common_words v es)) (needed_words-more v n section le h.0) ∙ ap (max (needed_words n section)) (common_more v n es le h.1)

padded_alike : (v : ℕ) (es : Elements) (q : ℕ) → common_words v (trim_elements (padded_elements q es)) ≡ common_words v (trim_elements es)
unfolding trim
padded_alike v no_elements q = refl
padded_alike v (element section kids es) q = ap (max (needed_words v section)) (padded_alike v es q)

padded_pointers : (q : ℕ) (es : Elements) → common_pointers (trim_elements (padded_elements q es)) ≡ common_pointers (trim_elements es)
unfolding trim
padded_pointers q no_elements = refl
padded_pointers q (element section kids es) =
    ap (λ (ts : Trees). max (tree_count ts) (common_pointers (trim_elements (padded_elements q es)))) (bare-padded_to q kids) ∙ ap (max (tree_count (stripped (trim_each kids)))) (padded_pointers q es)

cut_alike : (p : ℕ) (ts us : Trees) → stripped ts ≡ stripped us → resized p ts ≡ resized p us
cut_alike p ts us e = sym (resized-stripped p ts) ∙ ap (resized p) e ∙ resized-stripped p us

padded_cut : (p q : ℕ) (es : Elements) → with_pointers p (trim_elements (padded_elements q es)) ≡ with_pointers p (trim_elements es)
unfolding trim
padded_cut p q no_elements = refl
padded_cut p q (element section kids es) =
    ap (λ (ts : Trees). element section ts (with_pointers p (trim_elements (padded_elements q es)))) (cut_alike p (trim_each (padded_to q kids)) (trim_each kids) (bare-padded_to q kids))
    ∙ ap (element section (resized p (trim_each kids))) (padded_cut p q es)

padded_depths : (q : ℕ) (es : Elements) → element_depths (padded_elements q es) ≡ element_depths es
padded_depths q no_elements = refl
padded_depths q (element section kids es) = ap (λ (n : ℕ). max n (element_depths (padded_elements q es))) (depths_padded q kids) ∙ ap (max (depths kids)) (padded_depths q es)

-- ---- one element

-- The most of two stays where one of them keeps the most that it can be.
most_kept : (n a b x : ℕ) → a ≤ n → x ≤ n → (a ≡ n → x ≡ n) → max a b ≡ n → max x b ≡ n
most_kept n a b x small less keeps e = by (nat_lt a n) refl
  where
    by : (c : Bool) → nat_lt a n ≡ c → max x b ≡ n
    by true is = let below : a < n = grind arith in omega (arith, below, less, e)
    by false is =
        let above : n ≤ a = grind arith in
        let same : x ≡ n = keeps (omega (arith, above, small)) in
        omega (arith, same, e)

-- What elements become, of so many words and pointers.
record MakesElements (n p : ℕ) (old edited new : Elements) : Type 0 where
  cut : with_pointers p (trim_elements edited) ≡ new
  words : HaveWords n (trim_elements edited)
  least : common_words n (trim_elements old) ≡ n → common_words n (trim_elements edited) ≡ n
  few : common_pointers (trim_elements edited) ≤ p
  pointers : common_pointers (trim_elements old) ≡ p → common_pointers (trim_elements edited) ≡ p
  deep : element_depths edited ≡ element_depths old

module _ (limit : ℕ) (puts : ℕ → ℕ → Cell → Cell → Type 0) (f : Edit) (is : IsEditOf limit puts f) (n p q : ℕ) where
  -- The element itself.
  first_made : (section : ℕ) (kids : Trees) (es : Elements) (new : Cell) → FitElements n p (with_pointers p (trim_elements (element section kids es))) → common_pointers (trim_elements (element section kids es)) ≤ p
      → puts n n (record { section = section; kids = resized p (trim_each kids) }) new
      → MakesElements n p (element section kids es) (on_elements f zero (padded_elements q (element section kids es))) (element new.section new.kids (with_pointers p (trim_elements es)))
  unfolding trim
  first_made section kids es new fit few h =
      let cut : Cell = record { section = section; kids = resized p (trim_each kids) } in
      let old : Cell = record { section = section; kids = padded_to q kids } in
      let edited : Cell = f old in
      let most : tree_count (stripped (trim_each kids)) ≤ p = omega (arith, few) in
      let bare : stripped (resized p (trim_each kids)) ≡ stripped (trim_each kids) = stripped-resized p (trim_each kids) most in
      let begins : IsCut n cut old = record { section = refl; kids = bare-padded_to q kids ∙ sym bare; inside = fit.0; fit = fit.2 } in
      let follows : Follows limit n n cut new old edited = is n n cut new old begins h in
      let rest : Elements = trim_elements (padded_elements q es) in
      let children : resized p (trim_each edited.kids) ≡ new.kids = cut_alike p (trim_each edited.kids) new.kids follows.kids ∙ resized_all new.kids p (follows.count ∙ count-resized p (trim_each kids)) in
      let bares : tree_count (stripped (trim_each edited.kids)) ≡ tree_count (stripped new.kids) = ap tree_count follows.kids in
      let all : tree_count (stripped (resized p (trim_each kids))) ≡ tree_count (stripped (trim_each kids)) = ap tree_count bare in
      let count : tree_count new.kids ≡ p = follows.count ∙ count-resized p (trim_each kids) in
      let no_more = count-stripped new.kids in
      let no_fewer = follows.least in
      let of_rest : common_pointers rest ≡ common_pointers (trim_elements es) = padded_pointers q es in
      let others : common_words n rest ≡ common_words n (trim_elements es) = padded_alike n es q in
      record {
        cut = ap (λ (s : ℕ). element s (resized p (trim_each edited.kids)) (with_pointers p rest)) follows.section
            ∙ ap (λ (ts : Trees). element new.section ts (with_pointers p rest)) children ∙ ap (element new.section new.kids) (padded_cut p q es);
        words = (subst (λ (s : ℕ). s < 2 ^ (64 * n)) (sym follows.section) follows.inside, padded_words n q es (have_words n p (trim_elements es) fit.3));
        least = λ e. ap (λ (s : ℕ). max (needed_words n s) (common_words n rest)) follows.section ∙ ap (max (needed_words n new.section)) others
            ∙ most_kept n (needed_words n section) (common_words n (trim_elements es)) (needed_words n new.section) (needed_words_le n section) (needed_words_le n new.section) follows.words e;
        few = omega (arith, few, bares, count, no_more, of_rest);
        pointers = λ e. omega (arith, few, bares, all, count, no_more, no_fewer, of_rest, e);
        deep = ap (λ (m : ℕ). max m (element_depths (padded_elements q es))) (follows.deep ∙ depths_padded q kids) ∙ ap (max (depths kids)) (padded_depths q es);
      }

  -- An element at any index.
  elements_made : (k : ℕ) (es new : Elements) → FitElements n p (with_pointers p (trim_elements es)) → common_pointers (trim_elements es) ≤ p → InElements (puts n n) k (with_pointers p (trim_elements es)) new
      → MakesElements n p es (on_elements f k (padded_elements q es)) new
  unfolding trim
  elements_made zero no_elements new fit few h = absurd h
  elements_made (suc k) no_elements new fit few h = absurd h
  elements_made zero (element section kids es) new fit few h =
      subst (λ (us : Elements). MakesElements n p (element section kids es) (on_elements f zero (padded_elements q (element section kids es))) us) (sym h.2) (first_made section kids es h.0 fit few h.1)
  elements_made (suc k) (element section kids es) new fit few h =
      let made : MakesElements n p es (on_elements f k (padded_elements q es)) h.0 = elements_made k es h.0 fit.3 (omega (arith, few)) h.1 in
      let rest : Elements = trim_elements (on_elements f k (padded_elements q es)) in
      let first : Trees = resized p (trim_each kids) in
      record {
        cut = ap (λ (ts : Trees). element section ts (with_pointers p rest)) (cut_alike p (trim_each (padded_to q kids)) (trim_each kids) (bare-padded_to q kids)) ∙ ap (element section first) made.cut ∙ sym h.2;
        words = (fit.0, made.words);
        least = λ e. (
            let turned : max (common_words n (trim_elements es)) (needed_words n section) ≡ n = omega (arith, e) in
            let kept : max (common_words n rest) (needed_words n section) ≡ n =
            most_kept n (common_words n (trim_elements es)) (needed_words n section) (common_words n rest) (common_words_le n (trim_elements es)) (common_words_le n rest) made.least turned in
            omega (arith, kept)
            );
        few = (let same = ap tree_count (bare-padded_to q kids) in let less = made.few in omega (arith, few, same, less));
        pointers = λ e. (
            let same = ap tree_count (bare-padded_to q kids) in
            let turned : max (common_pointers (trim_elements es)) (tree_count (stripped (trim_each kids))) ≡ p = omega (arith, e) in
            let kept : max (common_pointers rest) (tree_count (stripped (trim_each kids))) ≡ p =
            most_kept p (common_pointers (trim_elements es)) (tree_count (stripped (trim_each kids))) (common_pointers rest) (omega (arith, few)) made.few made.pointers turned in
            omega (arith, kept, same)
            );
        deep = ap (λ (m : ℕ). max m (element_depths (on_elements f k (padded_elements q es)))) (depths_padded q kids) ∙ ap (max (depths kids)) made.deep;
      }

-- ---- lists

module _ (limit : ℕ) (puts : ℕ → ℕ → Cell → Cell → Type 0) (f : ℕ → ℕ → Edit) (is : (w p : ℕ) → IsEditOf limit puts (f w p)) where
  list_makes : (k a q w p : ℕ) (es new : Elements) → Fits (trim (struct_list w p es))
      → InElements (puts (common_words w (trim_elements es)) (common_words w (trim_elements es))) k (with_pointers (common_pointers (trim_elements es)) (trim_elements es)) new
      → Makes (struct_list w p es) (struct_list (max a w) (max q p) (on_elements (f (max a w) (max q p)) k (padded_elements q es))) (struct_list (common_words w (trim_elements es)) (common_pointers (trim_elements es)) new)
  unfolding trim
  list_makes k a q w p es new fit h =
      let old : Elements = trim_elements es in
      let n : ℕ = common_words w old in
      let m : ℕ = common_pointers old in
      let edited : Elements = on_elements (f (max a w) (max q p)) k (padded_elements q es) in
      let now : Elements = trim_elements edited in
      let made : MakesElements n m es edited new = elements_made limit puts (f (max a w) (max q p)) (is (max a w) (max q p)) n m q k es new fit.4 (omega arith) h in
      let less = common_words_le w old in
      let least : common_words n old ≡ n = sym (common_more w n old less (have_words n m old fit.4)) in
      let words : common_words (max a w) now ≡ n = common_more (max a w) n now (omega (arith, less)) made.words ∙ made.least least in
      record {
        trimmed = ap (λ (c : ℕ). struct_list c (common_pointers now) (with_pointers (common_pointers now) now)) words
            ∙ ap (λ (c : ℕ). struct_list n c (with_pointers c now)) (made.pointers refl) ∙ ap (struct_list n m) made.cut;
        deep = ap suc made.deep;
        some = refl;
        some_new = refl;
      }

  pub list_is : (k : ℕ) (g : Shape) → IsChangeOf (InList puts k) (λ t. edit_list f k (widened_list g t))
  unfolding trim
  list_is k (shape nid a q u fs) null new fit h = absurd h
  list_is k (shape nid a q u fs) (capability i) new fit h = absurd h
  list_is k (shape nid a q u fs) (structure w section kids) new fit h = absurd h
  list_is k (shape nid a q u fs) (plain_list z m section) new fit h = absurd h
  list_is k (shape nid a q u fs) (pointer_list ts) new fit h = absurd h
  list_is k (shape nid a q u fs) (struct_list w p es) new fit h =
      subst (λ (t : Tree). Makes (struct_list w p es) (edit_list f k (widened_list (shape nid a q u fs) (struct_list w p es))) t) (sym h.2) (list_makes k a q w p es h.0 fit h.1)
