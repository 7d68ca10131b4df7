-- Zero words that become the copy of an object, by its kind.
use Rattle.std.specs.Bool.{⊤}
use Rattle.std.proofs.Common.{◌≡◌, ℕ, ◌+◌, ◌*◌, ◌%◌, ◌^◌, ◌<◌, ◌≤◌, true, List, [], ◌∷◌, length, replicate, Option, Some, Result, Ok, Err, refl, ap, sym, ◌∙◌, subst, arith}
use Rattle.std.specs.Option.{is_some}
use Rattle.std.proofs.lemmas.List.{length-replicate}
use Rattle.capnp_model.specs.Chains.{◌>>=◌}
use Rattle.capnp_model.specs.Sections.{section_of, words_for}
use Rattle.capnp_model.specs.Segments.{Segments, Place, after, words_at}
use Rattle.capnp_model.specs.Pointers.{a_struct, a_list}
use Rattle.capnp_model.specs.Trees.{Tree, structure, plain_list, pointer_list, struct_list, Trees, none, resized, Elements, size_bits}
use Rattle.capnp_model.specs.Traversal.{tree_of, tree_at, each}
use Rattle.capnp_model.specs.Coverage.{span, times_held, Grows, from_each}
use Rattle.capnp_model.specs.Encoding.{struct_pointer}
use Rattle.capnp_model.specs.Visits.{Visit}
use Rattle.capnp_model.proofs.lemmas.PointerWords.{list_kind_small}
use Rattle.capnp_units.specs.declared.errors.Error.{Error}
use Rattle.capnp_units.specs.declared.limiter.ReadLimiter.{ReadLimiter}
use Rattle.capnp_units.specs.Sizes.{data_bits}
use Rattle.capnp_wire_objects.specs.Inside.{section_at, words_there}
use Rattle.capnp_model_writes.specs.Children.{with_first}
use Rattle.capnp_model_writes.specs.Footprints.{behind, object_footprint, OwnsObject}
use Rattle.capnp_model_writes.specs.Changes.{Changes, ReplacesObject}
use Rattle.capnp_model_writes.specs.NewObjects.{new_structs, zero_elements, Fits}
use Rattle.capnp_model_writes.specs.Writes.{with_words, spliced}
use Rattle.capnp_model_writes.proofs.lemmas.Algebra.{changes_then, changes_alike}
use Rattle.capnp_model_writes.proofs.lemmas.Lift.{struct_parts, object_on, object_replaced_owned, object_replaced_then}
use Rattle.capnp_model_writes.proofs.lemmas.NewKinds.{is_new, zero_counted}
use Rattle.capnp_model_writes.proofs.lemmas.Prepared.{first_of_more, tag_in_front}
use Rattle.capnp_model_writes.proofs.lemmas.Rows.{after_none}
use Rattle.capnp_model_writes.proofs.lemmas.Spans.{held, grows_then}
use Rattle.capnp_model_writes.proofs.lemmas.Splices.{Rewrites, splice_rewrites, splice_words, splice_grows, spliced_whole}
use Rattle.capnp_model_writes.proofs.lemmas.Writing.{wider, changes_inside, plain_is, plain_tree, struct_data}
use Rattle.capnp_model_writes.proofs.lemmas.Zeros.{zero_struct, zero_struct_takes}
use Rattle.capnp_wire_objects.proofs.lemmas.Measuring.{data_bits_plain}
use Rattle.capnp_copy_values.specs.Copies.{CopyGives, Fills, FillsStruct, LeavesStruct, FillsRow, LeavesRow, FillsElements, LeavesElements, copy_of, copy_source, limited_words, sized_at}
use Rattle.capnp_copy_arenas.specs.Allocations.{total_words}
use Rattle.capnp_copy_values.proofs.Taking.{takes_none, takes_both, written_total}
use Rattle.capnp_copy_values.proofs.lemmas.Filling.{fills_of, fills_replaced, held_owned}
use Rattle.capnp_copy_values.proofs.Rows.{row_whole}
use Rattle.capnp_copy_values.proofs.Parts.{there_is, there_length, section_is, front_there}

-- ---- words that are written over zeros

pub written_all : (s : Segments) (r : Place) (k : ℕ) (ws vs : List ℕ) → words_at s r k ≡ Some ws → length vs ≡ k → length ws ≡ k → words_at (with_words s r vs) r k ≡ Some vs
written_all s r k ws vs e l m =
    let now : words_at (with_words s (after r 0) vs) r k ≡ Some (spliced 0 vs ws) = splice_words s r 0 k vs ws (omega (arith, l)) e in
    ap (λ (q : Place). words_at (with_words s q vs) r k) (sym (after_none r)) ∙ now ∙ ap (λ (xs : List ℕ). Some xs) (spliced_whole vs ws (l ∙ sym m))

-- ---- structs

pub struct_fills : (levels : ℕ) (from : Segments) (there : Option Trees) (path : List Visit) (section : ℕ) (s u : Segments) (r : Place) (d k : ℕ) (old new : ReadLimiter) (x : Result ⊤ Error) → words_at s r (d + k) ≡ Some (replicate (d + k) 0)
    → CopyGives (copy_of from there path) (FillsStruct levels s u (sized_at r d k) section) (LeavesStruct levels s u (sized_at r d k)) (limited_words s old) x (limited_words u new)
    → CopyGives (copy_of from (there >>= λ ts. Some (structure d section ts)) path) (λ v. (n : ℕ) → levels ≤ n → Fills n s u (span r (d + k)) (a_struct r d k) v) ((t : Tree) × Fills levels s u (span r (d + k)) (a_struct r d k) t) (limited_words s old) x (limited_words u new)
struct_fills levels from there path section s u r d k old new (Ok x) z g =
    record {
      value = structure d section g.value;
      there_is = ap (λ (o : Option Trees). o >>= λ ts. Some (structure d section ts)) g.there_is;
      walked = g.walked;
      grows = g.grows;
      takes = g.takes;
      made = λ n h. (
          let own = held_owned n s r (d + k) (a_struct r d k) (structure d 0 (resized k none)) (zero_struct n s r d k z) (λ q. zero_struct_takes n s r d k q z) in
          fills_replaced n s u r (d + k) (a_struct r d k) (structure d section g.value) (λ q. zero_struct_takes n s r d k q z) (g.made n 0 (resized k none) h own)
          );
    }
struct_fills levels from there path section s u r d k old new (Err e) z g =
    record {
      left = (
          let own = held_owned levels s r (d + k) (a_struct r d k) (structure d 0 (resized k none)) (zero_struct levels s r d k z) (λ q. zero_struct_takes levels s r d k q z) in
          let x = g.left levels 0 (resized k none) (omega arith) own in
          (structure d x.0 x.1, fills_replaced levels s u r (d + k) (a_struct r d k) (structure d x.0 x.1) (λ q. zero_struct_takes levels s r d k q z) x.2)
          );
      takes = g.takes;
      why = g.why;
    }

-- ---- lists of pointers: those of a struct without data

list_takes : (n : ℕ) (s : Segments) (r : Place) (k : ℕ) (q : Place) → object_footprint n s (a_list r 6 k) q ≡ object_footprint n s (a_struct r 0 k) q
list_takes n s r k q =
    let sum : 0 + k ≡ k = omega arith in
    ap (λ (m : ℕ). times_held (span r m ∷ from_each (behind n s) r k) q) (sym sum) ∙ ap (λ (x : Place). times_held (span r (0 + k) ∷ from_each (behind n s) x k) q) (sym (after_none r))

as_list : (n : ℕ) (s : Segments) (r : Place) (k own : ℕ) (ts : Trees) → tree_of s (tree_at n s) (a_struct r 0 k) ≡ Some (structure 0 own ts) → tree_of s (tree_at n s) (a_list r 6 k) ≡ Some (pointer_list ts)
as_list n s r k own ts e =
    let sum : 0 + k ≡ k = omega arith in
    let x = (struct_parts n s r 0 k 0 own ts e).1 in
    let there : words_at s r k ≡ Some x.words = subst (λ (m : ℕ). words_at s r m ≡ Some x.words) sum x.there in
    let kids : each (tree_at n s) r k ≡ Some ts = ap (λ (q : Place). each (tree_at n s) q k) (sym (after_none r)) ∙ x.kids_are in
    rw (there, kids) refl

row_fills : (levels n : ℕ) (s u : Segments) (r : Place) (k : ℕ) (own : ℕ) (ts : Trees) → words_at s r k ≡ Some (replicate k 0) → ReplacesObject n s u (a_struct r 0 k) (structure 0 own ts) → Fills n s u (span r k) (a_list r 6 k) (pointer_list ts)
row_fills levels n s u r k own ts z c =
    let sum : k ≡ 0 + k = omega arith in
    let z' : words_at s r (0 + k) ≡ Some (replicate (0 + k) 0) = subst (λ (m : ℕ). words_at s r m ≡ Some (replicate m 0)) sum z in
    let takes : (q : Place) → object_footprint n s (a_struct r 0 k) q ≡ held r k q = λ q. zero_struct_takes n s r 0 k q z' ∙ ap (λ (m : ℕ). held r m q) (sym sum) in
    fills_of n s u r k (a_list r 6 k) (pointer_list ts) (as_list n u r k own ts c.means)
    (changes_alike s u (object_footprint n s (a_struct r 0 k)) (object_footprint n u (a_struct r 0 k)) (held r k) (object_footprint n u (a_list r 6 k)) c.changes (λ q. sym (takes q)) (list_takes n u r k))

zero_row : (n : ℕ) (s : Segments) (r : Place) (k : ℕ) → words_at s r k ≡ Some (replicate k 0) → OwnsObject n s (a_struct r 0 k) (structure 0 0 (resized k none))
zero_row n s r k z =
    let sum : k ≡ 0 + k = omega arith in
    let z' : words_at s r (0 + k) ≡ Some (replicate (0 + k) 0) = subst (λ (m : ℕ). words_at s r m ≡ Some (replicate m 0)) sum z in
    held_owned n s r (0 + k) (a_struct r 0 k) (structure 0 0 (resized k none)) (zero_struct n s r 0 k z') (λ q. zero_struct_takes n s r 0 k q z')

pub pointers_fill : (levels : ℕ) (b : Segments) (p : Place) (from : Segments) (there : Option Trees) (path : List Visit) (s u : Segments) (r : Place) (k : ℕ) (old new : ReadLimiter) (x : Result ⊤ Error) → words_at s r k ≡ Some (replicate k 0)
    → CopyGives (copy_of from there path) (FillsRow levels s u (sized_at r 0 k)) (LeavesRow (copy_source levels b p) s u (sized_at r 0 k)) (limited_words s old) x (limited_words u new)
    → CopyGives (copy_of from (there >>= λ ts. Some (pointer_list ts)) path) (λ v. (n : ℕ) → levels ≤ n → Fills n s u (span r k) (a_list r 6 k) v) ((t : Tree) × Fills levels s u (span r k) (a_list r 6 k) t) (limited_words s old) x (limited_words u new)
pointers_fill levels b p from there path s u r k old new (Ok x) z g =
    record {
      value = pointer_list g.value;
      there_is = ap (λ (o : Option Trees). o >>= λ ts. Some (pointer_list ts)) g.there_is;
      walked = g.walked;
      grows = g.grows;
      takes = g.takes;
      made = λ n h. (
          let all = row_whole n s r 0 k 0 g.value (resized k none) g.made.count (zero_row n s r k z) in
          row_fills levels n s u r k 0 g.value z (subst (λ (ts : Trees). ReplacesObject n s u (a_struct r 0 k) (structure 0 0 ts)) all (g.made.first n 0 k (resized k none) h (omega arith) (zero_row n s r k z)))
          );
    }
pointers_fill levels b p from there path s u r k old new (Err e) z g =
    record {
      left = (pointer_list (with_first g.left.copied g.left.read (resized k none)), row_fills levels levels s u r k 0 (with_first g.left.copied g.left.read (resized k none)) z (g.left.left levels 0 k (resized k none) (omega arith) (omega arith) (zero_row levels s r k z)));
      takes = g.takes;
      why = g.why;
    }

-- ---- lists of plain elements

-- any words that are written
pub words_fill : (n : ℕ) (s u : Segments) (r : Place) (size count k : ℕ) (vs : List ℕ) → size < 6 → k ≡ words_for (data_bits size * count) → length vs ≡ k → words_at s r k ≡ Some (replicate k 0) → u ≡ with_words s r vs
    → Fills n s u (span r k) (a_list r size count) (plain_list size count (section_of vs % 2 ^ (data_bits size * count)))
words_fill n s u r size count k vs plain is long z now =
    let bits : size_bits size * count ≡ data_bits size * count = ap (λ (b : ℕ). b * count) (data_bits_plain size plain) in
    let kind = list_kind_small size plain in
    let all : words_for (size_bits size * count) ≡ k = ap words_for bits ∙ sym is in
    let written : words_at (with_words s r vs) r k ≡ Some vs = written_all s r k (replicate k 0) vs z long (length-replicate {A = ℕ} k 0) in
    let written' : words_at (with_words s r vs) r (words_for (size_bits size * count)) ≡ Some vs = ap (words_at (with_words s r vs) r) all ∙ written in
    let y : Rewrites s (with_words s r vs) r k = subst (λ (m : ℕ). Rewrites s (with_words s r vs) r m) long (splice_rewrites s r vs) in
    let c : Changes s (with_words s r vs) (held r k) (held r k) = changes_inside s (with_words s r vs) r k (held r k) (held r k) y (λ q. refl) (λ q. omega arith) in
    let takes : (q : Place) → object_footprint n (with_words s r vs) (a_list r size count) q ≡ held r k q = λ q. plain_is n (with_words s r vs) r size count q kind ∙ ap (λ (m : ℕ). held r m q) all in
    let tree = plain_tree n (with_words s r vs) r size count vs kind written' in
    let section : section_of vs % 2 ^ (size_bits size * count) ≡ section_of vs % 2 ^ (data_bits size * count) = ap (λ (b : ℕ). section_of vs % 2 ^ b) bits in
    subst (λ (v : Segments). Fills n s v (span r k) (a_list r size count) (plain_list size count (section_of vs % 2 ^ (data_bits size * count)))) (sym now)
    (fills_of n s (with_words s r vs) r k (a_list r size count) (plain_list size count (section_of vs % 2 ^ (data_bits size * count)))
    (tree ∙ ap (λ (x : ℕ). Some (plain_list size count x)) section)
    (changes_alike s (with_words s r vs) (held r k) (held r k) (held r k) (object_footprint n (with_words s r vs) (a_list r size count)) c (λ q. refl) takes))

pub list_fills : (n : ℕ) (from : Segments) (p : Place) (s u : Segments) (r : Place) (size count k : ℕ) → size < 6 → k ≡ words_for (data_bits size * count) → is_some (words_at from p k) ≡ true → words_at s r k ≡ Some (replicate k 0) → u ≡ with_words s r (words_there from p k)
    → Fills n s u (span r k) (a_list r size count) (plain_list size count (section_at from p k % 2 ^ (data_bits size * count)))
list_fills n from p s u r size count k plain is there z now =
    subst (λ (x : ℕ). Fills n s u (span r k) (a_list r size count) (plain_list size count (x % 2 ^ (data_bits size * count)))) (sym (section_is from p k there))
    (words_fill n s u r size count k (words_there from p k) plain is (there_length from p k there) z now)

-- ---- lists of structs

-- the tag is written first
pub record Tagged (n : ℕ) (s u : Segments) (r : Place) (d k count : ℕ) : Type 0 where
  pub owned : OwnsObject n u (a_list r 7 (count * (d + k))) (struct_list d k (zero_elements count k))
  pub takes : (q : Place) → object_footprint n u (a_list r 7 (count * (d + k))) q ≡ held r (1 + count * (d + k)) q
  pub changes : Changes s u (held r (1 + count * (d + k))) (held r (1 + count * (d + k)))

tagged : (n : ℕ) (s u : Segments) (r : Place) (d k count : ℕ) → Fits (new_structs count d k) → words_at s r (1 + count * (d + k)) ≡ Some (replicate (1 + count * (d + k)) 0) → u ≡ with_words s r (struct_pointer count d k ∷ []) → Tagged n s u r d k count
tagged n s u r d k count fits z now =
    let fit : 0 + 1 ≤ 1 + count * (d + k) = omega arith in
    let y0 : Rewrites s (with_words s (after r 0) (struct_pointer count d k ∷ [])) r (1 + count * (d + k)) = wider s (with_words s (after r 0) (struct_pointer count d k ∷ [])) r 0 1 (1 + count * (d + k)) fit (splice_rewrites s (after r 0) (struct_pointer count d k ∷ [])) in
    let y : Rewrites s (with_words s r (struct_pointer count d k ∷ [])) r (1 + count * (d + k)) = subst (λ (q : Place). Rewrites s (with_words s q (struct_pointer count d k ∷ [])) r (1 + count * (d + k))) (after_none r) y0 in
    let zeros : words_at s r (1 + count * (d + k)) ≡ Some (0 ∷ replicate (count * (d + k)) 0) = z ∙ ap (λ (ws : List ℕ). Some ws) (first_of_more (count * (d + k))) in
    let put : words_at (with_words s (after r 0) (struct_pointer count d k ∷ [])) r (1 + count * (d + k)) ≡ Some (spliced 0 (struct_pointer count d k ∷ []) (0 ∷ replicate (count * (d + k)) 0)) = splice_words s r 0 (1 + count * (d + k)) (struct_pointer count d k ∷ []) (0 ∷ replicate (count * (d + k)) 0) fit zeros in
    let words : words_at (with_words s r (struct_pointer count d k ∷ [])) r (1 + count * (d + k)) ≡ Some (struct_pointer count d k ∷ replicate (count * (d + k)) 0) = ap (λ (q : Place). words_at (with_words s q (struct_pointer count d k ∷ [])) r (1 + count * (d + k))) (sym (after_none r)) ∙ put ∙ ap (λ (ws : List ℕ). Some ws) (tag_in_front (struct_pointer count d k) 0 (replicate (count * (d + k)) 0)) in
    let new = is_new n (with_words s r (struct_pointer count d k ∷ [])) r (1 + count * (d + k)) (new_structs count d k) fits words in
    subst (λ (v : Segments). Tagged n s v r d k count) (sym now) (record {
      owned = held_owned n (with_words s r (struct_pointer count d k ∷ [])) r (1 + count * (d + k)) (a_list r 7 (count * (d + k))) (struct_list d k (zero_elements count k)) new.means new.takes;
      takes = new.takes;
      changes = changes_inside s (with_words s r (struct_pointer count d k ∷ [])) r (1 + count * (d + k)) (held r (1 + count * (d + k))) (held r (1 + count * (d + k))) y (λ q. refl) (λ q. omega arith);
    })

elements_fill : (n : ℕ) (s m u : Segments) (r : Place) (d k count : ℕ) (es : Elements) → Tagged n s m r d k count → ReplacesObject n m u (a_list r 7 (count * (d + k))) (struct_list d k es) → Fills n s u (span r (1 + count * (d + k))) (a_list r 7 (count * (d + k))) (struct_list d k es)
elements_fill n s m u r d k count es t c =
    let first : Changes s m (held r (1 + count * (d + k))) (object_footprint n m (a_list r 7 (count * (d + k)))) = changes_alike s m (held r (1 + count * (d + k))) (held r (1 + count * (d + k))) (held r (1 + count * (d + k))) (object_footprint n m (a_list r 7 (count * (d + k)))) t.changes (λ q. refl) t.takes in
    fills_of n s u r (1 + count * (d + k)) (a_list r 7 (count * (d + k))) (struct_list d k es) c.means
    (changes_then s m u (held r (1 + count * (d + k))) (object_footprint n m (a_list r 7 (count * (d + k)))) (object_footprint n u (a_list r 7 (count * (d + k)))) first c.changes (object_on n m (a_list r 7 (count * (d + k))) (struct_list d k (zero_elements count k)) t.owned.means))

pub structs_fill : (levels : ℕ) (from : Segments) (there : Option Elements) (path : List Visit) (s m u : Segments) (r : Place) (d k count : ℕ) (old new : ReadLimiter) (x : Result ⊤ Error) → Fits (new_structs count d k) → words_at s r (1 + count * (d + k)) ≡ Some (replicate (1 + count * (d + k)) 0) → m ≡ with_words s r (struct_pointer count d k ∷ [])
    → CopyGives (copy_of from there path) (FillsElements levels m u (sized_at r d k) count) (LeavesElements levels m u (sized_at r d k) count) (limited_words m old) x (limited_words u new)
    → CopyGives (copy_of from (there >>= λ es. Some (struct_list d k es)) path) (λ v. (n : ℕ) → levels ≤ n → Fills n s u (span r (1 + count * (d + k))) (a_list r 7 (count * (d + k))) v) ((t : Tree) × Fills levels s u (span r (1 + count * (d + k))) (a_list r 7 (count * (d + k))) t) (limited_words s old) x (limited_words u new)
structs_fill levels from there path s m u r d k count old new (Ok x) fits z now g =
    record {
      value = struct_list d k g.value;
      there_is = ap (λ (o : Option Elements). o >>= λ es. Some (struct_list d k es)) g.there_is;
      walked = g.walked;
      grows = grows_then s m u (subst (λ (v : Segments). Grows s v) (sym now) (splice_grows s r (struct_pointer count d k ∷ []))) g.grows;
      takes = takes_both s m u old old new (takes_none s m old (ap total_words now ∙ written_total s r (struct_pointer count d k ∷ []))) g.takes;
      made = λ n h. (let t = tagged n s m r d k count fits z now in elements_fill n s m u r d k count g.value t (g.made n (zero_elements count k) h (zero_counted count k) t.owned));
    }
structs_fill levels from there path s m u r d k count old new (Err e) fits z now g =
    record {
      left = (
          let t = tagged levels s m r d k count fits z now in
          let x = g.left levels (zero_elements count k) (omega arith) (zero_counted count k) t.owned in
          (struct_list d k x.0, elements_fill levels s m u r d k count x.0 t x.1)
          );
      takes = takes_both s m u old old new (takes_none s m old (ap total_words now ∙ written_total s r (struct_pointer count d k ∷ []))) g.takes;
      why = g.why;
    }

-- ---- a struct's words and children

pub words_copied : (n : ℕ) (s m : Segments) (r : Place) (d k own : ℕ) (kids : Trees) (vs : List ℕ) → length vs ≡ d → is_some (words_at s r (d + k)) ≡ true → m ≡ with_words s r vs → OwnsObject n s (a_struct r d k) (structure d own kids) → ReplacesObject n s m (a_struct r d k) (structure d (section_of vs) kids)
words_copied n s m r d k own kids vs long here now o =
    let x = there_is s r d (front_there s r (d + k) here d (omega arith)) in
    let before : length (words_there s r d) ≡ d = there_length s r d (front_there s r (d + k) here d (omega arith)) in
    let y : Rewrites s (with_words s r vs) r d = subst (λ (j : ℕ). Rewrites s (with_words s r vs) r j) long (splice_rewrites s r vs) in
    let written : words_at (with_words s r vs) r d ≡ Some vs = written_all s r d (words_there s r d) vs x long before in
    subst (λ (v : Segments). ReplacesObject n s v (a_struct r d k) (structure d (section_of vs) kids)) (sym now) (struct_data n s (with_words s r vs) r d k d own kids vs o y written)

data_copied : (n : ℕ) (from : Segments) (p : Place) (s m : Segments) (r : Place) (d k own : ℕ) (kids : Trees) → is_some (words_at from p d) ≡ true → is_some (words_at s r (d + k)) ≡ true → m ≡ with_words s r (words_there from p d) → OwnsObject n s (a_struct r d k) (structure d own kids) → ReplacesObject n s m (a_struct r d k) (structure d (section_at from p d) kids)
data_copied n from p s m r d k own kids there here now o =
    subst (λ (a : ℕ). ReplacesObject n s m (a_struct r d k) (structure d a kids)) (sym (section_is from p d there)) (words_copied n s m r d k own kids (words_there from p d) (there_length from p d there) here now o)

-- whatever was written of the data: the row is filled then
pub section_copied : (levels : ℕ) (b : Segments) (q : Place) (from : Segments) (there : Option Trees) (path : List Visit) (section : ℕ) (s m u : Segments) (r : Place) (d k : ℕ) (old new : ReadLimiter) (x : Result ⊤ Error) → Grows s m → total_words m ≡ total_words s
    → ((n own : ℕ) (kids : Trees) → OwnsObject n s (a_struct r d k) (structure d own kids) → ReplacesObject n s m (a_struct r d k) (structure d section kids))
    → CopyGives (copy_of from there path) (FillsRow levels m u (sized_at r d k)) (LeavesRow (copy_source levels b q) m u (sized_at r d k)) (limited_words m old) x (limited_words u new)
    → CopyGives (copy_of from there path) (FillsStruct levels s u (sized_at r d k) section) (LeavesStruct levels s u (sized_at r d k)) (limited_words s old) x (limited_words u new)
section_copied levels b q from there path section s m u r d k old new (Ok x) grows same write g =
    record {
      value = g.value;
      there_is = g.there_is;
      walked = g.walked;
      grows = grows_then s m u grows g.grows;
      takes = takes_both s m u old old new (takes_none s m old same) g.takes;
      made = λ n own kids h o. (
          let first = write n own kids o in
          let mine = object_replaced_owned n s m (a_struct r d k) _ _ o first in
          let all = row_whole n m r d k section g.value kids g.made.count mine in
          object_replaced_then n s m u (a_struct r d k) _ _ first (subst (λ (ts : Trees). ReplacesObject n m u (a_struct r d k) (structure d section ts)) all (g.made.first n section k kids h (omega arith) mine))
          );
    }
section_copied levels b q from there path section s m u r d k old new (Err x) grows same write g =
    record {
      left = λ n own kids h o. (
          let first = write n own kids o in
          let mine = object_replaced_owned n s m (a_struct r d k) _ _ o first in
          (section, with_first g.left.copied g.left.read kids, object_replaced_then n s m u (a_struct r d k) _ _ first (g.left.left n section k kids h (omega arith) mine))
          );
      takes = takes_both s m u old old new (takes_none s m old same) g.takes;
      why = g.why;
    }

pub struct_copied : (levels : ℕ) (b : Segments) (q : Place) (from : Segments) (there : Option Trees) (path : List Visit) (p : Place) (s m u : Segments) (r : Place) (d k : ℕ) (old new : ReadLimiter) (x : Result ⊤ Error) → is_some (words_at from p d) ≡ true → is_some (words_at s r (d + k)) ≡ true → m ≡ with_words s r (words_there from p d)
    → CopyGives (copy_of from there path) (FillsRow levels m u (sized_at r d k)) (LeavesRow (copy_source levels b q) m u (sized_at r d k)) (limited_words m old) x (limited_words u new)
    → CopyGives (copy_of from there path) (FillsStruct levels s u (sized_at r d k) (section_at from p d)) (LeavesStruct levels s u (sized_at r d k)) (limited_words s old) x (limited_words u new)
struct_copied levels b q from there path p s m u r d k old new x e f now g =
    section_copied levels b q from there path (section_at from p d) s m u r d k old new x (subst (λ (v : Segments). Grows s v) (sym now) (splice_grows s r (words_there from p d))) (ap total_words now ∙ written_total s r (words_there from p d))
    (λ n own kids o. data_copied n from p s m r d k own kids e f now o) g
