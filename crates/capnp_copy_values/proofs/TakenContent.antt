-- The content of a struct that is written over, with zeros and nulls behind it.
use Rattle.std.proofs.Common.{◌≡◌, ℕ, zero, suc, ◌+◌, ◌*◌, ◌%◌, ◌^◌, ◌<◌, ◌≤◌, ◌⊎◌, min, Bool, true, false, cond, ltb, List, [], ◌∷◌, ◌++◌, length, map, take, replicate, Some, refl, ap, sym, ◌∙◌, subst, arith}
use Rattle.std.specs.Option.{is_some}
use Rattle.std.proofs.lemmas.Bool.{ltb-true, ltb-false}
use Rattle.std.proofs.lemmas.List.{length-append, length-replicate}
use Rattle.capnp_model.specs.Bytes.{words_in_bytes, AreBytes}
use Rattle.capnp_model.specs.Sections.{number_of, section_of, words_for}
use Rattle.capnp_model.specs.Segments.{Segments, Place, after, words_at}
use Rattle.capnp_model.specs.Pointers.{a_struct}
use Rattle.capnp_model.specs.Trees.{null, structure, Trees, none, ◌▸◌, tree_count, child, resized}
use Rattle.capnp_model.specs.Traversal.{tree_at, each}
use Rattle.capnp_model.specs.Coverage.{from_each}
use Rattle.capnp_model.specs.Visits.{visits}
use Rattle.capnp_model.proofs.lemmas.SectionElements.{section_of-zeros}
use Rattle.capnp_units.specs.declared.errors.Error.{Error}
use Rattle.capnp_units.specs.declared.limiter.ReadLimiter.{ReadLimiter}
use Rattle.capnp_wire_objects.specs.Places.{place_view}
use Rattle.capnp_wire.proofs.lemmas.Bytes.{number_of-take}
use Rattle.capnp_model_writes.specs.Children.{with_first}
use Rattle.capnp_model_writes.specs.Footprints.{OwnsObject, object_footprint}
use Rattle.capnp_model_writes.specs.Changes.{Replaces, ReplacesObject}
use Rattle.capnp_model_writes.specs.Writes.{spliced, with_words}
use Rattle.capnp_model_writes.proofs.lemmas.Algebra.{changes_nothing}
use Rattle.capnp_model_writes.proofs.lemmas.Lift.{object_replaced_owned, object_replaced_then}
use Rattle.capnp_model_writes.proofs.lemmas.Rows.{after_none}
use Rattle.capnp_model_writes.proofs.lemmas.Spans.{grows_then}
use Rattle.capnp_model_writes.proofs.lemmas.Splices.{splice_words, spliced_whole}
use Rattle.capnp_model_writes.proofs.lemmas.Turns.{struct_counted, struct_here, struct_next, struct_done}
use Rattle.capnp_model_writes.proofs.lemmas.Writing.{struct_words}
use Rattle.capnp_copy_arenas.specs.Blobs.{whole_of, last_of, front_of, with_bytes}
use Rattle.capnp_copy_arenas.specs.Clearing.{ClearsValue}
use Rattle.capnp_copy_arenas.specs.Structs.{object_of_struct}
use Rattle.capnp_copy_arenas.specs.declared.fields.StructPlace.{StructPlace}
use Rattle.capnp_copy_arenas.proofs.lemmas.BlobNumbers.{front_words_length, front_section, all_words, number_fits}
use Rattle.capnp_copy_arenas.proofs.lemmas.RoomLaws.{some_of, sizes_grow}
use Rattle.capnp_wire_objects.specs.Walks.{Stopped}
use Rattle.capnp_model.proofs.lemmas.ReadFits.{words_length}
use Rattle.capnp_copy_values.specs.Copies.{Copied, Refused, Unplaced, FillsRow, LeavesRow, StructSource, copy_source, limited_words, sized_at}
use Rattle.capnp_copy_values.specs.Contents.{fitting, TakesContent, TakesPart, ClearsRest, SetsSection}
use Rattle.capnp_copy_values.proofs.Taking.{total_alike, takes_none, takes_same, takes_both}

-- ---- zeros behind words

spliced_both : (a b ws : List ℕ) → spliced (length a) b (spliced 0 a ws) ≡ spliced 0 (a ++ b) ws
unfolding spliced
spliced_both a b [] = refl
spliced_both [] b (w ∷ ws) = refl
spliced_both (v ∷ a) b (w ∷ ws) = ap (λ (xs : List ℕ). v ∷ xs) (spliced_both a b ws)

section_zeros : (vs : List ℕ) (m : ℕ) → section_of (vs ++ replicate m 0) ≡ section_of vs
section_zeros [] m = section_of-zeros m
section_zeros (v ∷ vs) m = ap (λ (x : ℕ). x * 2 ^ 64 + v % 2 ^ 64) (section_zeros vs m)

-- ---- data

-- words that are written over the first of a struct's data, so many, of which these were written before
pub record Front (n : ℕ) (s u : Segments) (r : Place) (d k : ℕ) (vs : List ℕ) (kids : Trees) : Type 0 where
  pub old : List ℕ
  pub long : length old ≡ d
  pub words : words_at u r d ≡ Some (spliced 0 vs old)
  pub replaced : ReplacesObject n s u (a_struct r d k) (structure d (section_of (spliced 0 vs old)) kids)

front_first : (n : ℕ) (s : Segments) (r : Place) (d k own : ℕ) (vs : List ℕ) (kids : Trees) → length vs ≤ d → is_some (words_at s r d) ≡ true → OwnsObject n s (a_struct r d k) (structure d own kids) → Front n s (with_words s r vs) r d k vs kids
front_first n s r d k own vs kids l there o =
    let x = some_of s r d there in
    let fits : 0 + length vs ≤ d = omega (arith, l) in
    record {
      old = x.0;
      long = words_length s r d x.0 x.1;
      words = subst (λ (q : Place). words_at (with_words s q vs) r d ≡ Some (spliced 0 vs x.0)) (after_none r) (splice_words s r 0 d vs x.0 fits x.1);
      replaced = subst (λ (q : Place). ReplacesObject n s (with_words s q vs) (a_struct r d k) (structure d (section_of (spliced 0 vs x.0)) kids)) (after_none r) (struct_words n s r d k 0 d own kids vs x.0 fits x.1 o);
    }

front_more : (n : ℕ) (s u : Segments) (r : Place) (d k i own : ℕ) (vs ws : List ℕ) (kids : Trees) → length vs ≡ i → i + length ws ≤ d → OwnsObject n s (a_struct r d k) (structure d own kids) → Front n s u r d k vs kids → Front n s (with_words u (after r i) ws) r d k (vs ++ ws) kids
front_more n s u r d k i own vs ws kids long l o x =
    let mine = object_replaced_owned n s u (a_struct r d k) _ _ o x.replaced in
    let both : spliced i ws (spliced 0 vs x.old) ≡ spliced 0 (vs ++ ws) x.old = ap (λ (j : ℕ). spliced j ws (spliced 0 vs x.old)) (sym long) ∙ spliced_both vs ws x.old in
    let next = struct_words n u r d k i d _ kids ws (spliced 0 vs x.old) l x.words mine in
    record {
      old = x.old;
      long = x.long;
      words = splice_words u r i d ws (spliced 0 vs x.old) l x.words ∙ ap (λ (xs : List ℕ). Some xs) both;
      replaced = object_replaced_then n s u (with_words u (after r i) ws) (a_struct r d k) _ _ x.replaced (subst (λ (xs : List ℕ). ReplacesObject n u (with_words u (after r i) ws) (a_struct r d k) (structure d (section_of xs) kids)) both next);
    }

-- all of them
front_all : (n : ℕ) (s u : Segments) (r : Place) (d k section : ℕ) (vs : List ℕ) (kids : Trees) → length vs ≡ d → section_of vs ≡ section → Front n s u r d k vs kids → ReplacesObject n s u (a_struct r d k) (structure d section kids)
front_all n s u r d k section vs kids long is x =
    let whole : spliced 0 vs x.old ≡ vs = spliced_whole vs x.old (long ∙ sym x.long) in
    subst (λ (j : ℕ). ReplacesObject n s u (a_struct r d k) (structure d j kids)) (ap section_of whole ∙ is) x.replaced

-- bytes, and zeros behind them
pub data_written : (n : ℕ) (s m u : Segments) (r : Place) (d k own w rest : ℕ) (kids : Trees) (bytes : List ℕ) → AreBytes bytes → w ≡ words_for (8 * length bytes) → w + rest ≡ d → is_some (words_at s r d) ≡ true → m ≡ with_bytes s r w bytes → u ≡ with_words m (after r w) (replicate rest 0)
    → OwnsObject n s (a_struct r d k) (structure d own kids) → ReplacesObject n s u (a_struct r d k) (structure d (number_of 8 bytes) kids)
data_written n s m u r d k own w rest kids bytes small count sum there first last o =
    subst (λ (v : Segments). ReplacesObject n s v (a_struct r d k) (structure d (number_of 8 bytes) kids)) (sym (last ∙ ap (λ (v : Segments). with_words v (after r w) (replicate rest 0)) first)) (by_cases (ltb (whole_of bytes) w) refl)
  where
    long : length (words_in_bytes (whole_of bytes) (front_of bytes)) ≡ whole_of bytes
    long = front_words_length bytes

    nulls : length (replicate {A = ℕ} rest 0) ≡ rest
    nulls = length-replicate {A = ℕ} rest 0

    by_cases : (b : Bool) → ltb (whole_of bytes) w ≡ b
        → ReplacesObject n s (with_words (cond b (with_words (with_words s r (words_in_bytes (whole_of bytes) (front_of bytes))) (after r (whole_of bytes)) (last_of bytes ∷ [])) (with_words s r (words_in_bytes (whole_of bytes) (front_of bytes)))) (after r w) (replicate rest 0)) (a_struct r d k) (structure d (number_of 8 bytes) kids)
    by_cases true less =
        let l = ltb-true (whole_of bytes) w less in
        let vs = words_in_bytes (whole_of bytes) (front_of bytes) in
        let one : w ≡ whole_of bytes + 1 = omega (arith, l, count) in
        let x = front_first n s r d k own (words_in_bytes (whole_of bytes) (front_of bytes)) kids (omega (arith, long, one, sum)) there o in
        let y = front_more n s (with_words s r (words_in_bytes (whole_of bytes) (front_of bytes))) r d k (whole_of bytes) own (words_in_bytes (whole_of bytes) (front_of bytes)) (last_of bytes ∷ []) kids long (omega (arith, one, sum)) o x in
        let wide : length (words_in_bytes (whole_of bytes) (front_of bytes) ++ last_of bytes ∷ []) ≡ w = length-append (words_in_bytes (whole_of bytes) (front_of bytes)) (last_of bytes ∷ []) ∙ omega (arith, long, one) in
        let z = front_more n s (with_words (with_words s r (words_in_bytes (whole_of bytes) (front_of bytes))) (after r (whole_of bytes)) (last_of bytes ∷ [])) r d k w own (words_in_bytes (whole_of bytes) (front_of bytes) ++ last_of bytes ∷ []) (replicate rest 0) kids wide (omega (arith, nulls, sum)) o y in
        let all : length ((words_in_bytes (whole_of bytes) (front_of bytes) ++ last_of bytes ∷ []) ++ replicate rest 0) ≡ d = length-append (words_in_bytes (whole_of bytes) (front_of bytes) ++ last_of bytes ∷ []) (replicate rest 0) ∙ omega (arith, wide, nulls, sum) in
        front_all n s _ r d k (number_of 8 bytes) ((words_in_bytes (whole_of bytes) (front_of bytes) ++ last_of bytes ∷ []) ++ replicate rest 0) kids all (section_zeros (words_in_bytes (whole_of bytes) (front_of bytes) ++ last_of bytes ∷ []) rest ∙ all_words bytes small) z
    by_cases false least =
        let l = ltb-false (whole_of bytes) w least in
        let same : w ≡ whole_of bytes = omega (arith, l, count) in
        let full : length bytes ≤ 8 * whole_of bytes = omega (arith, count, same) in
        let x = front_first n s r d k own (words_in_bytes (whole_of bytes) (front_of bytes)) kids (omega (arith, long, same, sum)) there o in
        let wide : length (words_in_bytes (whole_of bytes) (front_of bytes)) ≡ w = long ∙ sym same in
        let z = front_more n s (with_words s r (words_in_bytes (whole_of bytes) (front_of bytes))) r d k w own (words_in_bytes (whole_of bytes) (front_of bytes)) (replicate rest 0) kids wide (omega (arith, nulls, sum)) o x in
        let all : length (words_in_bytes (whole_of bytes) (front_of bytes) ++ replicate rest 0) ≡ d = length-append (words_in_bytes (whole_of bytes) (front_of bytes)) (replicate rest 0) ∙ omega (arith, wide, nulls, sum) in
        front_all n s _ r d k (number_of 8 bytes) (words_in_bytes (whole_of bytes) (front_of bytes) ++ replicate rest 0) kids all (section_zeros (words_in_bytes (whole_of bytes) (front_of bytes)) rest ∙ front_section bytes small ∙ number_fits bytes (8 * whole_of bytes) full) z

-- the bytes that fit
pub bytes_fit : (bytes : List ℕ) (d : ℕ) → number_of 8 (take (min (length bytes) (8 * d)) bytes) ≡ number_of 8 bytes % 2 ^ (64 * d)
bytes_fit bytes d = number_of-take 8 (min (length bytes) (8 * d)) bytes ∙ by_cases (ltb (length bytes) (8 * d)) refl
  where
    by_cases : (b : Bool) → ltb (length bytes) (8 * d) ≡ b → number_of 8 bytes % 2 ^ (8 * min (length bytes) (8 * d)) ≡ number_of 8 bytes % 2 ^ (64 * d)
    by_cases true less =
        let l = ltb-true (length bytes) (8 * d) less in
        let is : min (length bytes) (8 * d) ≡ length bytes = omega (arith, l) in
        let wide : 8 * (8 * d) ≡ 64 * d = omega arith in
        ap (λ (j : ℕ). number_of 8 bytes % 2 ^ (8 * j)) is ∙ number_fits bytes (length bytes) (omega arith) ∙ sym (number_fits bytes (8 * d) (omega (arith, l))) ∙ ap (λ (j : ℕ). number_of 8 bytes % 2 ^ j) wide
    by_cases false least =
        let l = ltb-false (length bytes) (8 * d) least in
        let is : 8 * min (length bytes) (8 * d) ≡ 64 * d = omega (arith, l) in
        ap (λ (j : ℕ). number_of 8 bytes % 2 ^ j) is

-- ---- pointers behind the first

child_past : (m i : ℕ) (kids : Trees) → m ≤ i → child (resized m kids) i ≡ null
child_past zero i kids l = refl
child_past (suc m) zero kids l = absurd (omega (arith, l))
child_past (suc m) (suc i) none l = child_past m i none (omega (arith, l))
child_past (suc m) (suc i) (t ▸ kids) l = child_past m i kids (omega (arith, l))

first_same : (m : ℕ) (kids : Trees) → m ≤ tree_count kids → with_first m (resized m kids) kids ≡ kids
first_same zero kids l = refl
first_same (suc m) none l = absurd (omega (arith, l))
first_same (suc m) (t ▸ kids) l = ap (λ (ts : Trees). t ▸ ts) (first_same m kids (omega (arith, l)))

first_taken : (m : ℕ) (ts kids : Trees) → tree_count ts ≡ m → m ≤ tree_count kids → resized m (with_first m ts kids) ≡ ts
first_taken zero none kids e l = refl
first_taken zero (t ▸ ts) kids e l = absurd (omega (arith, e))
first_taken (suc m) none kids e l = absurd (omega (arith, e))
first_taken (suc m) (t ▸ ts) none e l = absurd (omega (arith, l))
first_taken (suc m) (t ▸ ts) (u ▸ kids) e l = ap (λ (us : Trees). t ▸ us) (first_taken m ts kids (omega (arith, e)) (omega (arith, l)))

-- those behind the first, up to the ith, are null
pub RestSoFar : Segments → Segments → Place → ℕ → ℕ → ℕ → ℕ → Type 0
RestSoFar s u r d k m i = (n own : ℕ) (kids : Trees) → OwnsObject n s (a_struct r d k) (structure d own kids) → ReplacesObject n s u (a_struct r d k) (structure d own (with_first i (resized m kids) kids))

pub rest_begun : (s : Segments) (r : Place) (d k m : ℕ) → m ≤ k → RestSoFar s s r d k m m
unfolding RestSoFar
rest_begun s r d k m l = λ n own kids o. (
    let count = struct_counted n s r d k d own kids o in
    let same = first_same m kids (omega (arith, l, count)) in
    subst (λ (ts : Trees). ReplacesObject n s s (a_struct r d k) (structure d own ts)) (sym same) (record { means = o.means; changes = changes_nothing s (object_footprint n s (a_struct r d k)) })
    )

pub rest_next : (s u v : Segments) (r : Place) (d k m i : ℕ) → m ≤ i → i < k → RestSoFar s u r d k m i → ClearsValue u v (after (after r d) i) → RestSoFar s v r d k m (i + 1)
unfolding RestSoFar
rest_next s u v r d k m i low l h c = λ n own kids o. (
    let now = h n own kids o in
    let slot = struct_here n s u r d k i d own (resized m kids) kids l o now in
    let one = c n _ slot in
    let one' : Replaces n u v (after (after r d) i) (child (resized m kids) i) = subst (Replaces n u v (after (after r d) i)) (sym (child_past m i kids low)) one in
    let number : suc i ≡ i + 1 = omega arith in
    subst (λ (j : ℕ). ReplacesObject n s v (a_struct r d k) (structure d own (with_first j (resized m kids) kids))) number (struct_next n s u v r d k i d own (resized m kids) kids l o now one')
    )

pub rest_ended : (s u : Segments) (r : Place) (d k m i : ℕ) → i ≡ k → RestSoFar s u r d k m i → (n own : ℕ) (kids : Trees) → OwnsObject n s (a_struct r d k) (structure d own kids) → ReplacesObject n s u (a_struct r d k) (structure d own (resized k (resized m kids)))
unfolding RestSoFar
rest_ended s u r d k m i all h n own kids o =
    let whole : with_first i (resized m kids) kids ≡ resized k (resized m kids) = ap (λ (j : ℕ). with_first j (resized m kids) kids) all ∙ struct_done n s r d k d own (resized m kids) kids o in
    subst (λ (ts : Trees). ReplacesObject n s u (a_struct r d k) (structure d own ts)) whole (h n own kids o)

-- ---- the whole

-- what was written of the data
written_first : (s m : Segments) (o : StructPlace) (section : ℕ) → SetsSection s m o section → (n own : ℕ) (kids : Trees) → OwnsObject n s (object_of_struct o) (structure o.data_words own kids)
    → ReplacesObject n s m (object_of_struct o) (structure o.data_words section kids) × OwnsObject n m (object_of_struct o) (structure o.data_words section kids)
written_first s m o section w n own kids h = let first = w n own kids h in (first, object_replaced_owned n s m (object_of_struct o) _ _ h first)

pub content_refused : (levels : ℕ) (from : Segments) (x : StructSource) (s m u : Segments) (o : StructPlace) (k : ℕ) (old new : ReadLimiter) (e : Error) → k ≡ min x.pointers o.pointers → SetsSection s m o (fitting o.data_words x.section) → map length m ≡ map length s
    → Refused from (from_each (visits levels from) (place_view x.first) k) (LeavesRow (copy_source levels from (place_view x.first)) m u (sized_at (place_view o.start) o.data_words k)) (limited_words m old) e (limited_words u new)
    → Refused from (from_each (visits levels from) (place_view x.first) (min x.pointers o.pointers)) (TakesPart (copy_source levels from x) s u o) (limited_words s old) e (limited_words u new)
content_refused levels from x s m u o k old new e shared w sizes g = record {
  left = record {
    grows = grows_then s m u (sizes_grow s m sizes) g.left.grows;
    copied = g.left.copied;
    few = subst (λ (j : ℕ). g.left.copied ≤ j) shared g.left.few;
    read = g.left.read;
    read_is = g.left.read_is;
    left = λ n own kids l h. (
        let first = written_first s m o (fitting o.data_words x.section) w n own kids h in
        let less : k ≤ o.pointers = omega (arith, shared) in
        object_replaced_then n s m u (object_of_struct o) _ _ first.0 (g.left.left n (fitting o.data_words x.section) o.pointers kids l less first.1)
        );
  };
  takes = takes_both s m u old old new (takes_none s m old (sym (total_alike s m sizes))) g.takes;
  why = subst (λ (j : ℕ). Stopped (from_each (visits levels from) (place_view x.first) j) old e new ⊎ Unplaced from (from_each (visits levels from) (place_view x.first) j) u old e new) shared g.why;
}

pub content_copied : (levels : ℕ) (from : Segments) (x : StructSource) (s m u v : Segments) (o : StructPlace) (k : ℕ) (old new : ReadLimiter) → k ≡ min x.pointers o.pointers → SetsSection s m o (fitting o.data_words x.section) → map length m ≡ map length s
    → Copied (each (tree_at levels from) (place_view x.first) k) (from_each (visits levels from) (place_view x.first) k) (FillsRow levels m u (sized_at (place_view o.start) o.data_words k)) (limited_words m old) (limited_words u new) → ClearsRest u v o k → map length v ≡ map length u
    → Copied (each (tree_at levels from) (place_view x.first) (min x.pointers o.pointers)) (from_each (visits levels from) (place_view x.first) (min x.pointers o.pointers)) (TakesContent levels s v o x.section) (limited_words s old) (limited_words v new)
content_copied levels from x s m u v o k old new shared w sizes g c same =
    subst (λ (j : ℕ). Copied (each (tree_at levels from) (place_view x.first) j) (from_each (visits levels from) (place_view x.first) j) (TakesContent levels s v o x.section) (limited_words s old) (limited_words v new)) shared (record {
      value = g.value;
      there_is = g.there_is;
      walked = g.walked;
      grows = grows_then s m v (sizes_grow s m sizes) (grows_then m u v g.grows (sizes_grow u v same));
      takes = takes_same s u v old new (sym (total_alike u v same)) (takes_both s m u old old new (takes_none s m old (sym (total_alike s m sizes))) g.takes);
      made = λ n own kids l h. (
          let first = written_first s m o (fitting o.data_words x.section) w n own kids h in
          let less : k ≤ o.pointers = omega (arith, shared) in
          let row = g.made.first n (fitting o.data_words x.section) o.pointers kids l less first.1 in
          let mine = object_replaced_owned n m u (object_of_struct o) _ _ first.1 row in
          let rest = c n (fitting o.data_words x.section) (with_first k g.value kids) mine in
          let count = struct_counted n s (place_view o.start) o.data_words o.pointers o.data_words own kids h in
          let taken : resized k (with_first k g.value kids) ≡ g.value = first_taken k g.value kids g.made.count (omega (arith, less, count)) in
          let all = object_replaced_then n m u v (object_of_struct o) _ _ row rest in
          object_replaced_then n s m v (object_of_struct o) _ _ first.0 (subst (λ (ts : Trees). ReplacesObject n m v (object_of_struct o) (structure o.data_words (fitting o.data_words x.section) (resized o.pointers ts))) taken all)
          );
    })
