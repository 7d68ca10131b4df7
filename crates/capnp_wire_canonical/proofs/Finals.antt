-- What is written of each kind of object.
use Rattle.std.proofs.Common.{◌≡◌, ℕ, zero, suc, ◌+◌, ◌-◌, ◌*◌, ◌/◌, ◌<◌, ◌≤◌, Bool, true, false, List, [], ◌∷◌, ◌++◌, length, take, drop, set, Option, Some, Result, refl, ap, sym, ◌∙◌, subst, arith, eqb, if◌then◌else◌, ◌==◌}
use Rattle.std.specs.Option.{is_some}
use Rattle.std.specs.Int.{from_le_bytes, w64}
use Rattle.std.proofs.lemmas.Bool.{eqb-true}
use Rattle.std.proofs.Math.Seq.{take-set-lt}
use Rattle.std.proofs.lemmas.List.{length-map, take_more_set}
use Rattle.capnp_model.specs.Chains.{◌>>=◌}
use Rattle.capnp_model.specs.Sections.{words_for, words_of, needed_words}
use Rattle.capnp_model.specs.Segments.{Segments, Place, place, after, word_at, words_at}
use Rattle.capnp_model.specs.Trees.{Tree, structure, pointer_list, struct_list, Trees, none, ◌▸◌, Elements, no_elements, element, tree_count, resized, has_capability, have_capability, elements_have_capability}
use Rattle.capnp_model.specs.Traversal.{tree_at, each, each_element}
use Rattle.capnp_model.specs.Trimming.{stripped, with_pointers, trim, trim_each, trim_elements}
use Rattle.capnp_model.specs.Coverage.{from_each, from_elements}
use Rattle.capnp_model.specs.Encoding.{struct_pointer, list_pointer, pointer}
use Rattle.capnp_model.specs.Visits.{Visit, visits_cost}
use Rattle.capnp_model.proofs.lemmas.Chaining.{bind_some, some_is}
use Rattle.capnp_model.proofs.lemmas.Visits.{cost_together}
use Rattle.capnp_model.proofs.lemmas.TrimFits.{count-trim_each}
use Rattle.capnp_units.specs.declared.errors.Error.{Error}
use Rattle.capnp_units.specs.declared.limiter.ReadLimiter.{ReadLimiter}
use Rattle.capnp_units.specs.Limits.{Spends, Follows}
use Rattle.capnp_units.specs.Sizes.{data_bits}
use Rattle.capnp_wire_objects.specs.Inside.{section_at, words_there}
use Rattle.capnp_wire_objects.specs.Walks.{Walked}
use Rattle.capnp_wire_objects.proofs.lemmas.Walks.{walked_none, walked_both}
use Rattle.capnp_wire_objects.specs.Objects.{AreThere}
use Rattle.capnp_model.proofs.lemmas.CanonicalCopies.{free_resized}
use Rattle.capnp_model.proofs.lemmas.Counts.{each_count, each_element_count}
use Rattle.capnp_wire_canonical.specs.declared.cuts.Cut.{Cut}
use Rattle.capnp_wire_canonical.specs.Objects.{IsCut}
use Rattle.capnp_wire_canonical.specs.Widths.{kept, widest}
use Rattle.capnp_wire_canonical.specs.Writes.{words_view, filled, with_section_at, with_link, with_links, with_cells}
use Rattle.capnp_wire_canonical.specs.Copies.{copy_visits, Behind, Written, WritesCopy, Unwritten, copy_state}
use Rattle.capnp_wire_canonical.proofs.Copying.{behind_more, behind_both, unwritten_later, made_of, over_used}
use Rattle.capnp_wire_canonical.proofs.Parts.{there_length, section_is, word_is, part_there, part_room, front_section}
use Rattle.capnp_wire_canonical.proofs.Kept.{widest_at}
use Rattle.capnp_wire_canonical.proofs.Fronts.{front_words}
use Rattle.capnp_wire_canonical.proofs.lemmas.Putting.{struct_cell, take_with_words}
use Rattle.capnp_wire_canonical.proofs.Nulls.{free, free_cost, free_length, nulls_read, each_nulls, met_both, kept_front, kept_zeros}
use Rattle.capnp_wire_canonical.proofs.Rows.{least_words, least_pointers}
use Rattle.capnp_wire_canonical.proofs.Objects.{filled_length, filled_part, filled_put, struct_written, pointers_written, structs_written}

-- a list's words cost no less
pub own_at_least : (z n : ℕ) → words_for (data_bits z * n) ≤ (if z == 0 then n else words_for (data_bits z * n))
own_at_least z n = by (eqb z 0) refl
  where
    by : (b : Bool) → eqb z 0 ≡ b → words_for (data_bits z * n) ≤ (if b then n else words_for (data_bits z * n))
    by true e = let is : z ≡ 0 = eqb-true z 0 e in let none : words_for (data_bits z * n) ≡ 0 = ap (λ (x : ℕ). words_for (data_bits x * n)) is ∙ (let m : (0 * n + 63) / 64 ≡ 0 = omega arith in m) in omega arith
    by false e = omega arith

-- ---- a struct

module _ (f : Place → Option Tree) (q : Place) (path : List Visit) (d k d' k' section at used end most word : ℕ) (old mid new : List (List ℕ)) (l m : ReadLimiter) (r : Result ℕ Error) where
  pub struct_gives : end ≡ used + (d' + k') → at < used → used ≤ length old → end ≤ length mid → end ≤ most → words_view mid ≡ set (words_view old) at word → Behind (at + 1) old mid → d' ≡ needed_words d section
      → ((ts : Trees) → each f q k ≡ Some ts → tree_count (stripped (trim_each ts)) ≡ k') → ((ts : Trees) → tree_count ts ≡ k' → word ≡ pointer (used - at - 1) (structure d' section ts))
      → WritesCopy (over_used (each f q k) have_capability (λ ts. with_cells used (used + (d' + k')) d' k' (element section (resized k' (trim_each ts)) no_elements)) path end) (copy_state mid l) r (copy_state new m)
      → WritesCopy (record { there = each f q k >>= λ ts. Some (structure d section ts); bad = has_capability; put = λ t. with_link at (trim t); path = path; used = used; most = most }) (copy_state old l) r (copy_state new m)
  unfolding has_capability
  struct_gives is less inside room little put behind words count pointing x =
      made_of (over_used (each f q k) have_capability (λ ts. with_cells used (used + (d' + k')) d' k' (element section (resized k' (trim_each ts)) no_elements)) path end) (record { there = each f q k >>= λ ts. Some (structure d section ts); bad = has_capability; put = λ t. with_link at (trim t); path = path; used = used; most = most }) (copy_state old l) (copy_state mid l) (copy_state new m) r refl refl
      (λ ts e. (
        structure d section ts,
        ap (λ (o : Option Trees). o >>= λ us. Some (structure d section us)) e,
        (λ clean. clean),
        struct_written at used d d' k' section word ts (filled used old) (filled end mid) (filled_length used old inside) (filled_put at used end word old mid less (omega arith) put) (filled_length end mid room ∙ is) words (count ts e) pointing,
      ))
      (λ t e. let a = bind_some (each f q k) _ t e in (a.0, a.1))
      (behind_more (at + 1) end old mid (omega arith) behind) (omega arith) little little x

  -- ---- a list of pointers
  pub pointers_gives : end ≡ used + k → at < used → used ≤ length old → end ≤ length mid → end ≤ most → words_view mid ≡ set (words_view old) at word → Behind (at + 1) old mid → word ≡ list_pointer (used - at - 1) 6 k
      → WritesCopy (over_used (each f q k) have_capability (λ ts. with_links used (used + k) (trim_each ts)) path end) (copy_state mid l) r (copy_state new m)
      → WritesCopy (record { there = each f q k >>= λ ts. Some (pointer_list ts); bad = has_capability; put = λ t. with_link at (trim t); path = path; used = used; most = most }) (copy_state old l) r (copy_state new m)
  unfolding has_capability
  pointers_gives is less inside room little put behind pointing x =
      made_of (over_used (each f q k) have_capability (λ ts. with_links used (used + k) (trim_each ts)) path end) (record { there = each f q k >>= λ ts. Some (pointer_list ts); bad = has_capability; put = λ t. with_link at (trim t); path = path; used = used; most = most }) (copy_state old l) (copy_state mid l) (copy_state new m) r refl refl
      (λ ts e. (
        pointer_list ts,
        ap (λ (o : Option Trees). o >>= λ us. Some (pointer_list us)) e,
        (λ clean. clean),
        pointers_written at used k word ts (filled used old) (filled end mid) (filled_length used old inside) (filled_put at used end word old mid less (omega arith) put) (filled_length end mid room ∙ is) (each_count f q k ts e) pointing,
      ))
      (λ t e. let a = bind_some (each f q k) _ t e in (a.0, a.1))
      (behind_more (at + 1) end old mid (omega arith) behind) (omega arith) little little x

-- ---- an element

-- the words of a section that is longer
pub same_words : (s : Segments) (p : Place) (d d' at : ℕ) (out : List ℕ) → is_some (words_at s p d) ≡ true → d' ≤ d → with_section_at at d' (section_at s p d') out ≡ with_section_at at d' (section_at s p d) out
unfolding with_section_at
same_words s p d d' at out there h =
    let ws = words_there s p d in
    let same : words_of d' (section_at s p d') ≡ words_of d' (section_at s p d) = ap (words_of d') (front_section s p d there d' h) ∙ front_words d' ws ∙ ap (words_of d') (sym (section_is s p d there)) in
    ap (λ (xs : List ℕ). take at out ++ (xs ++ drop (at + d') out)) same

-- nulls that were counted
free_walked : (b : ℕ) (m t : ReadLimiter) → Follows m t b → Spends m t 0 → Walked (free b) m t
free_walked b m t f s = record { cost = 0; cost_is = free_cost b; spends = s; follows = subst (λ (n : ℕ). Follows m t n) (sym (free_length b)) f }

-- the first of pointers that are read
each_front : (f : Place → Option Tree) (p : Place) (a b : ℕ) (us : Trees) → each f p (a + b) ≡ Some us → (ts : Trees) × (each f p a ≡ Some ts)
each_front f p zero b us e = (none, refl)
each_front f p (suc a) b us e =
    let sum : suc (a + b) ≡ suc a + b = omega arith in
    let x = bind_some (f p) _ us (ap (each f p) sum ∙ e) in
    let y = bind_some (each f (after p 1) (a + b)) _ us x.2 in
    let r = each_front f (after p 1) a b y.0 y.1 in
    (x.0 ▸ r.0, ap (λ (o : Option Tree). o >>= λ t. each f (after p 1) a >>= λ ts. Some (t ▸ ts)) x.1 ∙ ap (λ (o : Option Trees). o >>= λ ts. Some (x.0 ▸ ts)) r.1)

-- what was written of the pointers that are kept, and the nulls behind them
module _ (n : ℕ) (s : Segments) (p : Place) (a b at d' used section : ℕ) (old mid new : List (List ℕ)) (l m : ReadLimiter) where
  path_is : (v : Place → List Visit) → from_each v p (a + b) ≡ [] ++ (from_each v p a ++ from_each v (after p a) b)
  path_is v = met_both v p a b

  -- the nulls behind those that are kept
  nulls_behind : is_some (words_at s p (a + b)) ≡ true → kept (words_there s p (a + b)) ≤ a → (each (tree_at n s) (after p a) b ≡ Some (resized b none)) × (from_each (copy_visits n s) (after p a) b ≡ free b)
  nulls_behind there few =
      let ws = words_there s p (a + b) in
      let long = there_length s p (a + b) there in
      nulls_read n s (after p a) b (λ i h.
      let at_i : p.position + a + i ≡ p.position + (a + i) = omega arith in
      ap (λ (q : ℕ). word_at s (place p.segment q)) at_i ∙ word_is s p (a + b) there (a + i) (omega arith) ∙ ap (λ (w : ℕ). Some w) (kept_zeros ws (a + i) (omega arith) (omega arith)))

  -- the pointers that are kept, among them all
  element_made : is_some (words_at s p (a + b)) ≡ true → kept (words_there s p (a + b)) ≤ a → at + (d' + a) ≤ used → used ≤ length old → words_view mid ≡ with_section_at at d' section (words_view old) → (ts : Trees) → each (tree_at n s) p a ≡ Some ts
      → (each (tree_at n s) p (a + b) ≡ Some (resized (a + b) ts))
      × (with_links (at + d') (at + d' + a) (trim_each ts) (filled used mid) ≡ with_cells at (at + (d' + a)) d' a (element section (resized a (trim_each (resized (a + b) ts))) no_elements) (filled used old))
  element_made there few room inside words ts is =
      let f = tree_at n s in
      let nulls = nulls_behind there few in
      let count = each_count f p a ts is in
      let trimmed : tree_count (trim_each ts) ≡ a = count-trim_each ts ∙ count in
      let size : length (filled used old) ≡ used = filled_length used old inside in
      let view = length-map old (from_le_bytes w64) in
      let base : filled used mid ≡ with_section_at at d' section (filled used old) = ap (take used) words ∙ take_with_words at d' used section (words_view old) (omega arith) (omega arith) in (
        each_nulls f p a b ts is nulls.0,
        ap (with_links (at + d') (at + d' + a) (trim_each ts)) base ∙ struct_cell at d' a section (trim_each ts) (filled used old) trimmed (omega arith)
            ∙ ap (λ (us : Trees). with_cells at (at + (d' + a)) d' a (element section us no_elements) (filled used old)) (sym (kept_front a b ts count)),
      )

  pub element_halts : (e : Error) → is_some (words_at s p (a + b)) ≡ true → kept (words_there s p (a + b)) ≤ a → at + (d' + a) ≤ used → used ≤ length old → words_view mid ≡ with_section_at at d' section (words_view old) → Behind (at + d') old mid
      → Unwritten (over_used (each (tree_at n s) p a) have_capability (λ ts. with_links (at + d') (at + d' + a) (trim_each ts)) (from_each (copy_visits n s) p a) used) (copy_state mid l) e (copy_state new m)
      → Unwritten (over_used (each (tree_at n s) p (a + b)) have_capability (λ ts. with_cells at (at + (d' + a)) d' a (element section (resized a (trim_each ts)) no_elements)) (from_each (copy_visits n s) p (a + b)) used) (copy_state old l) e (copy_state new m)
  element_halts e there few room inside words behind x =
      let f = tree_at n s in
      unwritten_later (over_used (each f p a) have_capability (λ ts. with_links (at + d') (at + d' + a) (trim_each ts)) (from_each (copy_visits n s) p a) used)
      (over_used (each f p (a + b)) have_capability (λ ts. with_cells at (at + (d' + a)) d' a (element section (resized a (trim_each ts)) no_elements)) (from_each (copy_visits n s) p (a + b)) used)
      [] (from_each (copy_visits n s) (after p a) b) 0 (at + d') (copy_state old l) (copy_state mid l) (copy_state new m) e (path_is (copy_visits n s)) refl (walked_none l) behind (omega arith) (omega arith)
      (λ us is.
      let ts = each_front f p a b us is in
      let made = element_made there few room inside words ts.0 ts.1 in
      let same : resized (a + b) ts.0 ≡ us = some_is _ _ (sym made.0 ∙ is) in
      let size : length (with_links (at + d') (at + d' + a) (trim_each ts.0) (filled used mid)) ≡ length (with_cells at (at + (d' + a)) d' a (element section (resized a (trim_each us)) no_elements) (filled used old)) =
      ap length made.1 ∙ ap (λ (xs : Trees). length (with_cells at (at + (d' + a)) d' a (element section (resized a (trim_each xs)) no_elements) (filled used old))) same in
      (ts.0, ts.1, omega arith)) x

  pub element_gives : (t : ReadLimiter) (end : ℕ) → is_some (words_at s p (a + b)) ≡ true → kept (words_there s p (a + b)) ≤ a → at + (d' + a) ≤ used → used ≤ length old
      → words_view mid ≡ with_section_at at d' section (words_view old) → Behind (at + d') old mid → Follows m t b → Spends m t 0
      → Written (over_used (each (tree_at n s) p a) have_capability (λ ts. with_links (at + d') (at + d' + a) (trim_each ts)) (from_each (copy_visits n s) p a) used) (copy_state mid l) end (copy_state new m)
      → Written (over_used (each (tree_at n s) p (a + b)) have_capability (λ ts. with_cells at (at + (d' + a)) d' a (element section (resized a (trim_each ts)) no_elements)) (from_each (copy_visits n s) p (a + b)) used) (copy_state old l) end (copy_state new t)
  element_gives t end there few room inside words behind follow spend x =
      let v = copy_visits n s in
      let made = element_made there few room inside words x.what x.there_is in
      let path : from_each v p (a + b) ≡ from_each v p a ++ free b = met_both v p a b ∙ ap (λ (vs : List Visit). from_each v p a ++ vs) (nulls_behind there few).1 in
      let more = x.more in
      let few_all = x.few in
      let sum : x.cost + 0 ≡ x.cost = omega arith in
      record {
        what = resized (a + b) x.what;
        there_is = made.0;
        clean = free_resized (a + b) x.what x.clean;
        words = x.words ∙ made.1;
        behind = behind_both (at + d') end end old mid new (omega arith) (omega arith) behind x.behind;
        bound = x.bound;
        near = x.near;
        more = more;
        cost = x.cost;
        cost_is = ap visits_cost path ∙ cost_together (from_each v p a) (free b) x.cost 0 x.cost_is (free_cost b) ∙ ap (λ (c : ℕ). Some c) sum;
        walked = subst (λ (vs : List Visit). Walked vs l t) (sym path) (walked_both (from_each v p a) (free b) l m t x.walked (free_walked b m t follow spend));
        few = few_all;
      }

-- ---- a list of structs

module _ (n : ℕ) (s : Segments) (p : Place) (words count d k d' k' at used end most word tag : ℕ) (old first mid new : List (List ℕ)) (l m : ReadLimiter) (r : Result ℕ Error) where
  pub structs_gives : is_some (words_at s p words) ≡ true → count * (d + k) ≤ words → end ≡ used + (1 + count * (d' + k')) → at < used → used < end → used ≤ length old → end ≤ length mid → end ≤ most
      → words_view first ≡ set (words_view old) at word → Behind (at + 1) old first → words_view mid ≡ set (words_view first) used tag → Behind (used + 1) first mid
      → d' ≡ widest (λ q. needed_words d (section_at s q d)) p (d + k) count → k' ≡ widest (λ q. kept (words_there s q k)) (after p d) (d + k) count
      → word ≡ list_pointer (used - at - 1) 7 (count * (d' + k')) → tag ≡ struct_pointer count d' k'
      → WritesCopy (over_used (each_element (tree_at n s) p (words_there s p words) d k count) elements_have_capability (λ es. with_cells (used + 1) (used + 1 + count * (d' + k')) d' k' (with_pointers k' (trim_elements es))) (from_elements (copy_visits n s) p d k count) end) (copy_state mid l) r (copy_state new m)
      → WritesCopy (record { there = each_element (tree_at n s) p (words_there s p words) d k count >>= λ es. Some (struct_list d k es); bad = has_capability; put = λ t. with_link at (trim t); path = from_elements (copy_visits n s) p d k count; used = used; most = most }) (copy_state old l) r (copy_state new m)
  unfolding has_capability
  structs_gives there fit is less some inside room little put behind put_tag behind_tag data_is kept_is pointing tagged x =
      let f = tree_at n s in
      let ws = words_there s p words in
      let all = each_element f p ws d k count in
      let view : length (words_view first) ≡ length first = length-map first (from_le_bytes w64) in
      let same = behind.0 in
      let same_too = behind_tag.0 in
      let kept_words : take (used + 1) (filled end mid) ≡ set (filled used old) at word ++ tag ∷ [] =
      filled_part (used + 1) end mid (omega arith) ∙ ap (take (used + 1)) put_tag ∙ take_more_set (words_view first) used tag (omega arith)
      ∙ ap (λ (xs : List ℕ). xs ++ tag ∷ []) (ap (take used) put ∙ take-set-lt used (words_view old) at word less) in
      let size : length (filled end mid) ≡ used + 1 + count * (d' + k') = filled_length end mid room ∙ is ∙ (let sum : used + (1 + count * (d' + k')) ≡ used + 1 + count * (d' + k') = omega arith in sum) in
      made_of (over_used all elements_have_capability (λ es. with_cells (used + 1) (used + 1 + count * (d' + k')) d' k' (with_pointers k' (trim_elements es))) (from_elements (copy_visits n s) p d k count) end) (record { there = all >>= λ es. Some (struct_list d k es); bad = has_capability; put = λ t. with_link at (trim t); path = from_elements (copy_visits n s) p d k count; used = used; most = most }) (copy_state old l) (copy_state mid l) (copy_state new m) r refl refl
      (λ es e. (
        struct_list d k es,
        ap (λ (o : Option Elements). o >>= λ us. Some (struct_list d k us)) e,
        (λ clean. clean),
        structs_written at used count d k d' k' word tag es (filled used old) (filled end mid) (filled_length used old inside) kept_words size (each_element_count f p ws d k count es e)
            (least_words count s p words d k f es there fit e ∙ sym data_is) (least_pointers count n s p ws words d k es there fit e ∙ sym kept_is) pointing tagged,
      ))
      (λ t e. let a = bind_some all _ t e in (a.0, a.1))
      (behind_both (at + 1) (used + 1) end old first mid (omega arith) (omega arith) behind behind_tag) (omega arith) little little x

-- ---- each element of a list is cut alike

pub cut_parts : (s : Segments) (p : Place) (cut : Cut) (words count d k i : ℕ) → i < count → cut.data_words ≡ d → cut.pointers ≡ k → cut.kept_words ≤ d → cut.kept_pointers ≤ k → AreThere s p words → count * (d + k) ≤ words
    → cut.kept_pointers ≡ widest (λ q. kept (words_there s q k)) (after p d) (d + k) count → IsCut s (after p (i * (cut.data_words + cut.pointers))) cut
cut_parts s p cut words count d k i h e f few few_too inside fit is =
    let w = d + k in
    let width : cut.data_words + cut.pointers ≡ w = omega arith in
    let room = part_room i count w h in
    let bound = inside.1 in
    let here = part_there s p words inside.0 (i * w) w (omega arith) in
    let there : AreThere s (after p (i * w)) w = (here, omega arith) in
    let one = widest_at (λ q. kept (words_there s q k)) (after p d) w count i h in
    let swap : p.position + d + i * w ≡ p.position + i * w + d = omega arith in
    let same : kept (words_there s (after (after p d) (i * w)) k) ≡ kept (words_there s (after (after p (i * w)) d) k) = ap (λ (j : ℕ). kept (words_there s (place p.segment j) k)) swap in
    let own : kept (words_there s (after (after p (i * w)) d) k) ≤ cut.kept_pointers = omega arith in
    let cut_there : AreThere s (after p (i * w)) (cut.data_words + cut.pointers) = subst (λ (j : ℕ). AreThere s (after p (i * w)) j) (sym width) there in
    let cut_own : kept (words_there s (after (after p (i * w)) cut.data_words) cut.pointers) ≤ cut.kept_pointers =
    subst (λ (j : ℕ). kept (words_there s (after (after p (i * w)) j) cut.pointers) ≤ cut.kept_pointers) (sym e) (subst (λ (j : ℕ). kept (words_there s (after (after p (i * w)) d) j) ≤ cut.kept_pointers) (sym f) own) in
    let all : IsCut s (after p (i * w)) cut = (cut_there, omega arith, omega arith, cut_own) in
    subst (λ (j : ℕ). IsCut s (after p (i * j)) cut) (sym width) all
