-- Whether objects stand that are paid for.
use Rattle.std.proofs.Common.{◌≡◌, ℕ, zero, suc, ◌+◌, ◌-◌, ◌^◌, ◌<◌, ◌≤◌, true, List, [], ◌∷◌, ◌++◌, length, Option, Some, Result, refl, ap, sym, ◌∙◌, subst, inl, inr, arith}
use Rattle.std.specs.Prelude.{unwrap_or}
use Rattle.std.specs.List.{slice_get}
use Rattle.std.specs.Option.{ok_or, is_some}
use Rattle.std.proofs.lemmas.List.{length-append}
use Rattle.capnp_model.specs.Kinds.{OutOfBounds}
use Rattle.capnp_model.specs.Chains.{◌>>=◌}
use Rattle.capnp_model.specs.Sections.{words_of, needed_words}
use Rattle.capnp_model.specs.Segments.{Segments, Place, place, after, word_at, words_at}
use Rattle.capnp_model.specs.Spelling.{AreWords}
use Rattle.capnp_model.specs.Trees.{Tree, null, structure, Trees, none, ◌▸◌, tree_count, resized, has_capability, have_capability}
use Rattle.capnp_model.specs.Traversal.{tree_at, each}
use Rattle.capnp_model.specs.Coverage.{from_each}
use Rattle.capnp_model.specs.Visits.{visits}
use Rattle.capnp_model.specs.Trimming.{stripped, trim, trim_each}
use Rattle.capnp_model.specs.Encoding.{list_pointer, pointer, body, links, bodies}
use Rattle.capnp_model.proofs.lemmas.Chaining.{bind_some, bind_ok, ok_or_some, some_is}
use Rattle.capnp_model.proofs.lemmas.Numbers.{length-numbers_in}
use Rattle.capnp_model.proofs.lemmas.RoundTrip.{links_length}
use Rattle.capnp_model.proofs.lemmas.TrimFits.{count-trim_each}
use Rattle.capnp_wire_objects.specs.declared.place.Place as wire
use Rattle.capnp_wire_objects.specs.declared.object.Object.{Object}
use Rattle.capnp_wire_objects.specs.declared.object.Object.TheVariants as object
use Rattle.capnp_wire_objects.specs.Places.{place_view}
use Rattle.capnp_wire_objects.specs.Objects.{AreThere}
use Rattle.capnp_wire_objects.specs.Inside.{section_at, words_there}
use Rattle.capnp_wire_objects.proofs.lemmas.Walking.{object_found, link_tree}
use Rattle.capnp_units.specs.declared.errors.Error.{Error}
use Rattle.capnp_units.specs.declared.limiter.ReadLimiter.{ReadLimiter}
use Rattle.capnp_model.proofs.lemmas.Counts.{each_count}
use Rattle.capnp_model.proofs.lemmas.Stripping.{resized_all}
use Rattle.capnp_wire_canonical.specs.Reaches.{reach}
use Rattle.capnp_wire_canonical.specs.Widths.{kept, widest}
use Rattle.capnp_wire_canonical.specs.Standing.{Hold, Stands, StandEach, segment_words, IsSmall, HasHead, LeadsToObject}
use Rattle.capnp_wire_canonical.specs.Checks.{object_test, row_test, Tests}
use Rattle.capnp_wire_canonical.proofs.lemmas.Checking.{made_of}
use Rattle.capnp_wire_canonical.proofs.Holding.{hold_parts, hold_both, hold_at, hold_none, hold_own, place_within}
use Rattle.capnp_wire_canonical.proofs.Kept.{widest_one}
use Rattle.capnp_wire_canonical.proofs.Nulls.{some_read, kept_count}
use Rattle.capnp_wire_canonical.proofs.Objects.{stripped_front}
use Rattle.capnp_wire_canonical.proofs.Parts.{front_there, part_there, there_length}
use Rattle.capnp_wire_canonical.proofs.Parts as parts
use Rattle.capnp_wire_canonical.proofs.StandingPlaces.{IsThere}

-- ---- the pointer's word

pub lead_word : (s : Segments) (p : Place) (o : Object) → LeadsToObject s p o → (w : ℕ) × (word_at s p ≡ Some w)
lead_word s p o lead =
    let g = object_found s p (record { pads = lead.0; object = o }) lead.1 in
    let w = bind_ok (ok_or (word_at s p) OutOfBounds) _ g.0 g.1 in
    (w.0, ok_or_some _ _ _ w.1)

pub word_matches : (s : Segments) (p : Place) (r x : ℕ) (w : ℕ) → word_at s p ≡ Some w → r ≡ unwrap_or (word_at s p) 0 → r ≡ x → word_at s p ≡ Some x
word_matches s p r x w e is same = e ∙ ap (λ (v : ℕ). Some v) (ap (λ (o : Option ℕ). unwrap_or o 0) (sym e) ∙ sym is ∙ same)

pub word_differs : (s : Segments) (p : Place) (r x : ℕ) → r ≡ unwrap_or (word_at s p) 0 → (r ≡ x → ⊥) → word_at s p ≡ Some x → ⊥
word_differs s p r x is apart e = apart (is ∙ ap (λ (o : Option ℕ). unwrap_or o 0) e)

word_bound : (ws : List ℕ) (i w : ℕ) → AreWords ws → slice_get ws i ≡ Some w → w < 2 ^ 64
word_bound [] i w h e = absurd cc
word_bound (v ∷ ws) zero w h e = subst (λ (x : ℕ). x < 2 ^ 64) (some_is _ _ e) h.0
word_bound (v ∷ ws) (suc i) w h e = word_bound ws i w h.1 e

-- a word of words of 64 bits
pub word_small : (s : Segments) (p : Place) (w : ℕ) → AreWords (segment_words s p.segment) → word_at s p ≡ Some w → w < 2 ^ 64
unfolding segment_words
word_small s p w whole e =
    let a = bind_some (slice_get s p.segment) _ w e in
    let is : unwrap_or (slice_get s p.segment) [] ≡ a.0 = ap (λ (o : Option (List ℕ)). unwrap_or o []) a.1 in
    word_bound a.0 p.position w (subst AreWords is whole) a.2

-- a word of a pointer has no room for so large a count
pub wide_pointer : (s : Segments) (p : Place) (gap z n : ℕ) → AreWords (segment_words s p.segment) → 2 ^ 29 ≤ n → word_at s p ≡ Some (list_pointer gap z n) → ⊥
wide_pointer s p gap z n whole large e =
    let bound = word_small s p (list_pointer gap z n) whole e in
    omega arith

-- among so few words each place is within reach
pub within_reach : (s : Segments) (p : Place) (n head : ℕ) → IsSmall s p → HasHead s p n head → head < 2 ^ 29
within_reach s p n head small given =
    let there = given.there in
    let bound = place_within s (place p.segment head) 0 there.0 in
    omega arith

-- ---- null

pub null_stands : (s : Segments) (p : Place) (head : ℕ) → word_at s p ≡ Some 0 → HasHead s p 1 head → Stands s p head (trim null) head
unfolding trim
null_stands s p head e given =
    let there = given.there in
    let ends : head ≡ head + 0 = omega arith in
    record { link = e; targets = hold_none s (place p.segment head) there.0; ends = ends }

pub null_word : (s : Segments) (p : Place) → LeadsToObject s p object.Null → word_at s p ≡ Some 0
null_word s p lead =
    let g = object_found s p (record { pads = lead.0; object = object.Null }) lead.1 in
    let w = lead_word s p object.Null lead in
    by w.0 w.1 (link_tree s p g.0 g.1 object.Null g.2 0)
  where
    by : (w : ℕ) → word_at s p ≡ Some w → tree_at 1 s p ≡ Some null → word_at s p ≡ Some 0
    by zero e is = e
    by (suc w) e is = let some = some_read 1 s p (suc w) null e (omega arith) is in absurd cc

-- ---- a struct

pub body_both : (s : Segments) (q : Place) (d k behind end : ℕ) (us : Trees) → is_some (words_at s q d) ≡ true → AreWords (segment_words s q.segment) → tree_count us ≡ k → behind ≡ q.position + (d + k) → StandEach s (after q d) behind us end
    → Hold s q (words_of d (section_at s q d) ++ (links 0 0 us ++ bodies us)) × (end ≡ q.position + length (words_of d (section_at s q d) ++ (links 0 0 us ++ bodies us)))
body_both s q d k behind end us there small count at x =
    let ws = words_of d (section_at s q d) in
    let ls = links 0 0 us in
    let long = length-numbers_in 64 d (section_at s q d) in
    let front = links_length us 0 0 in
    let none_before : behind - (q.position + d) - tree_count us ≡ 0 = omega arith in
    let row : Hold s (after q d) ls = subst (λ (j : ℕ). Hold s (after q d) (links 0 j us)) none_before x.row in
    let at_links : q.position + d ≡ q.position + length ws = omega arith in
    let at_targets : behind ≡ q.position + length ws + length ls = omega arith in
    let sizes = length-append ws (ls ++ bodies us) in
    let size = length-append ls (bodies us) in
    let last = x.ends in (
      hold_both s q ws (ls ++ bodies us) (hold_own s q d there small) (hold_both s (after q (length ws)) ls (bodies us) (hold_at s q.segment (q.position + d) (q.position + length ws) ls at_links row) (hold_at s q.segment behind (q.position + length ws + length ls) (bodies us) at_targets x.targets)),
      omega arith,
    )

pub body_parts : (s : Segments) (q : Place) (d k behind end : ℕ) (us : Trees) → tree_count us ≡ k → behind ≡ q.position + (d + k) → Hold s q (words_of d (section_at s q d) ++ (links 0 0 us ++ bodies us)) → end ≡ q.position + length (words_of d (section_at s q d) ++ (links 0 0 us ++ bodies us))
    → StandEach s (after q d) behind us end
body_parts s q d k behind end us count at h last =
    let ws = words_of d (section_at s q d) in
    let ls = links 0 0 us in
    let long = length-numbers_in 64 d (section_at s q d) in
    let front = links_length us 0 0 in
    let none_before : 0 ≡ behind - (q.position + d) - tree_count us = omega arith in
    let at_links : q.position + length ws ≡ q.position + d = omega arith in
    let at_targets : q.position + length ws + length ls ≡ behind = omega arith in
    let sizes = length-append ws (ls ++ bodies us) in
    let size = length-append ls (bodies us) in
    let own = hold_parts s q ws (ls ++ bodies us) h in
    let more = hold_parts s (after q (length ws)) ls (bodies us) own.1 in
    record {
      row = subst (λ (j : ℕ). Hold s (after q d) (links 0 j us)) none_before (hold_at s q.segment (q.position + length ws) (q.position + d) ls at_links more.0);
      targets = hold_at s q.segment (q.position + length ws + length ls) behind (bodies us) at_targets more.1;
      ends = omega arith;
    }

empty_body : (d section : ℕ) (us : Trees) → d ≡ 0 → tree_count us ≡ 0 → (body (structure d section us) ≡ []) × (us ≡ none)
empty_body zero section none e f = (refl, refl)
empty_body zero section (u ▸ us) e f = absurd (omega arith)
empty_body (suc d) section us e f = absurd (omega arith)

module _ (n : ℕ) (s : Segments) (p : Place) (head : ℕ) (start : wire.Place) (d k : ℕ) (inside : AreThere s (place_view start) (d + k)) (given : HasHead s p 1 head) (at : IsThere p head start d k) where
  struct_both : (us : Trees) (end : ℕ) → tree_count us ≡ k → word_at s p ≡ Some (pointer (head - p.position - 1) (structure d (section_at s (place_view start) d) us)) → StandEach s (after (place_view start) d) (head + (d + k)) us end
      → Stands s p head (structure d (section_at s (place_view start) d) us) end
  struct_both us end count link x = elim at [
    | inl here ↦
        let q = place_view start in
        let head_is : q.position ≡ head = ap (λ (r : Place). r.position) here.0 in
        let same_segment : q.segment ≡ p.segment = ap (λ (r : Place). r.segment) here.0 in
        let b = body_both s q d k (head + (d + k)) end us (front_there s q (d + k) inside.0 d (omega arith)) (subst (λ (i : ℕ). AreWords (segment_words s i)) (sym same_segment) given.whole) count (omega arith) x in
        record { link = link; targets = subst (λ (r : Place). Hold s r (body (structure d (section_at s q d) us))) here.0 b.0; ends = b.1 ∙ ap (λ (j : ℕ). j + length (body (structure d (section_at s q d) us))) head_is }
    | inr here ↦
        let section = section_at s (place_view start) d in
        let d_none = here.1 in
        let k_none = here.2 in
        let e = empty_body d section us d_none (count ∙ k_none) in
        let there = given.there in
        let last : end ≡ head + (d + k) + length (bodies us) = x.ends in
        let nothing : length (bodies us) ≡ 0 = ap (λ (ts : Trees). length (bodies ts)) e.1 in
        let none_there : length (body (structure d section us)) ≡ 0 = ap length e.0 in
        record { link = link; targets = subst (Hold s (place p.segment head)) (sym e.0) (hold_none s (place p.segment head) there.0); ends = omega arith }
  ]

  struct_parts : (us : Trees) (end : ℕ) → tree_count us ≡ k → Stands s p head (structure d (section_at s (place_view start) d) us) end → StandEach s (after (place_view start) d) (head + (d + k)) us end
  struct_parts us end count x = elim at [
    | inl here ↦
        let q = place_view start in
        let head_is : q.position ≡ head = ap (λ (r : Place). r.position) here.0 in
        body_parts s q d k (head + (d + k)) end us count (omega arith) (subst (λ (r : Place). Hold s r (body (structure d (section_at s q d) us))) (sym here.0) x.targets) (x.ends ∙ ap (λ (j : ℕ). j + length (body (structure d (section_at s q d) us))) (sym head_is))
    | inr here ↦
        let q = place_view start in
        let section = section_at s q d in
        let d_none = here.1 in
        let k_none = here.2 in
        let e = empty_body d section us d_none (count ∙ k_none) in
        let there = given.there in
        let last : end ≡ head + length (body (structure d section us)) = x.ends in
        let none_there : length (body (structure d section us)) ≡ 0 = ap length e.0 in
        let same : head + (d + k) ≡ head = omega arith in
        let no_more : q.position + 0 ≡ q.position + d = omega arith in
        let front = front_there s q (d + k) inside.0 0 (omega arith) in
        let same_segment : q.segment ≡ p.segment = ap (λ (r : Place). r.segment) here.0 in
        let here_too : is_some (words_at s (after q d) 0) ≡ true = subst (λ (j : ℕ). is_some (words_at s (place q.segment j) 0) ≡ true) (let z : q.position ≡ q.position + d = omega arith in z) front in
        let head_there : is_some (words_at s (place q.segment (head + (d + k))) 0) ≡ true = subst (λ (i : ℕ). is_some (words_at s (place i (head + (d + k))) 0) ≡ true) (sym same_segment) (subst (λ (j : ℕ). is_some (words_at s (place p.segment j) 0) ≡ true) (sym same) there.0) in
        let ends : end ≡ head + (d + k) + 0 = omega arith in
        subst (λ (ts : Trees). StandEach s (after q d) (head + (d + k)) ts end) (sym e.1)
        (record { row = hold_none s (after q d) here_too; targets = hold_none s (place q.segment (head + (d + k))) head_there; ends = ends })
  ]

  pub struct_head : HasHead s (after (place_view start) d) k (head + (d + k))
  struct_head = elim at [
    | inl here ↦
        let q = place_view start in
        let head_is : q.position ≡ head = ap (λ (r : Place). r.position) here.0 in
        let bound = inside.1 in
        let end : q.position + (d + k) ≡ head + (d + k) = omega arith in
        let there = part_there s q (d + k) inside.0 (d + k) 0 (omega arith) in
        record {
          behind = omega arith;
          there = (subst (λ (j : ℕ). is_some (words_at s (place q.segment j) 0) ≡ true) end there, omega arith);
          whole = subst (λ (i : ℕ). AreWords (segment_words s i)) (sym (ap (λ (r : Place). r.segment) here.0)) given.whole;
        }
    | inr here ↦
        let q = place_view start in
        let d_none = here.1 in
        let k_none = here.2 in
        let behind = given.behind in
        let there = given.there in
        let bound = there.1 in
        let begins : q.position ≡ p.position = ap (λ (r : Place). r.position) here.0 in
        let end : head ≡ head + (d + k) = omega arith in
        let same_segment = sym (ap (λ (r : Place). r.segment) here.0) in
        record {
          behind = omega arith;
          there = (subst (λ (i : ℕ). is_some (words_at s (place i (head + (d + k))) 0) ≡ true) same_segment (subst (λ (j : ℕ). is_some (words_at s (place p.segment j) 0) ≡ true) end there.0), omega arith);
          whole = subst (λ (i : ℕ). AreWords (segment_words s i)) same_segment given.whole;
        }
  ]

  module _ (words : d ≡ needed_words d (section_at s (place_view start) d)) (count : (m : ℕ) (ts : Trees) → each (tree_at m s) (after (place_view start) d) k ≡ Some ts → tree_count (stripped (trim_each ts)) ≡ k)
      (link : (ts : Trees) → tree_count ts ≡ k → word_at s p ≡ Some (pointer (head - p.position - 1) (structure d (section_at s (place_view start) d) ts))) where
    full : (m : ℕ) (ts : Trees) → each (tree_at m s) (after (place_view start) d) k ≡ Some ts → tree_count (trim_each ts) ≡ k
    full m ts e = count-trim_each ts ∙ each_count (tree_at m s) (after (place_view start) d) k ts e

    trimmed : (m : ℕ) (ts : Trees) → each (tree_at m s) (after (place_view start) d) k ≡ Some ts → trim (structure d (section_at s (place_view start) d) ts) ≡ structure d (section_at s (place_view start) d) (trim_each ts)
    unfolding trim
    trimmed m ts e =
        let us = trim_each ts in
        let section = section_at s (place_view start) d in
        let same : stripped us ≡ us = sym (stripped_front us) ∙ ap (λ (j : ℕ). resized j us) (count m ts e) ∙ resized_all k us (full m ts e) in
        ap (λ (j : ℕ). structure j section (stripped us)) (sym words) ∙ ap (structure d section) same

    same_segment : p.segment ≡ (place_view start).segment
    same_segment = elim at [
      | inl here ↦ sym (ap (λ (r : Place). r.segment) here.0)
      | inr here ↦ sym (ap (λ (r : Place). r.segment) here.0)
    ]

    pub struct_tests : (l m : ReadLimiter) (r : Result (Option ℕ) Error) → Tests (row_test (reach n s) (after (place_view start) d) k (head + (d + k))) l r m → Tests (object_test (reach n s) p head (object.Struct start d k)) l r m
    unfolding has_capability
    struct_tests l m r x =
        let q = place_view start in
        let first = after q d in
        let behind = head + (d + k) in
        let section = section_at s q d in
        let g = tree_at n s in
        let f : ℕ → Place → Option Tree = λ more. tree_at (more + n) s in
        made_of (each g first k) (λ more. each (f more) first k) have_capability (λ ts. StandEach s first behind (trim_each ts)) (each g first k >>= λ ts. Some (structure d section ts)) (λ more. each (f more) first k >>= λ ts. Some (structure d section ts)) has_capability (λ t. Stands s p head (trim t)) (IsSmall s first) (IsSmall s p) (from_each (visits n s) first k) l m r
        (λ small. subst (λ (i : ℕ). length (segment_words s i) < 2 ^ 29) same_segment small)
        (λ ts end e clean y. (
          structure d section ts,
          ap (λ (o : Option Trees). o >>= λ us. Some (structure d section us)) e,
          clean,
          subst (λ (t : Tree). Stands s p head t end) (sym (trimmed n ts e)) (struct_both (trim_each ts) end (full n ts e) (link (trim_each ts) (full n ts e)) y),
        ))
        (λ more t end e clean y.
        let b = bind_some (each (f more) first k) _ t e in
        let is : structure d section b.0 ≡ t = some_is _ _ b.2 in
        let whole : Stands s p head (trim (structure d section b.0)) end = subst (λ (u : Tree). Stands s p head (trim u) end) (sym is) y in
        (b.0, b.1, ap has_capability is ∙ clean, struct_parts (trim_each b.0) end (full (more + n) b.0 b.1) (subst (λ (u : Tree). Stands s p head u end) (trimmed (more + n) b.0 b.1) whole)))
        x

-- the word of a pointer to a struct that stands
pub struct_word : (s : Segments) (p q : Place) (head d k a b x section end : ℕ) (f : Place → Option Tree) (t : Tree) → a ≡ needed_words d section → ((ts : Trees) → each f q k ≡ Some ts → tree_count (stripped (trim_each ts)) ≡ b) → ((ts : Trees) → tree_count ts ≡ b → x ≡ pointer (head - p.position - 1) (structure a section ts))
    → (each f q k >>= λ ts. Some (structure d section ts)) ≡ Some t → Stands s p head (trim t) end → word_at s p ≡ Some x
unfolding trim
struct_word s p q head d k a b x section end f t words count is e y =
    let r = bind_some (each f q k) _ t e in
    let us = stripped (trim_each r.0) in
    let whole : structure d section r.0 ≡ t = some_is _ _ r.2 in
    let link : word_at s p ≡ Some (pointer (head - p.position - 1) (trim t)) = y.link in
    link ∙ ap (λ (u : Tree). Some (pointer (head - p.position - 1) (trim u))) (sym whole) ∙ ap (λ (j : ℕ). Some (pointer (head - p.position - 1) (structure j section us))) (sym words) ∙ ap (λ (w : ℕ). Some w) (sym (is us (count r.0 r.1)))

-- the least sizes of a struct that is read
pub least_struct : (n : ℕ) (s : Segments) (q : Place) (d k a b : ℕ) → is_some (words_at s q (d + k)) ≡ true → a ≡ widest (λ r. needed_words d (section_at s r d)) q (d + k) 1 → b ≡ widest (λ r. kept (words_there s r k)) (after q d) (d + k) 1
    → (a ≡ needed_words d (section_at s q d)) × ((ts : Trees) → each (tree_at n s) (after q d) k ≡ Some ts → tree_count (stripped (trim_each ts)) ≡ b)
least_struct n s q d k a b inside words pointers =
    let there = part_there s q (d + k) inside d k (omega arith) in
    let ws = words_there s (after q d) k in
    let long = there_length s (after q d) k there in
    let is = pointers ∙ widest_one (λ r. kept (words_there s r k)) (after q d) (d + k) in (
      words ∙ widest_one (λ r. needed_words d (section_at s r d)) q (d + k),
      λ ts y. kept_count n s ws (after q d) ts (λ i h. parts.word_is s (after q d) k there i (omega arith)) (ap (each (tree_at n s) (after q d)) long ∙ y) ∙ sym is,
    )
