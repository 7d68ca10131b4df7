-- Pointers in a row, and the structs of a list, where there is room for all behind them.
use Rattle.std.proofs.Common.{◌≡◌, ◌⊎◌, ℕ, zero, suc, ◌+◌, ◌-◌, ◌*◌, ◌<◌, ◌≤◌, List, drop, take, length, map, Option, Some, Ok, Err, refl, ap, sym, ◌∙◌, subst, arith}
use Rattle.capnp_model.specs.Sections.{section_of}
use Rattle.capnp_model.specs.Segments.{Segments, Place, after}
use Rattle.capnp_model.specs.Sizes.{object_words, each_object_words}
use Rattle.capnp_model.specs.Trees.{Tree, Trees, none, ◌▸◌, Elements, no_elements, element}
use Rattle.capnp_model.specs.Traversal.{tree_at, each, each_element}
use Rattle.capnp_model.specs.Coverage.{from_each, from_elements}
use Rattle.capnp_model.specs.Visits.{visits}
use Rattle.capnp_model.proofs.lemmas.Chaining.{bind_some, some_is}
use Rattle.capnp_units.specs.declared.errors.Error.{Error}
use Rattle.capnp_units.specs.declared.kinds.ErrorKind.TheVariants.{SizeOverflow}
use Rattle.capnp_units.specs.declared.limiter.ReadLimiter.{ReadLimiter}
use Rattle.capnp_units.specs.Segments.{words_in}
use Rattle.capnp_wire_objects.specs.Walks.{Stopped}
use Rattle.capnp_wire_objects.proofs.lemmas.Rows.{each_next, element_next, row_start, row_end, elements_start}
use Rattle.capnp_copy_arenas.specs.States.{ArenaState}
use Rattle.capnp_copy_values.specs.Fits.{elements_behind, HasRoomIn, TakesIn, HasLongList, FitsWhereRoom, limited_arena, wanted}
use Rattle.capnp_copy_values.proofs.Fitting.{takes_stays, takes_more, room_less, room_left}
use Rattle.capnp_copy_values.proofs.Rows.{RowSoFar}
use Rattle.capnp_copy_values.proofs.Elements.{ElementsSoFar}
use Rattle.capnp_copy_values.proofs.Told.{row_told, elements_told}

-- ---- a row

-- so many words were taken, and those of the rest are left
pub record RowLeft (f : Place → Option Tree) (p : Place) (k i : ℕ) (s u : ArenaState) (at : ℕ) (all : ℕ) : Type 0 where
  pub rest : Trees
  pub rest_is : each f (after p i) (k - i) ≡ Some rest
  pub taken : ℕ
  pub sum : taken + each_object_words rest ≡ all
  pub takes : TakesIn s u at taken

-- the next one of the rest
pub record NextLeft (f : Place → Option Tree) (p : Place) (k i : ℕ) (s u : ArenaState) (at : ℕ) (all : ℕ) : Type 0 where
  pub tree : Tree
  pub tree_is : f (after p i) ≡ Some tree
  pub rest : Trees
  pub rest_is : each f (after p (i + 1)) (k - (i + 1)) ≡ Some rest
  pub taken : ℕ
  pub sum : taken + (object_words tree + each_object_words rest) ≡ all
  pub takes : TakesIn s u at taken
  pub room : HasRoomIn u at (object_words tree)

abbrev pub RowFits : ℕ → Segments → Place → ℕ → ℕ → ArenaState → ArenaState → ℕ → Type 0
RowFits levels from p k i s u at = (ts : Trees) → each (tree_at levels from) p k ≡ Some ts → HasRoomIn s at (each_object_words ts) → RowLeft (tree_at levels from) p k i s u at (each_object_words ts)

module _ (levels : ℕ) (from : Segments) (p : Place) (k : ℕ) (s : ArenaState) (at : ℕ) where
  pub row_fits_begun : RowFits levels from p k 0 s s at
  row_fits_begun = λ ts e h. record {
    rest = ts;
    rest_is = row_start p k (each (tree_at levels from)) ∙ e;
    taken = 0;
    sum = omega arith;
    takes = takes_stays s s at h.0 refl refl;
  }

  next_left : (i : ℕ) (u : ArenaState) (all : ℕ) → i < k → HasRoomIn s at all → RowLeft (tree_at levels from) p k i s u at all → NextLeft (tree_at levels from) p k i s u at all
  unfolding object_words
  next_left i u all in_row h x =
      let e = sym (each_next p i k in_row (tree_at levels from)) ∙ x.rest_is in
      let y = bind_some (tree_at levels from (after p i)) _ x.rest e in
      let z = bind_some (each (tree_at levels from) (after p (i + 1)) (k - (i + 1))) _ x.rest y.2 in
      let is : y.0 ▸ z.0 ≡ x.rest = some_is _ _ z.2 in
      let words : object_words y.0 + each_object_words z.0 ≡ each_object_words x.rest = ap each_object_words is in
      let total = x.sum in
      record {
        tree = y.0;
        tree_is = y.1;
        rest = z.0;
        rest_is = z.1;
        taken = x.taken;
        sum = omega (arith, total, words);
        takes = x.takes;
        room = room_left s u at x.taken (object_words y.0) (room_less s at all (x.taken + object_words y.0) (omega (arith, total, words)) h) x.takes;
      }

  pub row_fits_next : (i : ℕ) (u w : ArenaState) (m m' : ReadLimiter) → i < k → RowFits levels from p k i s u at → FitsWhereRoom (tree_at levels from (after p i)) (visits levels from (after p i)) (wanted object_words (HasLongList from) at) (limited_arena u m) (Ok tt) (limited_arena w m') → RowFits levels from p k (i + 1) s w at
  row_fits_next i u w m m' in_row so f = λ ts e h. (
      let x = next_left i u (each_object_words ts) in_row h (so ts e h) in
      let total = x.sum in
      record {
        rest = x.rest;
        rest_is = x.rest_is;
        taken = x.taken + object_words x.tree;
        sum = omega (arith, total);
        takes = takes_more s u w at x.taken (object_words x.tree) h.0 x.takes (f x.tree x.tree_is x.room);
      }
      )

  pub row_fits_stopped : (i : ℕ) (r : Place) (d : ℕ) (v : Segments) (u w : ArenaState) (l m m' : ReadLimiter) (e : Error) → i < k → RowSoFar levels from p k i v (words_in u.segments) r d l m → RowFits levels from p k i s u at → FitsWhereRoom (tree_at levels from (after p i)) (visits levels from (after p i)) (wanted object_words (HasLongList from) at) (limited_arena u m) (Err e) (limited_arena w m')
      → (ts : Trees) → each (tree_at levels from) p k ≡ Some ts → HasRoomIn s at (each_object_words ts) → Stopped (from_each (visits levels from) p k) l e m' ⊎ ((e.kind ≡ SizeOverflow) × HasLongList from)
  row_fits_stopped i r d v u w l m m' e in_row past so f ts is h =
      let x = next_left i u (each_object_words ts) in_row h (so ts is h) in
      row_told levels from p k v r d l i (words_in u.segments) m m' (λ (y : Error). (y.kind ≡ SizeOverflow) × HasLongList from) e in_row past (f x.tree x.tree_is x.room)

  pub row_fits_ended : (i : ℕ) (u : ArenaState) (l m : ReadLimiter) → k ≤ i → RowFits levels from p k i s u at → FitsWhereRoom (each (tree_at levels from) p k) (from_each (visits levels from) p k) (wanted each_object_words (HasLongList from) at) (limited_arena s l) (Ok tt) (limited_arena u m)
  unfolding object_words
  row_fits_ended i u l m all so = λ ts e h. (
      let x = so ts e h in
      let is : none ≡ x.rest = some_is _ _ (sym (row_end k i (each (tree_at levels from) (after p i)) all) ∙ x.rest_is) in
      let zero_left : 0 ≡ each_object_words x.rest = ap each_object_words is in
      let total = x.sum in
      subst (λ (n : ℕ). TakesIn s u at n) (omega (arith, total, zero_left)) x.takes
      )

-- ---- elements

pub record ElementsLeft (f : Place → Option Tree) (p : Place) (ws : List ℕ) (d k count i : ℕ) (s u : ArenaState) (at : ℕ) (all : ℕ) : Type 0 where
  pub rest : Elements
  pub rest_is : each_element f (after p (i * (d + k))) (drop (i * (d + k)) ws) d k (count - i) ≡ Some rest
  pub taken : ℕ
  pub sum : taken + elements_behind rest ≡ all
  pub takes : TakesIn s u at taken

-- the next one of the rest
pub record NextElement (f : Place → Option Tree) (p : Place) (ws : List ℕ) (d k count i : ℕ) (s u : ArenaState) (at : ℕ) (all : ℕ) : Type 0 where
  pub kids : Trees
  pub kids_are : each f (after (after p (i * (d + k))) d) k ≡ Some kids
  pub rest : Elements
  pub rest_is : each_element f (after p ((i + 1) * (d + k))) (drop ((i + 1) * (d + k)) ws) d k (count - (i + 1)) ≡ Some rest
  pub taken : ℕ
  pub sum : taken + (each_object_words kids + elements_behind rest) ≡ all
  pub takes : TakesIn s u at taken
  pub room : HasRoomIn u at (each_object_words kids)

abbrev pub ElementsFit : ℕ → Segments → Place → List ℕ → ℕ → ℕ → ℕ → ℕ → ArenaState → ArenaState → ℕ → Type 0
ElementsFit levels from p ws d k count i s u at = (es : Elements) → each_element (tree_at levels from) p ws d k count ≡ Some es → HasRoomIn s at (elements_behind es) → ElementsLeft (tree_at levels from) p ws d k count i s u at (elements_behind es)

module _ (levels : ℕ) (from : Segments) (p : Place) (ws : List ℕ) (d k count : ℕ) (s : ArenaState) (at : ℕ) where
  pub elements_fit_begun : ElementsFit levels from p ws d k count 0 s s at
  elements_fit_begun = λ es e h. (
      let none_before : 0 * (d + k) ≡ 0 = omega arith in
      let words : drop (0 * (d + k)) ws ≡ ws = ap (λ (m : ℕ). drop m ws) none_before in
      let same : each_element (tree_at levels from) (after p (0 * (d + k))) (drop (0 * (d + k)) ws) d k (count - 0) ≡ each_element (tree_at levels from) p ws d k count = ap (λ (xs : List ℕ). each_element (tree_at levels from) (after p (0 * (d + k))) xs d k (count - 0)) words ∙ elements_start p d k count (λ q m. each_element (tree_at levels from) q ws d k m) in
      record {
        rest = es;
        rest_is = same ∙ e;
        taken = 0;
        sum = omega arith;
        takes = takes_stays s s at h.0 refl refl;
      }
      )

  next_element : (i : ℕ) (u : ArenaState) (all : ℕ) → i < count → HasRoomIn s at all → ElementsLeft (tree_at levels from) p ws d k count i s u at all → NextElement (tree_at levels from) p ws d k count i s u at all
  unfolding elements_behind
  next_element i u all in_list h x =
      let e = sym (element_next p d k i count in_list (tree_at levels from) ws) ∙ x.rest_is in
      let y = bind_some (each (tree_at levels from) (after (after p (i * (d + k))) d) k) _ x.rest e in
      let z = bind_some (each_element (tree_at levels from) (after p ((i + 1) * (d + k))) (drop ((i + 1) * (d + k)) ws) d k (count - (i + 1))) _ x.rest y.2 in
      let is : element (section_of (take d (drop (i * (d + k)) ws))) y.0 z.0 ≡ x.rest = some_is _ _ z.2 in
      let words : each_object_words y.0 + elements_behind z.0 ≡ elements_behind x.rest = ap elements_behind is in
      let total = x.sum in
      record {
        kids = y.0;
        kids_are = y.1;
        rest = z.0;
        rest_is = z.1;
        taken = x.taken;
        sum = omega (arith, total, words);
        takes = x.takes;
        room = room_left s u at x.taken (each_object_words y.0) (room_less s at all (x.taken + each_object_words y.0) (omega (arith, total, words)) h) x.takes;
      }

  pub elements_fit_next : (i : ℕ) (u w : ArenaState) (m m' : ReadLimiter) → i < count → ElementsFit levels from p ws d k count i s u at
      → FitsWhereRoom (each (tree_at levels from) (after (after p (i * (d + k))) d) k) (from_each (visits levels from) (after (after p (i * (d + k))) d) k) (wanted each_object_words (HasLongList from) at) (limited_arena u m) (Ok tt) (limited_arena w m') → ElementsFit levels from p ws d k count (i + 1) s w at
  elements_fit_next i u w m m' in_list so f = λ es e h. (
      let x = next_element i u (elements_behind es) in_list h (so es e h) in
      let total = x.sum in
      record {
        rest = x.rest;
        rest_is = x.rest_is;
        taken = x.taken + each_object_words x.kids;
        sum = omega (arith, total);
        takes = takes_more s u w at x.taken (each_object_words x.kids) h.0 x.takes (f x.kids x.kids_are x.room);
      }
      )

  pub elements_fit_stopped : (i : ℕ) (r : Place) (v : Segments) (u w : ArenaState) (l m m' : ReadLimiter) (e : Error) → i < count → ElementsSoFar levels from p ws d k count i v (words_in u.segments) r l m → ElementsFit levels from p ws d k count i s u at
      → FitsWhereRoom (each (tree_at levels from) (after (after p (i * (d + k))) d) k) (from_each (visits levels from) (after (after p (i * (d + k))) d) k) (wanted each_object_words (HasLongList from) at) (limited_arena u m) (Err e) (limited_arena w m')
      → (es : Elements) → each_element (tree_at levels from) p ws d k count ≡ Some es → HasRoomIn s at (elements_behind es) → Stopped (from_elements (visits levels from) p d k count) l e m' ⊎ ((e.kind ≡ SizeOverflow) × HasLongList from)
  elements_fit_stopped i r v u w l m m' e in_list past so f es is h =
      let x = next_element i u (elements_behind es) in_list h (so es is h) in
      elements_told levels from p ws d k count v r l i (words_in u.segments) m m' (λ (y : Error). (y.kind ≡ SizeOverflow) × HasLongList from) e in_list past (f x.kids x.kids_are x.room)

  pub elements_fit_ended : (i : ℕ) (u : ArenaState) (l m : ReadLimiter) → count ≤ i → ElementsFit levels from p ws d k count i s u at → FitsWhereRoom (each_element (tree_at levels from) p ws d k count) (from_elements (visits levels from) p d k count) (wanted elements_behind (HasLongList from) at) (limited_arena s l) (Ok tt) (limited_arena u m)
  unfolding elements_behind
  elements_fit_ended i u l m all so = λ es e h. (
      let x = so es e h in
      let is : no_elements ≡ x.rest = some_is _ _ (sym (row_end count i (each_element (tree_at levels from) (after p (i * (d + k))) (drop (i * (d + k)) ws) d k) all) ∙ x.rest_is) in
      let zero_left : 0 ≡ elements_behind x.rest = ap elements_behind is in
      let total = x.sum in
      subst (λ (n : ℕ). TakesIn s u at n) (omega (arith, total, zero_left)) x.takes
      )

-- structs without pointers have nothing behind them
pub nothing_behind : (f : Place → Option Tree) (p : Place) (ws : List ℕ) (d n : ℕ) (es : Elements) → each_element f p ws d 0 n ≡ Some es → elements_behind es ≡ 0
unfolding elements_behind object_words
nothing_behind f p ws d zero es e = rw (sym (some_is _ _ e)) refl
nothing_behind f p ws d (suc n) es e =
    let y = bind_some (each_element f (after p (d + 0)) (drop (d + 0) ws) d 0 n) _ es e in
    let rest = nothing_behind f (after p (d + 0)) (drop (d + 0) ws) d n y.0 y.1 in
    rw (sym (some_is _ _ y.2)) (omega (arith, rest))

pub plain_elements_fit : (f : Place → Option Tree) (p : Place) (ws : List ℕ) (d k n : ℕ) (at : ℕ) (s u : ArenaState) → k ≡ 0 → map length (words_in u.segments) ≡ map length (words_in s.segments) → u.room ≡ s.room → (es : Elements) → each_element f p ws d k n ≡ Some es → HasRoomIn s at (elements_behind es) → TakesIn s u at (elements_behind es)
plain_elements_fit f p ws d k n at s u z sizes room es e h =
    let none_there : elements_behind es ≡ 0 = nothing_behind f p ws d n es (subst (λ (j : ℕ). each_element f p ws d j n ≡ Some es) z e) in
    subst (λ (j : ℕ). TakesIn s u at j) (sym none_there) (takes_stays s u at h.0 sizes room)
