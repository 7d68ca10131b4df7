-- The sizes of what readers stand at.
use Rattle.std.proofs.Common.{◌≡◌, ℕ, ◌+◌, Bool, true, false, List, [], Option, Some, None, Result, Ok, Err, refl, ap, sym, subst}
use Rattle.std.specs.Prelude.{MatchOption}
use Rattle.capnp_model.specs.Sections.{words_for}
use Rattle.capnp_model.specs.Segments.{Place}
use Rattle.capnp_model.specs.Trees.{null}
use Rattle.capnp_model.specs.Traversal.{tree_at, each}
use Rattle.capnp_model.specs.Coverage.{from_each}
use Rattle.capnp_model.specs.Visits.{Visit, visits}
use Rattle.capnp_model.specs.Sizes.{object_words, each_object_words, capability_count, each_capability_count}
use Rattle.capnp_units.specs.declared.errors.Error.{Error}
use Rattle.capnp_units.specs.declared.limiter.ReadLimiter.{ReadLimiter}
use Rattle.capnp_units.specs.declared.sizes.MessageSize.{MessageSize}
use Rattle.capnp_units.specs.Limits.{less, limit_of, granted_of, left_of, IsPassed}
use Rattle.capnp_wire_objects.specs.Walks.{SizeGives, SizeCounts}
use Rattle.capnp_wire_objects.proofs.lemmas.Walks.{walked_none, first_fault}
use Rattle.capnp_wire_objects.proofs.lemmas.Measuring.{wordless, nothing_counted}
use Rattle.capnp_wire.specs.Views.{PointerView, StructView}
use Rattle.capnp_wire.specs.ValueSizes.{SizeOn, SizeWithoutLevels, tree_behind, visits_behind, PointerSize, StructSizeOf}

-- ---- on a basis where nothing may be paid

-- without a limit it is refused for the first fault
pub freely : {X : Type 0} (words caps : X → ℕ) (there : Option X) (path : List Visit) (l start end : ReadLimiter) (r : Result MessageSize Error) → limit_of start ≡ None → SizeGives words caps there path start r end → SizeOn false words caps there path l r l
freely words caps there path l start end (Ok size) free g = (g.0, g.1, g.2, refl)
freely words caps there path l start end (Err e) free g =
    let none : left_of start ≡ None = ap (λ (o : Option ℕ). less o (granted_of start)) free in
    let first = first_fault path start end e (λ n h. subst (λ (o : Option ℕ). IsPassed o n) none h) g in
    (first.0, first.1, refl)

size_nothing : (paid : Bool) (l : ReadLimiter) → SizeOn paid object_words capability_count (Some null) [] l (Ok (wordless 0)) l
unfolding object_words capability_count
size_nothing true l = (null, refl, nothing_counted, walked_none l)
size_nothing false l = (null, refl, nothing_counted, refl)

-- What is known where the levels and the basis are.
pub value_size : (p : PointerView) (n : ℕ) (old new : ReadLimiter) (r : Result MessageSize Error) → p.levels ≡ Some n → SizeOn p.basis.paid object_words capability_count (tree_behind n p.basis.segments p.place) (visits_behind n p.basis.segments p.place) old r new → PointerSize p old r new
value_size p n old new r e here =
    let s = p.basis.segments in
    subst (λ (o : Option ℕ). MatchOption o (SizeWithoutLevels old r new) (λ m. SizeOn p.basis.paid object_words capability_count (tree_behind m s p.place) (visits_behind m s p.place) old r new)) (sym e) here

pub null_size : (p : PointerView) (n : ℕ) (l : ReadLimiter) → p.levels ≡ Some n → p.place ≡ None → PointerSize p l (Ok (wordless 0)) l
null_size p n l e f =
    let s = p.basis.segments in
    value_size p n l l (Ok (wordless 0)) e (subst (λ (o : Option Place). SizeOn p.basis.paid object_words capability_count (tree_behind n s o) (visits_behind n s o) l (Ok (wordless 0)) l) (sym f) (size_nothing p.basis.paid l))

sized_more : {X : Type 0} (paid : Bool) (words caps : X → ℕ) (there : Option X) (path : List Visit) (more : ℕ) (old new : ReadLimiter) (size size' : MessageSize) → ((w c : ℕ) → SizeCounts w c size → SizeCounts (w + more) c size')
    → SizeOn paid words caps there path old (Ok size) new → SizeOn paid (λ x. words x + more) caps there path old (Ok size') new
sized_more true words caps there path more old new size size' h g = (g.0, g.1, h (words g.0) (caps g.0) g.2, g.3)
sized_more false words caps there path more old new size size' h g = (g.0, g.1, h (words g.0) (caps g.0) g.2, g.3)

pub struct_size : (v : StructView) (n more : ℕ) (old new : ReadLimiter) (size size' : MessageSize) → v.levels ≡ Some n → more ≡ words_for v.bits + v.pointers → ((w c : ℕ) → SizeCounts w c size → SizeCounts (w + more) c size')
    → SizeOn v.basis.paid each_object_words each_capability_count (each (tree_at n v.basis.segments) v.first v.pointers) (from_each (visits n v.basis.segments) v.first v.pointers) old (Ok size) new → StructSizeOf v old (Ok size') new
struct_size v n more old new size size' e m h g =
    let s = v.basis.segments in
    let count : (w c : ℕ) → SizeCounts w c size → SizeCounts (w + (words_for v.bits + v.pointers)) c size' = λ w c k. subst (λ (x : ℕ). SizeCounts (w + x) c size') m (h w c k) in
    let here = sized_more v.basis.paid each_object_words each_capability_count (each (tree_at n s) v.first v.pointers) (from_each (visits n s) v.first v.pointers) (words_for v.bits + v.pointers) old new size size' count g in
    subst (λ (o : Option ℕ). MatchOption o (SizeWithoutLevels old (Ok size') new)
    (λ m. SizeOn v.basis.paid (λ ts. each_object_words ts + (words_for v.bits + v.pointers)) each_capability_count (each (tree_at m s) v.first v.pointers) (from_each (visits m s) v.first v.pointers) old (Ok size') new)) (sym e) here
