-- Copies that are linked, and those that are given up.
use Rattle.std.specs.Bool.{⊤}
use Rattle.std.proofs.Common.{◌∙◌, ◌≡◌, ◌⊎◌, ◌↔◌, ℕ, zero, suc, ◌+◌, ◌<◌, ◌≤◌, true, false, List, [], ◌∷◌, length, map, Option, Result, Ok, Err, refl, ap, sym, subst, inl, inr, arith}
use Rattle.std.specs.Option.{is_some}
use Rattle.std.proofs.lemmas.List.{append-nil}
use Rattle.capnp_model.specs.Segments.{Segments, Place, words_at}
use Rattle.capnp_model.specs.Pointers as model
use Rattle.capnp_model.specs.Trees.{Tree, null, capability}
use Rattle.capnp_model.specs.Traversal.{tree_at}
use Rattle.capnp_model.specs.Coverage.{span, times_held, Grows}
use Rattle.capnp_model.specs.Visits.{Visit, visits}
use Rattle.capnp_units.specs.declared.errors.Error.{Error}
use Rattle.capnp_units.specs.declared.kinds.ErrorKind.TheVariants.{SizeOverflow}
use Rattle.capnp_units.specs.declared.limiter.ReadLimiter.{ReadLimiter}
use Rattle.capnp_units.specs.Sizes.{size_number}
use Rattle.capnp_wire_objects.specs.declared.object.Object.{Object}
use Rattle.capnp_wire_objects.specs.declared.place.Place as wire
use Rattle.capnp_wire_objects.specs.declared.object.Object.TheVariants as object
use Rattle.capnp_wire_objects.specs.Objects.{IsInside}
use Rattle.capnp_wire_objects.specs.Follow.{own_cost, Pays}
use Rattle.capnp_wire_objects.specs.Inside.{tree_in, met_in}
use Rattle.capnp_wire_objects.specs.Walks.{Walked, Stopped}
use Rattle.capnp_wire_objects.proofs.lemmas.Walks.{walked_none, walked_both}
use Rattle.capnp_model_writes.specs.Footprints.{object_footprint, Owns}
use Rattle.capnp_model_writes.specs.Changes.{Replaces}
use Rattle.capnp_model_writes.specs.Detached.{Detached}
use Rattle.capnp_model_writes.specs.NewObjects.{New, new_struct, new_list, new_pointers, new_structs, new_pointer, new_object, Fits}
use Rattle.capnp_model_writes.proofs.lemmas.Algebra.{changes_nothing, changes_alike}
use Rattle.capnp_model_writes.proofs.lemmas.Detached.{detached_owns, detached_value}
use Rattle.capnp_model_writes.proofs.lemmas.Spans.{held_is, grows_same, grows_then}
use Rattle.capnp_model_writes.proofs.lemmas.Splices.{splice_grows}
use Rattle.capnp_model_writes.proofs.lemmas.Zeros.{held_none}
use Rattle.capnp_wire_objects.specs.Places.{place_view}
use Rattle.capnp_copy_arenas.specs.Allocations.{total_words}
use Rattle.capnp_copy_arenas.specs.Clearing.{ClearsValue, ClearsObject}
use Rattle.capnp_copy_arenas.specs.declared.room.Room.{Room}
use Rattle.capnp_copy_arenas.specs.declared.room.Room.TheVariants.{Here, Near, Far}
use Rattle.capnp_copy_arenas.specs.Rooms.{RoomFor, begin_of, slot_word, with_pad, linked}
use Rattle.capnp_copy_arenas.proofs.lemmas.RoomLaws.{sizes_grow, room_grows}
use Rattle.capnp_copy_values.specs.Objects.{copied_words, copied_at, copied_pointer, IsTooLarge, IsSpelled, is_leaf}
use Rattle.capnp_copy_values.specs.Copies.{BecomesCopy, GrowsByZeros, Copied, Refused, Unplaced, CopyGives, Fills, ObjectCopied, HasNoPlace, ObjectRefused, ObjectGives, copy_of, limited_words, object_put}
use Rattle.capnp_units.specs.declared.sizes.ElementSize.{ElementSize}
use Rattle.capnp_units.specs.declared.sizes.ElementSize.TheVariants.{Void, Bit, Byte, TwoBytes, FourBytes, EightBytes, Pointer, InlineComposite}
use Rattle.capnp_copy_values.specs.declared.lists.ListSource.{ListSource}
use Rattle.capnp_copy_values.specs.Lists.{object_of_size}
use Rattle.capnp_copy_values.proofs.Allocated.{pads_in, allocated, room_new}
use Rattle.capnp_copy_values.proofs.lemmas.Filling.{filled_detached, given_up}
use Rattle.capnp_copy_values.proofs.Following.{paid_walk}
use Rattle.capnp_copy_values.proofs.Linked.{linked_value}
use Rattle.capnp_copy_values.proofs.Refusals.{why_later}
use Rattle.capnp_copy_values.proofs.Taking.{total_alike, written_total, takes_none, object_taken, object_untaken, object_same, visit_taken}

-- ---- the object that is new

pub new_of : Object → New
new_of object.Null = new_struct 0 0
new_of (object.Capability i) = new_struct 0 0
new_of (object.Struct p d k) = new_struct d k
new_of (object.List p size n) = new_list (size_number size) n
new_of (object.PointerList p n) = new_pointers n
new_of (object.StructList p words n d k) = new_structs n d k

pub pointer_is : (o : Object) → is_leaf o ≡ false → copied_pointer o ≡ new_pointer 0 (new_of o)
unfolding new_of
pointer_is object.Null l = absurd cc
pointer_is (object.Capability i) l = absurd cc
pointer_is (object.Struct p d k) l = refl
pointer_is (object.List p size n) l = refl
pointer_is (object.PointerList p n) l = refl
pointer_is (object.StructList p words n d k) l = refl

pub object_is : (r : Place) (o : Object) → is_leaf o ≡ false → copied_at r o ≡ new_object r (new_of o)
unfolding new_of
object_is r object.Null l = absurd cc
object_is r (object.Capability i) l = absurd cc
object_is r (object.Struct p d k) l = refl
object_is r (object.List p size n) l = refl
object_is r (object.PointerList p n) l = refl
object_is r (object.StructList p words n d k) l = refl

pub new_fits : (s : Segments) (o : Object) → is_leaf o ≡ false → IsInside s o → IsSpelled o → Fits (new_of o)
unfolding new_of
new_fits s object.Null l i f = absurd cc
new_fits s (object.Capability j) l i f = absurd cc
new_fits s (object.Struct p d k) l i f = f
new_fits s (object.List p size n) l i f = (i.0, f)
new_fits s (object.PointerList p n) l i f = f
new_fits s (object.StructList p words n d k) l i f = f

pub struct_fits : (q : wire.Place) (d k : ℕ) → IsSpelled (object.Struct q d k) → Fits (new_of (object.Struct q d k))
unfolding new_of
struct_fits q d k f = f

pub listed_fits : (z : ElementSize) (x : ListSource) → IsSpelled (object_of_size z x) → Fits (new_of (object_of_size z x))
unfolding new_of
listed_fits Void x f = (omega arith, f)
listed_fits Bit x f = (omega arith, f)
listed_fits Byte x f = (omega arith, f)
listed_fits TwoBytes x f = (omega arith, f)
listed_fits FourBytes x f = (omega arith, f)
listed_fits EightBytes x f = (omega arith, f)
listed_fits Pointer x f = f
listed_fits InlineComposite x f = f

pub listed_no_leaf : (z : ElementSize) (x : ListSource) → is_leaf (object_of_size z x) ≡ false
listed_no_leaf Void x = refl
listed_no_leaf Bit x = refl
listed_no_leaf Byte x = refl
listed_no_leaf TwoBytes x = refl
listed_no_leaf FourBytes x = refl
listed_no_leaf EightBytes x = refl
listed_no_leaf Pointer x = refl
listed_no_leaf InlineComposite x = refl

new_some : (o : Object) → is_leaf o ≡ false → (offset : ℕ) → 0 < copied_words o → 0 < new_pointer offset (new_of o)
unfolding new_of
new_some object.Null l offset h = absurd cc
new_some (object.Capability i) l offset h = absurd cc
new_some (object.Struct p d k) l offset h = omega (arith, h)
new_some (object.List p size n) l offset h = omega arith
new_some (object.PointerList p n) l offset h = omega arith
new_some (object.StructList p words n d k) l offset h = omega arith

-- ---- linked

pub linked_grows : (s : Segments) (p : Place) (room : Room) (w : ℕ) → Grows s (linked s p room w)
linked_grows s p room w = grows_then s (with_pad s room w) (linked s p room w) (padded s room w) (splice_grows (with_pad s room w) p (slot_word room w ∷ []))
  where
    padded : (s : Segments) (room : Room) (w : ℕ) → Grows s (with_pad s room w)
    padded s Here w = grows_same s
    padded s (Near offset) w = grows_same s
    padded s (Far pad) w = splice_grows s (place_view pad) (w ∷ [])

linked_total : (s : Segments) (p : Place) (room : Room) (w : ℕ) → total_words (linked s p room w) ≡ total_words s
linked_total s p room w = written_total (with_pad s room w) p (slot_word room w ∷ []) ∙ padded s room w
  where
    padded : (s : Segments) (room : Room) (w : ℕ) → total_words (with_pad s room w) ≡ total_words s
    padded s Here w = refl
    padded s (Near offset) w = refl
    padded s (Far pad) w = written_total s (place_view pad) (w ∷ [])

becomes : (levels n : ℕ) (s m u y : Segments) (p : Place) (o : Object) (room : Room) (t v : Tree) → suc levels ≤ n → is_some (words_at s p 1) ≡ true → is_leaf o ≡ false → RoomFor s m p (copied_words o) room → Fits (new_of o)
    → ((j : ℕ) → levels ≤ j → Fills j m u (span (begin_of p room) (copied_words o)) (copied_at (begin_of p room) o) v) → ClearsValue u y p → Owns n s p t → Replaces n s (linked y p room (copied_pointer o)) p v
becomes levels zero s m u y p o room t v h e l r fits fill c own = absurd (omega (arith, h))
becomes levels (suc n) s m u y p o room t v h e l r fits fill c own =
    let r0 = begin_of p room in
    let d0 = allocated n s m p (copied_words o) room t e r own in
    let d1 = filled_detached n s m u p t (begin_of p room) (copied_words o) (pads_in room) (copied_at (begin_of p room) o) v d0 (fill n (omega (arith, h))) in
    let mine = (detached_owns n s u p t v (pads_in room) (copied_at (begin_of p room) o) d1).0 in
    let d2 = detached_value n s u y p t null v (pads_in room) (copied_at (begin_of p room) o) d1 (c (suc n) t mine) in
    let d3 = subst (λ (x : model.Object). Detached n s y p null (pads_in room) x v) (object_is (begin_of p room) o l) d2 in
    subst (λ (w : ℕ). Replaces (suc n) s (linked y p room w) p v) (sym (pointer_is o l)) (linked_value n s m y p (copied_words o) room (new_of o) v r (new_some o l) fits d3)

pub copied_object : (levels : ℕ) (s m u y z : Segments) (p : Place) (o : Object) (room : Room) (there : Option Tree) (path : List Visit) (old new : ReadLimiter) → is_some (words_at s p 1) ≡ true → is_leaf o ≡ false → RoomFor s m p (copied_words o) room → Fits (new_of o)
    → Copied there path (λ v. (n : ℕ) → levels ≤ n → Fills n m u (span (begin_of p room) (copied_words o)) (copied_at (begin_of p room) o) v) (limited_words m old) (limited_words u new) → ClearsValue u y p → map length y ≡ map length u → z ≡ linked y p room (copied_pointer o)
    → ObjectCopied there path (object_put levels o p) (limited_words s old) (limited_words z new)
copied_object levels s m u y z p o room there path old new e l r fits g c sizes now = record {
  value = g.value;
  there_is = g.there_is;
  walked = g.walked;
  grows = grows_then s m z (room_grows s m p (copied_words o) room r) (grows_then m u z g.grows (grows_then u y z (sizes_grow u y sizes) (subst (λ (v : Segments). Grows y v) (sym now) (linked_grows y p room (copied_pointer o)))));
  takes = object_same (copied_words o) s u z old new (ap total_words now ∙ linked_total y p room (copied_pointer o) ∙ sym (total_alike u y sizes)) (object_taken s m u p (copied_words o) room old new r g.takes);
  becomes = λ n t h own. subst (λ (v : Segments). Replaces n s v p g.value) (sym now) (becomes levels n s m u y p o room t g.value h e l r fits g.made c own);
}

-- ---- given up

pub refused_object : (levels : ℕ) (from s m u y : Segments) (p : Place) (o : Object) (room : Room) (path : List Visit) (old new : ReadLimiter) (e : Error) → is_some (words_at s p 1) ≡ true → RoomFor s m p (copied_words o) room
    → Refused from path ((t : Tree) × Fills levels m u (span (begin_of p room) (copied_words o)) (copied_at (begin_of p room) o) t) (limited_words m old) e (limited_words u new) → ClearsObject u y (copied_at (begin_of p room) o) → map length y ≡ map length u
    → ObjectRefused from o path (limited_words s old) e (limited_words y new)
refused_object levels from s m u y p o room path old new e there r g clears sizes = record {
  left = given_up levels s m u y (begin_of p room) (copied_words o) (copied_at (begin_of p room) o) g.left.0 (room_new s m p (copied_words o) room there r) g.left.1 clears;
  takes = object_same (copied_words o) s u y old new (sym (total_alike u y sizes)) (object_taken s m u p (copied_words o) room old new r g.takes);
  why = inr (why_later from [] path path [] u y old old new e (sym (append-nil path)) (total_alike u y sizes) (walked_none old) g.why);
}

pub no_room : (from s u : Segments) (o : Object) (path : List Visit) (l : ReadLimiter) (e : Error) → u ≡ s → (e.kind ≡ SizeOverflow) ↔ IsTooLarge o (total_words s)
    → ObjectRefused from o path (limited_words s l) e (limited_words u l)
no_room from s u o path l e now kind = record {
  left = subst (λ (v : Segments). GrowsByZeros s v) (sym now) (changes_nothing s (λ q. 0));
  takes = object_untaken (copied_words o) s u l (ap total_words now);
  why = inl (record { stands = now; unread = refl; kind = kind });
}

-- a refusal that is passed on
pub object_refused : (levels : ℕ) (from : Segments) (o : Object) (there : Option Tree) (path : List Visit) (s u : Segments) (p : Place) (old new : ReadLimiter) (r : Result ⊤ Error) (d e : Error) → r ≡ Err d → d ≡ e → ObjectRefused from o path (limited_words s old) e (limited_words u new) → ObjectGives (copy_of from there path) (object_put levels o p) (limited_words s old) r (limited_words u new)
object_refused levels from o there path s u p old new r d e is same x =
    subst (λ (y : Result ⊤ Error). ObjectGives (copy_of from there path) (object_put levels o p) (limited_words s old) y (limited_words u new)) (sym (is ∙ ap (λ (y : Error). Err y) same)) x

-- ---- behind the visit of the object's own pointer

pub with_visit : (levels : ℕ) (from s u : Segments) (p q : Place) (o : Object) (there : Option Tree) (path : List Visit) (old mid new : ReadLimiter) (r : Result ⊤ Error) → (x : Pays from q old o mid)
    → ObjectGives (copy_of from there path) (object_put levels o p) (limited_words s mid) r (limited_words u new) → CopyGives (copy_of from there (Ok (x.pads + own_cost o) ∷ path)) (BecomesCopy (suc levels) s u p) (GrowsByZeros s u) (limited_words s old) r (limited_words u new)
with_visit levels from s u p q o there path old mid new (Ok y) x g = record {
  value = g.value;
  there_is = g.there_is;
  walked = walked_both (Ok (x.pads + own_cost o) ∷ []) path old mid new (paid_walk from q old mid o x) g.walked;
  grows = g.grows;
  takes = visit_taken from s u q o old mid new x.inside x g.takes;
  made = g.becomes;
}
with_visit levels from s u p q o there path old mid new (Err e) x g = record {
  left = g.left;
  takes = visit_taken from s u q o old mid new x.inside x g.takes;
  why = by g.why;
}
  where
    by : HasNoPlace o (limited_words s mid) e (limited_words u new) ⊎ (Stopped path mid e new ⊎ Unplaced from path u mid e new) → Stopped (Ok (x.pads + own_cost o) ∷ path) old e new ⊎ Unplaced from (Ok (x.pads + own_cost o) ∷ path) u old e new
    by (inl y) = inr (record {
      before = [];
      rest = path;
      at = q;
      found = record { pads = x.pads; object = o };
      found_is = x.is;
      path_is = refl;
      walked = subst (λ (l : ReadLimiter). Walked (Ok (x.pads + own_cost o) ∷ []) old l) (sym y.unread) (paid_walk from q old mid o x);
      kind = subst (λ (v : Segments). (e.kind ≡ SizeOverflow) ↔ IsTooLarge o (total_words v)) (sym y.stands) y.kind;
    })
    by (inr y) = why_later from (Ok (x.pads + own_cost o) ∷ []) path (Ok (x.pads + own_cost o) ∷ path) [] u u old mid new e (ap (λ (vs : List Visit). Ok (x.pads + own_cost o) ∷ vs) (sym (append-nil path))) refl (paid_walk from q old mid o x) y

-- ---- null and capabilities

pub leaf_is : (o : Object) → (o ≡ object.Null) ⊎ ((i : ℕ) × (o ≡ object.Capability i)) → is_leaf o ≡ true
leaf_is o (inl e) = ap is_leaf e
leaf_is o (inr e) = ap is_leaf e.1

pub no_leaf : (o : Object) → ((o ≡ object.Null) → ⊥) → ((i : ℕ) → o ≡ object.Capability i → ⊥) → is_leaf o ≡ false
no_leaf object.Null a b = absurd (a refl)
no_leaf (object.Capability i) a b = absurd (b i refl)
no_leaf (object.Struct p d k) a b = refl
no_leaf (object.List p size n) a b = refl
no_leaf (object.PointerList p n) a b = refl
no_leaf (object.StructList p words n d k) a b = refl

pub leaf_filled : (levels : ℕ) (from s : Segments) (r : Place) (o : Object) (l : ReadLimiter) → is_leaf o ≡ true
    → Copied (tree_in from (tree_at levels from) o) (met_in (visits levels from) o) (λ v. (n : ℕ) → levels ≤ n → Fills n s s (span r (copied_words o)) (copied_at r o) v) (limited_words s l) (limited_words s l)
leaf_filled levels from s r object.Null l h = record {
  value = null;
  there_is = refl;
  walked = walked_none l;
  grows = grows_same s;
  takes = takes_none s s l refl;
  made = λ n g. record { means = refl; changes = changes_alike s s (λ q. 0) (λ q. 0) (times_held (span r 0 ∷ [])) (object_footprint n s model.nothing) (changes_nothing s (λ q. 0)) (λ q. omega (arith, held_is r 0 [] q, held_none r q)) (λ q. refl) };
}
leaf_filled levels from s r (object.Capability i) l h = record {
  value = capability i;
  there_is = refl;
  walked = walked_none l;
  grows = grows_same s;
  takes = takes_none s s l refl;
  made = λ n g. record { means = refl; changes = changes_alike s s (λ q. 0) (λ q. 0) (times_held (span r 0 ∷ [])) (object_footprint n s (model.a_capability i)) (changes_nothing s (λ q. 0)) (λ q. omega (arith, held_is r 0 [] q, held_none r q)) (λ q. refl) };
}
leaf_filled levels from s r (object.Struct p d k) l h = absurd cc
leaf_filled levels from s r (object.List p size n) l h = absurd cc
leaf_filled levels from s r (object.PointerList p n) l h = absurd cc
leaf_filled levels from s r (object.StructList p words n d k) l h = absurd cc

-- what is made of zero words
abbrev pub FillGives : ℕ → Segments → Segments → Segments → Place → Object → ReadLimiter → Result ⊤ Error → ReadLimiter → Type 0
FillGives levels from s u r o old x new = CopyGives (copy_of from (tree_in from (tree_at levels from) o) (met_in (visits levels from) o)) (λ v. (n : ℕ) → levels ≤ n → Fills n s u (span r (copied_words o)) (copied_at r o) v) ((t : Tree) × Fills levels s u (span r (copied_words o)) (copied_at r o) t) (limited_words s old) x (limited_words u new)

-- ---- a walk that is stopped at once

pub stopped_gives : (n : ℕ) (from : Segments) (p : Place) (s : Segments) (old new : ReadLimiter) (e : Error) → Stopped (visits n from p) old e new → Refused from (visits n from p) (GrowsByZeros s s) (limited_words s old) e (limited_words s new)
stopped_gives n from p s old new e x = record { left = changes_nothing s (λ q. 0); takes = record { granted = x.paid; spends = x.spends; few = omega arith }; why = inl x }
