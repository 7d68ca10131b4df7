-- What is there stays there, where segments grow, and where they grow.
use Rattle.std.proofs.Common.{◌≡◌, inl, inr, ℕ, ◌+◌, ◌<◌, ◌||◌, not, Bool, true, false, List, Option, Some, None, Result, Ok, Err, refl, sym, subst, ap}
use Rattle.std.specs.Bool.{⊤}
use Rattle.capnp_model.specs.Coverage.{Grows}
use Rattle.capnp_model.specs.Segments.{Segments, Place, root, after}
use Rattle.capnp_model.specs.Trees.{Tree, child}
use Rattle.capnp_units.specs.Segments.{words_in}
use Rattle.capnp_units.specs.declared.errors.Error.{Error}
use Rattle.capnp_units.specs.declared.sizes.StructSize.{StructSize}
use Rattle.capnp_model_writes.specs.Footprints.{Owns}
use Rattle.capnp_model_writes.proofs.lemmas.Lift.{child_of_struct}
use Rattle.capnp_model_writes.proofs.lemmas.Spans.{grows_same}
use Rattle.capnp_wire_objects.specs.Places.{place_view}
use Rattle.capnp_copy_arenas.specs.declared.fields.StructPlace.{StructPlace}
use Rattle.capnp_copy_arenas.proofs.lemmas.RoomLaws.{still_some}
use Rattle.capnp_copy_values.specs.Defaults.{WritesDefault, is_null_or_absent}
use Rattle.capnp_layout_builders.specs.Gets.{Begins, Gets, NoStructGot}
use Rattle.capnp_schema_structs.specs.Edits.{IsThere}
use Rattle.capnp_schema_structs.specs.Grown.{GrowsAround, GrowsBehind}

pub there_grown : (s u : Segments) (p : StructPlace) → Grows s u → IsThere s p → IsThere u p
there_grown s u p g h = record { words = still_some s u (place_view p.start) (p.data_words + p.pointers) g h.words; near = h.near }

-- segments of the same bytes
pub same_grows : (a b : List (List ℕ)) → b ≡ a → Grows (words_in a) (words_in b)
same_grows a b e = subst (λ (x : List (List ℕ)). Grows (words_in a) (words_in x)) (sym e) (grows_same (words_in a))

-- ---- a default in place of null

default_grows : (f s u : Segments) (p : Place) (r : Result ⊤ Error) (a b : Bool) → is_null_or_absent s p ≡ a → is_null_or_absent f root ≡ b → WritesDefault f s u p r → Grows s u
default_grows f s u p r false b ea eb w = subst (Grows s) (sym (w.kept (ap (λ x. not x || is_null_or_absent f root) ea)).0) (grows_same s)
default_grows f s u p r true true ea eb w = subst (Grows s) (sym (w.kept (subst (λ x. (not (is_null_or_absent s p) || x) ≡ true) (sym eb) (subst (λ y. (not y || true) ≡ true) (sym ea) refl))).0) (grows_same s)
default_grows f s u p (Ok x) true false ea eb w = (w.written ea eb).copies.grows
default_grows f s u p (Err e) true false ea eb w = (w.written ea eb).copies.left.grows

pub begin_grows : (default : Option (List (List ℕ))) (s u : Segments) (p : Place) (r : Result ⊤ Error) → Begins default s u p r → Grows s u
begin_grows None s u p r b = subst (Grows s) (sym b.0) (grows_same s)
begin_grows (Some words) s u p r b = default_grows _ s u p r _ _ refl refl b

pub no_struct_grows : (default : Option (List (List ℕ))) (s u : Segments) (p : Place) (size : StructSize) (e : Error) → NoStructGot default s u p size e → Grows s u
no_struct_grows default s u p size e (inl b) = begin_grows default s u p (Err e) b
no_struct_grows default s u p size e (inr b) = begin_grows default s u p (Ok tt) b.0

pub gets_grow : (default : Option (List (List ℕ))) (s u : Segments) (p : Place) (made : Tree → Tree) → Gets default s u p made → GrowsBehind s u p
gets_grow default s u p made got n t own = let x = got n t own in x.2.changes.grows

-- ---- a child of a struct

pub child_grows : (s u : Segments) (p : StructPlace) (i : ℕ) (r : Place) → i < p.pointers → r ≡ after (after (place_view p.start) p.data_words) i → GrowsBehind s u r → GrowsAround s u p
child_grows s u p i r l e h n section kids o =
    let owned = child_of_struct n s (place_view p.start) p.data_words p.pointers i p.data_words section kids l o in
    h n (child kids i) (subst (λ q. Owns n s q (child kids i)) (sym e) owned)
