-- Empty values that are put behind pointers.
use Rattle.std.proofs.Common.{◌≡◌, ℕ, true, false, Option, Some, None, List, Result, Ok, Err, OnOk, refl, sym, subst}
use Rattle.std.specs.Prelude.{IfSome, IfNone, IfErr, OnErr}
use Rattle.capnp_model.specs.Kinds.{InitnIsOnlyValidForListTextOrDataFields}
use Rattle.capnp_model.specs.Segments.{Segments}
use Rattle.capnp_model.specs.Trees.{Tree, null, struct_list, no_elements}
use Rattle.capnp_model.specs.Coverage.{Grows}
use Rattle.capnp_model.specs.Schemas.{Ty, void, plain, text, blob, untyped, interface, struct, list, Schema}
use Rattle.capnp_model.specs.Calls.{refused_by, object, initn_content}
use Rattle.capnp_model.specs.Groups.{empty_tree}
use Rattle.capnp_units.specs.Segments.{words_in}
use Rattle.capnp_units.specs.declared.errors.Error.{Error}
use Rattle.capnp_model_writes.proofs.lemmas.Algebra.{changes_nothing}
use Rattle.capnp_model_writes.proofs.lemmas.Spans.{grows_same}
use Rattle.capnp_wire_objects.specs.Places.{place_view}
use Rattle.capnp_layout_builders.specs.Making.{ArenaState, Makes, BytesNotSet}
use Rattle.capnp_wire_objects.specs.declared.place.Place as code
use Rattle.capnp_values_queries.specs.Types.{ty_of_variant}
use Rattle.capnp_records.specs.declared.raw.RawBrandedStructSchema.{RawBrandedStructSchema}
use Rattle.capnp_values_queries.specs.declared.introspect.TypeVariant.{TypeVariant}
use Rattle.capnp_values_queries.specs.declared.introspect.TypeVariant.TheVariants as V
use Rattle.capnp_schema_structs.specs.NewLists.{tree_of_new, content_of_list, ObjectNotMade}
use Rattle.capnp_schema_structs.specs.declared.initn.NewList.{NewList}
use Rattle.capnp_schema_structs.specs.Sources.{StandsIfRefused}
use Rattle.capnp_schema_structs.specs.GroupSets.{PutsAny, is_struct_list}
use Rattle.capnp_schema_structs.proofs.lemmas.Sources.{words_stand}
use Rattle.capnp_schema_structs.proofs.lemmas.Grown.{same_grows}
use Rattle.capnp_schema_structs.proofs.lemmas.AnyEdits.{puts_becomes}

pub struct_list_empty : (s : Schema) (ty : Ty) → is_struct_list ty ≡ true → struct_list 0 0 no_elements ≡ empty_tree s ty
struct_list_empty s void h = absurd (cc h)
struct_list_empty s (plain p) h = absurd (cc h)
struct_list_empty s text h = absurd (cc h)
struct_list_empty s blob h = absurd (cc h)
struct_list_empty s untyped h = absurd (cc h)
struct_list_empty s interface h = absurd (cc h)
struct_list_empty s (struct id) h = absurd (cc h)
struct_list_empty s (list void) h = absurd (cc h)
struct_list_empty s (list (plain p)) h = absurd (cc h)
struct_list_empty s (list text) h = absurd (cc h)
struct_list_empty s (list blob) h = absurd (cc h)
struct_list_empty s (list untyped) h = absurd (cc h)
struct_list_empty s (list interface) h = absurd (cc h)
struct_list_empty s (list (struct id)) h = refl
struct_list_empty s (list (list ty)) h = absurd (cc h)

object_same : (a b : Tree) → object a ≡ object b → a ≡ b
object_same a b e = cc e

other_empty : (s : Schema) (ty : Ty) (l : NewList) → is_struct_list ty ≡ false → object (tree_of_new l 0) ≡ initn_content s 0 ty InitnIsOnlyValidForListTextOrDataFields → tree_of_new l 0 ≡ empty_tree s ty
other_empty s void l h e = absurd (cc e)
other_empty s (plain p) l h e = absurd (cc e)
other_empty s text l h e = object_same _ _ e
other_empty s blob l h e = object_same _ _ e
other_empty s untyped l h e = absurd (cc e)
other_empty s interface l h e = absurd (cc e)
other_empty s (struct id) l h e = absurd (cc e)
other_empty s (list void) l h e = object_same _ _ e
other_empty s (list (plain p)) l h e = object_same _ _ e
other_empty s (list text) l h e = object_same _ _ e
other_empty s (list blob) l h e = object_same _ _ e
other_empty s (list untyped) l h e = object_same _ _ e
other_empty s (list interface) l h e = object_same _ _ e
other_empty s (list (struct id)) l h e = absurd (cc h)
other_empty s (list (list ty)) l h e = object_same _ _ e

pub some_empty : (s : Schema) (ty : Ty) → is_struct_list ty ≡ false → (o : Option NewList) → ((n : ℕ) → content_of_list o n ≡ initn_content s n ty InitnIsOnlyValidForListTextOrDataFields) → IfSome o (λ l. tree_of_new l 0 ≡ empty_tree s ty)
some_empty s ty h None e = tt
some_empty s ty h (Some l) e = other_empty s ty l h (e 0)

pub no_list : (s : Schema) (ty : Ty) (o : Option NewList) → ((n : ℕ) → content_of_list o n ≡ initn_content s n ty InitnIsOnlyValidForListTextOrDataFields) → IfNone o (refused_by InitnIsOnlyValidForListTextOrDataFields ≡ initn_content s 0 ty InitnIsOnlyValidForListTextOrDataFields)
no_list s ty None e = e 0
no_list s ty (Some l) e = tt

-- a type that is no struct's, and has no empty list either, has no empty value
by_variant : (s : Schema) (v : TypeVariant) → ((x : RawBrandedStructSchema) → v ≡ V.Struct x → ⊥) → refused_by InitnIsOnlyValidForListTextOrDataFields ≡ initn_content s 0 (ty_of_variant v) InitnIsOnlyValidForListTextOrDataFields → empty_tree s (ty_of_variant v) ≡ null
by_variant s V.Void not e = refl
by_variant s V.Bool not e = refl
by_variant s V.Int8 not e = refl
by_variant s V.Int16 not e = refl
by_variant s V.Int32 not e = refl
by_variant s V.Int64 not e = refl
by_variant s V.UInt8 not e = refl
by_variant s V.UInt16 not e = refl
by_variant s V.UInt32 not e = refl
by_variant s V.UInt64 not e = refl
by_variant s V.Text not e = absurd (cc e)
by_variant s V.Data not e = absurd (cc e)
by_variant s (V.Struct x) not e = absurd (not x refl)
by_variant s V.AnyPointer not e = refl
by_variant s V.Capability not e = refl
by_variant s (V.Enum x) not e = refl
by_variant s (V.List t) not e = absurd (cc e)

pub no_empty : (s : Schema) (ty : Ty) (v : TypeVariant) → ty_of_variant v ≡ ty → ((x : RawBrandedStructSchema) → v ≡ V.Struct x → ⊥) → refused_by InitnIsOnlyValidForListTextOrDataFields ≡ initn_content s 0 ty InitnIsOnlyValidForListTextOrDataFields → empty_tree s ty ≡ null
no_empty s ty v is not e = subst (λ y. empty_tree s y ≡ null) is (by_variant s v not (subst (λ y. refused_by InitnIsOnlyValidForListTextOrDataFields ≡ initn_content s 0 y InitnIsOnlyValidForListTextOrDataFields) (sym is) e))

-- ---- where it is put

pub made_puts : {X E : Type 0} (x : Result X E) (old new : ArenaState) (slot : code.Place) (t v : Tree) (words : ℕ) → t ≡ v → OnOk x (Makes old new slot t words) → OnOk x (PutsAny (words_in old.segments) (words_in new.segments) (place_view slot) v)
made_puts (Ok x) old new slot t v words e h = subst (PutsAny (words_in old.segments) (words_in new.segments) (place_view slot)) e (puts_becomes (words_in old.segments) (words_in new.segments) (place_view slot) t h.becomes)
made_puts (Err e') old new slot t v words e h = tt

-- nothing is done
pub stands_same : {X : Type 0} (r : Result X Error) (s : Segments) → StandsIfRefused s s r
stands_same (Ok x) s = record { grows = grows_same s; refused = tt }
stands_same (Err e) s = record { grows = grows_same s; refused = changes_nothing s (λ q. 0) }

-- a refusal leaves the bytes of all segments
pub kept_stands : {X : Type 0} (x : Result X Error) (a b : List (List ℕ)) → OnOk x (Grows (words_in a) (words_in b)) → OnErr x (b ≡ a) → StandsIfRefused (words_in a) (words_in b) x
kept_stands (Ok x) a b h k = record { grows = h; refused = tt }
kept_stands (Err e) a b h k = words_stand a b (Err e) (same_grows a b k) k

list_left : {X : Type 0} (x : Result X Error) (old new : ArenaState) (segment : ℕ) (t : Tree) → IfErr x (ObjectNotMade old new segment t) → OnErr x (new.segments ≡ old.segments)
list_left (Ok x) old new segment t k = tt
list_left (Err e) old new segment t k = k.1.0

pub list_stands : {X : Type 0} (x : Result X Error) (old new : ArenaState) (segment : ℕ) (t : Tree) → OnOk x (Grows (words_in old.segments) (words_in new.segments)) → IfErr x (ObjectNotMade old new segment t) → StandsIfRefused (words_in old.segments) (words_in new.segments) x
list_stands x old new segment t h k = kept_stands x old.segments new.segments h (list_left x old new segment t k)

bytes_left : {X : Type 0} (x : Result X Error) (old new : ArenaState) (segment count : ℕ) → IfErr x (BytesNotSet old new segment count) → OnErr x (new.segments ≡ old.segments)
bytes_left (Ok x) old new segment count k = tt
bytes_left (Err e) old new segment count k = k.1.0

pub bytes_stand : {X : Type 0} (x : Result X Error) (old new : ArenaState) (segment count : ℕ) → OnOk x (Grows (words_in old.segments) (words_in new.segments)) → IfErr x (BytesNotSet old new segment count) → StandsIfRefused (words_in old.segments) (words_in new.segments) x
bytes_stand x old new segment count h k = kept_stands x old.segments new.segments h (bytes_left x old new segment count k)
