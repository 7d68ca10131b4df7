-- What dynamic readers stand on.
use Rattle.std.specs.Prelude.{ℕ, ◌/◌, List, [], ◌∷◌, length, replicate, true, bit_xor, Some, None, Result, ◌≡◌}
use Rattle.capnp_units.specs.declared.sizes.ElementSize.{ElementSize}
use Rattle.capnp_units.specs.declared.errors.Error.{Error}
use Rattle.capnp_units.specs.declared.limiter.ReadLimiter.{ReadLimiter}
use Rattle.capnp_units.specs.Limits.{left_of}
use Rattle.capnp_model.specs.Readings.{field_bits, just_bits}
use Rattle.std.specs.Simd.{first_chunks}
use Rattle.capnp_model.specs.Kinds.{Kind}
use Rattle.capnp_model.specs.Chains.{◌and_then◌}
use Rattle.capnp_model.specs.Segments.{root}
use Rattle.capnp_units.specs.Segments.{words_in}
use Rattle.capnp_wire_objects.specs.declared.object.Object.{Object}
use Rattle.capnp_wire.specs.Views.{PointerView, seen_pointer, StructView, seen_struct, ListView, seen_list}
use Rattle.capnp_wire.specs.Reads.{object_behind, read_text, read_blob, read_struct, read_list, unless_null, default_root}
use Rattle.capnp_values.specs.declared.defaults.Defaults.{Defaults}
use Rattle.capnp_values.specs.declared.source.PointerSource.{PointerSource}
use Rattle.capnp_values.specs.declared.source.PointerSource.TheVariants as pointer
use Rattle.capnp_values.specs.declared.source.StructSource.{StructSource}
use Rattle.capnp_values.specs.declared.source.StructSource.TheVariants as structure
use Rattle.capnp_values.specs.declared.source.ListSource.{ListSource}
use Rattle.capnp_values.specs.declared.source.ListSource.TheVariants as list

-- What the object that a pointer names reads as, else the kind of its fault.
abbrev pub read_behind : {Y : Type 0} → (Object → Result Y Kind) → PointerView → Result Y Kind
read_behind read p = object_behind p and_then λ f. read f.object

-- The text behind a pointer, its data, its struct, and its list with elements of an expected size.
abbrev pub pointed_text : PointerView → Result (List ℕ) Kind
pointed_text p = read_behind (read_text p.basis p.levels) p

abbrev pub pointed_data : PointerView → Result (List ℕ) Kind
pointed_data p = read_behind (read_blob p.basis p.levels) p

abbrev pub pointed_struct : PointerView → Result StructView Kind
pointed_struct p = read_behind (read_struct p.basis p.levels) p

abbrev pub pointed_list : ElementSize → PointerView → Result ListView Kind
pointed_list size p = read_behind (read_list p.basis p.levels size) p

-- The one segment of the arena in which defaults are read: a null root.
abbrev pub null_root_segments : Defaults → List (List ℕ)
null_root_segments d = replicate 8 0 ∷ []

-- The null pointer in whose place a default is read.
abbrev pub null_default : PointerView
null_default = record { basis = record { segments = words_in (replicate 8 0 ∷ []); paid = true }; place = Some root; levels = Some 64 }

-- A default of these bytes, unless its root is null.
abbrev pub default_pointer : List ℕ → PointerView
default_pointer bytes = unless_null null_default (default_root (first_chunks 8 (length bytes / 8) bytes) (Some 64))

-- The pointer.
abbrev pub pointer_seen : {A : Type 0} → (A → List (List ℕ)) → PointerSource A → PointerView
pointer_seen bytes (pointer.Message p) = seen_pointer bytes p
pointer_seen bytes (pointer.Default p) = seen_pointer null_root_segments p

-- The struct.
abbrev pub struct_seen : {A : Type 0} → (A → List (List ℕ)) → StructSource A → StructView
struct_seen bytes (structure.Message s) = seen_struct bytes s
struct_seen bytes (structure.Default s) = seen_struct null_root_segments s

-- The list.
abbrev pub list_seen : {A : Type 0} → (A → List (List ℕ)) → ListSource A → ListView
list_seen bytes (list.Message l) = seen_list bytes l
list_seen bytes (list.Default l) = seen_list null_root_segments l

-- The bits of a field of a struct, exclusive or those of its default; outside the section there are zeros.
abbrev pub masked_bits : StructView → ℕ → ℕ → ℕ → ℕ
masked_bits v at width default = bit_xor (field_bits (just_bits v.bits) v.section at width) default

-- What a call answers that has a budget without a limit.
abbrev pub WithoutLimit : {X : Type 0} → (ReadLimiter → Result X Error → ReadLimiter → Type 0) → Result X Error → Type 0
WithoutLimit gives result = (old : ReadLimiter) × (new : ReadLimiter) × (left_of old ≡ None) × gives old result new

-- The size of the elements of a list.
abbrev pub size_in : {A : Type 0} → ListSource A → ElementSize
size_in (list.Message l) = l.size
size_in (list.Default l) = l.size
