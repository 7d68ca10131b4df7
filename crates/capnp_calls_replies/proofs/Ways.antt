-- Ways at what is shown of fields and elements.
use Rattle.std.proofs.Common.{◌*◌, Bool, true, false, Option, Some, None, List, ℕ, Result, Ok, Err, if◌then◌else◌}
use Rattle.std.specs.Prelude.{⊤}
use Rattle.capnp_model.specs.Kinds.{Kind}
use Rattle.capnp_model.specs.Chains.{◌and_then◌}
use Rattle.capnp_model.specs.Schemas.{PlainType, bool, int, uint, «enum», Ty, void, plain, text, blob, untyped, interface, struct, list, type_of, Value, no_value, bits, text_bytes, blob_bytes, list_segment, struct_segment, untyped_value, interface_value, FieldKind, slot, group, Schema}
use Rattle.capnp_model.specs.Accepted.{default_bits}
use Rattle.capnp_model.specs.Calls.{Step}
use Rattle.capnp_wire.specs.Views.{PointerView, StructView, ListView, pointer_field, element_as_struct, element_number}
use Rattle.capnp_wire.specs.Reads.{is_null_pointer, read_struct, read_blob, read_text, read_list}
use Rattle.capnp_model.specs.Schemas.{width}
use Rattle.capnp_values.specs.ListSizes.{size_of}
use Rattle.capnp_values.specs.Sources.{read_behind, default_pointer, masked_bits}
use Rattle.capnp_values.specs.Shown.{Shown, a_text, a_blob, a_struct, a_list, number_shown, shown_behind, segment_opened, default_opened, slot_opened, slot_shown, kind_shown, element_shown}
use Rattle.capnp_calls.specs.declared.find.FoundField.{FoundField}
use Rattle.capnp_calls.specs.Ways.{IsWay}
use Rattle.capnp_calls_replies.specs.Parts.{IsWayIn}

-- What is shown, if anything, has the way.
abbrev pub HasWay : List Step → List FoundField → Result Shown Kind → Type 0
HasWay path way (Ok x) = IsWayIn x path way
HasWay path way (Err k) = ⊤

then_way : {Y : Type 0} (path : List Step) (way : List FoundField) (f : Y → Shown) (r : Result Y Kind) → ((y : Y) → IsWayIn (f y) path way) → HasWay path way (r and_then λ y. Ok (f y))
then_way path way f (Ok y) all = all y
then_way path way f (Err k) all = tt

opened_way : (s : Schema) (path : List Step) (way : List FoundField) (ty : Ty) (p : PointerView) → IsWay s path way → HasWay path way (shown_behind s ty p)
opened_way s path way void p is = tt
opened_way s path way (plain q) p is = tt
opened_way s path way text p is = then_way path way (λ bytes. a_text bytes) (read_behind (read_text p.basis p.levels) p) (λ bytes. tt)
opened_way s path way blob p is = then_way path way (λ bytes. a_blob bytes) (read_behind (read_blob p.basis p.levels) p) (λ bytes. tt)
opened_way s path way untyped p is = tt
opened_way s path way interface p is = tt
opened_way s path way (struct id) p is = then_way path way (λ v. a_struct s (s.shape_of id) v) (read_behind (read_struct p.basis p.levels) p) (λ v. is)
opened_way s path way (list ty) p is = then_way path way (λ l. a_list s ty l) (read_behind (read_list p.basis p.levels (size_of ty)) p) (λ l. is)

segment_way : (s : Schema) (path : List Step) (way : List FoundField) (ty : Ty) (p : PointerView) (bytes : List ℕ) → IsWay s path way → HasWay path way (segment_opened s ty p bytes)
segment_way s path way void p bytes is = tt
segment_way s path way (plain q) p bytes is = tt
segment_way s path way text p bytes is = opened_way s path way text p is
segment_way s path way blob p bytes is = opened_way s path way blob p is
segment_way s path way untyped p bytes is = tt
segment_way s path way interface p bytes is = tt
segment_way s path way (struct id) p bytes is = opened_way s path way (struct id) (default_pointer bytes) is
segment_way s path way (list ty) p bytes is = opened_way s path way (list ty) (default_pointer bytes) is

default_way : (s : Schema) (path : List Step) (way : List FoundField) (ty : Ty) (p : PointerView) (d : Value) → IsWay s path way → HasWay path way (default_opened s ty p d)
default_way s path way ty p no_value is = opened_way s path way ty p is
default_way s path way ty p (bits q n) is = opened_way s path way ty p is
default_way s path way ty p (text_bytes bytes) is = tt
default_way s path way ty p (blob_bytes bytes) is = tt
default_way s path way ty p (list_segment bytes) is = segment_way s path way ty p bytes is
default_way s path way ty p (struct_segment bytes) is = segment_way s path way ty p bytes is
default_way s path way ty p untyped_value is = opened_way s path way ty p is
default_way s path way ty p interface_value is = opened_way s path way ty p is

pointer_way : (s : Schema) (path : List Step) (way : List FoundField) (ty : Ty) (d : Option Value) (p : PointerView) → IsWay s path way → HasWay path way (slot_opened s ty d p)
pointer_way s path way ty None p is = opened_way s path way ty p is
pointer_way s path way ty (Some d) p is = by (is_null_pointer p)
  where
    by : (b : Bool) → HasWay path way (if b then default_opened s ty p d else shown_behind s ty p)
    by true = default_way s path way ty p d is
    by false = opened_way s path way ty p is

number_way : (s : Schema) (path : List Step) (way : List FoundField) (q : PlainType) (n : ℕ) → IsWayIn (number_shown s q n) path way
number_way s path way bool n = tt
number_way s path way (int w) n = tt
number_way s path way (uint w) n = tt
number_way s path way («enum» id) n = tt

slot_way : (s : Schema) (path : List Step) (way : List FoundField) (v : StructView) (offset : ℕ) (ty : Ty) (d : Option Value) → IsWay s path way → HasWay path way (slot_shown s v offset ty d)
slot_way s path way v offset void d is = tt
slot_way s path way v offset (plain q) d is = number_way s path way q (masked_bits v (width q * offset) (width q) (default_bits d))
slot_way s path way v offset text d is = pointer_way s path way text d (pointer_field v offset) is
slot_way s path way v offset blob d is = pointer_way s path way blob d (pointer_field v offset) is
slot_way s path way v offset untyped d is = pointer_way s path way untyped d (pointer_field v offset) is
slot_way s path way v offset interface d is = pointer_way s path way interface d (pointer_field v offset) is
slot_way s path way v offset (struct id) d is = pointer_way s path way (struct id) d (pointer_field v offset) is
slot_way s path way v offset (list ty) d is = pointer_way s path way (list ty) d (pointer_field v offset) is

pub kind_way : (s : Schema) (path : List Step) (way : List FoundField) (v : StructView) (k : FieldKind) → IsWay s path way → HasWay path way (kind_shown s v k)
kind_way s path way v (slot offset ty d) is = slot_way s path way v offset (type_of ty) d is
kind_way s path way v (group id) is = is

pub element_way : (s : Schema) (path : List Step) (way : List FoundField) (ty : Ty) (l : ListView) (i : ℕ) → IsWay s path way → HasWay path way (element_shown s ty l i)
element_way s path way void l i is = tt
element_way s path way (plain q) l i is = number_way s path way q (element_number l i (width q))
element_way s path way (struct id) l i is = is
element_way s path way text l i is = opened_way s path way text (pointer_field (element_as_struct l i) 0) is
element_way s path way blob l i is = opened_way s path way blob (pointer_field (element_as_struct l i) 0) is
element_way s path way untyped l i is = tt
element_way s path way interface l i is = tt
element_way s path way (list ty) l i is = opened_way s path way (list ty) (pointer_field (element_as_struct l i) 0) is
