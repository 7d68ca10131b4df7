-- The words of the default that a node says of a pointer to a struct or a list hold the field's.
use Rattle.std.proofs.Common.{◌≡◌, ℕ, true, Option, Some, None, refl, sym, subst, ◌∙◌}
use Rattle.std.specs.Prelude.{option_map}
use Rattle.capnp_model.specs.Trees.{Tree}
use Rattle.capnp_model.specs.Schemas.{Ty, void, plain, text, blob, untyped, interface, struct, list, pointer_slot, default_or_null, Value, no_value, bits, text_bytes, blob_bytes, list_segment, struct_segment, untyped_value, interface_value, FieldKind, slot, group, Field as FieldNode, StructNode}
use Rattle.capnp_model.specs.Decoding.{decode}
use Rattle.capnp_model.specs.Accepted.{default_tree, is_default_of, opens_as, is_good_value}
use Rattle.capnp_values_queries.specs.Structs.{nodes_around, id_of, IsRecordOf}
use Rattle.capnp_values_queries.specs.Handles.{entry_of_field, IsFieldRecord}
use Rattle.capnp_values_queries.specs.declared.fields.Field.{Field}
use Rattle.capnp_calls.specs.Slots.{IsWellTypedDefault, IsReadableDefault}
use Rattle.capnp_calls.specs.Finding.{default_in}
use Rattle.capnp_calls.proofs.lemmas.FieldSlots.{kind_of_pointer, body_of_pointer}
use Rattle.capnp_records.proofs.lemmas.Segments.{segment_found}
use Rattle.capnp_calls.proofs.lemmas.ReadableSteps.{struct_default_found}
use Rattle.capnp_values.specs.Shown.{default_said}
use Rattle.capnp_schema_structs.specs.Defaults.{default_words}
use Rattle.capnp_schema_structs.proofs.lemmas.NullMembers.{words_hold, some_tree}
use Rattle.capnp_calls_edits.specs.Written.{HoldsDefaultOrNull, has_inside}

-- the default of a list can be read
list_default_found : (ty : Ty) (d : Option Value) → IsWellTypedDefault (list ty) d → IsReadableDefault d
list_default_found ty d h = by d h.is h.reads
  where
    by : (d : Option Value) → is_default_of (list ty) d ≡ true → is_good_value (λ t. opens_as t (list ty)) d ≡ true → IsReadableDefault d
    by None k l = tt
    by (Some no_value) k l = tt
    by (Some (bits q n)) k l = tt
    by (Some (text_bytes bs)) k l = absurd (cc k)
    by (Some (blob_bytes bs)) k l = absurd (cc k)
    by (Some (list_segment bs)) k l = segment_found (λ t. opens_as t (list ty)) bs l
    by (Some (struct_segment bs)) k l = absurd (cc k)
    by (Some untyped_value) k l = tt
    by (Some interface_value) k l = tt

default_found : (ty : Ty) (d : Option Value) → has_inside ty ≡ true → IsWellTypedDefault ty d → IsReadableDefault d
default_found void d i h = absurd (cc i)
default_found (plain p) d i h = absurd (cc i)
default_found text d i h = absurd (cc i)
default_found blob d i h = absurd (cc i)
default_found untyped d i h = absurd (cc i)
default_found interface d i h = absurd (cc i)
default_found (struct id) d i h = struct_default_found id d h
default_found (list ty) d i h = list_default_found ty d h

-- what a node says of a field
said_in : (k : FieldKind) → default_said k ≡ default_in k
said_in (slot offset ty d) = refl
said_in (group id) = refl

-- a segment's words hold its value
segment_held : (d : Option Value) → IsReadableDefault d → HoldsDefaultOrNull (default_words d) (default_or_null (default_tree d))
segment_held None h = refl
segment_held (Some no_value) h = refl
segment_held (Some (bits q n)) h = refl
segment_held (Some (text_bytes bs)) h = absurd h
segment_held (Some (blob_bytes bs)) h = absurd h
segment_held (Some (list_segment bs)) h = words_hold bs (default_or_null (decode bs)) (some_tree (decode bs) h)
segment_held (Some (struct_segment bs)) h = words_hold bs (default_or_null (decode bs)) (some_tree (decode bs) h)
segment_held (Some untyped_value) h = refl
segment_held (Some interface_value) h = refl

-- the words that a node says hold the field's default
module _ (f : Field) (r : FieldNode) (rec : IsFieldRecord f.parent f.index r) (n : StructNode) (holder : IsRecordOf (nodes_around f.parent) (id_of f.parent) n) (i : ℕ) (ty : Ty) (d : Option Tree) (body : option_map (λ e. e.body) (entry_of_field f) ≡ Some (pointer_slot i ty d)) where
  pub default_held : (v : Option Value) → v ≡ default_said r.kind → has_inside ty ≡ true → HoldsDefaultOrNull (default_words v) (default_or_null d)
  default_held v said inside =
      let kind = kind_of_pointer f r rec n holder i ty d body in
      let own = default_in r.kind in
      let same : Some (pointer_slot i ty (default_tree own)) ≡ Some (pointer_slot i ty d) = sym (body_of_pointer f r rec n holder i ty d body) ∙ body in
      let tree : default_tree own ≡ d = cc same in
      let good : IsWellTypedDefault ty own = record { is = kind.default; reads = kind.good } in
      let held : HoldsDefaultOrNull (default_words own) (default_or_null d) = subst (λ (t : Option Tree). HoldsDefaultOrNull (default_words own) (default_or_null t)) tree (segment_held own (default_found ty own inside good)) in
      subst (λ (x : Option Value). HoldsDefaultOrNull (default_words x) (default_or_null d)) (sym (said ∙ said_in r.kind)) held
