-- A slot that is set to a value without pointers, as the model puts it.
use Rattle.std.proofs.Common.{◌≡◌, ℕ, ◌*◌, ◌^◌, ◌<◌, List, length, map, Result, Ok, Option, Some, None, bit_xor, refl, sym, ap, subst, ◌∙◌}
use Rattle.std.specs.Prelude.{⊤, option_map}
use Rattle.std.proofs.lemmas.Nat.{xor_lt}
use Rattle.capnp_model.specs.Kinds.{TypeMismatch}
use Rattle.capnp_model.specs.Schemas.{PlainType, width, Ty, Field as FieldNode, Body, plain_slot, pointer_slot}
use Rattle.capnp_model.specs.Trees.{Tree}
use Rattle.capnp_model.specs.Calls.{Content, refused_by, bits_of, object, blob_tree}
use Rattle.capnp_model.specs.Edits.{Cell, put_bits, mark, put_content}
use Rattle.capnp_units.specs.Segments.{words_in}
use Rattle.capnp_units.specs.declared.errors.Error.{Error}
use Rattle.capnp_values_queries.specs.Fields.{entry_in, union_in}
use Rattle.capnp_values_queries.specs.Structs.{nodes_around, schema_around, shape_of_struct, id_of}
use Rattle.capnp_values_queries.specs.Handles.{entry_of_field, IsFieldRecord}
use Rattle.capnp_values_queries.specs.declared.fields.Field.{Field}
use Rattle.capnp_copy_arenas.specs.Structs.{SetsBits}
use Rattle.capnp_copy_arenas.specs.declared.fields.StructPlace.{StructPlace}
use Rattle.capnp_values.specs.declared.dynamic_value.Reader.{Reader}
use Rattle.capnp_values.proofs.lemmas.PlainDefaults.{default_fits}
use Rattle.capnp_layout_builders.specs.Making.{ArenaState}
use Rattle.capnp_schema_structs.specs.Edits.{Edits, marked, marked_in}
use Rattle.capnp_schema_structs.specs.Given.{plain_given, bits_given, bytes_given, pointer_refusal, flat_content, set_content, set_entry, set_edit}
use Rattle.capnp_schema_structs.specs.Puts.{PutsContent}
use Rattle.capnp_schema_structs.proofs.lemmas.Writes.{edits_then, edits_same}
use Rattle.capnp_schema_structs.proofs.lemmas.GroupFields.{body_is}

-- a number with its default has no more bits than the slot
pub fits_slot : (f : Field) (p : PlainType) (at d n w : ℕ) → option_map (λ e. e.body) (entry_of_field f) ≡ Some (plain_slot p at d) → n < 2 ^ width p → w ≡ width p → bit_xor n d < 2 ^ w
fits_slot f p at d n w same few e =
    let s = f.parent in
    let small = default_fits (nodes_around s) s.set.now.accepted (id_of s) f.index p at d same in
    subst (λ x. bit_xor n d < 2 ^ x) (sym e) (xor_lt (width p) n d few small)

-- ---- the content, by the value

module _ {A : Type 0} (v : Reader A) where
  pub no_bits : (p : PlainType) (at d : ℕ) → bits_given p (plain_given v) ≡ None → flat_content v (plain_slot p at d) ≡ refused_by TypeMismatch
  no_bits p at d e = ap (λ (g : Option ℕ). elim g as (λ (y : Option ℕ). Content) [ None ↦ refused_by TypeMismatch | Some n ↦ bits_of n ]) e

  pub some_bits : (p : PlainType) (at d n : ℕ) → bits_given p (plain_given v) ≡ Some n → flat_content v (plain_slot p at d) ≡ bits_of n
  some_bits p at d n e = ap (λ (g : Option ℕ). elim g as (λ (y : Option ℕ). Content) [ None ↦ refused_by TypeMismatch | Some m ↦ bits_of m ]) e

  pub no_bytes : (i : ℕ) (ty : Ty) (d : Option Tree) → bytes_given v ty ≡ None → flat_content v (pointer_slot i ty d) ≡ refused_by (pointer_refusal ty)
  no_bytes i ty d e = ap (λ (g : Option (List ℕ)). elim g as (λ (y : Option (List ℕ)). Content) [ None ↦ refused_by (pointer_refusal ty) | Some bs ↦ object (blob_tree bs) ]) e

  pub some_bytes : (i : ℕ) (ty : Ty) (d : Option Tree) (bytes : List ℕ) → bytes_given v ty ≡ Some bytes → flat_content v (pointer_slot i ty d) ≡ object (blob_tree bytes)
  some_bytes i ty d bytes e = ap (λ (g : Option (List ℕ)). elim g as (λ (y : Option (List ℕ)). Content) [ None ↦ refused_by (pointer_refusal ty) | Some bs ↦ object (blob_tree bs) ]) e

-- ---- fields of a content

module _ {A : Type 0} (v : Reader A) (f : Field) (r : FieldNode) (is : IsFieldRecord f.parent f.index r) (b : Body) (same : option_map (λ e. e.body) (entry_of_field f) ≡ Some b) where
  pub content_is : set_content v (entry_of_field f) ≡ flat_content v b
  content_is = ap (set_content v) is.entry ∙ ap (flat_content v) (body_is f r is b same)

  pub edit_is : (k : Content) → flat_content v b ≡ k → (c : Cell) → put_content b k (marked f c) ≡ set_edit f v c
  edit_is k e c =
      let union = union_in (shape_of_struct f.parent) in
      let x = entry_in (schema_around f.parent) r in
      ap (λ k. put_content b k (marked f c)) (sym e) ∙ ap (λ o. put_content b (flat_content v b) (marked_in union o c)) is.entry
      ∙ ap (λ y. put_content y (flat_content v y) (mark union x.member c)) (sym (body_is f r is b same)) ∙ ap (λ o. set_entry union v o c) (sym is.entry)

  pub puts_as : {X : Type 0} (k : Content) → flat_content v b ≡ k → (old new : ArenaState) (p : StructPlace) (x : Result X Error) → PutsContent old new p (set_edit f v) k x → PutsContent old new p (set_edit f v) (set_content v (entry_of_field f)) x
  puts_as k e old new p x h = subst (λ k. PutsContent old new p (set_edit f v) k x) (sym (content_is ∙ e)) h

  -- bits, or nothing, after the union
  pub sets_bits : (n : ℕ) → flat_content v b ≡ bits_of n → (old new : ArenaState) (p : StructPlace) → Edits (words_in old.segments) (words_in new.segments) p (λ c. put_content b (bits_of n) (marked f c)) → map length (words_in new.segments) ≡ map length (words_in old.segments)
      → PutsContent {X = ⊤} old new p (set_edit f v) (set_content v (entry_of_field f)) (Ok tt)
  sets_bits n e old new p h sizes =
      let writes = edits_same (words_in old.segments) (words_in new.segments) p (λ c. put_content b (bits_of n) (marked f c)) (set_edit f v) (edit_is (bits_of n) e) h in
      puts_as (bits_of n) e old new p (Ok tt) (refl, record { writes = writes; sizes = sizes })

pub sets_plain : {A : Type 0} (v : Reader A) (f : Field) (r : FieldNode) → IsFieldRecord f.parent f.index r → (q : PlainType) (o d n w : ℕ) → option_map (λ e. e.body) (entry_of_field f) ≡ Some (plain_slot q (width q * o) d)
    → bits_given q (plain_given v) ≡ Some n → w ≡ width q → (old mid new : ArenaState) (p : StructPlace) → Edits (words_in old.segments) (words_in mid.segments) p (marked f) → SetsBits (words_in mid.segments) (words_in new.segments) p (w * o) w (bit_xor n d)
    → map length (words_in new.segments) ≡ map length (words_in old.segments) → PutsContent {X = ⊤} old new p (set_edit f v) (set_content v (entry_of_field f)) (Ok tt)
sets_plain v f r is q o d n w same given e old mid new p h k sizes =
    let put = subst (λ w. SetsBits (words_in mid.segments) (words_in new.segments) p (w * o) w (bit_xor n d)) e k in
    let both = edits_then (words_in old.segments) (words_in mid.segments) (words_in new.segments) p (marked f) (put_bits (width q * o) (width q) (bit_xor n d)) h put in
    sets_bits v f r is (plain_slot q (width q * o) d) same n (some_bits v q (width q * o) d n given) old new p both sizes
