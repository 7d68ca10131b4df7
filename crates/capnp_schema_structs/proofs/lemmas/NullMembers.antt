-- What null pointers of active members count as.
use Rattle.std.proofs.Common.{◌≡◌, ℕ, zero, suc, ◌*◌, ◌/◌, ◌==◌, Bool, true, false, not, unwrap_or, List, [], ◌∷◌, length, Option, Some, None, Ok, Vec, Global, refl, sym, ap, subst, ◌∙◌, arith, Bor}
use Rattle.std.specs.Prelude.{option_map, option_copied, IsSome}
use Rattle.std.specs.List.{flat_map}
use Rattle.std.specs.Option.{ok_or}
use Rattle.std.specs.Simd.{first_chunks}
use Rattle.std.specs.Str.{bytes_eq}
use Rattle.std.proofs.lemmas.Slice.Eq.{bytes_eq-Decides}
use Rattle.capnp_model.specs.Bytes.{bytes_of_words, words_in_bytes}
use Rattle.capnp_model.specs.Segments.{Segments, Place, root, word_at}
use Rattle.capnp_model.specs.Kinds.{OutOfBounds}
use Rattle.capnp_model.specs.Pointers.{Found, found_at}
use Rattle.capnp_model.specs.Trees.{Tree, null, capability, structure, plain_list, pointer_list, struct_list, has_capability}
use Rattle.capnp_model.specs.Trimming.{trim}
use Rattle.capnp_model.specs.Traversal.{tree_at}
use Rattle.capnp_model.specs.Encoding.{canonical_words}
use Rattle.capnp_model.specs.Decoding.{decode}
use Rattle.capnp_model.specs.Accepted.{default_tree, slot_body, field_body, opens_as, is_good_value, default_reads}
use Rattle.capnp_model.specs.Groups.{empty_tree, source_tree}
use Rattle.capnp_model.specs.Schemas.{Ty, void, plain, text, blob, untyped, interface, struct, list, type_of, Value, no_value, bits, text_bytes, blob_bytes, list_segment, struct_segment, untyped_value, interface_value, FieldKind, slot, group, Field as FieldNode, Shape, pointer_slot, Schema, default_or_null}
use Rattle.capnp_model.proofs.lemmas.Chaining.{bind_some, bind_found, bind_ok, ok_or_some, some_is, provided_some}
use Rattle.capnp_model.proofs.lemmas.ByteWords.{bytes_length}
use Rattle.capnp_units.specs.Segments.{words_in}
use Rattle.capnp_model_writes.proofs.lemmas.Zeros.{null_read}
use Rattle.capnp_model_writes.proofs.lemmas.Nulls.{null_word}
use Rattle.capnp_records.proofs.lemmas.Segments.{segment_found}
use Rattle.capnp_records.specs.NodeViews.{value_of}
use Rattle.capnp_records.specs.declared.node.Value.{Value as Said}
use Rattle.capnp_records.specs.declared.node.Value.TheVariants as V
use Rattle.capnp_copy_values.specs.Defaults.{default_segments, is_null_or_absent}
use Rattle.capnp_values_queries.specs.Structs.{nodes_around, schema_around, id_of}
use Rattle.capnp_values_queries.specs.Handles.{entry_of_field, IsFieldRecord}
use Rattle.capnp_values_queries.specs.declared.fields.Field.{Field}
use Rattle.capnp_values.specs.Shown.{default_said}
use Rattle.capnp_values.proofs.lemmas.GoodDefaults.{defaults_kept, passes}
use Rattle.capnp_model.proofs.lemmas.Tests.{and_right}
use Rattle.capnp_values.proofs.lemmas.DefaultReadings.{joined}
use Rattle.capnp_schema_structs.specs.GroupSets.{HoldsDefault, IsReadable, IsDefault}
use Rattle.capnp_schema_structs.proofs.lemmas.GroupFields.{body_is}

-- ---- null or not

zero_there : (o : Option ℕ) (t : Tree) → (unwrap_or o 0 == 0) ≡ true → (o ≡ None → ⊥) → o ≡ Some 0
zero_there None t h some = absurd (some refl)
zero_there (Some zero) t h some = refl
zero_there (Some (suc w)) t h some =
    let positive : (unwrap_or (Some (suc w)) 0 == 0) ≡ false = grind arith in
    let no : false ≡ true = sym positive ∙ h in
    absurd cc

not_found : (s : Segments) (p : Place) (f : Found) → word_at s p ≡ None → found_at s p ≡ Ok f → ⊥
not_found s p f none e =
    let a = bind_ok (ok_or (word_at s p) OutOfBounds) _ f e in
    let b = ok_or_some _ _ _ a.1 in
    let no : None ≡ Some a.0 = sym none ∙ b in
    absurd cc

read_there : (n : ℕ) (s : Segments) (p : Place) (t : Tree) → tree_at n s p ≡ Some t → word_at s p ≡ None → ⊥
unfolding tree_at
read_there zero s p t e none = (let x = bind_found (found_at s p) _ t e in not_found s p x.0 none x.1)
read_there (suc n) s p t e none = (let x = bind_found (found_at s p) _ t e in not_found s p x.0 none x.1)

pub null_at : (n : ℕ) (s : Segments) (p : Place) → tree_at n s p ≡ Some null → is_null_or_absent s p ≡ true
null_at n s p e = ap (λ o. unwrap_or o 0 == 0) (null_word n s p e)

pub null_value : (n : ℕ) (s : Segments) (p : Place) (t : Tree) → tree_at n s p ≡ Some t → is_null_or_absent s p ≡ true → t ≡ null
null_value n s p t e h = some_is t null (sym e ∙ null_read n s p (zero_there (word_at s p) t h (read_there n s p t e)))

-- ---- the words of a default's bytes

pub words_hold : (bs : List ℕ) (t : Tree) → decode bs ≡ Some t → HoldsDefault (first_chunks 8 (length bs / 8) bs) t
unfolding decode
words_hold bs t e =
    let a = bind_some (tree_at 64 (words_in_bytes (length bs / 8) bs ∷ []) root) _ t e in
    let b = provided_some a.0 t _ a.2 in
    let ws : List ℕ = canonical_words (trim a.0) in
    let same : bytes_of_words ws ≡ bs = (bytes_eq-Decides (bytes_of_words ws) bs).0 (and_right (not (has_capability a.0)) (bytes_eq (bytes_of_words ws) bs) b.0) in
    let long : length bs ≡ 8 * length ws = ap length (sym same) ∙ bytes_length ws in
    let eighth : length bs / 8 ≡ length ws = omega (arith, long) in
    let whole : flat_map (λ w. w) (first_chunks 8 (length bs / 8) bs) ≡ bs = ap (λ (k : ℕ). flat_map (λ w. w) (first_chunks 8 k bs)) eighth ∙ joined (length ws) bs long in
    ap (λ (x : List ℕ). tree_at 64 (words_in (x ∷ [])) root) whole ∙ a.1 ∙ ap (λ (x : Tree). Some x) b.1

pub some_tree : (o : Option Tree) → IsSome o → o ≡ Some (default_or_null o)
some_tree None h = absurd (cc h)
some_tree (Some t) h = refl

-- the default that a field's node says
pub value_said : (o : Option (Bor Said)) (b : Bor Said) (v : Said) → o ≡ Some b → b.now ≡ v → option_map value_of (option_copied o) ≡ Some (value_of v)
value_said o b v e h = ap (λ y. option_map value_of (option_copied y)) e ∙ ap (λ (y : Said). Some (value_of y)) h

-- a field without a default, and one whose default is no value behind a pointer
pub none_said : (o : Option (Bor Said)) → o ≡ None → default_or_null (default_tree (option_map value_of (option_copied o))) ≡ null
none_said o e = ap (λ y. default_or_null (default_tree (option_map value_of (option_copied y)))) e

plain_tree : (v : Said) → ((x : Vec ℕ Global) → v ≡ V.Text x → ⊥) → ((x : Vec ℕ Global) → v ≡ V.Data x → ⊥) → ((x : Vec ℕ Global) → v ≡ V.List x → ⊥) → ((x : Vec ℕ Global) → v ≡ V.Struct x → ⊥) → default_tree (Some (value_of v)) ≡ None
plain_tree V.Void t d l s = refl
plain_tree (V.Bool b) t d l s = refl
plain_tree (V.Int8 z) t d l s = refl
plain_tree (V.Int16 z) t d l s = refl
plain_tree (V.Int32 z) t d l s = refl
plain_tree (V.Int64 z) t d l s = refl
plain_tree (V.UInt8 n) t d l s = refl
plain_tree (V.UInt16 n) t d l s = refl
plain_tree (V.UInt32 n) t d l s = refl
plain_tree (V.UInt64 n) t d l s = refl
plain_tree (V.Enum n) t d l s = refl
plain_tree (V.Text x) t d l s = absurd (t x refl)
plain_tree (V.Data x) t d l s = absurd (d x refl)
plain_tree (V.List x) t d l s = absurd (l x refl)
plain_tree (V.Struct x) t d l s = absurd (s x refl)
plain_tree V.AnyPointer t d l s = refl
plain_tree V.Interface t d l s = refl

pub plain_said : (o : Option (Bor Said)) (b : Bor Said) → o ≡ Some b → ((x : Vec ℕ Global) → b.now ≡ V.Text x → ⊥) → ((x : Vec ℕ Global) → b.now ≡ V.Data x → ⊥) → ((x : Vec ℕ Global) → b.now ≡ V.List x → ⊥) → ((x : Vec ℕ Global) → b.now ≡ V.Struct x → ⊥)
    → default_or_null (default_tree (option_map value_of (option_copied o))) ≡ null
plain_said o b e t d l s = ap (λ y. default_or_null (default_tree y)) (value_said o b b.now e refl) ∙ ap default_or_null (plain_tree b.now t d l s)

-- a value that isn't null stands for null
some_stands : (s : Schema) (ty : Ty) (d : Tree) → (d ≡ null → ⊥) → d ≡ source_tree s ty d null
some_stands s ty null h = absurd (h refl)
some_stands s ty (capability i) h = refl
some_stands s ty (structure w x ts) h = refl
some_stands s ty (plain_list size n x) h = refl
some_stands s ty (pointer_list ts) h = refl
some_stands s ty (struct_list w p es) h = refl

module _ (around : Schema) (ty : Ty) where
  -- the empty value stands for null, where the default is null
  pub empty_stands : (d : Tree) → d ≡ null → empty_tree around ty ≡ source_tree around ty d null
  empty_stands d e = ap (λ y. source_tree around ty y null) (sym e)

  -- words whose root is null, and words whose root isn't
  pub null_root : (d : Tree) (ws : List (List ℕ)) → HoldsDefault ws d → is_null_or_absent (default_segments ws) root ≡ true → empty_tree around ty ≡ source_tree around ty d null
  null_root d ws holds e = empty_stands d (null_value 64 (default_segments ws) root d holds e)

  pub some_root : (d : Tree) (ws : List (List ℕ)) → HoldsDefault ws d → is_null_or_absent (default_segments ws) root ≡ false → d ≡ source_tree around ty d null
  some_root d ws holds e =
      let some : d ≡ null → ⊥ = λ z. (let no : true ≡ false = sym (null_at 64 (default_segments ws) root (holds ∙ ap (λ (t : Tree). Some t) z)) ∙ e in cc) in
      some_stands around ty d some

-- ---- the default that a node says is the field's, and can be read

readable : (test : Tree → Bool) (d : Option Value) → is_good_value test d ≡ true → IsReadable d
readable test None h = tt
readable test (Some no_value) h = tt
readable test (Some (bits q n)) h = tt
readable test (Some (text_bytes bs)) h = tt
readable test (Some (blob_bytes bs)) h = tt
readable test (Some (list_segment bs)) h = segment_found test bs h
readable test (Some (struct_segment bs)) h = segment_found test bs h
readable test (Some untyped_value) h = tt
readable test (Some interface_value) h = tt

readable_kind : (k : FieldKind) → default_reads k ≡ true → IsReadable (default_said k)
readable_kind (slot offset ty d) h = readable (λ t. opens_as t (type_of ty)) d h
readable_kind (group id) h = tt

module _ (i : ℕ) (t : Ty) (x : Option Tree) (offset : ℕ) (d : Option Value) where
  value_in : (u : Ty) → slot_body offset u d ≡ pointer_slot i t x → default_tree d ≡ x
  value_in void h = absurd (cc h)
  value_in (plain p) h = absurd (cc h)
  value_in text h = cc h
  value_in blob h = cc h
  value_in untyped h = cc h
  value_in interface h = cc h
  value_in (struct id) h = cc h
  value_in (list ty) h = cc h

value_is : (groups : ℕ → Shape) (k : FieldKind) (i : ℕ) (t : Ty) (x : Option Tree) → field_body groups k ≡ pointer_slot i t x → default_tree (default_said k) ≡ x
value_is groups (slot offset ty d) i t x h = value_in i t x offset d (type_of ty) h
value_is groups (group id) i t x h = absurd (cc h)

pub default_is : (f : Field) (r : FieldNode) → IsFieldRecord f.parent f.index r → (v : Option Value) → v ≡ default_said r.kind → (i : ℕ) (ty : Ty) (d : Option Tree) → option_map (λ e. e.body) (entry_of_field f) ≡ Some (pointer_slot i ty d) → IsDefault d v
default_is f r is v said i ty d body =
    let nodes = nodes_around f.parent in
    let kept = defaults_kept nodes f.parent.set.now.accepted in
    let reads = passes (λ g. default_reads g.kind) nodes (id_of f.parent) f.index r kept.reads is.recorded in
    subst (λ w. IsDefault d w) (sym said) (record { readable = readable_kind r.kind reads; value = value_is (schema_around f.parent).shape_of r.kind i ty d (body_is f r is (pointer_slot i ty d) body) })
