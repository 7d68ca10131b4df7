-- Texts, data and lists of structs that are too long.
use Rattle.std.proofs.Common.{◌≡◌, ℕ, zero, suc, ◌+◌, ◌*◌, ◌^◌, ◌≤◌, ◌↔◌, max, Bool, true, refl, ap, sym, ◌∙◌, subst}
use Rattle.capnp_model.specs.Kinds.{Kind}
use Rattle.capnp_model.specs.Schemas.{Ty, void, plain, text, blob, untyped, interface, struct, list, Shape, shape, words_of_shape, pointers_of_shape, Schema}
use Rattle.capnp_model.specs.Trees.{none, element_count}
use Rattle.capnp_model.specs.Calls.{Verb, initn, new_list, empty_elements, empty_structs, initn_content, element_content}
use Rattle.capnp_model.specs.InKindCalls.{PathEnd}
use Rattle.capnp_records.specs.declared.raw.RawBrandedStructSchema.{RawBrandedStructSchema}
use Rattle.capnp_values_queries.specs.Types.{ty_of_variant}
use Rattle.capnp_values_queries.specs.declared.introspect.TypeVariant.{TypeVariant}
use Rattle.capnp_values_queries.specs.declared.introspect.TypeVariant.TheVariants as V
use Rattle.capnp_calls.specs.Sizes.{list_len, content_len, end_content}
use Rattle.capnp_model.proofs.lemmas.Stripping.{count-resized}

empty_counted : (n k : ℕ) → element_count (empty_elements n k) ≡ n
empty_counted zero k = refl
empty_counted (suc n) k = ap (λ m. suc m) (empty_counted n k)

-- as many as there are, but of structs
pub others_len : (s : Schema) (n : ℕ) (x : TypeVariant) → ((raw : RawBrandedStructSchema) → x ≡ V.Struct raw → ⊥) → n ≡ list_len (new_list s n (ty_of_variant x))
others_len s n V.Void other = refl
others_len s n V.Bool other = refl
others_len s n V.Int8 other = refl
others_len s n V.Int16 other = refl
others_len s n V.Int32 other = refl
others_len s n V.Int64 other = refl
others_len s n V.UInt8 other = refl
others_len s n V.UInt16 other = refl
others_len s n V.UInt32 other = refl
others_len s n V.UInt64 other = refl
others_len s n V.Text other = sym (count-resized n none)
others_len s n V.Data other = sym (count-resized n none)
others_len s n (V.Struct raw) other = absurd (other raw refl)
others_len s n V.AnyPointer other = sym (count-resized n none)
others_len s n V.Capability other = sym (count-resized n none)
others_len s n (V.Enum raw) other = refl
others_len s n (V.List t) other = sym (count-resized n none)

structs_len : (g : Shape) (n m : ℕ) → m ≡ max n (n * (words_of_shape g + pointers_of_shape g)) → m ≡ list_len (empty_structs g n)
structs_len (shape nid d k u fs) n m is = is ∙ ap (λ c. max c (c * (d + k))) (sym (empty_counted n k))

-- the words of structs, or their number
pub new_structs_len : (s : Schema) (n id m : ℕ) → m ≡ max n (n * (words_of_shape (s.shape_of id) + pointers_of_shape (s.shape_of id))) → m ≡ list_len (new_list s n (struct id))
new_structs_len s n id m is = structs_len (s.shape_of id) n m is

-- an element gets as many as a slot of its type, whatever the kind by which it else is refused
pub element_len : (s : Schema) (n : ℕ) (ty : Ty) (k : Kind) → content_len (initn_content s n ty k) ≡ content_len (element_content s (initn n) ty)
element_len s n void k = refl
element_len s n (plain p) k = refl
element_len s n text k = refl
element_len s n blob k = refl
element_len s n untyped k = refl
element_len s n interface k = refl
element_len s n (struct id) k = refl
element_len s n (list ty) k = refl

-- what is put by the verb and at the end that these are
pub long_at : (s : Schema) (v w : Verb) (a b : PathEnd) → v ≡ w → a ≡ b → (x : Bool) → (x ≡ true) ↔ (2 ^ 29 ≤ content_len (end_content s w b)) → (x ≡ true) ↔ (2 ^ 29 ≤ content_len (end_content s v a))
long_at s v w a b verb at x long = subst (λ y. (x ≡ true) ↔ (2 ^ 29 ≤ content_len (end_content s y a))) (sym verb) (subst (λ y. (x ≡ true) ↔ (2 ^ 29 ≤ content_len (end_content s w y))) (sym at) long)
