-- What is named where an object is.
use Rattle.std.proofs.Common.{◌≡◌, ℕ, ◌+◌, ◌-◌, List, Result, Ok, refl, ap, sym, ◌∙◌, subst, arith}
use Rattle.std.specs.Option.{ok_or}
use Rattle.capnp_model.specs.Kinds.{Kind, OutOfBounds}
use Rattle.capnp_model.specs.Segments.{Segments, Place, place, after, words_at}
use Rattle.capnp_model.specs.Pointers as model
use Rattle.capnp_model.specs.Pointers.{found_at, nothing, a_struct, a_list, a_capability}
use Rattle.capnp_model.specs.Traversal.{ListKind, of_bits, of_pointers, of_structs, list_kind, list_words, tag_in}
use Rattle.capnp_model.proofs.lemmas.Chaining.{bind_ok, ok_is}
use Rattle.capnp_wire_objects.specs.declared.object.Object.{Object}
use Rattle.capnp_wire_objects.specs.declared.object.Object.TheVariants as object
use Rattle.capnp_wire_objects.specs.declared.object.Found.{Found}
use Rattle.capnp_wire_objects.specs.declared.place.Place as code
use Rattle.capnp_wire_objects.specs.declared.named.NamedObject.{NamedObject}
use Rattle.capnp_wire_objects.specs.declared.named.NamedObject.TheVariants as named
use Rattle.capnp_wire_objects.specs.declared.named.FoundObject.{FoundObject}
use Rattle.capnp_wire_objects.specs.Named.{named_view, found_view}
use Rattle.capnp_units.specs.declared.sizes.ElementSize.{ElementSize}
use Rattle.capnp_units.specs.declared.sizes.ElementSize.TheVariants.{Void, Bit, Byte, TwoBytes, FourBytes, EightBytes, Pointer, InlineComposite}
use Rattle.capnp_units.specs.Sizes.{size_number}
use Rattle.capnp_copy_arenas.specs.Values.{LeadsTo}
use Rattle.capnp_wire_objects.specs.Objects.{object_at, whole, whole_list, plain_size}
use Rattle.capnp_wire_objects.specs.Places.{place_view, placed}

-- the pointer's object, before its words are looked at
pub record Named (s : Segments) (p : Place) (f : Found) : Type 0 where
  pub object_named : model.Object
  pub leads : found_at s p ≡ Ok (record { pads = f.pads; object = object_named })
  pub is_whole : whole s object_named ≡ Ok f.object

pub named_at : (s : Segments) (p : Place) (f : Found) → object_at s p ≡ Ok f → Named s p f
unfolding object_at
named_at s p f e =
    let x = bind_ok (found_at s p) _ f e in
    let y = bind_ok (whole s x.0.object) _ f x.2 in
    let is : record { pads = x.0.pads; object = y.0 } ≡ f = ok_is _ _ y.2 in
    let pads : x.0.pads ≡ f.pads = ap (λ (g : Found). g.pads) is in
    record {
      object_named = x.0.object;
      leads = x.1 ∙ ap (λ (n : ℕ). let r : Result model.Found Kind = Ok (record { pads = n; object = x.0.object }) in r) pads;
      is_whole = y.1 ∙ ap (λ (g : Found). let r : Result Object Kind = Ok g.object in r) is;
    }

-- no list is null or a struct
list_is_not : (s : Segments) (p : Place) (kind : ListKind) (size n : ℕ) (ws : List ℕ) (o : Object) → whole_list p kind size n ws ≡ Ok o → (o ≡ object.Null → ⊥) × ((q : code.Place) (d k : ℕ) → o ≡ object.Struct q d k → ⊥)
list_is_not s p of_bits size n ws o e =
    let is = ok_is _ _ e in
    (λ h. let z = is ∙ h in absurd cc, λ q d k h. let z = is ∙ h in absurd cc)
list_is_not s p of_pointers size n ws o e =
    let is = ok_is _ _ e in
    (λ h. let z = is ∙ h in absurd cc, λ q d k h. let z = is ∙ h in absurd cc)
list_is_not s p of_structs size n ws o e =
    let x = bind_ok (tag_in ws) _ o e in
    let is = ok_is _ _ x.2 in
    (λ h. let z = is ∙ h in absurd cc, λ q d k h. let z = is ∙ h in absurd cc)

pub null_named : (s : Segments) (o : model.Object) → whole s o ≡ Ok object.Null → o ≡ nothing
null_named s nothing e = refl
null_named s (a_capability i) e = absurd cc
null_named s (a_struct p d k) e = let x = bind_ok (ok_or (words_at s p (d + k)) OutOfBounds) _ object.Null e in absurd (let z = x.2 in cc)
null_named s (a_list p size n) e =
    let x = bind_ok (ok_or (words_at s p (list_words (list_kind size) size n)) OutOfBounds) _ object.Null e in
    absurd ((list_is_not s p (list_kind size) size n x.0 object.Null x.2).0 refl)

pub struct_named : (s : Segments) (o : model.Object) (q : code.Place) (w m : ℕ) → whole s o ≡ Ok (object.Struct q w m) → o ≡ a_struct (place_view q) w m
struct_named s nothing q w m e = absurd cc
struct_named s (a_capability i) q w m e = absurd cc
struct_named s (a_struct p d k) q w m e =
    let x = bind_ok (ok_or (words_at s p (d + k)) OutOfBounds) _ (object.Struct q w m) e in
    let is : object.Struct (placed p) d k ≡ object.Struct q w m = ok_is _ _ x.2 in
    let at : placed p ≡ q = cc in
    let dw : d ≡ w = cc in
    let km : k ≡ m = cc in
    ap (λ (r : code.Place). a_struct (place_view r) d k) at ∙ ap (λ (j : ℕ). a_struct (place_view q) j k) dw ∙ ap (a_struct (place_view q) w) km
struct_named s (a_list p size n) q w m e =
    let x = bind_ok (ok_or (words_at s p (list_words (list_kind size) size n)) OutOfBounds) _ (object.Struct q w m) e in
    absurd ((list_is_not s p (list_kind size) size n x.0 (object.Struct q w m) x.2).1 q w m refl)

-- ---- lists

-- a list of plain elements, by its size
plain_whole : (s : Segments) (p : code.Place) (k n : ℕ) (o : Object) → list_kind k ≡ of_bits → whole s (a_list (place_view p) k n) ≡ Ok o → o ≡ object.List p (plain_size k) n
plain_whole s p k n o kind e =
    let x = bind_ok (ok_or (words_at s (place_view p) (list_words (list_kind k) k n)) OutOfBounds) _ o e in
    let is : whole_list (place_view p) of_bits k n x.0 ≡ Ok o = subst (λ (y : ListKind). whole_list (place_view p) y k n x.0 ≡ Ok o) kind x.2 in
    sym (ok_is _ _ is)

pointers_whole : (s : Segments) (p : code.Place) (n : ℕ) (o : Object) → whole s (a_list (place_view p) 6 n) ≡ Ok o → o ≡ object.PointerList p n
pointers_whole s p n o e = let x = bind_ok (ok_or (words_at s (place_view p) n) OutOfBounds) _ o e in sym (ok_is _ _ x.2)

structs_whole : (s : Segments) (p : code.Place) (n : ℕ) (o : Object) → whole s (a_list (place_view p) 7 n) ≡ Ok o → (c : ℕ) × (d : ℕ) × (k : ℕ) × (o ≡ object.StructList (placed (after (place_view p) 1)) n c d k)
structs_whole s p n o e =
    let x = bind_ok (ok_or (words_at s (place_view p) (1 + n)) OutOfBounds) _ o e in
    let y = bind_ok (tag_in x.0) _ o x.2 in
    (y.0.count, y.0.data_words, y.0.pointers, sym (ok_is _ _ y.2))

-- what the code has named
data ListOf (s : Segments) (p : code.Place) (size : ElementSize) (n : ℕ) (o : Object) : Type 0 where
  plain_one : o ≡ object.List p size n → ListOf s p size n o
  pointers_one : size ≡ Pointer → o ≡ object.PointerList p n → ListOf s p size n o
  structs_one : (c d k : ℕ) → size ≡ InlineComposite → o ≡ object.StructList (placed (after (place_view p) 1)) n c d k → ListOf s p size n o

list_of : (s : Segments) (p : code.Place) (size : ElementSize) (n : ℕ) (o : Object) → whole s (a_list (place_view p) (size_number size) n) ≡ Ok o → ListOf s p size n o
list_of s p Void n o e = plain_one (plain_whole s p 0 n o refl e)
list_of s p Bit n o e = plain_one (plain_whole s p 1 n o refl e)
list_of s p Byte n o e = plain_one (plain_whole s p 2 n o refl e)
list_of s p TwoBytes n o e = plain_one (plain_whole s p 3 n o refl e)
list_of s p FourBytes n o e = plain_one (plain_whole s p 4 n o refl e)
list_of s p EightBytes n o e = plain_one (plain_whole s p 5 n o refl e)
list_of s p Pointer n o e = pointers_one refl (pointers_whole s p n o e)
list_of s p InlineComposite n o e = let x = structs_whole s p n o e in structs_one x.0 x.1 x.2 refl x.3

pub plain_named : (s : Segments) (o : NamedObject) (q : code.Place) (size : ElementSize) (n : ℕ) → whole s (named_view o) ≡ Ok (object.List q size n) → named_view o ≡ a_list (place_view q) (size_number size) n
plain_named s named.Null q size n e = absurd cc
plain_named s (named.Capability i) q size n e = absurd cc
plain_named s (named.Struct p d k) q size n e = let x = bind_ok (ok_or (words_at s (place_view p) (d + k)) OutOfBounds) _ (object.List q size n) e in absurd (let z = x.2 in cc)
plain_named s (named.List p sz m) q size n e =
    elim (list_of s p sz m (object.List q size n) e) [
      | plain_one is ↦ (let at : q ≡ p = cc in let same : size ≡ sz = cc in let count : n ≡ m = cc in ap (λ (r : code.Place). a_list (place_view r) (size_number sz) m) (sym at) ∙ ap (λ (y : ElementSize). a_list (place_view q) (size_number y) m) (sym same) ∙ ap (a_list (place_view q) (size_number size)) (sym count))
      | pointers_one six is ↦ absurd cc
      | structs_one c d k seven is ↦ absurd cc
    ]

pub pointers_named : (s : Segments) (o : NamedObject) (q : code.Place) (n : ℕ) → whole s (named_view o) ≡ Ok (object.PointerList q n) → named_view o ≡ a_list (place_view q) 6 n
pointers_named s named.Null q n e = absurd cc
pointers_named s (named.Capability i) q n e = absurd cc
pointers_named s (named.Struct p d k) q n e = let x = bind_ok (ok_or (words_at s (place_view p) (d + k)) OutOfBounds) _ (object.PointerList q n) e in absurd (let z = x.2 in cc)
pointers_named s (named.List p sz m) q n e =
    elim (list_of s p sz m (object.PointerList q n) e) [
      | plain_one is ↦ absurd cc
      | pointers_one six is ↦ (let at : q ≡ p = cc in let count : n ≡ m = cc in ap (λ (y : ElementSize). a_list (place_view p) (size_number y) m) six ∙ ap (λ (r : code.Place). a_list (place_view r) 6 m) (sym at) ∙ ap (a_list (place_view q) 6) (sym count))
      | structs_one c d k seven is ↦ absurd cc
    ]

pub structs_named : (s : Segments) (o : NamedObject) (q : code.Place) (n c d k : ℕ) → whole s (named_view o) ≡ Ok (object.StructList q n c d k) → named_view o ≡ a_list (place q.segment (q.position - 1)) 7 n
structs_named s named.Null q n c d k e = absurd cc
structs_named s (named.Capability i) q n c d k e = absurd cc
structs_named s (named.Struct p w m) q n c d k e = let x = bind_ok (ok_or (words_at s (place_view p) (w + m)) OutOfBounds) _ (object.StructList q n c d k) e in absurd (let z = x.2 in cc)
structs_named s (named.List p sz m) q n c d k e =
    elim (list_of s p sz m (object.StructList q n c d k) e) [
      | plain_one is ↦ absurd cc
      | pointers_one six is ↦ absurd cc
      | structs_one c' d' k' seven is ↦ (
          let at : q ≡ placed (after (place_view p) 1) = cc in
          let count : n ≡ m = cc in
          let back : p.position ≡ p.position + 1 - 1 = omega arith in
          let first : place p.segment (p.position + 1 - 1) ≡ place q.segment (q.position - 1) = ap (λ (r : code.Place). place r.segment (r.position - 1)) (sym at) in
          ap (λ (y : ElementSize). a_list (place_view p) (size_number y) m) seven ∙ ap (λ (j : ℕ). a_list (place p.segment j) 7 m) back ∙ ap (λ (r : Place). a_list r 7 m) first ∙ ap (a_list (place q.segment (q.position - 1)) 7) (sym count)
          )
    ]

pub null_list_named : (s : Segments) (o : NamedObject) → whole s (named_view o) ≡ Ok object.Null → named_view o ≡ nothing
null_list_named s o e = null_named s (named_view o) e

pub leads_named : (s : Segments) (p : Place) (f : FoundObject) (v : model.Object) → found_at s p ≡ Ok (found_view f) → named_view f.object ≡ v → LeadsTo s p v
leads_named s p f v e is = (f.pads, e ∙ ap (λ (y : model.Object). let r : Result model.Found Kind = Ok (record { pads = f.pads; object = y }) in r) is)
