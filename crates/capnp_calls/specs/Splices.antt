-- Paths that lead to slots by way of structs, of groups and of elements of lists of structs. (Encoding, "Structs" and "Lists")
use Rattle.std.specs.Prelude.{◌≡◌, ℕ, ◌+◌, ◌*◌, Option, None, Some, List, [], ◌∷◌, ⊤}
use Rattle.capnp_model.specs.Trees.{Tree}
use Rattle.capnp_model.specs.Schemas.{PlainType, width, Ty, plain, text, blob, struct, list, Shape, Body, void_slot, plain_slot, pointer_slot, group_slot, Schema}
use Rattle.capnp_model.specs.Printing.{fields_in}
use Rattle.capnp_model.specs.Calls.{Step, name, index, CallValue, object, value_content}
use Rattle.capnp_model.specs.Steps.{target, target_of}
use Rattle.capnp_values_queries.specs.Fields.{union_in}
use Rattle.capnp_calls_splice.specs.Blobs.{tree_of_blob}
use Rattle.capnp_calls_splice.specs.declared.blob.Blob.{Blob}
use Rattle.capnp_calls_splice.specs.declared.plain.PlainSet.{PlainSet}
use Rattle.capnp_calls_splice.specs.declared.splice.Hop.{Hop}
use Rattle.capnp_calls_splice.specs.declared.splice.Hop.TheVariants as hops
use Rattle.capnp_calls_splice.specs.declared.splice.Put.{Put}
use Rattle.capnp_calls_splice.specs.declared.splice.Put.TheVariants as puts
use Rattle.capnp_calls.specs.PlainFields.{SetsPlainSlot, PutsInto}

-- A slot is set to a value by what is put: a plain one by a number, a pointer by a list of bytes.
abbrev pub IsPutOf : Put → Body → CallValue → Type 0
IsPutOf (puts.Number p) body v = PutsInto body v p
IsPutOf (puts.Blob j b) (void_slot k) v = ⊥
IsPutOf (puts.Blob j b) (plain_slot q at d) v = ⊥
IsPutOf (puts.Blob j b) (pointer_slot i ty d) v = (i ≡ j) × (value_content v ty ≡ object (tree_of_blob b))
IsPutOf (puts.Blob j b) (group_slot g) v = ⊥
IsPutOf (puts.Member mark p) body v = ⊥
IsPutOf (puts.BlobAt j k b) body v = ⊥
IsPutOf (puts.NumberAt j k p) body v = ⊥

-- The number is the discriminant of a union that begins at a bit of the data, for the member of a value.
pub record IsMark (mark : PlainSet) (at member : ℕ) : Type 0 where
  pub place : 64 * mark.word + mark.shift ≡ at
  pub width : mark.width ≡ 16
  pub bits : mark.bits ≡ member

-- It is that of a member of a struct's union.
abbrev pub MarksMember : PlainSet → Option ℕ → Option ℕ → Type 0
MarksMember mark (Some at) (Some member) = IsMark mark at member
MarksMember mark (Some at) None = ⊥
MarksMember mark None member = ⊥

-- A member's slot is set to a value by a number, if it has one.
abbrev pub IsNumberOf : Option PlainSet → Body → CallValue → Type 0
IsNumberOf None (void_slot j) v = ⊤
IsNumberOf None (plain_slot q at d) v = ⊥
IsNumberOf None (pointer_slot i ty d) v = ⊥
IsNumberOf None (group_slot g) v = ⊥
IsNumberOf (Some p) body v = PutsInto body v p

-- The type of a text or of data.
abbrev pub IsBlobType : Ty → Type 0
IsBlobType text = ⊤
IsBlobType blob = ⊤
IsBlobType _ = ⊥

-- An element at an index of a list of texts or data is set to a value by a list of bytes.
abbrev pub IsBlobOf : Blob → Ty → CallValue → Type 0
IsBlobOf b ty v = IsBlobType ty × (value_content v ty ≡ object (tree_of_blob b))

-- The element at an index of a list in a slot is set to a value by what is put.
abbrev pub IsElementPut : Put → Body → CallValue → Type 0
IsElementPut (puts.BlobAt j k b) body v = (ty : Ty) × (d : Option Tree) × (body ≡ pointer_slot j (list ty) d) × IsBlobOf b ty v
IsElementPut (puts.NumberAt j k p) body v = (q : PlainType) × (d : Option Tree) × (body ≡ pointer_slot j (list (plain q)) d) × SetsPlainSlot q (width q * k) 0 v p
IsElementPut _ body v = ⊥

-- A field that was found in a struct with a union is set to a value by what is put: a member with its discriminant, another by itself.
abbrev pub IsPutAt : Put → Option ℕ → Option ℕ → Body → CallValue → Type 0
IsPutAt (puts.Member mark p) union member body v = MarksMember mark union member × IsNumberOf p body v
IsPutAt (puts.Number p) union member body v = (member ≡ None) × IsPutOf (puts.Number p) body v
IsPutAt (puts.Blob j b) union member body v = (member ≡ None) × IsPutOf (puts.Blob j b) body v
IsPutAt (puts.BlobAt j k b) union member body v = (member ≡ None) × IsElementPut (puts.BlobAt j k b) body v
IsPutAt (puts.NumberAt j k p) union member body v = (member ≡ None) × IsElementPut (puts.NumberAt j k p) body v

-- The steps from a slot to where it is put: an index where that is an element.
abbrev pub steps_to : Put → List Step
steps_to (puts.BlobAt j k b) = index k ∷ []
steps_to (puts.NumberAt j k p) = index k ∷ []
steps_to _ = []

-- A name finds a field that is no member of a union.
abbrev pub FindsPlainField : Shape → List ℕ → Body → Type 0
FindsPlainField g n body = target_of n (fields_in g) ≡ target None body

-- A hop goes from a slot along the front of a path to a struct or a group of this shape, before the rest of the path.
abbrev pub Enters : Schema → Hop → Body → List Step → Shape → List Step → Type 0
Enters s (hops.Pointer i) body path g rest = (id : ℕ) × (d : Option Tree) × (body ≡ pointer_slot i (struct id) d) × (path ≡ rest) × (g ≡ s.shape_of id)
Enters s (hops.Element i k) body path g rest = (id : ℕ) × (d : Option Tree) × (body ≡ pointer_slot i (list (struct id)) d) × (path ≡ index k ∷ rest) × (g ≡ s.shape_of id)
Enters s hops.Group body path g rest = (body ≡ group_slot g) × (path ≡ rest)

-- A path leads by hops from a struct of this shape to a slot or to an element of a list in one, which is set to a value by what is put. No field before the last is a member of a union.
abbrev pub PathLeadsTo : Schema → CallValue → Put → List Hop → Shape → List Step → Type 0
PathLeadsTo s v put [] g path = (n : List ℕ) × (member : Option ℕ) × (body : Body) × (path ≡ name n ∷ steps_to put) × (target_of n (fields_in g) ≡ target member body) × IsPutAt put (union_in g) member body v
PathLeadsTo s v put (hop ∷ way) g path = (n : List ℕ) × (behind : List Step) × (body : Body) × (inner : Shape) × (rest : List Step) × (path ≡ name n ∷ behind) × FindsPlainField g n body × Enters s hop body behind inner rest × PathLeadsTo s v put way inner rest
