-- What `set` puts into an element of a list. (Encoding, "Lists" and "Value Encoding")
use Rattle.std.specs.Prelude.{ℕ, ⊤, Option, Some, None, List, Result, Ok, Err}
use Rattle.capnp_model.specs.Kinds.{Kind, TypeMismatch, ExpectedAListOrBlob, ListAnyPointerNotSupported}
use Rattle.capnp_model.specs.Schemas.{PlainType, width, Ty, void, plain, text, blob, untyped, interface, struct, list, Schema}
use Rattle.capnp_model.specs.Calls.{Content, refused_by, bits_of, object, blob_tree}
use Rattle.capnp_model.specs.Edits.{Edit, put_in_element}
use Rattle.capnp_values.specs.declared.dynamic_value.Reader.{Reader}
use Rattle.capnp_schema_structs.specs.Given.{plain_given, bits_given, bytes_given}
use Rattle.capnp_schema_lists.specs.Lists.{HasElementBits, HasPointer, HasSizes}
use Rattle.capnp_copy_arenas.specs.declared.init.ListPlace.{ListPlace}

-- The plain type that elements have.
abbrev pub plain_in : Ty → Option PlainType
plain_in (plain p) = Some p
plain_in _ = None

-- Elements of the type are there: plain ones with their bits, those behind pointers with these.
abbrev pub Holds : ListPlace → Ty → Type 0
Holds o void = Unit {0}
Holds o (plain p) = HasElementBits o (width p)
Holds o text = HasPointer o
Holds o blob = HasPointer o
Holds o untyped = HasPointer o
Holds o interface = HasPointer o
Holds o (struct id) = Unit {0}
Holds o (list ty) = HasPointer o

-- Structs have at least the sizes of their schema.
abbrev pub HoldsStructs : Schema → ListPlace → Ty → Type 0
HoldsStructs s o void = Unit {0}
HoldsStructs s o (plain p) = Unit {0}
HoldsStructs s o text = Unit {0}
HoldsStructs s o blob = Unit {0}
HoldsStructs s o untyped = Unit {0}
HoldsStructs s o interface = Unit {0}
HoldsStructs s o (struct id) = HasSizes o (s.shape_of id)
HoldsStructs s o (list ty) = Unit {0}

-- What a value that is Void, a truth value, a number or an enum's puts into an element of a type:
-- bits of the type. A Void element takes each value, and nothing is put.
abbrev pub single_element : {A : Type 0} → Reader A → Ty → Content
single_element v void = bits_of 0
single_element v (plain p) = elim (bits_given p (plain_given v)) [ None ↦ refused_by TypeMismatch | Some n ↦ bits_of n ]
single_element v untyped = refused_by ListAnyPointerNotSupported
single_element v text = refused_by TypeMismatch
single_element v blob = refused_by TypeMismatch
single_element v interface = refused_by TypeMismatch
single_element v (struct id) = refused_by TypeMismatch
single_element v (list ty) = refused_by TypeMismatch

-- What is returned where content is put.
abbrev pub answer_of : Content → Result ⊤ Kind
answer_of (refused_by k) = Err k
answer_of (bits_of n) = Ok tt
answer_of (object t) = Ok tt

-- The model's edit that puts it.
abbrev pub single_edit : {A : Type 0} → Reader A → Ty → ℕ → ℕ → Edit
single_edit v ty words pointers = put_in_element words pointers ty (single_element v ty)

-- The bytes of the list that a text or data become in an element of texts or of data.
abbrev pub blob_given : {A : Type 0} → Reader A → Ty → Option (List ℕ)
blob_given v void = None
blob_given v (plain p) = None
blob_given v text = bytes_given v text
blob_given v blob = bytes_given v blob
blob_given v untyped = None
blob_given v interface = None
blob_given v (struct id) = None
blob_given v (list ty) = None

-- What a value without pointers puts into an element of a type: the list of a text's or data's
-- bytes where the elements are such. Else it is what a single value puts.
abbrev pub flat_element : {A : Type 0} → Reader A → Ty → Content
flat_element v ty = elim (blob_given v ty) [ None ↦ single_element v ty | Some bytes ↦ object (blob_tree bytes) ]

-- The model's edit of the element.
abbrev pub element_edit : {A : Type 0} → Reader A → Ty → ℕ → ℕ → Edit
element_edit v ty words pointers = put_in_element words pointers ty (flat_element v ty)

-- Why no list is made in an element that holds no list, text or data.
abbrev pub no_new_element : Ty → Kind
no_new_element void = ExpectedAListOrBlob
no_new_element (plain p) = ExpectedAListOrBlob
no_new_element text = ExpectedAListOrBlob
no_new_element blob = ExpectedAListOrBlob
no_new_element untyped = ListAnyPointerNotSupported
no_new_element interface = ExpectedAListOrBlob
no_new_element (struct id) = ExpectedAListOrBlob
no_new_element (list ty) = ExpectedAListOrBlob
