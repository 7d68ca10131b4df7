-- What is claimed at an element, where a path ends there or goes on inside.
use Rattle.std.proofs.Common.{◌≡◌, ◌≢◌, ℕ, List, [], ◌∷◌, true, Some, None, Result, Ok, Err, IfErr, refl, sym, ap, subst}
use Rattle.std.specs.Prelude.{⊤}
use Rattle.std.specs.Borrow.{Bor}
use Rattle.capnp_model.specs.Kinds.{Kind}
use Rattle.capnp_model.specs.Segments.{Segments}
use Rattle.capnp_model.specs.Trees.{Tree, null, capability, structure, plain_list, pointer_list, struct_list, child}
use Rattle.capnp_model.specs.Schemas.{PlainType, bool, int, uint, «enum», Ty, void, plain, text, blob, untyped, interface, struct, list, Schema}
use Rattle.capnp_model.specs.Readings.{Reading, inactive, null_pointer, fault, number, text_of, blob_of, list_of, record_as, opaque, element_as, read_child}
use Rattle.capnp_model.specs.Printing.{As}
use Rattle.capnp_model.specs.Calls.{Step, Verb, get, set_to, init, initn, clear, CallValue, whole_number, truth, enumerant, text_value, blob_value, message, Content, refused_by, bits_of, object, plain_content, element_content}
use Rattle.capnp_model.specs.Steps.{got, at_element, reading_after, opened, step_field, step_element}
use Rattle.capnp_model.specs.Edits.{Cell, Edit}
use Rattle.capnp_units.specs.declared.errors.Error.{Error}
use Rattle.capnp_wire_objects.specs.declared.place.Place as code
use Rattle.capnp_wire_objects.specs.Places.{place_view}
use Rattle.capnp_model_writes.specs.Footprints.{OwnsObject}
use Rattle.capnp_copy_arenas.specs.Lists.{object_of_list}
use Rattle.capnp_copy_arenas.specs.declared.fields.StructPlace.{StructPlace}
use Rattle.capnp_copy_arenas.specs.declared.init.ListPlace.{ListPlace}
use Rattle.capnp_layout_builders.specs.Making.{ArenaState}
use Rattle.capnp_text.specs.declared.text.Reader.{Reader as TextReader}
use Rattle.capnp_values.specs.declared.dynamic_value.Reader.TheVariants as value
use Rattle.capnp_values_queries.specs.Structs.{schema_around, id_of}
use Rattle.capnp_values_queries.specs.declared.structs.StructSchema.{StructSchema}
use Rattle.capnp_values_queries.specs.Types.{ty_of_variant}
use Rattle.capnp_values_queries.specs.declared.introspect.«Type».{«Type» as SchemaType}
use Rattle.capnp_values_queries.specs.declared.introspect.TypeVariant.{TypeVariant}
use Rattle.capnp_values_queries.specs.declared.introspect.TypeVariant.TheVariants as V
use Rattle.capnp_schema_structs.specs.Puts.{HasCause}
use Rattle.capnp_schema_lists.specs.Lists.{IsListOf}
use Rattle.capnp_schema_lists.specs.Elements.{plain_in, flat_element}
use Rattle.capnp_schema_lists.specs.Parts.{cell_in, IsElementStruct, IsPointerOf}
use Rattle.capnp_schema_lists.specs.Puts.{PutsElementContent}
use Rattle.capnp_calls.specs.Sizes.{IsDone}
use Rattle.capnp_calls_edits.specs.Written.{is_single, WhereValueDone}
use Rattle.capnp_calls_edits.specs.Elements.{IsElementDone, WhereDoneWithin, WhereElementDone, WhereElementTakes, IsOfStruct}
use Rattle.capnp_calls_edits.proofs.Claims.{GoesInto, by_name, by_index, goes_into}
use Rattle.capnp_calls_edits.proofs.ClaimsEnds.{taken}
use Rattle.capnp_calls_edits.proofs.ElementSteps.{struct_within, value_within}
use Rattle.capnp_calls_edits.proofs.ElementEnds.{set_done}

-- ---- where a path ends

pub put_claimed : (old new : ArenaState) (o : ListPlace) (g : ℕ → ℕ → Edit) (k : ℕ) (content : Content) (told : Error → Type 0) (around : Schema) (ty : Ty) (verb : Verb) (r : Result ⊤ Error) → ((c : Cell) → IsElementDone around ty [] verb c → (kind : Kind) → content ≡ refused_by kind → ⊥)
    → PutsElementContent old new (record { place = o; at = k; edit = g }) content r → IfErr r (HasCause content told) → IfErr r (λ e. WhereElementTakes around ty verb (told e))
put_claimed old new o g k content told around ty verb (Ok x) never h c = tt
put_claimed old new o g k (refused_by kind) told around ty verb (Err e) never h c = λ cell is_done. absurd (never cell is_done kind refl)
put_claimed old new o g k (bits_of n) told around ty verb (Err e) never h c = λ cell is_done. absurd (let no = h.0 in cc no)
put_claimed old new o g k (object t) told around ty verb (Err e) never h c = λ cell is_done. c

end_of : (s : Schema) (ty : Ty) (verb : Verb) (c : Cell) → IsElementDone s ty [] verb c → (x : Reading) × IsDone (at_element s verb ty x)
unfolding step_element
end_of s ty verb c h = (_, h.1)

get_done : (how : As) (x : Reading) → IsDone (got how x) → ⊥
get_done how inactive h = h
get_done how null_pointer h = h
get_done how (fault k) h = h
get_done how (number n) h = h
get_done how (text_of bs) h = h
get_done how (blob_of bs) h = h
get_done how (list_of rs) h = h
get_done how (record_as r) h = h
get_done how (opaque t) h = h

pub get_claimed : (s : Schema) (ty : Ty) (Claim : Type 0) → WhereElementTakes s ty get Claim
get_claimed s ty Claim = λ c h. (let x = end_of s ty get c h in absurd (get_done _ x.0 x.1))

pub init_claimed : (s : Schema) (ty : Ty) (Claim : Type 0) → WhereElementTakes s ty init Claim
init_claimed s ty Claim = λ c h. (let x = end_of s ty init c h in absurd x.1)

pub clear_claimed : (s : Schema) (ty : Ty) (Claim : Type 0) → WhereElementTakes s ty clear Claim
clear_claimed s ty Claim = λ c h. (let x = end_of s ty clear c h in absurd x.1)

pub initn_never : (s : Schema) (ty : Ty) (n : ℕ) (c : Cell) → IsElementDone s ty [] (initn n) c → (kind : Kind) → element_content s (initn n) ty ≡ refused_by kind → ⊥
initn_never s ty n c h = let x = end_of s ty (initn n) c h in taken s ty (element_content s (initn n) ty) x.1

-- ---- texts and data

no_text : (s : Schema) (bs : List ℕ) (q : PlainType) → IsDone (reading_after s (plain q) (plain_content q (text_value bs))) → ⊥
no_text s bs bool h = h
no_text s bs (int w) h = h
no_text s bs (uint w) h = h
no_text s bs («enum» id) h = h

no_data : (s : Schema) (bs : List ℕ) (q : PlainType) → IsDone (reading_after s (plain q) (plain_content q (blob_value bs))) → ⊥
no_data s bs bool h = h
no_data s bs (int w) h = h
no_data s bs (uint w) h = h
no_data s bs («enum» id) h = h

text_taken : (A : Type 0) (s : Schema) (t : TextReader) (ty : Ty) → IsDone (reading_after s ty (element_content s (set_to (text_value t.0.now)) ty)) → (kind : Kind) → flat_element {A = A} (value.Text t) ty ≡ refused_by kind → ⊥
text_taken A s t void h kind e = cc e
text_taken A s t (plain q) h kind e = no_text s t.0.now q h
text_taken A s t text h kind e = cc e
text_taken A s t blob h kind e = h
text_taken A s t untyped h kind e = h
text_taken A s t interface h kind e = h
text_taken A s t (struct id) h kind e = h
text_taken A s t (list u) h kind e = h

data_taken : (A : Type 0) (s : Schema) (bs : Bor (List ℕ)) (ty : Ty) → IsDone (reading_after s ty (element_content s (set_to (blob_value bs.now)) ty)) → (kind : Kind) → flat_element {A = A} (value.Data bs) ty ≡ refused_by kind → ⊥
data_taken A s bs void h kind e = cc e
data_taken A s bs (plain q) h kind e = no_data s bs.now q h
data_taken A s bs text h kind e = h
data_taken A s bs blob h kind e = cc e
data_taken A s bs untyped h kind e = h
data_taken A s bs interface h kind e = h
data_taken A s bs (struct id) h kind e = h
data_taken A s bs (list u) h kind e = h

pub text_never : (A : Type 0) (s : Schema) (ty : Ty) (t : TextReader) (bytes : List ℕ) → t.0.now ≡ bytes → (c : Cell) → IsElementDone s ty [] (set_to (text_value bytes)) c → (kind : Kind) → flat_element {A = A} (value.Text t) ty ≡ refused_by kind → ⊥
text_never A s ty t bytes same c h = text_taken A s t ty (subst (λ bs. IsDone (reading_after s ty (element_content s (set_to (text_value bs)) ty))) (sym same) (set_done s ty (text_value bytes) c h))

pub data_never : (A : Type 0) (s : Schema) (ty : Ty) (d : Bor (List ℕ)) (bytes : List ℕ) → d.now ≡ bytes → (c : Cell) → IsElementDone s ty [] (set_to (blob_value bytes)) c → (kind : Kind) → flat_element {A = A} (value.Data d) ty ≡ refused_by kind → ⊥
data_never A s ty d bytes same c h = data_taken A s d ty (subst (λ bs. IsDone (reading_after s ty (element_content s (set_to (blob_value bs)) ty))) (sym same) (set_done s ty (blob_value bytes) c h))

-- ---- single values

plain_is : (ty : Ty) (q : PlainType) → plain_in ty ≡ Some q → ty ≡ plain q
plain_is void q e = absurd (cc e)
plain_is (plain p) q e = (let same : p ≡ q = cc e in ap plain same)
plain_is text q e = absurd (cc e)
plain_is blob q e = absurd (cc e)
plain_is untyped q e = absurd (cc e)
plain_is interface q e = absurd (cc e)
plain_is (struct id) q e = absurd (cc e)
plain_is (list t) q e = absurd (cc e)

-- a value out of range, or of another sort
pub plain_never : (s : Schema) (ty : Ty) (v : CallValue) (q : PlainType) → plain_in ty ≡ Some q → (kind : Kind) → plain_content q v ≡ refused_by kind → (Claim : Type 0) → WhereElementTakes s ty (set_to v) Claim
plain_never s ty v q of kind none Claim = λ c h. (
    let x = set_done s ty v c h in
    absurd (taken s (plain q) (plain_content q v) (subst (λ u. IsDone (reading_after s u (element_content s (set_to v) u))) (plain_is ty q of) x) kind none)
    )

single_refused : (s : Schema) (v : CallValue) (ty : Ty) → is_single v ≡ true → plain_in ty ≡ None → (void ≡ ty → ⊥) → IsDone (reading_after s ty (element_content s (set_to v) ty)) → ⊥
single_refused s v void e none other h = other refl
single_refused s v (plain q) e none other h = cc none
single_refused s v untyped e none other h = h
single_refused s v interface e none other h = h
single_refused s (whole_number z) text e none other h = h
single_refused s (whole_number z) blob e none other h = h
single_refused s (whole_number z) (struct id) e none other h = h
single_refused s (whole_number z) (list t) e none other h = h
single_refused s (truth b) text e none other h = h
single_refused s (truth b) blob e none other h = h
single_refused s (truth b) (struct id) e none other h = h
single_refused s (truth b) (list t) e none other h = h
single_refused s (enumerant n) text e none other h = h
single_refused s (enumerant n) blob e none other h = h
single_refused s (enumerant n) (struct id) e none other h = h
single_refused s (enumerant n) (list t) e none other h = h
single_refused s (text_value bs) ty e none other h = cc e
single_refused s (blob_value bs) ty e none other h = cc e
single_refused s (message t) ty e none other h = cc e

pub single_never : (s : Schema) (ty : Ty) (v : CallValue) → is_single v ≡ true → plain_in ty ≡ None → (void ≡ ty → ⊥) → (Claim : Type 0) → WhereElementTakes s ty (set_to v) Claim
single_never s ty v e none other Claim = λ c h. absurd (single_refused s v ty e none other (set_done s ty v c h))

-- ---- values of messages

struct_content_of : (s : Schema) (id : ℕ) (t : Tree) → IsDone (reading_after s (struct id) (element_content s (set_to (message t)) (struct id))) → IsOfStruct t
struct_content_of s id null h = tt
struct_content_of s id (capability i) h = absurd h
struct_content_of s id (structure w x ts) h = tt
struct_content_of s id (plain_list size n x) h = absurd h
struct_content_of s id (pointer_list ts) h = absurd h
struct_content_of s id (struct_list w p es) h = absurd h

pub struct_of_message : (s : Schema) (ty : Ty) (id : ℕ) (t : Tree) → struct id ≡ ty → (c : Cell) → IsElementDone s ty [] (set_to (message t)) c → IsOfStruct t
struct_of_message s ty id t same c h = struct_content_of s id t (subst (λ u. IsDone (reading_after s u (element_content s (set_to (message t)) u))) (sym same) (set_done s ty (message t) c h))

no_message : (s : Schema) (t : Tree) (q : PlainType) → IsDone (reading_after s (plain q) (plain_content q (message t))) → ⊥
no_message s t bool h = h
no_message s t (int w) h = h
no_message s t (uint w) h = h
no_message s t («enum» id) h = h

message_refused : (s : Schema) (t : Tree) (ty : Ty) → (void ≡ ty → ⊥) → ((id : ℕ) → struct id ≡ ty → ⊥) → ((e : Ty) → list e ≡ ty → ⊥) → IsDone (reading_after s ty (element_content s (set_to (message t)) ty)) → ⊥
message_refused s t void a b c h = a refl
message_refused s t (plain q) a b c h = no_message s t q h
message_refused s t text a b c h = h
message_refused s t blob a b c h = h
message_refused s t untyped a b c h = h
message_refused s t interface a b c h = h
message_refused s t (struct id) a b c h = b id refl
message_refused s t (list e) a b c h = c e refl

pub message_never : (s : Schema) (ty : Ty) (t : Tree) → (void ≡ ty → ⊥) → ((id : ℕ) → struct id ≡ ty → ⊥) → ((e : Ty) → list e ≡ ty → ⊥) → (Claim : Type 0) → WhereElementTakes s ty (set_to (message t)) Claim
message_never s ty t a b e Claim = λ c h. absurd (message_refused s t ty a b e (set_done s ty (message t) c h))

-- ---- where a path ends or goes on

pub end_claimed : (s : Segments) (o : ListPlace) (around : Schema) (ty : Ty) (k : ℕ) (verb : Verb) (Claim : Type 0) → WhereElementTakes around ty verb Claim → WhereElementDone s (record { place = o; at = k; around = around; ty = ty }) (record { path = []; verb = verb }) Claim
end_claimed s o around ty k verb Claim h = λ n t is own is_done. h (cell_in t k) is_done

pub struct_claimed : (s : Segments) (o : ListPlace) (k : ℕ) (p : StructPlace) → ((n : ℕ) (t : Tree) → IsListOf o t → OwnsObject n s (object_of_list o) t → IsElementStruct n s o k p t)
    → (schema : StructSchema) (path : List Step) (verb : Verb) (Claim : Type 0) → path ≢ [] → WhereDoneWithin s p schema (record { path = path; verb = verb }) Claim → WhereElementDone s (record { place = o; at = k; around = schema_around schema; ty = struct (id_of schema) }) (record { path = path; verb = verb }) Claim
struct_claimed s o k p parts schema path verb Claim some h = λ n t is own is_done. (
    let x = parts n t is own in
    let c = cell_in t k in
    h n c.section c.kids x.owns (struct_within (schema_around schema) (id_of schema) path verb c some is_done)
    )

pub value_claimed : (s : Segments) (o : ListPlace) (k : ℕ) (q : code.Place) → ((n : ℕ) (t : Tree) → IsListOf o t → OwnsObject n s (object_of_list o) t → IsPointerOf n s o k q t)
    → (around : Schema) (e : Ty) (path : List Step) (verb : Verb) (Claim : Type 0) → path ≢ [] → WhereValueDone s (place_view q) (record { around = around; ty = list e; default = null }) (record { path = path; verb = verb }) Claim → WhereElementDone s (record { place = o; at = k; around = around; ty = list e }) (record { path = path; verb = verb }) Claim
value_claimed s o k q parts around e path verb Claim some h = λ n t is own is_done. (
    let x = parts n t is own in
    let c = cell_in t k in
    h n (child c.kids 0) x.owns (value_within around e path verb c some is_done)
    )

steps_of : (s : Schema) (ty : Ty) (st : Step) (rest : List Step) (verb : Verb) (c : Cell) → IsElementDone s ty (st ∷ rest) verb c → GoesInto st ty
unfolding step_element
steps_of s ty st rest verb c h = goes_into s (step_field s rest verb) (step_element s rest verb) st ty (opened s ty null (element_as s ty h.0 c.section (read_child s c.kids))) h.1

pub not_into : (s : Segments) (o : ListPlace) (around : Schema) (ty : Ty) (k : ℕ) (path : List Step) (verb : Verb) (Claim : Type 0) → path ≢ [] → ((st : Step) → GoesInto st ty → ⊥) → WhereElementDone s (record { place = o; at = k; around = around; ty = ty }) (record { path = path; verb = verb }) Claim
not_into s o around ty k [] verb Claim some never = absurd (some refl)
not_into s o around ty k (st ∷ rest) verb Claim some never = λ n t is own is_done. absurd (never st (steps_of around ty st rest verb (cell_in t k) is_done))

-- ---- types by their variants

pub is_void : (v : TypeVariant) → ty_of_variant v ≡ void → v ≡ V.Void
is_void V.Void e = refl
is_void V.Bool e = absurd (cc e)
is_void V.Int8 e = absurd (cc e)
is_void V.Int16 e = absurd (cc e)
is_void V.Int32 e = absurd (cc e)
is_void V.Int64 e = absurd (cc e)
is_void V.UInt8 e = absurd (cc e)
is_void V.UInt16 e = absurd (cc e)
is_void V.UInt32 e = absurd (cc e)
is_void V.UInt64 e = absurd (cc e)
is_void V.Text e = absurd (cc e)
is_void V.Data e = absurd (cc e)
is_void (V.Struct raw) e = absurd (cc e)
is_void V.AnyPointer e = absurd (cc e)
is_void V.Capability e = absurd (cc e)
is_void (V.Enum raw) e = absurd (cc e)
is_void (V.List t) e = absurd (cc e)

pub is_struct : (v : TypeVariant) (id : ℕ) → ty_of_variant v ≡ struct id → (raw : _) × (v ≡ V.Struct raw)
is_struct V.Void id e = absurd (cc e)
is_struct V.Bool id e = absurd (cc e)
is_struct V.Int8 id e = absurd (cc e)
is_struct V.Int16 id e = absurd (cc e)
is_struct V.Int32 id e = absurd (cc e)
is_struct V.Int64 id e = absurd (cc e)
is_struct V.UInt8 id e = absurd (cc e)
is_struct V.UInt16 id e = absurd (cc e)
is_struct V.UInt32 id e = absurd (cc e)
is_struct V.UInt64 id e = absurd (cc e)
is_struct V.Text id e = absurd (cc e)
is_struct V.Data id e = absurd (cc e)
is_struct (V.Struct raw) id e = (raw, refl)
is_struct V.AnyPointer id e = absurd (cc e)
is_struct V.Capability id e = absurd (cc e)
is_struct (V.Enum raw) id e = absurd (cc e)
is_struct (V.List t) id e = absurd (cc e)

pub is_list : (v : TypeVariant) (u : Ty) → ty_of_variant v ≡ list u → (t : SchemaType) × (v ≡ V.List t)
is_list V.Void u e = absurd (cc e)
is_list V.Bool u e = absurd (cc e)
is_list V.Int8 u e = absurd (cc e)
is_list V.Int16 u e = absurd (cc e)
is_list V.Int32 u e = absurd (cc e)
is_list V.Int64 u e = absurd (cc e)
is_list V.UInt8 u e = absurd (cc e)
is_list V.UInt16 u e = absurd (cc e)
is_list V.UInt32 u e = absurd (cc e)
is_list V.UInt64 u e = absurd (cc e)
is_list V.Text u e = absurd (cc e)
is_list V.Data u e = absurd (cc e)
is_list (V.Struct raw) u e = absurd (cc e)
is_list V.AnyPointer u e = absurd (cc e)
is_list V.Capability u e = absurd (cc e)
is_list (V.Enum raw) u e = absurd (cc e)
is_list (V.List t) u e = (t, refl)

-- what goes inside neither structs nor lists
pub no_inside : (st : Step) (ty : Ty) → GoesInto st ty → ((id : ℕ) → ty ≡ struct id → ⊥) → ((u : Ty) → ty ≡ list u → ⊥) → ⊥
no_inside st ty (by_name n id) a b = a id refl
no_inside st ty (by_index k u) a b = b u refl
