-- What is claimed at a field where a path ends: what the record machine does there is refused for memory alone.
use Rattle.std.proofs.Common.{◌≡◌, ◌⊎◌, inl, inr, ℕ, ℤ, List, [], Bool, true, false, Option, Some, None, Result, Ok, Err, IfErr, refl, sym, ap, subst, ◌∙◌}
use Rattle.std.specs.Prelude.{option_map}
use Rattle.std.specs.Borrow.{Bor}
use Rattle.capnp_model.specs.Kinds.{Kind}
use Rattle.capnp_model.specs.Trees.{Tree}
use Rattle.capnp_model.specs.Schemas.{PlainType, bool, int, uint, «enum», Ty, void, plain, text, blob, untyped, interface, struct, list, type_of, FieldKind, slot as kind_slot, group, Field as FieldNode, Shape, Body, void_slot, plain_slot, pointer_slot, group_slot, Schema}
use Rattle.capnp_model.specs.Accepted.{slot_body, field_body}
use Rattle.capnp_model.specs.Readings.{Reading, inactive, null_pointer, fault, number, text_of, blob_of, list_of, record_as, opaque}
use Rattle.capnp_model.specs.Printing.{As}
use Rattle.capnp_model.specs.Calls.{Verb, get, set_to, init, initn, CallValue, whole_number, truth, enumerant, text_value, blob_value, message, Content, refused_by, bits_of, object, plain_content, value_content, slot_content}
use Rattle.capnp_model.specs.Steps.{got, at_field, reading_after, step_field}
use Rattle.capnp_model.specs.Edits.{Cell, Edit}
use Rattle.capnp_units.specs.declared.errors.Error.{Error}
use Rattle.capnp_values_queries.specs.Fields.{Entry, entry_in}
use Rattle.capnp_values_queries.specs.Structs.{schema_around, shape_of_struct}
use Rattle.capnp_values_queries.specs.Handles.{entry_of_field, IsFieldRecord, body_of_place}
use Rattle.capnp_values_queries.specs.Types.{ty_of}
use Rattle.capnp_values_queries.specs.declared.slots.PlainType.{PlainType as Plain}
use Rattle.capnp_values_queries.specs.declared.slots.FieldPlace.{FieldPlace}
use Rattle.capnp_values_queries.specs.declared.slots.FieldPlace.TheVariants as F
use Rattle.capnp_values_queries.specs.declared.fields.Field.{Field}
use Rattle.capnp_values.specs.Standing.{IsPointerType}
use Rattle.capnp_values.specs.declared.dynamic_value.Reader.TheVariants as value
use Rattle.capnp_text.specs.declared.text.Reader.{Reader as TextReader}
use Rattle.capnp_copy_arenas.specs.declared.fields.StructPlace.{StructPlace}
use Rattle.capnp_layout_builders.specs.Making.{ArenaState}
use Rattle.capnp_schema_structs.specs.Begun.{begun_field}
use Rattle.capnp_schema_structs.specs.Given.{flat_content, set_content}
use Rattle.capnp_schema_structs.specs.NewLists.{initn_field}
use Rattle.capnp_schema_structs.specs.Puts.{HasCause, PutsContent}
use Rattle.capnp_calls.specs.CallViews.{slot_value_view}
use Rattle.capnp_calls.specs.declared.call.SlotValue.{SlotValue}
use Rattle.capnp_calls.specs.declared.call.SlotValue.TheVariants as slot
use Rattle.capnp_calls.specs.Sizes.{IsDone}
use Rattle.capnp_calls.specs.Paths.{field_outcome}
use Rattle.capnp_calls.proofs.lemmas.FieldSlots.{body_is}
use Rattle.capnp_calls_edits.specs.Written.{IsDoneAt, WhereFieldTakes, is_single, takes_message}

-- ---- single values

pub single_of : (v : SlotValue) → ((x : ℤ) × (v ≡ slot.Number x)) ⊎ (((x : Bool) × (v ≡ slot.Bool x)) ⊎ ((x : ℕ) × (v ≡ slot.Enum x))) → is_single (slot_value_view v) ≡ true
single_of v h = elim h [
  | inl x ↦ ap (λ y. is_single (slot_value_view y)) x.1
  | inr y ↦ elim y [
    | inl x ↦ ap (λ z. is_single (slot_value_view z)) x.1
    | inr x ↦ ap (λ z. is_single (slot_value_view z)) x.1
  ]
]

-- ---- content that is put

-- content that isn't refused by its type lacks memory alone
pub put_told : {X : Type 0} (old new : ArenaState) (p : StructPlace) (g : Edit) (k : Content) (told : Error → Type 0) (r : Result X Error) → PutsContent old new p g k r → IfErr r (HasCause k told) → IfErr r (λ e. ((kind : Kind) → k ≡ refused_by kind → ⊥) → told e)
put_told old new p g k told (Ok x) h c = tt
put_told old new p g (refused_by kind) told (Err e) h c = λ never. absurd (never kind refl)
put_told old new p g (bits_of n) told (Err e) h c = λ never. absurd (let no = h.0 in cc no)
put_told old new p g (object t) told (Err e) h c = λ never. c

-- content that the record machine puts isn't refused
pub taken : (s : Schema) (ty : Ty) (k : Content) → IsDone (reading_after s ty k) → (kind : Kind) → k ≡ refused_by kind → ⊥
taken s ty (refused_by k) h kind e = h
taken s ty (bits_of n) h kind e = cc e
taken s ty (object t) h kind e = cc e

-- what the record machine does at the end of a path
pub at_end : (f : Field) (verb : Verb) (e : Entry) (c : Cell) → IsDoneAt f [] verb (Some e) c → (x : Reading) × IsDone (at_field (schema_around f.parent) verb e.body x)
unfolding field_outcome step_field
at_end f verb e c h = (_, h)

-- ---- no write

get_done : (s : Schema) (how : As) (x : Reading) → IsDone (got how x) → ⊥
get_done s how inactive h = h
get_done s how null_pointer h = h
get_done s how (fault k) h = h
get_done s how (number n) h = h
get_done s how (text_of bs) h = h
get_done s how (blob_of bs) h = h
get_done s how (list_of rs) h = h
get_done s how (record_as r) h = h
get_done s how (opaque t) h = h

pub get_claimed : (f : Field) (Claim : Type 0) → WhereFieldTakes f get Claim
get_claimed f Claim = λ c h. by (entry_of_field f) c h
  where
    by : (o : Option Entry) (c : Cell) → IsDoneAt f [] get o c → Claim
    by None c h = absurd h
    by (Some e) c h = let x = at_end f get e c h in absurd (get_done (schema_around f.parent) _ x.0 x.1)

-- ---- init and initn

init_taken : (s : Schema) (b : Body) (x : Reading) → IsDone (at_field s init b x) → (kind : Kind) → begun_field s (Some (record { name = []; member = None; body = b })) ≡ refused_by kind → ⊥
init_taken s (void_slot j) x h kind e = taken s void (slot_content s init (void_slot j)) h kind e
init_taken s (plain_slot p at d) x h kind e = taken s (plain p) (slot_content s init (plain_slot p at d)) h kind e
init_taken s (pointer_slot i ty d) x h kind e = taken s ty (slot_content s init (pointer_slot i ty d)) h kind e
init_taken s (group_slot g) x h kind e = cc e

initn_taken : (s : Schema) (n : ℕ) (b : Body) (x : Reading) → IsDone (at_field s (initn n) b x) → (kind : Kind) → slot_content s (initn n) b ≡ refused_by kind → ⊥
initn_taken s n (void_slot j) x h kind e = taken s void (slot_content s (initn n) (void_slot j)) h kind e
initn_taken s n (plain_slot p at d) x h kind e = taken s (plain p) (slot_content s (initn n) (plain_slot p at d)) h kind e
initn_taken s n (pointer_slot i ty d) x h kind e = taken s ty (slot_content s (initn n) (pointer_slot i ty d)) h kind e
initn_taken s n (group_slot g) x h kind e = h

module _ (f : Field) where
  pub init_never : (c : Cell) → IsDoneAt f [] init (entry_of_field f) c → (kind : Kind) → begun_field (schema_around f.parent) (entry_of_field f) ≡ refused_by kind → ⊥
  init_never c h kind e = by (entry_of_field f) h e
    where
      by : (o : Option Entry) → IsDoneAt f [] init o c → begun_field (schema_around f.parent) o ≡ refused_by kind → ⊥
      by None h e = h
      by (Some x) h e = let y = at_end f init x c h in init_taken (schema_around f.parent) x.body y.0 y.1 kind e

  pub initn_never : (n : ℕ) (c : Cell) → IsDoneAt f [] (initn n) (entry_of_field f) c → (kind : Kind) → initn_field (schema_around f.parent) n (entry_of_field f) ≡ refused_by kind → ⊥
  initn_never n c h kind e = by (entry_of_field f) h e
    where
      by : (o : Option Entry) → IsDoneAt f [] (initn n) o c → initn_field (schema_around f.parent) n o ≡ refused_by kind → ⊥
      by None h e = h
      by (Some x) h e = let y = at_end f (initn n) x c h in initn_taken (schema_around f.parent) n x.body y.0 y.1 kind e

  pub put_claimed : {X : Type 0} (old new : ArenaState) (p : StructPlace) (g : Edit) (k : Content) (told : Error → Type 0) (verb : Verb) (r : Result X Error) → ((c : Cell) → IsDoneAt f [] verb (entry_of_field f) c → (kind : Kind) → k ≡ refused_by kind → ⊥)
      → PutsContent old new p g k r → IfErr r (HasCause k told) → IfErr r (λ e. WhereFieldTakes f verb (told e))
  put_claimed old new p g k told verb (Ok x) never h c = tt
  put_claimed old new p g k told verb (Err e) never h c = λ cell is_done. put_told old new p g k told (Err e) h c (never cell is_done)

-- ---- types of slots

-- a pointer's slot has a pointer's type
kind_pointer : (groups : ℕ → Shape) (k : FieldKind) (i : ℕ) (ty : Ty) (d : Option Tree) → field_body groups k ≡ pointer_slot i ty d → IsPointerType ty
kind_pointer groups (kind_slot offset r v) i ty d h = by (type_of r) h
  where
    by : (u : Ty) → slot_body offset u v ≡ pointer_slot i ty d → IsPointerType ty
    by void h = absurd (cc h)
    by (plain p) h = absurd (cc h)
    by text h = (let e : text ≡ ty = cc h in subst IsPointerType e tt)
    by blob h = (let e : blob ≡ ty = cc h in subst IsPointerType e tt)
    by untyped h = (let e : untyped ≡ ty = cc h in subst IsPointerType e tt)
    by interface h = (let e : interface ≡ ty = cc h in subst IsPointerType e tt)
    by (struct id) h = (let e : struct id ≡ ty = cc h in subst IsPointerType e tt)
    by (list t) h = (let e : list t ≡ ty = cc h in subst IsPointerType e tt)
kind_pointer groups (group id) i ty d h = absurd (cc h)

-- ---- values of a slot

no_text : (s : Schema) (bs : List ℕ) (q : PlainType) → IsDone (reading_after s (plain q) (plain_content q (text_value bs))) → ⊥
no_text s bs bool h = h
no_text s bs (int w) h = h
no_text s bs (uint w) h = h
no_text s bs («enum» id) h = h

no_data : (s : Schema) (bs : List ℕ) (q : PlainType) → IsDone (reading_after s (plain q) (plain_content q (blob_value bs))) → ⊥
no_data s bs bool h = h
no_data s bs (int w) h = h
no_data s bs (uint w) h = h
no_data s bs («enum» id) h = h

no_message : (s : Schema) (t : Tree) (q : PlainType) → IsDone (reading_after s (plain q) (plain_content q (message t))) → ⊥
no_message s t bool h = h
no_message s t (int w) h = h
no_message s t (uint w) h = h
no_message s t («enum» id) h = h

text_taken : (A : Type 0) (s : Schema) (t : TextReader) (b : Body) (x : Reading) → ((i : ℕ) (ty : Ty) (d : Option Tree) → b ≡ pointer_slot i ty d → IsPointerType ty) → IsDone (at_field s (set_to (text_value t.0.now)) b x) → (kind : Kind) → flat_content {A = A} (value.Text t) b ≡ refused_by kind → ⊥
text_taken A s t (void_slot j) x is h kind e = cc e
text_taken A s t (plain_slot q at d) x is h kind e = no_text s t.0.now q h
text_taken A s t (pointer_slot i void d) x is h kind e = is i void d refl
text_taken A s t (pointer_slot i (plain q) d) x is h kind e = is i (plain q) d refl
text_taken A s t (pointer_slot i text d) x is h kind e = cc e
text_taken A s t (pointer_slot i blob d) x is h kind e = h
text_taken A s t (pointer_slot i untyped d) x is h kind e = cc e
text_taken A s t (pointer_slot i interface d) x is h kind e = h
text_taken A s t (pointer_slot i (struct id) d) x is h kind e = h
text_taken A s t (pointer_slot i (list ty) d) x is h kind e = h
text_taken A s t (group_slot g) x is h kind e = h

data_taken : (A : Type 0) (s : Schema) (bs : Bor (List ℕ)) (b : Body) (x : Reading) → ((i : ℕ) (ty : Ty) (d : Option Tree) → b ≡ pointer_slot i ty d → IsPointerType ty) → IsDone (at_field s (set_to (blob_value bs.now)) b x) → (kind : Kind) → flat_content {A = A} (value.Data bs) b ≡ refused_by kind → ⊥
data_taken A s bs (void_slot j) x is h kind e = cc e
data_taken A s bs (plain_slot q at d) x is h kind e = no_data s bs.now q h
data_taken A s bs (pointer_slot i void d) x is h kind e = is i void d refl
data_taken A s bs (pointer_slot i (plain q) d) x is h kind e = is i (plain q) d refl
data_taken A s bs (pointer_slot i text d) x is h kind e = h
data_taken A s bs (pointer_slot i blob d) x is h kind e = cc e
data_taken A s bs (pointer_slot i untyped d) x is h kind e = cc e
data_taken A s bs (pointer_slot i interface d) x is h kind e = h
data_taken A s bs (pointer_slot i (struct id) d) x is h kind e = h
data_taken A s bs (pointer_slot i (list ty) d) x is h kind e = h
data_taken A s bs (group_slot g) x is h kind e = h

-- a single value is put behind no pointer
pub single_refused : (s : Schema) (v : CallValue) (ty : Ty) → is_single v ≡ true → IsPointerType ty → IsDone (reading_after s ty (value_content v ty)) → ⊥
single_refused s v void e is h = is
single_refused s v (plain q) e is h = is
single_refused s (whole_number z) text e is h = h
single_refused s (whole_number z) blob e is h = h
single_refused s (whole_number z) untyped e is h = h
single_refused s (whole_number z) interface e is h = h
single_refused s (whole_number z) (struct id) e is h = h
single_refused s (whole_number z) (list t) e is h = h
single_refused s (truth b) text e is h = h
single_refused s (truth b) blob e is h = h
single_refused s (truth b) untyped e is h = h
single_refused s (truth b) interface e is h = h
single_refused s (truth b) (struct id) e is h = h
single_refused s (truth b) (list t) e is h = h
single_refused s (enumerant n) text e is h = h
single_refused s (enumerant n) blob e is h = h
single_refused s (enumerant n) untyped e is h = h
single_refused s (enumerant n) interface e is h = h
single_refused s (enumerant n) (struct id) e is h = h
single_refused s (enumerant n) (list t) e is h = h
single_refused s (text_value bs) ty e is h = cc e
single_refused s (blob_value bs) ty e is h = cc e
single_refused s (message t) ty e is h = cc e

-- nor in place of a group
group_refused : (s : Schema) (v : CallValue) (g : Shape) (x : Reading) → is_single v ≡ true → IsDone (at_field s (set_to v) (group_slot g) x) → ⊥
group_refused s (whole_number z) g x e h = h
group_refused s (truth b) g x e h = h
group_refused s (enumerant n) g x e h = h
group_refused s (text_value bs) g x e h = cc e
group_refused s (blob_value bs) g x e h = cc e
group_refused s (message t) g x e h = cc e

-- a value of a message is put behind no other pointers
untaken : (s : Schema) (t : Tree) (ty : Ty) → takes_message ty ≡ false → IsPointerType ty → IsDone (reading_after s ty (value_content (message t) ty)) → ⊥
untaken s t void e is h = is
untaken s t (plain q) e is h = is
untaken s t text e is h = h
untaken s t blob e is h = h
untaken s t untyped e is h = cc e
untaken s t interface e is h = h
untaken s t (struct id) e is h = cc e
untaken s t (list u) e is h = cc e

module _ (f : Field) (r : FieldNode) (is : IsFieldRecord f.parent f.index r) where
  pointer_type : (b : Body) → (entry_in (schema_around f.parent) r).body ≡ b → (i : ℕ) (ty : Ty) (d : Option Tree) → b ≡ pointer_slot i ty d → IsPointerType ty
  pointer_type b e i ty d h = kind_pointer (schema_around f.parent).shape_of r.kind i ty d (e ∙ h)

  done_here : (verb : Verb) (c : Cell) → IsDoneAt f [] verb (entry_of_field f) c → (x : Reading) × IsDone (at_field (schema_around f.parent) verb (entry_in (schema_around f.parent) r).body x)
  done_here verb c h = at_end f verb (entry_in (schema_around f.parent) r) c (subst (λ o. IsDoneAt f [] verb o c) is.entry h)

  pub text_never : (A : Type 0) (t : TextReader) (bytes : List ℕ) → t.0.now ≡ bytes → (c : Cell) → IsDoneAt f [] (set_to (text_value bytes)) (entry_of_field f) c → (kind : Kind) → set_content {A = A} (value.Text t) (entry_of_field f) ≡ refused_by kind → ⊥
  text_never A t bytes same c h kind e =
      let y = done_here (set_to (text_value bytes)) c h in
      let b = (entry_in (schema_around f.parent) r).body in
      text_taken A (schema_around f.parent) t b y.0 (pointer_type b refl) (subst (λ bs. IsDone (at_field (schema_around f.parent) (set_to (text_value bs)) b y.0)) (sym same) y.1) kind (sym (ap (set_content {A = A} (value.Text t)) is.entry) ∙ e)

  pub data_never : (A : Type 0) (d : Bor (List ℕ)) (bytes : List ℕ) → d.now ≡ bytes → (c : Cell) → IsDoneAt f [] (set_to (blob_value bytes)) (entry_of_field f) c → (kind : Kind) → set_content {A = A} (value.Data d) (entry_of_field f) ≡ refused_by kind → ⊥
  data_never A d bytes same c h kind e =
      let y = done_here (set_to (blob_value bytes)) c h in
      let b = (entry_in (schema_around f.parent) r).body in
      data_taken A (schema_around f.parent) d b y.0 (pointer_type b refl) (subst (λ bs. IsDone (at_field (schema_around f.parent) (set_to (blob_value bs)) b y.0)) (sym same) y.1) kind (sym (ap (set_content {A = A} (value.Data d)) is.entry) ∙ e)

  module _ (b : Body) (same : option_map (λ e. e.body) (entry_of_field f) ≡ Some b) where
    here : (verb : Verb) (c : Cell) → IsDoneAt f [] verb (entry_of_field f) c → (x : Reading) × IsDone (at_field (schema_around f.parent) verb b x)
    here verb c h =
        let y = done_here verb c h in
        (y.0, subst (λ z. IsDone (at_field (schema_around f.parent) verb z y.0)) (body_is f r b is same) y.1)

    pub plain_never : (v : CallValue) (q : PlainType) (at d : ℕ) → b ≡ plain_slot q at d → (kind : Kind) → plain_content q v ≡ refused_by kind → (Claim : Type 0) → WhereFieldTakes f (set_to v) Claim
    plain_never v q at d e kind none Claim = λ c h. (
        let y = here (set_to v) c h in
        absurd (taken (schema_around f.parent) (plain q) (plain_content q v) (subst (λ z. IsDone (at_field (schema_around f.parent) (set_to v) z y.0)) e y.1) kind none)
        )

    pub pointer_never : (v : CallValue) (i : ℕ) (ty : Ty) (d : Option Tree) → b ≡ pointer_slot i ty d → is_single v ≡ true → (Claim : Type 0) → WhereFieldTakes f (set_to v) Claim
    pointer_never v i ty d e single Claim = λ c h. (
        let y = here (set_to v) c h in
        let is_pointer : IsPointerType ty = pointer_type b (body_is f r b is same) i ty d e in
        absurd (single_refused (schema_around f.parent) v ty single is_pointer (subst (λ z. IsDone (at_field (schema_around f.parent) (set_to v) z y.0)) e y.1))
        )

    pub group_never : (v : CallValue) (g : Shape) → b ≡ group_slot g → is_single v ≡ true → (Claim : Type 0) → WhereFieldTakes f (set_to v) Claim
    group_never v g e single Claim = λ c h. (
        let y = here (set_to v) c h in
        absurd (group_refused (schema_around f.parent) v g y.0 single (subst (λ z. IsDone (at_field (schema_around f.parent) (set_to v) z y.0)) e y.1))
        )

    pub message_never : (t : Tree) (i : ℕ) (ty : Ty) (d : Option Tree) → b ≡ pointer_slot i ty d → takes_message ty ≡ false → (Claim : Type 0) → WhereFieldTakes f (set_to (message t)) Claim
    message_never t i ty d e other Claim = λ c h. (
        let y = here (set_to (message t)) c h in
        let is_pointer : IsPointerType ty = pointer_type b (body_is f r b is same) i ty d e in
        absurd (untaken (schema_around f.parent) t ty other is_pointer (subst (λ z. IsDone (at_field (schema_around f.parent) (set_to (message t)) z y.0)) e y.1))
        )

    pub no_plain_message : (t : Tree) (q : PlainType) (at d : ℕ) → b ≡ plain_slot q at d → (Claim : Type 0) → WhereFieldTakes f (set_to (message t)) Claim
    no_plain_message t q at d e Claim = λ c h. (
        let y = here (set_to (message t)) c h in
        absurd (no_message (schema_around f.parent) t q (subst (λ z. IsDone (at_field (schema_around f.parent) (set_to (message t)) z y.0)) e y.1))
        )

-- a single value at a field that is neither Void nor plain
module _ (f : Field) (r : FieldNode) (is : IsFieldRecord f.parent f.index r) (v : CallValue) (single : is_single v ≡ true) where
  pub place_claimed : (place : FieldPlace) → option_map (λ e. e.body) (entry_of_field f) ≡ Some (body_of_place place) → ((o : ℕ) → place ≡ F.Void o → ⊥) → ((ty : Plain) (o d : ℕ) → place ≡ F.Plain ty o d → ⊥) → (Claim : Type 0) → WhereFieldTakes f (set_to v) Claim
  place_claimed (F.Void o) body a b Claim = absurd (a o refl)
  place_claimed (F.Plain ty o d) body a b Claim = absurd (b ty o d refl)
  place_claimed (F.Pointer i ty d) body a b Claim = pointer_never f r is (body_of_place (F.Pointer i ty d)) body v i (ty_of ty) _ refl single Claim
  place_claimed (F.Group g) body a b Claim = group_never f r is (body_of_place (F.Group g)) body v (shape_of_struct g) refl single Claim
