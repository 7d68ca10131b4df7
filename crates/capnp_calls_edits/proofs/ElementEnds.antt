-- What is done at the element where a path ends.
use Rattle.std.proofs.Common.{◌≡◌, ℕ, suc, ◌+◌, List, [], Some, Result, Ok, Err, OnOk, refl, sym, subst, ap, ◌∙◌, arith}
use Rattle.std.specs.Prelude.{⊤}
use Rattle.std.specs.Borrow.{Bor}
use Rattle.capnp_model.specs.Segments.{Segments}
use Rattle.capnp_model.specs.Trees.{Tree}
use Rattle.capnp_model.specs.Schemas.{Ty, void, plain, text, blob, untyped, interface, struct, list, PlainType, bool, int, uint, «enum», width, Schema}
use Rattle.capnp_model.specs.Calls.{Verb, set_to, initn, CallValue, text_value, blob_value, Content, refused_by, bits_of, object, plain_content, element_content}
use Rattle.capnp_model.specs.Steps.{reading_after, step_element}
use Rattle.capnp_model.specs.Edits.{Cell, Edit, put_bits, put_in_element, edit_list, edit_element}
use Rattle.capnp_units.specs.Segments.{words_in}
use Rattle.capnp_units.specs.declared.errors.Error.{Error}
use Rattle.capnp_model_writes.specs.Footprints.{OwnsObject}
use Rattle.capnp_model_writes.specs.Changes.{ReplacesObject}
use Rattle.capnp_copy_arenas.specs.Lists.{object_of_list}
use Rattle.capnp_copy_arenas.specs.declared.init.ListPlace.{ListPlace}
use Rattle.capnp_layout_builders.specs.Making.{ArenaState}
use Rattle.capnp_text.specs.declared.text.Reader.{Reader as TextReader}
use Rattle.capnp_values.specs.declared.dynamic_value.Reader.TheVariants as value
use Rattle.capnp_schema_lists.specs.Lists.{IsListOf, EditsElement}
use Rattle.capnp_schema_lists.specs.Elements.{plain_in, element_edit, flat_element}
use Rattle.capnp_schema_lists.specs.Parts.{cell_in}
use Rattle.capnp_schema_lists.specs.Puts.{PutsElementContent}
use Rattle.capnp_calls.specs.Sizes.{IsDone}
use Rattle.capnp_calls_edits.specs.Elements.{IsElementDone, EditsElementAt}

-- what a value puts into an element isn't told by what stood there
pub set_done : (s : Schema) (ty : Ty) (v : CallValue) (c : Cell) → IsElementDone s ty [] (set_to v) c → IsDone (reading_after s ty (element_content s (set_to v) ty))
unfolding step_element
set_done s ty v c h = h.1

pub last_edit : (s : Schema) (verb : Verb) (ty : Ty) → (λ words pointers c. put_in_element words pointers ty (element_content s verb ty) c) ≡ edit_element s [] verb ty
unfolding edit_element
last_edit s verb ty = refl

-- ---- content that was put

puts_any : (old new : ArenaState) (o : ListPlace) (f : ℕ → ℕ → Edit) (k : ℕ) (content : Content) (x : ⊤) → PutsElementContent old new (record { place = o; at = k; edit = f }) content (Ok x)
    → (n : ℕ) (t : Tree) → IsListOf o t → OwnsObject n (words_in old.segments) (object_of_list o) t → (more : ℕ) × ReplacesObject (n + more) (words_in old.segments) (words_in new.segments) (object_of_list o) (edit_list f k t)
puts_any old new o f k (refused_by kind) x h n t is own = absurd cc
puts_any old new o f k (bits_of b) x h n t is own =
    let e : n ≡ n + 0 = omega arith in
    (0, subst (λ j. ReplacesObject j (words_in old.segments) (words_in new.segments) (object_of_list o) (edit_list f k t)) e (h.1.writes n t is own))
puts_any old new o f k (object v) x h n t is own =
    let e : suc n ≡ n + 1 = omega arith in
    (1, subst (λ j. ReplacesObject j (words_in old.segments) (words_in new.segments) (object_of_list o) (edit_list f k t)) e (h.0.writes n t is own))

pub initn_end : (old new : ArenaState) (o : ListPlace) (k size : ℕ) (s : Schema) (ty : Ty) (content : Content) (x : Result ⊤ Error) → PutsElementContent old new (record { place = o; at = k; edit = edit_element s [] (initn size) ty }) content x → OnOk x (EditsElementAt (words_in old.segments) (words_in new.segments) (record { place = o; at = k; around = s; ty = ty }) (record { path = []; verb = initn size }))
initn_end old new o k size s ty content (Ok x) h = λ n t is own is_done. puts_any old new o (edit_element s [] (initn size) ty) k content x h n t is own
initn_end old new o k size s ty content (Err e) h = tt

set_end : (old new : ArenaState) (o : ListPlace) (f : ℕ → ℕ → Edit) (k : ℕ) (s : Schema) (ty : Ty) (v : CallValue) (content : Content) → (IsDone (reading_after s ty (element_content s (set_to v) ty)) → f ≡ edit_element s [] (set_to v) ty)
    → (x : Result ⊤ Error) → PutsElementContent old new (record { place = o; at = k; edit = f }) content x → OnOk x (EditsElementAt (words_in old.segments) (words_in new.segments) (record { place = o; at = k; around = s; ty = ty }) (record { path = []; verb = set_to v }))
set_end old new o f k s ty v content same (Ok x) h = λ n t is own is_done. (
    let w = puts_any old new o f k content x h n t is own in
    (w.0, subst (λ (g : ℕ → ℕ → Edit). ReplacesObject (n + w.0) (words_in old.segments) (words_in new.segments) (object_of_list o) (edit_list g k t)) (same (set_done s ty v (cell_in t k) is_done)) w.1)
    )
set_end old new o f k s ty v content same (Err e) h = tt

-- ---- plain values

edited_end : (s u : Segments) (o : ListPlace) (f : ℕ → ℕ → Edit) (k : ℕ) (around : Schema) (ty : Ty) (verb : Verb) → f ≡ edit_element around [] verb ty → EditsElement s u o f k → EditsElementAt s u (record { place = o; at = k; around = around; ty = ty }) (record { path = []; verb = verb })
edited_end s u o f k around ty verb same h n t is own is_done =
    let e : n ≡ n + 0 = omega arith in
    let here : ReplacesObject n s u (object_of_list o) (edit_list (edit_element around [] verb ty) k t) = subst (λ (g : ℕ → ℕ → Edit). ReplacesObject n s u (object_of_list o) (edit_list g k t)) same (h n t is own) in
    (0, subst (λ j. ReplacesObject j s u (object_of_list o) (edit_list (edit_element around [] verb ty) k t)) e here)

pub void_end : (s u : Segments) (o : ListPlace) (k : ℕ) (around : Schema) (ty : Ty) (v : CallValue) → void ≡ ty → EditsElement s u o (λ words pointers c. c) k → EditsElementAt s u (record { place = o; at = k; around = around; ty = ty }) (record { path = []; verb = set_to v })
void_end s u o k around ty v e h = subst (λ y. EditsElementAt s u (record { place = o; at = k; around = around; ty = y }) (record { path = []; verb = set_to v })) e (edited_end s u o (λ words pointers c. c) k around void (set_to v) (last_edit around (set_to v) void) h)

plain_is : (ty : Ty) (q : PlainType) → plain_in ty ≡ Some q → plain q ≡ ty
plain_is void q e = absurd (cc e)
plain_is (plain p) q e = (let same : p ≡ q = cc e in ap plain (sym same))
plain_is text q e = absurd (cc e)
plain_is blob q e = absurd (cc e)
plain_is untyped q e = absurd (cc e)
plain_is interface q e = absurd (cc e)
plain_is (struct id) q e = absurd (cc e)
plain_is (list t) q e = absurd (cc e)

pub plain_end : (s u : Segments) (o : ListPlace) (k : ℕ) (around : Schema) (ty : Ty) (v : CallValue) (q : PlainType) (n w : ℕ) → plain_in ty ≡ Some q → plain_content q v ≡ bits_of n → w ≡ width q
    → EditsElement s u o (λ words pointers. put_bits 0 w n) k → EditsElementAt s u (record { place = o; at = k; around = around; ty = ty }) (record { path = []; verb = set_to v })
plain_end s u o k around ty v q n w of content wide h =
    let same : (λ (words pointers : ℕ). put_bits 0 w n) ≡ edit_element around [] (set_to v) (plain q) =
    ap (λ (j : ℕ). λ (words pointers : ℕ). put_bits 0 j n) wide ∙ ap (λ (x : Content). λ (words pointers : ℕ) (c : Cell). put_in_element words pointers (plain q) x c) (sym content) ∙ last_edit around (set_to v) (plain q) in
    subst (λ y. EditsElementAt s u (record { place = o; at = k; around = around; ty = y }) (record { path = []; verb = set_to v })) (plain_is ty q of) (edited_end s u o (λ words pointers. put_bits 0 w n) k around (plain q) (set_to v) same h)

-- ---- texts and data

no_text : (s : Schema) (bs : List ℕ) (q : PlainType) → IsDone (reading_after s (plain q) (plain_content q (text_value bs))) → ⊥
no_text s bs bool h = h
no_text s bs (int w) h = h
no_text s bs (uint w) h = h
no_text s bs («enum» id) h = h

no_data : (s : Schema) (bs : List ℕ) (q : PlainType) → IsDone (reading_after s (plain q) (plain_content q (blob_value bs))) → ⊥
no_data s bs bool h = h
no_data s bs (int w) h = h
no_data s bs (uint w) h = h
no_data s bs («enum» id) h = h

text_same : (A : Type 0) (s : Schema) (t : TextReader) (ty : Ty) → IsDone (reading_after s ty (element_content s (set_to (text_value t.0.now)) ty)) → element_edit {A = A} (value.Text t) ty ≡ edit_element s [] (set_to (text_value t.0.now)) ty
text_same A s t void h = last_edit s (set_to (text_value t.0.now)) void
text_same A s t (plain q) h = absurd (no_text s t.0.now q h)
text_same A s t text h = last_edit s (set_to (text_value t.0.now)) text
text_same A s t blob h = absurd h
text_same A s t untyped h = absurd h
text_same A s t interface h = absurd h
text_same A s t (struct id) h = absurd h
text_same A s t (list ty) h = absurd h

data_same : (A : Type 0) (s : Schema) (bs : Bor (List ℕ)) (ty : Ty) → IsDone (reading_after s ty (element_content s (set_to (blob_value bs.now)) ty)) → element_edit {A = A} (value.Data bs) ty ≡ edit_element s [] (set_to (blob_value bs.now)) ty
data_same A s bs void h = last_edit s (set_to (blob_value bs.now)) void
data_same A s bs (plain q) h = absurd (no_data s bs.now q h)
data_same A s bs text h = absurd h
data_same A s bs blob h = last_edit s (set_to (blob_value bs.now)) blob
data_same A s bs untyped h = absurd h
data_same A s bs interface h = absurd h
data_same A s bs (struct id) h = absurd h
data_same A s bs (list ty) h = absurd h

pub text_end : (A : Type 0) (old new : ArenaState) (o : ListPlace) (k : ℕ) (s : Schema) (ty : Ty) (t : TextReader) (bytes : List ℕ) → t.0.now ≡ bytes → (x : Result ⊤ Error)
    → PutsElementContent old new (record { place = o; at = k; edit = element_edit {A = A} (value.Text t) ty }) (flat_element {A = A} (value.Text t) ty) x → OnOk x (EditsElementAt (words_in old.segments) (words_in new.segments) (record { place = o; at = k; around = s; ty = ty }) (record { path = []; verb = set_to (text_value bytes) }))
text_end A old new o k s ty t bytes e x h =
    subst (λ bs. OnOk x (EditsElementAt (words_in old.segments) (words_in new.segments) (record { place = o; at = k; around = s; ty = ty }) (record { path = []; verb = set_to (text_value bs) }))) e
    (set_end old new o (element_edit {A = A} (value.Text t) ty) k s ty (text_value t.0.now) (flat_element {A = A} (value.Text t) ty) (text_same A s t ty) x h)

pub data_end : (A : Type 0) (old new : ArenaState) (o : ListPlace) (k : ℕ) (s : Schema) (ty : Ty) (bs : Bor (List ℕ)) (bytes : List ℕ) → bs.now ≡ bytes → (x : Result ⊤ Error)
    → PutsElementContent old new (record { place = o; at = k; edit = element_edit {A = A} (value.Data bs) ty }) (flat_element {A = A} (value.Data bs) ty) x → OnOk x (EditsElementAt (words_in old.segments) (words_in new.segments) (record { place = o; at = k; around = s; ty = ty }) (record { path = []; verb = set_to (blob_value bytes) }))
data_end A old new o k s ty bs bytes e x h =
    subst (λ ys. OnOk x (EditsElementAt (words_in old.segments) (words_in new.segments) (record { place = o; at = k; around = s; ty = ty }) (record { path = []; verb = set_to (blob_value ys) }))) e
    (set_end old new o (element_edit {A = A} (value.Data bs) ty) k s ty (blob_value bs.now) (flat_element {A = A} (value.Data bs) ty) (data_same A s bs ty) x h)
