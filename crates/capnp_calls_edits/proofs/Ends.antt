-- What is done at the field where a path ends.
use Rattle.std.proofs.Common.{◌≡◌, ℕ, List, ◌*◌, [], Option, Some, None, Result, Ok, Err, OnOk, bit_xor, refl, sym, ap, subst, ◌∙◌}
use Rattle.std.specs.Prelude.{⊤, option_map}
use Rattle.std.specs.Borrow.{Bor}
use Rattle.capnp_model.specs.Kinds.{Kind}
use Rattle.capnp_model.specs.Segments.{Segments}
use Rattle.capnp_model.specs.Schemas.{width, PlainType, void, plain, text, blob, untyped, interface, struct, list, Field as FieldNode, Body, void_slot, plain_slot, pointer_slot, group_slot, Schema}
use Rattle.capnp_model.specs.Calls.{Verb, set_to, CallValue, text_value, blob_value, Content, refused_by, bits_of, object, plain_content, slot_content}
use Rattle.capnp_model.specs.Edits.{Cell, Edit, mark, put_bits, put_content, put_field, edit_field}
use Rattle.capnp_units.specs.Segments.{words_in}
use Rattle.capnp_units.specs.declared.errors.Error.{Error}
use Rattle.capnp_values_queries.specs.Fields.{Entry, entry_in, union_in}
use Rattle.capnp_values_queries.specs.Structs.{schema_around, shape_of_struct}
use Rattle.capnp_values_queries.specs.Handles.{entry_of_field, IsFieldRecord}
use Rattle.capnp_values_queries.specs.declared.fields.Field.{Field}
use Rattle.capnp_values.specs.declared.dynamic_value.Reader.{Reader}
use Rattle.capnp_values.specs.declared.dynamic_value.Reader.TheVariants as value
use Rattle.capnp_text.specs.declared.text.Reader.{Reader as TextReader}
use Rattle.capnp_copy_arenas.specs.Structs.{SetsBits}
use Rattle.capnp_copy_arenas.specs.declared.fields.StructPlace.{StructPlace}
use Rattle.capnp_layout_builders.specs.Making.{ArenaState}
use Rattle.capnp_schema_structs.specs.Calls.{edit_entry, edit_of}
use Rattle.capnp_schema_structs.specs.Edits.{Edits, marked, marked_in}
use Rattle.capnp_schema_structs.specs.Given.{flat_content, set_content, set_entry, set_edit}
use Rattle.capnp_schema_structs.specs.Puts.{PutsContent}
use Rattle.capnp_schema_structs.proofs.lemmas.Writes.{edits_then}
use Rattle.capnp_calls.proofs.lemmas.OneStep.{IsSlot, is_void, is_plain, is_pointer}
use Rattle.capnp_calls_edits.specs.Written.{EditsWhere, IsDoneAt, edit_at, WritesField}
use Rattle.capnp_calls_edits.proofs.Lifting.{edits_any, deepens_any, edits_alike}
use Rattle.capnp_calls_edits.proofs.lemmas.Outcomes.{edit_is}

-- ---- the same edit in other words

-- the edit at the end is that of the verb
last_edit : (f : Field) (verb : Verb) (o : Option Entry) (c : Cell) → edit_entry f verb o c ≡ edit_at f [] verb o c
last_edit f verb None c = refl
last_edit f verb (Some e) c = refl

module _ (s u : Segments) (p : StructPlace) (f : Field) (verb : Verb) where
  -- another edit that makes the same of each struct
  same_end : (g : Edit) → ((c : Cell) → g c ≡ edit_at f [] verb (entry_of_field f) c) → EditsWhere (IsDoneAt f [] verb (entry_of_field f)) s u p g → WritesField s u p f (record { path = []; verb = verb })
  same_end g same h = edits_alike s u p (IsDoneAt f [] verb (entry_of_field f)) (IsDoneAt f [] verb (entry_of_field f)) g (edit_at f [] verb (entry_of_field f)) (λ c is_done. (is_done, same c)) h

  pub edited_end : Edits s u p (edit_of f verb) → WritesField s u p f (record { path = []; verb = verb })
  edited_end h = same_end (edit_of f verb) (last_edit f verb (entry_of_field f)) (edits_any s u p (IsDoneAt f [] verb (entry_of_field f)) (edit_of f verb) h)

-- ---- content that was put

puts_any : {X : Type 0} (A : Cell → Type 0) (old new : ArenaState) (p : StructPlace) (g : Edit) (k : Content) (x : X) → PutsContent old new p g k (Ok x) → EditsWhere A (words_in old.segments) (words_in new.segments) p g
puts_any A old new p g (refused_by k) x h = absurd cc
puts_any A old new p g (bits_of n) x h = edits_any (words_in old.segments) (words_in new.segments) p A g h.1.writes
puts_any A old new p g (object t) x h = deepens_any (words_in old.segments) (words_in new.segments) p A g h.0.writes

never_refused : {X : Type 0} (old new : ArenaState) (p : StructPlace) (g : Edit) (k : Content) (x : X) → PutsContent old new p g k (Ok x) → (kind : Kind) → k ≡ refused_by kind → ⊥
never_refused old new p g (refused_by k) x h kind e = absurd cc
never_refused old new p g (bits_of n) x h kind e = absurd (cc e)
never_refused old new p g (object t) x h kind e = absurd (cc e)

pub put_end : {X : Type 0} (old new : ArenaState) (p : StructPlace) (f : Field) (verb : Verb) (k : Content) (x : Result X Error) → PutsContent old new p (edit_of f verb) k x → OnOk x (WritesField (words_in old.segments) (words_in new.segments) p f (record { path = []; verb = verb }))
put_end old new p f verb k (Ok x) h =
    same_end (words_in old.segments) (words_in new.segments) p f verb (edit_of f verb) (last_edit f verb (entry_of_field f))
    (puts_any (IsDoneAt f [] verb (entry_of_field f)) old new p (edit_of f verb) k x h)
put_end old new p f verb k (Err x) h = tt

-- ---- slots that are set

pub last_step : (s : Schema) (verb : Verb) (union : Option ℕ) (member : Option ℕ) (body : Body) (c : Cell) → put_field s verb body (mark union member c) ≡ edit_field s [] verb union member body c
unfolding edit_field
last_step s verb union member body c = refl

pub slot_put : (s : Schema) (verb : Verb) (body : Body) → IsSlot body → (c : Cell) → put_content body (slot_content s verb body) c ≡ put_field s verb body c
slot_put s verb body (is_void j) c = refl
slot_put s verb body (is_plain p at d) c = refl
slot_put s verb body (is_pointer i ty d) c = refl

module _ (f : Field) (r : FieldNode) (is : IsFieldRecord f.parent f.index r) (b : Body) (same : option_map (λ e. e.body) (entry_of_field f) ≡ Some b) (verb : Verb) where
  put_is : IsSlot b → (k : Content) → slot_content (schema_around f.parent) verb b ≡ k → (c : Cell) → put_content b k (marked f c) ≡ edit_at f [] verb (entry_of_field f) c
  put_is slot k e c =
      let around = schema_around f.parent in
      let union = union_in (shape_of_struct f.parent) in
      ap (λ x. put_content b x (marked f c)) (sym e) ∙ ap (λ o. put_content b (slot_content around verb b) (marked_in union o c)) is.entry
      ∙ slot_put around verb b slot (mark union r.member c) ∙ last_step around verb union r.member b c ∙ edit_is f r is b same [] verb c

  pub bits_end : (s u : Segments) (p : StructPlace) → IsSlot b → (n : ℕ) → slot_content (schema_around f.parent) verb b ≡ bits_of n → Edits s u p (λ c. put_content b (bits_of n) (marked f c)) → WritesField s u p f (record { path = []; verb = verb })
  bits_end s u p slot n e h =
      same_end s u p f verb (λ c. put_content b (bits_of n) (marked f c)) (put_is slot (bits_of n) e) (edits_any s u p (IsDoneAt f [] verb (entry_of_field f)) (λ c. put_content b (bits_of n) (marked f c)) h)

pub plain_end : (f : Field) (r : FieldNode) → IsFieldRecord f.parent f.index r → (q : PlainType) (o d n w : ℕ) → option_map (λ e. e.body) (entry_of_field f) ≡ Some (plain_slot q (width q * o) d)
    → (v : CallValue) → plain_content q v ≡ bits_of n → w ≡ width q → (s m u : Segments) (p : StructPlace) → Edits s m p (marked f) → SetsBits m u p (w * o) w (bit_xor n d) → WritesField s u p f (record { path = []; verb = set_to v })
plain_end f r is q o d n w same v given e s m u p h k =
    let put = subst (λ w. SetsBits m u p (w * o) w (bit_xor n d)) e k in
    bits_end f r is (plain_slot q (width q * o) d) same (set_to v) s u p (is_plain q (width q * o) d) n given (edits_then s m u p (marked f) (put_bits (width q * o) (width q) (bit_xor n d)) h put)

-- ---- texts and data

text_same : (A : Type 0) (s : Schema) (t : TextReader) (body : Body) (c : Cell) → ((k : Kind) → flat_content {A = A} (value.Text t) body ≡ refused_by k → ⊥)
    → put_content body (flat_content {A = A} (value.Text t) body) c ≡ put_field s (set_to (text_value t.0.now)) body c
text_same A s t (void_slot j) c h = refl
text_same A s t (plain_slot p at d) c h = absurd (h _ refl)
text_same A s t (pointer_slot i void d) c h = absurd (h _ refl)
text_same A s t (pointer_slot i (plain p) d) c h = absurd (h _ refl)
text_same A s t (pointer_slot i text d) c h = refl
text_same A s t (pointer_slot i blob d) c h = absurd (h _ refl)
text_same A s t (pointer_slot i untyped d) c h = refl
text_same A s t (pointer_slot i interface d) c h = absurd (h _ refl)
text_same A s t (pointer_slot i (struct id) d) c h = absurd (h _ refl)
text_same A s t (pointer_slot i (list ty) d) c h = absurd (h _ refl)
text_same A s t (group_slot g) c h = absurd (h _ refl)

data_same : (A : Type 0) (s : Schema) (bs : Bor (List ℕ)) (body : Body) (c : Cell) → ((k : Kind) → flat_content {A = A} (value.Data bs) body ≡ refused_by k → ⊥)
    → put_content body (flat_content {A = A} (value.Data bs) body) c ≡ put_field s (set_to (blob_value bs.now)) body c
data_same A s bs (void_slot j) c h = refl
data_same A s bs (plain_slot p at d) c h = absurd (h _ refl)
data_same A s bs (pointer_slot i void d) c h = absurd (h _ refl)
data_same A s bs (pointer_slot i (plain p) d) c h = absurd (h _ refl)
data_same A s bs (pointer_slot i text d) c h = absurd (h _ refl)
data_same A s bs (pointer_slot i blob d) c h = refl
data_same A s bs (pointer_slot i untyped d) c h = refl
data_same A s bs (pointer_slot i interface d) c h = absurd (h _ refl)
data_same A s bs (pointer_slot i (struct id) d) c h = absurd (h _ refl)
data_same A s bs (pointer_slot i (list ty) d) c h = absurd (h _ refl)
data_same A s bs (group_slot g) c h = absurd (h _ refl)

-- what a flat value puts is what the call puts
module _ {A : Type 0} (f : Field) (r : FieldNode) (is : IsFieldRecord f.parent f.index r) (v : Reader A) (verb : Verb)
    (same : (s : Schema) (body : Body) (c : Cell) → ((k : Kind) → flat_content v body ≡ refused_by k → ⊥) → put_content body (flat_content v body) c ≡ put_field s verb body c) where
  flat_edit : ((k : Kind) → set_content v (entry_of_field f) ≡ refused_by k → ⊥) → (c : Cell) → set_edit f v c ≡ edit_at f [] verb (entry_of_field f) c
  flat_edit never c =
      let around = schema_around f.parent in
      let union = union_in (shape_of_struct f.parent) in
      let e = entry_in around r in
      let not_here : (k : Kind) → flat_content v e.body ≡ refused_by k → ⊥ = λ k h. never k (ap (set_content v) is.entry ∙ h) in
      ap (λ o. set_entry union v o c) is.entry ∙ same around e.body (mark union e.member c) not_here ∙ last_step around verb union e.member e.body c ∙ ap (λ o. edit_at f [] verb o c) (sym is.entry)

  pub flat_end : (old new : ArenaState) (p : StructPlace) (x : ⊤) → PutsContent old new p (set_edit f v) (set_content v (entry_of_field f)) (Ok x) → WritesField (words_in old.segments) (words_in new.segments) p f (record { path = []; verb = verb })
  flat_end old new p x h =
      same_end (words_in old.segments) (words_in new.segments) p f verb (set_edit f v) (flat_edit (never_refused old new p (set_edit f v) (set_content v (entry_of_field f)) x h))
      (puts_any (IsDoneAt f [] verb (entry_of_field f)) old new p (set_edit f v) (set_content v (entry_of_field f)) x h)

pub text_end : (A : Type 0) (f : Field) (r : FieldNode) → IsFieldRecord f.parent f.index r → (t : TextReader) (bytes : List ℕ) → t.0.now ≡ bytes → (old new : ArenaState) (p : StructPlace) (x : Result ⊤ Error)
    → PutsContent old new p (set_edit {A = A} f (value.Text t)) (set_content {A = A} (value.Text t) (entry_of_field f)) x → OnOk x (WritesField (words_in old.segments) (words_in new.segments) p f (record { path = []; verb = set_to (text_value bytes) }))
text_end A f r is t bytes e old new p (Ok x) h =
    subst (λ bs. WritesField (words_in old.segments) (words_in new.segments) p f (record { path = []; verb = set_to (text_value bs) })) e (flat_end {A = A} f r is (value.Text t) (set_to (text_value t.0.now)) (λ s body c never. text_same A s t body c never) old new p x h)
text_end A f r is t bytes e old new p (Err x) h = tt

pub data_end : (A : Type 0) (f : Field) (r : FieldNode) → IsFieldRecord f.parent f.index r → (bs : Bor (List ℕ)) (bytes : List ℕ) → bs.now ≡ bytes → (old new : ArenaState) (p : StructPlace) (x : Result ⊤ Error)
    → PutsContent old new p (set_edit {A = A} f (value.Data bs)) (set_content {A = A} (value.Data bs) (entry_of_field f)) x → OnOk x (WritesField (words_in old.segments) (words_in new.segments) p f (record { path = []; verb = set_to (blob_value bytes) }))
data_end A f r is bs bytes e old new p (Ok x) h =
    subst (λ ys. WritesField (words_in old.segments) (words_in new.segments) p f (record { path = []; verb = set_to (blob_value ys) })) e (flat_end {A = A} f r is (value.Data bs) (set_to (blob_value bs.now)) (λ s body c never. data_same A s bs body c never) old new p x h)
data_end A f r is bs bytes e old new p (Err x) h = tt
