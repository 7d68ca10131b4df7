-- A struct that is put into a slot, as the model puts it.
use Rattle.std.proofs.Common.{◌≡◌, ◌↔◌, ℕ, zero, suc, ◌+◌, ◌^◌, ◌<◌, ◌≤◌, inl, inr, length, map, Result, Ok, Err, IfErr, OnOk, OnErr, Option, Some, None, refl, sym, ap, subst, ◌∙◌, arith}
use Rattle.std.specs.Prelude.{option_map}
use Rattle.capnp_model.specs.Segments.{Segments, after}
use Rattle.capnp_model.specs.Schemas.{Ty, Shape, shape, Field as FieldNode, Schema, Body, pointer_slot, words_of_shape, pointers_of_shape}
use Rattle.capnp_model.specs.Sizes.{object_words, each_object_words}
use Rattle.capnp_model.specs.Trees.{Tree, structure, none, resized}
use Rattle.capnp_model.specs.Calls.{Content, refused_by, object, empty_struct, init}
use Rattle.capnp_model.specs.Edits.{Cell, put_child, put_field}
use Rattle.capnp_units.specs.Segments.{words_in}
use Rattle.capnp_units.specs.declared.errors.Error.{Error}
use Rattle.capnp_units.specs.declared.kinds.ErrorKind.TheVariants.{SizeOverflow}
use Rattle.capnp_wire_objects.specs.Places.{place_view}
use Rattle.capnp_wire_objects.specs.declared.place.Place as code
use Rattle.capnp_values_queries.specs.Structs.{schema_around, id_of}
use Rattle.capnp_values_queries.specs.Handles.{entry_of_field, IsFieldRecord}
use Rattle.capnp_values_queries.specs.declared.structs.StructSchema.{StructSchema}
use Rattle.capnp_values_queries.specs.declared.fields.Field.{Field}
use Rattle.capnp_copy_arenas.specs.Allocations.{total_words, NoRoom}
use Rattle.capnp_copy_arenas.specs.declared.fields.StructPlace.{StructPlace}
use Rattle.capnp_layout_builders.specs.Making.{ArenaState, Makes, WordsRefused}
use Rattle.capnp_model.proofs.lemmas.Stripping.{count-resized}
use Rattle.capnp_schema_structs.specs.Calls.{edit_of}
use Rattle.capnp_schema_structs.specs.Edits.{Edits, marked}
use Rattle.capnp_schema_structs.specs.Inits.{struct_named, no_struct, slot_init_content, field_init_content, LeadsFrom, LiesBehind, LiesIn, StructNotMade}
use Rattle.capnp_schema_structs.specs.Puts.{PutsContent, NewObjectRefused}
use Rattle.capnp_schema_structs.proofs.lemmas.GroupFields.{body_is}
use Rattle.capnp_schema_structs.proofs.lemmas.StructTypes.{type_is}
use Rattle.capnp_schema_structs.proofs.Verbs.{child_put as put_child_there, child_refused}

-- ---- the struct of a shape

empty_is : (g : Shape) → structure (words_of_shape g) 0 (resized (pointers_of_shape g) none) ≡ empty_struct g
empty_is (shape nid w p u fs) = refl

pub no_words : (p : ℕ) → each_object_words (resized p none) ≡ 0
unfolding object_words
no_words zero = refl
no_words (suc p) = let h = no_words p in omega (arith, h)

pub empty_words : (g : Shape) → object_words (empty_struct g) ≡ words_of_shape g + pointers_of_shape g
unfolding object_words
empty_words (shape nid w p u fs) = let a = no_words p in let b = count-resized p none in omega (arith, a, b)

same_sum : (a b c d : ℕ) → a ≡ c → b ≡ d → a + b ≡ c + d
same_sum a b c d e f = ap (λ n. n + b) e ∙ ap (λ n. c + n) f

module _ {X : Type 0} (old new : ArenaState) (slot : code.Place) (g : Shape) (w p : ℕ) (words : w ≡ words_of_shape g) (pointers : p ≡ pointers_of_shape g) where
  pub empty_made : (r : Result X Error) → OnOk r (Makes old new slot (structure w 0 (resized p none)) (w + p)) → OnOk r (Makes old new slot (empty_struct g) (words_of_shape g + pointers_of_shape g))
  empty_made r h =
      let tree : structure w 0 (resized p none) ≡ empty_struct g = ap (λ n. structure n 0 (resized p none)) words ∙ ap (λ n. structure (words_of_shape g) 0 (resized n none)) pointers ∙ empty_is g in
      let a = subst (λ (v : Tree). OnOk r (Makes old new slot v (w + p))) tree h in
      subst (λ n. OnOk r (Makes old new slot (empty_struct g) n)) (same_sum w p (words_of_shape g) (pointers_of_shape g) words pointers) a

  pub not_made : (r : Result X Error) → IfErr r (λ e. (e.kind ≡ SizeOverflow) ↔ (2 ^ 29 ≤ total_words (words_in old.segments) + (w + p + 1))) → OnErr r (NoRoom (words_in old.segments) old.room slot.segment (w + p))
      → OnErr r (new.segments ≡ old.segments) → new.books ≡ old.books → IfErr r (StructNotMade old new slot g)
  not_made (Ok x) h f s k = tt
  not_made (Err e) h f s k = (subst (λ n. WordsRefused old slot.segment n e) (same_sum w p (words_of_shape g) (pointers_of_shape g) words pointers) (h, f), (s, k))

-- a struct is refused only for want of room
pub refused_as : (old : ArenaState) (segment : ℕ) (g : Shape) (e : Error) → WordsRefused old segment (words_of_shape g + pointers_of_shape g) e → NewObjectRefused old segment (empty_struct g) e
refused_as old segment (shape nid w p u fs) e h =
    let n : w + p ≡ object_words (empty_struct (shape nid w p u fs)) = sym (empty_words (shape nid w p u fs)) in
    let x = subst (λ n. WordsRefused old segment n e) n h in
    ((λ z. inr (x.0.0 z), λ z. x.0.1 (elim z [ inl v ↦ absurd v | inr v ↦ v ])), inr x.1)

-- ---- fields of a body

pub some_struct : (s : Schema) (i : ℕ) (ty : Ty) (d : Option Tree) (id : ℕ) → struct_named ty ≡ Some id → slot_init_content s (pointer_slot i ty d) ≡ object (empty_struct (s.shape_of id))
some_struct s i ty d id e = ap (λ (o : Option ℕ). elim o as (λ (y : Option ℕ). Content) [ None ↦ refused_by (no_struct ty) | Some n ↦ object (empty_struct (s.shape_of n)) ]) e

pub none_made : (s : Schema) (i : ℕ) (ty : Ty) (d : Option Tree) → struct_named ty ≡ None → slot_init_content s (pointer_slot i ty d) ≡ refused_by (no_struct ty)
none_made s i ty d e = ap (λ (o : Option ℕ). elim o as (λ (y : Option ℕ). Content) [ None ↦ refused_by (no_struct ty) | Some n ↦ object (empty_struct (s.shape_of n)) ]) e

module _ (f : Field) (r : FieldNode) (is : IsFieldRecord f.parent f.index r) (b : Body) (same : option_map (λ e. e.body) (entry_of_field f) ≡ Some b) where
  pub content_is : field_init_content (schema_around f.parent) (entry_of_field f) ≡ slot_init_content (schema_around f.parent) b
  content_is = ap (field_init_content (schema_around f.parent)) is.entry ∙ ap (slot_init_content (schema_around f.parent)) (body_is f r is b same)

  pub puts_as : {X : Type 0} (k : Content) → slot_init_content (schema_around f.parent) b ≡ k → (old new : ArenaState) (p : StructPlace) (x : Result X Error) → PutsContent old new p (edit_of f init) k x → PutsContent old new p (edit_of f init) (field_init_content (schema_around f.parent) (entry_of_field f)) x
  puts_as k e old new p x h = subst (λ k. PutsContent old new p (edit_of f init) k x) (sym (content_is ∙ e)) h

-- ---- slots of a struct's type

module _ (f : Field) (r : FieldNode) (is : IsFieldRecord f.parent f.index r) (i : ℕ) (ty : Ty) (d : Option Tree) (same : option_map (λ e. e.body) (entry_of_field f) ≡ Some (pointer_slot i ty d)) (id : ℕ) (named : struct_named ty ≡ Some id) (g : Shape) (g_is : g ≡ (schema_around f.parent).shape_of id) where
  content : slot_init_content (schema_around f.parent) (pointer_slot i ty d) ≡ object (empty_struct g)
  content = some_struct (schema_around f.parent) i ty d id named ∙ ap (λ h. object (empty_struct h)) (sym g_is)

  child_put : (c : Cell) → put_child i (empty_struct g) c ≡ put_field (schema_around f.parent) init (pointer_slot i ty d) c
  child_put c = ap (λ h. put_child i (empty_struct h) c) g_is ∙ ap (λ y. put_field (schema_around f.parent) init (pointer_slot i y d) c) (sym (type_is ty id named))

  pub inits : {X : Type 0} (old mid new : ArenaState) (p : StructPlace) (slot : code.Place) (x : X) → place_view slot ≡ after (after (place_view p.start) p.data_words) i → i < p.pointers → Makes old mid slot (empty_struct g) (words_of_shape g + pointers_of_shape g)
      → Edits (words_in mid.segments) (words_in new.segments) p (marked f) → map length (words_in new.segments) ≡ map length (words_in mid.segments) → PutsContent {X = X} old new p (edit_of f init) (field_init_content (schema_around f.parent) (entry_of_field f)) (Ok x)
  inits old mid new p slot x at_is l m k sizes =
      puts_as f r is (pointer_slot i ty d) same (object (empty_struct g)) content old new p (Ok x) (put_child_there f r is i ty d same init (empty_struct g) child_put old mid new p slot x (words_of_shape g + pointers_of_shape g) (empty_words g) at_is l m k sizes)

  pub lies : (s u : Segments) (p o : StructPlace) (h : StructSchema) → schema_around h ≡ schema_around f.parent → Some (id_of h) ≡ struct_named ty → LeadsFrom s u p i o → LiesIn s u p (schema_around f.parent) (entry_of_field f) o h
  lies s u p o h around named_too leads =
      let here = subst (λ b. LiesBehind s u p (schema_around f.parent) b o h) (sym (body_is f r is (pointer_slot i ty d) same)) (around, named_too, leads) in
      subst (λ e. LiesIn s u p (schema_around f.parent) e o h) (sym is.entry) here

  pub refuses : (X : Type 0) (old new : ArenaState) (p : StructPlace) (slot : code.Place) (e : Error) → place_view slot ≡ after (after (place_view p.start) p.data_words) i → WordsRefused old slot.segment (words_of_shape g + pointers_of_shape g) e
      → PutsContent {X = X} old new p (edit_of f init) (field_init_content (schema_around f.parent) (entry_of_field f)) (Err e)
  refuses X old new p slot e at_is h =
      puts_as f r is (pointer_slot i ty d) same (object (empty_struct g)) content old new p (Err e) (child_refused f r is i ty d same init (empty_struct g) child_put X old new p slot e at_is (refused_as old slot.segment g e h))
