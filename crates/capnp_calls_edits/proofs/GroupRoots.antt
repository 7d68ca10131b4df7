-- The struct of a message's root, and the group that is set to it.
use Rattle.std.proofs.Common.{◌≡◌, ℕ, ◌+◌, List, [], Option, Some, None, Result, Ok, Err, OnOk, refl, sym, ap, subst, ◌∙◌, arith}
use Rattle.std.specs.Prelude.{⊤, option_map}
use Rattle.capnp_model.specs.Segments.{Segments, Place, root}
use Rattle.capnp_model.specs.Trees.{Tree, null, capability, structure, plain_list, pointer_list, struct_list, Trees, none, child}
use Rattle.capnp_model.specs.Traversal.{tree_at}
use Rattle.capnp_model.specs.Schemas.{Shape, Body, group_slot, Schema}
use Rattle.capnp_model.specs.Calls.{set_to, message, message_root}
use Rattle.capnp_model.specs.Edits.{Cell, Edit, mark, group_writes, after_writes, from_message, edit_field}
use Rattle.capnp_units.specs.declared.errors.Error.{Error}
use Rattle.capnp_model.proofs.lemmas.Depth.{tree_at_more}
use Rattle.capnp_model.proofs.lemmas.Chaining.{bind_ok, ok_is, some_is}
use Rattle.capnp_wire_objects.specs.declared.object.Object.{Object}
use Rattle.capnp_wire_objects.specs.declared.object.Object.TheVariants as object
use Rattle.capnp_wire_objects.specs.declared.object.Found.{Found}
use Rattle.capnp_wire_objects.specs.Objects.{object_at}
use Rattle.capnp_wire.specs.Levels.{level_below}
use Rattle.capnp_wire.specs.Views.{Ground, StructView, PointerView, pointer_field}
use Rattle.capnp_wire.specs.Reads.{read_struct, found_behind, object_behind}
use Rattle.capnp_wire.specs.Laws.{reads_behind, ShowsChildren, ShowsStruct, IsRead, StructsAreRead}
use Rattle.capnp_values_queries.specs.Fields.{Entry, union_in}
use Rattle.capnp_values_queries.specs.Structs.{schema_around, shape_of_struct}
use Rattle.capnp_values_queries.specs.Handles.{entry_of_field}
use Rattle.capnp_values_queries.specs.declared.fields.Field.{Field}
use Rattle.capnp_copy_arenas.specs.declared.fields.StructPlace.{StructPlace}
use Rattle.capnp_schema_structs.specs.GroupWrites.{in_words}
use Rattle.capnp_schema_structs.specs.GroupSets.{IsSource, WritesAsFar, entry_writes, copied_field}
use Rattle.capnp_schema_structs.proofs.lemmas.FieldWrites.{group_writes_are}
use Rattle.capnp_model.proofs.lemmas.Tests.{same_some}
use Rattle.capnp_calls_edits.specs.Written.{WritesField, IsDoneAt, edit_at}
use Rattle.capnp_calls_edits.proofs.Lifting.{cell, edits_alike}

-- what a struct that is read stands on
pub basis_is : (g : Ground) (levels : Option ℕ) (o : Object) (v : StructView) → read_struct g levels o ≡ Ok v → v.basis ≡ g
basis_is g levels object.Null v h = ap (λ (x : StructView). x.basis) (sym (ok_is _ v h))
basis_is g levels (object.Struct p d k) v h = (let a = bind_ok (level_below levels) _ v h in ap (λ (x : StructView). x.basis) (sym (ok_is _ v a.2)))
basis_is g levels (object.List p size n) v h = absurd cc
basis_is g levels (object.PointerList p n) v h = absurd cc
basis_is g levels (object.StructList p words n d k) v h = absurd cc
basis_is g levels (object.Capability i) v h = absurd cc

-- the data and the children of a root, null among them
pub record RootCell (v : StructView) (t : Tree) : Type 0 where
  pub from : Cell
  pub words : ℕ
  pub root : message_root t ≡ structure words from.section from.kids
  pub source : IsSource v (in_words from)

-- what a pointer is read as within some levels, it is within others
read_alike : (n m : ℕ) (s : Segments) (p : Place) (a b : Tree) → tree_at n s p ≡ Some a → tree_at m s p ≡ Some b → a ≡ b
read_alike n m s p a b e f = some_is a b (sym (tree_at_more n (n + m) s p a (omega arith) e) ∙ tree_at_more m (n + m) s p b (omega arith) f)

behind_alike : (n m : ℕ) (s : Segments) (o : Option Place) (a b : Tree) → reads_behind (tree_at n s) o ≡ Some a → reads_behind (tree_at m s) o ≡ Some b → a ≡ b
behind_alike n m s None a b e f = some_is a b (sym e ∙ f)
behind_alike n m s (Some p) a b e f = read_alike n m s p a b e f

children : (v : StructView) (kids : Trees) → ShowsChildren (tree_at 63 v.basis.segments) v kids → (levels i : ℕ) (t : Tree) → reads_behind (tree_at levels v.basis.segments) (pointer_field v i).place ≡ Some t → child kids i ≡ t
children v kids h levels i t e = behind_alike 63 levels v.basis.segments (pointer_field v i).place (child kids i) t (h i) e

shown : (v : StructView) (t : Tree) → ShowsStruct (tree_at 63 v.basis.segments) v t → RootCell v t
shown v null h = record { from = cell 0 none; words = 0; root = refl; source = record { extent = (0, h.1); section = h.0; children = children v none h.2 } }
shown v (capability i) h = absurd h
shown v (structure w section kids) h = record { from = cell section kids; words = w; root = refl; source = record { extent = (w, h.1); section = h.0; children = children v kids h.2 } }
shown v (plain_list size n x) h = absurd h
shown v (pointer_list ts) h = absurd h
shown v (struct_list w p es) h = absurd h

pub root_cell : StructsAreRead → (g : Ground) (levels left : Option ℕ) → level_below levels ≡ Ok left → (f : Found) (t : Tree) (v : StructView) → object_at g.segments root ≡ Ok f → tree_at 64 g.segments root ≡ Some t → read_struct g levels f.object ≡ Ok v → RootCell v t
root_cell are_read g levels left level f t v found tree read =
    let here : IsRead 63 root f t g levels = record { found = found; tree = tree; below = left; level = level } in
    let shows : ShowsStruct (tree_at 63 g.segments) v t = (are_read 63 root f t g levels here).0 v read in
    shown v t (subst (λ (x : Ground). ShowsStruct (tree_at 63 x.segments) v t) (sym (basis_is g levels f.object v read)) shows)

pub root_behind : StructsAreRead → (p : PointerView) (s : Segments) (left : Option ℕ) → p.place ≡ Some root → p.basis.segments ≡ s → level_below p.levels ≡ Ok left → (t : Tree) → tree_at 64 s root ≡ Some t → (f : Found) → object_behind p ≡ Ok f → (v : StructView) → read_struct p.basis p.levels f.object ≡ Ok v → RootCell v t
root_behind are_read p s left place segs level t tree f found v read =
    root_cell are_read p.basis p.levels left level f t v (ap (found_behind p.basis.segments) (sym place) ∙ found) (subst (λ x. tree_at 64 x root ≡ Some t) (sym segs) tree) read

-- ---- a group that is set to it

-- that a group is set by its writes
abbrev pub SetsByWrites : Type 0
SetsByWrites = (s : Schema) (union member : Option ℕ) (g : Shape) (words : ℕ) (from c : Cell) → edit_field s [] (set_to (message (structure words from.section from.kids))) union member (group_slot g) c ≡ after_writes (group_writes s g (mark union member) from) c

module _ (law : SetsByWrites) (from : Cell) (t : Tree) (words : ℕ) (is : message_root t ≡ structure words from.section from.kids) where
  -- null counts as the empty struct
  rooted : (s : Schema) (union member : Option ℕ) (g : Shape) (c : Cell) → edit_field s [] (set_to (message t)) union member (group_slot g) c ≡ edit_field s [] (set_to (message (structure words from.section from.kids))) union member (group_slot g) c
  unfolding edit_field
  rooted s union member g c = ap (λ x. from_message s g x (mark union member c)) is

  by_writes : (s : Schema) (union : Option ℕ) (g : Shape) (e : Entry) → e.body ≡ group_slot g → (c : Cell) → after_writes (entry_writes s union (Some e) (in_words from)) c ≡ edit_field s [] (set_to (message t)) union e.member e.body c
  by_writes s union g e body c =
      ap (λ (fs : List Edit). after_writes fs c) (group_writes_are s union e g body from) ∙ sym (rooted s union e.member g c ∙ law s union e.member g words from c)
      ∙ ap (λ (b : Body). edit_field s [] (set_to (message t)) union e.member b c) (sym body)

  entry_set : (f : Field) (g : Shape) (o : Option Entry) → option_map (λ e. e.body) o ≡ Some (group_slot g) → (c : Cell) → after_writes (entry_writes (schema_around f.parent) (union_in (shape_of_struct f.parent)) o (in_words from)) c ≡ edit_at f [] (set_to (message t)) o c
  entry_set f g None body c = absurd (cc body)
  entry_set f g (Some e) body c = by_writes (schema_around f.parent) (union_in (shape_of_struct f.parent)) g e (same_some body) c

  pub group_set : (f : Field) (g : Shape) → option_map (λ e. e.body) (entry_of_field f) ≡ Some (group_slot g) → (s u : Segments) (p : StructPlace) (r : Result ⊤ Error) → WritesAsFar s u p (copied_field f (in_words from)) r → OnOk r (WritesField s u p f (record { path = []; verb = set_to (message t) }))
  group_set f g body s u p (Ok x) h =
      edits_alike s u p (λ c. Unit {0}) (IsDoneAt f [] (set_to (message t)) (entry_of_field f)) (after_writes (copied_field f (in_words from))) (edit_at f [] (set_to (message t)) (entry_of_field f)) (λ c all. (tt, entry_set f g (entry_of_field f) body c)) (λ n section kids o any. h n section kids o)
  group_set f g body s u p (Err e) h = tt
