-- What a call that the record machine carries out met on its way.
use Rattle.std.proofs.Common.{◌≡◌, ℕ, zero, suc, Bool, true, false, List, Option, refl, sym, ◌∙◌, ap, subst}
use Rattle.capnp_model.specs.Trees.{Tree, null, capability, structure, plain_list, pointer_list, struct_list, Trees, none, child, plain_elements, size_bits, resized, padded_to}
use Rattle.capnp_model.specs.Schemas.{Ty, struct, list, Shape, shape, Fields, Body, pointer_slot, group_slot, Schema, default_or_null}
use Rattle.capnp_model.specs.Readings.{Reading, inactive, null_pointer, fault, number, text_of, blob_of, list_of, record_as, opaque, Readings, Record, Children, Extent, discriminant, is_active, only_if, shape_record, fields_of, body_of, is_list_of, element_as, list_reading, plain_readings, read, read_child, pointer_elements, struct_elements, record_by_shape}
use Rattle.capnp_model.specs.Printing.{As, fields_in}
use Rattle.capnp_model.specs.Calls.{Step, name, index, Verb, get, set_to, init, initn, clear}
use Rattle.capnp_model.specs.Steps.{Outcome, refused, shown, done, outcome_map, Target, no_target, target, target_of, entry_of, replaced, at_target, on_name, on_index, at_field, at_element, got, opened, or_empty, through_value, through_field, step_field, step_element}
use Rattle.capnp_model.specs.Edits.{Cell, opened_tree}
use Rattle.capnp_model.specs.NamedPaths.{IsOpen}
use Rattle.capnp_model.specs.Admitted.{is_group_write}
use Rattle.capnp_model.proofs.lemmas.Paths.{read_child-is, entry_of-fields_of}
use Rattle.capnp_model.proofs.lemmas.Marks.{read_child-padded_to}
use Rattle.capnp_model.proofs.lemmas.TrimmedKinds.{no_child}
use Rattle.capnp_model_versions.specs.SameReplies.{IsWrite}

-- the call is carried out and writes
abbrev pub Wrote : {A : Type 0} → Outcome A → Type 0
Wrote (refused k) = ⊥
Wrote (shown how r) = ⊥
Wrote (done x) = Unit {0}

pub wrote-map : {A B : Type 0} (f : A → B) (o : Outcome A) → Wrote (outcome_map f o) → Wrote o
wrote-map f (refused k) h = h
wrote-map f (shown how r) h = h
wrote-map f (done x) h = tt

pub wrote-done : {A : Type 0} (o : Outcome A) (x : A) → o ≡ done x → Wrote o
wrote-done o x e = subst Wrote (sym e) tt

-- ---- the end of a path

no_get : (how : As) (r : Reading) → Wrote (got how r) → ⊥
no_get how inactive h = h
no_get how null_pointer h = h
no_get how (fault k) h = h
no_get how (number k) h = h
no_get how (text_of k) h = h
no_get how (blob_of k) h = h
no_get how (list_of k) h = h
no_get how (record_as k) h = h
no_get how (opaque k) h = h

pub field-is-write : (s : Schema) (verb : Verb) (b : Body) (r : Reading) → Wrote (at_field s verb b r) → IsWrite verb
field-is-write s get b r h = no_get _ r h
field-is-write s (set_to v) b r h = tt
field-is-write s init b r h = tt
field-is-write s (initn k) b r h = tt
field-is-write s clear b r h = tt

pub element-is-write : (s : Schema) (verb : Verb) (ty : Ty) (r : Reading) → Wrote (at_element s verb ty r) → IsWrite verb
element-is-write s get ty r h = no_get _ r h
element-is-write s (set_to v) ty r h = tt
element-is-write s init ty r h = tt
element-is-write s (initn k) ty r h = tt
element-is-write s clear ty r h = tt

pub group-is-write : (s : Schema) (verb : Verb) (g : Shape) (r : Reading) → Wrote (at_field s verb (group_slot g) r) → is_group_write verb ≡ true
group-is-write s get g r h = absurd (no_get _ r h)
group-is-write s (set_to v) g r h = refl
group-is-write s init g r h = refl
group-is-write s (initn k) g r h = absurd h
group-is-write s clear g r h = refl

-- ---- what the rest of a path writes

module _ (s : Schema) (verb : Verb) where
  -- at a field of a cell, whatever its data reads as
  pub record WritesField (path : List Step) (b : Body) (c : Cell) : Type 0 where
    pub active : Bool
    pub size : Extent
    pub section : ℕ
    pub kids : Children
    pub reads : (i : ℕ) (ty : Ty) → kids i ty ≡ read s (child c.kids i) ty
    pub wrote : Wrote (step_field s path verb b (only_if active (body_of b size section kids)))

  -- at an element
  pub record WritesElement (path : List Step) (ty : Ty) (c : Cell) : Type 0 where
    pub size : Extent
    pub section : ℕ
    pub kids : Children
    pub reads : (i : ℕ) (t : Ty) → kids i t ≡ read s (child c.kids i) t
    pub wrote : Wrote (step_element s path verb ty (element_as s ty size section kids))

  -- at the field of a name
  pub record WritesName (path : List Step) (l : List ℕ) (g : Shape) (c : Cell) : Type 0 where
    pub size : Extent
    pub section : ℕ
    pub kids : Children
    pub reads : (i : ℕ) (ty : Ty) → kids i ty ≡ read s (child c.kids i) ty
    pub wrote : Wrote (on_name (step_field s path verb) l (fields_in g) (shape_record g size section kids))

  pub data FoundName (path : List Step) (l : List ℕ) (fs : Fields) (c : Cell) : Type 0 where
    found_name : (m : Option ℕ) (b : Body) → target_of l fs ≡ target m b → WritesField path b c → FoundName path l fs c

  pub find_name : (path : List Step) (l : List ℕ) (nid w p : ℕ) (u : Option ℕ) (fs : Fields) (c : Cell) → WritesName path l (shape nid w p u fs) c → FoundName path l fs c
  unfolding shape_record
  find_name path l nid w p u fs c h = by (target_of l fs) refl h.wrote
    where
      r : Record
      r = fields_of fs (discriminant u h.size h.section) h.size h.section h.kids

      by : (t : Target) → target_of l fs ≡ t → Wrote (at_target (step_field s path verb) l fs r t) → FoundName path l fs c
      by no_target e k = absurd k
      by (target m b) e k =
          let is_entry : entry_of l r ≡ only_if (is_active m (discriminant u h.size h.section)) (body_of b h.size h.section h.kids) =
          entry_of-fields_of l fs m b (discriminant u h.size h.section) h.size h.section h.kids e in
          found_name m b e (record {
            active = is_active m (discriminant u h.size h.section);
            size = h.size;
            section = h.section;
            kids = h.kids;
            reads = h.reads;
            wrote = subst (λ z. Wrote (step_field s path verb b z)) is_entry (wrote-map (λ x. replaced l m x fs r) (step_field s path verb b (entry_of l r)) k);
          })

  -- ---- structs

  pub record WritesStruct (path : List Step) (l : List ℕ) (id : ℕ) (t : Tree) : Type 0 where
    pub open' : IsOpen t
    pub wrote : Wrote (on_name (step_field s path verb) l (fields_in (s.shape_of id)) (record_by_shape s (s.shape_of id) t))

  from_default : (path : List Step) (l : List ℕ) (id : ℕ) (d : Tree) → Wrote (through_value s (name l) (step_field s path verb) (step_element s path verb) (struct id) (or_empty s (struct id) (read s d (struct id)))) → WritesStruct path l id d
  unfolding read record_by_shape
  from_default path l id null h = record { open' = tt; wrote = wrote-map record_as _ h }
  from_default path l id (structure w n ts) h = record { open' = tt; wrote = wrote-map record_as _ h }
  from_default path l id (capability k) h = absurd h
  from_default path l id (plain_list k count xs) h = absurd h
  from_default path l id (pointer_list ts) h = absurd h
  from_default path l id (struct_list w p es) h = absurd h

  pub into_struct : (path : List Step) (l : List ℕ) (id : ℕ) (d t : Tree) → Wrote (through_value s (name l) (step_field s path verb) (step_element s path verb) (struct id) (opened s (struct id) d (read s t (struct id)))) → WritesStruct path l id (opened_tree (struct id) d t)
  unfolding read record_by_shape
  into_struct path l id d null h = from_default path l id d h
  into_struct path l id d (structure w n ts) h = record { open' = tt; wrote = wrote-map record_as _ h }
  into_struct path l id d (capability k) h = absurd h
  into_struct path l id d (plain_list k count xs) h = absurd h
  into_struct path l id d (pointer_list ts) h = absurd h
  into_struct path l id d (struct_list w p es) h = absurd h

  -- ---- lists

  abbrev pub WritesList : List Step → ℕ → Ty → Tree → Type 0
  WritesList path k ty (plain_list size n section) = (is_list_of (plain_list size n section) ty ≡ true) × Wrote (on_index (step_element s path verb ty) k (plain_readings s (size_bits size) (plain_elements size n section) ty))
  WritesList path k ty (pointer_list ts) = (is_list_of (pointer_list ts) ty ≡ true) × Wrote (on_index (step_element s path verb ty) k (pointer_elements s ts ty))
  WritesList path k ty (struct_list w p es) = (is_list_of (struct_list w p es) ty ≡ true) × Wrote (on_index (step_element s path verb ty) k (struct_elements s es ty))
  WritesList path k ty t = ⊥

  listed : (path : List Step) (k : ℕ) (ty : Ty) (d : Tree) (b : Bool) (rs : Readings) → Wrote (through_value s (index k) (step_field s path verb) (step_element s path verb) (list ty) (opened s (list ty) d (list_reading b rs)))
      → (b ≡ true) × Wrote (on_index (step_element s path verb ty) k rs)
  listed path k ty d true rs h = (refl, wrote-map list_of _ h)
  listed path k ty d false rs h = absurd h

  default_listed : (path : List Step) (k : ℕ) (ty : Ty) (b : Bool) (rs : Readings) → Wrote (through_value s (index k) (step_field s path verb) (step_element s path verb) (list ty) (or_empty s (list ty) (list_reading b rs)))
      → (b ≡ true) × Wrote (on_index (step_element s path verb ty) k rs)
  default_listed path k ty true rs h = (refl, wrote-map list_of _ h)
  default_listed path k ty false rs h = absurd h

  list_default : (path : List Step) (k : ℕ) (ty : Ty) (d : Tree) → Wrote (through_value s (index k) (step_field s path verb) (step_element s path verb) (list ty) (or_empty s (list ty) (read s d (list ty)))) → WritesList path k ty d
  unfolding read
  list_default path zero ty null h = absurd h
  list_default path (suc k) ty null h = absurd h
  list_default path k ty (structure w n ts) h = absurd h
  list_default path k ty (capability i) h = absurd h
  list_default path k ty (plain_list z count xs) h = default_listed path k ty _ _ h
  list_default path k ty (pointer_list ts) h = default_listed path k ty _ _ h
  list_default path k ty (struct_list w p es) h = default_listed path k ty _ _ h

  pub into_list : (path : List Step) (k : ℕ) (ty : Ty) (d t : Tree) → Wrote (through_value s (index k) (step_field s path verb) (step_element s path verb) (list ty) (opened s (list ty) d (read s t (list ty)))) → WritesList path k ty (opened_tree (list ty) d t)
  unfolding read
  into_list path k ty d null h = list_default path k ty d h
  into_list path k ty d (structure w n ts) h = absurd h
  into_list path k ty d (capability i) h = absurd h
  into_list path k ty d (plain_list z count xs) h = listed path k ty d _ _ h
  into_list path k ty d (pointer_list ts) h = listed path k ty d _ _ h
  into_list path k ty d (struct_list w p es) h = listed path k ty d _ _ h

  -- ---- through a field

  pub no-name : (path : List Step) (l : List ℕ) (ty : Ty) (r : Reading) → ((id : ℕ) → ty ≡ struct id → ⊥) → Wrote (through_value s (name l) (step_field s path verb) (step_element s path verb) ty r) → ⊥
  no-name path l (struct id) r h w = h id refl
  no-name path l ty (fault k) h w = w
  no-name path l ty r h w = w

  pub no-index : (path : List Step) (k : ℕ) (ty : Ty) (r : Reading) → ((e : Ty) → ty ≡ list e → ⊥) → Wrote (through_value s (index k) (step_field s path verb) (step_element s path verb) ty r) → ⊥
  no-index path k (list ty) r h w = h ty refl
  no-index path k ty (fault j) h w = w
  no-index path k ty r h w = w

  pub through-pointer : (path : List Step) (st : Step) (i : ℕ) (ty : Ty) (d : Option Tree) (r : Reading) → Wrote (through_field s st (step_field s path verb) (step_element s path verb) (pointer_slot i ty d) r)
      → Wrote (through_value s st (step_field s path verb) (step_element s path verb) ty (opened s ty (default_or_null d) r))
  through-pointer path (name l) i ty d inactive h = absurd h
  through-pointer path (name l) i ty d r h = h
  through-pointer path (index k) i ty d inactive h = absurd h
  through-pointer path (index k) i ty d r h = h

-- ---- children of cells

pub reads-nothing : (s : Schema) (p i : ℕ) (ty : Ty) → null_pointer ≡ read s (child (resized p none) i) ty
unfolding read
reads-nothing s p i ty = ap (λ t. read s t ty) (sym (no_child p i))

pub reads-padded : (s : Schema) (p : ℕ) (ts : Trees) (i : ℕ) (ty : Ty) → read_child s ts i ty ≡ read s (child (padded_to p ts) i) ty
reads-padded s p ts i ty = sym (read_child-padded_to s p ts i ty) ∙ read_child-is s (padded_to p ts) i ty
