-- What a struct shows is its record.
use Rattle.std.proofs.Common.{◌≡◌, ℕ, zero, suc, ◌*◌, ◌==◌, Bool, true, false, not, ◌&&◌, if◌then◌else◌, Option, Some, None, option_map, List, length, refl, ap, sym, ◌∙◌, subst}
use Rattle.capnp_model.specs.Trees.{Tree, null, capability, structure, plain_list, pointer_list, struct_list, Trees, child, is_null as is_null_tree}
use Rattle.capnp_model.specs.Schemas.{Ty, FieldKind, slot, group, StructNode, NodeKind, struct_node, enum_node, Node, Shape, shape, Fields, no_fields, field, Body, void_slot, plain_slot, pointer_slot, group_slot, Schema}
use Rattle.capnp_model.specs.Readings.{Reading, inactive, null_pointer, fault, number, text_of, blob_of, list_of, record_as, opaque, Record, Extent, just_bits, Children, discriminant, is_active, only_if, shape_record, fields_of, body_of, read, read_child, record_of, record_by_shape}
use Rattle.capnp_model.specs.Printing.{fields_in}
use Rattle.capnp_model.specs.Accepted.{find_node, field_body, fields_from, union_place, no_shape, shape_of_node, shape_in, schema_of}
use Rattle.capnp_wire.specs.Views.{StructView, pointer_field}
use Rattle.capnp_values_queries.specs.Fields.{Entry, field_at, union_in, place_of_member, entry_in}
use Rattle.capnp_values_queries.specs.Structs.{nodes_around, schema_around, id_of, shape_of_struct}
use Rattle.capnp_values_queries.specs.declared.structs.StructSchema.{StructSchema}
use Rattle.capnp_model.proofs.lemmas.Paths.{record_is, read_child-is}
use Rattle.capnp_values.specs.GoodDefaults.{KeepsDefault}
use Rattle.capnp_values.specs.Shown.{kind_shown, discriminant_shown, is_active_field, is_null_slot}
use Rattle.capnp_values.specs.Standing.{HasSectionAndChildren, HasGoodDefault, defaulted_field, Answers, PointersAreRead}
use Rattle.capnp_values.specs.Records.{reading_at_index, is_live, is_there, active_place, FieldsOfRecords, MembersOfRecords, ValuesOfRecords}
use Rattle.capnp_values.proofs.lemmas.FieldReadings.{discriminants}
use Rattle.capnp_values.proofs.lemmas.Nulls.{nulls}
use Rattle.capnp_values.proofs.lemmas.Presence.{there}
use Rattle.capnp_values.proofs.lemmas.DefaultReadings.{fields}

-- ---- the discriminant

pub union_counted : (nodes : List Node) (levels id : ℕ) → (o : Option ℕ) × (union_in (shape_in nodes levels id) ≡ option_map (λ n. 16 * n) o)
unfolding shape_in
union_counted nodes zero id = (None, refl)
union_counted nodes (suc levels) id = by (find_node nodes id)
  where
    place : (s : StructNode) (b : Bool) → (o : Option ℕ) × ((if b then None else Some (16 * s.discriminant_offset)) ≡ option_map (λ n. 16 * n) o)
    place s true = (None, refl)
    place s false = (Some s.discriminant_offset, refl)

    of_kind : (n : Node) (k : NodeKind) → (o : Option ℕ)
        × (union_in (elim k as (λ (x : NodeKind). Shape) [ struct_node s ↦ shape n.id s.words s.pointers (union_place s) (fields_from (λ g. shape_in nodes levels g) s.fields) | enum_node es ↦ no_shape ]) ≡ option_map (λ n. 16 * n) o)
    of_kind n (struct_node s) = place s (s.discriminant_count == 0)
    of_kind n (enum_node es) = (None, refl)

    by : (o : Option Node) → (p : Option ℕ) × (union_in (shape_of_node (λ g. shape_in nodes levels g) o) ≡ option_map (λ n. 16 * n) p)
    by None = (None, refl)
    by (Some n) = of_kind n n.kind

-- the place of a union's discriminant is counted in 16 bits
pub counted : (nodes : List Node) (id : ℕ) → (o : Option ℕ) × (union_in ((schema_of nodes).shape_of id) ≡ option_map (λ n. 16 * n) o)
unfolding schema_of
counted nodes id = union_counted nodes (length nodes) id

discriminant_read : (sch : StructSchema) (n : ℕ) (v : StructView) (e : Extent) (section : ℕ) (kids : Trees) → HasSectionAndChildren n v e section kids → discriminant_shown sch v ≡ discriminant (union_in (shape_of_struct sch)) e section
discriminant_read sch n v e section kids stands =
    let u = counted (nodes_around sch) (id_of sch) in
    ap (λ o. discriminant o (just_bits v.bits) v.section) u.1 ∙ discriminants n v e section kids u.0 stands ∙ ap (λ o. discriminant o e section) (sym u.1)

-- ---- records

pub shape_is : (g : Shape) (e : Extent) (section : ℕ) (kids : Children) → shape_record g e section kids ≡ fields_of (fields_in g) (discriminant (union_in g) e section) e section kids
unfolding shape_record
shape_is (shape nid w p u fs) e section kids = refl

pub field_of_record : (fs : Fields) (i : ℕ) (d : Option ℕ) (e : Extent) (section : ℕ) (kids : Children) (x : Entry) → field_at fs i ≡ Some x
    → reading_at_index i (fields_of fs d e section kids) ≡ only_if (is_active x.member d) (body_of x.body e section kids)
unfolding fields_of
field_of_record no_fields zero d e section kids x h = absurd cc
field_of_record no_fields (suc i) d e section kids x h = absurd cc
field_of_record (field n m b fs) zero d e section kids x h =
    let is : ◌≡◌ {A = Entry} (record { name = n; member = m; body = b }) x = cc in
    ap (λ (y : Entry). only_if (is_active y.member d) (body_of y.body e section kids)) is
field_of_record (field n m b fs) (suc i) d e section kids x h = field_of_record fs i d e section kids x h

-- ---- what is there

pub pointer_there : (s : Schema) (ty : Ty) (t : Tree) → is_there (read s t ty) ≡ not (is_null_tree t)
unfolding read
pointer_there s ty null = refl
pointer_there s ty (capability i) = there s ty (capability i) refl
pointer_there s ty (structure w n ts) = there s ty (structure w n ts) refl
pointer_there s ty (plain_list size n section) = there s ty (plain_list size n section) refl
pointer_there s ty (pointer_list ts) = there s ty (pointer_list ts) refl
pointer_there s ty (struct_list w k es) = there s ty (struct_list w k es) refl

there_is_live : (r : Reading) → is_there r ≡ true → is_live r ≡ true
there_is_live inactive h = absurd cc
there_is_live null_pointer h = absurd cc
there_is_live (fault kind) h = refl
there_is_live (number n) h = refl
there_is_live (text_of bytes) h = refl
there_is_live (blob_of bytes) h = refl
there_is_live (list_of rs) h = refl
there_is_live (record_as r) h = refl
there_is_live (opaque t) h = refl

pub pointer_live : (s : Schema) (ty : Ty) (t : Tree) → is_live (read s t ty) ≡ true
unfolding read
pointer_live s ty null = refl
pointer_live s ty (capability i) = there_is_live _ (there s ty (capability i) refl)
pointer_live s ty (structure w n ts) = there_is_live _ (there s ty (structure w n ts) refl)
pointer_live s ty (plain_list size n section) = there_is_live _ (there s ty (plain_list size n section) refl)
pointer_live s ty (pointer_list ts) = there_is_live _ (there s ty (pointer_list ts) refl)
pointer_live s ty (struct_list w k es) = there_is_live _ (there s ty (struct_list w k es) refl)

only_there : (a : Bool) (r : Reading) → is_there (only_if a r) ≡ (a && is_there r)
only_there true r = refl
only_there false r = refl

pub only_live : (a : Bool) (r : Reading) → is_live (only_if a r) ≡ true → only_if a r ≡ r
only_live true r h = refl
only_live false r h = absurd cc

module _ (n : ℕ) (v : StructView) (e : Extent) (section : ℕ) (kids : Trees) (s : Schema) (stands : HasSectionAndChildren n v e section kids) where
  body_there : (b : Body) → is_there (body_of b e section (read_child s kids)) ≡ not (is_null_slot v (Some b))
  unfolding body_of
  body_there (void_slot j) = refl
  body_there (plain_slot p at d) = refl
  body_there (pointer_slot i ty d) = ap is_there (read_child-is s kids i ty) ∙ pointer_there s ty (child kids i) ∙ ap not (sym (nulls n (pointer_field v i) (child kids i) (stands.children i)))
  body_there (group_slot g) = refl

  body_live : (b : Body) → is_live (body_of b e section (read_child s kids)) ≡ true
  unfolding body_of
  body_live (void_slot j) = refl
  body_live (plain_slot p at d) = refl
  body_live (pointer_slot i ty d) = ap is_live (read_child-is s kids i ty) ∙ pointer_live s ty (child kids i)
  body_live (group_slot g) = refl

  none_active : (fs : Fields) → active_place fs (fields_of fs None e section (read_child s kids)) ≡ None
  unfolding fields_of
  none_active no_fields = refl
  none_active (field l None b fs) = ap (option_map (λ (i : ℕ). suc i)) (none_active fs)
  none_active (field l (Some k) b fs) = ap (option_map (λ (i : ℕ). suc i)) (none_active fs)

  first_active : (d : ℕ) (fs : Fields) → place_of_member d fs ≡ active_place fs (fields_of fs (Some d) e section (read_child s kids))
  unfolding fields_of
  first_active d no_fields = refl
  first_active d (field l None b fs) = ap (option_map (λ (i : ℕ). suc i)) (first_active d fs)
  first_active d (field l (Some k) b fs) = by (k == d) (first_active d fs)
    where
      by : (c : Bool) → place_of_member d fs ≡ active_place fs (fields_of fs (Some d) e section (read_child s kids))
          → (if c then Some 0 else option_map (λ (i : ℕ). suc i) (place_of_member d fs)) ≡ (if is_live (only_if c (body_of b e section (read_child s kids))) then Some 0 else option_map (λ (i : ℕ). suc i) (active_place fs (fields_of fs (Some d) e section (read_child s kids))))
      by true h = ap (λ (c : Bool). if c then Some 0 else option_map (λ (i : ℕ). suc i) (active_place fs (fields_of fs (Some d) e section (read_child s kids)))) (sym (body_live b))
      by false h = ap (option_map (λ (i : ℕ). suc i)) h

  active_read : (o : Option ℕ) (fs : Fields) → (elim o as (λ (x : Option ℕ). Option ℕ) [ None ↦ None | Some d ↦ place_of_member d fs ]) ≡ active_place fs (fields_of fs o e section (read_child s kids))
  active_read None fs = sym (none_active fs)
  active_read (Some d) fs = first_active d fs

-- ---- the laws

good_by : (kids : Trees) (k : FieldKind) → KeepsDefault k → HasGoodDefault kids k
good_by kids (slot o ty d) h = λ none. h
good_by kids (group id) h = tt

pub fields_of_records : PointersAreRead → FieldsOfRecords
fields_of_records pointers f said v r is keeps rec =
    let s = schema_around f.parent in
    let g = shape_of_struct f.parent in
    let kids = read_child s rec.kids in
    let d = discriminant (union_in g) rec.extent rec.section in
    let body = field_body s.shape_of said.kind in
    let whole = body_of body rec.extent rec.section kids in
    let a = is_active said.member d in
    let same : r ≡ shape_record g rec.extent rec.section kids = record_is r (shape_record g rec.extent rec.section kids) rec.is in
    let has : reading_at_index f.index r ≡ only_if a whole = ap (reading_at_index f.index) (same ∙ shape_is g rec.extent rec.section kids) ∙ field_of_record (fields_in g) f.index d rec.extent rec.section kids (entry_in s said) is.entry in
    let shown = discriminant_read f.parent rec.levels v rec.extent rec.section rec.kids rec.stands in
    record {
      has = ap (λ (o : Option Entry). is_active_field (discriminant_shown f.parent v) (option_map (λ x. x.member) o) && not (is_null_slot v (option_map (λ x. x.body) o))) is.entry
          ∙ ap (λ (x : Option ℕ). is_active said.member x && not (is_null_slot v (Some body))) shown
          ∙ ap (λ (b : Bool). a && b) (sym (body_there rec.levels v rec.extent rec.section rec.kids s rec.stands body))
          ∙ sym (only_there a whole)
          ∙ ap is_there (sym has);
      shows = λ live.
          let here : reading_at_index f.index r ≡ whole = has ∙ only_live a whole (ap is_live (sym has) ∙ live) in
          let P : Reading → Type 0 = λ x. Answers s (kind_shown s v said.kind) (defaulted_field s body x) in
          subst P (sym here) (fields pointers rec.levels v rec.extent rec.section rec.kids s said.kind rec.stands (good_by rec.kids said.kind keeps));
    }

pub members_of_records : MembersOfRecords
members_of_records sch v r rec =
    let s = schema_around sch in
    let g = shape_of_struct sch in
    let kids = read_child s rec.kids in
    let d = discriminant (union_in g) rec.extent rec.section in
    let same : r ≡ fields_of (fields_in g) d rec.extent rec.section kids = record_is r (shape_record g rec.extent rec.section kids) rec.is ∙ shape_is g rec.extent rec.section kids in
    ap (λ (x : Option ℕ). elim x as (λ (y : Option ℕ). Option ℕ) [ None ↦ None | Some k ↦ place_of_member k (fields_in g) ]) (discriminant_read sch rec.levels v rec.extent rec.section rec.kids rec.stands)
    ∙ active_read rec.levels v rec.extent rec.section rec.kids s rec.stands d (fields_in g)
    ∙ ap (active_place (fields_in g)) (sym same)

pub values_of_records : ValuesOfRecords
unfolding read record_of record_by_shape
values_of_records s id null h = refl
values_of_records s id (capability i) h = absurd (cc h)
values_of_records s id (structure w n ts) h = refl
values_of_records s id (plain_list size n section) h = absurd (cc h)
values_of_records s id (pointer_list ts) h = absurd (cc h)
values_of_records s id (struct_list w k es) h = absurd (cc h)
