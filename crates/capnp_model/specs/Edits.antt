-- Calls on trees.
use Rattle.std.specs.Prelude.{◌≡◌, ℕ, zero, suc, ◌*◌, ◌%◌, ◌^◌, max, Bool, true, false, bit_xor, Option, Some, None, List, [], ◌∷◌, ◌++◌}
use Rattle.capnp_model.specs.Sections.{number_of, with_bits}
use Rattle.capnp_model.specs.Trees.{Tree, null, structure, plain_list, pointer_list, struct_list, Trees, none, ◌▸◌, Elements, no_elements, element, child, with_child, resized, padded_to, widened, size_bits, plain_elements}
use Rattle.capnp_model.specs.Schemas.{width, Ty, plain, struct, list, Shape, shape, Fields, no_fields, field, Body, void_slot, plain_slot, pointer_slot, group_slot, Schema, default_or_null}
use Rattle.capnp_model.specs.Readings.{Record, whole_words, field_bits, discriminant, is_active, record_of}
use Rattle.capnp_model.specs.Calls.{Step, name, index, Verb, set_to, Call, Content, bits_of, object, slot_content, element_content, message, message_root}
use Rattle.capnp_model.specs.Groups.{source_tree}
use Rattle.capnp_model.specs.Steps.{Outcome, done, step, Target, no_target, target, target_of}

-- The data section and the children of a struct or of an element.
pub record Cell : Type 0 where
  pub section : ℕ
  pub kids : Trees

-- A change of a data section and children.
abbrev pub Edit : Type 0
Edit = Cell → Cell

-- ---- single writes

-- A number is written into the section.
abbrev pub put_bits : ℕ → ℕ → ℕ → Edit
put_bits at width value c = record { section = with_bits at width value c.section; kids = c.kids }

-- A child is replaced.
abbrev pub put_child : ℕ → Tree → Edit
put_child i t c = record { section = c.section; kids = with_child c.kids i t }

-- The discriminant of a union, where a member is written.
abbrev pub mark : Option ℕ → Option ℕ → Edit
mark (Some at) (Some member) c = put_bits at 16 member c
mark _ _ c = c

-- Content is put into a slot.
abbrev pub put_content : Body → Content → Edit
put_content (plain_slot p at d) (bits_of n) c = put_bits at (width p) (bit_xor n d) c
put_content (pointer_slot i ty d) (object t) c = put_child i t c
put_content _ _ c = c

-- ---- groups

-- No member, or the member with value 0.
abbrev pub is_kept : Option ℕ → Bool
is_kept None = true
is_kept (Some zero) = true
is_kept (Some (suc m)) = false

-- A change where the test holds.
abbrev pub edit_if : Bool → Edit → Edit
edit_if true f c = f c
edit_if false f c = c

unfoldable mutual
  -- A cleared group: its member 0 and its fields that are no members.
  pub cleared : Shape → Edit
  cleared (shape nid words pointers union fs) c = cleared_fields fs (mark union (Some 0) c)

  -- The fields of a cleared group: those that are no members, and member 0.
  pub cleared_fields : Fields → Edit
  cleared_fields no_fields c = c
  cleared_fields (field n member body fs) c = cleared_fields fs (edit_if (is_kept member) (cleared_body body) c)

  -- A cleared field.
  pub cleared_body : Body → Edit
  cleared_body (void_slot j) c = c
  cleared_body (plain_slot p at d) c = put_bits at (width p) 0 c
  cleared_body (pointer_slot i ty d) c = put_child i null c
  cleared_body (group_slot g) c = cleared g c

-- ---- the end of a path

-- A pointer of the source is put into its slot, where it is a member's or no null.
abbrev pub pointer_writes : Schema → Option ℕ → ℕ → Ty → Tree → Edit → Tree → List Edit
pointer_writes s None i ty d before null = []
pointer_writes s member i ty d before t = (λ c. put_child i (source_tree s ty d t) (before c)) ∷ []

-- Whether it is a field's turn: first the source's active member, then the fields that are no members.
abbrev pub has_turn : Bool → Option ℕ → Option ℕ → Bool
has_turn true None active = false
has_turn true (Some m) active = is_active (Some m) active
has_turn false None active = true
has_turn false (Some m) active = false

unfoldable mutual
  -- The writes that set a group from another struct's data and children, in their order: it is cleared, then its active
  -- member is set, then its other fields by index. `before` marks the union of which the group is a member.
  pub group_writes : Schema → Shape → Edit → Cell → List Edit
  group_writes s (shape nid words pointers union fs) before from =
      let active : Option ℕ = discriminant union whole_words from.section in
      (λ c. cleared (shape nid words pointers union fs) (before c)) ∷ (field_writes s true fs union active from ++ field_writes s false fs union active from)

  -- The writes of the fields that have their turn.
  pub field_writes : Schema → Bool → Fields → Option ℕ → Option ℕ → Cell → List Edit
  field_writes s members no_fields union active from = []
  field_writes s members (field n member body fs) union active from =
      elim (has_turn members member active) [
        | true ↦ body_writes s body member (mark union member) from ++ field_writes s members fs union active from
        | false ↦ field_writes s members fs union active from
      ]

  -- The writes of a field.
  pub body_writes : Schema → Body → Option ℕ → Edit → Cell → List Edit
  body_writes s (void_slot j) member before from = before ∷ []
  body_writes s (plain_slot p at d) member before from = (λ c. put_bits at (width p) (field_bits whole_words from.section at (width p)) (before c)) ∷ []
  body_writes s (pointer_slot i ty d) member before from = pointer_writes s member i ty (default_or_null d) before (child from.kids i)
  body_writes s (group_slot g) member before from = group_writes s g before from

-- One write after the other.
abbrev pub after_writes : List Edit → Edit
after_writes [] c = c
after_writes (f ∷ fs) c = after_writes fs (f c)

-- What a refused `set` of a group leaves: a beginning of its writes, the first of which marks the union of which the group
-- is a member.
abbrev pub IsBegun : Schema → Option ℕ → Option ℕ → Shape → Cell → Cell → Cell → Type 0
IsBegun s union member g from old new = (front : List Edit) × (back : List Edit) × (group_writes s g (mark union member) from ≡ front ++ back) × (new ≡ after_writes front old)

-- A group is set from a message.
abbrev pub from_message : Schema → Shape → Tree → Edit
from_message s g (structure words section kids) c = after_writes (group_writes s g (λ c. c) (record { section = section; kids = kids })) c
from_message s g t c = c

-- A group is set, initialised or cleared.
abbrev pub put_group : Schema → Verb → Shape → Edit
put_group s (set_to (message t)) g c = from_message s g (message_root t) c
put_group s verb g c = cleared g c

-- What a verb does to a field.
abbrev pub put_field : Schema → Verb → Body → Edit
put_field s verb (group_slot g) c = put_group s verb g c
put_field s verb body c = put_content body (slot_content s verb body) c

-- A struct put into an element is cut to the words and pointers that the element has.
abbrev pub put_in_element : ℕ → ℕ → Ty → Content → Edit
put_in_element words pointers (plain p) (bits_of n) c = put_bits 0 (width p) n c
put_in_element words pointers (struct id) (object (structure w section kids)) c = record { section = section % 2 ^ (64 * words); kids = resized pointers kids }
put_in_element words pointers ty (object t) c = put_child 0 t c
put_in_element words pointers ty content c = c

-- ---- on the way

-- A null pointer becomes its default, else the empty struct.
abbrev pub opened_tree : Ty → Tree → Tree → Tree
opened_tree ty d null = d
opened_tree ty d t = t

-- The change at a field that was found.
abbrev pub edit_target : (Option ℕ → Option ℕ → Body → Edit) → Option ℕ → Target → Edit
edit_target f union no_target c = c
edit_target f union (target member body) c = f union member body c

-- The change at the field of a name.
abbrev pub edit_named : (Option ℕ → Option ℕ → Body → Edit) → List ℕ → Option ℕ → Fields → Edit
edit_named f n union fs c = edit_target f union (target_of n fs) c

-- A change of a struct's data and children.
abbrev pub in_struct : ℕ → Edit → Tree → Tree
in_struct words f (structure w section kids) = let c = f (record { section = section; kids = kids }) in structure w c.section c.kids
in_struct words f t = t

-- A struct is widened to the schema's sizes.
abbrev pub edit_struct : (Option ℕ → Option ℕ → Body → Edit) → List ℕ → Shape → Tree → Tree
edit_struct f n (shape nid words pointers union fs) t = in_struct words (edit_named f n union fs) (widened words pointers t)

-- A list that stands on the path for structs becomes one of structs, with at least the schema's sizes.
abbrev pub elements_of_plain : ℕ → List ℕ → Elements
elements_of_plain p [] = no_elements
elements_of_plain p (x ∷ xs) = element x (resized p none) (elements_of_plain p xs)

-- Children as elements, each the first pointer of one.
abbrev pub elements_of_pointers : ℕ → Trees → Elements
elements_of_pointers p none = no_elements
elements_of_pointers p (t ▸ ts) = element 0 (padded_to p (t ▸ none)) (elements_of_pointers p ts)

-- Elements with at least n pointers.
abbrev pub padded_elements : ℕ → Elements → Elements
padded_elements p no_elements = no_elements
padded_elements p (element section kids es) = element section (padded_to p kids) (padded_elements p es)

-- The words that hold a plain element.
abbrev pub least_words : ℕ → ℕ
least_words zero = 0
least_words (suc size) = 1

-- A list as one of structs of at least the shape's sizes.
abbrev pub widened_list : Shape → Tree → Tree
widened_list (shape nid words pointers u fs) (plain_list size n section) = struct_list (max words (least_words size)) pointers (elements_of_plain pointers (plain_elements size n section))
widened_list (shape nid words pointers u fs) (pointer_list ts) = struct_list words (max pointers 1) (elements_of_pointers pointers ts)
widened_list (shape nid words pointers u fs) (struct_list w p es) = struct_list (max words w) (max pointers p) (padded_elements pointers es)
widened_list g t = t

-- A list on the path, widened where its type is of structs.
abbrev pub as_list : Schema → Ty → Tree → Tree
as_list s (struct id) t = widened_list (s.shape_of id) t
as_list s ty t = t

-- A change of a plain element, as a section of its own.
abbrev pub on_plain : Edit → ℕ → List ℕ → List ℕ
on_plain f k [] = []
on_plain f zero (x ∷ xs) = (f (record { section = x; kids = none })).section ∷ xs
on_plain f (suc k) (x ∷ xs) = x ∷ on_plain f k xs

-- A change of a child in a list, as an only child.
abbrev pub on_pointers : Edit → ℕ → Trees → Trees
on_pointers f k none = none
on_pointers f zero (t ▸ ts) = child (f (record { section = 0; kids = t ▸ none })).kids 0 ▸ ts
on_pointers f (suc k) (t ▸ ts) = t ▸ on_pointers f k ts

-- A change of an element of a list of structs.
abbrev pub on_elements : Edit → ℕ → Elements → Elements
on_elements f k no_elements = no_elements
on_elements f zero (element section kids es) = let c = f (record { section = section; kids = kids }) in element c.section c.kids es
on_elements f (suc k) (element section kids es) = element section kids (on_elements f k es)

-- The edit of an element takes the words and the pointers that the elements have.
abbrev pub edit_list : (ℕ → ℕ → Edit) → ℕ → Tree → Tree
edit_list f k (plain_list size n section) = plain_list size n (number_of (size_bits size) (on_plain (f 1 0) k (plain_elements size n section)))
edit_list f k (pointer_list ts) = pointer_list (on_pointers (f 0 1) k ts)
edit_list f k (struct_list w p es) = struct_list w p (on_elements (f w p) k es)
edit_list f k t = t

-- The change behind a step into a pointer's value.
abbrev pub edit_value : Schema → Step → (Option ℕ → Option ℕ → Body → Edit) → (Ty → ℕ → ℕ → Edit) → Ty → Tree → Tree
edit_value s (name n) f e (struct id) t = edit_struct f n (s.shape_of id) t
edit_value s (index k) f e (list ty) t = edit_list (e ty) k (as_list s ty t)
edit_value s step f e ty t = t

-- The change behind a step through a field.
abbrev pub edit_through : Schema → Step → (Option ℕ → Option ℕ → Body → Edit) → (Ty → ℕ → ℕ → Edit) → Body → Edit
edit_through s (name n) f e (group_slot (shape nid w p union fs)) c = edit_named f n union fs c
edit_through s step f e (pointer_slot i ty d) c = put_child i (edit_value s step f e ty (opened_tree ty (default_or_null d) (child c.kids i))) c
edit_through s step f e body c = c

-- The change behind a step through an element.
abbrev pub edit_through_element : Schema → Step → (Option ℕ → Option ℕ → Body → Edit) → (Ty → ℕ → ℕ → Edit) → Ty → Edit
edit_through_element s (name n) f e (struct id) c =
    elim (s.shape_of id) [ shape nid w p union fs ↦ edit_named f n union fs c ]
edit_through_element s step f e ty c = put_child 0 (edit_value s step f e ty (child c.kids 0)) c

unfoldable mutual
  -- The change of a field by the rest of a path.
  pub edit_field : Schema → List Step → Verb → Option ℕ → Option ℕ → Body → Edit
  edit_field s [] verb union member body c = put_field s verb body (mark union member c)
  edit_field s (st ∷ path) verb union member body c = edit_through s st (edit_field s path verb) (edit_element s path verb) body c

  -- The change of an element by the rest of a path; the words and pointers are those that elements have.
  pub edit_element : Schema → List Step → Verb → Ty → ℕ → ℕ → Edit
  edit_element s [] verb ty words pointers c = put_in_element words pointers ty (element_content s verb ty) c
  edit_element s (st ∷ path) verb ty words pointers c = edit_through_element s st (edit_field s path verb) (edit_element s path verb) ty c

-- The tree after a call that the record machine does not refuse.
abbrev pub write_path : Schema → Shape → List Step → Verb → Tree → Tree
write_path s g (name n ∷ path) verb t = edit_struct (edit_field s path verb) n g t
write_path s g _ verb t = t

-- The new tree, where the record machine does not refuse.
abbrev pub if_done : Outcome Record → Tree → Tree → Tree
if_done (done r) new old = new
if_done _ new old = old

-- The tree after a call.
unfoldable pub edit : Schema → ℕ → Call → Tree → Tree
edit s id call t = if_done (step s id call (record_of s id t)) (write_path s (s.shape_of id) call.path call.verb t) t
