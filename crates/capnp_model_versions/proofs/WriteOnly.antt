-- A `get` writes nothing, and no other verb shows anything.
use Rattle.std.proofs.Common.{ℕ, zero, suc, Bool, true, false, List, [], ◌∷◌, Option, Some, None}
use Rattle.capnp_model.specs.Trees.{Tree}
use Rattle.capnp_model.specs.Schemas.{Ty, struct, list, Shape, Fields, Body, void_slot, plain_slot, pointer_slot, group_slot, Schema, default_or_null}
use Rattle.capnp_model.specs.Readings.{Reading, inactive, null_pointer, fault, number, text_of, blob_of, list_of, record_as, opaque, Readings, no_readings, ◌▹◌, Record, record_by_shape}
use Rattle.capnp_model.specs.Printing.{As, fields_in}
use Rattle.capnp_model.specs.Calls.{Step, name, index, CallValue, message, message_root, Verb, get, set_to, init, initn, clear, Content, refused_by, bits_of, object, slot_content, element_content}
use Rattle.capnp_model.specs.Groups.{group_fault}
use Rattle.capnp_model.specs.Kinds.{Kind}
use Rattle.capnp_model.specs.Trees.{null, capability, structure, plain_list, pointer_list, struct_list}
use Rattle.capnp_model.specs.Steps.{Outcome, refused, shown, done, outcome_map, Target, no_target, target, target_of, at_target, on_index, got, reading_after, slot_type, copied_or_refused, set_group_from, set_group, at_field, at_element, opened, through_value, through_field, step_field, step_element, step_path}
use Rattle.capnp_model_versions.specs.SameReplies.{IsWrite}

-- it is done, or it is shown
abbrev pub Sees : {A : Type 0} → Bool → Outcome A → Type 0
Sees b (refused k) = ⊥
Sees true (shown how r) = ⊥
Sees true (done x) = Unit {0}
Sees false (shown how r) = Unit {0}
Sees false (done x) = ⊥

sees_map : {A B : Type 0} (b : Bool) (f : A → B) (o : Outcome A) → Sees b (outcome_map f o) → Sees b o
sees_map b f (refused k) h = h
sees_map true f (shown how r) h = h
sees_map false f (shown how r) h = h
sees_map true f (done x) h = h
sees_map false f (done x) h = h

-- a verb of which the outcome is not seen: a `get` is not done, another is not shown
abbrev pub IsOther : Bool → Verb → Type 0
IsOther true get = Unit {0}
IsOther true verb = ⊥
IsOther false verb = IsWrite verb

got_not_done : (how : As) (r : Reading) → Sees true (got how r) → ⊥
got_not_done how inactive h = h
got_not_done how null_pointer h = h
got_not_done how (fault k) h = h
got_not_done how (number k) h = h
got_not_done how (text_of k) h = h
got_not_done how (blob_of k) h = h
got_not_done how (list_of k) h = h
got_not_done how (record_as k) h = h
got_not_done how (opaque k) h = h

content_not_shown : (s : Schema) (ty : Ty) (x : Content) → Sees false (reading_after s ty x) → ⊥
content_not_shown s ty (refused_by k) h = h
content_not_shown s ty (bits_of m) h = h
content_not_shown s ty (object t) h = h

copied_not_shown : (s : Schema) (g : Shape) (r : Record) (k : Option Kind) → Sees false (copied_or_refused s g r k) → ⊥
copied_not_shown s g r None h = h
copied_not_shown s g r (Some k) h = h

from_not_shown : (s : Schema) (g : Shape) (t : Tree) → Sees false (set_group_from s g t) → ⊥
from_not_shown s g (structure w m ts) h = copied_not_shown s g (record_by_shape s g (structure w m ts)) (group_fault g (record_by_shape s g (structure w m ts))) h
from_not_shown s g null h = h
from_not_shown s g (capability i) h = h
from_not_shown s g (plain_list z m x) h = h
from_not_shown s g (pointer_list ts) h = h
from_not_shown s g (struct_list w p es) h = h

group_not_shown : (s : Schema) (g : Shape) (v : CallValue) → Sees false (set_group s g v) → ⊥
group_not_shown s g (message t) h = from_not_shown s g (message_root t) h
group_not_shown s g v h = h

field_not_shown : (s : Schema) (verb : Verb) (b : Body) (r : Reading) → IsWrite verb → Sees false (at_field s verb b r) → ⊥
field_not_shown s get b r w h = w
field_not_shown s init (group_slot g) r w h = h
field_not_shown s clear (group_slot g) r w h = h
field_not_shown s (initn k) (group_slot g) r w h = h
field_not_shown s (set_to v) (group_slot g) r w h = group_not_shown s g v h
field_not_shown s verb (void_slot j) r w h = content_not_shown s (slot_type (void_slot j)) (slot_content s verb (void_slot j)) h
field_not_shown s verb (plain_slot p at d) r w h = content_not_shown s (slot_type (plain_slot p at d)) (slot_content s verb (plain_slot p at d)) h
field_not_shown s verb (pointer_slot i ty d) r w h = content_not_shown s (slot_type (pointer_slot i ty d)) (slot_content s verb (pointer_slot i ty d)) h

element_not_shown : (s : Schema) (verb : Verb) (ty : Ty) (r : Reading) → IsWrite verb → Sees false (at_element s verb ty r) → ⊥
element_not_shown s get ty r w h = w
element_not_shown s verb ty r w h = content_not_shown s ty (element_content s verb ty) h

field_end : (s : Schema) (x : Bool) (verb : Verb) (b : Body) (r : Reading) → IsOther x verb → Sees x (at_field s verb b r) → ⊥
field_end s true get b r w h = got_not_done _ r h
field_end s true (set_to v) b r w h = w
field_end s true init b r w h = w
field_end s true (initn k) b r w h = w
field_end s true clear b r w h = w
field_end s false verb b r w h = field_not_shown s verb b r w h

element_end : (s : Schema) (x : Bool) (verb : Verb) (ty : Ty) (r : Reading) → IsOther x verb → Sees x (at_element s verb ty r) → ⊥
element_end s true get ty r w h = got_not_done _ r h
element_end s true (set_to v) ty r w h = w
element_end s true init ty r w h = w
element_end s true (initn k) ty r w h = w
element_end s true clear ty r w h = w
element_end s false verb ty r w h = element_not_shown s verb ty r w h

-- ---- along a path

module _ (s : Schema) (x : Bool) (f : Body → Reading → Outcome Reading) (e : Ty → Reading → Outcome Reading) (no_field : (b : Body) (r : Reading) → Sees x (f b r) → ⊥) (no_element : (ty : Ty) (r : Reading) → Sees x (e ty r) → ⊥) where
  by_target : (l : List ℕ) (fs : Fields) (r : Record) (t : Target) → Sees x (at_target f l fs r t) → ⊥
  by_target l fs r no_target h = h
  by_target l fs r (target m b) h = no_field b _ (sees_map x _ _ h)

  by_index : (ty : Ty) (k : ℕ) (rs : Readings) → Sees x (on_index (e ty) k rs) → ⊥
  by_index ty zero no_readings h = h
  by_index ty (suc k) no_readings h = h
  by_index ty zero (r ▹ rs) h = no_element ty r (sees_map x _ _ h)
  by_index ty (suc k) (r ▹ rs) h = by_index ty k rs (sees_map x _ _ h)

  by_value : (st : Step) (ty : Ty) (r : Reading) → Sees x (through_value s st f e ty r) → ⊥
  by_value (name l) (struct id) (record_as r) h = by_target l (fields_in (s.shape_of id)) r (target_of l (fields_in (s.shape_of id))) (sees_map x _ _ h)
  by_value (index k) (list ty) (list_of rs) h = by_index ty k rs (sees_map x _ _ h)
  by_value (name l) ty (fault k) h = h
  by_value (index k) ty (fault j) h = h
  by_value (name l) ty r h = h
  by_value (index k) ty r h = h

  by_field : (st : Step) (b : Body) (r : Reading) → Sees x (through_field s st f e b r) → ⊥
  by_field (name l) b inactive h = h
  by_field (index k) b inactive h = h
  by_field (name l) (group_slot g) (record_as r) h = by_target l (fields_in g) r (target_of l (fields_in g)) (sees_map x _ _ h)
  by_field (name l) (pointer_slot i ty d) r h = by_value (name l) ty (opened s ty (default_or_null d) r) h
  by_field (index k) (pointer_slot i ty d) r h = by_value (index k) ty (opened s ty (default_or_null d) r) h
  by_field (name l) b r h = h
  by_field (index k) b r h = h

module _ (s : Schema) (x : Bool) (verb : Verb) (other : IsOther x verb) where
  mutual
    unfolding step_field step_element

    no_field : (path : List Step) (b : Body) (r : Reading) → Sees x (step_field s path verb b r) → ⊥
    no_field [] b r h = field_end s x verb b r other h
    no_field (st ∷ path) b r h = by_field s x (step_field s path verb) (step_element s path verb) (no_field path) (no_element path) st b r h

    no_element : (path : List Step) (ty : Ty) (r : Reading) → Sees x (step_element s path verb ty r) → ⊥
    no_element [] ty r h = element_end s x verb ty r other h
    no_element (st ∷ path) ty r h = by_value s x (step_field s path verb) (step_element s path verb) (no_field path) (no_element path) st ty _ h

  pub not-seen : (fs : Fields) (path : List Step) (r : Record) → Sees x (step_path s fs path verb r) → ⊥
  not-seen fs [] r h = h
  not-seen fs (index k ∷ path) r h = h
  not-seen fs (name l ∷ path) r h = by_target s x (step_field s path verb) (step_element s path verb) (no_field path) (no_element path) l fs r (target_of l fs) h
