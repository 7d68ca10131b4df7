-- Walks along the paths of calls.
use Rattle.std.proofs.Common.{◌≡◌, ℕ, Bool, true, false, Option, Some, None, is_some, List, [], ◌∷◌, refl, ◌∙◌, ap}
use Rattle.capnp_model.specs.Schemas.{id_of_shape, Ty, void, plain, text, blob, untyped, interface, struct, list, Value, Shape, Fields, pointer_slot, group_slot, Schema}
use Rattle.capnp_model.specs.Accepted.{slot_body}
use Rattle.capnp_model.specs.Printing.{fields_in}
use Rattle.capnp_model.specs.Steps.{Target, no_target, target, target_of}
use Rattle.capnp_model.specs.Calls.{Step, name, index, Verb as ModelVerb, get, set_to, init, initn, clear}
use Rattle.capnp_model.specs.Admitted.{is_group_write, is_set, is_struct_type, At, at_body, at_element, nowhere, is_admitted_end, into_fields, into_type, into_at, is_admitted_from}
use Rattle.capnp_calls.specs.CallViews.{verb_of}
use Rattle.capnp_model.specs.Partners.{Renaming, partner_name}
use Rattle.capnp_calls_versions.specs.Ways.{struct_id_in, element_in, writes_group, sets}

pub writes_verb : (w : ModelVerb) → writes_group (verb_of w) ≡ is_group_write w
writes_verb get = refl
writes_verb (set_to v) = refl
writes_verb init = refl
writes_verb (initn n) = refl
writes_verb clear = refl

pub sets_verb : (w : ModelVerb) → sets (verb_of w) ≡ is_set w
sets_verb get = refl
sets_verb (set_to v) = refl
sets_verb init = refl
sets_verb (initn n) = refl
sets_verb clear = refl

pub struct_type_is : (t : Ty) → is_struct_type t ≡ is_some (struct_id_in t)
struct_type_is void = refl
struct_type_is (plain p) = refl
struct_type_is text = refl
struct_type_is blob = refl
struct_type_is untyped = refl
struct_type_is interface = refl
struct_type_is (struct i) = refl
struct_type_is (list t) = refl

module _ (rs : List Renaming) (o n : Schema) where
  pub name_into_type : (l : List ℕ) (t u : Ty) (go : At → Bool) → into_type rs o n (name l) t u go
      ≡ elim (struct_id_in t) [ None ↦ true | Some i ↦ elim (struct_id_in u) as (λ (x : Option ℕ). Bool) [ None ↦ true | Some j ↦ into_fields rs (id_of_shape (o.shape_of i)) l (fields_in (o.shape_of i)) (fields_in (n.shape_of j)) go ] ]
  name_into_type l void void go = refl
  name_into_type l void (plain pb) go = refl
  name_into_type l void text go = refl
  name_into_type l void blob go = refl
  name_into_type l void untyped go = refl
  name_into_type l void interface go = refl
  name_into_type l void (struct ib) go = refl
  name_into_type l void (list tb) go = refl
  name_into_type l (plain p) void go = refl
  name_into_type l (plain p) (plain pb) go = refl
  name_into_type l (plain p) text go = refl
  name_into_type l (plain p) blob go = refl
  name_into_type l (plain p) untyped go = refl
  name_into_type l (plain p) interface go = refl
  name_into_type l (plain p) (struct ib) go = refl
  name_into_type l (plain p) (list tb) go = refl
  name_into_type l text void go = refl
  name_into_type l text (plain pb) go = refl
  name_into_type l text text go = refl
  name_into_type l text blob go = refl
  name_into_type l text untyped go = refl
  name_into_type l text interface go = refl
  name_into_type l text (struct ib) go = refl
  name_into_type l text (list tb) go = refl
  name_into_type l blob void go = refl
  name_into_type l blob (plain pb) go = refl
  name_into_type l blob text go = refl
  name_into_type l blob blob go = refl
  name_into_type l blob untyped go = refl
  name_into_type l blob interface go = refl
  name_into_type l blob (struct ib) go = refl
  name_into_type l blob (list tb) go = refl
  name_into_type l untyped void go = refl
  name_into_type l untyped (plain pb) go = refl
  name_into_type l untyped text go = refl
  name_into_type l untyped blob go = refl
  name_into_type l untyped untyped go = refl
  name_into_type l untyped interface go = refl
  name_into_type l untyped (struct ib) go = refl
  name_into_type l untyped (list tb) go = refl
  name_into_type l interface void go = refl
  name_into_type l interface (plain pb) go = refl
  name_into_type l interface text go = refl
  name_into_type l interface blob go = refl
  name_into_type l interface untyped go = refl
  name_into_type l interface interface go = refl
  name_into_type l interface (struct ib) go = refl
  name_into_type l interface (list tb) go = refl
  name_into_type l (struct i) void go = refl
  name_into_type l (struct i) (plain pb) go = refl
  name_into_type l (struct i) text go = refl
  name_into_type l (struct i) blob go = refl
  name_into_type l (struct i) untyped go = refl
  name_into_type l (struct i) interface go = refl
  name_into_type l (struct i) (struct ib) go = refl
  name_into_type l (struct i) (list tb) go = refl
  name_into_type l (list t) void go = refl
  name_into_type l (list t) (plain pb) go = refl
  name_into_type l (list t) text go = refl
  name_into_type l (list t) blob go = refl
  name_into_type l (list t) untyped go = refl
  name_into_type l (list t) interface go = refl
  name_into_type l (list t) (struct ib) go = refl
  name_into_type l (list t) (list tb) go = refl

  pub index_into_type : (k : ℕ) (t u : Ty) (go : At → Bool) → into_type rs o n (index k) t u go
      ≡ elim (element_in t) [ None ↦ true | Some a ↦ elim (element_in u) as (λ (x : Option Ty). Bool) [ None ↦ true | Some b ↦ go (at_element a b) ] ]
  index_into_type k void void go = refl
  index_into_type k void (plain pb) go = refl
  index_into_type k void text go = refl
  index_into_type k void blob go = refl
  index_into_type k void untyped go = refl
  index_into_type k void interface go = refl
  index_into_type k void (struct ib) go = refl
  index_into_type k void (list tb) go = refl
  index_into_type k (plain p) void go = refl
  index_into_type k (plain p) (plain pb) go = refl
  index_into_type k (plain p) text go = refl
  index_into_type k (plain p) blob go = refl
  index_into_type k (plain p) untyped go = refl
  index_into_type k (plain p) interface go = refl
  index_into_type k (plain p) (struct ib) go = refl
  index_into_type k (plain p) (list tb) go = refl
  index_into_type k text void go = refl
  index_into_type k text (plain pb) go = refl
  index_into_type k text text go = refl
  index_into_type k text blob go = refl
  index_into_type k text untyped go = refl
  index_into_type k text interface go = refl
  index_into_type k text (struct ib) go = refl
  index_into_type k text (list tb) go = refl
  index_into_type k blob void go = refl
  index_into_type k blob (plain pb) go = refl
  index_into_type k blob text go = refl
  index_into_type k blob blob go = refl
  index_into_type k blob untyped go = refl
  index_into_type k blob interface go = refl
  index_into_type k blob (struct ib) go = refl
  index_into_type k blob (list tb) go = refl
  index_into_type k untyped void go = refl
  index_into_type k untyped (plain pb) go = refl
  index_into_type k untyped text go = refl
  index_into_type k untyped blob go = refl
  index_into_type k untyped untyped go = refl
  index_into_type k untyped interface go = refl
  index_into_type k untyped (struct ib) go = refl
  index_into_type k untyped (list tb) go = refl
  index_into_type k interface void go = refl
  index_into_type k interface (plain pb) go = refl
  index_into_type k interface text go = refl
  index_into_type k interface blob go = refl
  index_into_type k interface untyped go = refl
  index_into_type k interface interface go = refl
  index_into_type k interface (struct ib) go = refl
  index_into_type k interface (list tb) go = refl
  index_into_type k (struct i) void go = refl
  index_into_type k (struct i) (plain pb) go = refl
  index_into_type k (struct i) text go = refl
  index_into_type k (struct i) blob go = refl
  index_into_type k (struct i) untyped go = refl
  index_into_type k (struct i) interface go = refl
  index_into_type k (struct i) (struct ib) go = refl
  index_into_type k (struct i) (list tb) go = refl
  index_into_type k (list t) void go = refl
  index_into_type k (list t) (plain pb) go = refl
  index_into_type k (list t) text go = refl
  index_into_type k (list t) blob go = refl
  index_into_type k (list t) untyped go = refl
  index_into_type k (list t) interface go = refl
  index_into_type k (list t) (struct ib) go = refl
  index_into_type k (list t) (list tb) go = refl

  -- slots are told by their types
  slots_end : (w : ModelVerb) (a b : ℕ) (t u : Ty) (d e : Option Value) → is_admitted_end rs w (at_body (slot_body a t d) (slot_body b u e)) ≡ true
  slots_end w a b void u d e = refl
  slots_end w a b (plain p) u d e = refl
  slots_end w a b text u d e = refl
  slots_end w a b blob u d e = refl
  slots_end w a b untyped u d e = refl
  slots_end w a b interface u d e = refl
  slots_end w a b (struct i) u d e = refl
  slots_end w a b (list t) u d e = refl

  slots_step : (st : Step) (a b : ℕ) (t u : Ty) (d e : Option Value) (go : At → Bool) → into_at rs o n st (at_body (slot_body a t d) (slot_body b u e)) go ≡ into_type rs o n st t u go
  slots_step (name l) a b void void d e go = refl
  slots_step (name l) a b void (plain pb) d e go = refl
  slots_step (name l) a b void text d e go = refl
  slots_step (name l) a b void blob d e go = refl
  slots_step (name l) a b void untyped d e go = refl
  slots_step (name l) a b void interface d e go = refl
  slots_step (name l) a b void (struct ib) d e go = refl
  slots_step (name l) a b void (list tb) d e go = refl
  slots_step (name l) a b (plain p) void d e go = refl
  slots_step (name l) a b (plain p) (plain pb) d e go = refl
  slots_step (name l) a b (plain p) text d e go = refl
  slots_step (name l) a b (plain p) blob d e go = refl
  slots_step (name l) a b (plain p) untyped d e go = refl
  slots_step (name l) a b (plain p) interface d e go = refl
  slots_step (name l) a b (plain p) (struct ib) d e go = refl
  slots_step (name l) a b (plain p) (list tb) d e go = refl
  slots_step (name l) a b text void d e go = refl
  slots_step (name l) a b text (plain pb) d e go = refl
  slots_step (name l) a b text text d e go = refl
  slots_step (name l) a b text blob d e go = refl
  slots_step (name l) a b text untyped d e go = refl
  slots_step (name l) a b text interface d e go = refl
  slots_step (name l) a b text (struct ib) d e go = refl
  slots_step (name l) a b text (list tb) d e go = refl
  slots_step (name l) a b blob void d e go = refl
  slots_step (name l) a b blob (plain pb) d e go = refl
  slots_step (name l) a b blob text d e go = refl
  slots_step (name l) a b blob blob d e go = refl
  slots_step (name l) a b blob untyped d e go = refl
  slots_step (name l) a b blob interface d e go = refl
  slots_step (name l) a b blob (struct ib) d e go = refl
  slots_step (name l) a b blob (list tb) d e go = refl
  slots_step (name l) a b untyped void d e go = refl
  slots_step (name l) a b untyped (plain pb) d e go = refl
  slots_step (name l) a b untyped text d e go = refl
  slots_step (name l) a b untyped blob d e go = refl
  slots_step (name l) a b untyped untyped d e go = refl
  slots_step (name l) a b untyped interface d e go = refl
  slots_step (name l) a b untyped (struct ib) d e go = refl
  slots_step (name l) a b untyped (list tb) d e go = refl
  slots_step (name l) a b interface void d e go = refl
  slots_step (name l) a b interface (plain pb) d e go = refl
  slots_step (name l) a b interface text d e go = refl
  slots_step (name l) a b interface blob d e go = refl
  slots_step (name l) a b interface untyped d e go = refl
  slots_step (name l) a b interface interface d e go = refl
  slots_step (name l) a b interface (struct ib) d e go = refl
  slots_step (name l) a b interface (list tb) d e go = refl
  slots_step (name l) a b (struct i) void d e go = refl
  slots_step (name l) a b (struct i) (plain pb) d e go = refl
  slots_step (name l) a b (struct i) text d e go = refl
  slots_step (name l) a b (struct i) blob d e go = refl
  slots_step (name l) a b (struct i) untyped d e go = refl
  slots_step (name l) a b (struct i) interface d e go = refl
  slots_step (name l) a b (struct i) (struct ib) d e go = refl
  slots_step (name l) a b (struct i) (list tb) d e go = refl
  slots_step (name l) a b (list t) void d e go = refl
  slots_step (name l) a b (list t) (plain pb) d e go = refl
  slots_step (name l) a b (list t) text d e go = refl
  slots_step (name l) a b (list t) blob d e go = refl
  slots_step (name l) a b (list t) untyped d e go = refl
  slots_step (name l) a b (list t) interface d e go = refl
  slots_step (name l) a b (list t) (struct ib) d e go = refl
  slots_step (name l) a b (list t) (list tb) d e go = refl
  slots_step (index k) a b void void d e go = refl
  slots_step (index k) a b void (plain pb) d e go = refl
  slots_step (index k) a b void text d e go = refl
  slots_step (index k) a b void blob d e go = refl
  slots_step (index k) a b void untyped d e go = refl
  slots_step (index k) a b void interface d e go = refl
  slots_step (index k) a b void (struct ib) d e go = refl
  slots_step (index k) a b void (list tb) d e go = refl
  slots_step (index k) a b (plain p) void d e go = refl
  slots_step (index k) a b (plain p) (plain pb) d e go = refl
  slots_step (index k) a b (plain p) text d e go = refl
  slots_step (index k) a b (plain p) blob d e go = refl
  slots_step (index k) a b (plain p) untyped d e go = refl
  slots_step (index k) a b (plain p) interface d e go = refl
  slots_step (index k) a b (plain p) (struct ib) d e go = refl
  slots_step (index k) a b (plain p) (list tb) d e go = refl
  slots_step (index k) a b text void d e go = refl
  slots_step (index k) a b text (plain pb) d e go = refl
  slots_step (index k) a b text text d e go = refl
  slots_step (index k) a b text blob d e go = refl
  slots_step (index k) a b text untyped d e go = refl
  slots_step (index k) a b text interface d e go = refl
  slots_step (index k) a b text (struct ib) d e go = refl
  slots_step (index k) a b text (list tb) d e go = refl
  slots_step (index k) a b blob void d e go = refl
  slots_step (index k) a b blob (plain pb) d e go = refl
  slots_step (index k) a b blob text d e go = refl
  slots_step (index k) a b blob blob d e go = refl
  slots_step (index k) a b blob untyped d e go = refl
  slots_step (index k) a b blob interface d e go = refl
  slots_step (index k) a b blob (struct ib) d e go = refl
  slots_step (index k) a b blob (list tb) d e go = refl
  slots_step (index k) a b untyped void d e go = refl
  slots_step (index k) a b untyped (plain pb) d e go = refl
  slots_step (index k) a b untyped text d e go = refl
  slots_step (index k) a b untyped blob d e go = refl
  slots_step (index k) a b untyped untyped d e go = refl
  slots_step (index k) a b untyped interface d e go = refl
  slots_step (index k) a b untyped (struct ib) d e go = refl
  slots_step (index k) a b untyped (list tb) d e go = refl
  slots_step (index k) a b interface void d e go = refl
  slots_step (index k) a b interface (plain pb) d e go = refl
  slots_step (index k) a b interface text d e go = refl
  slots_step (index k) a b interface blob d e go = refl
  slots_step (index k) a b interface untyped d e go = refl
  slots_step (index k) a b interface interface d e go = refl
  slots_step (index k) a b interface (struct ib) d e go = refl
  slots_step (index k) a b interface (list tb) d e go = refl
  slots_step (index k) a b (struct i) void d e go = refl
  slots_step (index k) a b (struct i) (plain pb) d e go = refl
  slots_step (index k) a b (struct i) text d e go = refl
  slots_step (index k) a b (struct i) blob d e go = refl
  slots_step (index k) a b (struct i) untyped d e go = refl
  slots_step (index k) a b (struct i) interface d e go = refl
  slots_step (index k) a b (struct i) (struct ib) d e go = refl
  slots_step (index k) a b (struct i) (list tb) d e go = refl
  slots_step (index k) a b (list t) void d e go = refl
  slots_step (index k) a b (list t) (plain pb) d e go = refl
  slots_step (index k) a b (list t) text d e go = refl
  slots_step (index k) a b (list t) blob d e go = refl
  slots_step (index k) a b (list t) untyped d e go = refl
  slots_step (index k) a b (list t) interface d e go = refl
  slots_step (index k) a b (list t) (struct ib) d e go = refl
  slots_step (index k) a b (list t) (list tb) d e go = refl

  pub slots_go : (path : List Step) (w : ModelVerb) (a b : ℕ) (t u : Ty) (d e : Option Value) → is_admitted_from rs o n path w (at_body (slot_body a t d) (slot_body b u e)) ≡ is_admitted_from rs o n path w (at_body (pointer_slot 0 t None) (pointer_slot 0 u None))
  unfolding is_admitted_from
  slots_go [] w a b t u d e = slots_end w a b t u d e
  slots_go ((name l) ∷ path) w a b t u d e = slots_step (name l) a b t u d e (is_admitted_from rs o n path w)
  slots_go ((index k) ∷ path) w a b t u d e = slots_step (index k) a b t u d e (is_admitted_from rs o n path w)

  pub slot_group_go : (path : List Step) (w : ModelVerb) (a : ℕ) (t : Ty) (d : Option Value) (g : Shape) → is_admitted_from rs o n path w (at_body (slot_body a t d) (group_slot g)) ≡ is_admitted_from rs o n path w nowhere
  unfolding is_admitted_from
  slot_group_go [] w a void d g = refl
  slot_group_go [] w a (plain p) d g = refl
  slot_group_go [] w a text d g = refl
  slot_group_go [] w a blob d g = refl
  slot_group_go [] w a untyped d g = refl
  slot_group_go [] w a interface d g = refl
  slot_group_go [] w a (struct i) d g = refl
  slot_group_go [] w a (list t) d g = refl
  slot_group_go ((name l) ∷ path) w a void d g = refl
  slot_group_go ((index j) ∷ path) w a void d g = refl
  slot_group_go ((name l) ∷ path) w a (plain p) d g = refl
  slot_group_go ((index j) ∷ path) w a (plain p) d g = refl
  slot_group_go ((name l) ∷ path) w a text d g = refl
  slot_group_go ((index j) ∷ path) w a text d g = refl
  slot_group_go ((name l) ∷ path) w a blob d g = refl
  slot_group_go ((index j) ∷ path) w a blob d g = refl
  slot_group_go ((name l) ∷ path) w a untyped d g = refl
  slot_group_go ((index j) ∷ path) w a untyped d g = refl
  slot_group_go ((name l) ∷ path) w a interface d g = refl
  slot_group_go ((index j) ∷ path) w a interface d g = refl
  slot_group_go ((name l) ∷ path) w a (struct i) d g = refl
  slot_group_go ((index j) ∷ path) w a (struct i) d g = refl
  slot_group_go ((name l) ∷ path) w a (list t) d g = refl
  slot_group_go ((index j) ∷ path) w a (list t) d g = refl

  pub group_slot_go : (path : List Step) (w : ModelVerb) (g : Shape) (b : ℕ) (u : Ty) (e : Option Value) → is_admitted_from rs o n path w (at_body (group_slot g) (slot_body b u e)) ≡ is_admitted_from rs o n path w nowhere
  unfolding is_admitted_from
  group_slot_go [] w g b void e = refl
  group_slot_go [] w g b (plain p) e = refl
  group_slot_go [] w g b text e = refl
  group_slot_go [] w g b blob e = refl
  group_slot_go [] w g b untyped e = refl
  group_slot_go [] w g b interface e = refl
  group_slot_go [] w g b (struct i) e = refl
  group_slot_go [] w g b (list t) e = refl
  group_slot_go ((name l) ∷ path) w g b void e = refl
  group_slot_go ((index j) ∷ path) w g b void e = refl
  group_slot_go ((name l) ∷ path) w g b (plain p) e = refl
  group_slot_go ((index j) ∷ path) w g b (plain p) e = refl
  group_slot_go ((name l) ∷ path) w g b text e = refl
  group_slot_go ((index j) ∷ path) w g b text e = refl
  group_slot_go ((name l) ∷ path) w g b blob e = refl
  group_slot_go ((index j) ∷ path) w g b blob e = refl
  group_slot_go ((name l) ∷ path) w g b untyped e = refl
  group_slot_go ((index j) ∷ path) w g b untyped e = refl
  group_slot_go ((name l) ∷ path) w g b interface e = refl
  group_slot_go ((index j) ∷ path) w g b interface e = refl
  group_slot_go ((name l) ∷ path) w g b (struct i) e = refl
  group_slot_go ((index j) ∷ path) w g b (struct i) e = refl
  group_slot_go ((name l) ∷ path) w g b (list t) e = refl
  group_slot_go ((index j) ∷ path) w g b (list t) e = refl

  pub one_step : (st : Step) (path : List Step) (w : ModelVerb) (a : At) → is_admitted_from rs o n (st ∷ path) w a ≡ into_at rs o n st a (is_admitted_from rs o n path w)
  unfolding is_admitted_from
  one_step st path w a = refl

  pub no_step : (w : ModelVerb) (a : At) → is_admitted_from rs o n [] w a ≡ is_admitted_end rs w a
  unfolding is_admitted_from
  no_step w a = refl

  -- a name, by what it finds in both versions
  pub into_found : (id : ℕ) (l : List ℕ) (fs fs' : Fields) (go : At → Bool) (s t : Target) → target_of l fs ≡ s → target_of (partner_name rs id l) fs' ≡ t
      → into_fields rs id l fs fs' go ≡ elim s [ no_target ↦ false | target m b ↦ elim t as (λ (x : Target). Bool) [ no_target ↦ go nowhere | target m' b' ↦ go (at_body b b') ] ]
  into_found id l fs fs' go s t h k = ap (λ (x : Target). elim x as (λ (y : Target). Bool) [ no_target ↦ false | target m b ↦ elim (target_of (partner_name rs id l) fs') as (λ (z : Target). Bool) [ no_target ↦ go nowhere | target m' b' ↦ go (at_body b b') ] ]) h
      ∙ ap (λ (x : Target). elim s as (λ (y : Target). Bool) [ no_target ↦ false | target m b ↦ elim x as (λ (z : Target). Bool) [ no_target ↦ go nowhere | target m' b' ↦ go (at_body b b') ] ]) k
