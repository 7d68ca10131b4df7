-- What is claimed of the list behind a pointer: where the call is done, it has the element, which is there under its type.
use Rattle.std.proofs.Common.{◌≡◌, ℕ, zero, suc, ◌+◌, ◌*◌, ◌<◌, ◌≤◌, nat_le, true, List, [], ◌∷◌, length, Option, Some, None, Result, Ok, Err, IfErr, refl, sym, subst, ap, ◌∙◌, arith}
use Rattle.std.specs.Prelude.{IsOk}
use Rattle.std.proofs.lemmas.Bool.{le-leb}
use Rattle.capnp_model.specs.Kinds.{WrongElementSize}
use Rattle.capnp_model.specs.Segments.{Segments}
use Rattle.capnp_model.specs.Pointers.{Found}
use Rattle.capnp_model.specs.Trees.{Tree, null, capability, structure, plain_list, pointer_list, struct_list, Trees, none, ◌▸◌, tree_count, Elements, no_elements, element, element_count, size_bits, plain_elements}
use Rattle.capnp_model.specs.Schemas.{Ty, void, plain, text, blob, untyped, interface, struct, list, Shape, shape, Schema}
use Rattle.capnp_model.specs.Readings.{Reading, read, list_reading, is_list_of, is_accepted_as, expected_size, plain_readings, pointer_elements, struct_elements}
use Rattle.capnp_model.specs.Calls.{Step, index, Verb}
use Rattle.capnp_model.specs.Steps.{Outcome, on_index, or_empty, step_field, step_element, through_value}
use Rattle.capnp_model.specs.Edits.{opened_tree, elements_of_plain, elements_of_pointers, padded_elements, widened_list, as_list}
use Rattle.capnp_model.proofs.lemmas.Chaining.{guard_ok, ok_is, bind_ok}
use Rattle.capnp_model.proofs.lemmas.Depth.{tree_at_more}
use Rattle.capnp_model.proofs.lemmas.Numbers.{length-numbers_in}
use Rattle.capnp_model.proofs.lemmas.Tests.{both}
use Rattle.capnp_wire_objects.specs.Objects.{object_at}
use Rattle.capnp_wire_objects.specs.declared.object.Object.{Object}
use Rattle.capnp_wire_objects.specs.declared.object.Object.TheVariants as object
use Rattle.capnp_wire_objects.specs.declared.place.Place as code
use Rattle.capnp_units.specs.declared.errors.Error.{Error}
use Rattle.capnp_units.specs.declared.sizes.ElementSize.{ElementSize}
use Rattle.capnp_units.specs.declared.sizes.ElementSize.TheVariants.{Pointer, InlineComposite}
use Rattle.capnp_units.specs.Segments.{words_in}
use Rattle.capnp_units.specs.Sizes.{size_number}
use Rattle.capnp_wire.specs.Laws.{ListsAreRead}
use Rattle.capnp_wire_objects.specs.Places.{place_view, seen}
use Rattle.capnp_wire.specs.Reads.{list_head}
use Rattle.capnp_model_writes.specs.Footprints.{Owns, OwnsObject}
use Rattle.capnp_model_writes.proofs.lemmas.Lift.{object_of_pointer, replaced_owned}
use Rattle.capnp_model_writes.proofs.lemmas.Levels.{owned_more}
use Rattle.capnp_copy_arenas.specs.Lists.{object_of_list}
use Rattle.capnp_copy_arenas.specs.States.{ArenaState}
use Rattle.capnp_copy_arenas.specs.declared.init.ListPlace.{ListPlace}
use Rattle.capnp_copy_widening.specs.Got.{list_place_in, list_named}
use Rattle.capnp_copy_widening.specs.declared.lists.Taker.TheVariants as taker
use Rattle.capnp_copy_widening.specs.WidenedLists.{list_there}
use Rattle.capnp_layout_builders.specs.Gets.{Begun, Gets}
use Rattle.capnp_values_queries.specs.Types.{ty_of}
use Rattle.capnp_values_queries.specs.declared.introspect.«Type».{«Type» as SchemaType}
use Rattle.capnp_schema_structs.specs.Inits.{struct_named}
use Rattle.capnp_schema_lists.specs.Lists.{IsListOf, HasSizes}
use Rattle.capnp_schema_lists.specs.Elements.{Holds, HoldsStructs}
use Rattle.capnp_schema_lists.proofs.lemmas.Accepted.{expected_holds}
use Rattle.capnp_calls.specs.Sizes.{IsDone}
use Rattle.capnp_calls_edits.specs.Written.{HoldsDefaultOrNull, WhereValueDone, WhereRead, HasNoFault, value_outcome}
use Rattle.capnp_calls_edits.specs.Elements.{list_count, ListBehind, WhereElementDone}
use Rattle.capnp_calls_edits.proofs.Begun.{begun_opened}
use Rattle.capnp_calls_edits.proofs.ClaimsBehind.{begun_there}
use Rattle.capnp_calls_edits.proofs.ListSteps.{listed, defaulted, element_done}
use Rattle.capnp_calls_edits.proofs.ThereObjects.{named_count, named_there}
use Rattle.capnp_calls_edits.proofs.lemmas.Outcomes.{unmapped}

-- ---- lists as they are got

some_le : (k : ℕ) → nat_le 0 k ≡ true
some_le k = le-leb 0 k (omega arith)

-- a list of structs is one of any struct's
wide_sound : (s : Schema) (id w p : ℕ) (es : Elements) → HasNoFault (read s (struct_list w p es) (list (struct id)))
unfolding read
wide_sound s id w p es = subst (λ b. HasNoFault (list_reading b (struct_elements s es (struct id)))) (sym (both (nat_le 0 (64 * w)) (nat_le 0 p) (some_le (64 * w)) (some_le p))) tt

-- a list that can be read can be read once it is widened
pub as_list_sound : (s : Schema) (ty : Ty) (t : Tree) → HasNoFault (read s t (list ty)) → HasNoFault (read s (as_list s ty t) (list ty))
as_list_sound s void t h = h
as_list_sound s (plain p) t h = h
as_list_sound s text t h = h
as_list_sound s blob t h = h
as_list_sound s untyped t h = h
as_list_sound s interface t h = h
as_list_sound s (list e) t h = h
as_list_sound s (struct id) t h = by (s.shape_of id) t h
  where
    by : (g : Shape) (t : Tree) → HasNoFault (read s t (list (struct id))) → HasNoFault (read s (widened_list g t) (list (struct id)))
    by (shape nid w p u fs) null h = h
    by (shape nid w p u fs) (capability i) h = h
    by (shape nid w p u fs) (structure a x ts) h = h
    by (shape nid w p u fs) (plain_list size n x) h = wide_sound s id _ _ _
    by (shape nid w p u fs) (pointer_list ts) h = wide_sound s id _ _ _
    by (shape nid w p u fs) (struct_list a b es) h = wide_sound s id _ _ _

wide_plain : (p : ℕ) (xs : List ℕ) → element_count (elements_of_plain p xs) ≡ length xs
wide_plain p [] = refl
wide_plain p (x ∷ xs) = ap (λ n. suc n) (wide_plain p xs)

wide_pointers : (p : ℕ) (ts : Trees) → element_count (elements_of_pointers p ts) ≡ tree_count ts
wide_pointers p none = refl
wide_pointers p (t ▸ ts) = ap (λ n. suc n) (wide_pointers p ts)

wide_structs : (p : ℕ) (es : Elements) → element_count (padded_elements p es) ≡ element_count es
wide_structs p no_elements = refl
wide_structs p (element x ts es) = ap (λ n. suc n) (wide_structs p es)

as_many : (s : Schema) (ty : Ty) (t : Tree) → list_count (as_list s ty t) ≡ list_count t
as_many s void t = refl
as_many s (plain p) t = refl
as_many s text t = refl
as_many s blob t = refl
as_many s untyped t = refl
as_many s interface t = refl
as_many s (list e) t = refl
as_many s (struct id) t = by (s.shape_of id) t
  where
    by : (g : Shape) (t : Tree) → list_count (widened_list g t) ≡ list_count t
    by (shape nid w p u fs) null = refl
    by (shape nid w p u fs) (capability i) = refl
    by (shape nid w p u fs) (structure a x ts) = refl
    by (shape nid w p u fs) (plain_list size n x) = wide_plain p (plain_elements size n x) ∙ length-numbers_in (size_bits size) n x
    by (shape nid w p u fs) (pointer_list ts) = wide_pointers p ts
    by (shape nid w p u fs) (struct_list a b es) = wide_structs p es

-- ---- the element is there

module _ (s : Schema) (ty : Ty) (rest : List Step) (verb : Verb) where
  abbrev f : Reading → Outcome Reading
  f = step_element s rest verb ty

  in_plain : (size k : ℕ) (xs : List ℕ) → IsDone (on_index f k (plain_readings s size xs ty)) → k < length xs
  in_plain size zero [] h = absurd h
  in_plain size (suc k) [] h = absurd h
  in_plain size zero (x ∷ xs) h = omega arith
  in_plain size (suc k) (x ∷ xs) h = let l = in_plain size k xs (unmapped _ _ h) in omega (arith, l)

  in_pointers : (k : ℕ) (ts : Trees) → IsDone (on_index f k (pointer_elements s ts ty)) → k < tree_count ts
  unfolding read
  in_pointers zero none h = absurd h
  in_pointers (suc k) none h = absurd h
  in_pointers zero (t ▸ ts) h = omega arith
  in_pointers (suc k) (t ▸ ts) h = let l = in_pointers k ts (unmapped _ _ h) in omega (arith, l)

  in_structs : (k : ℕ) (es : Elements) → IsDone (on_index f k (struct_elements s es ty)) → k < element_count es
  unfolding read
  in_structs zero no_elements h = absurd h
  in_structs (suc k) no_elements h = absurd h
  in_structs zero (element x ts es) h = omega arith
  in_structs (suc k) (element x ts es) h = let l = in_structs k es (unmapped _ _ h) in omega (arith, l)

  in_numbers : (size n x k : ℕ) → IsDone (on_index f k (plain_readings s (size_bits size) (plain_elements size n x) ty)) → k < n
  in_numbers size n x k h =
      let l = in_plain (size_bits size) k (plain_elements size n x) h in
      let e = length-numbers_in (size_bits size) n x in
      subst (λ j. k < j) e l

  in_default : (d : Tree) (k : ℕ) → IsDone (through_value s (index k) (step_field s rest verb) (step_element s rest verb) (list ty) (or_empty s (list ty) (read s d (list ty)))) → k < list_count d
  unfolding read
  in_default null zero h = absurd h
  in_default null (suc k) h = absurd h
  in_default (capability i) k h = absurd h
  in_default (structure w x ts) k h = absurd h
  in_default (plain_list size n x) k h = in_numbers size n x k (defaulted s ty rest verb k (is_list_of (plain_list size n x) ty) _ h)
  in_default (pointer_list ts) k h = in_pointers k ts (defaulted s ty rest verb k (is_list_of (pointer_list ts) ty) _ h)
  in_default (struct_list w p es) k h = in_structs k es (defaulted s ty rest verb k (is_list_of (struct_list w p es) ty) _ h)

  -- where the steps into the value are done, the list has the element
  pub in_list : (d t : Tree) (k : ℕ) → IsDone (value_outcome (record { around = s; ty = list ty; default = d }) (index k ∷ rest) verb t) → k < list_count (opened_tree (list ty) d t)
  unfolding read
  in_list d null k h = in_default d k h
  in_list d (capability i) k h = absurd h
  in_list d (structure w x ts) k h = absurd h
  in_list d (plain_list size n x) k h = in_numbers size n x k (listed s ty rest verb d k (is_list_of (plain_list size n x) ty) _ h)
  in_list d (pointer_list ts) k h = in_pointers k ts (listed s ty rest verb d k (is_list_of (pointer_list ts) ty) _ h)
  in_list d (struct_list w p es) k h = in_structs k es (listed s ty rest verb d k (is_list_of (struct_list w p es) ty) _ h)

-- ---- under its type

structs_hold : (g : Shape) (t : Tree) (o : ListPlace) → IsListOf o (widened_list g t) → HasSizes o g
structs_hold (shape nid w p u fs) null o h = absurd h
structs_hold (shape nid w p u fs) (capability i) o h = absurd h
structs_hold (shape nid w p u fs) (structure a x ts) o h = absurd h
structs_hold (shape nid w p u fs) (plain_list size n x) o h = let a = h.1 in let b = h.2 in record { structs = h.0; words = omega (arith, a); pointers = omega (arith, b) }
structs_hold (shape nid w p u fs) (pointer_list ts) o h = let a = h.1 in let b = h.2 in record { structs = h.0; words = omega (arith, a); pointers = omega (arith, b) }
structs_hold (shape nid w p u fs) (struct_list c e es) o h = let a = h.1 in let b = h.2 in record { structs = h.0; words = omega (arith, a); pointers = omega (arith, b) }

holds_all : (around : Schema) (o : ListPlace) (ty : Ty) → (struct_named ty ≡ None → Holds o ty) → ((id : ℕ) → ty ≡ struct id → HasSizes o (around.shape_of id)) → Holds o ty × HoldsStructs around o ty
holds_all around o void f g = (tt, tt)
holds_all around o (plain p) f g = (f refl, tt)
holds_all around o text f g = (f refl, tt)
holds_all around o blob f g = (f refl, tt)
holds_all around o untyped f g = (f refl, tt)
holds_all around o interface f g = (f refl, tt)
holds_all around o (struct id) f g = (tt, g id refl)
holds_all around o (list e) f g = (f refl, tt)

-- ---- the list that is got

accepted_of : (slot : code.Place) (expected : ElementSize) (f : Object) (o : ListPlace) → list_place_in taker.Reader slot expected f ≡ Ok o → 0 < o.count → is_accepted_as (size_number expected) (list_head o.size o.data_words o.pointers) ≡ true
accepted_of slot expected object.Null o e some = absurd (let none = ap (λ (x : ListPlace). x.count) (ok_is _ _ e) in omega (arith, none, some))
accepted_of slot expected (object.List p size n) o e some =
    let a = guard_ok (is_accepted_as (size_number expected) (list_head size 0 0)) WrongElementSize _ o e in
    subst (λ (x : ListPlace). is_accepted_as (size_number expected) (list_head x.size x.data_words x.pointers) ≡ true) (ok_is _ _ a.1) a.0
accepted_of slot expected (object.PointerList p n) o e some =
    let a = guard_ok (is_accepted_as (size_number expected) (list_head Pointer 0 0)) WrongElementSize _ o e in
    subst (λ (x : ListPlace). is_accepted_as (size_number expected) (list_head x.size x.data_words x.pointers) ≡ true) (ok_is _ _ a.1) a.0
accepted_of slot expected (object.StructList p words n d k) o e some =
    let a = guard_ok (is_accepted_as (size_number expected) (list_head InlineComposite d k)) WrongElementSize _ o e in
    subst (λ (x : ListPlace). is_accepted_as (size_number expected) (list_head x.size x.data_words x.pointers) ≡ true) (ok_is _ _ a.1) a.0
accepted_of slot expected (object.Struct p d k) o e some = absurd (cc e)
accepted_of slot expected (object.Capability i) o e some = absurd (cc e)

pub named_accepted : (s : Segments) (slot : code.Place) (expected : ElementSize) (ty : Ty) (o : ListPlace) → size_number expected ≡ expected_size ty → list_named taker.Reader s slot expected ≡ Ok o → 0 < o.count → is_accepted_as (expected_size ty) (list_head o.size o.data_words o.pointers) ≡ true
named_accepted s slot expected ty o same e some =
    let a = bind_ok (object_at s (place_view slot)) _ o e in
    subst (λ j. is_accepted_as j (list_head o.size o.data_words o.pointers) ≡ true) same (accepted_of slot expected a.0.object o a.2 some)

pub owned_count : ListsAreRead → (s : Segments) (slot : code.Place) (expected : ElementSize) (o : ListPlace) → list_named taker.Reader s slot expected ≡ Ok o → (n : ℕ) (t : Tree) → Owns n s (place_view slot) t → o.count ≡ list_count t
owned_count law s slot expected o e n t own = named_count law n s slot expected t (tree_at_more n (suc n) s (place_view slot) t (omega arith) own.means) o e

-- ---- why none is got

struct_is : (ty : Ty) (id : ℕ) → struct_named ty ≡ Some id → ty ≡ struct id
struct_is void id e = absurd (cc e)
struct_is (plain p) id e = absurd (cc e)
struct_is text id e = absurd (cc e)
struct_is blob id e = absurd (cc e)
struct_is untyped id e = absurd (cc e)
struct_is interface id e = absurd (cc e)
struct_is (struct j) id e = ap struct (let same : j ≡ id = cc e in same)
struct_is (list ty) id e = absurd (cc e)

module _ (default : Option (List (List ℕ))) (d : Tree) (holds : HoldsDefaultOrNull default d) (slot : code.Place) (around : Schema) (ty : Ty) where
  -- structs aren't got of what can be read for memory alone
  pub no_structs_claimed : ListsAreRead → (old m : ArenaState) (told : Error → Type 0) (e : Error) (id : ℕ) → struct_named ty ≡ Some id → Begun default old m (place_view slot) told → (IsOk (list_there (words_in m.segments) slot) → told e) → WhereRead (words_in old.segments) (place_view slot) (record { around = around; ty = list ty; default = d }) (told e)
  no_structs_claimed law old m told e id named b why = λ n t own sound. (
      let v : Tree = opened_tree (list ty) d t in
      let there = begun_there default d holds old m (place_view slot) told b (list ty) n t own in
      let tree = tree_at_more (n + 64) (suc (n + 64)) (words_in m.segments) (place_view slot) v (omega arith) there.means in
      let is : ty ≡ struct id = struct_is ty id named in
      why (named_there law (n + 64) (words_in m.segments) slot InlineComposite v tree around (struct id) refl (subst (λ y. HasNoFault (read around v (list y))) is sound))
      )

  -- the value that is got
  pub got_there : (s u : Segments) → Gets default s u (place_view slot) (as_list around ty) → (n : ℕ) (t : Tree) → Owns n s (place_view slot) t → Owns (n + 65) u (place_view slot) (as_list around ty (opened_tree (list ty) d t))
  got_there s u got n t own =
      let p = place_view slot in
      let x = got n t own in
      let opened : x.0 ≡ opened_tree (list ty) d t = begun_opened (list ty) n s p t own.means d x.0 default holds x.1 in
      let first : Owns (n + 65) s p t = owned_more n (n + 65) s p t (omega arith) own in
      subst (λ y. Owns (n + 65) u p (as_list around ty y)) opened (replaced_owned (n + 65) s u p t (as_list around ty x.0) first x.2)

  -- it is never refused where it can be read
  pub never_refused : ListsAreRead → (s u : Segments) → Gets default s u (place_view slot) (as_list around ty) → (expected : ElementSize) → size_number expected ≡ expected_size ty → (r : Result ListPlace Error) → seen (λ o. o) r ≡ list_named taker.Reader u slot expected
      → (Claim : Error → Type 0) → IfErr r (λ e. WhereRead s (place_view slot) (record { around = around; ty = list ty; default = d }) (Claim e))
  never_refused law s u got expected same (Ok o) is Claim = tt
  never_refused law s u got expected same (Err e) is Claim = λ n t own sound. (
      let v : Tree = opened_tree (list ty) d t in
      let w : Tree = as_list around ty v in
      let there = got_there s u got n t own in
      let tree = tree_at_more (n + 65) (suc (n + 65)) u (place_view slot) w (omega arith) there.means in
      absurd (let no = subst IsOk (sym is) (named_there law (n + 65) u slot expected w tree around ty same (as_list_sound around ty v sound)) in cc no)
      )

  module _ (s u : Segments) (o : ListPlace) (got : ListBehind default s u slot around ty o) (k : ℕ) (rest : List Step) (verb : Verb) (Claim : Type 0) where
    -- no element is behind the last
    pub behind_claimed : o.count ≤ k → WhereValueDone s (place_view slot) (record { around = around; ty = list ty; default = d }) (record { path = index k ∷ rest; verb = verb }) Claim
    behind_claimed l = λ n t own is_done. (
        let v : Tree = opened_tree (list ty) d t in
        let there = got_there s u got.value n t own in
        let many = got.counts (n + 65) (as_list around ty v) there in
        let same = as_many around ty v in
        let inside = in_list around ty rest verb d t k is_done in
        absurd (omega (arith, l, many, same, inside))
        )

    module _ (inside : k < o.count) where
      some : 0 < o.count
      some = omega (arith, inside)

      object_got : (n : ℕ) (t : Tree) → Owns n s (place_view slot) t → OwnsObject (n + 64) u (object_of_list o) (as_list around ty (opened_tree (list ty) d t))
      object_got n t own =
          let p = place_view slot in
          let w : Tree = as_list around ty (opened_tree (list ty) d t) in
          let there = got_there s u got.value n t own in
          let deep : n + 65 ≡ suc (n + 64) = omega arith in
          let now : Owns (suc (n + 64)) u p w = subst (λ j. Owns j u p w) deep there in
          let leads = got.object some in
          let found : Found = record { pads = leads.0; object = object_of_list o } in
          object_of_pointer (n + 64) u p found w leads.1 now

      -- what is claimed at the element is claimed at the pointer
      pub element_claimed : WhereElementDone u (record { place = o; at = k; around = around; ty = ty }) (record { path = rest; verb = verb }) Claim → WhereValueDone s (place_view slot) (record { around = around; ty = list ty; default = d }) (record { path = index k ∷ rest; verb = verb }) Claim
      element_claimed h = λ n t own is_done. (
          let w : Tree = as_list around ty (opened_tree (list ty) d t) in
          let object = object_got n t own in
          h (n + 64) w ((got.found some).values (n + 64) w object) object (element_done around ty rest verb d t k is_done)
          )

      -- its elements are there under their type
      pub unheld_claimed : (e : SchemaType) → ty_of e ≡ ty → (Holds o ty × HoldsStructs around o ty → ⊥) → WhereValueDone s (place_view slot) (record { around = around; ty = list ty; default = d }) (record { path = index k ∷ rest; verb = verb }) Claim
      unheld_claimed e of never = λ n t own is_done. (
          let v : Tree = opened_tree (list ty) d t in
          let w : Tree = as_list around ty v in
          let object = object_got n t own in
          let values = (got.found some).values (n + 64) w object in
          let accepted = got.accepted some in
          let plainly : struct_named ty ≡ None → Holds o ty = λ none.
          subst (λ y. struct_named y ≡ None → is_accepted_as (expected_size y) (list_head o.size o.data_words o.pointers) ≡ true → Holds o y) of (expected_holds o e.base e.list_count) none accepted in
          let structs : (id : ℕ) → ty ≡ struct id → HasSizes o (around.shape_of id) = λ id is. structs_hold (around.shape_of id) v o (subst (λ y. IsListOf o (as_list around y v)) is values) in
          absurd (never (holds_all around o ty plainly structs))
          )
