-- The types that annotations are declared with.
use mathlib.Core.Path.{fun_ext}
use Rattle.std.proofs.Common.{◌≡◌, ℕ, ℤ, suc, ◌-◌, ◌<◌, ◌≤◌, ◌==◌, nat_eq, Bool, true, false, cond, if◌then◌else◌, Option, Some, None, option_map, List, Result, Ok, refl, sym, ◌∙◌, ap, arith}
use Rattle.std.specs.HashMap.{get}
use Rattle.capnp_model.specs.Schemas.{TypeRecord}
use Rattle.capnp_records.specs.NodeViews.{type_record_of}
use Rattle.capnp_records.specs.declared.node.TypeRecord.{TypeRecord as CodeType}
use Rattle.capnp_wire.specs.Views.{StructView, ListView, element_as_struct}
use Rattle.capnp_relay_requests.specs.declared.annotations.Context.{Context}
use Rattle.capnp_relay_requests.specs.declared.fault.RequestFault.{RequestFault}
use Rattle.capnp_relay_requests.specs.Steps.{◌and_read◌}
use Rattle.capnp_relay_requests.specs.Annotations.{ContextView, context_view, declared_type, declared_or, declared_from}
use Rattle.capnp_relay_requests.specs.Nodes.{nodes_among}
use Rattle.capnp_relay_requests.specs.Places.{number}
use Rattle.capnp_relay_requests.specs.Requests.{nodes_list, context_of_nodes, records_in}

up : (left : ℕ) → 0 < left → suc (left - 1) ≡ left
up left some = omega (arith, some)

more : (left n : ℕ) → 0 < left → left ≤ n → n - (left - 1) ≡ suc (n - left)
more left n some inside = omega (arith, some, inside)

-- one place back, the node there is asked first
pub one_back : (l : ListView) (id left : ℕ) (was now : Option TypeRecord) → 0 < left → left ≤ l.count → was ≡ declared_from l id left (l.count - left) → now ≡ declared_or id (element_as_struct l (left - 1)) was → now ≡ declared_from l id (left - 1) (l.count - (left - 1))
one_back l id left was now some inside before is =
    is
    ∙ ap (declared_or id (element_as_struct l (left - 1))) (before ∙ ap (λ k. declared_from l id k (l.count - left)) (sym (up left some)))
    ∙ sym (ap (declared_from l id (left - 1)) (more left l.count some inside))

-- what the code knows is what the nodes declare
pub given_is : (c : Context) (l : ListView) → ((id : ℕ) → option_map type_record_of (get nat_eq c.types id) ≡ declared_from l id 0 l.count) → context_view c ≡ context_of_nodes c.floats l
given_is c l h =
    let build : (ℕ → Option TypeRecord) → ContextView = λ types. record { floats = c.floats; types = types } in
    ap build (fun_ext h)

-- the records are those of the list under what the code knows
pub records_are : (segments : List (List ℕ)) (nesting : ℤ) (l : ListView) (c : Context) → nodes_list segments nesting ≡ Ok l → ((id : ℕ) → option_map type_record_of (get nat_eq c.types id) ≡ declared_from l id 0 l.count)
    → records_in c.floats segments nesting ≡ nodes_among (context_view c) l l.count
records_are segments nesting l c is h =
    ap (λ (o : Result ListView RequestFault). o and_read λ v. nodes_among (context_of_nodes c.floats v) v v.count) is
    ∙ ap (λ (g : ContextView). nodes_among g l l.count) (sym (given_is c l h))

-- a node that declares a type puts it at its id
pub declares : (v : StructView) (id : ℕ) (t : CodeType) (was now : Option CodeType) → declared_type v ≡ Some (type_record_of t) → now ≡ cond (number 64 0 v == id) (Some t) was → option_map type_record_of now ≡ declared_or id v (option_map type_record_of was)
declares v id t was now told put = ap (option_map type_record_of) put ∙ by (number 64 0 v == id) ∙ sym (ap (λ (o : Option TypeRecord). if number 64 0 v == id then elim o [ Some x ↦ Some x | None ↦ option_map type_record_of was ] else option_map type_record_of was) told)
  where
    by : (b : Bool) → option_map type_record_of (cond b (Some t) was) ≡ (if b then Some (type_record_of t) else option_map type_record_of was)
    by true = refl
    by false = refl

-- another leaves all as they were
pub declares_none : (v : StructView) (id : ℕ) (others : Option TypeRecord) → declared_type v ≡ None → others ≡ declared_or id v others
declares_none v id others told = by (number 64 0 v == id) ∙ sym (ap (λ (o : Option TypeRecord). if number 64 0 v == id then elim o [ Some x ↦ Some x | None ↦ others ] else others) told)
  where
    by : (b : Bool) → others ≡ (if b then others else others)
    by true = refl
    by false = refl
