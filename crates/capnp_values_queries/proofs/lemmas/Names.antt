-- The names of the fields of a struct of an accepted set.
use Rattle.std.proofs.Common.{◌≡◌, ℕ, true, not, Some, List, map, sym, ◌∙◌, ap}
use Rattle.std.specs.List.{list_all}
use Rattle.capnp_model.specs.Schemas.{StructNode, Node}
use Rattle.capnp_model.specs.Accepted.{are_distinct, names_of_kind, is_empty_name, has_good_names, IsAccepted}
use Rattle.capnp_model.proofs.lemmas.KeptRules.{found_passes}
use Rattle.capnp_model.proofs.lemmas.SoundRules.{rules_kept}
use Rattle.capnp_model.proofs.lemmas.Tests.{and_left}
use Rattle.capnp_records.specs.Sets.{struct_found}
use Rattle.capnp_values_queries.proofs.lemmas.Records.{struct_is}

pub names_differ : (nodes : List Node) → IsAccepted nodes → (id : ℕ) (s : StructNode) → struct_found nodes id ≡ Some s → are_distinct (map (λ f. f.name) s.fields) ≡ true
names_differ nodes accepted id s h =
    let f = struct_is nodes id s h in
    let r = rules_kept nodes accepted in
    let names = found_passes has_good_names nodes id f.node r.names f.found in
    ap (λ k. are_distinct (names_of_kind k)) (sym f.kind)
    ∙ and_left (are_distinct (names_of_kind f.node.kind)) (list_all (λ m. not (is_empty_name m)) (names_of_kind f.node.kind)) names
