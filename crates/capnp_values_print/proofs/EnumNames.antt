-- The names of enumerants.
use Rattle.std.proofs.Common.{◌≡◌, ℕ, zero, suc, Bool, true, false, if◌then◌else◌, nat_lt, Option, Some, None, option_map, List, [], ◌∷◌, map, length, ◌≤◌, slice_get, unwrap_or, refl, ap, sym, ◌∙◌, arith}
use Rattle.std.specs.Prelude.{decimal}
use Rattle.std.proofs.lemmas.Bool.Decides.{nat_tests}
use Rattle.capnp_model.specs.Schemas.{«enum», plain, Enumerant as EnumerantNode, NodeKind, struct_node, enum_node, Node}
use Rattle.capnp_model.specs.Accepted.{find_node, enumerants_of_kind, schema_of}
use Rattle.capnp_model.specs.Printing.{number_text}
use Rattle.capnp_records.specs.Sets.{enumerants_in, enumerants_found}
use Rattle.capnp_values_queries.specs.Enums.{nodes_of_enum, enum_id, enumerants_recorded, enumerant_count, IsEnumerantRecord}
use Rattle.capnp_values_queries.specs.Ordinals.{seen_enumerant}
use Rattle.capnp_values_queries.specs.declared.enums.EnumSchema.{EnumSchema}
use Rattle.capnp_values_queries.specs.declared.enumerants.Enumerant.{Enumerant}

names_recorded : (nodes : List Node) (id : ℕ) → (schema_of nodes).names_of id ≡ map (λ e. e.name) (elim (enumerants_found nodes id) as (λ _. List EnumerantNode) [ None ↦ [] | Some es ↦ es ])
unfolding schema_of
names_recorded nodes id = by (find_node nodes id)
  where
    by_kind : (k : NodeKind) → map (λ e. e.name) (enumerants_of_kind k) ≡ map (λ e. e.name) (elim (enumerants_in k) as (λ _. List EnumerantNode) [ None ↦ [] | Some es ↦ es ])
    by_kind (struct_node s) = refl
    by_kind (enum_node xs) = refl

    by : (o : Option Node) → (elim o as (λ (p : Option Node). List (List ℕ)) [ None ↦ [] | Some n ↦ map (λ e. e.name) (enumerants_of_kind n.kind) ])
        ≡ map (λ e. e.name) (elim (elim o as (λ (p : Option Node). Option (List EnumerantNode)) [ None ↦ None | Some n ↦ enumerants_in n.kind ]) as (λ _. List EnumerantNode) [ None ↦ [] | Some es ↦ es ])
    by None = refl
    by (Some n) = by_kind n.kind

got_name : (es : List EnumerantNode) (i : ℕ) (x : EnumerantNode) (d : List ℕ) → slice_get es i ≡ Some x → unwrap_or (slice_get (map (λ e. e.name) es) i) d ≡ x.name
got_name [] zero x d h = absurd (cc h)
got_name [] (suc i) x d h = absurd (cc h)
got_name (e ∷ es) zero x d h = let is : e ≡ x = cc h in ap (λ (z : EnumerantNode). z.name) is
got_name (e ∷ es) (suc i) x d h = got_name es i x d h

got_none : (es : List EnumerantNode) (i : ℕ) (d : List ℕ) → length es ≤ i → unwrap_or (slice_get (map (λ e. e.name) es) i) d ≡ d
got_none [] zero d h = refl
got_none [] (suc i) d h = refl
got_none (e ∷ es) zero d h = absurd (omega arith)
got_none (e ∷ es) (suc i) d h = got_none es i d (omega arith)

-- what is found of the enumerant of a value
abbrev Found : EnumSchema → ℕ → Bool → Option Enumerant → Type 0
Found s value b found = option_map seen_enumerant found ≡ (if b then Some (s, value) else None)

-- a value that has an enumerant prints as its name
pub name_text : (s : EnumSchema) (value : ℕ) (e : Enumerant) (x : EnumerantNode) → option_map seen_enumerant (Some e) ≡ (if nat_lt value (enumerant_count s) then Some (s, value) else None) → IsEnumerantRecord e.parent e.ordinal x
    → number_text (schema_of (nodes_of_enum s)) (plain («enum» (enum_id s))) value ≡ x.name
name_text s value e x h is = by (nat_lt value (enumerant_count s)) h
  where
    by : (b : Bool) → Found s value b (Some e) → number_text (schema_of (nodes_of_enum s)) (plain («enum» (enum_id s))) value ≡ x.name
    by true f =
        let parent : e.parent ≡ s = ap (λ (o : Option (EnumSchema × ℕ)). elim o as (λ _. EnumSchema) [ None ↦ s | Some p ↦ p.0 ]) f in
        let ordinal : e.ordinal ≡ value = ap (λ (o : Option (EnumSchema × ℕ)). elim o as (λ _. ℕ) [ None ↦ value | Some p ↦ p.1 ]) f in
        let at : slice_get (enumerants_recorded s) value ≡ Some x = ap (λ (z : EnumSchema). slice_get (enumerants_recorded z) value) (sym parent) ∙ ap (slice_get (enumerants_recorded e.parent)) (sym ordinal) ∙ is.recorded in
        ap (λ ns. unwrap_or (slice_get ns value) (decimal value)) (names_recorded (nodes_of_enum s) (enum_id s)) ∙ got_name (enumerants_recorded s) value x (decimal value) at
    by false f = absurd (cc f)

-- another prints as its number
pub value_text : (s : EnumSchema) (value : ℕ) → option_map seen_enumerant None ≡ (if nat_lt value (enumerant_count s) then Some (s, value) else None) → number_text (schema_of (nodes_of_enum s)) (plain («enum» (enum_id s))) value ≡ decimal value
value_text s value h = by (nat_lt value (enumerant_count s)) refl h
  where
    by : (b : Bool) → nat_lt value (enumerant_count s) ≡ b → Found s value b None → number_text (schema_of (nodes_of_enum s)) (plain («enum» (enum_id s))) value ≡ decimal value
    by true e f = absurd (cc f)
    by false e f =
        let outside : length (enumerants_recorded s) ≤ value = grind (arith, nat_tests) in
        ap (λ ns. unwrap_or (slice_get ns value) (decimal value)) (names_recorded (nodes_of_enum s) (enum_id s)) ∙ got_none (enumerants_recorded s) value (decimal value) outside
