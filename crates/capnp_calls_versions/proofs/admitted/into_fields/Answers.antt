use Rattle.std.proofs.Common.{◌≡◌, ℕ, ◌-◌, ◌<◌, Option, IfSome, List, Some, None, refl, sym, ◌∙◌, ap, subst, arith}
use Rattle.capnp_model.specs.Schemas.{id_of_shape, Shape}
use Rattle.capnp_model.specs.Accepted.{shape_in}
use Rattle.capnp_model.specs.Admitted.{into_fields}
use Rattle.capnp_model.specs.Printing.{fields_in}
use Rattle.capnp_calls_versions.specs.declared.keeps.Levels.{Levels}
use Rattle.capnp_model.specs.Partners.{partner_name}
use Rattle.capnp_calls_versions.specs.Renamed.{names_in}
use Rattle.capnp_calls_versions.specs.Holders.{held_nodes, held_schema, shape_by}
use Rattle.capnp_calls_versions.specs.Ways.{newer_shape, first_named, goes_on}
use Rattle.capnp_calls_versions.proofs.ExtendedGroups.{named}
use Rattle.capnp_calls_versions.proofs.KnownPlaces.{place_held}
use Rattle.capnp_calls_versions.proofs.NodesFound.{no_levels}
use Rattle.capnp_calls_versions.proofs.admitted.into_fields.Goals as goal

pub returns-then-levels-eq0 : goal.returns-then-levels-eq0
returns-then-levels-eq0 c = λ path verb.
    let v = c.args.versions.now in
    ap (λ (s : Shape). into_fields (names_in v.names) (id_of_shape s) c.args.name.now (fields_in s) (fields_in (newer_shape v c.args.levels c.args.newer)) (goes_on v path verb))
    (no_levels (held_nodes v.older) c.args.levels.older c.args.older (omega (arith, c.if-levels-eq0.true)))

pub field-requires-clause-known : goal.field-requires-clause-known
field-requires-clause-known c =
    let nodes = held_nodes c.args.versions.now.older in
    let groups : ℕ → Shape = λ g. shape_in nodes (c.args.levels.older - 1) g in
    let some : 0 < c.args.levels.older = omega (arith, c.if-levels-eq0.false) in
    subst (λ (p : Option ℕ). IfSome c.known_place.result (λ place. place ≡ p))
    (place_held nodes c.args.levels.older c.args.older groups c.holder-a.result some c.holder-a.ensures.shape c.args.name.now)
    (c.known_place.ensures (held_schema c.args.versions.now.older) c.args.name.now c.requires.way)

pub returns-in_default : goal.returns-in_default
returns-in_default c = λ path verb.
    let below : Levels = record { older = c.args.levels.older - 1; newer = c.saturating_sub.result } in
    let second : shape_in (held_nodes c.args.versions.now.newer) c.args.levels.newer c.args.newer ≡ shape_by (λ g. shape_in (held_nodes c.args.versions.now.newer) c.saturating_sub.result g) c.holder-b.result
    = c.holder-b.ensures.shape ∙ ap (λ (k : ℕ). shape_by (λ g. shape_in (held_nodes c.args.versions.now.newer) k g) c.holder-b.result) (sym c.saturating_sub.ensures) in
    named c.args.versions.now c.args.levels below c.args.older c.args.newer c.holder-a.result c.holder-b.result c.holder-a.ensures.shape second c.args.name.now (goes_on c.args.versions.now path verb) None (first_named (partner_name (names_in c.args.versions.now.names) c.holder-a.result.id c.args.name.now) c.holder-b.result.fields.now) (sym c.in_default.ensures) refl

pub returns-in-None : goal.returns-in-None
returns-in-None c = λ path verb.
    let below : Levels = record { older = c.args.levels.older - 1; newer = c.saturating_sub.result } in
    let second : shape_in (held_nodes c.args.versions.now.newer) c.args.levels.newer c.args.newer ≡ shape_by (λ g. shape_in (held_nodes c.args.versions.now.newer) c.saturating_sub.result g) c.holder-b.result
    = c.holder-b.ensures.shape ∙ ap (λ (k : ℕ). shape_by (λ g. shape_in (held_nodes c.args.versions.now.newer) k g) c.holder-b.result) (sym c.saturating_sub.ensures) in
    named c.args.versions.now c.args.levels below c.args.older c.args.newer c.holder-a.result c.holder-b.result c.holder-a.ensures.shape second c.args.name.now (goes_on c.args.versions.now path verb) (Some c.in-Some.field.now) None (sym c.in-Some.ensures) (ap (λ (n : List ℕ). first_named n c.holder-b.result.fields.now) (sym c.partner.ensures) ∙ sym c.in-None.ensures)

pub returns-in-Some-field : goal.returns-in-Some-field
returns-in-Some-field c = λ path verb.
    let below : Levels = record { older = c.args.levels.older - 1; newer = c.saturating_sub.result } in
    let second : shape_in (held_nodes c.args.versions.now.newer) c.args.levels.newer c.args.newer ≡ shape_by (λ g. shape_in (held_nodes c.args.versions.now.newer) c.saturating_sub.result g) c.holder-b.result
    = c.holder-b.ensures.shape ∙ ap (λ (k : ℕ). shape_by (λ g. shape_in (held_nodes c.args.versions.now.newer) k g) c.holder-b.result) (sym c.saturating_sub.ensures) in
    named c.args.versions.now c.args.levels below c.args.older c.args.newer c.holder-a.result c.holder-b.result c.holder-a.ensures.shape second c.args.name.now (goes_on c.args.versions.now path verb) (Some c.in-Some.field.now) (Some c.in-Some-field.other.now) (sym c.in-Some.ensures) (ap (λ (n : List ℕ). first_named n c.holder-b.result.fields.now) (sym c.partner.ensures) ∙ sym c.in-Some-field.ensures)
    ∙ c.at_fields.ensures c.args.versions.now path verb
