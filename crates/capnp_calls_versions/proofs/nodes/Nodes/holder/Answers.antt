use Rattle.std.proofs.Common.{ℕ, ◌<◌, ◌-◌, Option, List, map, sym, ◌∙◌, ap, subst, arith}
use Rattle.capnp_model.specs.Schemas.{Shape, shape}
use Rattle.capnp_model.specs.Accepted.{are_distinct, fields_from, shape_in}
use Rattle.capnp_records.specs.NodeViews.{struct_of, field_of}
use Rattle.capnp_records.specs.Sets.{struct_found}
use Rattle.capnp_records.specs.Tables.{AreByName}
use Rattle.capnp_records.specs.declared.node.FieldRecord.{FieldRecord}
use Rattle.capnp_values_queries.proofs.lemmas.Names.{names_differ}
use Rattle.capnp_calls_versions.specs.Holders.{held_nodes, are_sound}
use Rattle.capnp_calls_versions.proofs.NodesFound.{no_levels, some_levels, no_struct_shape, struct_shape, struct_sound}
use Rattle.capnp_calls_versions.proofs.nodes.Nodes.holder.Goals as goal

pub returns-then-levels-eq0-clause-shape : goal.returns-then-levels-eq0-clause-shape
returns-then-levels-eq0-clause-shape c = no_levels (held_nodes c.args.self.now) c.args.levels c.args.id (omega (arith, c.if-levels-eq0.true)) ∙ sym (c.nothing.ensures.shape (λ g. shape_in (held_nodes c.args.self.now) (c.args.levels - 1) g))

pub returns-in_default-clause-shape : goal.returns-in_default-clause-shape
returns-in_default-clause-shape c =
    let groups : ℕ → Shape = λ g. shape_in (held_nodes c.args.self.now) (c.args.levels - 1) g in
    let some : 0 < c.args.levels = omega (arith, c.if-levels-eq0.false) in
    some_levels (held_nodes c.args.self.now) c.args.levels c.args.id some ∙ no_struct_shape (held_nodes c.args.self.now) groups c.args.id c.in_default.ensures.missing ∙ sym (c.nothing-in_default.ensures.shape groups)

pub returns-clause-shape : goal.returns-clause-shape
returns-clause-shape c =
    let nodes = held_nodes c.args.self.now in
    let groups : ℕ → Shape = λ g. shape_in nodes (c.args.levels - 1) g in
    let s = struct_of c.struct_record-record.result.now in
    let some : 0 < c.args.levels = omega (arith, c.if-levels-eq0.false) in
    some_levels nodes c.args.levels c.args.id some
    ∙ struct_shape nodes groups c.args.id s (ap (struct_found nodes) (sym c.in-Some.ensures.id) ∙ c.struct_record-record.ensures)
    ∙ ap (λ (u : Option ℕ). shape c.args.id s.words s.pointers u (fields_from groups s.fields)) (sym c.union_place.ensures)
    ∙ ap (λ (fs : List FieldRecord). shape c.args.id s.words s.pointers c.union_place.result (fields_from groups (map field_of fs))) (sym c.deref.ensures.value)

pub returns-clause-sound : goal.returns-clause-sound
returns-clause-sound c =
    let nodes = held_nodes c.args.self.now in
    ap are_sound c.deref.ensures.value
    ∙ struct_sound nodes c.args.self.now.set.now.accepted c.args.id (struct_of c.struct_record-record.result.now) (ap (struct_found nodes) (sym c.in-Some.ensures.id) ∙ c.struct_record-record.ensures)

pub returns-clause-named : goal.returns-clause-named
returns-clause-named c =
    let nodes = held_nodes c.args.self.now in
    let s = struct_of c.struct_record-record.result.now in
    let table = (c.field_tables.ensures s c.struct_record-record.ensures).by_name in
    record {
      places =
          subst (λ (fs : List FieldRecord). AreByName (map field_of fs) c.deref-2.result.now) (sym c.deref.ensures.value)
          (subst (AreByName s.fields) (sym c.deref-2.ensures.value) table);
      distinct =
          ap (λ (fs : List FieldRecord). are_distinct (map (λ f. f.name) (map field_of fs))) c.deref.ensures.value
          ∙ names_differ nodes c.args.self.now.set.now.accepted c.in-Some.raw.id s c.struct_record-record.ensures;
    }
