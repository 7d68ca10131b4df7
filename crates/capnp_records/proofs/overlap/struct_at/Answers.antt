use Rattle.std.proofs.Common.{◌≡◌, ◌<◌, ℕ, map, sym, ap, arith}
use Rattle.capnp_records.specs.NodeViews.{node_of, node_kind, struct_of, enumerant_of}
use Rattle.capnp_records.proofs.Overlaps.{no_levels, no_node, no_struct, written}
use Rattle.capnp_records.proofs.overlap.struct_at.Goals as goal

some : (n : ℕ) → (n ≡ 0 → ⊥) → 0 < n
some n other = omega (arith, other)

pub returns-then-levels-eq0-clause-missing : goal.returns-then-levels-eq0-clause-missing
returns-then-levels-eq0-clause-missing c = no_levels (map node_of c.args.nodes.records.now) c.args.levels c.args.id c.if-levels-eq0.true

pub returns-in_default-clause-missing : goal.returns-in_default-clause-missing
returns-in_default-clause-missing c = no_node (map node_of c.args.nodes.records.now) c.args.levels c.args.id (sym (c.in_default.ensures))

pub returns-in-Struct-clause-found : goal.returns-in-Struct-clause-found
returns-in-Struct-clause-found c =
    written (map node_of c.args.nodes.records.now) c.args.levels c.args.id (node_of c.in-Some.node.now) (struct_of c.in-Struct.holder) (some c.args.levels c.if-levels-eq0.false) (sym (c.in-Some.ensures)) (ap node_kind c.in-Struct.is)

pub returns-in-Enum-clause-missing : goal.returns-in-Enum-clause-missing
returns-in-Enum-clause-missing c =
    no_struct (map node_of c.args.nodes.records.now) c.args.levels c.args.id (node_of c.in-Some.node.now) (sym (c.in-Some.ensures)) (map enumerant_of c.in-Enum.field-0.items) (ap node_kind c.in-Enum.is)
