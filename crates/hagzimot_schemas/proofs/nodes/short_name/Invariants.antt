use Rattle.std.proofs.Common.{◌≡◌, length, string_bytes}
use denote.Text.{Utf8}
use denote.Shadow.{shadow}
use Rattle.hagzimot_schemas.specs.Nodes.{behind_colons}
use Rattle.hagzimot_schemas.proofs.nodes.short_name.Given as goal

abbrev pub invariant-loop-behind : goal.invariant-loop-behind
invariant-loop-behind l = shadow (Utf8 l.name) × (behind_colons l.name ≡ behind_colons (string_bytes l.fn.node.display_name))

abbrev pub decreases-loop-behind : goal.decreases-loop-behind
decreases-loop-behind l = length l.name
