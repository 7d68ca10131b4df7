use Rattle.std.proofs.Common.{rules, ap, sym, ◌∙◌, arith}
use Rattle.hagzimot_schemas.specs.Nodes.{behind_colons}
use Rattle.hagzimot_schemas.proofs.Colons.{colon_cut, no_colon_stands}
use Rattle.hagzimot_schemas.proofs.nodes.short_name.Goals as goal

pub loop-behind-preserved : goal.loop-behind-preserved
loop-behind-preserved c =
    let cut = c.in-Some.ensures.byte (omega arith) (λ w o f. f) in
    (search rules, ap behind_colons cut.1 ∙ sym (colon_cut c.loop-behind.name.now cut.2) ∙ c.loop-behind.invariant.1)

pub returns : goal.returns
returns c =
    let none = c.in_default.ensures.byte (omega arith) (λ w o f. f) in
    sym (no_colon_stands c.loop-behind.name.now none) ∙ c.loop-behind.invariant.1
