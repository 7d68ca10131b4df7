use Rattle.std.proofs.Common.{◌++◌, ◌∷◌, [], ap, ◌∙◌}
use Rattle.capnp_values_print.proofs.TwoBlanks.{more_blanks}
use Rattle.capnp_values_print.proofs.single.push_line.Goals as goal

pub loop-preserved : goal.loop-preserved
loop-preserved c = c.in_ok-extend_from_slice.ensures.items ∙ ap (λ xs. xs ++ (32 ∷ 32 ∷ [])) c.loop.invariant ∙ more_blanks c.args.out.now.items c.loop.counter
