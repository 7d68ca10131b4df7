use Rattle.std.proofs.Common.{length, ap, ◌∙◌, arith}
use Rattle.std.proofs.lemmas.List.{length-append}
use Rattle.capnp_copy_arenas.specs.Allocations.{total_of}
use Rattle.capnp_copy_arenas.proofs.HeldWords.{total_none, total_push}
use Rattle.capnp_copy_arenas.proofs.segments.BuilderArenaImpl.hold_segment.Goals as goal

pub invariant_of-self : goal.invariant_of-self
invariant_of-self g c =
    let xs = c.args.self.now.segments.items in
    let items = c.in-Ok.ensures.items in
    record {
      sum = omega (arith, ap (total_of (λ h. h.used)) items ∙ total_push (λ h. h.used) xs _, total_none (λ h. h.used) xs c.requires.empty);
      few = c.requires.few;
      numbered = omega (arith, ap length items ∙ length-append xs _, ap length c.requires.empty);
    }
