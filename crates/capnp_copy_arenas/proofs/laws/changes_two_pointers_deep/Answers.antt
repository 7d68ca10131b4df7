use Rattle.std.proofs.Common.{suc}
use Rattle.capnp_model.specs.Segments.{after}
use Rattle.capnp_copy_arenas.proofs.laws.changes_two_pointers_deep.Goals as goal

pub returns : goal.returns
returns c = λ n s u p q pads d k i w section kids inner v outer l there own change.
    let pointers = c.objects_of_pointers.ensures in
    let children = c.children_of_structs.ensures in
    let object = pointers.down (suc n) s p _ _ outer own in
    let child = children.down (suc n) s q d k i w section kids l object in
    let deep = pointers.up n s u (after (after q d) i) inner _ v there child change in
    pointers.up (suc n) s u p _ _ _ outer own (children.up (suc n) s u q d k i w section kids v l object deep)
