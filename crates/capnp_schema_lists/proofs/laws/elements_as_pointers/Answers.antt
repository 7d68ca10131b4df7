use Rattle.capnp_schema_lists.proofs.Pointers.{pointer_there, pointer_parts, pointer_put}
use Rattle.capnp_schema_lists.proofs.laws.elements_as_pointers.Goals as goal

pub returns : goal.returns
returns c =
    record {
      there = λ s o i q has l at there. pointer_there s o i q has l at there;
      parts = λ n s o i q t has l at there is owns. pointer_parts s o i q has l at n t there is owns;
      deepens = λ s u o i q v has l at there h. pointer_put s o i q has l at u v there h;
    }
