use Rattle.capnp_schema_lists.proofs.Parts.{struct_there, struct_part, struct_edits, struct_deepens}
use Rattle.capnp_schema_lists.proofs.laws.elements_as_structs.Goals as goal

pub returns : goal.returns
returns c =
    record {
      there = λ s o i p l at there. struct_there s o i p l at there;
      parts = λ n s o i p t l at is owns. struct_part s o i p l at n t is owns;
      edits = λ s u o i p f l at h. struct_edits s o i p l at u f h;
      deepens = λ s u o i p f l at h. struct_deepens s o i p l at u f h;
    }
