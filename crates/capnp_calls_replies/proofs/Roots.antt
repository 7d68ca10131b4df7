-- The reply to a whole call.
use Rattle.std.proofs.Common.{◌≡◌, List, ap, ◌∙◌}
use Rattle.capnp_model.specs.Readings.{record_as, Record}
use Rattle.capnp_model.specs.Calls.{Step, Verb, Call}
use Rattle.capnp_model.specs.Steps.{step}
use Rattle.capnp_model.specs.Answers.{Reply, reply_of}
use Rattle.capnp_wire.specs.Views.{StructView}
use Rattle.capnp_values_queries.specs.Structs.{schema_around, shape_of_struct, fields_of_struct, id_of}
use Rattle.capnp_values_queries.specs.declared.structs.StructSchema.{StructSchema}
use Rattle.capnp_values.specs.Standing.{IsRecord}
use Rattle.capnp_model.specs.Printing.{as_it_is}
use Rattle.capnp_calls_replies.specs.Parts.{record_reply, RepliesAtStruct}

pub whole_reply : (root : StructSchema) (v : StructView) (call : Call) (path : List Step) (verb : Verb) (answer : Reply) → path ≡ call.path → verb ≡ call.verb → RepliesAtStruct (schema_around root) (shape_of_struct root) v path verb answer
    → (r : Record) → IsRecord (schema_around root) (shape_of_struct root) v (record_as r) → answer ≡ reply_of (schema_around root) as_it_is (step (schema_around root) (id_of root) call r)
unfolding step
whole_reply root v call path verb answer same same' h r rec =
    let s = schema_around root in
    let fs = fields_of_struct root in
    h r rec ∙ ap (λ (p : List Step). record_reply s fs p verb r) same ∙ ap (λ (w : Verb). record_reply s fs call.path w r) same'
