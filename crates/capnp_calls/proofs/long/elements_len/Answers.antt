-- As many as there are, or the words of structs.
use Rattle.std.proofs.Common.{◌≡◌, ◌+◌, ◌*◌, max, ap, subst, ◌∙◌}
use Rattle.capnp_model.specs.Accepted.{schema_of}
use Rattle.capnp_model.specs.Calls.{new_list}
use Rattle.capnp_model.specs.Schemas.{struct, words_of_shape, pointers_of_shape}
use Rattle.capnp_records.specs.Sets.{nodes_of}
use Rattle.capnp_values_queries.specs.Structs.{schema_around, shape_of_struct, id_of}
use Rattle.capnp_calls.specs.Sizes.{list_len}
use Rattle.capnp_calls.proofs.LongPuts.{new_structs_len, others_len}
use Rattle.capnp_calls.proofs.long.elements_len.Goals as goal

pub returns-in-Struct : goal.returns-in-Struct
returns-in-Struct c =
    let n = c.args.count in
    let g = c.new.result in
    let shape = shape_of_struct g in
    let most = c.max.result in
    let is : most ≡ max n (n * (words_of_shape shape + pointers_of_shape shape)) = c.max.ensures ∙ ap (λ w. max n (n * w)) c.struct_words-words.ensures.words in
    let own : most ≡ list_len (new_list (schema_around g) n (struct (id_of g))) = new_structs_len (schema_around g) n (id_of g) most is in
    subst (λ ty. most ≡ list_len (new_list (schema_of (nodes_of c.args.set.now)) n ty)) c.in-Struct.ensures.ty
    (subst (λ ns. most ≡ list_len (new_list (schema_of ns) n (struct c.in-Struct.raw.id))) c.new.ensures.nodes
    (subst (λ raw. most ≡ list_len (new_list (schema_around g) n (struct raw.id))) c.new.ensures.raw own))

pub returns-in_default : goal.returns-in_default
returns-in_default c =
    let s = schema_of (nodes_of c.args.set.now) in
    subst (λ ty. c.args.count ≡ list_len (new_list s c.args.count ty)) c.which.ensures.ty (others_len s c.args.count c.which.result c.in_default.not-Struct)
