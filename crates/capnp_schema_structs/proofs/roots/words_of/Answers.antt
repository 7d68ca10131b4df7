use Rattle.std.proofs.Common.{List, ℕ, sym, subst}
use Rattle.capnp_model.specs.Schemas.{default_or_null}
use Rattle.capnp_model.specs.Decoding.{decode}
use Rattle.capnp_schema_structs.specs.GroupSets.{HoldsDefault}
use Rattle.capnp_schema_structs.proofs.lemmas.NullMembers.{words_hold, some_tree}
use Rattle.capnp_schema_structs.proofs.roots.words_of.Goals as goal

pub returns-clause-value : goal.returns-clause-value
returns-clause-value c decoded =
    let t = default_or_null (decode c.args.bytes.now) in
    subst (λ (ws : List (List ℕ)). HoldsDefault ws t) (sym c.as_chunks.ensures.front) (words_hold c.args.bytes.now t (some_tree (decode c.args.bytes.now) decoded))
