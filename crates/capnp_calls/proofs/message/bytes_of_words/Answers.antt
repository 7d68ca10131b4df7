use Rattle.std.proofs.Common.{◌≡◌, ℕ, List, ap, ◌∙◌, subst}
use Rattle.std.specs.Prelude.{IfOk}
use Rattle.capnp_model.specs.Bytes.{bytes_of_words}
use Rattle.capnp_units.specs.Segments.{whole_words}
use Rattle.capnp_wire_canonical.specs.Writes.{words_view}
use Rattle.capnp_model.proofs.lemmas.Lists.{only_is}
use Rattle.capnp_calls.proofs.message.bytes_of_words.Goals as goal

pub returns : goal.returns
returns c =
    let same = ap whole_words c.words_as_bytes.ensures.bytes ∙ only_is _ (words_view c.args.words.now) c.segments_of_words.ensures in
    subst (λ (ws : List ℕ). IfOk c.copied.result (λ v. v.items ≡ bytes_of_words ws)) same c.copied.ensures
