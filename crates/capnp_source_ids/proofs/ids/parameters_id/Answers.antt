use Rattle.std.proofs.Common.{[], ◌∷◌, ◌++◌, ap, ◌∙◌}
use Rattle.md5.specs.Md5.{md5}
use Rattle.capnp_source_ids.specs.Ids.{id_of_digest}
use Rattle.capnp_source_ids.proofs.ids.parameters_id.Goals as goal

-- the digest is that of the three pieces
pub returns : goal.returns
returns c =
    let digested = c.finalize.ensures _ (c.update-3.ensures _ (c.update-2.ensures _ (c.update.ensures _ c.new-hasher.ensures))) in
    c.id_of_digest.ensures ∙ ap id_of_digest digested ∙ (λ i. id_of_digest (md5 ((c.to_le_bytes.ensures i ++ c.to_le_bytes-2.ensures i) ++ c.results_byte-kind.ensures i ∷ [])))
