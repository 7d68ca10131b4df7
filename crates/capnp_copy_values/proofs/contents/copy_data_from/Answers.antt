use Rattle.std.proofs.Common.{ℕ, take, ap, ◌∙◌, subst}
use Rattle.capnp_model.specs.Sections.{number_of}
use Rattle.capnp_model.specs.Segments.{Segments}
use Rattle.capnp_units.specs.Segments.{words_in}
use Rattle.capnp_copy_values.specs.Contents.{SetsSection}
use Rattle.capnp_copy_values.proofs.TakenContent.{bytes_fit}
use Rattle.capnp_copy_values.proofs.contents.copy_data_from.Goals as goal

pub returns-clause-section : goal.returns-clause-section
returns-clause-section g c =
    let s : Segments = words_in (g.A.ReaderArena.segments c.args.arena.now) in
    let m : Segments = words_in (g.A.ReaderArena.segments c.write_data.new.arena) in
    subst (SetsSection s m c.args.object) (ap (λ (j : ℕ). number_of 8 (take j c.args.section.now)) c.min-bytes.ensures ∙ bytes_fit c.args.section.now c.args.object.data_words) c.write_data.ensures.section
