use Rattle.std.proofs.Common.{ap, ◌∙◌, add-one}
use Rattle.capnp_model.specs.Sections.{numbers_in}
use Rattle.capnp_model.proofs.lemmas.SectionElements.{numbers_in-more, number_of-more, section_of-zeros}
use Rattle.capnp_model.proofs.laws.numbers_one_by_one.Goals as goal

pub returns : goal.returns
returns c = record { read = λ w n s. ap (λ k. numbers_in w k s) (add-one n) ∙ numbers_in-more w n s; written = number_of-more; zeros = section_of-zeros }
