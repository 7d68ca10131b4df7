use Rattle.std.proofs.Common.{◌≡◌, ◌+◌, ◌*◌, ℕ, ap, sym, ◌∙◌, arith}
use Rattle.capnp_model.specs.Sections.{words_for}
use Rattle.capnp_units.specs.Sizes.{size_number}
use Rattle.capnp_wire.specs.Elements.{step_bits}
use Rattle.capnp_wire.proofs.list.words_of_steps.Goals as goal

whole : (n m : ℕ) → n * m ≡ words_for (64 * m * n)
whole n m = let x : 64 * m * n ≡ 64 * (n * m) = omega arith in omega (arith, x)

pub returns-in-InlineComposite : goal.returns-in-InlineComposite
returns-in-InlineComposite c = whole c.args.count (c.args.data_words + c.args.pointers) ∙ ap (λ (size : ℕ). words_for (step_bits size c.args.data_words c.args.pointers * c.args.count)) (ap size_number (sym c.in-InlineComposite.is))
