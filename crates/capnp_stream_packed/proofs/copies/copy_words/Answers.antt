use Rattle.std.proofs.Common.{◌≡◌, ℕ, ◌*◌, ◌+◌, ◌≤◌, List, take, sym, ap, ◌∙◌, arith, take-take}
use Rattle.capnp_stream_packed.proofs.copies.copy_words.Goals as goal

shorter-same : (a b : ℕ) (xs ys : List ℕ) → a ≤ b → take b xs ≡ take b ys → take a xs ≡ take a ys
shorter-same a b xs ys fits e = sym (take-take a b xs fits) ∙ ap (take a) e ∙ take-take a b ys fits

pub copy_word-requires-4-clause-same : goal.copy_word-requires-4-clause-same
copy_word-requires-4-clause-same c =
    shorter-same (8 * c.args.behind) (8 * c.min-2.result + 8) c.copy_word-3.new.to c.args.from.now (omega (arith, c.min-2.ensures, c.if-behind-gt3.false)) c.copy_word-3.ensures.copied
