use Rattle.std.proofs.Common.{◌∙◌, Result, Ok, Err, replicate, ap}
use Rattle.std.specs.Result.{OnErr}
use Rattle.capnp_stream_packed.proofs.unpacking.next_words_or_zeros.Goals as goal

-- What holds anyway holds after a refusal.
anyway : {A E : Type 0} (result : Result A E) (P : Type 0) → P → OnErr result P
anyway (Ok x) P holds = tt
anyway (Err e) P holds = holds

pub returns-then-is_err-clause-cleared : goal.returns-then-is_err-clause-cleared
returns-then-is_err-clause-cleared g c = anyway c.next_words-step.result _ (c.fill.ensures.after (λ y e. e) ∙ ap (λ n. replicate n 0) c.next_words-step.auto.buf)
