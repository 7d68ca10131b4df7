-- The root's pointer is the first word.
use Rattle.std.proofs.Common.{◌∙◌}
use Rattle.capnp_calls_splice.proofs.Roots.{is_struct, first_word}
use Rattle.capnp_calls_splice.proofs.words.root_data_words.Goals as goal

pub returns-clause-count : goal.returns-clause-count
returns-clause-count c = λ t f e.
    is_struct t c.from_le_bytes-root.result f (c.from_le_bytes-root.ensures ∙ first_word c.args.words.now c.in_ok-first.field-0.now t c.in_ok-first.ensures.value e) c.if-root-ne0.false c.if-root-eq0.false
