use Rattle.std.proofs.Common.{◌%◌, nat_eq, ap, ◌∙◌}
use Rattle.capnp_relay_answers.proofs.Heads.{front_opens}
use Rattle.capnp_relay_answers.proofs.reading.can_be_opened.Goals as goal

pub returns : goal.returns
returns c t is = ap (λ n. nat_eq (n % 4) 0) c.from_le_bytes.ensures ∙ front_opens c.args.count c.args.words.now t c.requires.0 c.requires.1 is
