use Rattle.std.proofs.Common.{nat_eq, ap, sym, ◌∙◌}
use Rattle.capnp_relay_answers.proofs.Heads.{front_some}
use Rattle.capnp_relay_answers.proofs.gets.begins_with_zero.Goals as goal

pub returns : goal.returns
returns c t is other = front_some c.args.count c.args.words.now t c.requires.0 c.requires.1 is (ap (λ n. nat_eq n 0) (sym c.from_le_bytes.ensures) ∙ other)
