use Rattle.capnp_values_print.proofs.Results.{joins}
use Rattle.capnp_values_print.proofs.stringify.append.Goals as goal

pub returns-in_err-append : goal.returns-in_err-append
returns-in_err-append c =
    joins c.args.out.now.items c.args.text.items c.append.new.self.items c.from_residual.result c.from_residual.ensures.1 c.in_err-append.ensures.items

pub returns : goal.returns
returns c = c.in_ok-append.ensures.items
