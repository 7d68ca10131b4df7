-- Each put by its own function.
use Rattle.capnp_calls_splice.specs.declared.splice.Put.TheVariants as puts
use Rattle.capnp_calls_splice.proofs.Putting.{any_end}
use Rattle.capnp_calls_splice.proofs.put.put_here.Goals as goal

pub returns-in-Number-clause-changes : goal.returns-in-Number-clause-changes
returns-in-Number-clause-changes c =
    let put = c.in-Number in
    any_end (puts.Number put.set) c.args.put.now c.args.area c.args.end c.args.count c.args.words.now c.put_number.new.words c.put_number.result put.is c.put_number.ensures.changes

pub returns-in-Member-clause-changes : goal.returns-in-Member-clause-changes
returns-in-Member-clause-changes c =
    let put = c.in-Member in
    any_end (puts.Member put.mark put.number) c.args.put.now c.args.area c.args.end c.args.count c.args.words.now c.put_member.new.words c.put_member.result put.is c.put_member.ensures.changes

pub returns-in-NumberAt-clause-changes : goal.returns-in-NumberAt-clause-changes
returns-in-NumberAt-clause-changes c =
    let put = c.in-NumberAt in
    any_end (puts.NumberAt put.pointer put.index put.set) c.args.put.now c.args.area c.args.end c.args.count c.args.words.now c.put_number_at.new.words c.put_number_at.result put.is c.put_number_at.ensures.changes
