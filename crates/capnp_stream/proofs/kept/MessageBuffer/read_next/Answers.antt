use Rattle.std.proofs.Common.{Some, subst}
use Rattle.std.proofs.lemmas.Result.{err_from_is_err_and}
use Rattle.std.specs.declared.option.Option.{Option}
use Rattle.capnp_model.specs.Bytes.{AreBytes}
use Rattle.capnp_stream.specs.Shown.{TakesShown}
use Rattle.capnp_stream.specs.declared.flat.NoAllocSegmentTableInfo.{NoAllocSegmentTableInfo}
use Rattle.capnp_stream.proofs.BufferLemmas.{described-spells, described-writable}
use Rattle.capnp_stream.proofs.ReadLemmas.{tries-failed}
use Rattle.capnp_stream.proofs.kept.MessageBuffer.read_next.Goals as goal

pub returns-in_err-info-clause-message : goal.returns-in_err-info-clause-message
returns-in_err-info-clause-message g c =
    let p = err_from_is_err_and c.from_residual.result c.from_residual.ensures.1 in
    let failed = c.in_err-info.ensures in
    rw (p.1, p.2) (tries-failed g.F.MessageForm.reader g.met.F.MessageForm.fronts g.F.MessageForm.faults c.args.limit _ _ _ _ _ failed.refusal failed.kept failed.count)

pub returns-in-Some-clause-message : goal.returns-in-Some-clause-message
returns-in-Some-clause-message g c =
    let info = c.in-Some.info in
    let bytes = c.read_shown.new.self.bytes.items in
    let Shown : Option NoAllocSegmentTableInfo → Type 0 = λ o. TakesShown g.F.MessageForm.reader c.args.limit (g.R.Read.remaining c.args.source.now) (g.R.Read.remaining c.read_shown.new.source) bytes o in
    let holds : Shown (Some info) = subst Shown c.in-Some.is c.in_ok-info.ensures.message in
    let small : AreBytes bytes = subst AreBytes c.deref.ensures.value c.are_bytes.ensures in
    record {
      message = holds.taken;
      kept = described-spells info bytes holds.described small c.args.limit holds.kept;
      joined = holds.described;
      writable = described-writable info bytes holds.described small;
      none = tt;
      refused = tt;
      kind = tt;
      part = tt;
      wanted = tt;
      begun = tt;
      count = c.in_ok-info.ensures.count;
    }
