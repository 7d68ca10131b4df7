use Rattle.std.proofs.lemmas.Result.{err_from_is_err_and}
use Rattle.std.proofs.Common.{◌∙◌, Err, inl, refl, subst, length}
use Rattle.capnp_model.specs.Bytes.{AreBytes}
use Rattle.capnp_stream.specs.declared.flat.NoAllocSegmentTableInfo.{NoAllocSegmentTableInfo}
use Rattle.capnp_stream.proofs.lemmas.FrameLemmas.{TakesMessage-of_kept}
use Rattle.capnp_stream.proofs.BufferLemmas.{described-spells, described-writable}
use Rattle.capnp_stream.proofs.ReadLemmas.{tries-failed, tries-none, tries-refused, vain-behind, longer-behind, at-end}
use Rattle.capnp_stream.proofs.RefusalLemmas.{same-reach, own-reach, device-wants-none, counts-behind}
use Rattle.capnp_stream.proofs.kept.MessageBuffer.read_pieces.Goals as goal

pub returns-in_err-is_at_end : goal.returns-in_err-is_at_end
returns-in_err-is_at_end g c =
    let p = err_from_is_err_and c.from_residual.result c.from_residual.ensures.1 in
    let failed = c.in_err-is_at_end.ensures in
    let kind = c.in_err-is_at_end.field-0.0.kind in
    rw (p.1, p.2) (record {
      message = tries-failed g.F.MessageForm.reader g.met.F.MessageForm.fronts g.F.MessageForm.faults c.args.limit _ _ _ _ _ failed.refusal failed.kept failed.count;
      longer = λ want. absurd (device-wants-none kind failed.refusal want);
      grown = same-reach _;
      most = inl (own-reach _ _);
      room = tt;
    })

pub returns-then-branch : goal.returns-then-branch
returns-then-branch g c =
    let look = c.in_ok-is_at_end.ensures in
    record {
      message = tries-none g.F.MessageForm.reader g.F.MessageForm.faults c.args.limit _ _ _ _ (at-end _ _ look.at c.if-branch.true) look.kept look.count;
      longer = tt;
      grown = same-reach _;
      most = refl;
      room = tt;
    }

pub returns-in_err-info : goal.returns-in_err-info
returns-in_err-info g c =
    let p = err_from_is_err_and c.from_residual-in_err-info.result c.from_residual-in_err-info.ensures.1 in
    let look = c.in_ok-is_at_end.ensures in
    let r = c.in_err-info.ensures in
    let e = c.in_err-info.field-0.0 in
    let count = counts-behind e.kind _ _ _ look.count r.failures in
    rw (p.1, p.2) (record {
      message = tries-refused g.F.MessageForm.reader g.met.F.MessageForm.fronts g.F.MessageForm.faults c.args.limit _ _ _ _ _ e _ look.at c.if-branch.false look.kept r.refused r.kind r.part r.wanted count;
      longer = longer-behind g.F.MessageForm.reader c.args.limit _ _ look.kept {A = NoAllocSegmentTableInfo} (length c.args.self.now.bytes.items) (Err e) r.longer;
      grown = r.grown.0;
      most = vain-behind g.F.MessageForm.reader c.args.limit _ _ look.kept _ _ r.vain;
      room = tt;
    })

pub returns : goal.returns
returns g c =
    let info = c.in_ok-info.info in
    let bytes = c.fill.new.self.bytes.items in
    let r = c.in_ok-info.ensures in
    let holds = r.message in
    let look = c.in_ok-is_at_end.ensures in
    let small : AreBytes bytes = subst AreBytes c.deref.ensures.value c.are_bytes.ensures in
    record {
      message = record {
        message = TakesMessage-of_kept g.F.MessageForm.reader c.args.limit _ _ _ _ look.kept holds.taken;
        kept = described-spells info bytes holds.described small c.args.limit holds.kept;
        joined = holds.described;
        writable = described-writable info bytes holds.described small;
        none = tt;
        refused = tt;
        kind = tt;
        part = tt;
        wanted = tt;
        begun = tt;
        count = r.failures ∙ look.count;
      };
      longer = tt;
      grown = r.grown.0;
      most = r.most;
      room = r.grown.1;
    }
