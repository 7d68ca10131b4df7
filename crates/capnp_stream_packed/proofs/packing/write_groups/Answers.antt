use Rattle.std.proofs.Common.{take, rules}
use Rattle.std.proofs.lemmas.Result.{err_from_is_err_and}
use Rattle.capnp_stream.specs.Segments.{whole_words}
use Rattle.capnp_stream_packed.proofs.lemmas.WriteLemmas.{group-cut, group-refusal, run-cut, run-refusal, group-written}
use Rattle.capnp_stream_packed.proofs.packing.write_groups.Goals as goal

pub returns-in_err-write_all : goal.returns-in_err-write_all
returns-in_err-write_all g c =
    let made = c.pack_groups-made in
    let p = err_from_is_err_and c.from_residual.result c.from_residual.ensures.1 in
    let contents = g.W.Write.contents c.args.out.now in
    let room = g.W.Write.room c.args.out.now in
    record {
      ok = search rules;
      whole = search rules;
      shorter = search rules;
      err = rw p.1 (group-cut _ _ _ _ made.ensures.spells _ _ room room c.in_err-write_all.ensures.err);
      refusal = rw (p.1, p.2) (group-refusal _ (whole_words made.result.rest.now) (take made.result.len made.new.buf) made.result.run.now made.ensures.spells contents contents room room g.W.Write.may_grow c.in_err-write_all.field-0.0.kind c.in_err-write_all.ensures.refusal);
      count = search rules;
    }

pub returns-in_err-write_run : goal.returns-in_err-write_run
returns-in_err-write_run g c =
    let made = c.pack_groups-made in
    let r = c.from_residual-in_err-write_run in
    let p = err_from_is_err_and r.result r.ensures.1 in
    let contents = g.W.Write.contents c.args.out.now in
    let room = g.W.Write.room c.args.out.now in
    record {
      ok = search rules;
      whole = search rules;
      shorter = search rules;
      err = rw p.1 (run-cut _ _ _ _ made.ensures.spells _ _ _ _ c.in_ok-write_all.ensures.ok c.in_ok-write_all.ensures.falls _ room c.in_err-write_run.ensures.err);
      refusal = rw (p.1, p.2) (run-refusal _ (whole_words made.result.rest.now) (take made.result.len made.new.buf) made.result.run.now made.ensures.spells _ _ _ _ c.in_ok-write_all.ensures.ok c.in_ok-write_all.ensures.falls contents room g.W.Write.may_grow c.in_err-write_run.field-0.0.kind c.in_err-write_run.ensures.refusal);
      count = search rules;
    }

pub returns : goal.returns
returns g c =
    let made = c.pack_groups-made in
    record {
      ok = group-written _ _ _ _ made.ensures.spells _ _ _ _ c.in_ok-write_all.ensures.ok c.in_ok-write_all.ensures.falls _ _ c.in_ok-write_run.ensures.ok c.in_ok-write_run.ensures.falls;
      whole = search rules;
      shorter = search rules;
      err = search rules;
      refusal = search rules;
      count = search rules;
    }
