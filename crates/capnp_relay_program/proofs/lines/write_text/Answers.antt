use Rattle.capnp_relay_program.proofs.lines.write_text.Goals as goal

pub returns : goal.returns
returns g c =
    let w = c.write_all.ensures in
    record { ok = w.ok; falls = w.falls; err = w.err; refusal = w.refusal; count = w.count }
