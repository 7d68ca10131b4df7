use Rattle.capnp_stream_packed.proofs.ReadLemmas.{Reads-shown}
use Rattle.capnp_stream_packed.proofs.unpacking.shown_words.Goals as goal

pub returns-clause-words : goal.returns-clause-words
returns-clause-words g c =
    Reads-shown c.args.run (g.R.Read.remaining c.args.source.now) (g.R.Read.remaining c.fill_buf.follows.lender-at-none) (g.R.Read.remaining c.consume.new.self) c.in_ok-fill_buf.field-0.now c.of_shown-step.new.buf c.of_shown-step.result
    c.of_shown-step.ensures c.fill_buf.follows.holds-at-none.0 c.in_ok-fill_buf.ensures.front c.consume.ensures.bytes
