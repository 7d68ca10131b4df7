use Rattle.capnp_stream.proofs.lemmas.ShownLemmas.{HoldsMessage-shown}
use Rattle.capnp_stream.proofs.forms.FramedMessageForm.read_shown.Goals as goal

pub returns-clause-message : goal.returns-clause-message
returns-clause-message g c =
    HoldsMessage-shown c.args.limit (g.R.Read.remaining c.args.source.now) (g.R.Read.remaining c.fill_buf.follows.lender-at-none) (g.R.Read.remaining c.consume.new.self) c.in_ok-fill_buf.field-0.now c.lay_message.new.buffer c.in-Some.info
    c.in-Some.ensures c.fill_buf.follows.holds-at-none.0 c.in_ok-fill_buf.ensures.front c.consume.ensures.bytes
