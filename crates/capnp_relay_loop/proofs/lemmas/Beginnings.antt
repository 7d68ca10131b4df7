-- Messages at the front of bytes.
use Rattle.std.proofs.Common.{ℕ, List, [], ◌∷◌, ◌++◌, ap}
use Rattle.std.specs.declared.option.Option.{Option}
use Rattle.capnp_model.specs.Segments.{Segments}
use Rattle.capnp_model.specs.Messages.{Reader}
use Rattle.capnp_model.specs.Runs.{BeginWith}
use Rattle.capnp_stream.specs.Pieces.{ReadsFronts}
use Rattle.capnp_stream.proofs.lemmas.PieceLemmas.{message_more}

-- bytes that follow are left
pub BeginWith-more : (read : Reader) → ReadsFronts read → (limit : Option ℕ) (bytes : List ℕ) (messages : List Segments) (rest more : List ℕ) → BeginWith read limit bytes messages rest → BeginWith read limit (bytes ++ more) messages (rest ++ more)
BeginWith-more read fronts limit bytes [] rest more begins = ap (λ l. l ++ more) begins
BeginWith-more read fronts limit bytes (s ∷ messages) rest more begins =
    (begins.0 ++ more, message_more read fronts limit more bytes (s, begins.0) begins.1, BeginWith-more read fronts limit begins.0 messages rest more begins.2)
