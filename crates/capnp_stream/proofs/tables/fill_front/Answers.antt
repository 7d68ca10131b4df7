use Rattle.std.proofs.Common.{◌∙◌, ◌≡◌, ◌/◌, ◌++◌, List, ℕ, take, sym, subst}
use Rattle.std.specs.Result.{IfErr, OnOk, OnErr}
use Rattle.std.proofs.lemmas.List.{take_at}
use Rattle.capnp_units.specs.Segments.{whole_words}
use Rattle.capnp_stream.specs.Pieces.{TakesPiece, TakesPieceStart, IsPieceFault}
use Rattle.capnp_stream.proofs.tables.fill_front.Goals as goal

pub returns : goal.returns
returns g c =
    let result = c.read_piece.result in
    let old = g.R.Read.remaining c.args.source.now in
    let new = g.R.Read.remaining c.read_piece.new.source in
    let buf = c.read_piece.new.buf in
    let behind = c.split_at_mut-front.result.1.now in
    let size = c.split_at_mut-front.ensures.front_len in
    let taken : take c.args.len (buf ++ behind) ≡ buf = take_at buf behind c.args.len (c.read_piece.auto.buf ∙ size) in
    let Taken : List ℕ → Type 0 = λ l. OnOk result (TakesPiece g.F.MessageForm.reader old new (whole_words l)) in
    let Fault : ℕ → Type 0 = λ n. IfErr result (λ e. IsPieceFault g.F.MessageForm.reader (n / 8) old e.kind) in
    let Start : ℕ → Type 0 = λ n. OnErr result (TakesPieceStart g.F.MessageForm.reader (n / 8) old new) in
    let read = c.read_piece.ensures in
    record {
      ok = subst Taken (sym taken) read.ok;
      kind = subst Fault size read.kind;
      own = read.own;
      part = subst Start size read.part;
      count = read.count;
    }
