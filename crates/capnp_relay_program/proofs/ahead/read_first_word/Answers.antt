use Rattle.std.proofs.Common.{◌≡◌, ◌*◌, [], ◌∷◌, length, Ok, ap, sym, subst, ◌∙◌, arith}
use Rattle.capnp_units.specs.Segments.{whole_words}
use Rattle.capnp_stream.proofs.lemmas.WordLemmas.{whole_words-of_length}
use Rattle.capnp_relay_program.proofs.Tables.{none_is_read, piece_is_read}
use Rattle.capnp_relay_program.proofs.ahead.read_first_word.Goals as goal

pub returns-in-Ok : goal.returns-in-Ok
returns-in-Ok g c =
    let read = g.F.MessageForm.reader in
    let bytes = c.args.bytes.now in
    let behind = c.read_piece.new.source.now in
    let first = c.read_piece.new.buf in
    let w = c.from_le_bytes.result in
    let eight : length first ≡ 8 * 1 = omega arith in
    let one_word : whole_words first ≡ w ∷ [] = whole_words-of_length 1 first eight ∙ ap (λ n. n ∷ []) (sym c.from_le_bytes.ensures) in
    subst (λ ws. read (length ws) bytes ≡ Ok (ws, behind)) one_word (piece_is_read read bytes behind (whole_words first) c.in-Ok.ensures.ok)

pub returns-in-Err : goal.returns-in-Err
returns-in-Err g c = none_is_read g.F.MessageForm.reader 1 c.args.bytes.now c.in-Err.field-0.kind c.in-Err.ensures.count c.in-Err.ensures.kind
