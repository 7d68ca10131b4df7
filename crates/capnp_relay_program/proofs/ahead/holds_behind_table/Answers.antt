use Rattle.std.proofs.Common.{◌≡◌, ◌+◌, ◌/◌, ◌%◌, ◌^◌, length, Ok, subst, ◌∙◌, arith}
use Rattle.capnp_units.specs.Segments.{whole_words}
use Rattle.capnp_model.proofs.lemmas.WordsInBytes.{words_in_bytes-length}
use Rattle.capnp_relay_program.proofs.Tables.{behind_is_told, piece_is_read}
use Rattle.capnp_relay_program.proofs.ahead.holds_behind_table.Goals as goal

pub returns : goal.returns
returns g c = λ holds limit.
    let read = g.F.MessageForm.reader in
    let w = c.args.first in
    let behind = c.args.bytes.now in
    let left = c.read_piece.new.source.now in
    let table = c.read_piece.new.buf in
    let count : length (whole_words table) ≡ (w % 2 ^ 32 + 1) / 2 = words_in_bytes-length (length table / 8) table ∙ omega arith in
    let reads_others : read ((w % 2 ^ 32 + 1) / 2) behind ≡ Ok (whole_words table, left) = subst (λ n. read n behind ≡ Ok (whole_words table, left)) count (piece_is_read read behind left (whole_words table) c.in-Ok.ensures.ok) in
    behind_is_told read limit w behind (whole_words table) left reads_others
    (λ n few. c.holds_words.ensures holds n (omega (arith, few, c.sum_of_halves.ensures.sum)))
