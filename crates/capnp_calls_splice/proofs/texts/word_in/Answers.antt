-- Eight bytes are a word, the first its lowest.
use Rattle.std.proofs.Common.{ℕ, ◌-◌, ◌*◌, ◌%◌, ◌^◌, List, drop, take, length, replicate, refl, ap, ◌∙◌, rules}
use Rattle.std.specs.Int.{from_le_bytes, w64}
use Rattle.std.proofs.lemmas.List.{take_rest}
use Rattle.std.proofs.lemmas.Nat.{from_le_bytes-to_le_bytes_8}
use Rattle.capnp_model.specs.Sections.{number_of}
use Rattle.capnp_calls_splice.proofs.ByteNumbers.{part_word, bytes_from}
use Rattle.capnp_calls_splice.proofs.texts.word_in.Goals as goal

pub returns : goal.returns
returns c =
    let bs = c.args.bytes.now in
    let at : ℕ = 8 * c.args.i in
    let rest : List ℕ = take (length bs - at) (drop at bs) in
    let m : ℕ = c.min.result in
    ap (from_le_bytes w64) c.to_le_bytes.ensures ∙ from_le_bytes-to_le_bytes_8 c.get.result c.get.type_inv ∙ c.get.ensures.value
    ∙ part_word rest (take m rest) (replicate 8 0) _ m c.min.ensures refl refl (search rules)
    ∙ ap (λ (xs : List ℕ). number_of 8 xs % 2 ^ 64) (take_rest bs at) ∙ bytes_from bs c.args.i
