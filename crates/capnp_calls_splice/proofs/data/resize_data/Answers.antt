-- Zeros are added behind the data, or dropped there.
use Rattle.std.proofs.Common.{◌≡◌, ℕ, ◌+◌, ◌-◌, length, take, drop, sym, ◌∙◌, arith}
use Rattle.std.specs.Int.{from_le_bytes, w64}
use Rattle.std.proofs.lemmas.List.{length-map, length-take, length-drop}
use Rattle.std.proofs.lemmas.Simd.{splat_is_map}
use Rattle.capnp_wire_canonical.specs.Writes.{words_view}
use Rattle.capnp_calls_splice.proofs.Resizing.{grown, shrunk}
use Rattle.capnp_calls_splice.proofs.data.resize_data.Goals as goal

pub returns-then-tail-end-clause-stands : goal.returns-then-tail-end-clause-stands
returns-then-tail-end-clause-stands c = λ f cell st small.
    let a = c.args.area in
    let w : ℕ = c.args.wide in
    let q : ℕ = c.args.count - (a.at + a.data_words) in
    let own = c.requires.inside.own in
    let part = take (a.at + w - (a.at + a.data_words)) (drop (a.at + a.data_words) c.move_tail.new.words) in
    let size : length part ≡ w - a.data_words = length-take (a.at + w - (a.at + a.data_words)) (drop (a.at + a.data_words) c.move_tail.new.words) ∙ (let l = length-drop (a.at + a.data_words) c.move_tail.new.words in let m = c.move_tail.ensures.len in omega arith) in
    grown a f cell c.args.count w q (a.at + w - (a.at + a.data_words)) c.args.words.now c.move_tail.new.words c.zero_words.new.slice st c.requires.inside.inside (omega arith) small (omega arith) (omega arith)
    c.move_tail.ensures.words (c.zero_words.ensures.len ∙ size)
    (c.zero_words.ensures.zeros ∙ sym (splat_is_map (words_view part) (w - a.data_words) 0 (length-map part (from_le_bytes w64) ∙ size))) (omega arith)

pub returns-else-tail-end-clause-stands : goal.returns-else-tail-end-clause-stands
returns-else-tail-end-clause-stands c = λ f cell st small.
    let a = c.args.area in
    let w : ℕ = c.args.wide in
    let q : ℕ = c.args.count - (a.at + a.data_words) in
    let own = c.requires.inside.own in
    shrunk a f cell c.args.count w q c.args.words.now c.move_tail.new.words st c.requires.inside.inside (omega arith) small (omega arith) c.move_tail.ensures.words
