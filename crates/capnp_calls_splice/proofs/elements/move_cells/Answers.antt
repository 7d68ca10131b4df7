-- The pointers of one element more are shifted.
use Rattle.std.proofs.Common.{◌≡◌, ℕ, suc, ◌+◌, ◌-◌, ◌*◌, ◌%◌, ◌^◌, ◌≤◌, length, take, ap, sym, ◌∙◌, arith}
use Rattle.std.specs.Int.{from_le_bytes, w64}
use Rattle.std.proofs.Math.Nat.{mul-le-mul_left}
use Rattle.std.proofs.lemmas.List.{length-map, take_all, append-nil}
use Rattle.capnp_model.specs.Encoding.{cells}
use Rattle.capnp_wire_canonical.specs.Writes.{words_view}
use Rattle.capnp_calls_splice.proofs.Shifts.{Shift}
use Rattle.capnp_calls_splice.proofs.ElementShifts.{shift_cells, shift_next, part_length, cells_shifted}
use Rattle.capnp_calls_splice.proofs.elements.move_cells.Goals as goal

pub loop-i-preserved : goal.loop-i-preserved
loop-i-preserved c =
    let l = c.loop-i in
    let d : ℕ = c.args.list.data_words in
    let k : ℕ = c.args.list.pointers in
    let at : ℕ = l.i * (d + k) in
    let m : ℕ = at + d + k - (at + d) in
    let by : ℕ = (4 * c.args.new + (2 ^ 64 - 4 * c.args.old)) % 2 ^ 64 in
    let more : (d + k) * (l.i + 1) ≤ (d + k) * c.args.count = mul-le-mul_left (d + k) (omega arith) in
    let long = l.invariant.long in
    let size = c.requires.len in
    let room : at + (d + k) ≤ length l.slice = omega arith in
    record {
      long = part_length l.slice c.shift_all.new.slice (at + d) m (omega arith) c.shift_all.ensures.len ∙ l.invariant.long;
      left = λ r e. shift_next by d k r at m ((l.i + 1) * (d + k)) l.slice c.shift_all.new.slice (shift_cells by d k c.args.count (words_view c.args.slice.now)) room (omega arith) (omega arith) (l.invariant.left (suc r) (omega arith)) c.shift_all.ensures.words;
    }

pub returns-clause-moved : goal.returns-clause-moved
returns-clause-moved c = λ before after es n e near far fit is.
    let l = c.loop-i in
    let d : ℕ = c.args.list.data_words in
    let k : ℕ = c.args.list.pointers in
    let by : ℕ = (4 * c.args.new + (2 ^ 64 - 4 * c.args.old)) % 2 ^ 64 in
    let shift : Shift by c.args.old c.args.new = record { small = omega arith; is = omega arith; old_few = c.requires.few.0; new_few = c.requires.few.1 } in
    let all : l.i ≡ c.args.count = omega arith in
    let long : length (words_view l.slice) ≡ l.i * (d + k) = length-map l.slice (from_le_bytes w64) ∙ l.invariant.long ∙ c.requires.len ∙ ap (λ (z : ℕ). z * (d + k)) (sym all) in
    let whole : shift_cells by d k c.args.count (words_view c.args.slice.now) ≡ words_view l.slice =
    l.invariant.left 0 (omega arith) ∙ append-nil (take (l.i * (d + k)) (words_view l.slice)) ∙ take_all (l.i * (d + k)) (words_view l.slice) (omega arith) in
    sym whole ∙ ap (shift_cells by d k c.args.count) is ∙ ap (λ (z : ℕ). shift_cells by d k z (cells before d k es)) (sym n) ∙ cells_shifted by c.args.old c.args.new before after d k es shift e near far fit
