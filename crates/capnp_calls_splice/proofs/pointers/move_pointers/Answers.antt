-- Each is shifted by the difference.
use Rattle.std.proofs.Common.{ℕ, ◌+◌, ◌-◌, ◌*◌, ◌%◌, ◌^◌, map, ap, ◌∙◌, arith}
use Rattle.capnp_calls_splice.specs.Cells.{shifted}
use Rattle.capnp_calls_splice.proofs.Shifts.{Shift, links_shifted}
use Rattle.capnp_calls_splice.proofs.pointers.move_pointers.Goals as goal

pub returns-clause-moved : goal.returns-clause-moved
returns-clause-moved c = λ behind before after ts e near far fit is.
    let old : ℕ = c.args.old in
    let new : ℕ = c.args.new in
    let by : ℕ = (4 * new + (2 ^ 64 - 4 * old)) % 2 ^ 64 in
    let shift : Shift by old new = record { small = omega arith; is = omega arith; old_few = c.requires.0; new_few = c.requires.1 } in
    c.shift_all.ensures.words ∙ ap (map (shifted by)) is ∙ links_shifted by old new behind before after ts shift e near far fit
