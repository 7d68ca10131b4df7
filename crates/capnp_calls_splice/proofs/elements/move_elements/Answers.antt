-- The later elements are the rest of the list.
use Rattle.std.proofs.Common.{◌≡◌, ℕ, ◌+◌, ◌-◌, ◌*◌, length, take, drop, ap, sym, ◌∙◌, arith}
use Rattle.capnp_model.specs.Trees.{element_count}
use Rattle.capnp_model.specs.Encoding.{cells}
use Rattle.capnp_wire_canonical.specs.Writes.{words_view}
use Rattle.capnp_calls_splice.proofs.Segmenting.{part_is, part_put}
use Rattle.capnp_calls_splice.proofs.ElementParts.{cells_length}
use Rattle.capnp_calls_splice.proofs.elements.move_elements.Goals as goal

pub returns-clause-moved : goal.returns-clause-moved
returns-clause-moved c = λ n before after es x r room many fit e near far long is.
    let list = c.args.list in
    let xs = c.args.words.now in
    let ys = c.move_cells.new.slice in
    let d : ℕ = c.args.list.data_words in
    let k : ℕ = c.args.list.pointers in
    let behind : ℕ = c.args.index + 1 in
    let a : ℕ = list.first + behind * (d + k) in
    let m : ℕ = list.first + list.count * (d + k) - (list.first + behind * (d + k)) in
    let total : list.count * (d + k) ≡ element_count es * (d + k) + behind * (d + k) = ap (λ (z : ℕ). z * (d + k)) (sym many) ∙ omega arith in
    let size : element_count es * (d + k) ≡ m = omega arith in
    let own : length (cells before d k es) ≡ m = cells_length before d k es fit ∙ size in
    let part : words_view (take m (drop a xs)) ≡ cells before d k es = part_is xs n a m x (cells before d k es) r is long own in
    let new : words_view ys ≡ cells after d k es = c.move_cells.ensures.moved before after es (omega arith) e near far fit part in
    part_put xs ys n a m x (cells before d k es) r (cells after d k es) room is long own new (cells_length after d k es fit ∙ size)
