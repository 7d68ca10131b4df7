use Rattle.std.proofs.Common.{◌≡◌, ◌-◌, ◌*◌, ◌<◌, ℕ, Bool, true, ◌==◌, ◌&&◌, nat_lt, ap, sym, ◌∙◌, rules}
use Rattle.capnp_model.specs.Sections.{words_for, bits_at}
use Rattle.capnp_units.specs.Segments.{words_in}
use Rattle.capnp_wire_objects.specs.Places.{place_view}
use Rattle.capnp_wire.specs.Views.{section_at}
use Rattle.capnp_layout_builders.proofs.BlobEnds.{last_byte, last_is_there}
use Rattle.capnp_layout_builders.proofs.blobs.ends_in_zero.Goals as goal

pub returns-in-Some : goal.returns-in-Some
returns-in-Some g c =
    let s = words_in (g.A.ReaderArena.segments c.args.arena.now) in
    let p = place_view c.args.blob.start in
    let count : ℕ = c.args.blob.count in
    let some : 0 < count = search rules in
    let yes : nat_lt 0 count ≡ true = search rules in
    let is = c.bits_in.ensures ∙ sym (last_byte s p count c.in-Some.word some c.requires.0 (sym c.in-Some.ensures.word)) in
    ap (λ (n : ℕ). n == 0) is ∙ ap (λ (b : Bool). b && (bits_at (8 * (count - 1)) 8 (section_at s p (words_for (8 * count))) == 0)) (sym yes)

pub returns-in-None : goal.returns-in-None
returns-in-None g c =
    let s = words_in (g.A.ReaderArena.segments c.args.arena.now) in
    let count : ℕ = c.args.blob.count in
    let some : 0 < count = search rules in
    absurd (last_is_there s (place_view c.args.blob.start) count some c.requires.0 (sym c.in-None.ensures.word))
