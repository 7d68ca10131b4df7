use Rattle.std.proofs.Common.{ℕ, List, ◌+◌, ◌≡◌, length, string_bytes, OnOk, subst, rules}
use Rattle.capnp_model.specs.Sections.{number_of}
use Rattle.capnp_model.specs.Trees.{plain_list}
use Rattle.capnp_units.specs.Segments.{words_in}
use Rattle.capnp_wire_objects.specs.Places.{place_view}
use Rattle.capnp_copy_arenas.specs.Values.{Becomes}
use Rattle.capnp_layout_builders.proofs.traits.RefStringSetterInputTextOwned.set_pointer_builder.Goals as goal

pub returns-clause-value : goal.returns-clause-value
returns-clause-value g c =
    let s = words_in (g.A.ReaderArena.segments c.args.builder.memory.now.arena) in
    let u = words_in (g.A.ReaderArena.segments c.set_text.new.arena) in
    let same : c.as_bytes-bytes.result.now ≡ string_bytes c.args.value.now = search rules in
    subst (λ (b : List ℕ). OnOk c.set_text.result (Becomes s u (place_view c.args.builder.place) (plain_list 2 (length b + 1) (number_of 8 b)))) same c.set_text.ensures.value
