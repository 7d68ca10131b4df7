-- What is written into a struct under its schema. (Encoding, "Structs")
use Rattle.std.specs.Prelude.{◌≡◌, ℕ, ◌+◌, ◌^◌, ◌<◌, ◌≤◌, Option, Some, None, true, [], ◌∷◌}
use Rattle.std.specs.Option.{is_some}
use Rattle.capnp_model.specs.Segments.{Segments, words_at}
use Rattle.capnp_model.specs.Trees.{Trees, structure}
use Rattle.capnp_model.specs.Schemas.{Shape, words_of_shape, pointers_of_shape}
use Rattle.capnp_model.specs.Edits.{Edit, mark, is_kept, edit_if, cleared_body}
use Rattle.capnp_wire_objects.specs.Places.{place_view}
use Rattle.capnp_model_writes.specs.Footprints.{OwnsObject}
use Rattle.capnp_model.specs.Coverage.{span, times_held}
use Rattle.capnp_model_writes.specs.Changes.{Changes, ReplacesObject}
use Rattle.capnp_copy_arenas.specs.Structs.{object_of_struct}
use Rattle.capnp_copy_arenas.specs.declared.fields.StructPlace.{StructPlace}
use Rattle.capnp_values_queries.specs.Fields.{Entry, union_in}
use Rattle.capnp_values_queries.specs.Structs.{shape_of_struct}
use Rattle.capnp_values_queries.specs.Handles.{entry_of_field}
use Rattle.capnp_values_queries.specs.declared.fields.Field.{Field}

-- The struct's words are there.
pub record IsThere (s : Segments) (p : StructPlace) : Type 0 where
  pub words : is_some (words_at s (place_view p.start) (p.data_words + p.pointers)) ≡ true
  pub near : p.start.position + (p.data_words + p.pointers) < 2 ^ 61

-- The struct has at least the sizes of a shape.
pub record HoldsShape (p : StructPlace) (g : Shape) : Type 0 where
  pub words : words_of_shape g ≤ p.data_words
  pub pointers : pointers_of_shape g ≤ p.pointers

-- Whatever data and children the struct has become what the edit makes of them, and nothing else changes.
abbrev pub Edits : Segments → Segments → StructPlace → Edit → Type 0
Edits s u p f =
    (n section : ℕ) (kids : Trees) → OwnsObject n s (object_of_struct p) (structure p.data_words section kids)
    → let c = f (record { section = section; kids = kids }) in ReplacesObject n s u (object_of_struct p) (structure p.data_words c.section c.kids)

-- No words change but those of the struct's data section.
abbrev pub WritesData : Segments → Segments → StructPlace → Type 0
WritesData s u p = let c = times_held (span (place_view p.start) p.data_words ∷ []) in Changes s u c c

-- A field is made the active member of the union, if it is a member.
abbrev pub marked_in : Option ℕ → Option Entry → Edit
marked_in union None c = c
marked_in union (Some e) c = mark union e.member c

abbrev pub marked : Field → Edit
marked f = marked_in (union_in (shape_of_struct f.parent)) (entry_of_field f)

-- A field of a cleared group, which is left alone where it is a member but the member 0.
abbrev pub cleared_entry : Option Entry → Edit
cleared_entry None c = c
cleared_entry (Some e) c = edit_if (is_kept e.member) (cleared_body e.body) c
