-- Values that are cleared.
use Rattle.std.specs.Prelude.{◌≡◌, ℕ, zero, suc, ◌+◌, if◌then◌else◌, List, [], ◌∷◌, replicate}
use Rattle.std.specs.Option.{is_some}
use Rattle.capnp_model.specs.Segments.{Segments, Place, words_at}
use Rattle.capnp_model.specs.Pointers.{Object, a_struct, a_list}
use Rattle.capnp_model.specs.Trees.{Tree, null, structure, struct_list, Trees, none, resized, Elements}
use Rattle.capnp_model_writes.specs.Footprints.{object_footprint, Owns, OwnsObject}
use Rattle.capnp_model_writes.specs.Changes.{Changes, Replaces, ReplacesObject}
use Rattle.capnp_model_writes.specs.Children.{childless}
use Rattle.capnp_model_writes.specs.Writes.{with_words}

-- How many of the words aren't zero.
unfoldable pub nonzero_of : List ℕ → ℕ
nonzero_of [] = 0
nonzero_of (zero ∷ ws) = nonzero_of ws
nonzero_of (suc w ∷ ws) = 1 + nonzero_of ws

-- How many words of all segments aren't zero.
unfoldable pub nonzero_words : Segments → ℕ
nonzero_words [] = 0
nonzero_words (ws ∷ s) = nonzero_of ws + nonzero_words s

-- The segments with zeros in place of n words, where they are there.
abbrev pub zeroed_there : Segments → Place → ℕ → Segments
zeroed_there s p n = if is_some (words_at s p n) then with_words s p (replicate n 0) else s

-- Whatever value is owned there becomes null: all its words, with those of its pads, become zero, and nothing else changes.
abbrev pub ClearsValue : Segments → Segments → Place → Type 0
ClearsValue s u p = (n : ℕ) (t : Tree) → Owns n s p t → Replaces n s u p null

-- All words that the object and the values in it own become zero, and nothing else changes.
abbrev pub ClearsObject : Segments → Segments → Object → Type 0
ClearsObject s u o = (n : ℕ) (t : Tree) → OwnsObject n s o t → Changes s u (object_footprint n s o) (λ q. 0)

-- The children of a struct become null.
abbrev pub ClearsKids : Segments → Segments → Place → ℕ → ℕ → Type 0
ClearsKids s u p d k = (n w section : ℕ) (kids : Trees) → OwnsObject n s (a_struct p d k) (structure w section kids) → ReplacesObject n s u (a_struct p d k) (structure w section (resized k none))

-- The children of a list's structs become null.
abbrev pub ClearsElements : Segments → Segments → Place → ℕ → Type 0
ClearsElements s u p m = (n d k : ℕ) (es : Elements) → OwnsObject n s (a_list p 7 m) (struct_list d k es) → ReplacesObject n s u (a_list p 7 m) (struct_list d k (childless k es))
