-- The pad is that of the word.
use Rattle.std.proofs.Common.{◌≡◌, ◌∙◌, refl}
use Rattle.capnp_model.specs.Segments as model
use Rattle.capnp_model.specs.Pointers.{to_pad}
use Rattle.capnp_wire_objects.specs.declared.place.Place.{Place}
use Rattle.capnp_wire_objects.specs.declared.word_pointer.WordPointer.{WordPointer}
use Rattle.capnp_wire_objects.specs.declared.word_pointer.WordPointer.TheVariants as word
use Rattle.capnp_wire_objects.specs.Places.{pointer_view}
use Rattle.capnp_wire_objects.proofs.near.short_pad.Goals as goal

no_pad : (x : WordPointer) → ((pad : Place) → x ≡ word.Far pad → ⊥) → (q : model.Place) → pointer_view x ≡ to_pad 1 q → ⊥
no_pad (word.Struct o d k) h q e = absurd cc
no_pad (word.List o size n) h q e = absurd cc
no_pad (word.Far pad) h q e = h pad refl
no_pad (word.DoubleFar pad) h q e = absurd cc
no_pad (word.Capability i) h q e = absurd cc
no_pad word.Unknown h q e = absurd cc

pub returns-in_default-clause-others : goal.returns-in_default-clause-others
returns-in_default-clause-others c = λ none pad e. no_pad c.pointer_of_word.result c.in_default.not-Far pad (c.pointer_of_word.ensures ∙ e)
