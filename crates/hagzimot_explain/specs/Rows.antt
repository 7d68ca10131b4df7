-- Values of the words of a message: a row for each segment.
use Rattle.std.specs.Prelude.{◌==◌, ◌&&◌, Bool, if◌then◌else◌, List, Option, Some, option_map, slice_get, Vec}
use Rattle.std.specs.declared.alloc.Global.{Global}
use Rattle.capnp_model.specs.Chains.{◌>>=◌}
use Rattle.capnp_model.specs.Segments.{Segments, Place, word_at}

-- The value of the word at a place.
abbrev pub value_of : {X : Type 0} → List (Vec X Global) → Place → Option X
value_of rows q = slice_get rows q.segment >>= λ row. slice_get row.items q.position

-- x for the word at a place, if the word is there.
abbrev pub for_word : {X : Type 0} → Segments → Place → X → Option X
for_word s q x = word_at s q >>= λ _. Some x

-- Whether two places are the same.
abbrev pub is_at : Place → Place → Bool
is_at p q = (p.segment == q.segment) && (p.position == q.position)

-- The value at q after the one at p is replaced, if there is one.
abbrev pub replaced : {X : Type 0} → Place → X → Place → Option X → Option X
replaced p x q old = if is_at p q then option_map (λ _. x) old else old
