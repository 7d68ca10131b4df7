-- Where the elements of a list lie, by the number of their size, and for structs by their data words and pointers. (Encoding, "Lists")
use Rattle.std.specs.Prelude.{ℕ, ◌+◌, ◌*◌, ◌==◌, if◌then◌else◌}
use Rattle.capnp_units.specs.Sizes.{data_bits, pointer_count}

-- The bits from one element to the next; those of pointers aren't counted.
abbrev pub step_bits : ℕ → ℕ → ℕ → ℕ
step_bits size d k = if size == 7 then 64 * (d + k) else data_bits size

-- The bits of data in an element.
abbrev pub element_bits : ℕ → ℕ → ℕ
element_bits size d = if size == 7 then 64 * d else data_bits size

-- The words from the pointers of one element to those of the next, where it has some.
abbrev pub step_words : ℕ → ℕ → ℕ → ℕ
step_words size d k = if size == 7 then d + k else pointer_count size

-- The pointers in an element.
abbrev pub element_pointers : ℕ → ℕ → ℕ
element_pointers size k = if size == 7 then k else pointer_count size
