-- Roots of messages whose bytes may be anything. (Encoding, "Messages")
use Rattle.std.specs.Prelude.{ℕ, ◌-◌, ◌/◌, nat_le, Bool, true, false, not, ◌&&◌, ◌||◌, List, [], ◌∷◌, Ok, Err}
use Rattle.std.specs.Result.{result_ok}
use Rattle.capnp_model.specs.Chains.{passes}
use Rattle.capnp_model.specs.Segments.{Segments, root}
use Rattle.capnp_model.specs.Pointers.{Object, nothing, a_struct, found_at}
use Rattle.capnp_model.specs.Visits.{Visit, visits}
use Rattle.capnp_units.specs.declared.kinds.ErrorKind.{ErrorKind}
use Rattle.capnp_units.specs.declared.kinds.ErrorKind.TheVariants.{ReadLimitExceeded}
use Rattle.hagzimot_salvage.specs.declared.roots.SalvageLimits.{SalvageLimits}

-- An object that can be a root: null, or a struct.
abbrev pub is_root : Object → Bool
is_root nothing = true
is_root (a_struct p d k) = true
is_root _ = false

-- The kind of a refusal that is no fault of the bytes.
abbrev pub is_limit : ErrorKind → Bool
is_limit ReadLimitExceeded = true
is_limit _ = false

-- Visits are followed until they cost more than `left` words. No fault is met, and those that end before cost at least `least` words.
abbrev pub is_clear : ℕ → ℕ → List Visit → Bool
is_clear left least [] = nat_le least 0
is_clear left least (Err kind ∷ vs) = false
is_clear left least (Ok words ∷ vs) = not (nat_le words left) || is_clear (left - words) (least - words) vs

-- Half of a message's words, without the first of its table and the root pointer.
abbrev pub half_of : ℕ → ℕ
half_of words = (words - 2) / 2

-- The root of a message of n words, its table among them, is null or a struct. No fault is met in the first words of its value, which takes half of the message or more.
unfoldable pub has_root : SalvageLimits → ℕ → Segments → Bool
has_root l words s = passes (λ f. is_root f.object) (result_ok (found_at s root)) && is_clear l.root_words (half_of words) (visits l.nesting s root)
