-- The faults that following a pointer meets.
use Rattle.std.specs.Prelude.{ℕ, zero, suc, ◌+◌, List, [], ◌∷◌, Result, Ok, Err}
use Rattle.std.specs.Option.{ok_or}
use Rattle.capnp_model.specs.Kinds.{Kind, OutOfBounds, NestingLimitExceeded}
use Rattle.capnp_model.specs.Segments.{Segments, Place, after, words_at}
use Rattle.capnp_model.specs.Pointers.{Object, nothing, a_struct, a_list, a_capability, found_at}
use Rattle.capnp_model.specs.Traversal.{tag_in, ListKind, of_bits, of_pointers, of_structs, list_kind, list_words}
use Rattle.capnp_model.specs.Coverage.{from_each, from_elements}

-- The kind of a refused step, or the kinds that are met behind what it gives.
abbrev pub faults_of : {A : Type 0} → (A → List Kind) → Result A Kind → List Kind
faults_of behind (Ok x) = behind x
faults_of behind (Err kind) = kind ∷ []

-- The faults behind the pointers of a list whose words these are.
abbrev pub list_faults : (Place → List Kind) → Place → ListKind → ℕ → List ℕ → List Kind
list_faults below p of_bits n ws = []
list_faults below p of_pointers n ws = from_each below p n
list_faults below p of_structs n ws = faults_of (λ t. from_elements below (after p 1) t.data_words t.pointers t.count) (tag_in ws)

-- The faults of an object's words, and where they are there, behind its pointers.
abbrev pub object_faults : Segments → (Place → List Kind) → Object → List Kind
object_faults s below nothing = []
object_faults s below (a_capability i) = []
object_faults s below (a_struct p d k) = faults_of (λ ws. from_each below (after p d) k) (ok_or (words_at s p (d + k)) OutOfBounds)
object_faults s below (a_list p size n) = faults_of (list_faults below p (list_kind size) n) (ok_or (words_at s p (list_words (list_kind size) size n)) OutOfBounds)

-- The fault of an object that needs a level where none is left.
abbrev pub leaf_faults : Object → List Kind
leaf_faults nothing = []
leaf_faults (a_capability i) = []
leaf_faults _ = NestingLimitExceeded ∷ []

-- The kinds of all faults that following the pointer at a place meets, n levels deep, in the order of reading.
unfoldable pub faults_at : ℕ → Segments → Place → List Kind
faults_at zero s p = faults_of (λ f. leaf_faults f.object) (found_at s p)
faults_at (suc n) s p = faults_of (λ f. object_faults s (faults_at n s) f.object) (found_at s p)
