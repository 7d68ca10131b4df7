-- The pointers that a walk over a value follows, in the order of reading.
use Rattle.std.specs.Prelude.{ℕ, zero, suc, ◌+◌, ◌*◌, ◌==◌, if◌then◌else◌, List, [], ◌∷◌, Option, Some, None, Result, Ok, Err}
use Rattle.std.specs.Option.{ok_or}
use Rattle.capnp_model.specs.Kinds.{Kind, OutOfBounds, NestingLimitExceeded}
use Rattle.capnp_model.specs.Chains.{◌>>=◌}
use Rattle.capnp_model.specs.Sections.{words_for}
use Rattle.capnp_model.specs.Segments.{Segments, Place, after, words_at}
use Rattle.capnp_model.specs.Pointers.{Object, nothing, a_struct, a_list, a_capability, found_at}
use Rattle.capnp_model.specs.Trees.{Tree, null, capability, structure, plain_list, pointer_list, struct_list, Trees, none, ◌▸◌, Elements, no_elements, element, size_bits}
use Rattle.capnp_model.specs.Traversal.{tag_in, ListKind, of_bits, of_pointers, of_structs, list_kind, list_words}
use Rattle.capnp_model.specs.Coverage.{from_each, from_elements}

-- A pointer that is followed: the words of its pads and of the object there, or the kind of the fault.
abbrev pub Visit : Type 0
Visit = Result ℕ Kind

-- What a step gives, or its refusal.
abbrev pub visits_of : {A : Type 0} → (A → List Visit) → Result A Kind → List Visit
visits_of behind (Ok x) = behind x
visits_of behind (Err kind) = Err kind ∷ []

-- A list whose words these are, and the pointers in it; a list of voids costs its count, and so do structs without a word, beside their tag.
abbrev pub list_visits : (Place → List Visit) → ℕ → Place → ListKind → ℕ → ℕ → List ℕ → List Visit
list_visits below pads p of_bits size n ws = Ok (pads + (if size == 0 then n else words_for (size_bits size * n))) ∷ []
list_visits below pads p of_pointers size n ws = Ok (pads + n) ∷ from_each below p n
list_visits below pads p of_structs size n ws =
    visits_of (λ t. Ok (pads + (n + 1 + (if t.data_words + t.pointers == 0 then t.count else 0))) ∷ from_elements below (after p 1) t.data_words t.pointers t.count) (tag_in ws)

-- An object behind n words of pads, and the pointers in it, where its words are there.
abbrev pub object_visits : Segments → (Place → List Visit) → ℕ → Object → List Visit
object_visits s below pads nothing = Ok pads ∷ []
object_visits s below pads (a_capability i) = Ok pads ∷ []
object_visits s below pads (a_struct p d k) = visits_of (λ ws. Ok (pads + (d + k)) ∷ from_each below (after p d) k) (ok_or (words_at s p (d + k)) OutOfBounds)
object_visits s below pads (a_list p size n) = visits_of (list_visits below pads p (list_kind size) size n) (ok_or (words_at s p (list_words (list_kind size) size n)) OutOfBounds)

-- An object where no level is left.
abbrev pub leaf_visits : ℕ → Object → List Visit
leaf_visits pads nothing = Ok pads ∷ []
leaf_visits pads (a_capability i) = Ok pads ∷ []
leaf_visits pads _ = Err NestingLimitExceeded ∷ []

-- The pointer at a place, and those in its object, n levels deep; none is followed behind a fault.
unfoldable pub visits : ℕ → Segments → Place → List Visit
visits zero s p = visits_of (λ f. leaf_visits f.pads f.object) (found_at s p)
visits (suc n) s p = visits_of (λ f. object_visits s (visits n s) f.pads f.object) (found_at s p)

-- What visits cost together, where there is no fault.
abbrev pub visits_cost : List Visit → Option ℕ
visits_cost [] = Some 0
visits_cost (Err kind ∷ vs) = None
visits_cost (Ok n ∷ vs) = visits_cost vs >>= λ m. Some (n + m)

-- The kinds of the faults among visits.
abbrev pub faults_among : List Visit → List Kind
faults_among [] = []
faults_among (Err kind ∷ vs) = kind ∷ faults_among vs
faults_among (Ok n ∷ vs) = faults_among vs

unfoldable mutual
  -- How many pointers a walk over a value follows: the one that leads to it, and those in its objects at every depth, nulls included.
  pub pointers_of : Tree → ℕ
  pointers_of null = 1
  pointers_of (capability i) = 1
  pointers_of (structure words section kids) = 1 + each_pointers_of kids
  pointers_of (plain_list size n section) = 1
  pointers_of (pointer_list ts) = 1 + each_pointers_of ts
  pointers_of (struct_list words pointers es) = 1 + element_pointers_of es

  -- How many pointers a walk over values in a row follows.
  pub each_pointers_of : Trees → ℕ
  each_pointers_of none = 0
  each_pointers_of (t ▸ ts) = pointers_of t + each_pointers_of ts

  -- How many pointers a walk over the values in elements follows.
  pub element_pointers_of : Elements → ℕ
  element_pointers_of no_elements = 0
  element_pointers_of (element section kids es) = each_pointers_of kids + element_pointers_of es
