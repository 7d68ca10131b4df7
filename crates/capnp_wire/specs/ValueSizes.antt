-- The sizes of what readers stand at.
use Rattle.std.specs.Prelude.{◌≡◌, ℕ, ◌+◌, Bool, true, false, List, [], ◌∷◌, Option, Some, None, MatchOption, Result, Ok, Err}
use Rattle.capnp_model.specs.Kinds.{Kind}
use Rattle.capnp_model.specs.Sections.{words_for}
use Rattle.capnp_model.specs.Segments.{Segments, Place}
use Rattle.capnp_model.specs.Trees.{Tree, null}
use Rattle.capnp_model.specs.Traversal.{tree_at, each}
use Rattle.capnp_model.specs.Coverage.{from_each}
use Rattle.capnp_model.specs.Visits.{Visit, visits, faults_among}
use Rattle.capnp_model.specs.Sizes.{object_words, each_object_words, capability_count, each_capability_count}
use Rattle.capnp_units.specs.declared.errors.Error.{Error}
use Rattle.capnp_units.specs.declared.kinds.ErrorKind.TheVariants.{NestingLimitExceeded}
use Rattle.capnp_units.specs.declared.limiter.ReadLimiter.{ReadLimiter}
use Rattle.capnp_units.specs.declared.sizes.MessageSize.{MessageSize}
use Rattle.capnp_units.specs.Errors.{kind_of}
use Rattle.capnp_wire_objects.specs.Walks.{SizeGives, SizeCounts}
use Rattle.capnp_wire.specs.Views.{PointerView, StructView}

-- A size is returned where what is followed may cost nothing: then nothing is paid, and a refusal
-- is for the first fault.
abbrev pub SizeOn : {X : Type 0} → Bool → (X → ℕ) → (X → ℕ) → Option X → List Visit → ReadLimiter → Result MessageSize Error → ReadLimiter → Type 0
SizeOn true words capabilities there path old r new = SizeGives words capabilities there path old r new
SizeOn {X = X} false words capabilities there path old (Ok size) new = (x : X) × (there ≡ Some x) × SizeCounts (words x) (capabilities x) size × (new ≡ old)
SizeOn false words capabilities there path old (Err e) new = (more : List Kind) × (faults_among path ≡ kind_of e.kind ∷ more) × (new ≡ old)

-- Nothing has levels, so that every value is refused.
abbrev pub SizeWithoutLevels : ReadLimiter → Result MessageSize Error → ReadLimiter → Type 0
SizeWithoutLevels old r new = (r ≡ Err (record { kind = NestingLimitExceeded })) × (new ≡ old)

-- The tree of a pointer that may be none.
abbrev pub tree_behind : ℕ → Segments → Option Place → Option Tree
tree_behind n s None = Some null
tree_behind n s (Some p) = tree_at n s p

-- The visits of a walk from it.
abbrev pub visits_behind : ℕ → Segments → Option Place → List Visit
visits_behind n s None = []
visits_behind n s (Some p) = visits n s p

-- What is returned as the size of a pointer's value: the words of its objects and its capabilities.
abbrev pub PointerSize : PointerView → ReadLimiter → Result MessageSize Error → ReadLimiter → Type 0
PointerSize p old r new =
    let s = p.basis.segments in
    MatchOption p.levels (SizeWithoutLevels old r new) (λ n. SizeOn p.basis.paid object_words capability_count (tree_behind n s p.place) (visits_behind n s p.place) old r new)

-- What is returned as the size of a struct: its sections in whole words, the words of its pointers'
-- objects, and their capabilities. Its own words are not paid again.
abbrev pub StructSizeOf : StructView → ReadLimiter → Result MessageSize Error → ReadLimiter → Type 0
StructSizeOf v old r new =
    let s = v.basis.segments in
    MatchOption v.levels (SizeWithoutLevels old r new)
    (λ n. SizeOn v.basis.paid (λ ts. each_object_words ts + (words_for v.bits + v.pointers)) each_capability_count (each (tree_at n s) v.first v.pointers) (from_each (visits n s) v.first v.pointers) old r new)
