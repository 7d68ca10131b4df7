-- What readers tell: whether what they stand at stands as its canonical words. (Encoding, "Canonicalization")
use Rattle.std.specs.Prelude.{◌≡◌, ℕ, ◌+◌, ◌*◌, Bool, true, false, None, MatchOption, Result, Ok, Err}
use Rattle.std.specs.Option.{is_some}
use Rattle.capnp_model.specs.Sections.{words_for}
use Rattle.capnp_model.specs.Segments.{Place, after, words_at}
use Rattle.capnp_model.specs.Trees.{Trees, have_capability}
use Rattle.capnp_model.specs.Traversal.{tree_at, each}
use Rattle.capnp_model.specs.Coverage.{from_each}
use Rattle.capnp_model.specs.Visits.{visits}
use Rattle.capnp_units.specs.declared.errors.Error.{Error}
use Rattle.capnp_units.specs.declared.kinds.ErrorKind.TheVariants.{NestingLimitExceeded}
use Rattle.capnp_units.specs.declared.limiter.ReadLimiter.{ReadLimiter}
use Rattle.capnp_units.specs.Limits.{limit_of}
use Rattle.capnp_wire_canonical.specs.Reaches.{reach}
use Rattle.capnp_wire_canonical.specs.Standing.{IsSmall}
use Rattle.capnp_wire_canonical.specs.Checks.{head_state, StandsStruct, Testing, Tells, TellsValue}
use Rattle.capnp_wire.specs.Views.{PointerView, StructView, section_at}

-- A walk under a limiter without a limit tells it, and nothing is paid.
pub record ToldFreely (told : ReadLimiter → ReadLimiter → Type 0) (old new : ReadLimiter) : Type 0 where
  pub start : ReadLimiter
  pub end : ReadLimiter
  pub endless : limit_of start ≡ None
  pub tells : told start end
  pub unpaid : new ≡ old

-- It is told by a walk that pays, or, of a default, by one that doesn't.
abbrev pub ToldOn : Bool → (ReadLimiter → ReadLimiter → Type 0) → ReadLimiter → ReadLimiter → Type 0
ToldOn true told old new = told old new
ToldOn false told old new = ToldFreely told old new

-- Under a negative nesting limit it is refused, and nothing is followed.
abbrev pub NoLevels : Result Bool Error → ReadLimiter → ReadLimiter → Type 0
NoLevels r old new = (r ≡ Err (record { kind = NestingLimitExceeded })) × (new ≡ old)

-- What is told of the value of a pointer: whether it stands, trimmed, from a head on. A pointer that stands nowhere doesn't.
abbrev pub PointerTells : PointerView → Place → ReadLimiter → Result Bool Error → Place → ReadLimiter → Type 0
PointerTells p head old r head' new =
    MatchOption p.levels (NoLevels r old new × (head' ≡ head))
    (λ n. MatchOption p.place ((r ≡ Ok false) × (head' ≡ head) × (new ≡ old)) (λ q. ToldOn p.basis.paid (λ l m. TellsValue (reach n p.basis.segments) q (head_state head l) r (head_state head' m)) old new))

-- The words of a struct's data section.
abbrev pub section_words : StructView → ℕ
section_words v = words_for v.bits

-- A struct's own words are those from a place on: its section, in whole words, then its pointers.
pub record LiesAt (v : StructView) (p : Place) : Type 0 where
  pub whole : v.bits ≡ 64 * section_words v
  pub there : is_some (words_at v.basis.segments p (section_words v + v.pointers)) ≡ true
  pub section : section_at v.basis.segments p (section_words v) ≡ v.section
  pub pointers : v.first ≡ after p (section_words v)

-- A struct stands as its canonical words: its own from a place on, and from a head on those of what its pointers lead to.
pub record StandsAs (v : StructView) (p head : Place) (ts : Trees) (end : ℕ) : Type 0 where
  pub own : LiesAt v p
  pub struct : StandsStruct v.basis.segments p (record { data_words = section_words v; pointers = v.pointers }) head ts end

-- Where the first of the two heads is left: behind the struct's own words on a yes, else where it was.
abbrev pub head_after : StructView → Place → Result Bool Error → Place
head_after v p (Ok true) = after p (section_words v + v.pointers)
head_after v p _ = p

-- A struct, from the two heads on, where n levels may be followed.
abbrev pub view_from : ℕ → StructView → Place → Place → Testing Trees
view_from n v p head = record {
  there = each (tree_at n v.basis.segments) v.first v.pointers;
  deeper = λ more. each (tree_at (more + n) v.basis.segments) v.first v.pointers;
  bad = have_capability;
  stands = StandsAs v p head;
  premise = IsSmall v.basis.segments v.first;
  path = from_each (visits n v.basis.segments) v.first v.pointers;
}

-- What is told of a struct that n levels may be followed from: whether it stands from two heads on.
-- One is that of its own words, the other that of what its pointers lead to.
abbrev pub StructTellsIn : ℕ → StructView → Place → Place → Result Bool Error → Place → ReadLimiter → ReadLimiter → Type 0
StructTellsIn n v p head r head' l m = Tells (view_from n v p head) (head_state head l) r (head_state head' m)

-- What is told of a struct, with both heads as they are left.
abbrev pub StructTells : StructView → Place → Place → ReadLimiter → Result Bool Error → Place → Place → ReadLimiter → Type 0
StructTells v p head old r p' head' new =
    MatchOption v.levels (NoLevels r old new × (p' ≡ p) × (head' ≡ head)) (λ n. (p' ≡ head_after v p r) × ToldOn v.basis.paid (StructTellsIn n v p head r head') old new)
