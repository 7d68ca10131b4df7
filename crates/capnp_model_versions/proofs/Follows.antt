-- What two schemas must have in common along a path, so that a call does the same under both.
use Rattle.std.proofs.Common.{◌≡◌, ℕ, ◌+◌, ◌*◌, ◌^◌, ◌<◌, ◌≤◌, true, false, ◌&&◌, List, [], ◌∷◌, Option, Some, None}
use Rattle.capnp_model.specs.Trees.{Tree}
use Rattle.capnp_model.specs.Schemas.{width, Ty, plain, struct, list, Shape, shape, Body, void_slot, plain_slot, pointer_slot, group_slot, Schema, default_or_null, words_of_shape}
use Rattle.capnp_model.specs.Calls.{Step, name, index, Verb}
use Rattle.capnp_model.specs.Steps.{target, target_of}
use Rattle.capnp_model.specs.Admitted.{is_group_write, is_set, is_struct_type}
use Rattle.capnp_model_versions.specs.Whole.{IsWhole}
use Rattle.capnp_model_versions.proofs.SameShapes.{SameType, SameBody}

-- The same mark of a union in both, or none.
abbrev pub SameMark : ℕ → Option ℕ → Option ℕ → Option ℕ → Option ℕ → Type 0
SameMark bits u None u' None = Unit {0}
SameMark bits (Some a) (Some k) (Some b) (Some j) = (a ≡ b) × (k ≡ j) × (a + 16 ≤ bits) × (k < 2 ^ 16)
SameMark bits u m u' m' = ⊥

-- A plain element is at most a word.
abbrev pub IsNarrow : Ty → Type 0
IsNarrow (plain p) = width p ≤ 64
IsNarrow ty = Unit {0}

module _ (o n : Schema) (verb : Verb) where
  -- the newer struct has no fewer words
  abbrev pub HasWords : Ty → Ty → Type 0
  HasWords (struct i) (struct j) = words_of_shape (o.shape_of i) ≤ words_of_shape (n.shape_of j)
  HasWords ty ty' = Unit {0}

  -- at the field of a name
  abbrev pub NameFollows : (ℕ → Body → Body → Type 0) → List ℕ → ℕ → Shape → Shape → Type 0
  NameFollows F l bits (shape nid w p u fs) (shape nid' w' p' u' fs') =
      (m : Option ℕ) (b : Body) (m' : Option ℕ) (b' : Body) → target_of l fs ≡ target m b → target_of l fs' ≡ target m' b' → SameMark bits u m u' m' × F bits b b'

  -- behind a pointer
  abbrev pub ValueFollows : Step → (ℕ → Body → Body → Type 0) → (Ty → Ty → Type 0) → Ty → Ty → Type 0
  ValueFollows (name l) F E (struct i) (struct j) = NameFollows F l (64 * words_of_shape (o.shape_of i)) (o.shape_of i) (n.shape_of j) × HasWords (struct i) (struct j)
  ValueFollows (index k) F E (list ty) (list ty') = E ty ty' × HasWords ty ty' × IsNarrow ty
  ValueFollows st F E ty ty' = Unit {0}

  -- through a pointer
  abbrev pub PointerFollows : Step → (ℕ → Body → Body → Type 0) → (Ty → Ty → Type 0) → ℕ → ℕ → ℕ → Ty → Ty → Option Tree → Option Tree → Type 0
  PointerFollows st F E bits i j ty ty' d d' = (i ≡ j) × SameType o n bits ty ty' × (default_or_null d ≡ default_or_null d') × IsWhole (default_or_null d) × ValueFollows st F E ty ty'

  -- through a field
  abbrev pub ThroughFollows : Step → (ℕ → Body → Body → Type 0) → (Ty → Ty → Type 0) → ℕ → Body → Body → Type 0
  ThroughFollows (name l) F E bits (group_slot g) (group_slot g') = NameFollows F l bits g g'
  ThroughFollows (index k) F E bits (group_slot g) (group_slot g') = Unit {0}
  ThroughFollows st F E bits (void_slot i) (void_slot j) = Unit {0}
  ThroughFollows st F E bits (plain_slot p at d) (plain_slot q at' d') = Unit {0}
  ThroughFollows st F E bits (pointer_slot i ty d) (pointer_slot j ty' d') = PointerFollows st F E bits i j ty ty' d d'
  ThroughFollows st F E bits b b' = ⊥

  -- at the end of a path
  abbrev pub EndFollows : ℕ → Body → Body → Type 0
  EndFollows bits (group_slot g) (group_slot g') = is_group_write verb ≡ true → SameBody o n bits (group_slot g) (group_slot g')
  EndFollows bits b b' = SameBody o n bits b b'

  abbrev mutual
    pub FieldFollows : List Step → ℕ → Body → Body → Type 0
    FieldFollows [] bits b b' = EndFollows bits b b'
    FieldFollows (st ∷ path) bits b b' = ThroughFollows st (FieldFollows path) (ElementFollows path) bits b b'

    pub ElementFollows : List Step → Ty → Ty → Type 0
    ElementFollows [] ty ty' = (is_set verb && is_struct_type ty) ≡ false
    ElementFollows (st ∷ path) ty ty' = ValueFollows st (FieldFollows path) (ElementFollows path) ty ty'
