-- Fields that a path leads to, and the calls that leave them there.
use Rattle.std.specs.Prelude.{◌≡◌, ℕ, zero, suc, true, false, ◌==◌, Option, Some, List, [], ◌∷◌}
use Rattle.std.specs.Str.{bytes_eq}
use Rattle.capnp_model.specs.Schemas.{Ty, struct, list, Fields, Body, pointer_slot, group_slot, Schema}
use Rattle.capnp_model.specs.Readings.{Reading, inactive, list_of, record_as, Readings, no_readings, ◌▹◌}
use Rattle.capnp_model.specs.Printing.{fields_in}
use Rattle.capnp_model.specs.Calls.{Step, name, index}
use Rattle.capnp_model.specs.Steps.{target, target_of, entry_of}

-- The element at an index.
abbrev pub element_of : ℕ → Readings → Reading
element_of k no_readings = inactive
element_of zero (r ▹ rs) = r
element_of (suc k) (r ▹ rs) = element_of k rs

-- What a path leads to; `inactive` where it ends before, or at a union member that isn't the active one.
abbrev pub reading_at : List Step → Reading → Reading
reading_at [] r = r
reading_at (name n ∷ path) (record_as r) = reading_at path (entry_of n r)
reading_at (index k ∷ path) (list_of rs) = reading_at path (element_of k rs)
reading_at _ _ = inactive

-- The path leads to a field or an element; every union member on it is the active one.
abbrev pub IsActiveAt : List Step → Reading → Type 0
IsActiveAt path r = reading_at path r ≡ inactive → ⊥

-- Both are members of a union.
abbrev pub AreMembers : Option ℕ → Option ℕ → Type 0
AreMembers (Some k) (Some m) = Unit {0}
AreMembers _ _ = ⊥

-- The two paths go on at names: where these are one, so do both behind its field; else a call that ends here writes no other member of a union.
abbrev pub SparesName : (List Step → Body → Type 0) → List ℕ → List Step → List ℕ → List Step → Fields → Type 0
SparesName behind n path m way fs = (member other : Option ℕ) (body last : Body) → target_of n fs ≡ target member body → target_of m fs ≡ target other last
    → (bytes_eq n m ≡ true → behind way body) × (bytes_eq n m ≡ false → path ≡ [] → AreMembers member other → ⊥)

-- As SparesName, of a step into a pointer's value or an element.
abbrev pub SparesValue : Schema → Step → List Step → (List Step → Body → Type 0) → (List Step → Ty → Type 0) → List Step → Ty → Type 0
SparesValue s (name n) path f e (name m ∷ way) (struct id) = SparesName f n path m way (fields_in (s.shape_of id))
SparesValue s (index k) path f e (index j ∷ way) (list ty) = (k == j) ≡ true → e way ty
SparesValue s step path f e way ty = Unit {0}

-- As SparesName, of a step through a field.
abbrev pub SparesField : Schema → Step → List Step → (List Step → Body → Type 0) → (List Step → Ty → Type 0) → List Step → Body → Type 0
SparesField s step path f e way (pointer_slot i ty d) = SparesValue s step path f e way ty
SparesField s (name n) path f e (name m ∷ way) (group_slot g) = SparesName f n path m way (fields_in g)
SparesField s step path f e way body = Unit {0}

abbrev mutual
  -- From a field on, which is on both paths: a call that ends here writes it whole.
  pub SparesBehind : Schema → List Step → List Step → Body → Type 0
  SparesBehind s [] way body = ⊥
  SparesBehind s (st ∷ path) way body = SparesField s st path (SparesBehind s path) (SparesElement s path) way body

  -- From an element on, which is on both paths: a call that ends here writes it whole.
  pub SparesElement : Schema → List Step → List Step → Ty → Type 0
  SparesElement s [] way ty = ⊥
  SparesElement s (st ∷ path) way ty = SparesValue s st path (SparesBehind s path) (SparesElement s path) way ty

-- A call along the first path writes nothing that the second goes through, both from a struct on.
-- It writes no field or element on it, and no other member of a union whose member is on it.
abbrev pub Spares : Schema → List Step → List Step → Fields → Type 0
Spares s (name n ∷ path) (name m ∷ way) fs = SparesName (SparesBehind s path) n path m way fs
Spares s path way fs = Unit {0}
