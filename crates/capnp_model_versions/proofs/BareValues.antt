-- Values without a capability, by parts.
use Rattle.std.proofs.Common.{◌≡◌, ℕ, zero, suc, false, refl}
use Rattle.capnp_model.specs.Trees.{Tree, null, capability, structure, plain_list, pointer_list, struct_list, Trees, none, ◌▸◌, Elements, no_elements, element, child, with_child, resized, padded_to, widened, has_capability, have_capability, elements_have_capability}
use Rattle.capnp_model.proofs.lemmas.Tests.{neither}

abbrev mutual
  -- There is no capability in a value.
  pub IsBare : Tree → Type 0
  IsBare null = Unit {0}
  IsBare (capability i) = ⊥
  IsBare (structure w n ts) = AreBare ts
  IsBare (plain_list z n x) = Unit {0}
  IsBare (pointer_list ts) = AreBare ts
  IsBare (struct_list w p es) = HaveBare es

  -- There is none in values in a row.
  pub AreBare : Trees → Type 0
  AreBare none = Unit {0}
  AreBare (t ▸ ts) = IsBare t × AreBare ts

  -- There is none in elements.
  pub HaveBare : Elements → Type 0
  HaveBare no_elements = Unit {0}
  HaveBare (element n ts es) = AreBare ts × HaveBare es

mutual
  unfolding has_capability

  pub is-bare : (t : Tree) → has_capability t ≡ false → IsBare t
  is-bare null h = tt
  is-bare (capability i) h = absurd (cc h)
  is-bare (structure w n ts) h = are-bare ts h
  is-bare (plain_list z n x) h = tt
  is-bare (pointer_list ts) h = are-bare ts h
  is-bare (struct_list w p es) h = have-bare es h

  are-bare : (ts : Trees) → have_capability ts ≡ false → AreBare ts
  are-bare none h = tt
  are-bare (t ▸ ts) h = let b = neither (has_capability t) (have_capability ts) h in (is-bare t b.0, are-bare ts b.1)

  have-bare : (es : Elements) → elements_have_capability es ≡ false → HaveBare es
  have-bare no_elements h = tt
  have-bare (element n ts es) h = let b = neither (have_capability ts) (elements_have_capability es) h in (are-bare ts b.0, have-bare es b.1)

mutual
  unfolding has_capability

  pub has-none : (t : Tree) → IsBare t → has_capability t ≡ false
  has-none null h = refl
  has-none (capability i) h = absurd h
  has-none (structure w n ts) h = have-none ts h
  has-none (plain_list z n x) h = refl
  has-none (pointer_list ts) h = have-none ts h
  has-none (struct_list w p es) h = elements-have-none es h

  have-none : (ts : Trees) → AreBare ts → have_capability ts ≡ false
  have-none none h = refl
  have-none (t ▸ ts) h = rw (has-none t h.0, have-none ts h.1) refl

  elements-have-none : (es : Elements) → HaveBare es → elements_have_capability es ≡ false
  elements-have-none no_elements h = refl
  elements-have-none (element n ts es) h = rw (have-none ts h.0, elements-have-none es h.1) refl

-- ---- children

pub bare-with : (ts : Trees) (i : ℕ) (t : Tree) → AreBare ts → IsBare t → AreBare (with_child ts i t)
bare-with none zero t h k = (k, tt)
bare-with none (suc i) t h k = (tt, bare-with none i t tt k)
bare-with (u ▸ ts) zero t h k = (k, h.1)
bare-with (u ▸ ts) (suc i) t h k = (h.0, bare-with ts i t h.1 k)

pub bare-padded : (p : ℕ) (ts : Trees) → AreBare ts → AreBare (padded_to p ts)
bare-padded zero ts h = h
bare-padded (suc p) none h = (tt, bare-padded p none tt)
bare-padded (suc p) (t ▸ ts) h = (h.0, bare-padded p ts h.1)

pub bare-resized : (p : ℕ) (ts : Trees) → AreBare ts → AreBare (resized p ts)
bare-resized zero ts h = tt
bare-resized (suc p) none h = (tt, bare-resized p none tt)
bare-resized (suc p) (t ▸ ts) h = (h.0, bare-resized p ts h.1)

pub bare-child : (ts : Trees) (i : ℕ) → AreBare ts → IsBare (child ts i)
bare-child none i h = tt
bare-child (t ▸ ts) zero h = h.0
bare-child (t ▸ ts) (suc i) h = bare-child ts i h.1

pub bare-widened : (w p : ℕ) (t : Tree) → IsBare t → IsBare (widened w p t)
bare-widened w p null h = bare-resized p none tt
bare-widened w p (capability i) h = h
bare-widened w p (structure x n ts) h = bare-padded p ts h
bare-widened w p (plain_list z n x) h = h
bare-widened w p (pointer_list ts) h = h
bare-widened w p (struct_list x q es) h = h
