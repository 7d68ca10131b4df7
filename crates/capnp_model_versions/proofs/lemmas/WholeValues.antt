-- Values whose sections lie within their words.
use Rattle.capnp_model.specs.Trees.{Tree, null, capability, structure, plain_list, pointer_list, struct_list, Trees, none, ◌▸◌, Elements, no_elements, element, child, with_child, padded_to, resized}
use Rattle.std.proofs.Common.{ℕ, zero, suc, ◌*◌, ◌≤◌, arith}
use Rattle.capnp_model.specs.Fits.{Fits, FitEach, FitElements}
use Rattle.capnp_model.specs.Trimming.{after_stripping, stripped, common_words, with_pointers, trim, trim_each, trim_elements}
use Rattle.capnp_model.proofs.lemmas.Numbers.{wider, needed_words_hold}
use Rattle.capnp_model_versions.specs.Whole.{IsWhole, AreWhole, HaveWhole}

mutual
  pub fits-whole : (t : Tree) → Fits t → IsWhole t
  fits-whole null h = tt
  fits-whole (capability i) h = tt
  fits-whole (structure w n ts) h = (h.2, fit-whole ts h.3)
  fits-whole (plain_list z n k) h = tt
  fits-whole (pointer_list ts) h = fit-whole ts h.1
  fits-whole (struct_list d k es) h = elements-whole d k es h.4

  fit-whole : (ts : Trees) → FitEach ts → AreWhole ts
  fit-whole none h = tt
  fit-whole (t ▸ ts) h = (fits-whole t h.0, fit-whole ts h.1)

  elements-whole : (d k : ℕ) (es : Elements) → FitElements d k es → HaveWhole d es
  elements-whole d k no_elements h = tt
  elements-whole d k (element n ts es) h = (h.0, fit-whole ts h.2, elements-whole d k es h.3)

-- ---- children

pub whole-child : (ts : Trees) (i : ℕ) → AreWhole ts → IsWhole (child ts i)
whole-child none i h = tt
whole-child (t ▸ ts) zero h = h.0
whole-child (t ▸ ts) (suc i) h = whole-child ts i h.1

pub whole-with_child : (ts : Trees) (i : ℕ) (t : Tree) → AreWhole ts → IsWhole t → AreWhole (with_child ts i t)
whole-with_child none zero t h k = (k, tt)
whole-with_child none (suc i) t h k = (tt, whole-with_child none i t tt k)
whole-with_child (u ▸ ts) zero t h k = (k, h.1)
whole-with_child (u ▸ ts) (suc i) t h k = (h.0, whole-with_child ts i t h.1 k)

pub whole-padded_to : (p : ℕ) (ts : Trees) → AreWhole ts → AreWhole (padded_to p ts)
whole-padded_to zero ts h = h
whole-padded_to (suc p) none h = (tt, whole-padded_to p none tt)
whole-padded_to (suc p) (t ▸ ts) h = (h.0, whole-padded_to p ts h.1)

pub whole-resized : (p : ℕ) (ts : Trees) → AreWhole ts → AreWhole (resized p ts)
whole-resized zero ts h = tt
whole-resized (suc p) none h = (tt, whole-resized p none tt)
whole-resized (suc p) (t ▸ ts) h = (h.0, whole-resized p ts h.1)

whole_after : (u : Tree) (rest : Trees) → IsWhole u → AreWhole rest → AreWhole (after_stripping u rest)
whole_after null none f g = tt
whole_after null (a ▸ b) f g = (f, g)
whole_after (capability k) rest f g = (f, g)
whole_after (structure w n k) rest f g = (f, g)
whole_after (plain_list z n k) rest f g = (f, g)
whole_after (pointer_list k) rest f g = (f, g)
whole_after (struct_list w p k) rest f g = (f, g)

whole-stripped : (ts : Trees) → AreWhole ts → AreWhole (stripped ts)
whole-stripped none h = tt
whole-stripped (t ▸ ts) h = whole_after t (stripped ts) h.0 (whole-stripped ts h.1)

pub whole-more : (w v : ℕ) (es : Elements) → w ≤ v → HaveWhole w es → HaveWhole v es
whole-more w v no_elements le h = tt
whole-more w v (element n ts es) le h = (wider n (64 * w) (64 * v) (omega arith) h.0, h.1, whole-more w v es le h.2)

-- the least list of whole elements
least-whole : (d c p : ℕ) (es : Elements) → common_words d es ≤ c → HaveWhole d es → HaveWhole c (with_pointers p es)
least-whole d c p no_elements le h = tt
least-whole d c p (element n ts es) le h =
    (wider n (64 * _) (64 * c) (omega arith) (needed_words_hold d n h.0), whole-resized p ts h.1, least-whole d c p es (omega arith) h.2)

-- ---- a trimmed value is whole

mutual
  unfolding trim

  pub whole-trim : (t : Tree) → IsWhole t → IsWhole (trim t)
  whole-trim null h = tt
  whole-trim (capability i) h = tt
  whole-trim (structure w n ts) h = (needed_words_hold w n h.0, whole-stripped (trim_each ts) (whole-trim_each ts h.1))
  whole-trim (plain_list z n k) h = tt
  whole-trim (pointer_list ts) h = whole-trim_each ts h
  whole-trim (struct_list d k es) h = least-whole d _ _ (trim_elements es) (omega arith) (whole-trim_elements d es h)

  pub whole-trim_each : (ts : Trees) → AreWhole ts → AreWhole (trim_each ts)
  whole-trim_each none h = tt
  whole-trim_each (t ▸ ts) h = (whole-trim t h.0, whole-trim_each ts h.1)

  pub whole-trim_elements : (d : ℕ) (es : Elements) → HaveWhole d es → HaveWhole d (trim_elements es)
  whole-trim_elements d no_elements h = tt
  whole-trim_elements d (element n ts es) h = (h.0, whole-trim_each ts h.1, whole-trim_elements d es h.2)
