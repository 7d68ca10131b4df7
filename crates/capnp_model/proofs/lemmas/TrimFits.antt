-- A trimmed value fits where the value does, and is no deeper.
use Rattle.std.proofs.Common.{◌≡◌, ℕ, suc, ◌+◌, ◌*◌, ◌^◌, ◌≤◌, ◌<◌, max, refl, ap, ◌∙◌, arith}
use Rattle.std.proofs.Math.Nat.{mul-le-mul_left}
use Rattle.capnp_model.specs.Sections.{needed_words}
use Rattle.capnp_model.specs.Trees.{Tree, null, capability, structure, plain_list, pointer_list, struct_list, Trees, none, ◌▸◌, Elements, no_elements, element, tree_count, element_count, depth, depths, element_depths}
use Rattle.capnp_model.specs.Trimming.{common_words, common_pointers, with_pointers, least_list, trim, trim_each, trim_elements}
use Rattle.capnp_model.specs.Fits.{Fits, FitEach, FitElements}
use Rattle.capnp_model.proofs.lemmas.Numbers.{wider, needed_words_le, needed_words_hold}
use Rattle.capnp_model.proofs.lemmas.Stripping.{count-stripped, count-resized, depths-stripped, depths-resized, FitEach-stripped, FitEach-resized}
use Rattle.capnp_model.proofs.lemmas.TrimTwice.{common_words_le}

pub count-trim_each : (ts : Trees) → tree_count (trim_each ts) ≡ tree_count ts
unfolding trim
count-trim_each none = refl
count-trim_each (t ▸ ts) = ap suc (count-trim_each ts)

pub count-with_pointers : (p : ℕ) (es : Elements) → element_count (with_pointers p es) ≡ element_count es
count-with_pointers p no_elements = refl
count-with_pointers p (element n ts es) = ap suc (count-with_pointers p es)

pub count-trim_elements : (es : Elements) → element_count (trim_elements es) ≡ element_count es
unfolding trim
count-trim_elements no_elements = refl
count-trim_elements (element n ts es) = ap suc (count-trim_elements es)

pub common_pointers_le : (d k : ℕ) (es : Elements) → FitElements d k es → common_pointers es ≤ k
common_pointers_le d k no_elements f = omega arith
common_pointers_le d k (element n ts es) f = let rest = common_pointers_le d k es f.3 in let many = f.1 in omega (arith, count-stripped ts)

-- elements with the words c that they can do with, and p pointers
pub FitElements-least : (d k c p : ℕ) (es : Elements) → common_words d es ≤ c → FitElements d k es → FitElements c p (with_pointers p es)
FitElements-least d k c p no_elements h f = tt
FitElements-least d k c p (element n ts es) h f =
    let m : max (needed_words d n) (common_words d es) ≤ c = h in
    (wider n (64 * needed_words d n) (64 * c) (omega arith) (needed_words_hold d n f.0), count-resized p ts, FitEach-resized p ts f.2, FitElements-least d k c p es (omega arith) f.3)

least_list_fits : (d k : ℕ) (es : Elements) → d < 2 ^ 16 → k < 2 ^ 16 → element_count es < 2 ^ 30 → element_count es * (d + k) < 2 ^ 29 → FitElements d k es → Fits (least_list d es)
least_list_fits d k es ld lk lr lw f =
    let c = common_words d es in
    let p = common_pointers es in
    let lc = common_words_le d es in
    let lp = common_pointers_le d k es f in
    let n : element_count (with_pointers p es) ≡ element_count es = count-with_pointers p es in
    let less : element_count es * (c + p) ≤ element_count es * (d + k) = mul-le-mul_left (element_count es) (omega arith) in
    (omega arith, omega arith, omega arith, rw n (omega arith), FitElements-least d k c p es (omega arith) f)

mutual
  unfolding trim

  pub Fits-trim : (t : Tree) → Fits t → Fits (trim t)
  Fits-trim null f = tt
  Fits-trim (structure w n ts) f =
      let short = f.0 in
      let few = f.1 in
      (omega (arith, needed_words_le w n), omega (arith, count-stripped (trim_each ts), count-trim_each ts), needed_words_hold w n f.2, FitEach-stripped (trim_each ts) (FitEach-trim_each ts f.3))
  Fits-trim (plain_list z n k) f = f
  Fits-trim (pointer_list ts) f = (rw (count-trim_each ts) f.0, FitEach-trim_each ts f.1)
  Fits-trim (struct_list d k es) f = least_list_fits d k (trim_elements es) f.0 f.1 (rw (count-trim_elements es) f.2) (rw (count-trim_elements es) f.3) (FitElements-trim_elements d k es f.4)
  Fits-trim (capability i) f = f

  pub FitEach-trim_each : (ts : Trees) → FitEach ts → FitEach (trim_each ts)
  FitEach-trim_each none f = tt
  FitEach-trim_each (t ▸ ts) f = (Fits-trim t f.0, FitEach-trim_each ts f.1)

  pub FitElements-trim_elements : (d k : ℕ) (es : Elements) → FitElements d k es → FitElements d k (trim_elements es)
  FitElements-trim_elements d k no_elements f = tt
  FitElements-trim_elements d k (element n ts es) f = (f.0, count-trim_each ts ∙ f.1, FitEach-trim_each ts f.2, FitElements-trim_elements d k es f.3)

-- ---- the depth

element_depths-with_pointers : (p : ℕ) (es : Elements) → element_depths (with_pointers p es) ≤ element_depths es
element_depths-with_pointers p no_elements = omega arith
element_depths-with_pointers p (element n ts es) = let rest = element_depths-with_pointers p es in omega (arith, depths-resized p ts)

mutual
  unfolding trim

  pub depth-trim : (t : Tree) → depth (trim t) ≤ depth t
  depth-trim null = omega arith
  depth-trim (structure w n ts) = let rest = depths-trim_each ts in omega (arith, depths-stripped (trim_each ts))
  depth-trim (plain_list z n k) = omega arith
  depth-trim (pointer_list ts) = let rest = depths-trim_each ts in omega arith
  depth-trim (struct_list d k es) = let rest = depths-trim_elements es in let us = trim_elements es in omega (arith, element_depths-with_pointers (common_pointers us) us)
  depth-trim (capability i) = omega arith

  pub depths-trim_each : (ts : Trees) → depths (trim_each ts) ≤ depths ts
  depths-trim_each none = omega arith
  depths-trim_each (t ▸ ts) = let one = depth-trim t in let rest = depths-trim_each ts in omega arith

  pub depths-trim_elements : (es : Elements) → element_depths (trim_elements es) ≤ element_depths es
  depths-trim_elements no_elements = omega arith
  depths-trim_elements (element n ts es) = let one = depths-trim_each ts in let rest = depths-trim_elements es in omega arith
