-- Changed values fit.
use Rattle.std.proofs.Common.{◌≡◌, ℕ, max, zero, suc, ◌*◌, ◌^◌, ◌<◌, List, length, refl, ap, ◌∙◌, arith}
use Rattle.std.proofs.lemmas.Nat.{pow_pos}
use Rattle.capnp_model.specs.Sections.{section_of}
use Rattle.capnp_model.specs.Trees.{Tree, null, capability, structure, plain_list, pointer_list, struct_list, Trees, none, ◌▸◌, tree_count, with_child, padded_to, widened}
use Rattle.capnp_model.specs.Fits.{Fits, FitEach}
use Rattle.capnp_model.specs.Calls.{blob_tree}
use Rattle.capnp_model.proofs.lemmas.Numbers.{section_of_lt, number_of_lt, wider}
use Rattle.capnp_model.proofs.lemmas.Stripping.{count-resized, FitEach-resized}

pub FitEach-with_child : (ts : Trees) (i : ℕ) (t : Tree) → FitEach ts → Fits t → FitEach (with_child ts i t)
FitEach-with_child none zero t f g = (g, tt)
FitEach-with_child none (suc i) t f g = (tt, FitEach-with_child none i t tt g)
FitEach-with_child (u ▸ ts) zero t f g = (g, f.1)
FitEach-with_child (u ▸ ts) (suc i) t f g = (f.0, FitEach-with_child ts i t f.1 g)

FitEach-padded_to : (n : ℕ) (ts : Trees) → FitEach ts → FitEach (padded_to n ts)
FitEach-padded_to zero ts f = f
FitEach-padded_to (suc n) none f = (tt, FitEach-padded_to n none tt)
FitEach-padded_to (suc n) (t ▸ ts) f = (f.0, FitEach-padded_to n ts f.1)

pub count-padded_to : (n : ℕ) (ts : Trees) → tree_count (padded_to n ts) ≡ max n (tree_count ts)
count-padded_to zero ts = omega arith
count-padded_to (suc n) none = ap suc (count-padded_to n none) ∙ omega arith
count-padded_to (suc n) (t ▸ ts) = ap suc (count-padded_to n ts) ∙ omega arith

pub Fits-widened : (words pointers : ℕ) (t : Tree) → words < 2 ^ 16 → pointers < 2 ^ 16 → Fits t → Fits (widened words pointers t)
Fits-widened words pointers null w p f = (w, rw (count-resized pointers none) p, pow_pos (64 * words), FitEach-resized pointers none tt)
Fits-widened words pointers (structure n section ts) w p f =
    (omega (arith, w, f.0), rw (count-padded_to pointers ts) (omega (arith, p, f.1)), wider section (64 * n) (64 * max words n) (omega arith) f.2, FitEach-padded_to pointers ts f.3)
Fits-widened words pointers (capability i) w p f = f
Fits-widened words pointers (plain_list z n k) w p f = f
Fits-widened words pointers (pointer_list ts) w p f = f
Fits-widened words pointers (struct_list d k es) w p f = f

pub words_fit : (ws : List ℕ) (kids : Trees) → length ws < 2 ^ 16 → tree_count kids < 2 ^ 16 → FitEach kids → Fits (structure (length ws) (section_of ws) kids)
words_fit ws kids l c f = (l, c, section_of_lt ws (length ws) refl, f)

pub bytes_fit : (bs : List ℕ) → length bs < 2 ^ 29 → Fits (blob_tree bs)
bytes_fit bs l = (omega arith, l, number_of_lt 8 bs)

pub zeros_fit : (n : ℕ) → n < 2 ^ 29 → Fits (plain_list 2 n 0)
zeros_fit n l = (omega arith, l, pow_pos (8 * n))
