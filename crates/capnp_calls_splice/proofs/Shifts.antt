-- Pointers whose targets lie further on, or nearer.
use Rattle.std.proofs.Common.{◌≡◌, ℕ, zero, suc, ◌+◌, ◌*◌, ◌%◌, ◌^◌, ◌<◌, ◌≤◌, true, false, nat_eq, List, ◌∷◌, length, map, refl, ap, ◌∙◌, length-append, arith}
use Rattle.capnp_model.specs.Trees.{Tree, null, capability, structure, plain_list, pointer_list, struct_list, Trees, none, ◌▸◌, tree_count, element_count}
use Rattle.capnp_model.specs.Fits.{Fits, FitEach}
use Rattle.capnp_model.specs.Encoding.{pointer, body, links, bodies}
use Rattle.capnp_calls_splice.specs.Cells.{shifted, FitsInOffsets}

-- So much is added where offsets grow by as many words as a message.
pub record Shift (by old new : ℕ) : Type 0 where
  pub small : by < 2 ^ 64
  pub is : (by + 4 * old) % 2 ^ 64 ≡ 4 * new
  pub old_few : old < 2 ^ 29
  pub new_few : new < 2 ^ 29

pub not_equal : (a b : ℕ) → (a ≡ b → ⊥) → nat_eq a b ≡ false
not_equal a b h = grind arith

moves : (by w : ℕ) → (w ≡ 0 → ⊥) → (w % 4 ≡ 3 → ⊥) → (w ≡ 0xffff_fffc → ⊥) → shifted by w ≡ (w + by) % 2 ^ 64
moves by w a b c = rw (not_equal w 0 a, not_equal (w % 4) 3 b, not_equal w 0xffff_fffc c) refl

capability_stays : (by w : ℕ) → w % 4 ≡ 3 → shifted by w ≡ w
capability_stays by w e =
    let some : nat_eq w 0 ≡ false = not_equal w 0 (λ z. omega arith) in
    let same : nat_eq (w % 4) 3 ≡ true = grind arith in
    rw (some, same) refl

sum_is : (by old new gap far r : ℕ) → Shift by old new → gap + new ≡ far + old → gap < 2 ^ 30 → far < 2 ^ 30 → r + 2 ^ 32 ≤ 2 ^ 64 + 3 → (4 * gap + r + by) % 2 ^ 64 ≡ 4 * far + r
sum_is by old new gap far r s e a b few = let h = s.is in let l = s.small in let m = s.old_few in let n = s.new_few in omega arith

-- a pointer to something behind it: what it tells besides the offset
struct_behind : (by old new gap far r : ℕ) → Shift by old new → gap + new ≡ far + old → gap < 2 ^ 30 → far < 2 ^ 30 → r + 2 ^ 32 ≤ 2 ^ 64 + 3 → r % 4 ≡ 0 → 2 ^ 32 ≤ r → shifted by (4 * gap + r) ≡ 4 * far + r
struct_behind by old new gap far r s e a b few low some =
    moves by (4 * gap + r) (λ z. omega arith) (λ z. omega arith) (λ z. omega arith) ∙ sum_is by old new gap far r s e a b few

list_behind : (by old new gap far r : ℕ) → Shift by old new → gap + new ≡ far + old → gap < 2 ^ 30 → far < 2 ^ 30 → r + 2 ^ 32 ≤ 2 ^ 64 + 3 → r % 4 ≡ 1 → shifted by (4 * gap + r) ≡ 4 * far + r
list_behind by old new gap far r s e a b few low =
    moves by (4 * gap + r) (λ z. omega arith) (λ z. omega arith) (λ z. omega arith) ∙ sum_is by old new gap far r s e a b few

to_struct : (by old new gap far d k : ℕ) → Shift by old new → gap + new ≡ far + old → gap < 2 ^ 30 → far < 2 ^ 30 → d < 2 ^ 16 → k < 2 ^ 16 → 0 < d + k
    → shifted by (4 * gap + 2 ^ 32 * d + 2 ^ 48 * k) ≡ 4 * far + 2 ^ 32 * d + 2 ^ 48 * k
to_struct by old new gap far d k s e a b fd fk some =
    let from : 4 * gap + 2 ^ 32 * d + 2 ^ 48 * k ≡ 4 * gap + (2 ^ 32 * d + 2 ^ 48 * k) = omega arith in
    let to : 4 * far + (2 ^ 32 * d + 2 ^ 48 * k) ≡ 4 * far + 2 ^ 32 * d + 2 ^ 48 * k = omega arith in
    ap (shifted by) from ∙ struct_behind by old new gap far (2 ^ 32 * d + 2 ^ 48 * k) s e a b (omega arith) (omega arith) (omega arith) ∙ to

to_list : (by old new gap far size n : ℕ) → Shift by old new → gap + new ≡ far + old → gap < 2 ^ 30 → far < 2 ^ 30 → size < 8 → n < 2 ^ 29
    → shifted by (1 + 4 * gap + 2 ^ 32 * size + 2 ^ 35 * n) ≡ 1 + 4 * far + 2 ^ 32 * size + 2 ^ 35 * n
to_list by old new gap far size n s e a b fs fn =
    let from : 1 + 4 * gap + 2 ^ 32 * size + 2 ^ 35 * n ≡ 4 * gap + (1 + 2 ^ 32 * size + 2 ^ 35 * n) = omega arith in
    let to : 4 * far + (1 + 2 ^ 32 * size + 2 ^ 35 * n) ≡ 1 + 4 * far + 2 ^ 32 * size + 2 ^ 35 * n = omega arith in
    ap (shifted by) from ∙ list_behind by old new gap far (1 + 2 ^ 32 * size + 2 ^ 35 * n) s e a b (omega arith) (omega arith) ∙ to

pub pointer_shifted : (by old new gap far : ℕ) (t : Tree) → Shift by old new → gap + new ≡ far + old → gap < 2 ^ 30 → far < 2 ^ 30 → Fits t → shifted by (pointer gap t) ≡ pointer far t
pointer_shifted by old new gap far null s e a b f = refl
pointer_shifted by old new gap far (capability i) s e a b f = capability_stays by (3 + 2 ^ 32 * i) (omega arith)
pointer_shifted by old new gap far (structure zero section none) s e a b f = refl
pointer_shifted by old new gap far (structure zero section (t ▸ ts)) s e a b f = to_struct by old new gap far 0 (suc (tree_count ts)) s e a b f.0 f.1 (omega arith)
pointer_shifted by old new gap far (structure (suc d) section ts) s e a b f = to_struct by old new gap far (suc d) (tree_count ts) s e a b f.0 f.1 (omega arith)
pointer_shifted by old new gap far (plain_list size n section) s e a b f = let few : size < 8 = (let h = f.0 in omega arith) in to_list by old new gap far size n s e a b few f.1
pointer_shifted by old new gap far (pointer_list ts) s e a b f = to_list by old new gap far 6 (tree_count ts) s e a b (omega arith) f.0
pointer_shifted by old new gap far (struct_list d k es) s e a b f = to_list by old new gap far 7 (element_count es * (d + k)) s e a b (omega arith) f.3

-- Pointers in a row, when what lies before their targets grows or shrinks.
pub links_shifted : (by old new behind before after : ℕ) (ts : Trees) → Shift by old new → before + new ≡ after + old → FitsInOffsets behind before ts → FitsInOffsets behind after ts → FitEach ts
    → map (shifted by) (links behind before ts) ≡ links behind after ts
links_shifted by old new behind before after none s e near far fit = refl
links_shifted by old new behind before after (t ▸ ts) s e near far fit =
    let long = length-append (body t) (bodies ts) in
    let head : shifted by (pointer (tree_count ts + behind + before) t) ≡ pointer (tree_count ts + behind + after) t =
    pointer_shifted by old new (tree_count ts + behind + before) (tree_count ts + behind + after) t s (omega arith) (omega arith) (omega arith) fit.0 in
    let tail : map (shifted by) (links behind (before + length (body t)) ts) ≡ links behind (after + length (body t)) ts =
    links_shifted by old new behind (before + length (body t)) (after + length (body t)) ts s (omega arith) (omega arith) (omega arith) fit.1 in
    ap (λ (w : ℕ). w ∷ map (shifted by) (links behind (before + length (body t)) ts)) head ∙ ap (λ (ws : List ℕ). pointer (tree_count ts + behind + after) t ∷ ws) tail
