-- The trimmed tree of an edited tree is that of the edited trimmed tree, whatever widths the schema asks for.
use Rattle.std.proofs.Common.{◌≡◌, ℕ, zero, suc, ◌*◌, ◌^◌, ◌<◌, ◌≤◌, max, refl, sym, ◌∙◌, ap, arith}
use Rattle.capnp_model.proofs.lemmas.Numbers.{needed_words-more}
use Rattle.capnp_model.proofs.lemmas.Stripping.{stripped-stripped}
use Rattle.std.proofs.Math.Nat.{pow-le-pow_right}
use Rattle.capnp_model.specs.Trees.{Tree, null, capability, structure, plain_list, pointer_list, struct_list, Trees, none, ◌▸◌, with_child, padded_to, widened}
use Rattle.capnp_model.specs.Sections.{needed_words}
use Rattle.capnp_model.specs.Trimming.{after_stripping, stripped, trim, trim_each}
use Rattle.capnp_model.specs.Edits.{in_struct, put_child}

-- ---- children

write_first : (u t : Tree) (rest : Trees) → stripped (with_child (after_stripping u rest) zero t) ≡ after_stripping t (stripped rest)
write_first null t none = refl
write_first null t (a ▸ b) = refl
write_first (capability k) t rest = refl
write_first (structure w n k) t rest = refl
write_first (plain_list s count k) t rest = refl
write_first (pointer_list k) t rest = refl
write_first (struct_list w p k) t rest = refl

write_later : (u t : Tree) (rest : Trees) (i : ℕ) → stripped (with_child (after_stripping u rest) (suc i) t) ≡ after_stripping u (stripped (with_child rest i t))
write_later null t none i = refl
write_later null t (a ▸ b) i = refl
write_later (capability k) t rest i = refl
write_later (structure w n k) t rest i = refl
write_later (plain_list s count k) t rest i = refl
write_later (pointer_list k) t rest i = refl
write_later (struct_list w p k) t rest i = refl

-- trailing nulls make no difference to what is written among the children
pub stripped-with_child : (ts : Trees) (i : ℕ) (t : Tree) → stripped (with_child (stripped ts) i t) ≡ stripped (with_child ts i t)
stripped-with_child none zero t = refl
stripped-with_child none (suc i) t = refl
stripped-with_child (u ▸ ts) zero t = write_first u t (stripped ts) ∙ ap (after_stripping t) (stripped-stripped ts)
stripped-with_child (u ▸ ts) (suc i) t = write_later u t (stripped ts) i ∙ ap (after_stripping u) (stripped-with_child ts i t)

pub trim_each-with_child : (ts : Trees) (i : ℕ) (t : Tree) → trim_each (with_child ts i t) ≡ with_child (trim_each ts) i (trim t)
unfolding trim
trim_each-with_child none zero t = refl
trim_each-with_child none (suc i) t = ap (λ us. null ▸ us) (trim_each-with_child none i t)
trim_each-with_child (u ▸ ts) zero t = refl
trim_each-with_child (u ▸ ts) (suc i) t = ap (λ us. trim u ▸ us) (trim_each-with_child ts i t)

pub trim_each-padded_to : (p : ℕ) (ts : Trees) → trim_each (padded_to p ts) ≡ padded_to p (trim_each ts)
unfolding trim
trim_each-padded_to zero ts = refl
trim_each-padded_to (suc p) none = ap (λ us. null ▸ us) (trim_each-padded_to p none)
trim_each-padded_to (suc p) (t ▸ ts) = ap (λ us. trim t ▸ us) (trim_each-padded_to p ts)

pub stripped-padded_to : (p : ℕ) (ts : Trees) → stripped (padded_to p ts) ≡ stripped ts
stripped-padded_to zero ts = refl
stripped-padded_to (suc p) none = ap (after_stripping null) (stripped-padded_to p none)
stripped-padded_to (suc p) (t ▸ ts) = ap (after_stripping t) (stripped-padded_to p ts)

-- ---- structs

-- what trimming leaves of children
abbrev pub bare : Trees → Trees
bare ts = stripped (trim_each ts)

-- two structs with one section and the same bare children have one trimmed tree, whatever their widths
pub trim-structure : (w v n : ℕ) (ts us : Trees) → n < 2 ^ (64 * w) → n < 2 ^ (64 * v) → bare ts ≡ bare us → trim (structure w n ts) ≡ trim (structure v n us)
unfolding trim
trim-structure w v n ts us h k e =
    let widths : needed_words w n ≡ needed_words v n = sym (needed_words-more (max w v) w n (omega arith) h) ∙ needed_words-more (max w v) v n (omega arith) k in
    ap (λ z. structure z n (bare ts)) widths ∙ ap (structure (needed_words v n) n) e

pub bare-padded_to : (p : ℕ) (ts : Trees) → bare (padded_to p ts) ≡ bare ts
bare-padded_to p ts = ap stripped (trim_each-padded_to p ts) ∙ stripped-padded_to p (trim_each ts)

-- what is written among the children counts by its trimmed tree alone
pub bare-with_child : (ts us : Trees) (i : ℕ) (t u : Tree) → bare ts ≡ bare us → trim t ≡ trim u → bare (with_child ts i t) ≡ bare (with_child us i u)
bare-with_child ts us i t u e e' =
    let normal = λ (xs : Trees) (x : Tree). ap stripped (trim_each-with_child xs i x) ∙ sym (stripped-with_child (trim_each xs) i (trim x)) in
    normal ts t ∙ ap (λ xs. stripped (with_child xs i (trim t))) e ∙ ap (λ x. stripped (with_child (bare us) i x)) e' ∙ sym (normal us u)

-- widening leaves the trimmed tree
pub trim-widened : (w p words n : ℕ) (ts : Trees) → n < 2 ^ (64 * words) → trim (widened w p (structure words n ts)) ≡ trim (structure words n ts)
trim-widened w p words n ts h =
    let power : 2 ^ (64 * words) ≤ 2 ^ (64 * max w words) = pow-le-pow_right {n = 2} (omega arith) {i = 64 * words} {j = 64 * max w words} (omega arith) in
    trim-structure (max w words) words n (padded_to p ts) ts (omega arith) h (bare-padded_to p ts)

-- A step of a path through a pointer: the trimmed tree does not know with which sizes the struct was opened,
-- nor more of the new child than its trimmed tree.
pub trim-put_child : (w p w' p' words n i : ℕ) (ts : Trees) (t u : Tree) → n < 2 ^ (64 * words) → trim t ≡ trim u
    → trim (in_struct w (put_child i t) (widened w p (structure words n ts))) ≡ trim (in_struct w' (put_child i u) (widened w' p' (structure words n ts)))
trim-put_child w p w' p' words n i ts t u h e =
    let power : 2 ^ (64 * words) ≤ 2 ^ (64 * max w words) = pow-le-pow_right {n = 2} (omega arith) {i = 64 * words} {j = 64 * max w words} (omega arith) in
    let power' : 2 ^ (64 * words) ≤ 2 ^ (64 * max w' words) = pow-le-pow_right {n = 2} (omega arith) {i = 64 * words} {j = 64 * max w' words} (omega arith) in
    trim-structure (max w words) (max w' words) n (with_child (padded_to p ts) i t) (with_child (padded_to p' ts) i u) (omega arith) (omega arith)
    (bare-with_child (padded_to p ts) (padded_to p' ts) i t u (bare-padded_to p ts ∙ sym (bare-padded_to p' ts)) e)
