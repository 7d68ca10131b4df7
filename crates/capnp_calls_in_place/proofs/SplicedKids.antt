-- Children of which one is replaced by what isn't null.
use Rattle.std.proofs.Common.{◌≡◌, ℕ, zero, suc, ◌≤◌, max, false, refl, ap, sym, ◌∙◌, arith}
use Rattle.capnp_model.specs.Trees.{Tree, null, capability, structure, plain_list, pointer_list, struct_list, Trees, none, ◌▸◌, tree_count, child, with_child, resized, padded_to, is_null, depth, depths}
use Rattle.capnp_model.specs.Fits.{Fits, FitEach}
use Rattle.capnp_model.specs.Trimming.{after_stripping, stripped, trim, trim_each}
use Rattle.capnp_calls_splice.specs.Blobs.{tree_of_blob}
use Rattle.capnp_calls_splice.specs.Splices.{TakesBlob}
use Rattle.capnp_calls_splice.specs.declared.blob.Blob.{Blob}
use Rattle.capnp_model.proofs.lemmas.Stripping.{count-stripped, child-stripped, child-trim_each, depths-stripped}
use Rattle.capnp_model.proofs.lemmas.TrimFits.{depths-trim_each}

-- ---- one child

-- Where trimming leaves the same children, it leaves the same child.
pub child_same : (ts us : Trees) (i : ℕ) → stripped (trim_each ts) ≡ stripped us → child us i ≡ trim (child ts i)
child_same ts us i e = sym (child-stripped us i) ∙ ap (λ (xs : Trees). child xs i) (sym e) ∙ child-stripped (trim_each ts) i ∙ child-trim_each ts i

pub child_fits : (ts : Trees) (i : ℕ) → FitEach ts → Fits (child ts i)
child_fits none i f = tt
child_fits (t ▸ ts) zero f = f.0
child_fits (t ▸ ts) (suc i) f = child_fits ts i f.1

-- ---- how many there are, and how deep they are

pub count_put : (ts : Trees) (i : ℕ) (t : Tree) → is_null (child ts i) ≡ false → tree_count (with_child ts i t) ≡ tree_count ts
count_put none i t some = absurd (cc some)
count_put (u ▸ ts) zero t some = refl
count_put (u ▸ ts) (suc i) t some = ap suc (count_put ts i t some)

some_after : (u : Tree) (rest : Trees) → is_null u ≡ false → after_stripping u rest ≡ (u ▸ rest)
some_after null rest some = absurd (cc some)
some_after (capability k) rest some = refl
some_after (structure w n k) rest some = refl
some_after (plain_list s count k) rest some = refl
some_after (pointer_list k) rest some = refl
some_after (struct_list w p k) rest some = refl

pub depths_put : (ts : Trees) (i : ℕ) (t : Tree) → is_null (child ts i) ≡ false → depth t ≡ depth (child ts i) → depths (with_child ts i t) ≡ depths ts
depths_put none i t some e = absurd (cc some)
depths_put (u ▸ ts) zero t some e = ap (λ (n : ℕ). max n (depths ts)) e
depths_put (u ▸ ts) (suc i) t some e = ap (max (depth u)) (depths_put ts i t some e)

more_after : (u : Tree) (a b : Trees) → tree_count a ≤ tree_count b → tree_count (after_stripping u a) ≤ tree_count (after_stripping u b)
more_after null none none e = omega arith
more_after null none (t ▸ ts) e = omega arith
more_after null (t ▸ ts) none e = absurd (omega (arith, e))
more_after null (t ▸ ts) (v ▸ vs) e = omega (arith, e)
more_after (capability k) a b e = omega (arith, e)
more_after (structure w n k) a b e = omega (arith, e)
more_after (plain_list s count k) a b e = omega (arith, e)
more_after (pointer_list k) a b e = omega (arith, e)
more_after (struct_list w p k) a b e = omega (arith, e)

first_after : (u : Tree) (a : Trees) → tree_count (after_stripping u a) ≤ suc (tree_count a)
first_after null none = omega arith
first_after null (t ▸ ts) = omega arith
first_after (capability k) a = omega arith
first_after (structure w n k) a = omega arith
first_after (plain_list s count k) a = omega arith
first_after (pointer_list k) a = omega arith
first_after (struct_list w p k) a = omega arith

-- What isn't null leaves no fewer when nulls at the end are dropped.
pub bare_count_more : (ts : Trees) (i : ℕ) (t : Tree) → is_null t ≡ false → tree_count (stripped ts) ≤ tree_count (stripped (with_child ts i t))
bare_count_more none i t new = omega arith
bare_count_more (u ▸ ts) zero t new = let most = first_after u (stripped ts) in let count = ap tree_count (some_after t (stripped ts) new) in omega (arith, most, count)
bare_count_more (u ▸ ts) (suc i) t new = more_after u (stripped ts) (stripped (with_child ts i t)) (bare_count_more ts i t new)

-- ---- a child that is no deeper than others

depths_most : (ts : Trees) (i : ℕ) (t : Tree) → depths (with_child ts i t) ≤ max (depth t) (depths ts)
depths_most none zero t = omega arith
depths_most none (suc i) t = let rest = depths_most none i t in omega arith
depths_most (u ▸ ts) zero t = omega arith
depths_most (u ▸ ts) (suc i) t = let rest = depths_most ts i t in omega arith

depths_least : (ts : Trees) (i : ℕ) (t : Tree) → depth (child ts i) ≤ depth t → depths ts ≤ depths (with_child ts i t)
depths_least none i t e = omega arith
depths_least (u ▸ ts) zero t e = omega (arith, e)
depths_least (u ▸ ts) (suc i) t e = let rest = depths_least ts i t e in omega arith

depths_kept : (ts : Trees) (i : ℕ) (t : Tree) → depth (child ts i) ≤ depth t → depth t ≤ depths ts → depths (with_child ts i t) ≡ depths ts
depths_kept ts i t least most = let a = depths_most ts i t in let b = depths_least ts i t least in omega arith

child_depth : (ts : Trees) (i : ℕ) → depth (child ts i) ≤ depths ts
child_depth none i = omega arith
child_depth (u ▸ ts) zero = omega arith
child_depth (u ▸ ts) (suc i) = let rest = child_depth ts i in omega arith

deep_after : (u : Tree) (rest : Trees) → depths (u ▸ rest) ≤ depths (after_stripping u rest)
deep_after null none = omega arith
deep_after null (a ▸ b) = omega arith
deep_after (capability k) rest = omega arith
deep_after (structure w n k) rest = omega arith
deep_after (plain_list z n k) rest = omega arith
deep_after (pointer_list k) rest = omega arith
deep_after (struct_list w p k) rest = omega arith

bare_deep : (ts : Trees) → depths ts ≤ depths (stripped ts)
bare_deep none = omega arith
bare_deep (u ▸ ts) = let rest = bare_deep ts in omega (arith, deep_after u (stripped ts))

-- The whole ones are as deep as the trimmed, or deeper.
pub deeper_whole : (ts us : Trees) → stripped (trim_each ts) ≡ stripped us → depths us ≤ depths ts
deeper_whole ts us e = let a = bare_deep us in let b = ap depths e in let c = depths-stripped (trim_each ts) in let d = depths-trim_each ts in omega arith

-- What a list of bytes takes the place of has one level at most, and another has one where it has none.
took : (t : Tree) (levels : ℕ) → TakesBlob levels (trim t) → (depth t ≤ 1) × (1 ≤ max levels (depth t))
unfolding trim
took null levels h = (omega arith, omega (arith, h))
took (capability i) levels h = absurd h
took (structure w section kids) levels h = absurd h
took (plain_list z n section) levels h = (omega arith, omega arith)
took (pointer_list ts) levels h = absurd h
took (struct_list w p es) levels h = absurd h

-- So values in a row stay as deep as they were.
pub took_depths : (ts : Trees) (levels i : ℕ) (b : Blob) → levels ≤ depths ts → TakesBlob levels (trim (child ts i)) → depths (with_child ts i (tree_of_blob b)) ≡ depths ts
took_depths ts levels i b less h =
    let levels_are = took (child ts i) levels h in
    let most = levels_are.0 in
    let least = levels_are.1 in
    let own = child_depth ts i in
    depths_kept ts i (tree_of_blob b) (omega (arith, most)) (omega (arith, least, own, less))

pub depths_padded : (p : ℕ) (ts : Trees) → depths (padded_to p ts) ≡ depths ts
depths_padded zero ts = refl
depths_padded (suc p) none = let more = depths_padded p none in omega arith
depths_padded (suc p) (t ▸ ts) = let more = depths_padded p ts in omega arith

-- ---- children that are cut to no fewer

full_after : (u : Tree) (a b : Trees) → tree_count a ≤ tree_count b → tree_count (after_stripping u a) ≡ suc (tree_count b) → (after_stripping u a ≡ (u ▸ a)) × (tree_count a ≡ tree_count b)
full_after null none b less e = absurd (omega (arith, e))
full_after null (t ▸ ts) b less e = (refl, omega (arith, e))
full_after (capability k) a b less e = (refl, omega (arith, e))
full_after (structure w n k) a b less e = (refl, omega (arith, e))
full_after (plain_list s count k) a b less e = (refl, omega (arith, e))
full_after (pointer_list k) a b less e = (refl, omega (arith, e))
full_after (struct_list w p k) a b less e = (refl, omega (arith, e))

pub all_kept : (ts : Trees) → tree_count (stripped ts) ≡ tree_count ts → stripped ts ≡ ts
all_kept none e = refl
all_kept (u ▸ ts) e =
    let both = full_after u (stripped ts) ts (count-stripped ts) e in
    both.0 ∙ ap (λ us. u ▸ us) (all_kept ts both.1)

pub resized_all : (ts : Trees) (p : ℕ) → tree_count ts ≡ p → resized p ts ≡ ts
resized_all none zero e = refl
resized_all none (suc p) e = absurd (omega (arith, e))
resized_all (t ▸ ts) zero e = absurd (omega (arith, e))
resized_all (t ▸ ts) (suc p) e = ap (λ us. t ▸ us) (resized_all ts p (omega (arith, e)))
