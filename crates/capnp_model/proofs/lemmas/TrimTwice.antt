-- Trimming twice is trimming once.
use Rattle.std.proofs.Common.{◌≡◌, ℕ, zero, suc, ◌*◌, ◌^◌, ◌≤◌, max, Bool, true, false, nat_lt, if◌then◌else◌, refl, ap, ◌∙◌, arith}
use Rattle.capnp_model.specs.Sections.{needed_words}
use Rattle.capnp_model.specs.Trees.{Tree, null, capability, structure, plain_list, pointer_list, struct_list, Trees, none, ◌▸◌, Elements, no_elements, element, tree_count, resized, is_null}
use Rattle.capnp_model.specs.Trimming.{after_stripping, stripped, common_words, common_pointers, with_pointers, least_list, trim, trim_each, trim_elements}
use Rattle.capnp_model.proofs.lemmas.Numbers.{needed_words_le}
use Rattle.capnp_model.proofs.lemmas.Stripping.{stripped-stripped, stripped-resized, resized-resized}

-- ---- words

-- as many words as are needed need the same
pub needed_words-between : (d c n : ℕ) → needed_words d n ≤ c → c ≤ d → needed_words c n ≡ needed_words d n
needed_words-between zero c n h l = let e : c ≡ zero = omega arith in ap (λ z. needed_words z n) e
needed_words-between (suc d) c n h l = by (needed_words-between d c n) (nat_lt c (suc d)) refl
  where
    between : (b : Bool) → (needed_words d n ≤ c → c ≤ d → needed_words c n ≡ needed_words d n) → c ≤ d → (if b then needed_words d n else suc d) ≤ c → needed_words c n ≡ (if b then needed_words d n else suc d)
    between true more less k = more k less
    between false more less k = absurd (omega (arith, k))

    by : (needed_words d n ≤ c → c ≤ d → needed_words c n ≡ needed_words d n) → (b : Bool) → nat_lt c (suc d) ≡ b → needed_words c n ≡ needed_words (suc d) n
    by more true e = between (nat_lt n (2 ^ (64 * d))) more (grind arith) h
    by more false e = let same : c ≡ suc d = grind arith in ap (λ z. needed_words z n) same

pub common_words_le : (d : ℕ) (es : Elements) → common_words d es ≤ d
common_words_le d no_elements = omega arith
common_words_le d (element n ts es) = let rest = common_words_le d es in omega (arith, needed_words_le d n)

common_words-between : (d c : ℕ) (es : Elements) → common_words d es ≤ c → c ≤ d → common_words c es ≡ common_words d es
common_words-between d c no_elements h l = refl
common_words-between d c (element n ts es) h l =
    let m : max (needed_words d n) (common_words d es) ≤ c = h in
    let one : needed_words c n ≡ needed_words d n = needed_words-between d c n (omega arith) l in
    let rest : common_words c es ≡ common_words d es = common_words-between d c es (omega arith) l in
    ap (λ z. max z (common_words c es)) one ∙ ap (max (needed_words d n)) rest

-- ---- children

trim_after : (u : Tree) (rest : Trees) → trim_each (after_stripping u rest) ≡ after_stripping (trim u) (trim_each rest)
unfolding trim
trim_after null none = refl
trim_after null (a ▸ b) = refl
trim_after (capability k) rest = refl
trim_after (structure w n k) rest = refl
trim_after (plain_list z n k) rest = refl
trim_after (pointer_list k) rest = refl
trim_after (struct_list w p k) rest = refl

pub trim_each-stripped : (ts : Trees) → trim_each (stripped ts) ≡ stripped (trim_each ts)
unfolding trim
trim_each-stripped none = refl
trim_each-stripped (t ▸ ts) = trim_after t (stripped ts) ∙ ap (after_stripping (trim t)) (trim_each-stripped ts)

trim_each-resized : (p : ℕ) (ts : Trees) → trim_each (resized p ts) ≡ resized p (trim_each ts)
unfolding trim
trim_each-resized zero ts = refl
trim_each-resized (suc p) none = ap (λ us. null ▸ us) (trim_each-resized p none)
trim_each-resized (suc p) (t ▸ ts) = ap (λ us. trim t ▸ us) (trim_each-resized p ts)

-- ---- elements

trim_elements-with_pointers : (p : ℕ) (es : Elements) → trim_elements (with_pointers p es) ≡ with_pointers p (trim_elements es)
unfolding trim
trim_elements-with_pointers p no_elements = refl
trim_elements-with_pointers p (element n ts es) = ap (λ us. element n us (trim_elements (with_pointers p es))) (trim_each-resized p ts) ∙ ap (element n (resized p (trim_each ts))) (trim_elements-with_pointers p es)

with_pointers-again : (p : ℕ) (es : Elements) → with_pointers p (with_pointers p es) ≡ with_pointers p es
with_pointers-again p no_elements = refl
with_pointers-again p (element n ts es) = ap (λ us. element n us (with_pointers p (with_pointers p es))) (resized-resized p ts) ∙ ap (element n (resized p ts)) (with_pointers-again p es)

common_words-with_pointers : (d p : ℕ) (es : Elements) → common_words d (with_pointers p es) ≡ common_words d es
common_words-with_pointers d p no_elements = refl
common_words-with_pointers d p (element n ts es) = ap (max (needed_words d n)) (common_words-with_pointers d p es)

common_pointers-with_pointers : (p : ℕ) (es : Elements) → common_pointers es ≤ p → common_pointers (with_pointers p es) ≡ common_pointers es
common_pointers-with_pointers p no_elements h = refl
common_pointers-with_pointers p (element n ts es) h =
    let m : max (tree_count (stripped ts)) (common_pointers es) ≤ p = h in
    ap (λ us. max (tree_count us) (common_pointers (with_pointers p es))) (stripped-resized p ts (omega arith)) ∙ ap (max (tree_count (stripped ts))) (common_pointers-with_pointers p es (omega arith))

-- a least list is least
least_list-again : (d : ℕ) (es : Elements) → least_list (common_words d es) (with_pointers (common_pointers es) es) ≡ least_list d es
least_list-again d es =
    let p = common_pointers es in
    let c = common_words d es in
    let us = with_pointers p es in
    let words : common_words c us ≡ c = common_words-with_pointers c p es ∙ common_words-between d c es (omega arith) (common_words_le d es) in
    let pointers : common_pointers us ≡ p = common_pointers-with_pointers p es (omega arith) in
    ap (λ z. struct_list z (common_pointers us) (with_pointers (common_pointers us) us)) words
    ∙ ap (λ z. struct_list c z (with_pointers z us)) pointers
    ∙ ap (struct_list c p) (with_pointers-again p es)

-- THE LAW
mutual
  unfolding trim

  pub trim-trim : (t : Tree) → trim (trim t) ≡ trim t
  trim-trim null = refl
  trim-trim (capability i) = refl
  trim-trim (structure w n ts) =
      let us = trim_each ts in
      let words : needed_words (needed_words w n) n ≡ needed_words w n = needed_words-between w (needed_words w n) n (omega arith) (needed_words_le w n) in
      let kids : stripped (trim_each (stripped us)) ≡ stripped us = ap stripped (trim_each-stripped us) ∙ stripped-stripped (trim_each us) ∙ ap stripped (trim_each-again ts) in
      ap (λ z. structure z n (stripped (trim_each (stripped us)))) words ∙ ap (structure (needed_words w n) n) kids
  trim-trim (plain_list z n k) = refl
  trim-trim (pointer_list ts) = ap pointer_list (trim_each-again ts)
  trim-trim (struct_list d k es) =
      let us = trim_elements es in
      let p = common_pointers us in
      let inner : trim_elements (with_pointers p us) ≡ with_pointers p us = trim_elements-with_pointers p us ∙ ap (with_pointers p) (trim_elements-again es) in
      ap (least_list (common_words d us)) inner ∙ least_list-again d us

  pub trim_each-again : (ts : Trees) → trim_each (trim_each ts) ≡ trim_each ts
  trim_each-again none = refl
  trim_each-again (t ▸ ts) = ap (λ u. u ▸ trim_each (trim_each ts)) (trim-trim t) ∙ ap (λ us. trim t ▸ us) (trim_each-again ts)

  pub trim_elements-again : (es : Elements) → trim_elements (trim_elements es) ≡ trim_elements es
  trim_elements-again no_elements = refl
  trim_elements-again (element n ts es) = ap (λ us. element n us (trim_elements (trim_elements es))) (trim_each-again ts) ∙ ap (element n (trim_each ts)) (trim_elements-again es)

-- Trimming leaves null alone null.
pub null_trimmed : (t : Tree) → is_null (trim t) ≡ is_null t
unfolding trim
null_trimmed null = refl
null_trimmed (capability i) = refl
null_trimmed (structure w n ts) = refl
null_trimmed (plain_list z n m) = refl
null_trimmed (pointer_list ts) = refl
null_trimmed (struct_list d k es) = refl
