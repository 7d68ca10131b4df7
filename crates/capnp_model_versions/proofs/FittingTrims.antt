-- Trimmed values keep numbers that fit.
use Rattle.std.proofs.Common.{sym, subst, ℕ, ◌*◌, ◌^◌, ◌<◌, ◌≤◌, max, ◌∙◌, arith}
use Rattle.capnp_model.specs.Sections.{needed_words}
use Rattle.capnp_model.specs.Trees.{element_count, Tree, null, capability, structure, plain_list, pointer_list, struct_list, Trees, none, ◌▸◌, Elements, no_elements, element}
use Rattle.capnp_model.specs.Trimming.{after_stripping, stripped, common_words, common_pointers, with_pointers, least_list, trim, trim_each, trim_elements}
use Rattle.capnp_model.proofs.lemmas.Numbers.{wider, needed_words_le, needed_words_hold}
use Rattle.capnp_model.proofs.lemmas.Stripping.{count-stripped, count-resized}
use Rattle.capnp_model.proofs.lemmas.TrimTwice.{common_words_le}
use Rattle.capnp_model.proofs.lemmas.TrimFits.{count-with_pointers, count-trim_elements, count-trim_each}
use Rattle.capnp_model_versions.proofs.FittingParts.{Lengths, FitsBy, AllFitBy, ElementsFitBy, all-resized}

module _ (L : Lengths) where
  after-stripping : (t : Tree) (ts : Trees) → FitsBy L t → AllFitBy L ts → AllFitBy L (after_stripping t ts)
  after-stripping null none h k = tt
  after-stripping null (u ▸ us) h k = (tt, k)
  after-stripping (capability i) ts h k = (h, k)
  after-stripping (structure w n us) ts h k = (h, k)
  after-stripping (plain_list z n x) ts h k = (h, k)
  after-stripping (pointer_list us) ts h k = (h, k)
  after-stripping (struct_list w p es) ts h k = (h, k)

  all-stripped : (ts : Trees) → AllFitBy L ts → AllFitBy L (stripped ts)
  all-stripped none h = tt
  all-stripped (t ▸ ts) h = after-stripping t (stripped ts) h.0 (all-stripped ts h.1)

  few-pointers : (d k : ℕ) (es : Elements) → ElementsFitBy L d k es → common_pointers es ≤ k
  few-pointers d k no_elements h = omega arith
  few-pointers d k (element n ts es) h = let rest = few-pointers d k es h.3 in let many = h.1 in omega (arith, count-stripped ts)

  least-elements : (d k c p : ℕ) (es : Elements) → common_words d es ≤ c → ElementsFitBy L d k es → ElementsFitBy L c p (with_pointers p es)
  least-elements d k c p no_elements l h = tt
  least-elements d k c p (element n ts es) l h =
      let m : max (needed_words d n) (common_words d es) ≤ c = l in
      (wider n (64 * needed_words d n) (64 * c) (omega arith) (needed_words_hold d n h.0), count-resized p ts, all-resized L p ts h.2, least-elements d k c p es (omega arith) h.3)

  least-list : (d k : ℕ) (es : Elements) → d < 2 ^ 16 → k < 2 ^ 16 → L.elements (element_count es) → ElementsFitBy L d k es → FitsBy L (least_list d es)
  least-list d k es a b many h =
      let words = common_words_le d es in
      let pointers = few-pointers d k es h in
      (omega arith, omega arith, subst L.elements (sym (count-with_pointers (common_pointers es) es)) many, least-elements d k (common_words d es) (common_pointers es) es (omega arith) h)

  mutual
    unfolding trim

    pub numbers-trim : (t : Tree) → FitsBy L t → FitsBy L (trim t)
    numbers-trim null h = tt
    numbers-trim (capability i) h = h
    numbers-trim (structure w n ts) h =
        let short = h.0 in
        let few = h.1 in
        (omega (arith, needed_words_le w n), omega (arith, count-stripped (trim_each ts), count-trim_each ts), needed_words_hold w n h.2, all-stripped (trim_each ts) (all-numbers-trim ts h.3))
    numbers-trim (plain_list z n x) h = h
    numbers-trim (pointer_list ts) h = (subst L.lists (sym (count-trim_each ts)) h.0, all-numbers-trim ts h.1)
    numbers-trim (struct_list d k es) h = least-list d k (trim_elements es) h.0 h.1 (subst L.elements (sym (count-trim_elements es)) h.2) (element-numbers-trim d k es h.3)

    all-numbers-trim : (ts : Trees) → AllFitBy L ts → AllFitBy L (trim_each ts)
    all-numbers-trim none h = tt
    all-numbers-trim (t ▸ ts) h = (numbers-trim t h.0, all-numbers-trim ts h.1)

    element-numbers-trim : (d k : ℕ) (es : Elements) → ElementsFitBy L d k es → ElementsFitBy L d k (trim_elements es)
    element-numbers-trim d k no_elements h = tt
    element-numbers-trim d k (element n ts es) h = (h.0, count-trim_each ts ∙ h.1, all-numbers-trim ts h.2, element-numbers-trim d k es h.3)
