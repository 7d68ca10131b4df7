-- New lists of zeros and of nulls, as the code tells them apart.
use Rattle.std.proofs.Common.{◌≡◌, ℕ, ◌+◌, ◌*◌, ◌^◌, ◌<◌, ◌≤◌, Bool, true, false, cond, eqb, ltb, replicate, refl, ap, sym, ◌∙◌, arith}
use Rattle.std.proofs.lemmas.Bool.{ltb-true, ltb-false, eqb-true, eqb-false}
use Rattle.capnp_model.specs.Sections.{words_for}
use Rattle.capnp_model.specs.Segments.{Place}
use Rattle.capnp_model.specs.Pointers.{Object, a_list}
use Rattle.capnp_model.specs.Trees.{size_bits}
use Rattle.capnp_model.specs.Encoding.{list_pointer}
use Rattle.capnp_units.specs.Sizes.{data_bits}
use Rattle.capnp_model_writes.specs.NewObjects.{New, new_list, new_pointers, new_words, new_pointer, new_object, Fits}
use Rattle.capnp_copy_arenas.specs.Lists.{zeros_of, words_of_list}

pub zeros_words : (size count : ℕ) → new_words (zeros_of size count) ≡ replicate (words_of_list size count) 0
zeros_words size count = by_cases (eqb size 6)
  where
    by_cases : (b : Bool) → new_words (cond b (new_pointers count) (new_list size count)) ≡ replicate (cond b count (words_for (size_bits size * count))) 0
    by_cases true = refl
    by_cases false = refl

pub zeros_pointer : (size count : ℕ) → list_pointer 0 size count ≡ new_pointer 0 (zeros_of size count)
zeros_pointer size count = by_cases (eqb size 6) refl
  where
    by_cases : (b : Bool) → eqb size 6 ≡ b → list_pointer 0 size count ≡ new_pointer 0 (cond b (new_pointers count) (new_list size count))
    by_cases true e = ap (λ (n : ℕ). list_pointer 0 n count) (eqb-true size 6 e)
    by_cases false e = refl

pub zeros_object : (p : Place) (size count : ℕ) → new_object p (zeros_of size count) ≡ a_list p size count
zeros_object p size count = by_cases (eqb size 6) refl
  where
    by_cases : (b : Bool) → eqb size 6 ≡ b → new_object p (cond b (new_pointers count) (new_list size count)) ≡ a_list p size count
    by_cases true e = ap (λ (n : ℕ). a_list p n count) (sym (eqb-true size 6 e))
    by_cases false e = refl

pub zeros_fit : (size count : ℕ) → size < 7 → count < 2 ^ 29 → Fits (zeros_of size count)
zeros_fit size count l m = by_cases (eqb size 6) refl
  where
    by_cases : (b : Bool) → eqb size 6 ≡ b → Fits (cond b (new_pointers count) (new_list size count))
    by_cases true e = m
    by_cases false e = (let ne = eqb-false size 6 e in plain ne, m)
      where
        plain : (size ≡ 6 → ⊥) → size < 6
        plain ne = by_less (ltb size 6) refl
          where
            by_less : (b : Bool) → ltb size 6 ≡ b → size < 6
            by_less true h = ltb-true size 6 h
            by_less false h = absurd (ne (let k = ltb-false size 6 h in omega (arith, k, l)))
