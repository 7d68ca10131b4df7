-- Segments that were changed in place, and stand in their list again.
use Rattle.std.proofs.Common.{◌≡◌, ℕ, ◌+◌, ◌^◌, ◌<◌, ◌++◌, List, length, take, drop, get_or, ap, sym, ◌∙◌, subst}
use Rattle.capnp_model_writes.specs.Writes.{with_zeros}
use Rattle.capnp_copy_arenas.specs.declared.allocator.SegmentBytes.{Ghosts}
use Rattle.capnp_copy_arenas.specs.declared.held.Held.{Held}
use Rattle.capnp_copy_arenas.specs.Allocations.{total_of, UsesRoom}
use Rattle.capnp_copy_arenas.specs.Holding.{held_words, free_words, held_loans, UsesMore}
use Rattle.capnp_copy_arenas.proofs.HeldWords.{written_back}

module _ {S : Type 0} {g : Ghosts S} (n : ℕ) (xs zs ys : List (Held S g)) (same : zs ≡ xs) (whole : length zs ≡ n) (kept : length ys ≡ length zs) where
  used : Held S g → ℕ
  used h = h.used

  -- they are the segments
  pub changed_back : take n (ys ++ drop (length ys) xs) ≡ ys
  changed_back = written_back n xs ys (sym (ap (λ (us : List (Held S g)). length us) same) ∙ whole) (kept ∙ ap (λ (us : List (Held S g)). length us) same)

  -- their number stays
  pub changed_number : length xs < 2 ^ 32 → length (take n (ys ++ drop (length ys) xs)) < 2 ^ 32
  changed_number few = subst (λ (k : ℕ). k < 2 ^ 32) (sym (ap (λ (us : List (Held S g)). length us) changed_back ∙ kept ∙ ap (λ (us : List (Held S g)). length us) same)) few

  -- so many words more are used
  pub changed_sum : (words more : ℕ) → words ≡ total_of (λ (h : Held S g). h.used) xs → total_of (λ (h : Held S g). h.used) ys ≡ total_of (λ (h : Held S g). h.used) zs + more
      → words + more ≡ total_of (λ (h : Held S g). h.used) (take n (ys ++ drop (length ys) xs))
  changed_sum words more sum total =
      ap (λ (k : ℕ). k + more) (sum ∙ ap (total_of (λ (h : Held S g). h.used)) (sym same)) ∙ sym total ∙ ap (total_of (λ (h : Held S g). h.used)) (sym changed_back)

  -- or none
  pub kept_sum : (words : ℕ) → words ≡ total_of (λ (h : Held S g). h.used) xs → total_of (λ (h : Held S g). h.used) ys ≡ total_of (λ (h : Held S g). h.used) zs
      → words ≡ total_of (λ (h : Held S g). h.used) (take n (ys ++ drop (length ys) xs))
  kept_sum words sum total = sum ∙ ap (total_of (λ (h : Held S g). h.used)) (sym same) ∙ sym total ∙ ap (total_of (λ (h : Held S g). h.used)) (sym changed_back)

  -- the lent slices stay
  pub kept_loans : held_loans ys ≡ held_loans zs → held_loans (take n (ys ++ drop (length ys) xs)) ≡ held_loans xs
  kept_loans loans = ap (λ (us : List (Held S g)). held_loans us) changed_back ∙ loans ∙ ap (λ (us : List (Held S g)). held_loans us) same

  -- words more of one of them
  pub changed_words : (i more : ℕ) → UsesMore zs ys i more → UsesMore xs (take n (ys ++ drop (length ys) xs)) i more
  changed_words i more words = ap (λ (us : List (Held S g)). held_words us) changed_back ∙ words ∙ ap (λ (us : List (Held S g)). with_zeros (held_words us) i more) same

  -- all are as they were
  pub unchanged : ys ≡ zs → take n (ys ++ drop (length ys) xs) ≡ xs
  unchanged none = changed_back ∙ none ∙ same

  -- and the free words
  pub kept_room : free_words ys ≡ free_words zs → free_words (take n (ys ++ drop (length ys) xs)) ≡ free_words xs
  kept_room room = ap (λ (us : List (Held S g)). free_words us) changed_back ∙ room ∙ ap (λ (us : List (Held S g)). free_words us) same

  -- so many fewer of one of them
  pub changed_room : (i more : ℕ) → UsesRoom (free_words zs) (free_words ys) i more → UsesRoom (free_words xs) (free_words (take n (ys ++ drop (length ys) xs))) i more
  changed_room i more used = ap (λ (us : List (Held S g)). get_or (free_words us) i 0) (sym same) ∙ used ∙ ap (λ (us : List (Held S g)). get_or (free_words us) i 0 + more) (sym changed_back)
