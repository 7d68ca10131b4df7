-- Rows of values.
use Rattle.std.proofs.Common.{◌≡◌, ℕ, zero, suc, ◌+◌, ◌<◌, ◌≤◌, List, [], ◌∷◌, ◌++◌, length, replicate, Bool, true, false, ◌==◌, Option, Some, None, Vec, refl, ap, sym, ◌∙◌, inl, inr, arith}
use Rattle.std.specs.List.{slice_get}
use Rattle.std.specs.declared.alloc.Global.{Global}
use Rattle.std.proofs.lemmas.List.{length-map}
use Rattle.std.proofs.lemmas.Bool.{cases_lt}
use Rattle.std.proofs.lemmas.Option.{slice_get_past}
use Rattle.std.specs.Option.{option_map}
use Rattle.std.proofs.lemmas.Bool.{and_parts}
use Rattle.capnp_model.proofs.lemmas.Tests.{same_number, number_is, both}
use Rattle.capnp_model.specs.Chains.{◌>>=◌}
use Rattle.capnp_model.specs.Segments.{Segments, Place, place, word_at}
use Rattle.capnp_units.specs.Segments.{whole_words, words_in}
use Rattle.capnp_wire_objects.specs.Arenas.{word_count}
use Rattle.capnp_wire_objects.proofs.lemmas.Words.{whole_words-length, segment_there, segment_past}
use Rattle.hagzimot_explain.specs.Rows.{value_of, for_word, is_at}

front : {X : Type 0} → (xs ys : List X) (i : ℕ) → i < length xs → slice_get (xs ++ ys) i ≡ slice_get xs i
front [] ys i h = absurd (omega arith)
front (x ∷ xs) ys zero h = refl
front (x ∷ xs) ys (suc i) h = front xs ys i (omega arith)

last : {X : Type 0} → (xs : List X) (y : X) (i : ℕ) → length xs ≡ i → slice_get (xs ++ y ∷ []) i ≡ Some y
last [] y zero e = refl
last [] y (suc i) e = absurd (omega arith)
last (x ∷ xs) y zero e = absurd (omega arith)
last (x ∷ xs) y (suc i) e = last xs y i (omega arith)

-- A row of as many values as there are words.
copies : {X : Type 0} → (ws : List ℕ) (x : X) (k : ℕ) → slice_get (replicate (length ws) x) k ≡ (slice_get ws k >>= λ _. Some x)
copies [] x k = refl
copies (w ∷ ws) x zero = refl
copies (w ∷ ws) x (suc k) = copies ws x k

pub word_past : (segments : List (List ℕ)) (q : Place) → length segments ≤ q.segment → word_at (words_in segments) q ≡ None
word_past segments q h = ap (λ (o : Option (List ℕ)). o >>= λ ws. slice_get ws q.position) (slice_get_past (words_in segments) q.segment (let same = length-map segments whole_words in omega arith))

pub value_past : {X : Type 0} → (rows : List (Vec X Global)) (q : Place) → length rows ≤ q.segment → value_of rows q ≡ None
value_past rows q h = ap (λ (o : Option (Vec _ Global)). o >>= λ row. slice_get row.items q.position) (slice_get_past rows q.segment h)

value_in_row : {X : Type 0} → (rows : List (Vec X Global)) (row : Vec X Global) (q : Place) → length rows ≡ q.segment → value_of (rows ++ row ∷ []) q ≡ slice_get row.items q.position
value_in_row rows row q h = ap (λ (o : Option (Vec _ Global)). o >>= λ row. slice_get row.items q.position) (last rows row q.segment h)

value_before : {X : Type 0} → (rows : List (Vec X Global)) (row : Vec X Global) (q : Place) → q.segment < length rows → value_of (rows ++ row ∷ []) q ≡ value_of rows q
value_before rows row q h = ap (λ (o : Option (Vec _ Global)). o >>= λ row. slice_get row.items q.position) (front rows (row ∷ []) q.segment h)

in_segment : {X : Type 0} → (segments : List (List ℕ)) (x : X) (q : Place) → slice_get (replicate (word_count (slice_get segments q.segment)) x) q.position ≡ for_word (words_in segments) q x
in_segment segments x q = by (slice_get segments q.segment) refl
  where
    by : (o : Option (List ℕ)) → slice_get segments q.segment ≡ o → slice_get (replicate (word_count (slice_get segments q.segment)) x) q.position ≡ for_word (words_in segments) q x
    by None e =
        ap (λ (o : Option (List ℕ)). slice_get (replicate (word_count o) x) q.position) e
        ∙ sym (ap (λ (o : Option (List ℕ)). (o >>= λ ws. slice_get ws q.position) >>= λ _. Some x) (segment_past segments q.segment (sym e)))
    by (Some bytes) e =
        ap (λ (o : Option (List ℕ)). slice_get (replicate (word_count o) x) q.position) e
        ∙ ap (λ (n : ℕ). slice_get (replicate n x) q.position) (sym (whole_words-length bytes))
        ∙ copies (whole_words bytes) x q.position
        ∙ sym (ap (λ (o : Option (List ℕ)). (o >>= λ ws. slice_get ws q.position) >>= λ _. Some x) (segment_there segments q.segment bytes (sym e)))

pub row_more : {X : Type 0} → (segments : List (List ℕ)) (rows : List (Vec X Global)) (row : Vec X Global) (id : ℕ) (x : X) → length rows ≡ id → row.items ≡ replicate (word_count (slice_get segments id)) x → ((q : Place) → q.segment < id → value_of rows q ≡ for_word (words_in segments) q x) → (q : Place) → q.segment < id + 1 → value_of (rows ++ row ∷ []) q ≡ for_word (words_in segments) q x
row_more segments rows row id x count is below q h = elim (cases_lt q.segment id) [
  | inl lt ↦ value_before rows row q (omega arith) ∙ below q lt
  | inr ge ↦
      let same : id ≡ q.segment = omega arith in
      value_in_row rows row q (omega arith) ∙ ap (λ (xs : List _). slice_get xs q.position) is ∙ ap (λ (i : ℕ). slice_get (replicate (word_count (slice_get segments i)) x) q.position) same ∙ in_segment segments x q
]

pub rows_all : {X : Type 0} → (segments : List (List ℕ)) (rows : List (Vec X Global)) (id : ℕ) (x : X) (q : Place) → length rows ≡ id → (id ≤ q.segment → length segments ≤ id) → ((q : Place) → q.segment < id → value_of rows q ≡ for_word (words_in segments) q x) → value_of rows q ≡ for_word (words_in segments) q x
rows_all segments rows id x q count all below = elim (cases_lt q.segment id) [
  | inl lt ↦ below q lt
  | inr ge ↦ let few = all ge in value_past rows q (omega arith) ∙ sym (ap (λ (o : Option ℕ). o >>= λ _. Some x) (word_past segments q (omega arith)))
]

-- ---- replaced values

pub same_when : (p q : Place) → is_at p q ≡ true → p ≡ q
same_when p q h =
    let parts = and_parts (p.segment == q.segment) (p.position == q.position) h in
    ap (λ (i : ℕ). place i p.position) (same_number p.segment q.segment parts.0) ∙ ap (λ (k : ℕ). place q.segment k) (same_number p.position q.position parts.1)

pub is_itself : (p : Place) → is_at p p ≡ true
is_itself p = both (p.segment == p.segment) (p.position == p.position) (number_is p.segment) (number_is p.position)

pub unchanged : {X : Type 0} → (o : Option X) → option_map (λ x. x) o ≡ o
unchanged None = refl
unchanged (Some x) = refl

pub mapped_word : {X Y : Type 0} → (s : Segments) (q : Place) (f : X → Y) (x : X) → option_map f (for_word s q x) ≡ for_word s q (f x)
mapped_word s q f x = by (word_at s q)
  where
    by : (o : Option ℕ) → option_map f (o >>= λ _. Some x) ≡ (o >>= λ _. Some (f x))
    by None = refl
    by (Some w) = refl

-- ---- rows of one value

pub never_true_there : (s : Segments) (rows : List (Vec Bool Global)) (n : ℕ) → ((q : Place) → q.segment < n → value_of rows q ≡ for_word s q false) → ((q : Place) → n ≤ q.segment → value_of rows q ≡ None) → (q : Place) → value_of rows q ≡ Some true → ⊥
never_true_there s rows n words beyond q h = elim (cases_lt q.segment n) [ inl lt ↦ by (word_at s q) refl (words q lt) | inr ge ↦ let none : None ≡ Some true = sym (beyond q ge) ∙ h in absurd cc ]
  where
    by : (o : Option ℕ) → word_at s q ≡ o → value_of rows q ≡ (word_at s q >>= λ _. Some false) → ⊥
    by None e is = let none : None ≡ Some true = sym (ap (λ (o : Option ℕ). o >>= λ _. Some false) e) ∙ sym is ∙ h in absurd cc
    by (Some w) e is = let not : Some false ≡ Some true = sym (ap (λ (o : Option ℕ). o >>= λ _. Some false) e) ∙ sym is ∙ h in absurd cc
