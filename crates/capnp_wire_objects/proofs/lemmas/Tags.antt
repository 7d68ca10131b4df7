-- Lists of structs whose words are there, by their tag.
use Rattle.std.proofs.Common.{◌≡◌, ℕ, zero, suc, ◌+◌, ◌*◌, ◌≤◌, ◌<◌, Bool, true, false, leb, List, [], ◌∷◌, length, take, drop, Option, Some, None, Result, Ok, Err, refl, ap, sym, ◌∙◌, arith}
use Rattle.std.specs.List.{slice_get}
use Rattle.std.specs.Option.{is_some}
use Rattle.std.proofs.lemmas.Bool.{leb-true, le-leb}
use Rattle.std.proofs.lemmas.Bool.Decides.{nat_tests}
use Rattle.std.proofs.lemmas.List.{length-take, length-drop}
use Rattle.capnp_model.specs.Kinds.{Kind, OutOfBounds, WrongPointerKind}
use Rattle.capnp_model.specs.Chains.{◌>>=◌, ◌provided◌, ◌and_then◌, guard}
use Rattle.capnp_model.specs.Segments.{Segments, Place, after, word_at, words_at}
use Rattle.capnp_model.specs.Pointers.{Pointer, to_struct, pointer_of, a_list}
use Rattle.capnp_model.specs.Traversal.{Tag, tag_of, tag_in}
use Rattle.capnp_model.proofs.lemmas.Chaining.{some_is}
use Rattle.capnp_wire_objects.specs.declared.object.Object.{Object}
use Rattle.capnp_wire_objects.specs.declared.object.Object.TheVariants as object
use Rattle.capnp_wire_objects.specs.declared.word_pointer.WordPointer.{WordPointer}
use Rattle.capnp_wire_objects.specs.declared.word_pointer.WordPointer.TheVariants as word
use Rattle.capnp_wire_objects.specs.Places.{placed, pointer_view}
use Rattle.capnp_wire_objects.specs.Objects.{whole}

pub words_from : (ws : Option (List ℕ)) (k n : ℕ) → is_some (ws >>= λ words. take n (drop k words) provided leb (k + n) (length words)) ≡ true → (words : List ℕ) × (ws ≡ Some words) × (k + n ≤ length words)
words_from None k n h = absurd cc
words_from (Some words) k n h = (words, refl, by (leb (k + n) (length words)) refl h)
  where
    by : (b : Bool) → leb (k + n) (length words) ≡ b → is_some (take n (drop k words) provided b) ≡ true → k + n ≤ length words
    by true e g = leb-true _ _ e
    by false e g = absurd cc

pub words_are : (s : Segments) (p : Place) (n : ℕ) (words : List ℕ) → slice_get s p.segment ≡ Some words → p.position + n ≤ length words → words_at s p n ≡ Some (take n (drop p.position words))
words_are s p n words e h = let fits : leb (p.position + n) (length words) ≡ true = le-leb _ _ h in rw (e, fits) refl

drop_from : (xs : List ℕ) (k : ℕ) → k < length xs → (w : ℕ) × (slice_get xs k ≡ Some w) × (drop k xs ≡ w ∷ drop (suc k) xs)
drop_from [] k h = absurd (omega arith)
drop_from (x ∷ xs) zero h = (x, refl, refl)
drop_from (x ∷ xs) (suc k) h = drop_from xs k (omega arith)

-- the first of some words, and those behind it
pub front_word : (s : Segments) (p : Place) (n : ℕ) → is_some (words_at s p (1 + n)) ≡ true → (w : ℕ) × (ws : List ℕ) × (word_at s p ≡ Some w) × (words_at s p (1 + n) ≡ Some (w ∷ ws)) × (length ws ≡ n)
front_word s p n h =
    let a = words_from (slice_get s p.segment) p.position (1 + n) h in
    let bound = a.2 in
    let there : slice_get s p.segment ≡ Some a.0 = a.1 in
    let first = drop_from a.0 p.position (omega arith) in
    let one : 1 + n ≡ suc n = omega arith in
    let front : take (1 + n) (drop p.position a.0) ≡ first.0 ∷ take n (drop (suc p.position) a.0) = ap (λ (j : ℕ). take j (drop p.position a.0)) one ∙ ap (λ (ws : List ℕ). take (suc n) ws) first.2 in
    (first.0, take n (drop (suc p.position) a.0), ap (λ (o : Option (List ℕ)). o >>= λ ws. slice_get ws p.position) there ∙ first.1, words_are s p (1 + n) a.0 there bound ∙ ap (λ (ws : List ℕ). Some ws) front, omega (arith, length-take n (drop (suc p.position) a.0), length-drop (suc p.position) a.0))

-- What is made of a tag.
abbrev pub behind_tag : Place → ℕ → Tag → Result Object Kind
behind_tag p n t = guard (leb (t.count * (t.data_words + t.pointers)) n) OutOfBounds and_then λ _. Ok (object.StructList (placed (after p 1)) n t.count t.data_words t.pointers)

regroup : (r : Result Tag Kind) (p : Place) (n : ℕ) → ((r and_then λ t. guard (leb (t.count * (t.data_words + t.pointers)) n) OutOfBounds and_then λ _. Ok t) and_then λ t. Ok (object.StructList (placed (after p 1)) n t.count t.data_words t.pointers)) ≡ (r and_then behind_tag p n)
regroup (Err k) p n = refl
regroup (Ok t) p n = by (leb (t.count * (t.data_words + t.pointers)) n)
  where
    by : (b : Bool) → ((guard b OutOfBounds and_then λ _. Ok t) and_then λ u. Ok (object.StructList (placed (after p 1)) n u.count u.data_words u.pointers)) ≡ (guard b OutOfBounds and_then λ _. Ok (object.StructList (placed (after p 1)) n t.count t.data_words t.pointers))
    by true = refl
    by false = refl

module _ (s : Segments) (p : Place) (n w : ℕ) (there : is_some (words_at s p (1 + n)) ≡ true) (e : Some w ≡ word_at s p) where
  structs_are : whole s (a_list p 7 n) ≡ (tag_of (pointer_of w) and_then behind_tag p n)
  structs_are =
      let a = front_word s p n there in
      let same : a.0 ≡ w = some_is _ _ (sym a.2 ∙ sym e) in
      let words : words_at s p (1 + n) ≡ Some (a.0 ∷ a.1) = a.3 in
      rw words (ap (λ (x : ℕ). tag_in (x ∷ a.1) and_then λ t. Ok (object.StructList (placed (after p 1)) n t.count t.data_words t.pointers)) same
      ∙ ap (λ (m : ℕ). (tag_of (pointer_of w) and_then λ t. guard (leb (t.count * (t.data_words + t.pointers)) m) OutOfBounds and_then λ _. Ok t) and_then λ t. Ok (object.StructList (placed (after p 1)) n t.count t.data_words t.pointers)) a.4
      ∙ regroup (tag_of (pointer_of w)) p n)

  pub structs_found : (o d k : ℕ) → to_struct o d k ≡ pointer_of w → o * (d + k) ≤ n → Ok (object.StructList (placed (after p 1)) n o d k) ≡ whole s (a_list p 7 n)
  structs_found o d k says h =
      let fits : leb (o * (d + k)) n ≡ true = le-leb _ _ h in
      sym (structs_are ∙ ap (λ (q : Pointer). tag_of q and_then behind_tag p n) (sym says) ∙ rw fits refl)

  pub structs_short : (o d k : ℕ) → to_struct o d k ≡ pointer_of w → n < o * (d + k) → Err OutOfBounds ≡ whole s (a_list p 7 n)
  structs_short o d k says h =
      let fits : leb (o * (d + k)) n ≡ false = grind (arith, nat_tests) in
      sym (structs_are ∙ ap (λ (q : Pointer). tag_of q and_then behind_tag p n) (sym says) ∙ rw fits refl)

  pub no_structs : (r : WordPointer) → pointer_view r ≡ pointer_of w → ((o d k : ℕ) → r ≡ word.Struct o d k → ⊥) → Err WrongPointerKind ≡ whole s (a_list p 7 n)
  no_structs r says not = sym (structs_are ∙ ap (λ (q : Pointer). tag_of q and_then behind_tag p n) (sym says) ∙ ap (λ (x : Result Tag Kind). x and_then behind_tag p n) (no_tag r not))
    where
      no_tag : (r : WordPointer) → ((o d k : ℕ) → r ≡ word.Struct o d k → ⊥) → tag_of (pointer_view r) ≡ Err WrongPointerKind
      no_tag (word.Struct o d k) h = absurd (h o d k refl)
      no_tag (word.List o size c) h = refl
      no_tag (word.Far q) h = refl
      no_tag (word.DoubleFar q) h = refl
      no_tag (word.Capability i) h = refl
      no_tag word.Unknown h = refl
