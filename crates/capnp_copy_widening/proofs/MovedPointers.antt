-- A pointer that moves, by its word.
use Rattle.std.proofs.Common.{◌≡◌, ◌≢◌, inl, inr, ℕ, zero, suc, ◌+◌, ◌-◌, ◌*◌, ◌/◌, ◌%◌, ◌^◌, ◌<◌, ◌≤◌, Bool, true, false, List, [], ◌∷◌, ltb, leb, cond, Option, Some, None, unwrap_or, Result, Ok, Err, IfOk, refl, ap, sym, ◌∙◌, subst, arith}
use Rattle.std.specs.Option.{is_some, option_map, ok_or}
use Rattle.std.proofs.lemmas.Bool.{cases_lt}
use Rattle.capnp_model.specs.Kinds.{Kind, OutOfBounds}
use Rattle.capnp_model.specs.Chains.{◌provided◌}
use Rattle.capnp_model.specs.Sections.{bits_at}
use Rattle.capnp_model.specs.Segments.{Segments, Place, place, after, word_at, words_at}
use Rattle.capnp_model.specs.Pointers.{Object, a_struct, Found, found_at, begins}
use Rattle.capnp_model.specs.Trees.{Tree, null}
use Rattle.capnp_model.specs.Traversal.{tree_of, tree_at, leaf_of, list_kind, list_words}
use Rattle.capnp_model.specs.Coverage.{Span, span}
use Rattle.capnp_model.specs.Encoding.{struct_pointer}
use Rattle.capnp_model.proofs.lemmas.Chaining.{bind_some, bind_found, some_is, ok_is, ok_or_some, provided_some}
use Rattle.capnp_wire_objects.specs.Places.{place_view}
use Rattle.capnp_wire_objects.specs.declared.place.Place as code
use Rattle.capnp_wire_objects.specs.declared.named.FoundObject.{FoundObject}
use Rattle.capnp_wire_objects.specs.Places.{seen}
use Rattle.capnp_wire_objects.specs.Named.{named_view, found_view}
use Rattle.capnp_units.specs.declared.errors.Error.{Error}
use Rattle.capnp_model_writes.specs.Footprints.{Owns}
use Rattle.capnp_model_writes.specs.Detached.{Reaches, Moves, IsMovable, IsDirect}
use Rattle.capnp_model_writes.specs.NewObjects.{New, new_struct, new_list, filled_list, new_pointers, new_structs, new_pointer, new_object, Fits, pointed, pointed_double_far, IsNamed}
use Rattle.capnp_model_writes.specs.Writes.{zeroed}
use Rattle.capnp_model_writes.proofs.lemmas.Direct.{direct}
use Rattle.capnp_model_writes.proofs.lemmas.FarPointing.{reaches_ahead, reaches_back}
use Rattle.capnp_model_writes.proofs.lemmas.Moving.{null_moves, moved_verbatim, moved_near, moved_double_far}
use Rattle.capnp_model_writes.proofs.lemmas.SpareMoves.{moves_unused, empty_moved}
use Rattle.capnp_model_writes.proofs.lemmas.Zeros.{null_read}
use Rattle.capnp_model_writes.proofs.lemmas.Spans.{words_front}
use Rattle.capnp_copy_arenas.specs.Allocations.{total_words}
use Rattle.capnp_copy_arenas.proofs.lemmas.Making.{at_offset}
use Rattle.capnp_copy_widening.specs.Moves.{MovesValue, pads_of, HasPads, HasPadIfFar, AreNamed, offset_to, pointed_at, start_of}
use Rattle.capnp_copy_widening.proofs.lemmas.Standing.{within_total}

-- a move that takes no spare word
without : (n : ℕ) (s : Segments) (a b : Place) (spare : List Span) (w : ℕ) (f : Found) (t : Tree) → IsMovable n s a b spare w f t → IsMovable n s a b [] w f t
without n s a b spare w f t m =
    record { there = m.there; found = m.found; owned = m.owned; null_there = m.null_there; zeros = tt; apart = λ q. omega (arith, m.apart q) }

-- the word that the code has
word_is_there : (s : Segments) (a : Place) (v w : ℕ) → v ≡ unwrap_or (word_at s a) 0 → word_at s a ≡ Some w → v ≡ w
word_is_there s a v w e h = e ∙ ap (λ (o : Option ℕ). unwrap_or o 0) h

pub moved_null : (s : Segments) (a b : Place) (spare : List Span) (v : ℕ) → v ≡ unwrap_or (word_at s a) 0 → v ≡ 0 → MovesValue s s a b spare
moved_null s a b spare v e z = λ n w f t m. (
    let zero_word : word_at s a ≡ Some 0 = m.there ∙ ap (λ (x : ℕ). Some x) (sym (word_is_there s a v w e m.there) ∙ z) in
    let is : null ≡ t = some_is _ _ (sym (null_read n s a zero_word) ∙ m.owned.means) in
    subst (λ (x : Tree). Moves n s s a b spare x) is (moves_unused n s s a b spare null m.zeros m.apart (null_moves n s a b zero_word m.null_there))
    )

pub moved_as_it_is : (s u : Segments) (a b : Place) (spare : List Span) (v : ℕ) → v ≡ unwrap_or (word_at s a) 0 → 2 ≤ v % 4 → u ≡ pointed (zeroed s a 1) b v → MovesValue s u a b spare
moved_as_it_is s u a b spare v e far now = λ n w f t m. (
    let x = without n s a b spare w f t m in
    let there : word_at s a ≡ Some v = m.there ∙ ap (λ (y : ℕ). Some y) (sym (word_is_there s a v w e m.there)) in
    let kind : 2 ≤ bits_at 0 2 v = omega (arith, far) in
    let moved = moved_verbatim n s a b v f t m.found there kind m.owned m.null_there x.apart in
    moves_unused n s u a b spare t m.zeros m.apart (subst (λ (y : Segments). Moves n s y a b [] t) (sym now) moved)
    )

-- ---- pointers that tell an offset

pub record Told (n : ℕ) (s : Segments) (a : Place) (v : ℕ) (f : Found) (t : Tree) : Type 0 where
  pub r : Place
  pub offset : ℕ
  pub x : New
  pub is : IsDirect a v f r offset x
  pub there : word_at s a ≡ Some v

pub told : (n : ℕ) (s : Segments) (a b : Place) (spare : List Span) (v w : ℕ) (f : Found) (t : Tree) → v ≡ unwrap_or (word_at s a) 0 → v ≢ 0 → v < 2 ^ 64 → v % 4 < 2 → IsMovable n s a b spare w f t → Told n s a v f t
told n s a b spare v w f t e some small near m =
    let there : word_at s a ≡ Some v = m.there ∙ ap (λ (y : ℕ). Some y) (sym (word_is_there s a v w e m.there)) in
    let y = direct s a v f there (omega (arith, some)) small (omega (arith, near)) m.found in
    record { r = y.0; offset = y.1; x = y.2; is = y.3; there = there }

-- such an object begins in its segment
begins_at : (x : New) (r : Place) → start_of (new_object r x) ≡ Some r
begins_at (new_struct d k) r = refl
begins_at (new_list size count) r = refl
begins_at (filled_list size count ws) r = refl
begins_at (new_pointers count) r = refl
begins_at (new_structs count d k) r = refl

no_leaf : (x : New) (r : Place) (t : Tree) → leaf_of (new_object r x) ≡ Some t → ⊥
no_leaf (new_struct d k) r t e = absurd cc
no_leaf (new_list size count) r t e = absurd cc
no_leaf (filled_list size count ws) r t e = absurd cc
no_leaf (new_pointers count) r t e = absurd cc
no_leaf (new_structs count d k) r t e = absurd cc

first_words : (s : Segments) (r : Place) (k : ℕ) (ws : List ℕ) → words_at s r k ≡ Some ws → is_some (words_at s r 0) ≡ true
first_words s r k ws e = let sum : k ≡ 0 + k = omega arith in ap is_some (words_front s r 0 k ws (subst (λ (j : ℕ). words_at s r j ≡ Some ws) sum e))

object_there : (s : Segments) (f : Place → Option Tree) (x : New) (r : Place) (t : Tree) → tree_of s f (new_object r x) ≡ Some t → is_some (words_at s r 0) ≡ true
object_there s f (new_struct d k) r t e = let y = bind_some (words_at s r (d + k)) _ t e in first_words s r (d + k) y.0 y.1
object_there s f (new_list size count) r t e = let y = bind_some (words_at s r (list_words (list_kind size) size count)) _ t e in first_words s r _ y.0 y.1
object_there s f (filled_list size count ws) r t e = let y = bind_some (words_at s r (list_words (list_kind size) size count)) _ t e in first_words s r _ y.0 y.1
object_there s f (new_pointers count) r t e = let y = bind_some (words_at s r (list_words (list_kind 6) 6 count)) _ t e in first_words s r _ y.0 y.1
object_there s f (new_structs count d k) r t e = let y = bind_some (words_at s r (list_words (list_kind 7) 7 (count * (d + k)))) _ t e in first_words s r _ y.0 y.1

pub told_there : (n : ℕ) (s : Segments) (a : Place) (v : ℕ) (f : Found) (t : Tree) → (h : Told n s a v f t) → found_at s a ≡ Ok f → Owns n s a t → is_some (words_at s h.r 0) ≡ true
unfolding tree_at
told_there zero s a v f t h e o =
    let y = bind_found (found_at s a) _ t o.means in
    let is : y.0 ≡ record { pads = 0; object = new_object h.r h.x } = ok_is _ _ (sym y.1 ∙ e) ∙ h.is.found in
    absurd (no_leaf h.x h.r t (subst (λ (g : Found). leaf_of g.object ≡ Some t) is y.2))
told_there (suc n) s a v f t h e o =
    let y = bind_found (found_at s a) _ t o.means in
    let is : y.0 ≡ record { pads = 0; object = new_object h.r h.x } = ok_is _ _ (sym y.1 ∙ e) ∙ h.is.found in
    object_there s (tree_at n s) h.x h.r t (subst (λ (g : Found). tree_of s (tree_at n s) g.object ≡ Some t) is y.2)

-- ---- its word with another offset

base_word : (o : ℕ) (x : New) → o < 2 ^ 30 → Fits x → new_pointer o x % 4 + new_pointer o x / 2 ^ 32 * 2 ^ 32 ≡ new_pointer 0 x
base_word o (new_struct d k) l f = omega (arith, l)
base_word o (new_list size count) l f = omega (arith, l)
base_word o (filled_list size count ws) l f = omega (arith, l)
base_word o (new_pointers count) l f = omega (arith, l)
base_word o (new_structs count d k) l f = list_base (count * (d + k))
  where
    list_base : (m : ℕ) → (1 + 4 * o + 2 ^ 32 * 7 + 2 ^ 35 * m) % 4 + (1 + 4 * o + 2 ^ 32 * 7 + 2 ^ 35 * m) / 2 ^ 32 * 2 ^ 32 ≡ 1 + 4 * 0 + 2 ^ 32 * 7 + 2 ^ 35 * m
    list_base m = omega (arith, l)

empty_is : (x : New) (r : Place) → new_pointer 0 x ≡ 0 → new_object r x ≡ a_struct r 0 0
empty_is (new_struct d k) r e =
    let no_data : d ≡ 0 = omega (arith, e) in
    let no_pointers : k ≡ 0 = omega (arith, e) in
    ap (λ (m : ℕ). a_struct r m k) no_data ∙ ap (λ (m : ℕ). a_struct r 0 m) no_pointers
empty_is (new_list size count) r e = absurd (omega (arith, e))
empty_is (filled_list size count ws) r e = absurd (omega (arith, e))
empty_is (new_pointers count) r e = absurd (omega (arith, e))
empty_is (new_structs count d k) r e = absurd (some (count * (d + k)) e)
  where
    some : (m : ℕ) → 1 + 4 * 0 + 2 ^ 32 * 7 + 2 ^ 35 * m ≡ 0 → ⊥
    some m h = omega (arith, h)

pub moved_empty : (s u : Segments) (a b : Place) (spare : List Span) (v : ℕ) → v ≡ unwrap_or (word_at s a) 0 → v ≢ 0 → v < 2 ^ 64 → v % 4 < 2 → v % 4 + v / 2 ^ 32 * 2 ^ 32 ≡ 0 → u ≡ pointed (zeroed s a 1) b (struct_pointer (2 ^ 30 - 1) 0 0) → MovesValue s u a b spare
moved_empty s u a b spare v e some small near none now = λ n w f t m. (
    let y = without n s a b spare w f t m in
    let h = told n s a b spare v w f t e some small near m in
    let base : v % 4 + v / 2 ^ 32 * 2 ^ 32 ≡ new_pointer 0 h.x = ap (λ (z : ℕ). z % 4 + z / 2 ^ 32 * 2 ^ 32) h.is.word ∙ base_word h.offset h.x h.is.small h.is.fits in
    let object : new_object h.r h.x ≡ a_struct h.r 0 0 = empty_is h.x h.r (sym base ∙ none) in
    let found : f ≡ record { pads = 0; object = a_struct h.r 0 0 } = h.is.found ∙ ap (λ (o : Object). let g : Found = record { pads = 0; object = o } in g) object in
    let moved = empty_moved n s a b h.r w t (subst (λ (g : Found). IsMovable n s a b [] w g t) found y) in
    moves_unused n s u a b spare t m.zeros m.apart (subst (λ (z : Segments). Moves n s z a b [] t) (sym now) moved)
    )

-- ---- the offset

same_segment : (p r : Place) (o : ℕ) → begins (after p 1) o ≡ Ok r → r.segment ≡ p.segment
same_segment p r o e = by (ltb o (2 ^ 29)) e
  where
    by : (c : Bool) → cond c (Ok (after (after p 1) o)) (ok_or (place p.segment (p.position + 1 + o - 2 ^ 30) provided leb (2 ^ 30) (p.position + 1 + o)) OutOfBounds) ≡ Ok r → r.segment ≡ p.segment
    by true is = let h : after (after p 1) o ≡ r = ok_is _ _ is in ap (λ (q : Place). q.segment) (sym h)
    by false is =
        let y : (place p.segment (p.position + 1 + o - 2 ^ 30) provided leb (2 ^ 30) (p.position + 1 + o)) ≡ Some r = ok_or_some _ _ _ is in
        let g = provided_some (place p.segment (p.position + 1 + o - 2 ^ 30)) r (leb (2 ^ 30) (p.position + 1 + o)) y in
        ap (λ (q : Place). q.segment) (sym g.1)

reaches : (p r : Place) → r.segment ≡ p.segment → p.position < 2 ^ 29 → r.position < 2 ^ 29 → Reaches p r (offset_to p r)
reaches p r same lp lr =
    elim (cases_lt r.position (p.position + 1)) [
      | inl back ↦ reaches_back p r (offset_to p r) same (omega (arith, back, lp, lr)) (omega (arith, back, lp, lr)) (omega arith)
      | inr ahead ↦ reaches_ahead p r (offset_to p r) (record { same = same; gap = omega (arith, ahead, lp, lr); short = omega (arith, ahead, lp, lr) })
    ]

-- ---- where the object begins, as the code finds it

pub StartsAt : Segments → Place → Option code.Place → Type 0
StartsAt s a o = (f : Found) → found_at s a ≡ Ok f → option_map place_view o ≡ start_of f.object

pub starts_at : (s : Segments) (a : Place) (o : Option code.Place) (found : Result FoundObject Error) → seen found_view found ≡ found_at s a → IfOk found (λ g. option_map place_view o ≡ start_of (named_view g.object)) → StartsAt s a o
unfolding StartsAt
starts_at s a o (Ok g) e h f is =
    let same : found_view g ≡ f = ok_is _ _ (e ∙ is) in
    h ∙ ap (λ (y : Found). start_of y.object) same
starts_at s a o (Err k) e h f is = absurd (let z = e ∙ is in cc)

direct_start : (n : ℕ) (s : Segments) (a : Place) (v : ℕ) (f : Found) (t : Tree) (o : Option code.Place) → StartsAt s a o → found_at s a ≡ Ok f → (h : Told n s a v f t) → option_map place_view o ≡ Some h.r
unfolding StartsAt
direct_start n s a v f t o start e h = start f e ∙ ap (λ (g : Found). start_of g.object) h.is.found ∙ begins_at h.x h.r

pub moved_lost : (s : Segments) (a b : Place) (spare : List Span) (v : ℕ) (o : Option code.Place) → v ≡ unwrap_or (word_at s a) 0 → v ≢ 0 → v < 2 ^ 64 → v % 4 < 2 → StartsAt s a o → o ≡ None → MovesValue s s a b spare
moved_lost s a b spare v o e some small near start none = λ n w f t m. (
    let h = told n s a b spare v w f t e some small near m in
    let is : option_map place_view o ≡ Some h.r = direct_start n s a v f t o start m.found h in
    let empty : option_map place_view o ≡ None = ap (option_map place_view) none in
    absurd (let z = sym is ∙ empty in cc)
    )

pub moved_outside : (s : Segments) (a b : Place) (spare : List Span) (v : ℕ) (o : Option code.Place) (start : code.Place) → v ≡ unwrap_or (word_at s a) 0 → v ≢ 0 → v < 2 ^ 64 → v % 4 < 2 → StartsAt s a o → o ≡ Some start → is_some (words_at s (place_view start) 0) ≡ false → MovesValue s s a b spare
moved_outside s a b spare v o start e some small near starts is_start outside = λ n w f t m. (
    let h = told n s a b spare v w f t e some small near m in
    let is : option_map place_view o ≡ Some h.r = direct_start n s a v f t o starts m.found h in
    let at : place_view start ≡ h.r = some_is _ _ (sym (ap (option_map place_view) is_start) ∙ is) in
    let there = told_there n s a v f t h m.found m.owned in
    let not_there : is_some (words_at s h.r 0) ≡ false = ap (λ (q : Place). is_some (words_at s q 0)) (sym at) ∙ outside in
    absurd (let z = sym there ∙ not_there in cc)
    )

-- ---- the pointer is written

pub moved_direct : (s u : Segments) (a b : Place) (pad : Option code.Place) (v : ℕ) (o : Option code.Place) (start : code.Place) → v ≡ unwrap_or (word_at s a) 0 → v ≢ 0 → v < 2 ^ 64 → v % 4 < 2 → StartsAt s a o → o ≡ Some start → v % 4 + v / 2 ^ 32 * 2 ^ 32 ≢ 0
    → HasPadIfFar pad a.segment b.segment → HasPads s pad 1 → AreNamed pad start.segment → is_some (words_at s (place_view start) 0) ≡ true → is_some (words_at s b 1) ≡ true → total_words s < 2 ^ 29 → u ≡ pointed_at (zeroed s a 1) b (place_view start) pad (v % 4 + v / 2 ^ 32 * 2 ^ 32) → MovesValue s u a b (pads_of pad 1)
moved_direct s u a b None v o start e some small near starts is_start positive reached pads named inside slot few now = λ n w f t m. (
    let h = told n s a b [] v w f t e some small near m in
    let is : option_map place_view o ≡ Some h.r = direct_start n s a v f t o starts m.found h in
    let at : place_view start ≡ h.r = some_is _ _ (sym (ap (option_map place_view) is_start) ∙ is) in
    let base : v % 4 + v / 2 ^ 32 * 2 ^ 32 ≡ new_pointer 0 h.x = ap (λ (z : ℕ). z % 4 + z / 2 ^ 32 * 2 ^ 32) h.is.word ∙ base_word h.offset h.x h.is.small h.is.fits in
    let lr = within_total s (place_view start) 0 inside in
    let lb = within_total s b 1 slot in
    let there : h.r.segment ≡ a.segment = same_segment a h.r h.offset h.is.starts in
    let here : (place_view start).segment ≡ b.segment = ap (λ (q : Place). q.segment) at ∙ there ∙ reached in
    let to = reaches b (place_view start) here (omega (arith, lb, few)) (omega (arith, lr, few)) in
    let word : v % 4 + v / 2 ^ 32 * 2 ^ 32 + 4 * offset_to b (place_view start) ≡ new_pointer (offset_to b (place_view start)) h.x = ap (λ (z : ℕ). z + 4 * offset_to b (place_view start)) base ∙ at_offset (offset_to b (place_view start)) h.x in
    let found : found_at s a ≡ Ok (record { pads = 0; object = new_object (place_view start) h.x }) = m.found ∙ ap (λ (g : Found). let z : Result Found Kind = Ok g in z) h.is.found ∙ ap (λ (q : Place). let z : Result Found Kind = Ok (record { pads = 0; object = new_object q h.x }) in z) (sym at) in
    let moved = moved_near n s a b (place_view start) w (offset_to b (place_view start)) h.x t found m.there m.owned m.null_there m.apart to (omega (arith, word, positive)) h.is.fits in
    subst (λ (z : Segments). Moves n s z a b [] t) (sym now) (subst (λ (z : ℕ). Moves n s (pointed (zeroed s a 1) b z) a b [] t) (sym word) moved)
    )
moved_direct s u a b (Some pad) v o start e some small near starts is_start positive reached pads named inside slot few now = λ n w f t m. (
    let h = told n s a b (pads_of (Some pad) 1) v w f t e some small near m in
    let is : option_map place_view o ≡ Some h.r = direct_start n s a v f t o starts m.found h in
    let at : place_view start ≡ h.r = some_is _ _ (sym (ap (option_map place_view) is_start) ∙ is) in
    let base : v % 4 + v / 2 ^ 32 * 2 ^ 32 ≡ new_pointer 0 h.x = ap (λ (z : ℕ). z % 4 + z / 2 ^ 32 * 2 ^ 32) h.is.word ∙ base_word h.offset h.x h.is.small h.is.fits in
    let lr = within_total s (place_view start) 0 inside in
    let found : found_at s a ≡ Ok (record { pads = 0; object = new_object (place_view start) h.x }) = m.found ∙ ap (λ (g : Found). let z : Result Found Kind = Ok g in z) h.is.found ∙ ap (λ (q : Place). let z : Result Found Kind = Ok (record { pads = 0; object = new_object q h.x }) in z) (sym at) in
    let padded : IsNamed (place_view pad) = record { segment_fits = named.0; position_fits = (let l = pads.1 in omega (arith, l)) } in
    let named_start : IsNamed (place_view start) = record { segment_fits = named.1; position_fits = omega (arith, lr, few) } in
    let moved = moved_double_far n s a b (place_view pad) (place_view start) w h.x t found m.there m.owned m.null_there m.apart m.zeros.0 padded named_start h.is.fits in
    subst (λ (z : Segments). Moves n s z a b (span (place_view pad) 2 ∷ []) t) (sym now) (subst (λ (z : ℕ). Moves n s (pointed_double_far (zeroed s a 1) b (place_view pad) (place_view start) z) a b (span (place_view pad) 2 ∷ []) t) (sym base) moved)
    )
