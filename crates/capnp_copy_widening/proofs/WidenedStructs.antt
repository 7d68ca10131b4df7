-- A struct that is widened: its data are copied, its children moved, the old one is cleared and the pointer written.
use Rattle.std.proofs.Common.{◌≡◌, ℕ, zero, suc, max, ◌+◌, ◌-◌, ◌*◌, ◌%◌, ◌^◌, ◌<◌, ◌≤◌, List, [], ◌∷◌, ◌++◌, length, take, replicate, Option, Some, Ok, true, refl, ap, sym, ◌∙◌, subst, arith}
use Rattle.std.specs.Option.{is_some}
use Rattle.std.proofs.lemmas.List.{take-replicate}
use Rattle.capnp_model.specs.Sections.{section_of, number_of}
use Rattle.capnp_model.specs.Segments.{Segments, Place, after, word_at, words_at}
use Rattle.capnp_model.specs.Pointers.{a_struct, found_at}
use Rattle.capnp_model.specs.Trees.{Tree, null, structure, Trees, none, tree_count, resized, widened}
use Rattle.capnp_model.specs.Coverage.{Span, span, times_held}
use Rattle.capnp_model.specs.Encoding.{struct_pointer}
use Rattle.capnp_wire_objects.specs.declared.place.Place as code
use Rattle.capnp_model_writes.specs.Footprints.{OwnsObject}
use Rattle.capnp_model_writes.specs.Changes.{Replaces, ReplacesObject}
use Rattle.capnp_model_writes.specs.Detached.{Detached}
use Rattle.capnp_model_writes.specs.NewObjects.{new_struct, new_pointer, Fits}
use Rattle.capnp_model_writes.specs.Writes.{spliced, with_words}
use Rattle.capnp_model_writes.proofs.lemmas.Detached.{detached_owns, detached_zeros, detached_object, detached_value}
use Rattle.capnp_model_writes.proofs.lemmas.Levels.{owned_more}
use Rattle.capnp_model_writes.proofs.lemmas.Lift.{slot_is, object_of_pointer, struct_is, struct_parts}
use Rattle.capnp_model_writes.proofs.lemmas.PointerRows.{struct_row}
use Rattle.capnp_model_writes.proofs.lemmas.Rows.{after_none}
use Rattle.capnp_model_writes.proofs.lemmas.Spans.{held, held_is, words_front}
use Rattle.capnp_model_writes.proofs.lemmas.Turns.{struct_shape, struct_counted, resized_padded}
use Rattle.capnp_model_writes.proofs.lemmas.Writing.{struct_words, held_part}
use Rattle.capnp_copy_arenas.specs.Clearing.{ClearsValue}
use Rattle.capnp_copy_arenas.specs.Rooms.{begin_of, linked}
use Rattle.capnp_copy_arenas.specs.declared.room.Room.{Room}
use Rattle.capnp_model.proofs.lemmas.ReadFits.{words_length}
use Rattle.capnp_copy_widening.specs.Moves.{CopiesWords, MovesRow, pads_of}
use Rattle.capnp_copy_widening.specs.Widened.{WiderRoom, Widens}
use Rattle.capnp_copy_widening.proofs.WiderRooms.{pad_spare, room_spare, wider_extends, found_grown, found_beside, linked_value}

-- ---- a section with zeros behind it

number_zeros : (w d : ℕ) → number_of w (replicate d 0) ≡ 0
number_zeros w zero = refl
number_zeros w (suc d) = let e = number_zeros w d in rw e (omega arith)

-- words in front of zeros
pub with_zeros_behind : (w d : ℕ) (vs : List ℕ) → length vs ≤ d → number_of w (spliced 0 vs (replicate d 0)) ≡ number_of w vs
unfolding spliced
with_zeros_behind w zero [] l = refl
with_zeros_behind w zero (v ∷ vs) l = absurd (omega (arith, l))
with_zeros_behind w (suc d) [] l = number_zeros w (suc d)
with_zeros_behind w (suc d) (v ∷ vs) l = ap (λ (n : ℕ). n * 2 ^ w + v % 2 ^ w) (with_zeros_behind w d vs (omega (arith, l)))

-- ---- the words

-- data words copied into a new struct
pub data_copied : (n : ℕ) (z m x : Segments) (p a b : Place) (t : Tree) (pads d0 k0 d k section : ℕ) (kids : Trees) (spare : List Span) → d0 ≤ d → found_at m p ≡ Ok (record { pads = pads; object = a_struct a d0 k0 }) → words_at m b (d + k) ≡ Some (replicate (d + k) 0)
    → Detached n z m p (structure d0 section kids) spare (a_struct b d k) (structure d 0 (resized k none)) → CopiesWords m x a b d0 → ReplacesObject n m x (a_struct b d k) (structure d section (resized k none))
data_copied n z m x p a b t pads d0 k0 d k section kids spare l e zeros h copies =
    let own = detached_owns n z m p (structure d0 section kids) (structure d 0 (resized k none)) spare (a_struct b d k) h in
    let inner = object_of_pointer n m p (record { pads = pads; object = a_struct a d0 k0 }) (structure d0 section kids) e own.0 in
    let parts = (struct_parts n m a d0 k0 d0 section kids inner.means).1 in
    let vs = take d0 parts.words in
    let there : words_at m a d0 ≡ Some (take d0 parts.words) = words_front m a d0 k0 parts.words parts.there in
    let long : length (take d0 parts.words) ≡ d0 = words_length m a d0 (take d0 parts.words) there in
    let apart : (q : Place) → times_held (span a d0 ∷ (span b d0 ∷ [])) q ≤ 1 = λ q. (
    let sum : d ≡ d0 + (d - d0) = omega (arith, l) in
    omega (arith, h.apart q, slot_is n m p (record { pads = pads; object = a_struct a d0 k0 }) q e, struct_is n m a d0 k0 q, struct_is n m b d k q, held_is a d0 (span b d0 ∷ []) q, held_is b d0 [] q, held_part b 0 d0 d q (omega (arith, l)), ap (λ (r : Place). held r d0 q) (after_none b))
    ) in
    let now : x ≡ with_words m b (take d0 parts.words) = copies (take d0 parts.words) there apart in
    let front : words_at m b d ≡ Some (replicate d 0) = words_front m b d k (replicate (d + k) 0) zeros ∙ ap (λ (ws : List ℕ). Some ws) (take-replicate d (d + k) 0 (omega arith)) in
    let r = struct_words n m b d k 0 d 0 (resized k none) (take d0 parts.words) (replicate d 0) (omega (arith, long, l)) front own.1 in
    let r' : ReplacesObject n m (with_words m b (take d0 parts.words)) (a_struct b d k) (structure d (section_of (spliced 0 (take d0 parts.words) (replicate d 0))) (resized k none)) = subst (λ (q : Place). ReplacesObject n m (with_words m q (take d0 parts.words)) (a_struct b d k) (structure d (section_of (spliced 0 (take d0 parts.words) (replicate d 0))) (resized k none))) (after_none b) r in
    let section_is : section_of (spliced 0 (take d0 parts.words) (replicate d 0)) ≡ section = with_zeros_behind 64 d (take d0 parts.words) (omega (arith, long, l)) ∙ parts.section_is in
    subst (λ (y : Segments). ReplacesObject n m y (a_struct b d k) (structure d section (resized k none))) (sym now) (subst (λ (j : ℕ). ReplacesObject n m (with_words m b (take d0 parts.words)) (a_struct b d k) (structure d j (resized k none))) section_is r')

pub some_pointer : (d k : ℕ) → 0 < d + k → (o : ℕ) → 0 < new_pointer o (new_struct d k)
some_pointer d k l o = omega (arith, l)

wider_tree : (d0 k0 d k section : ℕ) (kids : Trees) → d0 ≤ d → k0 ≤ k → tree_count kids ≡ k0 → structure d section (resized k kids) ≡ widened d k (structure d0 section kids)
wider_tree d0 k0 d k section kids l m count =
    let most : d ≡ max d d0 = omega (arith, l) in
    ap (λ (j : ℕ). structure j section (resized k kids)) most ∙ ap (structure (max d d0) section) (resized_padded k kids (omega (arith, count, m)))

pub struct_widened : (s m x y z u : Segments) (p a : Place) (pads0 d0 k0 d k segment : ℕ) (room : Room) (pads : Option code.Place) → is_some (word_at s p) ≡ true → found_at s p ≡ Ok (record { pads = pads0; object = a_struct a d0 k0 }) → d0 ≤ d → k0 ≤ k → 0 < d + k → Fits (new_struct d k)
    → WiderRoom s m p segment (d + k) (2 * k0) room pads → CopiesWords m x a (begin_of p room) d0 → MovesRow x y (after a d0) (after (begin_of p room) d) k0 (pads_of pads k0) → ClearsValue y z p → u ≡ linked z p room (struct_pointer 0 d k) → Widens s u p d k
struct_widened s m x y z u p a pads0 d0 k0 d k segment room pads there e ld lk some fits r copies moves clears links = λ n t o. (
    let b = begin_of p room in
    let rest : List Span = pads_of pads k0 ++ pad_spare room in
    let o1 = owned_more n (suc n) s p t (omega arith) o in
    let inner0 = object_of_pointer n s p (record { pads = pads0; object = a_struct a d0 k0 }) t e o1 in
    let shape = struct_shape n s a d0 k0 t inner0 in
    let section = shape.0 in
    let kids = shape.1 in
    let count : tree_count shape.1 ≡ k0 = struct_counted n s a d0 k0 d0 shape.0 shape.1 (subst (OwnsObject n s (a_struct a d0 k0)) shape.2 inner0) in
    let h1 = room_spare n s m p t segment (d + k) k0 room pads some o1 r in
    let h2 = detached_zeros n s m p t (begin_of p room) (d + k) (new_struct d k) (pads_of pads k0 ++ pad_spare room) h1 refl fits in
    let h2' : Detached n s m p (structure d0 shape.0 shape.1) (pads_of pads k0 ++ pad_spare room) (a_struct (begin_of p room) d k) (structure d 0 (resized k none)) = subst (λ (v : Tree). Detached n s m p v (pads_of pads k0 ++ pad_spare room) (a_struct (begin_of p room) d k) (structure d 0 (resized k none))) shape.2 h2 in
    let em = found_grown s m p (record { pads = pads0; object = a_struct a d0 k0 }) (wider_extends s m p segment (d + k) (2 * k0) room pads r) e in
    let copied = data_copied n s m x p a (begin_of p room) t pads0 d0 k0 d k shape.0 shape.1 (pads_of pads k0 ++ pad_spare room) ld em h1.zeros.0 h2' copies in
    let h3 = detached_object n s m x p (structure d0 shape.0 shape.1) (structure d 0 (resized k none)) (structure d shape.0 (resized k none)) (pads_of pads k0 ++ pad_spare room) (a_struct (begin_of p room) d k) h2' copied in
    let ex = found_beside n s m x p (record { pads = pads0; object = a_struct a d0 k0 }) (structure d0 shape.0 shape.1) (structure d 0 (resized k none)) (structure d shape.0 (resized k none)) (pads_of pads k0 ++ pad_spare room) (a_struct (begin_of p room) d k) em h2' copied in
    let moved = moves n k s p (record { pads = pads0; object = a_struct a d0 k0 }) (a_struct (begin_of p room) d k) (λ ks. structure d0 shape.0 ks) (λ ks. structure d shape.0 ks) shape.1 (pad_spare room) lk (struct_row n a d0 k0 d0 shape.0) (struct_row n (begin_of p room) d k d shape.0) ex h3 in
    let owned = detached_owns n s y p (structure d0 shape.0 (resized k0 none)) (structure d shape.0 (resized k shape.1)) (pad_spare room) (a_struct (begin_of p room) d k) moved.0 in
    let cleared = clears (suc n) (structure d0 shape.0 (resized k0 none)) owned.0 in
    let h5 = detached_value n s y z p (structure d0 shape.0 (resized k0 none)) null (structure d shape.0 (resized k shape.1)) (pad_spare room) (a_struct (begin_of p room) d k) moved.0 cleared in
    let all = linked_value n s m z p segment (d + k) (2 * k0) room pads (new_struct d k) (structure d shape.0 (resized k shape.1)) there some r (some_pointer d k some) fits h5 in
    let wide : structure d shape.0 (resized k shape.1) ≡ widened d k t = wider_tree d0 k0 d k shape.0 shape.1 ld lk count ∙ ap (widened d k) (sym shape.2) in
    subst (λ (v : Segments). Replaces (suc n) s v p (widened d k t)) (sym links) (subst (λ (v : Tree). Replaces (suc n) s (linked z p room (struct_pointer 0 d k)) p v) wide all)
    )
