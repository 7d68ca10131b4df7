-- Whatever follows a message isn't looked at, in either form.
use Rattle.std.proofs.Common.{◌≡◌, ℕ, Option, ◌+◌, ◌*◌, ◌/◌, ltb, List, [], ◌∷◌, ◌++◌, take, sum, Result, Ok, Err, refl, ap, sym, ◌∙◌}
use Rattle.std.proofs.lemmas.List.{append_cancel_right}
use Rattle.capnp_model.specs.Kinds.{Kind, InvalidNumberOfSegments, MessageTooLarge}
use Rattle.capnp_model.specs.Chains.{guard}
use Rattle.capnp_model.specs.Segments.{Segments}
use Rattle.capnp_model.specs.Bytes.{taken}
use Rattle.capnp_model.specs.Packing.{first, unpacked}
use Rattle.capnp_model.specs.Messages.{Reader, within, message_by, plain_words, flat_words, flat_at, else_refused, halves, behind_lengths, behind_first, message_at, frame_at, packed_at}
use Rattle.capnp_model.specs.Spelling.{Spells, Frames, Packs}
use Rattle.capnp_model.proofs.lemmas.Chaining.{ok_then, ok_is, bind_ok}
use Rattle.capnp_model.proofs.PackedPrefixes.{taken_more, unpacked_from_more}

-- A reader that doesn't look behind what it reads.
abbrev pub LooksNoFurther : Reader → Type 0
LooksNoFurther read = (n : ℕ) (b : List ℕ) (r : List ℕ × List ℕ) (x : List ℕ) → read n b ≡ Ok r → read n (b ++ x) ≡ Ok (r.0, r.1 ++ x)

pub plain_words_more : LooksNoFurther plain_words
plain_words_more n b r x e =
    let t = bind_ok (taken (8 * n) b) _ r e in
    ok_then _ _ _ _ (taken_more (8 * n) b t.0 x t.1) (ap (λ (p : List ℕ × List ℕ). Ok (p.0, p.1 ++ x)) (ok_is _ r t.2))

pub unpacked_more : LooksNoFurther unpacked
unpacked_more n b r x e = unpacked_from_more n x first b r e

module _ (table read : Reader) (k : LooksNoFurther table) (h : LooksNoFurther read) (limit : Option ℕ) (x : List ℕ) where
  lengths_more : (ns b : List ℕ) (r : Segments × List ℕ) → behind_lengths read limit ns b ≡ Ok r → behind_lengths read limit ns (b ++ x) ≡ Ok (r.0, r.1 ++ x)
  lengths_more ns b r e =
      let g = bind_ok (guard (within (sum ns) limit) MessageTooLarge) _ r e in
      let t = bind_ok (read (sum ns) b) _ r g.2 in
      ok_then _ _ g.0 _ g.1 (ok_then _ _ _ _ (h (sum ns) b t.0 x t.1) (ap (λ (p : Segments × List ℕ). Ok (p.0, p.1 ++ x)) (ok_is _ r t.2)))

  first_more : (w b : List ℕ) (r : Segments × List ℕ) → behind_first table read limit w b ≡ Ok r → behind_first table read limit w (b ++ x) ≡ Ok (r.0, r.1 ++ x)
  first_more [] b r e = absurd cc
  first_more (n ∷ l) b r e =
      let g = bind_ok (guard (ltb n 511) InvalidNumberOfSegments) _ r e in
      let t = bind_ok (table ((n + 1) / 2) b) _ r g.2 in
      ok_then _ _ g.0 _ g.1 (ok_then _ _ _ _ (k ((n + 1) / 2) b t.0 x t.1) (lengths_more (take (n + 1) (l ++ halves t.0.0)) t.0.1 r t.2))

  message_more : (b : List ℕ) (r : Segments × List ℕ) → message_by table read limit b ≡ Ok r → message_by table read limit (b ++ x) ≡ Ok (r.0, r.1 ++ x)
  message_more b r e =
      let t = bind_ok (table 1 b) _ r e in
      ok_then _ _ _ _ (k 1 b t.0 x t.1) (first_more (halves t.0.0) t.0.1 r t.2)

pub framed_at_more : (limit : Option ℕ) (b : List ℕ) (r : Segments × List ℕ) (x : List ℕ) → frame_at limit b ≡ Ok r → frame_at limit (b ++ x) ≡ Ok (r.0, r.1 ++ x)
unfolding message_at
framed_at_more limit b r x e = message_more plain_words plain_words plain_words_more plain_words_more limit x b r e

pub packed_at_more : (limit : Option ℕ) (b : List ℕ) (r : Segments × List ℕ) (x : List ℕ) → packed_at limit b ≡ Ok r → packed_at limit (b ++ x) ≡ Ok (r.0, r.1 ++ x)
unfolding message_at
packed_at_more limit b r x e = message_more unpacked unpacked unpacked_more unpacked_more limit x b r e

one_text : (read : Reader) → LooksNoFurther read → (limit : Option ℕ) (b c : List ℕ) (s u : Segments) (x y : List ℕ) → Spells read limit b s → Spells read limit c u → b ++ x ≡ c ++ y → (b ≡ c) × (s ≡ u)
unfolding message_at
one_text read h limit b c s u x y eb ec e =
    let one : message_at read limit (b ++ x) ≡ Ok (s, x) = message_more read read h h limit x b (s, []) eb in
    let two : message_at read limit (c ++ y) ≡ Ok (u, y) = message_more read read h h limit y c (u, []) ec in
    let both : (s, x) ≡ (u, y) = ok_is (s, x) (u, y) (sym one ∙ ap (message_at read limit) e ∙ two) in
    let same : x ≡ y = ap (λ (p : Segments × List ℕ). p.1) both in
    (append_cancel_right b c x (e ∙ ap (λ (z : List ℕ). c ++ z) (sym same)), ap (λ (p : Segments × List ℕ). p.0) both)

-- THE LAWS: no framed text begins another, no packed text another.
pub one_framed_text : (limit : Option ℕ) (b c : List ℕ) (s u : Segments) (x y : List ℕ) → Frames limit b s → Frames limit c u → b ++ x ≡ c ++ y → (b ≡ c) × (s ≡ u)
one_framed_text = one_text plain_words plain_words_more

pub one_packed_text : (limit : Option ℕ) (b c : List ℕ) (s u : Segments) (x y : List ℕ) → Packs limit b s → Packs limit c u → b ++ x ≡ c ++ y → (b ≡ c) × (s ≡ u)
one_packed_text = one_text unpacked unpacked_more

-- ---- slices

-- One reader reads all that another reads.
abbrev pub ReadsAll : Reader → Reader → Type 0
ReadsAll read other = (n : ℕ) (b : List ℕ) (r : List ℕ × List ℕ) → read n b ≡ Ok r → other n b ≡ Ok r

else_refused_ok : {A : Type 0} (k : Kind) (a : Result A Kind) (x : A) → a ≡ Ok x → else_refused k a ≡ Ok x
else_refused_ok k a x e = rw e refl

pub ok_else_refused : {A : Type 0} (k : Kind) (a : Result A Kind) (x : A) → else_refused k a ≡ Ok x → a ≡ Ok x
ok_else_refused k (Ok y) x e = e
ok_else_refused k (Err d) x e = absurd cc

module _ (table read other : Reader) (h : ReadsAll read other) (limit : Option ℕ) where
  lengths_alike : (ns b : List ℕ) (r : Segments × List ℕ) → behind_lengths read limit ns b ≡ Ok r → behind_lengths other limit ns b ≡ Ok r
  lengths_alike ns b r e =
      let g = bind_ok (guard (within (sum ns) limit) MessageTooLarge) _ r e in
      let t = bind_ok (read (sum ns) b) _ r g.2 in
      ok_then _ _ g.0 _ g.1 (ok_then _ _ _ _ (h (sum ns) b t.0 t.1) t.2)

  first_alike : (w b : List ℕ) (r : Segments × List ℕ) → behind_first table read limit w b ≡ Ok r → behind_first table other limit w b ≡ Ok r
  first_alike [] b r e = absurd cc
  first_alike (n ∷ l) b r e =
      let g = bind_ok (guard (ltb n 511) InvalidNumberOfSegments) _ r e in
      let t = bind_ok (table ((n + 1) / 2) b) _ r g.2 in
      ok_then _ _ g.0 _ g.1 (ok_then _ _ _ _ t.1 (lengths_alike (take (n + 1) (l ++ halves t.0.0)) t.0.1 r t.2))

  message_alike : (b : List ℕ) (r : Segments × List ℕ) → message_by table read limit b ≡ Ok r → message_by table other limit b ≡ Ok r
  message_alike b r e =
      let t = bind_ok (table 1 b) _ r e in
      ok_then _ _ _ _ t.1 (first_alike (halves t.0.0) t.0.1 r t.2)

-- THE LAWS: a slice is read just as a stream is, where a message is read.
pub framed_in_slice : (limit : Option ℕ) (b : List ℕ) (r : Segments × List ℕ) → frame_at limit b ≡ Ok r → flat_at limit b ≡ Ok r
unfolding message_at flat_at
framed_in_slice limit [] r e = absurd cc
framed_in_slice limit (x ∷ b) r e = message_alike plain_words plain_words flat_words (λ n c q f. else_refused_ok _ _ _ f) limit (x ∷ b) r e

pub slice_framed : (limit : Option ℕ) (b : List ℕ) (r : Segments × List ℕ) → flat_at limit b ≡ Ok r → frame_at limit b ≡ Ok r
unfolding message_at flat_at
slice_framed limit [] r e = absurd cc
slice_framed limit (x ∷ b) r e = message_alike plain_words flat_words plain_words (λ n c q f. ok_else_refused _ _ _ f) limit (x ∷ b) r e
