-- What is read of bytes is read of just the bytes in front of the rest.
use Rattle.std.proofs.Common.{◌≡◌, ℕ, zero, suc, ◌/◌, ◌%◌, Bool, true, false, cond, eqb, leb, List, [], ◌∷◌, ◌++◌, length, take, drop, Result, Ok, refl, ap, subst, sym, ◌∙◌, append_assoc, arith}
use Rattle.std.proofs.lemmas.Bool.{leb-true}
use Rattle.std.proofs.lemmas.List.{length-take, append-nil, take-append-drop}
use Rattle.capnp_model.specs.Kinds.{Kind, FailedToFillTheWholeBuffer, PackedInputDidNotEndCleanlyOnASegmentBoundary}
use Rattle.capnp_model.specs.Chains.{◌and_then◌, guard}
use Rattle.capnp_model.specs.Bytes.{taken}
use Rattle.capnp_model.specs.Packing.{Run, first, next, zeros, verbatim, byte_at, spread, counted, run_at, group_at, started, with_word, unpacked_from}
use Rattle.capnp_model.proofs.lemmas.Chaining.{ok_then, ok_is, bind_ok, cond_ok}
use Rattle.capnp_model.proofs.lemmas.ByteWords.{taken_front}
use Rattle.capnp_model.proofs.PackedPrefixes.{taken_more, byte_at_more, spread_more, with_word_ok, group_at_more}

-- The bytes begin with some of which just this is read, and then the rest.
abbrev pub Front : {A : Type 0} → (List ℕ → Result (A × List ℕ) Kind) → List ℕ → A → List ℕ → Type 0
Front f b a rest = (x : List ℕ) × (b ≡ x ++ rest) × (f x ≡ Ok (a, []))

pub joined : (b c rest x y : List ℕ) → b ≡ x ++ c → c ≡ y ++ rest → b ≡ (x ++ y) ++ rest
joined b c rest x y e f = e ∙ ap (λ (z : List ℕ). x ++ z) f ∙ sym (append_assoc x y rest)

pub taken_fronts : (n : ℕ) (b : List ℕ) (r : List ℕ × List ℕ) → taken n b ≡ Ok r → Front (taken n) b r.0 r.1
taken_fronts n b r e =
    let g = cond_ok (leb n (length b)) FailedToFillTheWholeBuffer (take n b, drop n b) r e in
    let le = leb-true _ _ g.0 in
    let long : length (take n b) ≡ n = omega (arith, length-take n b) in
    let whole : taken n (take n b) ≡ Ok (take n b, []) = ap (taken n) (sym (append-nil (take n b))) ∙ taken_front n (take n b) [] long in
    subst (λ (q : List ℕ × List ℕ). Front (taken n) b q.0 q.1) g.1 (take n b, sym (take-append-drop n b), whole)

-- ---- packing

byte_at_fronts : (bit : ℕ) (b : List ℕ) (r : ℕ × List ℕ) → byte_at bit b ≡ Ok r → Front (byte_at bit) b r.0 r.1
byte_at_fronts zero b r e = subst (λ (q : ℕ × List ℕ). Front (byte_at zero) b q.0 q.1) (ok_is (0, b) r e) ([], refl, refl)
byte_at_fronts (suc n) [] r e = absurd cc
byte_at_fronts (suc n) (c ∷ b) r e = subst (λ (q : ℕ × List ℕ). Front (byte_at (suc n)) (c ∷ b) q.0 q.1) (ok_is (c, b) r e) (c ∷ [], refl, refl)

spread_fronts : (n t : ℕ) (b : List ℕ) (r : List ℕ × List ℕ) → spread n t b ≡ Ok r → Front (spread n t) b r.0 r.1
spread_fronts zero t b r e = subst (λ (q : List ℕ × List ℕ). Front (spread zero t) b q.0 q.1) (ok_is ([], b) r e) ([], refl, refl)
spread_fronts (suc n) t b r e =
    let a = bind_ok (byte_at (t % 2) b) _ r e in
    let c = bind_ok (spread n (t / 2) a.0.1) _ r a.2 in
    let p = byte_at_fronts (t % 2) b a.0 a.1 in
    let q = spread_fronts n (t / 2) a.0.1 c.0 c.1 in
    let reads : spread (suc n) t (p.0 ++ q.0) ≡ Ok (a.0.0 ∷ c.0.0, []) = ok_then _ _ (a.0.0, q.0) _ (byte_at_more (t % 2) p.0 (a.0.0, []) q.0 p.2) (ok_then _ _ (c.0.0, []) _ q.2 refl) in
    subst (λ (z : List ℕ × List ℕ). Front (spread (suc n) t) b z.0 z.1) (ok_is _ r c.2) (p.0 ++ q.0, joined b a.0.1 c.0.1 p.0 q.0 p.1 q.1, reads)

counted_fronts : (n : ℕ) (run : ℕ → Run) (b : List ℕ) (r : Run × List ℕ) → counted n run b ≡ Ok r → Front (counted n run) b r.0 r.1
counted_fronts n run [] r e = absurd cc
counted_fronts n run (k ∷ b) r e =
    let g = bind_ok (guard (leb k n) PackedInputDidNotEndCleanlyOnASegmentBoundary) _ r e in
    subst (λ (q : Run × List ℕ). Front (counted n run) (k ∷ b) q.0 q.1) (ok_is _ r g.2) (k ∷ [], refl, ok_then _ _ g.0 _ g.1 refl)

run_at_fronts : (n t : ℕ) (b : List ℕ) (r : Run × List ℕ) → run_at n t b ≡ Ok r → Front (run_at n t) b r.0 r.1
run_at_fronts n t b r e = by (eqb t 0) (eqb t 255) e
  where
    by : (i j : Bool) → cond i (counted n zeros b) (cond j (counted n verbatim b) (Ok (next, b))) ≡ Ok r → Front (λ c. cond i (counted n zeros c) (cond j (counted n verbatim c) (Ok (next, c)))) b r.0 r.1
    by true j f = counted_fronts n zeros b r f
    by false true f = counted_fronts n verbatim b r f
    by false false f = subst (λ (q : Run × List ℕ). Front (λ c. Ok (next, c)) b q.0 q.1) (ok_is _ r f) ([], refl, refl)

-- a group: its word, the run behind it, and the rest
GroupFront : ℕ → List ℕ → ℕ → Run → List ℕ → Type 0
GroupFront n b w run rest = (x : List ℕ) × (b ≡ x ++ rest) × (group_at n x ≡ Ok (w, run, []))

group_at_fronts : (n : ℕ) (b : List ℕ) (r : ℕ × Run × List ℕ) → group_at n b ≡ Ok r → GroupFront n b r.0 r.1 r.2
unfolding GroupFront
group_at_fronts n [] r e = absurd cc
group_at_fronts n (t ∷ b) r e =
    let a = bind_ok (spread 8 t b) _ r e in
    let c = bind_ok (run_at n t a.0.1) _ r a.2 in
    let p = spread_fronts 8 t b a.0 a.1 in
    let q = run_at_fronts n t a.0.1 c.0 c.1 in
    let reads = ok_then (spread 8 t (p.0 ++ q.0)) _ (a.0.0, q.0) _ (spread_more 8 t p.0 (a.0.0, []) q.0 p.2) (ok_then (run_at n t q.0) _ (c.0.0, []) _ q.2 refl) in
    subst (λ (z : ℕ × Run × List ℕ). GroupFront n (t ∷ b) z.0 z.1 z.2) (ok_is _ r c.2) (t ∷ (p.0 ++ q.0), ap (λ (z : List ℕ). t ∷ z) (joined b a.0.1 c.0.1 p.0 q.0 p.1 q.1), reads)

starts : (run : Run) (n : ℕ) (b : List ℕ) (r : ℕ × Run × List ℕ) → group_at n b ≡ Ok r → started run b ≡ Ok tt
starts first n [] r e = absurd cc
starts first n (c ∷ b) r e = refl
starts next n b r e = refl
starts (zeros k) n b r e = refl
starts (verbatim k) n b r e = refl

Fronts : ℕ → Type 0
Fronts n = (run : Run) (b : List ℕ) (r : List ℕ × List ℕ) → unpacked_from n run b ≡ Ok r → Front (unpacked_from n run) b r.0 r.1

group_fronts : (n : ℕ) (run : Run) (b : List ℕ) (r : List ℕ × List ℕ) → Fronts n → (started run b and_then λ _. group_at n b and_then λ g. with_word g.0 (unpacked_from n g.1 g.2)) ≡ Ok r
    → Front (λ c. started run c and_then λ _. group_at n c and_then λ g. with_word g.0 (unpacked_from n g.1 g.2)) b r.0 r.1
unfolding Fronts GroupFront
group_fronts n run b r h e =
    let a = bind_ok (started run b) _ r e in
    let c = bind_ok (group_at n b) _ r a.2 in
    let y = with_word_ok c.0.0 (unpacked_from n c.0.1 c.0.2) r c.2 in
    let p = group_at_fronts n b c.0 c.1 in
    let q = h c.0.1 c.0.2 y.0 y.1 in
    let group : group_at n (p.0 ++ q.0) ≡ Ok (c.0.0, c.0.1, q.0) = group_at_more n p.0 (c.0.0, c.0.1, []) q.0 p.2 in
    let reads = ok_then (started run (p.0 ++ q.0)) _ tt _ (starts run n (p.0 ++ q.0) _ group) (ok_then (group_at n (p.0 ++ q.0)) _ (c.0.0, c.0.1, q.0) _ group (ap (with_word c.0.0) q.2)) in
    subst (λ (z : List ℕ × List ℕ). Front (λ d. started run d and_then λ _. group_at n d and_then λ g. with_word g.0 (unpacked_from n g.1 g.2)) b z.0 z.1) y.2 (p.0 ++ q.0, joined b c.0.2 y.0.1 p.0 q.0 p.1 q.1, reads)

pub unpacked_from_fronts : (n : ℕ) (run : Run) (b : List ℕ) (r : List ℕ × List ℕ) → unpacked_from n run b ≡ Ok r → Front (unpacked_from n run) b r.0 r.1
unfolding unpacked_from Fronts
unpacked_from_fronts zero run b r e = subst (λ (q : List ℕ × List ℕ). Front (unpacked_from zero run) b q.0 q.1) (ok_is ([], b) r e) ([], refl, refl)
unpacked_from_fronts (suc n) first b r e = group_fronts n first b r (unpacked_from_fronts n) e
unpacked_from_fronts (suc n) next b r e = group_fronts n next b r (unpacked_from_fronts n) e
unpacked_from_fronts (suc n) (zeros zero) b r e = group_fronts n (zeros 0) b r (unpacked_from_fronts n) e
unpacked_from_fronts (suc n) (verbatim zero) b r e = group_fronts n (verbatim 0) b r (unpacked_from_fronts n) e
unpacked_from_fronts (suc n) (zeros (suc k)) b r e =
    let y = with_word_ok 0 (unpacked_from n (zeros k) b) r e in
    let q = unpacked_from_fronts n (zeros k) b y.0 y.1 in
    subst (λ (z : List ℕ × List ℕ). Front (unpacked_from (suc n) (zeros (suc k))) b z.0 z.1) y.2 (q.0, q.1, ap (with_word 0) q.2)
unpacked_from_fronts (suc n) (verbatim (suc k)) b r e =
    let t = bind_ok (taken 8 b) _ r e in
    let y = with_word_ok _ (unpacked_from n (verbatim k) t.0.1) r t.2 in
    let p = taken_fronts 8 b t.0 t.1 in
    let q = unpacked_from_fronts n (verbatim k) t.0.1 y.0 y.1 in
    let reads = ok_then (taken 8 (p.0 ++ q.0)) _ (t.0.0, q.0) _ (taken_more 8 p.0 (t.0.0, []) q.0 p.2) (ap (with_word _) q.2) in
    subst (λ (z : List ℕ × List ℕ). Front (unpacked_from (suc n) (verbatim (suc k))) b z.0 z.1) y.2 (p.0 ++ q.0, joined b t.0.1 y.0.1 p.0 q.0 p.1 q.1, reads)
