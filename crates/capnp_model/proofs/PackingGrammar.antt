-- The machine that unpacks and the packing grammar are the same.
use Rattle.std.proofs.Common.{◌≡◌, ◌≢◌, ℕ, zero, suc, ◌/◌, ◌%◌, ◌<◌, ◌≤◌, ◌⊎◌, inl, inr, Bool, true, false, eqb, leb, List, [], ◌∷◌, ◌++◌, length, take, drop, take-append-drop, length-take-le, replicate, Result, Ok, refl, ap, subst, sym, ◌∙◌, append_assoc, arith, length-append}
use Rattle.std.specs.Int.{w64, from_le_bytes}
use Rattle.std.proofs.lemmas.Bool.{le-leb, leb-true, eqb-true, eqb-false, ne_eqb}
use Rattle.std.proofs.lemmas.List.{length-replicate}
use Rattle.capnp_model.specs.Kinds.{Kind, FailedToFillTheWholeBuffer, PackedInputDidNotEndCleanlyOnASegmentBoundary}
use Rattle.capnp_model.specs.Chains.{◌and_then◌, guard}
use Rattle.capnp_model.specs.Bytes.{taken}
use Rattle.capnp_model.specs.Packing.{Run, first, next, zeros, verbatim, byte_at, spread, counted, run_at, group_at, started, with_word, unpacked_from, unpacked}
use Rattle.capnp_model.specs.PackingGrammar.{Marked, marked_end, marked_zero, marked_byte, AsTheyAre, are_none, are_more, Spell, spell_nothing, spell_word, spell_zeros, spell_verbatim}
use Rattle.capnp_model.proofs.lemmas.Chaining.{ok_then, ok_is, bind_ok, guard_then, cond_ok}
use Rattle.capnp_model.proofs.lemmas.ByteWords.{taken_front}
use Rattle.capnp_model.proofs.Packing.{IsRun, counted_again}
use Rattle.capnp_model.proofs.PackedPrefixes.{with_word_ok, unpacked_from_more}
use Rattle.capnp_model.proofs.PackedFronts.{unpacked_from_fronts}

-- ---- texts are read

marked_spread : {t : ℕ} {text word : List ℕ} → Marked t text word → (more : List ℕ) → spread (length word) t (text ++ more) ≡ Ok (word, more)
marked_spread marked_end more = refl
marked_spread (marked_zero even rest) more = let e = even in let h = marked_spread rest more in rw (e, h) refl
marked_spread (marked_byte b odd rest) more = let e = odd in let h = marked_spread rest more in rw (e, h) refl

full_spread : (word more : List ℕ) → length word ≡ 8 → spread 8 255 (word ++ more) ≡ Ok (word, more)
full_spread (a ∷ b ∷ c ∷ d ∷ e ∷ f ∷ g ∷ h ∷ []) more eight = refl
full_spread [] more eight = absurd (omega arith)
full_spread (a ∷ []) more eight = absurd (omega arith)
full_spread (a ∷ b ∷ []) more eight = absurd (omega arith)
full_spread (a ∷ b ∷ c ∷ []) more eight = absurd (omega arith)
full_spread (a ∷ b ∷ c ∷ d ∷ []) more eight = absurd (omega arith)
full_spread (a ∷ b ∷ c ∷ d ∷ e ∷ []) more eight = absurd (omega arith)
full_spread (a ∷ b ∷ c ∷ d ∷ e ∷ f ∷ []) more eight = absurd (omega arith)
full_spread (a ∷ b ∷ c ∷ d ∷ e ∷ f ∷ g ∷ []) more eight = absurd (omega arith)
full_spread (a ∷ b ∷ c ∷ d ∷ e ∷ f ∷ g ∷ h ∷ i ∷ word) more eight = absurd (omega arith)

are-length : {k : ℕ} {text run : List ℕ} → AsTheyAre k text run → length run ≡ k
are-length are_none = refl
are-length (are_more word eight rest) = ap suc (are-length rest)

zeros_read : (k : ℕ) (more ws : List ℕ) → unpacked_from (length ws) (zeros 0) more ≡ Ok (ws, []) → unpacked_from (length (replicate k 0 ++ ws)) (zeros k) more ≡ Ok (replicate k 0 ++ ws, [])
unfolding unpacked_from
zeros_read zero more ws h = h
zeros_read (suc k) more ws h = ap (with_word 0) (zeros_read k more ws h)

are_read : {k : ℕ} {text run : List ℕ} → AsTheyAre k text run → (more ws : List ℕ) → unpacked_from (length ws) (verbatim 0) more ≡ Ok (ws, []) → unpacked_from (length (run ++ ws)) (verbatim k) (text ++ more) ≡ Ok (run ++ ws, [])
unfolding unpacked_from
are_read are_none more ws h = h
are_read (are_more {k} {text} {words} word eight rest) more ws h =
    let front : taken 8 ((word ++ text) ++ more) ≡ Ok (word, text ++ more) = ap (taken 8) (append_assoc word text more) ∙ taken_front 8 word (text ++ more) eight in
    ok_then _ _ (word, text ++ more) _ front (ap (with_word (from_le_bytes w64 word)) (are_read rest more ws h))

abbrev group_on : ℕ → ℕ × Run × List ℕ → Result (List ℕ × List ℕ) Kind
group_on n g = with_word g.0 (unpacked_from n g.1 g.2)

over_step : (n : ℕ) (run : Run) → IsRun run [] → (t : ℕ) (bytes : List ℕ) (g : ℕ × Run × List ℕ) → group_at n (t ∷ bytes) ≡ Ok g → unpacked_from (suc n) run (t ∷ bytes) ≡ group_on n g
unfolding unpacked_from
over_step n first over t bytes g e = ok_then (group_at n (t ∷ bytes)) (group_on n) g _ e refl
over_step n next over t bytes g e = ok_then (group_at n (t ∷ bytes)) (group_on n) g _ e refl
over_step n (zeros zero) over t bytes g e = ok_then (group_at n (t ∷ bytes)) (group_on n) g _ e refl
over_step n (zeros (suc k)) over t bytes g e = absurd over
over_step n (verbatim zero) over t bytes g e = ok_then (group_at n (t ∷ bytes)) (group_on n) g _ e refl
over_step n (verbatim (suc k)) over t bytes g e = absurd over

abbrev run_on : List ℕ → Run × List ℕ → Result (ℕ × Run × List ℕ) Kind
run_on word r = Ok (from_le_bytes w64 word, r.0, r.1)

abbrev word_on : ℕ → ℕ → List ℕ × List ℕ → Result (ℕ × Run × List ℕ) Kind
word_on n t w = run_at n t w.1 and_then run_on w.0

group_by : (n t : ℕ) (bytes word behind more : List ℕ) (run : Run) → spread 8 t bytes ≡ Ok (word, behind) → run_at n t behind ≡ Ok (run, more) → group_at n (t ∷ bytes) ≡ Ok (from_le_bytes w64 word, run, more)
group_by n t bytes word behind more run e h = ok_then (spread 8 t bytes) (word_on n t) (word, behind) _ e (ok_then (run_at n t behind) (run_on word) (run, more) _ h refl)

no_run : (n t : ℕ) (more : List ℕ) → t ≢ 0 → t ≢ 255 → run_at n t more ≡ Ok (next, more)
no_run n t more some full = let a = ne_eqb t 0 some in let b = ne_eqb t 255 full in rw (a, b) refl

groups_read : {text ws : List ℕ} → Spell text ws → (run : Run) → IsRun run [] → unpacked_from (length ws) run text ≡ Ok (ws, [])
unfolding unpacked_from
groups_read spell_nothing run over = refl
groups_read (spell_word {text} {rest} {words} t word some full eight marked more) run over =
    let read : spread 8 t (text ++ rest) ≡ Ok (word, rest) = ap (λ (n : ℕ). spread n t (text ++ rest)) (sym eight) ∙ marked_spread marked rest in
    over_step (length words) run over t (text ++ rest) (from_le_bytes w64 word, next, rest) (group_by (length words) t (text ++ rest) word rest rest next read (no_run (length words) t rest some full))
    ∙ ap (with_word (from_le_bytes w64 word)) (groups_read more next tt)
groups_read (spell_zeros {rest} {words} k more) run over =
    let ws = replicate k 0 ++ words in
    let fits : k ≤ length ws = omega (arith, length-append (replicate k 0) words, length-replicate {A = ℕ} k 0) in
    over_step (length ws) run over 0 (k ∷ rest) (0, zeros k, rest) (group_by (length ws) 0 (k ∷ rest) (replicate 8 0) (k ∷ rest) rest (zeros k) refl (counted_again (length ws) k zeros rest fits))
    ∙ ap (with_word 0) (zeros_read k rest words (groups_read more (zeros 0) tt))
groups_read (spell_verbatim {text} {rest} {run = vs} {words} k word eight are more) run over =
    let ws = vs ++ words in
    let fits : k ≤ length ws = omega (arith, length-append vs words, are-length are) in
    over_step (length ws) run over 255 (word ++ (k ∷ (text ++ rest))) (from_le_bytes w64 word, verbatim k, text ++ rest)
    (group_by (length ws) 255 (word ++ (k ∷ (text ++ rest))) word (k ∷ (text ++ rest)) (text ++ rest) (verbatim k) (full_spread word (k ∷ (text ++ rest)) eight) (counted_again (length ws) k verbatim (text ++ rest) fits))
    ∙ ap (with_word (from_le_bytes w64 word)) (are_read are rest words (groups_read more (verbatim 0) tt))

pub piece_read : (text words rest : List ℕ) → Spell text words → unpacked (length words) (text ++ rest) ≡ Ok (words, rest)
piece_read text words rest p = unpacked_from_more (length words) rest first text (words, []) (groups_read p first tt)

-- ---- what is read is a text

byte_cases : (bit : ℕ) (b : List ℕ) (x : ℕ × List ℕ) → bit < 2 → byte_at bit b ≡ Ok x → ((bit ≡ 0) × (x ≡ (0, b))) ⊎ ((bit ≡ 1) × (b ≡ x.0 ∷ x.1))
byte_cases zero b x small e = inl (refl, sym (ok_is (0, b) x e))
byte_cases (suc zero) [] x small e = absurd cc
byte_cases (suc zero) (c ∷ b) x small e = inr (refl, ap (λ (p : ℕ × List ℕ). p.0 ∷ p.1) (ok_is (c, b) x e))
byte_cases (suc (suc bit)) b x small e = absurd (omega arith)

record IsMarked (n t : ℕ) (b : List ℕ) (r : List ℕ × List ℕ) : Type 0 where
  text : List ℕ
  cut : b ≡ text ++ r.1
  marks : Marked t text r.0
  long : length r.0 ≡ n

abbrev byte_on : ℕ → List ℕ × List ℕ → Result (List ℕ × List ℕ) Kind
byte_on b bs = Ok (b ∷ bs.0, bs.1)

abbrev spread_on : ℕ → ℕ → ℕ × List ℕ → Result (List ℕ × List ℕ) Kind
spread_on n t b = spread n t b.1 and_then byte_on b.0

spread_marked : (n t : ℕ) (b : List ℕ) (r : List ℕ × List ℕ) → spread n t b ≡ Ok r → IsMarked n t b r
spread_marked zero t b r e = subst (IsMarked 0 t b) (ok_is ([], b) r e) (record { text = []; cut = refl; marks = marked_end; long = refl })
spread_marked (suc n) t b r e =
    let x = bind_ok (byte_at (t % 2) b) (spread_on n (t / 2)) r e in
    let y = bind_ok (spread n (t / 2) x.0.1) (byte_on x.0.0) r x.2 in
    by x.0 y.0 (byte_cases (t % 2) b x.0 (omega arith) x.1) (spread_marked n (t / 2) x.0.1 y.0 y.1) (ok_is (x.0.0 ∷ y.0.0, y.0.1) r y.2)
  where
    by : (x : ℕ × List ℕ) (y : List ℕ × List ℕ) → ((t % 2 ≡ 0) × (x ≡ (0, b))) ⊎ ((t % 2 ≡ 1) × (b ≡ x.0 ∷ x.1)) → IsMarked n (t / 2) x.1 y → (x.0 ∷ y.0, y.1) ≡ r → IsMarked (suc n) t b r
    by x y (inl zero_byte) h same =
        let low : x.0 ≡ 0 = ap (λ (p : ℕ × List ℕ). p.0) zero_byte.1 in
        let rest : x.1 ≡ b = ap (λ (p : ℕ × List ℕ). p.1) zero_byte.1 in
        subst (IsMarked (suc n) t b) (ap (λ (z : ℕ). (z ∷ y.0, y.1)) (sym low) ∙ same) (record { text = h.text; cut = sym rest ∙ h.cut; marks = marked_zero zero_byte.0 h.marks; long = ap suc h.long })
    by x y (inr some_byte) h same =
        subst (IsMarked (suc n) t b) same (record { text = x.0 ∷ h.text; cut = some_byte.1 ∙ ap (λ (l : List ℕ). x.0 ∷ l) h.cut; marks = marked_byte x.0 some_byte.0 h.marks; long = ap suc h.long })

full_cases : (b : List ℕ) (r : List ℕ × List ℕ) → spread 8 255 b ≡ Ok r → (b ≡ r.0 ++ r.1) × (length r.0 ≡ 8)
full_cases (a ∷ b ∷ c ∷ d ∷ e ∷ f ∷ g ∷ h ∷ l) r eq = let same = ok_is (a ∷ b ∷ c ∷ d ∷ e ∷ f ∷ g ∷ h ∷ [], l) r eq in (ap (λ (p : List ℕ × List ℕ). p.0 ++ p.1) same, ap (λ (p : List ℕ × List ℕ). length p.0) (sym same))
full_cases [] r eq = absurd cc
full_cases (a ∷ []) r eq = absurd cc
full_cases (a ∷ b ∷ []) r eq = absurd cc
full_cases (a ∷ b ∷ c ∷ []) r eq = absurd cc
full_cases (a ∷ b ∷ c ∷ d ∷ []) r eq = absurd cc
full_cases (a ∷ b ∷ c ∷ d ∷ e ∷ []) r eq = absurd cc
full_cases (a ∷ b ∷ c ∷ d ∷ e ∷ f ∷ []) r eq = absurd cc
full_cases (a ∷ b ∷ c ∷ d ∷ e ∷ f ∷ g ∷ []) r eq = absurd cc

record HasRun (n : ℕ) (run : ℕ → Run) (b : List ℕ) (r : Run × List ℕ) : Type 0 where
  count : ℕ
  fits : count ≤ n
  cut : b ≡ count ∷ r.1
  is : r.0 ≡ run count

counted_cases : (n : ℕ) (run : ℕ → Run) (b : List ℕ) (r : Run × List ℕ) → counted n run b ≡ Ok r → HasRun n run b r
counted_cases n run [] r e = absurd cc
counted_cases n run (k ∷ b) r e = by (leb k n) refl e
  where
    by : (c : Bool) → leb k n ≡ c → (guard c PackedInputDidNotEndCleanlyOnASegmentBoundary and_then λ _. let x : Result (Run × List ℕ) Kind = Ok (run k, b) in x) ≡ Ok r → HasRun n run (k ∷ b) r
    by true fits h = let same = ok_is (run k, b) r h in record { count = k; fits = leb-true k n fits; cut = ap (λ (p : Run × List ℕ). k ∷ p.1) same; is = ap (λ (p : Run × List ℕ). p.0) (sym same) }
    by false fits h = absurd cc

-- a text of zero words of a run, and of the groups behind it
record FromZeros (k : ℕ) (b ws : List ℕ) : Type 0 where
  rest : List ℕ
  words : ws ≡ replicate k 0 ++ rest
  groups : Spell b rest

-- a text of words of a run as they are, and of the groups behind it
record FromVerbatim (k : ℕ) (b ws : List ℕ) : Type 0 where
  front : List ℕ
  back : List ℕ
  run : List ℕ
  rest : List ℕ
  cut : b ≡ front ++ back
  words : ws ≡ run ++ rest
  are : AsTheyAre k front run
  groups : Spell back rest

-- a text, from inside a run on
abbrev From : Run → List ℕ → List ℕ → Type 0
From (zeros k) b ws = FromZeros k b ws
From (verbatim k) b ws = FromVerbatim k b ws
From first b ws = Spell b ws
From next b ws = Spell b ws

abbrev Fits_in : Run → ℕ → Type 0
Fits_in (zeros k) n = k ≤ n
Fits_in (verbatim k) n = k ≤ n
Fits_in first n = Unit {0}
Fits_in next n = Unit {0}

record Reads (n : ℕ) (run : Run) (b ws : List ℕ) : Type 0 where
  long : length ws ≡ n
  from : From run b ws

ends_zeros : (b ws : List ℕ) → Spell b ws → FromZeros 0 b ws
ends_zeros b ws p = record { rest = ws; words = refl; groups = p }

ends_verbatim : (b ws : List ℕ) → Spell b ws → FromVerbatim 0 b ws
ends_verbatim b ws p = record { front = []; back = b; run = []; rest = ws; cut = refl; words = refl; are = are_none; groups = p }

-- the group at the front and what is read behind it
abbrev ReadsBehind : ℕ → Type 0
ReadsBehind n = (run : Run) (b ws : List ℕ) → Fits_in run n → unpacked_from n run b ≡ Ok (ws, []) → Reads n run b ws

plain_group : (t w : ℕ) (m word bs behind ws : List ℕ) → t ≢ 0 → t ≢ 255 → length word ≡ 8 → Marked t m word → bs ≡ m ++ behind → w ≡ from_le_bytes w64 word → Spell behind ws → Spell (t ∷ bs) (w ∷ ws)
plain_group t w m word bs behind ws some full eight marks cut is p = rw (cut, is) (spell_word t word some full eight marks p)

zero_group : (t w k : ℕ) (bs behind ws : List ℕ) → t ≡ 0 → bs ≡ k ∷ behind → w ≡ 0 → FromZeros k behind ws → Spell (t ∷ bs) (w ∷ ws)
zero_group t w k bs behind ws tag cut is p = let e = p.words in rw (tag, cut, is, e) (spell_zeros k p.groups)

verbatim_group : (t w k : ℕ) (word bs behind ws : List ℕ) → t ≡ 255 → length word ≡ 8 → bs ≡ word ++ (k ∷ behind) → w ≡ from_le_bytes w64 word → FromVerbatim k behind ws → Spell (t ∷ bs) (w ∷ ws)
verbatim_group t w k word bs behind ws tag eight cut is p = let e = p.words in let f = p.cut in rw (tag, cut, is, e, f) (spell_verbatim k word eight p.are p.groups)

zero_word : (bs : List ℕ) (x : List ℕ × List ℕ) → spread 8 0 bs ≡ Ok x → (x.1 ≡ bs) × (from_le_bytes w64 x.0 ≡ 0)
zero_word bs x e =
    let same = ok_is (0 ∷ 0 ∷ 0 ∷ 0 ∷ 0 ∷ 0 ∷ 0 ∷ 0 ∷ [], bs) x e in
    (ap (λ (p : List ℕ × List ℕ). p.1) (sym same), ap (λ (p : List ℕ × List ℕ). from_le_bytes w64 p.0) (sym same))

abbrev Whole : ℕ → List ℕ → List ℕ → Type 0
Whole n b ws = (length ws ≡ n) × Spell b ws

-- the parts of a group, and what is read behind it
module _ (n t : ℕ) (bs : List ℕ) (behind : ReadsBehind n) (x : List ℕ × List ℕ) (word : spread 8 t bs ≡ Ok x) (r : Run × List ℕ) (vs : List ℕ) (more : unpacked_from n r.0 r.1 ≡ Ok (vs, [])) where
  tag_zero : t ≡ 0 → run_at n t x.1 ≡ Ok r → Whole (suc n) (t ∷ bs) (from_le_bytes w64 x.0 ∷ vs)
  tag_zero is run =
      let read : spread 8 0 bs ≡ Ok x = subst (λ (k : ℕ). spread 8 k bs ≡ Ok x) is word in
      let parts = zero_word bs x read in
      let h = counted_cases n zeros x.1 r (subst (λ (k : ℕ). run_at n k x.1 ≡ Ok r) is run) in
      let next_read = behind (zeros h.count) r.1 vs h.fits (subst (λ (q : Run). unpacked_from n q r.1 ≡ Ok (vs, [])) h.is more) in
      (ap suc next_read.long, zero_group t (from_le_bytes w64 x.0) h.count bs r.1 vs is (sym parts.0 ∙ h.cut) parts.1 next_read.from)

  tag_full : t ≡ 255 → run_at n t x.1 ≡ Ok r → Whole (suc n) (t ∷ bs) (from_le_bytes w64 x.0 ∷ vs)
  tag_full is run =
      let read : spread 8 255 bs ≡ Ok x = subst (λ (k : ℕ). spread 8 k bs ≡ Ok x) is word in
      let parts = full_cases bs x read in
      let h = counted_cases n verbatim x.1 r (subst (λ (k : ℕ). run_at n k x.1 ≡ Ok r) is run) in
      let next_read = behind (verbatim h.count) r.1 vs h.fits (subst (λ (q : Run). unpacked_from n q r.1 ≡ Ok (vs, [])) h.is more) in
      (ap suc next_read.long, verbatim_group t (from_le_bytes w64 x.0) h.count x.0 bs r.1 vs is parts.1 (parts.0 ∙ ap (λ (l : List ℕ). x.0 ++ l) h.cut) refl next_read.from)

  tag_other : t ≢ 0 → t ≢ 255 → run_at n t x.1 ≡ Ok r → Whole (suc n) (t ∷ bs) (from_le_bytes w64 x.0 ∷ vs)
  tag_other some full run =
      let m = spread_marked 8 t bs x word in
      let same = ok_is (next, x.1) r (sym (no_run n t x.1 some full) ∙ run) in
      let on : r.0 ≡ next = ap (λ (p : Run × List ℕ). p.0) (sym same) in
      let rest : x.1 ≡ r.1 = ap (λ (p : Run × List ℕ). p.1) same in
      let next_read = behind next r.1 vs tt (subst (λ (q : Run). unpacked_from n q r.1 ≡ Ok (vs, [])) on more) in
      (ap suc next_read.long, plain_group t (from_le_bytes w64 x.0) m.text x.0 bs r.1 vs some full m.long m.marks (m.cut ∙ ap (λ (l : List ℕ). m.text ++ l) rest) refl next_read.from)

  any_tag : run_at n t x.1 ≡ Ok r → Whole (suc n) (t ∷ bs) (from_le_bytes w64 x.0 ∷ vs)
  any_tag run = by (eqb t 0) refl (eqb t 255) refl
    where
      by : (a : Bool) → eqb t 0 ≡ a → (b : Bool) → eqb t 255 ≡ b → Whole (suc n) (t ∷ bs) (from_le_bytes w64 x.0 ∷ vs)
      by true e b f = tag_zero (eqb-true t 0 e) run
      by false e true f = tag_full (eqb-true t 255 f) run
      by false e false f = tag_other (eqb-false t 0 e) (eqb-false t 255 f) run

one_group : (n : ℕ) (b ws : List ℕ) → ReadsBehind n → (group_at n b and_then group_on n) ≡ Ok (ws, []) → Whole (suc n) b ws
one_group n [] ws behind e = absurd cc
one_group n (t ∷ bs) ws behind e =
    let g = bind_ok (group_at n (t ∷ bs)) (group_on n) (ws, []) e in
    let y = with_word_ok g.0.0 (unpacked_from n g.0.1 g.0.2) (ws, []) g.2 in
    let x = bind_ok (spread 8 t bs) (word_on n t) g.0 g.1 in
    let r = bind_ok (run_at n t x.0.1) (run_on x.0.0) g.0 x.2 in
    let parts = ok_is (from_le_bytes w64 x.0.0, r.0.0, r.0.1) g.0 r.2 in
    let none : y.0.1 ≡ [] = ap (λ (p : List ℕ × List ℕ). p.1) y.2 in
    let words : from_le_bytes w64 x.0.0 ∷ y.0.0 ≡ ws = ap (λ (p : ℕ × Run × List ℕ). p.0 ∷ y.0.0) parts ∙ ap (λ (p : List ℕ × List ℕ). p.0) y.2 in
    let read : unpacked_from n r.0.0 r.0.1 ≡ Ok (y.0.0, []) = ap (λ (p : ℕ × Run × List ℕ). unpacked_from n p.1 p.2) parts ∙ y.1 ∙ ap (λ (l : List ℕ). Ok (y.0.0, l)) none in
    subst (Whole (suc n) (t ∷ bs)) words (any_tag n t bs behind x.0 x.1 r.0 y.0.0 read r.1)

taken_cases : (b : List ℕ) (w : List ℕ × List ℕ) → taken 8 b ≡ Ok w → (b ≡ w.0 ++ w.1) × (length w.0 ≡ 8)
taken_cases b w e =
    let c = cond_ok (leb 8 (length b)) FailedToFillTheWholeBuffer (take 8 b, drop 8 b) w e in
    let enough : 8 ≤ length b = leb-true 8 (length b) c.0 in
    (sym (ap (λ (p : List ℕ × List ℕ). p.0 ++ p.1) (sym c.1) ∙ take-append-drop 8 b), ap (λ (p : List ℕ × List ℕ). length p.0) (sym c.1) ∙ length-take-le 8 b enough)

started_group : (n : ℕ) (run : Run) (b ws : List ℕ) → (started run b and_then λ _. group_at n b and_then group_on n) ≡ Ok (ws, []) → (group_at n b and_then group_on n) ≡ Ok (ws, [])
started_group n run b ws e = (bind_ok (started run b) (λ _. group_at n b and_then group_on n) (ws, []) e).2

all_read : (n : ℕ) → ReadsBehind n
unfolding unpacked_from
all_read zero first b ws fits e = let p = ok_is ([], b) (ws, []) e in let u : ws ≡ [] = ap (λ (q : List ℕ × List ℕ). q.0) (sym p) in let v : b ≡ [] = ap (λ (q : List ℕ × List ℕ). q.1) p in rw (u, v) (record { long = refl; from = spell_nothing })
all_read zero next b ws fits e = let p = ok_is ([], b) (ws, []) e in let u : ws ≡ [] = ap (λ (q : List ℕ × List ℕ). q.0) (sym p) in let v : b ≡ [] = ap (λ (q : List ℕ × List ℕ). q.1) p in rw (u, v) (record { long = refl; from = spell_nothing })
all_read zero (zeros zero) b ws fits e = let p = ok_is ([], b) (ws, []) e in let u : ws ≡ [] = ap (λ (q : List ℕ × List ℕ). q.0) (sym p) in let v : b ≡ [] = ap (λ (q : List ℕ × List ℕ). q.1) p in rw (u, v) (record { long = refl; from = ends_zeros [] [] spell_nothing })
all_read zero (zeros (suc k)) b ws fits e = absurd (omega arith)
all_read zero (verbatim zero) b ws fits e = let p = ok_is ([], b) (ws, []) e in let u : ws ≡ [] = ap (λ (q : List ℕ × List ℕ). q.0) (sym p) in let v : b ≡ [] = ap (λ (q : List ℕ × List ℕ). q.1) p in rw (u, v) (record { long = refl; from = ends_verbatim [] [] spell_nothing })
all_read zero (verbatim (suc k)) b ws fits e = absurd (omega arith)
all_read (suc n) first b ws fits e = let p = one_group n b ws (all_read n) (started_group n first b ws e) in record { long = p.0; from = p.1 }
all_read (suc n) next b ws fits e = let p = one_group n b ws (all_read n) (started_group n next b ws e) in record { long = p.0; from = p.1 }
all_read (suc n) (zeros zero) b ws fits e = let p = one_group n b ws (all_read n) (started_group n (zeros 0) b ws e) in record { long = p.0; from = ends_zeros b ws p.1 }
all_read (suc n) (verbatim zero) b ws fits e = let p = one_group n b ws (all_read n) (started_group n (verbatim 0) b ws e) in record { long = p.0; from = ends_verbatim b ws p.1 }
all_read (suc n) (zeros (suc k)) b ws fits e =
    let y = with_word_ok 0 (unpacked_from n (zeros k) b) (ws, []) e in
    let none : y.0.1 ≡ [] = ap (λ (p : List ℕ × List ℕ). p.1) y.2 in
    let words : 0 ∷ y.0.0 ≡ ws = ap (λ (p : List ℕ × List ℕ). p.0) y.2 in
    let p = all_read n (zeros k) b y.0.0 (omega arith) (y.1 ∙ ap (λ (l : List ℕ). Ok (y.0.0, l)) none) in
    record { long = ap length (sym words) ∙ ap suc p.long; from = record { rest = p.from.rest; words = sym words ∙ ap (λ (l : List ℕ). 0 ∷ l) p.from.words; groups = p.from.groups } }
all_read (suc n) (verbatim (suc k)) b ws fits e =
    let w = bind_ok (taken 8 b) (λ v. with_word (from_le_bytes w64 v.0) (unpacked_from n (verbatim k) v.1)) (ws, []) e in
    let c = taken_cases b w.0 w.1 in
    let word = from_le_bytes w64 w.0.0 in
    let y = with_word_ok word (unpacked_from n (verbatim k) w.0.1) (ws, []) w.2 in
    let none : y.0.1 ≡ [] = ap (λ (p : List ℕ × List ℕ). p.1) y.2 in
    let words : word ∷ y.0.0 ≡ ws = ap (λ (p : List ℕ × List ℕ). p.0) y.2 in
    let p = all_read n (verbatim k) w.0.1 y.0.0 (omega arith) (y.1 ∙ ap (λ (l : List ℕ). Ok (y.0.0, l)) none) in
    let q = p.from in
    record {
      long = ap length (sym words) ∙ ap suc p.long;
      from = record { front = w.0.0 ++ q.front; back = q.back; run = word ∷ q.run; rest = q.rest; cut = c.0 ∙ ap (λ (l : List ℕ). w.0.0 ++ l) q.cut ∙ sym (append_assoc w.0.0 q.front q.back); words = sym words ∙ ap (λ (l : List ℕ). word ∷ l) q.words; are = are_more w.0.0 c.1 q.are; groups = q.groups };
    }

pub piece_spelled : (n : ℕ) (bytes words rest : List ℕ) → unpacked n bytes ≡ Ok (words, rest) → (length words ≡ n) × ((text : List ℕ) × (bytes ≡ text ++ rest) × Spell text words)
piece_spelled n bytes words rest e =
    let f = unpacked_from_fronts n first bytes (words, rest) e in
    let p = all_read n first f.0 words tt f.2 in
    (p.long, (f.0, f.1, p.from))
