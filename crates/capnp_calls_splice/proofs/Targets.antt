-- Which of pointers in a row is the first that tells a distance, and where what it leads to begins.
use Rattle.std.proofs.Common.{◌≡◌, ℕ, zero, suc, ◌+◌, ◌/◌, ◌%◌, ◌^◌, ◌<◌, ◌≤◌, max, true, false, nat_eq, Result, Ok, Err, List, [], ◌∷◌, ◌++◌, length, drop, get_or, refl, ap, sym, ◌∙◌, length-append, arith}
use Rattle.std.specs.Prelude.{IfOk}
use Rattle.std.specs.Int.{from_le_bytes, w64}
use Rattle.std.proofs.lemmas.List.{length-map, get_or-map, drop_more, drop_all}
use Rattle.capnp_model.specs.Trees.{Tree, null, capability, structure, plain_list, pointer_list, struct_list, Trees, none, ◌▸◌, tree_count, child, depth, depths}
use Rattle.capnp_model.specs.Fits.{Fits, FitEach}
use Rattle.capnp_model.specs.Encoding.{pointer, body, links, bodies}
use Rattle.capnp_wire_canonical.specs.Writes.{words_view}
use Rattle.capnp_calls_splice.specs.Splices.{IsPlainList, TakesBlob, IsBlobSlot}
use Rattle.capnp_calls_splice.specs.Cells.{FitsInOffsets, AreLinks, is_fixed}
use Rattle.capnp_calls_splice.specs.declared.area.Run.{Run}
use Rattle.capnp_calls_splice.specs.declared.area.Unput.{Unput}
use Rattle.capnp_calls_splice.proofs.Children.{fronts, backs}
use Rattle.capnp_calls_splice.proofs.Shifts.{not_equal}

-- ---- one pointer

moves : (w : ℕ) → (w ≡ 0 → ⊥) → (w % 4 ≡ 3 → ⊥) → (w ≡ 0xffff_fffc → ⊥) → is_fixed w ≡ false
moves w a b c = rw (not_equal w 0 a, not_equal (w % 4) 3 b, not_equal w 0xffff_fffc c) refl

-- What tells no distance leads to no words.
unmoved : (w : ℕ) (ws : List ℕ) → is_fixed w ≡ true → is_fixed w ≡ false → ws ≡ []
unmoved w ws e h = absurd (cc (e, h))

fixed_bare : (t : Tree) (gap : ℕ) → Fits t → gap < 2 ^ 30 → is_fixed (pointer gap t) ≡ true → body t ≡ []
fixed_bare null gap f near e = refl
fixed_bare (capability i) gap f near e = refl
fixed_bare (structure zero section none) gap f near e = refl
fixed_bare (structure zero section (t ▸ ts)) gap f near e =
    unmoved (pointer gap (structure zero section (t ▸ ts))) (body (structure zero section (t ▸ ts))) e (let few = f.1 in moves (pointer gap (structure zero section (t ▸ ts))) (λ z. omega arith) (λ z. omega arith) (λ z. omega arith))
fixed_bare (structure (suc d) section ts) gap f near e =
    unmoved (pointer gap (structure (suc d) section ts)) (body (structure (suc d) section ts)) e (let few = f.1 in let short = f.0 in moves (pointer gap (structure (suc d) section ts)) (λ z. omega arith) (λ z. omega arith) (λ z. omega arith))
fixed_bare (plain_list size n section) gap f near e =
    unmoved (pointer gap (plain_list size n section)) (body (plain_list size n section)) e (let small = f.0 in let few = f.1 in moves (pointer gap (plain_list size n section)) (λ z. omega arith) (λ z. omega arith) (λ z. omega arith))
fixed_bare (pointer_list ts) gap f near e =
    unmoved (pointer gap (pointer_list ts)) (body (pointer_list ts)) e (let few = f.0 in moves (pointer gap (pointer_list ts)) (λ z. omega arith) (λ z. omega arith) (λ z. omega arith))
fixed_bare (struct_list d k es) gap f near e =
    unmoved (pointer gap (struct_list d k es)) (body (struct_list d k es)) e (let few = f.3 in moves (pointer gap (struct_list d k es)) (λ z. omega arith) (λ z. omega arith) (λ z. omega arith))

capability_fixed : (w : ℕ) → w % 4 ≡ 3 → is_fixed w ≡ true
capability_fixed w e =
    let some : nat_eq w 0 ≡ false = not_equal w 0 (λ z. omega arith) in
    let same : nat_eq (w % 4) 3 ≡ true = grind arith in
    rw (some, same) refl

-- What tells a distance leads to a value that has a level.
record Leads (t : Tree) (gap w : ℕ) : Type 0 where
  pub deep : 0 < depth t
  pub distance : w / 4 % 2 ^ 30 ≡ gap

leads : (t : Tree) (gap : ℕ) → Fits t → gap < 2 ^ 30 → is_fixed (pointer gap t) ≡ false → Leads t gap (pointer gap t)
leads null gap f near e = absurd (cc e)
leads (capability i) gap f near e = absurd (let h = capability_fixed (pointer gap (capability i)) (omega arith) in cc (e, h))
leads (structure zero section none) gap f near e = absurd (cc e)
leads (structure zero section (t ▸ ts)) gap f near e = let few = f.1 in record { deep = omega arith; distance = omega arith }
leads (structure (suc d) section ts) gap f near e = let few = f.1 in let short = f.0 in record { deep = omega arith; distance = omega arith }
leads (plain_list size n section) gap f near e = let small = f.0 in let few = f.1 in record { deep = omega arith; distance = omega arith }
leads (pointer_list ts) gap f near e = let few = f.0 in record { deep = omega arith; distance = omega arith }
leads (struct_list d k es) gap f near e = let few = f.3 in record { deep = omega arith; distance = omega arith }

-- Null alone has a pointer of zeros.
pub null_takes : (t : Tree) (gap levels : ℕ) → Fits t → pointer gap t ≡ 0 → 0 < levels → TakesBlob levels t
null_takes null gap levels f e some = some
null_takes (capability i) gap levels f e some = absurd (omega arith)
null_takes (structure zero section none) gap levels f e some = absurd (omega arith)
null_takes (structure zero section (t ▸ us)) gap levels f e some = absurd (omega arith)
null_takes (structure (suc d) section us) gap levels f e some = absurd (omega arith)
null_takes (plain_list size n section) gap levels f e some = absurd (omega arith)
null_takes (pointer_list us) gap levels f e some = absurd (omega arith)
null_takes (struct_list d k es) gap levels f e some = absurd (omega arith)

pub null_bare : (t : Tree) (gap : ℕ) → Fits t → pointer gap t ≡ 0 → length (body t) ≡ 0
null_bare null gap f e = refl
null_bare (capability i) gap f e = absurd (omega arith)
null_bare (structure zero section none) gap f e = absurd (omega arith)
null_bare (structure zero section (t ▸ us)) gap f e = absurd (omega arith)
null_bare (structure (suc d) section us) gap f e = absurd (omega arith)
null_bare (plain_list size n section) gap f e = absurd (omega arith)
null_bare (pointer_list us) gap f e = absurd (omega arith)
null_bare (struct_list d k es) gap f e = absurd (omega arith)

plain_takes : (t : Tree) (levels : ℕ) → IsPlainList t → TakesBlob levels t
plain_takes null levels h = absurd h
plain_takes (capability i) levels h = absurd h
plain_takes (structure w section us) levels h = absurd h
plain_takes (plain_list size n section) levels h = tt
plain_takes (pointer_list us) levels h = absurd h
plain_takes (struct_list d k es) levels h = absurd h

more_take : (t : Tree) (n m : ℕ) → n ≤ m → TakesBlob n t → TakesBlob m t
more_take null n m l h = omega (arith, l, h)
more_take (capability i) n m l h = absurd h
more_take (structure w section us) n m l h = absurd h
more_take (plain_list size k section) n m l h = tt
more_take (pointer_list us) n m l h = absurd h
more_take (struct_list d k es) n m l h = absurd h

beside : (ts : Trees) (i : ℕ) → max (depths (fronts i ts)) (depths (backs i ts)) ≤ depths ts
beside none i = omega arith
beside (t ▸ ts) zero = omega arith
beside (t ▸ ts) (suc i) = let e = beside ts i in omega arith

pub slot_takes : (ts : Trees) (i : ℕ) → i < tree_count ts → TakesBlob (max (depths (fronts i ts)) (depths (backs i ts))) (child ts i) → IsBlobSlot i ts
slot_takes ts i l h = record { inside = l; takes = more_take (child ts i) (max (depths (fronts i ts)) (depths (backs i ts))) (depths ts) (beside ts i) h }

-- ---- pointers in a row

-- So many of them are passed over, and these are left.
pub record IsRest (i : ℕ) (ws : List ℕ) (n m : ℕ) (ts : Trees) : Type 0 where
  pub left : Trees
  pub spelled : ws ≡ links n m left
  pub count : i + tree_count left ≡ tree_count ts
  pub fit : FitEach left
  pub near : FitsInOffsets n m left
  pub deep : 0 < depths left → 0 < depths ts
  pub targets : bodies left ≡ bodies ts

pub all_left : (n m : ℕ) (ts : Trees) (xs : List (List ℕ)) → AreLinks n m ts xs → IsRest 0 (words_view xs) n m ts
all_left n m ts xs h = record { left = ts; spelled = h.spelled; count = omega arith; fit = h.fit; near = h.near; deep = λ some. some; targets = refl }

-- One more is passed over.
passes : (us : Trees) (i w n m : ℕ) (ws : List ℕ) (ts : Trees) → (w ∷ ws) ≡ links n m us → i + tree_count us ≡ tree_count ts → FitEach us → FitsInOffsets n m us → (0 < depths us → 0 < depths ts) → bodies us ≡ bodies ts → is_fixed w ≡ true
    → IsRest (i + 1) ws n m ts
passes none i w n m ws ts e count f near deep targets fixed = absurd (cc e)
passes (t ▸ us) i w n m ws ts e count f near deep targets fixed =
    let long = length-append (body t) (bodies us) in
    let gap : ℕ = tree_count us + n + m in
    let head : w ≡ pointer gap t = cc e in
    let tail : ws ≡ links n (m + length (body t)) us = cc e in
    let bare : body t ≡ [] = fixed_bare t gap f.0 (omega arith) (ap is_fixed (sym head) ∙ fixed) in
    let none_more : m + length (body t) ≡ m = ap (λ (b : List ℕ). m + length b) bare ∙ (omega arith) in
    record {
      left = us;
      spelled = tail ∙ ap (λ (k : ℕ). links n k us) none_more;
      count = omega arith;
      fit = f.1;
      near = omega arith;
      deep = λ h. deep (omega (arith, h));
      targets = sym (ap (λ (b : List ℕ). b ++ bodies us) bare) ∙ targets;
    }

pub next_left : (i w n m : ℕ) (ws rest : List ℕ) (ts : Trees) → IsRest i ws n m ts → ws ≡ w ∷ rest → is_fixed w ≡ true → IsRest (i + 1) rest n m ts
next_left i w n m ws rest ts r e fixed = passes r.left i w n m rest ts (sym e ∙ r.spelled) r.count r.fit r.near r.deep r.targets fixed

-- The first of those that are left leads to something.
stops : (us : Trees) (i w far at n m : ℕ) (ws : List ℕ) (ts : Trees) → (w ∷ ws) ≡ links n m us → i + tree_count us ≡ tree_count ts → FitEach us → FitsInOffsets n m us → (0 < depths us → 0 < depths ts) → is_fixed w ≡ false
    → far ≡ w / 4 % 2 ^ 30 → (0 < depths ts) × (at + i + 1 + far ≡ at + (tree_count ts + n + m))
stops none i w far at n m ws ts e count f near deep some is = absurd (cc e)
stops (t ▸ us) i w far at n m ws ts e count f near deep some is =
    let gap : ℕ = tree_count us + n + m in
    let head : w ≡ pointer gap t = cc e in
    let it = leads t gap f.0 (omega arith) (ap is_fixed (sym head) ∙ some) in
    let first = it.deep in
    let same : far ≡ gap = is ∙ ap (λ (k : ℕ). k / 4 % 2 ^ 30) head ∙ it.distance in
    (deep (omega (arith, first)), omega (arith, same, count))

pub stops_there : (i w far at n m : ℕ) (ws rest : List ℕ) (ts : Trees) → IsRest i ws n m ts → ws ≡ w ∷ rest → is_fixed w ≡ false → far ≡ w / 4 % 2 ^ 30
    → (0 < depths ts) × (at + i + 1 + far ≡ at + (tree_count ts + n + m))
stops_there i w far at n m ws rest ts r e some is = stops r.left i w far at n m rest ts (sym e ∙ r.spelled) r.count r.fit r.near r.deep some is

-- None is left, and none leads to words.
no_more : (us : Trees) (n m : ℕ) → [] ≡ links n m us → bodies us ≡ []
no_more none n m e = refl
no_more (t ▸ us) n m e = absurd (cc e)

pub none_left : (i n m : ℕ) (xs : List (List ℕ)) (ts : Trees) → IsRest i (drop i (words_view xs)) n m ts → length xs ≤ i → bodies ts ≡ []
none_left i n m xs ts r all =
    let size = length-map xs (from_le_bytes w64) in
    let nothing : drop i (words_view xs) ≡ [] = drop_all i (words_view xs) (omega arith) in
    sym r.targets ∙ no_more r.left n m (sym nothing ∙ r.spelled)

-- The pointer at a place among words.
pub word_here : (xs : List (List ℕ)) (i w : ℕ) → i < length xs → w ≡ from_le_bytes w64 (get_or xs i []) → drop i (words_view xs) ≡ w ∷ drop (i + 1) (words_view xs)
word_here xs i w inside is =
    let less : i < length (words_view xs) = omega (arith, length-map xs (from_le_bytes w64)) in
    drop_more (words_view xs) i 0 less ∙ ap (λ (k : ℕ). k ∷ drop (i + 1) (words_view xs)) (get_or-map (from_le_bytes w64) xs i [] 0 inside ∙ sym is)

-- A plain list is one that a text or data takes the place of.
pub listed : (t : Tree) (levels len start : ℕ) (found : Result Run Unput) → IfOk found (λ r. IsPlainList t × (r.start ≡ start) × (r.len ≡ len)) → IfOk found (λ r. TakesBlob levels t × (r.len ≡ len) × (r.start ≡ start))
listed t levels len start (Ok r) h = (plain_takes t levels h.0, h.2, h.1)
listed t levels len start (Err why) h = tt
