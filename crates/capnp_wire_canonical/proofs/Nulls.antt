-- Nulls among pointers, and what is kept of pointers that are trimmed.
use Rattle.std.proofs.Common.{◌≡◌, ℕ, zero, suc, ◌+◌, ◌<◌, ◌≤◌, Bool, true, false, List, [], ◌∷◌, ◌++◌, length, get_or, drop, Option, Some, None, Result, Ok, refl, ap, sym, ◌∙◌, subst, arith, eqb, if◌then◌else◌, append_assoc}
use Rattle.std.specs.Option.{ok_or}
use Rattle.std.proofs.lemmas.Bool.{ne_eqb, eqb-true, eqb-false}
use Rattle.capnp_model.specs.Kinds.{Kind, OutOfBounds}
use Rattle.capnp_model.specs.Chains.{◌>>=◌}
use Rattle.capnp_model.specs.Sections.{bits_at}
use Rattle.capnp_model.specs.Segments.{Segments, Place, place, after, word_at, words_at}
use Rattle.capnp_model.specs.Pointers as model
use Rattle.capnp_model.specs.Trees.{Tree, null, capability, structure, plain_list, pointer_list, struct_list, Trees, none, ◌▸◌, Elements, is_null, tree_count, resized}
use Rattle.capnp_model.specs.Traversal.{tree_at, tree_of, leaf_of, list_tree, ListKind, of_bits, of_pointers, of_structs, list_kind, list_words, tag_in, each, each_element}
use Rattle.capnp_model.specs.Coverage.{from_each}
use Rattle.capnp_model.specs.Visits.{Visit, visits_cost}
use Rattle.capnp_model.specs.Trimming.{after_stripping, stripped, trim, trim_each}
use Rattle.capnp_model.proofs.lemmas.Chaining.{bind_some, bind_ok, bind_found, some_is, ok_is}
use Rattle.capnp_wire_canonical.specs.Widths.{keeps, kept}
use Rattle.capnp_wire_canonical.specs.Copies.{copy_visits}
use Rattle.capnp_model.proofs.lemmas.TrimTwice.{null_trimmed}

-- ---- a word of zeros

pub null_read : (n : ℕ) (s : Segments) (p : Place) → word_at s p ≡ Some 0 → (tree_at n s p ≡ Some null) × (copy_visits n s p ≡ Ok 0 ∷ [])
unfolding tree_at copy_visits
null_read zero s p e = (rw e refl, rw e refl)
null_read (suc n) s p e = (rw e refl, rw e refl)

-- ---- any other word

IsThere : model.Object → Type 0
IsThere model.nothing = ⊥
IsThere (model.a_struct p d k) = Unit {0}
IsThere (model.a_list p size n) = Unit {0}
IsThere (model.a_capability i) = Unit {0}

described_there : (start : ℕ → Result Place Kind) (w : model.Pointer) (o : model.Object) → model.described start w ≡ Ok o → IsThere o
unfolding IsThere
described_there start (model.to_struct x d k) o e = let a = bind_ok (start x) _ o e in subst IsThere (ok_is _ _ a.2) tt
described_there start (model.to_list x z n) o e = let a = bind_ok (start x) _ o e in subst IsThere (ok_is _ _ a.2) tt
described_there start (model.to_pad n p) o e = absurd cc
described_there start (model.to_capability i) o e = subst IsThere (ok_is _ _ e) tt
described_there start model.to_nothing_known o e = absurd cc

pad_there : (p : Place) (ws : List ℕ) (o : model.Object) → model.in_pad p ws ≡ Ok o → IsThere o
pad_there p [] o e = absurd cc
pad_there p (w ∷ []) o e = described_there (model.begins (after p 1)) (model.pointer_of w) o e
pad_there p (far ∷ w ∷ []) o e = described_there (λ _. Ok (place (bits_at 32 32 far) (bits_at 3 29 far))) (model.pointer_of w) o e
pad_there p (far ∷ w ∷ v ∷ ws) o e = absurd cc

found_there : (s : Segments) (p : Place) (w : model.Pointer) (f : model.Found) → model.found_by s p w ≡ Ok f → IsThere f.object
unfolding IsThere
found_there s p (model.to_struct x d k) f e = let a = bind_ok (model.described (model.begins (after p 1)) (model.to_struct x d k)) _ f e in subst (λ (g : model.Found). IsThere g.object) (ok_is _ _ a.2) (described_there (model.begins (after p 1)) (model.to_struct x d k) a.0 a.1)
found_there s p (model.to_list x z n) f e = let a = bind_ok (model.described (model.begins (after p 1)) (model.to_list x z n)) _ f e in subst (λ (g : model.Found). IsThere g.object) (ok_is _ _ a.2) (described_there (model.begins (after p 1)) (model.to_list x z n) a.0 a.1)
found_there s p (model.to_pad n q) f e =
    let a = bind_ok (ok_or (words_at s q n) OutOfBounds) _ f e in
    let b = bind_ok (model.in_pad q a.0) _ f a.2 in
    subst (λ (g : model.Found). IsThere g.object) (ok_is _ _ b.2) (pad_there q a.0 b.0 b.1)
found_there s p (model.to_capability i) f e = subst (λ (g : model.Found). IsThere g.object) (ok_is _ _ e) tt
found_there s p model.to_nothing_known f e = absurd cc

structs_there : (o : Option Elements) (d k : ℕ) (t : Tree) → (o >>= λ es. Some (struct_list d k es)) ≡ Some t → is_null t ≡ false
structs_there None d k t e = absurd cc
structs_there (Some es) d k t e = ap is_null (sym (some_is _ _ e))

list_there : (f : Place → Option Tree) (p : Place) (kind : ListKind) (size n : ℕ) (ws : List ℕ) (t : Tree) → list_tree f p kind size n ws ≡ Some t → is_null t ≡ false
list_there f p of_bits size n ws t e = ap is_null (sym (some_is _ _ e))
list_there f p of_pointers size n ws t e = let a = bind_some (each f p n) _ t e in ap is_null (sym (some_is _ _ a.2))
list_there f p of_structs size n ws t e = let a = bind_found (tag_in ws) _ t e in structs_there (each_element f (after p 1) (drop 1 ws) a.0.data_words a.0.pointers a.0.count) a.0.data_words a.0.pointers t a.2

tree_there : (s : Segments) (f : Place → Option Tree) (o : model.Object) (t : Tree) → IsThere o → tree_of s f o ≡ Some t → is_null t ≡ false
unfolding IsThere
tree_there s f model.nothing t h e = absurd h
tree_there s f (model.a_capability i) t h e = ap is_null (sym (some_is _ _ e))
tree_there s f (model.a_struct p d k) t h e = let a = bind_some (words_at s p (d + k)) _ t e in let b = bind_some (each f (after p d) k) _ t a.2 in ap is_null (sym (some_is _ _ b.2))
tree_there s f (model.a_list p size n) t h e = let a = bind_some (words_at s p (list_words (list_kind size) size n)) _ t e in list_there f p (list_kind size) size n a.0 t a.2

leaf_there : (o : model.Object) (t : Tree) → IsThere o → leaf_of o ≡ Some t → is_null t ≡ false
unfolding IsThere
leaf_there model.nothing t h e = absurd h
leaf_there (model.a_capability i) t h e = ap is_null (sym (some_is _ _ e))
leaf_there (model.a_struct p d k) t h e = absurd cc
leaf_there (model.a_list p size n) t h e = absurd cc

word_found : (s : Segments) (p : Place) (w : ℕ) (f : model.Found) → word_at s p ≡ Some w → (w ≡ 0 → ⊥) → model.found_at s p ≡ Ok f → IsThere f.object
word_found s p w f e some found = found_there s p (model.pointer_of w) f (sym is ∙ found)
  where
    test : eqb w 0 ≡ false
    test = ne_eqb w 0 some

    is : model.found_at s p ≡ model.found_by s p (model.pointer_of w)
    is = rw (e, test) refl

pub some_read : (n : ℕ) (s : Segments) (p : Place) (w : ℕ) (t : Tree) → word_at s p ≡ Some w → (w ≡ 0 → ⊥) → tree_at n s p ≡ Some t → is_null t ≡ false
unfolding tree_at
some_read zero s p w t e some is = let a = bind_found (model.found_at s p) _ t is in leaf_there a.0.object t (word_found s p w a.0 e some a.1) a.2
some_read (suc n) s p w t e some is = let a = bind_found (model.found_at s p) _ t is in tree_there s (tree_at n s) a.0.object t (word_found s p w a.0 e some a.1) a.2

-- ---- nulls in a row

-- What so many nulls cost.
abbrev pub free : ℕ → List Visit
free zero = []
free (suc n) = Ok 0 ∷ free n

pub free_cost : (n : ℕ) → visits_cost (free n) ≡ Some 0
free_cost zero = refl
free_cost (suc n) = let rest = free_cost n in rw rest refl

pub free_length : (n : ℕ) → length (free n) ≡ n
free_length zero = refl
free_length (suc n) = ap suc (free_length n)

pub nulls_read : (n : ℕ) (s : Segments) (p : Place) (m : ℕ) → ((i : ℕ) → i < m → word_at s (after p i) ≡ Some 0) → (each (tree_at n s) p m ≡ Some (resized m none)) × (from_each (copy_visits n s) p m ≡ free m)
nulls_read n s p zero h = (refl, refl)
nulls_read n s p (suc m) h =
    let here : p.position + 0 ≡ p.position = omega arith in
    let first = null_read n s p (ap (λ (q : ℕ). word_at s (place p.segment q)) (sym here) ∙ h 0 (omega arith)) in
    let rest = nulls_read n s (after p 1) m (λ i l. let there : p.position + 1 + i ≡ p.position + suc i = omega arith in ap (λ (q : ℕ). word_at s (place p.segment q)) there ∙ h (suc i) (omega arith)) in
    let one = first.0 in
    let more = rest.0 in
    (rw (one, more) refl, ap (λ (vs : List Visit). vs ++ from_each (copy_visits n s) (after p 1) m) first.1 ∙ ap (λ (vs : List Visit). Ok 0 ∷ vs) rest.1)

-- pointers, and nulls behind them
pub each_nulls : (f : Place → Option Tree) (p : Place) (a b : ℕ) (ts : Trees) → each f p a ≡ Some ts → each f (after p a) b ≡ Some (resized b none) → each f p (a + b) ≡ Some (resized (a + b) ts)
each_nulls f p zero b ts e h =
    let here : p.position + 0 ≡ p.position = omega arith in
    let all : zero + b ≡ b = omega arith in
    ap (each f p) all ∙ ap (λ (q : ℕ). each f (place p.segment q) b) (sym here) ∙ h ∙ ap (λ (us : Trees). Some (resized b us)) (some_is _ _ e) ∙ ap (λ (j : ℕ). Some (resized j ts)) (sym all)
each_nulls f p (suc a) b ts e h =
    let x = bind_some (f p) _ ts e in
    let y = bind_some (each f (after p 1) a) _ ts x.2 in
    let there : p.position + 1 + a ≡ p.position + suc a = omega arith in
    let rest = each_nulls f (after p 1) a b y.0 y.1 (ap (λ (q : ℕ). each f (place p.segment q) b) there ∙ h) in
    let sum : suc a + b ≡ suc (a + b) = omega arith in
    ap (each f p) sum ∙ ap (λ (o : Option Tree). o >>= λ u. each f (after p 1) (a + b) >>= λ us. Some (u ▸ us)) x.1 ∙ ap (λ (o : Option Trees). o >>= λ us. Some (x.0 ▸ us)) rest
    ∙ ap (λ (us : Trees). Some (resized (suc (a + b)) us)) (some_is _ _ y.2) ∙ ap (λ (j : ℕ). Some (resized j ts)) (sym sum)

pub met_both : {A : Type 0} (g : Place → List A) (p : Place) (a b : ℕ) → from_each g p (a + b) ≡ from_each g p a ++ from_each g (after p a) b
met_both g p zero b =
    let here : p.position + 0 ≡ p.position = omega arith in
    let all : zero + b ≡ b = omega arith in
    ap (from_each g p) all ∙ ap (λ (q : ℕ). from_each g (place p.segment q) b) (sym here)
met_both g p (suc a) b =
    let there : p.position + 1 + a ≡ p.position + suc a = omega arith in
    let sum : suc a + b ≡ suc (a + b) = omega arith in
    ap (from_each g p) sum ∙ ap (λ xs. g p ++ xs) (met_both g (after p 1) a b) ∙ ap (λ (q : ℕ). g p ++ (from_each g (after p 1) a ++ from_each g (place p.segment q) b)) there
    ∙ sym (append_assoc (g p) (from_each g (after p 1) a) (from_each g (after p (suc a)) b))

pub kept_front : (a b : ℕ) (ts : Trees) → tree_count ts ≡ a → resized a (trim_each (resized (a + b) ts)) ≡ trim_each ts
unfolding trim
kept_front zero b none e = refl
kept_front zero b (t ▸ ts) e = absurd (omega arith)
kept_front (suc a) b none e = absurd (omega arith)
kept_front (suc a) b (t ▸ ts) e =
    let sum : suc a + b ≡ suc (a + b) = omega arith in
    ap (λ (j : ℕ). resized (suc a) (trim_each (resized j (t ▸ ts)))) sum ∙ ap (λ (us : Trees). trim t ▸ us) (kept_front a b ts (omega arith))

-- ---- how many are kept

kept_null : (w n : ℕ) → keeps w n ≡ 0 → (w ≡ 0) × (n ≡ 0)
kept_null w zero e = (by (eqb w 0) refl e, refl)
  where
    by : (b : Bool) → eqb w 0 ≡ b → ◌≡◌ {A = ℕ} (if b then 0 else 1) 0 → w ≡ 0
    by true t h = eqb-true w 0 t
    by false t h = absurd (omega arith)
kept_null w (suc n) e = absurd (omega arith)

kept_before : (w n j : ℕ) → keeps w n ≤ suc j → n ≤ j
kept_before w zero j h = omega arith
kept_before w (suc n) j h = omega arith

pub kept_zeros : (ws : List ℕ) (i : ℕ) → kept ws ≤ i → i < length ws → get_or ws i 0 ≡ 0
kept_zeros [] i h l = absurd (omega arith)
kept_zeros (w ∷ ws) zero h l = (kept_null w (kept ws) (omega arith)).0
kept_zeros (w ∷ ws) (suc i) h l = kept_zeros ws i (kept_before w (kept ws) i h) (omega arith)

count_null : (ts : Trees) (n : ℕ) → tree_count ts ≡ n → tree_count (after_stripping null ts) ≡ keeps 0 n
count_null none n e = let z : 0 ≡ n = e in ap (keeps 0) z
count_null (t ▸ ts) zero e = absurd (omega arith)
count_null (t ▸ ts) (suc n) e = ap suc e

count_some : (t : Tree) (ts : Trees) (n : ℕ) → is_null t ≡ false → tree_count ts ≡ n → tree_count (after_stripping t ts) ≡ suc n
count_some null ts n h e = absurd cc
count_some (capability i) ts n h e = ap suc e
count_some (structure w m us) ts n h e = ap suc e
count_some (plain_list z j m) ts n h e = ap suc e
count_some (pointer_list us) ts n h e = ap suc e
count_some (struct_list d k es) ts n h e = ap suc e

keeps_some : (w n : ℕ) → (w ≡ 0 → ⊥) → keeps w n ≡ suc n
keeps_some w zero h = let t : eqb w 0 ≡ false = ne_eqb w 0 h in rw t refl
keeps_some w (suc n) h = refl

pub kept_count : (n : ℕ) (s : Segments) (ws : List ℕ) (p : Place) (us : Trees) → ((i : ℕ) → i < length ws → word_at s (after p i) ≡ Some (get_or ws i 0)) → each (tree_at n s) p (length ws) ≡ Some us → tree_count (stripped (trim_each us)) ≡ kept ws
unfolding trim
kept_count n s [] p us h e = ap (λ (ts : Trees). tree_count (stripped (trim_each ts))) (sym (some_is _ _ e))
kept_count n s (w ∷ ws) p us h e =
    let here : p.position + 0 ≡ p.position = omega arith in
    let word : word_at s p ≡ Some w = ap (λ (q : ℕ). word_at s (place p.segment q)) (sym here) ∙ h 0 (omega arith) in
    let a = bind_some (tree_at n s p) _ us e in
    let b = bind_some (each (tree_at n s) (after p 1) (length ws)) _ us a.2 in
    let rest = kept_count n s ws (after p 1) b.0 (λ i l. let there : p.position + 1 + i ≡ p.position + suc i = omega arith in ap (λ (q : ℕ). word_at s (place p.segment q)) there ∙ h (suc i) (omega arith)) b.1 in
    ap (λ (ts : Trees). tree_count (stripped (trim_each ts))) (sym (some_is _ _ b.2)) ∙ by a.0 b.0 (eqb w 0) refl word a.1 rest
  where
    by : (t : Tree) (ts : Trees) (b : Bool) → eqb w 0 ≡ b → word_at s p ≡ Some w → tree_at n s p ≡ Some t → tree_count (stripped (trim_each ts)) ≡ kept ws → tree_count (after_stripping (trim t) (stripped (trim_each ts))) ≡ keeps w (kept ws)
    by t ts true z word is rest =
        let zero_is : w ≡ 0 = eqb-true w 0 z in
        let read = (null_read n s p (word ∙ ap (λ (v : ℕ). Some v) zero_is)).0 in
        let null_is : null ≡ t = some_is _ _ (sym read ∙ is) in
        ap (λ (u : Tree). tree_count (after_stripping (trim u) (stripped (trim_each ts)))) (sym null_is) ∙ count_null (stripped (trim_each ts)) (kept ws) rest ∙ ap (λ (v : ℕ). keeps v (kept ws)) (sym zero_is)
    by t ts false z word is rest =
        let some : (w ≡ 0 → ⊥) = eqb-false w 0 z in
        count_some (trim t) (stripped (trim_each ts)) (kept ws) (null_trimmed t ∙ some_read n s p w t word some is) rest ∙ sym (keeps_some w (kept ws) some)
