-- Messages that are made of words, and their roots.
use Rattle.std.proofs.Common.{◌≡◌, ◌↔◌, ◌⊎◌, inl, inr, refl, ℕ, suc, ◌+◌, ◌*◌, ◌/◌, ◌<◌, ◌≤◌, ◌^◌, Bool, true, false, List, [], ◌∷◌, ◌++◌, length, map, get_or, take, drop, replicate, Option, Some, None, Result, Ok, Err, Vec, ap, sym, ◌∙◌, subst, arith, leb}
use Rattle.std.specs.Bool.{⊤}
use Rattle.std.specs.declared.alloc.Global.{Global}
use Rattle.std.specs.List.{flat_map}
use Rattle.std.specs.Option.{is_some}
use Rattle.std.specs.Prelude.{unwrap_or}
use Rattle.std.specs.Result.{OnOk, OnErr, IfErr}
use Rattle.std.specs.Int.{from_le_bytes, w64}
use Rattle.std.proofs.lemmas.Bool.{le-leb}
use Rattle.std.proofs.lemmas.List.{take_at, drop_at, length-replicate, length-map}
use Rattle.capnp_model.specs.Bytes.{words_in_bytes}
use Rattle.capnp_model.specs.Chains.{◌provided◌}
use Rattle.capnp_model.specs.Segments.{Segments, Place, place, root, words_at}
use Rattle.capnp_model.specs.Trees.{Tree}
use Rattle.capnp_units.specs.declared.errors.Error.{Error}
use Rattle.capnp_units.specs.declared.kinds.ErrorKind.TheVariants.{SizeOverflow}
use Rattle.capnp_units.specs.declared.limiter.ReadLimiter.{ReadLimiter}
use Rattle.capnp_model.proofs.lemmas.ByteLists.{word_of_eight}
use Rattle.capnp_wire_canonical.specs.Writes.{words_view}
use Rattle.capnp_model_writes.specs.Writes.{spliced, with_words, with_zeros, segment_end}
use Rattle.capnp_model_writes.proofs.lemmas.Splices.{spliced_whole}
use Rattle.capnp_copy_arenas.specs.Allocations.{Allocates, total_words}
use Rattle.capnp_copy_arenas.specs.Values.{Becomes}
use Rattle.capnp_copy_arenas.proofs.lemmas.SectionWords.{flat_words}
use Rattle.capnp_model.specs.Encoding.{canonical_words}
use Rattle.capnp_model.specs.Traversal.{tree_at}
use Rattle.capnp_model.specs.Trimming.{trim}
use Rattle.capnp_model.specs.Visits.{visits, visits_cost}
use Rattle.capnp_model.proofs.lemmas.Chaining.{some_is}
use Rattle.capnp_units.specs.Limits.{IsFree}
use Rattle.capnp_wire_objects.specs.Walks.{Stopped}
use Rattle.capnp_copy_values.specs.Copies.{BecomesCopy, CopiesValue, Unplaced, copy_source, limited_words}
use Rattle.capnp_copy_values.proofs.lemmas.Filling.{value_stands}
use Rattle.capnp_message.specs.Canonical.{GivesCanonical, HasNoRoot, CopiesWordsToRoot, ReplacesRoot, IsReplaced, HasNoRoomForWords, SetsCanonical}
use Rattle.capnp_units.specs.Segments.{words_in}
use Rattle.capnp_message.specs.Built.{rooted, used_words}
use Rattle.capnp_wire_objects.proofs.lemmas.Walks.{free_left, unstopped}

pub on_ok : {X Y : Type 0} (r : Result X Y) {P Q : Type 0} → OnOk r P → (P → Q) → OnOk r Q
on_ok (Ok x) p f = f p
on_ok (Err e) p f = tt

pub map_both : {X : Type 0} (f : X → List ℕ) (g : List ℕ → List ℕ) (xs : List X) → map g (map f xs) ≡ map (λ x. g (f x)) xs
map_both f g [] = refl
map_both f g (x ∷ xs) = ap (λ (zs : List (List ℕ)). g (f x) ∷ zs) (map_both f g xs)

-- a root that is set
pub root_set : (r : Result ⊤ Error) (s t u : Segments) (p : Place) (v : Tree) → s ≡ t → p ≡ root → OnOk r (Becomes s u p v) → OnOk r (Becomes t u root v)
root_set r s t u p v e f h = on_ok r h (λ b. rw (sym e) (rw (sym f) b))

-- ---- the first segment

abbrev zero_word : ℕ
zero_word = 0

first_at : (s : Segments) (i at n : ℕ) (u : Segments) → s ≡ [] → Allocates s u i at n → (i ≡ 0) × (at ≡ 0) × (u ≡ replicate n zero_word ∷ [])
unfolding with_zeros segment_end
first_at [] i at n u e a =
    let none : i ≡ 0 = omega (arith, a.among) in
    (none, a.end, a.now)
first_at (x ∷ s) i at n u e a = absurd cc

pub first_there : (s u : Segments) (i at n k : ℕ) → s ≡ [] → Allocates s u i at n → k ≡ n → is_some (words_at u (place i at) k) ≡ true
first_there s u i at n k e a same =
    let f = first_at s i at n u e a in
    there i at u f.0 f.1 f.2
  where
    provided_true : (x : List ℕ) (b : Bool) → b ≡ true → is_some (x provided b) ≡ true
    provided_true x b h = rw h refl

    there : (j b : ℕ) (v : Segments) → j ≡ 0 → b ≡ 0 → v ≡ replicate n zero_word ∷ [] → is_some (words_at v (place j b) k) ≡ true
    there j b v x y z =
        let long : length (replicate n zero_word) ≡ n = length-replicate n zero_word in
        rw x (rw z (provided_true (take k (drop b (replicate n zero_word))) (leb (b + k) (length (replicate n zero_word))) (le-leb (b + k) (length (replicate n zero_word)) (omega (arith, same, long, y)))))

-- no segment has no word
pub no_words : (s : Segments) → s ≡ [] → total_words s ≡ 0
unfolding total_words
no_words [] e = refl
no_words (x ∷ s) e = absurd cc

pub first_words : (s u w : Segments) (i at n k : ℕ) (bytes : List ℕ) (ws : List (List ℕ)) → s ≡ [] → Allocates s u i at n → w ≡ with_words u (place i at) (words_in_bytes k bytes) → bytes ≡ flat_map (λ x. x) ws → n ≡ length ws → k ≡ length ws → ((j : ℕ) → j < length ws → length (get_or ws j []) ≡ 8) → w ≡ words_view ws ∷ []
unfolding with_words
first_words s u w i at n k bytes ws e a is flat few many eight =
    let f = first_at s i at n u e a in
    let view : words_in_bytes k bytes ≡ words_view ws = ap (λ (m : ℕ). words_in_bytes m bytes) many ∙ ap (words_in_bytes (length ws)) flat ∙ flat_words ws eight in
    let long : length (words_view ws) ≡ length (replicate n zero_word) = length-map ws (from_le_bytes w64) ∙ sym few ∙ sym (length-replicate n zero_word) in
    is ∙ ap (with_words u (place i at)) view ∙ put i at u f.0 f.1 f.2 ∙ ap (λ (ns : List ℕ). ns ∷ []) (spliced_whole (words_view ws) (replicate n zero_word) long)
  where
    put : (j b : ℕ) (v : Segments) → j ≡ 0 → b ≡ 0 → v ≡ replicate n zero_word ∷ [] → with_words v (place j b) (words_view ws) ≡ spliced 0 (words_view ws) (replicate n zero_word) ∷ []
    put j b v x y z = rw x (rw y (rw z refl))

-- ---- canonical words that are set

pub set_canonical : (o limit : Option ℕ) (s u : Segments) (old new : ReadLimiter) (v : Vec (List ℕ) Global) (ws : List (List ℕ)) (r : Result ⊤ Error) → GivesCanonical o limit s old (Ok v) new → ws ≡ v.items → OnOk r (u ≡ words_view ws ∷ []) → OnErr r (u ≡ []) → IfErr r (λ e. (e.kind ≡ SizeOverflow) ↔ (2 ^ 29 ≤ length ws)) → SetsCanonical o limit s [] u old r new
set_canonical None limit s u old new v ws r g is done none kind = absurd (let h = g.0 in cc)
set_canonical (Some n) limit s u old new v ws (Ok x) g is done none kind = (n, words_view v.items, refl, (g, done ∙ ap (λ (zs : List (List ℕ)). words_view zs ∷ []) is))
set_canonical (Some n) limit s u old new v ws (Err e) g is done none kind =
    let few = g.few in
    let long = length-map v.items (from_le_bytes w64) in
    (none, inr (n, words_view v.items, refl, (g, λ q. let more = kind.0 q in absurd (omega (arith, few, long, more, ap length is)))))

-- no words were given, and all stands
pub not_given : (o limit : Option ℕ) (s t u : Segments) (old new : ReadLimiter) (e : Error) → GivesCanonical o limit s old (Err e) new → u ≡ t → SetsCanonical o limit s t u old (Err e) new
not_given o limit s [] u old new e g q = (q, inl g)
not_given o limit s (first ∷ rest) u old new e g q = inl (g, q)

-- the same where the message has no segment
pub set_first : (o limit : Option ℕ) (s t u : Segments) (old new : ReadLimiter) (v : Vec (List ℕ) Global) (ws : List (List ℕ)) (r : Result ⊤ Error) → t ≡ [] → GivesCanonical o limit s old (Ok v) new → ws ≡ v.items → OnOk r (u ≡ words_view ws ∷ []) → OnErr r (u ≡ []) → IfErr r (λ e. (e.kind ≡ SizeOverflow) ↔ (2 ^ 29 ≤ length ws)) → SetsCanonical o limit s t u old r new
set_first o limit s [] u old new v ws r none g is done refused kind = set_canonical o limit s u old new v ws r g is done refused kind
set_first o limit s (first ∷ rest) u old new v ws r none g is done refused kind = absurd cc

-- ---- words that are copied

-- what is made of words that mean a value
made : (n : ℕ) (words : List ℕ) (t u : Segments) (x : ⊤) (v : Tree) → tree_at n (words ∷ []) root ≡ Some v → CopiesWordsToRoot n words t u (Ok x) → IsReplaced n v words t u
made n words t u x v read c =
    let copied = c.copies in
    record {
      start = c.start;
      end = c.end;
      free = c.free;
      walked = copied.walked;
      takes = copied.takes;
      grows = copied.grows;
      becomes = subst (BecomesCopy n t u root) (some_is _ _ (sym copied.there_is ∙ read)) copied.made;
    }

-- words that can be read are refused for want of room alone
full : (n : ℕ) (words : List ℕ) (t u : Segments) (e : Error) → (cost : ℕ) × (visits_cost (visits n (words ∷ []) root) ≡ Some cost) → CopiesWordsToRoot n words t u (Err e) → HasNoRoomForWords n words t u e
full n words t u e costs c = by c.copies.why
  where
    by : Stopped (visits n (words ∷ []) root) c.start e c.end ⊎ Unplaced (words ∷ []) (visits n (words ∷ []) root) u c.start e c.end → HasNoRoomForWords n words t u e
    by (inl x) = absurd (unstopped (visits n (words ∷ []) root) costs.0 c.start c.end e costs.1 (free_left c.start c.free) x)
    by (inr x) = record {
      start = c.start;
      end = c.end;
      free = c.free;
      unplaced = x;
      takes = c.copies.takes;
      stands = record { words = c.copies.left; value = λ m v o. value_stands m t u root v o c.copies.left };
    }

-- what canonical words mean
abbrev pub MeansTrimmed : ℕ → Segments → Type 0
MeansTrimmed n s = (v : Tree) → tree_at n s root ≡ Some v → length (canonical_words (trim v)) < 2 ^ 29 → tree_at n (canonical_words (trim v) ∷ []) root ≡ Some (trim v)

-- what following a value costs
abbrev pub CostsSome : Type 0
CostsSome = (n : ℕ) (s : Segments) (t : Tree) → tree_at n s root ≡ Some t → (cost : ℕ) × (visits_cost (visits n s root) ≡ Some cost)

-- the root of a message that has segments is set to the value of canonical words
pub set_again : (o limit : Option ℕ) (k : ℕ) (s t u : Segments) (old new : ReadLimiter) (v : Vec (List ℕ) Global) (ws : List (List ℕ)) (r : Result ⊤ Error) → 0 < length t → unwrap_or o 0 ≡ k → GivesCanonical o limit s old (Ok v) new → ws ≡ v.items → ReplacesRoot k (words_view ws) t u r → ((n : ℕ) → MeansTrimmed n s) → CostsSome → SetsCanonical o limit s t u old r new
set_again o limit k s [] u old new v ws r some is g same done mean costs = absurd (omega (arith, some))
set_again None limit k s (first ∷ rest) u old new v ws r some is g same done mean costs = absurd (let h = g.0 in cc)
set_again (Some n) limit k s (first ∷ rest) u old new v ws r some is g same done mean costs = by r replaced
  where
    words : List ℕ
    words = words_view v.items

    replaced : ReplacesRoot n words (first ∷ rest) u r
    replaced = subst (λ (m : ℕ). ReplacesRoot m words (first ∷ rest) u r) (sym is) (subst (λ (xs : List (List ℕ)). ReplacesRoot k (words_view xs) (first ∷ rest) u r) same done)

    few : length (canonical_words (trim g.value)) < 2 ^ 29
    few = subst (λ (xs : List ℕ). length xs < 2 ^ 29) g.words_are g.few

    read : tree_at n (words ∷ []) root ≡ Some (trim g.value)
    read = subst (λ (xs : List ℕ). tree_at n (xs ∷ []) root ≡ Some (trim g.value)) (sym g.words_are) (mean n g.value g.there few)

    by : (x : Result ⊤ Error) → ReplacesRoot n words (first ∷ rest) u x → SetsCanonical (Some n) limit s (first ∷ rest) u old x new
    by (Ok x) c = (n, words, refl, (g, made n words (first ∷ rest) u x (trim g.value) read c))
    by (Err e) c = inr (n, words, refl, (g, why c))
      where
        why : HasNoRoot (first ∷ rest) u e ⊎ CopiesWordsToRoot n words (first ∷ rest) u (Err e) → HasNoRoot (first ∷ rest) u e ⊎ HasNoRoomForWords n words (first ∷ rest) u e
        why (inl x) = inl x
        why (inr x) = inr (full n words (first ∷ rest) u e (costs n (words ∷ []) (trim g.value) read) x)

-- a message that has a segment
pub some_segments : {X : Type 0} (used : X → ℕ) (bytes : X → List ℕ) (xs : List X) → 0 < length xs → 0 < length (used_words used bytes xs)
some_segments used bytes [] some = absurd (omega (arith, some))
some_segments used bytes (x ∷ xs) some = omega arith

-- the bytes of words are one segment
pub one_segment : (bytes : List ℕ) (ws : List (List ℕ)) → bytes ≡ flat_map (λ w. w) ws → length bytes ≡ 8 * length ws → ((i : ℕ) → i < length ws → length (get_or ws i []) ≡ 8) → words_in (bytes ∷ []) ≡ words_view ws ∷ []
one_segment bytes ws flat long eight =
    let many : length bytes / 8 ≡ length ws = omega (arith, long) in
    let view : words_in_bytes (length bytes / 8) bytes ≡ words_view ws = ap (λ (m : ℕ). words_in_bytes m bytes) many ∙ ap (words_in_bytes (length ws)) flat ∙ flat_words ws eight in
    ap (λ (ns : List ℕ). ns ∷ []) view

-- a copy of the root of one segment
pub copied_root : (n : ℕ) (from s u : Segments) (ws : List ℕ) (old new : ReadLimiter) (r : Result ⊤ Error) → from ≡ ws ∷ [] → IsFree old → CopiesValue (copy_source n from root) root (limited_words s old) r (limited_words u new) → ReplacesRoot n ws s u r
copied_root n from s u ws old new r is free c = by r (subst (λ (f : Segments). CopiesValue (copy_source n f root) root (limited_words s old) r (limited_words u new)) is c)
  where
    by : (x : Result ⊤ Error) → CopiesValue (copy_source n (ws ∷ []) root) root (limited_words s old) x (limited_words u new) → ReplacesRoot n ws s u x
    by (Ok y) d = record { start = old; end = new; free = free; copies = d }
    by (Err e) d = inr (record { start = old; end = new; free = free; copies = d })

-- ---- where no root is

-- no segment is the first
pub no_first : (s : Segments) (b : Bool) → is_some (words_at s root 0) ≡ b → b ≡ false → s ≡ []
no_first [] b e f = refl
no_first (x ∷ s) b e f =
    let empty : leb 0 (length x) ≡ true = le-leb 0 (length x) (omega arith) in
    let there : is_some (words_at (x ∷ s) root 0) ≡ true = rw empty refl in
    let wrong : true ≡ false = sym there ∙ e ∙ f in
    absurd cc

pub rooted_none : (s u : Segments) → s ≡ [] → u ≡ (0 ∷ []) ∷ [] → u ≡ rooted s
rooted_none s u e f = rw e f

pub root_there : (u : Segments) → u ≡ (0 ∷ []) ∷ [] → is_some (words_at u root 1) ≡ true
root_there u f = rw f refl
