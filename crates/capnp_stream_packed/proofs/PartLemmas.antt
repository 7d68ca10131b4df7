-- Parts that are read one behind the other.
use Rattle.std.proofs.lemmas.Bool.{le-leb}
use Rattle.std.proofs.lemmas.List.{take_more_set, take_all}
use Rattle.std.proofs.Math.Dec.{leb-suc-zero, leb-suc-suc}
use Rattle.std.proofs.Common.{◌≡◌, ℕ, suc, ◌+◌, ◌-◌, ◌%◌, ◌/◌, ◌<◌, Bool, true, false, cond, leb, List, [], ◌∷◌, ◌++◌, length, take, drop, set, subst, None, Some, IfSome, Result, Ok, Err, refl, sym, ap, ◌∙◌, append_assoc, append-nil, arith}
use Rattle.std.specs.declared.option.Option.{Option}
use Rattle.std.proofs.KnownBytes.{Consumes-nil, Consumes-trans}
use Rattle.capnp_units.specs.declared.kinds.ErrorKind.{ErrorKind}
use Rattle.capnp_units.specs.declared.kinds.ErrorKind.TheVariants.{FailedToFillTheWholeBuffer, PrematureEndOfPackedInput, PackedInputDidNotEndCleanlyOnASegmentBoundary, Device}
use Rattle.capnp_model.specs.Kinds as kinds
use Rattle.capnp_model.specs.Kinds.{Kind}
use Rattle.capnp_model.specs.Chains.{◌and_then◌, guard}
use Rattle.capnp_model.specs.Bytes.{taken}
use Rattle.capnp_model.specs.Packing.{Run, byte_at, spread, counted, run_at}
use Rattle.capnp_model.proofs.lemmas.Chaining.{ok_then, bind_ok}
use Rattle.capnp_stream.specs.Pieces.{EndsEarly, EachIsNeeded}
use Rattle.capnp_stream.proofs.lemmas.EarlyLemmas.{early-same, early-then, none-needed, needed-joined}
use Rattle.capnp_stream.proofs.lemmas.PieceLemmas.{err_then}
use Rattle.capnp_stream_packed.specs.Parts.{Rule, ContinuesWith, Takes, IsFault, Refuses, byte_or, count_at, tagged, with_front}

-- ---- single bytes

-- a byte is needed where its lack is an early end
pub byte-needed : {A : Type 0} (f : Rule A) (b : ℕ) → EndsEarly (f []) → EachIsNeeded f (b ∷ [])
byte-needed f b early n below = let first : n ≡ 0 = omega arith in early-same _ _ (ap (λ (m : ℕ). f (take m (b ∷ []))) first) early

-- ---- one behind the other

-- a rule that is the other
pub Leads-by : {A : Type 0} (f g : Rule A) (a : Option (List ℕ)) → ((bytes : List ℕ) → f bytes ≡ g bytes) → ContinuesWith f a a g
Leads-by f g a e = record { part = []; taken = Consumes-nil a; says = e; needed = none-needed f }

pub Leads-trans : {A : Type 0} (f g h : Rule A) (a b c : Option (List ℕ)) → ContinuesWith f a b g → ContinuesWith g b c h → ContinuesWith f a c h
Leads-trans f g h a b c p q = record {
  part = p.part ++ q.part;
  taken = Consumes-trans a b c p.part q.part p.taken q.taken;
  says = λ more. ap f (append_assoc p.part q.part more) ∙ p.says (q.part ++ more) ∙ q.says more;
  needed = needed-joined f g p.part q.part (λ more h. early-same _ _ (p.says more) h) p.needed q.needed;
}

known-behind : {A : Type 0} (f g : Rule A) (a b : Option (List ℕ)) (k : Kind) → ContinuesWith f a b g → IfSome b (λ xs. g xs ≡ Err k) → IfSome a (λ xs. f xs ≡ Err k)
known-behind f g None b k p h = tt
known-behind f g (Some x) None k p h = absurd p.taken
known-behind f g (Some x) (Some y) k p h = ap f p.taken ∙ p.says y ∙ h

IsFault-behind : {A : Type 0} (f g : Rule A) (a b : Option (List ℕ)) (k : ErrorKind) → ContinuesWith f a b g → IsFault g b k → IsFault f a k
IsFault-behind f g a b Device p h = tt
IsFault-behind f g a b FailedToFillTheWholeBuffer p h = known-behind f g a b _ p h
IsFault-behind f g a b PrematureEndOfPackedInput p h = known-behind f g a b _ p h
IsFault-behind f g a b PackedInputDidNotEndCleanlyOnASegmentBoundary p h = known-behind f g a b _ p h
IsFault-behind f g a b _ p h = absurd h

-- a part behind a front is refused
pub Refuses-behind : {A : Type 0} (f g : Rule A) (a b c : Option (List ℕ)) (k : ErrorKind) → ContinuesWith f a b g → Refuses g b c k → Refuses f a c k
Refuses-behind f g a b c k p q = record {
  part = p.part ++ q.part;
  taken = Consumes-trans a b c p.part q.part p.taken q.taken;
  none = λ x e. q.none x (sym (p.says q.part) ∙ e);
  needed = needed-joined f g p.part q.part (λ more h. early-same _ _ (p.says more) h) p.needed q.needed;
  fault = IsFault-behind f g a b k p q.fault;
}

-- ---- the first of two steps

pub Leads-then : {A B : Type 0} (f : Rule A) (k : A × List ℕ → Result (B × List ℕ) Kind) (a b : Option (List ℕ)) (x : A) → Takes f a b x → ContinuesWith (λ bytes. f bytes and_then k) a b (λ more. k (x, more))
Leads-then f k a b x p = record { part = p.part; taken = p.taken; says = λ more. ok_then (f (p.part ++ more)) k (x, more) (k (x, more)) (p.says more) refl; needed = λ n below. early-then (f (take n p.part)) k (p.needed n below) }

known-then : {A B : Type 0} (f : Rule A) (s : A × List ℕ → Result (B × List ℕ) Kind) (a : Option (List ℕ)) (k : Kind) → IfSome a (λ xs. f xs ≡ Err k) → IfSome a (λ xs. (f xs and_then s) ≡ Err k)
known-then f s None k h = tt
known-then f s (Some x) k h = err_then (f x) s k h

IsFault-then : {A B : Type 0} (f : Rule A) (s : A × List ℕ → Result (B × List ℕ) Kind) (a : Option (List ℕ)) (k : ErrorKind) → IsFault f a k → IsFault (λ bytes. f bytes and_then s) a k
IsFault-then f s a Device h = tt
IsFault-then f s a FailedToFillTheWholeBuffer h = known-then f s a _ h
IsFault-then f s a PrematureEndOfPackedInput h = known-then f s a _ h
IsFault-then f s a PackedInputDidNotEndCleanlyOnASegmentBoundary h = known-then f s a _ h
IsFault-then f s a _ h = absurd h

pub Refuses-then : {A B : Type 0} (f : Rule A) (s : A × List ℕ → Result (B × List ℕ) Kind) (a b : Option (List ℕ)) (k : ErrorKind) → Refuses f a b k → Refuses (λ bytes. f bytes and_then s) a b k
Refuses-then f s a b k p = record {
  part = p.part;
  taken = p.taken;
  none = λ x e. let t = bind_ok (f p.part) s x e in p.none t.0 t.1;
  needed = λ n below. early-then (f (take n p.part)) s (p.needed n below);
  fault = IsFault-then f s a k p.fault;
}

-- ---- behind others that were read

pub with_front-nil : (r : Result (List ℕ × List ℕ) Kind) → with_front [] r ≡ r
with_front-nil (Ok x) = refl
with_front-nil (Err k) = refl

pub with_front-more : (xs ys : List ℕ) (r : Result (List ℕ × List ℕ) Kind) → with_front xs (with_front ys r) ≡ with_front (xs ++ ys) r
with_front-more xs ys (Ok x) = ap (λ (l : List ℕ). Ok (l, x.1)) (sym (append_assoc xs ys x.0))
with_front-more xs ys (Err k) = refl

with_front-err : (xs : List ℕ) (r : Result (List ℕ × List ℕ) Kind) (x : List ℕ × List ℕ) → with_front xs r ≡ Ok x → (y : List ℕ × List ℕ) × (r ≡ Ok y)
with_front-err xs (Ok y) x e = (y, refl)
with_front-err xs (Err k) x e = absurd cc

with_front-fault : (xs : List ℕ) (r : Result (List ℕ × List ℕ) Kind) (k : Kind) → r ≡ Err k → with_front xs r ≡ Err k
with_front-fault xs (Ok y) k e = absurd cc
with_front-fault xs (Err d) k e = e

pub early-front : (xs : List ℕ) (r : Result (List ℕ × List ℕ) Kind) → EndsEarly r → EndsEarly (with_front xs r)
early-front xs (Ok x) h = absurd h
early-front xs (Err k) h = h

known-front : (xs : List ℕ) (f : Rule (List ℕ)) (a : Option (List ℕ)) (k : Kind) → IfSome a (λ bytes. f bytes ≡ Err k) → IfSome a (λ bytes. with_front xs (f bytes) ≡ Err k)
known-front xs f None k h = tt
known-front xs f (Some x) k h = with_front-fault xs (f x) k h

IsFault-front : (xs : List ℕ) (f : Rule (List ℕ)) (a : Option (List ℕ)) (k : ErrorKind) → IsFault f a k → IsFault (λ bytes. with_front xs (f bytes)) a k
IsFault-front xs f a Device h = tt
IsFault-front xs f a FailedToFillTheWholeBuffer h = known-front xs f a _ h
IsFault-front xs f a PrematureEndOfPackedInput h = known-front xs f a _ h
IsFault-front xs f a PackedInputDidNotEndCleanlyOnASegmentBoundary h = known-front xs f a _ h
IsFault-front xs f a _ h = absurd h

pub Refuses-front : (xs : List ℕ) (f : Rule (List ℕ)) (a b : Option (List ℕ)) (k : ErrorKind) → Refuses f a b k → Refuses (λ bytes. with_front xs (f bytes)) a b k
Refuses-front xs f a b k p = record {
  part = p.part;
  taken = p.taken;
  none = λ x e. let t = with_front-err xs (f p.part) x e in p.none t.0 t.1;
  needed = λ n below. early-front xs (f (take n p.part)) (p.needed n below);
  fault = IsFault-front xs f a k p.fault;
}

pub Leads-front : (xs : List ℕ) (f g : Rule (List ℕ)) (a b : Option (List ℕ)) → ContinuesWith f a b g → ContinuesWith (λ bytes. with_front xs (f bytes)) a b (λ bytes. with_front xs (g bytes))
Leads-front xs f g a b p = record { part = p.part; taken = p.taken; says = λ more. ap (with_front xs) (p.says more); needed = λ n below. early-front xs (f (take n p.part)) (p.needed n below) }

-- ---- a word, byte by byte

-- one byte of a word, and what the rest says
abbrev pub byte_then : Rule ℕ → Rule (List ℕ) → Rule (List ℕ)
byte_then one rest bytes = one bytes and_then λ b. with_front (b.0 ∷ []) (rest b.1)

module _ (f : Rule (List ℕ)) (a b : Option (List ℕ)) (front : List ℕ) (all : Rule (List ℕ)) (byte : Rule ℕ) (rest : Rule (List ℕ))
    (before : ContinuesWith f a b (λ more. with_front front (all more))) (step : (bytes : List ℕ) → all bytes ≡ byte_then byte rest bytes) where
  pub byte-leads : (c : Option (List ℕ)) (x : ℕ) → Takes byte b c x → ContinuesWith f a c (λ more. with_front (front ++ x ∷ []) (rest more))
  byte-leads c x p =
      let whole : Rule (List ℕ) = λ more. with_front front (all more) in
      let now : Rule (List ℕ) = λ more. with_front front (with_front (x ∷ []) (rest more)) in
      let part : ContinuesWith all b c (λ more. with_front (x ∷ []) (rest more)) =
      Leads-trans all (byte_then byte rest) (λ more. with_front (x ∷ []) (rest more)) b b c (Leads-by all (byte_then byte rest) b step) (Leads-then byte (λ y. with_front (y.0 ∷ []) (rest y.1)) b c x p) in
      let last = Leads-by now (λ more. with_front (front ++ x ∷ []) (rest more)) c (λ more. with_front-more front (x ∷ []) (rest more)) in
      Leads-trans f now _ a c c (Leads-trans f whole now a b c before (Leads-front front all (λ more. with_front (x ∷ []) (rest more)) b c part)) last

  pub byte-refused : (c : Option (List ℕ)) (k : ErrorKind) → Refuses byte b c k → Refuses f a c k
  byte-refused c k p =
      let part : Refuses all b c k = Refuses-behind all (byte_then byte rest) b b c k (Leads-by all (byte_then byte rest) b step) (Refuses-then byte (λ y. with_front (y.0 ∷ []) (rest y.1)) b c k p) in
      Refuses-behind f (λ more. with_front front (all more)) a b c k before (Refuses-front front all b c k part)

-- ---- the bytes that a tag marks

pub then-alike : {A B : Type 0} (r : Result A Kind) (f g : A → Result B Kind) → ((x : A) → f x ≡ g x) → (r and_then f) ≡ (r and_then g)
then-alike (Ok x) f g h = h x
then-alike (Err k) f g h = refl

front-of_byte : (b : ℕ) (r : Result (List ℕ × List ℕ) Kind) → (r and_then λ bs. Ok (b ∷ bs.0, bs.1)) ≡ with_front (b ∷ []) r
front-of_byte b (Ok x) = refl
front-of_byte b (Err k) = refl

spread-step : (n k m : ℕ) → n ≡ suc k → (bytes : List ℕ) → spread n m bytes ≡ byte_then (byte_at (m % 2)) (spread k (m / 2)) bytes
spread-step n k m e bytes = rw e (then-alike (byte_at (m % 2) bytes) _ _ (λ b. front-of_byte b.0 (spread k (m / 2) b.1)))

pub tagged-start : (tag : ℕ) (a : Option (List ℕ)) → ContinuesWith (tagged tag) a a (λ more. with_front [] (spread 8 tag more))
unfolding tagged
tagged-start tag a = Leads-by (tagged tag) (λ more. with_front [] (spread 8 tag more)) a (λ more. sym (with_front-nil (spread 8 tag more)))

module _ (f : Rule (List ℕ)) (a b : Option (List ℕ)) (word : List ℕ) (n i m : ℕ) (before : ContinuesWith f a b (λ more. with_front (take i word) (spread (n - i) m more))) where
  pub spread-more : (c : Option (List ℕ)) (x : ℕ) → i < n → length word ≡ n → Takes (byte_at (m % 2)) b c x → ContinuesWith f a c (λ more. with_front (take (i + 1) (set word i x)) (spread (n - (i + 1)) (m / 2) more))
  spread-more c x below whole p =
      let step = spread-step (n - i) (n - (i + 1)) m (omega arith) in
      let long : take (i + 1) (set word i x) ≡ take i word ++ x ∷ [] = take_more_set word i x (omega arith) in
      let P : List ℕ → Type 0 = λ l. ContinuesWith f a c (λ more. with_front l (spread (n - (i + 1)) (m / 2) more)) in
      subst P (sym long) (byte-leads f a b (take i word) (spread (n - i) m) (byte_at (m % 2)) (spread (n - (i + 1)) (m / 2)) before step c x p)

  pub spread-refused : (c : Option (List ℕ)) (k : ErrorKind) → i < n → Refuses (byte_at (m % 2)) b c k → Refuses f a c k
  spread-refused c k below p =
      let step = spread-step (n - i) (n - (i + 1)) m (omega arith) in
      byte-refused f a b (take i word) (spread (n - i) m) (byte_at (m % 2)) (spread (n - (i + 1)) (m / 2)) before step c k p

  pub spread-end : i ≡ n → length word ≡ n → Takes f a b word
  spread-end all whole =
      let none : n - i ≡ 0 = omega arith in
      let every : take i word ≡ word = take_all i word (omega arith) in
      let rest : (more : List ℕ) → with_front (take i word) (spread (n - i) m more) ≡ Ok (word, more) = λ more.
      ap (λ (k : ℕ). with_front (take i word) (spread k m more)) none ∙ ap (λ (l : List ℕ). Ok (l, more)) (append-nil (take i word) ∙ every) in
      Leads-trans f _ (λ more. Ok (word, more)) a b b before (Leads-by _ _ b rest)

-- ---- bytes as they are

front-of_cond : (c : Bool) (b : ℕ) (xs ys : List ℕ) (k : Kind) → cond c (Ok (b ∷ xs, ys)) (Err k) ≡ with_front (b ∷ []) (cond c (Ok (xs, ys)) (Err k))
front-of_cond true b xs ys k = refl
front-of_cond false b xs ys k = refl

-- n bytes or this kind
abbrev taken_if : Bool → List ℕ × List ℕ → Result (List ℕ × List ℕ) Kind
taken_if c x = cond c (Ok x) (Err kinds.FailedToFillTheWholeBuffer)

taken-cases : (k : ℕ) (bytes : List ℕ) → taken (suc k) bytes ≡ byte_then (byte_or kinds.FailedToFillTheWholeBuffer) (taken k) bytes
taken-cases k [] = ap (λ (c : Bool). taken_if c ([], [])) (leb-suc-zero k)
taken-cases k (b ∷ bytes) = ap (λ (c : Bool). taken_if c (b ∷ take k bytes, drop k bytes)) (leb-suc-suc k (length bytes)) ∙ front-of_cond (leb k (length bytes)) b (take k bytes) (drop k bytes) kinds.FailedToFillTheWholeBuffer

taken-step : (n k : ℕ) → n ≡ suc k → (bytes : List ℕ) → taken n bytes ≡ byte_then (byte_or kinds.FailedToFillTheWholeBuffer) (taken k) bytes
taken-step n k e bytes = ap (λ (m : ℕ). taken m bytes) e ∙ taken-cases k bytes

taken-none : (n : ℕ) (bytes : List ℕ) → n ≡ 0 → taken n bytes ≡ Ok ([], bytes)
taken-none n bytes e = ap (λ (m : ℕ). taken m bytes) e ∙ ap (λ (c : Bool). taken_if c ([], bytes)) (le-leb 0 (length bytes) (omega arith))

pub taken-start : (n : ℕ) (a : Option (List ℕ)) → ContinuesWith (taken n) a a (λ more. with_front [] (taken n more))
taken-start n a = Leads-by (taken n) (λ more. with_front [] (taken n more)) a (λ more. sym (with_front-nil (taken n more)))

module _ (f : Rule (List ℕ)) (a b : Option (List ℕ)) (word : List ℕ) (n i : ℕ) (before : ContinuesWith f a b (λ more. with_front (take i word) (taken (n - i) more))) where
  pub taken-more : (c : Option (List ℕ)) (x : ℕ) → i < n → length word ≡ n → Takes (byte_or kinds.FailedToFillTheWholeBuffer) b c x → ContinuesWith f a c (λ more. with_front (take (i + 1) (set word i x)) (taken (n - (i + 1)) more))
  taken-more c x below whole p =
      let step = taken-step (n - i) (n - (i + 1)) (omega arith) in
      let long : take (i + 1) (set word i x) ≡ take i word ++ x ∷ [] = take_more_set word i x (omega arith) in
      let P : List ℕ → Type 0 = λ l. ContinuesWith f a c (λ more. with_front l (taken (n - (i + 1)) more)) in
      subst P (sym long) (byte-leads f a b (take i word) (taken (n - i)) (byte_or kinds.FailedToFillTheWholeBuffer) (taken (n - (i + 1))) before step c x p)

  pub taken-refused : (c : Option (List ℕ)) (k : ErrorKind) → i < n → Refuses (byte_or kinds.FailedToFillTheWholeBuffer) b c k → Refuses f a c k
  taken-refused c k below p =
      let step = taken-step (n - i) (n - (i + 1)) (omega arith) in
      byte-refused f a b (take i word) (taken (n - i)) (byte_or kinds.FailedToFillTheWholeBuffer) (taken (n - (i + 1))) before step c k p

  pub taken-end : i ≡ n → length word ≡ n → Takes f a b word
  taken-end all whole =
      let none : n - i ≡ 0 = omega arith in
      let every : take i word ≡ word = take_all i word (omega arith) in
      let rest : (more : List ℕ) → with_front (take i word) (taken (n - i) more) ≡ Ok (word, more) = λ more.
      ap (with_front (take i word)) (taken-none (n - i) more none) ∙ ap (λ (l : List ℕ). Ok (l, more)) (append-nil (take i word) ∙ every) in
      Leads-trans f _ (λ more. Ok (word, more)) a b b before (Leads-by _ _ b rest)

-- ---- the run behind a group

abbrev running : (ℕ → Run) → ℕ × List ℕ → Result (Run × List ℕ) Kind
running run k = Ok (run k.0, k.1)

counted-is : (n : ℕ) (run : ℕ → Run) (bytes : List ℕ) → counted n run bytes ≡ (count_at n bytes and_then running run)
counted-is n run [] = refl
counted-is n run (k ∷ bytes) = by (leb k n)
  where
    by : (c : Bool) → (guard c kinds.PackedInputDidNotEndCleanlyOnASegmentBoundary and_then λ _. running run (k, bytes)) ≡ ((guard c kinds.PackedInputDidNotEndCleanlyOnASegmentBoundary and_then λ _. let x : Result (ℕ × List ℕ) Kind = Ok (k, bytes) in x) and_then running run)
    by true = refl
    by false = refl

-- a count that can't be read
pub run-refused : (n t : ℕ) (run : ℕ → Run) (a b : Option (List ℕ)) (k : ErrorKind) → ((bytes : List ℕ) → run_at n t bytes ≡ counted n run bytes) → Refuses (count_at n) a b k → Refuses (run_at n t) a b k
run-refused n t run a b k is p =
    let counts : Rule Run = λ bytes. count_at n bytes and_then running run in
    Refuses-behind (run_at n t) counts a a b k (Leads-by (run_at n t) counts a (λ bytes. is bytes ∙ counted-is n run bytes)) (Refuses-then (count_at n) (running run) a b k p)
