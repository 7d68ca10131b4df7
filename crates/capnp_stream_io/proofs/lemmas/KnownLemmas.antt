-- What several calls do to the known bytes together.
use Rattle.std.proofs.Common.{◌≡◌, ℕ, ◌+◌, ◌-◌, ◌≤◌, ◌<◌, List, [], ◌++◌, None, Some, IfSome, Result, Ok, Err, sym, ap, ◌∙◌, arith, length, take, drop, append_assoc, take-append-drop, min, subst, take_at, length-take-le, length-drop}
use Rattle.std.proofs.lemmas.List.{drop-take, drop-drop, nil_from_length, take_rest}
use Rattle.std.proofs.Math.Seq.{take-add}
use Rattle.std.specs.List.{slice_range}
use Rattle.std.specs.declared.option.Option.{Option}
use Rattle.std.specs.Io.KnownBytes.{Keeps, Consumes, Appends, ReadConsumes, WriteAppends, IsAtEnd, prepend_known}
use Rattle.std.proofs.KnownBytes.{Appends-trans, Keeps-trans, prepend_known-read, prepend_known-nil}
use Rattle.capnp_stream_io.specs.Streams.{AppendsPart}

pub Consumes-of_kept : (a b c : Option (List ℕ)) (bs : List ℕ) → Keeps a b → Consumes b c bs → Consumes a c bs
Consumes-of_kept None b c bs p q = tt
Consumes-of_kept (Some x) None c bs p q = absurd p
Consumes-of_kept (Some x) (Some y) None bs p q = absurd q
Consumes-of_kept (Some x) (Some y) (Some z) bs p q = sym p ∙ q

pub Appends-of_kept : (a b c : Option (List ℕ)) (bs : List ℕ) → Keeps a b → Appends b c bs → Appends a c bs
Appends-of_kept None b c bs p q = tt
Appends-of_kept (Some x) None c bs p q = absurd p
Appends-of_kept (Some x) (Some y) None bs p q = absurd q
Appends-of_kept (Some x) (Some y) (Some z) bs p q = q ∙ ap (λ l. l ++ bs) p

pub ReadConsumes-of_kept : {E : Type 0} (a b c : Option (List ℕ)) (r : Result ℕ E) (buf : List ℕ) → Keeps a b → ReadConsumes b c r buf → ReadConsumes a c r buf
ReadConsumes-of_kept a b c (Ok n) buf p q = (Consumes-of_kept a b c (take n buf) p q.0, q.1)
ReadConsumes-of_kept a b c (Err e) buf p q = Keeps-trans a b c p q

pub WriteAppends-of_kept : {E : Type 0} (a b c : Option (List ℕ)) (r : Result ℕ E) (buf : List ℕ) → Keeps a b → WriteAppends b c r buf → WriteAppends a c r buf
WriteAppends-of_kept a b c (Ok n) buf p q = Appends-of_kept a b c (take n buf) p q
WriteAppends-of_kept a b c (Err e) buf p q = Keeps-trans a b c p q

-- what was read stands in front of what is left
pub Keeps-of_read : (a b : Option (List ℕ)) (bs : List ℕ) → Consumes a b bs → Keeps a (prepend_known bs b)
Keeps-of_read None b bs p = tt
Keeps-of_read (Some x) None bs p = absurd p
Keeps-of_read (Some x) (Some y) bs p = sym p

pub Appends-part : (a b : Option (List ℕ)) (n : ℕ) (bs : List ℕ) → Appends a b (take n bs) → AppendsPart a b bs
Appends-part a b n bs p = (take n bs, drop n bs, sym (take-append-drop n bs), p)

pub AppendsPart-more : (a b : Option (List ℕ)) (bs cs : List ℕ) → AppendsPart a b bs → AppendsPart a b (bs ++ cs)
AppendsPart-more a b bs cs p = (p.0, p.1 ++ cs, ap (λ l. l ++ cs) p.2 ∙ append_assoc p.0 p.1 cs, p.3)

pub AppendsPart-next : (a b c : Option (List ℕ)) (bs cs : List ℕ) → Appends a b bs → AppendsPart b c cs → AppendsPart a c (bs ++ cs)
AppendsPart-next a b c bs cs first p = (bs ++ p.0, p.1, ap (λ l. bs ++ l) p.2 ∙ sym (append_assoc bs p.0 p.1), Appends-trans a b c bs p.0 first p.3)

-- a beginning of what lies behind the first n is a beginning of all
pub AppendsPart-behind : (a b c : Option (List ℕ)) (n : ℕ) (bs : List ℕ) → Appends a b (take n bs) → AppendsPart b c (drop n bs) → AppendsPart a c bs
AppendsPart-behind a b c n bs first p = subst (AppendsPart a c) (take-append-drop n bs) (AppendsPart-next a b c (take n bs) (drop n bs) first p)

-- two writes of a list, one after the other
pub Appends-take : (a b c : Option (List ℕ)) (at n : ℕ) (bs : List ℕ) → Appends a b (take at bs) → Appends b c (take n (take (length bs - at) (drop at bs))) → Appends a c (take (at + n) bs)
Appends-take a b c at n bs p q =
    let second : Appends b c (take n (drop at bs)) = subst (λ l. Appends b c (take n l)) (take_rest bs at) q in
    subst (Appends a c) (sym (take-add at n bs)) (Appends-trans a b c (take at bs) (take n (drop at bs)) p second)

-- what holds of a front whatever follows it holds of the known bytes
pub IfSome-of_front : (a b : Option (List ℕ)) (front : List ℕ) (P : List ℕ → Type 0) → Consumes a b front → ((more : List ℕ) → P (front ++ more)) → IfSome a P
IfSome-of_front None b front P taken holds = tt
IfSome-of_front (Some x) None front P taken holds = absurd taken
IfSome-of_front (Some x) (Some y) front P taken holds = subst P (sym taken) (holds y)

-- what holds of bytes that were kept held before
pub IfSome-of_kept : (a b : Option (List ℕ)) (P : List ℕ → Type 0) → Keeps a b → IfSome b P → IfSome a P
IfSome-of_kept None b P kept holds = tt
IfSome-of_kept (Some x) None P kept holds = absurd kept
IfSome-of_kept (Some x) (Some y) P kept holds = subst P kept holds

-- what is known of the bytes behind a front is known of all
pub IfSome-of_behind : (a b : Option (List ℕ)) (front : List ℕ) (P Q : List ℕ → Type 0) → Consumes a b front → IfSome b P → ((more : List ℕ) → P more → Q (front ++ more)) → IfSome a Q
IfSome-of_behind None b front P Q taken holds leads = tt
IfSome-of_behind (Some x) None front P Q taken holds leads = absurd taken
IfSome-of_behind (Some x) (Some y) front P Q taken holds leads = subst Q (sym taken) (leads y holds)
