-- Copies one after the other.
use Rattle.std.proofs.Common.{◌≡◌, ℕ, ◌+◌, ◌-◌, ◌^◌, ◌<◌, ◌≤◌, min, Bool, false, List, [], ◌++◌, length, drop, Option, Some, Result, Ok, Err, refl, ap, sym, ◌∙◌, subst, inl, inr, arith}
use Rattle.std.proofs.lemmas.List.{append_assoc, append-nil, drop-drop}
use Rattle.capnp_model.specs.Visits.{Visit, visits_cost}
use Rattle.capnp_model.proofs.lemmas.Chaining.{some_is}
use Rattle.capnp_model.proofs.lemmas.Visits.{cost_together}
use Rattle.capnp_units.specs.declared.errors.Error.{Error}
use Rattle.capnp_units.specs.declared.kinds.ErrorKind.TheVariants.{BufferNotLargeEnough}
use Rattle.capnp_units.specs.declared.limiter.ReadLimiter.{ReadLimiter}
use Rattle.capnp_units.specs.Limits.{Spends}
use Rattle.capnp_units.proofs.lemmas.Spending.{spends_both}
use Rattle.capnp_wire_objects.specs.Walks.{Walked, Stopped}
use Rattle.capnp_wire_objects.proofs.lemmas.Walks.{walked_none, walked_both, stopped_later}
use Rattle.capnp_wire_canonical.specs.Writes.{filled}
use Rattle.capnp_wire_canonical.specs.Copies.{CopyState, copy_state, Copying, Behind, room_of, HasNoRoomFor, Filled, Halted, Unwritten, Written, WritesCopy}

-- A copy that may write over the words in use.
abbrev pub over_used : {X : Type 0} → Option X → (X → Bool) → (X → List ℕ → List ℕ) → List Visit → ℕ → Copying X
over_used there bad put path used = record { there = there; bad = bad; put = put; path = path; used = used; most = used }

-- ---- what stays

drop_more : (n m : ℕ) (xs ys : List (List ℕ)) → n ≤ m → drop n xs ≡ drop n ys → drop m xs ≡ drop m ys
drop_more n m xs ys h e =
    let sum : n + (m - n) ≡ m = omega arith in
    ap (λ (k : ℕ). drop k xs) (sym sum) ∙ sym (drop-drop (m - n) n xs) ∙ ap (drop (m - n)) e ∙ drop-drop (m - n) n ys ∙ ap (λ (k : ℕ). drop k ys) sum

pub behind_none : (n : ℕ) (xs : List (List ℕ)) → Behind n xs xs
behind_none n xs = (refl, refl)

pub behind_both : (n m k : ℕ) (a b c : List (List ℕ)) → n ≤ k → m ≤ k → Behind n a b → Behind m b c → Behind k a c
behind_both n m k a b c h j x y = (y.0 ∙ x.0, drop_more m k c b j y.1 ∙ drop_more n k b a h x.1)

pub behind_more : (n k : ℕ) (a b : List (List ℕ)) → n ≤ k → Behind n a b → Behind k a b
behind_more n k a b h x = (x.0, drop_more n k b a h x.1)

-- ---- what is paid

pub spends_of : (path : List Visit) (cost : ℕ) (l m : ReadLimiter) → Walked path l m → visits_cost path ≡ Some cost → Spends l m cost
spends_of path cost l m w e = subst (λ (n : ℕ). Spends l m n) (some_is _ _ (sym w.cost_is ∙ e)) w.spends

-- ---- refusals

halted_later : (a b path more : List Visit) (cost u most most' : ℕ) (old mid new : CopyState) (e : Error) → path ≡ a ++ (b ++ more) → visits_cost a ≡ Some cost → Walked a old.limiter mid.limiter
    → Behind u old.words mid.words → u ≤ most + cost → most' ≤ most + cost → Halted b most' mid e new → Halted path most old e new
halted_later a b path more cost u most most' old mid new e is paid w x h j y =
    let room : room_of mid.words ≡ room_of old.words = ap (λ (n : ℕ). min n (2 ^ 29 - 1)) x.0 in
    record {
      paid = cost + y.paid;
      spends = spends_both old.limiter mid.limiter new.limiter cost y.paid (spends_of a cost old.limiter mid.limiter w paid) y.spends;
      behind = behind_both u (most' + y.paid) (most + (cost + y.paid)) old.words mid.words new.words (omega arith) (omega arith) x y.behind;
      why = elim y.why [
        | inl z ↦ inl (stopped_later a b path more old.limiter mid.limiter new.limiter e is w z)
        | inr z ↦ inr (by room z)
      ];
    }
  where
    by : room_of mid.words ≡ room_of old.words → Filled b (room_of mid.words) most' mid.limiter e new.limiter → Filled path (room_of old.words) most old.limiter e new.limiter
    by room z = record {
      before = a ++ z.before;
      rest = z.rest ++ more;
      path_is = is ∙ ap (λ (vs : List Visit). a ++ (vs ++ more)) z.path_is ∙ ap (λ (vs : List Visit). a ++ vs) (append_assoc z.before z.rest more) ∙ sym (append_assoc a z.before (z.rest ++ more));
      cost = cost + z.cost;
      cost_is = cost_together a z.before cost z.cost paid z.cost_is;
      walked = walked_both a z.before old.limiter mid.limiter new.limiter w z.walked;
      why = z.why;
      full = let f = z.full in omega arith;
    }

-- what has no room as a part has none as the whole
pub no_room_later : {X Y : Type 0} (there : Option X) (put : X → List ℕ → List ℕ) (there' : Option Y) (put' : Y → List ℕ → List ℕ) (used used' : ℕ) (old mid : List (List ℕ)) → room_of mid ≡ room_of old
    → ((y : Y) → there' ≡ Some y → (x : X) × (there ≡ Some x) × (length (put x (filled used' mid)) ≤ length (put' y (filled used old)))) → HasNoRoomFor there put used' mid → HasNoRoomFor there' put' used old
no_room_later there put there' put' used used' old mid room back none = λ y is.
    let part = back y is in
    let more = none part.0 part.1 in
    let less = part.2 in
    omega arith

pub unwritten_later : {X Y : Type 0} (part : Copying X) (whole : Copying Y) (a more : List Visit) (cost u : ℕ) (old mid new : CopyState) (e : Error)
    → whole.path ≡ a ++ (part.path ++ more) → visits_cost a ≡ Some cost → Walked a old.limiter mid.limiter → Behind u old.words mid.words → u ≤ whole.most + cost → part.most ≤ whole.most + cost
    → ((y : Y) → whole.there ≡ Some y → (x : X) × (part.there ≡ Some x) × (length (part.put x (filled part.used mid.words)) ≤ length (whole.put y (filled whole.used old.words))))
    → Unwritten part mid e new → Unwritten whole old e new
unwritten_later part whole a more cost u old mid new e is paid w x h j back y =
    let room : room_of mid.words ≡ room_of old.words = ap (λ (n : ℕ). min n (2 ^ 29 - 1)) x.0 in
    record {
      halted = halted_later a part.path whole.path more cost u whole.most part.most old mid new e is paid w x h j y.halted;
      full = λ kind. no_room_later part.there part.put whole.there whole.put whole.used part.used old.words mid.words room back (y.full kind);
    }

-- at the first visit
pub unwritten_at : {X : Type 0} (copy : Copying X) (old : CopyState) (e : Error) (m : ReadLimiter) → Stopped copy.path old.limiter e m → (e.kind ≡ BufferNotLargeEnough → ⊥) → Unwritten copy old e (copy_state old.words m)
unwritten_at copy old e m x other = record { halted = record { paid = x.paid; spends = x.spends; behind = behind_none (copy.most + x.paid) old.words; why = inl x }; full = λ kind. absurd (other kind) }

-- no room for the first words
pub unwritten_first : {X : Type 0} (copy : Copying X) (old : CopyState) (e : Error) → e.kind ≡ BufferNotLargeEnough → room_of old.words < copy.most → HasNoRoomFor copy.there copy.put copy.used old.words → Unwritten copy old e old
unwritten_first copy old e why full none =
    let zero_too : room_of old.words < copy.most + 0 = omega arith in
    let l = old.limiter in
    record {
      halted = record {
        paid = 0;
        spends = spends_of [] 0 l l (walked_none l) refl;
        behind = behind_none (copy.most + 0) old.words;
        why = inr (record { before = []; rest = copy.path; path_is = refl; cost = 0; cost_is = refl; walked = walked_none l; why = why; full = zero_too });
      };
      full = λ kind. none;
    }

pub halts_is : {X : Type 0} (copy : Copying X) (old new : CopyState) (r : Result ℕ Error) (x e : Error) → r ≡ Err x → x ≡ e → Unwritten copy old e new → WritesCopy copy old r new
halts_is copy old new r x e a b w = subst (λ (y : Result ℕ Error). WritesCopy copy old y new) (sym (a ∙ ap (λ (y : Error). Err y) b)) w

pub no_room : {X : Type 0} (copy : Copying X) (old : CopyState) (r : Result ℕ Error) (e : Error) → r ≡ Err e → e.kind ≡ BufferNotLargeEnough → room_of old.words < copy.most → HasNoRoomFor copy.there copy.put copy.used old.words → WritesCopy copy old r old
no_room copy old r e is why full none = halts_is copy old old r e e is refl (unwritten_first copy old e why full none)

-- ---- several in a row

-- What was written so far, where a rest is still to be read.
pub record SoFar {X : Type 0} (there rest : Option X) (bad : X → Bool) (put put' : X → List ℕ → List ℕ) (path left : List Visit) (first : ℕ) (old : List (List ℕ)) (l : ReadLimiter) (used : ℕ) (now : List (List ℕ)) (m : ReadLimiter) : Type 0 where
  pub done : List Visit
  pub path_is : path ≡ done ++ left
  pub cost : ℕ
  pub cost_is : visits_cost done ≡ Some cost
  pub walked : Walked done l m
  pub behind : Behind used old now
  pub bound : used ≤ length now
  pub near : used < 2 ^ 29
  pub more : first ≤ used
  pub few : used ≤ first + cost
  pub read : (x : X) → rest ≡ Some x → (y : X) × (there ≡ Some y) × (bad x ≡ false → bad y ≡ false) × (put' x (filled used now) ≡ put y (filled first old))
  pub back : (y : X) → there ≡ Some y → (x : X) × (rest ≡ Some x)

pub begun : {X : Type 0} (there rest : Option X) (bad : X → Bool) (put put' : X → List ℕ → List ℕ) (path left : List Visit) (first : ℕ) (old : List (List ℕ)) (l : ReadLimiter) → rest ≡ there → left ≡ path → first ≤ length old → first < 2 ^ 29
    → ((x : X) → put' x (filled first old) ≡ put x (filled first old)) → SoFar there rest bad put put' path left first old l first old l
begun there rest bad put put' path left first old l e f bound near same = record {
  done = [];
  path_is = sym f;
  cost = 0;
  cost_is = refl;
  walked = walked_none l;
  behind = behind_none first old;
  bound = bound;
  near = near;
  more = omega arith;
  few = omega arith;
  read = λ x is. (x, sym e ∙ is, λ c. c, same x);
  back = λ y is. (y, e ∙ is);
}

pub next : {X Y : Type 0} (there rest rest' : Option X) (bad : X → Bool) (put put' put'' : X → List ℕ → List ℕ) (item : Option Y) (bad' : Y → Bool) (one : Y → List ℕ → List ℕ) (path left left' own : List Visit) (first : ℕ) (old mid new : List (List ℕ)) (l k m : ReadLimiter) (used end : ℕ)
    → left ≡ own ++ left'
    → ((x : Y) (y : X) → item ≡ Some x → rest' ≡ Some y → (z : X) × (rest ≡ Some z) × (bad' x ≡ false → bad y ≡ false → bad z ≡ false) × (put'' y (one x (filled used mid)) ≡ put' z (filled used mid)))
    → ((z : X) → rest ≡ Some z → (x : Y) × (y : X) × (item ≡ Some x) × (rest' ≡ Some y))
    → Written (over_used item bad' one own used) (copy_state mid k) end (copy_state new m) → SoFar there rest bad put put' path left first old l used mid k → SoFar there rest' bad put put'' path left' first old l end new m
next there rest rest' bad put put' put'' item bad' one path left left' own first old mid new l k m used end split join parts w f =
    let more = w.more in
    let before = f.more in
    let few = w.few in
    let few_before = f.few in
    record {
      done = f.done ++ own;
      path_is = f.path_is ∙ ap (λ (vs : List Visit). f.done ++ vs) split ∙ sym (append_assoc f.done own left');
      cost = f.cost + w.cost;
      cost_is = cost_together f.done own f.cost w.cost f.cost_is w.cost_is;
      walked = walked_both f.done own l k m f.walked w.walked;
      behind = behind_both used end end old mid new more (omega arith) f.behind w.behind;
      bound = w.bound;
      near = w.near;
      more = omega arith;
      few = omega arith;
      read = λ y is.
          let z = join w.what y w.there_is is in
          let r = f.read z.0 z.1 in
          (r.0, r.1, λ c. r.2 (z.2 w.clean c), ap (put'' y) w.words ∙ z.3 ∙ r.3);
      back = λ y is.
          let z = f.back y is in
          let q = parts z.0 z.1 in
          (q.1, q.3);
    }

pub ended : {X : Type 0} (there rest : Option X) (bad : X → Bool) (put put' : X → List ℕ → List ℕ) (path left : List Visit) (first : ℕ) (old now : List (List ℕ)) (l m : ReadLimiter) (used : ℕ) (x : X) → rest ≡ Some x → bad x ≡ false → put' x (filled used now) ≡ filled used now → left ≡ []
    → SoFar there rest bad put put' path left first old l used now m → Written (over_used there bad put path first) (copy_state old l) used (copy_state now m)
ended there rest bad put put' path left first old now l m used x is clean same none f =
    let r = f.read x is in
    let all : path ≡ f.done = f.path_is ∙ ap (λ (vs : List Visit). f.done ++ vs) none ∙ append-nil f.done in
    record {
      what = r.0;
      there_is = r.1;
      clean = r.2 clean;
      words = sym same ∙ r.3;
      behind = f.behind;
      bound = f.bound;
      near = f.near;
      more = f.more;
      cost = f.cost;
      cost_is = ap visits_cost all ∙ f.cost_is;
      walked = subst (λ (vs : List Visit). Walked vs l m) (sym all) f.walked;
      few = f.few;
    }

pub stopped : {X Y : Type 0} (there rest rest' : Option X) (bad : X → Bool) (put put' put'' : X → List ℕ → List ℕ) (item : Option Y) (bad' : Y → Bool) (one : Y → List ℕ → List ℕ) (path left own more : List Visit) (first : ℕ) (old now new : List (List ℕ)) (l k m : ReadLimiter) (used : ℕ) (e : Error)
    → left ≡ own ++ more
    → ((x : Y) (y : X) → item ≡ Some x → rest' ≡ Some y → (z : X) × (rest ≡ Some z) × (bad' x ≡ false → bad y ≡ false → bad z ≡ false) × (put'' y (one x (filled used now)) ≡ put' z (filled used now)))
    → ((z : X) → rest ≡ Some z → (x : Y) × (y : X) × (item ≡ Some x) × (rest' ≡ Some y))
    → ((x : Y) (y : X) → item ≡ Some x → rest' ≡ Some y → length (one x (filled used now)) ≤ length (put'' y (one x (filled used now))))
    → Unwritten (over_used item bad' one own used) (copy_state now k) e (copy_state new m) → SoFar there rest bad put put' path left first old l used now k → Unwritten (over_used there bad put path first) (copy_state old l) e (copy_state new m)
stopped {X = X} {Y = Y} there rest rest' bad put put' put'' item bad' one path left own more first old now new l k m used e split join parts longer h f =
    unwritten_later (over_used item bad' one own used) (over_used there bad put path first) f.done more f.cost used (copy_state old l) (copy_state now k) (copy_state new m) e (f.path_is ∙ ap (λ (vs : List Visit). f.done ++ vs) split) f.cost_is f.walked f.behind f.few f.few
    (λ y is.
    let z = f.back y is in
    let q = parts z.0 z.1 in
    let j = join q.0 q.1 q.2 q.3 in
    let r = f.read j.0 j.1 in
    let same : r.0 ≡ y = some_is _ _ (sym r.1 ∙ is) in
    let words : length (put'' q.1 (one q.0 (filled used now))) ≡ length (put y (filled first old)) = ap length (j.3 ∙ r.3) ∙ ap (λ (x : X). length (put x (filled first old))) same in
    let long = longer q.0 q.1 q.2 q.3 in
    (q.0, q.2, omega arith)) h

-- ---- an object that is paid for, and what is behind it

pub paid_then : {X : Type 0} (there : Option X) (bad : X → Bool) (put : X → List ℕ → List ℕ) (a b : List Visit) (cost most used : ℕ) (old new : List (List ℕ)) (l k m : ReadLimiter) (r : Result ℕ Error) → visits_cost a ≡ Some cost → Walked a l k → used ≤ most
    → WritesCopy (record { there = there; bad = bad; put = put; path = b; used = used; most = most + cost }) (copy_state old k) r (copy_state new m) → WritesCopy (record { there = there; bad = bad; put = put; path = a ++ b; used = used; most = most }) (copy_state old l) r (copy_state new m)
paid_then there bad put a b cost most used old new l k m (Ok end) paid w h x =
    let few = x.few in
    record {
      what = x.what;
      there_is = x.there_is;
      clean = x.clean;
      words = x.words;
      behind = x.behind;
      bound = x.bound;
      near = x.near;
      more = x.more;
      cost = cost + x.cost;
      cost_is = cost_together a b cost x.cost paid x.cost_is;
      walked = walked_both a b l k m w x.walked;
      few = omega arith;
    }
paid_then there bad put a b cost most used old new l k m (Err e) paid w h x =
    unwritten_later (record { there = there; bad = bad; put = put; path = b; used = used; most = most + cost }) (record { there = there; bad = bad; put = put; path = a ++ b; used = used; most = most }) a [] cost most (copy_state old l) (copy_state old k) (copy_state new m) e (ap (λ (vs : List Visit). a ++ vs) (sym (append-nil b))) paid w (behind_none most old) (omega arith) (omega arith) (λ y is. (y, is, omega arith)) x

-- ---- something made of what was read, over words that were put first

pub made_of : {X Y : Type 0} (part : Copying X) (whole : Copying Y) (old mid new : CopyState) (r : Result ℕ Error) → whole.path ≡ part.path → old.limiter ≡ mid.limiter
    → ((x : X) → part.there ≡ Some x → (y : Y) × (whole.there ≡ Some y) × (part.bad x ≡ false → whole.bad y ≡ false) × (part.put x (filled part.used mid.words) ≡ whole.put y (filled whole.used old.words)))
    → ((y : Y) → whole.there ≡ Some y → (x : X) × (part.there ≡ Some x))
    → Behind part.used old.words mid.words → whole.used ≤ part.used → part.used ≤ whole.most → part.most ≤ whole.most → WritesCopy part mid r new → WritesCopy whole old r new
made_of part whole old mid new (Ok end) path same make back behind h i j x =
    let y = make x.what x.there_is in
    let few = x.few in
    let more = x.more in
    record {
      what = y.0;
      there_is = y.1;
      clean = y.2 x.clean;
      words = x.words ∙ y.3;
      behind = behind_both part.used end end old.words mid.words new.words more (omega arith) behind x.behind;
      bound = x.bound;
      near = x.near;
      more = omega arith;
      cost = x.cost;
      cost_is = ap visits_cost path ∙ x.cost_is;
      walked = subst (λ (vs : List Visit). Walked vs old.limiter new.limiter) (sym path) (subst (λ (l : ReadLimiter). Walked part.path l new.limiter) (sym same) x.walked);
      few = omega arith;
    }
made_of {X = X} {Y = Y} part whole old mid new (Err e) path same make back behind h i j x =
    unwritten_later part whole [] [] 0 part.used old mid new e (path ∙ sym (append-nil part.path)) refl (subst (λ (l : ReadLimiter). Walked [] old.limiter l) same (walked_none old.limiter)) behind (omega arith) (omega arith)
    (λ y is.
    let p = back y is in
    let q = make p.0 p.1 in
    let alike : q.0 ≡ y = some_is _ _ (sym q.1 ∙ is) in
    let words : length (part.put p.0 (filled part.used mid.words)) ≡ length (whole.put y (filled whole.used old.words)) = ap length q.3 ∙ ap (λ (z : Y). length (whole.put z (filled whole.used old.words))) alike in
    (p.0, p.1, omega arith)) x
