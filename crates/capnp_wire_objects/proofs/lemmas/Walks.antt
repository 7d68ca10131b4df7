-- Walks one after the other, and the sizes of what they read.
use Rattle.std.proofs.Common.{◌≡◌, ℕ, ◌+◌, List, [], ◌∷◌, ◌++◌, length, Option, Some, Result, Ok, Err, refl, ap, sym, ◌∙◌, subst, arith, None}
use Rattle.std.proofs.lemmas.List.{length-append, append_assoc, append-nil}
use Rattle.capnp_model.specs.Kinds.{Kind}
use Rattle.capnp_model.specs.Chains.{◌>>=◌}
use Rattle.capnp_model.specs.Visits.{Visit, faults_among, visits_cost}
use Rattle.capnp_model.proofs.lemmas.Visits.{cost_together, faults_of_paid, faults_together}
use Rattle.capnp_units.specs.declared.errors.Error.{Error}
use Rattle.capnp_units.specs.declared.kinds.ErrorKind.{ErrorKind}
use Rattle.capnp_units.specs.declared.limiter.ReadLimiter.{ReadLimiter}
use Rattle.capnp_units.specs.declared.sizes.MessageSize.{MessageSize}
use Rattle.capnp_units.specs.Errors.{kind_of}
use Rattle.capnp_units.specs.Limits.{left_of, IsPassed, Spends, Follows, IsFree, less, granted_of}
use Rattle.capnp_units.proofs.lemmas.Spending.{spends_nothing, spends_both, passed_after, follows_none, follows_both}
use Rattle.capnp_wire_objects.specs.Walks.{Walked, CannotPass, Stopped, SizeGives, SizeCounts}
use Rattle.capnp_model.proofs.lemmas.Chaining.{bind_some}

pub walked_none : (l : ReadLimiter) → Walked [] l l
walked_none l = record { cost = 0; cost_is = refl; spends = spends_nothing l; follows = follows_none l }

pub walked_both : (a b : List Visit) (old mid new : ReadLimiter) → Walked a old mid → Walked b mid new → Walked (a ++ b) old new
walked_both a b old mid new x y = record {
  cost = x.cost + y.cost;
  cost_is = cost_together a b x.cost y.cost x.cost_is y.cost_is;
  spends = spends_both old mid new x.cost y.cost x.spends y.spends;
  follows = subst (λ (n : ℕ). Follows old new n) (sym (length-append a b)) (follows_both old mid new (length a) (length b) x.follows y.follows);
}

pub walked_one : (cost : ℕ) (old new : ReadLimiter) → Spends old new cost → Follows old new 1 → Walked (Ok cost ∷ []) old new
walked_one cost old new s f = let none : cost + 0 ≡ cost = omega arith in record { cost = cost; cost_is = ap Some none; spends = s; follows = f }

-- ---- refusals

-- behind words that were paid
pass_later : (old mid : ReadLimiter) (first paid : ℕ) (last : Visit) (why : ErrorKind) → Spends old mid first → CannotPass (left_of mid) paid last why → CannotPass (left_of old) (first + paid) last why
pass_later old mid first paid (Err k) why s c = c
pass_later old mid first paid (Ok words) why s c =
    let sum : first + (paid + words) ≡ (first + paid) + words = omega arith in
    (c.0, subst (λ (n : ℕ). IsPassed (left_of old) n) sum (passed_after old mid first (paid + words) s c.1))

pub stopped_later : (a b path more : List Visit) (old mid new : ReadLimiter) (e : Error) → path ≡ a ++ (b ++ more) → Walked a old mid → Stopped b mid e new → Stopped path old e new
stopped_later a b path more old mid new e is w x =
    let rest : List Visit = x.last ∷ x.behind in
    let within : b ++ more ≡ x.before ++ (rest ++ more) = ap (λ (vs : List Visit). vs ++ more) x.path_is ∙ append_assoc x.before rest more in
    let len : length (a ++ x.before) ≡ length a + length x.before = length-append a x.before in
    let sum : length a + (length x.before + 1) ≡ length (a ++ x.before) + 1 = omega arith in
    record {
      before = a ++ x.before;
      last = x.last;
      behind = x.behind ++ more;
      path_is = is ∙ ap (λ (vs : List Visit). a ++ vs) within ∙ sym (append_assoc a x.before (x.last ∷ (x.behind ++ more)));
      paid = w.cost + x.paid;
      cost_is = cost_together a x.before w.cost x.paid w.cost_is x.cost_is;
      spends = spends_both old mid new w.cost x.paid w.spends x.spends;
      follows = subst (λ (n : ℕ). Follows old new n) sum (follows_both old mid new (length a) (length x.before + 1) w.follows x.follows);
      why = pass_later old mid w.cost x.paid x.last e.kind w.spends x.why;
    }

-- at the first visit
pub stopped_first : (path behind : List Visit) (last : Visit) (old new : ReadLimiter) (e : Error) → path ≡ last ∷ behind → Spends old new 0 → Follows old new 1 → CannotPass (left_of old) 0 last e.kind → Stopped path old e new
stopped_first path behind last old new e is s f why = record { before = []; last = last; behind = behind; path_is = is; paid = 0; cost_is = refl; spends = s; follows = f; why = why }

-- without a limit it is for the first fault
pub first_fault : (path : List Visit) (old new : ReadLimiter) (e : Error) → ((n : ℕ) → IsPassed (left_of old) n → ⊥) → Stopped path old e new → (more : List Kind) × (faults_among path ≡ kind_of e.kind ∷ more)
first_fault path old new e endless x = (faults_among x.behind, ap faults_among x.path_is ∙ faults_together x.before (x.last ∷ x.behind) ∙ ap (λ (ks : List Kind). ks ++ faults_among (x.last ∷ x.behind)) (faults_of_paid x.before x.paid x.cost_is) ∙ by x.last x.why)
  where
    by : (last : Visit) → CannotPass (left_of old) x.paid last e.kind → faults_among (last ∷ x.behind) ≡ kind_of e.kind ∷ faults_among x.behind
    by (Err k) c = ap (λ (j : Kind). j ∷ faults_among x.behind) (sym c)
    by (Ok n) c = absurd (endless (x.paid + n) c.1)

-- ---- an object that is paid for, and what is behind it

pub paid_then : {X : Type 0} (words caps : X → ℕ) (there : Option X) (first path : List Visit) (old mid new : ReadLimiter) (r : Result MessageSize Error) → Walked first old mid → SizeGives words caps there path mid r new
    → SizeGives words caps there (first ++ path) old r new
paid_then words caps there first path old mid new (Ok size) w g = (g.0, g.1, g.2, walked_both first path old mid new w g.3)
paid_then words caps there first path old mid new (Err e) w g = stopped_later first path (first ++ path) [] old mid new e (ap (λ (vs : List Visit). first ++ vs) (sym (append-nil path))) w g

-- ---- something made of what was read

pub made_of : {X Y : Type 0} (words caps : X → ℕ) (words' caps' : Y → ℕ) (there : Option X) (make : X → Y) (path : List Visit) (more : ℕ) (old new : ReadLimiter) (size size' : MessageSize)
    → ((x : X) → there ≡ Some x → words' (make x) ≡ words x + more) → ((x : X) → caps' (make x) ≡ caps x) → ((w c : ℕ) → SizeCounts w c size → SizeCounts (w + more) c size')
    → SizeGives words caps there path old (Ok size) new → SizeGives words' caps' (there >>= λ x. Some (make x)) path old (Ok size') new
made_of words caps words' caps' there make path more old new size size' w c count g =
    let k = count (words g.0) (caps g.0) g.2 in
    let wis = w g.0 g.1 in
    let cis = c g.0 in
    (make g.0, ap (λ o. o >>= λ x. Some (make x)) g.1, record { words_is = let a = k.words_is in omega arith; capabilities_is = let a = k.capabilities_is in omega arith }, g.3)

-- ---- several in a row

-- What was counted and walked so far, where a rest is still to be read.
pub record SoFar {X : Type 0} (words caps : X → ℕ) (whole rest : Option X) (path left : List Visit) (old new : ReadLimiter) (size : MessageSize) : Type 0 where
  pub some_words : ℕ
  pub some_caps : ℕ
  pub done : List Visit
  pub counts : SizeCounts some_words some_caps size
  pub walked : Walked done old new
  pub path_is : path ≡ done ++ left
  pub read : (x : X) → rest ≡ Some x → (y : X) × (whole ≡ Some y) × (words y ≡ some_words + words x) × (caps y ≡ some_caps + caps x)

pub begun : {X : Type 0} (words caps : X → ℕ) (whole rest : Option X) (path left : List Visit) (l : ReadLimiter) (size : MessageSize) → SizeCounts 0 0 size → rest ≡ whole → left ≡ path → SoFar words caps whole rest path left l l size
begun words caps whole rest path left l size k e f = record { some_words = 0; some_caps = 0; done = []; counts = k; walked = walked_none l; path_is = sym f; read = λ x is. (x, sym e ∙ is, omega arith, omega arith) }

pub ended : {X : Type 0} (words caps : X → ℕ) (whole rest : Option X) (path left : List Visit) (old new : ReadLimiter) (size : MessageSize) (x : X) → rest ≡ Some x → words x ≡ 0 → caps x ≡ 0 → left ≡ []
    → SoFar words caps whole rest path left old new size → SizeGives words caps whole path old (Ok size) new
ended words caps whole rest path left old new size x e w c l f =
    let r = f.read x e in
    let ws = r.2 in
    let cs = r.3 in
    let all : path ≡ f.done = f.path_is ∙ ap (λ (vs : List Visit). f.done ++ vs) l ∙ append-nil f.done in
    (r.0, r.1, record { words_is = let a = f.counts.words_is in omega arith; capabilities_is = let a = f.counts.capabilities_is in omega arith }, subst (λ (vs : List Visit). Walked vs old new) (sym all) f.walked)

pub next : {X Y : Type 0} (words caps : X → ℕ) (words' caps' : Y → ℕ) (whole rest rest' : Option X) (item : Option Y) (path left left' own : List Visit) (more : ℕ) (old mid new : ReadLimiter) (size one size' : MessageSize)
    → ((x : Y) (y : X) → item ≡ Some x → rest' ≡ Some y → (z : X) × (rest ≡ Some z) × (words z ≡ (words' x + more) + words y) × (caps z ≡ caps' x + caps y))
    → left ≡ own ++ left' → ((w c v e : ℕ) → SizeCounts w c size → SizeCounts v e one → SizeCounts (w + (v + more)) (c + e) size')
    → SizeGives words' caps' item own mid (Ok one) new → SoFar words caps whole rest path left old mid size → SoFar words caps whole rest' path left' old new size'
next words caps words' caps' whole rest rest' item path left left' own more old mid new size one size' join l count g f = record {
  some_words = f.some_words + (words' g.0 + more);
  some_caps = f.some_caps + caps' g.0;
  done = f.done ++ own;
  counts = count f.some_words f.some_caps (words' g.0) (caps' g.0) f.counts g.2;
  walked = walked_both f.done own old mid new f.walked g.3;
  path_is = f.path_is ∙ ap (λ (vs : List Visit). f.done ++ vs) l ∙ sym (append_assoc f.done own left');
  read = λ y is.
      let z = join g.0 y g.1 is in
      let r = f.read z.0 z.1 in
      let zw = z.2 in
      let zc = z.3 in
      let rw' = r.2 in
      let rc = r.3 in
      (r.0, r.1, omega arith, omega arith);
}

pub stopped : {X : Type 0} (words caps : X → ℕ) (whole rest : Option X) (path left own more : List Visit) (old mid new : ReadLimiter) (size : MessageSize) (e : Error) → left ≡ own ++ more → Stopped own mid e new
    → SoFar words caps whole rest path left old mid size → Stopped path old e new
stopped words caps whole rest path left own more old mid new size e l x f = stopped_later f.done own path more old mid new e (f.path_is ∙ ap (λ (vs : List Visit). f.done ++ vs) l) f.walked x

-- ---- walks that nothing stops

never_passes : (before : List Visit) (last : Visit) (behind : List Visit) (cost paid : ℕ) (why : ErrorKind) → visits_cost (before ++ last ∷ behind) ≡ Some cost → CannotPass None paid last why → ⊥
never_passes [] (Ok words) behind cost paid why e x = x.1
never_passes [] (Err kind) behind cost paid why e x = absurd cc
never_passes (Err kind ∷ before) last behind cost paid why e x = absurd cc
never_passes (Ok words ∷ before) last behind cost paid why e x =
    let y = bind_some (visits_cost (before ++ last ∷ behind)) _ cost e in
    never_passes before last behind y.0 paid why y.1 x

-- A count under no limit has no end.
pub free_left : (start : ReadLimiter) → IsFree start → left_of start ≡ None
free_left start free = ap (λ (o : Option ℕ). less o (granted_of start)) free.endless

-- A walk without faults and without a limit isn't stopped.
pub unstopped : (path : List Visit) (cost : ℕ) (old new : ReadLimiter) (e : Error) → visits_cost path ≡ Some cost → left_of old ≡ None → Stopped path old e new → ⊥
unstopped path cost old new e is none x =
    never_passes x.before x.last x.behind cost x.paid e.kind (ap visits_cost (sym x.path_is) ∙ is) (subst (λ (o : Option ℕ). CannotPass o x.paid x.last e.kind) none x.why)
