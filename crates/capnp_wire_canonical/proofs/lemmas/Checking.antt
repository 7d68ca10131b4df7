-- Walks that look whether values stand, one after the other.
use Rattle.std.proofs.Common.{◌≡◌, ℕ, ◌^◌, ◌<◌, Bool, false, List, [], ◌++◌, Option, Some, None, Result, Ok, Err, refl, ap, sym, ◌∙◌, subst}
use Rattle.std.proofs.lemmas.List.{append_assoc, append-nil}
use Rattle.capnp_model.specs.Visits.{Visit}
use Rattle.capnp_model.proofs.lemmas.Chaining.{some_is}
use Rattle.capnp_units.specs.declared.errors.Error.{Error}
use Rattle.capnp_units.specs.declared.limiter.ReadLimiter.{ReadLimiter}
use Rattle.capnp_wire_objects.specs.Walks.{Walked, Stopped}
use Rattle.capnp_wire_objects.proofs.lemmas.Walks.{walked_none, walked_both, stopped_later}
use Rattle.capnp_wire_canonical.specs.Checks.{Began, Testing, Agrees, Differs, Tests}

-- ---- a walk that stopped without a refusal

pub began_none : (path : List Visit) (l : ReadLimiter) → Began path l l
began_none path l = record { before = []; rest = path; path_is = refl; walked = walked_none l }

pub began_later : (a b path more : List Visit) (l k m : ReadLimiter) → path ≡ a ++ (b ++ more) → Walked a l k → Began b k m → Began path l m
began_later a b path more l k m is w x = record {
  before = a ++ x.before;
  rest = x.rest ++ more;
  path_is = is ∙ ap (λ (vs : List Visit). a ++ (vs ++ more)) x.path_is ∙ ap (λ (vs : List Visit). a ++ vs) (append_assoc x.before x.rest more) ∙ sym (append_assoc a x.before (x.rest ++ more));
  walked = walked_both a x.before l k m w x.walked;
}

-- ---- an object that is paid for, and what is behind it

pub paid_then : {X : Type 0} (there : Option X) (deeper : ℕ → Option X) (bad : X → Bool) (stands : X → ℕ → Type 0) (premise : Type 0) (a b : List Visit) (l k m : ReadLimiter) (r : Result (Option ℕ) Error) → Walked a l k → Tests (record { there = there; deeper = deeper; bad = bad; stands = stands; premise = premise; path = b }) k r m
    → Tests (record { there = there; deeper = deeper; bad = bad; stands = stands; premise = premise; path = a ++ b }) l r m
paid_then there deeper bad stands premise a b l k m (Ok (Some end)) w x = record { what = x.what; there_is = x.there_is; clean = x.clean; stand = x.stand; near = x.near; walked = walked_both a b l k m w x.walked }
paid_then there deeper bad stands premise a b l k m (Ok None) w x = record { began = began_later a b (a ++ b) [] l k m (ap (λ (vs : List Visit). a ++ vs) (sym (append-nil b))) w x.began; apart = x.apart }
paid_then there deeper bad stands premise a b l k m (Err e) w x = stopped_later a b (a ++ b) [] l k m e (ap (λ (vs : List Visit). a ++ vs) (sym (append-nil b))) w x

-- ---- something made of what was read

pub made_of : {X Y : Type 0} (there : Option X) (deeper : ℕ → Option X) (bad : X → Bool) (stands : X → ℕ → Type 0) (there' : Option Y) (deeper' : ℕ → Option Y) (bad' : Y → Bool) (stands' : Y → ℕ → Type 0) (premise premise' : Type 0) (path : List Visit) (l m : ReadLimiter) (r : Result (Option ℕ) Error)
    → (premise' → premise)
    → ((x : X) (end : ℕ) → there ≡ Some x → bad x ≡ false → stands x end → (y : Y) × (there' ≡ Some y) × (bad' y ≡ false) × stands' y end)
    → ((more : ℕ) (y : Y) (end : ℕ) → deeper' more ≡ Some y → bad' y ≡ false → stands' y end → (x : X) × (deeper more ≡ Some x) × (bad x ≡ false) × stands x end)
    → Tests (record { there = there; deeper = deeper; bad = bad; stands = stands; premise = premise; path = path }) l r m
    → Tests (record { there = there'; deeper = deeper'; bad = bad'; stands = stands'; premise = premise'; path = path }) l r m
made_of there deeper bad stands there' deeper' bad' stands' premise premise' path l m (Ok (Some end)) less forth back x =
    let y = forth x.what end x.there_is x.clean x.stand in
    record { what = y.0; there_is = y.1; clean = y.2; stand = y.3; near = x.near; walked = x.walked }
made_of there deeper bad stands there' deeper' bad' stands' premise premise' path l m (Ok None) less forth back x = record {
  began = x.began;
  apart = λ given more y end is clean stand. let z = back more y end is clean stand in x.apart (less given) more z.0 end z.1 z.2 z.3;
}
made_of there deeper bad stands there' deeper' bad' stands' premise premise' path l m (Err e) less forth back x = x

-- what is there by another word
pub read_as : {X : Type 0} (there there' : Option X) (deeper deeper' : ℕ → Option X) (bad : X → Bool) (stands : X → ℕ → Type 0) (premise : Type 0) (path : List Visit) (l m : ReadLimiter) (r : Result (Option ℕ) Error) → there' ≡ there → ((more : ℕ) → deeper' more ≡ deeper more) → Tests (record { there = there; deeper = deeper; bad = bad; stands = stands; premise = premise; path = path }) l r m
    → Tests (record { there = there'; deeper = deeper'; bad = bad; stands = stands; premise = premise; path = path }) l r m
read_as there there' deeper deeper' bad stands premise path l m r same alike x =
    made_of there deeper bad stands there' deeper' bad stands premise premise path l m r (λ given. given) (λ y end is clean stand. (y, same ∙ is, clean, stand)) (λ more y end is clean stand. (y, sym (alike more) ∙ is, clean, stand)) x

-- nothing stands there, and nothing was followed
pub differs_at : {X : Type 0} (test : Testing X) (l : ReadLimiter) → (test.premise → (more : ℕ) (x : X) (end : ℕ) → test.deeper more ≡ Some x → test.bad x ≡ false → test.stands x end → ⊥) → Differs test l l
differs_at test l never = record { began = began_none test.path l; apart = never }

pub refused_is : {X : Type 0} (test : Testing X) (l m : ReadLimiter) (r : Result (Option ℕ) Error) (x e : Error) → r ≡ Err x → x ≡ e → Stopped test.path l e m → Tests test l r m
refused_is test l m r x e a b w = subst (λ (y : Result (Option ℕ) Error). Tests test l y m) (sym (a ∙ ap (λ (y : Error). Err y) b)) w

-- ---- several in a row

-- What stands so far, where a rest is still to be read: all stands where the rest does, and with any levels more the rest stands where all does.
pub record SoFar {X : Type 0} (there rest : Option X) (deeper deeper_rest : ℕ → Option X) (bad : X → Bool) (stands stands' : X → ℕ → Type 0) (path left : List Visit) (l m : ReadLimiter) : Type 0 where
  pub done : List Visit
  pub path_is : path ≡ done ++ left
  pub walked : Walked done l m
  pub forth : (x : X) (end : ℕ) → rest ≡ Some x → bad x ≡ false → stands' x end → (y : X) × (there ≡ Some y) × (bad y ≡ false) × stands y end
  pub back : (more : ℕ) (y : X) (end : ℕ) → deeper more ≡ Some y → bad y ≡ false → stands y end → (x : X) × (deeper_rest more ≡ Some x) × (bad x ≡ false) × stands' x end

pub begun : {X : Type 0} (there rest : Option X) (deeper deeper_rest : ℕ → Option X) (bad : X → Bool) (stands stands' : X → ℕ → Type 0) (path left : List Visit) (l : ReadLimiter) → rest ≡ there → ((more : ℕ) → deeper_rest more ≡ deeper more) → left ≡ path → ((x : X) (end : ℕ) → stands' x end → stands x end) → ((x : X) (end : ℕ) → stands x end → stands' x end)
    → SoFar there rest deeper deeper_rest bad stands stands' path left l l
begun there rest deeper deeper_rest bad stands stands' path left l e alike f to from = record {
  done = [];
  path_is = sym f;
  walked = walked_none l;
  forth = λ x end is clean stand. (x, sym e ∙ is, clean, to x end stand);
  back = λ more x end is clean stand. (x, alike more ∙ is, clean, from x end stand);
}

-- What stands of the rest's first and of those behind it.
pub record Parts {X Y : Type 0} (item : Option Y) (bad' : Y → Bool) (one : Y → ℕ → Type 0) (rest : Option X) (bad : X → Bool) (behind : ℕ → X → ℕ → Type 0) (end : ℕ) : Type 0 where
  pub first : Y
  pub first_is : item ≡ Some first
  pub first_clean : bad' first ≡ false
  pub others : X
  pub others_are : rest ≡ Some others
  pub others_clean : bad others ≡ false
  pub place : ℕ
  pub first_stands : one first place
  pub others_stand : behind place others end

module _ {X Y : Type 0} (there rest rest' : Option X) (deeper deeper_rest deeper_rest' : ℕ → Option X) (bad : X → Bool) (stands stands' : X → ℕ → Type 0) (behind : ℕ → X → ℕ → Type 0) (item : Option Y) (deeper_item : ℕ → Option Y) (bad' : Y → Bool) (one : Y → ℕ → Type 0) (path left left' own : List Visit) (l k m : ReadLimiter) (split : left ≡ own ++ left')
    (parts : (more : ℕ) (z : X) (end : ℕ) → deeper_rest more ≡ Some z → bad z ≡ false → stands' z end → Parts (deeper_item more) bad' one (deeper_rest' more) bad behind end) where
  pub next : (premise : Type 0) (e : ℕ) → ((more : ℕ) (x : Y) → item ≡ Some x → deeper_item more ≡ Some x) → ((x : Y) (i j : ℕ) → one x i → one x j → i ≡ j)
      → ((x : Y) (y : X) (end : ℕ) → item ≡ Some x → rest' ≡ Some y → bad' x ≡ false → bad y ≡ false → one x e → behind e y end → (z : X) × (rest ≡ Some z) × (bad z ≡ false) × stands' z end)
      → Agrees (record { there = item; deeper = deeper_item; bad = bad'; stands = one; premise = premise; path = own }) k e m → SoFar there rest deeper deeper_rest bad stands stands' path left l k → SoFar there rest' deeper deeper_rest' bad stands (behind e) path left' l m
  next premise e kept same join w f = record {
    done = f.done ++ own;
    path_is = f.path_is ∙ ap (λ (vs : List Visit). f.done ++ vs) split ∙ sym (append_assoc f.done own left');
    walked = walked_both f.done own l k m f.walked w.walked;
    forth = λ y end is clean stand.
        let z = join w.what y end w.there_is is w.clean clean w.stand stand in
        f.forth z.0 end z.1 z.2 z.3;
    back = λ more y end is clean stand.
        let z = f.back more y end is clean stand in
        let x = parts more z.0 end z.1 z.2 z.3 in
        let it : x.first ≡ w.what = some_is _ _ (sym x.first_is ∙ kept more w.what w.there_is) in
        let here : x.place ≡ e = same w.what x.place e (subst (λ (v : Y). one v x.place) it x.first_stands) w.stand in
        (x.others, x.others_are, x.others_clean, subst (λ (j : ℕ). behind j x.others end) here x.others_stand);
  }

  pub differs : (premise : Type 0) → Differs (record { there = item; deeper = deeper_item; bad = bad'; stands = one; premise = premise; path = own }) k m → SoFar there rest deeper deeper_rest bad stands stands' path left l k
      → Differs (record { there = there; deeper = deeper; bad = bad; stands = stands; premise = premise; path = path }) l m
  differs premise w f = record {
    began = began_later f.done own path left' l k m (f.path_is ∙ ap (λ (vs : List Visit). f.done ++ vs) split) f.walked w.began;
    apart = λ given more y end is clean stand.
        let z = f.back more y end is clean stand in
        let x = parts more z.0 end z.1 z.2 z.3 in
        w.apart given more x.first x.place x.first_is x.first_clean x.first_stands;
  }

  pub stopped : (e : Error) → Stopped own k e m → SoFar there rest deeper deeper_rest bad stands stands' path left l k → Stopped path l e m
  stopped e w f = stopped_later f.done own path left' l k m e (f.path_is ∙ ap (λ (vs : List Visit). f.done ++ vs) split) f.walked w

pub ended : {X : Type 0} (there rest : Option X) (deeper deeper_rest : ℕ → Option X) (bad : X → Bool) (stands stands' : X → ℕ → Type 0) (path left : List Visit) (l m : ReadLimiter) (premise : Type 0) (x : X) (end : ℕ) → rest ≡ Some x → bad x ≡ false → stands' x end → end < 2 ^ 61 → left ≡ []
    → SoFar there rest deeper deeper_rest bad stands stands' path left l m → Agrees (record { there = there; deeper = deeper; bad = bad; stands = stands; premise = premise; path = path }) l end m
ended there rest deeper deeper_rest bad stands stands' path left l m premise x end is clean stand near none f =
    let y = f.forth x end is clean stand in
    let all : path ≡ f.done = f.path_is ∙ ap (λ (vs : List Visit). f.done ++ vs) none ∙ append-nil f.done in
    record { what = y.0; there_is = y.1; clean = y.2; stand = y.3; near = near; walked = subst (λ (vs : List Visit). Walked vs l m) (sym all) f.walked }
