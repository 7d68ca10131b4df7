-- A default in place of null, and what is made of it.
use Rattle.std.proofs.Common.{◌≡◌, ◌⊎◌, inr, ℕ, zero, suc, ◌+◌, ◌≤◌, ◌==◌, ◌||◌, not, unwrap_or, if◌then◌else◌, Bool, true, false, List, Option, Some, None, Result, Ok, Err, IfErr, OnOk, OnErr, refl, ap, sym, subst, arith}
use Rattle.std.specs.Bool.{⊤}
use Rattle.std.specs.Option.{ok_or}
use Rattle.capnp_model.specs.Kinds.{Kind, OutOfBounds}
use Rattle.capnp_model.specs.Chains.{◌and_then◌}
use Rattle.capnp_model.specs.Segments.{Segments, Place, root, word_at}
use Rattle.capnp_model.specs.Pointers.{nothing, a_struct, Found, found_by, pointer_of}
use Rattle.capnp_model.specs.Trees.{Tree}
use Rattle.capnp_units.specs.declared.errors.Error.{Error}
use Rattle.capnp_units.specs.Errors.{kind_of}
use Rattle.capnp_units.specs.Segments.{words_in}
use Rattle.capnp_wire_objects.specs.Places.{seen}
use Rattle.capnp_model_writes.specs.Footprints.{Owns}
use Rattle.capnp_model_writes.specs.Changes.{Replaces}
use Rattle.capnp_copy_values.specs.Defaults.{WritesDefault, is_null_or_absent}
use Rattle.capnp_copy_arenas.specs.States.{ArenaState}
use Rattle.capnp_copy_widening.specs.Widened.{IsWide}
use Rattle.capnp_layout_builders.specs.Gets.{Begins, BeginsTold, Begun, in_place, begun, Gets}

-- what the laws of changes say
pub record Laws : Type 0 where
  pub none : (n : ℕ) (s : Segments) (p : Place) (t : Tree) → Owns n s p t → Replaces n s s p t
  pub again : (n : ℕ) (s u v : Segments) (p : Place) (t w : Tree) → Replaces n s u p t → Replaces n u v p w → Replaces n s v p w
  pub owned : (n : ℕ) (s u : Segments) (p : Place) (t v : Tree) → Owns n s p t → Replaces n s u p v → Owns n u p v
  pub more_owned : (n m : ℕ) (s : Segments) (p : Place) (t : Tree) → n ≤ m → Owns n s p t → Owns m s p t
  pub more_replaced : (n m : ℕ) (s u : Segments) (p : Place) (t v : Tree) → n ≤ m → Owns n s p t → Replaces n s u p v → Replaces m s u p v

-- ---- where nothing is written

kept_by : (a b : Bool) (f s : Segments) (p : Place) → is_null_or_absent s p ≡ a → is_null_or_absent f root ≡ b → (not a || b) ≡ true → (not (is_null_or_absent s p) || is_null_or_absent f root) ≡ true
kept_by a b f s p ea eb h = subst (λ (x : Bool). (not x || is_null_or_absent f root) ≡ true) (sym ea) (subst (λ (y : Bool). (not a || y) ≡ true) (sym eb) h)

stays : (l : Laws) (s m : Segments) (p : Place) (n : ℕ) (t : Tree) → m ≡ s → Owns n s p t → Replaces (n + 64) s m p t
stays l s m p n t e o = subst (λ (x : Segments). Replaces (n + 64) s x p t) (sym e) (l.none (n + 64) s p t (l.more_owned n (n + 64) s p t (omega arith) o))

-- ---- the value to begin with

begun_by : (l : Laws) (a b : Bool) (f s m : Segments) (p : Place) (n : ℕ) (t : Tree) (x : ⊤) → is_null_or_absent s p ≡ a → is_null_or_absent f root ≡ b → WritesDefault f s m p (Ok x) → Owns n s p t → (v : Tree) × (in_place a b f t ≡ Some v) × Replaces (n + 64) s m p v
begun_by l false b f s m p n t x ea eb w o = (t, refl, stays l s m p n t (w.kept (kept_by false b f s p ea eb refl)).0 o)
begun_by l true true f s m p n t x ea eb w o = (t, refl, stays l s m p n t (w.kept (kept_by true true f s p ea eb refl)).0 o)
begun_by l true false f s m p n t x ea eb w o =
    let c = (w.written ea eb).copies in
    (c.value, c.there_is, c.made (n + 64) t (omega arith) (l.more_owned n (n + 64) s p t (omega arith) o))

pub begun_value : (l : Laws) (default : Option (List (List ℕ))) (s m : Segments) (p : Place) (n : ℕ) (t : Tree) (x : ⊤) → Begins default s m p (Ok x) → Owns n s p t → (v : Tree) × (begun default s p t ≡ Some v) × Replaces (n + 64) s m p v
begun_value l None s m p n t x b o = (t, refl, stays l s m p n t b.0 o)
begun_value l (Some words) s m p n t x b o = begun_by l _ _ _ s m p n t x refl refl b o

-- ---- what is made of it

pub made_then : (l : Laws) (default : Option (List (List ℕ))) (s m u : Segments) (p : Place) (made : Tree → Tree) (x : ⊤) → Begins default s m p (Ok x) → ((n : ℕ) (t : Tree) → Owns n m p t → Replaces (suc n) m u p (made t)) → Gets default s u p made
made_then l default s m u p made x b w n t o =
    let y = begun_value l default s m p n t x b o in
    let first = l.more_owned n (n + 64) s p t (omega arith) o in
    let own : Owns (n + 64) m p y.0 = l.owned (n + 64) s m p t y.0 first y.2 in
    let one : suc (n + 64) ≡ n + 65 = omega arith in
    let remade : Replaces (n + 65) m u p (made y.0) = subst (λ (i : ℕ). Replaces i m u p (made y.0)) one (w (n + 64) y.0 own) in
    (y.0, y.1, l.again (n + 65) s m u p y.0 (made y.0) (l.more_replaced (n + 64) (n + 65) s m p t y.0 (omega arith) first y.2) remade)

pub listed_then : (l : Laws) (default : Option (List (List ℕ))) (s u : Segments) (p : Place) (x : ⊤) → Begins default s u p (Ok x) → Gets default s u p (λ v. v)
listed_then l default s u p x b n t o =
    let y = begun_value l default s u p n t x b o in
    let first = l.more_owned n (n + 64) s p t (omega arith) o in
    (y.0, y.1, l.more_replaced (n + 64) (n + 65) s u p t y.0 (omega arith) first y.2)

-- ---- a struct isn't null

found_is : (a b : Found) → (let r : Result Found Kind = Ok a in r) ≡ Ok b → a ≡ b
found_is a b h = cc

struct_named : (s : Segments) (p a : Place) (pads d k : ℕ) (x : Option ℕ) → (ok_or x OutOfBounds and_then λ w. if w == 0 then Ok (record { pads = 0; object = nothing }) else found_by s p (pointer_of w)) ≡ Ok (record { pads = pads; object = a_struct a d k }) → (unwrap_or x 0 == 0) ≡ false
struct_named s p a pads d k None h = absurd cc
struct_named s p a pads d k (Some zero) h = let e : nothing ≡ a_struct a d k = ap (λ (f : Found). f.object) (found_is (record { pads = 0; object = nothing }) (record { pads = pads; object = a_struct a d k }) h) in absurd cc
struct_named s p a pads d k (Some (suc w)) h = grind arith

kept_if : (f s m : Segments) (p : Place) (x : ⊤) → is_null_or_absent s p ≡ false → WritesDefault f s m p (Ok x) → m ≡ s
kept_if f s m p x e w = (w.kept (kept_by false (is_null_or_absent f root) f s p e refl refl)).0

pub wide_stays : (default : Option (List (List ℕ))) (s m : Segments) (p : Place) (d k : ℕ) (x : ⊤) → Begins default s m p (Ok x) → IsWide s p d k → m ≡ s
wide_stays None s m p d k x b w = b.0
wide_stays (Some words) s m p d k x b w = kept_if _ s m p x (struct_named s p w.0 w.3.0 w.1 w.2 (word_at s p) w.3.1) b

-- ---- what is there is refused

-- All stands as it was begun.
pub refused_then : {X : Type 0} (default : Option (List (List ℕ))) (s : Segments) (m u : List (List ℕ)) (p : Place) (Refused : Segments → Error → Type 0) → Begins default s (words_in m) p (Ok tt) → (r : Result X Error) → OnErr r (u ≡ m) → IfErr r (Refused (words_in m)) → IfErr r (λ e. Begins default s (words_in u) p (Err e) ⊎ (Begins default s (words_in u) p (Ok tt) × Refused (words_in u) e))
refused_then default s m u p Refused b (Ok x) same why = tt
refused_then default s m u p Refused b (Err e) same why = inr (subst (λ (y : List (List ℕ)). Begins default s (words_in y) p (Ok tt) × Refused (words_in y) e) (sym same) (b, why))

-- What is named there is a fault.
pub refused_as : {X : Type 0} (default : Option (List (List ℕ))) (s u : Segments) (p : Place) (named : Result X Kind) → Begins default s u p (Ok tt) → (r : Result X Error) → seen (λ o. o) r ≡ named → IfErr r (λ e. Begins default s u p (Err e) ⊎ (Begins default s u p (Ok tt) × (named ≡ Err (kind_of e.kind))))
refused_as default s u p named b (Ok x) is = tt
refused_as default s u p named b (Err e) is = inr (b, sym is)

-- Where there is no room behind the default.
pub lacking_then : {X : Type 0} (default : Option (List (List ℕ))) (s m u : ArenaState) (p : Place) (told : Error → Type 0) (Lacks Can : ArenaState → Type 0) → Begins default (words_in s.segments) (words_in m.segments) p (Ok tt) → BeginsTold default s m p (Ok tt) told → (r : Result X Error) → OnErr r (u.segments ≡ m.segments) → OnErr r (Lacks m) → (Can m → IfErr r told)
    → IfErr r (λ e. BeginsTold default s u p (Err e) told ⊎ ((x : ArenaState) × (u.segments ≡ x.segments) × Begun default s x p told × Lacks x × (Can x → told e)))
lacking_then default s m u p told Lacks Can b t (Ok x) same lacks why = tt
lacking_then default s m u p told Lacks Can b t (Err e) same lacks why = inr (m, same, record { begins = b; tells = t }, lacks, why)

pub told_only : {X : Type 0} (default : Option (List (List ℕ))) (s u : ArenaState) (p : Place) (told : Error → Type 0) (r : Result X Error) → BeginsTold default s u p (Ok tt) told → IfErr r (λ e. BeginsTold default s u p (Err e) told ⊎ BeginsTold default s u p (Ok tt) told)
told_only default s u p told (Ok x) t = tt
told_only default s u p told (Err e) t = inr t

pub on_ok : {X P Q : Type 0} (r : Result X Error) → OnOk r P → (P → Q) → OnOk r Q
on_ok (Ok x) p f = f p
on_ok (Err e) p f = tt

pub both_on_ok : {X P R Q : Type 0} (r : Result X Error) → OnOk r P → OnOk r R → (P → R → Q) → OnOk r Q
both_on_ok (Ok x) p q f = f p q
both_on_ok (Err e) p q f = tt

pub always_ok : {X Q : Type 0} (r : Result X Error) → Q → OnOk r Q
always_ok (Ok x) q = q
always_ok (Err e) q = tt
