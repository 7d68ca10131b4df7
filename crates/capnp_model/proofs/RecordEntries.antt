-- Entries of a record by their names, and members of one union.
use Rattle.std.proofs.Common.{◌≡◌, ℕ, Bool, true, false, Option, Some, None, List, refl, sym, ◌∙◌, ap, subst, arith}
use Rattle.std.specs.Str.{bytes_eq}
use Rattle.std.proofs.lemmas.Slice.Eq.{bytes_eq-Decides}
use Rattle.capnp_model.specs.Schemas.{Fields, no_fields, field, Body, Schema}
use Rattle.capnp_model.specs.Readings.{Reading, inactive, Record, no_more, entry, is_active}
use Rattle.capnp_model.specs.Steps.{Outcome, refused, shown, done, outcome_map, no_target, target, target_if, target_of, choose, entry_of, unless_member, replaced}
use Rattle.capnp_model.proofs.lemmas.FineShapes.{IsNewMember, AreGood, IsGoodBody}
use Rattle.capnp_model.proofs.WellReadings.{IsEntry, IsBody, AreEntries}

-- ---- an entry by its name

pub unmap : {A B : Type 0} (f : A → B) (o : Outcome A) (y : B) → outcome_map f o ≡ done y → (x : A) × (o ≡ done x) × (f x ≡ y)
unmap f (refused k) y h = absurd (cc h)
unmap f (shown how r) y h = absurd (cc h)
unmap f (done x) y h = (x, refl, cc)

pub one_name : (l n m : List ℕ) → bytes_eq l n ≡ true → bytes_eq l m ≡ true → bytes_eq n m ≡ true
one_name l n m h k = let e : l ≡ n = (bytes_eq-Decides l n).0 h in subst (λ z. bytes_eq z m ≡ true) e k

pub target_is : (m member : Option ℕ) (b body : Body) → target m b ≡ target member body → (m ≡ member) × (b ≡ body)
target_is m member b body h = (cc, cc)

module _ (s : Schema) (n : List ℕ) where
  -- the entry of a field is that of its body
  pub found_entry : (fs : Fields) (a : Option ℕ) (r : Record) (member : Option ℕ) (body : Body) → AreEntries s fs a r → target_of n fs ≡ target member body → IsEntry (is_active member a) (entry_of n r) (IsBody s body (entry_of n r))
  found_entry no_fields a r member body h e = absurd (cc e)
  found_entry (field l m b fs) a no_more member body h e = absurd h
  found_entry (field l m b fs) a (entry k x rest) member body h e =
      subst (λ z. IsEntry (is_active member a) (entry_of n (entry z x rest)) (IsBody s body (entry_of n (entry z x rest)))) (sym h.0) (by (bytes_eq l n) (found_entry fs a rest member body h.2) e)
    where
      by : (c : Bool) → (target_of n fs ≡ target member body → IsEntry (is_active member a) (entry_of n rest) (IsBody s body (entry_of n rest))) → target_if c (target m b) (target_of n fs) ≡ target member body
          → IsEntry (is_active member a) (choose c x (entry_of n rest)) (IsBody s body (choose c x (entry_of n rest)))
      by true more g = let t = target_is m member b body g in subst (λ z. IsEntry (is_active z a) x (IsBody s body x)) t.0 (subst (λ z. IsEntry (is_active m a) x (IsBody s z x)) t.1 h.1)
      by false more g = more g

  -- no field of the name, no entry
  pub missing_entry : (fs : Fields) (a : Option ℕ) (r : Record) → AreEntries s fs a r → target_of n fs ≡ no_target → entry_of n r ≡ inactive
  missing_entry no_fields a no_more h e = refl
  missing_entry no_fields a (entry k x rest) h e = absurd h
  missing_entry (field l m b fs) a no_more h e = refl
  missing_entry (field l m b fs) a (entry k x rest) h e =
      subst (λ z. entry_of n (entry z x rest) ≡ inactive) (sym h.0) (by (bytes_eq l n) (missing_entry fs a rest h.2) e)
    where
      by : (c : Bool) → (target_of n fs ≡ no_target → entry_of n rest ≡ inactive) → target_if c (target m b) (target_of n fs) ≡ no_target → choose c x (entry_of n rest) ≡ inactive
      by true more g = absurd (cc g)
      by false more g = more g

  -- the written field
  pub written_entry : (w : Option ℕ) (z : Reading) (fs : Fields) (a : Option ℕ) (r : Record) (member : Option ℕ) (body : Body) → AreEntries s fs a r → target_of n fs ≡ target member body → entry_of n (replaced n w z fs r) ≡ z
  written_entry w z no_fields a r member body h e = absurd (cc e)
  written_entry w z (field l m b fs) a no_more member body h e = absurd h
  written_entry w z (field l m b fs) a (entry k x rest) member body h e = by (bytes_eq l n) (written_entry w z fs a rest member body h.2) e
    where
      by : (c : Bool) → (target_of n fs ≡ target member body → entry_of n (replaced n w z fs rest) ≡ z) → target_if c (target m b) (target_of n fs) ≡ target member body
          → choose c (choose c z (unless_member w m x)) (entry_of n (replaced n w z fs rest)) ≡ z
      by true more g = refl
      by false more g = more g

  -- another field
  pub other_entry : (w : Option ℕ) (z : Reading) (o : List ℕ) → bytes_eq n o ≡ false → (fs : Fields) (a : Option ℕ) (r : Record) (other : Option ℕ) (last : Body) → AreEntries s fs a r → target_of o fs ≡ target other last
      → entry_of o (replaced n w z fs r) ≡ unless_member w other (entry_of o r)
  other_entry w z o apart no_fields a r other last h e = absurd (cc e)
  other_entry w z o apart (field l m b fs) a no_more other last h e = absurd h
  other_entry w z o apart (field l m b fs) a (entry k x rest) other last h e =
      subst (λ y. choose (bytes_eq l o) (choose (bytes_eq l n) z (unless_member w m x)) (entry_of o (replaced n w z fs rest)) ≡ unless_member w other (choose (bytes_eq y o) x (entry_of o rest))) (sym h.0)
      (by (bytes_eq l o) (bytes_eq l n) refl refl (other_entry w z o apart fs a rest other last h.2) e)
    where
      by : (c d : Bool) → bytes_eq l o ≡ c → bytes_eq l n ≡ d → (target_of o fs ≡ target other last → entry_of o (replaced n w z fs rest) ≡ unless_member w other (entry_of o rest)) → target_if c (target m b) (target_of o fs) ≡ target other last
          → choose c (choose d z (unless_member w m x)) (entry_of o (replaced n w z fs rest)) ≡ unless_member w other (choose c x (entry_of o rest))
      by true true at_o at_n more g = let both = one_name l n o at_n at_o in absurd (cc (sym apart ∙ both))
      by true false at_o at_n more g = let t = target_is m other b last g in ap (λ y. unless_member w y x) t.0
      by false d at_o at_n more g = more g

-- ---- members

pub no_new_member : (s : Schema) (k : ℕ) (fs : Fields) (n : List ℕ) (body : Body) → IsNewMember (Some k) fs → target_of n fs ≡ target (Some k) body → ⊥
no_new_member s k no_fields n body h e = absurd (cc e)
no_new_member s k (field l None b fs) n body h e = by (bytes_eq l n) (no_new_member s k fs n body h) e
  where
    by : (c : Bool) → (target_of n fs ≡ target (Some k) body → ⊥) → target_if c (target None b) (target_of n fs) ≡ target (Some k) body → ⊥
    by true more g = absurd (cc g)
    by false more g = more g
no_new_member s k (field l (Some m) b fs) n body h e = by (bytes_eq l n) (no_new_member s k fs n body h.2) e
  where
    by : (c : Bool) → (target_of n fs ≡ target (Some k) body → ⊥) → target_if c (target (Some m) b) (target_of n fs) ≡ target (Some k) body → ⊥
    by true more g = let same : m ≡ k = cc in let apart = h.0 in absurd (grind arith)
    by false more g = more g

pub one_member : (s : Schema) (u : Option ℕ) (k : ℕ) (fs : Fields) (n m : List ℕ) (body last : Body) → AreGood s u fs → bytes_eq n m ≡ false → target_of n fs ≡ target (Some k) body → target_of m fs ≡ target (Some k) last → ⊥
one_member s u k no_fields n m body last good apart e g = absurd (cc e)
one_member s u k (field l w b fs) n m body last good apart e g = by (bytes_eq l n) (bytes_eq l m) refl refl (one_member s u k fs n m body last good.4 apart) e g
  where
    by : (c d : Bool) → bytes_eq l n ≡ c → bytes_eq l m ≡ d → (target_of n fs ≡ target (Some k) body → target_of m fs ≡ target (Some k) last → ⊥) → target_if c (target w b) (target_of n fs) ≡ target (Some k) body → target_if d (target w b) (target_of m fs) ≡ target (Some k) last → ⊥
    by true true at_n at_m more p q = let both = one_name l n m at_n at_m in absurd (cc (sym apart ∙ both))
    by true false at_n at_m more p q = let t = target_is w (Some k) b body p in no_new_member s k fs m last (subst (λ z. IsNewMember z fs) t.0 good.2) q
    by false true at_n at_m more p q = let t = target_is w (Some k) b last q in no_new_member s k fs n body (subst (λ z. IsNewMember z fs) t.0 good.2) p
    by false false at_n at_m more p q = more p q

pub good_target : (s : Schema) (u : Option ℕ) (n : List ℕ) (fs : Fields) (member : Option ℕ) (body : Body) → AreGood s u fs → target_of n fs ≡ target member body → IsGoodBody s body
good_target s u n no_fields member body good e = absurd (cc e)
good_target s u n (field l m b fs) member body good e = by (bytes_eq l n) (good_target s u n fs member body good.4) e
  where
    by : (c : Bool) → (target_of n fs ≡ target member body → IsGoodBody s body) → target_if c (target m b) (target_of n fs) ≡ target member body → IsGoodBody s body
    by true more g = let t = target_is m member b body g in subst (λ z. IsGoodBody s z) t.1 good.3
    by false more g = more g
