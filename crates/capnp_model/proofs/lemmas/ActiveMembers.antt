-- Fields that a call's path spares stay where they are.
use Rattle.std.proofs.Common.{◌≡◌, ◌⊎◌, inl, inr, ℕ, zero, suc, ◌==◌, Bool, true, false, Option, Some, None, List, [], ◌∷◌, length, refl, sym, ◌∙◌, ap, subst, arith}
use Rattle.std.specs.Str.{bytes_eq}
use Rattle.std.proofs.lemmas.Slice.Eq.{bytes_eq-Decides}
use Rattle.capnp_model.specs.Trees.{Tree, null}
use Rattle.capnp_model.specs.Schemas.{Ty, void, plain, text, blob, untyped, interface, struct, list, Shape, shape, Fields, Body, void_slot, plain_slot, pointer_slot, group_slot, Node, Schema, default_or_null}
use Rattle.capnp_model.specs.Readings.{Reading, inactive, null_pointer, fault, number, text_of, blob_of, list_of, record_as, opaque, Readings, no_readings, ◌▹◌, Record, is_active, record_by_shape, record_of}
use Rattle.capnp_model.specs.Printing.{fields_in}
use Rattle.capnp_model.specs.Accepted.{IsAccepted, schema_of}
use Rattle.capnp_model.specs.Calls.{Step, name, index, Verb, Call}
use Rattle.capnp_model.specs.Steps.{Outcome, done, Target, no_target, target, target_of, entry_of, unless_member, replaced, at_target, on_name, on_index, opened, through_value, through_field, step_field, step_element, step_path, step}
use Rattle.capnp_model.specs.ActiveMembers.{element_of, reading_at, IsActiveAt, AreMembers, SparesName, SparesValue, SparesField, SparesBehind, SparesElement, Spares}
use Rattle.capnp_model.proofs.lemmas.FineShapes.{IsGood, AreGood, IsGoodBody}
use Rattle.capnp_model.proofs.lemmas.SoundRules.{rules_kept, good_shape}
use Rattle.capnp_model.proofs.WellReadings.{typed, IsEntry, IsBody, AreElements, AreEntries, same_slot, record_well}
use Rattle.capnp_model.proofs.RecordEntries.{unmap, found_entry, missing_entry, written_entry, other_entry, one_member, good_target}

-- ---- a path beside a call's path

-- nothing lies behind an inactive member
at_inactive : (way : List Step) → reading_at way inactive ≡ inactive
at_inactive [] = refl
at_inactive (name n ∷ way) = refl
at_inactive (index k ∷ way) = refl

abbrev Stays : Schema → Verb → List Step → Type 0
Stays s verb path = (body : Body) (x y : Reading) (way : List Step) → IsGoodBody s body → IsBody s body x → step_field s path verb body x ≡ done y → SparesBehind s path way body → IsActiveAt way x → IsActiveAt way y

abbrev StaysAt : Schema → Verb → List Step → Type 0
StaysAt s verb path = (ty : Ty) (x y : Reading) (way : List Step) → IsBody s (typed ty) x → step_element s path verb ty x ≡ done y → SparesElement s path way ty → IsActiveAt way x → IsActiveAt way y

-- what a path is looked for in: something that it leads into, or anything where it ends here
abbrev IsLed : Schema → Body → List Step → Reading → Type 0
IsLed s body way x = (IsBody s body x × IsActiveAt way x) ⊎ (way ≡ [])

not_through : (s : Schema) (st : Step) (f : Body → Reading → Outcome Reading) (e : Ty → Reading → Outcome Reading) (body : Body) (y : Reading) → through_field s st f e body inactive ≡ done y → ⊥
not_through s (name n) f e (void_slot j) y h = absurd (cc h)
not_through s (name n) f e (plain_slot p at d) y h = absurd (cc h)
not_through s (name n) f e (pointer_slot i ty d) y h = absurd (cc h)
not_through s (name n) f e (group_slot g) y h = absurd (cc h)
not_through s (index k) f e (void_slot j) y h = absurd (cc h)
not_through s (index k) f e (plain_slot p at d) y h = absurd (cc h)
not_through s (index k) f e (pointer_slot i ty d) y h = absurd (cc h)
not_through s (index k) f e (group_slot g) y h = absurd (cc h)

same_value : (k m : ℕ) (a : Option ℕ) → is_active (Some k) a ≡ true → is_active (Some m) a ≡ true → k ≡ m
same_value k m None h g = absurd (cc h)
same_value k m (Some d) h g = grind arith

-- an entry that isn't inactive is an active field's
active_entry : (s : Schema) (body : Body) (b : Bool) (x : Reading) → IsEntry b x (IsBody s body x) → (x ≡ inactive → ⊥) → (b ≡ true) × IsBody s body x
active_entry s body true x h there = (refl, h.1)
active_entry s body false x h there = absurd (there h)

module _ (s : Schema) (good : (id : ℕ) → IsGood s (s.shape_of id)) (verb : Verb) where
  module _ (path : List Step) (stays : Stays s verb path) (n : List ℕ) (u : Option ℕ) (fs : Fields) (fields : AreGood s u fs) (a : Option ℕ) (r : Record) (well : AreEntries s fs a r) (m : List ℕ) (way : List Step) (led : IsActiveAt way (entry_of m r)) where
    unless_active : (member other : Option ℕ) (body last : Body) → target_of n fs ≡ target member body → target_of m fs ≡ target other last → bytes_eq n m ≡ false → (z : Reading) → step_field s path verb body (entry_of n r) ≡ done z
        → (path ≡ [] → AreMembers member other → ⊥) → unless_member member other (entry_of m r) ≡ entry_of m r
    unfolding step_field
    unless_active None other body last e g apart z h spares = refl
    unless_active (Some k) None body last e g apart z h spares = refl
    unless_active (Some k) (Some j) body last e g apart z h spares = by path refl h
      where
        by : (p : List Step) → path ≡ p → step_field s p verb body (entry_of n r) ≡ done z → inactive ≡ entry_of m r
        by [] is q = absurd (spares is tt)
        by (st ∷ p) is q =
            let here : (entry_of n r ≡ inactive → ⊥) = λ i. not_through s st (step_field s p verb) (step_element s p verb) body z (subst (λ x. through_field s st (step_field s p verb) (step_element s p verb) body x ≡ done z) i q) in
            let there : (entry_of m r ≡ inactive → ⊥) = λ i. led (ap (reading_at way) i ∙ at_inactive way) in
            let one = (active_entry s body (is_active (Some k) a) (entry_of n r) (found_entry s n fs a r (Some k) body well e) here).0 in
            let two = (active_entry s last (is_active (Some j) a) (entry_of m r) (found_entry s m fs a r (Some j) last well g) there).0 in
            let same = same_value k j a one two in
            absurd (one_member s u k fs n m body last fields apart e (subst (λ x. target_of m fs ≡ target (Some x) last) (sym same) g))

    at_found : (member other : Option ℕ) (body last : Body) → target_of n fs ≡ target member body → target_of m fs ≡ target other last → (z : Reading) → step_field s path verb body (entry_of n r) ≡ done z
        → SparesName (SparesBehind s path) n path m way fs → IsActiveAt way (entry_of m (replaced n member z fs r))
    at_found member other body last e g z h spares = by (bytes_eq n m) refl
      where
        by : (b : Bool) → bytes_eq n m ≡ b → IsActiveAt way (entry_of m (replaced n member z fs r))
        by false apart =
            let spared = (spares member other body last e g).1 apart in
            let kept = unless_active member other body last e g apart z h spared in
            let is = other_entry s n member z m apart fs a r other last well g in
            subst (λ x. IsActiveAt way x) (sym (is ∙ kept)) led
        by true same =
            let spared = (spares member other body last e g).0 same in
            let names : n ≡ m = (bytes_eq-Decides n m).0 same in
            let from : IsActiveAt way (entry_of n r) = subst (λ x. IsActiveAt way (entry_of x r)) (sym names) led in
            let there : (entry_of n r ≡ inactive → ⊥) = λ i. from (ap (reading_at way) i ∙ at_inactive way) in
            let inner = (active_entry s body (is_active member a) (entry_of n r) (found_entry s n fs a r member body well e) there).1 in
            let after = stays body (entry_of n r) z way (good_target s u n fs member body fields e) inner h spared from in
            let written = written_entry s n member z fs a r member body well e in
            subst (λ x. IsActiveAt way (entry_of x (replaced n member z fs r))) names (subst (λ x. IsActiveAt way x) (sym written) after)

    at_name : (r' : Record) → on_name (step_field s path verb) n fs r ≡ done r' → SparesName (SparesBehind s path) n path m way fs → IsActiveAt way (entry_of m r')
    at_name r' h spares = by (target_of n fs) refl (target_of m fs) refl h
      where
        by : (x : Target) → target_of n fs ≡ x → (y : Target) → target_of m fs ≡ y → at_target (step_field s path verb) n fs r x ≡ done r' → IsActiveAt way (entry_of m r')
        by no_target e y g q = absurd (cc q)
        by (target member body) e no_target g q = absurd (led (ap (reading_at way) (missing_entry s m fs a r well g) ∙ at_inactive way))
        by (target member body) e (target other last) g q =
            let z = unmap (λ x. replaced n member x fs r) (step_field s path verb body (entry_of n r)) r' q in
            subst (λ x. IsActiveAt way (entry_of m x)) z.2 (at_found member other body last e g z.0 z.1 spares)

  -- elements
  at_index : (path : List Step) → StaysAt s verb path → (ty : Ty) (k : ℕ) (rs rs' : Readings) → AreElements s ty rs → on_index (step_element s path verb ty) k rs ≡ done rs' → (j : ℕ) (way : List Step)
      → ((k == j) ≡ true → SparesElement s path way ty) → IsActiveAt way (element_of j rs) → IsActiveAt way (element_of j rs')
  at_index path stays ty zero no_readings rs' well h j way spares led = absurd (cc h)
  at_index path stays ty (suc k) no_readings rs' well h j way spares led = absurd (cc h)
  at_index path stays ty zero (r ▹ rs) rs' well h zero way spares led =
      let z = unmap (λ x. x ▹ rs) (step_element s path verb ty r) rs' h in
      subst (λ x. IsActiveAt way (element_of zero x)) z.2 (stays ty r z.0 way well.0 z.1 (spares refl) led)
  at_index path stays ty zero (r ▹ rs) rs' well h (suc j) way spares led =
      let z = unmap (λ x. x ▹ rs) (step_element s path verb ty r) rs' h in subst (λ x. IsActiveAt way (element_of (suc j) x)) z.2 led
  at_index path stays ty (suc k) (r ▹ rs) rs' well h zero way spares led =
      let z = unmap (λ xs. r ▹ xs) (on_index (step_element s path verb ty) k rs) rs' h in subst (λ x. IsActiveAt way (element_of zero x)) z.2 led
  at_index path stays ty (suc k) (r ▹ rs) rs' well h (suc j) way spares led =
      let z = unmap (λ xs. r ▹ xs) (on_index (step_element s path verb ty) k rs) rs' h in
      subst (λ x. IsActiveAt way (element_of (suc j) x)) z.2 (at_index path stays ty k rs z.0 well.1 z.1 j way (λ e. spares (more k j e)) led)
    where
      more : (k j : ℕ) → (k == j) ≡ true → (suc k == suc j) ≡ true
      more k j e = grind arith

  module _ (path : List Step) (stays : Stays s verb path) (stays_at : StaysAt s verb path) where
    -- a struct that a name leads into
    in_record : (g : Shape) → IsGood s g → (n : List ℕ) (a : Option ℕ) (r : Record) → AreEntries s (fields_in g) a r → (r' : Record) → on_name (step_field s path verb) n (fields_in g) r ≡ done r' → (m : List ℕ) (way : List Step)
        → SparesName (SparesBehind s path) n path m way (fields_in g) → IsActiveAt way (entry_of m r) → IsActiveAt way (entry_of m r')
    in_record (shape nid w p u fs) fine n a r well r' h m way spares led = at_name path stays n u fs fine a r well m way led r' h spares

    struct_is : (id id' : ℕ) → struct id ≡ struct id' → id ≡ id'
    struct_is id id' e = cc

    list_is : (e e' : Ty) → list e ≡ list e' → e ≡ e'
    list_is e e' h = cc

    value_stays : (st : Step) (ty : Ty) (x y : Reading) (way : List Step) → IsLed s (typed ty) way x → through_value s st (step_field s path verb) (step_element s path verb) ty x ≡ done y
        → SparesValue s st path (SparesBehind s path) (SparesElement s path) way ty → IsActiveAt way y
    value_stays (name n) void inactive y way l h spares = absurd (cc h)
    value_stays (name n) void null_pointer y way l h spares = absurd (cc h)
    value_stays (name n) void (fault k) y way l h spares = absurd (cc h)
    value_stays (name n) void (number k) y way l h spares = absurd (cc h)
    value_stays (name n) void (text_of k) y way l h spares = absurd (cc h)
    value_stays (name n) void (blob_of k) y way l h spares = absurd (cc h)
    value_stays (name n) void (list_of k) y way l h spares = absurd (cc h)
    value_stays (name n) void (record_as k) y way l h spares = absurd (cc h)
    value_stays (name n) void (opaque k) y way l h spares = absurd (cc h)
    value_stays (name n) (plain p) inactive y way l h spares = absurd (cc h)
    value_stays (name n) (plain p) null_pointer y way l h spares = absurd (cc h)
    value_stays (name n) (plain p) (fault k) y way l h spares = absurd (cc h)
    value_stays (name n) (plain p) (number k) y way l h spares = absurd (cc h)
    value_stays (name n) (plain p) (text_of k) y way l h spares = absurd (cc h)
    value_stays (name n) (plain p) (blob_of k) y way l h spares = absurd (cc h)
    value_stays (name n) (plain p) (list_of k) y way l h spares = absurd (cc h)
    value_stays (name n) (plain p) (record_as k) y way l h spares = absurd (cc h)
    value_stays (name n) (plain p) (opaque k) y way l h spares = absurd (cc h)
    value_stays (name n) text inactive y way l h spares = absurd (cc h)
    value_stays (name n) text null_pointer y way l h spares = absurd (cc h)
    value_stays (name n) text (fault k) y way l h spares = absurd (cc h)
    value_stays (name n) text (number k) y way l h spares = absurd (cc h)
    value_stays (name n) text (text_of k) y way l h spares = absurd (cc h)
    value_stays (name n) text (blob_of k) y way l h spares = absurd (cc h)
    value_stays (name n) text (list_of k) y way l h spares = absurd (cc h)
    value_stays (name n) text (record_as k) y way l h spares = absurd (cc h)
    value_stays (name n) text (opaque k) y way l h spares = absurd (cc h)
    value_stays (name n) blob inactive y way l h spares = absurd (cc h)
    value_stays (name n) blob null_pointer y way l h spares = absurd (cc h)
    value_stays (name n) blob (fault k) y way l h spares = absurd (cc h)
    value_stays (name n) blob (number k) y way l h spares = absurd (cc h)
    value_stays (name n) blob (text_of k) y way l h spares = absurd (cc h)
    value_stays (name n) blob (blob_of k) y way l h spares = absurd (cc h)
    value_stays (name n) blob (list_of k) y way l h spares = absurd (cc h)
    value_stays (name n) blob (record_as k) y way l h spares = absurd (cc h)
    value_stays (name n) blob (opaque k) y way l h spares = absurd (cc h)
    value_stays (name n) untyped inactive y way l h spares = absurd (cc h)
    value_stays (name n) untyped null_pointer y way l h spares = absurd (cc h)
    value_stays (name n) untyped (fault k) y way l h spares = absurd (cc h)
    value_stays (name n) untyped (number k) y way l h spares = absurd (cc h)
    value_stays (name n) untyped (text_of k) y way l h spares = absurd (cc h)
    value_stays (name n) untyped (blob_of k) y way l h spares = absurd (cc h)
    value_stays (name n) untyped (list_of k) y way l h spares = absurd (cc h)
    value_stays (name n) untyped (record_as k) y way l h spares = absurd (cc h)
    value_stays (name n) untyped (opaque k) y way l h spares = absurd (cc h)
    value_stays (name n) interface inactive y way l h spares = absurd (cc h)
    value_stays (name n) interface null_pointer y way l h spares = absurd (cc h)
    value_stays (name n) interface (fault k) y way l h spares = absurd (cc h)
    value_stays (name n) interface (number k) y way l h spares = absurd (cc h)
    value_stays (name n) interface (text_of k) y way l h spares = absurd (cc h)
    value_stays (name n) interface (blob_of k) y way l h spares = absurd (cc h)
    value_stays (name n) interface (list_of k) y way l h spares = absurd (cc h)
    value_stays (name n) interface (record_as k) y way l h spares = absurd (cc h)
    value_stays (name n) interface (opaque k) y way l h spares = absurd (cc h)
    value_stays (name n) (struct id) inactive y way l h spares = absurd (cc h)
    value_stays (name n) (struct id) null_pointer y way l h spares = absurd (cc h)
    value_stays (name n) (struct id) (fault k) y way l h spares = absurd (cc h)
    value_stays (name n) (struct id) (number k) y way l h spares = absurd (cc h)
    value_stays (name n) (struct id) (text_of k) y way l h spares = absurd (cc h)
    value_stays (name n) (struct id) (blob_of k) y way l h spares = absurd (cc h)
    value_stays (name n) (struct id) (list_of k) y way l h spares = absurd (cc h)
    value_stays (name n) (struct id) (record_as k) y way (inr e) h spares =
        let z = unmap record_as (on_name (step_field s path verb) n (fields_in (s.shape_of id)) k) y h in
        subst (λ v. IsActiveAt v y) (sym e) (λ q. let w : record_as z.0 ≡ inactive = z.2 ∙ q in absurd (cc w))
    value_stays (name n) (struct id) (record_as k) y [] (inl l) h spares =
        let z = unmap record_as (on_name (step_field s path verb) n (fields_in (s.shape_of id)) k) y h in
        λ q. let w : record_as z.0 ≡ inactive = z.2 ∙ q in absurd (cc w)
    value_stays (name n) (struct id) (record_as k) y (index j ∷ way) (inl l) h spares = absurd (l.1 refl)
    value_stays (name n) (struct id) (record_as k) y (name m ∷ way) (inl l) h spares =
        let z = unmap record_as (on_name (step_field s path verb) n (fields_in (s.shape_of id)) k) y h in
        let w = l.0 in
        let entries : AreEntries s (fields_in (s.shape_of id)) w.2 k = subst (λ i. AreEntries s (fields_in (s.shape_of i)) w.2 k) (sym (struct_is id w.0 w.1)) w.3 in
        subst (λ v. IsActiveAt (name m ∷ way) v) z.2 (in_record (s.shape_of id) (good id) n w.2 k entries z.0 z.1 m way spares l.1)
    value_stays (name n) (struct id) (opaque k) y way l h spares = absurd (cc h)
    value_stays (name n) (list e) inactive y way l h spares = absurd (cc h)
    value_stays (name n) (list e) null_pointer y way l h spares = absurd (cc h)
    value_stays (name n) (list e) (fault k) y way l h spares = absurd (cc h)
    value_stays (name n) (list e) (number k) y way l h spares = absurd (cc h)
    value_stays (name n) (list e) (text_of k) y way l h spares = absurd (cc h)
    value_stays (name n) (list e) (blob_of k) y way l h spares = absurd (cc h)
    value_stays (name n) (list e) (list_of k) y way l h spares = absurd (cc h)
    value_stays (name n) (list e) (record_as k) y way l h spares = absurd (cc h)
    value_stays (name n) (list e) (opaque k) y way l h spares = absurd (cc h)
    value_stays (index i) void inactive y way l h spares = absurd (cc h)
    value_stays (index i) void null_pointer y way l h spares = absurd (cc h)
    value_stays (index i) void (fault k) y way l h spares = absurd (cc h)
    value_stays (index i) void (number k) y way l h spares = absurd (cc h)
    value_stays (index i) void (text_of k) y way l h spares = absurd (cc h)
    value_stays (index i) void (blob_of k) y way l h spares = absurd (cc h)
    value_stays (index i) void (list_of k) y way l h spares = absurd (cc h)
    value_stays (index i) void (record_as k) y way l h spares = absurd (cc h)
    value_stays (index i) void (opaque k) y way l h spares = absurd (cc h)
    value_stays (index i) (plain p) inactive y way l h spares = absurd (cc h)
    value_stays (index i) (plain p) null_pointer y way l h spares = absurd (cc h)
    value_stays (index i) (plain p) (fault k) y way l h spares = absurd (cc h)
    value_stays (index i) (plain p) (number k) y way l h spares = absurd (cc h)
    value_stays (index i) (plain p) (text_of k) y way l h spares = absurd (cc h)
    value_stays (index i) (plain p) (blob_of k) y way l h spares = absurd (cc h)
    value_stays (index i) (plain p) (list_of k) y way l h spares = absurd (cc h)
    value_stays (index i) (plain p) (record_as k) y way l h spares = absurd (cc h)
    value_stays (index i) (plain p) (opaque k) y way l h spares = absurd (cc h)
    value_stays (index i) text inactive y way l h spares = absurd (cc h)
    value_stays (index i) text null_pointer y way l h spares = absurd (cc h)
    value_stays (index i) text (fault k) y way l h spares = absurd (cc h)
    value_stays (index i) text (number k) y way l h spares = absurd (cc h)
    value_stays (index i) text (text_of k) y way l h spares = absurd (cc h)
    value_stays (index i) text (blob_of k) y way l h spares = absurd (cc h)
    value_stays (index i) text (list_of k) y way l h spares = absurd (cc h)
    value_stays (index i) text (record_as k) y way l h spares = absurd (cc h)
    value_stays (index i) text (opaque k) y way l h spares = absurd (cc h)
    value_stays (index i) blob inactive y way l h spares = absurd (cc h)
    value_stays (index i) blob null_pointer y way l h spares = absurd (cc h)
    value_stays (index i) blob (fault k) y way l h spares = absurd (cc h)
    value_stays (index i) blob (number k) y way l h spares = absurd (cc h)
    value_stays (index i) blob (text_of k) y way l h spares = absurd (cc h)
    value_stays (index i) blob (blob_of k) y way l h spares = absurd (cc h)
    value_stays (index i) blob (list_of k) y way l h spares = absurd (cc h)
    value_stays (index i) blob (record_as k) y way l h spares = absurd (cc h)
    value_stays (index i) blob (opaque k) y way l h spares = absurd (cc h)
    value_stays (index i) untyped inactive y way l h spares = absurd (cc h)
    value_stays (index i) untyped null_pointer y way l h spares = absurd (cc h)
    value_stays (index i) untyped (fault k) y way l h spares = absurd (cc h)
    value_stays (index i) untyped (number k) y way l h spares = absurd (cc h)
    value_stays (index i) untyped (text_of k) y way l h spares = absurd (cc h)
    value_stays (index i) untyped (blob_of k) y way l h spares = absurd (cc h)
    value_stays (index i) untyped (list_of k) y way l h spares = absurd (cc h)
    value_stays (index i) untyped (record_as k) y way l h spares = absurd (cc h)
    value_stays (index i) untyped (opaque k) y way l h spares = absurd (cc h)
    value_stays (index i) interface inactive y way l h spares = absurd (cc h)
    value_stays (index i) interface null_pointer y way l h spares = absurd (cc h)
    value_stays (index i) interface (fault k) y way l h spares = absurd (cc h)
    value_stays (index i) interface (number k) y way l h spares = absurd (cc h)
    value_stays (index i) interface (text_of k) y way l h spares = absurd (cc h)
    value_stays (index i) interface (blob_of k) y way l h spares = absurd (cc h)
    value_stays (index i) interface (list_of k) y way l h spares = absurd (cc h)
    value_stays (index i) interface (record_as k) y way l h spares = absurd (cc h)
    value_stays (index i) interface (opaque k) y way l h spares = absurd (cc h)
    value_stays (index i) (struct id) inactive y way l h spares = absurd (cc h)
    value_stays (index i) (struct id) null_pointer y way l h spares = absurd (cc h)
    value_stays (index i) (struct id) (fault k) y way l h spares = absurd (cc h)
    value_stays (index i) (struct id) (number k) y way l h spares = absurd (cc h)
    value_stays (index i) (struct id) (text_of k) y way l h spares = absurd (cc h)
    value_stays (index i) (struct id) (blob_of k) y way l h spares = absurd (cc h)
    value_stays (index i) (struct id) (list_of k) y way l h spares = absurd (cc h)
    value_stays (index i) (struct id) (record_as k) y way l h spares = absurd (cc h)
    value_stays (index i) (struct id) (opaque k) y way l h spares = absurd (cc h)
    value_stays (index i) (list e) inactive y way l h spares = absurd (cc h)
    value_stays (index i) (list e) null_pointer y way l h spares = absurd (cc h)
    value_stays (index i) (list e) (fault k) y way l h spares = absurd (cc h)
    value_stays (index i) (list e) (number k) y way l h spares = absurd (cc h)
    value_stays (index i) (list e) (text_of k) y way l h spares = absurd (cc h)
    value_stays (index i) (list e) (blob_of k) y way l h spares = absurd (cc h)
    value_stays (index i) (list e) (list_of k) y way (inr t) h spares =
        let z = unmap list_of (on_index (step_element s path verb e) i k) y h in
        subst (λ v. IsActiveAt v y) (sym t) (λ q. let w : list_of z.0 ≡ inactive = z.2 ∙ q in absurd (cc w))
    value_stays (index i) (list e) (list_of k) y [] (inl l) h spares =
        let z = unmap list_of (on_index (step_element s path verb e) i k) y h in
        λ q. let w : list_of z.0 ≡ inactive = z.2 ∙ q in absurd (cc w)
    value_stays (index i) (list e) (list_of k) y (name m ∷ way) (inl l) h spares = absurd (l.1 refl)
    value_stays (index i) (list e) (list_of k) y (index j ∷ way) (inl l) h spares =
        let z = unmap list_of (on_index (step_element s path verb e) i k) y h in
        let w = l.0 in
        let elements : AreElements s e k = subst (λ t. AreElements s t k) (sym (list_is e w.0 w.1)) w.2 in
        subst (λ v. IsActiveAt (index j ∷ way) v) z.2 (at_index path stays_at e i k z.0 elements z.1 j way spares l.1)
    value_stays (index i) (list e) (record_as k) y way l h spares = absurd (cc h)
    value_stays (index i) (list e) (opaque k) y way l h spares = absurd (cc h)

    -- what is opened is led into as it was, unless the path ends here
    led_opened : (i : ℕ) (ty : Ty) (d : Option Tree) (x : Reading) (way : List Step) → IsBody s (pointer_slot i ty d) x → IsActiveAt way x → IsLed s (typed ty) way (opened s ty (default_or_null d) x)
    led_opened i ty d inactive [] well led = inr refl
    led_opened i ty d null_pointer [] well led = inr refl
    led_opened i ty d (fault k) [] well led = inr refl
    led_opened i ty d (number k) [] well led = inr refl
    led_opened i ty d (text_of k) [] well led = inr refl
    led_opened i ty d (blob_of k) [] well led = inr refl
    led_opened i ty d (list_of k) [] well led = inr refl
    led_opened i ty d (record_as k) [] well led = inr refl
    led_opened i ty d (opaque k) [] well led = inr refl
    led_opened i ty d inactive (name m ∷ way) well led = absurd (led refl)
    led_opened i ty d null_pointer (name m ∷ way) well led = absurd (led refl)
    led_opened i ty d (fault k) (name m ∷ way) well led = absurd (led refl)
    led_opened i ty d (number k) (name m ∷ way) well led = absurd (led refl)
    led_opened i ty d (text_of k) (name m ∷ way) well led = absurd (led refl)
    led_opened i ty d (blob_of k) (name m ∷ way) well led = absurd (led refl)
    led_opened i ty d (list_of k) (name m ∷ way) well led = inl (same_slot s i 0 ty d None (list_of k) well, led)
    led_opened i ty d (record_as k) (name m ∷ way) well led = inl (same_slot s i 0 ty d None (record_as k) well, led)
    led_opened i ty d (opaque k) (name m ∷ way) well led = absurd (led refl)
    led_opened i ty d inactive (index j ∷ way) well led = absurd (led refl)
    led_opened i ty d null_pointer (index j ∷ way) well led = absurd (led refl)
    led_opened i ty d (fault k) (index j ∷ way) well led = absurd (led refl)
    led_opened i ty d (number k) (index j ∷ way) well led = absurd (led refl)
    led_opened i ty d (text_of k) (index j ∷ way) well led = absurd (led refl)
    led_opened i ty d (blob_of k) (index j ∷ way) well led = absurd (led refl)
    led_opened i ty d (list_of k) (index j ∷ way) well led = inl (same_slot s i 0 ty d None (list_of k) well, led)
    led_opened i ty d (record_as k) (index j ∷ way) well led = inl (same_slot s i 0 ty d None (record_as k) well, led)
    led_opened i ty d (opaque k) (index j ∷ way) well led = absurd (led refl)

    pointer_open : (st : Step) (i : ℕ) (ty : Ty) (d : Option Tree) (x y : Reading) → through_field s st (step_field s path verb) (step_element s path verb) (pointer_slot i ty d) x ≡ done y
        → through_value s st (step_field s path verb) (step_element s path verb) ty (opened s ty (default_or_null d) x) ≡ done y
    pointer_open (name n) i ty d inactive y h = absurd (cc h)
    pointer_open (name n) i ty d null_pointer y h = h
    pointer_open (name n) i ty d (fault z) y h = h
    pointer_open (name n) i ty d (number z) y h = h
    pointer_open (name n) i ty d (text_of z) y h = h
    pointer_open (name n) i ty d (blob_of z) y h = h
    pointer_open (name n) i ty d (list_of z) y h = h
    pointer_open (name n) i ty d (record_as z) y h = h
    pointer_open (name n) i ty d (opaque z) y h = h
    pointer_open (index k) i ty d inactive y h = absurd (cc h)
    pointer_open (index k) i ty d null_pointer y h = h
    pointer_open (index k) i ty d (fault z) y h = h
    pointer_open (index k) i ty d (number z) y h = h
    pointer_open (index k) i ty d (text_of z) y h = h
    pointer_open (index k) i ty d (blob_of z) y h = h
    pointer_open (index k) i ty d (list_of z) y h = h
    pointer_open (index k) i ty d (record_as z) y h = h
    pointer_open (index k) i ty d (opaque z) y h = h

    field_stays : (st : Step) (body : Body) (x y : Reading) (way : List Step) → IsGoodBody s body → IsBody s body x → through_field s st (step_field s path verb) (step_element s path verb) body x ≡ done y
        → SparesField s st path (SparesBehind s path) (SparesElement s path) way body → IsActiveAt way x → IsActiveAt way y
    field_stays (name n) (void_slot o) inactive y way fine well h spares led = absurd (cc h)
    field_stays (name n) (void_slot o) null_pointer y way fine well h spares led = absurd (cc h)
    field_stays (name n) (void_slot o) (fault k) y way fine well h spares led = absurd (cc h)
    field_stays (name n) (void_slot o) (number k) y way fine well h spares led = absurd (cc h)
    field_stays (name n) (void_slot o) (text_of k) y way fine well h spares led = absurd (cc h)
    field_stays (name n) (void_slot o) (blob_of k) y way fine well h spares led = absurd (cc h)
    field_stays (name n) (void_slot o) (list_of k) y way fine well h spares led = absurd (cc h)
    field_stays (name n) (void_slot o) (record_as k) y way fine well h spares led = absurd (cc h)
    field_stays (name n) (void_slot o) (opaque k) y way fine well h spares led = absurd (cc h)
    field_stays (name n) (plain_slot p at d) inactive y way fine well h spares led = absurd (cc h)
    field_stays (name n) (plain_slot p at d) null_pointer y way fine well h spares led = absurd (cc h)
    field_stays (name n) (plain_slot p at d) (fault k) y way fine well h spares led = absurd (cc h)
    field_stays (name n) (plain_slot p at d) (number k) y way fine well h spares led = absurd (cc h)
    field_stays (name n) (plain_slot p at d) (text_of k) y way fine well h spares led = absurd (cc h)
    field_stays (name n) (plain_slot p at d) (blob_of k) y way fine well h spares led = absurd (cc h)
    field_stays (name n) (plain_slot p at d) (list_of k) y way fine well h spares led = absurd (cc h)
    field_stays (name n) (plain_slot p at d) (record_as k) y way fine well h spares led = absurd (cc h)
    field_stays (name n) (plain_slot p at d) (opaque k) y way fine well h spares led = absurd (cc h)
    field_stays (index i) (void_slot o) inactive y way fine well h spares led = absurd (cc h)
    field_stays (index i) (void_slot o) null_pointer y way fine well h spares led = absurd (cc h)
    field_stays (index i) (void_slot o) (fault k) y way fine well h spares led = absurd (cc h)
    field_stays (index i) (void_slot o) (number k) y way fine well h spares led = absurd (cc h)
    field_stays (index i) (void_slot o) (text_of k) y way fine well h spares led = absurd (cc h)
    field_stays (index i) (void_slot o) (blob_of k) y way fine well h spares led = absurd (cc h)
    field_stays (index i) (void_slot o) (list_of k) y way fine well h spares led = absurd (cc h)
    field_stays (index i) (void_slot o) (record_as k) y way fine well h spares led = absurd (cc h)
    field_stays (index i) (void_slot o) (opaque k) y way fine well h spares led = absurd (cc h)
    field_stays (index i) (plain_slot p at d) inactive y way fine well h spares led = absurd (cc h)
    field_stays (index i) (plain_slot p at d) null_pointer y way fine well h spares led = absurd (cc h)
    field_stays (index i) (plain_slot p at d) (fault k) y way fine well h spares led = absurd (cc h)
    field_stays (index i) (plain_slot p at d) (number k) y way fine well h spares led = absurd (cc h)
    field_stays (index i) (plain_slot p at d) (text_of k) y way fine well h spares led = absurd (cc h)
    field_stays (index i) (plain_slot p at d) (blob_of k) y way fine well h spares led = absurd (cc h)
    field_stays (index i) (plain_slot p at d) (list_of k) y way fine well h spares led = absurd (cc h)
    field_stays (index i) (plain_slot p at d) (record_as k) y way fine well h spares led = absurd (cc h)
    field_stays (index i) (plain_slot p at d) (opaque k) y way fine well h spares led = absurd (cc h)
    field_stays (name n) (pointer_slot i ty d) x y way fine well h spares led = value_stays (name n) ty (opened s ty (default_or_null d) x) y way (led_opened i ty d x way well led) (pointer_open (name n) i ty d x y h) spares
    field_stays (index j) (pointer_slot i ty d) x y way fine well h spares led = value_stays (index j) ty (opened s ty (default_or_null d) x) y way (led_opened i ty d x way well led) (pointer_open (index j) i ty d x y h) spares
    field_stays (name n) (group_slot g) inactive y way fine well h spares led = absurd (cc h)
    field_stays (name n) (group_slot g) null_pointer y way fine well h spares led = absurd (cc h)
    field_stays (name n) (group_slot g) (fault k) y way fine well h spares led = absurd (cc h)
    field_stays (name n) (group_slot g) (number k) y way fine well h spares led = absurd (cc h)
    field_stays (name n) (group_slot g) (text_of k) y way fine well h spares led = absurd (cc h)
    field_stays (name n) (group_slot g) (blob_of k) y way fine well h spares led = absurd (cc h)
    field_stays (name n) (group_slot g) (list_of k) y way fine well h spares led = absurd (cc h)
    field_stays (name n) (group_slot g) (opaque k) y way fine well h spares led = absurd (cc h)
    field_stays (name n) (group_slot g) (record_as k) y [] fine well h spares led =
        let z = unmap record_as (on_name (step_field s path verb) n (fields_in g) k) y h in λ q. let w : record_as z.0 ≡ inactive = z.2 ∙ q in absurd (cc w)
    field_stays (name n) (group_slot g) (record_as k) y (index j ∷ way) fine well h spares led = absurd (led refl)
    field_stays (name n) (group_slot g) (record_as k) y (name m ∷ way) fine well h spares led =
        let z = unmap record_as (on_name (step_field s path verb) n (fields_in g) k) y h in
        subst (λ v. IsActiveAt (name m ∷ way) v) z.2 (in_record g fine n well.0 k well.1 z.0 z.1 m way spares led)
    field_stays (index i) (group_slot g) inactive y way fine well h spares led = absurd (cc h)
    field_stays (index i) (group_slot g) null_pointer y way fine well h spares led = absurd (cc h)
    field_stays (index i) (group_slot g) (fault k) y way fine well h spares led = absurd (cc h)
    field_stays (index i) (group_slot g) (number k) y way fine well h spares led = absurd (cc h)
    field_stays (index i) (group_slot g) (text_of k) y way fine well h spares led = absurd (cc h)
    field_stays (index i) (group_slot g) (blob_of k) y way fine well h spares led = absurd (cc h)
    field_stays (index i) (group_slot g) (list_of k) y way fine well h spares led = absurd (cc h)
    field_stays (index i) (group_slot g) (record_as k) y way fine well h spares led = absurd (cc h)
    field_stays (index i) (group_slot g) (opaque k) y way fine well h spares led = absurd (cc h)

    element_open : (ty : Ty) (x : Reading) (way : List Step) → IsBody s (typed ty) x → IsActiveAt way x → IsLed s (typed ty) way (opened s ty null x)
    element_open ty x way well led = led_opened 0 ty None x way well led

  mutual
    unfolding step_field

    all_stay : (path : List Step) → Stays s verb path
    all_stay [] body x y way fine well h spares led = absurd spares
    all_stay (st ∷ path) body x y way fine well h spares led = field_stays path (all_stay path) (all_stay_at path) st body x y way fine well h spares led

    all_stay_at : (path : List Step) → StaysAt s verb path
    all_stay_at [] ty x y way well h spares led = absurd spares
    all_stay_at (st ∷ path) ty x y way well h spares led = value_stays path (all_stay path) (all_stay_at path) st ty (opened s ty null x) y way (element_open path (all_stay path) (all_stay_at path) ty x way well led) h spares

pub shape_good : (nodes : List Node) → IsAccepted nodes → (id : ℕ) → IsGood (schema_of nodes) ((schema_of nodes).shape_of id)
unfolding schema_of
shape_good nodes accepted id = good_shape nodes (rules_kept nodes accepted) (length nodes) id

-- THE LAW: what a call's path spares stays where it is, union members active.
pub stays_active : (nodes : List Node) → IsAccepted nodes → (id : ℕ) (c : Call) (t : Tree) (r : Record) (way : List Step) → step (schema_of nodes) id c (record_of (schema_of nodes) id t) ≡ done r
    → Spares (schema_of nodes) c.path way (fields_in ((schema_of nodes).shape_of id)) → IsActiveAt way (record_as (record_of (schema_of nodes) id t)) → IsActiveAt way (record_as r)
unfolding step record_of
stays_active nodes accepted id c t r way h spares led =
    let s = schema_of nodes in
    let good : (i : ℕ) → IsGood s (s.shape_of i) = good_shapes in
    by good c.path way h spares led
  where
    good_shapes : (i : ℕ) → IsGood (schema_of nodes) ((schema_of nodes).shape_of i)
    good_shapes i = shape_good nodes accepted i

    by : ((i : ℕ) → IsGood (schema_of nodes) ((schema_of nodes).shape_of i)) → (path way : List Step)
        → step_path (schema_of nodes) (fields_in ((schema_of nodes).shape_of id)) path c.verb (record_by_shape (schema_of nodes) ((schema_of nodes).shape_of id) t) ≡ done r
        → Spares (schema_of nodes) path way (fields_in ((schema_of nodes).shape_of id)) → IsActiveAt way (record_as (record_by_shape (schema_of nodes) ((schema_of nodes).shape_of id) t)) → IsActiveAt way (record_as r)
    by good [] way q spares led = absurd (cc q)
    by good (index k ∷ path) way q spares led = absurd (cc q)
    by good (name n ∷ path) [] q spares led = λ e. absurd (cc e)
    by good (name n ∷ path) (index j ∷ way) q spares led = absurd (led refl)
    by good (name n ∷ path) (name m ∷ way) q spares led =
        let w = record_well (schema_of nodes) ((schema_of nodes).shape_of id) t in
        in_record (schema_of nodes) good c.verb path (all_stay (schema_of nodes) good c.verb path) (all_stay_at (schema_of nodes) good c.verb path) ((schema_of nodes).shape_of id) (good id) n w.0 _ w.1 r q m way spares led
