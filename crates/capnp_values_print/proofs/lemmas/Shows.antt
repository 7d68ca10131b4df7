-- Which fields are printed.
use Rattle.std.proofs.Common.{◌≡◌, ℕ, zero, suc, ◌==◌, ◌&&◌, not, Bool, true, false, if◌then◌else◌, Option, Some, None, option_map, List, Result, Ok, Err, refl, arith, ap, sym, ◌∙◌}
use Rattle.std.proofs.lemmas.Bool.Decides.{nat_tests}
use Rattle.capnp_model.specs.Kinds.{Kind}
use Rattle.capnp_model.specs.Schemas.{Fields, no_fields, field, Body, void_slot, plain_slot, pointer_slot, group_slot, Schema}
use Rattle.capnp_model.specs.Readings.{Reading, null_pointer, just_bits, is_active, only_if, body_of}
use Rattle.capnp_model.specs.Printing.{is_shown}
use Rattle.capnp_values_queries.specs.Fields.{Entry, field_at, index_of, is_value, place_of_member}
use Rattle.capnp_wire.specs.Views.{StructView, pointer_field}
use Rattle.capnp_wire.specs.Reads.{is_null_pointer}
use Rattle.capnp_values.specs.Shown.{Shown, a_number, an_enum, a_text, a_blob, a_struct, a_list, a_pointer, a_capability, shown_behind, is_null_slot}
use Rattle.capnp_values_print.specs.ShownReadings.{read_or_fault, children_read, reading_by, reading_within}
use Rattle.capnp_values_print.proofs.lemmas.Children.{below, within}

-- ---- the members that are active

-- where no field passes a test, none of them does
none_passes : (test : List ℕ → Option ℕ → Bool) (fs : Fields) (i : ℕ) (e : Entry) → index_of test fs ≡ None → field_at fs i ≡ Some e → test e.name e.member ≡ false
none_passes test no_fields i e h f = absurd cc
none_passes test (field n m b fs) i e h f = by (none_passes test fs) (test n m) refl (index_of test fs) refl h i f
  where
    here : (x y : Entry) → ◌≡◌ {A = Option Entry} (Some x) (Some y) → x ≡ y
    here x y e = cc

    by : ((i : ℕ) (e : Entry) → index_of test fs ≡ None → field_at fs i ≡ Some e → test e.name e.member ≡ false)
        → (t : Bool) → test n m ≡ t → (o : Option ℕ) → index_of test fs ≡ o → (if t then Some 0 else option_map (λ j. suc j) o) ≡ None → (i : ℕ) → field_at (field n m b fs) i ≡ Some e → test e.name e.member ≡ false
    by again true g o k h i f = absurd cc
    by again false g None k h zero f = ap (λ (x : Entry). test x.name x.member) (sym (here _ _ f)) ∙ g
    by again false g None k h (suc i) f = again i e k f
    by again false g (Some j) k h i f = absurd cc

-- the field at the first index of a test passes it
first_passes : (test : List ℕ → Option ℕ → Bool) (fs : Fields) (i : ℕ) (e : Entry) → index_of test fs ≡ Some i → field_at fs i ≡ Some e → test e.name e.member ≡ true
first_passes test no_fields i e h f = absurd cc
first_passes test (field n m b fs) i e h f = by (first_passes test fs) (test n m) refl (index_of test fs) refl h f
  where
    here : (x y : Entry) → ◌≡◌ {A = Option Entry} (Some x) (Some y) → x ≡ y
    here x y e = cc

    by : ((i : ℕ) (e : Entry) → index_of test fs ≡ Some i → field_at fs i ≡ Some e → test e.name e.member ≡ true)
        → (t : Bool) → test n m ≡ t → (o : Option ℕ) → index_of test fs ≡ o → (if t then Some 0 else option_map (λ j. suc j) o) ≡ Some i → field_at (field n m b fs) i ≡ Some e → test e.name e.member ≡ true
    by again true g o k h f =
        let at : 0 ≡ i = cc in
        let first : field_at (field n m b fs) 0 ≡ Some e = ap (field_at (field n m b fs)) at ∙ f in
        ap (λ (x : Entry). test x.name x.member) (sym (here _ _ first)) ∙ g
    by again false g None k h f = absurd cc
    by again false g (Some j) k h f =
        let at : suc j ≡ i = cc in
        let more : field_at fs j ≡ Some e = ap (field_at (field n m b fs)) at ∙ f in
        again j e k more

-- without a member of the discriminant no member is active
pub none_active : (fs : Fields) (d : Option ℕ) → (elim d as (λ _. Option ℕ) [ None ↦ None | Some k ↦ place_of_member k fs ]) ≡ None → (i : ℕ) (e : Entry) → field_at fs i ≡ Some e → is_active e.member None ≡ is_active e.member d
none_active fs d h i e f = by d h e.member refl
  where
    by : (d : Option ℕ) → (elim d as (λ _. Option ℕ) [ None ↦ None | Some k ↦ place_of_member k fs ]) ≡ None → (m : Option ℕ) → e.member ≡ m → is_active m None ≡ is_active m d
    by d h None g = refl
    by None h (Some m) g = refl
    by (Some k) h (Some m) g = sym (ap (is_value k) (sym g) ∙ none_passes (λ n o. is_value k o) fs i e h f)

-- the value of the active member is the discriminant
pub value_active : (fs : Fields) (d : Option ℕ) (i value : ℕ) (e : Entry) → (elim d as (λ _. Option ℕ) [ None ↦ None | Some k ↦ place_of_member k fs ]) ≡ Some i → field_at fs i ≡ Some e → e.member ≡ (if value == 65535 then None else Some value) → d ≡ Some value
value_active fs None i value e h f g = absurd cc
value_active fs (Some k) i value e h f g =
    by (value == 65535) (ap (is_value k) (sym g) ∙ first_passes (λ n o. is_value k o) fs i e h f)
  where
    by : (b : Bool) → is_value k (if b then None else Some value) ≡ true → ◌≡◌ {A = Option ℕ} (Some k) (Some value)
    by true p = absurd cc
    by false p = let same : value ≡ k = grind (arith, nat_tests) in ap (λ (n : ℕ). Some n) (sym same)

-- ---- what is shown

shown_read : (m : Option ℕ) (n : ℕ) (r : Result Shown Kind) → is_shown m (read_or_fault (reading_within n) r) ≡ true
shown_read m n (Err kind) = refl
shown_read m n (Ok x) = ap (is_shown m) (within n x) ∙ by x
  where
    by : (x : Shown) → is_shown m (reading_by (below n) x) ≡ true
    by (a_number ty k) = refl
    by (an_enum s id k) = refl
    by (a_text bytes) = refl
    by (a_blob bytes) = refl
    by (a_struct s g v) = refl
    by (a_list s ty l) = refl
    by (a_pointer p) = refl
    by a_capability = refl

module _ (n : ℕ) (s : Schema) (v : StructView) where
  -- what a field reads as, if it is active
  abbrev pub Read : Body → Reading
  Read b = body_of b (just_bits v.bits) v.section (children_read (reading_within n) s v)

  -- a member but the first is shown where it is active
  pub shown_member : (k : ℕ) (b : Body) (active : Bool) → is_shown (Some (suc k)) (only_if active (Read b)) ≡ active
  unfolding body_of
  shown_member k b false = refl
  shown_member k (void_slot j) true = refl
  shown_member k (plain_slot p at d) true = refl
  shown_member k (pointer_slot i ty d) true = by (is_null_pointer (pointer_field v i))
    where
      by : (null : Bool) → is_shown (Some (suc k)) (if null then null_pointer else read_or_fault (reading_within n) (shown_behind s ty (pointer_field v i))) ≡ true
      by true = refl
      by false = shown_read (Some (suc k)) n (shown_behind s ty (pointer_field v i))
  shown_member k (group_slot g) true = refl

  -- the first one, and another field, only where it is no null pointer
  pub shown_first : (b : Body) (active : Bool) → is_shown (Some 0) (only_if active (Read b)) ≡ (active && not (is_null_slot v (Some b)))
  unfolding body_of
  shown_first b false = refl
  shown_first (void_slot j) true = refl
  shown_first (plain_slot p at d) true = refl
  shown_first (pointer_slot i ty d) true = by (is_null_pointer (pointer_field v i))
    where
      by : (null : Bool) → is_shown (Some 0) (if null then null_pointer else read_or_fault (reading_within n) (shown_behind s ty (pointer_field v i))) ≡ (true && not null)
      by true = refl
      by false = shown_read (Some 0) n (shown_behind s ty (pointer_field v i))
  shown_first (group_slot g) true = refl

  pub shown_other : (b : Body) → is_shown None (Read b) ≡ not (is_null_slot v (Some b))
  unfolding body_of
  shown_other (void_slot j) = refl
  shown_other (plain_slot p at d) = refl
  shown_other (pointer_slot i ty d) = by (is_null_pointer (pointer_field v i))
    where
      by : (null : Bool) → is_shown None (if null then null_pointer else read_or_fault (reading_within n) (shown_behind s ty (pointer_field v i))) ≡ not null
      by true = refl
      by false = shown_read None n (shown_behind s ty (pointer_field v i))
  shown_other (group_slot g) = refl
