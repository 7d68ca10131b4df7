-- A field that is replaced in a newer record is replaced in its older view.
use Rattle.std.proofs.Common.{◌≡◌, ℕ, Bool, true, false, List, Option, Some, None, refl, sym, ◌∙◌, ap, subst}
use Rattle.std.specs.Str.{bytes_eq}
use Rattle.std.proofs.lemmas.Slice.Eq.{bytes_eq-Decides}
use Rattle.capnp_model.specs.Schemas.{Fields, no_fields, field, Body, Schema}
use Rattle.capnp_model.specs.Readings.{Reading, Record, entry, Children, Extent, discriminant, is_active, only_if, shape_record, fields_of, body_of}
use Rattle.capnp_model.specs.Printing.{as_body}
use Rattle.capnp_model.specs.Projection.{project, project_fields}
use Rattle.capnp_model.specs.Steps.{target, target_if, target_of, choose, unless_member, replaced}
use Rattle.capnp_model.proofs.lemmas.FineShapes.{IsNewName, AreGood}
use Rattle.capnp_model.proofs.lemmas.OlderReading.{KeptFields, kept_all, kept_added, kept_field, IsAbsent, KidsAgree, body_of-project}

-- a field of the name is just this one
abbrev pub NamedIs : List ℕ → Body → Fields → Type 0
NamedIs l b no_fields = Unit {0}
NamedIs l b (field k m c fs) = (bytes_eq k l ≡ true → c ≡ b) × NamedIs l b fs

none_named : (l : List ℕ) (b : Body) (fs : Fields) → IsNewName l fs → NamedIs l b fs
none_named l b no_fields h = tt
none_named l b (field k m c fs) h = ((λ e. absurd (cc (sym h.0 ∙ e))), none_named l b fs h.1)

pub named-is : (s : Schema) (u : Option ℕ) (l : List ℕ) (fs : Fields) (m : Option ℕ) (b : Body) → AreGood s u fs → target_of l fs ≡ target m b → NamedIs l b fs
named-is s u l no_fields m b h e = tt
named-is s u l (field k j c fs) m b h e = by (bytes_eq k l) refl (named-is s u l fs m b h.4) e
  where
    by : (x : Bool) → bytes_eq k l ≡ x → (target_of l fs ≡ target m b → NamedIs l b fs) → target_if x (target j c) (target_of l fs) ≡ target m b → (bytes_eq k l ≡ true → c ≡ b) × NamedIs l b fs
    by true f more g = let is : c ≡ b = cc in ((λ e. is), none_named l b fs (subst (λ z. IsNewName z fs) ((bytes_eq-Decides k l).0 f) h.1))
    by false f more g = ((λ e. absurd (cc (sym f ∙ e))), more g)

module _ (o n : Schema) (R : ℕ → ℕ → Type 0) where
  pub view-only_if : (b : Bool) (body : Body) (r : Reading) → project o (as_body body) (only_if b r) ≡ only_if b (project o (as_body body) r)
  unfolding project
  view-only_if true body r = refl
  view-only_if false body r = refl

  skip_added : (l : List ℕ) (fs : Fields) (r : Reading) (rest : Record) → IsAbsent o n R l fs → project_fields o fs rest ≡ project_fields o fs (entry l r rest)
  unfolding project
  skip_added l no_fields r rest h = refl
  skip_added l (field k m b fs) r rest h =
      ap (λ c. elim c as (λ (x : Bool). Record) [ true ↦ entry k (project o (as_body b) r) (project_fields o fs rest) | false ↦ project_fields o (field k m b fs) rest ]) (sym h)

  pub take_shared : (l l' : List ℕ) (m : Option ℕ) (b : Body) (fs : Fields) (r : Reading) (rest : Record) → bytes_eq l l' ≡ true → entry l (project o (as_body b) r) (project_fields o fs rest) ≡ project_fields o (field l m b fs) (entry l' r rest)
  unfolding project
  take_shared l l' m b fs r rest h =
      ap (λ c. elim c as (λ (x : Bool). Record) [ true ↦ entry l (project o (as_body b) r) (project_fields o fs rest) | false ↦ project_fields o (field l m b fs) rest ]) (sym h)

  unless_view : (m k : Option ℕ) (c : Body) (x y : Reading) → x ≡ project o (as_body c) y → unless_member m k x ≡ project o (as_body c) (unless_member m k y)
  unfolding project
  unless_view (Some a) (Some b) c x y h = refl
  unless_view (Some a) None c x y h = h
  unless_view None (Some b) c x y h = h
  unless_view None None c x y h = h

  choose_view : (z z' : Bool) (b c : Body) (y x x' : Reading) → z ≡ z' → (z ≡ true → c ≡ b) → x ≡ project o (as_body c) x' → choose z (project o (as_body b) y) x ≡ project o (as_body c) (choose z' y x')
  choose_view true true b c y x x' e h k = ap (λ w. project o (as_body w) y) (sym (h refl))
  choose_view false false b c y x x' e h k = k
  choose_view true false b c y x x' e h k = absurd (cc e)
  choose_view false true b c y x x' e h k = absurd (cc e)

  pub replaced-view : (l : List ℕ) (m : Option ℕ) (b : Body) (y : Reading) (u u' : Option ℕ) (fs fs' : Fields) (size : Extent) (section : ℕ) (ko kn : Children) → KidsAgree o n R ko kn → KeptFields o n R u u' fs fs' → NamedIs l b fs
      → replaced l m (project o (as_body b) y) fs (fields_of fs (discriminant u size section) size section ko) ≡ project_fields o fs (replaced l m y fs' (fields_of fs' (discriminant u' size section) size section kn))
  unfolding shape_record project
  replaced-view l m b y u u' fs fs' size section ko kn agree kept_all named = refl
  replaced-view l m b y u u' fs fs' size section ko kn agree (kept_added {fs' = rest} {l = k} {m = j} {b = c} absent h) named =
      replaced-view l m b y u u' fs rest size section ko kn agree h named
      ∙ skip_added k fs (choose (bytes_eq k l) y (unless_member m j (only_if (is_active j (discriminant u' size section)) (body_of c size section kn)))) _ absent
  replaced-view l m b y u u' fs fs' size section ko kn agree (kept_field {fs = gs} {fs' = gs'} {l = k} {l' = k'} {m = j} {b = c} {b' = c'} same active body h) named =
      let is : Bool = is_active j (discriminant u size section) in
      let is' : Bool = is_active j (discriminant u' size section) in
      let one : only_if is (body_of c size section ko) ≡ project o (as_body c) (only_if is' (body_of c' size section kn)) =
      ap (only_if is) (body_of-project o n R c c' size section ko kn agree body) ∙ ap (λ z. only_if z (project o (as_body c) (body_of c' size section kn))) (active size section) ∙ sym (view-only_if is' c (body_of c' size section kn)) in
      let kept : Reading = choose (bytes_eq k' l) y (unless_member m j (only_if is' (body_of c' size section kn))) in
      let chosen = choose_view (bytes_eq k l) (bytes_eq k' l) b c y (unless_member m j (only_if is (body_of c size section ko))) (unless_member m j (only_if is' (body_of c' size section kn)))
      (ap (λ z. bytes_eq z l) ((bytes_eq-Decides k k').0 same)) named.0 (unless_view m j c _ _ one) in
      ap (λ z. entry k z (replaced l m (project o (as_body b) y) gs (fields_of gs (discriminant u size section) size section ko))) chosen
      ∙ ap (entry k (project o (as_body c) kept)) (replaced-view l m b y u u' gs gs' size section ko kn agree h named.1)
      ∙ take_shared k k' j c gs kept (replaced l m y gs' (fields_of gs' (discriminant u' size section) size section kn)) same
