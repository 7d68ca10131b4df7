-- What pointers without pads lead to are objects as new ones.
use Rattle.std.proofs.Common.{◌≡◌, inl, inr, ℕ, zero, suc, ◌+◌, ◌*◌, ◌^◌, Bool, eqb, cond, Some, Ok, refl, ap, sym, ◌∙◌, subst, arith, ◌<◌}
use Rattle.std.specs.Option.{ok_or}
use Rattle.std.proofs.lemmas.Bool.{cases_eq, cases_lt}
use Rattle.capnp_model.specs.Kinds.{OutOfBounds}
use Rattle.capnp_model.specs.Sections.{bits_at}
use Rattle.capnp_model.specs.Segments.{Segments, Place, after, word_at}
use Rattle.capnp_model.specs.Pointers.{Object, nothing, a_struct, a_list, to_struct, to_list, Found, found_at, found_by, begins, described, pointer_of_kind, pointer_of}
use Rattle.capnp_model.specs.Encoding.{struct_pointer, list_pointer}
use Rattle.capnp_model.proofs.lemmas.Chaining.{bind_ok, ok_or_some, some_is, ok_is}
use Rattle.capnp_model.proofs.lemmas.PointerWords.{list_word, struct_word}
use Rattle.capnp_model_writes.specs.Detached.{IsDirect}
use Rattle.capnp_model_writes.specs.NewObjects.{New, new_struct, new_list, new_pointers, new_structs, new_object, new_pointer, Fits}
use Rattle.capnp_model_writes.proofs.lemmas.Pointing.{not_zero}

-- a list as a new one
record ListAs (size n : ℕ) : Type 0 where
  pub new : New
  pub object : (r : Place) → a_list r size n ≡ new_object r new
  pub word : (o : ℕ) → list_pointer o size n ≡ new_pointer o new
  pub fits : Fits new

list_as : (size n : ℕ) → size < 8 → n < 2 ^ 29 → ListAs size n
list_as size n l m =
    elim (cases_lt size 6) [
      | inl a ↦ record { new = new_list size n; object = λ r. refl; word = λ o. refl; fits = (a, m) }
      | inr a ↦ elim (cases_eq size 6) [
        | inl b ↦ record { new = new_pointers n; object = λ r. ap (λ (z : ℕ). a_list r z n) b; word = λ o. ap (λ (z : ℕ). list_pointer o z n) b; fits = m }
        | inr b ↦
            let seven : size ≡ 7 = omega (arith, l, a, b) in
            let all : n ≡ n * (1 + 0) = omega arith in
            record {
              new = new_structs n 1 0;
              object = λ r. ap (λ (z : ℕ). a_list r z n) seven ∙ ap (λ (z : ℕ). a_list r 7 z) all;
              word = λ o. ap (λ (z : ℕ). list_pointer o z n) seven ∙ ap (λ (z : ℕ). list_pointer o 7 z) all;
              fits = (m, omega arith, omega arith, omega (arith, m));
            }
      ]
    ]

Leads : Place → ℕ → Found → Type 0
Leads p w f = (r : Place) × (offset : ℕ) × (x : New) × IsDirect p w f r offset x

by_kind : (s : Segments) (p : Place) (w k : ℕ) (f : Found) → w < 2 ^ 64 → bits_at 0 2 w ≡ k → k < 2 → found_by s p (pointer_of_kind k w) ≡ Ok f → Leads p w f
unfolding Leads
by_kind s p w zero f l e small h =
    let y = bind_ok (described (begins (after p 1)) (to_struct (bits_at 2 30 w) (bits_at 32 16 w) (bits_at 48 16 w))) _ f h in
    let z = bind_ok (begins (after p 1) (bits_at 2 30 w)) _ y.0 y.1 in
    let object : a_struct z.0 (bits_at 32 16 w) (bits_at 48 16 w) ≡ y.0 = ok_is _ _ z.2 in
    let is : record { pads = 0; object = y.0 } ≡ f = ok_is _ _ y.2 in (
      z.0,
      bits_at 2 30 w,
      new_struct (bits_at 32 16 w) (bits_at 48 16 w),
      record {
        found = sym is ∙ ap (λ (o : Object). let g : Found = record { pads = 0; object = o } in g) (sym object);
        word = struct_word w l e;
        fits = (omega arith, omega arith);
        small = omega arith;
        starts = z.1;
      },
    )
by_kind s p w (suc zero) f l e small h =
    let y = bind_ok (described (begins (after p 1)) (to_list (bits_at 2 30 w) (bits_at 32 3 w) (bits_at 35 29 w))) _ f h in
    let z = bind_ok (begins (after p 1) (bits_at 2 30 w)) _ y.0 y.1 in
    let object : a_list z.0 (bits_at 32 3 w) (bits_at 35 29 w) ≡ y.0 = ok_is _ _ z.2 in
    let is : record { pads = 0; object = y.0 } ≡ f = ok_is _ _ y.2 in
    let like = list_as (bits_at 32 3 w) (bits_at 35 29 w) (omega arith) (omega arith) in (
      z.0,
      bits_at 2 30 w,
      like.new,
      record {
        found = sym is ∙ ap (λ (o : Object). let g : Found = record { pads = 0; object = o } in g) (sym object ∙ like.object z.0);
        word = list_word w l e ∙ like.word (bits_at 2 30 w);
        fits = like.fits;
        small = omega arith;
        starts = z.1;
      },
    )
by_kind s p w (suc (suc k)) f l e small h = absurd (omega (arith, small))

pub direct : (s : Segments) (p : Place) (w : ℕ) (f : Found) → word_at s p ≡ Some w → 0 < w → w < 2 ^ 64 → bits_at 0 2 w < 2 → found_at s p ≡ Ok f → (r : Place) × (offset : ℕ) × (x : New) × IsDirect p w f r offset x
unfolding Leads
direct s p w f there some l small h =
    let x = bind_ok (ok_or (word_at s p) OutOfBounds) _ f h in
    let same : x.0 ≡ w = some_is _ _ (sym (ok_or_some _ _ _ x.1) ∙ there) in
    let h' : cond (eqb w 0) (Ok (record { pads = 0; object = nothing })) (found_by s p (pointer_of w)) ≡ Ok f = subst (λ (v : ℕ). cond (eqb v 0) (Ok (record { pads = 0; object = nothing })) (found_by s p (pointer_of v)) ≡ Ok f) same x.2 in
    let h'' : found_by s p (pointer_of w) ≡ Ok f = subst (λ (b : Bool). cond b (Ok (record { pads = 0; object = nothing })) (found_by s p (pointer_of w)) ≡ Ok f) (not_zero w some) h' in
    by_kind s p w (bits_at 0 2 w) f l refl small h''
