-- Bytes and their numbers tell one another.
use Rattle.std.proofs.Common.{◌≡◌, ℕ, Bool, true, false, List, refl, ap}
use Rattle.std.specs.Bool.{OnTrue, OnFalse}
use Rattle.std.proofs.lemmas.Bool.Decides.{Decides-eqb}
use Rattle.std.proofs.lemmas.Slice.Eq.{slice_eq-Decides}
use Rattle.capnp_model.specs.Sections.{number_of}
use Rattle.capnp_wire.proofs.lemmas.Bytes.{bytes_of_number}
use Rattle.capnp_wire.proofs.section.are_equal.Goals as goal

on_true : (r : Bool) (P : Type 0) → (r ≡ true → P) → OnTrue r P
on_true true P h = h refl
on_true false P h = tt

on_false : (r : Bool) (P : Type 0) → (P → r ≡ true) → OnFalse r (P → ⊥)
on_false true P h = tt
on_false false P h = λ x. let e = h x in absurd cc

pub returns : goal.returns
returns c =
    let xs : List ℕ = c.args.bytes.now in
    let ys : List ℕ = c.args.others.now in
    let r = c.eq.result in
    let tells = slice_eq-Decides Decides-eqb xs ys r c.eq.ensures in
    record {
      same = on_true r (number_of 8 xs ≡ number_of 8 ys) (λ e. ap (number_of 8) (tells.0 e));
      apart = on_false r (number_of 8 xs ≡ number_of 8 ys) (λ e. tells.1 (bytes_of_number xs ys c.requires c.are_bytes.ensures c.are_bytes-2.ensures e));
    }
