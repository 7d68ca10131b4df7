-- Paying for what a pointer names.
use Rattle.std.proofs.Common.{◌≡◌, ℕ, ◌+◌, Option, Result, Ok, Err, ap, sym, ◌∙◌, subst, arith}
use Rattle.capnp_model.specs.Segments.{Segments, Place}
use Rattle.capnp_units.specs.declared.errors.Error.{Error}
use Rattle.capnp_units.specs.declared.limiter.ReadLimiter.{ReadLimiter}
use Rattle.capnp_units.specs.Limits.{less, limit_of, granted_of, left_of, followed_of, Allows, Spends, Follows}
use Rattle.capnp_wire_objects.specs.declared.object.Object.{Object}
use Rattle.capnp_wire_objects.specs.Objects.{object_at, IsInside}
use Rattle.capnp_wire_objects.specs.Follow.{own_cost, KeepsBudget, Pays, IsFollowRefusal, object_within, FollowsWithin}

pub same_left : (old mid : ReadLimiter) → KeepsBudget old mid → left_of mid ≡ left_of old
same_left old mid k = ap (λ (x : Option ℕ). less x (granted_of mid)) k.0 ∙ ap (less (limit_of old)) k.1

pub spends_later : (old mid new : ReadLimiter) (words : ℕ) → KeepsBudget old mid → Spends mid new words → Spends old new words
spends_later old mid new words k h = record {
  allowed = subst (λ (x : Option ℕ). Allows x words) (same_left old mid k) h.allowed;
  limit = h.limit ∙ k.0;
  left = h.left ∙ ap (λ (x : Option ℕ). less x words) (same_left old mid k);
  granted = let same = k.1 in omega (arith, h.granted);
}

pub pays_later : (s : Segments) (p : Place) (old mid new : ReadLimiter) (pads words : ℕ) (o : Object) → KeepsBudget old mid → Follows old mid 1 → followed_of new ≡ followed_of mid → Spends mid new words → words ≡ pads + own_cost o
    → object_at s p ≡ Ok (record { pads = pads; object = o }) → IsInside s o → Pays s p old o new
pays_later s p old mid new pads words o k f same h sum is inside = record {
  pads = pads;
  is = is;
  inside = inside;
  spends = subst (λ (n : ℕ). Spends old new n) sum (spends_later old mid new words k h);
  follows = omega (arith, f, same);
}

pub refused_by : (n : ℕ) (s : Segments) (p : Place) (old new : ReadLimiter) (r : Result Object Error) (d e : Error) → r ≡ Err d → d ≡ e → KeepsBudget old new → Follows old new 1 → IsFollowRefusal (object_within n s p) old e → FollowsWithin n s p old r new
refused_by n s p old new r d e is same k f why =
    subst (λ (x : Result Object Error). FollowsWithin n s p old x new) (sym (is ∙ ap (λ (x : Error). Err x) same)) (k, f, why)
