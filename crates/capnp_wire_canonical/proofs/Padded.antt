-- Following a pointer to a landing pad of one word.
use Rattle.std.proofs.Common.{◌≡◌, ℕ, zero, suc, ◌+◌, eqb, false, List, [], ◌∷◌, Option, Some, Result, Ok, refl, ap, sym, ◌∙◌, subst}
use Rattle.std.specs.Option.{ok_or}
use Rattle.std.proofs.lemmas.Bool.{ne_eqb}
use Rattle.capnp_model.specs.Kinds.{Kind, OutOfBounds}
use Rattle.capnp_model.specs.Chains.{◌and_then◌}
use Rattle.capnp_model.specs.Sections.{bits_at}
use Rattle.capnp_model.specs.Segments.{Segments, Place, after, word_at, words_at}
use Rattle.capnp_model.specs.Pointers.{to_struct, to_pad, pointer_of, pointer_of_kind, begins, described, in_pad, found_by}
use Rattle.capnp_model.specs.Pointers as model
use Rattle.capnp_model.proofs.lemmas.Locality.{word_is}
use Rattle.capnp_units.specs.declared.limiter.ReadLimiter.{ReadLimiter}
use Rattle.capnp_units.specs.Limits.{Spends, Follows}
use Rattle.capnp_wire_objects.specs.declared.object.Object.{Object}
use Rattle.capnp_wire_objects.specs.Objects.{object_at}
use Rattle.capnp_wire_objects.specs.Near.{IsNear}
use Rattle.capnp_wire_objects.specs.Follow.{own_cost, Pays}
use Rattle.capnp_wire_objects.proofs.lemmas.Walking.{exact_object}
use Rattle.capnp_wire_canonical.specs.Copies.{LeadsToPad}
use Rattle.capnp_wire_canonical.proofs.NearPlaces.{IsPlaced, Says, near_says}
use Rattle.capnp_wire_canonical.proofs.StandingObjects.{lead_word}

no_null : (w : ℕ) (pad : Place) → pointer_of w ≡ to_pad 1 pad → w ≡ 0 → ⊥
no_null w pad e z = let none : to_struct 0 0 0 ≡ to_pad 1 pad = sym (ap pointer_of z) ∙ e in cc

module _ (s : Segments) (p pad : Place) (w : ℕ) (there : word_at s p ≡ Some w) (leads : pointer_of w ≡ to_pad 1 pad) where
  -- what the pad's word describes
  padded : (v : ℕ) (m : model.Object) → word_at s pad ≡ Some v → described (begins (after pad 1)) (pointer_of v) ≡ Ok m → model.found_at s p ≡ Ok (record { pads = 1; object = m })
  padded v m at says =
      let some : eqb w 0 ≡ false = ne_eqb w 0 (no_null w pad leads) in
      let words : words_at s pad 1 ≡ Some (v ∷ []) = word_is s pad v at in
      rw (there, some) (ap (found_by s p) leads ∙ ap (λ (o : Option (List ℕ)). ok_or o OutOfBounds and_then λ ws. in_pad pad ws and_then λ x. Ok (record { pads = 1; object = x })) words ∙ ap (λ (r : Result model.Object Kind). r and_then λ x. Ok (record { pads = 1; object = x })) says)

  -- the object that the pad tells without another pad
  behind_pad : (o : Object) → IsPlaced o → object_at s pad ≡ Ok (record { pads = 0; object = o }) → object_at s p ≡ Ok (record { pads = 1; object = o })
  behind_pad o own e =
      let v = lead_word s pad o (0, e) in
      by v.0 (bits_at 0 2 v.0) refl v.1 (near_says s pad o v.0 own e v.1)
    where
      by : (v k : ℕ) → bits_at 0 2 v ≡ k → word_at s pad ≡ Some v → Says s pad o v k → object_at s p ≡ Ok (record { pads = 1; object = o })
      by v zero kind at x =
          let m = model.a_struct x.0 (bits_at 32 16 v) (bits_at 48 16 v) in
          let says : described (begins (after pad 1)) (pointer_of v) ≡ Ok m = ap (λ (k : ℕ). described (begins (after pad 1)) (pointer_of_kind k v)) kind ∙ ap (λ (r : Result Place Kind). r and_then λ q. Ok (model.a_struct q (bits_at 32 16 v) (bits_at 48 16 v))) x.1 in
          exact_object s p (record { pads = 1; object = m }) o (padded v m at says) x.2
      by v (suc zero) kind at x =
          let m = model.a_list x.0 (bits_at 32 3 v) (bits_at 35 29 v) in
          let says : described (begins (after pad 1)) (pointer_of v) ≡ Ok m = ap (λ (k : ℕ). described (begins (after pad 1)) (pointer_of_kind k v)) kind ∙ ap (λ (r : Result Place Kind). r and_then λ q. Ok (model.a_list q (bits_at 32 3 v) (bits_at 35 29 v))) x.1 in
          exact_object s p (record { pads = 1; object = m }) o (padded v m at says) x.2
      by v (suc (suc k)) kind at x = absurd x

-- it is paid for with the pad
pub landed_paid : (s : Segments) (p pad : Place) (o : Object) → LeadsToPad s p pad → IsPlaced o → IsNear s pad o → (old new : ReadLimiter) (words : ℕ) → words ≡ 1 + own_cost o → Spends old new words → Follows old new 1 → Pays s p old o new
landed_paid s p pad o leads own near old new words is spends follows = record {
  pads = 1;
  is = behind_pad s p pad leads.0 leads.1 leads.2 o own near.0;
  inside = near.1;
  spends = subst (λ (n : ℕ). Spends old new n) is spends;
  follows = follows;
}
