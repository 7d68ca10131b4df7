-- The word of a pointer whose value was made or got is there, or was refused.
use Rattle.std.proofs.Common.{◌≡◌, inl, inr, ℕ, true, List, Option, Some, None, Result, Ok, Err, IfErr, OnErr, sym, ap, subst}
use Rattle.std.specs.Prelude.{IfOk}
use Rattle.std.specs.Option.{ok_or, is_some}
use Rattle.capnp_model.specs.Kinds.{OutOfBounds}
use Rattle.capnp_model.specs.Segments.{Segments, Place, word_at, words_at}
use Rattle.capnp_model.specs.Pointers.{Object}
use Rattle.capnp_model.proofs.lemmas.Chaining.{bind_ok, ok_is}
use Rattle.capnp_model.proofs.lemmas.Locality.{word_is}
use Rattle.capnp_units.specs.declared.errors.Error.{Error}
use Rattle.capnp_units.specs.declared.sizes.StructSize.{StructSize}
use Rattle.capnp_units.specs.Segments.{words_in}
use Rattle.capnp_copy_arenas.specs.Structs.{object_of_struct}
use Rattle.capnp_copy_arenas.specs.Values.{LeadsTo}
use Rattle.capnp_copy_arenas.specs.declared.fields.StructPlace.{StructPlace}
use Rattle.capnp_layout_builders.specs.Gets.{StructGot, NoStructGot}

word_of : (o : Option ℕ) (w : ℕ) → ok_or o OutOfBounds ≡ Ok w → o ≡ Some w
word_of None w e = absurd (cc e)
word_of (Some x) w e = ap (λ (y : ℕ). Some y) (ok_is x w e)

pub leads_there : (s : Segments) (p : Place) (o : Object) → LeadsTo s p o → is_some (words_at s p 1) ≡ true
leads_there s p o h =
    let a = bind_ok (ok_or (word_at s p) OutOfBounds) _ _ h.1 in
    ap is_some (word_is s p a.0 (word_of (word_at s p) a.0 a.1))

pub same_there : (s u : Segments) (p : Place) → u ≡ s → is_some (words_at s p 1) ≡ true → is_some (words_at u p 1) ≡ true
same_there s u p e there = subst (λ (x : Segments). is_some (words_at x p 1) ≡ true) (sym e) there

pub struct_made_there : (old new : List (List ℕ)) (p : Place) (r : Result StructPlace Error) → is_some (words_at (words_in old) p 1) ≡ true → IfOk r (λ o. LeadsTo (words_in new) p (object_of_struct o)) → OnErr r (new ≡ old) → is_some (words_at (words_in new) p 1) ≡ true
struct_made_there old new p (Ok o) there leads stays = leads_there (words_in new) p (object_of_struct o) leads
struct_made_there old new p (Err e) there leads stays = same_there (words_in old) (words_in new) p (ap words_in stays) there

pub struct_got_there : (s u : Segments) (p : Place) (size : StructSize) (r : Result StructPlace Error) → is_some (words_at s p 1) ≡ true → IfOk r (StructGot None s u p size) → IfErr r (NoStructGot None s u p size) → is_some (words_at u p 1) ≡ true
struct_got_there s u p size (Ok o) there got refused = leads_there u p (object_of_struct o) got.object
struct_got_there s u p size (Err e) there got refused = elim refused [ inl a ↦ same_there s u p a.0 there | inr b ↦ same_there s u p b.0.0 there ]
