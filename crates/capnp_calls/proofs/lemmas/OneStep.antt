-- The reply to what is made of a part; fields that are no groups.
use Rattle.std.proofs.Common.{◌≡◌, ℕ, Option, refl}
use Rattle.capnp_model.specs.Trees.{Tree}
use Rattle.capnp_model.specs.Schemas.{PlainType, Ty, Body, plain_slot, pointer_slot, void_slot, Schema}
use Rattle.capnp_model.specs.Steps.{Outcome, refused, shown, done, outcome_map}
use Rattle.capnp_model.specs.Answers.{reply_of}
use Rattle.capnp_model.specs.Printing.{as_it_is}

pub reply_of-map : {A B : Type 0} (s : Schema) (f : A → B) (o : Outcome A) → reply_of s as_it_is (outcome_map f o) ≡ reply_of s as_it_is o
reply_of-map s f (refused k) = refl
reply_of-map s f (shown how r) = refl
reply_of-map s f (done x) = refl

-- A slot that is no group.
pub data IsSlot : Body → Type 0 where
  is_void : (offset : ℕ) → IsSlot (void_slot offset)
  is_plain : (p : PlainType) (at d : ℕ) → IsSlot (plain_slot p at d)
  is_pointer : (i : ℕ) (ty : Ty) (d : Option Tree) → IsSlot (pointer_slot i ty d)
