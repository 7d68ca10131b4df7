-- Why content isn't put.
use Rattle.std.proofs.Common.{◌≡◌, Result, Ok, Err, IfErr, sym, subst}
use Rattle.capnp_model.specs.Kinds.{Kind}
use Rattle.capnp_model.specs.Calls.{Content, refused_by, bits_of, object}
use Rattle.capnp_units.specs.declared.errors.Error.{Error}
use Rattle.capnp_schema_structs.specs.Puts.{HasCause}

-- whatever the content is
pub caused : (k : Content) (told : Error → Type 0) (e : Error) → told e → HasCause k told e
caused (refused_by k) told e h = tt
caused (bits_of n) told e h = tt
caused (object t) told e h = h

pub caused_if : {X : Type 0} (k : Content) (told : Error → Type 0) (r : Result X Error) → IfErr r told → IfErr r (HasCause k told)
caused_if k told (Ok x) h = tt
caused_if k told (Err e) h = caused k told e h

-- what its type refuses
pub refused_cause : (k : Content) (kind : Kind) (told : Error → Type 0) (e : Error) → k ≡ refused_by kind → HasCause k told e
refused_cause k kind told e same = subst (λ x. HasCause x told e) (sym same) tt
