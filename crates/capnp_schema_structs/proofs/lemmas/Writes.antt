-- Edits one after the other.
use Rattle.std.proofs.Common.{◌≡◌, subst}
use Rattle.capnp_model.specs.Segments.{Segments}
use Rattle.capnp_model.specs.Trees.{structure}
use Rattle.capnp_model.specs.Edits.{Cell, Edit}
use Rattle.capnp_model_writes.specs.Changes.{ReplacesObject}
use Rattle.capnp_model_writes.proofs.lemmas.Algebra.{changes_nothing}
use Rattle.capnp_model_writes.proofs.lemmas.Lift.{object_replaced_owned, object_replaced_then}
use Rattle.capnp_model_writes.specs.Footprints.{object_footprint}
use Rattle.capnp_copy_arenas.specs.Structs.{object_of_struct}
use Rattle.capnp_copy_arenas.specs.declared.fields.StructPlace.{StructPlace}
use Rattle.capnp_schema_structs.specs.Edits.{Edits}

-- nothing is written
pub edits_none : (s : Segments) (p : StructPlace) → Edits s s p (λ c. c)
edits_none s p n section kids o = record { means = o.means; changes = changes_nothing s (object_footprint n s (object_of_struct p)) }

pub edits_then : (s u v : Segments) (p : StructPlace) (f g : Edit) → Edits s u p f → Edits u v p g → Edits s v p (λ c. g (f c))
edits_then s u v p f g a b n section kids o =
    let c = f (record { section = section; kids = kids }) in
    let d = g c in
    let first = a n section kids o in
    let owned = object_replaced_owned n s u (object_of_struct p) (structure p.data_words section kids) (structure p.data_words c.section c.kids) o first in
    object_replaced_then n s u v (object_of_struct p) (structure p.data_words c.section c.kids) (structure p.data_words d.section d.kids) first (b n c.section c.kids owned)

pub edits_alike : (s u : Segments) (p : StructPlace) (f g : Edit) → f ≡ g → Edits s u p f → Edits s u p g
edits_alike s u p f g e h = subst (λ k. Edits s u p k) e h

pub edits_same : (s u : Segments) (p : StructPlace) (f g : Edit) → ((c : Cell) → f c ≡ g c) → Edits s u p f → Edits s u p g
edits_same s u p f g e h n section kids o = subst (λ (c : Cell). ReplacesObject n s u (object_of_struct p) (structure p.data_words c.section c.kids)) (e (record { section = section; kids = kids })) (h n section kids o)
