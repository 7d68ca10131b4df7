-- The record of an edited value is what the record machine makes of the record, under accepted schemas.
use Rattle.std.proofs.Common.{◌≡◌, ℕ, false, List, [], ◌∷◌, ◌∙◌, ap}
use Rattle.capnp_model.specs.Trees.{Tree}
use Rattle.capnp_model.specs.Schemas.{Node, Schema}
use Rattle.capnp_model.specs.Readings.{Record, record_of, record_by_shape}
use Rattle.capnp_model.specs.Printing.{fields_in}
use Rattle.capnp_model.specs.Calls.{Step, name, index, Verb, Call}
use Rattle.capnp_model.specs.Steps.{Outcome, done, step, step_path}
use Rattle.capnp_model.specs.Edits.{edit, if_done, write_path}
use Rattle.capnp_model.specs.Accepted.{schema_of, IsAccepted}
use Rattle.capnp_model.specs.NamedPaths.{IsInRange, IsOpen, GoesByNames}
use Rattle.capnp_model.proofs.lemmas.SoundShapes.{IsFineSchema}
use Rattle.capnp_model.proofs.lemmas.Paths.{path_law}
use Rattle.capnp_model.proofs.lemmas.SoundRules.{accepted_is_fine}

on_path : (s : Schema) → IsFineSchema s → (verb : Verb) → IsInRange verb → (id : ℕ) → s.is_group id ≡ false → (path : List Step) (t : Tree) (r : Record) → GoesByNames s (fields_in (s.shape_of id)) path → IsOpen t
    → step_path s (fields_in (s.shape_of id)) path verb (record_by_shape s (s.shape_of id) t) ≡ done r → record_by_shape s (s.shape_of id) (write_path s (s.shape_of id) path verb t) ≡ r
on_path s fine verb range id root [] t r goes is_open h = absurd (cc h)
on_path s fine verb range id root (index k ∷ path) t r goes is_open h = absurd (cc h)
on_path s fine verb range id root (name n ∷ path) t r goes is_open h = path_law s fine verb range id root n path t r goes.0 goes.1 is_open h

-- THE LAW
pub call_law : (nodes : List Node) → IsAccepted nodes → (id : ℕ) → (schema_of nodes).is_group id ≡ false → (c : Call) → IsInRange c.verb → GoesByNames (schema_of nodes) (fields_in ((schema_of nodes).shape_of id)) c.path → (t : Tree) → IsOpen t → (r : Record)
    → step (schema_of nodes) id c (record_of (schema_of nodes) id t) ≡ done r → record_of (schema_of nodes) id (edit (schema_of nodes) id c t) ≡ r
unfolding record_of step edit
call_law nodes h id root c range goes t is_open r e =
    let s = schema_of nodes in
    let law : record_by_shape s (s.shape_of id) (write_path s (s.shape_of id) c.path c.verb t) ≡ r = on_path s (accepted_is_fine nodes h) c.verb range id root c.path t r goes is_open e in
    ap (λ (o : Outcome Record). record_by_shape s (s.shape_of id) (if_done o (write_path s (s.shape_of id) c.path c.verb t) t)) e ∙ law
