-- Structs stay structs under calls, and are opened again as what they were.
use Rattle.std.proofs.Common.{◌≡◌, ℕ, Option, List, [], ◌∷◌}
use Rattle.capnp_model.specs.Trees.{Tree, null, capability, structure, plain_list, pointer_list, struct_list}
use Rattle.capnp_model.specs.Trimming.{trim}
use Rattle.capnp_model.specs.Schemas.{Shape, shape, Body, Schema}
use Rattle.capnp_model.specs.Readings.{Record, record_of}
use Rattle.capnp_model.specs.Calls.{Step, name, index, Verb, Call}
use Rattle.capnp_model.specs.Steps.{Outcome, refused, shown, done, step}
use Rattle.capnp_model.specs.Edits.{Edit, edit, edit_struct, edit_field, if_done, write_path}
use Rattle.capnp_model.specs.NamedPaths.{IsOpen}
use Rattle.capnp_model.specs.Answers.{widened_root, opened_root, edits}
use Rattle.capnp_model.proofs.lemmas.Widening.{trim-widened}
use Rattle.capnp_model.proofs.lemmas.TrimmedKinds.{trim_open}
use Rattle.capnp_model_versions.specs.Whole.{IsWhole}

abbrev pub IsStruct : Tree → Type 0
IsStruct (structure w n ts) = Unit {0}
IsStruct t = ⊥

edit_struct_is : (f : Option ℕ → Option ℕ → Body → Edit) (n : List ℕ) (g : Shape) (t : Tree) → IsStruct t → IsStruct (edit_struct f n g t)
edit_struct_is f n (shape nid w p u fs) (structure x k ts) h = tt
edit_struct_is f n g null h = absurd h
edit_struct_is f n g (capability i) h = absurd h
edit_struct_is f n g (plain_list z k x) h = absurd h
edit_struct_is f n g (pointer_list ts) h = absurd h
edit_struct_is f n g (struct_list w p es) h = absurd h

write_path_is : (s : Schema) (g : Shape) (path : List Step) (verb : Verb) (t : Tree) → IsStruct t → IsStruct (write_path s g path verb t)
write_path_is s g [] verb t h = h
write_path_is s g (name n ∷ path) verb t h = edit_struct_is (edit_field s path verb) n g t h
write_path_is s g (index k ∷ path) verb t h = h

done_is_struct : (o : Outcome Record) (new old : Tree) → IsStruct new → IsStruct old → IsStruct (if_done o new old)
done_is_struct (refused k) new old h g = g
done_is_struct (shown how r) new old h g = g
done_is_struct (done r) new old h g = h

pub edits_are_structs : (s : Schema) (id : ℕ) (calls : List Call) (t : Tree) → IsStruct t → IsStruct (edits s id calls t)
unfolding edits edit
edits_are_structs s id [] t h = h
edits_are_structs s id (c ∷ cs) t h =
    edits_are_structs s id cs _ (done_is_struct (step s id c (record_of s id t)) (write_path s (s.shape_of id) c.path c.verb t) t (write_path_is s (s.shape_of id) c.path c.verb t h) h)

widened_is : (g : Shape) (t : Tree) → IsOpen t → IsStruct (widened_root g t)
widened_is (shape nid w p u fs) null h = tt
widened_is (shape nid w p u fs) (structure x n ts) h = tt
widened_is g (capability i) h = absurd h
widened_is g (plain_list z n x) h = absurd h
widened_is g (pointer_list ts) h = absurd h
widened_is g (struct_list d k es) h = absurd h

pub trim_struct : (t : Tree) → IsStruct t → IsStruct (trim t)
unfolding trim
trim_struct (structure w n ts) h = tt
trim_struct null h = absurd h
trim_struct (capability i) h = absurd h
trim_struct (plain_list z n x) h = absurd h
trim_struct (pointer_list ts) h = absurd h
trim_struct (struct_list d k es) h = absurd h

-- a root that is opened for the calls
pub opened_is_struct : (s : Schema) (id : ℕ) (t : Tree) → IsOpen t → IsStruct (opened_root s id t)
unfolding opened_root
opened_is_struct s id t h = widened_is (s.shape_of id) (trim t) (trim_open t h)

-- a struct that is opened again is trimmed to itself
pub reopened : (g : Shape) (t : Tree) → IsStruct t → IsWhole t → trim (widened_root g t) ≡ trim t
reopened (shape nid w p u fs) (structure x n ts) h whole = trim-widened w p x n ts whole.0
reopened g null h f = absurd h
reopened g (capability i) h f = absurd h
reopened g (plain_list z n x) h f = absurd h
reopened g (pointer_list ts) h f = absurd h
reopened g (struct_list d k es) h f = absurd h
