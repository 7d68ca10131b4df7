-- Calls in turn at a struct that is owned.
use Rattle.std.proofs.Common.{◌≡◌, ℕ, ◌^◌, ◌≤◌, Result, Err, List, [], ◌∷◌, ◌++◌, refl, ap, sym, ◌∙◌, subst, append_assoc, append-nil}
use Rattle.capnp_model.specs.Segments.{Segments}
use Rattle.capnp_model.specs.Pointers.{Object}
use Rattle.capnp_model.specs.Trees.{Tree, Trees, structure}
use Rattle.capnp_model.specs.Calls.{Call}
use Rattle.capnp_model.specs.Steps.{step}
use Rattle.capnp_model.specs.Edits.{edit}
use Rattle.capnp_model.specs.Answers.{Reply, reply_of, replies, edits}
use Rattle.capnp_wire_objects.specs.Places.{place_view}
use Rattle.capnp_model_writes.specs.Footprints.{OwnsObject}
use Rattle.capnp_model_writes.specs.Changes.{ReplacesObject}
use Rattle.capnp_model_writes.proofs.lemmas.Algebra.{changes_nothing}
use Rattle.capnp_model_writes.proofs.lemmas.Turns.{struct_shape}
use Rattle.capnp_copy_arenas.specs.Structs.{object_of_struct}
use Rattle.capnp_copy_arenas.specs.declared.fields.StructPlace.{StructPlace}
use Rattle.capnp_values_queries.specs.Structs.{schema_around, id_of}
use Rattle.capnp_values_queries.specs.declared.structs.StructSchema.{StructSchema}
use Rattle.capnp_model.specs.Printing.{as_it_is}
use Rattle.capnp_calls.specs.LongLists.{PutsLong}
use Rattle.capnp_calls_run.specs.declared.fault.RunFault.{RunFault}
use Rattle.capnp_calls_run.specs.declared.fault.RunFault.TheVariants as faults
use Rattle.capnp_calls.specs.Roots.{record_at}
use Rattle.capnp_calls_run.specs.Runs.{AnswersAt, PutsLongAt, EndsLongAt}
use Rattle.capnp_calls_run.proofs.Levels.{After}

pub edits_more : (root : StructSchema) (before : List Call) (c : Call) (t : Tree) → edits (schema_around root) (id_of root) (before ++ c ∷ []) t ≡ edit (schema_around root) (id_of root) c (edits (schema_around root) (id_of root) before t)
unfolding edits
edits_more root [] c t = refl
edits_more root (b ∷ before) c t = edits_more root before c (edit (schema_around root) (id_of root) b t)

-- the calls before have their effect, and what is told of them goes on with what the calls behind reply
pub record Reaches (root : StructSchema) (before behind all : List Call) (told : List Reply) (old new : Tree) : Type 0 where
  pub replied : told ++ replies (schema_around root) as_it_is (id_of root) behind new ≡ replies (schema_around root) as_it_is (id_of root) all old
  pub tree : new ≡ edits (schema_around root) (id_of root) before old

abbrev pub SoFar : Segments → Segments → StructPlace → StructSchema → List Call → List Call → List Call → List Reply → Type 0
SoFar s u p root before behind all told =
    (n section : ℕ) (kids : Trees) → 2 ^ 29 ≤ n → OwnsObject n s (object_of_struct p) (structure p.data_words section kids)
    → (section' : ℕ) × (kids' : Trees) × ReplacesObject n s u (object_of_struct p) (structure p.data_words section' kids') × Reaches root before behind all told (structure p.data_words section kids) (structure p.data_words section' kids')

pub at_first : (s : Segments) (p : StructPlace) (root : StructSchema) (calls : List Call) → SoFar s s p root [] calls calls []
unfolding edits
at_first s p root calls n section kids most owns = (section, kids, record { means = owns.means; changes = changes_nothing s _ }, record { replied = refl; tree = refl })

abbrev pub Again : Type 0
Again = (n : ℕ) (s u v : Segments) (o : Object) (t w : Tree) → ReplacesObject n s u o t → ReplacesObject n u v o w → ReplacesObject n s v o w

pub one_more : After → Again → (s u v : Segments) (p : StructPlace) (root : StructSchema) (before : List Call) (c : Call) (behind all : List Call) (told : List Reply) (x : Reply)
    → SoFar s u p root before (c ∷ behind) all told → AnswersAt u v (record { place = p; schema = root }) c x → SoFar s v p root (before ++ c ∷ []) behind all (told ++ x ∷ [])
unfolding replies
one_more after again s u v p root before c behind all told x so_far answers n section kids most owns =
    let sch = schema_around root in
    let id = id_of root in
    let old : Tree = structure p.data_words section kids in
    let a = so_far n section kids most owns in
    let mid : Tree = structure p.data_words a.0 a.1 in
    let owned = after n s u (object_of_struct p) old mid owns a.2 in
    let b = answers n a.0 a.1 most owned in
    let changed = again n s u v (object_of_struct p) mid b.0 a.2 b.1 in
    let now = after n s v (object_of_struct p) old b.0 owns changed in
    let shape = struct_shape n v (place_view p.start) p.data_words p.pointers b.0 now in
    let is : b.0 ≡ structure p.data_words shape.0 shape.1 = shape.2 in
    let replied : (told ++ x ∷ []) ++ replies sch as_it_is id behind b.0 ≡ replies sch as_it_is id all old =
    append_assoc told (x ∷ []) (replies sch as_it_is id behind b.0) ∙ ap (λ y. told ++ y ∷ replies sch as_it_is id behind b.0) b.2.replied
    ∙ ap (λ t. told ++ reply_of sch as_it_is (step sch id c (record_at root mid)) ∷ replies sch as_it_is id behind t) b.2.tree ∙ a.3.replied in
    let tree : b.0 ≡ edits sch id (before ++ c ∷ []) old = b.2.tree ∙ ap (edit sch id c) a.3.tree ∙ sym (edits_more root before c old) in (
      shape.0,
      shape.1,
      subst (ReplacesObject n s v (object_of_struct p)) is changed,
      record {
        replied = ap (λ t. (told ++ x ∷ []) ++ replies sch as_it_is id behind t) (sym is) ∙ replied;
        tree = sym is ∙ tree;
      },
    )

-- a call that puts a list which is too long does so at what those before it make
pub ends_long : After → (s u : Segments) (p : StructPlace) (root : StructSchema) (before : List Call) (c : Call) (behind all : List Call) (told : List Reply)
    → all ≡ before ++ c ∷ behind → SoFar s u p root before (c ∷ behind) all told → PutsLongAt u p root c → EndsLongAt s p root all
ends_long after s u p root before c behind all told split so_far puts n section kids most owns =
    let a = so_far n section kids most owns in
    let owned = after n s u (object_of_struct p) (structure p.data_words section kids) (structure p.data_words a.0 a.1) owns a.2 in
    record { before = before; call = c; behind = behind; split = split; long = subst (PutsLong root c) a.3.tree (puts n a.0 a.1 most owned) }

-- the fault that ends the calls is that of the call
pub size_kept : {X : Type 0} (r : Result X RunFault) (told fault : RunFault) → r ≡ Err told → told ≡ fault → r ≡ Err faults.Size → fault ≡ faults.Size
size_kept r told fault is same size = cc

pub none_behind : (root : StructSchema) (before all : List Call) (told : List Reply) (old new : Tree) → Reaches root before [] all told old new → told ≡ replies (schema_around root) as_it_is (id_of root) all old
unfolding replies
none_behind root before all told old new r = sym (append-nil told) ∙ r.replied
