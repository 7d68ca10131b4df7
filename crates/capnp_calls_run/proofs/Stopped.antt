-- Calls in turn that stop early.
use Rattle.std.proofs.Common.{◌≡◌, ◌+◌, false, inl, inr, List, [], ◌∷◌, ◌++◌, refl, ap, sym, ◌∙◌, subst, arith}
use Rattle.std.specs.Option.{is_some}
use Rattle.capnp_units.specs.declared.errors.Error.{Error}
use Rattle.capnp_units.specs.declared.kinds.ErrorKind.TheVariants.{OutOfMemory}
use Rattle.capnp_model.specs.Segments.{Segments, words_at}
use Rattle.capnp_model.specs.Coverage.{Grows}
use Rattle.capnp_model.specs.Trees.{Tree, structure}
use Rattle.capnp_model.specs.Calls.{Call}
use Rattle.capnp_model.specs.Answers.{Reply, reply_done, edits}
use Rattle.capnp_wire_objects.specs.Places.{place_view}
use Rattle.capnp_model_writes.specs.Changes.{ReplacesObject}
use Rattle.capnp_model_writes.proofs.lemmas.Algebra.{changes_nothing}
use Rattle.capnp_copy_arenas.specs.Structs.{object_of_struct}
use Rattle.capnp_copy_arenas.specs.declared.fields.StructPlace.{StructPlace}
use Rattle.capnp_values_queries.specs.Structs.{schema_around, shape_of_struct, id_of}
use Rattle.capnp_values_queries.specs.declared.structs.StructSchema.{StructSchema}
use Rattle.capnp_schema_structs.specs.Grown.{GrowsAround}
use Rattle.capnp_calls.specs.Sizes.{IsDone}
use Rattle.capnp_calls.specs.Paths.{shape_outcome}
use Rattle.capnp_calls_edits.specs.Written.{WhereDone}
use Rattle.capnp_model.specs.Edits.{Cell}
use Rattle.capnp_calls_run.specs.declared.fault.RunFault.{RunFault}
use Rattle.capnp_calls_run.specs.declared.fault.RunFault.TheVariants as faults
use Rattle.capnp_calls_run.specs.Runs.{TestsAt, TellsWhy, FailsAt, StopsBy, StopsAt}
use Rattle.capnp_calls_run.proofs.Levels.{After}
use Rattle.capnp_calls_run.proofs.Standing.{words}
use Rattle.capnp_calls_run.proofs.OneCall.{told_done, outcome, outcome_is}
use Rattle.capnp_calls_run.proofs.InTurn.{SoFar}

stays_grown : (s : Segments) → Grows s s
stays_grown s i xs at = (xs, at, omega arith)

-- a struct that is owned is there
pub fails_nowhere : (why : Error → Type 0) → (s : Segments) (p : StructPlace) (root : StructSchema) (c : Call) (fault : RunFault) → is_some (words_at s (place_view p.start) (p.data_words + p.pointers)) ≡ false → FailsAt why s s (record { place = p; schema = root }) c fault
fails_nowhere why s p root c fault none n section kids most owns =
    let there = words n s (place_view p.start) p.data_words p.pointers section kids owns.means in
    absurd (cc (sym none ∙ ap is_some there.1))

-- memory for a reply is refused
pub fails_before : (why : Error → Type 0) → (s : Segments) (p : StructPlace) (root : StructSchema) (c : Call) (e : Error) → e.kind ≡ OutOfMemory → FailsAt why s s (record { place = p; schema = root }) c (faults.Refused e)
fails_before why s p root c e memory n section kids most owns = (stays_grown s, inl memory)

-- a call that is done isn't written
pub fails_written : (why : Error → Type 0) → (s u : Segments) (p : StructPlace) (root : StructSchema) (c : Call) (fault : RunFault) → TestsAt s p root c reply_done → GrowsAround s u p → (e : Error) → WhereDone s p root c (why e) → TellsWhy root c e fault → FailsAt why s u (record { place = p; schema = root }) c fault
fails_written why s u p root c faults.Size tests grows e cause tells n section kids most owns =
    (grows n section kids owns, record { is_done = told_done (schema_around root) (outcome root c p.data_words (record { section = section; kids = kids })) (tests n section kids most owns); is_long = tells })
fails_written why s u p root c (faults.Refused x) tests grows e cause tells n section kids most owns =
    let cell : Cell = record { section = section; kids = kids } in
    let is_done = told_done (schema_around root) (outcome root c p.data_words cell) (tests n section kids most owns) in
    let is : IsDone (shape_outcome (schema_around root) (shape_of_struct root) c.path c.verb cell) = subst IsDone (outcome_is root c p.data_words cell) is_done in
    (grows n section kids owns, inr (record { is_done = is_done; why = subst why (sym tells.0) (cause n section kids owns is); short = tells.1 }))

-- what stands when the calls before had their effect, and memory for the replies is refused
pub stops_behind : (why : Error → Type 0) → (s u : Segments) (p : StructPlace) (root : StructSchema) (before behind all : List Call) (told : List Reply) (e : Error) → all ≡ before ++ behind → e.kind ≡ OutOfMemory → SoFar s u p root before behind all told → StopsAt why s u (record { place = p; schema = root }) all (faults.Refused e)
stops_behind why s u p root before behind all told e split memory so_far n section kids most owns =
    let a = so_far n section kids most owns in record {
      before = before;
      behind = behind;
      split = split;
      mid = u;
      made = subst (ReplacesObject n s u (object_of_struct p)) a.3.tree a.2;
      grows = stays_grown u;
      why = by behind (edits (schema_around root) (id_of root) before (structure p.data_words section kids));
    }
  where
    by : (cs : List Call) (t : Tree) → StopsBy why root cs t (faults.Refused e)
    by [] t = memory
    by (c ∷ cs) t = inl memory

-- and the next fails
pub stops_next : (why : Error → Type 0) → After → (s u v : Segments) (p : StructPlace) (root : StructSchema) (before : List Call) (c : Call) (behind all : List Call) (told : List Reply) (fault : RunFault) → all ≡ before ++ c ∷ behind → SoFar s u p root before (c ∷ behind) all told → FailsAt why u v (record { place = p; schema = root }) c fault → StopsAt why s v (record { place = p; schema = root }) all fault
stops_next why after s u v p root before c behind all told fault split so_far fails n section kids most owns =
    let a = so_far n section kids most owns in
    let owned = after n s u (object_of_struct p) (structure p.data_words section kids) (structure p.data_words a.0 a.1) owns a.2 in
    let f = fails n a.0 a.1 most owned in record {
      before = before;
      behind = c ∷ behind;
      split = split;
      mid = u;
      made = subst (ReplacesObject n s u (object_of_struct p)) a.3.tree a.2;
      grows = f.0;
      why = subst (λ (t : Tree). StopsBy why root (c ∷ behind) t fault) a.3.tree f.1;
    }

-- nothing is made before the ways are found
pub stops_first : (why : Error → Type 0) → (s : Segments) (p : StructPlace) (root : StructSchema) (all : List Call) (e : Error) → e.kind ≡ OutOfMemory → StopsAt why s s (record { place = p; schema = root }) all (faults.Refused e)
unfolding edits
stops_first why s p root all e memory n section kids most owns = record {
  before = [];
  behind = all;
  split = refl;
  mid = s;
  made = record { means = owns.means; changes = changes_nothing s _ };
  grows = stays_grown s;
  why = by all;
}
  where
    by : (cs : List Call) → StopsBy why root cs (structure p.data_words section kids) (faults.Refused e)
    by [] = memory
    by (c ∷ cs) = inl memory
