-- Calls along paths, at values into which can be put what they put.
use Rattle.std.proofs.Common.{◌≡◌, ℕ, List, ◌∷◌, refl, sym, subst}
use Rattle.capnp_model.specs.Sections.{needed_words}
use Rattle.capnp_model.specs.Trees.{Tree, null, capability, structure, plain_list, pointer_list, struct_list}
use Rattle.capnp_model.specs.Fits.{Fits}
use Rattle.capnp_model.specs.Trimming.{stripped, trim, trim_each}
use Rattle.capnp_model.specs.Schemas.{Schema}
use Rattle.capnp_model.specs.Readings.{Record, record_of}
use Rattle.capnp_model.specs.Calls.{Step, name, set_to, CallValue, Call}
use Rattle.capnp_model.specs.Steps.{Outcome, refused, shown, done, step}
use Rattle.capnp_model.specs.Edits.{Cell, write_path, if_done, edit}
use Rattle.capnp_model.specs.Answers.{reply_of, reply_done}
use Rattle.capnp_model.proofs.lemmas.ReachedStructs.{IsWithin}
use Rattle.capnp_model.proofs.lemmas.Stripping.{stripped-stripped}
use Rattle.capnp_calls.specs.Sizes.{IsDone}
use Rattle.capnp_calls_splice.specs.Splices.{IsSpliced}
use Rattle.capnp_calls_splice.specs.declared.splice.Splice.{Splice}
use Rattle.capnp_calls.specs.Splices.{PathLeadsTo}
use Rattle.capnp_calls_in_place.proofs.SplicedCells.{IsCut, Makes}
use Rattle.capnp_calls_in_place.proofs.SplicedPaths.{begins, root_is}
use Rattle.capnp_calls_in_place.proofs.SplicedSteps.{path_done}

reply_is : (s : Schema) (quoted : List ℕ → List ℕ) (o : Outcome Record) → IsDone o → reply_of s quoted o ≡ reply_done
reply_is s quoted (refused k) h = absurd h
reply_is s quoted (shown how r) h = absurd h
reply_is s quoted (done r) h = refl

edited_where : (o : Outcome Record) (new old : Tree) → IsDone o → if_done o new old ≡ new
edited_where (refused k) new old h = absurd h
edited_where (shown how r) new old h = absurd h
edited_where (done r) new old h = refl

module _ (s : Schema) (within : (i : ℕ) → IsWithin (s.shape_of i)) (id : ℕ) (v : CallValue) (p : Splice) (path : List Step) (leads : PathLeadsTo s v p.put p.hops.items (s.shape_of id) path) where
  abbrev call : Call
  call = record { path = path; verb = set_to v }

  pub call_done : (old new : Tree) → Fits (trim old) → IsSpliced p (trim old) new → IsDone (step s id call (record_of s id old))
  unfolding step record_of trim
  call_done null new fit h = absurd h
  call_done (capability i) new fit h = absurd h
  call_done (structure words section kids) new fit h =
      let cut : Cell = record { section = section; kids = stripped (trim_each kids) } in
      let old : Cell = record { section = section; kids = kids } in
      let n : ℕ = needed_words words section in
      let cuts : IsCut n cut old = record { section = refl; kids = sym (stripped-stripped (trim_each kids)); inside = fit.2; fit = fit.3 } in
      path_done s v p.put p.hops.items (s.shape_of id) path leads n h.0 cut h.1 old cuts h.2
  call_done (plain_list z m section) new fit h = absurd h
  call_done (pointer_list ts) new fit h = absurd h
  call_done (struct_list w k es) new fit h = absurd h

  written : (old new : Tree) → Fits (trim old) → IsSpliced p (trim old) new → Makes old (write_path s (s.shape_of id) path (set_to v) old) new
  written old new fit h =
      let b = begins s v p.put p.hops.items (s.shape_of id) path leads in
      let named : PathLeadsTo s v p.put p.hops.items (s.shape_of id) (name b.0 ∷ b.1) = subst (PathLeadsTo s v p.put p.hops.items (s.shape_of id)) b.2 leads in
      subst (λ (way : List Step). Makes old (write_path s (s.shape_of id) way (set_to v) old) new) (sym b.2) (root_is s v p.put within p.hops.items id b.0 b.1 named old new fit h)

  pub call_made : (old new : Tree) → Fits (trim old) → IsSpliced p (trim old) new → Makes old (edit s id call old) new
  unfolding edit
  call_made old new fit h =
      subst (λ (t : Tree). Makes old t new) (sym (edited_where (step s id call (record_of s id old)) (write_path s (s.shape_of id) path (set_to v) old) old (call_done old new fit h))) (written old new fit h)

  pub call_replied : (quoted : List ℕ → List ℕ) (old new : Tree) → Fits (trim old) → IsSpliced p (trim old) new → reply_of s quoted (step s id call (record_of s id old)) ≡ reply_done
  call_replied quoted old new fit h = reply_is s quoted (step s id call (record_of s id old)) (call_done old new fit h)
