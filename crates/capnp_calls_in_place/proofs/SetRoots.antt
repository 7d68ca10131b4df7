-- The value and the replies of calls that put numbers.
use Rattle.std.proofs.Common.{◌≡◌, ℕ, suc, ◌*◌, ◌^◌, ◌<◌, List, [], ◌∷◌, length, replicate, refl, ap, sym, subst, ◌∙◌}
use Rattle.capnp_model.specs.Sections.{needed_words}
use Rattle.capnp_model.specs.Trees.{Tree, null, capability, structure, plain_list, pointer_list, struct_list, Trees, depth}
use Rattle.capnp_model.specs.Trimming.{trim, trim_each, stripped}
use Rattle.capnp_model.specs.Fits.{Fits}
use Rattle.capnp_model.specs.Encoding.{canonical_words}
use Rattle.capnp_model.specs.Schemas.{Shape, shape}
use Rattle.capnp_model.specs.Readings.{record_of}
use Rattle.capnp_model.specs.Calls.{Call}
use Rattle.capnp_model.specs.Answers.{Reply, reply_done, replies, edits, widened_root}
use Rattle.capnp_model.specs.Edits.{edit}
use Rattle.capnp_model.proofs.lemmas.Widening.{trim-widened}
use Rattle.capnp_values_queries.specs.Structs.{schema_around, shape_of_struct, id_of}
use Rattle.capnp_values_queries.specs.declared.structs.StructSchema.{StructSchema}
use Rattle.capnp_model.specs.Printing.{as_it_is}
use Rattle.capnp_calls_in_place.specs.PlainSets.{ArePlain, after_calls, SetsWords}
use Rattle.capnp_calls_in_place.proofs.SplicedKids.{depths_padded}
use Rattle.capnp_calls_splice.specs.DataWords.{put_set, put_sets, AreWordsAfter}
use Rattle.capnp_calls_splice.specs.declared.plain.PlainSet.{PlainSet}

-- ---- structs as their schema opens them

as_deep : (g : Shape) (n s u : ℕ) (kids : Trees) → depth (widened_root g (structure n u kids)) ≡ depth (structure n s kids)
as_deep (shape nid words pointers union fs) n s u kids = ap suc (depths_padded pointers kids)

trimmed : (g : Shape) (n s u : ℕ) (kids : Trees) → u < 2 ^ (64 * n) → needed_words n u ≡ n → trim (structure n s kids) ≡ structure n s kids → trim (widened_root g (structure n u kids)) ≡ structure n u kids
unfolding trim
trimmed (shape nid words pointers union fs) n s u kids small least is =
    let same : stripped (trim_each kids) ≡ kids = cc is in
    trim-widened words pointers n u kids small ∙ ap (λ (m : ℕ). structure m u (stripped (trim_each kids))) least ∙ ap (structure n u) same

-- ---- calls in turn

module _ (schema : StructSchema) where
  edits_are : (calls : List Call) (sets : List PlainSet) → ArePlain schema calls sets → (n section : ℕ) (kids : Trees)
      → after_calls schema calls (structure n section kids) ≡ widened_root (shape_of_struct schema) (structure n (put_sets sets section) kids)
  unfolding edits
  edits_are [] [] h n section kids = refl
  edits_are [] (p ∷ ps) h n section kids = absurd h
  edits_are (c ∷ cs) [] h n section kids = absurd h
  edits_are (c ∷ cs) (p ∷ ps) h n section kids = ap (edits (schema_around schema) (id_of schema) cs) (h.0.edited n section kids) ∙ edits_are cs ps h.1 n (put_set p section) kids

  replies_are : (calls : List Call) (sets : List PlainSet) → ArePlain schema calls sets → (n section : ℕ) (kids : Trees)
      → replies (schema_around schema) as_it_is (id_of schema) calls (widened_root (shape_of_struct schema) (structure n section kids)) ≡ replicate (length calls) reply_done
  unfolding replies
  replies_are [] [] h n section kids = refl
  replies_are [] (p ∷ ps) h n section kids = absurd h
  replies_are (c ∷ cs) [] h n section kids = absurd h
  replies_are (c ∷ cs) (p ∷ ps) h n section kids =
      let s = schema_around schema in
      let id = id_of schema in
      let t : Tree = widened_root (shape_of_struct schema) (structure n section kids) in
      ap (λ (r : Reply). r ∷ replies s as_it_is id cs (edit s id c t)) (h.0.replied (record_of s id t))
      ∙ ap (λ (u : Tree). reply_done ∷ replies s as_it_is id cs u) (h.0.edited n section kids) ∙ ap (λ (rs : List Reply). reply_done ∷ rs) (replies_are cs ps h.1 n (put_set p section) kids)

  -- The words after numbers are put are those of the trimmed value after the calls.
  pub sets_words : (calls : List Call) (sets : List PlainSet) (t : Tree) (new : List ℕ) → ArePlain schema calls sets → Fits t → trim t ≡ t → AreWordsAfter sets t new → SetsWords schema calls t new
  sets_words calls sets null new h f is after = absurd after
  sets_words calls sets (capability i) new h f is after = absurd after
  sets_words calls sets (structure n section kids) new h f is after =
      let g = shape_of_struct schema in
      let u : ℕ = put_sets sets section in
      let value = edits_are calls sets h n section kids in
      let cut : trim (after_calls schema calls (structure n section kids)) ≡ structure n u kids = ap trim value ∙ trimmed g n section u kids after.fits after.least is in
      record {
        done = replies_are calls sets h n section kids;
        words = after.words ∙ ap canonical_words (sym cut);
        fits = subst Fits (sym cut) (f.0, f.1, after.fits, f.3);
        deep = ap depth value ∙ as_deep g n section u kids;
      }
  sets_words calls sets (plain_list z m section) new h f is after = absurd after
  sets_words calls sets (pointer_list ts) new h f is after = absurd after
  sets_words calls sets (struct_list d p es) new h f is after = absurd after
