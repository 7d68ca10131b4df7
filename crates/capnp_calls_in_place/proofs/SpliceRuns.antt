-- The value and the replies of calls that put splices in turn.
use Rattle.std.proofs.Common.{◌≡◌, ℕ, suc, ◌*◌, ◌^◌, ◌<◌, List, [], ◌∷◌, ◌++◌, length, replicate, refl, ap, sym, subst, ◌∙◌, arith}
use Rattle.capnp_model.specs.Trees.{Tree, null, capability, structure, plain_list, pointer_list, struct_list, Trees, depth}
use Rattle.capnp_model.specs.Trimming.{trim}
use Rattle.capnp_model.specs.Fits.{Fits}
use Rattle.capnp_model.specs.Encoding.{canonical_words}
use Rattle.capnp_model.specs.Schemas.{Shape, shape}
use Rattle.capnp_model.specs.Calls.{Call}
use Rattle.capnp_model.specs.Answers.{Reply, reply_done, replies, edits, widened_root}
use Rattle.capnp_model.specs.Edits.{edit}
use Rattle.capnp_model.proofs.lemmas.Widening.{trim-widened}
use Rattle.capnp_values_queries.specs.Structs.{schema_around, shape_of_struct, id_of}
use Rattle.capnp_values_queries.specs.declared.structs.StructSchema.{StructSchema}
use Rattle.capnp_model.specs.Printing.{as_it_is}
use Rattle.capnp_calls_splice.specs.Splices.{IsSpliced, HasSpliced}
use Rattle.capnp_calls_splice.specs.declared.splice.Splice.{Splice}
use Rattle.capnp_calls_in_place.specs.PlainSets.{SetsWords}
use Rattle.capnp_calls_in_place.specs.CallSplices.{MakesTrimmed}
use Rattle.capnp_calls_in_place.proofs.CallWays.{AreCallSplices}
use Rattle.capnp_calls_in_place.proofs.SplicedKids.{depths_padded}

-- The value after splices, one put after the other.
abbrev pub AreSpliced : List Splice → Tree → Tree → Type 0
AreSpliced [] t v = t ≡ v
AreSpliced (p ∷ ps) t v = (u : Tree) × IsSpliced p t u × Fits u × AreSpliced ps u v

-- These are the canonical words of it.
pub record HaveSpliced (ps : List Splice) (t : Tree) (words : List ℕ) : Type 0 where
  pub value : Tree
  pub spliced : AreSpliced ps t value
  pub fits : Fits value
  pub spelled : words ≡ canonical_words value

one_more : (ps : List Splice) (p : Splice) (t u v : Tree) → AreSpliced ps t u → IsSpliced p u v → Fits v → AreSpliced (ps ++ p ∷ []) t v
one_more [] p t u v h k fits = (v, subst (λ (x : Tree). IsSpliced p x v) (sym h) k, fits, refl)
one_more (q ∷ ps) p t u v h k fits = (h.0, h.1, h.2, one_more ps p h.0 u v h.3 k fits)

-- One splice more.
pub next_spliced : (ps : List Splice) (p : Splice) (t : Tree) (now new : List ℕ) → HaveSpliced ps t now → ((u : Tree) → Fits u → now ≡ canonical_words u → HasSpliced p u new) → HaveSpliced (ps ++ p ∷ []) t new
next_spliced ps p t now new h next =
    let one = next h.value h.fits h.spelled in
    record { value = one.value; spliced = one_more ps p t h.value one.value h.spliced one.spliced one.fits; fits = one.fits; spelled = one.spelled }

-- ---- calls in turn

-- What calls make of a value.
pub record MakeInTurn (schema : StructSchema) (calls : List Call) (old new : Tree) : Type 0 where
  done : replies (schema_around schema) as_it_is (id_of schema) calls old ≡ replicate (length calls) reply_done
  made : trim (edits (schema_around schema) (id_of schema) calls old) ≡ new
  deep : depth (edits (schema_around schema) (id_of schema) calls old) ≡ depth old

module _ (schema : StructSchema) where
  make : (calls : List Call) (ps : List Splice) → AreCallSplices schema calls ps → (old t new : Tree) → trim old ≡ t → Fits t → AreSpliced ps t new → MakeInTurn schema calls old new
  unfolding edits replies
  make [] [] h old t new is fits spliced = record { done = refl; made = is ∙ spliced; deep = refl }
  make [] (p ∷ ps) h old t new is fits spliced = absurd h
  make (c ∷ cs) [] h old t new is fits spliced = absurd h
  make (c ∷ cs) (p ∷ ps) h old t new is fits spliced =
      let s = schema_around schema in
      let id = id_of schema in
      let one : MakesTrimmed schema c old spliced.0 = h.0 old spliced.0 (subst Fits (sym is) fits) (subst (λ (x : Tree). IsSpliced p x spliced.0) (sym is) spliced.1) in
      let rest : MakeInTurn schema cs (edit s id c old) new = make cs ps h.1 (edit s id c old) spliced.0 new one.made spliced.2 spliced.3 in
      record {
        done = ap (λ (r : Reply). r ∷ replies s as_it_is id cs (edit s id c old)) one.replied ∙ ap (λ (rs : List Reply). reply_done ∷ rs) rest.done;
        made = rest.made;
        deep = rest.deep ∙ one.deep;
      }

  opened_trims : (g : Shape) (n s : ℕ) (kids : Trees) → s < 2 ^ (64 * n) → trim (structure n s kids) ≡ structure n s kids → trim (widened_root g (structure n s kids)) ≡ structure n s kids
  opened_trims (shape nid words pointers union fs) n s kids small is = trim-widened words pointers n s kids small ∙ is

  as_deep : (g : Shape) (n s : ℕ) (kids : Trees) → depth (widened_root g (structure n s kids)) ≡ depth (structure n s kids)
  as_deep (shape nid words pointers union fs) n s kids = ap suc (depths_padded pointers kids)

  some_struct : (calls : List Call) (ps : List Splice) (t : Tree) (words : List ℕ) → AreCallSplices schema calls ps → Fits t → trim t ≡ t → (p : Splice) (qs : List Splice) → ps ≡ p ∷ qs → HaveSpliced ps t words → SetsWords schema calls t words
  some_struct calls ps t words h fits is p qs some stands = by t fits is stands.spliced (subst (λ (x : List Splice). AreSpliced x t stands.value) some stands.spliced)
    where
      by : (t : Tree) → Fits t → trim t ≡ t → AreSpliced ps t stands.value → AreSpliced (p ∷ qs) t stands.value → SetsWords schema calls t words
      by null fits is spliced first = absurd first.1
      by (capability i) fits is spliced first = absurd first.1
      by (structure n s kids) fits is spliced first =
          let g = shape_of_struct schema in
          let made : MakeInTurn schema calls (widened_root g (structure n s kids)) stands.value = make calls ps h (widened_root g (structure n s kids)) (structure n s kids) stands.value (opened_trims g n s kids fits.2 is) fits spliced in
          record {
            done = made.done;
            words = stands.spelled ∙ ap canonical_words (sym made.made);
            fits = subst Fits (sym made.made) stands.fits;
            deep = made.deep ∙ as_deep g n s kids;
          }
      by (plain_list z m section) fits is spliced first = absurd first.1
      by (pointer_list ts) fits is spliced first = absurd first.1
      by (struct_list d k es) fits is spliced first = absurd first.1

  -- The words are those of the trimmed value after the calls.
  pub spliced_words : (calls : List Call) (ps : List Splice) (t : Tree) (words : List ℕ) → AreCallSplices schema calls ps → Fits t → trim t ≡ t → 0 < length ps → HaveSpliced ps t words → SetsWords schema calls t words
  spliced_words calls [] t words h fits is some stands = absurd (omega (arith, some))
  spliced_words calls (p ∷ ps) t words h fits is some stands = some_struct calls (p ∷ ps) t words h fits is p ps refl stands
