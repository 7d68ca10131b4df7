-- Calls that set plain fields of a root, put where the words of its message stand.
use Rattle.std.proofs.Common.{◌≡◌, ℕ, ◌<◌, ◌≤◌, ◌^◌, true, Some, List, [], ◌∷◌, ◌++◌, length, take, drop, refl, ap, sym, ◌∙◌, subst, length-take, arith}
use Rattle.std.specs.Prelude.{nat_le, replicate}
use Rattle.std.specs.Coded.{×_prop, Unit-prop}
use Rattle.std.specs.Int.{from_le_bytes, w64}
use Rattle.std.proofs.Props.{props}
use Rattle.std.proofs.Math.Seq.{take-append_seam}
use Rattle.std.proofs.lemmas.List.{take-map}
use Rattle.std.proofs.lemmas.Bool.Decides.{nat_tests}
use Rattle.capnp_model.specs.Segments.{root}
use Rattle.capnp_model.specs.Trees.{Tree, null, capability, structure, plain_list, pointer_list, struct_list, Trees, none, ◌▸◌, Elements, no_elements, element, depth}
use Rattle.capnp_model.specs.Fits.{Fits, FitEach, FitElements}
use Rattle.capnp_model.specs.Trimming.{trim}
use Rattle.capnp_model.specs.Encoding.{canonical_words}
use Rattle.capnp_model.specs.Traversal.{tree_at}
use Rattle.capnp_model.specs.Calls.{Call}
use Rattle.capnp_model.specs.Answers.{reply_done, written, widened_root}
use Rattle.capnp_values_queries.specs.Structs.{shape_of_struct}
use Rattle.capnp_values_queries.specs.declared.structs.StructSchema.{StructSchema}
use Rattle.capnp_wire_canonical.specs.Writes.{filled, words_view}
use Rattle.capnp_calls_in_place.specs.PlainSets.{SetsWords, after_calls}
use Rattle.capnp_relay_answers.specs.Answers.{AnswersStruct}
use Rattle.capnp_relay_loop.specs.declared.answer.MessageAnswer.TheVariants as answers
use Rattle.capnp_relay_answers.proofs.Whole.{length_filled}
use Rattle.capnp_relay_answers.proofs.Edited.{answers_written}

-- that a value fits has one proof
mutual
  Fits-prop : (t : Tree) → IsProp (Fits t)
  Fits-prop null = Unit-prop
  Fits-prop (structure words section kids) = hlevel (props, FitEach-prop kids)
  Fits-prop (plain_list size n section) = hlevel props
  Fits-prop (pointer_list ts) = hlevel (props, FitEach-prop ts)
  Fits-prop (struct_list d k es) = hlevel (props, FitElements-prop d k es)
  Fits-prop (capability i) = hlevel props

  FitEach-prop : (ts : Trees) → IsProp (FitEach ts)
  FitEach-prop none = Unit-prop
  FitEach-prop (t ▸ ts) = ×_prop (Fits-prop t) (FitEach-prop ts)

  FitElements-prop : (d k : ℕ) (es : Elements) → IsProp (FitElements d k es)
  FitElements-prop d k no_elements = Unit-prop
  FitElements-prop d k (element section kids es) = hlevel (props, FitEach-prop kids, FitElements-prop d k es)

-- and so has what calls that are put say of the words
pub SetsWords-prop : (schema : StructSchema) (calls : List Call) (t : Tree) (new : List ℕ) → IsProp (SetsWords schema calls t new)
SetsWords-prop schema calls t new = hlevel (props, Fits-prop)

pub front_new : (count : ℕ) (old new : List (List ℕ)) → length new ≡ length (take count old) → count ≤ length old → filled count (new ++ drop count old) ≡ words_view new
front_new count old new size inside =
    let long : length new ≡ count = size ∙ omega (arith, length-take count old, inside) in
    ap (λ (n : ℕ). filled n (new ++ drop count old)) (sym long) ∙ take-map (from_le_bytes w64) (length new) (new ++ drop count old) ∙ ap words_view (take-append_seam new (drop count old))

-- the answer where all calls are put
pub done_struct : ((t : Tree) (n : ℕ) → Fits t → depth t ≤ n → length (canonical_words t) ≤ 2 ^ 29 → tree_at n (canonical_words t ∷ []) root ≡ Some t) → ((t : Tree) → depth (trim t) ≤ depth t)
    → (schema : StructSchema) (calls : List Call) (levels count n : ℕ) (into : List (List ℕ)) (t : Tree) → n ≡ length calls → depth t ≤ levels → count ≤ length into → count < 2 ^ 29 → SetsWords schema calls t (filled count into)
    → AnswersStruct schema calls levels into (widened_root (shape_of_struct schema) t) (answers.Done count n)
done_struct means trim_depth schema calls levels count n into t all deep inside few sets =
    let e : Tree = after_calls schema calls t in
    let same = sets.deep in
    let low : depth e ≤ levels = omega (arith, same, deep) in
    let keeps : nat_le (depth e) levels ≡ true = grind (arith, nat_tests) in
    let less = trim_depth e in
    let counted = length_filled count into in
    let long = ap length sets.words in
    let short : length (canonical_words (trim e)) ≤ 2 ^ 29 = omega (arith, long, counted, few) in
    let replied = ap (λ (k : ℕ). replicate k reply_done) all ∙ sym sets.done in
    record {
      same = ap (λ (ws : List ℕ). written (ws ∷ []) (replicate n reply_done)) sets.words ∙ answers_written schema calls levels (widened_root (shape_of_struct schema) t) e (replicate n reply_done) refl replied keeps;
      means = subst (λ (ws : List ℕ). tree_at levels (ws ∷ []) root ≡ Some (trim e)) (sym sets.words) (means (trim e) levels sets.fits (omega (arith, less, low)) short);
      stands = (inside, few);
    }
