-- One call: what was tested is written.
use Rattle.std.proofs.Common.{◌≡◌, ℕ, ◌≤◌, max, List, [], ◌∷◌, Option, Some, None, refl, ap, sym, ◌∙◌, subst, arith}
use Rattle.capnp_model.specs.Trees.{Tree, structure, tree_count, padded_to}
use Rattle.capnp_model.specs.Schemas.{Shape, shape, Schema, words_of_shape, pointers_of_shape}
use Rattle.capnp_model.specs.Readings.{Record, record_of, record_by_shape}
use Rattle.capnp_model.specs.Calls.{Step, name, index, Call}
use Rattle.capnp_model.specs.Steps.{Outcome, refused, shown, done, step}
use Rattle.capnp_model.specs.Edits.{Cell, edit_named, edit_field, in_struct, if_done, write_path, edit}
use Rattle.capnp_model.specs.Answers.{Reply, reply_done, text_reply, reply_of}
use Rattle.capnp_values_queries.specs.Structs.{schema_around, id_of, shape_of_struct}
use Rattle.capnp_values_queries.specs.declared.structs.StructSchema.{StructSchema}
use Rattle.capnp_model.specs.Printing.{as_it_is}
use Rattle.capnp_calls.specs.Sizes.{IsDone}
use Rattle.capnp_calls.specs.Paths.{shape_outcome, shape_edit}
use Rattle.capnp_copy_widening.proofs.lemmas.GotStructs.{padded_enough}
use Rattle.capnp_calls.specs.Roots.{record_at}
use Rattle.capnp_calls_run.specs.Runs.{AnswersCall}

no_text : (o : Option (List ℕ)) → reply_done ≡ text_reply o → ⊥
no_text None h = cc h
no_text (Some t) h = cc h

pub told_done : {A : Type 0} (s : Schema) (o : Outcome A) → reply_done ≡ reply_of s as_it_is o → IsDone o
told_done s (refused k) h = absurd (cc h)
told_done s (shown how r) h = absurd (no_text _ h)
told_done s (done x) h = tt

module _ (root : StructSchema) (c : Call) (words : ℕ) (cell : Cell) where
  abbrev s : Schema
  s = schema_around root

  abbrev g : Shape
  g = shape_of_struct root

  abbrev pub old : Tree
  old = structure words cell.section cell.kids

  abbrev pub outcome : Outcome Record
  outcome = step s (id_of root) c (record_at root old)

  pub outcome_is : outcome ≡ shape_outcome s g c.path c.verb cell
  unfolding step shape_outcome record_of record_by_shape
  outcome_is = refl

  -- where the call isn't done the struct stays
  pub stays : (told : Reply) → told ≡ reply_of s as_it_is outcome → (told ≡ reply_done → ⊥) → AnswersCall root c old old told
  unfolding edit
  stays told replied other = record { replied = replied; tree = by outcome replied }
    where
      by : (o : Outcome Record) → told ≡ reply_of s as_it_is o → old ≡ if_done o (write_path s g c.path c.verb old) old
      by (refused k) h = refl
      by (shown how r) h = refl
      by (done r) h = absurd (other h)

  wide_enough : (n : List ℕ) (rest : List Step) → words_of_shape g ≤ words → pointers_of_shape g ≤ tree_count cell.kids
      → write_path s g (name n ∷ rest) c.verb old ≡ (let d = shape_edit s g (name n ∷ rest) c.verb cell in structure words d.section d.kids)
  wide_enough n rest wide long = by g wide long
    where
      by : (h : Shape) → words_of_shape h ≤ words → pointers_of_shape h ≤ tree_count cell.kids → write_path s h (name n ∷ rest) c.verb old ≡ (let d = shape_edit s h (name n ∷ rest) c.verb cell in structure words d.section d.kids)
      by (shape nid w p u fs) a b =
          let e : max w words ≡ words = omega (arith, a) in
          ap (λ k. in_struct w (edit_named (edit_field s rest c.verb) n u fs) (structure k cell.section (padded_to p cell.kids))) e
          ∙ ap (λ ts. in_struct w (edit_named (edit_field s rest c.verb) n u fs) (structure words cell.section ts)) (padded_enough p cell.kids b)

  -- where it is done the struct becomes what the edit makes of it
  pub edited : IsDone (shape_outcome s g c.path c.verb cell) → words_of_shape g ≤ words → pointers_of_shape g ≤ tree_count cell.kids
      → (let d = shape_edit s g c.path c.verb cell in structure words d.section d.kids) ≡ edit s (id_of root) c old
  unfolding edit shape_outcome
  edited is wide long = by c.path refl outcome (subst IsDone (sym outcome_is) is)
    where
      written : (path : List Step) → c.path ≡ path → IsDone (shape_outcome s g path c.verb cell) → (let d = shape_edit s g path c.verb cell in structure words d.section d.kids) ≡ write_path s g path c.verb old
      written [] e h = absurd h
      written (name n ∷ rest) e h = sym (wide_enough n rest wide long)
      written (index k ∷ rest) e h = absurd h

      by : (path : List Step) → c.path ≡ path → (o : Outcome Record) → IsDone o → (let d = shape_edit s g c.path c.verb cell in structure words d.section d.kids) ≡ if_done o (write_path s g c.path c.verb old) old
      by path e (refused k) h = absurd h
      by path e (shown how r) h = absurd h
      by path e (done r) h = written c.path refl is
