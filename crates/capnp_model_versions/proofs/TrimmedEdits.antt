-- Edits of values of one trimmed value.
use Rattle.std.proofs.Common.{◌≡◌, ℕ, ◌*◌, ◌≤◌, false, ◌&&◌, List, [], ◌∷◌, refl, sym, ◌∙◌, ap, subst, arith}
use Rattle.capnp_model.specs.Trees.{Tree}
use Rattle.capnp_model.specs.Trimming.{trim}
use Rattle.capnp_model.specs.Schemas.{struct, Node, Schema, words_of_shape}
use Rattle.capnp_model.specs.Readings.{Record, record_by_shape, record_of}
use Rattle.capnp_model.specs.Printing.{fields_in}
use Rattle.capnp_model.specs.Calls.{Step, name, index, Call}
use Rattle.capnp_model.specs.Steps.{Outcome, refused, shown, done, step, step_path}
use Rattle.capnp_model.specs.Edits.{edit, if_done, write_path}
use Rattle.capnp_model.specs.Accepted.{schema_of, IsAccepted}
use Rattle.capnp_model.specs.InKindCalls.{at_value, end_of}
use Rattle.capnp_model.specs.Admitted.{is_set}
use Rattle.capnp_model.specs.NamedPaths.{IsOpen}
use Rattle.capnp_model.proofs.lemmas.TrimmedAnswers.{trimmed_record}
use Rattle.capnp_model.proofs.lemmas.TrimTwice.{trim-trim}
use Rattle.capnp_model.proofs.lemmas.TrimmedKinds.{trim_open}
use Rattle.capnp_model.proofs.lemmas.ActiveMembers.{shape_good}
use Rattle.capnp_model_versions.specs.Whole.{IsWholeVerb}
use Rattle.capnp_model_versions.specs.StructElements.{is_struct_value, sets_struct_element, SetsNoStructElement}
use Rattle.capnp_model_versions.specs.Roots.{IsRootInKind}
use Rattle.capnp_model_versions.proofs.lemmas.WholeValues.{whole-trim}
use Rattle.capnp_model_versions.proofs.Alike.{Alike}
use Rattle.capnp_model_versions.proofs.Wrote.{Wrote, wrote-done}
use Rattle.capnp_model_versions.proofs.Follows.{NameFollows, FieldFollows}
use Rattle.capnp_model_versions.proofs.AlikePaths.{structs_agree}
use Rattle.capnp_model_versions.proofs.Within.{accepted-within}
use Rattle.capnp_model_versions.proofs.SelfFollows.{root-follows}

-- ---- one call under two schemas

module _ (o n : Schema) (c : Call) (whole : IsWholeVerb c.verb) (i j : ℕ) (words : words_of_shape (o.shape_of i) ≤ words_of_shape (n.shape_of j))
    (follows : (l : List ℕ) (path : List Step) → c.path ≡ name l ∷ path → NameFollows o n c.verb (FieldFollows o n c.verb path) l (64 * words_of_shape (o.shape_of i)) (o.shape_of i) (n.shape_of j)) where
  written : (path : List Step) → c.path ≡ path → (t u : Tree) → Alike t u → IsOpen t → IsOpen u
      → Wrote (step_path o (fields_in (o.shape_of i)) path c.verb (record_by_shape o (o.shape_of i) t)) → Wrote (step_path n (fields_in (n.shape_of j)) path c.verb (record_by_shape n (n.shape_of j) u))
      → Alike (write_path o (o.shape_of i) path c.verb t) (write_path n (n.shape_of j) path c.verb u)
  written [] e t u a x y k k' = absurd k
  written (index m ∷ path) e t u a x y k k' = absurd k
  written (name l ∷ path) e t u a x y k k' = structs_agree o n c.verb whole path l i j (follows l path e) words t u a (record { open' = x; wrote = k }) (record { open' = y; wrote = k' })

  pub written-alike : (t u : Tree) → Alike t u → IsOpen t → IsOpen u → (r r' : Record) → step o i c (record_of o i t) ≡ done r → step n j c (record_of n j u) ≡ done r' → Alike (edit o i c t) (edit n j c u)
  unfolding step record_of edit
  written-alike t u a x y r r' e e' =
      subst (λ z. Alike (if_done z (write_path o (o.shape_of i) c.path c.verb t) t) (edit n j c u)) (sym e)
      (subst (λ z. Alike (write_path o (o.shape_of i) c.path c.verb t) (if_done z (write_path n (n.shape_of j) c.path c.verb u) u)) (sym e')
      (written c.path refl t u a x y (wrote-done _ r e) (wrote-done _ r' e')))

-- a call that is not carried out leaves the value
pub left : (s : Schema) (id : ℕ) (c : Call) (t : Tree) → ((r : Record) → step s id c (record_of s id t) ≡ done r → ⊥) → edit s id c t ≡ t
unfolding edit
left s id c t none = by (step s id c (record_of s id t)) refl
  where
    by : (o : Outcome Record) → step s id c (record_of s id t) ≡ o → if_done o (write_path s (s.shape_of id) c.path c.verb t) t ≡ t
    by (refused k) e = refl
    by (shown how x) e = refl
    by (done r) e = absurd (none r e)

-- ---- one schema

module _ (nodes : List Node) (accepted : IsAccepted nodes) (id : ℕ) (c : Call) (whole : IsWholeVerb c.verb) (sets : sets_struct_element (schema_of nodes) id c ≡ false) where
  abbrev s : Schema
  s = schema_of nodes

  ends : (l : List ℕ) (path : List Step) → c.path ≡ name l ∷ path → (is_set c.verb && is_struct_value (end_of s (name l ∷ path) (at_value (struct id)))) ≡ false
  ends l path p = ap (λ z. is_set c.verb && is_struct_value (end_of s z (at_value (struct id)))) (sym p) ∙ sets

  both_left : (t u : Tree) → Alike t u → ((r : Record) → step s id c (record_of s id t) ≡ done r → ⊥) → record_of s id t ≡ record_of s id u → Alike (edit s id c t) (edit s id c u)
  both_left t u a none same =
      subst (λ z. Alike z (edit s id c u)) (sym (left s id c t none)) (subst (λ z. Alike t z) (sym (left s id c u (λ r e. none r (ap (step s id c) same ∙ e)))) a)

  -- values of one trimmed value and one record
  pub alike-edits : (t u : Tree) → Alike t u → IsOpen t → IsOpen u → record_of s id t ≡ record_of s id u → Alike (edit s id c t) (edit s id c u)
  alike-edits t u a x y same = by (step s id c (record_of s id t)) refl
    where
      by : (o : Outcome Record) → step s id c (record_of s id t) ≡ o → Alike (edit s id c t) (edit s id c u)
      by (done r) e =
          written-alike s s c whole id id (omega arith)
          (λ l path p. root-follows s (accepted-within nodes accepted) (shape_good nodes accepted) c.verb path l id (ends l path p))
          t u a x y r r e (ap (step s id c) (sym same) ∙ e)
      by (refused k) e = both_left t u a (λ r h. cc (sym e ∙ h)) same
      by (shown how z) e = both_left t u a (λ r h. cc (sym e ∙ h)) same

-- THE LAW: trimming before or after a call gives one trimmed value
pub trimmed-edit : (nodes : List Node) (id : ℕ) (c : Call) (t : Tree) → SetsNoStructElement (schema_of nodes) id c → IsRootInKind nodes id t → trim (edit (schema_of nodes) id c (trim t)) ≡ trim (edit (schema_of nodes) id c t)
trimmed-edit nodes id c t plain h =
    (alike-edits nodes h.accepted id c plain.whole plain.sets_none (trim t) t (record { trims = trim-trim t; whole = whole-trim t h.whole; whole' = h.whole }) (trim_open t h.opens) h.opens (trimmed_record (schema_of nodes) id t h.kinds)).trims
