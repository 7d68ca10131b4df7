-- Calls in turn at values of one trimmed value.
use Rattle.std.proofs.Common.{◌≡◌, ℕ, true, List, [], ◌∷◌, ◌++◌, refl, sym, ◌∙◌, ap, subst}
use Rattle.std.proofs.lemmas.List.{append-nil}
use Rattle.capnp_model.specs.Trees.{Tree}
use Rattle.capnp_model.specs.Trimming.{trim}
use Rattle.capnp_model.specs.Schemas.{struct, Node, Schema}
use Rattle.capnp_model.specs.Readings.{record_of}
use Rattle.capnp_model.specs.Calls.{Call}
use Rattle.capnp_model.specs.Edits.{edit}
use Rattle.capnp_model.specs.Accepted.{schema_of}
use Rattle.capnp_model.specs.InKind.{in_kind}
use Rattle.capnp_model.specs.CallRuns.{IsStart}
use Rattle.capnp_model.specs.Answers.{edits}
use Rattle.capnp_model.proofs.lemmas.TrimTwice.{trim-trim}
use Rattle.capnp_model.proofs.lemmas.TrimmedAnswers.{trimmed_record}
use Rattle.capnp_model.proofs.lemmas.TrimmedKinds.{in_kind-trim, trim_open}
use Rattle.capnp_model.proofs.lemmas.EditLaws.{next_start}
use Rattle.capnp_model_versions.specs.Whole.{IsWhole}
use Rattle.capnp_model_versions.specs.StructElements.{SetNoStructElements}
use Rattle.capnp_model_versions.proofs.lemmas.WholeValues.{whole-trim}
use Rattle.capnp_model_versions.proofs.Alike.{Alike}
use Rattle.capnp_model_versions.proofs.TrimmedEdits.{alike-edits}

-- ---- calls in turn

pub edits-append : (s : Schema) (id : ℕ) (cs ds : List Call) (t : Tree) → edits s id (cs ++ ds) t ≡ edits s id ds (edits s id cs t)
unfolding edits
edits-append s id [] ds t = refl
edits-append s id (c ∷ cs) ds t = edits-append s id cs ds (edit s id c t)

module _ (nodes : List Node) (id : ℕ) where
  abbrev s : Schema
  s = schema_of nodes

  same_record : (t u : Tree) → trim t ≡ trim u → in_kind s t (struct id) ≡ true → in_kind s u (struct id) ≡ true → record_of s id t ≡ record_of s id u
  same_record t u e k k' = sym (trimmed_record s id t k) ∙ ap (record_of s id) e ∙ trimmed_record s id u k'

  -- what stands after calls at both, before others
  pub record AreAlike (calls others : List Call) (t u : Tree) : Type 0 where
    pub alike : Alike (edits s id calls t) (edits s id calls u)
    pub start : IsStart nodes id others (edits s id calls t)
    pub start' : IsStart nodes id others (edits s id calls u)

  -- THE LAW: calls in turn at values of one trimmed value
  pub alike-calls : (calls others : List Call) → SetNoStructElements s id calls → (t u : Tree) → Alike t u → IsStart nodes id (calls ++ others) t → IsStart nodes id (calls ++ others) u → AreAlike calls others t u
  unfolding edits
  alike-calls [] others plain t u a x y = record { alike = a; start = x; start' = y }
  alike-calls (c ∷ cs) others plain t u a x y =
      let b = alike-edits nodes x.accepted id c plain.0.whole plain.0.sets_none t u a x.opens y.opens (same_record t u a.trims x.kinds.of_tree y.kinds.of_tree) in
      let rest = alike-calls cs others plain.1 (edit s id c t) (edit s id c u) b (next_start nodes id c (cs ++ others) t x) (next_start nodes id c (cs ++ others) u y) in
      record { alike = rest.alike; start = rest.start; start' = rest.start' }

  -- the same calls can start from the trimmed value
  pub trimmed_start : (calls : List Call) (t : Tree) → IsStart nodes id calls t → IsStart nodes id calls (trim t)
  trimmed_start calls t x = record {
    accepted = x.accepted;
    root = x.root;
    given = x.given;
    opens = trim_open t x.opens;
    kinds = record { of_tree = in_kind-trim s t (struct id) ∙ x.kinds.of_tree; reached = x.kinds.reached; has_root = x.kinds.has_root; are_closed = x.kinds.are_closed; of_defaults = x.kinds.of_defaults; of_values = x.kinds.of_values };
  }

-- THE LAW: trimming before the calls, or after them
pub trimmed-calls : (nodes : List Node) (id : ℕ) (calls : List Call) (t : Tree) → SetNoStructElements (schema_of nodes) id calls → IsWhole t → IsStart nodes id calls t → trim (edits (schema_of nodes) id calls (trim t)) ≡ trim (edits (schema_of nodes) id calls t)
trimmed-calls nodes id calls t plain h x =
    let all : IsStart nodes id (calls ++ []) t = subst (λ z. IsStart nodes id z t) (sym (append-nil calls)) x in
    (alike-calls nodes id calls [] plain (trim t) t (record { trims = trim-trim t; whole = whole-trim t h; whole' = h }) (trimmed_start nodes id (calls ++ []) t all) all).alike.trims
