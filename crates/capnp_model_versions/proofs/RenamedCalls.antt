-- A call under an older schema and the same call in a newer one's words, under the older in these words: they end alike and leave one value.
use Rattle.std.proofs.Common.{◌≡◌, ℕ, false, List, [], ◌∷◌, map, refl, sym, ◌∙◌, ap, subst}
use Rattle.std.specs.List.{AllByRecursion}
use Rattle.capnp_model.specs.Trees.{Tree, null, capability, structure, plain_list, pointer_list, struct_list, child}
use Rattle.capnp_model.specs.Schemas.{struct, Shape, id_of_shape, Fields, Schema}
use Rattle.capnp_model.specs.Partners.{Renaming, partner_name, renamed}
use Rattle.capnp_model.specs.RenamedCalls.{renamed_path, renamed_call}
use Rattle.capnp_model.specs.InKindCalls.{at_value, end_at}
use Rattle.capnp_model.specs.Readings.{Record, Children, Extent, whole_words, no_children, shape_record, record_by_shape, record_of}
use Rattle.capnp_model.specs.Printing.{fields_in}
use Rattle.capnp_model.specs.Calls.{Step, name, index, Verb, get, set_to, init, initn, clear, Call}
use Rattle.capnp_model.specs.Steps.{Outcome, refused, shown, done, target_of, on_name, step_field, step_path, step}
use Rattle.capnp_model.specs.Edits.{write_path, if_done, edit}
use Rattle.capnp_model.specs.Answers.{Reply, reply_refused, reply_of, replies, edits}
use Rattle.capnp_model_versions.specs.SameReplies.{IsWrite, SameUnlessGet, SameReplies}
use Rattle.capnp_model_versions.proofs.RenamedTwins.{ElementTwin}
use Rattle.capnp_model_versions.proofs.RenamedWrites.{shape-is}
use Rattle.capnp_model_versions.proofs.RenamedReadings.{kids_at, child_at, nothing_at}
use Rattle.capnp_model_versions.proofs.RenamedEnds.{end_is}
use Rattle.capnp_model_versions.proofs.RenamedSteps.{ends-alike}
use Rattle.capnp_model_versions.proofs.RenamedEdits.{path-same}
use Rattle.capnp_model_versions.proofs.WriteOnly.{Sees, not-seen}

-- ---- outcomes that end alike

stands_alike : (y z : Outcome Record) (a b t : Tree) → end_is y ≡ end_is z → a ≡ b → if_done y a t ≡ if_done z b t
stands_alike (refused k) (refused j) a b t e f = refl
stands_alike (shown how r) (shown how' x) a b t e f = refl
stands_alike (done r) (done x) a b t e f = f
stands_alike (refused k) (shown how' x) a b t e f = absurd (cc e)
stands_alike (refused k) (done x) a b t e f = absurd (cc e)
stands_alike (shown how r) (refused j) a b t e f = absurd (cc e)
stands_alike (shown how r) (done x) a b t e f = absurd (cc e)
stands_alike (done r) (refused j) a b t e f = absurd (cc e)
stands_alike (done r) (shown how' x) a b t e f = absurd (cc e)

replies_alike : (s s' : Schema) (quoted : List ℕ → List ℕ) (y z : Outcome Record) → end_is y ≡ end_is z → (Sees false y → ⊥) → reply_of s quoted y ≡ reply_of s' quoted z
replies_alike s s' quoted (refused k) (refused j) e h = let same : k ≡ j = cc in ap reply_refused same
replies_alike s s' quoted (done r) (done x) e h = refl
replies_alike s s' quoted (shown how r) z e h = absurd (h tt)
replies_alike s s' quoted (refused k) (shown how' x) e h = absurd (cc e)
replies_alike s s' quoted (refused k) (done x) e h = absurd (cc e)
replies_alike s s' quoted (done r) (refused j) e h = absurd (cc e)
replies_alike s s' quoted (done r) (shown how' x) e h = absurd (cc e)

module _ (rs : List Renaming) (o : Schema) (id : ℕ) where
  abbrev o' : Schema
  o' = renamed rs o

  abbrev fs : Fields
  fs = fields_in (o.shape_of id)

  abbrev fs' : Fields
  fs' = fields_in (o'.shape_of id)

  abbrev path' : List Step → List Step
  path' path = renamed_path rs o path (at_value (struct id))

  -- each name of the call finds the same field in both words
  abbrev pub IsTwin : Call → Type 0
  IsTwin c = ElementTwin rs o c.path (struct id)

  abbrev call' : Call → Call
  call' c = renamed_call rs o id c

  -- ---- how it ends

  at_record : (verb : Verb) (path : List Step) → ElementTwin rs o path (struct id) → (size : Extent) (section : ℕ) (f : ℕ → Tree)
      → end_is (step_path o fs path verb (shape_record (o.shape_of id) size section (kids_at o f))) ≡ end_is (step_path o' fs' (path' path) verb (shape_record (o'.shape_of id) size section (kids_at o' f)))
  unfolding renamed_path
  at_record verb [] h size section f = refl
  at_record verb (index k ∷ path) h size section f = refl
  at_record verb (name l ∷ path) h size section f =
      ends-alike rs o verb path l (o.shape_of id) size section f h
      ∙ sym (ap (λ (g : Shape). end_is (on_name (step_field o' (renamed_path rs o path (end_at (target_of l fs))) verb) (partner_name rs (id_of_shape (o.shape_of id)) l) (fields_in g) (shape_record g size section (kids_at o' f)))) (shape-is rs o id))

  at_nothing : (verb : Verb) (path : List Step) → ElementTwin rs o path (struct id)
      → end_is (step_path o fs path verb (shape_record (o.shape_of id) whole_words 0 no_children)) ≡ end_is (step_path o' fs' (path' path) verb (shape_record (o'.shape_of id) whole_words 0 no_children))
  at_nothing verb path h =
      ap (λ (ks : Children). end_is (step_path o fs path verb (shape_record (o.shape_of id) whole_words 0 ks))) (nothing_at rs o o)
      ∙ at_record verb path h whole_words 0 (λ i. null)
      ∙ sym (ap (λ (ks : Children). end_is (step_path o' fs' (path' path) verb (shape_record (o'.shape_of id) whole_words 0 ks))) (nothing_at rs o o'))

  at_tree : (verb : Verb) (path : List Step) → ElementTwin rs o path (struct id) → (t : Tree)
      → end_is (step_path o fs path verb (record_by_shape o (o.shape_of id) t)) ≡ end_is (step_path o' fs' (path' path) verb (record_by_shape o' (o'.shape_of id) t))
  unfolding record_by_shape
  at_tree verb path h (structure w x ts) =
      ap (λ (ks : Children). end_is (step_path o fs path verb (shape_record (o.shape_of id) whole_words x ks))) (child_at rs o o ts)
      ∙ at_record verb path h whole_words x (child ts)
      ∙ sym (ap (λ (ks : Children). end_is (step_path o' fs' (path' path) verb (shape_record (o'.shape_of id) whole_words x ks))) (child_at rs o o' ts))
  at_tree verb path h null = at_nothing verb path h
  at_tree verb path h (capability i) = at_nothing verb path h
  at_tree verb path h (plain_list z n x) = at_nothing verb path h
  at_tree verb path h (pointer_list ts) = at_nothing verb path h
  at_tree verb path h (struct_list w p es) = at_nothing verb path h

  end_same : (c : Call) → IsTwin c → (t : Tree) → end_is (step o id c (record_of o id t)) ≡ end_is (step o' id (call' c) (record_of o' id t))
  unfolding step record_of
  end_same c h t = at_tree c.verb c.path h t

  -- ---- what it leaves

  written_same : (verb : Verb) (path : List Step) → ElementTwin rs o path (struct id) → (t : Tree) → write_path o (o.shape_of id) path verb t ≡ write_path o' (o'.shape_of id) (path' path) verb t
  unfolding renamed_path
  written_same verb [] h t = refl
  written_same verb (index k ∷ path) h t = refl
  written_same verb (name l ∷ path) h t = sym (path-same rs o verb path l id t h)

  edit_same : (c : Call) → IsTwin c → (t : Tree) → edit o id c t ≡ edit o' id (call' c) t
  unfolding edit
  edit_same c h t = stands_alike (step o id c (record_of o id t)) (step o' id (call' c) (record_of o' id t)) _ _ t (end_same c h t) (written_same c.verb c.path h t)

  -- ---- what it replies

  reply_same : (quoted : List ℕ → List ℕ) (c : Call) → IsTwin c → IsWrite c.verb → (t : Tree) → reply_of o quoted (step o id c (record_of o id t)) ≡ reply_of o' quoted (step o' id (call' c) (record_of o' id t))
  unfolding step
  reply_same quoted c h write t = replies_alike o o' quoted (step o id c (record_of o id t)) (step o' id (call' c) (record_of o' id t)) (end_same c h t) (not-seen o false c.verb write fs c.path (record_of o id t))

  unless_get : (quoted : List ℕ → List ℕ) (c : Call) → IsTwin c → (t : Tree) (x : Reply) → SameUnlessGet c.verb (reply_of o' quoted (step o' id (call' c) (record_of o' id t))) x → SameUnlessGet c.verb (reply_of o quoted (step o id c (record_of o id t))) x
  unless_get quoted c h t x e = by c.verb (λ w. reply_same quoted c h w t) e
    where
      here : Reply
      here = reply_of o quoted (step o id c (record_of o id t))

      there : Reply
      there = reply_of o' quoted (step o' id (call' c) (record_of o' id t))

      by : (v : Verb) → (IsWrite v → here ≡ there) → SameUnlessGet v there x → SameUnlessGet v here x
      by get g e = tt
      by (set_to w) g e = g tt ∙ e
      by init g e = g tt ∙ e
      by (initn k) g e = g tt ∙ e
      by clear g e = g tt ∙ e

  -- ---- calls in turn

  abbrev calls' : List Call → List Call
  calls' calls = map (renamed_call rs o id) calls

  pub edits-same : (calls : List Call) → AllByRecursion IsTwin calls → (t : Tree) → edits o id calls t ≡ edits o' id (calls' calls) t
  unfolding edits
  edits-same [] h t = refl
  edits-same (c ∷ cs) h t = ap (edits o id cs) (edit_same c h.0 t) ∙ edits-same cs h.1 (edit o' id (call' c) t)

  pub replies-same : (quoted : List ℕ → List ℕ) (calls : List Call) → AllByRecursion IsTwin calls → (t : Tree) (xs : List Reply) → SameReplies (calls' calls) (replies o' quoted id (calls' calls) t) xs → SameReplies calls (replies o quoted id calls t) xs
  unfolding replies
  replies-same quoted [] h t [] e = tt
  replies-same quoted [] h t (x ∷ xs) e = absurd e
  replies-same quoted (c ∷ cs) h t [] e = absurd e
  replies-same quoted (c ∷ cs) h t (x ∷ xs) e = (
    unless_get quoted c h.0 t x e.0,
    subst (λ (u : Tree). SameReplies cs (replies o quoted id cs u) xs) (sym (edit_same c h.0 t)) (replies-same quoted cs h.1 (edit o' id (call' c) t) xs e.1),
  )
