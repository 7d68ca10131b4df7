-- The value of a message, within limits or not.
use Rattle.std.proofs.Common.{◌≡◌, ℕ, ◌+◌, ◌≤◌, min, Bool, true, false, nat_le, Option, Some, None, List, [], ◌++◌, ◌∷◌, Ok, Err, refl, ap, sym, ◌∙◌, subst, arith}
use Rattle.std.proofs.lemmas.Bool.Decides.{nat_tests}
use Rattle.capnp_model.specs.Kinds.{Kind}
use Rattle.capnp_model.specs.Chains.{◌>>=◌, ◌provided◌}
use Rattle.capnp_model.specs.Accepted.{schema_of}
use Rattle.capnp_model.specs.Schemas.{struct, Node}
use Rattle.capnp_model.specs.InKind.{in_kind}
use Rattle.capnp_model.specs.Segments.{Segments, Place, root}
use Rattle.capnp_model.specs.Trees.{Tree, depth}
use Rattle.capnp_model.specs.Traversal.{tree_at, cost_at}
use Rattle.capnp_model.specs.Visits.{Visit, visits, visits_cost}
use Rattle.capnp_model.proofs.lemmas.Chaining.{bind_some, some_is}
use Rattle.capnp_units.specs.Limits.{left_of, Allows}
use Rattle.capnp_units.specs.declared.errors.Error.{Error}
use Rattle.capnp_units.specs.declared.limiter.ReadLimiter.{ReadLimiter}
use Rattle.capnp_wire_objects.specs.Walks.{Walked, Stopped, CannotPass}
use Rattle.capnp_units.specs.declared.kinds.ErrorKind.TheVariants.{OutOfMemory}
use Rattle.capnp_values_queries.specs.Structs.{nodes_around, id_of}
use Rattle.capnp_values_queries.specs.declared.structs.StructSchema.{StructSchema}
use Rattle.capnp_relay_kinds.specs.Kinds.{value_read, is_value_in_kind, IsTold, WantsMemory, IsUnread}
use Rattle.capnp_relay_kinds.specs.declared.kinds.Limits.{Limits}
use Rattle.capnp_relay_kinds.proofs.Values.{Costs}

-- visits with a fault among them cost nothing that can be told
no_cost : (a b : List Visit) (k : Kind) (c : ℕ) → visits_cost (a ++ Err k ∷ b) ≡ Some c → ⊥
no_cost [] b k c h = absurd cc
no_cost (Err kind ∷ a) b k c h = absurd cc
no_cost (Ok n ∷ a) b k c h = let x = bind_some (visits_cost (a ++ Err k ∷ b)) _ c h in no_cost a b k x.0 x.1

-- visits before one that can be paid, and that one, cost no more than all
costs_more : (a b : List Visit) (n paid c : ℕ) → visits_cost a ≡ Some paid → visits_cost (a ++ Ok n ∷ b) ≡ Some c → paid + n ≤ c
costs_more [] b n paid c h all =
    let x = bind_some (visits_cost b) _ c all in
    let is = some_is _ _ h in
    let sum = some_is _ _ x.2 in
    omega (arith, is, sum)
costs_more (Err kind ∷ a) b n paid c h all = absurd cc
costs_more (Ok m ∷ a) b n paid c h all =
    let x = bind_some (visits_cost a) _ paid h in
    let y = bind_some (visits_cost (a ++ Ok n ∷ b)) _ c all in
    let low = costs_more a b n x.0 y.0 x.1 y.1 in
    let first = some_is _ _ x.2 in
    let sum = some_is _ _ y.2 in
    omega (arith, low, first, sum)

-- The value that costs no more than so many words, at most n levels deep.
abbrev pub read_to : ℕ → ℕ → Segments → Option Tree
read_to n words s = tree_at n s root >>= λ t. t provided nat_le (cost_at n s root) words

module _ (costs : Costs) (words n : ℕ) (s : Segments) where
  near : (t : Tree) → tree_at n s root ≡ Some t → nat_le (cost_at n s root) words ≡ true → read_to n words s ≡ Some t
  near t at low = rw (at, low) refl

  far : (t : Tree) → tree_at n s root ≡ Some t → nat_le (cost_at n s root) words ≡ false → read_to n words s ≡ None
  far t at high = rw (at, high) refl

  missing : tree_at n s root ≡ None → read_to n words s ≡ None
  missing at = rw at refl

  -- a value over which a whole walk went is read
  pub walked_to : (l m : ReadLimiter) (t : Tree) → left_of l ≡ Some words → Walked (visits n s root) l m → tree_at n s root ≡ Some t → read_to n words s ≡ Some t
  walked_to l m t left walked there =
      let cost : cost_at n s root ≡ walked.cost = some_is _ _ (sym (costs n s root t there) ∙ walked.cost_is) in
      let allowed : walked.cost ≤ words = subst (λ o. Allows o walked.cost) left walked.spends.allowed in
      let low : nat_le (cost_at n s root) words ≡ true = grind (arith, nat_tests) in
      near t there low

  -- a walk isn't stopped at a value that costs no more
  not_stopped : (t : Tree) (l m : ReadLimiter) (e : Error) → tree_at n s root ≡ Some t → cost_at n s root ≤ words → left_of l ≡ Some words → Stopped (visits n s root) l e m → ⊥
  not_stopped t l m e there low left stop = last stop.last refl stop.why
    where
      cost : (v : Visit) → stop.last ≡ v → visits_cost (stop.before ++ v ∷ stop.behind) ≡ Some (cost_at n s root)
      cost v is = sym (ap visits_cost (stop.path_is ∙ ap (λ x. stop.before ++ x ∷ stop.behind) is)) ∙ costs n s root t there

      last : (v : Visit) → stop.last ≡ v → CannotPass (left_of l) stop.paid v e.kind → ⊥
      last (Err k) is why = no_cost stop.before stop.behind k (cost_at n s root) (cost (Err k) is)
      last (Ok more) is why =
          let past = (subst (λ o. CannotPass o stop.paid (Ok more) e.kind) left why).1 in
          let sum = costs_more stop.before stop.behind more stop.paid (cost_at n s root) stop.cost_is (cost (Ok more) is) in
          absurd (omega (arith, past, sum, low))

  -- where a walk is stopped nothing is read
  pub stopped_to : (l m : ReadLimiter) (e : Error) → left_of l ≡ Some words → Stopped (visits n s root) l e m → read_to n words s ≡ None
  stopped_to l m e left stop = by (tree_at n s root) refl
    where
      by_cost : (t : Tree) (b : Bool) → tree_at n s root ≡ Some t → nat_le (cost_at n s root) words ≡ b → read_to n words s ≡ None
      by_cost t false at high = far t at high
      by_cost t true at low =
          let le : cost_at n s root ≤ words = grind (arith, nat_tests) in
          absurd (not_stopped t l m e at le left stop)

      by : (o : Option Tree) → tree_at n s root ≡ o → read_to n words s ≡ None
      by None at = missing at
      by (Some t) at = by_cost t (nat_le (cost_at n s root) words) at refl

-- ---- what is told of a message

-- What the laws say of values under other levels.
abbrev pub Deep : Type 0
Deep = (n : ℕ) (s : Segments) (p : Place) (t : Tree) → tree_at n s p ≡ Some t → depth t ≤ n

abbrev pub Levels : Type 0
Levels = (n m : ℕ) (s : Segments) (p : Place) (t : Tree) → tree_at n s p ≡ Some t → depth t ≤ m → tree_at m s p ≡ Some t

module _ (costs : Costs) (schema : StructSchema) (limits : Limits) (s : Segments) (n : ℕ) (n_is : n ≡ min limits.nesting 1024) (l m : ReadLimiter) (left : left_of l ≡ Some limits.words) where
  reads : (o : Option Tree) → read_to n limits.words s ≡ o → value_read limits s ≡ o
  reads o h = subst (λ k. read_to k limits.words s ≡ o) n_is h

  pub nothing_read : (e f : Error) → f ≡ e → Stopped (visits n s root) l e m → IsUnread limits s f
  nothing_read e f same stop =
      let refused = subst (λ k. Stopped (visits k s root) l e m) n_is stop in
      record { unread = reads None (stopped_to costs limits.words n s l m e left stop); start = l; all = left; end = m; stopped = subst (λ x. Stopped (visits (min limits.nesting 1024) s root) l x m) (sym same) refused }

  module _ (t : Tree) (walked : Walked (visits n s root) l m) (there : tree_at n s root ≡ Some t) where
    value_is : value_read limits s ≡ Some t
    value_is = reads (Some t) (walked_to costs limits.words n s l m t left walked there)

    pub told_of : Deep → Levels → (b : Bool) → b ≡ is_value_in_kind schema t → IsTold schema limits s b
    told_of deep levels b exact =
        let low = deep n s root t there in
        let le : depth t ≤ limits.nesting = omega (arith, low, n_is) in
        record { value = t; read = value_is; there = levels n limits.nesting s root t there le; exact = exact }

    pub wants : (e : Error) → e.kind ≡ OutOfMemory → is_value_in_kind schema t ≡ false → WantsMemory schema limits s e
    wants e kind no_kind = record { kind_is = kind; value = t; read = value_is; not_in_kind = no_kind }

-- the test of the walk, under the schema around the root
pub around_root : (schema : StructSchema) (nodes : List Node) (t : Tree) → nodes ≡ nodes_around schema → in_kind (schema_of nodes) t (struct (id_of schema)) ≡ is_value_in_kind schema t
around_root schema nodes t e = ap (λ ns. in_kind (schema_of ns) t (struct (id_of schema))) e
