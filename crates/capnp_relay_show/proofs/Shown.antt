-- What is shown of bytes.
use Rattle.std.proofs.Common.{◌≡◌, ℕ, ℤ, ◌-◌, ◌^◌, ◌≤◌, not, ◌&&◌, Option, Some, None, List, [], ◌∷◌, length, Ok, Err, refl, ap, ◌∙◌, arith}
use Rattle.capnp_model.specs.Kinds.{Kind}
use Rattle.capnp_model.specs.Chains.{◌>>=◌, ◌provided◌}
use Rattle.capnp_model.specs.Segments.{Segments, Place, root}
use Rattle.capnp_model.specs.Trees.{Tree, depth, has_capability}
use Rattle.capnp_model.specs.Trimming.{trim}
use Rattle.capnp_model.specs.Fits.{Fits}
use Rattle.capnp_model.specs.Messages.{within}
use Rattle.capnp_model.specs.Traversal.{tree_at, cost_at}
use Rattle.capnp_model.specs.Encoding.{canonical_words}
use Rattle.capnp_model.specs.Answers.{levels, value_within}
use Rattle.capnp_model.proofs.lemmas.Chaining.{bind_some, provided_some}
use Rattle.capnp_message.specs.declared.options.ReaderOptions.{ReaderOptions}
use Rattle.capnp_values_queries.specs.Structs.{schema_around, id_of}
use Rattle.capnp_values_queries.specs.declared.structs.StructSchema.{StructSchema}
use Rattle.capnp_model.specs.Printing.{as_it_is}
use Rattle.capnp_relay_show.specs.Showing.{not_framed, no_value, first_message, trimmed_shown, message_shown}
use Rattle.capnp_relay_show.specs.Copied.{value_to, IsCopy, IsNoCopy}
use Rattle.capnp_relay_show.specs.Printed.{root_shown, HasRoot, NoTextOf}
use Rattle.capnp_relay_show.specs.Answers.{limits_of, shown_by, HasValue, IsShowFault}
use Rattle.capnp_relay_show.specs.declared.show.ShowFault.{ShowFault}
use Rattle.capnp_relay_show.specs.declared.show.ShowFault.TheVariants as fault-of

module _ (r : StructSchema) (options : ReaderOptions) (bytes : List ℕ) where
  pub not_framed_shown : (kind : Kind) → first_message options.traversal_limit_in_words bytes ≡ Err kind → shown_by r options bytes ≡ Err (not_framed kind)
  not_framed_shown kind e = ap (message_shown (schema_around r) as_it_is (id_of r) (limits_of options)) e

  module _ (m : Segments × List ℕ) (framed : first_message options.traversal_limit_in_words bytes ≡ Ok m) where
    shown_is : (o : Option Tree) → value_within (limits_of options) m.0 ≡ o → shown_by r options bytes ≡ trimmed_shown (schema_around r) as_it_is (id_of r) o
    shown_is o e = ap (message_shown (schema_around r) as_it_is (id_of r) (limits_of options)) framed ∙ ap (trimmed_shown (schema_around r) as_it_is (id_of r)) e

    pub negative_shown : levels options.nesting_limit ≡ None → shown_by r options bytes ≡ Err no_value
    unfolding value_within
    negative_shown e = shown_is None (ap (λ (o : Option ℕ). o >>= λ n. value_to n options.traversal_limit_in_words m.0) e)

    module _ (n : ℕ) (deep : levels options.nesting_limit ≡ Some n) where
      value_is : (o : Option Tree) → value_to n options.traversal_limit_in_words m.0 ≡ o → value_within (limits_of options) m.0 ≡ o
      unfolding value_within
      value_is o e = ap (λ (x : Option ℕ). x >>= λ k. value_to k options.traversal_limit_in_words m.0) deep ∙ e

      abbrev has_value : (t : Tree) → value_to n options.traversal_limit_in_words m.0 ≡ Some t → HasValue (limits_of options) bytes (cost_at n m.0 root)
      has_value t e = record { message = m; framed = framed; nesting = n; deep = deep; value = t; within = value_is (Some t) e; cost_is = refl }

      -- why there is no copy
      pub no_copy_shown : (why : ShowFault) → IsNoCopy n options.traversal_limit_in_words m.0 why → IsShowFault r options bytes why
      no_copy_shown fault-of.Value h = shown_is None (value_is None h)
      no_copy_shown fault-of.Memory h = (cost_at n m.0 root, has_value h.0 h.1)
      no_copy_shown fault-of.Size h = (cost_at n m.0 root, has_value h.0 h.1, h.2)
      no_copy_shown (fault-of.Framing kind) h = absurd h
      no_copy_shown fault-of.Root h = absurd h
      no_copy_shown fault-of.Unreadable h = absurd h

      there : (t : Tree) → value_to n options.traversal_limit_in_words m.0 ≡ Some t → tree_at n m.0 root ≡ Some t
      there t e =
          let a = bind_some (tree_at n m.0 root) _ t e in
          let b = provided_some a.0 t (not (has_capability a.0) && within (cost_at n m.0 root) options.traversal_limit_in_words) a.2 in
          a.1 ∙ ap (λ (u : Tree). Some u) b.1

      module _ (copy : Segments) (is : IsCopy n options.traversal_limit_in_words m.0 copy) where
        copy_shown : shown_by r options bytes ≡ root_shown r (trim is.value)
        copy_shown = shown_is (Some is.value) (value_is (Some is.value) is.there)

        -- the root of the copy is the trimmed value
        pub copy_root : (limit : ℤ) → levels limit ≡ Some n → ((k : ℕ) (s : Segments) (p : Place) (t : Tree) → tree_at k s p ≡ Some t → Fits t) → ((k : ℕ) (s : Segments) (p : Place) (t : Tree) → tree_at k s p ≡ Some t → depth t ≤ k)
            → ((t : Tree) → Fits t → Fits (trim t)) → ((t : Tree) → depth (trim t) ≤ depth t) → ((t : Tree) (k : ℕ) → Fits t → depth t ≤ k → length (canonical_words t) ≤ 2 ^ 29 → tree_at k (canonical_words t ∷ []) root ≡ Some t) → HasRoot limit copy (trim is.value)
        copy_root limit limit_is fits deep trimmed_fits trimmed_deep means =
            let at = there is.value is.there in
            let low = deep n m.0 root is.value at in
            let lower = trimmed_deep is.value in
            let room = is.room in
            let short : length (canonical_words (trim is.value)) ≤ 2 ^ 29 = omega (arith, room) in
            let less : depth (trim is.value) ≤ n = omega (arith, low, lower) in
            record { nesting = n; limit_is = limit_is; there = ap (λ (s : Segments). tree_at n s root) is.are ∙ means (trim is.value) n (trimmed_fits is.value (fits n m.0 root is.value at)) less short }

        pub text_is : (text : List ℕ) → root_shown r (trim is.value) ≡ Ok text → shown_by r options bytes ≡ Ok text
        text_is text e = copy_shown ∙ e

        pub fault_is : (why : ShowFault) → NoTextOf (root_shown r (trim is.value)) why → IsShowFault r options bytes why
        fault_is fault-of.Root h = copy_shown ∙ h
        fault_is fault-of.Unreadable h = copy_shown ∙ h
        fault_is fault-of.Memory h = (cost_at n m.0 root, has_value is.value is.there)
        fault_is fault-of.Value h = absurd h
        fault_is fault-of.Size h = absurd h
        fault_is (fault-of.Framing kind) h = absurd h
