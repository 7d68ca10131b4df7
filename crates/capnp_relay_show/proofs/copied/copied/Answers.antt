use Rattle.std.proofs.Common.{◌≡◌, ℕ, ◌+◌, ◌-◌, ◌^◌, ◌<◌, ◌≤◌, min, Bool, true, if◌then◌else◌, List, [], ◌∷◌, ◌++◌, length, take, drop, map, refl, ap, sym, ◌∙◌, subst, arith}
use Rattle.std.specs.List.{flat_map, take-map}
use Rattle.std.specs.Int.{from_le_bytes, w64}
use Rattle.std.proofs.lemmas.List.{take_at, length-take}
use Rattle.capnp_model.specs.Segments.{root}
use Rattle.capnp_units.specs.Segments.{words_in, whole_words}
use Rattle.capnp_wire_canonical.specs.Reaches.{reach}
use Rattle.capnp_wire_canonical.specs.Copies.{copy_state, Written}
use Rattle.capnp_wire_canonical.specs.Objects.{canonical_copy}
use Rattle.capnp_wire_canonical.specs.Writes.{words_view, filled}
use Rattle.capnp_relay_show.proofs.Walks.{IsFresh, IsSized, a_value_in, stopped_none, sized, counted_none, counted_some, clean, halted}
use Rattle.capnp_relay_show.proofs.copied.copied.Goals as goal

pub returns-in_default-clause-refused : goal.returns-in_default-clause-refused
returns-in_default-clause-refused g c =
    let s = words_in (g.A.ReaderArena.segments c.args.message.now) in
    let limit = c.args.options.traversal_limit_in_words in
    let fresh : IsFresh limit c.read_limiter-limiter.result = record { limit_is = c.read_limiter-limiter.ensures.limit; none = c.read_limiter-limiter.ensures.granted } in
    stopped_none c.values_on_walks.ensures.cost c.args.levels limit s c.read_limiter-limiter.result c.size_at.new.limiter c.in_default.field-0 fresh c.in_default.ensures

pub returns-in-Ok-write_canonical-clause-copy : goal.returns-in-Ok-write_canonical-clause-copy
returns-in-Ok-write_canonical-clause-copy g c =
    let s = words_in (g.A.ReaderArena.segments c.args.message.now) in
    let n = c.args.levels in
    let limit = c.args.options.traversal_limit_in_words in
    let fresh : IsFresh limit c.read_limiter-limiter.result = record { limit_is = c.read_limiter-limiter.ensures.limit; none = c.read_limiter-limiter.ensures.granted } in
    let x = sized c.values_on_walks.ensures.cost n limit s c.read_limiter-limiter.result c.size_at.new.limiter c.in-Ok.size fresh c.in-Ok.ensures in
    let end = c.in-Ok-write_canonical.end in
    let into = c.write_canonical.new.into in
    let done : Written (canonical_copy (reach n s) root) (copy_state c.deref_mut.result.now c.read_limiter-limiter-2.result) end (copy_state into c.write_canonical.new.limiter) = c.in-Ok-write_canonical.ensures in
    let long : length into ≡ c.resize.new.self.len = done.behind.0 ∙ c.deref_mut.ensures.len in
    let cut = c.truncate.ensures.items ∙ ap (take end) (take_at into (drop (length into) c.resize.new.self.items) c.resize.new.self.len long) in
    let near = done.near in
    let count = length-take end (words_view into) in
    let is = x.1 in
    let limited : IsSized c.values_on_walks.ensures.cost n limit s c.in-Ok.size c.size_at.new.limiter.granted x.0 = is in
    record {
      value = done.what;
      there = a_value_in n limit s done.what done.there_is done.clean limited.within_limit;
      are = ap (λ (ws : List (List ℕ)). whole_words (flat_map (λ w. w) ws) ∷ []) (sym c.deref.ensures.value) ∙ c.segments_of_words.ensures
          ∙ ap (λ (ws : List (List ℕ)). words_view ws ∷ []) (c.deref.ensures.value ∙ cut)
          ∙ ap (λ (ws : List ℕ). ws ∷ []) (sym (take-map (from_le_bytes w64) end into) ∙ done.words);
      room = let short : length (filled end into) < 2 ^ 29 = omega (arith, near, count) in subst (λ (ws : List ℕ). length ws < 2 ^ 29) done.words short;
    }

pub returns-in-Err-clause-refused : goal.returns-in-Err-clause-refused
returns-in-Err-clause-refused g c =
    let s = words_in (g.A.ReaderArena.segments c.args.message.now) in
    let n = c.args.levels in
    let limit = c.args.options.traversal_limit_in_words in
    let costs = c.values_on_walks.ensures.cost in
    let fresh : IsFresh limit c.read_limiter-limiter.result = record { limit_is = c.read_limiter-limiter.ensures.limit; none = c.read_limiter-limiter.ensures.granted } in
    let again : IsFresh limit c.read_limiter-limiter-2.result = record { limit_is = c.read_limiter-limiter-2.ensures.limit; none = c.read_limiter-limiter-2.ensures.granted } in
    let x = sized costs n limit s c.read_limiter-limiter.result c.size_at.new.limiter c.in-Ok.size fresh c.in-Ok.ensures in
    let granted = c.size_at.new.limiter.granted in
    let none = c.sizes_of_values.ensures.none in
    let free = clean costs n limit s none c.in-Ok.size granted x.0 x.1 c.if-size-ne0.false in
    let asked = c.min.ensures in
    let told = c.granted.ensures.value in
    let room : length c.deref_mut.result.now ≡ min granted (2 ^ 29 - 2) + 1 =
    c.deref_mut.ensures.len ∙ c.resize.ensures.len ∙ ap (λ (b : Bool). if b then c.min.result + 1 else c.new-words.result.len) c.if-is_err.ensures.negation ∙ ap (λ (k : ℕ). k + 1) (c.min.ensures ∙ ap (λ (k : ℕ). min k 536870910) c.granted.ensures.value) in
    (x.0, counted_some costs n limit s none c.in-Ok.size granted x.0 x.1 c.if-size-ne0.false, halted costs n limit s x.0 c.in-Ok.size granted x.1 free (λ p u. c.copies_as_walks.ensures n s p u) c.deref_mut.result.now c.write_canonical.new.into c.read_limiter-limiter-2.result c.write_canonical.new.limiter c.in-Err.field-0 again room c.in-Err.ensures)
