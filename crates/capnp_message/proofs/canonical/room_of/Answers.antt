use Rattle.std.proofs.Common.{◌+◌, ◌≡◌, ◌^◌, ◌-◌, ℕ, Err, Ok, min, ltb, ap, sym, subst, ◌∙◌, arith}
use Rattle.capnp_units.specs.Segments.{words_in}
use Rattle.capnp_units.specs.Limits.{granted_of}
use Rattle.capnp_model.specs.Segments.{root}
use Rattle.capnp_model.specs.Visits.{visits}
use Rattle.capnp_wire_canonical.specs.Copies.{copy_visits}
use Rattle.capnp_message.specs.Canonical.{most_cost, IsAsked, Suffices}
use Rattle.capnp_message.proofs.Rooms.{measured, whole_told, whole_asked, stopped_told, stopped_asked}
use Rattle.capnp_message.proofs.canonical.room_of.Goals as goal

pub returns-in-Ok : goal.returns-in-Ok
returns-in-Ok g c =
    let n = c.args.levels in
    let s = words_in (g.A.ReaderArena.segments c.args.arena.now) in
    let limit = c.args.options.traversal_limit_in_words in
    let l = c.read_limiter-limiter in
    let m = c.size_at.new.limiter in
    let cost = c.granted-cost.ensures.value in
    let words : c.room_for.result ≡ min (granted_of m) (2 ^ 29 - 2) + 1 = c.room_for.ensures ∙ ap (λ (k : ℕ). min k (2 ^ 29 - 2) + 1) cost in
    let Room : ℕ → Type 0 = λ k. Suffices (copy_visits n s root) (most_cost limit) k in
    let Asked : ℕ → Type 0 = λ k. IsAsked (visits n s root) k in
    record {
      room = subst Room (sym words) (measured n s limit l.result m (Ok c.in-Ok.field-0) l.ensures.limit l.ensures.granted c.in-Ok.ensures);
      few = omega (arith, words);
      asked = subst Asked (sym words) (whole_asked n s limit l.result m l.ensures.limit l.ensures.granted c.in-Ok.field-0 c.in-Ok.ensures);
      whole = whole_told n s limit l.result m l.ensures.limit l.ensures.granted c.in-Ok.field-0 c.in-Ok.ensures _ (ap (λ (k : ℕ). ltb k (2 ^ 29 - 1)) cost);
    }

pub returns-in-Err : goal.returns-in-Err
returns-in-Err g c =
    let n = c.args.levels in
    let s = words_in (g.A.ReaderArena.segments c.args.arena.now) in
    let limit = c.args.options.traversal_limit_in_words in
    let l = c.read_limiter-limiter in
    let m = c.size_at.new.limiter in
    let e = c.in-Err.field-0 in
    let cost = c.granted-cost-in-Err.ensures.value in
    let words : c.room_for-in-Err.result ≡ min (granted_of m) (2 ^ 29 - 2) + 1 = c.room_for-in-Err.ensures ∙ ap (λ (k : ℕ). min k (2 ^ 29 - 2) + 1) cost in
    let Room : ℕ → Type 0 = λ k. Suffices (copy_visits n s root) (most_cost limit) k in
    let Asked : ℕ → Type 0 = λ k. IsAsked (visits n s root) k in
    record {
      room = subst Room (sym words) (measured n s limit l.result m (Err e) l.ensures.limit l.ensures.granted c.in-Err.ensures);
      few = omega (arith, words);
      asked = subst Asked (sym words) (stopped_asked n s limit l.result m l.ensures.limit l.ensures.granted e c.in-Err.ensures);
      whole = stopped_told n s limit l.result m l.ensures.limit l.ensures.granted e c.in-Err.ensures;
    }
