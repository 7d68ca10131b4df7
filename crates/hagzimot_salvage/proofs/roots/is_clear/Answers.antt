use Rattle.std.proofs.Common.{ℕ, ◌≤◌, leb, sym, ap, subst, ◌∙◌, arith}
use Rattle.std.specs.Prelude.{IfSome}
use Rattle.capnp_model.specs.Segments.{Segments, root}
use Rattle.capnp_model.specs.Visits.{visits}
use Rattle.capnp_units.specs.Segments.{words_in}
use Rattle.capnp_units.specs.Limits.{limit_of}
use Rattle.hagzimot_salvage.proofs.Clear.{walked_is, stopped_is}
use Rattle.hagzimot_salvage.proofs.roots.is_clear.Goals as goal

pub returns-in-Ok : goal.returns-in-Ok
returns-in-Ok g c =
    let s : Segments = words_in (g.A.ReaderArena.segments c.args.arena.now) in
    let new = c.size_at.new.limiter in
    let e = c.new-limiter.ensures in
    let most = subst (λ (n : ℕ). IfSome (limit_of new) (λ m. n ≤ m)) c.granted.ensures.value c.granted.ensures.within in
    let is = walked_is c.args.root_words c.args.least (visits c.args.nesting s root) c.new-limiter.result new (omega arith) e.limit e.left e.granted most c.in-Ok.ensures.3 in
    ap (leb c.args.least) c.granted.ensures.value ∙ sym is

pub returns-in-Err : goal.returns-in-Err
returns-in-Err g c =
    let s : Segments = words_in (g.A.ReaderArena.segments c.args.arena.now) in
    c.is_limit.ensures ∙ sym (stopped_is c.args.root_words c.args.least c.args.nesting s root c.new-limiter.result c.size_at.new.limiter c.in-Err.e c.new-limiter.ensures.left c.in-Err.ensures)
