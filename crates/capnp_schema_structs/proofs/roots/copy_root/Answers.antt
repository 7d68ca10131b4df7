use Rattle.std.proofs.Common.{ap, subst}
use Rattle.capnp_model.specs.Segments.{Segments, Place, root}
use Rattle.capnp_model.specs.Visits.{visits}
use Rattle.capnp_units.specs.Segments.{words_in}
use Rattle.capnp_units.specs.declared.errors.Error.{Error}
use Rattle.capnp_copy_arenas.specs.Refusals.{IsSizeOrRefusal}
use Rattle.capnp_wire_objects.specs.Places.{place_view}
use Rattle.capnp_wire.specs.Views.{Ground}
use Rattle.capnp_copy_values.specs.Copies.{CopiesValue, IsStoppedOr, copy_source, limited_words}
use Rattle.capnp_copy_values.specs.Defaults.{default_segments}
use Rattle.capnp_schema_structs.proofs.SourceReadings.{value_copied, copy_stands}
use Rattle.capnp_schema_structs.proofs.FieldRefusals.{copy_refused}
use Rattle.capnp_schema_structs.proofs.roots.copy_root.Goals as goal

pub returns-clause-puts : goal.returns-clause-puts
returns-clause-puts g c t e =
    let s : Segments = words_in (g.A.ReaderArena.segments c.args.arena.now) in
    let u : Segments = words_in (g.A.ReaderArena.segments c.copy_from.new.arena) in
    let p : Place = place_view c.args.slot in
    let is = ap (λ (x : Ground). x.segments) c.default_backing-source.ensures in
    value_copied 64 (default_segments c.args.words.now) s u root p c.new-limiter.result c.copy_from.new.limiter c.copy_from.result t
    (subst (λ (f : Segments). CopiesValue (copy_source 64 f root) p (limited_words s c.new-limiter.result) c.copy_from.result (limited_words u c.copy_from.new.limiter)) is c.copy_from.ensures.copy) e

pub returns-clause-stands : goal.returns-clause-stands
returns-clause-stands g c =
    let s : Segments = words_in (g.A.ReaderArena.segments c.args.arena.now) in
    let u : Segments = words_in (g.A.ReaderArena.segments c.copy_from.new.arena) in
    let p : Place = place_view c.args.slot in
    let is = ap (λ (x : Ground). x.segments) c.default_backing-source.ensures in
    copy_stands 64 (default_segments c.args.words.now) s u root p c.new-limiter.result c.copy_from.new.limiter c.copy_from.result
    (subst (λ (f : Segments). CopiesValue (copy_source 64 f root) p (limited_words s c.new-limiter.result) c.copy_from.result (limited_words u c.copy_from.new.limiter)) is c.copy_from.ensures.copy)

pub returns-clause-why : goal.returns-clause-why
returns-clause-why g c =
    let s : Segments = words_in (g.A.ReaderArena.segments c.args.arena.now) in
    let u : Segments = words_in (g.A.ReaderArena.segments c.copy_from.new.arena) in
    let p : Place = place_view c.args.slot in
    let is = ap (λ (x : Ground). x.segments) c.default_backing-source.ensures in
    let told : Error → Type 0 = IsSizeOrRefusal g.A.BuilderArena.refuses in
    let stopped = subst (λ (f : Segments). IsStoppedOr (visits 64 f root) c.new-limiter.result c.copy_from.new.limiter told c.copy_from.result) is c.copy_from.ensures.cause in
    copy_refused told 64 (default_segments c.args.words.now) s u root p c.new-limiter.result c.copy_from.new.limiter c.copy_from.result c.new-limiter.ensures.left
    (subst (λ (f : Segments). CopiesValue (copy_source 64 f root) p (limited_words s c.new-limiter.result) c.copy_from.result (limited_words u c.copy_from.new.limiter)) is c.copy_from.ensures.copy) stopped
