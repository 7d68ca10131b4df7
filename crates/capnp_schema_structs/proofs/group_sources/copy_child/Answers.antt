use Rattle.std.proofs.Common.{Err, sym, ap, subst, ◌∙◌}
use Rattle.capnp_model.specs.Segments.{Segments, Place, after}
use Rattle.capnp_model.specs.Visits.{visits}
use Rattle.capnp_units.specs.Segments.{words_in}
use Rattle.capnp_units.specs.declared.errors.Error.{Error}
use Rattle.capnp_wire_objects.specs.Places.{place_view}
use Rattle.capnp_wire.specs.Views.{Ground, seen_struct}
use Rattle.capnp_copy_arenas.specs.Refusals.{IsSizeOrRefusal}
use Rattle.capnp_copy_values.specs.Copies.{CopiesValue, IsStoppedOr, copy_source, limited_words}
use Rattle.capnp_schema_structs.proofs.SourceReadings.{child_copied, copy_stands}
use Rattle.capnp_schema_structs.proofs.EmptyValues.{stands_same}
use Rattle.capnp_units.specs.Errors.{kind_of}
use Rattle.capnp_schema_structs.proofs.FieldRefusals.{copy_refused, child_refused, child_without}
use Rattle.capnp_schema_structs.proofs.Faultless.{child_told, no_levels}
use Rattle.capnp_schema_structs.proofs.group_sources.copy_child.Goals as goal

pub returns-clause-puts : goal.returns-clause-puts
returns-clause-puts g c from is =
    let v = seen_struct g.B.ReaderArena.segments c.args.source.now in
    let s : Segments = words_in (g.A.ReaderArena.segments c.args.arena.now) in
    let u : Segments = words_in (g.A.ReaderArena.segments c.copy_from.new.arena) in
    let p = place_view c.args.slot in
    let q = after (place_view c.first_pointer-first.result) c.args.index in
    let n = c.in-Some.levels in
    let basis = ap (λ (x : Ground). x.segments) c.backing.ensures in
    let copies = subst (λ (f : Segments). CopiesValue (copy_source n f q) p (limited_words s c.new-limiter.result) c.copy_from.result (limited_words u c.copy_from.new.limiter)) basis c.copy_from.ensures.copy in
    let there = subst (λ (x : Place). CopiesValue (copy_source n v.basis.segments (after x c.args.index)) p (limited_words s c.new-limiter.result) c.copy_from.result (limited_words u c.copy_from.new.limiter)) c.first_pointer-first.ensures.place copies in
    child_copied n v from is c.args.index c.requires.some s u p c.new-limiter.result c.copy_from.new.limiter c.copy_from.result there

pub returns-clause-stands : goal.returns-clause-stands
returns-clause-stands g c =
    let v = seen_struct g.B.ReaderArena.segments c.args.source.now in
    let s : Segments = words_in (g.A.ReaderArena.segments c.args.arena.now) in
    let u : Segments = words_in (g.A.ReaderArena.segments c.copy_from.new.arena) in
    let p = place_view c.args.slot in
    let q = after (place_view c.first_pointer-first.result) c.args.index in
    let n = c.in-Some.levels in
    let basis = ap (λ (x : Ground). x.segments) c.backing.ensures in
    copy_stands n v.basis.segments s u q p c.new-limiter.result c.copy_from.new.limiter c.copy_from.result
    (subst (λ (f : Segments). CopiesValue (copy_source n f q) p (limited_words s c.new-limiter.result) c.copy_from.result (limited_words u c.copy_from.new.limiter)) basis c.copy_from.ensures.copy)

pub returns-in_default-clause-stands : goal.returns-in_default-clause-stands
returns-in_default-clause-stands g c = stands_same (Err c.from.result) (words_in (g.A.ReaderArena.segments c.args.arena.now))

pub returns-in_default-clause-why : goal.returns-in_default-clause-why
returns-in_default-clause-why g c = child_without (IsSizeOrRefusal g.A.BuilderArena.refuses) (seen_struct g.B.ReaderArena.segments c.args.source.now) c.args.index (words_in (g.A.ReaderArena.segments c.args.arena.now)) c.from.result (sym c.levels.ensures ∙ c.in_default.is) (ap kind_of c.from.ensures)

pub returns-clause-why : goal.returns-clause-why
returns-clause-why g c =
    let v = seen_struct g.B.ReaderArena.segments c.args.source.now in
    let s : Segments = words_in (g.A.ReaderArena.segments c.args.arena.now) in
    let u : Segments = words_in (g.A.ReaderArena.segments c.copy_from.new.arena) in
    let p = place_view c.args.slot in
    let q = after (place_view c.first_pointer-first.result) c.args.index in
    let n = c.in-Some.levels in
    let basis = ap (λ (x : Ground). x.segments) c.backing.ensures in
    let copies = subst (λ (f : Segments). CopiesValue (copy_source n f q) p (limited_words s c.new-limiter.result) c.copy_from.result (limited_words u c.copy_from.new.limiter)) basis c.copy_from.ensures.copy in
    let there = subst (λ (x : Place). CopiesValue (copy_source n v.basis.segments (after x c.args.index)) p (limited_words s c.new-limiter.result) c.copy_from.result (limited_words u c.copy_from.new.limiter)) c.first_pointer-first.ensures.place copies in
    let told : Error → Type 0 = IsSizeOrRefusal g.A.BuilderArena.refuses in
    let before = subst (λ (f : Segments). IsStoppedOr (visits n f q) c.new-limiter.result c.copy_from.new.limiter told c.copy_from.result) basis c.copy_from.ensures.cause in
    let stopped = subst (λ (x : Place). IsStoppedOr (visits n v.basis.segments (after x c.args.index)) c.new-limiter.result c.copy_from.new.limiter told c.copy_from.result) c.first_pointer-first.ensures.place before in
    child_refused (IsSizeOrRefusal g.A.BuilderArena.refuses) v c.args.index n u (sym c.levels.ensures ∙ c.in-Some.is) c.copy_from.result
    (copy_refused (IsSizeOrRefusal g.A.BuilderArena.refuses) n v.basis.segments s u (after v.first c.args.index) p c.new-limiter.result c.copy_from.new.limiter c.copy_from.result c.new-limiter.ensures.left there stopped)

pub returns-in_default-clause-cause : goal.returns-in_default-clause-cause
returns-in_default-clause-cause g c n t leads = absurd (no_levels n (seen_struct g.B.ReaderArena.segments c.args.source.now) c.args.index t (sym c.levels.ensures ∙ c.in_default.is) leads)

pub returns-clause-cause : goal.returns-clause-cause
returns-clause-cause g c m t leads =
    let v = seen_struct g.B.ReaderArena.segments c.args.source.now in
    let q = after (place_view c.first_pointer-first.result) c.args.index in
    let n = c.in-Some.levels in
    let told : Error → Type 0 = IsSizeOrRefusal g.A.BuilderArena.refuses in
    let basis = ap (λ (x : Ground). x.segments) c.backing.ensures in
    let before = subst (λ (f : Segments). IsStoppedOr (visits n f q) c.new-limiter.result c.copy_from.new.limiter told c.copy_from.result) basis c.copy_from.ensures.cause in
    let stopped = subst (λ (x : Place). IsStoppedOr (visits n v.basis.segments (after x c.args.index)) c.new-limiter.result c.copy_from.new.limiter told c.copy_from.result) c.first_pointer-first.ensures.place before in
    child_told n m v c.args.index t c.requires.some (sym c.levels.ensures ∙ c.in-Some.is) leads c.new-limiter.result c.copy_from.new.limiter told c.copy_from.result c.new-limiter.ensures.left stopped
