use Rattle.std.proofs.Common.{◌≡◌, ◌+◌, [], Ok, Err, refl, ap, sym, subst, ◌∙◌, arith}
use Rattle.capnp_model.specs.Segments.{Segments, root, after}
use Rattle.capnp_units.specs.Errors.{kind_of}
use Rattle.capnp_units.specs.Segments.{words_in}
use Rattle.capnp_wire_objects.specs.Inside.{section_at}
use Rattle.capnp_wire_objects.specs.Objects.{object_at}
use Rattle.capnp_wire_objects.specs.declared.place.Place.{Place}
use Rattle.capnp_wire_objects.specs.Places.{place_view}
use Rattle.capnp_wire.specs.Views.{Ground}
use Rattle.capnp_copy_values.specs.Copies.{StructSource, struct_source, copy_source, limited_words}
use Rattle.capnp_copy_values.specs.Contents.{CopiesContent}
use Rattle.capnp_copy_values.specs.Defaults.{default_segments}
use Rattle.capnp_copy_widening.proofs.lemmas.GotStructs.{struct_there, null_there}
use Rattle.std.proofs.Common.{min}
use Rattle.capnp_model.specs.Coverage.{from_each}
use Rattle.capnp_model.specs.Visits.{visits}
use Rattle.capnp_units.specs.declared.errors.Error.{Error}
use Rattle.capnp_copy_arenas.specs.Refusals.{IsSizeOrRefusal}
use Rattle.capnp_copy_values.specs.Copies.{IsStoppedOr}
use Rattle.capnp_calls_edits.proofs.ClaimsMessages.{row_told, no_row_told}
use Rattle.capnp_calls_edits.proofs.ThereObjects.{object_there, no_other}
use Rattle.capnp_calls_edits.proofs.ThereObjects.{struct_there as is_struct_there}
use Rattle.capnp_copy_widening.specs.Widened.{IsStructOrNull}
use Rattle.capnp_calls_edits.proofs.TakenContents.{struct_taken, null_taken, content_grows, struct_content}
use Rattle.capnp_calls_edits.proofs.contents.copy_content.Goals as goal

pub returns-in-Null-clause-takes : goal.returns-in-Null-clause-takes
returns-in-Null-clause-takes g c t e =
    let s : Segments = words_in (g.A.ReaderArena.segments c.args.arena.now) in
    let u : Segments = words_in (g.A.ReaderArena.segments c.copy_content_from.new.arena) in
    let from : Segments = default_segments c.args.words.now in
    let is = ap (λ (x : Ground). x.segments) c.default_backing-source.ensures in
    let x : StructSource = struct_source [] (record { segment = 0; position = 0 }) 0 in
    let content = subst (λ (f : Segments). CopiesContent (copy_source 63 f x) c.args.object (limited_words s c.new-limiter.result) c.copy_content_from.result (limited_words u c.copy_content_from.new.limiter)) is c.copy_content_from.ensures.content in
    let found : object_at from root ≡ Ok c.in_ok-found.found = subst (λ (f : Segments). object_at f root ≡ Ok c.in_ok-found.found) is (sym c.in_ok-found.ensures.object) in
    null_taken 63 (omega arith) from root x s u c.args.object c.new-limiter.result c.copy_content_from.new.limiter c.copy_content_from.result content (null_there from root c.in_ok-found.found found c.in-Null.is) refl refl t e

pub returns-in-Null-clause-grows : goal.returns-in-Null-clause-grows
returns-in-Null-clause-grows g c =
    let s : Segments = words_in (g.A.ReaderArena.segments c.args.arena.now) in
    let u : Segments = words_in (g.A.ReaderArena.segments c.copy_content_from.new.arena) in
    let is = ap (λ (x : Ground). x.segments) c.default_backing-source.ensures in
    let x : StructSource = struct_source [] (record { segment = 0; position = 0 }) 0 in
    let content = subst (λ (f : Segments). CopiesContent (copy_source 63 f x) c.args.object (limited_words s c.new-limiter.result) c.copy_content_from.result (limited_words u c.copy_content_from.new.limiter)) is c.copy_content_from.ensures.content in
    content_grows 63 (omega arith) (default_segments c.args.words.now) root x s u c.args.object c.new-limiter.result c.copy_content_from.new.limiter c.copy_content_from.result content

pub returns-in-Struct-clause-takes : goal.returns-in-Struct-clause-takes
returns-in-Struct-clause-takes g c t e =
    let s : Segments = words_in (g.A.ReaderArena.segments c.args.arena.now) in
    let u : Segments = words_in (g.A.ReaderArena.segments c.copy_content_from-in-Struct.new.arena) in
    let from : Segments = default_segments c.args.words.now in
    let is = ap (λ (x : Ground). x.segments) c.default_backing-source.ensures in
    let q : Place = c.in-Struct.start in
    let d = c.in-Struct.data_words in
    let x : StructSource = struct_source c.lend-section.result.now (record { segment = q.segment; position = q.position + d }) c.in-Struct.pointers in
    let content = subst (λ (f : Segments). CopiesContent (copy_source 63 f x) c.args.object (limited_words s c.new-limiter.result) c.copy_content_from-in-Struct.result (limited_words u c.copy_content_from-in-Struct.new.limiter)) is c.copy_content_from-in-Struct.ensures.content in
    let found : object_at from root ≡ Ok c.in_ok-found.found = subst (λ (f : Segments). object_at f root ≡ Ok c.in_ok-found.found) is (sym c.in_ok-found.ensures.object) in
    let section : x.section ≡ section_at from (place_view q) d = subst (λ (f : Segments). x.section ≡ section_at f (place_view q) d) is c.lend-section.ensures.section in
    struct_taken 63 (omega arith) from root x s u c.args.object c.new-limiter.result c.copy_content_from-in-Struct.new.limiter c.copy_content_from-in-Struct.result content (place_view q) d (struct_there from root c.in_ok-found.found q d c.in-Struct.pointers found c.in-Struct.is) section refl t e

pub returns-in-Struct-clause-grows : goal.returns-in-Struct-clause-grows
returns-in-Struct-clause-grows g c =
    let s : Segments = words_in (g.A.ReaderArena.segments c.args.arena.now) in
    let u : Segments = words_in (g.A.ReaderArena.segments c.copy_content_from-in-Struct.new.arena) in
    let is = ap (λ (x : Ground). x.segments) c.default_backing-source.ensures in
    let q : Place = c.in-Struct.start in
    let x : StructSource = struct_source c.lend-section.result.now (record { segment = q.segment; position = q.position + c.in-Struct.data_words }) c.in-Struct.pointers in
    let content = subst (λ (f : Segments). CopiesContent (copy_source 63 f x) c.args.object (limited_words s c.new-limiter.result) c.copy_content_from-in-Struct.result (limited_words u c.copy_content_from-in-Struct.new.limiter)) is c.copy_content_from-in-Struct.ensures.content in
    content_grows 63 (omega arith) (default_segments c.args.words.now) root x s u c.args.object c.new-limiter.result c.copy_content_from-in-Struct.new.limiter c.copy_content_from-in-Struct.result content

pub returns-in_err-found-clause-cause : goal.returns-in_err-found-clause-cause
returns-in_err-found-clause-cause g c t e is =
    let from : Segments = default_segments c.args.words.now in
    let same = ap (λ (x : Ground). x.segments) c.default_backing-source.ensures in
    let x = object_there 63 from root t e in
    let fault = subst (λ (f : Segments). object_at f root ≡ Err (kind_of c.in_err-found.field-0.0.kind)) same (sym c.in_err-found.ensures.object) in
    absurd (let no = sym fault ∙ x.1 in cc no)

pub returns-in-Null-clause-cause : goal.returns-in-Null-clause-cause
returns-in-Null-clause-cause g c t e of =
    let from : Segments = default_segments c.args.words.now in
    let is = ap (λ (x : Ground). x.segments) c.default_backing-source.ensures in
    let told : Error → Type 0 = IsSizeOrRefusal g.A.BuilderArena.refuses in
    let cause = subst (λ (f : Segments). IsStoppedOr (from_each (visits 63 f) root (min 0 c.args.object.pointers)) c.new-limiter.result c.copy_content_from.new.limiter told c.copy_content_from.result) is c.copy_content_from.ensures.cause in
    no_row_told 63 from root (min 0 c.args.object.pointers) (omega arith) c.new-limiter.result c.copy_content_from.new.limiter told c.copy_content_from.result c.new-limiter.ensures.left cause

pub returns-in-Struct-clause-cause : goal.returns-in-Struct-clause-cause
returns-in-Struct-clause-cause g c t e of =
    let from : Segments = default_segments c.args.words.now in
    let is = ap (λ (x : Ground). x.segments) c.default_backing-source.ensures in
    let told : Error → Type 0 = IsSizeOrRefusal g.A.BuilderArena.refuses in
    let q : Place = c.in-Struct.start in
    let d = c.in-Struct.data_words in
    let k = c.in-Struct.pointers in
    let first = after (place_view q) d in
    let found : object_at from root ≡ Ok c.in_ok-found.found = subst (λ (f : Segments). object_at f root ≡ Ok c.in_ok-found.found) is (sym c.in_ok-found.ensures.object) in
    let leads = struct_there from root c.in_ok-found.found q d k found c.in-Struct.is in
    let content = struct_content 63 from root (place_view q) d k t leads e in
    let cause = subst (λ (f : Segments). IsStoppedOr (from_each (visits 63 f) first (min k c.args.object.pointers)) c.new-limiter.result c.copy_content_from-in-Struct.new.limiter told c.copy_content_from-in-Struct.result) is c.copy_content_from-in-Struct.ensures.cause in
    row_told 63 from first k (min k c.args.object.pointers) content.kids content.kids_are (omega arith) c.new-limiter.result c.copy_content_from-in-Struct.new.limiter told c.copy_content_from-in-Struct.result c.new-limiter.ensures.left cause

pub returns-in_default-clause-cause : goal.returns-in_default-clause-cause
returns-in_default-clause-cause g c t e of =
    let from : Segments = default_segments c.args.words.now in
    let is = ap (λ (x : Ground). x.segments) c.default_backing-source.ensures in
    let found : object_at from root ≡ Ok c.in_ok-found.found = subst (λ (f : Segments). object_at f root ≡ Ok c.in_ok-found.found) is (sym c.in_ok-found.ensures.object) in
    absurd (no_other c.in_ok-found.found.object c.in_default.not-Null c.in_default.not-Struct (subst IsStructOrNull found (is_struct_there 63 from root t e of)))
