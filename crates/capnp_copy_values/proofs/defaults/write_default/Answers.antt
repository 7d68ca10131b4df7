-- The default's segment is that of its words.
use Rattle.std.proofs.Common.{◌≡◌, ◌||◌, not, Bool, true, false, ap, sym, ◌∙◌, subst, rules}
use Rattle.capnp_model.specs.Segments.{Segments, Place, root}
use Rattle.capnp_units.specs.Segments.{words_in}
use Rattle.capnp_wire_objects.specs.Places.{place_view}
use Rattle.capnp_wire.specs.Views.{Ground}
use Rattle.capnp_model.specs.Sizes.{object_words}
use Rattle.capnp_model.specs.Traversal.{tree_at}
use Rattle.capnp_model.specs.Visits.{visits}
use Rattle.capnp_copy_arenas.specs.Refusals.{IsSizeOrRefusal}
use Rattle.capnp_copy_arenas.specs.States.{state_in}
use Rattle.capnp_copy_values.specs.Copies.{CopiesValue, IsStoppedOr, copy_source, limited_words}
use Rattle.capnp_copy_values.specs.Fits.{FitsWhereRoom, HasLongList, limited_arena, wanted}
use Rattle.capnp_copy_values.specs.Defaults.{default_segments, is_null_or_absent}
use Rattle.capnp_copy_values.proofs.defaults.write_default.Goals as goal

both : (a b : Bool) → a ≡ true → b ≡ false → (not a || b) ≡ true → ⊥
both true true e f h = cc
both true false e f h = cc
both false b e f h = cc

pub returns-clause-default : goal.returns-clause-default
returns-clause-default g c =
    let s : Segments = words_in (g.A.ReaderArena.segments c.args.arena.now) in
    let u : Segments = words_in (g.A.ReaderArena.segments c.copy_from.new.arena) in
    let p : Place = place_view c.args.slot in
    let is = ap (λ (x : Ground). x.segments) c.default_backing-source.ensures in
    let null_there : c.is_null_at.result ≡ true = search rules in
    let null_here : is_null_or_absent s p ≡ true = sym c.is_null_at.ensures ∙ null_there in
    let some_there : c.is_null_at-else-not-is_null_at.result ≡ false = search rules in
    let some_here : is_null_or_absent (default_segments c.args.default.now) root ≡ false = subst (λ (f : Segments). is_null_or_absent f root ≡ false) is (sym c.is_null_at-else-not-is_null_at.ensures ∙ some_there) in
    record {
      written = λ a b. record {
        old = c.new-limiter.result;
        new = c.copy_from.new.limiter;
        endless = c.new-limiter.ensures.limit;
        unused = c.new-limiter.ensures.granted;
        copies = subst (λ (f : Segments). CopiesValue (copy_source 64 f root) p (limited_words s c.new-limiter.result) c.copy_from.result (limited_words u c.copy_from.new.limiter)) is c.copy_from.ensures.copy;
      };
      kept = λ e. absurd (both (is_null_or_absent s p) (is_null_or_absent (default_segments c.args.default.now) root) null_here some_here e);
    }

pub returns-clause-told : goal.returns-clause-told
returns-clause-told g c =
    let s : Segments = words_in (g.A.ReaderArena.segments c.args.arena.now) in
    let p : Place = place_view c.args.slot in
    let is = ap (λ (x : Ground). x.segments) c.default_backing-source.ensures in
    let null_there : c.is_null_at.result ≡ true = search rules in
    let null_here : is_null_or_absent s p ≡ true = sym c.is_null_at.ensures ∙ null_there in
    let some_there : c.is_null_at-else-not-is_null_at.result ≡ false = search rules in
    let some_here : is_null_or_absent (default_segments c.args.default.now) root ≡ false = subst (λ (f : Segments). is_null_or_absent f root ≡ false) is (sym c.is_null_at-else-not-is_null_at.ensures ∙ some_there) in
    record {
      written = λ a b. record {
        old = c.new-limiter.result;
        new = c.copy_from.new.limiter;
        endless = c.new-limiter.ensures.limit;
        fits = subst (λ (f : Segments). FitsWhereRoom (tree_at 64 f root) (visits 64 f root) (wanted object_words (HasLongList f) c.args.slot.segment) (limited_arena (state_in g.A.ReaderArena.segments g.A.BuilderArena.room g.A.BuilderArena.books c.args.arena.now) c.new-limiter.result) c.copy_from.result (limited_arena (state_in g.A.ReaderArena.segments g.A.BuilderArena.room g.A.BuilderArena.books c.copy_from.new.arena) c.copy_from.new.limiter)) is c.copy_from.ensures.fits;
        cause = subst (λ (f : Segments). IsStoppedOr (visits 64 f root) c.new-limiter.result c.copy_from.new.limiter (IsSizeOrRefusal g.A.BuilderArena.refuses) c.copy_from.result) is c.copy_from.ensures.cause;
      };
      kept = λ e. absurd (both (is_null_or_absent s p) (is_null_or_absent (default_segments c.args.default.now) root) null_here some_here e);
    }
