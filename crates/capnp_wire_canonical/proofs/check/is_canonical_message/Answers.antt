-- One segment, and each of its words.
use Rattle.std.proofs.Common.{◌≡◌, ◌-◌, Bool, Result, Ok, Err, refl, ap, sym, ◌∙◌, subst, arith}
use Rattle.std.proofs.lemmas.Result.{err_from_is_err_and}
use Rattle.capnp_model.specs.Segments.{Segments, Place, root, place}
use Rattle.capnp_units.specs.declared.errors.Error.{Error}
use Rattle.capnp_units.specs.declared.limiter.ReadLimiter.{ReadLimiter}
use Rattle.capnp_units.specs.Segments.{words_in}
use Rattle.capnp_wire_objects.specs.Places.{place_view}
use Rattle.capnp_wire_objects.specs.Follow.{FollowsWithin}
use Rattle.capnp_wire_objects.specs.Near.{struct_object, IsNear}
use Rattle.capnp_wire_objects.proofs.lemmas.Measuring.{unfollowed_at}
use Rattle.capnp_wire_canonical.specs.Reaches.{reach}
use Rattle.capnp_wire_canonical.specs.Checks.{Tests, TellsMessage, TellsValue, value_test, head_state}
use Rattle.capnp_wire_canonical.proofs.NearFollowed.{some_left, untold}
use Rattle.capnp_wire_canonical.proofs.StandingValues.{deep_tests}
use Rattle.capnp_wire_canonical.proofs.Telling.{first_head, more_segments, message_tells, message_differs, message_ends}
use Rattle.capnp_wire_canonical.proofs.check.is_canonical_message.Goals as goal

pub returns-then-has_words : goal.returns-then-has_words
returns-then-has_words g c =
    let s : Segments = words_in (g.A.ReaderArena.segments c.args.arena.now) in
    more_segments c.args.levels s c.args.limiter.now (sym c.has_words.ensures.there ∙ c.if-has_words.true)

pub returns-then-begins : goal.returns-then-begins
returns-then-begins g c =
    let s : Segments = words_in (g.A.ReaderArena.segments c.args.arena.now) in
    let after : Place = place_view c.is_canonical.new.head in
    let m = c.is_canonical.new.limiter in
    let l = c.args.limiter.now in
    let same = untold struct_object (FollowsWithin c.args.levels s root) l c.follow_near_struct.new.limiter c.in_ok-near.field-0 c.in_default.not-Some c.in_ok-near.ensures.walked in
    let told = subst (λ (k : ReadLimiter). TellsValue (reach c.args.levels s) root (head_state (place 0 1) k) (Ok c.in_ok-begins.begins) (head_state after m)) same c.in_ok-begins.ensures in
    let x = subst (λ (b : Bool). TellsValue (reach c.args.levels s) root (head_state (place 0 1) l) (Ok b) (head_state after m)) c.if-begins.true told in
    message_tells c.args.levels s l m after c.has_words-then-begins.result (sym c.has_words.ensures.there ∙ c.if-has_words.false) c.has_words-then-begins.ensures.there x.0 x.1

pub returns-else-begins : goal.returns-else-begins
returns-else-begins g c =
    let s : Segments = words_in (g.A.ReaderArena.segments c.args.arena.now) in
    let after : Place = place_view c.is_canonical.new.head in
    let m = c.is_canonical.new.limiter in
    let l = c.args.limiter.now in
    let same = untold struct_object (FollowsWithin c.args.levels s root) l c.follow_near_struct.new.limiter c.in_ok-near.field-0 c.in_default.not-Some c.in_ok-near.ensures.walked in
    let told = subst (λ (k : ReadLimiter). TellsValue (reach c.args.levels s) root (head_state (place 0 1) k) (Ok c.in_ok-begins.begins) (head_state after m)) same c.in_ok-begins.ensures in
    let x = subst (λ (b : Bool). TellsValue (reach c.args.levels s) root (head_state (place 0 1) l) (Ok b) (head_state after m)) c.if-begins.false told in
    subst (λ (b : Bool). TellsMessage c.args.levels s l (Ok b) m) (sym c.if-begins.false) (message_differs c.args.levels s l m (sym c.has_words.ensures.there ∙ c.if-has_words.false) x.1)

pub returns-in_err-near : goal.returns-in_err-near
returns-in_err-near g c =
    let s : Segments = words_in (g.A.ReaderArena.segments c.args.arena.now) in
    let n = c.args.levels in
    let l = c.args.limiter.now in
    let k = c.follow_near_struct.new.limiter in
    let e = c.in_err-near.field-0.0 in
    let r = err_from_is_err_and c.from_residual.result c.from_residual.ensures.1 in
    subst (λ (y : Result Bool Error). TellsMessage n s l y k) (sym (r.1 ∙ ap (λ (y : Error). Err y) r.2))
    (unfollowed_at n s root l k (Err e) e e refl refl c.in_err-near.ensures.walked, sym c.has_words.ensures.there ∙ c.if-has_words.false)

pub struct_here-requires-clause-head : goal.struct_here-requires-clause-head
struct_here-requires-clause-head g c =
    let s : Segments = words_in (g.A.ReaderArena.segments c.args.arena.now) in
    let near : IsNear s root (struct_object c.in-Some.near) × (c.in-Some.near.start.segment ≡ 0) = rw c.in-Some.is at c.in_ok-near.ensures.near in
    first_head s (struct_object c.in-Some.near) near.0 c.are_words.ensures

pub returns-in_err-end : goal.returns-in_err-end
returns-in_err-end g c =
    let s : Segments = words_in (g.A.ReaderArena.segments c.args.arena.now) in
    let n = c.args.levels in
    let l = c.args.limiter.now in
    let k = c.follow_near_struct.new.limiter in
    let m = c.struct_here.new.limiter in
    let o = struct_object c.in-Some.near in
    let e = c.in_err-end.field-0.0 in
    let r = err_from_is_err_and c.from_residual-in_err-end.result c.from_residual-in_err-end.ensures.1 in
    let followed : FollowsWithin n s root l (Ok o) k = rw c.in-Some.is at c.in_ok-near.ensures.walked in
    let some = some_left n followed.1 in
    let x : Tests (value_test (reach n s) root 1) l (Err e) m = deep_tests n s root 1 o l k m (Err e) followed.0 (n - 1) (omega arith) c.in_err-end.ensures in
    subst (λ (y : Result Bool Error). TellsMessage n s l y m) (sym (r.1 ∙ ap (λ (y : Error). Err y) r.2)) (x, sym c.has_words.ensures.there ∙ c.if-has_words.false)

pub returns-in-Some : goal.returns-in-Some
returns-in-Some g c =
    let s : Segments = words_in (g.A.ReaderArena.segments c.args.arena.now) in
    let n = c.args.levels in
    let l = c.args.limiter.now in
    let k = c.follow_near_struct.new.limiter in
    let m = c.struct_here.new.limiter in
    let o = struct_object c.in-Some.near in
    let near : IsNear s root o × (c.in-Some.near.start.segment ≡ 0) = rw c.in-Some.is at c.in_ok-near.ensures.near in
    let followed : FollowsWithin n s root l (Ok o) k = rw c.in-Some.is at c.in_ok-near.ensures.walked in
    let some = some_left n followed.1 in
    message_ends n s l m c.in_ok-end.end c.is_last.result (sym c.has_words.ensures.there ∙ c.if-has_words.false) (first_head s o near.0 c.are_words.ensures) c.is_last.ensures.some c.is_last.ensures.none
    (deep_tests n s root 1 o l k m (Ok c.in_ok-end.end) followed.0 (n - 1) (omega arith) c.in_ok-end.ensures)
