use Rattle.std.proofs.Common.{◌≡◌, ◌+◌, ◌<◌, ◌≤◌, ◌^◌, ℕ, replicate, ap, sym, refl, true, subst, arith}
use Rattle.std.specs.Option.{is_some}
use Rattle.capnp_model.specs.Segments.{words_at}
use Rattle.capnp_units.specs.Segments.{words_in}
use Rattle.capnp_wire_objects.specs.Places.{place_view}
use Rattle.capnp_model_writes.specs.NewObjects.{new_struct}
use Rattle.std.proofs.lemmas.Result.{err_from_is_err_and}
use Rattle.capnp_copy_arenas.specs.Allocations.{total_words, TakesJust, TakesAtMost, NoRoom}
use Rattle.capnp_copy_arenas.proofs.init.init_struct.Goals as goal

pub returns : goal.returns
returns g c =
    let s = words_in (g.A.ReaderArena.segments c.args.arena.now) in
    let u = words_in (g.A.ReaderArena.segments c.init_zeros.new.arena) in
    let free = g.A.BuilderArena.room c.args.arena.now in
    let slot = c.args.slot in
    let size = c.args.size in
    let n : ℕ = c.total.result in
    let m : ℕ = size.data_words + size.pointers in
    let same : n ≡ m = c.total.ensures in
    let words : replicate {A = ℕ} m 0 ≡ replicate n 0 = ap (λ (k : ℕ). replicate {A = ℕ} k 0) (sym same) in
    let start = c.in_ok-start.start in
    let e = c.in_ok-start.ensures in
    let before : start.position + n < 2 ^ 61 = e.near in
    let near : start.position + m < 2 ^ 61 = omega (arith, before, same) in
    record {
      value = e.value (new_struct size.data_words size.pointers) words (sym c.struct_word.ensures.word) c.struct_word.ensures.fits;
      object = e.object (new_struct size.data_words size.pointers) words (sym c.struct_word.ensures.word) c.struct_word.ensures.fits;
      size = (refl, refl);
      there = subst (λ (k : ℕ). is_some (words_at u (place_view start) k) ≡ true) same e.there;
      near = near;
      taken = subst (λ (k : ℕ). TakesJust s free u slot.segment k) same e.taken;
      bound = subst (λ (k : ℕ). TakesAtMost s u k 1) same e.bound;
      full = tt;
      refused = tt;
      kind = tt;
      books = e.books;
      grows = e.grows;
      cause = tt;
    }

pub returns-in_err-start : goal.returns-in_err-start
returns-in_err-start g c =
    let s = words_in (g.A.ReaderArena.segments c.args.arena.now) in
    let free = g.A.BuilderArena.room c.args.arena.now in
    let p = err_from_is_err_and c.from_residual.result c.from_residual.ensures.1 in
    let n : ℕ = c.total.result in
    let m : ℕ = c.args.size.data_words + c.args.size.pointers in
    let same : n ≡ m = c.total.ensures in
    let e = c.in_err-start.ensures in
    let over : 2 ^ 29 ≤ total_words s + (n + 1) → 2 ^ 29 ≤ total_words s + (m + 1) = λ l. omega (arith, l, same) in
    let under : 2 ^ 29 ≤ total_words s + (m + 1) → 2 ^ 29 ≤ total_words s + (n + 1) = λ l. omega (arith, l, same) in
    rw (p.1, p.2) (record {
      value = tt;
      object = tt;
      size = tt;
      there = tt;
      near = tt;
      taken = tt;
      bound = tt;
      full = subst (λ (k : ℕ). NoRoom s free c.args.slot.segment k) same e.full;
      refused = e.refused;
      kind = (λ is. over (e.kind.1.0 is), λ l. e.kind.1.1 (under l));
      books = e.books;
      grows = tt;
      cause = e.cause;
    })
