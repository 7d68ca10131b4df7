use Rattle.std.proofs.Common.{◌≡◌, ◌+◌, ◌<◌, ◌≤◌, ◌^◌, ℕ, replicate, inl, inr, ap, sym, ◌∙◌, refl, true, subst, arith}
use Rattle.std.proofs.lemmas.Result.{err_from_is_err_and}
use Rattle.std.specs.Option.{is_some}
use Rattle.capnp_model.specs.Pointers.{Object}
use Rattle.capnp_model.specs.Segments.{words_at}
use Rattle.capnp_units.specs.Segments.{words_in}
use Rattle.capnp_units.specs.Sizes.{size_number}
use Rattle.capnp_wire_objects.specs.Places.{place_view}
use Rattle.capnp_copy_arenas.specs.Allocations.{total_words, TakesJust, TakesAtMost, NoRoom}
use Rattle.capnp_copy_arenas.specs.Lists.{zeros_of, words_of_list}
use Rattle.capnp_copy_arenas.specs.Values.{LeadsTo}
use Rattle.capnp_copy_arenas.proofs.ListWords.{zeros_words, zeros_pointer, zeros_object, zeros_fit}
use Rattle.capnp_copy_arenas.proofs.init.init_list.Goals as goal

pub returns : goal.returns
returns g c =
    let s = words_in (g.A.ReaderArena.segments c.args.arena.now) in
    let u = words_in (g.A.ReaderArena.segments c.init_zeros.new.arena) in
    let free = g.A.BuilderArena.room c.args.arena.now in
    let slot = c.args.slot in
    let size = size_number c.args.size in
    let count = c.args.count in
    let n : ℕ = c.words_of.result in
    let m : ℕ = words_of_list size count in
    let same : n ≡ m = c.words_of.ensures.words in
    let words = zeros_words size count ∙ ap (λ (k : ℕ). replicate {A = ℕ} k 0) (sym same) in
    let fits = zeros_fit size count c.requires.plain (omega (arith, c.words_of.ensures.small)) in
    let pointer = sym (c.list_word.ensures.word ∙ zeros_pointer size count) in
    let start = c.in_ok-start.start in
    let e = c.in_ok-start.ensures in
    let before : start.position + n < 2 ^ 61 = e.near in
    let near : start.position + m < 2 ^ 61 = omega (arith, before, same) in
    record {
      value = e.value (zeros_of size count) words pointer fits;
      object = subst (λ (o : Object). LeadsTo u (place_view slot) o) (zeros_object (place_view start) size count) (e.object (zeros_of size count) words pointer fits);
      list = (refl, refl, refl);
      there = subst (λ (k : ℕ). is_some (words_at u (place_view start) k) ≡ true) same e.there;
      near = near;
      taken = subst (λ (k : ℕ). TakesJust s free u slot.segment k) same e.taken;
      bound = subst (λ (k : ℕ). TakesAtMost s u k 1) same e.bound;
      full = tt;
      refused = tt;
      kind = tt;
      books = e.books;
      grows = e.grows;
      cause = tt;
    }

pub returns-in_err-start : goal.returns-in_err-start
returns-in_err-start g c =
    let s = words_in (g.A.ReaderArena.segments c.args.arena.now) in
    let free = g.A.BuilderArena.room c.args.arena.now in
    let p = err_from_is_err_and c.from_residual.result c.from_residual.ensures.1 in
    let n : ℕ = c.words_of.result in
    let m : ℕ = words_of_list (size_number c.args.size) c.args.count in
    let same : n ≡ m = c.words_of.ensures.words in
    let e = c.in_err-start.ensures in
    let over : 2 ^ 29 ≤ total_words s + (n + 1) → 2 ^ 29 ≤ total_words s + (m + 1) = λ l. omega (arith, l, same) in
    let under : 2 ^ 29 ≤ total_words s + (m + 1) → 2 ^ 29 ≤ total_words s + (n + 1) = λ l. omega (arith, l, same) in
    rw (p.1, p.2) (record {
      value = tt;
      object = tt;
      list = tt;
      there = tt;
      near = tt;
      taken = tt;
      bound = tt;
      full = inr (subst (λ (k : ℕ). NoRoom s free c.args.slot.segment k) same e.full);
      refused = e.refused;
      kind = (λ is. inr (over (e.kind.1.0 is)), elim [ inl l ↦ absurd (omega (arith, l, c.words_of.ensures.small)) | inr l ↦ e.kind.1.1 (under l) ]);
      books = e.books;
      grows = tt;
      cause = e.cause;
    })
