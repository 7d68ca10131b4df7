-- Laws of changes.
use Rattle.std.proofs.Common.{◌≡◌, ℕ, zero, suc, ◌+◌, List, Some, refl, sym, ◌∙◌, arith, ◌≤◌, ◌<◌}
use Rattle.std.specs.List.{AllByRecursion}
use Rattle.capnp_model.specs.Coverage.{Span, times_held, Keeps}
use Rattle.capnp_model.specs.Segments.{Segments, Place, word_at}
use Rattle.capnp_model.proofs.lemmas.SoundRules.{apart}
use Rattle.capnp_model_writes.specs.Changes.{Changes, absent, ZeroBeside}
use Rattle.capnp_model_writes.proofs.lemmas.Spans.{there, grows_then, Whether, it_is, it_is_not, whether, not_there, absent_le, absent_shrinks, grows_same}
use Rattle.capnp_model_writes.proofs.lemmas.There.{spans_kept}

-- what counts stands on words that are there
abbrev pub On : Segments → (Place → ℕ) → Type 0
On s c = (q : Place) → 0 < c q → (w : ℕ) × (word_at s q ≡ Some w)

pub changes_nothing : (s : Segments) (c : Place → ℕ) → Changes s s c c
changes_nothing s c =
    record {
      grows = grows_same s;
      kept = λ q w e z. e;
      within = λ q. omega arith;
      cleared = λ q w e z l. absurd (let t = there s q w e in omega (arith, z, l, t));
    }

-- a part changes as the whole does, where what is beside it stays
pub changes_lift : (s u : Segments) (c c' d d' : Place → ℕ) → Changes s u c c' → ((q : Place) → d' q + c q ≡ d q + c' q) → ((q : Place) → c q ≤ d q) → Changes s u d d'
changes_lift s u c c' d d' h e l =
    record {
      grows = h.grows;
      kept = λ q w f z. h.kept q w f (omega (arith, l q, z));
      within = λ q. omega (arith, h.within q, e q);
      cleared = λ q w f z k. h.cleared q w f (omega (arith, e q, l q, z)) (omega (arith, e q, l q, z, k));
    }

pub changes_alike : (s u : Segments) (c d c' d' : Place → ℕ) → Changes s u c d → ((q : Place) → c' q ≡ c q) → ((q : Place) → d' q ≡ d q) → Changes s u c' d'
changes_alike s u c d c' d' h e f =
    record {
      grows = h.grows;
      kept = λ q w a z. h.kept q w a (omega (arith, e q, z));
      within = λ q. omega (arith, h.within q, e q, f q);
      cleared = λ q w a z l. h.cleared q w a (omega (arith, f q, z)) (omega (arith, e q, l));
    }

within_then : (s u : Segments) (c c' c'' : ℕ) (q : Place) → c' ≤ c + absent s q → c'' ≤ c' + absent u q → absent u q ≤ absent s q → ((0 < c') → (w : ℕ) × (word_at u q ≡ Some w)) → Whether u q → c'' ≤ c + absent s q
within_then s u c c' c'' q h k g on (it_is w e z) = omega (arith, h, k, z)
within_then s u c zero c'' q h k g on (it_is_not e o) = omega (arith, k, g)
within_then s u c (suc c') c'' q h k g on (it_is_not e o) = let y = on (omega arith) in absurd (not_there u q y.0 y.1 e)

cleared_then : (s u v : Segments) (c c' c'' : Place → ℕ) → Changes s u c c' → Changes u v c' c'' → (q : Place) (w a : ℕ) → a ≡ c' q → Whether u q → word_at v q ≡ Some w → c'' q ≡ 0 → 0 < c q + absent s q → w ≡ 0
cleared_then s u v c c' c'' h k q w (suc a) ea y f z l = k.cleared q w f z (omega (arith, ea))
cleared_then s u v c c' c'' h k q w zero ea (it_is_not e o) f z l = k.cleared q w f z (omega (arith, o))
cleared_then s u v c c' c'' h k q w zero ea (it_is x e o) f z l =
    let none : x ≡ 0 = h.cleared q x e (sym ea) l in
    let still : word_at v q ≡ Some x = k.kept q x e (sym ea) in
    let same : Some w ≡ Some x = sym f ∙ still in
    cc

pub changes_then : (s u v : Segments) (c c' c'' : Place → ℕ) → Changes s u c c' → Changes u v c' c'' → On u c' → Changes s v c c''
changes_then s u v c c' c'' h k on =
    record {
      grows = grows_then s u v h.grows k.grows;
      kept = λ q w e z. (let t = there s q w e in k.kept q w (h.kept q w e z) (omega (arith, h.within q, z, t)));
      within = λ q. within_then s u (c q) (c' q) (c'' q) q (h.within q) (k.within q) (absent_shrinks s u q h.grows) (on q) (whether u q);
      cleared = λ q w f z l. cleared_then s u v c c' c'' h k q w (c' q) refl (whether u q) f z l;
    }

-- no word is taken twice afterwards
apart_by : (c c' a : ℕ) → c' ≤ c + a → c ≤ 1 → a ≤ 1 → ((0 < c) → a ≡ 0) → c' ≤ 1
apart_by zero c' a h k l f = omega (arith, h, l)
apart_by (suc c) c' a h k l f = let z = f (omega arith) in omega (arith, h, k, z)

pub still_apart : (s u : Segments) (c c' : Place → ℕ) → Changes s u c c' → On s c → ((q : Place) → c q ≤ 1) → (q : Place) → c' q ≤ 1
still_apart s u c c' h on apart q = apart_by (c q) (c' q) (absent s q) (h.within q) (apart q) (absent_le s q) (λ l. let y = on q l in there s q y.0 y.1)

-- words beside stay zero
zero_by : (s u : Segments) (c c' : Place → ℕ) → Changes s u c c' → ZeroBeside s c → (q : Place) (w a : ℕ) → a ≡ c q → Whether s q → word_at u q ≡ Some w → c' q ≡ 0 → w ≡ 0
zero_by s u c c' h z q w (suc a) ea y f n = h.cleared q w f n (omega (arith, ea))
zero_by s u c c' h z q w zero ea (it_is_not e o) f n = h.cleared q w f n (omega (arith, o))
zero_by s u c c' h z q w zero ea (it_is x e o) f n =
    let none : x ≡ 0 = z q x e (sym ea) in
    let same : Some w ≡ Some x = sym f ∙ h.kept q x e (sym ea) in
    cc

pub still_zero : (s u : Segments) (c c' : Place → ℕ) → Changes s u c c' → ZeroBeside s c → ZeroBeside u c'
still_zero s u c c' h z q w f n = zero_by s u c c' h z q w (c q) refl (whether s q) f n

-- what is beside a change is kept
pub beside_kept : (s u : Segments) (c c' : Place → ℕ) (xs : List Span) → Changes s u c c' → ((q : Place) → times_held xs q + c q ≤ 1) → AllByRecursion (Keeps s u) xs
beside_kept s u c c' xs h apart = spans_kept s u xs h.grows (λ q w l e. h.kept q w e (omega (arith, apart q, l)))
