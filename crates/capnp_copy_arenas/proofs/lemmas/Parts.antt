-- Words that are there in part.
use Rattle.std.proofs.Common.{◌≡◌, ℕ, ◌+◌, ◌-◌, ◌≤◌, true, Some, ap, subst, arith}
use Rattle.std.specs.Option.{is_some}
use Rattle.capnp_model.specs.Segments.{Segments, Place, after, words_at}
use Rattle.capnp_model_writes.proofs.lemmas.Rows.{after_none}
use Rattle.capnp_model_writes.proofs.lemmas.Spans.{words_front, words_back}
use Rattle.capnp_copy_arenas.proofs.lemmas.RoomLaws.{some_of}

pub section_there : (s : Segments) (p : Place) (i n m : ℕ) → i + n ≤ m → is_some (words_at s p m) ≡ true → is_some (words_at s (after p i) n) ≡ true
section_there s p i n m l e =
    let sum : m ≡ i + (n + (m - i - n)) = omega (arith, l) in
    let x = some_of s p m e in
    let all : words_at s p (i + (n + (m - i - n))) ≡ Some x.0 = subst (λ (k : ℕ). words_at s p k ≡ Some x.0) sum x.1 in
    ap is_some (words_front s (after p i) n (m - i - n) _ (words_back s p i (n + (m - i - n)) x.0 all))

pub front_there : (s : Segments) (p : Place) (n m : ℕ) → n ≤ m → is_some (words_at s p m) ≡ true → is_some (words_at s p n) ≡ true
front_there s p n m l e = subst (λ (q : Place). is_some (words_at s q n) ≡ true) (after_none p) (section_there s p 0 n m (omega (arith, l)) e)
