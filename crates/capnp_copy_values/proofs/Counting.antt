-- How many pointers a copy follows.
use Rattle.std.specs.Bool.{⊤}
use Rattle.std.proofs.Common.{◌≡◌, ◌⊎◌, ℕ, ◌+◌, List, [], ◌∷◌, ◌++◌, length, Some, Result, Ok, Err, ap, sym, ◌∙◌, inl, inr, arith}
use Rattle.std.proofs.lemmas.List.{length-append, append_assoc, append-nil}
use Rattle.capnp_model.specs.Segments.{Segments, Place}
use Rattle.capnp_model.specs.Visits.{Visit, visits, visits_cost}
use Rattle.capnp_model.proofs.lemmas.Visits.{follows_few, cost_front}
use Rattle.capnp_units.specs.declared.errors.Error.{Error}
use Rattle.capnp_units.specs.declared.limiter.ReadLimiter.{ReadLimiter}
use Rattle.capnp_wire_objects.specs.Follow.{follow_cost}
use Rattle.capnp_wire_objects.specs.Walks.{Walked, Stopped}
use Rattle.capnp_model.proofs.lemmas.Lists.{last_of}
use Rattle.capnp_copy_values.specs.Copies.{Unplaced, CopiesValue, FollowsFew, copy_source, limited_words}

walked_few : (n : ℕ) (s : Segments) (p : Place) (path rest : List Visit) (old new : ReadLimiter) → visits n s p ≡ path ++ rest → Walked path old new → FollowsFew old new
walked_few n s p [] rest old new is w = record { granted = w.cost; followed = 0; spends = w.spends; follows = w.follows; few = omega arith }
walked_few n s p (v ∷ vs) rest old new is w =
    let y = last_of v vs in
    let before : List Visit = y.0 in
    let last : Visit = y.1 in
    let cost_is : visits_cost (y.0 ++ y.1 ∷ []) ≡ Some w.cost = ap visits_cost (sym y.2) ∙ w.cost_is in
    let x = cost_front y.0 (y.1 ∷ []) w.cost cost_is in
    let path_is : visits n s p ≡ y.0 ++ y.1 ∷ rest = is ∙ ap (λ (ws : List Visit). ws ++ rest) y.2 ∙ append_assoc y.0 (y.1 ∷ []) rest in
    let few = follows_few n s p y.0 y.1 rest x.0 path_is x.1 in
    let less = x.2 in
    let long : length (v ∷ vs) ≡ length y.0 + length (y.1 ∷ []) = ap length y.2 ∙ length-append y.0 (y.1 ∷ []) in
    record { granted = w.cost; followed = length (v ∷ vs); spends = w.spends; follows = w.follows; few = omega (arith, few, less, long) }

pub stopped_few : (n : ℕ) (s : Segments) (p : Place) (old new : ReadLimiter) (e : Error) → Stopped (visits n s p) old e new → FollowsFew old new
stopped_few n s p old new e x =
    let few = follows_few n s p x.before x.last x.behind x.paid x.path_is x.cost_is in
    record { granted = x.paid; followed = length x.before + 1; spends = x.spends; follows = x.follows; few = omega (arith, few) }

unplaced_few : (n : ℕ) (s : Segments) (p : Place) (u : Segments) (old new : ReadLimiter) (e : Error) → Unplaced s (visits n s p) u old e new → FollowsFew old new
unplaced_few n s p u old new e x =
    let last : Visit = Ok (follow_cost x.found) in
    walked_few n s p (x.before ++ last ∷ []) x.rest old new (x.path_is ∙ sym (append_assoc x.before (last ∷ []) x.rest)) x.walked

pub copy_few : (n : ℕ) (from : Segments) (q : Place) (s u : Segments) (p : Place) (old new : ReadLimiter) (r : Result ⊤ Error) → CopiesValue (copy_source n from q) p (limited_words s old) r (limited_words u new) → FollowsFew old new
copy_few n from q s u p old new (Ok x) g = walked_few n from q (visits n from q) [] old new (sym (append-nil (visits n from q))) g.walked
copy_few n from q s u p old new (Err e) g = by g.why
  where
    by : Stopped (visits n from q) old e new ⊎ Unplaced from (visits n from q) u old e new → FollowsFew old new
    by (inl x) = stopped_few n from q old new e x
    by (inr x) = unplaced_few n from q u old new e x
