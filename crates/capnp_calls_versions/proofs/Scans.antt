-- Steps of a walk, one after the other.
use Rattle.std.proofs.Common.{◌≡◌, Bool, true, false, ◌&&◌, [], ◌∷◌, ◌++◌, append_assoc, refl, sym, ◌∙◌, ap}
use Rattle.capnp_model.specs.Compatible.{Pairs}
use Rattle.capnp_model.proofs.lemmas.Tests.{and_assoc, and_comm, and_false}
use Rattle.capnp_calls_versions.specs.declared.reached.Reached.{Reached}
use Rattle.capnp_calls_versions.specs.declared.keeps.Versions.{Versions}
use Rattle.capnp_calls_versions.specs.Pairs.{has_each, pairs_of, IsFront}
use Rattle.capnp_calls_versions.specs.Walks.{IsSoundFor, Decides}

append_none : (xs : Pairs) → xs ++ [] ≡ xs
append_none [] = refl
append_none (x ∷ xs) = ap (λ ys. x ∷ ys) (append_none xs)

pub front_itself : (xs : Pairs) → IsFront xs xs
front_itself xs = record { rest = []; parts = sym (append_none xs) }

pub front_of_front : (xs ys zs : Pairs) → IsFront xs ys → IsFront ys zs → IsFront xs zs
front_of_front xs ys zs a b = record { rest = a.rest ++ b.rest; parts = b.parts ∙ ap (λ ws. ws ++ b.rest) a.parts ∙ append_assoc xs a.rest b.rest }

module _ (v : Versions) where
  -- nothing is reached, and the test does not look at pairs
  pub decides_here : (r : Reached) (ok : Bool) (test : Pairs → Bool) → IsSoundFor v r → ((pairs : Pairs) → test pairs ≡ ok) → Decides v r r ok test
  decides_here r ok test s h = record { sound = s; grows = front_itself (pairs_of r); tested = λ pairs. ap (λ b. has_each pairs (pairs_of r) && b) (h pairs) ∙ and_comm (has_each pairs (pairs_of r)) ok }

  -- another test that is the same
  pub decides_same : (old new : Reached) (ok : Bool) (test other : Pairs → Bool) → Decides v old new ok test → ((pairs : Pairs) → other pairs ≡ test pairs) → Decides v old new ok other
  decides_same old new ok test other d h = record { sound = d.sound; grows = d.grows; tested = λ pairs. ap (λ b. has_each pairs (pairs_of old) && b) (h pairs) ∙ d.tested pairs }

  -- a test that fails
  pub decides_not : (old new : Reached) (test : Pairs → Bool) → IsSoundFor v new → IsFront (pairs_of old) (pairs_of new) → ((pairs : Pairs) → (has_each pairs (pairs_of old) && test pairs) ≡ false) → Decides v old new false test
  decides_not old new test s g h = record { sound = s; grows = g; tested = h }

  -- a test that fails, whatever was reached by another
  pub decides_after : (old new : Reached) (ok : Bool) (test other : Pairs → Bool) → Decides v old new ok test → ((pairs : Pairs) → other pairs ≡ false) → Decides v old new false other
  decides_after old new ok test other d h = decides_not old new other d.sound d.grows (λ pairs. ap (λ b. has_each pairs (pairs_of old) && b) (h pairs) ∙ and_false (has_each pairs (pairs_of old)))

  -- two tests, one after the other
  pub decides_both : (old mid new : Reached) (ok : Bool) (first second : Pairs → Bool) → Decides v old mid true first → Decides v mid new ok second → Decides v old new ok (λ pairs. first pairs && second pairs)
  decides_both old mid new ok first second d e = record {
    sound = e.sound;
    grows = front_of_front (pairs_of old) (pairs_of mid) (pairs_of new) d.grows e.grows;
    tested = λ pairs. sym (and_assoc (has_each pairs (pairs_of old)) (first pairs) (second pairs)) ∙ ap (λ b. b && second pairs) (d.tested pairs) ∙ e.tested pairs;
  }

  -- the first of two tests fails
  pub decides_first_not : (old new : Reached) (first second : Pairs → Bool) → Decides v old new false first → Decides v old new false (λ pairs. first pairs && second pairs)
  decides_first_not old new first second d = record {
    sound = d.sound;
    grows = d.grows;
    tested = λ pairs. sym (and_assoc (has_each pairs (pairs_of old)) (first pairs) (second pairs)) ∙ ap (λ b. b && second pairs) (d.tested pairs);
  }
