-- Messages at the front of bytes.
use Rattle.std.proofs.Common.{◌≡◌, ℕ, ◌-◌, ◌<◌, List, [], ◌∷◌, ◌++◌, length, drop, Option, Some, Result, Ok, ◌∙◌, ap, arith, length-append}
use Rattle.std.proofs.lemmas.List.{drop_at}
use Rattle.std.specs.Prelude.{Bool, true, ◌&&◌}
use Rattle.std.specs.Result.{result_ok}
use Rattle.capnp_model.specs.Kinds.{Kind}
use Rattle.capnp_model.specs.Chains.{◌>>=◌, ◌provided◌}
use Rattle.capnp_model.specs.Segments.{Segments}
use Rattle.capnp_model.specs.Messages.{frame_at, message_at}
use Rattle.capnp_model.specs.Spelling.{Frames}
use Rattle.hagzimot_salvage.specs.declared.roots.SalvageLimits.{SalvageLimits}
use Rattle.hagzimot_salvage.specs.Roots.{has_root}
use Rattle.hagzimot_salvage.specs.Frames.{has_zero_padding, words_of_front, behind_frame}

-- A message has a byte.
some_byte : (limit : Option ℕ) (x : List ℕ) (s : Segments) → Frames limit x s → 0 < length x
unfolding message_at
some_byte limit [] s h = absurd cc
some_byte limit (b ∷ x) s h = omega arith

-- What is behind a text.
pub behind_text : (b x rest : List ℕ) → b ≡ x ++ rest → drop (length b - length rest) b ≡ rest
behind_text b x rest e =
    let n : length x ≡ length b - length rest = omega (arith, ap length e, length-append x rest) in
    ap (drop (length b - length rest)) e ∙ drop_at x rest (length b - length rest) n

-- What is behind a message is shorter.
pub shorter : (limit : Option ℕ) (b x rest : List ℕ) (s : Segments) → b ≡ x ++ rest → Frames limit x s → length rest < length b
shorter limit b x rest s e h = omega (arith, ap length e, length-append x rest, some_byte limit x s h)

-- A message with a root, and what is behind it.
pub found_behind : (l : SalvageLimits) (b rest : List ℕ) (s : Segments) → frame_at (Some l.message_words) b ≡ Ok (s, rest) → has_zero_padding (length s) b ≡ true → has_root l (words_of_front b rest) s ≡ true → behind_frame l b ≡ Some rest
found_behind l b rest s framed padded rooted =
    ap (λ (r : Result (Segments × List ℕ) Kind). result_ok r >>= λ m. m.1 provided (has_zero_padding (length m.0) b && has_root l (words_of_front b m.1) m.0)) framed
    ∙ ap (λ (t : Bool). rest provided (t && has_root l (words_of_front b rest) s)) padded ∙ ap (λ (t : Bool). rest provided t) rooted
