-- A message, word for word.
use Rattle.std.specs.Prelude.{◌≡◌, ℕ, ◌<◌, ◌^◌}
use Rattle.capnp_model.specs.Segments.{Segments, Place}
use Rattle.hagzimot_explain.specs.declared.explained.Explanation.{Explanation}
use Rattle.hagzimot_explain.specs.Rows.{value_of, for_word}
use Rattle.hagzimot_explain.specs.Marks.{word_by, IsMarkOf}
use Rattle.hagzimot_explain.specs.Reached.{AreReached}

-- Each word of a message is explained, and no other, by the pointers that its root leads to.
pub record IsExplained (s : Segments) (words : ℕ) (x : Explanation) : Type 0 where
  pub each : (q : Place) → q.segment < 2 ^ 32 → value_of x.words.items q ≡ for_word s q (word_by s x.pointers.places.items q)
  pub is_so : (q : Place) → IsMarkOf s x.pointers.places.items q (word_by s x.pointers.places.items q).mark
  pub pointers : AreReached s words x.pointers
