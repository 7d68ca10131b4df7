use Rattle.capnp_model.specs.Messages.{packed_message}
use Rattle.std.proofs.Common.{◌≡◌, ℕ, Option, List, [], ◌++◌, Some, None, Ok, sym, ap, ◌∙◌}
use Rattle.capnp_model.specs.Segments.{Segments}
use Rattle.capnp_model.specs.Packing.{unpacked}
use Rattle.capnp_model.specs.Messages.{packed_at}
use Rattle.capnp_model.proofs.lemmas.Chaining.{ok_is}
use Rattle.capnp_stream.specs.Frames.{TakesMessage}
use Rattle.capnp_stream_packed.proofs.laws.written_messages_are_read.Goals as goal

-- the text that was taken is the whole message
message-read : (limit : Option ℕ) (s u : Segments) (rest text : List ℕ) (new : Option (List ℕ))
    → ((b : List ℕ) (r : Segments × List ℕ) (x : List ℕ) → packed_at limit b ≡ Ok r → packed_at limit (b ++ x) ≡ Ok (r.0, r.1 ++ x)) → packed_at limit text ≡ Ok (s, rest) → TakesMessage unpacked limit (Some text) new u → (u ≡ s) × (new ≡ Some rest)
message-read limit s u rest text None more law p = absurd p.2
message-read limit s u rest text (Some left) more law p =
    let read : packed_at limit text ≡ Ok (u, left) = ap (packed_at limit) p.2 ∙ more p.0 (u, []) left p.1 in
    let same : (u, left) ≡ (s, rest) = ok_is (u, left) (s, rest) (sym read ∙ law) in
    (ap (λ (q : Segments × List ℕ). q.0) same, ap (λ (q : Segments × List ℕ). Some q.1) same)

pub returns-clause-read : goal.returns-clause-read
returns-clause-read c = λ limit s u rest new can taken.
    message-read limit s u rest (packed_message s ++ rest) new (c.texts_of_messages.ensures.packed_more limit) (c.written_messages.ensures.packed limit s rest can) taken
