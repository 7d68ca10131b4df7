-- Numbers that have bits in a slot are taken.
use Rattle.std.proofs.Common.{◌≡◌, ℕ, Option, Some, None, ap}
use Rattle.std.specs.Option.{is_some}
use Rattle.capnp_model.specs.Calls.{Content}
use Rattle.capnp_calls.specs.Contents.{bits_content}
use Rattle.capnp_calls.specs.Replies.{content_reply}
use Rattle.capnp_calls_replies.specs.Writes.{reply_by_type}

pub taken_bits : (o : Option ℕ) (k : Content) → bits_content o ≡ k → reply_by_type (is_some o) ≡ content_reply k
taken_bits None k e = ap content_reply e
taken_bits (Some n) k e = ap content_reply e
