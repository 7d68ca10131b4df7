-- Groups that are set to the values of messages.
use Rattle.std.proofs.Common.{◌≡◌, ℕ, Option, Some, None, refl, subst}
use Rattle.capnp_model.specs.Kinds.{Kind}
use Rattle.capnp_model.specs.Trees.{Tree, null, capability, structure, plain_list, pointer_list, struct_list}
use Rattle.capnp_model.specs.Schemas.{Shape, Schema}
use Rattle.capnp_model.specs.Readings.{Record, record_of, record_by_shape}
use Rattle.capnp_model.specs.Calls.{object, message, message_root, struct_content}
use Rattle.capnp_model.specs.Groups.{group_fault}
use Rattle.capnp_model.specs.Steps.{copied_or_refused, set_group, set_group_from}
use Rattle.capnp_model.specs.Answers.{Reply, reply_done, reply_refused, reply_of}
use Rattle.capnp_model.specs.Printing.{as_it_is}

abbrev pub fault_reply : Option Kind → Reply
fault_reply None = reply_done
fault_reply (Some kind) = reply_refused kind

told : (s : Schema) (g : Shape) (r : Record) (k : Option Kind) → fault_reply k ≡ reply_of s as_it_is (copied_or_refused s g r k)
told s g r None = refl
told s g r (Some kind) = refl

record_told : (s : Schema) (id : ℕ) (k : Option Kind) (u : Tree) → struct_content u ≡ object u → k ≡ group_fault (s.shape_of id) (record_of s id u) → fault_reply k ≡ reply_of s as_it_is (set_group_from s (s.shape_of id) u)
unfolding record_of
record_told s id k null h is = absurd (cc h)
record_told s id k (capability i) h is = absurd (cc h)
record_told s id k (structure w n ts) h is =
    let g = s.shape_of id in
    let r = record_by_shape s g (structure w n ts) in
    subst (λ (x : Option Kind). fault_reply k ≡ reply_of s as_it_is (copied_or_refused s g r x)) is (told s g r k)
record_told s id k (plain_list size n x) h is = absurd (cc h)
record_told s id k (pointer_list ts) h is = absurd (cc h)
record_told s id k (struct_list w p es) h is = absurd (cc h)

-- the first fault of the struct's record, if there is one
pub struct_set : (s : Schema) (id : ℕ) (k : Option Kind) (t : Tree) → struct_content (message_root t) ≡ object (message_root t) → k ≡ group_fault (s.shape_of id) (record_of s id (message_root t))
    → fault_reply k ≡ reply_of s as_it_is (set_group s (s.shape_of id) (message t))
struct_set s id k t h is = record_told s id k (message_root t) h is
