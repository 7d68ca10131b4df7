-- The answer to one message.
use Rattle.std.specs.Prelude.{◌≡◌, ℕ, ℤ, pos, negsuc, Bool, false, not, ◌&&◌, nat_le, if◌then◌else◌, Option, Some, None, List, [], ◌∷◌}
use Rattle.capnp_model.specs.Chains.{◌>>=◌, ◌provided◌}
use Rattle.capnp_model.specs.Kinds.{Kind, UnreadablePointer}
use Rattle.capnp_model.specs.Segments.{Segments, root}
use Rattle.capnp_model.specs.Trees.{Tree, null, structure, widened, depth, has_capability}
use Rattle.capnp_model.specs.Trimming.{trim}
use Rattle.capnp_model.specs.Messages.{within}
use Rattle.capnp_model.specs.Traversal.{tree_at, cost_at}
use Rattle.capnp_model.specs.Encoding.{canonical_words}
use Rattle.capnp_model.specs.Schemas.{Shape, shape, Schema}
use Rattle.capnp_model.specs.Readings.{record_of}
use Rattle.capnp_model.specs.Printing.{on_one_line, print, nulls_as}
use Rattle.capnp_model.specs.Calls.{Call}
use Rattle.capnp_model.specs.Steps.{Outcome, refused, shown, done, step}
use Rattle.capnp_model.specs.Edits.{edit}

-- What a call replies.
pub data Reply : Type 0 where
  reply_text : List ℕ → Reply
  reply_done : Reply
  reply_refused : Kind → Reply

-- The reply to a `get`: the text, or a refusal where a fault is met.
abbrev pub text_reply : Option (List ℕ) → Reply
text_reply None = reply_refused UnreadablePointer
text_reply (Some t) = reply_text t

-- The reply of an outcome; `quoted` is what stands between the quotes of a text past ASCII.
abbrev pub reply_of : {A : Type 0} → Schema → (List ℕ → List ℕ) → Outcome A → Reply
reply_of s quoted (refused k) = reply_refused k
reply_of s quoted (shown how r) = text_reply (print s quoted (nulls_as s quoted 64) on_one_line how r)
reply_of s quoted (done x) = reply_done

-- Each reply is that of the record machine at the record of the tree before it.
unfoldable pub replies : Schema → (List ℕ → List ℕ) → ℕ → List Call → Tree → List Reply
replies s quoted id [] t = []
replies s quoted id (c ∷ cs) t = reply_of s quoted (step s id c (record_of s id t)) ∷ replies s quoted id cs (edit s id c t)

-- The tree after all calls.
unfoldable pub edits : Schema → ℕ → List Call → Tree → Tree
edits s id [] t = t
edits s id (c ∷ cs) t = edits s id cs (edit s id c t)

-- The root with at least its schema's sizes; a null as the empty struct.
abbrev pub widened_root : Shape → Tree → Tree
widened_root (shape nid words pointers u fs) t = widened words pointers t

-- The answer to a message: why it is refused, or the segments that are written and the replies.
pub data Answer : Type 0 where
  refused_value refused_root refused_depth : Answer
  written : Segments → List Reply → Answer

-- The most words that following a message may cost, `None` where any number may, and the most
-- levels of pointers.
pub record Limits : Type 0 where
  pub words : Option ℕ
  pub nesting : ℤ

-- The levels of a nesting limit. No value keeps a negative one.
abbrev pub levels : ℤ → Option ℕ
levels (pos n) = Some n
levels (negsuc n) = None

-- n levels are within a nesting limit.
abbrev pub keeps_nesting : ℕ → ℤ → Bool
keeps_nesting n (pos limit) = nat_le n limit
keeps_nesting n (negsuc k) = false

-- The value of a message, where it is within the limits and has no capability.
unfoldable pub value_within : Limits → Segments → Option Tree
value_within limits s =
    levels limits.nesting >>= λ n. tree_at n s root >>= λ t. t provided (not (has_capability t) && within (cost_at n s root) limits.words)

-- The tree that the calls start from: the trimmed value, a null as the empty struct, with at least the schema's sizes.
unfoldable pub opened_root : Schema → ℕ → Tree → Tree
opened_root s id t = widened_root (s.shape_of id) (trim t)

-- The answer where the calls start from a struct.
abbrev pub answer_struct : Schema → (List ℕ → List ℕ) → ℕ → List Call → ℤ → Tree → Answer
answer_struct s quoted id calls nesting t =
    let e : Tree = edits s id calls t in
    if keeps_nesting (depth e) nesting then written (canonical_words (trim e) ∷ []) (replies s quoted id calls t) else refused_depth

-- The answer to a value.
abbrev pub answer_value : Schema → (List ℕ → List ℕ) → ℕ → List Call → ℤ → Option Tree → Answer
answer_value s quoted id calls nesting None = refused_value
answer_value s quoted id calls nesting (Some null) = answer_struct s quoted id calls nesting (opened_root s id null)
answer_value s quoted id calls nesting (Some (structure words section kids)) = answer_struct s quoted id calls nesting (opened_root s id (structure words section kids))
answer_value s quoted id calls nesting (Some _) = refused_root

-- The answer to a message of these segments, under the schema of the root's id.
unfoldable pub answer : Schema → (List ℕ → List ℕ) → ℕ → List Call → Limits → Segments → Answer
answer s quoted id calls limits segments = answer_value s quoted id calls limits.nesting (value_within limits segments)

-- The answer that a relay gives, in the canonical form: exactly the one above.
abbrev pub IsAnswer : Schema → (List ℕ → List ℕ) → ℕ → List Call → Limits → Segments → Answer → Type 0
IsAnswer s quoted id calls limits segments a = a ≡ answer s quoted id calls limits segments
