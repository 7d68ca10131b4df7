-- Replies under two versions.
use Rattle.std.specs.Prelude.{◌≡◌, List, [], ◌∷◌}
use Rattle.capnp_model.specs.Calls.{Verb, get, Call}
use Rattle.capnp_model.specs.Answers.{Reply}

-- A verb other than `get`.
abbrev pub IsWrite : Verb → Type 0
IsWrite get = ⊥
IsWrite _ = Unit {0}

-- Two replies are equal, unless the call is a `get`.
abbrev pub SameUnlessGet : Verb → Reply → Reply → Type 0
SameUnlessGet get r r' = Unit {0}
SameUnlessGet _ r r' = r ≡ r'

-- The replies to calls other than `get` are the same.
abbrev pub SameReplies : List Call → List Reply → List Reply → Type 0
SameReplies [] [] [] = Unit {0}
SameReplies (c ∷ cs) (r ∷ rs) (r' ∷ rs') = SameUnlessGet c.verb r r' × SameReplies cs rs rs'
SameReplies _ _ _ = ⊥
