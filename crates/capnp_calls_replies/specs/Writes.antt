-- What writes are refused by.
use Rattle.std.specs.Prelude.{Bool, true, false}
use Rattle.capnp_model.specs.Kinds.{TypeMismatch, InitnIsOnlyValidForListTextOrDataFields}
use Rattle.capnp_model.specs.Schemas.{Ty, Schema}
use Rattle.capnp_model.specs.Calls.{Verb, get, set_to, init, initn, clear, Content, bits_of, value_content, init_content, initn_content}
use Rattle.capnp_model.specs.Answers.{Reply, reply_done, reply_refused}

-- A value of another sort is refused.
abbrev pub reply_by_type : Bool → Reply
reply_by_type true = reply_done
reply_by_type false = reply_refused TypeMismatch

-- What a verb puts into a slot of a type.
abbrev pub type_content : Schema → Verb → Ty → Content
type_content s (set_to v) ty = value_content v ty
type_content s init ty = init_content s ty
type_content s (initn n) ty = initn_content s n ty InitnIsOnlyValidForListTextOrDataFields
type_content s clear ty = bits_of 0
type_content s get ty = bits_of 0

-- It reads, and doesn't write.
abbrev pub is_get : Verb → Bool
is_get get = true
is_get (set_to v) = false
is_get init = false
is_get (initn n) = false
is_get clear = false
