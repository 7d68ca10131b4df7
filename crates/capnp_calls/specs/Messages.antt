-- The value of a message that is kept.
use Rattle.capnp_model.specs.Trees.{Tree}
use Rattle.capnp_model.specs.Decoding.{decode}
use Rattle.capnp_model.specs.Schemas.{default_or_null}
use Rattle.capnp_calls.specs.declared.message.MessageValue.{MessageValue}

-- It is kept as its canonical bytes.
abbrev pub tree_of_message : MessageValue → Tree
tree_of_message m = default_or_null (decode m.segment.items)
