-- What calls reply.
use Rattle.std.specs.Prelude.{ℕ, Bool, Option}
use Rattle.capnp_units.specs.Errors.{kind_of}
use Rattle.capnp_model.specs.Readings.{whole_words, discriminant, is_active}
use Rattle.capnp_model.specs.Calls.{Content, refused_by}
use Rattle.capnp_model.specs.Edits.{Cell}
use Rattle.capnp_model.specs.Answers.{Reply as ModelReply, reply_text, reply_done, reply_refused}
use Rattle.capnp_calls.specs.declared.reply.Reply.{Reply}
use Rattle.capnp_calls.specs.declared.reply.Reply.TheVariants as reply

-- A reply.
abbrev pub reply_view : Reply → ModelReply
reply_view (reply.Text bytes) = reply_text bytes.items
reply_view reply.Done = reply_done
reply_view (reply.Refused kind) = reply_refused (kind_of kind)

-- The reply to a write of this content.
abbrev pub content_reply : Content → ModelReply
content_reply (refused_by kind) = reply_refused kind
content_reply _ = reply_done

-- A field that is no member, or the active one of its union. (Encoding, "Structs")
abbrev pub is_active_in_cell : Option ℕ → Option ℕ → Cell → Bool
is_active_in_cell union member c = is_active member (discriminant union whole_words c.section)
