-- The lists that calls put into slots and elements. (Encoding, "Lists")
use Rattle.std.specs.Prelude.{ℕ, ◌+◌, ◌*◌, max}
use Rattle.capnp_model.specs.Kinds.{WrongStep}
use Rattle.capnp_model.specs.Trees.{Tree, plain_list, pointer_list, struct_list, tree_count, element_count}
use Rattle.capnp_model.specs.Schemas.{Schema}
use Rattle.capnp_model.specs.Calls.{Verb, Content, refused_by, object, slot_content, element_content}
use Rattle.capnp_model.specs.InKindCalls.{PathEnd, at_slot, at_value, nowhere}
use Rattle.capnp_model.specs.Steps.{Outcome, done}

-- The elements of a list, or the words of a list of structs where these are more; what is no list has none.
abbrev pub list_len : Tree → ℕ
list_len (plain_list size n section) = n
list_len (pointer_list ts) = tree_count ts
list_len (struct_list words pointers es) = max (element_count es) (element_count es * (words + pointers))
list_len _ = 0

-- The elements, or the words, of the list that is put into a slot or an element.
abbrev pub content_len : Content → ℕ
content_len (object t) = list_len t
content_len _ = 0

-- What a verb puts where a path ends.
abbrev pub end_content : Schema → Verb → PathEnd → Content
end_content s verb (at_slot body) = slot_content s verb body
end_content s verb (at_value ty) = element_content s verb ty
end_content s verb nowhere = refused_by WrongStep

-- A write that is not refused.
abbrev pub IsDone : {A : Type 0} → Outcome A → Type 0
IsDone (done x) = Unit {0}
IsDone _ = ⊥
