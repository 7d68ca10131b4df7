-- Values as messages hold them: every data section is one of its words.
use Rattle.std.specs.Prelude.{ℕ, ◌*◌, ◌^◌, ◌<◌}
use Rattle.capnp_model.specs.Calls.{Verb, set_to, enumerant, message}
use Rattle.capnp_model.specs.Trees.{Tree, null, capability, structure, plain_list, pointer_list, struct_list, Trees, none, ◌▸◌, Elements, no_elements, element}

abbrev mutual
  -- Every section of a value lies within its words.
  pub IsWhole : Tree → Type 0
  IsWhole null = Unit {0}
  IsWhole (capability i) = Unit {0}
  IsWhole (structure words section kids) = (section < 2 ^ (64 * words)) × AreWhole kids
  IsWhole (plain_list size n section) = Unit {0}
  IsWhole (pointer_list ts) = AreWhole ts
  IsWhole (struct_list words pointers es) = HaveWhole words es

  -- Those of each of the values do.
  pub AreWhole : Trees → Type 0
  AreWhole none = Unit {0}
  AreWhole (t ▸ ts) = IsWhole t × AreWhole ts

  -- The sections of elements of n words do.
  pub HaveWhole : ℕ → Elements → Type 0
  HaveWhole words no_elements = Unit {0}
  HaveWhole words (element section kids es) = (section < 2 ^ (64 * words)) × AreWhole kids × HaveWhole words es

-- A verb as calls hold it: an enum value of sixteen bits, and a message whose sections lie within their words.
abbrev pub IsWholeVerb : Verb → Type 0
IsWholeVerb (set_to (enumerant n)) = n < 2 ^ 16
IsWholeVerb (set_to (message t)) = IsWhole t
IsWholeVerb _ = Unit {0}
