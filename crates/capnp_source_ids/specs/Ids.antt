-- Ids that are derived from the id of a scope. (Cap'n Proto's schema language, "Unique IDs"; schema ids of
-- compiler.c++)
use Rattle.std.specs.Prelude.{ℕ, ◌^◌, Bool, bit_or, take, List, [], ◌∷◌, ◌++◌, if◌then◌else◌}
use Rattle.std.specs.Int.{w16, w64, to_le_bytes, from_be_bytes}
use Rattle.md5.specs.Md5.{md5}

-- The id of a digest: its first eight bytes, highest first, with the top bit set.
abbrev pub id_of_digest : List ℕ → ℕ
id_of_digest digest = bit_or (from_be_bytes w64 (take 8 digest)) (2 ^ 63)

-- A declaration: the digest is that of the scope's id, lowest byte first, and of the name.
abbrev pub child_id : ℕ → List ℕ → ℕ
child_id scope name = id_of_digest (md5 (to_le_bytes w64 scope ++ name))

-- A group: its place among the members, in two bytes, instead of a name.
abbrev pub group_id : ℕ → ℕ → ℕ
group_id scope place = id_of_digest (md5 (to_le_bytes w64 scope ++ to_le_bytes w16 place))

-- The byte that distinguishes the results of a method from its parameters.
abbrev pub results_byte : Bool → ℕ
results_byte are_results = if are_results then 1 else 0

-- The parameters or results of a method: its ordinal in two bytes, and that byte.
abbrev pub parameters_id : ℕ → ℕ → Bool → ℕ
parameters_id interface ordinal are_results = id_of_digest (md5 ((to_le_bytes w64 interface ++ to_le_bytes w16 ordinal) ++ results_byte are_results ∷ []))
