-- The rules of schemas, in words.
use Rattle.std.specs.Prelude.{ℕ, ◌==◌, if◌then◌else◌, List, codes}

-- What the rule of a number says.
abbrev pub rule_told : ℕ → List ℕ
rule_told r = if r == 1 then codes "ids are distinct"
    else if r == 2 then codes "a node has at most 65,535 fields or enumerants, and a list of annotations fewer than 2^29"
    else if r == 3 then codes "names within a node are distinct and not empty"
    else if r == 4 then codes "no field is a float or a list of floats"
    else if r == 5 then codes "a struct type names a struct that is not a group, an enum type an enum, a group field a group"
    else if r == 6 then codes "a group belongs to one group field, is not in a cycle, and is not larger than its holder"
    else if r == 7 then codes "the members of a union are numbered from 0 without a gap, and its discriminant is in the data section"
    else if r == 8 then codes "a slot is in its section; its offset counts in the slot's own width"
    else if r == 9 then codes "two slots share a bit or a pointer only in different members of one union"
    else if r == 10 then codes "a default is of its slot's type; untyped pointers and capabilities have none"
    else if r == 11 then codes "the default of a struct or a list is its canonical words, without capabilities, at most 64 levels deep"
    else if r == 12 then codes "the value of an annotation is the canonical words of its type"
    else codes "no such rule"
