-- The names of files that messages are split into.
use Rattle.std.specs.Prelude.{ℕ, ◌-◌, ◌==◌, ◌&&◌, nat_lt, nat_le, min, if◌then◌else◌, Option, Some, None, List, [], ◌∷◌, ◌++◌, length, codes, decimal}
use Rattle.std.specs.List.{list_any, position_or_len, before_first, after_first, repeat}
use Rattle.capnp_model.specs.Chains.{◌>>=◌}
use Rattle.hagzimot_pieces.specs.declared.part_names.PartNames.{PartNames}

-- The two parts of a text round the first of a byte, if it has one.
abbrev pub split_at : ℕ → List ℕ → Option (List ℕ × List ℕ)
split_at mark text = if nat_lt (position_or_len (λ b. b == mark) text) (length text) then Some (before_first (λ b. b == mark) text, after_first (λ b. b == mark) text) else None

-- The fewest digits that a pattern asks for: one, or as many as the digit behind a zero says.
abbrev pub digits_asked : List ℕ → Option ℕ
digits_asked [] = Some 1
digits_asked (z ∷ []) = None
digits_asked (z ∷ d ∷ []) = if (z == 48) && (nat_le 49 d && nat_le d 57) then Some (d - 48) else None
digits_asked (z ∷ d ∷ e ∷ rest) = None

-- What stands in front of a number and behind it, and the fewest digits of the number.
pub record Pattern : Type 0 where
  pub front : List ℕ
  pub digits : ℕ
  pub rear : List ℕ

-- The pattern of a text in which "%" stands once, and behind it a "d", with the digits that are asked for between them.
abbrev pub pattern_in : List ℕ → Option Pattern
pattern_in text =
    split_at 37 text >>= λ parts. split_at 100 parts.1 >>= λ rest.
    if list_any (λ b. b == 37) rest.1 then None
    else (digits_asked rest.0 >>= λ n. Some (record { front = parts.0; digits = n; rear = rest.1 }))

-- The pattern, as the code has it.
abbrev pub pattern_view : PartNames → Pattern
pattern_view p = record { front = p.front.now; digits = p.digits; rear = p.rear.now }

-- The name of a number: its digits, with zeros in front of them where they are too few.
abbrev pub name_of_part : Pattern → ℕ → List ℕ
name_of_part p n = p.front ++ (repeat (p.digits - length (decimal n)) (codes "0") ++ (decimal n ++ p.rear))
