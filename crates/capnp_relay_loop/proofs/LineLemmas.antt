-- The line of the log, and that of the message behind.
use Rattle.std.proofs.Common.{◌≡◌, ℕ, zero, suc, ◌+◌, ◌/◌, ◌%◌, ◌^◌, ◌<◌, ◌≤◌, List, [], ◌∷◌, ◌++◌, codes, decimal, length, get_or, refl, sym, ap, ◌∙◌, arith, append_assoc, length-append}
use Rattle.std.specs.List.{slice_set}
use Rattle.std.proofs.lemmas.Fmt.{decimal_digit, decimal_step}
use Rattle.std.proofs.lemmas.List.{set_at, get_or_at}
use Rattle.capnp_model.specs.Runs.{answer_words, line_of}
use Rattle.capnp_relay_loop.specs.Lines.{all_done, IsDoneLine}
use Rattle.capnp_relay_loop.specs.declared.line.Line.{Line}

-- the last digit of a number; the next number's others are the same, where it isn't 9
pub record EndsIn (n : ℕ) (front : List ℕ) : Type 0 where
  pub this : decimal n ≡ front ++ (48 + n % 10) ∷ []
  pub next : n + 1 < 2 ^ 64 → n % 10 < 9 → decimal (n + 1) ≡ front ++ (48 + n % 10 + 1) ∷ []

ends-by : (tens n : ℕ) → n / 10 ≡ tens → n < 2 ^ 64 → (front : List ℕ) × EndsIn n front
ends-by zero n e small =
    let low : n < 10 = omega (arith, e) in
    let digit : 48 + n ≡ 48 + n % 10 = omega arith in (
      [],
      record {
        this = decimal_digit n low ∙ ap (λ d. d ∷ []) digit;
        next = λ inside below. let other : 48 + (n + 1) ≡ 48 + n % 10 + 1 = omega arith in decimal_digit (n + 1) (omega arith) ∙ ap (λ d. d ∷ []) other;
      },
    )
ends-by (suc tens) n e small =
    let high : 10 ≤ n = omega (arith, e) in (
      decimal (n / 10),
      record {
        this = decimal_step n high small;
        next = λ inside below.
            let front : (n + 1) / 10 ≡ n / 10 = omega arith in
            let digit : 48 + (n + 1) % 10 ≡ 48 + n % 10 + 1 = omega arith in
            decimal_step (n + 1) (omega arith) inside ∙ ap (λ k. decimal k ++ (48 + (n + 1) % 10) ∷ []) front ∙ ap (λ d. decimal (n / 10) ++ d ∷ []) digit;
      },
    )

-- what stands behind the number
abbrev behind : ℕ → List ℕ
behind calls = codes " " ++ (answer_words (all_done calls) ++ codes "\n")

line-split : (n calls d : ℕ) (front : List ℕ) → decimal n ≡ front ++ d ∷ [] → line_of n (all_done calls) ≡ (codes "message " ++ front) ++ d ∷ behind calls
line-split n calls d front e =
    ap (λ l. codes "message " ++ (l ++ behind calls)) e ∙ ap (λ l. codes "message " ++ l) (append_assoc front (d ∷ []) (behind calls))
    ∙ sym (append_assoc (codes "message ") front (d ∷ behind calls))

front-length : (n at d : ℕ) (front : List ℕ) → decimal n ≡ front ++ d ∷ [] → at + 1 ≡ 8 + length (decimal n) → length (codes "message " ++ front) ≡ at
front-length n at d front e digit =
    omega (arith, length-append (codes "message ") front, ap length e, length-append front (d ∷ []), digit)

module _ (line : Line) (is : IsDoneLine line) where
  n : ℕ
  n = line.number

  front : List ℕ
  front = (ends-by (line.number / 10) line.number refl is.number).0

  ends : EndsIn line.number front
  unfolding front
  ends = (ends-by (line.number / 10) line.number refl is.number).1

  at-front : length (codes "message " ++ front) ≡ line.digit
  at-front = front-length line.number line.digit (48 + line.number % 10) front ends.this is.digit

  shape : line.bytes.items ≡ (codes "message " ++ front) ++ (48 + line.number % 10) ∷ behind line.calls
  shape = is.says ∙ line-split line.number line.calls (48 + line.number % 10) front ends.this

  -- the digit stands in the line
  pub digit-inside : line.digit < length line.bytes.items
  digit-inside = omega (arith, at-front, ap length shape, length-append (codes "message " ++ front) ((48 + line.number % 10) ∷ behind line.calls))

  pub digit-there : (default : ℕ) → get_or line.bytes.items line.digit default ≡ 48 + line.number % 10
  digit-there default = ap (λ l. get_or l line.digit default) shape ∙ get_or_at (codes "message " ++ front) (48 + line.number % 10) (behind line.calls) default line.digit at-front

  module _ (inside : line.number + 1 < 2 ^ 64) (below : line.number % 10 < 9) where
    -- with the digit behind it the line is the next message's
    pub next-says : slice_set line.bytes.items line.digit (48 + line.number % 10 + 1) ≡ line_of (line.number + 1) (all_done line.calls)
    next-says =
        let d = 48 + line.number % 10 in
        ap (λ l. slice_set l line.digit (d + 1)) shape ∙ set_at (codes "message " ++ front) d (behind line.calls) (d + 1) line.digit at-front
        ∙ sym (line-split (line.number + 1) line.calls (d + 1) front (ends.next inside below))

    pub next-digit : line.digit + 1 ≡ 8 + length (decimal (line.number + 1))
    next-digit = omega (arith, is.digit, ap length ends.this, ap length (ends.next inside below), length-append front ((48 + line.number % 10) ∷ []), length-append front ((48 + line.number % 10 + 1) ∷ []))
