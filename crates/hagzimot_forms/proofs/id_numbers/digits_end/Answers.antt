use Rattle.std.proofs.Common.{rules, ◌≡◌, true, false, sym, ◌∙◌, slice_index_or}
use Rattle.hagzimot_forms.specs.Ids.{is_digit_byte}
use Rattle.hagzimot_forms.proofs.Digits.{digit_gone, digits_stop, no_digits}
use Rattle.hagzimot_forms.proofs.id_numbers.digits_end.Goals as goal

pub returns-then-not-is_digit : goal.returns-then-not-is_digit
returns-then-not-is_digit c =
    let is : is_digit_byte (slice_index_or c.loop-bytes.bytes.now 0 0) ≡ false = search rules in
    sym (digits_stop c.loop-bytes.bytes.now c.in-len1-up.len_at_least is) ∙ c.loop-bytes.invariant

pub loop-bytes-preserved : goal.loop-bytes-preserved
loop-bytes-preserved c =
    let is : is_digit_byte (slice_index_or c.loop-bytes.bytes.now 0 0) ≡ true = search rules in
    sym (digit_gone c.loop-bytes.bytes.now c.in-len1-up.len_at_least is) ∙ c.loop-bytes.invariant

pub returns : goal.returns
returns c = sym (no_digits c.loop-bytes.bytes.now c.in_default.len_below) ∙ c.loop-bytes.invariant
