use Rattle.std.proofs.Common.{rules}
use Rattle.std.proofs.lemmas.Float.{not_nan_f32_bits}
use Rattle.hagzimot_floats.proofs.float_text.Float32Display.fmt.Goals as goal

pub float_from_bits-number : goal.float_from_bits-number
float_from_bits-number g c = not_nan_f32_bits _ (search rules)
