use Rattle.std.proofs.Common.{rules}
use Rattle.std.proofs.lemmas.Float.{not_nan_f64_bits}
use Rattle.hagzimot_floats.proofs.float_text.Float64Display.fmt.Goals as goal

pub float_from_bits-size : goal.float_from_bits-size
float_from_bits-size g c = not_nan_f64_bits _ (search rules)
