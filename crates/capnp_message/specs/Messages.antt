-- What was read as a message, by its segments.
use Rattle.std.specs.Prelude.{Some, None, Ok, Err}
use Rattle.std.specs.declared.result.Result.{Result}
use Rattle.std.specs.declared.option.Option.{Option}
use Rattle.capnp_units.specs.declared.errors.Error.{Error}
use Rattle.capnp_message.specs.declared.reader.Reader.{Reader}

-- The segments of the message, or the refusal.
abbrev pub segments_read : {S : Type 0} → Result (Reader S) Error → Result S Error
segments_read (Ok m) = Ok m.segments
segments_read (Err e) = Err e

-- The segments of the message that may be there.
abbrev pub segments_there : {S : Type 0} → Option (Reader S) → Option S
segments_there None = None
segments_there (Some m) = Some m.segments

-- The segments of the message that may be there, or the refusal.
abbrev pub segments_tried : {S : Type 0} → Result (Option (Reader S)) Error → Result (Option S) Error
segments_tried (Ok o) = Ok (segments_there o)
segments_tried (Err e) = Err e
