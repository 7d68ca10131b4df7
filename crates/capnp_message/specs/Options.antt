-- The options of a reader.
use Rattle.std.specs.Prelude.{Some, None, pos}
use Rattle.capnp_message.specs.declared.options.ReaderOptions.{ReaderOptions}

-- 64 MiB in words, and 64 levels.
abbrev pub default_options : ReaderOptions
default_options = record { traversal_limit_in_words = Some 8388608; nesting_limit = pos 64 }

-- No limit of words, and as many levels as there can be.
abbrev pub boundless : ReaderOptions
boundless = record { traversal_limit_in_words = None; nesting_limit = pos 2147483647 }
