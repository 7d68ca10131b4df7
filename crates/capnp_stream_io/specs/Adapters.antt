-- What a clause reads of a source over a reader and of a sink over a writer.
use Rattle.std.specs.Prelude.{ℕ, List}
use Rattle.std.specs.declared.option.Option.{Option}
use Rattle.std.specs.Io.Buffered.{reader_buffer, reader_inner, reader_remaining}
use Rattle.capnp_stream_io.specs.declared.adapters.Source.{Source}
use Rattle.capnp_stream_io.specs.declared.adapters.Sink.{Sink}

-- The bytes that were read and not yet taken.
abbrev pub source_window : {S : Type 0} → Source S → List ℕ
source_window s = reader_buffer s.inner

-- The bytes that are still to be taken: those read and then the reader's, where it tells them.
abbrev pub source_remaining : {S : Type 0} → (S → Option (List ℕ)) → Source S → Option (List ℕ)
source_remaining remaining s = reader_remaining remaining s.inner

-- How often the reader has failed.
abbrev pub source_failures : {S : Type 0} → Source S → ℕ
source_failures s = s.failures

-- The reader below.
abbrev pub source_inner : {S : Type 0} → Source S → S
source_inner s = reader_inner s.inner

-- The writer below.
abbrev pub sink_inner : {S : Type 0} → Sink S → S
sink_inner s = s.inner

-- How often the writer has failed.
abbrev pub sink_failures : {S : Type 0} → Sink S → ℕ
sink_failures s = s.failures
