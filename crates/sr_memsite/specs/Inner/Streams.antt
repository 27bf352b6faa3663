-- The source and the sink in memory.
use Rattle.std.specs.Prelude.{ℕ, ◌+◌, ◌<◌, List, true, drop}
use Rattle.std.specs.Vec.{vec_len, vec_capacity}
use Rattle.sr_site.specs.Streams.{Input, Output}
use Rattle.sr_memsite.specs.Inner.Numbering.{Numbering}
use Rattle.sr_memsite.specs.declared.source.MemorySource.{MemorySource}
use Rattle.sr_memsite.specs.declared.sink.MemorySink.{MemorySink}

-- the bytes that a source in memory has left
abbrev pub left_of : MemorySource → List ℕ
left_of source = drop source.given source.bytes.items

-- its calls since the last `fail_calls`, and those that are to fail
abbrev pub source_numbering : MemorySource → Numbering
source_numbering source = source.turns

-- how many of its calls have failed
abbrev pub source_faults : MemorySource → ℕ
source_faults source = source.faults

-- the bytes that a sink in memory took
abbrev pub taken_of : MemorySink → List ℕ
taken_of sink = sink.bytes.items

-- its calls since the last `fail_calls`, and those that are to fail
abbrev pub sink_numbering : MemorySink → Numbering
sink_numbering sink = sink.turns

-- how many of its calls have failed
abbrev pub sink_faults : MemorySink → ℕ
sink_faults sink = sink.faults

-- there is no room for so many bytes more: it takes memory to have them
abbrev pub IsFull : MemorySink → ℕ → Type 0
IsFull sink count = vec_capacity sink.bytes < vec_len sink.bytes + count

-- what they mean: they tell everything
abbrev pub input_of : MemorySource → Input
input_of source = record { observable = true; left = left_of source; faults = source_faults source }

abbrev pub output_of : MemorySink → Output
output_of sink = record { observable = true; taken = taken_of sink; faults = sink_faults sink }
