-- What a source and a sink in memory tell.
use Rattle.rdb_outside.specs.declared.memory_streams.MemorySource.{MemorySource}
use Rattle.rdb_outside.specs.declared.memory_streams.MemorySink.{MemorySink}
use Rattle.rdb_outside.specs.Calls.{Numbered}

abbrev pub source_calls : MemorySource → Numbered
source_calls s = record { made = s.calls.made; fails = s.calls.fails.items }

abbrev pub sink_calls : MemorySink → Numbered
sink_calls s = record { made = s.calls.made; fails = s.calls.fails.items }
