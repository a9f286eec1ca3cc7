-- What the sources and sinks in memory have left and have taken.
use Rattle.std.specs.Prelude.{ℕ, List, drop}
use Rattle.ls_port.specs.declared.mem_source.MemSource.{MemSource}
use Rattle.ls_port.specs.declared.mem_sink.MemSink.{MemSink}
use Rattle.ls_port.specs.declared.solid_source.SolidSource.{SolidSource}
use Rattle.ls_port.specs.declared.solid_sink.SolidSink.{SolidSink}

abbrev pub source_left : MemSource → List ℕ
source_left s = drop s.at s.bytes.items

abbrev pub sink_bytes : MemSink → List ℕ
sink_bytes s = s.bytes.items

abbrev pub solid_left : SolidSource → List ℕ
solid_left s = drop s.at s.bytes.items

abbrev pub solid_bytes : SolidSink → List ℕ
solid_bytes s = s.bytes.items
