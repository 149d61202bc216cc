-- What a token that takes no memory did to the declarations, as why reading stops.
use Rattle.std.specs.Prelude.{Result, Ok, Err}
use Rattle.gl_vcd.specs.declared.declaring.Declaring.{Declaring}
use Rattle.gl_vcd.specs.declared.fault.VcdFault.{VcdFault}
use Rattle.gl_vcd.specs.Reading.{Step}
use Rattle.gl_vcd.specs.Standing.{Declares, DeclaresOrStops, stop_of}

pub stops : (said : Step) (new : Declaring) (read : Result (Unit {0}) VcdFault) → Declares said new read → DeclaresOrStops said new (stop_of read)
stops said new (Ok u) h = h
stops said new (Err fault) h = h
