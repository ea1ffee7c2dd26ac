-- The exported answers: document 01's number, place and values for each case. "A place not named is 0."
use Rattle.lookup.specs.Lookup.{Found}
use Rattle.lookup.specs.Lookup.{At, Refused}
use Rattle.lookup.specs.Lookup.{number_of}
use Rattle.reader.specs.Reading.{Reading}
use Rattle.reader.specs.Reading.{Numbers, numbers_of}
use Rattle.emit.specs.Emission.{Written}
use Rattle.cast.specs.declared.CastReading.{CastReading}
use Rattle.cast.specs.declared.CastFound.{CastFound}
use Rattle.cast.specs.declared.CastWritten.{CastWritten}

abbrev pub in_numbers : Numbers → CastReading
in_numbers n = record {
  number = n.number;
  place = n.place;
  nodes = n.nodes;
  flags = n.flags;
  own_known = n.own_known;
  own_unknown = n.own_unknown;
  faces = n.faces;
  degenerate = n.degenerate;
  links = n.links;
}

abbrev pub answer_of : Reading → CastReading
answer_of r = in_numbers (numbers_of r)

abbrev pub found_of : Found → CastFound
found_of (At s e) = record { number = number_of (At s e); place = 0; start = s; end = e }
found_of (Refused n) = record { number = number_of (Refused n); place = 0; start = 0; end = 0 }

abbrev pub written_as : Written → CastWritten
written_as w = record { number = w.number; place = w.place; length = w.length }
