use Rattle.std.proofs.Common.{◌≡◌, ◌≤◌, ◌+◌, take}
use Rattle.std.specs.List.{fold}
use Rattle.rdo_parser.specs.Places.{behind_byte}
use Rattle.rdo_parser.proofs.place.Place.behind.Given as goal

abbrev pub invariant-loop-byte : goal.invariant-loop-byte
invariant-loop-byte l = record {
  place : l.place ≡ fold behind_byte l.fn.self (take l.byte-index l.bytes);
  line : l.place.line ≤ l.fn.self.line + l.fn.self.column + l.byte-index;
  column : l.place.column ≤ l.fn.self.line + l.fn.self.column + l.byte-index;
}
