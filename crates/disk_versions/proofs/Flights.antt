-- A group takes off, or falls: no version is another.
use Rattle.std.proofs.Common.{ℕ}
use Rattle.rdb_outside.specs.Disk.{View}
use Rattle.line_versions.specs.Course.{Course}
use Rattle.line_opening.specs.stable_lines.Progress.{Flight, Progress, flying, fallen}
use Rattle.disk_versions.specs.Versions.{VersionFacts}

pub takes_off : (v : View) (now : Progress) (limit : ℕ) (course : Course) (f : Flight) → VersionFacts v now limit course → VersionFacts v (flying f now) limit course
takes_off v now limit course f was = record {
  right = was.right;
  exact = was.exact;
  within = was.within;
  files = was.files;
  next = was.next;
  lines = was.lines;
  going = λ t on. let g = was.going t on in record { member = g.member; transaction = g.transaction; is_open = g.is_open; number = g.number };
  goes = was.goes;
  befores = was.befores;
}

pub falls : (v : View) (now : Progress) (limit : ℕ) (course : Course) → VersionFacts v now limit course → VersionFacts v (fallen now) limit course
falls v now limit course was = record {
  right = was.right;
  exact = was.exact;
  within = was.within;
  files = was.files;
  next = was.next;
  lines = was.lines;
  going = λ t on. let g = was.going t on in record { member = g.member; transaction = g.transaction; is_open = g.is_open; number = g.number };
  goes = was.goes;
  befores = was.befores;
}
