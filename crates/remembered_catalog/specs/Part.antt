-- The lines of a catalog, as knowledge of its area alone.
use Rattle.std.specs.Prelude.{◌≡◌, ◌==◌, List, Some, None, option_map, if◌then◌else◌}
use Rattle.std.specs.List.{AllByRecursion}
use Rattle.rdb_types.specs.declared.keys.Dbkey.{Dbkey}
use Rattle.line_view.specs.Knowledge.{Knowledge, Lines, line_in}

-- the present keys of the catalog's area, and the bytes of their lines
pub record Part : Type 0 where
  pub keys : List Dbkey
  pub lines : Lines

-- nothing is known but these
abbrev pub part_knows : Part → Knowledge
part_knows p = record {
  line = λ key. option_map Some (line_in key p.lines);
  area = λ area. if area == 1 then Some p.keys else None;
  room = λ room. None;
}

-- this is known of each of these lines
abbrev pub AreKnown : Knowledge → Lines → Type 0
AreKnown known = AllByRecursion (λ e. known.line e.0 ≡ Some (Some e.1))

-- each of these is known
pub record IsPartOf (known : Knowledge) (p : Part) : Type 0 where
  pub keys : known.area 1 ≡ Some p.keys
  pub lines : AreKnown known p.lines
