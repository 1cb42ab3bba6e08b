use Rattle.std.proofs.Common.{◌≡◌, [], drop, map}
use Rattle.rdb_types.specs.Order.{chars_order}
use Rattle.rdo_ast.specs.Tree.{Name}
use Rattle.sound_lines.specs.Gathered.{put_all}
use Rattle.rmu_verify.proofs.listing.put_names.Given as goal

abbrev pub invariant-loop-name : goal.invariant-loop-name
invariant-loop-name l = put_all chars_order l.sorted (map (λ (n : Name). (n, tt)) (drop l.name-index l.name-items)) ≡ put_all chars_order [] (map (λ (n : Name). (n, tt)) l.names)
