use Rattle.std.proofs.Common.{◌<◌, IsTrue, map, take}
use Rattle.stable_lines.specs.Journal.{write_of}
use Rattle.guarded_root.specs.Guarded.{RunsBehind}
use Rattle.guarded_lines.specs.Laying.{IsArea}
use Rattle.laid_groups.specs.Forward.{Forward, FitLines, IsReady, KeepsReady}
use Rattle.laid_groups.specs.Laid.{LaidOver}
use Rattle.laid_groups.proofs.groups.lay_lines.Given as goal

abbrev pub invariant-loop-line : goal.invariant-loop-line
invariant-loop-line g l =
    let before = g.D.Disk.view l.fn.disk in let now = g.D.Disk.view l.disk in
    record {
      runs : RunsBehind IsArea before now;
      ready : IsTrue before.tells → (forward : Forward) → FitLines forward l.lines → l.tsn.number < forward.top → KeepsReady forward before now;
      laid : IsTrue before.tells → (forward : Forward) → IsReady forward before → FitLines forward l.lines → l.tsn.number < forward.top → LaidOver forward (map write_of (take l.line-index l.lines)) before.content now.content;
    }
