use Rattle.std.proofs.Common.{◌≡◌, ◌<◌, ◌+◌, ◌/◌, ◌%◌, ℕ, IsTrue, length, slice_get, Some}
use Rattle.rdb_outside.specs.Disk.{OnlyReads}
use Rattle.stable_lines.specs.Slots.{area_file}
use Rattle.fitted_groups.specs.Claims.{AreEnds, claim_at}
use Rattle.fitted_groups.proofs.claims.read_claims.Given as goal

abbrev pub invariant-loop-seat : goal.invariant-loop-seat
invariant-loop-seat g l =
    let before = g.D.Disk.view l.fn.disk in
    record {
      reads : OnlyReads before (g.D.Disk.view l.disk);
      size : length l.claims ≡ length l.fn.claims;
      each : IsTrue before.tells → AreEnds before.content l.ends → (k : ℕ) → k < l.seat → slice_get l.claims k ≡ Some (claim_at (before.content (area_file (k % 3 + 1)) (k / 3)));
    }
