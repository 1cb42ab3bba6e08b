-- The search for a free area, an area at a time.
use Rattle.std.proofs.Common.{◌≡◌, ℕ, ◌+◌, ◌<◌, List, length, drop, if◌then◌else◌}
use Rattle.std.proofs.lemmas.List.{at_drop_more}
use Rattle.rdb_checks.specs.rdb_meaning.Contents.{is_used, first_free}

pub first_free_more : (xs used : List ℕ) (i n : ℕ) → i < length xs → first_free (length (drop i xs)) n used ≡ (if is_used n used then first_free (length (drop (i + 1) xs)) (n + 2) used else n)
first_free_more xs used i n h = at_drop_more (λ l. first_free (length l) n used) xs i 0 h
