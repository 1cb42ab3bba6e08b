-- How many slots are free where one is given back.
use Rattle.std.proofs.Common.{◌≡◌, ◌≢◌, ◌≤◌, ℕ, zero, suc, false, length, refl, sym, arith}
use Rattle.snapshot_file.specs.Slots.{Takes, is_free, left_in}
use Rattle.snapshot_file.proofs.Counts.{left_taken}
use Rattle.version_writing.specs.Slots.{SlotTable, GivesOne}

-- one more is free
pub one-more : (old new : SlotTable) (chain : ℕ) → 1 ≤ chain → chain ≤ length old.slots → is_free old.slots chain ≡ false → GivesOne old new chain → left_in old.slots ≤ left_in new.slots
one-more old new chain first last used gives = let one = left_taken new.slots old.slots chain back in omega (arith, one)
  where
    others : (other : ℕ) → other ≢ chain → is_free old.slots other ≡ is_free new.slots other
    others zero apart = refl
    others (suc k) apart = sym (gives.others (suc k) (omega arith) apart).0

    back : Takes new.slots old.slots chain
    back = record { within = (first, let long = gives.long in omega (arith, last, long)); was_free = gives.free; is_used = used; others = others; limit = sym gives.long }
