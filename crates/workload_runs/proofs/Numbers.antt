-- Whether a database has used up its numbers.
use Rattle.std.proofs.Common.{◌≡◌, ◌≤◌, ◌<◌, ◌+◌, ◌-◌, ◌^◌, ◌==◌, if◌then◌else◌, ℕ, Bool, true, false, inl, inr, arith}
use Rattle.root_file.specs.declared.Root.{Root}
use Rattle.stable_lines.specs.Journal.{Journal, next_number}
use Rattle.journal_anew.specs.Anew.{no_groups}
use Rattle.line_opening.specs.Passing.{IsNext}
use Rattle.line_opening.specs.declared.groups.NextGroup.{NextGroup}
use Rattle.line_runs.specs.opened_store.Opened.{AreUsedUp, LacksNumbers}
use Rattle.workload_runs.specs.Numbers.{Wanted}

by-state : (anew : Bool) (root : Root) (journal : Journal) (next : NextGroup) → IsNext journal next
    → (Wanted root next (if anew then 0 else next.slot) → LacksNumbers (if anew then no_groups (next_number journal + 1) else journal) root)
    × (LacksNumbers (if anew then no_groups (next_number journal + 1) else journal) root → Wanted root next (if anew then 0 else next.slot))
by-state true root journal next is = let numbered = is.numbered in (λ wanted. omega (arith, numbered, wanted), λ lacks. omega (arith, numbered, lacks))
by-state false root journal next is = let numbered = is.numbered in let slot = is.in_slot in (λ wanted. omega (arith, numbered, slot, wanted), λ lacks. omega (arith, numbered, slot, lacks))

module _ (root : Root) (journal : Journal) (next : NextGroup) (is : IsNext journal next) where
  pub are-wanted : Wanted root next (if root.state == 3 then 0 else next.slot) → AreUsedUp journal root
  are-wanted wanted = inr ((by-state (root.state == 3) root journal next is).0 wanted)

  pub not-wanted : root.ceiling ≤ 2 ^ 62 - 64 → (Wanted root next (if root.state == 3 then 0 else next.slot) → ⊥) → AreUsedUp journal root → ⊥
  not-wanted below fewer (inl above) = omega (arith, below, above)
  not-wanted below fewer (inr lacks) = fewer ((by-state (root.state == 3) root journal next is).1 lacks)
