-- What is passed without its lines is what a scan reads with them.
use Rattle.std.proofs.Common.{◌≡◌, ℕ, ◌+◌, ◌-◌, ◌==◌, ◌&&◌, nat_lt, Bool, true, false, if◌then◌else◌, List, [], ◌∷◌, ◌++◌, length, length-append, Option, Some, None, slice_get, refl, sym, ◌∙◌, ap, subst}
use Rattle.rdb_types.specs.declared.keys.Dbkey.{Dbkey}
use Rattle.journal_reading.specs.aij_journal.declared.part.GroupLine.{GroupLine}
use Rattle.journal_reading.specs.aij_journal.declared.part.AijPart.{AijPart}
use Rattle.journal_reading.specs.journal_scan.declared.group.Group.{Group}
use Rattle.journal_reading.specs.journal_scan.declared.scan.Begun.{Begun}
use Rattle.journal_reading.specs.journal_scan.declared.scan.Scan.{Scan}
use Rattle.journal_reading.specs.journal_scan.declared.scan.Stage.{Stage}
use Rattle.journal_reading.specs.journal_scan.declared.scan.Stage.TheVariants.{Between, Within, Ended}
use Rattle.journal_reading.specs.journal_scan.Whole.{is_above}
use Rattle.journal_reading.specs.journal_scan.Reading.{begins_at, read, read_part, continued as continued_with, grown as grown_with, closed as closed_with, ended, closes, grows_by, is_next as is_next_of, no_lines as begun_without, with_line}
use Rattle.journal_reading.proofs.of_journal_scan.Written.{last_pushed}
use Rattle.journal_passing.specs.Passing.{is_behind, passed_what, continued, begun_by, passed_by}
use Rattle.journal_passing.specs.declared.passing.PassedGroup.{PassedGroup}
use Rattle.journal_passing.specs.declared.passing.Passing.{Passing}
use Rattle.journal_passing.specs.declared.passing.Passed.{Passed}
use Rattle.journal_passing.specs.declared.passing.Passed.TheVariants.{More, Whole, Broken}

abbrev pub key_of : Option GroupLine → Option Dbkey
key_of None = None
key_of (Some line) = Some line.key

-- a group on its way, without its lines
abbrev pub passing_of : Begun → Passing
passing_of b = record { tsn = b.tsn; count = b.count; lines = length b.lines; last = key_of (slice_get b.lines (length b.lines - 1)) }

abbrev pub IsAtStage : Option Passing → Stage → Type 0
IsAtStage None Between = Unit {0}
IsAtStage None (Within b) = ⊥
IsAtStage None Ended = ⊥
IsAtStage (Some p) Between = ⊥
IsAtStage (Some p) (Within b) = p ≡ passing_of b
IsAtStage (Some p) Ended = ⊥

-- a scan that has found no group yet stands there too
pub record IsAt (before : Option Passing) (number : ℕ) (scan : Scan) : Type 0 where
  pub none : scan.groups ≡ []
  pub numbered : scan.next_number ≡ number
  pub stage : IsAtStage before scan.stage

-- a scan found this group
pub record HasFound (found : PassedGroup) (scan : Scan) : Type 0 where
  pub group : Group
  pub only : scan.groups ≡ group ∷ []
  pub tsn : group.tsn ≡ found.tsn
  pub lines : length group.lines ≡ found.lines

pub record HasEnded (scan : Scan) : Type 0 where
  pub none : scan.groups ≡ []
  pub stage : scan.stage ≡ Ended

abbrev pub Simulates : Passed → ℕ → Scan → Type 0
Simulates (More p) number scan = IsAt (Some p) number scan
Simulates (Whole found) number scan = HasFound found scan
Simulates Broken number scan = HasEnded scan

same_above : (key : Dbkey) (before : Option GroupLine) → is_behind key (key_of before) ≡ is_above key before
same_above key None = refl
same_above key (Some line) = refl

grown_same : (b : Begun) (line : GroupLine) (p : Passing) → p ≡ record { tsn = b.tsn; count = b.count; lines = length b.lines + 1; last = Some line.key } → p ≡ passing_of (with_line line b)
grown_same b line p is =
    let long : length b.lines + 1 ≡ length (b.lines ++ line ∷ []) = sym (length-append b.lines (line ∷ [])) in
    let last : Some line.key ≡ key_of (slice_get (b.lines ++ line ∷ []) (length (b.lines ++ line ∷ []) - 1)) = ap key_of (sym (last_pushed b.lines line)) in
    is ∙ (λ i. record { tsn = b.tsn; count = b.count; lines = long i; last = last i })

module _ (scan : Scan) (none : scan.groups ≡ []) where
  what_simulated : (b : Begun) (what : Option GroupLine) → Simulates (passed_what (passing_of b) what) scan.next_number (grown_with scan b what)
  what_simulated b None = by (closes b)
    where
      by : (v : Bool) → Simulates (if v then Whole (record { tsn = b.tsn; lines = length b.lines }) else Broken) scan.next_number (if v then closed_with scan b else ended scan)
      by true = record { group = record { number = scan.next_number; tsn = b.tsn; lines = b.lines }; only = ap (λ (gs : List Group). gs ++ record { number = scan.next_number; tsn = b.tsn; lines = b.lines } ∷ []) none; tsn = refl; lines = refl }
      by false = record { none = none; stage = refl }
  what_simulated b (Some line) =
      subst (λ (v : Bool). Simulates (if nat_lt (length b.lines + 1) b.count && v then More (record { tsn = b.tsn; count = b.count; lines = length b.lines + 1; last = Some line.key }) else Broken) scan.next_number (grown_with scan b (Some line)))
      (sym (same_above line.key (slice_get b.lines (length b.lines - 1)))) (by (grows_by b line))
    where
      by : (v : Bool) → Simulates (if v then More (record { tsn = b.tsn; count = b.count; lines = length b.lines + 1; last = Some line.key }) else Broken) scan.next_number (if v then record scan { stage = Within (with_line line b) } else ended scan)
      by true = record { none = none; numbered = refl; stage = grown_same b line _ refl }
      by false = record { none = none; stage = refl }

  slot_simulated : (b : Begun) (part : AijPart) → Simulates (continued (passing_of b) scan.next_number part) scan.next_number (continued_with scan b part)
  slot_simulated b part = by ((part.number == scan.next_number) && is_next_of b part)
    where
      by : (v : Bool) → Simulates (if v then passed_what (passing_of b) part.line else Broken) scan.next_number (if v then grown_with scan b part.line else ended scan)
      by true = what_simulated b part.line
      by false = record { none = none; stage = refl }

  part_simulated : (before : Option Passing) (stage : Stage) (part : AijPart) → IsAtStage before stage → Simulates (continued (begun_by before part) scan.next_number part) scan.next_number (read_part scan stage part)
  part_simulated None Between part at = slot_simulated (begun_without part) part
  part_simulated None (Within b) part at = absurd at
  part_simulated None Ended part at = absurd at
  part_simulated (Some p) Between part at = absurd at
  part_simulated (Some p) (Within b) part at = subst (λ (q : Passing). Simulates (continued q scan.next_number part) scan.next_number (continued_with scan b part)) (sym at) (slot_simulated b part)
  part_simulated (Some p) Ended part at = absurd at

-- one slot more
pub simulated : (before : Option Passing) (number : ℕ) (scan : Scan) (what : Option AijPart) → IsAt before number scan → Simulates (passed_by before number what) number (read scan what)
simulated before number scan None at = record { none = at.none; stage = refl }
simulated before number scan (Some part) at =
    subst (λ (n : ℕ). Simulates (passed_by before n (Some part)) n (read scan (Some part))) at.numbered (part_simulated scan at.none before scan.stage part at.stage)

pub begun : (slot number : ℕ) → IsAt None number (begins_at slot number)
begun slot number = record { none = refl; numbered = refl; stage = tt }
