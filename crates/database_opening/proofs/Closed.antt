-- Barriers and closed headers keep what an opening rests on.
use Rattle.std.proofs.Common.{ℕ, ◌≤◌, ◌<◌, Option, None, IsTrue, refl, sym, ◌∙◌, ap, subst, arith}
use Rattle.rdb_outside.specs.Disk.{Image, View, LeftNow, Pending, IsStable, OnlyReads}
use Rattle.line_view.specs.Knowledge.{Lines}
use Rattle.line_opening.specs.stable_lines.Slots.{ruj_file, named}
use Rattle.line_opening.specs.stable_lines.Journal.{Journal}
use Rattle.line_opening.specs.stable_lines.Progress.{Open}
use Rattle.line_opening.specs.stable_lines.Facts.{Facts}
use Rattle.line_opening.specs.stable_lines.Opening.{found}
use Rattle.line_opening.proofs.of_line_moves.Runs.{pends, facts_read}
use Rattle.line_opening.specs.Headers.{AreClosed}
use Rattle.line_opening.specs.Undoing.{AreUndone}
use Rattle.line_opening.proofs.Passed.{image_same}
use Rattle.database_opening.proofs.Restored.{all_ended}
use Rattle.database_opening.specs.Stages.{OpeningFacts}
use Rattle.database_opening.specs.declared.stages.Found.{Found}
use Rattle.database_opening.specs.declared.stages.OpeningStage.TheVariants.{Restoring, Closing, Ending, Opened}

module _ (classes : ℕ → ℕ) (lines : Lines) (j : Journal) (read : Found) (old new : View) where
  -- every number is above 0
  pub some_number : (going : ℕ → Option Open) → Facts (Pending old) (found classes lines j read.root going) → LeftNow old old.content → 1 ≤ read.root.ceiling
  some_number going facts left =
      let below = facts.below.header 1 (old.content (ruj_file 1) 0) (record { first = omega arith; last = omega arith }) (pends old left (ruj_file 1) 0) in
      omega (arith, below)

  -- what was put back is stable
  pub restored : OpeningFacts classes lines j Restoring old read → OnlyReads old new → IsTrue old.tells → IsStable new → OpeningFacts classes lines j (Closing 1) new read
  restored F reads t stable = record {
    going = λ member. None;
    facts = all_ended (Pending new) new.content (λ f i x p. stable f i x p) classes lines j read.root F.going (facts_read old new reads t (found classes lines j read.root F.going) F.facts)
        (λ member o is. let last = (F.facts.going member o is).is_member.last in subst (λ (image : Image). AreUndone image o 0) (sym (image_same old new reads t)) (F.done member o (omega (arith, last)) is));
    next = F.next;
    done = record { none = λ member. refl; closed = λ member is less. let first = is.first in absurd (omega (arith, first, less)) };
  }

  -- a header was closed
  pub closed_on : (member next : ℕ) (F : OpeningFacts classes lines j (Closing member) old read) → Facts (Pending new) (found classes lines j read.root F.going) → AreClosed new.content next → OpeningFacts classes lines j (Closing next) new read
  closed_on member next F facts closed = record { going = F.going; facts = facts; next = F.next; done = record { none = F.done.none; closed = closed } }

  pub all_closed : (member next : ℕ) (F : OpeningFacts classes lines j (Closing member) old read) → Facts (Pending new) (found classes lines j read.root F.going) → 16 < next → next ≤ 17 → AreClosed new.content next → OpeningFacts classes lines j Ending new read
  all_closed member next F facts past last closed = record { going = F.going; facts = facts; next = F.next; done = record { none = F.done.none; closed = λ m is less. closed m is (omega (arith, past, less)) } }

  -- the closed headers are stable
  pub ended : OpeningFacts classes lines j Ending old read → OnlyReads old new → IsTrue old.tells → IsStable new → OpeningFacts classes lines j Opened new read
  ended F reads t stable = record {
    going = F.going;
    facts = facts_read old new reads t (found classes lines j read.root F.going) F.facts;
    next = F.next;
    done = record {
      none = F.done.none;
      closed = λ member header is p. let last = is.last in ap named (stable (ruj_file member) 0 header p ∙ (reads.keeps t).content (ruj_file member) 0) ∙ F.done.closed member is (omega (arith, last));
    };
  }
