-- What a commit needs, behind the calls of its first turns.
use Rattle.std.proofs.Common.{◌≡◌, ℕ, ◌-◌, ◌≤◌, IsTrue, length, ap, sym, ◌∙◌, refl, arith}
use Rattle.rdb_outside.specs.Disk.{View, Image, SameContent, IsStable, OnlyReads}
use Rattle.area_files.specs.Areas.{IsDataPage, space_page_of}
use Rattle.space_pages.specs.Space.{owner_of}
use Rattle.disk_seats.specs.stable_lines.Slots.{area_file}
use Rattle.disk_seats.specs.line_moves.Calls.{OnlyWrites}
use Rattle.disk_seats.specs.line_moves.Lines.{ChangedLines}
use Rattle.disk_seats.proofs.of_line_moves.PageWrite.{space_apart}
use Rattle.disk_seats.specs.line_seat.declared.commit.CommitStage.{CommitStage}
use Rattle.disk_seats.specs.line_seat.declared.commit.CommitStage.TheVariants.{Changing, Imaging, Gathering, Sealing, Landing, Committed}
use Rattle.disk_seats.specs.Ledgers.{gained, Ledger, all_stable, taken_up, new_commit, behind_step}
use Rattle.disk_seats.specs.Members.{LedgerFacts, AreOwned}
use Rattle.disk_seats.proofs.Entered.{all_entered}
use Rattle.disk_seats.proofs.TakenUp.{taken_facts}
use Rattle.member_steps.specs.declared.committing.CommitTurn.TheVariants.{Going}
use Rattle.member_steps.specs.Turns.{Plan, MayCommit, commit_of_plan, NextFacts}

-- a space page was written
pub may_still : (v w : View) (n slot page : ℕ) (g : Ledger) (plan : Plan) → IsTrue v.tells → IsDataPage page → slot ≡ space_page_of page - 1 → OnlyWrites (area_file n) slot v w → MayCommit v g plan → MayCommit w g plan
may_still v w n slot page g plan t plain at rest was = record {
  stable = was.stable;
  stands = was.stands;
  is_open = was.is_open;
  alone = was.alone;
  is = was.is;
  of_entries = was.of_entries;
  one_area = was.one_area;
  for_area = λ i line place got names x q owned. was.for_area i line place got names x
      (rest.pending t (area_file place.file) (place.page - 1) x (λ same here. space_apart page place.page names.is_data.is_page.first names.is_data.plain (sym at ∙ sym here) plain.is_page.first) q) owned;
  within = was.within;
}

pub none_owned : (image : Image) (lines : ChangedLines) → AreOwned image lines 0
none_owned image lines i line place less got names = absurd (omega (arith, less))

pub owned_all : (image : Image) (lines : ChangedLines) (n : ℕ) → length lines ≤ n → AreOwned image lines n → AreOwned image lines (length lines)
owned_all image lines n le was i line place less got names = was i line place (omega (arith, le, less)) got names

owned_same : (old new : Image) (lines : ChangedLines) (n : ℕ) → SameContent old new → AreOwned old lines n → AreOwned new lines n
owned_same old new lines n same was i line place less got names = ap (owner_of place.page) (same (area_file place.file) (space_page_of place.page - 1)) ∙ was i line place less got names

-- behind the barrier the commit is under way
pub secured_facts : (v w : View) (g : Ledger) (plan : Plan) → IsTrue v.tells → OnlyReads v w → IsStable w → LedgerFacts w (all_stable g) → MayCommit v g plan → AreOwned v.content plan.lines (length plan.lines)
    → LedgerFacts w (taken_up (new_commit plan.member plan.transaction plan.all plan.place plan.lines plan.classes plan.flight) plan.transaction (all_stable g))
secured_facts v w g plan t reads stable was may owned = taken_facts w (all_stable g) plan.member plan.transaction plan.all (length plan.all) was (ap gained may.stands) (omega arith) may.alone may.is_open
    plan.place plan.lines plan.classes plan.flight may.is may.of_entries
    (all_entered w stable plan.lines (owned_same v.content w.content plan.lines (length plan.lines) (reads.keeps t).content owned))

-- the commit that goes on is the plan's
pub goes_so : (next : CommitStage) (w : View) (moment : ℕ) (g : Ledger) (plan : Plan) (stage : CommitStage) → NextFacts (Going next) w (behind_step next moment (commit_of_plan plan stage) g) plan
goes_so (Changing at) w moment g plan stage = refl
goes_so (Imaging at) w moment g plan stage = refl
goes_so Gathering w moment g plan stage = refl
goes_so Sealing w moment g plan stage = refl
goes_so Landing w moment g plan stage = refl
goes_so Committed w moment g plan stage = refl
