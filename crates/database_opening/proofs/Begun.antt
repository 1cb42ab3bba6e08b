-- What was read makes the facts of the first stage.
use Rattle.std.proofs.Common.{◌≡◌, ℕ, List, map, Option, IsTrue, ◌⊎◌, ⊎_elim, sym, ◌∙◌, subst, arith}
use Rattle.rdb_outside.specs.Disk.{View, Pending, IsStable, OnlyReads}
use Rattle.root_file.specs.declared.Root.{Root}
use Rattle.root_file.proofs.Readings.{one_root}
use Rattle.new_database.specs.Maker.{root_file}
use Rattle.line_view.specs.Knowledge.{Lines}
use Rattle.line_opening.specs.stable_lines.Journal.{Journal}
use Rattle.line_opening.specs.stable_lines.Kept.{Kept}
use Rattle.line_opening.specs.stable_lines.Progress.{Open}
use Rattle.line_opening.specs.stable_lines.Facts.{Facts}
use Rattle.line_opening.specs.stable_lines.Opening.{found}
use Rattle.line_opening.proofs.of_stable_lines.Opening.{opens}
use Rattle.line_opening.specs.Headers.{number_of, AreNamed, open_in}
use Rattle.line_opening.specs.Passing.{IsNext}
use Rattle.line_opening.specs.declared.groups.NextGroup.{NextGroup}
use Rattle.database_opening.specs.Reading.{IsOpenedRoot, AreCounted}
use Rattle.database_opening.specs.Stages.{IsStage, OpeningFacts}
use Rattle.database_opening.specs.declared.stages.Found.{Found}
use Rattle.database_opening.specs.declared.stages.OpeningStage.{OpeningStage}
use Rattle.database_opening.specs.declared.stages.OpeningStage.TheVariants.{Undoing, Opened}
use Rattle.database_opening.proofs.Going.{going_of, all_found, all_known, none_going, names_none}
use Rattle.database_opening.proofs.Undone.{none_undone}

-- what is stable is so behind reads
pub stable_read : (old new : View) → OnlyReads old new → IsTrue old.tells → IsStable old → IsStable new
stable_read old new reads t stable f i x p = stable f i x ((reads.keeps t).pending f i x p) ∙ sym ((reads.keeps t).content f i)

-- the first stage, of what the headers name
abbrev pub IsFirst : List ℕ → List ℕ → OpeningStage → Type 0
IsFirst named counts stage = (((member : ℕ) → number_of named member ≡ 0) × (stage ≡ Opened)) ⊎ (stage ≡ Undoing 1 (number_of counts 1))

pub first_is_stage : (named counts : List ℕ) (stage : OpeningStage) → IsFirst named counts stage → IsStage stage
first_is_stage named counts stage is = ⊎_elim
    (λ none. subst (λ (s : OpeningStage). IsStage s) (sym none.1) tt)
    (λ some. subst (λ (s : OpeningStage). IsStage s) (sym some) (record { first = omega arith; last = omega arith })) is

module _ (classes : ℕ → ℕ) (lines : Lines) (j : Journal) (v : View) (kept : Kept classes lines j v.content) (stable : IsStable v) (root : Root) (named numbers counts : List ℕ) (next : NextGroup)
    (opened : IsOpenedRoot (v.content root_file 0) root) (are : AreNamed v.content named) (left : numbers ≡ map (open_in j.groups) named) (counted : AreCounted v.content numbers counts) (next_is : IsNext j next) where
  abbrev read : Found
  read = record { root = root; numbers = numbers; counts = counts; next = next }

  abbrev going : ℕ → Option Open
  going = going_of v.content j.groups named numbers counts are left counted

  facts : Facts (Pending v) (found classes lines j root going)
  facts = subst (λ (r : Root). Facts (Pending v) (found classes lines j r going)) (one_root (v.content root_file 0) kept.root root kept.is_root.is opened.is)
      (opens (Pending v) classes lines j v.content kept (λ f i x p. stable f i x p) going (all_found v.content j.groups named numbers counts are left counted))

  at_first : OpeningFacts classes lines j (Undoing 1 (number_of counts 1)) v read
  at_first =
      let known = all_known v.content j.groups named numbers counts are left counted in
      record {
        going = going;
        facts = facts;
        next = next_is;
        done = record {
          known = known;
          before = λ member o less is. let first = (facts.going member o is).is_member.first in absurd (omega (arith, first, less));
          within = λ o is. let all = known.count 1 o is in omega (arith, all);
          undone = λ o is. none_undone v.content o (number_of counts 1) (known.count 1 o is);
          none = λ is. known.none 1 (record { first = omega arith; last = omega arith }) is;
        };
      }

  at_once : ((member : ℕ) → number_of named member ≡ 0) → OpeningFacts classes lines j Opened v read
  at_once none = record {
    going = going;
    facts = facts;
    next = next_is;
    done = record { none = none_going v.content j.groups named numbers counts are left counted none; closed = names_none v named stable are none };
  }

  pub begun : (stage : OpeningStage) → IsFirst named counts stage → OpeningFacts classes lines j stage v read
  begun stage is = ⊎_elim
      (λ none. subst (λ (s : OpeningStage). OpeningFacts classes lines j s v read) (sym none.1) (at_once none.0))
      (λ some. subst (λ (s : OpeningStage). OpeningFacts classes lines j s v read) (sym some) at_first) is
