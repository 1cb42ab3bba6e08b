use Rattle.std.proofs.Common.{rules, ◌≡◌, Bool, false, IsTrue, subst}
use Rattle.rdb_outside.specs.Runs.{no_calls}
use Rattle.area_files.specs.Areas.{IsSpacePage}
use Rattle.line_opening.proofs.of_line_moves.Runs.{on_ok}
use Rattle.line_opening.proofs.Counted.{if_ok}
use Rattle.database_opening.proofs.owners.next_owner.Goals as goal

not_both : (b : Bool) → IsTrue b → b ≡ false → ⊥
not_both b yes_is no_is = let bad : IsTrue false = subst (λ (x : Bool). IsTrue x) no_is yes_is in cc

pub owner-requires-clause-page : goal.owner-requires-clause-page
owner-requires-clause-page g c = record { is_page = c.requires.page; plain = λ space. not_both c.is_space_page.result (c.is_space_page.ensures.1 space) (search rules) }

pub returns-then-is_space_page-clause-owner : goal.returns-then-is_space_page-clause-owner
returns-then-is_space_page-clause-owner g c =
    let space : IsSpacePage c.args.page = c.is_space_page.ensures.0 (search rules) in
    if_ok _ _ c.read_space.result (λ owner is plain. absurd (plain.plain space)) c.read_space.ensures.none

pub returns-then-is_space_page-clause-same : goal.returns-then-is_space_page-clause-same
returns-then-is_space_page-clause-same g c = let space : IsSpacePage c.args.page = c.is_space_page.ensures.0 (search rules) in λ plain. absurd (plain.plain space)

pub returns-then-is_space_page-clause-read : goal.returns-then-is_space_page-clause-read
returns-then-is_space_page-clause-read g c = on_ok _ _ c.read_space.result (λ here t space. here t) c.read_space.ensures.read

pub returns-then-is_space_page-clause-bad : goal.returns-then-is_space_page-clause-bad
returns-then-is_space_page-clause-bad g c =
    let space : IsSpacePage c.args.page = c.is_space_page.ensures.0 (search rules) in
    λ f slot is t all. c.read_space.ensures.bad f slot is t (all space)

pub returns-clause-reads : goal.returns-clause-reads
returns-clause-reads g c = no_calls (g.D.Disk.view c.args.disk.now)

pub returns-clause-read : goal.returns-clause-read
returns-clause-read g c = λ t space. absurd (not_both c.is_space_page.result (c.is_space_page.ensures.1 space) (search rules))
