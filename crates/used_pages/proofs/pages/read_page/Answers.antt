use Rattle.std.specs.Prelude.{IfSome}
use Rattle.std.proofs.Common.{rules, ◌≡◌, ◌∙◌, ⊎_elim, Option, List, ℕ, sym, subst}
use Rattle.rdb_page.specs.declared.head.Head.{Head}
use Rattle.rdb_page.specs.Page.{IsUnused, StandsAs}
use Rattle.line_moves.proofs.Runs.{reads_once}
use Rattle.used_pages.specs.Pages.{IsPlaced, bytes_at}
use Rattle.used_pages.proofs.Oks.{on_both}
use Rattle.used_pages.proofs.Used.{used_next, unused_there, head_there}
use Rattle.line_moves.proofs.Runs.{on_ok}
use Rattle.used_pages.proofs.pages.read_page.Goals as goal

pub returns-in-Ok-None-clause-used : goal.returns-in-Ok-None-clause-used
returns-in-Ok-None-clause-used g c = let old = g.D.Disk.view c.args.disk.now in λ t was.
    let there : c.read.new.into ≡ bytes_at old.content c.args.file c.args.number = c.in_ok-read.ensures.bytes t ∙ (λ i. old.content (c.area_file.ensures i) (c.slot_of.ensures i)) in
    let unused : IsUnused c.read.new.into = c.read_head.ensures.unused.0 (first_of (cc, search rules)) in
    used_next old.content c.args.file c.args.number c.args.pages.now c.args.pages.now (λ other is. is)
    (unused_there old.content c.args.file c.args.number c.args.pages.now (subst IsUnused there unused)) was

pub returns-in-Ok-Some-clause-used : goal.returns-in-Ok-Some-clause-used
returns-in-Ok-Some-clause-used g c = let old = g.D.Disk.view c.args.disk.now in
    let stands : StandsAs c.read.new.into c.args.file c.args.number c.in-Ok-Some.head = subst (λ (o : Option Head). IfSome o (StandsAs c.read.new.into c.args.file c.args.number)) c.in-Ok-Some.field-0-is c.in-Ok-Some.ensures.found in
    on_both _ _ _ c.add_page.result (λ added kept t was.
    let there : c.read.new.into ≡ bytes_at old.content c.args.file c.args.number = c.in_ok-read.ensures.bytes t ∙ (λ i. old.content (c.area_file.ensures i) (c.slot_of.ensures i)) in
    used_next old.content c.args.file c.args.number c.args.pages.now c.add_page.new.pages kept
    (head_there old.content c.args.file c.args.number c.add_page.new.pages c.in-Ok-Some.head (subst (λ (bytes : List ℕ). StandsAs bytes c.args.file c.args.number c.in-Ok-Some.head) there stands) added) was)
    c.add_page.ensures.added c.add_page.ensures.kept

pub returns-in-Ok-Some-clause-placed : goal.returns-in-Ok-Some-clause-placed
returns-in-Ok-Some-clause-placed g c =
    let stands : StandsAs c.read.new.into c.args.file c.args.number c.in-Ok-Some.head = subst (λ (o : Option Head). IfSome o (StandsAs c.read.new.into c.args.file c.args.number)) c.in-Ok-Some.field-0-is c.in-Ok-Some.ensures.found in
    let new_one : IsPlaced (record { area = c.in-Ok-Some.head.owner; page = c.args.number }) = record { file = c.args.file; owner = stands.owner; is_data = c.requires } in
    on_ok _ _ c.add_page.result (λ only placed page is. ⊎_elim (λ was. placed page was) (λ same. subst IsPlaced (sym same) new_one) (only page is)) c.add_page.ensures.only

pub returns-in-Ok-Some-clause-reads : goal.returns-in-Ok-Some-clause-reads
returns-in-Ok-Some-clause-reads g c = let v = g.D.Disk.view in reads_once (v c.args.disk.now) (v c.read.new.self) c.read.result c.read.ensures.counts c.read.ensures.kept
