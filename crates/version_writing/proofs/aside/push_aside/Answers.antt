use Rattle.std.proofs.Common.{rules, ◌≡◌, ◌≢◌, ◌∙◌, sym, subst}
use Rattle.line_versions.specs.Versions.{snap_of}
use Rattle.line_versions.specs.Course.{with_entry}
use Rattle.line_moves.proofs.Runs.{on_ok}
use Rattle.version_writing.specs.Slots.{SlotTable, HoldsFile}
use Rattle.version_writing.proofs.AllHeld.{its_file, held_there, all_held, table_there, third, others_first, others_second, others_third, spends_there, all_hold}
use Rattle.version_writing.proofs.aside.push_aside.Goals as goal

pub returns-in-1-clause-versions : goal.returns-in-1-clause-versions
returns-in-1-clause-versions g c = λ t now course limit held free was.
    let at : c.args.place.file ≡ 1 = search rules in
    c.push_line.ensures.versions t now course limit (held_there (g.D.Disk.view c.args.disk.now).content course.followed limit c.args.slots.now c.args.key c.args.place 1 c.requires.place at held) free was

pub returns-in-2-clause-versions : goal.returns-in-2-clause-versions
returns-in-2-clause-versions g c = λ t now course limit held free was.
    let at : c.args.place.file ≡ 2 = search rules in
    c.push_line-in-2.ensures.versions t now course limit (held_there (g.D.Disk.view c.args.disk.now).content course.followed limit c.args.slots.now c.args.key c.args.place 2 c.requires.place at held) free was

pub returns-in_default-clause-versions : goal.returns-in_default-clause-versions
returns-in_default-clause-versions g c = λ t now course limit held free was.
    let one : c.args.place.file ≢ 1 = search rules in
    let two : c.args.place.file ≢ 2 = search rules in
    let at = third c.args.key c.args.place c.requires.place one two in
    c.push_line-in_default.ensures.versions t now course limit (held_there (g.D.Disk.view c.args.disk.now).content course.followed limit c.args.slots.now c.args.key c.args.place 3 c.requires.place at held) free was

pub returns-in_default-clause-others : goal.returns-in_default-clause-others
returns-in_default-clause-others g c = λ file is apart.
    let one : c.args.place.file ≢ 1 = search rules in
    let two : c.args.place.file ≢ 2 = search rules in
    let at = third c.args.key c.args.place c.requires.place one two in
    others_third c.args.slots.now _ file is (λ same. apart (same ∙ sym (its_file c.args.key c.args.place c.requires.place ∙ at)))

pub returns-in-1-clause-followed : goal.returns-in-1-clause-followed
returns-in-1-clause-followed g c = let v = g.D.Disk.view in let old = v c.args.disk.now in let new = v c.push_line.new.disk in
    let number = snap_of c.args.key in let chain = c.push_line.new.chain in
    let at : c.args.place.file ≡ 1 = search rules in
    let slots = record c.args.slots.now { catalog = c.push_line.new.slots } in
    on_ok _ _ c.push_line.result (λ is some t now course limit held free ended goes was.
    let its = held_there old.content course.followed limit c.args.slots.now c.args.key c.args.place 1 c.requires.place at held in
    let both = is some t now course limit its free ended goes was in (
      both.0,
      all_held old new course.followed limit c.args.slots.now slots number chain t some (c.push_line.ensures.unfollowed old.content course.followed number limit its free some).0 c.push_line.ensures.writes
          (λ f there apart. others_first c.args.slots.now c.push_line.new.slots f (λ same. apart (same ∙ sym (its_file c.args.key c.args.place c.requires.place ∙ at))))
          (subst (λ (x : SlotTable). HoldsFile new.content (with_entry number chain course.followed) number limit x) (sym (table_there slots number 1 (its_file c.args.key c.args.place c.requires.place ∙ at))) both.1) held,
    )) c.push_line.ensures.followed

pub returns-in-2-clause-followed : goal.returns-in-2-clause-followed
returns-in-2-clause-followed g c = let v = g.D.Disk.view in let old = v c.args.disk.now in let new = v c.push_line-in-2.new.disk in
    let number = snap_of c.args.key in let chain = c.push_line-in-2.new.chain in
    let at : c.args.place.file ≡ 2 = search rules in
    let slots = record c.args.slots.now { relations = c.push_line-in-2.new.slots } in
    on_ok _ _ c.push_line-in-2.result (λ is some t now course limit held free ended goes was.
    let its = held_there old.content course.followed limit c.args.slots.now c.args.key c.args.place 2 c.requires.place at held in
    let both = is some t now course limit its free ended goes was in (
      both.0,
      all_held old new course.followed limit c.args.slots.now slots number chain t some (c.push_line-in-2.ensures.unfollowed old.content course.followed number limit its free some).0 c.push_line-in-2.ensures.writes
          (λ f there apart. others_second c.args.slots.now c.push_line-in-2.new.slots f (λ same. apart (same ∙ sym (its_file c.args.key c.args.place c.requires.place ∙ at))))
          (subst (λ (x : SlotTable). HoldsFile new.content (with_entry number chain course.followed) number limit x) (sym (table_there slots number 2 (its_file c.args.key c.args.place c.requires.place ∙ at))) both.1) held,
    )) c.push_line-in-2.ensures.followed

pub returns-in_default-clause-followed : goal.returns-in_default-clause-followed
returns-in_default-clause-followed g c = let v = g.D.Disk.view in let old = v c.args.disk.now in let new = v c.push_line-in_default.new.disk in
    let number = snap_of c.args.key in let chain = c.push_line-in_default.new.chain in
    let one : c.args.place.file ≢ 1 = search rules in
    let two : c.args.place.file ≢ 2 = search rules in
    let at = third c.args.key c.args.place c.requires.place one two in
    let slots = record c.args.slots.now { indexes = c.push_line-in_default.new.slots } in
    on_ok _ _ c.push_line-in_default.result (λ is some t now course limit held free ended goes was.
    let its = held_there old.content course.followed limit c.args.slots.now c.args.key c.args.place 3 c.requires.place at held in
    let both = is some t now course limit its free ended goes was in (
      both.0,
      all_held old new course.followed limit c.args.slots.now slots number chain t some (c.push_line-in_default.ensures.unfollowed old.content course.followed number limit its free some).0 c.push_line-in_default.ensures.writes
          (λ f there apart. others_third c.args.slots.now c.push_line-in_default.new.slots f there (λ same. apart (same ∙ sym (its_file c.args.key c.args.place c.requires.place ∙ at))))
          (subst (λ (x : SlotTable). HoldsFile new.content (with_entry number chain course.followed) number limit x) (sym (table_there slots number 3 (its_file c.args.key c.args.place c.requires.place ∙ at))) both.1) held,
    )) c.push_line-in_default.ensures.followed

pub returns-in-1-clause-spends : goal.returns-in-1-clause-spends
returns-in-1-clause-spends g c =
    let at : c.args.place.file ≡ 1 = search rules in
    spends_there c.args.slots.now (record c.args.slots.now { catalog = c.push_line.new.slots }) c.args.key c.args.place 1 c.requires.place at c.push_line.ensures.spends

pub returns-in-1-clause-unfollowed : goal.returns-in-1-clause-unfollowed
returns-in-1-clause-unfollowed g c = λ image followed limit held free some.
    let at : c.args.place.file ≡ 1 = search rules in
    c.push_line.ensures.unfollowed image followed (snap_of c.args.key) limit (held_there image followed limit c.args.slots.now c.args.key c.args.place 1 c.requires.place at held) free some

pub returns-in-1-clause-holds : goal.returns-in-1-clause-holds
returns-in-1-clause-holds g c = λ image followed limit held.
    let at : c.args.place.file ≡ 1 = search rules in
    let number = snap_of c.args.key in
    let slots = record c.args.slots.now { catalog = c.push_line.new.slots } in
    let names = its_file c.args.key c.args.place c.requires.place in
    all_hold image followed limit c.args.slots.now slots number
    (λ f there apart. others_first c.args.slots.now c.push_line.new.slots f (λ same. apart (same ∙ sym (names ∙ at))))
    (subst (λ (x : SlotTable). HoldsFile image followed number limit x) (sym (table_there slots number 1 (names ∙ at)))
    (c.push_line.ensures.holds image followed number limit (held_there image followed limit c.args.slots.now c.args.key c.args.place 1 c.requires.place at held))) held

pub returns-in-2-clause-spends : goal.returns-in-2-clause-spends
returns-in-2-clause-spends g c =
    let at : c.args.place.file ≡ 2 = search rules in
    spends_there c.args.slots.now (record c.args.slots.now { relations = c.push_line-in-2.new.slots }) c.args.key c.args.place 2 c.requires.place at c.push_line-in-2.ensures.spends

pub returns-in-2-clause-unfollowed : goal.returns-in-2-clause-unfollowed
returns-in-2-clause-unfollowed g c = λ image followed limit held free some.
    let at : c.args.place.file ≡ 2 = search rules in
    c.push_line-in-2.ensures.unfollowed image followed (snap_of c.args.key) limit (held_there image followed limit c.args.slots.now c.args.key c.args.place 2 c.requires.place at held) free some

pub returns-in-2-clause-holds : goal.returns-in-2-clause-holds
returns-in-2-clause-holds g c = λ image followed limit held.
    let at : c.args.place.file ≡ 2 = search rules in
    let number = snap_of c.args.key in
    let slots = record c.args.slots.now { relations = c.push_line-in-2.new.slots } in
    let names = its_file c.args.key c.args.place c.requires.place in
    all_hold image followed limit c.args.slots.now slots number
    (λ f there apart. others_second c.args.slots.now c.push_line-in-2.new.slots f (λ same. apart (same ∙ sym (names ∙ at))))
    (subst (λ (x : SlotTable). HoldsFile image followed number limit x) (sym (table_there slots number 2 (names ∙ at)))
    (c.push_line-in-2.ensures.holds image followed number limit (held_there image followed limit c.args.slots.now c.args.key c.args.place 2 c.requires.place at held))) held

pub returns-in_default-clause-spends : goal.returns-in_default-clause-spends
returns-in_default-clause-spends g c =
    let one : c.args.place.file ≢ 1 = search rules in
    let two : c.args.place.file ≢ 2 = search rules in
    let at = third c.args.key c.args.place c.requires.place one two in
    spends_there c.args.slots.now (record c.args.slots.now { indexes = c.push_line-in_default.new.slots }) c.args.key c.args.place 3 c.requires.place at c.push_line-in_default.ensures.spends

pub returns-in_default-clause-unfollowed : goal.returns-in_default-clause-unfollowed
returns-in_default-clause-unfollowed g c = λ image followed limit held free some.
    let one : c.args.place.file ≢ 1 = search rules in
    let two : c.args.place.file ≢ 2 = search rules in
    let at = third c.args.key c.args.place c.requires.place one two in
    c.push_line-in_default.ensures.unfollowed image followed (snap_of c.args.key) limit (held_there image followed limit c.args.slots.now c.args.key c.args.place 3 c.requires.place at held) free some

pub returns-in_default-clause-holds : goal.returns-in_default-clause-holds
returns-in_default-clause-holds g c = λ image followed limit held.
    let one : c.args.place.file ≢ 1 = search rules in
    let two : c.args.place.file ≢ 2 = search rules in
    let at = third c.args.key c.args.place c.requires.place one two in
    let number = snap_of c.args.key in
    let slots = record c.args.slots.now { indexes = c.push_line-in_default.new.slots } in
    let names = its_file c.args.key c.args.place c.requires.place in
    all_hold image followed limit c.args.slots.now slots number
    (λ f there apart. others_third c.args.slots.now c.push_line-in_default.new.slots f there (λ same. apart (same ∙ sym (names ∙ at))))
    (subst (λ (x : SlotTable). HoldsFile image followed number limit x) (sym (table_there slots number 3 (names ∙ at)))
    (c.push_line-in_default.ensures.holds image followed number limit (held_there image followed limit c.args.slots.now c.args.key c.args.place 3 c.requires.place at held))) held
